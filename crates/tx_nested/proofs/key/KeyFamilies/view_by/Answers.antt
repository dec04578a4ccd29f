use Rattle.tx_nested.specs.Nested.{held}
use Rattle.tx_cells.proofs.Facts.{dated, fitting}
use Rattle.tx_cells.proofs.RecordCells.{shown}
use Rattle.tx_nested.proofs.key.KeyFamilies.view_by.Goals as goal

pub commits_above-own_commit-requires-clause-dated : goal.commits_above-own_commit-requires-clause-dated
commits_above-own_commit-requires-clause-dated c = dated (held c.args.self.now) c.args.self.now.whole

pub commits_above-own_commit-requires-clause-fitting : goal.commits_above-own_commit-requires-clause-fitting
commits_above-own_commit-requires-clause-fitting c = fitting (held c.args.self.now) c.args.self.now.whole

pub returns : goal.returns
returns c = shown (held c.args.self.now) c.args.start c.args.commit _ c.requires c.head_at-at_start.ensures
    c.head_at-at_commit.ensures c.commits_above-own_commit.ensures.own c.commits_above-own_commit.ensures.newest
