use Rattle.std.proofs.Common.{ℕ, List, ap, subst, ◌∙◌}
use Rattle.std.specs.Prelude.{MatchOption, option_map}
use Rattle.std.specs.BTreeMap as tree
use Rattle.tx_plan.specs.declared.view.CommitAt.{CommitAt}
use Rattle.tx_spelling.specs.Spelt.{version_cmp}
use Rattle.tx_flat.specs.Flats.{flat_content}
use Rattle.tx_cells.specs.Histories.{Records, CommitsAt, CommitsAbove, IsNewest}
use Rattle.tx_cells.specs.Heads.{write_head}
use Rattle.tx_cells.proofs.Facts.{dated, fitting, whole_at}
use Rattle.tx_cells.proofs.RecordCells.{shown}
use Rattle.tx_flat.proofs.FlatCells.view_by.Goals as goal

pub commits_above-own_commit-requires-clause-dated : goal.commits_above-own_commit-requires-clause-dated
commits_above-own_commit-requires-clause-dated c =
    dated (flat_content c.args.self.now c.set_at-2.new.self.0)
    (whole_at (flat_content c.args.self.now) c.args.self.now.whole c.set_at-2.new.self.0)

pub commits_above-own_commit-requires-clause-fitting : goal.commits_above-own_commit-requires-clause-fitting
commits_above-own_commit-requires-clause-fitting c =
    fitting (flat_content c.args.self.now c.set_at-2.new.self.0)
    (whole_at (flat_content c.args.self.now) c.args.self.now.whole c.set_at-2.new.self.0)

pub returns : goal.returns
returns c =
    let flat = c.args.self.now in
    let key = c.args.version.0 in
    let at_start = c.set_at.ensures in
    let at_commit = c.set_at-2.ensures ∙ ap (λ (v : List ℕ × ℕ). (v.0, c.args.commit)) at_start in
    let records : List ℕ → Records = λ k q. tree.get version_cmp flat.writes (k, q) in
    let same = ap (λ (v : List ℕ × ℕ). records v.0) at_commit in
    shown (flat_content flat key) c.args.start c.args.commit _ c.requires
    (c.head_at-at_start.ensures
    ∙ ap (λ (v : List ℕ × ℕ). option_map write_head (tree.get version_cmp flat.writes v)) at_start)
    (c.head_at-at_commit.ensures
    ∙ ap (λ (v : List ℕ × ℕ). option_map write_head (tree.get version_cmp flat.writes v)) at_commit)
    (subst (λ (w : Records). MatchOption c.commits_above-own_commit.result.own_commit ((d : ℕ)
    → CommitsAt w c.args.start d → ⊥) (λ d. CommitsAt w c.args.start d)) same
    c.commits_above-own_commit.ensures.own)
    (subst (λ (w : Records). MatchOption c.commits_above-own_commit.result.newest (CommitsAbove w c.args.start
    → ⊥) (λ (at : CommitAt). IsNewest w c.args.start at.start at.commit)) same
    c.commits_above-own_commit.ensures.newest)
