use Rattle.std.proofs.Common.{inl, inr}
use Rattle.tx_transfer.proofs.Steps.{refused_as}
use Rattle.tx_transfer.proofs.seeds.commit.Goals as goal

pub returns-in_err-prewrite-clause-commits : goal.returns-in_err-prewrite-clause-commits
returns-in_err-prewrite-clause-commits g c = inl (
  c.in_err-prewrite.field-0.0,
  refused_as c.from_residual.result c.in_err-prewrite.field-0.0
      c.from_residual.ensures.1,
  c.in_err-prewrite.ensures.sends,
)

pub returns-in_err-prewrite-clause-keeps : goal.returns-in_err-prewrite-clause-keeps
returns-in_err-prewrite-clause-keeps g c = c.prewrite.ensures.keeps

pub returns-in_err-draw-clause-commits : goal.returns-in_err-draw-clause-commits
returns-in_err-draw-clause-commits g c =
    inr (
      _,
      c.in_ok-prewrite.ensures.sends,
      inl (
        c.in_err-draw.field-0.0,
        refused_as c.from_residual-in_err-draw.result c.in_err-draw.field-0.0
            c.from_residual-in_err-draw.ensures.1,
        c.in_err-draw.ensures.draws,
      ),
    )

pub returns-in_err-draw-clause-keeps : goal.returns-in_err-draw-clause-keeps
returns-in_err-draw-clause-keeps g c =
    λ key value just. c.draw.ensures.put key value (c.prewrite.ensures.keeps key value just)

pub returns-clause-commits : goal.returns-clause-commits
returns-clause-commits g c =
    inr (_, c.in_ok-prewrite.ensures.sends, inr (_, c.in_ok-draw.ensures.draws, c.send_commit.ensures.commits))

pub returns-clause-keeps : goal.returns-clause-keeps
returns-clause-keeps g c = λ key value just.
    c.send_commit.ensures.keeps key value (c.draw.ensures.put key value (c.prewrite.ensures.keeps key value just))
