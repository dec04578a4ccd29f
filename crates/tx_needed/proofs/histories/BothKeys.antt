-- One transaction on two keys, in two phases: both are locked, and the primary is committed at 3.
use Rattle.std.proofs.Common.{inr, [], ◌∷◌, refl, arith}
use Rattle.tx_types.specs.declared.mutation.Mutation.TheVariants.{Put}
use Rattle.tx_plan.specs.declared.answer.Answer.TheVariants as reply
use Rattle.tx_core.specs.declared.event.Declaration.{Declaration}
use Rattle.tx_core.specs.declared.event.Event.TheVariants.{Drawn}
use Rattle.tx_core.specs.Histories.{History}
use Rattle.tx_core.specs.Worlds.{IsWorldRun}
use Rattle.tx_needed.proofs.Words.{a, b, x, both, two_phase, begins, took, prewrites, commits}
use Rattle.tx_needed.proofs.Cells.{unwritten}
use Rattle.tx_needed.proofs.Tables.{comes, locks_two_phase, commits_lock}
use Rattle.tx_needed.proofs.Comes.{begins_run, on_both_keys, as_declared, decides_both}

abbrev pub two_phase_both : Declaration
two_phase_both = two_phase 1 2 both

abbrev declared : History
declared = begins 1 two_phase_both []

abbrev locked_a : History
locked_a = took (prewrites two_phase_both a) (reply.Prewritten 0) declared

abbrev pub locked_both : History
locked_both = took (prewrites two_phase_both b) (reply.Prewritten 0) locked_a

pub locked_both_run : IsWorldRun [] locked_both
locked_both_run = (
  (
    begins_run [] 1 two_phase_both (on_both_keys refl (omega arith) (omega arith)) [] tt,
    comes (locks_two_phase (as_declared declared two_phase_both a (Put x) refl refl) (unwritten refl (λ c. refl))
        (omega arith) (omega arith) refl),
  ),
  comes (locks_two_phase (as_declared locked_a two_phase_both b (Put x) refl refl) (unwritten refl (λ c. refl))
      (omega arith) (omega arith) refl),
)

abbrev drawn_3 : History
drawn_3 = Drawn 1 3 ∷ locked_both

abbrev pub primary_3 : History
primary_3 = took (commits a 1 3) (reply.Committed 3) drawn_3

pub primary_3_run : IsWorldRun [] primary_3
primary_3_run = (
  (locked_both_run, omega arith),
  comes (commits_lock _
      (inr (decides_both drawn_3 refl 3 _ refl refl (λ e. (cc (e))) refl refl (omega arith) (omega arith))) refl refl
      (omega arith) (omega arith) tt),
)
