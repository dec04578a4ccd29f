use Rattle.std.proofs.Common.{◌≢◌, length, arith, rules}
use Rattle.std.proofs.lemmas.Bool.{ltb-true, ltb-false}
use Rattle.tx_check.proofs.Arity.{no_change}
use Rattle.tx_check.proofs.machine_step.change.Goals.{in_default-via-then-branch-lt2, in_default-via-else-branch-lt2+else-this-lt3+else-this-lt4}
use Rattle.tx_check.proofs.machine_step.change.Goals as goal

pub returns-in_default : goal.returns-in_default
returns-in_default c =
    let members = c.in_ok-list.field-0.now in
    elim c.in_default.branch [
      | in_default-via-then-branch-lt2 w ↦
          let a : length members ≢ 2 = omega (arith, ltb-true, ltb-false) in
          let b : length members ≢ 3 = omega (arith, ltb-true, ltb-false) in
          let none = no_change members a b in search (rules, none)
      | in_default-via-else-branch-lt2+else-this-lt3+else-this-lt4 w ↦
          let a : length members ≢ 2 = omega (arith, ltb-true, ltb-false) in
          let b : length members ≢ 3 = omega (arith, ltb-true, ltb-false) in
          let none = no_change members a b in search (rules, none)
    ]
