use Rattle.std.proofs.Common.{◌≢◌, length, arith, rules}
use Rattle.std.proofs.lemmas.Bool.{ltb-true, ltb-false}
use Rattle.tx_check.proofs.Arity.{no_row}
use Rattle.tx_check.proofs.machine_step.row.Goals.{in_default-via-then-branch-lt2, in_default-via-else-branch-lt2+else-this-lt3}
use Rattle.tx_check.proofs.machine_step.row.Goals as goal

pub returns-in_default : goal.returns-in_default
returns-in_default c =
    let members = c.in_ok-list.field-0.now in
    elim c.in_default.branch [
      | in_default-via-then-branch-lt2 w ↦ let a : length members ≢ 2 = omega (arith, ltb-true, ltb-false) in
          let none = no_row members a in search (rules, none)
      | in_default-via-else-branch-lt2+else-this-lt3 w ↦ let a : length members ≢ 2 =
          omega (arith, ltb-true, ltb-false) in let none = no_row members a in search (rules, none)
    ]
