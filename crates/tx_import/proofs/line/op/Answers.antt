use Rattle.std.proofs.Common.{◌≢◌, length, arith, rules}
use Rattle.std.proofs.lemmas.Bool.{ltb-true, ltb-false}
use Rattle.tx_import.proofs.Arity.{no_op}
use Rattle.tx_import.proofs.line.op.Goals.{in_default-via-then-branch-lt3, in_default-via-else-branch-lt3+else-this-lt4}
use Rattle.tx_import.proofs.line.op.Goals as goal

pub returns-in_default : goal.returns-in_default
returns-in_default c =
    let members = c.in_ok-list.field-0.now in
    elim c.in_default.branch [
      | in_default-via-then-branch-lt3 w ↦
          let a : length members ≢ 3 = omega (arith, ltb-true, ltb-false) in
          let none = no_op members a in search (rules, none)
      | in_default-via-else-branch-lt3+else-this-lt4 w ↦
          let a : length members ≢ 3 = omega (arith, ltb-true, ltb-false) in
          let none = no_op members a in search (rules, none)
    ]
