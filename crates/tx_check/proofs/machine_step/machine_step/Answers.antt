use Rattle.std.proofs.Common.{◌<◌, ◌≤◌, length, arith, rules}
use Rattle.std.proofs.lemmas.Bool.{ltb-true, ltb-false}
use Rattle.tx_check.proofs.Arity.{no_step}
use Rattle.tx_check.proofs.machine_step.machine_step.Goals.{in_default-via-then-members-lt2, in_default-via-else-members-lt2+else-members-lt3+else-members-lt4+else-members-lt5+then-members-lt6, in_default-via-else-members-lt2+else-members-lt3+else-members-lt4+else-members-lt5+else-members-lt6+else-members-lt7}
use Rattle.tx_check.proofs.machine_step.machine_step.Goals as goal

pub returns-in_default : goal.returns-in_default
returns-in_default c =
    let members = c.args.members.now in
    elim c.in_default.branch [
      | in_default-via-then-members-lt2 w ↦
          let short : length members < 2 = omega (arith, ltb-true, ltb-false) in
          let none = no_step members (omega arith) (omega arith) (omega arith) (omega arith) in search (rules, none)
      | in_default-via-else-members-lt2+else-members-lt3+else-members-lt4+else-members-lt5+then-members-lt6 w ↦
          let low : 5 ≤ length members = omega (arith, ltb-true, ltb-false) in
          let high : length members < 6 = omega (arith, ltb-true, ltb-false) in
          let none = no_step members (omega arith) (omega arith) (omega arith) (omega arith) in search (rules, none)
      | in_default-via-else-members-lt2+else-members-lt3+else-members-lt4+else-members-lt5+else-members-lt6+else-members-lt7 w ↦
          let long : 7 ≤ length members = omega (arith, ltb-true, ltb-false) in
          let none = no_step members (omega arith) (omega arith) (omega arith) (omega arith) in search (rules, none)
    ]
