use Rattle.std.proofs.Common.{◌≤◌, ◌+◌, ◌-◌, ◌^◌, length, subst, arith}
use Rattle.std.proofs.Math.Nat.{min-le_left}
use Rattle.std.proofs.lemmas.List.{length-append}
use Rattle.tx_transaction.proofs.Heads.{settled_behind}
use Rattle.tx_transaction.proofs.key_entries.KeyEntries.settled.Goals as goal

pub returns-clause-within : goal.returns-clause-within
returns-clause-within c =
    let few = c.self.inside.few.items in
    let more = c.self.inside.more in
    subst (λ es. c.len-few.result ≤ length es) c.self.view_is
    (omega (arith, c.len-few.ensures, length-append few more))

pub returns-clause-settled : goal.returns-clause-settled
returns-clause-settled c =
    let few = c.self.inside.few.items in
    let more = c.self.inside.more in
    settled_behind c.args.phase few more c.args.self.now c.len-few.result c.settled-keys.result c.saturating_add.result
    c.self.view_is (omega (arith, c.len-few.ensures))
    (omega (arith, c.saturating_add.ensures, min-le_left (c.len-few.result + c.settled-keys.result) (2 ^ 64 - 1)))
    c.settled-keys.ensures
