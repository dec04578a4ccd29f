use Rattle.std.proofs.Common.{◌≡◌, Option, Some, None, refl, subst}
use Rattle.std.specs.Prelude.{IfSome}
use Rattle.tx_types.specs.declared.lock.LockInfo.{LockInfo}
use Rattle.tx_core.specs.Laws.{WasToldOf}
use Rattle.tx_client.specs.Calls.{Seated}
use Rattle.tx_client.specs.Facts.{WasMet}
use Rattle.tx_client.proofs.Locks.{met_was_told}
use Rattle.tx_client.proofs.session.Session.met_lock.Goals as goal

some_is : (P : LockInfo → Type 0) (o : Option LockInfo) → ((info : LockInfo) → o ≡ Some info → P info) → IfSome o P
some_is P None has = tt
some_is P (Some info) has = has info refl

-- what is met stood in the way
pub returns-clause-met : goal.returns-clause-met
returns-clause-met g c =
    subst (λ (z : Seated). IfSome z.state.met (λ info. WasMet z.seat.events info)) c.self.view_is
    (some_is (WasMet c.self.inside.seat.events) c.self.inside.transaction.met c.self.invariant.1.met)

-- so it was told of
pub returns-clause-told : goal.returns-clause-told
returns-clause-told g c =
    let h = c.self.inside.seat.events in
    subst (λ (z : Seated). IfSome z.state.met (λ info. WasToldOf z.seat.events info)) c.self.view_is
    (some_is (WasToldOf h) c.self.inside.transaction.met
    (λ info e. met_was_told h info (c.self.invariant.1.met info e)))
