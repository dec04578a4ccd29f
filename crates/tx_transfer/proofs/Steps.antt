-- A session's steps, from what its calls say.
use Rattle.std.proofs.Common.{◌≡◌, ◌⊎◌, inl, inr, ◌<◌, false, true, List, Some, Result, Ok, Err, OnOk, OnErr, IfErr, refl, sym, ap, subst}
use Rattle.std.specs.Result.{IsErrAnd}
use Rattle.tx_types.specs.declared.key.Key.{Key}
use Rattle.tx_types.specs.declared.value.Value.{Value}
use Rattle.tx_types.specs.declared.fault.Fault.{Fault}
use Rattle.tx_types.specs.declared.fault.Fault.TheVariants as fault
use Rattle.tx_transaction.specs.declared.state.Terms.{Terms}
use Rattle.tx_transaction.specs.Buffers.{buffered, is_full, not_empty, put_over, touched}
use Rattle.tx_transaction.specs.Sessions.{declaration, exceeds}
use Rattle.tx_client.specs.Calls.{RecordsDeclared, Seated, seated}
use Rattle.tx_transfer.specs.Steps.{Came, DeclaresOr, Enters, Then}

pub enters_or : (key : Key) (value : Value) (old new : Seated) (came : Came)
    → OnOk came ((is_full old.state.buffer key ≡ false) × (new ≡ seated (record old.state {
      buffer = touched old.state.buffer key (put_over (buffered old.state.buffer key) value);
    }) old.seat))
    → OnErr came (new ≡ old)
    → IfErr came (λ (e : Fault). ((e ≡ fault.OutOfMemory) × (is_full old.state.buffer key ≡ false))
    ⊎ ((e ≡ fault.TooManyKeys) × (is_full old.state.buffer key ≡ true)))
    → Enters key value old came new
enters_or key value old new (Ok u) ok same err = ok.1
enters_or key value old new (Err e) ok same err = (same, elim err [ inl a ↦ inl a.0 | inr b ↦ inr b ])

pub declares_or : (bounds : List Key) (terms : Terms) (old new : Seated) (came : Came)
    → OnOk came ((exceeds old.state.buffer terms ≡ false)
    × (new.state ≡ record old.state { declared = Some terms; placed = new.state.placed })
    × RecordsDeclared bounds old.seat (declaration old.state.start new.state.placed old.state.buffer terms) new.seat)
    → OnErr came (new ≡ old)
    → IfErr came (λ (e : Fault). ((e ≡ fault.TooManyKeys) × (exceeds old.state.buffer terms ≡ true))
    ⊎ ((e ≡ fault.OracleSpent) × (old.seat.ticks < 1) × (exceeds old.state.buffer terms ≡ false)
    × (not_empty old.state.buffer ≡ true)))
    → DeclaresOr bounds terms old came new
declares_or bounds terms old new (Ok u) ok same err = ok
declares_or bounds terms old new (Err e) ok same err = (same, elim err [ inl a ↦ inl a | inr b ↦ inr (b.0, b.1) ])

-- a step was refused, and so are all; or it was done, and then come those behind it
pub then_refused : (F G : Seated → Came → Seated → Type 0) (e : Fault) (old new : Seated) → F old (Err e) new
    → Then F G old (Err e) new
then_refused F G e old new first = inl (e, refl, first)

pub then_done : (F G : Seated → Came → Seated → Type 0) (came : Came) (old mid new : Seated) → F old (Ok tt) mid
    → G mid came new → Then F G old came new
then_done F G came old mid new first more = inr (mid, first, more)

-- what the exit of a `?` returns
pub refused_as : {T E : Type 0} (r : Result T E) (e : E) → IsErrAnd r (λ (y : E). y ≡ e) → r ≡ Err e
refused_as (Ok v) e is = absurd is
refused_as (Err y) e is = ap Err is
