-- Each change of a plan but `Nothing` changes the cells.
use Rattle.std.proofs.Common.{◌≡◌, ◌≢◌, ℕ, ◌==◌, inl, inr, true, false, cond, Option, Some, None, refl, sym, ap, ◌∙◌, arith}
use Rattle.tx_plan.specs.declared.body.Prewrite.{Prewrite}
use Rattle.tx_plan.specs.declared.key_change.KeyChange.{KeyChange}
use Rattle.tx_plan.specs.declared.key_change.KeyChange.TheVariants as change
use Rattle.tx_plan.specs.declared.key_change.Left.{Left}
use Rattle.tx_plan.specs.declared.key_change.Left.TheVariants as left
use Rattle.tx_plan.specs.declared.key_change.NewLock.{NewLock}
use Rattle.tx_plan.specs.Cells.{Lock, Write, CommitOf, Rollback, Writes, Cells, with_write}
use Rattle.tx_plan.specs.Changes.{changed, mark, after_left, Applies, after_put, CanPut}
use Rattle.tx_plan.specs.RealChanges.{LeavesNew, Makes}
use Rattle.tx_core.proofs.evolution.Keys.{nat_test}

new_left : (write : Writes) (t : ℕ) (how : Left) → LeavesNew write t how → write ≢ after_left write t how
new_left write t left.Already is same = absurd is
new_left write t left.Record is same =
    let here : with_write write t Rollback t ≡ Some Rollback =
    elim (nat_test t t) [ inl e ↦ rw e.0 refl | inr e ↦ absurd (e.1 refl) ] in
    is (ap (λ (w : Writes). w t) same ∙ here)
new_left write t left.Mark is same =
    let here : cond (t == t) (mark (write t)) (write t) ≡ mark (write t) =
    elim (nat_test t t) [ inl e ↦ rw e.0 refl | inr e ↦ absurd (e.1 refl) ] in
    let made : mark (write t) ≡ mark (Some (CommitOf is.rec)) = ap mark is.others.stands in
    let both : Some (CommitOf is.rec) ≡ mark (Some (CommitOf is.rec)) =
    sym is.others.stands ∙ (ap (λ (w : Writes). w t) same ∙ here ∙ made) in
    let flags : is.rec.overlapped_rollback ≡ true =
    ap (λ (o : Option Write). elim o [
      | None ↦ true
      | Some w ↦ elim w [ CommitOf r ↦ r.overlapped_rollback | Rollback ↦ true ]
    ]) both in
    cc (flags, is.unmarked)

pub makes_other : (cells : Cells) (c : KeyChange) → Applies cells c → Makes cells c → c ≢ change.Nothing
    → cells ≢ changed cells c
makes_other cells change.Nothing may is some same = some refl
makes_other cells (change.Lock new) may is some same = absurd may
makes_other cells (change.Ttl ttl) may is some same =
    let locks = ap (λ (c : Cells). c.lock) same in
    let made : Some is.lock ≡ Some (record is.lock { ttl = ttl }) = (rw is.stands at locks) in
    (let e : is.lock.ttl ≡ ttl = ap (λ (o : Option Lock). elim o [ None ↦ 0 | Some l ↦ l.ttl ]) made in
    omega (arith, e, is.longer))
makes_other cells (change.Minimum min) may is some same =
    let locks = ap (λ (c : Cells). c.lock) same in
    let made : Some is.lock ≡ Some (record is.lock { min = min }) = (rw is.stands at locks) in
    (let e : is.lock.min ≡ min = ap (λ (o : Option Lock). elim o [ None ↦ 0 | Some l ↦ l.min ]) made in
    omega (arith, e, is.greater))
makes_other cells (change.Commit c overlapped) may is some same =
    let locks = ap (λ (c : Cells). c.lock) same in
    let made : Some may.lock ≡ None = (rw may.stands at locks) in
    cc made
makes_other cells (change.RollBack t true how) may is some same =
    let locks : cells.lock ≡ None = ap (λ (c : Cells). c.lock) same in
    cc (locks, may.0.1.stands)
makes_other cells (change.RollBack t false how) may is some same =
    new_left cells.write t how is (ap (λ (c : Cells). c.write) same)

-- so does a lock that is put
pub puts_other : (cells : Cells) (b : Prewrite) (new : NewLock) → CanPut cells b new
    → cells ≢ after_put cells b (Some new)
puts_other cells b new can same = (let locks = ap (λ (c : Cells). c.lock) same in cc (can.free, locks))
