-- What the facts that each key meets say of its records.
use Rattle.std.proofs.Common.{◌≡◌, ℕ, Result, Ok, Err, Option, Some, None, sym, ap, subst, ◌∙◌}
use Rattle.std.specs.Prelude.{IfOk, OnOk, OnErr}
use mathlib.Core.Logic.{∥∥₁_elim}
use Rattle.std.proofs.Math.Logic.{∥∥₁_map}
use Rattle.std.specs.Coded.{le_prop, Unit-prop}
use Rattle.tx_types.specs.declared.value.Value.{Value}
use Rattle.tx_types.specs.declared.value.StoredValue.TheVariants.{Inline, InDefault}
use Rattle.tx_types.specs.declared.mutation.StoredMutation.{StoredMutation}
use Rattle.tx_types.specs.declared.mutation.StoredMutation.TheVariants as stored
use Rattle.tx_types.specs.declared.write.CommitRec.{CommitRec}
use Rattle.tx_types.specs.declared.write.WriteRec.TheVariants.{Commit}
use Rattle.tx_cells.specs.Contents.{OnKey, cells_of, IsWhole, IsKept}
use Rattle.tx_cells.specs.Histories.{AreDated, AreFitting}
use Rattle.tx_cells.proofs.RecordCells.{stands_commit}
use Rattle.tx_plan.specs.declared.key_change.KeyChange.{KeyChange}
use Rattle.tx_plan.specs.Changes.{Applies, changed}
use Rattle.tx_cells.specs.Afterwards.{after}
use Rattle.tx_cells.proofs.CellsAfter.{LockAlone, cells_after}

pub dated_in : (x : OnKey) → IsWhole x → AreDated x.write
dated_in x w c rec e = w.sound.commit_above c _ (stands_commit x c rec e)

pub dated : (x : OnKey) → ∥ IsWhole x ∥₁ → AreDated x.write
dated x t c rec e = ∥∥₁_elim t le_prop (λ w. dated_in x w c rec e)

pub fitting : (x : OnKey) → ∥ IsWhole x ∥₁ → AreFitting x.write
fitting x t c rec e = ∥∥₁_elim t le_prop (λ w. w.write_fits c rec e)

IsKept-prop : (apart : Option Value) (m : StoredMutation) → IsProp (IsKept apart m)
IsKept-prop apart (stored.Put (Inline v)) = le_prop
IsKept-prop None (stored.Put InDefault) = λ x y. absurd x
IsKept-prop (Some v) (stored.Put InDefault) = le_prop
IsKept-prop apart stored.Delete = Unit-prop
IsKept-prop apart stored.Lock = Unit-prop

pub write_kept : (x : OnKey) → ∥ IsWhole x ∥₁ → (c : ℕ) (rec : CommitRec) → x.write c ≡ Some (Commit rec)
    → IsKept (x.value rec.start) rec.mutation
write_kept x t c rec e = ∥∥₁_elim t (IsKept-prop (x.value rec.start) rec.mutation) (λ w. w.write_kept c rec e)

-- what holds of a result's value, by what is known of it
pub if_ok : {T E : Type 0} (r : Result T E) (P Q : T → Type 0) → ((x : T) → P x → Q x) → IfOk r P → IfOk r Q
if_ok (Ok x) P Q step p = step x p
if_ok (Err e) P Q step p = tt

-- what all keys meet, one meets
pub whole_at : {K : Type 0} (on : K → OnKey) → ∥ ((key : K) → IsWhole (on key)) ∥₁ → (key : K) → ∥ IsWhole (on key) ∥₁
whole_at on t key = ∥∥₁_map t (λ w. w key)

pub lock_alone : (x : OnKey) → ∥ IsWhole x ∥₁ → LockAlone x
lock_alone x t lock c e own = ∥∥₁_elim t (λ a b. absurd a) (λ w. w.sound.uncommitted lock c e own)

-- what is held of a key after a step that keeps what it meets
pub stays_whole : (x y z : OnKey) → ∥ IsWhole x ∥₁ → (IsWhole x → IsWhole y) → z ≡ y → ∥ IsWhole z ∥₁
stays_whole x y z t step e = ∥∥₁_map t (λ w. subst IsWhole (sym e) (step w))

pub on_ok : {T E : Type 0} (r : Result T E) (P Q : Type 0) → (P → Q) → OnOk r P → OnOk r Q
on_ok (Ok x) P Q step p = step p
on_ok (Err e) P Q step p = tt

pub on_err : {T E : Type 0} (r : Result T E) (P Q : Type 0) → (P → Q) → OnErr r P → OnErr r Q
on_err (Ok x) P Q step p = tt
on_err (Err e) P Q step p = step p

-- the cells after a change that was made
pub cells_made : (x y : OnKey) (made done : KeyChange)
    → ∥ IsWhole x ∥₁ → Applies (cells_of x) made → made ≡ done → y ≡ after x done
    → cells_of y ≡ changed (cells_of x) made
cells_made x y made done whole applies is e = ap cells_of e ∙ ap (λ k. cells_of (after x k)) (sym is)
    ∙ cells_after x made (lock_alone x whole) applies
