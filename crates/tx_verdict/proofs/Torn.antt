-- What stands round a value that was seen.
use Rattle.std.proofs.Common.{◌≡◌, ℕ, ◌+◌, ◌-◌, ◌<◌, ◌≤◌, true, false, List, [], ◌++◌, length, drop, get_or, arith, inl, inr, refl, sym, ap, ◌∙◌, subst, Option, Some, None}
use Rattle.std.proofs.lemmas.Bool.{cases_Bool}
use Rattle.std.proofs.lemmas.List.{get_or_append_left, get_or-append_right, length-append, append_assoc, drop_at}
use Rattle.tx_recording.specs.declared.recording.Recording.{Recording}
use Rattle.tx_recording.specs.Recordings.{list_of, ops_of}
use Rattle.tx_recording.specs.Explanations.{after, Sees}
use Rattle.tx_views.specs.declared.owner.Owner.{Owner}
use Rattle.tx_views.specs.declared.view.RecordedView.{RecordedView}
use Rattle.tx_views.specs.declared.effect.Effect.{Effect}
use Rattle.tx_views.specs.Owners.{AreOwners, owner_at}
use Rattle.tx_views.specs.Views.{Saw, IsViewOf, IsEffect, left_by}
use Rattle.tx_views.proofs.ReadViews.{appended, cleared}
use Rattle.tx_views.proofs.ValueOwners.{put_once}
use Rattle.tx_verdict.specs.declared.verdict.Rule.TheVariants.{G1b, Duplicate, IncompatibleOrder}
use Rattle.tx_verdict.specs.Facts.{IsTorn, IsTornBy, IsDistinct, HoldsList}
use Rattle.tx_verdict.specs.Verdicts.{IsWrong}
use Rattle.tx_verdict.proofs.Distinct.{after_distinct, none_distinct, seen_distinct}
use Rattle.tx_verdict.proofs.Reasons.{once_each}
use Rattle.tx_verdict.proofs.Views.{view_sees, owner_puts}
use Rattle.tx_verdict.proofs.Prefixes.{agree}
use Rattle.tx_verdict.proofs.Whole.{is_whole}

-- what one transaction leaves has each value once
pub own_distinct : (r : Recording) (table : List (Option Owner)) → AreOwners r table → (u k : ℕ) (f : Effect)
    → IsEffect (ops_of r u) k f
    → IsDistinct f.values.items
own_distinct r table owners u k f effect =
    let left : after (ops_of r u) k [] ≡ f.values.items = elim (cases_Bool f.clears) [
      | inl clears ↦ effect [] ∙ cleared f [] clears
      | inr keeps ↦ effect [] ∙ appended f [] keeps
    ] in
    subst IsDistinct left (after_distinct (ops_of r u) k [] none_distinct (once_each r table owners u)
    (λ v there. absurd (let lt = there.1 in omega (arith, lt))))

-- a list that does not begin with what is left in place of all
pub torn_cleared : (xs : List ℕ) (f : Effect) (i : ℕ) → f.clears ≡ true
    → ((rest : List ℕ) → xs ≡ f.values.items ++ rest → ⊥) → IsTornBy xs f i
torn_cleared xs f i clears none front rest is low lt = none rest (is ∙ ap (λ q. q ++ rest) (cleared f front clears))

-- where the value is in what was left
within_own : (xs : List ℕ) (f : Effect) (i : ℕ) (front rest : List ℕ) → f.clears ≡ false → xs ≡ left_by f front ++ rest
    → length front ≤ i
    → i < length (left_by f front) → (i - length front < length f.values.items)
    × (get_or f.values.items (i - length front) 0 ≡ get_or xs i 0)
within_own xs f i front rest keeps is low lt =
    let own = f.values.items in
    let left = appended f front keeps in
    let n = ap length left in
    let m = length-append front own in
    let at : get_or xs i 0 ≡ get_or own (i - length front) 0 = ap (λ q. get_or q i 0) is
    ∙ get_or_append_left (left_by f front) rest 0 i lt ∙ ap (λ q. get_or q i 0) left
    ∙ get_or-append_right front own (length front) i 0 refl low in
    (omega (arith, n, m, lt, low), sym at)

-- none of the values that were left is the value
pub torn_other : (xs : List ℕ) (f : Effect) (i : ℕ) → f.clears ≡ false
    → ((j : ℕ) → j < length f.values.items → get_or f.values.items j 0 ≡ get_or xs i 0 → ⊥) → IsTornBy xs f i
torn_other xs f i keeps none front rest is low lt =
    let (below, at) = within_own xs f i front rest keeps is low lt in none (i - length front) below at

-- the value is the one at j of those that were left
module _ (xs : List ℕ) (f : Effect) (i j : ℕ) (keeps : f.clears ≡ false) (distinct : IsDistinct f.values.items)
    (within : j < length f.values.items) (there : get_or f.values.items j 0 ≡ get_or xs i 0) where
  place_is : (front rest : List ℕ) → xs ≡ left_by f front ++ rest → length front ≤ i → i < length (left_by f front)
      → length front + j ≡ i
  place_is front rest is low lt =
      let (below, at) = within_own xs f i front rest keeps is low lt in
      let same = distinct (i - length front) j below within (at ∙ sym there) in
      omega (arith, same, low)

  pub torn_early : i < j → IsTornBy xs f i
  torn_early early front rest is low lt = (let at = place_is front rest is low lt in omega (arith, at, early))

  pub torn_at : ((rest : List ℕ) → drop (i - j) xs ≡ f.values.items ++ rest → ⊥) → IsTornBy xs f i
  torn_at none front rest is low lt =
      let at = place_is front rest is low lt in
      let own = f.values.items in
      let whole : xs ≡ front ++ (own ++ rest) = is ∙ ap (λ q. q ++ rest) (appended f front keeps)
      ∙ append_assoc front own rest in
      let n : length front ≡ i - j = omega (arith, at) in
      none rest (ap (λ q. drop (i - j) q) whole ∙ drop_at front (own ++ rest) (i - j) n)

-- by an effect, by the operations
pub torn_by : (r : Recording) (u k : ℕ) (f : Effect) (xs : List ℕ) (i : ℕ) → IsEffect (ops_of r u) k f → IsTornBy xs f i
    → IsTorn r u k xs i
torn_by r u k f xs i effect torn front rest is low lt =
    let e = effect front in
    torn front rest (is ∙ ap (λ q. q ++ rest) e) low (subst (λ q. i < length q) e lt)

pub fact_torn : (r : Recording) (table : List (Option Owner)) → AreOwners r table → (v : RecordedView) → IsViewOf r v
    → (list : List ℕ)
    → list ≡ list_of r v.span → (i : ℕ) → i < length list → (o : Owner) → owner_at table (get_or list i 0) ≡ Some o
    → (f : Effect) → IsEffect (ops_of r o.txn) v.key f → IsTornBy list f i
    → IsWrong r record { rule = G1b; txn = v.txn; key = v.key; value = Some (get_or list i 0); by = Some o.txn }
fact_torn r table owners v view list is i lt o at f effect torn_list =
    let torn = torn_by r o.txn v.key f list i effect torn_list in
    let put = owner_puts r table owners (get_or list i 0) o at in
    let P : List ℕ → Type 0 = λ q. Saw r v.txn v.key q in (
      (list, i, subst P (sym is) view.1, lt, refl, put, torn),
      λ orders x e.
          (let Q : List ℕ → Type 0 = λ q. Sees r x v.key (x.start v.txn) q in
          let sees = subst Q (sym is) (view_sees r orders x e v view) in
          let (front, rest, parts, low, below) =
          is_whole r orders x e (put_once r table owners) v.key o.txn (get_or list i 0) put.0 put.1
          (x.start v.txn) i list sees lt refl in
          torn front rest parts low below),
    )

pub fact_twice : (r : Recording) (table : List (Option Owner)) → AreOwners r table → (v : RecordedView) → IsViewOf r v
    → (list : List ℕ)
    → list ≡ list_of r v.span → (i j : ℕ) → i < j → j < length list → get_or list i 0 ≡ get_or list j 0
    → IsWrong r record { rule = Duplicate; txn = v.txn; key = v.key; value = Some (get_or list j 0); by = None }
fact_twice r table owners v view list is i j lt within same =
    let P : List ℕ → Type 0 = λ q. Saw r v.txn v.key q in (
      (list, i, j, subst P (sym is) view.1, lt, within, same, refl),
      λ orders x e.
          (let Q : List ℕ → Type 0 = λ q. Sees r x v.key (x.start v.txn) q in
          let sees = subst Q (sym is) (view_sees r orders x e v view) in
          let at = seen_distinct r orders x e (put_once r table owners) (once_each r table owners) v.key
          (x.start v.txn) list sees i j
          (omega (arith, lt, within)) within same in
          omega (arith, at, lt)),
    )

pub fact_orders : (r : Recording) (v w : RecordedView) → HoldsList r v.key → IsViewOf r v → IsViewOf r w → v.key ≡ w.key
    → (xs ys : List ℕ)
    → xs ≡ list_of r v.span → ys ≡ list_of r w.span → (i : ℕ) → i < length xs → i < length ys
    → (get_or xs i 0 ≡ get_or ys i 0 → ⊥)
    → IsWrong r record {
      rule = IncompatibleOrder;
      txn = v.txn;
      key = v.key;
      value = Some (get_or xs i 0);
      by = Some w.txn;
    }
fact_orders r v w holds a b same_key xs ys xs_are ys_are i lt also ne =
    let P : List ℕ → Type 0 = λ q. Saw r v.txn v.key q in
    let P' : List ℕ → Type 0 = λ q. Saw r w.txn w.key q in
    let R : ℕ → Type 0 = λ k. Saw r w.txn k ys in (
      (
        xs,
        ys,
        i,
        subst P (sym xs_are) a.1,
        subst R (sym same_key) (subst P' (sym ys_are) b.1),
        lt,
        also,
        refl,
        λ q. ne (sym q),
      ),
      λ orders x e.
          (let Q : List ℕ → Type 0 = λ q. Sees r x v.key (x.start v.txn) q in
          let Q' : List ℕ → Type 0 = λ q. Sees r x w.key (x.start w.txn) q in
          let S : ℕ → Type 0 = λ k. Sees r x k (x.start w.txn) ys in
          let one = subst Q (sym xs_are) (view_sees r orders x e v a) in
          let other = subst S (sym same_key) (subst Q' (sym ys_are) (view_sees r orders x e w b)) in
          ne (agree r orders x e v.key holds (x.start v.txn) (x.start w.txn) i xs ys one other lt also)),
    )
