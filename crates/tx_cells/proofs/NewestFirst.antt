-- Lists of what is held of one key, from the newest on, as a walk down makes them.
use Rattle.std.proofs.Common.{◌≡◌, ◌↔◌, ℕ, ◌-◌, ◌^◌, ◌<◌, ◌≤◌, inl, inr, List, [], ◌∷◌, ◌++◌, Option, Some, None, refl, sym, ap, subst, ◌∙◌, arith}
use Rattle.std.specs.Prelude.{Contains, IsSome, IfSome, option_map}
use mathlib.Core.Logic.{∥∥₁_elim}
use Rattle.std.specs.Coded.{le_prop}
use Rattle.tx_types.specs.declared.value.Value.{Value}
use Rattle.tx_types.specs.declared.write.WriteRec.{WriteRec}
use Rattle.tx_plan.specs.declared.view.RecordHead.{RecordHead}
use Rattle.std.proofs.lemmas.Bool.{cases_lt}
use Rattle.std.proofs.lemmas.List.Elements.{Contains-append_left, Contains-push, Contains-push_cases}
use Rattle.tx_cells.specs.declared.copies.RecordAt.{RecordAt}
use Rattle.tx_types.specs.declared.write.WriteRec.TheVariants.{Commit}
use Rattle.tx_plan.specs.declared.view.LockHead.{LockHead}
use Rattle.tx_cells.specs.Contents.{OnKey, IsWhole}
use Rattle.tx_cells.proofs.Facts.{dated_in}
use Rattle.tx_cells.specs.Heads.{write_head, lock_head}
use Rattle.tx_cells.specs.Histories.{Records}
use Rattle.tx_cells.specs.Copies.{AreFalling, times_of}

-- ---- times that fall

abbrev pub AreAbove : ℕ → List ℕ → Type 0
AreAbove bound [] = Unit {0}
AreAbove bound (x ∷ xs) = (bound < x) × AreAbove bound xs

pub falls_push : (times : List ℕ) (t : ℕ) → AreFalling times → AreAbove t times → AreFalling (times ++ t ∷ [])
falls_push [] t fall above = tt
falls_push (x ∷ []) t fall above = (above.0, tt)
falls_push (x ∷ y ∷ times) t fall above = (fall.0, falls_push (y ∷ times) t fall.1 above.1)

pub above_push : (times : List ℕ) (bound low t : ℕ) → AreAbove bound times → low ≤ bound → low < t
    → AreAbove low (times ++ t ∷ [])
above_push [] bound low t above le lt = (lt, tt)
above_push (x ∷ times) bound low t above le lt =
    (omega (arith, above.0, le), above_push times bound low t above.1 le lt)

pub above_lower : (times : List ℕ) (bound low : ℕ) → AreAbove bound times → low ≤ bound → AreAbove low times
above_lower [] bound low above le = tt
above_lower (x ∷ times) bound low above le = (omega (arith, above.0, le), above_lower times bound low above.1 le)

pub times_push : (items : List RecordAt) (x : RecordAt) → times_of (items ++ x ∷ []) ≡ times_of items ++ x.at ∷ []
times_push [] x = refl
times_push (y ∷ items) x = ap (λ (ts : List ℕ). y.at ∷ ts) (times_push items x)

-- what is asked of a write record of these, and its timestamp
abbrev pub IsHead : Records → RecordAt → Type 0
IsHead write x = option_map write_head (write x.at) ≡ Some x.head

-- ---- what the list has

module _ {T : Type 0} (at : T → ℕ) (In : T → Type 0) where
  -- it has all above the bound, and its times fall
  pub record Down (bound : ℕ) (items : List T) (times : List ℕ) : Type 0 where
    pub falls : AreFalling times
    pub above : AreAbove bound times
    pub all : (x : T) → Contains items x ↔ (In x × (bound < at x))

  pub down_starts : (bound : ℕ) → ((x : T) → In x → at x ≤ bound) → Down bound [] []
  down_starts bound fits = record {
    falls = tt;
    above = tt;
    all = λ x. (
      (λ has. absurd (let lt = has.1 in omega (arith, lt))),
      (λ is. (let le = fits x is.0 in absurd (omega (arith, le, is.1)))),
    );
  }

  module _ (bound : ℕ) (items : List T) (times : List ℕ) (down : Down bound items times) where
    -- nothing is left
    pub down_ends : ((x : T) → In x → at x ≤ bound → ⊥) → (x : T) → Contains items x ↔ In x
    down_ends none x = (
      λ has. ((down.all x).0 has).0,
      λ is. elim (cases_lt bound (at x)) [ inl lt ↦ (down.all x).1 (is, lt) | inr le ↦ absurd (none x is le) ],
    )

    module _ (y : T) (is : In y) (upto : at y ≤ bound) (nearest : (x : T) → In x → at x ≤ bound
        → at x ≤ at y) (one : (x : T) → In x → at x ≡ at y → y ≡ x) where
      pub falls_on : AreFalling (times ++ at y ∷ [])
      falls_on = falls_push times (at y) down.falls (above_lower times bound (at y) down.above upto)

      found_now : (x : T) → In x → (at y ≤ at x) → Contains (items ++ y ∷ []) x
      found_now x has le = elim (cases_lt bound (at x)) [
        | inl lt ↦ Contains-append_left items (y ∷ []) x ((down.all x).1 (has, lt))
        | inr not_above ↦ (
            let upper = nearest x has not_above in
            let same : at x ≡ at y = omega (arith, le, upper) in
            subst (Contains (items ++ y ∷ [])) (one x has same) (Contains-push items y)
            )
      ]

      was_in : (x : T) → Contains (items ++ y ∷ []) x → In x × (at y ≤ at x)
      was_in x has = elim (Contains-push_cases items y x has) [
        | inl before ↦ (let b = (down.all x).0 before in (b.0, omega (arith, b.1, upto)))
        | inr new ↦ (subst In new is, (let same : at y ≡ at x = ap at new in omega (arith, same)))
      ]

      -- one more
      pub down_on : (low : ℕ) → low ≡ at y - 1 → 0 < at y → Down low (items ++ y ∷ []) (times ++ at y ∷ [])
      down_on low low_is positive = record {
        falls = falls_on;
        above = above_push times bound low (at y) down.above (omega (arith, low_is, upto))
            (omega (arith, low_is, positive));
        all = λ x. (
          (λ has. (let w = was_in x has in (w.0, omega (arith, w.1, low_is, positive)))),
          (λ w. found_now x w.0 (let lt = w.1 in omega (arith, lt, low_is, positive))),
        );
      }

      -- the last there can be
      pub down_last : at y ≡ 0 → (x : T) → Contains (items ++ y ∷ []) x ↔ In x
      down_last zero x = ((λ has. (was_in x has).0), (λ has. found_now x has (omega (arith, zero))))

-- ---- heads of write records

head_there : (o : Option WriteRec) (h : RecordHead) → option_map write_head o ≡ Some h → IsSome o
head_there None h e = absurd (cc e)
head_there (Some rec) h e = refl

none_head : (o : Option WriteRec) (h : RecordHead) → o ≡ None → option_map write_head o ≡ Some h → ⊥
none_head None h n e = cc e
none_head (Some rec) h n e = cc n

abbrev record_of : ℕ → RecordHead → RecordAt
record_of t h = record { at = t; head = h }

abbrev DownTo : Records → ℕ → List RecordAt → Type 0
DownTo write bound items = Down (λ (x : RecordAt). x.at) (IsHead write) bound items (times_of items)

module _ (write seen : Records) (same : seen ≡ write) (bound b : ℕ) (b_is : b ≡ bound) (items : List RecordAt)
    (down : DownTo write bound items) where
  pub heads_end : ((q : ℕ) → q ≤ b → seen q ≡ None)
      → (at : ℕ) (head : RecordHead)
      → Contains items (record_of at head) ↔ (option_map write_head (write at) ≡ Some head)
  heads_end none at head =
      down_ends (λ (x : RecordAt). x.at) (IsHead write) bound items (times_of items) down
      (λ x is le. none_head (write x.at)
      x.head (ap (λ (w : Records). w x.at) (sym same) ∙ none x.at (omega (arith, le, b_is))) is) (record_of at head)

  module _ (t : ℕ) (h : RecordHead) (found : (t ≤ b) × (option_map write_head (seen t) ≡ Some h)) (nearest : (q : ℕ)
      → q ≤ b → IsSome (seen q) → q ≤ t) where
    here : IsHead write (record_of t h)
    here = ap (λ (w : Records). option_map write_head (w t)) (sym same) ∙ found.1

    upto : t ≤ bound
    upto = (let le = found.0 in omega (arith, le, b_is))

    near : (x : RecordAt) → IsHead write x → x.at ≤ bound → x.at ≤ t
    near x is le = nearest x.at
        (omega (arith, le, b_is))
        (subst (λ (w : Records). IsSome (w x.at)) (sym same) (head_there (write x.at) x.head is))

    one : (x : RecordAt) → IsHead write x → x.at ≡ t → record_of t h ≡ x
    one x is e =
        let both : Some h ≡ Some x.head = sym here ∙ ap (λ q. option_map write_head (write q)) (sym e) ∙ is in
        let heads : h ≡ x.head = cc both in
        λ i. record_of (sym e i) (heads i)

    module _ (new : List RecordAt) (pushed : new ≡ items ++ record_of t h ∷ []) where
      times_are : times_of new ≡ times_of items ++ t ∷ []
      times_are = ap times_of pushed ∙ times_push items (record_of t h)

      pub heads_fall : AreFalling (times_of new)
      heads_fall = subst AreFalling (sym times_are)
          (falls_on (λ (x : RecordAt). x.at) (IsHead write) bound items (times_of items) down
          (record_of t h) here upto near one)

      pub heads_last : t ≡ 0 → (at : ℕ) (head : RecordHead)
          → Contains new (record_of at head) ↔ (option_map write_head (write at) ≡ Some head)
      heads_last zero at head =
          subst (λ (it : List RecordAt). Contains it (record_of at head)
          ↔ (option_map write_head (write at) ≡ Some head)) (sym pushed)
          (down_last (λ (x : RecordAt). x.at)
          (IsHead write) bound items (times_of items) down (record_of t h) here upto near one zero
          (record_of at head))

      pub heads_on : (low : ℕ) → low ≡ t - 1 → 0 < t → DownTo write low new
      heads_on low low_is positive =
          let on = down_on (λ (x : RecordAt). x.at)
          (IsHead write) bound items (times_of items) down (record_of t h) here upto near one low low_is positive in
          subst (λ (it : List RecordAt). DownTo write low it) (sym pushed)
          (subst (λ ts. Down (λ (x : RecordAt). x.at) (IsHead write) low (items ++ record_of t h ∷ []) ts)
          (sym (times_push items (record_of t h))) on)

-- ---- starts of values

module _ (Has : ℕ → Type 0) (bound b : ℕ) (b_is : b ≡ bound) (items : List ℕ)
    (down : Down (λ (t : ℕ). t) Has bound items items) where
  pub starts_end : ((q : ℕ) → Has q → q ≤ b → ⊥) → (t : ℕ) → Contains items t ↔ Has t
  starts_end none t = down_ends (λ (q : ℕ). q) Has bound items items down
      (λ q has le. none q has (omega (arith, le, b_is))) t

  module _ (t : ℕ) (found : (t ≤ b) × Has t) (nearest : (q : ℕ) → Has q → q ≤ b
      → q ≤ t) (new : List ℕ) (pushed : new ≡ items ++ t ∷ []) where
    start_upto : t ≤ bound
    start_upto = (let le = found.0 in omega (arith, le, b_is))

    start_near : (q : ℕ) → Has q → q ≤ bound → q ≤ t
    start_near q has le = nearest q has (omega (arith, le, b_is))

    start_one : (q : ℕ) → Has q → q ≡ t → t ≡ q
    start_one q has e = sym e

    pub starts_fall : AreFalling new
    starts_fall = subst AreFalling (sym pushed)
        (falls_on (λ (q : ℕ). q) Has bound items items down t found.1 start_upto start_near start_one)

    pub starts_last : t ≡ 0 → (q : ℕ) → Contains new q ↔ Has q
    starts_last zero q = subst (λ (it : List ℕ). Contains it q ↔ Has q)
        (sym pushed) (down_last (λ (q : ℕ). q) Has bound items items down t found.1 start_upto start_near start_one zero
        q)

    pub starts_on : (low : ℕ) → low ≡ t - 1 → 0 < t → Down (λ (q : ℕ). q) Has low new new
    starts_on low low_is positive =
        subst (λ (it : List ℕ). Down (λ (q : ℕ). q) Has low it it) (sym pushed)
        (down_on (λ (q : ℕ). q) Has bound items items down t found.1 start_upto start_near start_one low low_is
        positive)

-- values of a key, by their starts
abbrev pub HasStart : (List ℕ × ℕ → Option Value) → List ℕ → ℕ → Type 0
HasStart values key t = (t < 2 ^ 64) × IsSome (values (key, t))

pub some_none : (o : Option Value) → IsSome o → o ≡ None → ⊥
some_none None s e = cc s
some_none (Some v) s e = cc e

-- the starts of values fit, where that of the lock does
pub starts_fit : (x : OnKey) → ∥ IsWhole x ∥₁ → (lock : Option LockHead)
    → lock ≡ option_map lock_head x.lock → IfSome lock (λ (head : LockHead). head.start < 2 ^ 64) → (t : ℕ)
    → IsSome (x.value t) → t < 2 ^ 64
starts_fit x whole lock is fits t some =
    ∥∥₁_elim whole le_prop (λ w. elim (w.value_kept t (λ none. some_none (x.value t) some none)) [
      | inl k ↦ (
          let head : lock ≡ Some (lock_head k.rec) = is ∙ ap (option_map lock_head) k.found in
          let lt = subst (λ (o : Option LockHead). IfSome o (λ (head : LockHead). head.start < 2 ^ 64)) head fits in
          let of = k.of in
          omega (arith, lt, of)
          )
      | inr k ↦ (
          let below = dated_in x w k.at k.rec k.found in
          let top = w.write_fits k.at (Commit k.rec) k.found in
          let of = k.of in
          omega (arith, below, top, of)
          )
    ])
