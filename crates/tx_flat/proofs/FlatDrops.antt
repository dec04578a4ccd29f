-- What is left of a key of flat maps where its values went first and then its records.
use Rattle.std.proofs.Common.{◌≡◌, ◌≢◌, inl, inr, ℕ, zero, suc, ◌+◌, ◌-◌, ◌<◌, ◌≤◌, ◌&&◌, not, Bool, true, false, cond, Option, Some, None, refl, sym, ap, subst, ◌∙◌, arith}
use Rattle.std.specs.Prelude.{◌||◌, nat_lt, option_map}
use Rattle.std.proofs.lemmas.Bool.{cases_Bool, cases_lt, not-true}
use mathlib.Core.Logic.{∥∥₁_elim}
use Rattle.std.specs.Coded.{Coded-set, coded_option, coded_list, coded_ℕ}
use Rattle.tx_types.specs.declared.value.Value.{Value}
use Rattle.tx_types.specs.declared.mutation.StoredMutation.{StoredMutation}
use Rattle.tx_types.specs.declared.mutation.StoredMutation.TheVariants as stored
use Rattle.tx_types.specs.declared.write.WriteRec.{WriteRec}
use Rattle.tx_types.specs.declared.write.WriteRec.TheVariants.{Commit}
use Rattle.tx_plan.specs.Cells.{Writes}
use Rattle.tx_types.specs.Keys.{is_visible}
use Rattle.tx_plan.specs.cases.Collect.{keeps, kept, none_above, commit_is, is_put}
use Rattle.tx_plan.proofs.Collects.{keeps_above, drops_followed}
use Rattle.tx_cells.specs.Heads.{record_kind, keeps_apart}
use Rattle.tx_cells.specs.Contents.{OnKey, cells_of, lock_of, IsWhole}
use Rattle.tx_cells.specs.Afterwards.{Collected}
use Rattle.tx_cells.specs.Drops.{GoneApart, ValuesGo}
use Rattle.tx_flat.specs.Sieves.{Outdated}
use Rattle.tx_cells.proofs.Facts.{dated}
use Rattle.tx_cells.proofs.Maps.{same_maps}
use Rattle.tx_cells.proofs.RecordCells.{stands_commit}
use Rattle.tx_cells.proofs.RecordKinds.{kind_puts, kind_seen, seen_there}
use Rattle.tx_cells.proofs.Drops.{Left, whole_left, collected_left, cells_left, stays_of}

-- where not all above is free of puts and deletes, one stands there
some_above : (write : Writes) (q n : ℕ) → none_above write q n ≡ false
    → (p : ℕ) × (q < p) × (p ≤ q + n) × (commit_is is_visible (write p) ≡ true)
some_above write q zero e = absurd (cc e)
some_above write q (suc n) e = elim (cases_Bool (commit_is is_visible (write (q + suc n)))) [
  | inl here ↦ (q + suc n, omega arith, omega arith, here)
  | inr not_here ↦ (
      let rest = some_above write q n (sym (ap (λ b. not b && none_above write q n) not_here) ∙ e) in
      let upto = rest.2 in
      (rest.0, rest.1, omega (arith, upto), rest.3)
      )
]

apart_puts : (m : StoredMutation) → keeps_apart m ≡ true
    → (record_kind (Commit (record { mutation = m; start = 0; overlapped_rollback = false }))).puts ≡ true
apart_puts (stored.Put v) e = refl
apart_puts stored.Delete e = absurd (cc e)
apart_puts stored.Lock e = absurd (cc e)

or_true : (b : Bool) → (b || true) ≡ true
or_true true = refl
or_true false = refl

flip : (b : Bool) (o : Option WriteRec) → cond b o None ≡ cond (not b) None o
flip true o = refl
flip false o = refl

value-set : (a b : Option Value) → IsProp (a ≡ b)
value-set a b = Coded-set (coded_option (coded_list coded_ℕ)) a b

module _ (x : OnKey) (safe : ℕ) where
  -- which records go
  abbrev pub goes : ℕ → Bool
  goes q = not (keeps (cells_of x).write safe q)

  outdated : ∥ IsWhole x ∥₁ → (t : ℕ) → GoneApart x.write goes t → Outdated x.write safe t
  outdated whole t g =
      let drops : keeps (cells_of x).write safe g.at ≡ false = not-true (keeps (cells_of x).write safe g.at) g.went in
      let put : commit_is is_put ((cells_of x).write g.at) ≡ true =
      sym (kind_puts x.write x.value g.at (Commit g.rec) g.found) ∙ apart_puts g.rec.mutation g.apart in
      let low : g.at < safe =
      elim (cases_lt g.at safe) [
        | inl lt ↦ lt
        | inr le ↦ (let stays = keeps_above (cells_of x).write safe g.at le in absurd (cc (stays, drops)))
      ] in
      let above = dated x whole g.at g.rec g.found in
      elim (cases_Bool (none_above (cells_of x).write g.at (safe - g.at))) [
        | inl none ↦ (
            let stays : keeps (cells_of x).write safe g.at ≡ true =
            ap (λ b. not (nat_lt g.at safe) || b && none_above (cells_of x).write g.at (safe - g.at)) put
            ∙ ap (λ b. not (nat_lt g.at safe) || b) none ∙ or_true (not (nat_lt g.at safe)) in
            absurd (cc (stays, drops))
            )
        | inr some ↦ (
            let p = some_above (cells_of x).write g.at (safe - g.at) some in
            let upto = p.2 in
            let of = g.of in
            let rec = seen_there x.write x.value p.0 p.3 in
            record {
              at = g.at;
              rec = g.rec;
              found = g.found;
              of = of;
              above = omega (arith, above, of);
              follows =
                  p.0;
              later = p.1;
              upto = omega (arith, upto, low);
              other = rec.0;
              stands = rec.1;
              seen = rec.2;
            }
            )
      ]

  outdated_goes : (t : ℕ) (o : Outdated x.write safe t) → goes o.at ≡ true
  outdated_goes t o =
      let later = o.later in
      let upto = o.upto in
      ap not (drops_followed (cells_of x).write safe o.at (omega (arith, later, upto))
      (record {
        at = o.follows;
        from = omega (arith, later);
        upto = upto;
        visible =
            sym (kind_seen x.write x.value o.follows o.other o.stands) ∙ o.seen;
      }))

  -- where there is a value, its record goes
  outdated_apart : IsWhole x → (t : ℕ) → x.value t ≢ None → Outdated x.write safe t → GoneApart x.write goes t
  outdated_apart w t some o = elim (w.value_kept t some) [
    | inl k ↦ absurd (w.sound.uncommitted (lock_of x.value k.rec) o.at (ap (option_map (lock_of x.value)) k.found)
        (record { rec = _; stands = stands_commit x o.at o.rec o.found; own = o.of ∙ sym k.of }))
    | inr k ↦ (
        let one = w.sound.once t o.at k.at (record { rec = _; stands = stands_commit x o.at o.rec o.found; own = o.of })
        (record { rec = _; stands = stands_commit x k.at k.rec k.found; own = k.of }) in
        record {
          at = k.at;
          rec = k.rec;
          found = k.found;
          went = sym (ap goes one) ∙ outdated_goes t o;
          of = k.of;
          apart
              = k.apart;
        }
        )
  ]

  module _ (write : ℕ → Option WriteRec) (value : ℕ → Option Value)
      (left : (q : ℕ) → write q ≡ cond (keeps (cells_of x).write safe q) (x.write q) None)
      (gone : (t : ℕ) → Outdated x.write safe t → value t ≡ None)
      (stayed : (t : ℕ) → (Outdated x.write safe t → ⊥) → value t ≡ x.value t)
      (fewer : (t : ℕ) → value t ≢ None → value t ≡ x.value t) where
    tells : (q : ℕ) → cond (keeps (cells_of x).write safe q) (x.write q) None ≡ cond (goes q) None (x.write q)
    tells q = flip (keeps (cells_of x).write safe q) (x.write q)

    stays_in : IsWhole x → (t : ℕ) → (GoneApart x.write goes t → ⊥) → value t ≡ x.value t
    stays_in w t n = go (value t) (x.value t) refl refl
      where
        go : (a b : Option Value) → value t ≡ a → x.value t ≡ b → value t ≡ x.value t
        go (Some v) b e f = fewer t (λ none. cc (e, none))
        go None None e f = e ∙ sym f
        go None (Some v) e f = stayed t (λ o. n (outdated_apart w t (λ none. cc (f, none)) o))

    values_go : ∥ IsWhole x ∥₁ → ValuesGo x.write goes x.value value
    values_go whole = record {
      gone = λ t g. gone t (outdated whole t g);
      stayed = λ t n. ∥∥₁_elim whole (value-set (value t) (x.value t)) (λ w. stays_in w t n);
      fewer = fewer;
    }

    abbrev Now : OnKey
    Now = record { lock = x.lock; write = write; value = value }

    is_left : Now ≡ Left x goes value
    is_left = ap (λ (f : ℕ → Option WriteRec). record { lock = x.lock; write = f; value = value })
        (same_maps (λ q. left q ∙ tells q))

    pub whole_now : ∥ IsWhole x ∥₁ → IsWhole x → IsWhole Now
    whole_now whole w = subst IsWhole (sym is_left) (whole_left x goes value w (values_go whole) safe tells)

    pub collected_now : ∥ IsWhole x ∥₁ → Collected safe x Now
    collected_now whole =
        subst (λ (y : OnKey). Collected safe x y) (sym is_left)
        (collected_left x goes value whole (values_go whole) safe tells)

    pub cells_now : ∥ IsWhole x ∥₁ → cells_of Now ≡ kept (cells_of x) safe
    cells_now whole = ap cells_of is_left
        ∙ cells_left x goes value (stays_of x goes value whole (values_go whole)) safe tells
