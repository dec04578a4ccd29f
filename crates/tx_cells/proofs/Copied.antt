-- What families show of a key is what its cells show.
use Rattle.std.proofs.Common.{◌≡◌, ◌↔◌, ℕ, true, inl, inr, [], Option, Some, None, length, refl, sym, ap, subst, ◌∙◌}
use Rattle.std.specs.Prelude.{Contains, IsSome, option_map}
use mathlib.Core.Logic.{∥∥₁_elim}
use Rattle.std.proofs.Math.Logic.{∥∥₁_map}
use Rattle.std.proofs.Math.Bool.{Bool-set}
use Rattle.std.proofs.lemmas.Bool.{lt-ltb, le-ltb}
use Rattle.tx_types.specs.declared.limits.TheConstants.{MAX_INLINE_BYTES}
use Rattle.tx_types.specs.declared.value.Value.{Value}
use Rattle.tx_types.specs.declared.value.StoredValue.TheVariants.{Inline, InDefault}
use Rattle.tx_types.specs.declared.mutation.StoredMutation.{StoredMutation}
use Rattle.tx_types.specs.declared.mutation.StoredMutation.TheVariants as stored
use Rattle.tx_plan.specs.declared.view.RecordHead.{RecordHead}
use Rattle.tx_plan.specs.Cells as tables
use Rattle.tx_plan.specs.Cells.{CommitRecord, is_long}
use Rattle.tx_plan.proofs.LockRows.{contains_none}
use Rattle.tx_cells.specs.declared.copies.KeyVersions.{KeyVersions}
use Rattle.tx_cells.specs.Heads.{write_head, lock_head, keeps_apart}
use Rattle.tx_cells.specs.Contents.{OnKey, nothing_held, cells_of, lock_of, whole, IsKept, IsWhole}
use Rattle.tx_cells.specs.Copies.{AreFalling, times_of, HasLongValue, Copies}
use Rattle.tx_cells.proofs.NewestFirst.{some_none}
use Rattle.tx_cells.proofs.RecordCells.{lock_heads, write_heads, kept_commit, stands_commit}
use Rattle.tx_cells.proofs.WholeAfter.{lock_there}

-- ---- a long value is kept apart, and no other

long_apart : (apart : Option Value) (m : StoredMutation) → IsKept apart m → is_long (whole apart m) ≡ keeps_apart m
long_apart apart (stored.Put (Inline v)) k = le-ltb MAX_INLINE_BYTES (length v) k
long_apart None (stored.Put InDefault) k = absurd k
long_apart (Some v) (stored.Put InDefault) k = lt-ltb MAX_INLINE_BYTES (length v) k
long_apart apart stored.Delete k = refl
long_apart apart stored.Lock k = refl

apart_there : (apart : Option Value) (m : StoredMutation) → IsKept apart m → keeps_apart m ≡ true → IsSome apart
apart_there apart (stored.Put (Inline v)) k e = absurd (cc e)
apart_there None (stored.Put InDefault) k e = absurd k
apart_there (Some v) (stored.Put InDefault) k e = refl
apart_there apart stored.Delete k e = absurd (cc e)
apart_there apart stored.Lock k e = absurd (cc e)

some_prop : (o : Option Value) → IsProp (IsSome o)
some_prop o = Bool-set _ _

module _ (x : OnKey) where
  has_long : IsWhole x → (t : ℕ) → IsSome (x.value t) → HasLongValue (cells_of x) t
  has_long w t some = elim (w.value_kept t (λ none. some_none (x.value t) some none)) [
    | inl k ↦ inl (
      lock_of x.value k.rec,
      record { stands = ap (option_map (lock_of x.value)) k.found; own = k.of },
      long_apart (x.value k.rec.start) k.rec.mutation (w.lock_kept k.rec k.found) ∙ k.apart,
    )
    | inr k ↦ inr (
      k.at,
      record { rec = _; stands = stands_commit x k.at k.rec k.found; own = k.of },
      long_apart (x.value k.rec.start) k.rec.mutation (w.write_kept k.at k.rec k.found) ∙ k.apart,
    )
  ]

  kept_there : (t start : ℕ) (m : StoredMutation) → start ≡ t → IsKept (x.value start) m
      → is_long (whole (x.value start) m) ≡ true → IsSome (x.value t)
  kept_there t start m of kept long =
      subst (λ q. IsSome (x.value q)) of
      (apart_there (x.value start) m kept (sym (long_apart (x.value start) m kept) ∙ long))

  is_there : IsWhole x → (t : ℕ) → HasLongValue (cells_of x) t → IsSome (x.value t)
  is_there w t (inl (lock, own, long)) = (
      let k = lock_there x lock own.stands in
      kept_there t k.0.start k.0.mutation
      (ap (λ (l : tables.Lock). l.start) k.2 ∙ own.own) (w.lock_kept k.0 k.1)
      (ap (λ (l : tables.Lock). is_long l.mutation) k.2 ∙ long))
  is_there w t (inr (c, own, long)) = (
      let k = kept_commit x c own.rec own.stands in
      kept_there t k.0.start k.0.mutation
      (sym (ap (λ (r : CommitRecord). r.start) k.2) ∙ own.own) (w.write_kept c k.0 k.1)
      (sym (ap (λ (r : CommitRecord). is_long r.mutation) k.2) ∙ long))

  -- what is shown of a key of which families hold this
  pub copied : (copy : KeyVersions) → ∥ IsWhole x ∥₁ → copy.lock ≡ option_map lock_head x.lock
      → AreFalling (times_of copy.records)
      → ((at : ℕ) (head : RecordHead)
      → Contains copy.records (record { at = at; head = head }) ↔ (option_map write_head (x.write at) ≡ Some head))
      → AreFalling copy.values → ((t : ℕ) → Contains copy.values t ↔ IsSome (x.value t)) → Copies (cells_of x) copy
  copied copy w lock records_fall records values_fall values = record {
    lock = lock ∙ lock_heads x.value x.lock;
    records_fall = records_fall;
    records = λ at head. (
      λ has. sym (write_heads x.value (x.write at)) ∙ (records at head).0 has,
      λ is. (records at head).1 (write_heads x.value (x.write at) ∙ is),
    );
    values_fall = values_fall;
    values = λ t. (
      λ has. ∥∥₁_map w (λ whole. has_long whole t ((values t).0 has)),
      λ long. (values t).1 (∥∥₁_elim w (some_prop (x.value t))
          (λ whole. ∥∥₁_elim long (some_prop (x.value t)) (is_there whole t))),
    );
  }

no_long : (t : ℕ) → HasLongValue (cells_of nothing_held) t → ⊥
no_long t (inl (lock, own, long)) = (let stands = own.stands in cc stands)
no_long t (inr (c, own, long)) = (let stands = own.stands in cc stands)

-- what is shown of a key of which they hold nothing
pub copied_none : (copy : KeyVersions) → copy.lock ≡ None → copy.records ≡ [] → copy.values ≡ []
    → Copies (cells_of nothing_held) copy
copied_none copy lock records values = record {
  lock = lock;
  records_fall = subst (λ w. AreFalling (times_of w)) (sym records) tt;
  records = λ at head. (
    λ has. absurd (contains_none (record { at = at; head = head })
        (subst (λ w. Contains w (record { at = at; head = head })) records has)),
    λ is. absurd (cc is),
  );
  values_fall = subst AreFalling (sym values) tt;
  values = λ t. (
    λ has. absurd (contains_none t (subst (λ w. Contains w t) values has)),
    λ long. absurd (∥∥₁_elim long (λ x y. absurd x) (no_long t)),
  );
}
