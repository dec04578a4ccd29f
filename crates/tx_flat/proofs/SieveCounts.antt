-- How many records a pass over the entries of a map of versions has dropped.
use Rattle.std.proofs.Common.{◌≡◌, ◌≢◌, ◌↔◌, inl, inr, ℕ, suc, ◌+◌, true, false, cond, List, [], ◌∷◌, length, Option, Some, None, refl, sym, ap, subst, ◌∙◌, arith}
use Rattle.std.specs.Prelude.{Contains, option_map}
use Rattle.std.specs.Map.{keys_of}
use Rattle.std.specs.BTreeMap as tree
use Rattle.std.specs.Ordering.{is_eq}
use Rattle.std.proofs.lemmas.Bool.{cases_Bool}
use Rattle.std.proofs.lemmas.Map.Entries.{lookup_tail}
use Rattle.std.proofs.lemmas.Map.Keys.{sorted_head}
use Rattle.tx_types.specs.declared.key.Key.{Key}
use Rattle.tx_types.specs.declared.value.Value.{Value}
use Rattle.tx_types.specs.declared.write.WriteRec.{WriteRec}
use Rattle.tx_plan.specs.Cells.{Lock, Cells, is_long}
use Rattle.tx_plan.specs.cases.Collect.{commit_is, IsDropped, AllDropped, long_values}
use Rattle.tx_plan.proofs.Collects.{pairs_first, pairs_none}
use Rattle.tx_plan.proofs.OnceLists.{Once}
use Rattle.tx_plan.proofs.LockRows.{contains_first, contains_next, contains_cases, contains_none}
use Rattle.tx_cells.specs.Contents.{write_of}
use Rattle.tx_flat.specs.Sieves.{writes_of}
use Rattle.tx_spelling.specs.Spelt.{version_cmp, exact_versions}
use Rattle.tx_flat.proofs.KeptEntries.{tied}
use Rattle.tx_flat.proofs.Sieves.{Version, Entries, Place, AreLeft, find, find_first, find_before, first_is, on, keeps_at}

module _ (L : Key → Option Lock) (W : Version → Option WriteRec) (V : List ℕ → ℕ → Option Value) (safe : ℕ) where
  abbrev pub cells : Key → Cells
  cells k = record { lock = L k; write = writes_of (on W V safe k) (V k) }

  pub record Counted (es : Entries) (records values : ℕ) : Type 0 where
    pub versions : List (Key × ℕ)
    pub once : Once versions
    pub each : (slot : Key × ℕ) → Contains versions slot ↔ ((find slot es ≡ None) × IsDropped cells safe slot)
    pub counted : records ≡ length versions
    pub long : values ≡ long_values cells versions

  pub count_starts : (es : Entries) → ((u : Version) → W u ≡ find u es) → Counted es 0 0
  count_starts es is = record {
    versions = [];
    once = pairs_none;
    each = λ slot. (
      λ c. absurd (contains_none slot c),
      λ h. absurd (h.1.0 (ap (option_map (write_of (V slot.0))) (is slot ∙ h.0))),
    );
    counted = refl;
    long = refl;
  }

  pub count_ends : (records values : ℕ) → Counted [] records values
      → (versions : List (Key × ℕ)) × AllDropped cells safe versions × (records ≡ length versions)
      × (values ≡ long_values cells versions)
  count_ends records values so = (
    so.versions,
    record {
      once = so.once;
      each =
          λ slot. (λ c. ((so.each slot).0 c).1, λ d. (so.each slot).1 (refl, d));
    },
    so.counted,
    so.long,
  )

  module _ (slot : Place) (x : Version) (rec : WriteRec) (es : Entries) (are :
      AreLeft W slot ((x, rec) ∷ es)) (records values : ℕ) (so : Counted ((x, rec) ∷ es) records values) where
    off : (u : Version) → is_eq (version_cmp u x) ≡ false → find u ((x, rec) ∷ es) ≡ find u es
    off u other = lookup_tail (tree.is_at (version_cmp u)) (x, rec) es other

    same_of : (u : Version) → is_eq (version_cmp u x) ≡ true → u ≡ x
    same_of u e = exact_versions u x (tied (version_cmp u x) e)

    none_rest : find x es ≡ None
    none_rest = find_before x es (sorted_head version_cmp x (keys_of es) are.sorted)

    -- what has been counted is not the first
    counted_other : (u : Version) → find u ((x, rec) ∷ es) ≡ None → u ≡ x → ⊥
    counted_other u none same = (let some = find_first u (x, rec) es same in cc (none, some))

    passed : (u : Version) → find u ((x, rec) ∷ es) ≡ None → find u es ≡ None
    passed u none = elim (cases_Bool (is_eq (version_cmp u x))) [
      | inl e ↦ absurd (counted_other u none (same_of u e))
      | inr other ↦ sym (off u other) ∙ none
    ]

    pub count_stays : keeps_at W V safe x ≡ true → Counted es records values
    count_stays stays = record {
      versions = so.versions;
      once = so.once;
      each = λ p. (
        λ c. (let old = (so.each p).0 c in (passed p old.0, old.1)),
        λ h. elim (cases_Bool (is_eq (version_cmp p x))) [
          | inl e ↦ (let gone : keeps_at W V safe p ≡ false = h.1.1 in
              let here : keeps_at W V safe p ≡ true = ap (keeps_at W V safe) (same_of p e) ∙ stays in
              absurd (cc (gone, here)))
          | inr other ↦ (so.each p).1 (off p other ∙ h.0, h.1)
        ],
      );
      counted = so.counted;
      long = so.long;
    }

    there : (cells x.0).write x.1 ≢ None
    there none = (let is : (cells x.0).write x.1 ≡ Some (write_of (V x.0) rec) =
        ap (option_map (write_of (V x.0))) (first_is W slot x rec es are) in cc (none, is))

    more : keeps_at W V safe x ≡ false → (long : ℕ) → long ≡ long_values cells (x ∷ so.versions)
        → Counted es (records + 1) long
    more goes long is = record {
      versions = x ∷ so.versions;
      once = pairs_first x so.versions (λ y c e. counted_other y ((so.each y).0 c).0 (sym e)) so.once;
      each = λ p. (
        λ c. elim (contains_cases x so.versions p c) [
          | inl e ↦ subst (λ (u : Version). (find u es ≡ None) × IsDropped cells safe u) e (none_rest, (there, goes))
          | inr later ↦ (let old = (so.each p).0 later in (passed p old.0, old.1))
        ],
        λ h. elim (cases_Bool (is_eq (version_cmp p x))) [
          | inl e ↦ subst (Contains (x ∷ so.versions)) (sym (same_of p e)) (contains_first x so.versions)
          | inr other ↦ contains_next x so.versions p ((so.each p).1 (off p other ∙ h.0, h.1))
        ],
      );
      counted = (let n = so.counted in omega (arith, n));
      long = is;
    }

    pub count_long : keeps_at W V safe x ≡ false → commit_is is_long (writes_of (on W V safe x.0) (V x.0) x.1) ≡ true
        → Counted es (records + 1) (values + 1)
    count_long goes long =
        more goes (values + 1) ((let n = so.long in omega (arith, n))
        ∙ sym (ap (λ b. cond b (suc (long_values cells so.versions)) (long_values cells so.versions)) long))

    pub count_short : keeps_at W V safe x ≡ false → commit_is is_long (writes_of (on W V safe x.0) (V x.0) x.1) ≡ false
        → Counted es (records + 1) values
    count_short goes short =
        more goes values (so.long
        ∙ sym (ap (λ b. cond b (suc (long_values cells so.versions)) (long_values cells so.versions)) short))
