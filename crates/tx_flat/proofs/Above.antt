-- The order of versions, and what the last entry before a version says of the newer
-- versions of its key.
use Rattle.std.proofs.Common.{◌≡◌, ◌⊎◌, inl, inr, ℕ, ◌<◌, List, [], ◌∷◌, ◌++◌, Option, Some, None, refl, sym, ap, ◌∙◌}
use Rattle.std.specs.Prelude.{is_some}
use Rattle.std.specs.declared.cmp.Ordering.{Ordering}
use Rattle.std.specs.declared.cmp.Ordering.TheVariants.{Less, Equal, Greater}
use Rattle.std.specs.declared.ops.Bound.TheVariants.{Excluded, Unbounded}
use Rattle.std.specs.Ordering.{nat_cmp, is_lt, ordering_then}
use Rattle.std.specs.Cmp.Lexicographic.{slice_cmp}
use Rattle.std.specs.BTreeMap as tree
use Rattle.std.specs.BTreeMap.{BTreeMap}
use Rattle.std.specs.BTreeMap.Range.{IsRangeOf}
use Rattle.std.proofs.lemmas.Cmp.{ranked, tied_itself, nat_list_cmp_total}
use Rattle.std.proofs.lemmas.Map.Lookups.{exact_bytes}
use Rattle.tx_spelling.specs.Spelt.{version_cmp}
use Rattle.tx_cells.proofs.Maps.{less_of}
use Rattle.tx_flat.proofs.Nearest.{beside}

-- one version before another is of a smaller key, or is the newer of one key
pub less_cases : (v x : List ℕ × ℕ) → version_cmp v x ≡ Less
    → (slice_cmp nat_cmp v.0 x.0 ≡ Less) ⊎ ((v.0 ≡ x.0) × (x.1 < v.1))
less_cases v x e = go (slice_cmp nat_cmp v.0 x.0) refl e
  where
    go : (o : Ordering) → slice_cmp nat_cmp v.0 x.0 ≡ o → ordering_then o (nat_cmp x.1 v.1) ≡ Less
        → (slice_cmp nat_cmp v.0 x.0 ≡ Less) ⊎ ((v.0 ≡ x.0) × (x.1 < v.1))
    go Less h e = inl h
    go Equal h e = inr (exact_bytes v.0 x.0 h, ranked x.1 v.1 Less (sym e))
    go Greater h e = absurd (cc e)

pub less_key : (v x : List ℕ × ℕ) → slice_cmp nat_cmp v.0 x.0 ≡ Less → version_cmp v x ≡ Less
less_key v x e = ap (λ o. ordering_then o (nat_cmp x.1 v.1)) e

pub less_newer : (k : List ℕ) (s t : ℕ) → t < s → version_cmp (k, s) (k, t) ≡ Less
less_newer k s t lt = beside k s t ∙ less_of t s lt

pub not_below : (k : List ℕ) → slice_cmp nat_cmp k k ≡ Less → ⊥
not_below k e = (let tied = tied_itself nat_list_cmp_total k in cc (tied, e))

-- of one key
pub newer_of : (v x : List ℕ × ℕ) → version_cmp v x ≡ Less → v.0 ≡ x.0 → x.1 < v.1
newer_of v x e same = elim (less_cases v x e) [
  | inl less ↦ absurd (not_below x.0 (ap (λ (k : List ℕ). slice_cmp nat_cmp k x.0) (sym same) ∙ less))
  | inr both ↦ both.1
]

-- of another
pub other_of : (v x : List ℕ × ℕ) → version_cmp v x ≡ Less → (v.0 ≡ x.0 → ⊥) → slice_cmp nat_cmp v.0 x.0 ≡ Less
other_of v x e other = elim (less_cases v x e) [ inl less ↦ less | inr both ↦ absurd (other both.0) ]

module _ {X : Type 0} (m : BTreeMap (List ℕ × ℕ) X) (b : List ℕ × ℕ) where
  abbrev IsBefore : List ((List ℕ × ℕ) × X) → Type 0
  IsBefore r = IsRangeOf version_cmp Unbounded (Excluded b) m r

  -- nothing stands before b
  pub before_none : (r : List ((List ℕ × ℕ) × X)) → IsBefore r → r ≡ [] → (q : ℕ) → b.1 < q
      → tree.get version_cmp m (b.0, q) ≡ None
  before_none r u e q lt = u.5 e (b.0, q) (tt, less_newer b.0 q b.1 lt)

  module _ (v : List ℕ × ℕ) (x : X) (t r : List ((List ℕ × ℕ) × X)) (u : IsBefore r) (last : r ≡ t ++ (v, x) ∷ []) where
    none_where : (q : ℕ) → b.1 < q → version_cmp v (b.0, q) ≡ Less → tree.get version_cmp m (b.0, q) ≡ None
    none_where q lt less = go (tree.get version_cmp m (b.0, q)) refl
      where
        go : (o : Option X) → tree.get version_cmp m (b.0, q) ≡ o → o ≡ None
        go None e = refl
        go (Some y) e = (let no = u.4 (v, x) t last (b.0, q) (tt, less_newer b.0 q b.1 lt) (ap is_some e) in
            let yes = ap is_lt less in absurd (cc (no, yes)))

    pub before_found : v.0 ≡ b.0 → (b.1 < v.1) × (tree.get version_cmp m v ≡ Some x)
    before_found same = (let entry = u.3 (v, x) t last in (newer_of v b entry.0.1 same, entry.1))

    pub before_nearest : v.0 ≡ b.0 → (q : ℕ) → b.1 < q → q < v.1 → tree.get version_cmp m (b.0, q) ≡ None
    before_nearest same q lt up =
        none_where q lt (ap (λ (k : List ℕ). version_cmp (k, v.1) (b.0, q)) same ∙ less_newer b.0 v.1 q up)

    pub before_other : (v.0 ≡ b.0 → ⊥) → (q : ℕ) → b.1 < q → tree.get version_cmp m (b.0, q) ≡ None
    before_other other q lt = none_where q lt (less_key v (b.0, q) (other_of v b (u.3 (v, x) t last).0.1 other))
