-- What the first entry from a version on says of the versions of its key.
use Rattle.std.proofs.Common.{◌≡◌, ℕ, ◌<◌, ◌≤◌, List, [], ◌∷◌, Option, Some, None, false, refl, sym, ap, ◌∙◌, arith}
use Rattle.std.specs.Prelude.{IsSome, is_some}
use Rattle.std.specs.declared.cmp.Ordering.{Ordering}
use Rattle.std.specs.declared.cmp.Ordering.TheVariants.{Less, Equal, Greater}
use Rattle.std.specs.declared.ops.Bound.TheVariants.{Included, Unbounded}
use Rattle.std.specs.Ordering.{nat_cmp, is_gt, ordering_then, ordering_reverse}
use Rattle.std.specs.Cmp.Lexicographic.{slice_cmp}
use Rattle.std.specs.BTreeMap as tree
use Rattle.std.specs.BTreeMap.{BTreeMap}
use Rattle.std.specs.BTreeMap.Range.{IsRangeOf}
use Rattle.std.proofs.lemmas.Cmp.{ranked, tied_itself, nat_list_cmp_total}
use Rattle.std.proofs.lemmas.Map.Lookups.{exact_bytes}
use Rattle.tx_spelling.specs.Spelt.{version_cmp}

not_above : (o p : Ordering) → is_gt (ordering_then o p) ≡ false → is_gt o ≡ false
not_above Less p e = refl
not_above Equal p e = refl
not_above Greater p e = e

turned_tied : (o p : Ordering) → p ≡ ordering_reverse o → is_gt o ≡ false → is_gt p ≡ false → o ≡ Equal
turned_tied Less p e h k = cc (k, e)
turned_tied Equal p e h k = refl
turned_tied Greater p e h k = cc h

-- keys of which neither stands above the other are one
pub one_key_of : (j k : List ℕ) → is_gt (slice_cmp nat_cmp j k) ≡ false → is_gt (slice_cmp nat_cmp k j) ≡ false → j ≡ k
one_key_of j k h l = exact_bytes j k
    (turned_tied (slice_cmp nat_cmp j k) (slice_cmp nat_cmp k j) (nat_list_cmp_total.antisymm k j) h l)

-- versions of one key
pub beside : (k : List ℕ) (s t : ℕ) → version_cmp (k, s) (k, t) ≡ nat_cmp t s
beside k s t = ap (λ o. ordering_then o (nat_cmp t s)) (tied_itself nat_list_cmp_total k)

upto_of : (t s : ℕ) → is_gt (nat_cmp t s) ≡ false → t ≤ s
upto_of t s e = go (nat_cmp t s) refl e
  where
    go : (o : Ordering) → o ≡ nat_cmp t s → is_gt o ≡ false → t ≤ s
    go Less h e = (let lt : t < s = ranked t s Less h in omega arith)
    go Equal h e = (let same : t ≡ s = ranked t s Equal h in omega arith)
    go Greater h e = cc e

of_upto : (t s : ℕ) → t ≤ s → is_gt (nat_cmp t s) ≡ false
of_upto t s le = go (nat_cmp t s) refl
  where
    go : (o : Ordering) → o ≡ nat_cmp t s → is_gt o ≡ false
    go Less h = refl
    go Equal h = refl
    go Greater h = (let lt : s < t = ranked t s Greater h in absurd (omega (arith, le, lt)))

pub within : (k : List ℕ) (s t : ℕ) → t ≤ s → is_gt (version_cmp (k, s) (k, t)) ≡ false
within k s t le = ap is_gt (beside k s t) ∙ of_upto t s le

module _ {X : Type 0} (m : BTreeMap (List ℕ × ℕ) X) (b : List ℕ × ℕ) where
  abbrev IsFrom : List ((List ℕ × ℕ) × X) → Type 0
  IsFrom r = IsRangeOf version_cmp (Included b) Unbounded m r

  -- nothing stands from b on
  pub from_none : IsFrom [] → (q : ℕ) → q ≤ b.1 → tree.get version_cmp m (b.0, q) ≡ None
  from_none r q le = r.5 refl (b.0, q) (within b.0 b.1 q le, tt)

  module _ (v : List ℕ × ℕ) (x : X) (rest : List ((List ℕ × ℕ) × X)) (r : IsFrom ((v, x) ∷ rest)) where
    moved : v.0 ≡ b.0 → v ≡ (b.0, v.1)
    moved same = ap (λ (k : List ℕ). (k, v.1)) same

    pub from_found : v.0 ≡ b.0 → (v.1 ≤ b.1) × (tree.get version_cmp m (b.0, v.1) ≡ Some x)
    from_found same = (
      upto_of v.1 b.1 (sym (ap is_gt (beside b.0 b.1 v.1))
          ∙ ap (λ (w : List ℕ × ℕ). is_gt (version_cmp b w)) (sym (moved same)) ∙ r.1.0.0),
      ap (tree.get version_cmp m) (sym (moved same)) ∙ r.1.1,
    )

    pub from_nearest : v.0 ≡ b.0 → (q : ℕ) → q ≤ b.1 → IsSome (tree.get version_cmp m (b.0, q)) → q ≤ v.1
    from_nearest same q le some =
        upto_of q v.1 (sym (ap is_gt (beside b.0 v.1 q))
        ∙ ap (λ (w : List ℕ × ℕ). is_gt (version_cmp w (b.0, q))) (sym (moved same))
        ∙ r.2 (b.0, q) (within b.0 b.1 q le, tt) some)

    -- the first is of another key
    pub from_other : (v.0 ≡ b.0 → ⊥) → (q : ℕ) → q ≤ b.1 → tree.get version_cmp m (b.0, q) ≡ None
    from_other other q le = go (tree.get version_cmp m (b.0, q)) refl
      where
        go : (o : Option X) → tree.get version_cmp m (b.0, q) ≡ o → o ≡ None
        go None e = refl
        go (Some y) e = absurd
            (other (one_key_of v.0 b.0 (not_above _ _ (r.2 (b.0, q) (within b.0 b.1 q le, tt) (ap is_some e)))
            (not_above _ _ r.1.0.0)))
