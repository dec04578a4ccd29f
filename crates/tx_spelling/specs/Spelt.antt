-- Keys that are kept as their bytes: what the bytes spell; and the order in which versions stand.
use Rattle.std.specs.Prelude.{◌≡◌, ℕ, suc, ◌^◌, ◌<◌, ◌≤◌, List, [], ◌∷◌, ◌++◌}
use Rattle.std.specs.Int.{w64, to_be_bytes}
use Rattle.std.proofs.Common.{sym, ◌∙◌}
use mathlib.Core.HLevel.{Σ_prop_path, ×_prop, ×₃_prop}
use Rattle.std.specs.Coded.{le_prop, Coded-set, coded_list, coded_ℕ}
use Rattle.std.specs.declared.cmp.Ordering.{Ordering}
use Rattle.std.specs.declared.cmp.Ordering.TheVariants.{Equal}
use Rattle.std.specs.Ordering.{nat_cmp, ordering_then, flip_args}
use Rattle.std.specs.Cmp.{IsTotalOrder, on_total, then_total, back_total, nat_cmp_total}
use Rattle.std.specs.Cmp.Lexicographic.{slice_cmp, nat_list_cmp_total}
use Rattle.std.proofs.lemmas.Map.Lookups.{exact_pairs, exact_bytes, exact_unsigned}
use Rattle.tx_codec.specs.Keys.{IsKey, encoded_key}
use Rattle.tx_spelling.specs.declared.spelling.Behind.{Behind}
use Rattle.tx_spelling.specs.declared.spelling.Behind.TheVariants.{Nothing, Group, Groups}
use Rattle.tx_spelling.specs.declared.spelling.TheConstants.{WHOLE}
use Rattle.tx_codec.proofs.Versions.{encoded_key-one}

-- versions order as their keys, and those of one key by falling timestamps
abbrev pub version_cmp : List ℕ × ℕ → List ℕ × ℕ → Ordering
version_cmp a b = ordering_then (slice_cmp nat_cmp a.0 b.0) (nat_cmp b.1 a.1)

pub versions_total : IsTotalOrder version_cmp
versions_total = then_total (on_total (λ (v : List ℕ × ℕ). v.0) nat_list_cmp_total) (on_total (λ (v : List ℕ
    × ℕ). v.1) (back_total nat_cmp_total))

pub exact_versions : (a b : List ℕ × ℕ) → version_cmp a b ≡ Equal → a ≡ b
exact_versions = exact_pairs (slice_cmp nat_cmp) (flip_args nat_cmp) exact_bytes (λ x y e. sym (exact_unsigned y x e))

-- a first group, by its number and its marker, and the groups behind it
abbrev pub spelt : ℕ → ℕ → List ℕ → List ℕ
spelt first marker rest = to_be_bytes w64 first ++ marker ∷ rest

-- what stands behind the first group: its marker, and the groups behind it
abbrev pub marker_of : Behind → ℕ
marker_of (Nothing marker) = marker
marker_of (Group marker last) = WHOLE
marker_of (Groups rest) = WHOLE

abbrev pub rest_of : Behind → List ℕ
rest_of (Nothing marker) = []
rest_of (Group marker last) = to_be_bytes w64 last ++ marker ∷ []
rest_of (Groups rest) = rest.value.items

-- they spell a key
abbrev pub SpellsKey : ℕ → ℕ → List ℕ → List ℕ → Type 0
SpellsKey first marker rest key = (first < 2 ^ 64) × IsKey key × (spelt first marker rest ≡ encoded_key key)

below-prop : (m n : ℕ) → IsProp (m ≤ n)
below-prop m n = le_prop

bytes-set : (x y : List ℕ) → IsProp (x ≡ y)
bytes-set x y = Coded-set (coded_list coded_ℕ) x y

IsKey-prop : (key : List ℕ) → IsProp (IsKey key)
IsKey-prop key = ×_prop (below-prop _ _) (below-prop _ _)

pub same_key : (first marker : ℕ) (rest j k : List ℕ) → SpellsKey first marker rest j → SpellsKey first marker rest k
    → j ≡ k
same_key first marker rest j k p q = encoded_key-one j k (sym p.2 ∙ q.2)

SpellsKey-prop : (first marker : ℕ) (rest key : List ℕ) → IsProp (SpellsKey first marker rest key)
SpellsKey-prop first marker rest key = ×₃_prop (below-prop (suc first) (2 ^ 64)) (IsKey-prop key)
    (bytes-set (spelt first marker rest) (encoded_key key))

pub one_key : (first marker : ℕ) (rest : List ℕ) → IsProp ((k : List ℕ) × SpellsKey first marker rest k)
one_key first marker rest x y = Σ_prop_path {B = SpellsKey first marker rest}
    (SpellsKey-prop first marker rest) {u = x} {v = y} (same_key first marker rest x.0 y.0 x.1 y.1)
