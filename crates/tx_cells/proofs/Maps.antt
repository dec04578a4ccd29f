-- Look-ups of a map that was changed at one key.
use Rattle.std.proofs.Common.{◌≡◌, ◌≢◌, ℕ, ◌==◌, ◌<◌, ◌≤◌, arith, inl, inr, Bool, true, false, cond, Option, Some, None, bytes_eq, refl, sym, ap, ◌∙◌}
use Rattle.std.specs.Prelude.{IsSome, is_some}
use Rattle.std.proofs.lemmas.Bool.{cases_Bool, cases_lt}
use Rattle.std.proofs.lemmas.Cmp.{ranked}
use Rattle.std.specs.BTreeMap as tree
use Rattle.std.specs.BTreeMap.{BTreeMap}
use Rattle.std.specs.declared.cmp.Ordering.{Ordering}
use Rattle.std.specs.declared.cmp.Ordering.TheVariants.{Less, Equal, Greater}
use Rattle.std.proofs.lemmas.Slice.Eq.{bytes_eq-Decides}
use Rattle.std.proofs.lemmas.Map.Text.{is_eq-slice_cmp}
use Rattle.std.specs.Cmp.{unsigned_ties, nat_cmp_is}
use Rattle.std.specs.Cmp.Lexicographic.{slice_cmp}
use Rattle.std.specs.Ordering.{nat_cmp, is_eq, is_lt, is_gt}
use Rattle.tx_types.specs.declared.key.Key.{Key}

-- ---- at numbers

cmp_less : (x y : ℕ) → x < y → nat_cmp x y ≡ Less
cmp_less x y lt = sym (nat_cmp_is x y Less lt)

-- nothing is where what is there would not be above
pub lt_none : {X : Type 0} (m : BTreeMap ℕ X) (at q : ℕ)
    → (IsSome (tree.get nat_cmp m q) → is_lt (nat_cmp at q) ≡ false) → at < q → tree.get nat_cmp m q ≡ None
lt_none {X} m at q h lt = go (tree.get nat_cmp m q) refl
  where
    go : (o : Option X) → tree.get nat_cmp m q ≡ o → o ≡ None
    go None e = refl
    go (Some x) e = (let no = h (ap is_some e) in let less = ap is_lt (cmp_less at q lt) in absurd (cc (no, less)))

pub less_of : (x y : ℕ) → x < y → nat_cmp x y ≡ Less
less_of = cmp_less

pub upto_of : (t s : ℕ) → is_gt (nat_cmp t s) ≡ false → t ≤ s
upto_of t s e = elim (cases_lt s t) [
  | inl lt ↦ (let g : nat_cmp t s ≡ Greater = sym (nat_cmp_is t s Greater lt) in let h =
      ap is_gt g in absurd (cc (e, h)))
  | inr le ↦ le
]

pub of_upto : (t s : ℕ) → t ≤ s → is_gt (nat_cmp t s) ≡ false
of_upto t s le = go (nat_cmp t s) refl
  where
    go : (o : Ordering) → nat_cmp t s ≡ o → is_gt o ≡ false
    go Less h = refl
    go Equal h = refl
    go Greater h = (let lt : s < t = ranked t s Greater (sym h) in absurd (omega (arith, le, lt)))

module _ {X : Type 0} (f g : ℕ → Option X) (t : ℕ) where
  pub with_at : (v : X) → ((q : ℕ) → g q ≡ cond (is_eq (nat_cmp t q)) (Some v) (f q)) → (q : ℕ)
      → g q ≡ cond (t == q) (Some v) (f q)
  with_at v is q = is q ∙ ap (λ (b : Bool). cond b (Some v) (f q)) (sym (unsigned_ties t q))

  pub without_at : ((q : ℕ) → g q ≡ cond (is_eq (nat_cmp t q)) None (f q)) → (q : ℕ) → g q ≡ cond (t == q) None (f q)
  without_at is q = is q ∙ ap (λ (b : Bool). cond b None (f q)) (sym (unsigned_ties t q))

pub same_maps : {A B : Type 0} {f g : A → B} → ((q : A) → f q ≡ g q) → f ≡ g
same_maps each = λ i q. each q i

-- ---- at keys

pub key_is : (j k : Key) → is_eq (slice_cmp nat_cmp j k) ≡ bytes_eq j k
key_is j k = is_eq-slice_cmp j k

pub key_here : (k : Key) → is_eq (slice_cmp nat_cmp k k) ≡ true
key_here k = is_eq-slice_cmp k k ∙ (bytes_eq-Decides k k).1 refl

pub key_elsewhere : (j k : Key) → k ≢ j → is_eq (slice_cmp nat_cmp j k) ≡ false
key_elsewhere j k other = elim (cases_Bool (bytes_eq j k)) [
  | inl same ↦ absurd (other (sym ((bytes_eq-Decides j k).0 same)))
  | inr not ↦ is_eq-slice_cmp j k ∙ not
]
