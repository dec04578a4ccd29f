-- A pass over the entries of a map of versions tells which records collection keeps.
use Rattle.std.proofs.Common.{◌≡◌, inl, inr, ℕ, ◌+◌, ◌<◌, ◌≤◌, ◌&&◌, not, Bool, true, false, List, [], ◌∷◌, Option, Some, None, bytes_eq, refl, sym, ap, ◌∙◌, arith}
use Rattle.std.specs.Prelude.{◌||◌, nat_lt}
use Rattle.std.specs.List.{AllByRecursion}
use Rattle.std.specs.List.Sorted.{IsStrictlySortedBy}
use Rattle.std.specs.Map.{keys_of, lookup}
use Rattle.std.specs.BTreeMap as tree
use Rattle.std.specs.Ordering.{is_eq, ordering_reverse}
use Rattle.std.specs.declared.cmp.Ordering.{Ordering}
use Rattle.std.specs.declared.cmp.Ordering.TheVariants.{Less}
use Rattle.std.proofs.lemmas.Bool.{cases_Bool, cases_lt, lt-ltb, le-ltb, and_parts, or_cases}
use Rattle.std.proofs.lemmas.Cmp.{tied_itself}
use Rattle.std.proofs.lemmas.Slice.Eq.{bytes_eq-Decides}
use Rattle.std.proofs.lemmas.Map.Entries.{lookup_head, lookup_tail}
use Rattle.std.proofs.lemmas.Map.Keys.{sorted_head, sorted_tail}
use Rattle.tx_types.specs.declared.value.Value.{Value}
use Rattle.tx_types.specs.declared.write.WriteRec.{WriteRec}
use Rattle.tx_codec.specs.Keys.{encoded_key}
use Rattle.tx_codec.proofs.Versions.{encoded_key-one}
use Rattle.tx_types.specs.Keys.{is_visible}
use Rattle.tx_plan.specs.cases.Collect.{keeps, commit_is, is_put}
use Rattle.tx_plan.proofs.Collects.{SeenFrom, keeps_above, keeps_put, drops_other, drops_followed}
use Rattle.tx_cells.specs.Heads.{record_kind}
use Rattle.tx_flat.specs.Sieves.{is_followed, is_kept, writes_of}
use Rattle.tx_flat.specs.declared.sieve.Sieve.{Sieve}
use Rattle.tx_spelling.specs.Spelt.{version_cmp, versions_total}
use Rattle.tx_cells.proofs.RecordKinds.{kind_puts, kind_seen, seen_there}
use Rattle.tx_flat.proofs.Above.{less_cases, less_key, less_newer, newer_of}

abbrev pub Version : Type 0
Version = List ℕ × ℕ

abbrev pub Entries : Type 0
Entries = List (Version × WriteRec)

abbrev pub find : {X : Type 0} → Version → List (Version × X) → Option X
find u es = lookup (tree.is_at (version_cmp u)) es

-- ---- entries in order

turn : (a b : Ordering) → a ≡ ordering_reverse b → b ≡ Less → is_eq a ≡ false
turn a b e less = ap is_eq (e ∙ ap ordering_reverse less)

-- a version after the first is looked up among the others
pub find_later : {X : Type 0} (u : Version) (e : Version × X) (es : List (Version × X)) → version_cmp e.0 u ≡ Less
    → find u (e ∷ es) ≡ find u es
find_later u e es less =
    lookup_tail (tree.is_at (version_cmp u)) e es
    (turn (version_cmp u e.0) (version_cmp e.0 u) (versions_total.antisymm u e.0) less)

pub find_first : {X : Type 0} (u : Version) (e : Version × X) (es : List (Version × X)) → u ≡ e.0
    → find u (e ∷ es) ≡ Some e.1
find_first u e es same =
    lookup_head (tree.is_at (version_cmp u)) e es
    (ap is_eq (ap (version_cmp u) (sym same) ∙ tied_itself versions_total u))

-- what comes before all is none of them
pub find_before : {X : Type 0} (u : Version) (es : List (Version × X))
    → AllByRecursion (λ v. version_cmp u v ≡ Less) (keys_of es) → find u es ≡ None
find_before u [] all = refl
find_before u (e ∷ es) all = lookup_tail (tree.is_at (version_cmp u)) e es (ap is_eq all.0) ∙ find_before u es all.1

all_after : (u v : Version) (ks : List Version) → version_cmp u v ≡ Less
    → AllByRecursion (λ w. version_cmp v w ≡ Less) ks → AllByRecursion (λ w. version_cmp u w ≡ Less) ks
all_after u v [] less all = tt
all_after u v (k ∷ ks) less all = (versions_total.trans u v k less all.0, all_after u v ks less all.1)

-- ---- a slot among them: before all, or behind one

abbrev pub Place : Type 0
Place = Option Version

abbrev pub IsAfter : Place → Version → Type 0
IsAfter None u = Unit {0}
IsAfter (Some v) u = version_cmp v u ≡ Less

after_on : (slot : Place) (u w : Version) → IsAfter slot u → version_cmp u w ≡ Less → IsAfter slot w
after_on None u w a less = tt
after_on (Some v) u w a less = versions_total.trans v u w a less

module _ (W : Version → Option WriteRec) where
  -- these entries are all that are behind a slot
  pub record AreLeft (slot : Place) (es : Entries) : Type 0 where
    pub sorted : IsStrictlySortedBy version_cmp (keys_of es)
    pub first : AllByRecursion (IsAfter slot) (keys_of es)
    pub left : (u : Version) → IsAfter slot u → W u ≡ find u es

  all_there : (ks : List Version) → AllByRecursion (IsAfter None) ks
  all_there [] = tt
  all_there (k ∷ ks) = (tt, all_there ks)

  pub left_all : (es : Entries) → IsStrictlySortedBy version_cmp (keys_of es) → ((u : Version) → W u ≡ find u es)
      → AreLeft None es
  left_all es s is = record { sorted = s; first = all_there (keys_of es); left = λ u a. is u }

  module _ (slot : Place) (x : Version) (rec : WriteRec) (es : Entries) (are : AreLeft slot ((x, rec) ∷ es)) where
    pub first_is : W x ≡ Some rec
    first_is = are.left x are.first.0 ∙ find_first x (x, rec) es refl

    -- nothing is between the slot and the first
    pub none_between : (u : Version) → IsAfter slot u → version_cmp u x ≡ Less → W u ≡ None
    none_between u a less =
        are.left u a ∙ find_before u ((x, rec) ∷ es) (
          less,
          all_after u x (keys_of es) less (sorted_head version_cmp x (keys_of es) are.sorted),
        )

    pub left_rest : AreLeft (Some x) es
    left_rest = record {
      sorted = sorted_tail version_cmp x (keys_of es) are.sorted;
      first = sorted_head version_cmp x (keys_of es) are.sorted;
      left = λ u less. are.left u (after_on slot x u are.first.0 less) ∙ find_later u (x, rec) es less;
    }

-- ---- what a pass knows

module _ (W : Version → Option WriteRec) (V : List ℕ → ℕ → Option Value) (safe : ℕ) where
  abbrev pub on : List ℕ → ℕ → Option WriteRec
  on k = λ q. W (k, q)

  -- what collection keeps
  abbrev pub keeps_at : Version → Bool
  keeps_at u = keeps (writes_of (on u.0) (V u.0)) safe u.1

  abbrev visible : List ℕ → ℕ → Bool
  visible k q = commit_is is_visible (writes_of (on k) (V k) q)

  -- behind a version, a pass has its key, and tells whether something visible stands from it up
  -- to the safe point
  abbrev KnowsAt : Sieve → Place → Type 0
  KnowsAt s None = s.followed ≡ false
  KnowsAt s (Some v) = (s.key ≡ encoded_key v.0) × (s.followed ≡ true → SeenFrom (writes_of (on v.0) (V v.0)) v.1 safe)
      × ((q : ℕ) → v.1 ≤ q → q ≤ safe → commit_is is_visible (writes_of (on v.0) (V v.0) q) ≡ true → s.followed ≡ true)

  pub record Knows (s : Sieve) (slot : Place) : Type 0 where
    pub safe_is : s.safe ≡ safe
    pub at : KnowsAt s slot

  pub knows_none : (s : Sieve) → s.safe ≡ safe → s.followed ≡ false → Knows s None
  knows_none s is f = record { safe_is = is; at = f }

  -- a pass goes on
  pub record Goes (s t : Sieve) (x : Version) (rec : WriteRec) : Type 0 where
    pub followed : t.followed ≡ (is_followed s x || (record_kind rec).is_seen && not (nat_lt s.safe x.1))
    pub key : t.key ≡ encoded_key x.0
    pub same : t.safe ≡ s.safe

  module _ (s : Sieve) (slot : Place) (x : Version) (rec : WriteRec) (es : Entries) (knows : Knows s slot) (are :
      AreLeft W slot ((x, rec) ∷ es)) where
    is : on x.0 x.1 ≡ Some rec
    is = first_is W slot x rec es are

    keys_same : (a b : List ℕ) → bytes_eq a b ≡ true → a ≡ b
    keys_same a b e = (bytes_eq-Decides a b).0 e

    -- a record that is followed has something visible above it
    seen_above : is_followed s x ≡ true → SeenFrom (writes_of (on x.0) (V x.0)) (x.1 + 1) safe
    seen_above e = go slot knows.at are.first.0
      where
        both : (s.followed ≡ true) × (bytes_eq s.key (encoded_key x.0) ≡ true)
        both = and_parts s.followed (bytes_eq s.key (encoded_key x.0)) e

        go : (p : Place) → KnowsAt s p → IsAfter p x → SeenFrom (writes_of (on x.0) (V x.0)) (x.1 + 1) safe
        go None k a = (let off = both.0 in absurd (cc (off, k)))
        go (Some v) k a = (
            let one : v.0 ≡ x.0 = encoded_key-one v.0 x.0 (sym k.0 ∙ keys_same s.key (encoded_key x.0) both.1) in
            let newer : x.1 < v.1 = newer_of v x a one in
            let there = k.1 both.0 in
            record {
              at = there.at;
              from = (let f = there.from in omega (arith, f, newer));
              upto = there.upto;
              visible =
                  ap (λ (j : List ℕ). visible j there.at) (sym one) ∙ there.visible;
            })

    -- where something visible is above it, it is followed
    followed_by : (q : ℕ) → x.1 < q → q ≤ safe → visible x.0 q ≡ true → is_followed s x ≡ true
    followed_by q lt le seen =
        go slot knows.at are.first.0 (λ a. none_between W slot x rec es are (x.0, q) a (less_newer x.0 q x.1 lt))
      where
        there : on x.0 q ≡ None → ⊥
        there none = (let h = seen_there (on x.0) (V x.0) q seen in let some = h.1 in cc (none, some))

        go : (p : Place) → KnowsAt s p → IsAfter p x → (IsAfter p (x.0, q) → on x.0 q ≡ None) → is_followed s x ≡ true
        go None k a none = absurd (there (none tt))
        go (Some v) k a none = elim (less_cases v x a) [
          | inl less ↦ absurd (there (none (less_key v (x.0, q) less)))
          | inr same ↦ (
              let one : v.0 ≡ x.0 = same.0 in
              let upto : v.1 ≤ q = elim (cases_lt q v.1) [
                | inl newer ↦
                    absurd (there (none (ap (λ (j : List ℕ). version_cmp (j, v.1) (x.0, q)) one
                    ∙ less_newer x.0 v.1 q newer)))
                | inr le ↦ le
              ] in
              let f : s.followed ≡ true = k.2 q upto le (ap (λ (j : List ℕ). visible j q) one ∙ seen) in
              let keys : bytes_eq s.key (encoded_key x.0) ≡ true =
              (bytes_eq-Decides s.key (encoded_key x.0)).1 (k.0 ∙ ap encoded_key one) in
              ap (λ b. b && bytes_eq s.key (encoded_key x.0)) f ∙ keys
              )
        ]

    pub says : is_kept s x rec ≡ keeps_at x
    says = ap (λ n. not (nat_lt x.1 n) || (record_kind rec).puts && not (is_followed s x)) knows.safe_is
        ∙ elim (cases_lt x.1 safe) [
          | inl lt ↦ ap (λ b. not b || (record_kind rec).puts && not (is_followed s x)) (lt-ltb x.1 safe lt) ∙ below lt
          | inr le ↦ ap (λ b. not b || (record_kind rec).puts && not (is_followed s x)) (le-ltb x.1 safe le)
              ∙ sym (keeps_above (writes_of (on x.0) (V x.0)) safe x.1 le)
        ]
      where
        puts : (record_kind rec).puts ≡ commit_is is_put (writes_of (on x.0) (V x.0) x.1)
        puts = kind_puts (on x.0) (V x.0) x.1 rec is

        below : x.1 < safe → ((record_kind rec).puts && not (is_followed s x)) ≡ keeps_at x
        below lt = elim (cases_Bool (record_kind rec).puts) [
          | inr off ↦ ap (λ b. b && not (is_followed s x)) off
              ∙ sym (drops_other (writes_of (on x.0) (V x.0)) safe x.1 lt (sym puts ∙ off))
          | inl put ↦ ap (λ b. b && not (is_followed s x)) put ∙ elim (cases_Bool (is_followed s x)) [
            | inl f ↦ ap not f ∙ sym (drops_followed (writes_of (on x.0) (V x.0)) safe x.1 lt (seen_above f))
            | inr f ↦ ap not f ∙ sym
                (keeps_put (writes_of (on x.0) (V x.0)) safe x.1 lt (sym puts
                ∙ put) (λ q above upto. unseen f q (omega (arith, above)) upto))
          ]
        ]
          where
            unseen : is_followed s x ≡ false → (q : ℕ) → x.1 < q → q ≤ safe → visible x.0 q ≡ false
            unseen f q up le = elim (cases_Bool (visible x.0 q)) [
              | inl seen ↦
                  (let g = followed_by q up le seen in absurd (cc (f, g)))
              | inr e ↦ e
            ]

    pub knows_on : (t : Sieve) → Goes s t x rec → Knows t (Some x)
    knows_on t g = record { safe_is = g.same ∙ knows.safe_is; at = (g.key, there, known) }
      where
        here : (record_kind rec).is_seen ≡ visible x.0 x.1
        here = kind_seen (on x.0) (V x.0) x.1 rec is

        there : t.followed ≡ true → SeenFrom (writes_of (on x.0) (V x.0)) x.1 safe
        there e = elim (or_cases (is_followed s x) ((record_kind rec).is_seen
            && not (nat_lt s.safe x.1)) (sym g.followed ∙ e)) [
              | inl f ↦ (let s = seen_above f in
                  record {
                    at = s.at;
                    from = (let from = s.from in omega (arith, from));
                    upto = s.upto;
                    visible =
                        s.visible;
                  })
              | inr now ↦ (
                  let both = and_parts (record_kind rec).is_seen (not (nat_lt s.safe x.1)) now in
                  record { at = x.1; from = omega arith; upto = upto both.1; visible = sym here ∙ both.0 }
                  )
            ]
          where
            upto : not (nat_lt s.safe x.1) ≡ true → x.1 ≤ safe
            upto n = elim (cases_lt safe x.1) [
              | inl lt ↦ (let b = ap (λ m. nat_lt m x.1) knows.safe_is ∙ lt-ltb safe x.1 lt in let off = ap not b in
                  absurd (cc (off, n)))
              | inr le ↦ le
            ]

        known : (q : ℕ) → x.1 ≤ q → q ≤ safe → visible x.0 q ≡ true → t.followed ≡ true
        known q from upto seen = g.followed ∙ elim (cases_lt x.1 q) [
          | inl lt ↦ (let f = followed_by q lt upto seen in
              ap (λ b. b || (record_kind rec).is_seen && not (nat_lt s.safe x.1)) f)
          | inr le ↦ (
              let same : q ≡ x.1 = omega (arith, from, le) in
              let now : (record_kind rec).is_seen ≡ true = here ∙ ap (visible x.0) (sym same) ∙ seen in
              let low : nat_lt s.safe x.1 ≡ false =
              ap (λ m. nat_lt m x.1) knows.safe_is ∙ le-ltb safe x.1 (omega (arith, upto, same)) in
              ap (λ b. is_followed s x || b && not (nat_lt s.safe x.1)) now ∙ ap (λ b. is_followed s x || not b) low
              ∙ or_true (is_followed s x)
              )
        ]
          where
            or_true : (b : Bool) → (b || true) ≡ true
            or_true true = refl
            or_true false = refl
