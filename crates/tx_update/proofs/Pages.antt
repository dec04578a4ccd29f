-- The rows of pages, one behind the other, are the rows of their range, and its last key may be
-- read by itself.
use Rattle.std.proofs.Common.{◌≡◌, ◌⊎◌, ◌&&◌, inl, inr, ℕ, Bool, List, [], ◌∷◌, ◌++◌, Option, Some, None, IsTrue, refl, sym, subst, ◌∙◌}
use Rattle.tx_types.specs.declared.key.Key.{Key}
use Rattle.tx_types.specs.declared.value.Value.{Value}
use Rattle.tx_types.specs.declared.mutation.KeyValue.{KeyValue}
use Rattle.tx_types.specs.Keys.{key_lt, key_le, is_between, is_scanned, value_in}
use Rattle.tx_machine.proofs.Basics.{key_test, none_is}
use Rattle.tx_plan.proofs.KeyOrder.{lt_itself, lt_le, le_itself, le_cases, le_lt, lt_then_le}
use Rattle.tx_laws.specs.Rows.{AreRowsOf}
use Rattle.tx_laws.proofs.Pages.{Has, and_both, and_split, between, between_both, front_of_page, has_or, joined, last_within, le_trans, none_there, own_value, rising_both, short_page, tells_more, value_behind, value_first}
use Rattle.tx_update.specs.Ranges.{IsSplit, row_with}

module _ (tells : Key → Option Value → Type 0) where
  -- a range with the key that it goes up to
  module _ (low top : Key) (up : IsTrue (key_le low top)) (xs : List KeyValue)
      (h : AreRowsOf (is_between low top) tells xs) where
    abbrev upto : Key → Bool
    upto k = key_le low k && key_le k top

    nothing_there : value_in xs top ≡ None
    nothing_there = none_is (value_in xs top) (λ v e. lt_itself top (between_both low top top (h.within top v e)).1)

    pub top_without : tells top None → AreRowsOf upto tells xs
    top_without told = record {
      rising = h.rising;
      within = λ k v e. (let both = between_both low top k (h.within k v e) in
          and_both (key_le low k) (key_le k top) both.0 (lt_le k top both.1));
      each = λ k inside. (let both = and_split (key_le low k) (key_le k top) inside in elim (le_cases k top both.1) [
        | inl below ↦ h.each k (between low top k both.0 below)
        | inr is ↦ subst (λ j. tells j (value_in xs j)) (sym is) (subst (tells top) (sym nothing_there) told)
      ]);
    }

    pub top_with : (v : Value) → tells top (Some v) → AreRowsOf upto tells (xs ++ row_with top v ∷ [])
    top_with v told = record {
      rising = rising_both xs (row_with top v ∷ []) h.rising tt apart;
      within = inside_of;
      each = λ k inside. (let both = and_split (key_le low k) (key_le k top) inside in elim (le_cases k top both.1) [
        | inl below ↦ subst (tells k) (sym (value_below k below)) (h.each k (between low top k both.0 below))
        | inr is ↦ subst (λ j. tells j (value_in (xs ++ row_with top v ∷ []) j)) (sym is)
            (subst (tells top) (sym value_top) told)
      ]);
    }
      where
        apart : (j k : Key) → Has xs j → Has (row_with top v ∷ []) k → IsTrue (key_lt j k)
        apart j k a b = elim (key_test top k) [
          | inl t ↦ subst (λ i. IsTrue (key_lt j i)) t.1 (between_both low top j (h.within j a.0 a.1)).1
          | inr t ↦ absurd (let none : None ≡ Some b.0 = rw t.0 at b.1 in cc (none))
        ]

        value_top : value_in (xs ++ row_with top v ∷ []) top ≡ Some v
        value_top = value_behind xs (row_with top v ∷ []) top nothing_there ∙ own_value (row_with top v) []

        value_below : (k : Key) → IsTrue (key_lt k top) → value_in (xs ++ row_with top v ∷ []) k ≡ value_in xs k
        value_below k below = elim (has_or (value_in xs k)) [
          | inl there ↦ value_first xs (row_with top v ∷ []) k there.0 there.1 ∙ sym there.1
          | inr none ↦ value_behind xs (row_with top v ∷ []) k none
              ∙ (none_is (value_in (row_with top v ∷ []) k) (λ w e. elim (key_test top k) [
                | inl t ↦ lt_itself k (subst (λ i. IsTrue (key_lt k i)) t.1 below)
                | inr t ↦ (let nothing : None ≡ Some w = rw t.0 at e in cc (nothing))
              ]) ∙ sym none)
        ]

        inside_of : (k : Key) (w : Value) → value_in (xs ++ row_with top v ∷ []) k ≡ Some w → IsTrue (upto k)
        inside_of k w e = elim (has_or (value_in xs k)) [
          | inl there ↦ (let both = between_both low top k (h.within k there.0 there.1) in
              and_both (key_le low k) (key_le k top) both.0 (lt_le k top both.1))
          | inr none ↦ elim (key_test top k) [
            | inl t ↦ subst (λ j. IsTrue (upto j)) t.1 (and_both (key_le low top) (key_le top top) up (le_itself top))
            | inr t ↦ absurd (let nothing : None ≡ Some w =
                rw t.0 at (sym (value_behind xs (row_with top v ∷ []) k none) ∙ e) in
                cc (nothing))
          ]
        ]

-- ---- pages, one behind the other

module _ (tells : Key → Option Value → Type 0) (from to : Key) where
  -- the rows so far are those of the range up to a key, at which the next page begins
  abbrev pub AreSoFar : Key → List KeyValue → Type 0
  AreSoFar next rows = AreRowsOf (is_between from next) tells rows × IsTrue (key_le from next)
      × (IsTrue (key_le next to) ⊎ (rows ≡ []))

  pub none_so_far : AreSoFar from []
  none_so_far = (
    none_there tells (is_between from from) (λ k inside. let both = between_both from from k inside in
        lt_itself from (le_lt from k from both.0 both.1)),
    le_itself from,
    inr refl,
  )

  module _ (limit : ℕ) (at end next : Key) (old page front : List KeyValue) (h : AreSoFar at old)
      (on : IsTrue (key_le at end)) (upto : IsTrue (key_le end to))
      (p : AreRowsOf (is_scanned at end limit page) tells page) where
    -- one page more
    pub more_so_far : IsSplit limit page end front next → AreSoFar next (old ++ front)
    more_so_far (inl (short, rows, same)) =
        subst (λ (k : Key). AreSoFar k (old ++ front)) (sym same)
        (subst (λ (r : List KeyValue). AreSoFar end (old ++ r)) (sym rows) (
          joined tells from at end h.1 on old page h.0 (short_page tells at end limit page p short),
          le_trans from at end h.1 on,
          inl upto,
        ))
    more_so_far (inr (v, is)) =
        let q : AreRowsOf (is_scanned at end limit (front ++ row_with next v ∷ [])) tells
        (front ++ row_with next v ∷ []) =
        subst (λ (r : List KeyValue). AreRowsOf (is_scanned at end limit r) tells r) is p in
        let inside = between_both at end next (last_within tells at end limit front (row_with next v) q) in (
          joined tells from at next h.1 inside.0 old front h.0
              (front_of_page tells at end limit front (row_with next v) q),
          le_trans from at next h.1 inside.0,
          inl (le_trans next end to (lt_le next end inside.1) upto),
        )

  -- a page at the front
  pub first_page : (limit : ℕ) (next : Key) (page front : List KeyValue) → IsTrue (key_le from to)
      → AreRowsOf (is_scanned from to limit page) tells page → IsSplit limit page to front next
      → AreRowsOf (is_between from next) tells front
  first_page limit next page front on p split =
      (more_so_far limit from to next [] page front none_so_far on (le_itself to) p split).0

  -- all are there once the next page would begin at the end
  pub all_so_far : (next : Key) (rows : List KeyValue) → AreSoFar next rows → IsTrue (key_le to next)
      → AreRowsOf (is_between from to) tells rows
  all_so_far next rows (h, up, ends) le = record {
    rising = h.rising;
    within = λ k v e. elim ends [
      | inl upto ↦ (let both = between_both from next k (h.within k v e) in
          between from to k both.0 (lt_then_le k next to both.1 upto))
      | inr none ↦ absurd (let nothing : None ≡ Some v = subst (λ (r : List KeyValue). value_in r k ≡ Some v) none e in
          cc (nothing))
    ];
    each = λ k inside. let both = between_both from to k inside in
        h.each k (between from next k both.0 (lt_then_le k to next both.1 le));
  }

-- what more was told by then
pub later_so_far : (tells also : Key → Option Value → Type 0) → ((k : Key) (o : Option Value) → tells k o → also k o)
    → (from to next : Key) (rows : List KeyValue) → AreSoFar tells from to next rows
    → AreSoFar also from to next rows
later_so_far tells also on from to next rows (h, up, ends) =
    (tells_more tells also on (is_between from next) rows h, up, ends)
