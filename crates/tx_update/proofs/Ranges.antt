-- The rows of a range at the start, and what was entered over them.
use Rattle.std.proofs.Common.{◌≡◌, ℕ, ◌&&◌, Bool, true, false, cond, List, [], ◌∷◌, ◌++◌, Option, Some, None, bytes_eq, IsTrue, refl, sym, ap, subst, ◌∙◌}
use Rattle.tx_types.specs.declared.key.Key.{Key}
use Rattle.tx_types.specs.declared.value.Value.{Value}
use Rattle.tx_types.specs.declared.mutation.Change.{Change}
use Rattle.tx_types.specs.declared.mutation.KeyValue.{KeyValue}
use Rattle.tx_types.specs.declared.mutation.Mutation.{Mutation}
use Rattle.tx_types.specs.declared.mutation.Mutation.TheVariants as mutation
use Rattle.tx_types.specs.Keys.{key_lt, key_le, is_between, value_in}
use Rattle.tx_plan.proofs.KeyOrder.{lt_trans, lt_itself, le_lt, lt_then_le}
use Rattle.tx_machine.specs.Machine.{Sees, table_of}
use Rattle.tx_core.specs.declared.event.Declaration.{Declaration}
use Rattle.tx_core.specs.Histories.{History, Begins}
use Rattle.tx_core.specs.Shadow.{shadow}
use Rattle.tx_core.specs.Worlds.{IsWorldRun}
use Rattle.tx_core.proofs.seats.Beginnings.{begins_all, begins_more}
use Rattle.tx_transaction.specs.declared.state.Terms.{Terms}
use Rattle.tx_transaction.specs.Buffers.{Entries, buffered, changes_of, is_known}
use Rattle.tx_transaction.specs.Sessions.{declaration}
use Rattle.tx_laws.specs.Rows.{AreRowsOf}
use Rattle.tx_update.specs.Ranges.{AreEntered, begin_of, entry_in, greatest, is_in_range, over, row_of}
use Rattle.tx_update.specs.Reads.{Beneath, Finds, FindsRange, SeesOn}
use Rattle.tx_laws.proofs.Pages.{and_split, between_both, le_trans, same_keys, tells_more}
use Rattle.tx_update.proofs.Pages.{top_with, top_without}

-- what each run from then on shows, each later one does
pub sees_later : (bounds : List Key) (old new : History) (start : ℕ) → Begins old new → (k : Key) (o : Option Value)
    → SeesOn bounds old start k o → SeesOn bounds new start k o
sees_later bounds old new start begins k o sees h goes run = sees h (begins_more old new h begins goes) run

-- what is seen lies beneath what was entered
beneath_seen : (entries : Entries) (h : History) (start : ℕ) (k : Key) (o : Option Value)
    → Sees (table_of (shadow h)).row k start o → Beneath entries h start k o
beneath_seen entries h start k o sees = by (is_known (buffered entries k))
  where
    by : (b : Bool) → cond b (Unit {0}) (Sees (table_of (shadow h)).row k start o)
    by true = tt
    by false = sees

-- and so does what is found
beneath_found : (m : Option Mutation) (h : History) (start : ℕ) (k : Key) (o : Option Value) → Finds m h start k o
    → cond (is_known m) (Unit {0}) (Sees (table_of (shadow h)).row k start o)
beneath_found (Some (mutation.Put v)) h start k o found = tt
beneath_found (Some (mutation.Insert v)) h start k o found = tt
beneath_found (Some mutation.Delete) h start k o found = tt
beneath_found (Some mutation.Lock) h start k o found = found
beneath_found None h start k o found = found

-- what was entered, over what lies beneath it, is what is found
over_found : (m : Option Mutation) (h : History) (start : ℕ) (k : Key) (o : Option Value)
    → cond (is_known m) (Unit {0}) (Sees (table_of (shadow h)).row k start o) → Finds m h start k (over m o)
over_found (Some (mutation.Put v)) h start k o seen = refl
over_found (Some (mutation.Insert v)) h start k o seen = refl
over_found (Some mutation.Delete) h start k o seen = refl
over_found (Some mutation.Lock) h start k o seen = seen
over_found None h start k o seen = seen

-- ---- the rows of a range, from those of its pages

module _ (bounds : List Key) (known : History) (start : ℕ) (tells : Key → Option Value → Type 0) (now : (k : Key) (o :
    Option Value) → SeesOn bounds known start k o → tells k o) where
  -- the rows of a range that ends below a key
  pub range_upto : (from to : Key) (rows : List KeyValue)
      → AreRowsOf (is_between from to) (SeesOn bounds known start) rows
      → AreRowsOf (is_in_range (Some from) (Some to)) tells rows
  range_upto from to rows h =
      same_keys tells (is_between from to) (is_in_range (Some from) (Some to)) (λ k e. e) (λ k e. e) rows
      (tells_more (SeesOn bounds known start) tells now (is_between from to) rows h)

  module _ (old : History) (begins : Begins old known) (from top : Key) (is : top ≡ greatest) (rows : List KeyValue)
      (h : AreRowsOf (is_between from top) (SeesOn bounds old start) rows) where
    below_top : AreRowsOf (is_between from top) tells rows
    below_top =
        tells_more (SeesOn bounds old start) tells
        (λ k o sees. now k o (sees_later bounds old known start begins k o sees)) (is_between from top) rows h

    -- the keys up to the greatest
    upto_top : (all : List KeyValue) → AreRowsOf (λ k. key_le from k && key_le k top) tells all
        → AreRowsOf (is_in_range (Some from) None) tells all
    upto_top all it =
        same_keys tells (λ k. key_le from k && key_le k top) (is_in_range (Some from) None)
        (λ k e. subst (λ t. IsTrue (key_le from k && key_le k t)) is e)
        (λ k e. subst (λ t. IsTrue (key_le from k && key_le k t)) (sym is) e) all it

    -- the rows of a range up to the greatest key, with the row of that
    pub range_with_top : IsTrue (key_le from top) → (o : Option Value) → tells top o
        → AreRowsOf (is_in_range (Some from) None) tells (rows ++ row_of top o)
    range_with_top up None told =
        subst (AreRowsOf (is_in_range (Some from) None) tells) (sym (append_none rows))
        (upto_top rows (top_without tells from top up rows below_top told))
      where
        append_none : (xs : List KeyValue) → xs ++ [] ≡ xs
        append_none [] = refl
        append_none (x ∷ xs) = ap (λ (ys : List KeyValue). x ∷ ys) (append_none xs)
    range_with_top up (Some v) told =
        upto_top (rows ++ row_of top (Some v)) (top_with tells from top up rows below_top v told)

-- a range that begins above the greatest key has no row
pub range_above : (tells also : Key → Option Value → Type 0) (from top : Key) → top ≡ greatest
    → IsTrue (key_lt top from)
    → (rows : List KeyValue) → AreRowsOf (is_between from top) tells rows
    → AreRowsOf (is_in_range (Some from) None) also rows
range_above tells also from top is above rows h = record {
  rising = h.rising;
  within = λ k v e. absurd (let both = between_both from top k (h.within k v e) in
      lt_itself from (le_lt from k from both.0 (lt_trans k top from both.1 above)));
  each = λ k inside. absurd (
      let both = and_split (key_le from k) (key_le k greatest) inside in
      let below : IsTrue (key_le k top) = subst (λ t. IsTrue (key_le k t)) (sym is) both.1 in
      lt_itself top (lt_then_le top from top above (le_trans from k top both.0 below))
      );
}

-- ---- the same, beneath what was entered

module _ (bounds : List Key) (entries : Entries) (known : History) (run : IsWorldRun bounds known) (start : ℕ) where
  now : (k : Key) (o : Option Value) → SeesOn bounds known start k o → Beneath entries known start k o
  now k o sees = beneath_seen entries known start k o (sees known (begins_all known) run)

  pub upto_key : (from to : Key) (rows : List KeyValue)
      → AreRowsOf (is_between from to) (SeesOn bounds known start) rows
      → AreRowsOf (is_in_range (Some from) (Some to)) (Beneath entries known start) rows
  upto_key from to rows h = range_upto bounds known start (Beneath entries known start) now from to rows h

  pub with_top : (old : History) → Begins old known → (from top : Key) → top ≡ greatest → (rows : List KeyValue)
      → AreRowsOf (is_between from top) (SeesOn bounds old start) rows → IsTrue (key_le from top)
      → (o : Option Value) → Finds (buffered entries top) known start top o
      → AreRowsOf (is_in_range (Some from) None) (Beneath entries known start) (rows ++ row_of top o)
  with_top old begins from top is rows h up o found =
      range_with_top bounds known start (Beneath entries known start) now old begins from top is rows h up o
      (beneath_found (buffered entries top) known start top o found)

pub above_top : (bounds : List Key) (entries : Entries) (known : History) (start : ℕ) (old : History) (from top : Key)
    → top ≡ greatest → IsTrue (key_lt top from) → (rows : List KeyValue)
    → AreRowsOf (is_between from top) (SeesOn bounds old start) rows
    → AreRowsOf (is_in_range (Some from) None) (Beneath entries known start) rows
above_top bounds entries known start old = range_above (SeesOn bounds old start) (Beneath entries known start)

-- ---- what was entered

-- what the first change of a key does to it is what is buffered of it
entry_of : (es : Entries) (k : Key) → entry_in (changes_of es) k ≡ buffered es k
entry_of [] k = refl
entry_of (e ∷ es) k = ap (λ o. cond (bytes_eq e.0 k) (Some e.1.mutation) o) (entry_of es k)

-- the rows of a range, with what was entered over them
pub entered_found : (entries : Entries) (h : History) (start : ℕ) (from to : Option Key) (low : Key) (high : Option Key)
    → low ≡ begin_of from → high ≡ to → (changes : List Change) → changes ≡ changes_of entries
    → (old new : List KeyValue)
    → AreRowsOf (is_in_range (Some low) high) (Beneath entries h start) old
    → AreEntered (is_in_range (Some low) high) changes old new → FindsRange entries h start from to new
entered_found entries h start from to low high low_is high_is changes same old new rows entered =
    same_keys (λ k o. Finds (buffered entries k) h start k o) (is_in_range (Some low) high) (is_in_range from to)
    (λ k e. subst (λ (x : Key × Option Key). IsTrue (is_in_range (Some x.0) x.1 k)) ends e)
    (λ k e. subst (λ (x : Key × Option Key). IsTrue (is_in_range (Some x.0) x.1 k)) (sym ends) e) new (record {
      rising = entered.rising;
      within = entered.within;
      each = λ k inside. subst (Finds (buffered entries k) h start k) (sym (told k inside))
          (over_found (buffered entries k) h start k (value_in old k) (rows.each k inside));
    })
  where
    ends : ◌≡◌ {A = Key × Option Key} (low, high) (begin_of from, to)
    ends = subst (λ (x : Key). ◌≡◌ {A = Key × Option Key} (low, high) (x, to)) low_is
        (subst (λ (y : Option Key). ◌≡◌ {A = Key × Option Key} (low, high) (low, y)) high_is refl)

    told : (k : Key) → IsTrue (is_in_range (Some low) high k)
        → value_in new k ≡ over (buffered entries k) (value_in old k)
    told k inside = entered.each k inside
        ∙ ap (λ o. over o (value_in old k))
        (ap (λ (cs : List Change). entry_in cs k) same ∙ entry_of entries k)

-- the changes of what is to be declared are those that were entered
pub declared_changes : (start placed : ℕ) (es : Entries) (terms : Terms) (d : Declaration)
    → Some d ≡ declaration start placed es terms → d.changes ≡ changes_of es
declared_changes start placed [] terms d is = absurd (cc (is))
declared_changes start placed (e ∷ es) terms d is =
    ap (λ (o : Option Declaration). elim o [ None ↦ d.changes | Some x ↦ x.changes ]) is

pub nothing_declared : (start placed : ℕ) (es : Entries) (terms : Terms) → None ≡ declaration start placed es terms
    → [] ≡ changes_of es
nothing_declared start placed [] terms is = refl
nothing_declared start placed (e ∷ es) terms is = absurd (cc (is))
