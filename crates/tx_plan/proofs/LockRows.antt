-- The locks of a region that started below a timestamp, from a walk over its locks.
use Rattle.std.proofs.Common.{◌≡◌, ◌⊎◌, inl, inr, refl, sym, ap, ◌∙◌, subst, cond, List, [], ◌∷◌, ◌++◌, append_assoc, append-nil, ℕ, zero, suc, ◌<◌, ◌≤◌, arith, Some}
use Rattle.std.specs.Prelude.{IsTrue, bytes_eq, nat_lt, Contains, Option, None, MatchOption, option_map}
use Rattle.std.proofs.lemmas.Bool.{cases_Bool, lt-ltb, le-ltb, ltb-true}
use Rattle.tx_types.specs.declared.key.Key.{Key}
use Rattle.tx_types.specs.declared.lock.LockInfo.{LockInfo}
use Rattle.tx_types.specs.Keys.{key_lt, KeysRise}
use Rattle.tx_plan.specs.Cells.{Lock, Cells, info_of}
use Rattle.tx_plan.specs.Walks.{LockRow, LocksInOrder, lock_by, IsLockWalk}
use Rattle.tx_plan.specs.cases.LocksBelow.{IsLockBelow, AllBelow}
use Rattle.tx_plan.specs.cases.Collect.{SomeLockBelow, IsFirstBelow}
use Rattle.tx_plan.specs.Views.{LockComesNext, info_on}
use Rattle.tx_plan.specs.declared.view.LockHead.{LockHead}
use Rattle.tx_plan.proofs.KeyOrder.{lt_trans, lt_other, lt_itself, key_same, same_key}

-- what is told of the rows whose locks started below s
abbrev pub told_below : ℕ → List LockRow → List LockInfo
told_below s [] = []
told_below s (x ∷ rows) = cond (nat_lt x.lock.start s) (info_of x.key x.lock ∷ told_below s rows) (told_below s rows)

-- ---- elements of a list

pub contains_next : {X : Type 0} (x : X) (xs : List X) (y : X) → Contains xs y → Contains (x ∷ xs) y
contains_next x xs y h = (suc h.0, omega (arith, h.1), h.2)

pub contains_first : {X : Type 0} (x : X) (xs : List X) → Contains (x ∷ xs) x
contains_first x xs = (zero, omega arith, refl)

pub contains_cases : {X : Type 0} (x : X) (xs : List X) (y : X) → Contains (x ∷ xs) y → (x ≡ y) ⊎ Contains xs y
contains_cases x xs y (zero, h, e) = inl e
contains_cases x xs y (suc k, h, e) = inr (k, omega (arith, h), e)

pub contains_none : {X : Type 0} (y : X) → Contains {X = X} [] y → ⊥
contains_none y h = omega (arith, h.1)

-- ---- the order of the keys

abbrev pub Rising : List LockInfo → Type 0
Rising infos = KeysRise (λ (info : LockInfo). info.key) infos

-- a key comes before the first of these
abbrev pub IsBeforeInfos : Key → List LockInfo → Type 0
IsBeforeInfos k [] = Unit {0}
IsBeforeInfos k (x ∷ infos) = IsTrue (key_lt k x.key)

abbrev pub IsBeforeRows : Key → List LockRow → Type 0
IsBeforeRows k [] = Unit {0}
IsBeforeRows k (x ∷ rows) = IsTrue (key_lt k x.key)

rest_in_order : (x : LockRow) (rows : List LockRow) → LocksInOrder (x ∷ rows)
    → LocksInOrder rows × IsBeforeRows x.key rows
rest_in_order x [] h = (tt, tt)
rest_in_order x (y ∷ rows) h = (h.1, h.0)

before_later : (k : Key) (x : LockRow) (rows : List LockRow) → IsTrue (key_lt k x.key) → IsBeforeRows x.key rows
    → IsBeforeRows k rows
before_later k x [] lt h = tt
before_later k x (y ∷ rows) lt h = lt_trans k x.key y.key lt h

before_told : (s : ℕ) (k : Key) (rows : List LockRow) → LocksInOrder rows → IsBeforeRows k rows
    → IsBeforeInfos k (told_below s rows)
before_told s k [] h lt = tt
before_told s k (x ∷ rows) h lt =
    let rest = rest_in_order x rows h in
    elim (cases_Bool (nat_lt x.lock.start s)) [
      | inl below ↦ (rw below lt)
      | inr above ↦ (rw above (before_told s k rows rest.0 (before_later k x rows lt rest.1)))
    ]

rising_with : (x : LockInfo) (infos : List LockInfo) → Rising infos → IsBeforeInfos x.key infos → Rising (x ∷ infos)
rising_with x [] h lt = tt
rising_with x (y ∷ infos) h lt = (lt, h)

told_rising : (s : ℕ) (rows : List LockRow) → LocksInOrder rows → Rising (told_below s rows)
told_rising s [] h = tt
told_rising s (x ∷ rows) h =
    let rest = rest_in_order x rows h in
    elim (cases_Bool (nat_lt x.lock.start s)) [
      | inl below ↦ (rw below
          (rising_with (info_of x.key x.lock) (told_below s rows) (told_rising s rows rest.0)
          (before_told s x.key rows rest.0 rest.1)))
      | inr above ↦ (rw above (told_rising s rows rest.0))
    ]

-- ---- which locks are told

-- each row's lock stands in the region
abbrev pub RowsStand : (Key → Cells) → List LockRow → Type 0
RowsStand cells [] = Unit {0}
RowsStand cells (x ∷ rows) = ((cells x.key).lock ≡ Some x.lock) × RowsStand cells rows

-- the keys of rows that come after one are others
lock_later : (k : Key) (x : LockRow) (rows : List LockRow) → IsBeforeRows k rows → LocksInOrder rows
    → (y : Key) (lock : Lock) → lock_by rows y ≡ Some lock → IsTrue (key_lt k y)
lock_later k x [] lt h y lock e = absurd (cc (e))
lock_later k x (z ∷ rows) lt h y lock e =
    let rest = rest_in_order z rows h in
    elim (cases_Bool (bytes_eq z.key y)) [
      | inl same ↦ subst (λ q. IsTrue (key_lt k q)) (same_key z.key y same) lt
      | inr other ↦ (let past : lock_by rows y ≡ Some lock =
          (let e2 : lock_by (z ∷ rows) y ≡ lock_by rows y = rw other refl in sym e2 ∙ e) in
          lock_later k x rows (before_later k z rows lt rest.1) rest.0 y lock past)
    ]

pub rows_stand : (cells : Key → Cells) (rows : List LockRow) → LocksInOrder rows
    → ((k : Key) (lock : Lock) → lock_by rows k ≡ Some lock → (cells k).lock ≡ Some lock) → RowsStand cells rows
rows_stand cells [] h all = tt
rows_stand cells (x ∷ rows) h all =
    let rest = rest_in_order x rows h in (
      all x.key x.lock (rw (key_same x.key) refl),
      rows_stand cells rows rest.0
          (λ k lock e. all k lock (rw (lt_other x.key k (lock_later x.key x rows rest.1 rest.0 k lock e)) e)),
    )

told_stand : (cells : Key → Cells) (s : ℕ) (rows : List LockRow) → RowsStand cells rows → (info : LockInfo)
    → Contains (told_below s rows) info → IsLockBelow cells s info
told_stand cells s [] h info c = absurd (contains_none info c)
told_stand cells s (x ∷ rows) h info c =
    elim (cases_Bool (nat_lt x.lock.start s)) [
      | inl below ↦ (let c2 : Contains (info_of x.key x.lock ∷ told_below s rows) info = rw below at c in
          elim (contains_cases (info_of x.key x.lock) (told_below s rows) info c2) [
            | inl e ↦ subst (IsLockBelow cells s) e
                (record { lock = x.lock; stands = h.0; told = refl; below = ltb-true x.lock.start s below })
            | inr later ↦ told_stand cells s rows h.1 info later
          ])
      | inr above ↦ (let c2 : Contains (told_below s rows) info = rw above at c in told_stand cells s rows h.1 info c2)
    ]

told_each : (s : ℕ) (rows : List LockRow) (k : Key) (lock : Lock) → lock_by rows k ≡ Some lock → lock.start < s
    → Contains (told_below s rows) (info_of k lock)
told_each s [] k lock e below = absurd (cc (e))
told_each s (x ∷ rows) k lock e below =
    elim (cases_Bool (bytes_eq x.key k)) [
      | inl same ↦ (let first : Some x.lock ≡ Some lock =
          (let e2 : lock_by (x ∷ rows) k ≡ Some x.lock = rw same refl in sym e2 ∙ e) in
          let lock_is : x.lock ≡ lock = cc (first) in
          let here : Contains (told_below s (x ∷ rows)) (info_of x.key x.lock) =
          rw (lt-ltb x.lock.start s (subst (λ (l : Lock). l.start < s) (sym lock_is) below))
          (contains_first (info_of x.key x.lock) (told_below s rows)) in
          subst (λ (l : Lock). Contains (told_below s (x ∷ rows)) (info_of k l)) lock_is
          (subst (λ q. Contains (told_below s (x ∷ rows)) (info_of q x.lock)) (same_key x.key k same) here))
      | inr other ↦ (let past : lock_by rows k ≡ Some lock =
          (let e2 : lock_by (x ∷ rows) k ≡ lock_by rows k = rw other refl in sym e2 ∙ e) in
          let there = told_each s rows k lock past below in
          elim (cases_Bool (nat_lt x.lock.start s)) [
            | inl b ↦ (rw b (contains_next (info_of x.key x.lock) (told_below s rows) (info_of k lock) there))
            | inr a ↦ (rw a there)
          ])
    ]

-- a walk over all locks tells of all that started below s
pub told_all : (cells : Key → Cells) (s : ℕ) (rows : List LockRow) → IsLockWalk cells rows
    → AllBelow cells s (told_below s rows)
told_all cells s rows walk = record {
  rising = told_rising s rows walk.rising;
  stand = told_stand cells s rows (rows_stand cells rows walk.rising (λ k lock e. walk.all k ∙ e));
  each = λ info is. subst (Contains (told_below s rows)) (sym is.told)
      (told_each s rows info.key is.lock (sym (walk.all info.key) ∙ is.stands) is.below);
}

-- ---- the first of them

first_rising : (x : LockInfo) (infos : List LockInfo) (other : LockInfo) → Rising (x ∷ infos)
    → Contains (x ∷ infos) other → IsTrue (key_lt other.key x.key) → ⊥
first_rising x [] other h c lt =
    elim (contains_cases x [] other c) [
      | inl e ↦
          lt_itself x.key (subst (λ (i : LockInfo). IsTrue (key_lt i.key x.key)) (sym e) lt)
      | inr later ↦ contains_none other later
    ]
first_rising x (y ∷ infos) other h c lt =
    elim (contains_cases x (y ∷ infos) other c) [
      | inl e ↦
          lt_itself x.key (subst (λ (i : LockInfo). IsTrue (key_lt i.key x.key)) (sym e) lt)
      | inr later ↦ first_rising y infos other h.1 later (lt_trans other.key x.key y.key lt h.0)
    ]

pub first_told : (cells : Key → Cells) (s : ℕ) (x : LockInfo) (infos : List LockInfo) → AllBelow cells s (x ∷ infos)
    → IsFirstBelow cells s x
first_told cells s x infos all = record {
  stands = all.stand x (contains_first x infos);
  first = λ other is lt. first_rising x infos other all.rising (all.each other is) lt;
}

pub none_told : (cells : Key → Cells) (s : ℕ) → AllBelow cells s [] → SomeLockBelow cells s → ⊥
none_told cells s all some = contains_none some.0 (all.each some.0 some.1)

-- ---- a loop over the rows

-- the rows of a walk are what is in the region
pub walk_stands : (cells : Key → Cells) (rows : List LockRow) → IsLockWalk cells rows → RowsStand cells rows
walk_stands cells rows walk = rows_stand cells rows walk.rising (λ k lock e. walk.all k ∙ e)

-- the lock that comes next
pub next_lock : (rows rest : List LockRow) (found : Option (Key × LockHead)) (k : Key) (head : LockHead)
    → MatchOption found (rows ≡ []) (λ (x : Key × LockHead). LockComesNext rows rest x.0 x.1) → found ≡ Some (k, head)
    → LockComesNext rows rest k head
next_lock rows rest found k head next e =
    subst (λ (o : Option (Key × LockHead)). MatchOption o (rows
    ≡ []) (λ (x : Key × LockHead). LockComesNext rows rest x.0 x.1)) e next

-- no lock comes next
pub no_next : (rows rest : List LockRow) (found : Option (Key × LockHead))
    → MatchOption found (rows ≡ []) (λ (x : Key × LockHead). LockComesNext rows rest x.0 x.1) → found ≡ None → rows ≡ []
no_next rows rest found next e =
    subst (λ (o : Option (Key × LockHead)). MatchOption o (rows
    ≡ []) (λ (x : Key × LockHead). LockComesNext rows rest x.0 x.1)) e next

module _ (cells : Key
    → Cells) (rows rest : List LockRow) (k : Key) (head : LockHead) (next : LockComesNext rows rest k head) (there :
    RowsStand cells rows) where
  row : LockRow
  row = record { key = k; lock = next.lock }

  here : RowsStand cells (record { key = k; lock = next.lock } ∷ rest)
  here = subst (RowsStand cells) next.first there

  pub rest_stands : RowsStand cells rest
  rest_stands = here.1

  pub same_start : head.start ≡ next.lock.start
  same_start = ap (λ (h : LockHead). h.start) next.shown

  -- what is told on its key is told of it
  pub told_here : info_on (cells k) k ≡ Some (info_of k next.lock)
  told_here = ap (option_map (info_of k)) here.0

pub told_more : (s : ℕ) (x : LockRow) (rest : List LockRow) (infos all : List LockInfo)
    → infos ++ told_below s (x ∷ rest) ≡ all → x.lock.start < s
    → (infos ++ info_of x.key x.lock ∷ []) ++ told_below s rest ≡ all
told_more s x rest infos all e below =
    let first : told_below s (x ∷ rest) ≡ info_of x.key x.lock ∷ told_below s rest =
    (rw (lt-ltb x.lock.start s below) refl) in
    append_assoc infos (info_of x.key x.lock ∷ []) (told_below s rest) ∙ ap (λ l. infos ++ l) (sym first) ∙ e

pub told_same : (s : ℕ) (x : LockRow) (rest : List LockRow) (infos all : List LockInfo)
    → infos ++ told_below s (x ∷ rest) ≡ all → s ≤ x.lock.start → infos ++ told_below s rest ≡ all
told_same s x rest infos all e above =
    let first : told_below s (x ∷ rest) ≡ told_below s rest = (rw (le-ltb x.lock.start s above) refl) in
    ap (λ l. infos ++ l) (sym first) ∙ e

pub told_end : (s : ℕ) (rest : List LockRow) (infos all : List LockInfo) → infos ++ told_below s rest ≡ all → rest ≡ []
    → infos ≡ all
told_end s rest infos all e none = sym (append-nil infos) ∙ ap (λ r. infos ++ told_below s r) (sym none) ∙ e

pub step_told : (cells : Key
    → Cells) (s : ℕ) (rows rest : List LockRow) (k : Key) (head : LockHead) (infos all : List LockInfo) (next :
    LockComesNext rows rest k head) → infos ++ told_below s rows ≡ all → head.start < s
    → (infos ++ info_of k next.lock ∷ []) ++ told_below s rest ≡ all
step_told cells s rows rest k head infos all next e below =
    told_more s (record { key = k; lock = next.lock }) rest infos all
    (ap (λ (r : List LockRow). infos ++ told_below s r) (sym next.first)
    ∙ e) (subst (λ n. n < s) (ap (λ (h : LockHead). h.start) next.shown) below)

pub step_same : (cells : Key
    → Cells) (s : ℕ) (rows rest : List LockRow) (k : Key) (head : LockHead) (infos all : List LockInfo) (next :
    LockComesNext rows rest k head) → infos ++ told_below s rows ≡ all → s ≤ head.start
    → infos ++ told_below s rest ≡ all
step_same cells s rows rest k head infos all next e above =
    told_same s (record { key = k; lock = next.lock }) rest infos all
    (ap (λ (r : List LockRow). infos ++ told_below s r) (sym next.first)
    ∙ e) (subst (λ n. s ≤ n) (ap (λ (h : LockHead). h.start) next.shown) above)

-- ---- the first of a walk

pub passes_same : (s : ℕ) (x : LockRow) (rest : List LockRow) (all : List LockInfo) → told_below s (x ∷ rest) ≡ all
    → s ≤ x.lock.start → told_below s rest ≡ all
passes_same s x rest all e above = let first : told_below s (x ∷ rest) ≡ told_below s rest =
    (rw (le-ltb x.lock.start s above) refl) in sym first ∙ e

pub first_of_walk : (cells : Key → Cells) (s : ℕ) (x : LockRow) (rest all : List LockRow) → IsLockWalk cells all
    → told_below s (x ∷ rest) ≡ told_below s all → x.lock.start < s → IsFirstBelow cells s (info_of x.key x.lock)
first_of_walk cells s x rest all walk e below =
    let first : told_below s (x ∷ rest) ≡ info_of x.key x.lock ∷ told_below s rest =
    (rw (lt-ltb x.lock.start s below) refl) in
    first_told cells s (info_of x.key x.lock) (told_below s rest)
    (subst (AllBelow cells s) (sym e ∙ first) (told_all cells s all walk))

pub none_of_walk : (cells : Key → Cells) (s : ℕ) (rest all : List LockRow) → IsLockWalk cells all
    → told_below s rest ≡ told_below s all → rest ≡ [] → SomeLockBelow cells s → ⊥
none_of_walk cells s rest all walk e none some =
    none_told cells s (subst (AllBelow cells s) (sym e ∙ ap (told_below s) none) (told_all cells s all walk)) some

pub step_passes : (s : ℕ) (rows rest : List LockRow) (k : Key) (head : LockHead) (all : List LockInfo) (next :
    LockComesNext rows rest k head) → told_below s rows ≡ all → s ≤ head.start → told_below s rest ≡ all
step_passes s rows rest k head all next e above =
    passes_same s (record { key = k; lock = next.lock }) rest all (ap (told_below s) (sym next.first)
    ∙ e) (subst (λ n. s ≤ n) (ap (λ (h : LockHead). h.start) next.shown) above)

-- what is told where a lock below s comes next
pub step_first : (cells : Key
    → Cells) (s : ℕ) (rows rest all : List LockRow) (k : Key) (head : LockHead) (info : Option LockInfo)
    → IsLockWalk cells all → RowsStand cells rows → told_below s rows ≡ told_below s all
    → LockComesNext rows rest k head → head.start < s → info ≡ info_on (cells k) k
    → MatchOption info (SomeLockBelow cells s → ⊥) (λ i. IsFirstBelow cells s i)
step_first cells s rows rest all k head info walk there told next below is =
    let x : LockRow = record { key = k; lock = next.lock } in
    let first : IsFirstBelow cells s (info_of k next.lock) =
    first_of_walk cells s x rest all walk (ap (told_below s) (sym next.first)
    ∙ told) (subst (λ n. n < s) (same_start cells rows rest k head next there) below) in
    subst (λ (o : Option LockInfo). MatchOption o (SomeLockBelow cells s → ⊥) (λ i. IsFirstBelow cells s i))
    (sym (is ∙ told_here cells rows rest k head next there)) first

-- what is told of the lock that came next, where something is
pub told_of_next : (cells now : Key
    → Cells) (rows rest : List LockRow) (k : Key) (head : LockHead) (info : Option LockInfo) (next :
    LockComesNext rows rest k head) → RowsStand cells rows → now ≡ cells → info ≡ info_on (now k) k
    → info ≡ Some (info_of k next.lock)
told_of_next cells now rows rest k head info next there same is =
    is ∙ ap (λ (f : Key → Cells). info_on (f k) k) same ∙ told_here cells rows rest k head next there
