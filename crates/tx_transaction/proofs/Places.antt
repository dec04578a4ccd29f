-- The buffer by indexes.
use Rattle.std.proofs.Common.{◌++◌, ◌||◌, ◌≤◌, max, take, ◌≡◌, ℕ, ◌+◌, ◌<◌, zero, suc, Bool, true, false, length, List, [], ◌∷◌, Option, Some, None, refl, sym, ap, ◌∙◌, arith}
use Rattle.std.specs.Prelude.{slice_get}
use Rattle.tx_types.specs.declared.mutation.Change.{Change}
use Rattle.tx_types.specs.declared.key.Key.{Key}
use Rattle.tx_transaction.specs.declared.state.Phase.{Phase}
use Rattle.tx_transaction.specs.declared.state.BufferEntry.{BufferEntry}
use Rattle.tx_transaction.specs.Buffers.{Entries, changes_of, keys_of as keys_in, key_at, mutation_in, progress_at, wants, index_from, is_zero, has_two_phase_lock, async_minimum, promised_from, promised, not_empty}
use Rattle.tx_transaction.specs.Sessions.{others_at}
use Rattle.tx_types.specs.declared.mutation.Mode.TheVariants.{Async}

pub place_found : (n : ℕ) (x : Phase) (es : Entries) (i : ℕ) → i < length es
    → ((k : ℕ) → k < i → wants x (progress_at es k) ≡ false) → wants x (progress_at es i) ≡ true
    → index_from n x es ≡ Some (n + i)
place_found n x [] i lt below here = absurd (omega arith)
place_found n x (e ∷ es) zero lt below here = rw here (ap (λ m. Some m) (omega arith))
place_found n x (e ∷ es) (suc i) lt below here =
    rw (below 0 (omega arith)) (place_found (n + 1) x es i (omega arith) (λ k l. below (suc k) (omega arith)) here
    ∙ ap (λ m. Some m) (omega arith))

pub place_none : (n : ℕ) (x : Phase) (es : Entries) → ((k : ℕ) → k < length es → wants x (progress_at es k) ≡ false)
    → index_from n x es ≡ None
place_none n x [] below = refl
place_none n x (e ∷ es) below =
    rw (below 0 (omega arith)) (place_none (n + 1) x es (λ k l. below (suc k) (omega arith)))

pub first_found : (x : Phase) (es : Entries) (i : ℕ) → i < length es
    → ((k : ℕ) → k < i → wants x (progress_at es k) ≡ false) → wants x (progress_at es i) ≡ true
    → Some i ≡ index_from 0 x es
first_found x es i lt below here = sym (place_found 0 x es i lt below here ∙ ap (λ m. Some m) (omega arith))

pub pair_at : (es : Entries) (i : ℕ) (p : Key × BufferEntry)
    → Some p ≡ slice_get es i → (key_at es i ≡ p.0) × (mutation_in es i ≡ p.1.mutation)
    × (progress_at es i ≡ p.1.progress)
pair_at [] i p e = absurd (cc (e))
pair_at (x ∷ es) zero p e = let same : p ≡ x =
    cc (e) in (
      ap (λ (q : Key × BufferEntry). q.0)
          (sym same),
      ap (λ (q : Key × BufferEntry). q.1.mutation) (sym same),
      ap (λ (q : Key × BufferEntry). q.1.progress)
          (sym same),
    )
pair_at (x ∷ es) (suc i) p e = pair_at es i p e

-- the changes of the first n entries
pub front_more : (n : ℕ) (es : Entries) → n < length es
    → changes_of (take (suc n) es) ≡ changes_of (take n es) ++ record { key = key_at es n; mutation = mutation_in es n }
    ∷ []
front_more n [] lt = absurd (omega arith)
front_more zero (e ∷ es) lt = refl
front_more (suc n) (e ∷ es) lt =
    ap (λ (l : List Change). record { key = e.0; mutation = e.1.mutation } ∷ l) (front_more n es (omega arith))

-- ---- what was accepted

-- some key has a two-phase lock
pub two_phase_there : (es : Entries) (i : ℕ) → i < length es → is_zero (progress_at es i).accepted ≡ true
    → has_two_phase_lock es ≡ true
two_phase_there [] i lt e = absurd (omega arith)
two_phase_there (x ∷ es) zero lt e = rw e refl
two_phase_there (x ∷ es) (suc i) lt e = go (is_zero x.1.progress.accepted) (two_phase_there es i (omega arith) e)
  where
    go : (b : Bool) → has_two_phase_lock es ≡ true → (b || has_two_phase_lock es) ≡ true
    go true rest = refl
    go false rest = rest

pub two_phase_nowhere : (es : Entries) → ((k : ℕ) → k < length es → is_zero (progress_at es k).accepted ≡ false)
    → has_two_phase_lock es ≡ false
two_phase_nowhere [] none = refl
two_phase_nowhere (x ∷ es) none = rw (none 0 (omega arith)) (two_phase_nowhere es (λ k lt. none (suc k) (omega arith)))

-- the entries from an index on
abbrev pub rest : ℕ → Entries → Entries
rest zero es = es
rest (suc i) [] = []
rest (suc i) (e ∷ es) = rest i es

promised_step : (n i : ℕ) (es : Entries) → i < length es
    → promised_from n (rest i es) ≡ elim (async_minimum (progress_at es i).accepted) [
      | None ↦ None
      | Some m ↦
          promised_from (max n m) (rest (suc i) es)
    ]
promised_step n i [] lt = absurd (omega arith)
promised_step n zero (e ∷ es) lt = refl
promised_step n (suc i) (e ∷ es) lt = promised_step n i es (omega arith)

-- one more key has an async lock, or has none
pub promised_more : (n i m : ℕ) (es : Entries) → i < length es
    → async_minimum (progress_at es i).accepted ≡ Some m
    → promised_from n (rest i es) ≡ promised_from (max n m) (rest (i + 1) es)
promised_more n i m es lt e =
    let next : suc i ≡ i + 1 = omega arith in
    promised_step n i es lt ∙ ap (λ o. elim o [ None ↦ None | Some m ↦ promised_from (max n m) (rest (suc i) es) ]) e
    ∙ ap (λ j. promised_from (max n m) (rest j es)) next

pub promised_stops : (n i : ℕ) (es : Entries) → i < length es → async_minimum (progress_at es i).accepted ≡ None
    → promised_from n (rest i es) ≡ None
promised_stops n i es lt e =
    promised_step n i es lt ∙ ap (λ o. elim o [ None ↦ None | Some m ↦ promised_from (max n m) (rest (suc i) es) ]) e

-- one key that has none is enough
promised_lacks : (n : ℕ) (es : Entries) (i : ℕ) → i < length es → async_minimum (progress_at es i).accepted ≡ None
    → promised_from n es ≡ None
promised_lacks n [] i lt none = absurd (omega (arith, lt))
promised_lacks n (e ∷ es) zero lt none = promised_stops n 0 (e ∷ es) lt none
promised_lacks n (e ∷ es) (suc i) lt none =
    go (async_minimum e.1.progress.accepted) (λ m. promised_lacks (max n m) es i (omega (arith, lt)) none)
  where
    go : (o : Option ℕ) → ((m : ℕ) → promised_from (max n m) es ≡ None)
        → ◌≡◌ {A = Option ℕ} (elim o [ None ↦ None | Some m ↦ promised_from (max n m) es ]) None
    go None more = refl
    go (Some m) more = more m

rest_none : (i : ℕ) (es : Entries) → length es ≤ i → rest i es ≡ []
rest_none zero [] le = refl
rest_none (suc i) [] le = refl
rest_none zero (e ∷ es) le = absurd (omega arith)
rest_none (suc i) (e ∷ es) le = rest_none i es (omega arith)

pub promised_all : (n i : ℕ) (es : Entries) → length es ≤ i → promised_from n (rest i es) ≡ Some n
promised_all n i es le = ap (promised_from n) (rest_none i es le)

-- of a buffer with keys
pub promised_some : (es : Entries) → 0 < length es → promised es ≡ promised_from 0 es
promised_some [] lt = absurd (omega arith)
promised_some (e ∷ es) lt = refl

pub promised_empty : (es : Entries) → length es ≡ 0 → promised es ≡ None
promised_empty [] e = refl
promised_empty (x ∷ es) e = absurd (omega (arith, e))

pub promised_none : (es : Entries) (i : ℕ) → i < length es → async_minimum (progress_at es i).accepted ≡ None
    → promised es ≡ None
promised_none es i lt none = promised_some es (omega (arith, lt)) ∙ promised_lacks 0 es i lt none

-- ---- the other keys

abbrev pub front : ℕ → Entries → List Key
front zero es = []
front (suc i) [] = []
front (suc i) (e ∷ es) = e.0 ∷ front i es

-- those below an index, but for the first
abbrev pub others_below : ℕ → Entries → List Key
others_below zero es = []
others_below (suc i) [] = []
others_below (suc i) (e ∷ es) = front i es

front_step : (i : ℕ) (es : Entries) → i < length es → front (suc i) es ≡ front i es ++ key_at es i ∷ []
front_step i [] lt = absurd (omega arith)
front_step zero (e ∷ es) lt = refl
front_step (suc i) (e ∷ es) lt = ap (λ (l : List Key). e.0 ∷ l) (front_step i es (omega arith))

front_short : (i : ℕ) (es : Entries) → length (front i es) ≤ i
front_short zero es = omega arith
front_short (suc i) [] = omega arith
front_short (suc i) (e ∷ es) = omega (arith, front_short i es)

front_all : (i : ℕ) (es : Entries) → length es ≤ i → front i es ≡ keys_in es
front_all zero [] le = refl
front_all (suc i) [] le = refl
front_all zero (e ∷ es) le = absurd (omega arith)
front_all (suc i) (e ∷ es) le = ap (λ (l : List Key). e.0 ∷ l) (front_all i es (omega arith))

pub others_step : (i : ℕ) (es : Entries) → 1 ≤ i → i < length es
    → others_below (i + 1) es ≡ others_below i es ++ key_at es i ∷ []
others_step i es one lt = ap (λ n. others_below n es) next ∙ go i es one lt
  where
    next : i + 1 ≡ suc i
    next = omega arith

    go : (i : ℕ) (es : Entries) → 1 ≤ i → i < length es
        → others_below (suc i) es ≡ others_below i es ++ key_at es i ∷ []
    go zero es one lt = absurd (omega arith)
    go (suc i) [] one lt = absurd (omega arith)
    go (suc i) (e ∷ es) one lt = front_step i es (omega arith)

pub others_short : (i : ℕ) (es : Entries) → 1 ≤ i → length (others_below i es) + 1 ≤ i
others_short zero es one = absurd (omega arith)
others_short (suc i) [] one = omega arith
others_short (suc i) (e ∷ es) one = omega (arith, front_short i es)

pub others_all : (i : ℕ) (es : Entries) → 1 ≤ i → length es ≤ i → others_below i es ≡ others_at Async es 0
others_all zero es one le = absurd (omega arith)
others_all (suc i) [] one le = refl
others_all (suc i) (e ∷ es) one le = front_all i es (omega arith)

pub some_entries : (es : Entries) → not_empty es ≡ true → 0 < length es
some_entries [] e = absurd (cc (e))
some_entries (x ∷ es) e = omega arith
