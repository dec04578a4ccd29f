-- A buffer in two parts: its first few entries, and those behind them.
use Rattle.std.proofs.Common.{◌≡◌, ◌++◌, ◌+◌, ◌-◌, ◌<◌, ◌≤◌, ◌⊎◌, ℕ, inl, inr, zero, suc, false, true, length, slice_set, slice_index_or, [], ◌∷◌, Some, None, bytes_eq, refl, sym, ap, subst, ◌∙◌, arith}
use Rattle.std.specs.Prelude.{slice_get}
use Rattle.std.specs.Map.{values_of}
use Rattle.indexmap.specs.Layout.{set_value_at}
use Rattle.tx_types.specs.declared.key.Key.{Key}
use Rattle.tx_types.specs.declared.mutation.Mutation.{Mutation}
use Rattle.tx_machine.specs.Keys.{IsDistinct}
use Rattle.tx_transaction.specs.declared.state.BufferEntry.{BufferEntry}
use Rattle.tx_transaction.specs.declared.state.Progress.{Progress}
use Rattle.tx_transaction.specs.Buffers.{Entries, changes_of, key_at, mutation_in, progress_at, buffered, fresh, touched, with_progress}
use Rattle.tx_transaction.proofs.Entries.{distinct_touched, changes_with}
use Rattle.tx_transaction.proofs.Lookups.{turned}

-- the entry of an index
pub key_of_item : (few : Entries) (i : ℕ) (v : Key × BufferEntry) → i < length few → v ≡ slice_index_or few i v
    → v.0 ≡ key_at few i
key_of_item [] i v lt is = absurd (omega (arith, lt))
key_of_item (e ∷ es) zero v lt is = ap (λ (w : Key × BufferEntry). w.0) is
key_of_item (e ∷ es) (suc i) v lt is = key_of_item es i v (omega (arith, lt)) is

mutation_of_item : (few : Entries) (i : ℕ) (v : Key × BufferEntry) → i < length few → v ≡ slice_index_or few i v
    → v.1.mutation ≡ mutation_in few i
mutation_of_item [] i v lt is = absurd (omega (arith, lt))
mutation_of_item (e ∷ es) zero v lt is = ap (λ (w : Key × BufferEntry). w.1.mutation) is
mutation_of_item (e ∷ es) (suc i) v lt is = mutation_of_item es i v (omega (arith, lt)) is

-- ---- a key among the first few

-- it stands first at this index, or nowhere
abbrev pub IsFound : Entries → Key → ℕ → Type 0
IsFound few k i = (i < length few) × (bytes_eq (key_at few i) k ≡ true)
    × ((j : ℕ) → j < i → bytes_eq (key_at few j) k ≡ false)

abbrev pub IsAbsent : Entries → Key → Type 0
IsAbsent few k = (j : ℕ) → j < length few → bytes_eq (key_at few j) k ≡ false

pub found_at : (few gs : Entries) (k q : Key) (i : ℕ) → few ≡ gs → k ≡ q → IsFound few k i → IsFound gs q i
found_at few gs k q i e f is = subst (λ (x : Entries × Key). IsFound x.0 x.1 i) (λ t. (e t, f t)) is

pub absent_at : (few gs : Entries) (k q : Key) → few ≡ gs → k ≡ q → IsAbsent few k → IsAbsent gs q
absent_at few gs k q e f is = subst (λ (x : Entries × Key). IsAbsent x.0 x.1) (λ t. (e t, f t)) is

found_few : (few more : Entries) (k : Key) (i : ℕ) → i < length few
    → ((j : ℕ) → j < i → bytes_eq (key_at few j) k ≡ false)
    → bytes_eq (key_at few i) k ≡ true → buffered (few ++ more) k ≡ Some (mutation_in few i)
found_few [] more k i lt below here = absurd (omega (arith, lt))
found_few (e ∷ es) more k zero lt below here = rw here refl
found_few (e ∷ es) more k (suc i) lt below here =
    rw (below 0 (omega arith))
    (found_few es more k i (omega (arith, lt)) (λ j l. below (suc j) (omega (arith, l))) here)

pub find_few : (few more es : Entries) (k : Key) (i : ℕ) (v : Key × BufferEntry) → IsFound few k i
    → v ≡ slice_index_or few i v
    → few ++ more ≡ es → Some v.1.mutation ≡ buffered es k
find_few few more es k i v found is e =
    ap (λ m. Some m) (mutation_of_item few i v found.0 is) ∙ sym (found_few few more k i found.0 found.2 found.1)
    ∙ ap (λ l. buffered l k) e

absent_few : (few more : Entries) (k : Key) → IsAbsent few k → buffered more k ≡ buffered (few ++ more) k
absent_few [] more k none = refl
absent_few (e ∷ es) more k none =
    rw (none 0 (omega arith)) (absent_few es more k (λ j l. none (suc j) (omega (arith, l))))

pub find_behind : (few more es : Entries) (k : Key) → IsAbsent few k → few ++ more ≡ es
    → buffered more k ≡ buffered es k
find_behind few more es k none e = absent_few few more k none ∙ ap (λ l. buffered l k) e

pub nothing_there : (more : Entries) (k : Key) → length more ≡ 0 → None ≡ buffered more k
nothing_there [] k e = refl
nothing_there (x ∷ xs) k e = absurd (omega (arith, e))

-- ---- a key is touched

touch_at : (few more : Entries) (k : Key) (m : Mutation) (i : ℕ) (v : Key × BufferEntry) → i < length few
    → v ≡ slice_index_or few i v
    → ((j : ℕ) → j < i → bytes_eq (key_at few j) k ≡ false) → bytes_eq (key_at few i) k ≡ true
    → slice_set few i (v.0, fresh m) ++ more ≡ touched (few ++ more) k m
touch_at [] more k m i v lt is below here = absurd (omega (arith, lt))
touch_at (e ∷ es) more k m zero v lt is below here =
    rw (sym (turned e.0 k) ∙ here) (ap (λ (w : Key × BufferEntry). (w.0, fresh m) ∷ (es ++ more)) is)
touch_at (e ∷ es) more k m (suc i) v lt is below here =
    rw (sym (turned e.0 k) ∙ below 0 (omega arith))
    (ap (λ (l : Entries). e ∷ l)
    (touch_at es more k m i v (omega (arith, lt)) is (λ j l. below (suc j) (omega (arith, l))) here))

pub touched_few : (few more : Entries) (k : Key) (m : Mutation) (i : ℕ) (v : Key × BufferEntry) → IsFound few k i
    → v ≡ slice_index_or few i v
    → slice_set few i (v.0, fresh m) ++ more ≡ touched (few ++ more) k m
touched_few few more k m i v found is = touch_at few more k m i v found.0 is found.2 found.1

pub touched_last : (few more : Entries) (k : Key) (m : Mutation) → more ≡ [] → IsAbsent few k
    → (few ++ (k, fresh m) ∷ []) ++ more ≡ touched (few ++ more) k m
touched_last [] [] k m is none = refl
touched_last [] (x ∷ xs) k m is none = absurd (cc (is))
touched_last (e ∷ es) more k m is none =
    rw (sym (turned e.0 k) ∙ none 0 (omega arith))
    (ap (λ (l : Entries). e ∷ l) (touched_last es more k m is (λ j l. none (suc j) (omega (arith, l)))))

pub touched_behind : (few more : Entries) (k : Key) (m : Mutation) → IsAbsent few k
    → few ++ touched more k m ≡ touched (few ++ more) k m
touched_behind [] more k m none = refl
touched_behind (e ∷ es) more k m none =
    rw (sym (turned e.0 k) ∙ none 0 (omega arith))
    (ap (λ (l : Entries). e ∷ l) (touched_behind es more k m (λ j l. none (suc j) (omega (arith, l)))))

-- ---- progress

pub progress_few : (few more : Entries) (i : ℕ) (v : Key × BufferEntry) (p : Progress) → i < length few
    → v ≡ slice_index_or few i v
    → slice_set few i (v.0, record { mutation = v.1.mutation; progress = p }) ++ more ≡ with_progress (few ++ more) i p
progress_few [] more i v p lt is = absurd (omega (arith, lt))
progress_few (e ∷ es) more zero v p lt is =
    ap (λ (w : Key × BufferEntry). (w.0, record { mutation = w.1.mutation; progress = p }) ∷ (es ++ more)) is
progress_few (e ∷ es) more (suc i) v p lt is =
    ap (λ (l : Entries). e ∷ l) (progress_few es more i v p (omega (arith, lt)) is)

progress_behind : (few more : Entries) (i j : ℕ) (p : Progress) → i ≡ length few + j
    → few ++ with_progress more j p ≡ with_progress (few ++ more) i p
progress_behind [] more i j p is = (let same : j ≡ i = omega (arith, is) in ap (λ n. with_progress more n p) same)
progress_behind (e ∷ es) more zero j p is = absurd (omega (arith, is))
progress_behind (e ∷ es) more (suc i) j p is =
    ap (λ (l : Entries). e ∷ l) (progress_behind es more i j p (omega (arith, is)))

pub progress_later : (few more : Entries) (k : ℕ) → length few ≤ k
    → progress_at (few ++ more) k ≡ progress_at more (k - length few)
progress_later [] more k le = (let same : k ≡ k - 0 = omega arith in ap (λ j. progress_at more j) same)
progress_later (e ∷ es) more zero le = absurd (omega (arith, le))
progress_later (e ∷ es) more (suc k) le =
    let same : k - length es ≡ suc k - length (e ∷ es) = omega arith in
    progress_later es more k (omega (arith, le)) ∙ ap (λ j. progress_at more j) same

pub noted : (es : Entries) (i : ℕ) (v : BufferEntry) (p : Progress)
    → Some v ≡ slice_get (values_of es) i
    → set_value_at es i (record { mutation = v.mutation; progress = p }) ≡ with_progress es i p
noted [] i v p e = refl
noted (x ∷ es) zero v p e =
    let same : v ≡ x.1 = cc (e) in ap (λ (w : BufferEntry). (x.0, record { mutation = w.mutation; progress = p }) ∷ es)
    same
noted (x ∷ es) (suc i) v p e = ap (λ (l : Entries). x ∷ l) (noted es i v p e)

item_progress : (few more : Entries) (i : ℕ) (v : Key × BufferEntry) → i < length few → v ≡ slice_index_or few i v
    → v.1.progress ≡ progress_at (few ++ more) i
item_progress [] more i v lt is = absurd (omega (arith, lt))
item_progress (e ∷ es) more zero v lt is = ap (λ (w : Key × BufferEntry). w.1.progress) is
item_progress (e ∷ es) more (suc i) v lt is = item_progress es more i v (omega (arith, lt)) is

value_progress : (es : Entries) (i : ℕ) (v : BufferEntry) → Some v ≡ slice_get (values_of es) i
    → v.progress ≡ progress_at es i
value_progress [] i v e = absurd (cc (e))
value_progress (x ∷ es) zero v e = let same : v ≡ x.1 = cc (e) in ap (λ (w : BufferEntry). w.progress) same
value_progress (x ∷ es) (suc i) v e = value_progress es i v e

-- the progress of an entry, made of what it was
pub marked_few : (f : Progress → Progress) (few more es : Entries) (i : ℕ) (v : Key × BufferEntry) (p : Progress)
    → i < length few → v ≡ slice_index_or few i v → p ≡ f v.1.progress → few ++ more ≡ es
    → slice_set few i (v.0, record { mutation = v.1.mutation; progress = p }) ++ more ≡ with_progress es i
    (f (progress_at es i))
marked_few f few more es i v p lt is made e =
    progress_few few more i v p lt is
    ∙ ap (with_progress (few ++ more) i) (made ∙ ap f (item_progress few more i v lt is))
    ∙ ap (λ l. with_progress l i (f (progress_at l i))) e

pub noted_as : (f : Progress → Progress) (es : Entries) (i : ℕ) (v : BufferEntry) (p : Progress)
    → Some v ≡ slice_get (values_of es) i → p ≡ f v.progress
    → set_value_at es i (record { mutation = v.mutation; progress = p }) ≡ with_progress es i (f (progress_at es i))
noted_as f es i v p is made = noted es i v p is ∙ ap (with_progress es i) (made ∙ ap f (value_progress es i v is))

-- the progress of an entry behind the first few
pub set_behind : (few more es new : Entries) (i n : ℕ) (p : Progress) → n ≡ length few → n ≤ i → few ++ more ≡ es
    → new ≡ with_progress more (i - n) p → few ++ new ≡ with_progress es i p
set_behind few more es new i n p count le e is =
    ap (λ (l : Entries). few ++ l) is ∙ progress_behind few more i (i - n) p (omega (arith, count, le))
    ∙ ap (λ l. with_progress l i p) e

pub marked_behind : (f : Progress → Progress) (few more es new : Entries) (i n : ℕ) → n ≡ length few → n ≤ i
    → few ++ more ≡ es → new ≡ with_progress more (i - n) (f (progress_at more (i - n)))
    → few ++ new ≡ with_progress es i (f (progress_at es i))
marked_behind f few more es new i n count le e is =
    let at : i - n ≡ i - length few = omega (arith, count) in
    let was : progress_at more (i - n) ≡ progress_at es i = ap (progress_at more) at
    ∙ sym (progress_later few more i (omega (arith, count, le))) ∙ ap (λ l. progress_at l i) e in
    set_behind few more es new i n (f (progress_at more (i - n))) count le e is
    ∙ ap (λ q. with_progress es i (f q)) was

-- ---- what the two parts keep

-- while there is room in the first part, nothing is behind it
pub none_behind : (n : ℕ) (few more : Entries) → (more ≡ []) ⊎ (n ≤ length few) → length few < n → more ≡ []
none_behind n few more (inl e) lt = e
none_behind n few more (inr le) lt = absurd (omega (arith, le, lt))

length_set : (few : Entries) (i : ℕ) (x : Key × BufferEntry) → length (slice_set few i x) ≡ length few
length_set [] i x = refl
length_set (e ∷ es) zero x = refl
length_set (e ∷ es) (suc i) x = (let rest = length_set es i x in omega (arith, rest))

pub room_set : (n : ℕ) (few more : Entries) (i : ℕ) (x : Key × BufferEntry) → (more ≡ []) ⊎ (n ≤ length few)
    → (more ≡ []) ⊎ (n ≤ length (slice_set few i x))
room_set n few more i x (inl e) = inl e
room_set n few more i x (inr le) = inr (omega (arith, le, length_set few i x))

pub room_behind : (n : ℕ) (few more new : Entries) (j : ℕ) (p : Progress) → (more ≡ []) ⊎ (n ≤ length few)
    → new ≡ with_progress more j p → (new ≡ []) ⊎ (n ≤ length few)
room_behind n few more new j p (inl e) is = inl (is ∙ ap (λ (l : Entries). with_progress l j p) e)
room_behind n few more new j p (inr le) is = inr le

-- each key stands once, and so it is after one was touched, or as far as another
pub distinct_by : (es fs : Entries) (k : Key) (m : Mutation) → IsDistinct (changes_of es) → fs ≡ touched es k m
    → IsDistinct (changes_of fs)
distinct_by es fs k m d is = subst (λ (x : Entries). IsDistinct (changes_of x)) (sym is) (distinct_touched es k m d)

pub distinct_still : (es fs : Entries) (i : ℕ) (p : Progress) → IsDistinct (changes_of es) → fs ≡ with_progress es i p
    → IsDistinct (changes_of fs)
distinct_still es fs i p d is = subst IsDistinct (sym (ap changes_of is ∙ changes_with es i p)) d
