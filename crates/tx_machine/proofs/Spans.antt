-- The span of keys that a scan covered.
use Rattle.std.proofs.Common.{◌≡◌, ℕ, ◌-◌, ◌<◌, ◌≤◌, ◌&&◌, ◌||◌, Bool, true, false, List, [], ◌∷◌, length, Some, bytes_eq, nat_lt, refl, sym, ap, ◌∙◌, arith, rules, IsTrue}
use Rattle.std.specs.List.{Contains, slice_get}
use Rattle.std.proofs.lemmas.Option.{get_or_from_slice_get}
use Rattle.std.specs.Cmp.Lexicographic.{slice_cmp, nat_list_cmp_total}
use Rattle.std.specs.BTreeMap.Comparable.{le_lt_trans}
use Rattle.std.specs.Ordering.{nat_cmp, is_eq, is_lt, is_le}
use Rattle.std.specs.declared.cmp.Ordering.{Ordering}
use Rattle.std.specs.declared.cmp.Ordering.TheVariants.{Less, Equal, Greater}
use Rattle.std.proofs.lemmas.Map.Text.{is_eq-slice_cmp}
use Rattle.tx_types.specs.declared.key.Key.{Key}
use Rattle.tx_types.specs.declared.mutation.KeyValue.{KeyValue}
use Rattle.tx_machine.specs.declared.step.ScanRead.{ScanRead}
use Rattle.tx_types.specs.Keys.{key_lt, key_le, IsRising, reaches}
use Rattle.tx_machine.specs.Keys.{covered}
use Rattle.tx_machine.specs.Noted.{span_covers}

less_is : (o : Ordering) → is_lt o ≡ true → o ≡ Less
less_is Less e = refl
less_is Equal e = absurd (cc e)
less_is Greater e = absurd (cc e)

le_parts : (o : Ordering) → is_le o ≡ (is_lt o || is_eq o)
le_parts Less = refl
le_parts Equal = refl
le_parts Greater = refl

pub lt_trans : (a b c : Key) → key_lt a b ≡ true → key_lt b c ≡ true → key_lt a c ≡ true
lt_trans a b c p q = ap is_lt (nat_list_cmp_total.trans a b c (less_is _ p) (less_is _ q))

pub le_lt : (a b c : Key) → key_le a b ≡ true → key_lt b c ≡ true → key_lt a c ≡ true
le_lt a b c p q = ap is_lt (le_lt_trans nat_list_cmp_total a b c p (less_is _ q))

pub lt_le : (a b : Key) → key_lt a b ≡ true → key_le a b ≡ true
lt_le a b p = ap is_le (less_is _ p)

-- at most is below or equal
pub le_is : (a b : Key) → key_le a b ≡ (key_lt a b || bytes_eq a b)
le_is a b = le_parts (slice_cmp nat_cmp a b) ∙ ap (λ (e : Bool). key_lt a b || e) (is_eq-slice_cmp a b)

last_of : KeyValue → List KeyValue → KeyValue
last_of x [] = x
last_of x (y ∷ ys) = last_of y ys

last_get : (x : KeyValue) (xs : List KeyValue) → slice_get (x ∷ xs) (length xs) ≡ Some (last_of x xs)
unfolding last_of
last_get x [] = refl
last_get x (y ∷ ys) = last_get y ys

head_below : (x y : KeyValue) (ys : List KeyValue) → IsRising (x ∷ y ∷ ys) → key_lt x.key (last_of y ys).key ≡ true
unfolding last_of
head_below x y [] r = r.0
head_below x y (z ∷ zs) r = lt_trans x.key y.key (last_of z zs).key r.0 (head_below y z zs r.1)

or_to : (a b : Bool) → (a ≡ true → b ≡ true) → (a || b) ≡ b
or_to true b f = sym (f refl)
or_to false b f = refl

or_false : (b : Bool) → (b || false) ≡ b
or_false true = refl
or_false false = refl

-- rows that rise reach up to the last
reaches_last : (x : KeyValue) (xs : List KeyValue) (k : Key) → IsRising (x ∷ xs)
    → reaches (x ∷ xs) k ≡ key_le k (last_of x xs).key
unfolding last_of
reaches_last x [] k r = or_false (key_le k x.key)
reaches_last x (y ∷ ys) k r =
    ap (λ (b : Bool). key_le k x.key || b) (reaches_last y ys k r.1)
    ∙ or_to (key_le k x.key) (key_le k (last_of y ys).key)
    (λ e. lt_le k (last_of y ys).key (le_lt k x.key (last_of y ys).key e (head_below x y ys r)))

and_parts : (f t : Bool) (l : Bool) → (l ≡ true → t ≡ true) → (f && l) ≡ (f && t && l)
and_parts false t l h = refl
and_parts true t true h = sym (ap (λ (b : Bool). b && true) (h refl))
and_parts true true false h = refl
and_parts true false false h = refl

some_same : {X : Type 0} (x y : X) → Some x ≡ Some y → x ≡ y
some_same x y e = cc

reaches_row : (rows : List KeyValue) (row : KeyValue) (k : Key) → IsRising rows
    → Some row ≡ slice_get rows (length rows - 1) → reaches rows k ≡ key_le k row.key
reaches_row [] row k r e = absurd (cc e)
reaches_row (x ∷ xs) row k r e =
    reaches_last x xs k r
    ∙ ap (λ (z : KeyValue). key_le k z.key)
    (some_same _ _ (sym (last_get x xs)
    ∙ (ap (slice_get (x ∷ xs)) (let h : length xs ≡ length (x ∷ xs) - 1 = omega arith in h) ∙ sym e)))

has_row : (rows : List KeyValue) (row : KeyValue) → Some row ≡ slice_get rows (length rows - 1) → Contains rows row
has_row [] row e = absurd (cc e)
has_row (x ∷ xs) row e = (
  length xs,
  (let h : length xs < length (x ∷ xs) = omega arith in h),
  get_or_from_slice_get (x
      ∷ xs) (length xs) row row (ap (slice_get (x ∷ xs)) (let h : length xs ≡ length (x ∷ xs) - 1 = omega arith in h)
      ∙ sym e),
)

at_limit : (n limit : ℕ) → limit ≤ n → nat_lt n limit ≡ false
at_limit n limit h = search rules

-- where the limit ended it, a scan covered the keys up to its last row
pub spanned : (s : ScanRead) (row : KeyValue) (from to : Key) (k : Key) → s.limit ≤ length s.rows → IsRising s.rows
    → ((x : KeyValue) → Contains s.rows x → IsTrue (key_lt x.key s.to))
    → Some row ≡ slice_get s.rows (length s.rows - 1) → from ≡ s.from → to ≡ row.key
    → span_covers record { from = from; to = to; is_closed = true } k ≡ covered s k
spanned s row from to k full rising ends last is_from is_to =
    let below : key_lt row.key s.to ≡ true = ends row (has_row s.rows row last) in
    let upto : reaches s.rows k ≡ key_le k row.key = reaches_row s.rows row k rising last in
    ap (λ (f : Key). key_le f k && (key_lt k to || (true && bytes_eq k to))) is_from
    ∙ (ap (λ (t : Key). key_le s.from k && (key_lt k t || (true && bytes_eq k t))) is_to
    ∙ (ap (λ (b : Bool). key_le s.from k && b) (sym (le_is k row.key))
    ∙ (and_parts (key_le s.from k) (key_lt k s.to) (key_le k row.key) (λ e. le_lt k row.key s.to e below)
    ∙ (ap (λ (b : Bool). key_le s.from k && key_lt k s.to && b) (sym upto)
    ∙ ap (λ (b : Bool). key_le s.from k && key_lt k s.to
    && (b || reaches s.rows k)) (sym (at_limit (length s.rows) s.limit full))))))
