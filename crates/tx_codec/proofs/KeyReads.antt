-- A key that is read a group at a time.
use Rattle.std.proofs.Common.{◌≡◌, ◌≢◌, ◌⊎◌, ℕ, ◌+◌, ◌-◌, ◌<◌, ◌≤◌, List, [], ◌∷◌, ◌++◌, length, take, drop, get_or, refl, sym, ap, ◌∙◌, append_assoc, arith, inl, inr}
use borrow.Rule.Slice.PartMut.{put_mid}
use Rattle.std.proofs.lemmas.Slice.{take-put_mid}
use Rattle.std.proofs.lemmas.List.{take-append-drop, length-take, drop_more, length-append}
use Rattle.tx_codec.specs.Keys.{encoded_key, last_group}
use Rattle.tx_codec.proofs.Groups.{encoded_key-group, encoded_key-last, encoded_key-whole, encoded_key-more, encoded_key-short, last_group-one}

-- the bytes up to the rest are those of the whole groups of a key that begins with the front
pub record IsRead (bytes rest front : List ℕ) : Type 0 where
  pub spells : (key : List ℕ) → rest ≡ encoded_key key → bytes ≡ encoded_key (front ++ key)
  pub only : (key : List ℕ) → bytes ≡ encoded_key key → (more : List ℕ) × (key ≡ front ++ more)
      × (rest ≡ encoded_key more)

pub IsRead-start : (bytes : List ℕ) → IsRead bytes bytes []
IsRead-start bytes = record { spells = λ key e. e; only = λ key e. (key, refl, e) }

-- the bytes of a whole group and its marker, and those behind it
group_first : (rest : List ℕ) → 9 ≤ length rest → get_or rest 8 0 ≡ 255 → rest ≡ take 8 rest ++ 255 ∷ drop 9 rest
group_first rest le marker =
    let split = drop_more rest 8 0 (omega arith) in
    sym (take-append-drop 8 rest)
    ∙ ap (λ (w : List ℕ). take 8 rest ++ w) (split ∙ ap (λ (m : ℕ). m ∷ drop 9 rest) marker)

-- one more group was read
pub IsRead-group : (bytes rest front : List ℕ)
    → 9 ≤ length rest → get_or rest 8 0 ≡ 255 → IsRead bytes rest front
    → IsRead bytes (drop 9 rest) (front ++ take 8 rest)
IsRead-group bytes rest front le marker so_far =
    let first = group_first rest le marker in
    let size : length (take 8 rest) ≡ 8 = omega (arith, length-take 8 rest) in
    record {
      spells = λ key e.
          let whole : rest ≡ encoded_key (take 8 rest ++ key) = first ∙ ap (λ (w : List ℕ). take 8 rest ++ 255 ∷ w) e
          ∙ sym (encoded_key-group (take 8 rest) key size) in
          so_far.spells (take 8 rest ++ key) whole ∙ ap encoded_key (sym (append_assoc front (take 8 rest) key));
      only = λ key e.
          let k = so_far.only key e in
          let w = encoded_key-whole k.0 (take 8 rest) (drop 9 rest) size (sym k.2 ∙ first) in
          (w.0, k.1 ∙ ap (λ (x : List ℕ). front ++ x) w.1 ∙ sym (append_assoc front (take 8 rest) w.0), w.2);
    }

-- what follows is no whole group of a key that has room for one
pub IsRead-stopped : (bytes rest front : List ℕ) → IsRead bytes rest front → 9 < length rest
    → (get_or rest 8 0 ≢ 255) ⊎ (512 < length front + 8) → (other : List ℕ) → length other ≤ 512
    → bytes ≢ encoded_key other
IsRead-stopped bytes rest front so_far long why other fits e =
    let k = so_far.only other e in
    let more = encoded_key-more k.0 rest k.2 long in
    let l = ap length k.1 in
    elim why [
      | inl marker ↦ marker more.1
      | inr room ↦ omega (arith, length-append front k.0)
    ]

-- what is left is no last group
pub IsRead-none : (bytes rest front : List ℕ) → IsRead bytes rest front
    → length rest ≤ 9 → ((part : List ℕ) → length part < 8 → rest ≢ last_group part) → (other : List ℕ)
    → bytes ≢ encoded_key other
IsRead-none bytes rest front so_far short none other e =
    let k = so_far.only other e in
    let lt = encoded_key-short k.0 rest k.2 short in
    none k.0 lt (k.2 ∙ encoded_key-last k.0 lt)

-- what is left is a last group for which a key has no room
pub IsRead-long : (bytes rest front part : List ℕ) → IsRead bytes rest front → length rest ≤ 9 → length part < 8
    → rest ≡ last_group part → 512 < length front + length part → (other : List ℕ) → length other ≤ 512
    → bytes ≢ encoded_key other
IsRead-long bytes rest front part so_far short lp last room other fits e =
    let k = so_far.only other e in
    let lt = encoded_key-short k.0 rest k.2 short in
    let same = ap length (last_group-one k.0 part lt lp (sym (encoded_key-last k.0 lt) ∙ sym k.2 ∙ last)) in
    omega (arith, ap length k.1, length-append front k.0)

-- what is left is a last group
pub IsRead-all : (bytes rest front part : List ℕ) → IsRead bytes rest front → length part < 8 → rest ≡ last_group part
    → bytes ≡ encoded_key (front ++ part)
IsRead-all bytes rest front part so_far lt last = so_far.spells part (last ∙ sym (encoded_key-last part lt))

-- the front of a buffer, once bytes are written behind it
pub front_written : (buffer part : List ℕ) (n m : ℕ) → n ≤ length buffer → m ≡ n + length part
    → take m (put_mid n (m - n) buffer part) ≡ take n buffer ++ part
front_written buffer part n m le e = take-put_mid n (m - n) buffer part m e le
