-- An encoded key, a group at a time.
use Rattle.std.proofs.Common.{◌≡◌, ℕ, ◌+◌, ◌-◌, ◌*◌, ◌/◌, ◌<◌, ◌≤◌, List, [], ◌∷◌, ◌++◌, length, take, drop, get_or, replicate, refl, sym, ap, ◌∙◌, append_assoc, set, arith, inl, inr}
use Rattle.std.proofs.Math.Seq.{set-append_seam}
use Rattle.std.proofs.lemmas.List.{append-nil, replicate-append-replicate, take-append-drop, length-take, length-append, length-replicate, take_at, drop_at, same_from_push, get_or_at}
use Rattle.std.proofs.lemmas.Bool.{cases_lt}
use Rattle.tx_codec.proofs.Lists.{same_fronts}
use Rattle.tx_codec.specs.Keys.{encoded_key, last_group}

-- a whole group, and what the rest of the key is spelled as
pub encoded_key-group : (group rest : List ℕ) → length group ≡ 8
    → encoded_key (group ++ rest) ≡ group ++ 255 ∷ encoded_key rest
unfolding encoded_key
encoded_key-group (a ∷ b ∷ c ∷ d ∷ e ∷ f ∷ g ∷ h ∷ []) rest l = refl
encoded_key-group (a ∷ b ∷ c ∷ d ∷ e ∷ f ∷ g ∷ h ∷ x ∷ more) rest l = absurd (omega arith)
encoded_key-group group rest l = absurd (omega arith)

-- what is shorter than a group is the last
pub encoded_key-last : (part : List ℕ) → length part < 8 → encoded_key part ≡ last_group part
unfolding encoded_key
encoded_key-last (a ∷ b ∷ c ∷ d ∷ e ∷ f ∷ g ∷ h ∷ rest) l = absurd (omega arith)
encoded_key-last part l = refl

-- the first group of a key that has a whole one
pub encoded_key-split : (key : List ℕ) → 8 ≤ length key → encoded_key key ≡ take 8 key ++ 255 ∷ encoded_key (drop 8 key)
encoded_key-split key le =
    let whole : take 8 key ++ drop 8 key ≡ key = take-append-drop 8 key in
    ap encoded_key (sym whole) ∙ encoded_key-group (take 8 key) (drop 8 key) (omega (arith, length-take 8 key))

-- bytes and a marker, written over zeros
pub group_marked : (part bytes : List ℕ) (marker : ℕ) → length part ≤ 8
    → bytes ≡ part ++ replicate (9 - length part) 0
    → set bytes 8 marker ≡ (part ++ replicate (8 - length part) 0) ++ marker ∷ []
group_marked part bytes marker le e =
    let zeros : List ℕ = replicate (8 - length part) 0 in
    let more : 9 - length part ≡ 8 - length part + 1 = omega (arith, le) in
    let split : replicate (9 - length part) 0 ≡ zeros ++ 0 ∷ [] = ap (λ k. replicate {A = ℕ} k 0) more
    ∙ sym (replicate-append-replicate (8 - length part) 1 0) in
    let whole : bytes ≡ (part ++ zeros) ++ 0 ∷ [] = e ∙ ap (λ (t : List ℕ). part ++ t) split
    ∙ sym (append_assoc part zeros (0 ∷ [])) in
    let at : length (part ++ zeros) ≡ 8 =
    omega (arith, length-append part zeros, length-replicate {A = ℕ} (8 - length part) 0) in
    ap (λ (t : List ℕ). set t 8 marker) whole ∙ ap (λ k. set ((part ++ zeros) ++ 0 ∷ []) k marker) (sym at)
    ∙ set-append_seam (part ++ zeros) 0 [] marker

-- a whole group was written
pub group_written : (out rest all group : List ℕ)
    → 8 ≤ length rest → group ≡ (take 8 rest ++ replicate (8 - length (take 8 rest)) 0) ++ 255 ∷ []
    → out ++ encoded_key rest ≡ all
    → (out ++ group) ++ encoded_key (drop 8 rest) ≡ all
group_written out rest all group le e so_far =
    let size : 8 - length (take 8 rest) ≡ 0 = omega (arith, le, length-take 8 rest) in
    let none : replicate (8 - length (take 8 rest)) 0 ≡ [] = ap (λ k. replicate {A = ℕ} k 0) size in
    let plain : group ≡ take 8 rest ++ 255 ∷ [] =
    e ∙ ap (λ (z : List ℕ). (take 8 rest ++ z) ++ 255 ∷ []) none
    ∙ ap (λ (w : List ℕ). w ++ 255 ∷ []) (append-nil (take 8 rest)) in
    let regrouped : (out ++ (take 8 rest ++ 255 ∷ [])) ++ encoded_key (drop 8 rest) ≡ out
    ++ (take 8 rest ++ 255 ∷ encoded_key (drop 8 rest)) =
    append_assoc out (take 8 rest ++ 255 ∷ [])
    (encoded_key (drop 8 rest))
    ∙ ap (λ (x : List ℕ). out ++ x) (append_assoc (take 8 rest) (255 ∷ []) (encoded_key (drop 8 rest))) in
    ap (λ (g : List ℕ). (out ++ g) ++ encoded_key (drop 8 rest)) plain ∙ regrouped
    ∙ ap (λ (x : List ℕ). out ++ x) (sym (encoded_key-split rest le)) ∙ so_far

-- the last group was written
pub last_written : (out part all : List ℕ) → length part < 8 → out ++ encoded_key part ≡ all
    → out ++ last_group part ≡ all
last_written out part all lt so_far = ap (λ (x : List ℕ). out ++ x) (sym (encoded_key-last part lt)) ∙ so_far

-- a last group and its marker
pub last_group-length : (part : List ℕ) → length part < 8 → length (last_group part) ≡ 9
last_group-length part lt =
    let zeros : List ℕ = replicate (8 - length part) 0 in
    omega (
      arith,
      length-append (part ++ zeros) ((255 - (8 - length part)) ∷ []),
      length-append part zeros,
      length-replicate {A = ℕ} (8 - length part) 0,
    )

-- no key is spelled by less than a group and its marker
pub encoded_key-long : (key : List ℕ) → 9 ≤ length (encoded_key key)
encoded_key-long key = elim (cases_lt (length key) 8) [
  | inl lt ↦ let e = ap length (encoded_key-last key lt) in
      let l = last_group-length key lt in omega arith
  | inr le ↦ let e = ap length (encoded_key-split key le) in
      omega (arith, length-append (take 8 key) (255 ∷ encoded_key (drop 8 key)), length-take 8 key)
]

-- the parts of a last group, as the marker tells them
pub record Parts (part bytes : List ℕ) (marker : ℕ) : Type 0 where
  pub size : length bytes ≡ 8
  pub count : marker ≡ 247 + length part
  pub front : part ≡ take (marker - 247) bytes
  pub pads : drop (marker - 247) bytes ≡ replicate (8 - length part) 0

pub last_group-parts : (part bytes : List ℕ) (marker : ℕ) → length part < 8 → bytes ++ marker ∷ [] ≡ last_group part
    → Parts part bytes marker
last_group-parts part bytes marker lt e =
    let zeros : List ℕ = replicate (8 - length part) 0 in
    let ends = same_from_push bytes (part ++ zeros) marker (255 - (8 - length part)) e in
    let count : marker ≡ 247 + length part = omega (arith, ends.1) in
    record {
      size = omega (arith, ap length ends.0, length-append part zeros, length-replicate {A = ℕ} (8 - length part) 0);
      count = count;
      front = sym (ap (λ (w : List ℕ). take (marker - 247) w) ends.0 ∙ take_at part zeros (marker - 247) (omega arith));
      pads = ap (λ (w : List ℕ). drop (marker - 247) w) ends.0 ∙ drop_at part zeros (marker - 247) (omega arith);
    }

-- a last group, put together from what the marker tells
pub last_group-made : (bytes : List ℕ) (marker : ℕ) → length bytes ≡ 8 → 247 ≤ marker → marker < 255
    → drop (marker - 247) bytes ≡ replicate (8 - (marker - 247)) 0
    → (length (take (marker - 247) bytes) < 8) × (bytes ++ marker ∷ [] ≡ last_group (take (marker - 247) bytes))
last_group-made bytes marker size low high pads =
    let n = marker - 247 in
    let count : length (take n bytes) ≡ n = omega (arith, length-take n bytes) in
    let zeros : replicate (8 - length (take n bytes)) 0 ≡ drop n bytes = ap (λ (k : ℕ). replicate (8 - k) 0) count
    ∙ sym pads in
    let last : 255 - (8 - length (take n bytes)) ≡ marker = omega arith in (
      omega arith,
      sym (ap (λ (z : List ℕ). (take n bytes ++ z) ++ (255 - (8 - length (take n bytes))) ∷ []) zeros
          ∙ ap (λ (w : List ℕ). w ++ (255 - (8 - length (take n bytes))) ∷ []) (take-append-drop n bytes)
          ∙ ap (λ (m : ℕ). bytes ++ m ∷ []) last),
    )

-- the last group of no key but the one
pub last_group-one : (a b : List ℕ) → length a < 8 → length b < 8 → last_group a ≡ last_group b → a ≡ b
last_group-one a b la lb e =
    let zeros : List ℕ = replicate (8 - length a) 0 in
    let p = last_group-parts a (a ++ zeros) (255 - (8 - length a)) la refl in
    let q = last_group-parts b (a ++ zeros) (255 - (8 - length a)) lb e in
    p.front ∙ sym q.front

-- a key whose spelling begins with a whole group
pub encoded_key-whole : (key group rest : List ℕ)
    → length group ≡ 8 → encoded_key key ≡ group ++ 255 ∷ rest → (more : List ℕ) × (key ≡ group ++ more)
    × (rest ≡ encoded_key more)
encoded_key-whole key group rest l e = elim (cases_lt (length key) 8) [
  | inl lt ↦
      let zeros : List ℕ = replicate (8 - length key) 0 in
      let whole : (key ++ zeros) ++ (255 - (8 - length key)) ∷ [] ≡ group ++ 255 ∷ rest = sym (encoded_key-last key lt)
      ∙ e in
      let same = same_fronts (key ++ zeros) group ((255 - (8 - length key))
      ∷ []) (255 ∷ rest) (omega (arith, length-append key zeros, length-replicate {A = ℕ} (8 - length key) 0))
      whole in
      let marker : 255 - (8 - length key) ≡ 255 = ap (λ (w : List ℕ). get_or w 0 0) same.1 in
      absurd (omega arith)
  | inr le ↦
      let whole : take 8 key ++ 255 ∷ encoded_key (drop 8 key) ≡ group ++ 255 ∷ rest = sym (encoded_key-split key le)
      ∙ e in
      let same = same_fronts (take 8 key) group (255 ∷ encoded_key (drop 8 key)) (255 ∷ rest)
      (omega (arith, length-take 8 key)) whole in
      let after : encoded_key (drop 8 key) ≡ rest = cc (same.1) in
      (drop 8 key, sym (take-append-drop 8 key) ∙ ap (λ (w : List ℕ). w ++ drop 8 key) same.0, sym after)
]

-- a key whose spelling is longer than a group has a whole one
pub encoded_key-more : (key rest : List ℕ) → rest ≡ encoded_key key → 9 < length rest
    → (8 ≤ length key) × (get_or rest 8 0 ≡ 255)
encoded_key-more key rest e long = elim (cases_lt (length key) 8) [
  | inl lt ↦ let same = ap length (e ∙ encoded_key-last key lt) in
      let l = last_group-length key lt in absurd (omega arith)
  | inr le ↦ (
    le,
    ap (λ (w : List ℕ). get_or w 8 0)
        (e ∙ encoded_key-split key le) ∙ get_or_at (take 8 key) 255 (encoded_key (drop 8 key)) 0 8
        (omega (arith, length-take 8 key)),
  )
]

-- a key whose spelling is no longer than a group is of fewer bytes
pub encoded_key-short : (key rest : List ℕ) → rest ≡ encoded_key key → length rest ≤ 9 → length key < 8
encoded_key-short key rest e short = elim (cases_lt (length key) 8) [
  | inl lt ↦ lt
  | inr le ↦ let same = ap length (e ∙ encoded_key-split key le) in
      let l = encoded_key-long (drop 8 key) in
      absurd (omega (arith, length-append (take 8 key) (255 ∷ encoded_key (drop 8 key)), length-take 8 key))
]

-- how many bytes an encoded key has
pub encoded_key-length : (key : List ℕ) → length (encoded_key key) ≡ (length key / 8 + 1) * 9
unfolding encoded_key
encoded_key-length (a ∷ b ∷ c ∷ d ∷ e ∷ f ∷ g ∷ h ∷ rest) = let more = encoded_key-length rest in omega arith
encoded_key-length part = omega arith
