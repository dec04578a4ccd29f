-- A record that is read a part at a time.
use Rattle.std.proofs.lemmas.List.{append-nil}
use Rattle.std.proofs.Common.{◌≡◌, ℕ, false, eqb, List, [], ◌∷◌, ◌++◌, length, refl, sym, ap, ◌∙◌, append_assoc}
use Rattle.tx_codec.specs.declared.readers.Unread.{Unread}
use Rattle.tx_codec.specs.declared.readers.Unread.TheVariants.{Malformed, OutOfMemory}
use Rattle.tx_codec.specs.Readers.{Fails, Takes}

-- Of a record that is spelled at the front of the bytes, the parts that were read are those that
-- `pick` takes from it, and the tail of its spelling is spelled at the front of the rest.
pub record Agrees {Z A : Type 0} (Is : Z → Type 0)
    (spelling : Z → List ℕ) (bytes : List ℕ) (pick : Z → A) (parts : A)
    (tail : Z → List ℕ) (rest : List ℕ) : Type 0 where
  pub made : (z : Z) (after : List ℕ) → pick z ≡ parts → rest ≡ tail z ++ after → bytes ≡ spelling z ++ after
  pub only : (z : Z) (after : List ℕ) → Is z → bytes ≡ spelling z ++ after → (pick z ≡ parts) × (rest ≡ tail z ++ after)

-- nothing was read so far
pub Agrees-start : {Z : Type 0} (Is : Z → Type 0) (spelling : Z → List ℕ) (bytes : List ℕ)
    (tail : Z → List ℕ) → ((z : Z) → spelling z ≡ tail z)
    → Agrees {A = Unit {0}} Is spelling bytes (λ _. tt) tt tail bytes
Agrees-start {Z} Is spelling bytes tail same = record {
  made = λ z after _ e. e ∙ ap (λ (w : List ℕ). w ++ after) (sym (same z));
  only = λ z after _ e. (refl, e ∙ ap (λ (w : List ℕ). w ++ after) (same z));
}

-- the next part was read
pub Agrees-then : {Z A B : Type 0} {Is : Z → Type 0} {spelling : Z → List ℕ} {bytes : List ℕ} {pick : Z
    → A} {parts : A} {tail : Z → List ℕ} {rest : List ℕ}
    → Agrees Is spelling bytes pick parts tail rest
    → (next : Z → B) (tail' : Z → List ℕ) {IsPart : B → Type 0} {part_bytes : B → List ℕ} {part : B} {rest' : List ℕ}
    → ((z : Z) → tail z ≡ part_bytes (next z) ++ tail' z)
    → ((z : Z) → Is z → pick z ≡ parts → IsPart (next z))
    → Takes IsPart part_bytes rest part rest'
    → Agrees {A = A × B} Is spelling bytes (λ z. (pick z, next z)) (parts, part) tail' rest'
Agrees-then {A = A} {B = B} {pick = pick} {parts = parts} so_far next tail' {part_bytes = part_bytes} {part = part}
    splits is taken = record {
      made = λ z after e f.
          let same : next z ≡ part = ap (λ (p : A × B). p.1) e in
          so_far.made z after (ap (λ (p : A × B). p.0) e)
          (taken.spelled ∙ ap (λ (w : List ℕ). part_bytes part ++ w) f
          ∙ ap (λ (b : B). part_bytes b ++ (tail' z ++ after))
          (sym same)
          ∙ sym (append_assoc (part_bytes (next z)) (tail' z) after)
          ∙ ap (λ (w : List ℕ). w ++ after) (sym (splits z)));
      only = λ z after i e.
          let o = so_far.only z after i e in
          let t = taken.only (next z) (tail' z ++ after)
          (is z i o.0) (o.1 ∙ ap (λ (w : List ℕ). w ++ after) (splits z)
          ∙ append_assoc (part_bytes (next z)) (tail' z) after) in
          (ap (λ (a : A). (a, next z)) o.0 ∙ ap (λ (b : B). (parts, b)) t.0, sym t.1);
    }

-- the next part could not be read
pub Agrees-fails : {Z A B : Type 0} {Is : Z → Type 0} {spelling : Z → List ℕ} {bytes : List ℕ} {pick : Z
    → A} {parts : A} {tail : Z → List ℕ} {rest : List ℕ}
    → Agrees Is spelling bytes pick parts tail rest
    → (next : Z → B) (tail' : Z → List ℕ) (IsPart : B → Type 0) (part_bytes : B → List ℕ)
    → ((z : Z) → tail z ≡ part_bytes (next z) ++ tail' z)
    → ((z : Z) → Is z → pick z ≡ parts → IsPart (next z))
    → (e : Unread) → Fails IsPart part_bytes rest e → Fails Is spelling bytes e
Agrees-fails so_far next tail' IsPart part_bytes splits is OutOfMemory fails = tt
Agrees-fails so_far next tail' IsPart part_bytes splits is Malformed fails = λ z after i e.
    let o = so_far.only z after i e in
    fails (next z) (tail' z ++ after)
    (is z i o.0) (o.1 ∙ ap (λ (w : List ℕ). w ++ after) (splits z)
    ∙ append_assoc (part_bytes (next z)) (tail' z) after)

-- every part was read
pub Agrees-done : {Z A : Type 0} {Is : Z → Type 0} {spelling : Z → List ℕ} {bytes : List ℕ} {pick : Z
    → A} {parts : A} {tail : Z → List ℕ} {rest : List ℕ}
    → Agrees Is spelling bytes pick parts tail rest
    → (build : A → Z) → ((z : Z) → build (pick z) ≡ z) → pick (build parts) ≡ parts → ((z : Z) → tail z ≡ [])
    → Is (build parts)
    → Takes Is spelling bytes (build parts) rest
Agrees-done {parts = parts} {rest = rest} so_far build whole picked ends is = record {
  is = is;
  spelled = so_far.made (build parts) rest picked (ap (λ (w : List ℕ). w ++ rest) (sym (ends (build parts))));
  only = λ z after i e.
      let o = so_far.only z after i e in
      (sym (whole z) ∙ ap build o.0, sym (o.1 ∙ ap (λ (w : List ℕ). w ++ after) (ends z)));
}

-- a value whose spelling is all of the bytes
pub Takes-whole : {X : Type 0} {Is : X → Type 0} {spelling : X → List ℕ} {bytes : List ℕ} {value : X} {rest : List ℕ}
    → Takes Is spelling bytes value rest
    → (x : X) → Is x → bytes ≡ spelling x → (value ≡ x) × (rest ≡ [])
Takes-whole {spelling = spelling} taken x is e =
    let o = taken.only x [] is (e ∙ sym (append-nil (spelling x))) in
    (sym o.0, sym o.1)

pub not_empty : (rest : List ℕ) → rest ≡ [] → false ≡ eqb (length rest) 0 → ⊥
not_empty [] e f = cc
not_empty (x ∷ rest) e f = cc

-- a value has no spelling at the front of the bytes, and so none that is all of them
pub Fails-whole : {X : Type 0} (Is : X → Type 0) (spelling : X → List ℕ) (bytes : List ℕ)
    → Fails Is spelling bytes Malformed → (x : X) → Is x → bytes ≡ spelling x → ⊥
Fails-whole Is spelling bytes fails x is e = fails x [] is (e ∙ sym (append-nil (spelling x)))
