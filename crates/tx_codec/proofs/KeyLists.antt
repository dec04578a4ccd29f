-- Keys that are read one after the other.
use Rattle.std.proofs.Common.{◌≡◌, ℕ, ◌^◌, ◌<◌, ◌≤◌, List, [], ◌∷◌, ◌++◌, length, refl, sym, ap, ◌∙◌, append_assoc, arith}
use Rattle.std.specs.Int.{w16, to_be_bytes}
use Rattle.std.specs.List.{flat_map, AllByRecursion}
use Rattle.std.proofs.lemmas.List.{append-nil, length-append, nil_from_length}
use Rattle.tx_types.specs.declared.key.Key.{Key}
use Rattle.tx_codec.specs.declared.readers.Unread.{Unread}
use Rattle.tx_codec.specs.declared.readers.Unread.TheVariants.{Malformed, OutOfMemory}
use Rattle.tx_types.specs.Lengths.{IsKey}
use Rattle.tx_codec.specs.Records.{AreOthers, key_bytes, keys_bytes}
use Rattle.tx_codec.specs.Readers.{Fails, Takes}

abbrev pub AreKeys : List Key → Type 0
AreKeys keys = AllByRecursion IsKey keys

abbrev spelled : List Key → List ℕ
spelled keys = flat_map key_bytes keys

-- these keys were read from the start, and the rest is left
pub record KeysRead (start rest : List ℕ) (keys : List Key) : Type 0 where
  pub are : AreKeys keys
  pub made : (more : List Key) (after : List ℕ) → rest ≡ spelled more ++ after → start ≡ spelled (keys ++ more) ++ after
  pub only : (all : List Key) (after : List ℕ) → AreKeys all → length keys ≤ length all → start ≡ spelled all ++ after
      → (more : List Key) × (all ≡ keys ++ more) × AreKeys more × (rest ≡ spelled more ++ after)

pub KeysRead-start : (start : List ℕ) → KeysRead start start []
KeysRead-start start = record { are = tt; made = λ more after e. e; only = λ all after are le e. (all, refl, are, e) }

AreKeys-push : (keys : List Key) (key : Key) → AreKeys keys → IsKey key → AreKeys (keys ++ key ∷ [])
AreKeys-push [] key are is = (is, tt)
AreKeys-push (k ∷ ks) key are is = (are.0, AreKeys-push ks key are.1 is)

spelled-cons : (key : Key) (keys : List Key) (after : List ℕ)
    → spelled (key ∷ keys) ++ after ≡ key_bytes key ++ (spelled keys ++ after)
spelled-cons key keys after = append_assoc (key_bytes key) (spelled keys) after

-- what stands behind keys that were read, where another is to come
another : (rest rest' after : List ℕ) (key : Key) (keys more : List Key) → Takes IsKey key_bytes rest key rest'
    → 0 < length more → AreKeys more → rest ≡ spelled more ++ after
    → (tail : List Key) × (keys ++ more ≡ (keys ++ key ∷ []) ++ tail) × AreKeys tail × (rest' ≡ spelled tail ++ after)
another rest rest' after key keys [] taken lt are e = absurd (omega arith)
another rest rest' after key keys (k ∷ ks) taken lt are e =
    let o = taken.only k (spelled ks ++ after) are.0 (e ∙ spelled-cons k ks after) in
    (ks, ap (λ (x : Key). keys ++ x ∷ ks) o.0 ∙ sym (append_assoc keys (key ∷ []) ks), are.1, sym o.1)

-- one more key was read
pub KeysRead-more : {start rest rest' : List ℕ} {keys : List Key} {key : Key} → KeysRead start rest keys
    → Takes IsKey key_bytes rest key rest' → KeysRead start rest' (keys ++ key ∷ [])
KeysRead-more {rest = rest} {rest' = rest'} {keys = keys} {key = key} so_far taken = record {
  are = AreKeys-push keys key so_far.are taken.is;
  made = λ more after e.
      so_far.made (key ∷ more) after (taken.spelled ∙ ap (λ (w : List ℕ). key_bytes key ++ w) e
      ∙ sym (spelled-cons key more after))
      ∙ ap (λ (w : List Key). spelled w ++ after) (sym (append_assoc keys (key ∷ []) more));
  only = λ all after are le e.
      let pushed = length-append keys (key ∷ []) in
      let o = so_far.only all after are (omega arith) e in
      let some : 0 < length o.0 = omega (arith, ap length o.1, length-append keys o.0) in
      let a = another rest rest' after key keys o.0 taken some o.2 o.3 in
      (a.0, o.1 ∙ a.1, a.2, a.3);
}

-- all of the keys were read
pub KeysRead-all : {bytes start rest : List ℕ} {count : ℕ} {keys : List Key}
    → Takes (λ n. n < 2 ^ 16) (to_be_bytes w16) bytes count start → count ≤ 255 → length keys ≡ count
    → KeysRead start rest keys → Takes AreOthers keys_bytes bytes keys rest
KeysRead-all {bytes} {start} {rest} {count} {keys} counted le size so_far =
    let whole : start ≡ spelled keys ++ rest =
    so_far.made [] rest refl ∙ ap (λ (w : List Key). spelled w ++ rest) (append-nil keys) in
    record {
      is = (omega arith, so_far.are);
      spelled = counted.spelled
          ∙ ap (λ (w : List ℕ). to_be_bytes w16 count ++ w) whole
          ∙ ap (λ (n : ℕ). to_be_bytes w16 n ++ (spelled keys ++ rest)) (sym size)
          ∙ sym (append_assoc (to_be_bytes w16 (length keys)) (spelled keys) rest);
      only = λ all after are e.
          let n = counted.only (length all)
          (spelled all ++ after) (omega (arith, are.0))
          (e ∙ append_assoc (to_be_bytes w16 (length all)) (spelled all) after) in
          let o = so_far.only all after are.1 (omega (arith, n.0)) (sym n.1) in
          let none : o.0 ≡ [] = nil_from_length o.0 (omega (arith, n.0, ap length o.1, length-append keys o.0)) in (
            o.1 ∙ ap (λ (w : List Key). keys ++ w) none
                ∙ append-nil keys,
            sym (o.3 ∙ ap (λ (w : List Key). spelled w ++ after) none),
          );
    }

next_fails : (rest after : List ℕ) (more : List Key) → Fails IsKey key_bytes rest Malformed → 0 < length more
    → AreKeys more → rest ≡ spelled more ++ after → ⊥
next_fails rest after [] fails lt are e = omega arith
next_fails rest after (k ∷ ks) fails lt are e = fails k (spelled ks ++ after) are.0 (e ∙ spelled-cons k ks after)

-- the next key could not be read
pub KeysRead-fails : {bytes start rest : List ℕ} {count : ℕ} {keys : List Key}
    → Takes (λ n. n < 2 ^ 16) (to_be_bytes w16) bytes count start → length keys < count → KeysRead start rest keys
    → (e : Unread) → Fails IsKey key_bytes rest e → Fails AreOthers keys_bytes bytes e
KeysRead-fails counted lt so_far OutOfMemory fails = tt
KeysRead-fails {bytes} {start} {rest} {count} {keys} counted lt so_far Malformed fails = λ all after are e.
    let n = counted.only (length all)
    (spelled all ++ after) (omega (arith, are.0))
    (e ∙ append_assoc (to_be_bytes w16 (length all)) (spelled all) after) in
    let o = so_far.only all after are.1 (omega (arith, n.0)) (sym n.1) in
    next_fails rest after o.0 fails (omega (arith, n.0, ap length o.1, length-append keys o.0)) o.2 o.3
