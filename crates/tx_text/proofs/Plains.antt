-- Bytes that stand for themselves in a string, a block at a time.
use Rattle.std.proofs.Common.{◌≡◌, ◌≢◌, ℕ, zero, suc, ◌+◌, ◌%◌, ◌^◌, ◌-◌, ◌≤◌, ◌<◌, inl, inr, List, [], ◌∷◌, length, take, drop, map, get_or, replicate, eqb, ltb, leb, Bool, cond, refl, ap, ap₂, ◌∙◌, subst, arith, true, false}
use Rattle.std.specs.Prelude.{bit_or}
use lib.Lanes.{zip2, mask_l, top}
use Rattle.std.specs.Prelude.{slice_range, nat_lt, nat_le, ◌==◌, ◌||◌}
use Rattle.std.proofs.lemmas.Bool.{cases_lt, or_parts, ltb-false, leb-false, eqb-false}
use Rattle.std.proofs.Math.Seq.{take-length}
use Rattle.std.proofs.lemmas.Simd.{mask_l-mod}
use Rattle.std.proofs.lemmas.List.{length-map}
use Rattle.json.specs.Print.{escape}
use Rattle.tx_text.specs.Plain.{is_stop, is_foreign}
use Rattle.tx_text.specs.Scan.{Runs}
use Rattle.tx_text.proofs.Lexemes.{run_on}
use Rattle.tx_text.proofs.Texts.{plain_more}

-- what it is to stand for itself
pub stands : (x : ℕ) → is_stop x ≡ false → (32 ≤ x) × (x ≢ 34) × (x ≢ 92)
stands x e =
    let both = or_parts ((x == 34) || (x == 92)) (nat_lt x 32) e in
    let quotes = or_parts (x == 34) (x == 92) both.0 in
    (ltb-false x 32 both.1, eqb-false x 34 quotes.0, eqb-false x 92 quotes.1)

-- and to be ASCII with that
pub stands_simply : (x : ℕ) → is_foreign x ≡ false → (is_stop x ≡ false) × (x < 128)
stands_simply x e =
    let both = or_parts (is_stop x) (nat_le 128 x) e in
    (both.0, leb-false 128 x both.1)

-- a run goes on over bytes that stand for themselves
pub runs_over : (bytes : List ℕ) (from at n : ℕ) → from ≤ at → at + n ≤ length bytes
    → ((k : ℕ) → at ≤ k → k < at + n → is_stop (get_or bytes k 0) ≡ false)
    → Runs (drop from bytes) (slice_range bytes from at) (drop at bytes)
    → Runs (drop from bytes) (slice_range bytes from (at + n)) (drop (at + n) bytes)
runs_over bytes from at zero le room plain runs =
    subst (λ e. Runs (drop from bytes) (slice_range bytes from e) (drop e bytes)) (omega arith) runs
runs_over bytes from at (suc n) le room plain runs =
    let so = runs_over bytes from at n le (omega arith) (λ k a b. plain k a (omega arith)) runs in
    let last = stands (get_or bytes (at + n) 0) (plain (at + n) (omega arith) (omega arith)) in
    let e : (at + n) + 1 ≡ at + suc n = omega arith in
    subst (λ e. Runs (drop from bytes) (slice_range bytes from e) (drop e bytes)) e
    (run_on bytes from (at + n) (omega arith) (omega arith) last.0 last.1 last.2 so)

pub runs_upto : (bytes : List ℕ) (from at to : ℕ) → from ≤ at → at ≤ to → to ≤ length bytes
    → ((k : ℕ) → at ≤ k → k < to → is_stop (get_or bytes k 0) ≡ false)
    → Runs (drop from bytes) (slice_range bytes from at) (drop at bytes)
    → Runs (drop from bytes) (slice_range bytes from to) (drop to bytes)
runs_upto bytes from at to le on room plain runs =
    let e : at + (to - at) ≡ to = omega arith in
    subst (λ e. Runs (drop from bytes) (slice_range bytes from e) (drop e bytes)) e
    (runs_over bytes from at (to - at) le (omega arith) (λ k a b. plain k a (omega arith)) runs)

-- the first bytes stand for themselves in a string, where each does
pub same_upto : (bytes : List ℕ) (n : ℕ) → n ≤ length bytes → ((k : ℕ) → k < n → is_stop (get_or bytes k 0) ≡ false)
    → escape (take n bytes) ≡ take n bytes
same_upto bytes zero room plain = refl
same_upto bytes (suc n) room plain =
    let last = stands (get_or bytes n 0) (plain n (omega arith)) in
    let e : n + 1 ≡ suc n = omega arith in
    subst (λ e. escape (take e bytes)
    ≡ take e bytes) e (plain_more bytes n (omega arith) last.0 last.1 last.2
    (same_upto bytes n (omega arith) (λ k h. plain k (omega arith))))

each_stands : (bytes : List ℕ) (at : ℕ) → ((k : ℕ) → k < at → is_foreign (get_or bytes k 0) ≡ false)
    → ((k : ℕ) → at ≤ k → k < length bytes → is_foreign (get_or bytes k 0) ≡ false) → (k : ℕ) → k < length bytes
    → is_stop (get_or bytes k 0) ≡ false
each_stands bytes at first others k h =
    elim (cases_lt k at) [
      | inl l ↦ (stands_simply (get_or bytes k 0) (first k l)).0
      | inr g ↦ (stands_simply (get_or bytes k 0) (others k g h)).0
    ]

-- all bytes do, where the first do and the others
pub all_same : (bytes : List ℕ) (at : ℕ) → ((k : ℕ) → k < at → is_foreign (get_or bytes k 0) ≡ false)
    → ((k : ℕ) → at ≤ k → k < length bytes → is_foreign (get_or bytes k 0) ≡ false) → escape bytes ≡ bytes
all_same bytes at first others =
    subst (λ l. escape l ≡ l) (take-length bytes)
    (same_upto bytes (length bytes) (omega arith) (each_stands bytes at first others))

-- ---- lanes

-- a lane that a comparison made
abbrev pub lane : Bool → ℕ
lane b = cond b 255 0

lane_or : (a b : Bool) → bit_or (lane a) (lane b) ≡ lane (a || b)
lane_or true true = refl
lane_or true false = refl
lane_or false true = refl
lane_or false false = refl

top_lane : (b : Bool) → top 7 (lane b) ≡ b
top_lane true = refl
top_lane false = refl

three : (a b c : Bool) → bit_or (bit_or (lane a) (lane b)) (lane c) ≡ lane ((a || b) || c)
three a b c = ap (λ l. bit_or l (lane c)) (lane_or a b) ∙ lane_or (a || b) c

-- the lanes that two tests for a byte and one for less than a byte made
abbrev pub stop_lanes : List ℕ → ℕ → List ℕ
stop_lanes v n = zip2 bit_or
    (zip2 bit_or (zip2 (λ a b. lane (eqb a b)) v (replicate n 34)) (zip2 (λ a b. lane (eqb a b)) v (replicate n 92)))
    (zip2 (λ a b. lane (ltb a b)) v (replicate n 32))

pub stop_tops : (v : List ℕ) (n : ℕ) → length v ≡ n → map (top 7) (stop_lanes v n) ≡ map is_stop v
stop_tops [] n e = refl
stop_tops (x ∷ v) zero e = absurd (omega (arith, e))
stop_tops (x ∷ v) (suc n) e =
    ap₂ (λ b bs. b ∷ bs) (ap (top 7) (three (eqb x 34) (eqb x 92) (ltb x 32))
    ∙ top_lane (is_stop x)) (stop_tops v n (omega arith))

pub foreign_tops : (v : List ℕ) (n : ℕ) → length v ≡ n
    → map (top 7) (zip2 bit_or (stop_lanes v n) (zip2 (λ a b. lane (leb a b)) (replicate n 128) v)) ≡ map is_foreign v
foreign_tops [] n e = refl
foreign_tops (x ∷ v) zero e = absurd (omega (arith, e))
foreign_tops (x ∷ v) (suc n) e =
    ap₂ (λ b bs. b ∷ bs) (ap (λ l. top 7 (bit_or l (lane (leb 128 x)))) (three (eqb x 34) (eqb x 92) (ltb x 32))
    ∙ ap (top 7) (lane_or (is_stop x) (leb 128 x)) ∙ top_lane (is_foreign x)) (foreign_tops v n (omega arith))

-- the mask of a block
pub mask_is : (p : ℕ → Bool) (v z : List ℕ) → length v ≤ 64 → map (top 7) z ≡ map p v
    → mask_l (map (top 7) z) % 2 ^ 64 ≡ mask_l (map p v)
mask_is p v z short e = ap (λ l. mask_l l % 2 ^ 64) e ∙ mask_l-mod (map p v) 64 (omega (arith, length-map v p))
