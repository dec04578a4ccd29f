-- Two parts, written one behind the other into zeros, and the first bytes of what has
-- zeros behind it.
use Rattle.std.proofs.Common.{◌≡◌, ℕ, suc, zero, ◌+◌, ◌-◌, ◌≤◌, List, [], ◌∷◌, ◌++◌, length, take, drop, replicate, min, append_assoc, refl, sym, ap, ◌∙◌, arith}
use Rattle.std.proofs.lemmas.List.{drop-replicate, length-append, length-replicate, length-take, take-replicate, take-append-drop}
use Rattle.std.proofs.Math.Seq.{take-append_seam, drop-append_seam}
use borrow.Rule.Slice.PartMut.{put_mid, post_of}

drop_drop : (k a n : ℕ) → drop {A = ℕ} k (drop a (replicate n 0)) ≡ replicate (n - a - k) 0
drop_drop k a n = ap (drop {A = ℕ} k) (drop-replicate a n 0) ∙ drop-replicate k (n - a) 0

pub two_parts : (n : ℕ) (front back g h : List ℕ) → g ≡ front → h ≡ back
    → put_mid (length front) (length front + length back - length front)
    (g ++ drop (length front) (replicate n 0)) h ≡ (front ++ back) ++ replicate (n - (length front + length back)) 0
two_parts n front back g h eg eh =
    let a = length front in
    let left : List ℕ = drop a (replicate n 0) in
    let k = a + length back - a in
    let first : take a (g ++ left) ≡ front = ap (λ (w : List ℕ). take a (w ++ left)) eg ∙ take-append_seam front left in
    let behind : drop a (g ++ left) ≡ left = ap (λ (w : List ℕ). drop a (w ++ left)) eg ∙ drop-append_seam front left in
    let rest : post_of a k (g ++ left) ≡ replicate (n - a - k) 0 = ap (drop k) behind ∙ drop_drop k a n in
    let count : n - a - k ≡ n - (a + length back) = omega arith in
    ap (λ (w : List ℕ). w ++ (h ++ post_of a k (g ++ left))) first
    ∙ ap (λ (w : List ℕ). front ++ (w ++ post_of a k (g ++ left))) eh
    ∙ ap (λ (w : List ℕ). front ++ (back ++ w)) (rest ∙ ap (λ (m : ℕ). replicate m 0) count)
    ∙ sym (append_assoc front back (replicate (n - (a + length back)) 0))

take_zeros : (k : ℕ) (xs : List ℕ) (a b : ℕ) → k ≤ length xs + a → k ≤ length xs + b
    → take k (xs ++ replicate a 0) ≡ take k (xs ++ replicate b 0)
take_zeros k [] a b more other = take-replicate k a 0 (omega (arith, more))
    ∙ sym (take-replicate k b 0 (omega (arith, other)))
take_zeros zero (x ∷ xs) a b more other = refl
take_zeros (suc k) (x ∷ xs) a b more other =
    ap (λ t. x ∷ t) (take_zeros k xs a b (omega (arith, more)) (omega (arith, other)))

-- the first of an array that has zeros behind its first bytes are theirs, with zeros behind them
pub first_of : (len m : ℕ) (bytes first : List ℕ)
    → first ≡ take 8 bytes → length first ≡ 8 → drop len bytes ≡ replicate m 0
    → first ≡ take 8 (take len bytes ++ replicate 8 0)
first_of len m bytes first is eight zeros =
    let few : List ℕ = take len bytes in
    let whole : bytes ≡ few ++ replicate m 0 = sym (take-append-drop len bytes) ∙ ap (λ (t : List ℕ). few ++ t) zeros in
    let size : length bytes ≡ length few + m =
    ap length whole ∙ length-append few (replicate m 0) ∙ ap (λ k. length few + k) (length-replicate {A = ℕ} m 0) in
    let room : min 8 (length bytes) ≡ 8 = sym (length-take 8 bytes) ∙ sym (ap length is) ∙ eight in
    is ∙ ap (take 8) whole ∙ take_zeros 8 few m 8 (omega (arith, size, room)) (omega arith)
