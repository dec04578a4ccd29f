-- Of a key that holds a list, what is seen earlier begins what is seen later.
use Rattle.std.proofs.Common.{◌≡◌, ℕ, ◌+◌, ◌-◌, ◌<◌, ◌≤◌, List, [], ◌∷◌, ◌++◌, length, drop, get_or, Contains, arith, inl, inr, refl, sym, ap, ◌∙◌, zero, suc}
use Rattle.std.proofs.lemmas.Bool.{cases_eq, cases_lt}
use Rattle.std.proofs.lemmas.List.{get_or_append_left, append_assoc, append-nil, length-take, length-drop, get_or-take, get_or-drop}
use Rattle.std.proofs.lemmas.List.Elements.{Contains-append_right}
use Rattle.tx_recording.specs.declared.recording.Act.{Act}
use Rattle.tx_recording.specs.declared.recording.Act.TheVariants.{Append, Write, Read}
use Rattle.tx_recording.specs.declared.recording.RecordedOp.{RecordedOp}
use Rattle.tx_recording.specs.declared.recording.Orders.{Orders}
use Rattle.tx_recording.specs.declared.recording.Recording.{Recording}
use Rattle.tx_recording.specs.Recordings.{ops_of, transaction_at}
use Rattle.tx_recording.specs.Explanations.{act_on, after, Explanation, IsWriter, Sees, Explains}
use Rattle.tx_recording.proofs.Puts.{after_same, after_other}
use Rattle.tx_recording.proofs.Seen.{sees_unique}
use Rattle.tx_verdict.specs.Facts.{HoldsList}

-- operations that write nothing in place of what the key holds
abbrev Append_only : List RecordedOp → ℕ → Type 0
Append_only os k = (o : RecordedOp) → Contains os o → o.key ≡ k → (v : ℕ) → o.act ≡ Write v → ⊥

-- they leave what there was, and more behind it
abbrev AddsTo : List RecordedOp → ℕ → Type 0
AddsTo os k = (ys : List ℕ) × ((xs : List ℕ) → after os k xs ≡ xs ++ ys)

head_adds : (o : RecordedOp) (os : List RecordedOp) (k : ℕ) (a : Act) → o.act ≡ a → o.key ≡ k
    → ((v : ℕ) → o.act ≡ Write v → ⊥)
    → AddsTo os k → AddsTo (o ∷ os) k
head_adds o os k (Append w) is at none (ys, adds) = (
  w ∷ ys,
  λ xs. after_same o os k xs at ∙ ap (λ b. after os k (act_on b xs)) is ∙ adds (xs ++ w ∷ [])
      ∙ append_assoc xs (w ∷ []) ys,
)
head_adds o os k (Write w) is at none rest = absurd (none w is)
head_adds o os k (Read s) is at none (ys, adds) = (
  ys,
  λ xs. after_same o os k xs at ∙ ap (λ b. after os k (act_on b xs)) is ∙ adds xs,
)

adds_to : (os : List RecordedOp) (k : ℕ) → Append_only os k → AddsTo os k
adds_to [] k only = ([], λ xs. sym (append-nil xs))
adds_to (o ∷ os) k only =
    let rest = adds_to os k (λ q c. only q (Contains-append_right (o ∷ []) os q c)) in
    elim (cases_eq o.key k) [
      | inl same ↦ head_adds o os k o.act refl same (only o (0, omega arith, refl) same) rest
      | inr other ↦ (rest.0, λ xs. after_other o os k xs other ∙ rest.1 xs)
    ]

-- an operation of a transaction is one of the recording
of_recording : (r : Recording) (t : ℕ) (o : RecordedOp) → Contains (ops_of r t) o → Contains r.ops.items o
of_recording r t o (i, lt, is) =
    let first = (transaction_at r t).first in
    let upto = (transaction_at r t).upto in
    let n = length-take (upto - first) (drop first r.ops.items) in
    let m = length-drop first r.ops.items in
    let at : get_or (ops_of r t) i o ≡ get_or r.ops.items (first + i) o =
    get_or-take (upto - first) (drop first r.ops.items) i o (omega (arith, lt, n))
    ∙ get_or-drop first r.ops.items i o in
    (first + i, omega (arith, lt, n, m), sym at ∙ is)

only_of : (r : Recording) (k : ℕ) → HoldsList r k → (t : ℕ) → Append_only (ops_of r t) k
only_of r k list t o there of_key v at = list (o, of_recording r t o there, of_key, (v, at))

module _ (r : Recording) (orders : Orders) (x : Explanation) (e : Explains r orders x) where
  -- what is seen of a key until its next writer commits
  held : (k a u : ℕ) (xs : List ℕ) → IsWriter r x u k → x.start u < a → a < x.commit u → Sees r x k (x.start u) xs
      → Sees r x k a xs
  held k a u xs writer above below (inl (w, newest, is)) =
      let upto = newest.1 in
      inl (
        w,
        (
          newest.0,
          omega (arith, upto, above),
          λ v also le. elim (cases_eq v u) [
            | inl same ↦ absurd (let c = ap x.commit same in omega (arith, c, le, below))
            | inr ne ↦ elim (e.apart k v u also writer ne) [
              | inl before ↦ newest.2 v also before
              | inr later ↦ absurd (let up = e.above v also.0 in omega (arith, up, later, le, below))
            ]
          ],
        ),
        is,
      )
  held k a u xs writer above below (inr (none, is)) =
      inr (
        λ v also. elim (cases_lt a (x.commit v)) [
          | inl lt ↦ lt
          | inr le ↦ absurd (elim (cases_eq v u) [
            | inl same ↦ (let c = ap x.commit same in omega (arith, c, le, below))
            | inr ne ↦ elim (e.apart k v u also writer ne) [
              | inl before ↦ (let lt = none v also in omega (arith, lt, before))
              | inr later ↦ (let up = e.above v also.0 in omega (arith, up, later, le, below))
            ]
          ])
        ],
        is,
      )

  begins_below : (n k : ℕ) → HoldsList r k → (a b : ℕ) (xs ys : List ℕ) → b < n → a ≤ b → Sees r x k a xs
      → Sees r x k b ys
      → (zs : List ℕ) × (ys ≡ xs ++ zs)
  begins_below zero k list a b xs ys lt le one other = absurd (omega (arith, lt))
  begins_below (suc n) k list a b xs ys lt le (inl (u, newest, is)) (inr (none, empty)) =
      absurd (let gt = none u newest.0 in let upto = newest.1 in omega (arith, gt, upto, le))
  begins_below (suc n) k list a b xs ys lt le (inr (also, nothing)) (inr (none, empty)) =
      ([], empty ∙ sym nothing ∙ sym (append-nil xs))
  begins_below (suc n) k list a b xs ys lt le one (inl (u, newest, is)) =
      let upto = newest.1 in
      let above = e.above u newest.0.0 in
      let (base, sees, left) = e.leaves k u newest.0 in
      let (more, adds) = adds_to (ops_of r u) k (only_of r k list u) in
      let whole : ys ≡ base ++ more = is ∙ left ∙ adds base in
      elim (cases_lt a (x.commit u)) [
        | inr late ↦ (
            let now : Sees r x k a ys =
            inl (u, (newest.0, late, λ w writer low. newest.2 w writer (omega (arith, low, le))), is) in
            ([], sees_unique r orders x e k a ys xs now one ∙ sym (append-nil xs))
            )
        | inl early ↦ elim (cases_lt (x.start u) a) [
          | inl within ↦ (
              let now = held k a u base newest.0 within early sees in
              (more, whole ∙ ap (λ q. q ++ more) (sees_unique r orders x e k a base xs now one))
              )
          | inr before ↦ (
              let (zs, parts) = begins_below n k list a (x.start u) xs base (omega (arith, lt, upto, above)) before one
              sees in
              (zs ++ more, whole ∙ ap (λ q. q ++ more) parts ∙ append_assoc xs zs more)
              )
        ]
      ]

  -- two that are seen of one key have the same where both have something
  pub agree : (k : ℕ) → HoldsList r k → (a b i : ℕ) (xs ys : List ℕ) → Sees r x k a xs → Sees r x k b ys
      → i < length xs → i < length ys
      → get_or xs i 0 ≡ get_or ys i 0
  agree k list a b i xs ys one other lt also = elim (cases_lt b a) [
    | inl later ↦ (
        let (zs, parts) = begins_below (a + 1) k list b a ys xs (omega arith) (omega (arith, later)) other one in
        ap (λ q. get_or q i 0) parts ∙ get_or_append_left ys zs 0 i also
        )
    | inr upto ↦ (
        let (zs, parts) = begins_below (b + 1) k list a b xs ys (omega arith) upto one other in
        sym (ap (λ q. get_or q i 0) parts ∙ get_or_append_left xs zs 0 i lt)
        )
  ]
