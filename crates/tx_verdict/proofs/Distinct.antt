-- What is seen has each value once.
use Rattle.std.proofs.Common.{◌≡◌, ◌⊎◌, ℕ, ◌+◌, ◌<◌, List, [], ◌∷◌, ◌++◌, length, get_or, Contains, arith, inl, inr, refl, sym, ap, ◌∙◌, subst, zero, suc}
use Rattle.std.proofs.lemmas.Bool.{cases_eq, cases_lt}
use Rattle.std.proofs.lemmas.List.{get_or_append_left, length_push, get_or_push, get_or_default}
use Rattle.std.proofs.lemmas.List.Elements.{Contains-get_or, Contains-push_cases}
use Rattle.tx_recording.specs.declared.recording.Act.{Act}
use Rattle.tx_recording.specs.declared.recording.Act.TheVariants.{Append, Write, Read}
use Rattle.tx_recording.specs.declared.recording.RecordedOp.{RecordedOp}
use Rattle.tx_recording.specs.declared.recording.Orders.{Orders}
use Rattle.tx_recording.specs.declared.recording.Recording.{Recording}
use Rattle.tx_recording.specs.Recordings.{ops_of, no_op}
use Rattle.tx_recording.specs.Explanations.{act_on, after, Puts, PutsIn, ArePutOnce, Explanation, Sees, Explains}
use Rattle.tx_recording.proofs.Puts.{after_same, after_other, puts_more, puts_head}
use Rattle.tx_recording.proofs.Seen.{seen_put}
pub use Rattle.tx_verdict.specs.Facts.{IsDistinct}

-- operations that put each value once
abbrev pub IsOnce : List RecordedOp → Type 0
IsOnce os = (p q v : ℕ) → p < length os → q < length os → Puts (get_or os p no_op).act v
    → Puts (get_or os q no_op).act v → p ≡ q

pub none_distinct : IsDistinct []
none_distinct i j lt = absurd (omega (arith, lt))

one_distinct : (v : ℕ) → IsDistinct (v ∷ [])
one_distinct v i j a b e = (let a' : i < 1 = a in let b' : j < 1 = b in omega (arith, a', b'))

push_distinct : (xs : List ℕ) (v : ℕ) → IsDistinct xs → (Contains xs v → ⊥) → IsDistinct (xs ++ v ∷ [])
push_distinct xs v distinct new i j a b e =
    let n = length_push xs v in
    elim (cases_lt i (length xs)) [
      | inl low ↦ elim (cases_lt j (length xs)) [
        | inl also ↦ distinct i j low also (sym (get_or_append_left xs (v ∷ []) 0 i low) ∙ e
            ∙ get_or_append_left xs (v ∷ []) 0 j also)
        | inr last ↦ (
            let at : length xs ≡ j = omega (arith, n, b, last) in
            let same : get_or xs i 0 ≡ v = sym (get_or_append_left xs (v ∷ []) 0 i low) ∙ e ∙ get_or_push xs v 0 j at in
            absurd (new (subst (λ q. Contains xs q) same (Contains-get_or xs i 0 low)))
            )
      ]
      | inr last ↦ elim (cases_lt j (length xs)) [
        | inl low ↦ (
            let at : length xs ≡ i = omega (arith, n, a, last) in
            let same : get_or xs j 0 ≡ v = sym (get_or_append_left xs (v ∷ []) 0 j low) ∙ sym e
            ∙ get_or_push xs v 0 i at in
            absurd (new (subst (λ q. Contains xs q) same (Contains-get_or xs j 0 low)))
            )
        | inr also ↦ omega (arith, n, a, b, last, also)
      ]
    ]

once_rest : (o : RecordedOp) (os : List RecordedOp) → IsOnce (o ∷ os) → IsOnce os
once_rest o os once p q v a b put also =
    (let e = once (suc p) (suc q) v (omega (arith, a)) (omega (arith, b)) put also in omega (arith, e))

-- what the first operation puts no later one does
head_new : (o : RecordedOp) (os : List RecordedOp) (k v : ℕ) → IsOnce (o ∷ os) → Puts o.act v → PutsIn os k v → ⊥
head_new o os k v once put (q, (i, lt, is), e, also) =
    let at : get_or os i no_op ≡ q = get_or_default os i no_op q lt ∙ is in
    let P : RecordedOp → Type 0 = λ z. Puts z.act v in
    let later : Puts (get_or os i no_op).act v = subst P (sym at) also in
    let same = once zero (suc i) v (omega arith) (omega (arith, lt)) put later in
    omega (arith, same)

abbrev AreNew : List ℕ → List RecordedOp → ℕ → Type 0
AreNew xs os k = (v : ℕ) → Contains xs v → PutsIn os k v → ⊥

act_distinct : (a : Act) (xs : List ℕ) → IsDistinct xs → ((v : ℕ) → Puts a v → Contains xs v → ⊥)
    → IsDistinct (act_on a xs)
act_distinct (Append w) xs distinct new = push_distinct xs w distinct (λ there. new w refl there)
act_distinct (Write w) xs distinct new = one_distinct w
act_distinct (Read s) xs distinct new = distinct

act_new : (a : Act) (xs : List ℕ) (v : ℕ) → Contains (act_on a xs) v → Contains xs v ⊎ Puts a v
act_new (Append w) xs v c = Contains-push_cases xs w v c
act_new (Write w) xs v c = elim (Contains-push_cases [] w v c) [
  | inl none ↦ absurd (let lt = none.1 in omega (arith, lt))
  | inr same ↦ inr same
]
act_new (Read s) xs v c = inl c

pub after_distinct : (os : List RecordedOp) (k : ℕ) (xs : List ℕ) → IsDistinct xs → IsOnce os → AreNew xs os k
    → IsDistinct (after os k xs)
after_distinct [] k xs distinct once new = distinct
after_distinct (o ∷ os) k xs distinct once new = elim (cases_eq o.key k) [
  | inl same ↦ subst IsDistinct (sym (after_same o os k xs same))
      (after_distinct os k (act_on o.act xs)
      (act_distinct o.act xs distinct (λ v put there. new v there (puts_head o os k v same put))) (once_rest o os once)
      (λ v there later. elim (act_new o.act xs v there) [
        | inl old ↦ new v old (puts_more o os k v later)
        | inr put ↦ head_new o os k v once put later
      ]))
  | inr other ↦ subst IsDistinct (sym (after_other o os k xs other))
      (after_distinct os k xs distinct (once_rest o os once) (λ v there later. new v there (puts_more o os k v later)))
]

module _ (r : Recording) (orders : Orders) (x : Explanation) (e : Explains r orders x) (once : ArePutOnce r)
    (each : (t : ℕ) → IsOnce (ops_of r t)) where
  pub seen_distinct_below : (n k at : ℕ) (xs : List ℕ) → at < n → Sees r x k at xs → IsDistinct xs
  seen_distinct_below zero k at xs lt sees = absurd (omega (arith, lt))
  seen_distinct_below (suc n) k at xs lt (inr none) = subst IsDistinct (sym none.1) none_distinct
  seen_distinct_below (suc n) k at xs lt (inl (u, newest, is)) =
      let upto = newest.1 in
      let (base, sees, left) = e.leaves k u newest.0 in
      let above = e.above u newest.0.0 in
      let old = seen_distinct_below n k (x.start u) base (omega (arith, lt, upto, above)) sees in
      subst IsDistinct (sym (is ∙ left)) (after_distinct (ops_of r u) k base old (each u)
      (λ v there put. (let (w, writer, also, before) = seen_put r orders x e k (x.start u) base v sees there in
      let same : w ≡ u = once w u k k v also put in
      let c = ap x.commit same in
      omega (arith, before, above, c))))

  pub seen_distinct : (k at : ℕ) (xs : List ℕ) → Sees r x k at xs → IsDistinct xs
  seen_distinct k at xs sees = seen_distinct_below (at + 1) k at xs (omega arith) sees
