-- What operations put, and what they leave.
use Rattle.std.proofs.Common.{◌≡◌, ◌⊎◌, ◌≢◌, ℕ, ◌+◌, ◌<◌, ◌≤◌, ◌==◌, cond, List, [], ◌∷◌, ◌++◌, length, Contains, arith, inl, inr, refl, sym, ap, ◌∙◌, subst, zero, suc, eq-eqb, get_or}
use Rattle.std.proofs.lemmas.Bool.{cond-true, cond-false, cases_eq, ne_eqb}
use Rattle.std.proofs.lemmas.List.{length_push, same_from_push}
use Rattle.std.proofs.lemmas.List.Elements.{Contains-append_right, Contains-append_cases, Contains-push_cases}
use Rattle.tx_recording.specs.declared.recording.Act.{Act}
use Rattle.tx_recording.specs.declared.recording.Act.TheVariants.{Append, Write, Read}
use Rattle.tx_recording.specs.declared.recording.RecordedOp.{RecordedOp}
use Rattle.tx_recording.specs.Explanations.{act_on, after, Puts, PutsIn}

-- v is the last of the list
abbrev pub IsLast : List ℕ → ℕ → Type 0
IsLast xs v = (ys : List ℕ) × (xs ≡ ys ++ v ∷ [])

pub last_unique : (xs : List ℕ) (v w : ℕ) → IsLast xs v → IsLast xs w → v ≡ w
last_unique xs v w (ys, e) (zs, f) = (same_from_push ys zs v w (sym e ∙ f)).1

pub none_last : (xs : List ℕ) (v : ℕ) → xs ≡ [] → IsLast xs v → ⊥
none_last xs v empty (ys, e) =
    let n = length_push ys v in
    let m : length xs ≡ 0 = ap length empty in
    let q : length xs ≡ length (ys ++ v ∷ []) = ap length e in
    omega (arith, n, m, q)

pub after_same : (o : RecordedOp) (os : List RecordedOp) (k : ℕ) (xs : List ℕ) → o.key ≡ k
    → after (o ∷ os) k xs ≡ after os k (act_on o.act xs)
after_same o os k xs e = ap (λ q. after os k q) (cond-true (o.key == k) (act_on o.act xs) xs (eq-eqb o.key k e))

pub after_other : (o : RecordedOp) (os : List RecordedOp) (k : ℕ) (xs : List ℕ) → (o.key ≡ k → ⊥)
    → after (o ∷ os) k xs ≡ after os k xs
after_other o os k xs ne = ap (λ q. after os k q) (cond-false (o.key == k) (act_on o.act xs) xs (ne_eqb o.key k ne))

pub puts_more : (o : RecordedOp) (os : List RecordedOp) (k v : ℕ) → PutsIn os k v → PutsIn (o ∷ os) k v
puts_more o os k v (q, c, e, p) = (q, Contains-append_right (o ∷ []) os q c, e, p)

pub puts_head : (o : RecordedOp) (os : List RecordedOp) (k v : ℕ) → o.key ≡ k → Puts o.act v → PutsIn (o ∷ os) k v
puts_head o os k v e p = (o, (0, omega arith, refl), e, p)

only_one : (o q : RecordedOp) → Contains (o ∷ []) q → o ≡ q
only_one o q (zero, lt, is) = is
only_one o q (suc i, lt, is) = absurd (omega (arith, lt))

pub puts_cases : (o : RecordedOp) (os : List RecordedOp) (k v : ℕ) → PutsIn (o ∷ os) k v
    → ((o.key ≡ k) × Puts o.act v) ⊎ PutsIn os k v
puts_cases o os k v (q, c, e, p) = elim (Contains-append_cases (o ∷ []) os q c) [
  | inl head ↦ (
      let P : RecordedOp → Type 0 = λ z. (z.key ≡ k) × Puts z.act v in
      inl (subst P (sym (only_one o q head)) (e, p)))
  | inr rest ↦ inr (q, rest, e, p)
]

pub no_puts : (k v : ℕ) → PutsIn [] k v → ⊥
no_puts k v (q, (i, lt, is), e, p) = omega (arith, lt)

act_contains : (a : Act) (xs : List ℕ) (v : ℕ) → Contains (act_on a xs) v → Contains xs v ⊎ Puts a v
act_contains (Append w) xs v c = Contains-push_cases xs w v c
act_contains (Write w) xs v c = elim (Contains-push_cases [] w v c) [
  | inl none ↦ absurd (let lt = none.1 in omega (arith, lt))
  | inr same ↦ inr same
]
act_contains (Read span) xs v c = inl c

-- what is left was there, or was put
pub after_contains : (os : List RecordedOp) (k : ℕ) (xs : List ℕ) (v : ℕ) → Contains (after os k xs) v
    → Contains xs v ⊎ PutsIn os k v
after_contains [] k xs v c = inl c
after_contains (o ∷ os) k xs v c = elim (cases_eq o.key k) [
  | inl same ↦ elim (after_contains os k (act_on o.act xs) v
      (subst (λ q. Contains q v) (after_same o os k xs same) c)) [
        | inl there ↦ elim (act_contains o.act xs v there) [
          | inl old ↦ inl old
          | inr put ↦
              inr (puts_head o os k v same put)
        ]
        | inr later ↦ inr (puts_more o os k v later)
      ]
  | inr other ↦ elim (after_contains os k xs v (subst (λ q. Contains q v) (after_other o os k xs other) c)) [
    | inl there ↦ inl there
    | inr later ↦ inr (puts_more o os k v later)
  ]
]

-- one value is last in what operations leave of any list, or they put nothing
abbrev pub EndsIn : List RecordedOp → ℕ → ℕ → Type 0
EndsIn os k v = PutsIn os k v × ((xs : List ℕ) → IsLast (after os k xs) v)

abbrev pub PutsNothing : List RecordedOp → ℕ → Type 0
PutsNothing os k = ((v : ℕ) → PutsIn os k v → ⊥) × ((xs : List ℕ) → after os k xs ≡ xs)

puts_head_nothing : (o : RecordedOp) (os : List RecordedOp) (k : ℕ) → ((v : ℕ) → PutsIn os k v → ⊥)
    → ((v : ℕ) → o.key ≡ k → Puts o.act v → ⊥) → (v : ℕ) → PutsIn (o ∷ os) k v → ⊥
puts_head_nothing o os k rest head v p = elim (puts_cases o os k v p) [
  | inl at ↦ head v at.0 at.1
  | inr later ↦ rest v later
]

head_ends : (a : Act) → ((v : ℕ) × Puts a v × ((xs : List ℕ) → IsLast (act_on a xs) v))
    ⊎ (((v : ℕ) → Puts a v → ⊥) × ((xs : List ℕ) → act_on a xs ≡ xs))
head_ends (Append w) = inl (w, refl, λ xs. (xs, refl))
head_ends (Write w) = inl (w, refl, λ xs. ([], refl))
head_ends (Read span) = inr (λ v p. p, λ xs. refl)

pub ends : (os : List RecordedOp) (k : ℕ) → ((v : ℕ) × EndsIn os k v) ⊎ PutsNothing os k
ends [] k = inr (λ v p. no_puts k v p, λ xs. refl)
ends (o ∷ os) k = elim (ends os k) [
  | inl (v, (put, last)) ↦ inl (v, (puts_more o os k v put, λ xs. last (cond (o.key == k) (act_on o.act xs) xs)))
  | inr (none, same) ↦ elim (cases_eq o.key k) [
    | inr other ↦ inr (
      puts_head_nothing o os k none (λ v e p. other e),
      λ xs. after_other o os k xs other ∙ same xs,
    )
    | inl at ↦ elim (head_ends o.act) [
      | inl (v, put, last) ↦ inl (
        v,
        (
          puts_head o os k v at put,
          λ xs. subst (λ q. IsLast q v)
              (sym (after_same o os k xs at ∙ same (act_on o.act xs))) (last xs),
        ),
      )
      | inr (nothing, stays) ↦ inr (
        puts_head_nothing o os k none (λ v e p. nothing v p),
        λ xs. after_same o os k xs at ∙ same (act_on o.act xs) ∙ stays xs,
      )
    ]
  ]
]
