-- Lines have one verdict.
use Rattle.std.proofs.Common.{◌≡◌, ℕ, suc, ◌+◌, ◌<◌, ◌≤◌, List, [], ◌∷◌, ◌++◌, length, reverse, Result, Ok, Err, refl, sym, ap, subst, ◌∙◌, append_assoc, append-nil, add-zero, length-append, arith, inl, inr}
use Rattle.std.proofs.lemmas.Bool.{cases_order}
use Rattle.std.proofs.lemmas.List.{reverse-append}
use Rattle.tx_types.specs.declared.fault.Cause.{Cause}
use Rattle.tx_machine.specs.declared.step.Step.{Step}
use Rattle.tx_machine.specs.Machine.{Admits, table_of, IsRun}
use Rattle.tx_check.specs.declared.words.Verdict.{Verdict}
use Rattle.tx_check.specs.declared.words.Verdict.TheVariants.{Yes, No, Fault}
use Rattle.tx_check.specs.Check.{step_in, Says, Reaches, Decides, IsVerdict}

-- ---- lists

same_ok : {A B : Type 0} (r : Result A B) (x y : A) → r ≡ Ok x → r ≡ Ok y → x ≡ y
same_ok r x y e f = cc

same_err : {A B : Type 0} (r : Result A B) (x y : B) → r ≡ Err x → r ≡ Err y → x ≡ y
same_err r x y e f = cc

same_head : {A : Type 0} (x y : A) (xs ys : List A) → x ∷ xs ≡ y ∷ ys → x ≡ y
same_head x y xs ys e = cc

same_tail : {A : Type 0} (x y : A) (xs ys : List A) → x ∷ xs ≡ y ∷ ys → xs ≡ ys
same_tail x y xs ys e = cc

-- a longer beginning has the element that follows a shorter one
longer : {A : Type 0} (before whole : List A) (x : A) (more tail : List A) → before ++ x ∷ more ≡ whole ++ tail
    → length before < length whole → (mid : List A) × (whole ≡ before ++ x ∷ mid)
longer before [] x more tail e lt = absurd (omega arith)
longer [] (w ∷ whole) x more tail e lt = (whole, ap (λ y. y ∷ whole) (sym (same_head x w more (whole ++ tail) e)))
longer (b ∷ before) (w ∷ whole) x more tail e lt =
    let rest = longer before whole x more tail (same_tail b w (before ++ x ∷ more) (whole ++ tail) e) (omega arith) in
    (rest.0, ap (λ y. y ∷ whole) (sym (same_head b w (before ++ x ∷ more) (whole ++ tail) e)) ∙ ap (λ l. b ∷ l) rest.1)

-- one element stands at a place
same_place : {A : Type 0} (before before' : List A) (x x' : A) (more more' : List A)
    → before ++ x ∷ more ≡ before' ++ x' ∷ more' → length before ≡ length before' → x ≡ x'
same_place [] [] x x' more more' e n = same_head x x' more more' e
same_place [] (b' ∷ before') x x' more more' e n = absurd (omega arith)
same_place (b ∷ before) [] x x' more more' e n = absurd (omega arith)
same_place (b ∷ before) (b' ∷ before') x x' more more' e n =
    same_place before before' x x' more more' (same_tail b b' (before ++ x ∷ more) (before' ++ x' ∷ more') e)
    (omega arith)

-- ---- steps

-- what longer lines say begins with what their beginning says
Says-split : (number : ℕ) (before : List (List ℕ)) (line : List ℕ) (mid : List (List ℕ)) (firsts whole : List Step)
    → Says number before firsts → Says number (before ++ line ∷ mid) whole
    → (step : Step) × (rest : List Step) × (whole ≡ firsts ++ step ∷ rest)
    × (step_in (number + length before) line ≡ Ok step)
Says-split number [] line mid [] [] h w = absurd w
Says-split number [] line mid [] (s ∷ whole) h w =
    (s, whole, refl, subst (λ n. step_in n line ≡ Ok s) (sym (add-zero number)) w.0)
Says-split number [] line mid (f ∷ firsts) whole h w = absurd h
Says-split number (b ∷ before) line mid [] whole h w = absurd h
Says-split number (b ∷ before) line mid (f ∷ firsts) [] h w = absurd w
Says-split number (b ∷ before) line mid (f ∷ firsts) (s ∷ whole) h w =
    let more = Says-split (number + 1) before line mid firsts whole h.1 w.1 in
    let same : s ≡ f = same_ok (step_in number b) s f w.0 h.0 in
    let place : (number + 1) + length before ≡ number + suc (length before) = omega arith in (
      more.0,
      more.1,
      ap (λ x. x ∷ whole) same ∙ ap (λ l. f ∷ l) more.2,
      subst (λ n. step_in n line ≡ Ok more.0) place more.3,
    )

IsRun-rest : (xs ys : List Step) → IsRun (xs ++ ys) → IsRun ys
IsRun-rest [] ys h = h
IsRun-rest (x ∷ xs) ys h = IsRun-rest xs ys h.0

-- each step of a run is one that the machine makes after those before it
admitted : (firsts : List Step) (step : Step) (rest : List Step) → IsRun (reverse (firsts ++ step ∷ rest))
    → Admits (table_of (reverse firsts)) step
admitted firsts step rest run =
    let order : reverse (firsts ++ step ∷ rest) ≡ reverse rest ++ step ∷ reverse firsts =
    reverse-append firsts (step ∷ rest)
    ∙ ap (λ l. l ++ reverse firsts) (reverse-append (step ∷ []) rest)
    ∙ append_assoc (reverse rest) (step ∷ []) (reverse firsts) in
    (IsRun-rest (reverse rest) (step ∷ reverse firsts) (subst IsRun order run)).1

-- ---- verdicts

-- the machine makes no step that the line of this number says
record StopsAt (lines : List (List ℕ)) (number : ℕ) : Type 0 where
  line : List ℕ
  firsts : List Step
  reached : Reaches lines number line firsts
  stops : (step : Step) → step_in number line ≡ Ok step → Admits (table_of (reverse firsts)) step → ⊥

stop_no : (lines : List (List ℕ)) (number : ℕ) → Decides lines (No number) → StopsAt lines number
stop_no lines number d = record {
  line = d.0;
  firsts = d.1;
  reached = d.3;
  stops = λ step is admits. d.5
      (subst (Admits (table_of (reverse d.1))) (same_ok (step_in number d.0) step d.2 is d.4) admits);
}

clash : {A B : Type 0} {C : Type 0} (r : Result A B) (x : A) (y : B) → r ≡ Ok x → r ≡ Err y → C
clash r x y e f = cc

stop_fault : (lines : List (List ℕ)) (number : ℕ) (cause : Cause) → Decides lines (Fault number cause)
    → StopsAt lines number
stop_fault lines number cause d = record {
  line = d.0;
  firsts = d.1;
  reached = d.2;
  stops = λ step is admits. clash (step_in number d.0) step cause is d.3;
}

refutes : {lines : List (List ℕ)} {number : ℕ} (at : StopsAt lines number) (steps : List Step) → IsRun (reverse steps)
    → (step : Step) × (rest : List Step) × (steps ≡ at.firsts ++ step ∷ rest)
    × (step_in (1 + length at.reached.before) at.line ≡ Ok step) → ⊥
refutes {lines} {number} at steps run parts =
    let place : number ≡ 1 + length at.reached.before = omega (arith, at.reached.numbered) in
    at.stops parts.0 (ap (λ n. step_in n at.line) place
    ∙ parts.3) (admitted at.firsts parts.0 parts.1 (subst (λ l. IsRun (reverse l)) parts.2 run))

beyond : {lines : List (List ℕ)} {number : ℕ} (at : StopsAt lines number) (whole : List (List ℕ)) (steps : List Step)
    → Says 1 whole steps → IsRun (reverse steps) → (mid : List (List ℕ)) × (whole ≡ at.reached.before ++ at.line ∷ mid)
    → ⊥
beyond at whole steps says run long =
    refutes at steps run (Says-split 1 at.reached.before at.line long.0 at.firsts steps at.reached.says
    (subst (λ l. Says 1 l steps) long.1 says))

-- no longer beginning says a run
never : {lines : List (List ℕ)} {number : ℕ} → StopsAt lines number → (whole tail : List (List ℕ)) (steps : List Step)
    → lines ≡ whole ++ tail → number ≤ length whole → Says 1 whole steps → IsRun (reverse steps) → ⊥
never {lines} {number} at whole tail steps is within says run =
    beyond at whole steps says run
    (longer at.reached.before whole at.line at.reached.more tail (sym at.reached.split
    ∙ is) (omega (arith, at.reached.numbered)))

never_yes : {lines : List (List ℕ)} {number : ℕ} → StopsAt lines number → Decides lines Yes → ⊥
never_yes {lines} {number} at d =
    let count = ap length at.reached.split ∙ length-append at.reached.before (at.line ∷ at.reached.more) in
    never at lines [] d.0 (sym (append-nil lines)) (omega (arith, count, at.reached.numbered)) d.1 d.2

before_other : {lines : List (List ℕ)} {n m : ℕ} → StopsAt lines n → StopsAt lines m → n < m → ⊥
before_other {lines} {n} {m} at other lt =
    never at other.reached.before (other.line
    ∷ other.reached.more) other.firsts other.reached.split (omega (arith, other.reached.numbered))
    other.reached.says other.reached.run

same_number : {lines : List (List ℕ)} {n m : ℕ} → StopsAt lines n → StopsAt lines m → n ≡ m
same_number {lines} {n} {m} at other =
    elim (cases_order n m) [
      | inl e ↦ e
      | inr o ↦ elim o [ inl lt ↦ absurd (before_other at other lt) | inr gt ↦ absurd (before_other other at gt) ]
    ]

same_line : {lines : List (List ℕ)} {n m : ℕ} {x y : List ℕ} {xs ys : List Step} → Reaches lines n x xs
    → Reaches lines m y ys → n ≡ m → x ≡ y
same_line {lines} {n} {m} {x} {y} r t e =
    same_place r.before t.before x y r.more t.more (sym r.split ∙ t.split) (omega (arith, r.numbered, t.numbered))

not_both : (lines : List (List ℕ)) (n m : ℕ) (cause : Cause) → Decides lines (No n) → Decides lines (Fault m cause) → ⊥
not_both lines n m cause d f =
    let n_is : n ≡ m = same_number (stop_no lines n d) (stop_fault lines m cause f) in
    let line_is : d.0 ≡ f.0 = same_line d.3 f.2 n_is in
    clash (step_in m f.0) d.2 cause (ap (λ l. step_in m l) (sym line_is) ∙ ap (λ k. step_in k d.0) (sym n_is) ∙ d.4) f.3

same_cause : (lines : List (List ℕ)) (n m : ℕ) (cause other : Cause) → Decides lines (Fault n cause)
    → Decides lines (Fault m other) → Fault n cause ≡ Fault m other
same_cause lines n m cause other d f =
    let n_is : n ≡ m = same_number (stop_fault lines n cause d) (stop_fault lines m other f) in
    let line_is : d.0 ≡ f.0 = same_line d.2 f.2 n_is in
    let cause_is : cause ≡ other =
    same_err (step_in m f.0) cause other (ap (λ l. step_in m l) (sym line_is) ∙ ap (λ k. step_in k d.0) (sym n_is)
    ∙ d.3) f.3 in
    cc

one_verdict : (lines : List (List ℕ)) (v w : Verdict) → Decides lines v → Decides lines w → v ≡ w
one_verdict lines Yes Yes d e = refl
one_verdict lines Yes (No m) d e = absurd (never_yes (stop_no lines m e) d)
one_verdict lines Yes (Fault m c) d e = absurd (never_yes (stop_fault lines m c e) d)
one_verdict lines (No n) Yes d e = absurd (never_yes (stop_no lines n d) e)
one_verdict lines (No n) (No m) d e = ap No (same_number (stop_no lines n d) (stop_no lines m e))
one_verdict lines (No n) (Fault m c) d e = absurd (not_both lines n m c d e)
one_verdict lines (Fault n c) Yes d e = absurd (never_yes (stop_fault lines n c d) e)
one_verdict lines (Fault n c) (No m) d e = absurd (not_both lines m n c e d)
one_verdict lines (Fault n c) (Fault m b) d e = same_cause lines n m c b d e

-- a verdict is the only one
pub only : (lines : List (List ℕ)) (verdict : Verdict) → Decides lines verdict → IsVerdict lines verdict
only lines verdict d = (d, λ other e. one_verdict lines other verdict e d)
