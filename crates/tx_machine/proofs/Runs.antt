-- Runs of a list of steps, oldest first.
use Rattle.std.proofs.Common.{◌≡◌, ℕ, ◌+◌, ◌<◌, ◌++◌, List, [], ◌∷◌, length, take, drop, reverse, get_or, sym, ap, subst, ◌∙◌}
use Rattle.std.proofs.Common.{Result, Err}
use Rattle.std.specs.Result.{IsErrOf}
use Rattle.std.proofs.lemmas.List.{take_more, take-append-drop, reverse-append}
use Rattle.tx_machine.specs.declared.step.Step.{Step}
use Rattle.tx_machine.specs.Machine.{IsRun, Admits, table_of}

run_tail : (xs ys : List Step) → IsRun (xs ++ ys) → IsRun ys
run_tail [] ys r = r
run_tail (x ∷ xs) ys r = run_tail xs ys r.0

more : (steps : List Step) (i : ℕ) (d : Step) → i < length steps
    → reverse (take (i + 1) steps) ≡ get_or steps i d ∷ reverse (take i steps)
more steps i d h = ap (reverse {A = Step}) (take_more steps i d h)
    ∙ reverse-append (take i steps) (get_or steps i d ∷ [])

-- in a run each step is admitted after those before it
pub admitted : (steps : List Step) (i : ℕ) (d : Step) → i < length steps → IsRun (reverse steps)
    → Admits (table_of (reverse (take i steps))) (get_or steps i d)
admitted steps i d h run =
    let whole : reverse steps ≡ reverse (drop (i + 1) steps) ++ reverse (take (i + 1) steps) =
    ap (reverse {A = Step}) (sym (take-append-drop (i + 1) steps))
    ∙ reverse-append (take (i + 1) steps) (drop (i + 1) steps) in
    let front : IsRun (reverse (take (i + 1) steps)) =
    run_tail (reverse (drop (i + 1) steps)) (reverse (take (i + 1) steps))
    (subst (λ (xs : List Step). IsRun xs) whole run) in
    (subst (λ (xs : List Step). IsRun xs) (more steps i d h) front).1

err_parts : {T E : Type 0} (a b : E) → ◌≡◌ {A = Result T E} (Err a) (Err b) → a ≡ b
err_parts a b e = cc e

-- the same refusal, of another result
pub err_of : {T U E : Type 0} (a b : E) → IsErrOf {T = T} (Err a) b → IsErrOf {T = U} (Err a) b
err_of a b e = ap Err (err_parts a b e)
