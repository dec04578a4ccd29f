-- The text of the sums, part by part.
use Rattle.std.proofs.Common.{◌≡◌, ℕ, List, [], ◌∷◌, ◌++◌, append_assoc, sym, ap, ◌∙◌, codes}
use Rattle.std.specs.Prelude.{decimal}
use Rattle.json.specs.Print.{escape_byte}
use Rattle.tx_workload.specs.declared.counts.RunCounts.{RunCounts}
use Rattle.tx_workload.specs.Texts.{outcomes_text}

all_parts : (old t a b c d e : List ℕ)
    → (((((old ++ t) ++ a) ++ b) ++ c) ++ d) ++ e ≡ old ++ (t ++ (a ++ (b ++ (c ++ (d ++ e)))))
all_parts old t a b c d e = simp append_assoc

-- four numbers, each with a comma before it but the first, a bracket and a newline
newline_last : (a b c d : List ℕ)
    → (a ++ 44 ∷ (b ++ 44 ∷ (c ++ 44 ∷ (d ++ 93 ∷ [])))) ++ 10 ∷ [] ≡ a ++ 44
    ∷ (b ++ 44 ∷ (c ++ 44 ∷ (d ++ 93 ∷ 10 ∷ [])))
newline_last a b c d =
    append_assoc a (44 ∷ (b ++ 44 ∷ (c ++ 44 ∷ (d ++ 93 ∷ [])))) (10 ∷ [])
    ∙ ap (λ l. a ++ 44 ∷ l) (append_assoc b (44 ∷ (c ++ 44 ∷ (d ++ 93 ∷ []))) (10 ∷ [])
    ∙ ap (λ l. b ++ 44 ∷ l) (append_assoc c (44 ∷ (d ++ 93 ∷ [])) (10 ∷ [])
    ∙ ap (λ l. c ++ 44 ∷ l) (append_assoc d (93 ∷ []) (10 ∷ []))))

pub outcomes_is : (old : List ℕ) (counts : RunCounts)
    → (((((old ++ codes "[\"outcomes\"") ++ 44 ∷ decimal counts.committed) ++ 44 ∷ decimal counts.aborted) ++ 44
    ∷ decimal counts.unknown) ++ 44 ∷ decimal counts.read_only) ++ 93 ∷ 10 ∷ [] ≡ old ++ outcomes_text counts
unfolding outcomes_text escape_byte
outcomes_is old counts =
    let a = decimal counts.committed in
    let b = decimal counts.aborted in
    let c = decimal counts.unknown in
    let d = decimal counts.read_only in
    all_parts old (codes "[\"outcomes\"") (44 ∷ a) (44 ∷ b) (44 ∷ c) (44 ∷ d) (93 ∷ 10 ∷ [])
    ∙ ap (λ l. old ++ (codes "[\"outcomes\"" ++ 44 ∷ l)) (sym (newline_last a b c d))
