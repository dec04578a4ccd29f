-- One more operation, and operations that put nothing.
use Rattle.std.proofs.Common.{◌≡◌, ◌↔◌, ◌⊎◌, inl, inr, ℕ, ◌+◌, ◌-◌, ◌<◌, ◌≤◌, ◌==◌, cond, List, [], ◌∷◌, ◌++◌, length, take, drop, get_or, arith, refl, sym, ap, ◌∙◌, subst, zero, suc}
use Rattle.std.proofs.lemmas.List.{take_more, take-append-drop, length-take-le, length-append, append_cancel_right, get_or_default}
use Rattle.std.proofs.lemmas.Bool.{cond-true, cond-false, eq-eqb, ne_eqb, cases_eq}
use Rattle.tx_recording.specs.declared.recording.Act.{Act}
use Rattle.tx_recording.specs.declared.recording.Act.TheVariants.{Read}
use Rattle.tx_recording.specs.declared.recording.Span.{Span}
use Rattle.tx_recording.specs.declared.recording.RecordedOp.{RecordedOp}
use Rattle.tx_recording.specs.Recordings.{no_op}
use Rattle.tx_recording.specs.Explanations.{act_on, after}

pub after_push : (os : List RecordedOp) (o : RecordedOp) (k : ℕ) (xs : List ℕ)
    → after (os ++ o ∷ []) k xs ≡ cond (o.key == k) (act_on o.act (after os k xs)) (after os k xs)
after_push [] o k xs = refl
after_push (p ∷ os) o k xs = after_push os o k (cond (p.key == k) (act_on p.act xs) xs)

-- what is left behind one operation more
pub after_more : (os : List RecordedOp) (i k : ℕ) (d : RecordedOp) (xs : List ℕ) → i < length os
    → after (take (i + 1) os) k xs
    ≡ cond ((get_or os i d).key == k) (act_on (get_or os i d).act (after (take i os) k xs)) (after (take i os) k xs)
after_more os i k d xs lt = ap (λ q. after q k xs) (take_more os i d lt) ∙ after_push (take i os) (get_or os i d) k xs

pub after_more_same : (os : List RecordedOp) (i k : ℕ) (d : RecordedOp) (xs : List ℕ) → i < length os
    → (get_or os i d).key ≡ k
    → after (take (i + 1) os) k xs ≡ act_on (get_or os i d).act (after (take i os) k xs)
after_more_same os i k d xs lt same = after_more os i k d xs lt ∙ cond-true _ _ _ (eq-eqb _ _ same)

pub after_more_other : (os : List RecordedOp) (i k : ℕ) (d : RecordedOp) (xs : List ℕ) → i < length os
    → ((get_or os i d).key ≡ k → ⊥)
    → after (take (i + 1) os) k xs ≡ after (take i os) k xs
after_more_other os i k d xs lt other = after_more os i k d xs lt ∙ cond-false _ _ _ (ne_eqb _ _ other)

-- a read leaves what there is
pub reads_more : (os : List RecordedOp) (i : ℕ) (d : RecordedOp) (s : Span) → i < length os
    → (get_or os i d).act ≡ Read s
    → ((p k : ℕ) (xs : List ℕ) → p ≤ i → after (take p os) k xs ≡ xs) → (p k : ℕ) (xs : List ℕ) → p ≤ i + 1
    → after (take p os) k xs ≡ xs
reads_more os i d s lt is below p k xs le = elim (cases_eq p (i + 1)) [
  | inl same ↦ ap (λ q. after (take q os) k xs) same ∙ (elim (cases_eq (get_or os i d).key k) [
    | inl at ↦ after_more_same os i k d xs lt at ∙ ap (λ a. act_on a (after (take i os) k xs)) is
        ∙ below i k xs (omega arith)
    | inr other ↦ after_more_other os i k d xs lt other ∙ below i k xs (omega arith)
  ])
  | inr ne ↦ below p k xs (omega (arith, le, ne))
]
