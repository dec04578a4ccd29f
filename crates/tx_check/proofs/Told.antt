-- The reason that is told is one of the step that was refused.
use Rattle.std.proofs.Common.{◌≡◌, inr, ℕ, List, ◌++◌, length, reverse, Option, Some, None, IfSome, take_all, Result, Ok, Err, OnErr, sym, ap, subst, ◌∙◌, arith}
use Rattle.std.specs.Io.KnownBytes.{Appends, Keeps}
use Rattle.std.specs.Result.{IfErr, IsErrAnd}
use Rattle.tx_machine.specs.declared.machine.Machine.{Machine}
use Rattle.tx_machine.specs.declared.reason.Why.{Why}
use Rattle.tx_machine.specs.declared.step.Step.{Step}
use Rattle.tx_machine.specs.Machine.{table_of}
use Rattle.tx_machine.specs.Why.{IsWhy}
use Rattle.tx_text.specs.declared.end.Broken.{Broken}
use Rattle.tx_text.specs.declared.end.Broken.TheVariants.{Output}
use Rattle.tx_text.specs.declared.end.End.{End}
use Rattle.tx_text.specs.Lines.{lines_of}
use Rattle.tx_text.specs.Output.{AppendsPart}
use Rattle.tx_text.specs.Texts.{line_text}
use Rattle.tx_check.specs.declared.checker.Halt.{Halt}
use Rattle.tx_check.specs.declared.checker.Halt.TheVariants.{Refused}
use Rattle.tx_check.specs.declared.words.Verdict.TheVariants.{No}
use Rattle.tx_check.specs.Check.{IsReason, Explained, IsVerdict, end_of, EndsWithReason, BreaksWithReason}
use Rattle.tx_check.specs.Reasons.{reason_text}
use Rattle.tx_check.specs.Turns.{verdict_of, StandsAt, Stops, IsKept}
use Rattle.tx_check.specs.Writers.{writer_text}
use Rattle.tx_check.specs.Words.{words}

module _ (lines : List (List ℕ)) (number : ℕ) (machine : Machine) (step : Step) where
  -- a reason at the machine is one at the line
  pub told : (why : Why) → IsWhy machine step (Some why) → StandsAt lines number machine step
      → IsReason lines number why
  told why is at = (at.0, at.1, step, at.2, at.3, is (table_of (reverse at.1)) at.4)

  -- there is one
  pub never_none : IsWhy machine step None → StandsAt lines number machine step → ⊥
  never_none made at = at.5 (made (table_of (reverse at.1)) at.4)

  -- the line of a no, the line of a reason, and that of who wrote what a read claims
  pub explained_no : (stop : Halt) (steps : List Step) (first text : List ℕ) → stop ≡ Refused number machine step
      → first ≡ line_text (words (verdict_of stop))
      → (StandsAt lines number machine step
      → (why : Why) × IsReason lines number why
      × (text ≡ first ++ (reason_text number why ++ writer_text steps number why)))
      → Stops lines stop → IsKept lines stop steps → Explained lines (verdict_of stop) text
  explained_no stop steps first text is line made =
      let no : first ≡ line_text (words (No number)) = line ∙ ap (λ s. line_text (words (verdict_of s))) is in
      subst (λ s. Stops lines s → IsKept lines s steps → Explained lines (verdict_of s) text) (sym is)
      (λ at kept. let one = made at in (
        one.0,
        kept.0,
        steps,
        one.1,
        kept.1,
        one.2 ∙ ap (λ t. t ++ (reason_text number one.0 ++ writer_text steps number one.0)) no,
      ))

-- ---- what is known of the same bytes

pub if_both : {X : Type 0} {P Q R : X → Type 0} (o : Option X) → ((x : X) → P x → Q x → R x) → IfSome o P → IfSome o Q
    → IfSome o R
if_both None f p q = tt
if_both (Some x) f p q = f x p q

pub if_three : {X : Type 0} {P Q R S : X → Type 0} (o : Option X) → ((x : X) → P x → Q x → R x → S x) → IfSome o P
    → IfSome o Q → IfSome o R → IfSome o S
if_three None f p q r = tt
if_three (Some x) f p q r = f x p q r

-- ---- how a check with its reason ends

module _ (input : List ℕ) (stop : Halt) {text : List ℕ} (bytes : List ℕ) (same : bytes
    ≡ text) (verdict : IsVerdict (lines_of input) (verdict_of stop)) (explained :
    Explained (lines_of input) (verdict_of stop) text) where
  pub ends_so : (old new : Option (List ℕ)) (end : End) → end ≡ end_of (verdict_of stop) → Appends old new bytes
      → EndsWithReason input old new end
  ends_so old new end is all = (verdict_of stop, text, verdict, explained, subst (Appends old new) same all, is)

  pub breaks_so : (old new : Option (List ℕ)) (broken : Broken) → broken ≡ Output → AppendsPart old new bytes
      → BreaksWithReason input old new broken
  breaks_so old new broken is part =
      inr (is, verdict_of stop, text, verdict, explained, subst (AppendsPart old new) same part)

-- ---- a text that is written whole, and handed on

pub if_err_is : {T E : Type 0} (P : E → Type 0) (r : Result T E) (e : E) → IsErrAnd r (λ y. y ≡ e) → P e → IfErr r P
if_err_is P (Ok v) e is p = tt
if_err_is P (Err y) e is p = subst P (sym is) p

pub on_err : {T E : Type 0} {Q : Type 0} (r : Result T E) → Q → OnErr r Q
on_err (Ok v) q = tt
on_err (Err e) q = q

whole_kept : (a b c : Option (List ℕ)) (bs : List ℕ) → Appends a b bs → Keeps b c → Appends a c bs
whole_kept None b c bs p k = tt
whole_kept (Some x) None c bs p k = absurd p
whole_kept (Some x) (Some y) None bs p k = absurd k
whole_kept (Some x) (Some y) (Some z) bs p k = k ∙ p

pub whole_part : (a b c : Option (List ℕ)) (bs : List ℕ) → Appends a b bs → Keeps b c → AppendsPart a c bs
whole_part a b c bs p k =
    (length bs, subst (Appends a c) (sym (take_all (length bs) bs (omega arith))) (whole_kept a b c bs p k))
