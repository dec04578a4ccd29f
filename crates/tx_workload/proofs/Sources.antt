-- The lines of a script's text, as it is read, and what they say of the answers.
use Rattle.std.proofs.Common.{◌≡◌, ℕ, ◌+◌, ◌-◌, ◌<◌, ◌≤◌, nat_lt, inl, inr, List, [], ◌∷◌, ◌++◌, All, length, length-append, Bool, true, false, if◌then◌else◌, Option, Some, None, Result, Ok, Err, option_map, option_and_then, refl, sym, ap, subst, ◌∙◌, arith}
use Rattle.std.proofs.lemmas.List.Elements.{All-push}
use Rattle.std.specs.Prelude.{IfSome, ok_or, slice_get}
use Rattle.std.proofs.lemmas.Option.{slice_get_read, same_Some}
use Rattle.std.proofs.lemmas.Bool.{cases_lt, lt-ltb}
use Rattle.std.proofs.Math.Seq.{get_or-append_seam}
use Rattle.std.specs.Borrow.{Bor}
use Rattle.serde_json.specs.Data.{Data}
use Rattle.tx_types.specs.declared.key.Key.{Key}
use Rattle.tx_text.specs.Lines.{lines_of, max_line, max_lines, ReadsLine}
use Rattle.tx_text.specs.Parts.{json_of}
use Rattle.tx_text.specs.declared.lines.Found.TheVariants.{Line, Long}
use Rattle.tx_types.specs.declared.fault.Cause.{Cause}
use Rattle.tx_types.specs.declared.fault.Cause.TheVariants as causes
use Rattle.tx_core.specs.declared.event.Outcome.{Outcome}
use Rattle.tx_steps.specs.declared.program.Program.TheVariants.{Run}
use Rattle.tx_steps.specs.declared.step.Step.{Step}
use Rattle.tx_steps.specs.Steps.{Text, asked}
use Rattle.tx_steps.specs.Lines.{data_said, step_in}
use Rattle.tx_workload.specs.declared.reply.LineAnswer.{LineAnswer}
use Rattle.tx_workload.specs.declared.reply.LineAnswer.TheVariants.{Plain, Ended}
use Rattle.tx_workload.specs.declared.reply.LineReply.{LineReply}
use Rattle.tx_workload.specs.Faults.{IsFaultless, NoneBefore, TakesLine, TellsFault, fault_of, refused_as}
use Rattle.tx_workload.specs.Outcomes.{start_of}
use Rattle.tx_transfer.specs.Sources.{pair_of, pair_in, pair_said, HasLine, HasPair, HasTransfer, transfer_in, transfer_of}
use Rattle.tx_workload.specs.Pairs.{SaysPair, TellsPair}

-- ---- as the text is read

-- the reader stands before the line of this number
pub record Before (text : List ℕ) (left : Option (List ℕ)) (number : ℕ) : Type 0 where
  pub rest : List ℕ
  pub before : List (List ℕ)
  pub is : left ≡ Some rest
  pub split : lines_of text ≡ before ++ lines_of rest
  pub numbered : number ≡ length before + 1

abbrev pub Stands : Option (List ℕ) → Option (List ℕ) → ℕ → Type 0
Stands None left number = Unit {0}
Stands (Some text) left number = Before text left number

pub stands_first : (source left : Option (List ℕ)) → source ≡ left → Stands source left 1
stands_first None left same = tt
stands_first (Some text) left same = record { rest = text; before = []; is = sym same; split = refl; numbered = refl }

-- what is read of a text where this is left
abbrev pub ReadsSome : Option (List ℕ) → Option (List ℕ) → List ℕ → Type 0
ReadsSome left now line = IfSome left (λ bytes. ReadsLine bytes now Line line)

reads_it : (rest : List ℕ) (left now : Option (List ℕ)) (line : List ℕ) → left ≡ Some rest → ReadsSome left now line
    → ReadsLine rest now Line line
reads_it rest left now line is reads = subst (λ (o : Option (List ℕ)). ReadsSome o now line) is reads

at_seam : (xs : List (List ℕ)) (y : List ℕ) (ys : List (List ℕ)) → slice_get (xs ++ y ∷ ys) (length xs) ≡ Some y
at_seam xs y ys = slice_get_read (xs ++ y
    ∷ ys) (length (xs ++ y ∷ ys)) (length xs) y refl (seam_within xs y ys) (sym (get_or-append_seam xs y ys y))
  where
    seam_within : (xs : List (List ℕ)) (y : List ℕ) (ys : List (List ℕ)) → length xs < length (xs ++ y ∷ ys)
    seam_within xs y ys = grind (arith, length-append)

pub line_read : (source left now : Option (List ℕ)) (number : ℕ) (line : List ℕ) → Stands source left number
    → ReadsSome left now line → HasLine source number line
line_read None left now number line stands reads = tt
line_read (Some text) left now number line stands reads =
    let r = reads_it stands.rest left now line stands.is reads in
    let all : lines_of text ≡ stands.before ++ line ∷ lines_of r.0 =
    stands.split ∙ ap (λ (l : List (List ℕ)). stands.before ++ l) r.3 in
    let at : number - 1 ≡ length stands.before = omega (arith, stands.numbered) in
    subst (λ (l : List (List ℕ)). slice_get l (number - 1)
    ≡ Some line) (sym all)
    (subst (λ (n : ℕ). slice_get (stands.before ++ line ∷ lines_of r.0) n
    ≡ Some line) (sym at) (at_seam stands.before line (lines_of r.0)))

append_one : (xs : List (List ℕ)) (y : List ℕ) (ys : List (List ℕ)) → xs ++ y ∷ ys ≡ (xs ++ y ∷ []) ++ ys
append_one [] y ys = refl
append_one (x ∷ xs) y ys = ap (λ (l : List (List ℕ)). x ∷ l) (append_one xs y ys)

pub stands_next : (source left now : Option (List ℕ)) (number : ℕ) (line : List ℕ) → Stands source left number
    → ReadsSome left now line → Stands source now (number + 1)
stands_next None left now number line stands reads = tt
stands_next (Some text) left now number line stands reads =
    let r = reads_it stands.rest left now line stands.is reads in
    record {
      rest = r.0;
      before = stands.before ++ line ∷ [];
      is = r.1;
      split = stands.split ∙ ap (λ (l : List (List ℕ)). stands.before ++ l) r.3
          ∙ append_one stands.before line (lines_of r.0);
      numbered = omega (arith, stands.numbered, length-append stands.before (line ∷ []));
    }

-- ---- which lines have a fault

-- no line before has a fault, where the text is known
abbrev pub SoFar : Option (List ℕ) → ℕ → Type 0
SoFar source number = IfSome source (λ text. NoneBefore text number)

pub so_far_first : (source : Option (List ℕ)) → SoFar source 1
so_far_first None = tt
so_far_first (Some text) = λ k line lt there. absurd (omega (arith, lt))

-- one more line has none
pub so_far_next : (source : Option (List ℕ)) (number : ℕ) (line : List ℕ) → 0 < number → SoFar source number
    → HasLine source number line → fault_of number line ≡ None → SoFar source (number + 1)
so_far_next None number line some before has none = tt
so_far_next (Some text) number line some before has none = λ k other lt there. elim (cases_lt (k + 1) number) [
  | inl less ↦ before k other less there
  | inr more ↦ (let at : number ≡ k + 1 = omega (arith, lt, more) in
      let here : slice_get (lines_of text) k ≡ Some line =
      subst (λ (n : ℕ). slice_get (lines_of text) n ≡ Some line) (let same : number - 1 ≡ k = omega (arith, at) in
      same) has in
      let same : line ≡ other = same_Some line other (sym here ∙ there) in
      subst (λ (l : List ℕ). fault_of (k + 1) l ≡ None) same (subst (λ (n : ℕ). fault_of n line ≡ None) at none))
]

-- the text ends here
pub so_far_whole : (source left : Option (List ℕ)) (number : ℕ) → Stands source left number
    → IfSome left (λ bytes. bytes ≡ []) → SoFar source number → IsFaultless source
so_far_whole None left number stands ends before = tt
so_far_whole (Some text) left number stands ends before =
    let rest : stands.rest ≡ [] = subst (λ (o : Option (List ℕ)). IfSome o (λ bytes. bytes ≡ [])) stands.is ends in
    let all : lines_of text ≡ stands.before ++ [] =
    stands.split ∙ ap (λ (l : List ℕ). stands.before ++ lines_of l) rest in
    let same : number ≡ length (lines_of text) + 1 =
    omega (arith, stands.numbered, ap length all, length-append stands.before []) in
    subst (NoneBefore text) same before

-- a line that is too long has that fault
pub long_fault : (source left : Option (List ℕ)) (now : Option (List ℕ)) (line : List ℕ) (number : ℕ)
    → Stands source left number → IfSome left (λ bytes. ReadsLine bytes now Long line) → SoFar source number
    → TellsFault source number causes.Long
long_fault None left now line number stands reads before = tt
long_fault (Some text) left now line number stands reads before =
    let r = subst (λ (o : Option (List ℕ)). IfSome o (λ bytes. ReadsLine bytes now Long line)) stands.is reads in
    let all : lines_of text ≡ stands.before ++ r.0 ∷ r.1 =
    stands.split ∙ ap (λ (l : List (List ℕ)). stands.before ++ l) r.3 in
    let at : number - 1 ≡ length stands.before = omega (arith, stands.numbered) in
    let long : nat_lt max_line (length r.0) ≡ true = lt-ltb max_line (length r.0) r.2 in
    record {
      line = r.0;
      stands = subst (λ (l : List (List ℕ)). slice_get l (number - 1)
          ≡ Some r.0) (sym all)
          (subst (λ (n : ℕ). slice_get (stands.before ++ r.0 ∷ r.1) n
          ≡ Some r.0) (sym at) (at_seam stands.before r.0 r.1));
      fault = inl (rw long refl);
      first = before;
    }

-- a line that has none is of the lines that a text may have
not_too_many : (long : Bool) (number : ℕ) (said : Result Data Cause)
    → refused_as number (if long then Err causes.Long else (if true then Err causes.Lines else said)) ≡ None → ⊥
not_too_many true number said e = cc (e)
not_too_many false number said e = cc (e)

pub few_lines : (number : ℕ) (line : List ℕ) → fault_of number line ≡ None → number ≤ max_lines
few_lines number line none = elim (cases_lt max_lines number) [
  | inr le ↦ le
  | inl more ↦ absurd (not_too_many (nat_lt max_line (length line)) number (ok_or (json_of line) causes.Json)
      (subst (λ (b : Bool). refused_as number
      (if nat_lt max_line (length line) then Err causes.Long else
      (if b then Err causes.Lines else ok_or (json_of line) causes.Json)) ≡ None)
      (lt-ltb max_lines number more) none))
]

-- a line that is not taken has the fault that is told
pub take_fault : (source : Option (List ℕ)) (number sessions : ℕ) (line : List ℕ) (cause : Cause)
    → HasLine source number line → SoFar source number → sessions < number → TakesLine number line sessions (Err cause)
    → TellsFault source number cause
take_fault None number sessions line cause has before fewer takes = tt
take_fault (Some text) number sessions line cause has before fewer takes = record {
  line = line;
  stands = has;
  fault = elim takes [ inl said ↦ inl said | inr many ↦ inr (many.0, (many.1.0, omega (arith, many.1.1, fewer))) ];
  first = before;
}

-- ---- what a line says

pub pair_made : (source : Option (List ℕ)) (number : ℕ) (line : List ℕ) (d : Data) (step : Step (Bor Text))
    → HasLine source number line → data_said number line ≡ Ok d → option_map asked (Some step) ≡ step_in Run d
    → HasPair source number (pair_of (asked step))
pair_made None number line d step has is said = tt
pair_made (Some text) number line d step has is said =
    ap (option_map (pair_said number)) has ∙ ap Some (ap pair_in is ∙ ap (option_and_then pair_of) (sym said))

pub transfer_made : (source : Option (List ℕ)) (number : ℕ) (line : List ℕ) (d : Data) (step : Step (Bor Text))
    → HasLine source number line → data_said number line ≡ Ok d → option_map asked (Some step) ≡ step_in Run d
    → HasTransfer source number (transfer_of (asked step))
transfer_made None number line d step has is said = tt
transfer_made (Some text) number line d step has is said =
    ap (option_map (λ (l : List ℕ). transfer_in (data_said number l))) has
    ∙ ap Some (ap transfer_in is ∙ ap (option_and_then transfer_of) (sym said))

-- ---- answers

says_none : (source : Option (List ℕ)) (number : ℕ) (r : LineAnswer) → start_of r ≡ None → SaysPair source number r
says_none source number (Ended t o keys) e = absurd (cc)
says_none source number (Plain plain) e = tt

pub none_pairs : (source : Option (List ℕ)) (xs : List LineReply) → All (λ s. start_of s.answer ≡ None) xs
    → All (TellsPair source) xs
none_pairs source xs none k d lt = says_none source _ _ (none k d lt)

-- an answer was added where there was room
pub pairs_if : (source : Option (List ℕ)) (xs ys : List LineReply) (x : LineReply) (added : Bool)
    → ys ≡ (if added then xs ++ x ∷ [] else xs) → All (TellsPair source) xs → TellsPair source x
    → All (TellsPair source) ys
pairs_if source xs ys x true is all says =
    subst (λ (l : List LineReply). All (TellsPair source) l) (sym is) (All-push (TellsPair source) xs x all says)
pairs_if source xs ys x false is all says = subst (λ (l : List LineReply). All (TellsPair source) l) (sym is) all
