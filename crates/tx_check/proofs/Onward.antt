-- The lines of a trace that were read by a check that goes on, and the machine that made those of
-- their steps that it makes.
use Rattle.std.proofs.Common.{◌≡◌, inl, inr, ℕ, suc, ◌+◌, Bool, true, false, cond, List, [], ◌∷◌, ◌++◌, length, reverse, Option, Some, None, IfSome, Ok, Err, refl, sym, ap, subst, ◌∙◌, append_assoc, append-nil, length-append}
use Rattle.std.proofs.lemmas.List.{reverse-append, length-reverse}
use Rattle.tx_types.specs.declared.fault.Cause.{Cause}
use Rattle.tx_machine.specs.declared.machine.Machine.{Machine}
use Rattle.tx_machine.specs.declared.reason.Why.{Why}
use Rattle.tx_machine.specs.declared.step.Step.{Step}
use Rattle.tx_machine.specs.Machine.{Table, Admits, empty, table_of}
use Rattle.tx_machine.specs.Representation.{Represents}
use Rattle.tx_machine.specs.Why.{IsWhy}
use Rattle.tx_text.specs.declared.end.Broken.{Broken}
use Rattle.tx_text.specs.declared.end.Broken.TheVariants.{Output}
use Rattle.tx_text.specs.declared.end.End.{End}
use Rattle.tx_text.specs.declared.end.End.TheVariants.{Well, Faulted}
use Rattle.tx_text.specs.declared.end.End.TheVariants as ended
use Rattle.tx_text.specs.Lines.{lines_of}
use Rattle.tx_text.specs.Output.{AppendsPart}
use Rattle.tx_text.specs.Texts.{line_text}
use Rattle.tx_check.specs.declared.checker.LineTurn.{LineTurn}
use Rattle.tx_check.specs.declared.checker.LineTurn.TheVariants as turn
use Rattle.tx_check.specs.declared.words.Verdict.TheVariants.{Yes, Fault}
use Rattle.tx_check.specs.Check.{step_in}
use Rattle.tx_check.specs.Turns.{Turns}
use Rattle.tx_check.specs.Words.{words}
use Rattle.tx_check.specs.All.{Turn, Made, Left, said_by, made_in, IsTurn, AreTurns, no_text, noes_text, has_no, IsAllOf, BreaksWithAll}
use Rattle.tx_check.proofs.Traces.{left_at}

-- there is a turn a line
as_many : (lines : List (List ℕ)) (turns : List Turn) → AreTurns lines turns → length turns ≡ length lines
as_many [] [] are = refl
as_many [] (t ∷ ts) are = absurd are
as_many (l ∷ ls) [] are = absurd are
as_many (l ∷ ls) (t ∷ ts) are = ap suc (as_many ls ts are.0)

-- the lines before those that are left have had these turns, and the machine stands for what they
-- leave
pub record AllSoFar (has_reasons : Bool) (input : List ℕ) (left : Option (List ℕ)) (machine : Machine) (number : ℕ)
    (text : List ℕ) (is_refused : Bool) : Type 0 where
  pub rest : List ℕ
  pub before : List (List ℕ)
  pub turns : List Turn
  pub is_left : left ≡ Some rest
  pub split : lines_of input ≡ before ++ lines_of rest
  pub counted : length before ≡ number
  pub turned : AreTurns (reverse before) turns
  pub stands : Represents machine (table_of (made_in turns))
  pub told : text ≡ noes_text has_reasons turns
  pub refused : is_refused ≡ has_no turns

pub all_so_far : (has_reasons : Bool) (known : Option (List ℕ)) (machine : Machine) (text : List ℕ)
    → Represents machine empty → text ≡ []
    → IfSome known (λ input. AllSoFar has_reasons input known machine 0 text false)
all_so_far has_reasons None machine text stands none = tt
all_so_far has_reasons (Some input) machine text stands none = record {
  rest = input;
  before = [];
  turns = [];
  is_left = refl;
  split = refl;
  counted = refl;
  turned = tt;
  stands = stands;
  told = none;
  refused = refl;
}

module _ {has_reasons : Bool} {input : List ℕ} {left : Option (List ℕ)} {machine : Machine} {number : ℕ} {text : List ℕ}
    {is_refused : Bool} (soon :
    AllSoFar has_reasons input left machine number text is_refused) (left' : Option (List ℕ)) (next : Machine) where
  at_rest : (t : LineTurn) → IfSome left (λ bytes. Turns bytes left' machine next (number + 1) t)
      → Turns soon.rest left' machine next (number + 1) t
  at_rest t turns = left_at (λ bytes. Turns bytes left' machine next (number + 1) t) left soon.rest soon.is_left turns

  counted_back : length (reverse soon.before) ≡ number
  counted_back = length-reverse soon.before ∙ soon.counted

  -- one more line
  one_more : (line : List ℕ) (rest : List ℕ) (t : Turn) → lines_of soon.rest ≡ line ∷ lines_of rest
      → step_in (number + 1) line ≡ Ok (said_by t) → IsTurn soon.turns t
      → (lines_of input ≡ (soon.before ++ line ∷ []) ++ lines_of rest)
      × (length (soon.before ++ line ∷ []) ≡ number + 1)
      × AreTurns (reverse (soon.before ++ line ∷ [])) (t ∷ soon.turns)
  one_more line rest t is says right =
      let newest : reverse (soon.before ++ line ∷ []) ≡ line ∷ reverse soon.before =
      reverse-append soon.before (line ∷ []) in
      let here : step_in (length (reverse soon.before) + 1) line ≡ Ok (said_by t) =
      subst (λ n. step_in (n + 1) line ≡ Ok (said_by t)) (sym counted_back) says in (
        soon.split ∙ ap (λ ls. soon.before ++ ls) is ∙ sym (append_assoc soon.before (line ∷ []) (lines_of rest)),
        length-append soon.before (line ∷ []) ∙ ap (λ n. n + 1) soon.counted,
        subst (λ ls. AreTurns ls (t ∷ soon.turns)) (sym newest) (soon.turned, here, right),
      )

  -- whose step was made
  pub made : IfSome left (λ bytes. Turns bytes left' machine next (number + 1) turn.Made)
      → AllSoFar has_reasons input left' next (number + 1) text is_refused
  made turns =
      let found = at_rest turn.Made turns in
      let does = found.6 (table_of (made_in soon.turns)) soon.stands in
      let more = one_more found.0 found.1 (Made found.2) found.4 found.5 does.0 in
      record {
        rest = found.1;
        before = soon.before ++ found.0 ∷ [];
        turns = Made found.2 ∷ soon.turns;
        is_left = found.3;
        split = more.0;
        counted = more.1;
        turned = more.2;
        stands = does.1;
        told = soon.told;
        refused = soon.refused;
      }

  -- whose step was not
  pub left_out : (step : Step) (text' : List ℕ)
      → IfSome left (λ bytes. Turns bytes left' machine next (number + 1) (turn.Refused step))
      → ((table : Table) → Represents next table → (Admits table step → ⊥)
      → (why : Why) × IsWhy next step (Some why) × (text' ≡ text ++ no_text has_reasons (number + 1) why))
      → AllSoFar has_reasons input left' next (number + 1) text' true
  left_out step text' turns tells =
      let found = at_rest (turn.Refused step) turns in
      let table = table_of (made_in soon.turns) in
      let stands = found.6 table soon.stands in
      let told = tells table stands (found.5 table soon.stands) in
      let more = one_more found.0 found.1 (Left step told.0) found.3 found.4 (told.1 table stands) in
      let many : length soon.turns ≡ number = as_many (reverse soon.before) soon.turns soon.turned ∙ counted_back in
      let at : no_text has_reasons (number + 1) told.0 ≡ no_text has_reasons (length soon.turns + 1) told.0 =
      ap (λ n. no_text has_reasons (n + 1) told.0) (sym many) in
      record {
        rest = found.1;
        before = soon.before ++ found.0 ∷ [];
        turns = Left step told.0 ∷ soon.turns;
        is_left = found.2;
        split = more.0;
        counted = more.1;
        turned = more.2;
        stands = stands;
        told = told.2 ∙ ap (λ t. t ++ no_text has_reasons (number + 1) told.0) soon.told
            ∙ ap (λ t. noes_text has_reasons soon.turns ++ t) at;
        refused = refl;
      }

  -- at the end every line was a step
  pub through : (text' : List ℕ) (end : End)
      → IfSome left (λ bytes. Turns bytes left' machine next (number + 1) turn.End)
      → text' ≡ text ++ cond is_refused [] (line_text (words Yes)) → end ≡ cond is_refused ended.No Well
      → IsAllOf has_reasons (lines_of input) text' end
  through text' end turns is ends =
      let none = at_rest turn.End turns in
      let all : lines_of input ≡ soon.before =
      soon.split ∙ ap (λ r. soon.before ++ lines_of r) none ∙ append-nil soon.before in
      let yes = line_text (words Yes) in
      inl (
        soon.turns,
        subst (λ ls. AreTurns (reverse ls) soon.turns) (sym all) soon.turned,
        is ∙ ap (λ t. t ++ cond is_refused [] yes) soon.told
            ∙ ap (λ b. noes_text has_reasons soon.turns ++ cond b [] yes) soon.refused,
        ends ∙ ap (λ b. cond b ended.No Well) soon.refused,
      )

  -- a line is no step
  pub cut_off : (cause : Cause) (text' : List ℕ)
      → IfSome left (λ bytes. Turns bytes left' machine next (number + 1) (turn.Faulted cause))
      → text' ≡ text ++ line_text (words (Fault (number + 1) cause))
      → IsAllOf has_reasons (lines_of input) text' Faulted
  cut_off cause text' turns is =
      let found = at_rest (turn.Faulted cause) turns in
      let at : length soon.before ≡ number = soon.counted in
      inr (
        soon.before,
        found.0,
        found.1,
        soon.turns,
        cause,
        soon.split ∙ ap (λ ls. soon.before ++ ls) found.2,
        soon.turned,
        subst (λ n. step_in (n + 1) found.0 ≡ Err cause) (sym at) found.3,
        is ∙ ap (λ t. t ++ line_text (words (Fault (number + 1) cause))) soon.told
            ∙ ap (λ n. noes_text has_reasons soon.turns ++ line_text (words (Fault (n + 1) cause))) (sym at),
        refl,
      )

-- where a write failed a beginning was written
pub breaks_all : (has_reasons : Bool) (input text bytes : List ℕ) (end : End) (old new : Option (List ℕ))
    (broken : Broken) → IsAllOf has_reasons (lines_of input) text end → bytes ≡ text → broken ≡ Output
    → AppendsPart old new bytes → BreaksWithAll has_reasons input old new broken
breaks_all has_reasons input text bytes end old new broken all same is part =
    inr (is, text, end, all, subst (AppendsPart old new) same part)
