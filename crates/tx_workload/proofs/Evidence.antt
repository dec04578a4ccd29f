-- What stands behind the answer of each line, by what its line says.
use Rattle.std.proofs.Common.{◌≡◌, ℕ, ◌+◌, ◌-◌, ◌<◌, List, [], ◌∷◌, ◌++◌, All, length, get_or, Bool, true, false, if◌then◌else◌, Option, Some, None, is_some, option_map, option_and_then, Result, Ok, Err, refl, sym, ap, subst, ◌∙◌, arith}
use Rattle.std.specs.Prelude.{slice_get, bytes_eq, codes, IfSome, OnOk}
use Rattle.std.proofs.lemmas.List.Elements.{All-push}
use Rattle.std.proofs.lemmas.Option.{same_Some}
use Rattle.std.specs.Borrow.{Bor}
use Rattle.serde_json.specs.Data.{Data, Items}
use Rattle.serde_json.specs.Find.{as_array}
use Rattle.tx_types.specs.declared.fault.Cause.{Cause}
use Rattle.tx_types.specs.declared.fault.Fault.{Fault}
use Rattle.tx_types.specs.declared.fault.Fault.TheVariants as fault
use Rattle.tx_types.specs.declared.key.Key.{Key}
use Rattle.tx_core.specs.declared.event.Outcome.{Outcome}
use Rattle.tx_core.specs.declared.event.Event.TheVariants.{Answered}
use Rattle.tx_core.specs.Histories.{History, Among, Begins}
use Rattle.tx_core.proofs.Basics.{key_true}
use Rattle.tx_journal.specs.Known.{Seen}
use Rattle.tx_text.specs.Lines.{lines_of}
use Rattle.tx_steps.specs.declared.program.Program.TheVariants.{Run}
use Rattle.tx_steps.specs.declared.op.Op.{Op}
use Rattle.tx_steps.specs.declared.step.Step.{Step}
use Rattle.tx_steps.specs.declared.step.Step.TheVariants as step
use Rattle.tx_steps.specs.Steps.{Text, asked, is_of, said, step_said, text_in, word_said}
use Rattle.tx_steps.specs.Bounds.{after_regions, all_keys, are_rising, bounds_said, list_said}
use Rattle.tx_steps.specs.Lines.{bounds_in, data_said, step_in}
use Rattle.tx_reply.specs.declared.reply.ScriptReply.{ScriptReply}
use Rattle.tx_reply.specs.declared.reply.ScriptReply.TheVariants as reply
use Rattle.tx_evidence.specs.Lines.{bounds_at, bounds_by, bounds_of, step_by}
use Rattle.tx_evidence.specs.Tells.{Entered, TellsBy}
use Rattle.tx_evidence.proofs.Stays.{tells_on}
use Rattle.tx_client.specs.Calls.{Seated}
use Rattle.tx_transfer.specs.declared.plain_reply.PlainReply.{PlainReply}
use Rattle.tx_transfer.specs.Replies.{reply_by, reply_of, said_of}
use Rattle.tx_transfer.specs.Seeds.{WasSeeded}
use Rattle.tx_transfer.proofs.SeedWrites.{seeded_on}
use Rattle.tx_transfer.specs.Sources.{HasLine, HasPair, pair_in, pair_of, pair_said}
use Rattle.tx_workload.specs.declared.reply.LineAnswer.{LineAnswer}
use Rattle.tx_workload.specs.declared.reply.LineAnswer.TheVariants.{Plain, Ended}
use Rattle.tx_workload.specs.declared.reply.LineReply.{LineReply}
use Rattle.tx_workload.specs.Faults.{opens}
use Rattle.tx_workload.specs.Logs.{answer_to}
use Rattle.tx_workload.specs.ScriptLines.{KeepsText, name_in, step_for, step_of}
use Rattle.tx_workload.specs.Steps.{Says, SaysStep, step_at}
use Rattle.tx_workload.specs.Tells.{AllTell, AnswerTells, EnteredBefore, IsBegun, OpensWith, SaidTells, SaysOfSession, TellsLine, TellsSeed, is_refusal}
use Rattle.tx_workload.proofs.StepReplies.{begin_tells}

module _ (source : Option (List ℕ)) (bounds : List Key) where
  -- ---- as more is known

  pub line_tells_on : (l h : History) → Begins l h → (s : LineReply) → TellsLine source bounds l s
      → TellsLine source bounds h s
  line_tells_on l h begins s x = (x.0, x.1, on x.0 s.answer x.2)
    where
      entered : Entered
      entered = EnteredBefore source s.number

      seed_on : (what : Step Text) (it : ScriptReply) → TellsSeed l what it → TellsSeed h what it
      seed_on (step.Seed key value) reply.Fine was = seeded_on l h begins key value was
      seed_on (step.Seed key value) _ is = is
      seed_on _ it was = tt

      on : (said : Option (Step Text)) (answer : LineAnswer) → AnswerTells bounds entered l said answer
          → AnswerTells bounds entered h said answer
      on said (Plain (Err cause)) tells = tt
      on (Some what) (Plain (Ok plain)) tells =
          (tells_on bounds entered l h begins what plain.reply tells.0, seed_on what plain.reply tells.1)
      on (Some what) (Ended start o keys) tells = tells_on bounds entered l h begins what (reply.Ended o) tells
      on None (Plain (Ok plain)) is = is
      on None (Ended start o keys) tells = absurd tells

  pub lines_tell_on : (l h : History) → Begins l h → (xs : List LineReply) → All (TellsLine source bounds l) xs
      → All (TellsLine source bounds h) xs
  lines_tell_on l h begins xs all k d lt = line_tells_on l h begins (get_or xs k d) (all k d lt)

  -- ---- one answer

  -- what a line says
  abbrev said_at : (source : Option (List ℕ)) → ℕ → Option (Step Text)
  said_at None number = None
  said_at (Some text) number = step_at text number

  says_at : (source : Option (List ℕ)) (number : ℕ) → Says source number (said_at source number)
  says_at None number = tt
  says_at (Some text) number = refl

  some_step : (source : Option (List ℕ)) (number : ℕ) → SaysStep source number
      → (what : Step Text) × Says source number (Some what)
  some_step None number is = (step.Tick 0, tt)
  some_step (Some text) number is = by (step_at text number) refl
    where
      by : (o : Option (Step Text)) → step_at text number ≡ o → (what : Step Text) × (step_at text number ≡ Some what)
      by None e = absurd (cc (is, e))
      by (Some what) e = (what, e)

  module _ (h : History) (number : ℕ) where
    pub fault_tells : (cause : Cause) → TellsLine source bounds h (answer_to number (Plain (Err cause)))
    fault_tells cause = (said_at source number, says_at source number, tt)

    pub reply_tells : (what : Step Text) (plain : PlainReply) → Says source number (Some what)
        → TellsBy bounds (EnteredBefore source number) h what plain.reply × TellsSeed h what plain.reply
        → TellsLine source bounds h (answer_to number (Plain (Ok plain)))
    reply_tells what plain says tells = (Some what, says, tells)

    seed_refused : (what : Step Text) (it : ScriptReply) → is_refusal it ≡ true → TellsSeed h what it
    seed_refused (step.Seed key value) reply.Fine is = absurd (cc (is))
    seed_refused (step.Seed key value) _ is = is
    seed_refused _ it is = tt

    refused : (what : Step Text) (it : ScriptReply) → is_refusal it ≡ true
        → TellsBy bounds (EnteredBefore source number) h what it × TellsSeed h what it
    refused what reply.OracleSpent is = (tt, seed_refused what reply.OracleSpent is)
    refused what reply.OutOfMemory is = (tt, seed_refused what reply.OutOfMemory is)
    refused what reply.KeyLength is = (tt, seed_refused what reply.KeyLength is)
    refused what reply.ValueLength is = (tt, seed_refused what reply.ValueLength is)
    refused what reply.TooManyKeys is = (tt, seed_refused what reply.TooManyKeys is)
    refused what reply.AlreadyExists is = (tt, seed_refused what reply.AlreadyExists is)
    refused what _ is = absurd (cc (is))

    pub refusal_tells : (plain : PlainReply) → SaysStep source number → is_refusal plain.reply ≡ true
        → TellsLine source bounds h (answer_to number (Plain (Ok plain)))
    refusal_tells plain says is =
        let some = some_step source number says in
        reply_tells some.0 plain some.1 (refused some.0 plain.reply is)

    pub outcome_tells : (start : ℕ) (o : Outcome) (keys : Option (Key × Key)) → SaysStep source number
        → Among h (Answered start o) → TellsLine source bounds h (answer_to number (Ended start o keys))
    outcome_tells start o keys says among =
        let some = some_step source number says in
        (Some some.0, some.1, (start, among))

    -- how many regions there are
    pub regions_tell : (plain : PlainReply) → Says source number None → plain.reply ≡ reply.Regions (length bounds + 1)
        → TellsLine source bounds h (answer_to number (Plain (Ok plain)))
    regions_tell plain says is = (None, says, is)

    pub answer_tells : (what : Step Text) (answer : Result PlainReply Cause) → Says source number (Some what)
        → SaidTells bounds (EnteredBefore source number) h what (said_of answer)
        → TellsLine source bounds h (answer_to number (Plain answer))
    answer_tells what (Ok plain) says tells = reply_tells what plain says tells
    answer_tells what (Err cause) says tells = fault_tells cause

    -- no step of a session is a seed
    no_seed : (what : Step Text) (it : ScriptReply) → is_some (name_in what) ≡ true → TellsSeed h what it
    no_seed (step.Seed key value) it is = absurd (cc (is))
    no_seed _ it is = tt

    -- a session that has just begun is told its start
    pub start_tells : (s : Seated) (plain : PlainReply) → plain.reply ≡ reply.Start s.state.start
        → SaysOfSession source number → IsBegun bounds s → Begins s.seat.events h
        → TellsLine source bounds h (answer_to number (Plain (Ok plain)))
    start_tells s plain is says begun begins =
        let what = says.0 in
        let entered = EnteredBefore source number in
        let start = reply.Start s.state.start in
        let told : TellsBy bounds entered h what start = tells_on bounds entered s.seat.events h begins what start
        (begin_tells bounds entered [] what begun.1 s.seat s.state.start begun.2) in
        reply_tells what plain says.1 (subst (λ (r : ScriptReply). TellsBy bounds entered h what r × TellsSeed h what r)
        (sym is) (told, no_seed what start says.2))

    -- a session did what its line says
    pub done_tells : (plain : PlainReply) → plain.reply ≡ reply.Fine → SaysOfSession source number
        → TellsLine source bounds h (answer_to number (Plain (Ok plain)))
    done_tells plain is says =
        let what = says.0 in
        reply_tells what plain says.1
        (subst (λ (r : ScriptReply). TellsBy bounds (EnteredBefore source number) h what r
        × TellsSeed h what r) (sym is)
        (tt, no_seed what reply.Fine says.2))

    is_refused : (e : Fault) → is_refusal (reply_of e) ≡ true
    is_refused fault.KeyLength = refl
    is_refused fault.ValueLength = refl
    is_refused fault.TooManyKeys = refl
    is_refused fault.AlreadyExists = refl
    is_refused fault.OracleSpent = refl
    is_refused _ = refl

    -- a seed was made, or refused
    pub seed_tells : (key value : List ℕ) (plain : PlainReply) (r : Result (Unit {0}) Fault) → plain.reply ≡ reply_by r
        → Says source number (Some (step.Seed key value)) → OnOk r (WasSeeded h key value)
        → TellsLine source bounds h (answer_to number (Plain (Ok plain)))
    seed_tells key value plain r is says was =
        reply_tells (step.Seed key value) plain says
        (subst (λ (x : ScriptReply). TellsBy bounds (EnteredBefore source number) h (step.Seed key value) x
        × TellsSeed h (step.Seed key value) x) (sym is) (by r was))
      where
        by : (r : Result (Unit {0}) Fault) → OnOk r (WasSeeded h key value)
            → TellsBy bounds (EnteredBefore source number) h (step.Seed key value) (reply_by r)
            × TellsSeed h (step.Seed key value) (reply_by r)
        by (Ok u) was = (tt, was)
        by (Err e) was = refused (step.Seed key value) (reply_of e) (is_refused e)

  -- an answer was added where there was room
  pub tell_if : (h : History) (xs ys : List LineReply) (x : LineReply) (added : Bool)
      → ys ≡ (if added then xs ++ x ∷ [] else xs) → All (TellsLine source bounds h) xs → TellsLine source bounds h x
      → All (TellsLine source bounds h) ys
  tell_if h xs ys x true is all tells =
      subst (λ (l : List LineReply). All (TellsLine source bounds h) l) (sym is)
      (All-push (TellsLine source bounds h) xs x all tells)
  tell_if h xs ys x false is all tells =
      subst (λ (l : List LineReply). All (TellsLine source bounds h) l) (sym is) all

-- ---- a transfer's line says a step

pair_some : (keys : Key × Key) (o : Option (Step Text)) → option_and_then pair_of o ≡ Some keys → is_some o ≡ true
pair_some keys None is = absurd (cc (is))
pair_some keys (Some what) is = refl

pair_says : (keys : Key × Key) (said : Result Data Cause) → pair_in said ≡ Some keys → is_some (step_by Run said) ≡ true
pair_says keys (Err cause) is = absurd (cc (is))
pair_says keys (Ok d) is = pair_some keys (step_in Run d) is

pub pair_step : (source : Option (List ℕ)) (number : ℕ) (keys : Key × Key) → HasPair source number (Some keys)
    → SaysStep source number
pair_step None number keys has = tt
pair_step (Some text) number keys has = by (slice_get (lines_of text) (number - 1)) has
  where
    by : (o : Option (List ℕ)) → option_map (pair_said number) o ≡ Some (Some keys)
        → is_some (option_and_then (λ line. step_by Run (data_said number line)) o) ≡ true
    by None is = absurd (cc (is))
    by (Some line) is = pair_says keys (data_said number line) (same_Some (pair_said number line) (Some keys) is)

-- ---- line 1

regions_word : (w : Text × Items) (items : Items)
    → (if bytes_eq w.0 (codes "regions") then after_regions w.1 else None) ≡ Some items → word_said w.0 ≡ None
regions_word w items is = by (bytes_eq w.0 (codes "regions")) refl is
  where
    by : (b : Bool) → bytes_eq w.0 (codes "regions") ≡ b → (if b then after_regions w.1 else None) ≡ Some items
        → word_said w.0 ≡ None
    by true same some = ap word_said (key_true w.0 (codes "regions") same)
    by false other some = absurd (cc (some))

list_step : (ds : Items) (o : Option (Text × Items)) (items : Items)
    → option_and_then (λ w. if bytes_eq w.0 (codes "regions") then after_regions w.1 else None) o ≡ Some items
    → option_and_then (λ w. option_and_then (λ x. said x w.1) (word_said w.0)) o ≡ None
list_step ds None items is = refl
list_step ds (Some w) items is = ap (option_and_then (λ x. said x w.1)) (regions_word w items is)

items_step : (ds : Items) (o : Option Items) (ks : List Key) → list_said ds ≡ o
    → option_and_then (λ items. option_and_then (λ l. if are_rising l then Some l else None) (all_keys items)) o
    ≡ Some ks
    → step_said Run ds ≡ None
items_step ds None ks is some = absurd (cc (some))
items_step ds (Some items) ks is some =
    ap (option_and_then (λ s. if is_of Run s then Some s else None)) (list_step ds (text_in ds) items is)

data_step : (o : Option Items) (ks : List Key) → option_and_then bounds_said o ≡ Some ks
    → option_and_then (step_said Run) o ≡ None
data_step None ks is = refl
data_step (Some ds) ks is = items_step ds (list_said ds) ks refl is

bounds_step : (o : Option (List Key)) (d : Data) (k : Key) (ks : List Key) → bounds_in d ≡ o → bounds_by o ≡ k ∷ ks
    → step_in Run d ≡ None
bounds_step None d k ks is none = absurd (cc (none))
bounds_step (Some l) d k ks is some = data_step (as_array d) l is

said_step : (s : Result Data Cause) (k : Key) (ks : List Key) → bounds_at s ≡ k ∷ ks → step_by Run s ≡ None
said_step (Err cause) k ks is = absurd (cc (is))
said_step (Ok d) k ks is = bounds_step (bounds_in d) d k ks refl is

line_step : (lines : List (List ℕ)) (k : Key) (ks : List Key) → bounds_of lines ≡ k ∷ ks
    → option_and_then (λ line. step_by Run (data_said 1 line)) (slice_get lines 0) ≡ None
line_step [] k ks is = absurd (cc (is))
line_step (line ∷ lines) k ks is = said_step (data_said 1 line) k ks is

-- where line 1 says the keys between the regions, it says no step
pub opens_with : (source : Option (List ℕ)) (kept : List (List ℕ)) (others : List ℕ) (between : List Key)
    → KeepsText source kept others between → OpensWith source between
opens_with source kept others [] keeps = tt
opens_with None kept others (k ∷ ks) keeps = tt
opens_with (Some text) kept others (k ∷ ks) keeps = line_step (lines_of text) k ks (sym keeps.bounds)

pub opens_says : (source : Option (List ℕ)) (between : List Key) → 0 < length between → OpensWith source between
    → Says source 1 None
opens_says source [] some opens = absurd (omega (arith, some))
opens_says source (k ∷ ks) some opens = opens

-- ---- steps

-- a line that was read says a step
pub step_says : (source : Option (List ℕ)) (number : ℕ) (what : Step Text) → Says source number (Some what)
    → SaysStep source number
step_says None number what says = tt
step_says (Some text) number what says = ap is_some says

pub session_step : (source : Option (List ℕ)) (number : ℕ) → SaysOfSession source number → SaysStep source number
session_step source number says = step_says source number says.0 says.1

module _ (source : Option (List ℕ)) (number : ℕ) (it : Step (Bor Text)) (says : Says source number (Some (asked it)))
  where
    pub begin_says : (name : Bor Text) → it ≡ step.Begin name → SaysOfSession source number
    begin_says name is = (asked it, says, ap (λ (s : Step (Bor Text)). is_some (name_in (asked s))) is)

    pub act_says : (name : Bor Text) (what : Op (Bor Text)) → it ≡ step.Act name what → SaysOfSession source number
    act_says name what is = (asked it, says, ap (λ (s : Step (Bor Text)). is_some (name_in (asked s))) is)

module _ (number : ℕ) (what : Step Text) where
  for_by : (b : Bool) (o : Option (Step Text)) → (if b then None else o) ≡ Some what → o ≡ Some what
  for_by true o is = absurd (cc (is))
  for_by false o is = is

  for_said : (said : Result Data Cause) → step_for number said ≡ Some what → step_by Run said ≡ Some what
  for_said (Err cause) is = absurd (cc (is))
  for_said (Ok d) is = for_by (opens number d) (step_in Run d) is

  pub line_says : (source : Option (List ℕ)) (line : List ℕ) → HasLine source number line
      → step_of number line ≡ Some what → SaysStep source number
  line_says None line has is = tt
  line_says (Some text) line has is =
      ap is_some (ap (option_and_then (λ l. step_by Run (data_said number l))) has
      ∙ for_said (data_said number line) is)

-- a line that is read again says its step
pub step_made : (source : Option (List ℕ)) (number : ℕ) (line : List ℕ) (d : Data) (it : Step (Bor Text))
    → HasLine source number line → data_said number line ≡ Ok d → option_map asked (Some it) ≡ step_in Run d
    → Says source number (Some (asked it))
step_made None number line d it has is said = tt
step_made (Some text) number line d it has is said =
    ap (option_and_then (λ l. step_by Run (data_said number l))) has ∙ ap (step_by Run) is ∙ sym said

-- ---- all answers

-- the regions of what was seen are those that line 1 says
regions_said : (source : Option (List ℕ)) (kept : List (List ℕ)) (others : List ℕ) (between seen : List Key)
    → KeepsText source kept others between → seen ≡ between
    → IfSome source (λ text. seen ≡ bounds_of (lines_of text))
regions_said None kept others between seen keeps is = tt
regions_said (Some text) kept others between seen keeps is = is ∙ keeps.bounds

pub all_tell : (source : Option (List ℕ)) (kept : List (List ℕ)) (others : List ℕ) (between : List Key) (seen : Seen)
    (replies : List LineReply) → KeepsText source kept others between
    → All (TellsLine source seen.bounds seen.events) replies → seen.bounds ≡ between → AllTell source seen replies
all_tell source kept others between seen replies keeps tells is =
    record { tells = tells; regions = regions_said source kept others between seen.bounds keeps is }
