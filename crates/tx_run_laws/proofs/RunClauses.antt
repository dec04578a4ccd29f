-- What the clauses of a run say follows from how it was played, and the other way round.
use Rattle.std.proofs.Common.{◌≡◌, ◌<◌, ◌++◌, ℕ, false, List, [], ◌∷◌, All, map, length, get_or, Option, Some, None, Ok, Err, refl, sym, ap, subst, ◌∙◌, arith}
use Rattle.std.specs.Prelude.{slice_get, option_map, unwrap_or, IfSome}
use Rattle.std.specs.List.{AllPairs, flat_map}
use Rattle.std.specs.Option.{option_to_list}
use Rattle.std.proofs.lemmas.List.{length-map}
use Rattle.std.proofs.lemmas.List.Elements.{All-cons, All-head, All-map, All-nil}
use Rattle.std.proofs.lemmas.Option.{same_Some, slice_get-get_or, slice_get-map, slice_get_within}
use Rattle.tx_types.specs.declared.key.Key.{Key}
use Rattle.tx_core.specs.Histories.{History, Begins}
use Rattle.tx_core.specs.Worlds.{IsWorldRun}
use Rattle.tx_core.proofs.seats.Beginnings.{run_beginning}
use Rattle.tx_ops.specs.declared.stage.SessionStage.{SessionStage}
use Rattle.tx_text.specs.Lines.{lines_of}
use Rattle.tx_evidence.specs.Lines.{bounds_of}
use Rattle.tx_steps.specs.Steps.{Text}
use Rattle.tx_steps.specs.declared.step.Step.{Step}
use Rattle.tx_transfer.specs.Totals.{IsTotal}
use Rattle.tx_workload.specs.declared.reply.LineAnswer.{LineAnswer}
use Rattle.tx_workload.specs.declared.reply.LineAnswer.TheVariants.{Plain, Ended}
use Rattle.tx_workload.specs.declared.reply.LineReply.{LineReply}
use Rattle.tx_workload.specs.Answers.{Answers, IsReply, numbers_of}
use Rattle.tx_workload.specs.Outcomes.{TellsOutcomes}
use Rattle.tx_workload.specs.ScriptLines.{opening_of, seeds_of, sessions_of}
use Rattle.tx_workload.specs.Steps.{Says}
use Rattle.tx_workload.specs.Tells.{AnswerTells, EnteredBefore, OpensWith, TellsLine}
use Rattle.tx_workload.specs.Totals.{TellsTotal, seen_in}
use Rattle.tx_workload.proofs.Evidence.{lines_tell_on, opens_with}
use Rattle.tx_run.specs.Jobs.{AreAnswered, AreFalling, ArePlayed, ComesOfText, IsLearnt, IsSubsequence, Output, stages_in}
use Rattle.tx_run.specs.Played.{SessionPlays, known_at}
use Rattle.tx_run.specs.Sums.{SumsBehind}
use Rattle.tx_run.proofs.AllAnswers.{outcomes_on}
use Rattle.tx_run.proofs.Totals.{tells_total}
use Rattle.tx_run_laws.specs.Runs.{RunPlays, SessionRun, SessionRuns, TellsRegions}
use Rattle.tx_run_laws.proofs.RunOutcomes.{run_outcomes, session_stands}
use Rattle.tx_run_laws.proofs.RunReplies.{all_of, before_replies, front_all, run_tells}

-- a session that was played, as what a job came to that lost no answer, and told all that it knew
abbrev output_of : SessionRun → Output
output_of s = record {
  number = 0;
  log = record { seat = s.seat; told = s.last; replies = s.replies; lost = false };
  faulted = s.faulted;
  stage = s.stage;
  last = Some s.last;
}

got_map : {X Y : Type 0} (f : X → Y) (xs : List X) (k : ℕ) (y : Y) → slice_get (map f xs) k ≡ Some y
    → (x : X) × (slice_get xs k ≡ Some x) × (f x ≡ y)
got_map {X} {Y} f xs k y is = by (slice_get xs k) refl
  where
    by : (o : Option X) → slice_get xs k ≡ o → (x : X) × (slice_get xs k ≡ Some x) × (f x ≡ y)
    by None none =
        let never : None ≡ Some y = sym (ap (option_map f) none) ∙ sym (slice_get-map f xs k) ∙ is in
        absurd (cc (never))
    by (Some x) some = (
      x,
      some,
      same_Some (f x) y (sym (ap (option_map f) some) ∙ sym (slice_get-map f xs k) ∙ is),
    )

flat_outputs : (sessions : List SessionRun)
    → flat_map (λ o. o.log.replies) (map output_of sessions) ≡ flat_map (λ s. s.replies) sessions
flat_outputs [] = refl
flat_outputs (s ∷ more) = ap (λ (l : List LineReply). s.replies ++ l) (flat_outputs more)

flat_stages : (sessions : List SessionRun)
    → stages_in (map output_of sessions) ≡ flat_map (λ s. option_to_list s.stage) sessions
flat_stages [] = refl
flat_stages (s ∷ more) = ap (λ (l : List (ℕ × SessionStage)). option_to_list s.stage ++ l) (flat_stages more)

-- what holds of each pair of a list holds of what is made of them
map_pairs : {X Y : Type 0} (f : X → Y) (R : Y → Y → Type 0) (xs : List X) → AllPairs (λ a b. R (f a) (f b)) xs
    → AllPairs R (map f xs)
map_pairs {X} {Y} f R xs pairs i j d before within =
    let count = length-map xs f in
    let a = at i (omega (arith, before, within, count)) in
    let b = at j (omega (arith, within, count)) in
    subst (λ y. R (get_or (map f xs) i d) y) b.2
    (subst (λ y. R y (f b.0)) a.2 (of_two a.0 b.0 a.1 b.1 (omega (arith, within, count))))
  where
    at : (k : ℕ) → k < length xs → (x : X) × (slice_get xs k ≡ Some x) × (f x ≡ get_or (map f xs) k d)
    at k lt = got_map f xs k (get_or (map f xs) k d)
        (slice_get-get_or (map f xs) k d (omega (arith, lt, length-map xs f)))

    of_two : (a b : X) → slice_get xs i ≡ Some a → slice_get xs j ≡ Some b → j < length xs → R (f a) (f b)
    of_two a b one two lt =
        let first : get_or xs i a ≡ a =
        same_Some _ a (sym (slice_get-get_or xs i a (omega (arith, before, lt))) ∙ one) in
        let then : get_or xs j a ≡ b = same_Some _ b (sym (slice_get-get_or xs j a lt) ∙ two) in
        subst (λ x. R (f a) (f x)) then
        (subst (λ x. R (f x) (f (get_or xs j a))) first (pairs i j a before lt))

-- what holds of each holds of the one that is there
all_there : {X : Type 0} (P : X → Type 0) (xs : List X) (k : ℕ) (x : X) → All P xs → slice_get xs k ≡ Some x → P x
all_there P xs k x all there =
    let lt = slice_get_within xs k x there in
    subst P (same_Some (get_or xs k x) x (sym (slice_get-get_or xs k x lt) ∙ there)) (all k x lt)

module _ (text : List ℕ) (bounds : List Key) (h : History) (replies : List LineReply)
    (stages : List (ℕ × SessionStage)) (run : IsWorldRun bounds h) (played : RunPlays text bounds h replies stages)
  where
    abbrev sessions : List SessionRun
    sessions = played.sessions

    abbrev outputs : List Output
    outputs = map output_of sessions

    -- each session was learnt of
    learnt : All (IsLearnt h) outputs
    learnt = All-map (IsLearnt h) output_of sessions
        (all_of text bounds h sessions (λ s. IsLearnt h (output_of s)) played.each
        (λ k numbers s there runs. record {
          kept = refl;
          tells = session_stands text bounds h k numbers s runs;
          knows = runs.knew;
          knew = runs.knew;
        }))

    -- the lines of each were answered
    answered : AreAnswered (sessions_of (lines_of text)) outputs
    answered = (
      length-map sessions output_of ∙ played.each.0,
      λ k numbers output at there kept.
          let got = got_map output_of sessions k output there in
          subst (λ (o : Output). Answers numbers o.faulted o.log.replies) got.2
          (played.each.1 k numbers got.0 at got.1).answers,
    )

    falling : AreFalling outputs
    falling = map_pairs output_of (λ a b. b.log.seat < a.log.seat) sessions played.apart

    -- each was played
    all_played : ArePlayed bounds (Some text) outputs
    all_played k output there known kept =
        let got = got_map output_of sessions k output there in
        subst (λ (o : Output). SessionPlays bounds (Some text) o.log.seat o.log.replies o.stage o.last) got.2
        (all_there (λ s. SessionPlays bounds (Some text) s.seat s.replies s.stage (Some s.last)) sessions k got.0
        (all_of text bounds h sessions
        (λ s. SessionPlays bounds (Some text) s.seat s.replies s.stage (Some s.last)) played.each
        (λ n numbers s at runs. runs.plays)) got.1)

    pub run_comes : ComesOfText (Some text) bounds h replies stages
    run_comes = (
      outputs,
      (
        played.before,
        played.firsts,
        before_replies text bounds h replies stages played,
        record {
          learnt = learnt;
          all = played.all ∙ ap (λ (l : List LineReply). played.before ++ l) (sym (flat_outputs sessions));
        },
        played.opened,
      ),
      answered,
      falling,
      all_played,
      subst (IsSubsequence stages) (sym (flat_stages sessions)) played.far,
    )

-- ---- and the other way round

-- what a job came to that lost no answer, as a session that was played
abbrev run_of : Output → SessionRun
run_of o = record {
  seat = o.log.seat;
  replies = o.log.replies;
  faulted = o.faulted;
  stage = o.stage;
  last = unwrap_or o.last [];
}

flat_runs : (outputs : List Output)
    → flat_map (λ s. s.replies) (map run_of outputs) ≡ flat_map (λ o. o.log.replies) outputs
flat_runs [] = refl
flat_runs (o ∷ more) = ap (λ (l : List LineReply). o.log.replies ++ l) (flat_runs more)

run_stages : (outputs : List Output)
    → flat_map (λ s. option_to_list s.stage) (map run_of outputs) ≡ stages_in outputs
run_stages [] = refl
run_stages (o ∷ more) = ap (λ (l : List (ℕ × SessionStage)). option_to_list o.stage ++ l) (run_stages more)

module _ (text : List ℕ) (bounds : List Key) (h : History) where
  known_begins : (last : Option History) (x : History) → last ≡ Some x → IfSome last (λ told. Begins told h)
      → Begins (unwrap_or last []) h
  known_begins None x is knew = absurd (cc (is))
  known_begins (Some told) x is knew = knew

  session_runs : (numbers : List ℕ) (o : Output) → IsLearnt h o → Answers numbers o.faulted o.log.replies
      → SessionPlays bounds (Some text) o.log.seat o.log.replies o.stage o.last
      → SessionRuns bounds text h numbers (run_of o)
  session_runs numbers o learnt answers plays = record {
    plays = record {
      last = plays.last;
      plays = plays.plays;
      far = plays.far;
      knew = ap (λ (l : Option History). Some (unwrap_or l [])) plays.knew;
    };
    answers = answers;
    knew = known_begins o.last (known_at plays.last).events plays.knew learnt.knew;
  }

  -- what is told of line 1, which says the keys between the regions
  told_regions : (answer : LineAnswer) → IsReply answer → AnswerTells bounds (EnteredBefore (Some text) 1) h None answer
      → TellsRegions bounds answer
  told_regions (Plain (Ok plain)) reply is = is
  told_regions (Plain (Err why)) reply is = absurd (cc (reply.1))
  told_regions (Ended start o keys) reply is = absurd is

  one_regions : (s : LineReply) → s.number ≡ 1 → Says (Some text) 1 None → IsReply s.answer
      → TellsLine (Some text) bounds h s → TellsRegions bounds s.answer
  one_regions s number none reply (said, says, tells) =
      let at : Says (Some text) 1 said = subst (λ (n : ℕ). Says (Some text) n said) number says in
      let same : said ≡ None = sym at ∙ none in
      told_regions s.answer reply
      (subst (λ (n : ℕ). AnswerTells bounds (EnteredBefore (Some text) n) h None s.answer) number
      (subst (λ (x : Option (Step Text)). AnswerTells bounds (EnteredBefore (Some text) s.number) h x s.answer) same
      tells))

  all_regions : (between : List Key) (first : List LineReply) → OpensWith (Some text) between
      → numbers_of first ≡ opening_of between → All (λ s. IsReply s.answer) first
      → All (λ s. s.number ≡ 1 → TellsLine (Some text) bounds h s) first
      → All (λ s. TellsRegions bounds s.answer) first
  all_regions between [] opens named replies tells = All-nil (λ (s : LineReply). TellsRegions bounds s.answer)
  all_regions [] (s ∷ more) opens named replies tells = absurd (cc (named))
  all_regions (b ∷ bs) (s ∷ []) opens named replies tells =
      let number : s.number ≡ 1 = cc (named) in
      All-cons (λ (x : LineReply). TellsRegions bounds x.answer) s []
      (one_regions s number opens (All-head (λ (x : LineReply). IsReply x.answer) s [] replies)
      (All-head (λ (x : LineReply). x.number ≡ 1 → TellsLine (Some text) bounds h x) s [] tells number))
      (All-nil (λ (x : LineReply). TellsRegions bounds x.answer))
  all_regions (b ∷ bs) (s ∷ t ∷ more) opens named replies tells = absurd (cc (named))

  module _ (replies : List LineReply) (stages : List (ℕ × SessionStage)) where
    -- what is said of a run, and what line 1 is told, says how it was played
    pub run_is_played : ComesOfText (Some text) bounds h replies stages → bounds ≡ bounds_of (lines_of text)
        → All (λ s. s.number ≡ 1 → TellsLine (Some text) bounds h s) replies
        → RunPlays text bounds h replies stages
    run_is_played (outputs, (before, firsts, quiet, joined, opened), answered, falling, played, far) regions tells =
        let lines = lines_of text in
        let first_all : (P : LineReply → Type 0) → All P before → All P opened.first =
        λ P each. front_all P opened.first opened.seeds (subst (All P) opened.all each) in
        let told = front_all (λ s. s.number ≡ 1 → TellsLine (Some text) bounds h s) before
        (flat_map (λ (o : Output). o.log.replies) outputs)
        (subst (All (λ (s : LineReply). s.number ≡ 1 → TellsLine (Some text) bounds h s)) joined.all tells) in
        let opens = opens_with (Some text) (sessions_of lines) (seeds_of lines) bounds
        (record { sessions = refl; seeds = refl; bounds = regions }) in
        record {
          regions = regions;
          before = before;
          firsts = firsts;
          opened = opened;
          opens = all_regions bounds opened.first opens opened.opening (first_all (λ s. IsReply s.answer) quiet)
              (first_all (λ s. s.number ≡ 1 → TellsLine (Some text) bounds h s) told);
          sessions = map run_of outputs;
          each = (
            length-map outputs run_of ∙ answered.0,
            λ k numbers s at there.
                let got = got_map run_of outputs k s there in
                let learnt = all_there (IsLearnt h) outputs k got.0 joined.learnt got.1 in
                subst (λ (x : SessionRun). SessionRuns bounds text h numbers x) got.2
                (session_runs numbers got.0 learnt (answered.1 k numbers got.0 at got.1 learnt.kept)
                (played k got.0 got.1 refl learnt.kept)),
          );
          apart = map_pairs run_of (λ a b. b.seat < a.seat) outputs falling;
          all = joined.all ∙ ap (λ (l : List LineReply). before ++ l) (sym (flat_runs outputs));
          far = subst (IsSubsequence stages) (sym (run_stages outputs)) far;
        }

    -- ---- the sum of all balances

    -- a total that was read behind all that the sessions knew at last
    pub run_sums : (before : History) (total : ℕ) → IsWorldRun bounds h → Begins before h
        → RunPlays text bounds before replies stages → IsTotal bounds before h total
        → SumsBehind (Some text) (seen_in bounds h) replies total × TellsTotal (seen_in bounds h) replies total
    run_sums before total run begins played sums =
        let first = run_beginning bounds before h run begins in
        let told = run_outcomes text bounds before replies stages played first in (
          record {
            before = before;
            begins = begins;
            told = told;
            tells = (run_tells text bounds before replies stages played).tells;
            sums = sums;
          },
          tells_total bounds before h replies total told run sums,
        )

-- what was read behind what the lines are told says these, of all that was seen
pub sums_tell : (source : Option (List ℕ)) (bounds : List Key) (h : History) (replies : List LineReply) (total : ℕ)
    → IsWorldRun bounds h → SumsBehind source (seen_in bounds h) replies total
    → TellsTotal (seen_in bounds h) replies total × TellsOutcomes h replies × All (TellsLine source bounds h) replies
sums_tell source bounds h replies total run sums = (
  tells_total bounds sums.before h replies total sums.told run sums.sums,
  outcomes_on bounds sums.before h run sums.begins replies sums.told,
  lines_tell_on source bounds sums.before h sums.begins replies sums.tells,
)
