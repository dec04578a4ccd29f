-- What the lines of a run that was played are told tells of what has happened.
use Rattle.std.proofs.Common.{◌≡◌, ◌<◌, ◌-◌, ◌++◌, ℕ, true, false, not, List, [], ◌∷◌, All, length, get_or, Option, Some, None, Ok, refl, sym, ap, subst, ◌∙◌, length-append, arith}
use Rattle.std.specs.Prelude.{slice_get, is_some}
use Rattle.std.specs.List.{AllPairs, flat_map}
use Rattle.std.specs.Option.{option_map_or}
use Rattle.std.proofs.lemmas.List.{append_cancel_left, get_or_append_left, map-append}
use Rattle.std.proofs.lemmas.List.Elements.{All-append, All-cons, All-head, All-nil, All-tail}
use Rattle.std.proofs.lemmas.Option.{same_Some, slice_get-get_or}
use Rattle.tx_types.specs.declared.key.Key.{Key}
use Rattle.tx_core.specs.Histories.{History, Begins}
use Rattle.tx_text.specs.Lines.{lines_of}
use Rattle.tx_evidence.specs.Lines.{bounds_of}
use Rattle.tx_ops.specs.declared.stage.SessionStage.{SessionStage}
use Rattle.tx_steps.specs.Steps.{Text}
use Rattle.tx_steps.specs.declared.step.Step.{Step}
use Rattle.tx_workload.specs.declared.reply.LineAnswer.{LineAnswer}
use Rattle.tx_workload.specs.declared.reply.LineAnswer.TheVariants.{Plain}
use Rattle.tx_workload.specs.declared.reply.LineReply.{LineReply}
use Rattle.tx_workload.specs.Logs.{answer_to}
use Rattle.tx_workload.specs.Answers.{IsReply, numbers_of}
use Rattle.tx_workload.specs.Steps.{Says, SaysStep}
use Rattle.tx_workload.specs.ScriptLines.{KeepsLines, firsts_of, is_seed, name_in, numbered, opening_of, seeds_of, sessions_of, step_of}
use Rattle.tx_workload.specs.Tells.{AllTell, AreOf, OpensWith, TellsLine, session_name}
use Rattle.tx_workload.specs.Readers.{HasSession}
use Rattle.tx_workload.specs.Totals.{seen_in}
use Rattle.tx_workload.proofs.Evidence.{line_says, lines_tell_on, opens_with}
use Rattle.tx_run.specs.Played.{free, fresh, known_at}
use Rattle.tx_run.proofs.OwnLines.{all_filtered, numbered_at, own_lines}
use Rattle.tx_run_laws.specs.Runs.{AllRun, RunPlays, SessionRun, SessionRuns, TellsRegions}
use Rattle.tx_run_laws.proofs.LineReplies.{plays_tell}
use Rattle.tx_run_laws.proofs.SeedReplies.{seeds_reply, seeds_tell}

-- ---- a beginning of a session's lines

pub front_all : {X : Type 0} (P : X → Type 0) (xs ys : List X) → All P (xs ++ ys) → All P xs
front_all P xs ys all k d lt =
    subst P (get_or_append_left xs ys d k lt) (all k d (omega (arith, lt, length-append xs ys)))

front_pairs : {X : Type 0} (R : X → X → Type 0) (xs ys : List X) → AllPairs R (xs ++ ys) → AllPairs R xs
front_pairs R xs ys all i j d before within =
    let lt : i < length xs = omega (arith, before, within) in
    subst (λ x. R x (get_or xs j d)) (get_or_append_left xs ys d i lt)
    (subst (λ x. R (get_or (xs ++ ys) i d) x) (get_or_append_left xs ys d j within)
    (all i j d before (omega (arith, within, length-append xs ys))))

module _ (text : List ℕ) where
  abbrev lines : List (List ℕ)
  lines = lines_of text

  front_of : (job : ℕ) (xs ys : List ℕ) → AreOf (Some text) job (xs ++ ys) → AreOf (Some text) job xs
  front_of job xs ys own =
      record {
        named = front_all (λ n. HasSession (Some text) n (session_name (Some text) job)) xs ys own.named;
        rise = front_pairs (λ m n. m < n) xs ys own.rise;
      }

  keeps : KeepsLines text (sessions_of lines) (seeds_of lines) (bounds_of lines)
  keeps = record { sessions = refl; seeds = refl; bounds = refl }

  -- the lines of each session are its own
  lines_own : (k : ℕ) (numbers : List ℕ) → slice_get (sessions_of lines) k ≡ Some numbers
      → AreOf (Some text) k numbers
  lines_own k numbers there = own_lines (Some text) (sessions_of lines) (seeds_of lines) (bounds_of lines) keeps k
      numbers there

  -- ---- one session

  pub last_begins : (bounds : List Key) (h : History) (numbers : List ℕ) (s : SessionRun)
      → (runs : SessionRuns bounds text h numbers s) → Begins (known_at runs.plays.last).events h
  last_begins bounds h numbers s runs =
      subst (λ (l : History). Begins l h) (same_Some s.last (known_at runs.plays.last).events runs.plays.knew) runs.knew

  session_tells : (bounds : List Key) (h : History) (k : ℕ) (numbers : List ℕ) (s : SessionRun)
      → slice_get (sessions_of lines) k ≡ Some numbers → SessionRuns bounds text h numbers s
      → All (TellsLine (Some text) bounds h) s.replies
  session_tells bounds h k numbers s there runs =
      let plays = runs.plays in
      let all = subst (λ (l : List ℕ). AreOf (Some text) k l) runs.answers.order (lines_own k numbers there) in
      let own = front_of k (numbers_of s.replies) runs.answers.behind all in
      lines_tell_on (Some text) bounds (known_at plays.last).events h (last_begins bounds h numbers s runs) s.replies
      (plays_tell bounds (Some text) k (free (fresh s.seat)) plays.last s.replies plays.plays own tt)

  -- ---- all of them

  -- what holds of each session's run
  pub all_of : (bounds : List Key) (h : History) (sessions : List SessionRun) (P : SessionRun → Type 0)
      → AllRun bounds text h sessions
      → ((k : ℕ) (numbers : List ℕ) (s : SessionRun) → slice_get (sessions_of lines) k ≡ Some numbers
      → SessionRuns bounds text h numbers s → P s) → All P sessions
  all_of bounds h sessions P (count, each) holds k d lt =
      let there = slice_get-get_or (sessions_of lines) k [] (omega (arith, lt, count)) in
      holds k (get_or (sessions_of lines) k []) (get_or sessions k d) there
      (each k (get_or (sessions_of lines) k []) (get_or sessions k d) there (slice_get-get_or sessions k d lt))

  -- what holds of the answers of each
  pub flat_all : (P : LineReply → Type 0) (sessions : List SessionRun) → All (λ s. All P s.replies) sessions
      → All P (flat_map (λ s. s.replies) sessions)
  flat_all P [] each = All-nil P
  flat_all P (s ∷ more) each =
      All-append P s.replies (flat_map (λ (x : SessionRun). x.replies) more)
      (All-head (λ (x : SessionRun). All P x.replies) s more each)
      (flat_all P more (All-tail (λ (x : SessionRun). All P x.replies) s more each))

  -- ---- line 1 and the seeds

  regions_tell : (bounds : List Key) (h : History) (number : ℕ) (answer : LineAnswer)
      → Says (Some text) number None → TellsRegions bounds answer
      → TellsLine (Some text) bounds h (answer_to number answer)
  regions_tell bounds h number (Plain (Ok plain)) says is = (None, says, is)
  regions_tell bounds h number answer says never = absurd never

  first_tells : (bounds : List Key) (h : History) (first : List LineReply) → numbers_of first ≡ opening_of bounds
      → OpensWith (Some text) bounds → All (λ s. TellsRegions bounds s.answer) first
      → All (TellsLine (Some text) bounds h) first
  first_tells bounds h [] named opens told = All-nil (TellsLine (Some text) bounds h)
  first_tells [] h (s ∷ more) named opens told = absurd (cc (named))
  first_tells (b ∷ bs) h (s ∷ []) named opens told =
      let number : s.number ≡ 1 = cc (named) in
      let says : Says (Some text) s.number None =
      subst (λ (n : ℕ). Says (Some text) n None) (sym number) opens in
      let first = All-head (λ (x : LineReply). TellsRegions (b ∷ bs) x.answer) s [] told in
      All-cons (TellsLine (Some text) (b ∷ bs) h) s [] (regions_tell (b ∷ bs) h s.number s.answer says first)
      (All-nil (TellsLine (Some text) (b ∷ bs) h))
  first_tells (b ∷ bs) h (s ∷ t ∷ more) named opens told = absurd (cc (named))

  regions_reply : (bounds : List Key) (answer : LineAnswer) → TellsRegions bounds answer → IsReply answer
  regions_reply bounds (Plain (Ok plain)) is = (refl, refl)
  regions_reply bounds answer never = absurd never

  -- a line that is a seed's says a step
  seed_says : (number : ℕ) (line : List ℕ) → slice_get lines (number - 1) ≡ Some line → is_seed number line ≡ true
      → SaysStep (Some text) number
  seed_says number line has is = by (step_of number line) refl is
    where
      by : (o : Option (Step Text)) → step_of number line ≡ o
          → option_map_or (λ step. not (is_some (name_in step))) o false ≡ true → SaysStep (Some text) number
      by None at is = absurd (cc (is))
      by (Some what) at is = line_says number what (Some text) line has at

  seeds_say : All (SaysStep (Some text)) (seeds_of lines)
  seeds_say = all_filtered (SaysStep (Some text)) (λ l. is_seed l.0 l.1) (numbered lines) each
    where
      each : (i : ℕ) (e : ℕ × List ℕ) → slice_get (numbered lines) i ≡ Some e → is_seed e.0 e.1 ≡ true
          → SaysStep (Some text) e.0
      each i e there is =
          let at = numbered_at 1 lines i e there in
          let same : e.0 - 1 ≡ i = omega (arith, at.0) in
          seed_says e.0 e.1 (ap (slice_get lines) same ∙ at.1) is

  module _ (bounds : List Key) (h : History) (replies : List LineReply) (stages : List (ℕ × SessionStage))
      (run : RunPlays text bounds h replies stages) where
    -- the answers before any session are those of line 1 and of the seeds
    seeds_named : numbers_of run.opened.seeds ≡ seeds_of lines
    seeds_named =
        let opened = run.opened in
        let split : numbers_of run.before ≡ numbers_of opened.first ++ numbers_of opened.seeds =
        ap numbers_of opened.all ∙ map-append (λ (s : LineReply). s.number) opened.first opened.seeds in
        let front : numbers_of opened.first ++ numbers_of opened.seeds ≡ opening_of bounds ++ numbers_of opened.seeds =
        ap (λ (l : List ℕ). l ++ numbers_of opened.seeds) opened.opening in
        let firsts : firsts_of lines ≡ opening_of bounds ++ seeds_of lines =
        ap (λ (b : List Key). opening_of b ++ seeds_of lines) (sym run.regions) in
        append_cancel_left (opening_of bounds) (numbers_of opened.seeds) (seeds_of lines)
        (sym front ∙ sym split ∙ run.firsts ∙ firsts)

    before_tells : All (TellsLine (Some text) bounds h) run.before
    before_tells =
        let opened = run.opened in
        let opens : OpensWith (Some text) bounds =
        opens_with (Some text) (sessions_of lines) (seeds_of lines) bounds
        (record { sessions = refl; seeds = refl; bounds = run.regions }) in
        let says : All (SaysStep (Some text)) (numbers_of opened.seeds) =
        subst (All (SaysStep (Some text))) (sym seeds_named) seeds_say in
        let seeds = seeds_tell bounds (Some text) (fresh opened.seat) opened.last opened.seeds says opened.plays in
        subst (All (TellsLine (Some text) bounds h)) (sym opened.all)
        (All-append (TellsLine (Some text) bounds h) opened.first opened.seeds
        (first_tells bounds h opened.first opened.opening opens run.opens)
        (lines_tell_on (Some text) bounds opened.last.events h opened.knew opened.seeds seeds))

    -- none of those is a fault or tells an outcome
    pub before_replies : All (λ s. IsReply s.answer) run.before
    before_replies =
        let opened = run.opened in
        subst (All (λ (s : LineReply). IsReply s.answer)) (sym opened.all)
        (All-append (λ (s : LineReply). IsReply s.answer) opened.first opened.seeds
        (λ k d lt. regions_reply bounds _ (run.opens k d lt))
        (seeds_reply bounds (Some text) (fresh opened.seat) opened.last opened.seeds opened.plays))

    -- each line is told what has happened, or what lines before it entered
    pub run_tells : AllTell (Some text) (seen_in bounds h) replies
    run_tells = record {
      tells = subst (All (TellsLine (Some text) bounds h)) (sym run.all)
          (All-append (TellsLine (Some text) bounds h) run.before
          (flat_map (λ (s : SessionRun). s.replies) run.sessions) before_tells
          (flat_all (TellsLine (Some text) bounds h) run.sessions
          (all_of bounds h run.sessions (λ s. All (TellsLine (Some text) bounds h) s.replies) run.each
          (session_tells bounds h))));
      regions = run.regions;
    }
