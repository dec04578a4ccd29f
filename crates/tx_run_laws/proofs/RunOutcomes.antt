-- The outcomes that a run which was played tells, each of a transaction of its own.
use Rattle.std.proofs.Common.{◌≡◌, ◌<◌, ◌≤◌, ◌+◌, ◌++◌, ℕ, suc, List, [], ◌∷◌, All, length, get_or, Some, None, refl, sym, subst, append_assoc, append-nil, arith}
use Rattle.std.specs.List.{AllPairs, flat_map}
use Rattle.std.proofs.lemmas.List.Elements.{All-append, All-head, All-nil, All-tail}
use Rattle.std.proofs.lemmas.Option.{same_Some}
use Rattle.tx_types.specs.declared.key.Key.{Key}
use Rattle.tx_core.specs.Histories.{History}
use Rattle.tx_core.specs.Worlds.{IsWorldRun}
use Rattle.tx_ops.specs.declared.stage.SessionStage.{SessionStage}
use Rattle.tx_workload.specs.declared.reply.LineAnswer.{LineAnswer}
use Rattle.tx_workload.specs.declared.reply.LineAnswer.TheVariants.{Plain, Ended}
use Rattle.tx_workload.specs.declared.reply.LineReply.{LineReply}
use Rattle.tx_workload.specs.Answers.{IsReply}
use Rattle.tx_workload.specs.Logs.{TellsBy}
use Rattle.tx_workload.specs.Outcomes.{TellsOutcomes, start_of}
use Rattle.tx_workload.specs.Pairs.{SaysPair, TellsPair}
use Rattle.tx_workload.proofs.SessionAnswers.{tells_on}
use Rattle.tx_run.specs.Jobs.{IsAbove}
use Rattle.tx_run.specs.Played.{free, fresh, known_at}
use Rattle.tx_run.proofs.AllAnswers.{joined, joined_above, none_above, none_started, none_told}
use Rattle.tx_run_laws.specs.Runs.{RunPlays, SessionRun, SessionRuns}
use Rattle.tx_run_laws.proofs.LineOutcomes.{plays_pair, plays_stand}
use Rattle.tx_run_laws.proofs.RunReplies.{all_of, before_replies, flat_all}

-- ---- of one session

none_tell : (h : History) (seat : ℕ) → TellsBy h seat []
none_tell h seat = record {
  told = All-nil _;
  apart = λ i j d before within. absurd (omega (arith, within));
}

module _ (text : List ℕ) (bounds : List Key) (h : History) where
  -- outcomes that a session is told were answered by its seat, in what it knew at last
  pub session_stands : (k : ℕ) (numbers : List ℕ) (s : SessionRun) → SessionRuns bounds text h numbers s
      → TellsBy s.last s.seat s.replies
  session_stands k numbers s runs =
      let plays = runs.plays in
      subst (λ (l : History). TellsBy l s.seat s.replies)
      (sym (same_Some s.last (known_at plays.last).events plays.knew))
      (plays_stand bounds text s.seat (free (fresh s.seat)) plays.last s.replies plays.plays [] tt refl
      (none_tell [] s.seat))

  session_tells : IsWorldRun bounds h → (k : ℕ) (numbers : List ℕ) (s : SessionRun)
      → SessionRuns bounds text h numbers s → TellsBy h s.seat s.replies
  session_tells run k numbers s runs =
      tells_on bounds s.last h run runs.knew s.seat s.replies (session_stands k numbers s runs)

  session_pairs : (k : ℕ) (numbers : List ℕ) (s : SessionRun) → SessionRuns bounds text h numbers s
      → All (TellsPair (Some text)) s.replies
  session_pairs k numbers s runs =
      plays_pair bounds text (free (fresh s.seat)) runs.plays.last s.replies runs.plays.plays

  -- ---- of one session behind another

  weaker : (m n : ℕ) (r : LineAnswer) → m ≤ n → IsAbove h n r → IsAbove h m r
  weaker m n (Ended t o keys) le is = (is.0, is.1, omega (arith, le, is.2))
  weaker m n (Plain plain) le is = tt

  abbrev Apart : List SessionRun → Type 0
  Apart sessions = AllPairs (λ a b. b.seat < a.seat) sessions

  -- what was told lies above the seat of each session that is left
  abbrev LiesAbove : List LineReply → SessionRun → Type 0
  LiesAbove told s = All (λ r. IsAbove h (s.seat + 1) r.answer) told

  rest_apart : (s : SessionRun) (more : List SessionRun) → Apart (s ∷ more) → Apart more
  rest_apart s more apart i j d before within =
      apart (suc i) (suc j) d (omega (arith, before)) (omega (arith, within, length_cons))
    where
      length_cons : length (s ∷ more) ≡ suc (length more)
      length_cons = refl

  next_above : (told : List LineReply) (s : SessionRun) (more : List SessionRun) → Apart (s ∷ more)
      → All (λ r. IsAbove h s.seat r.answer) told → All (LiesAbove told) more
  next_above told s more apart above k d lt i e in_list =
      weaker ((get_or more k d).seat + 1) s.seat _ below (above i e in_list)
    where
      length_cons : length (s ∷ more) ≡ suc (length more)
      length_cons = refl

      below : (get_or more k d).seat + 1 ≤ s.seat
      below = let less : (get_or more k d).seat < s.seat =
          apart 0 (suc k) d (omega arith) (omega (arith, lt, length_cons)) in omega (arith, less)

  told_all : (told : List LineReply) (sessions : List SessionRun) → TellsOutcomes h told → Apart sessions
      → All (LiesAbove told) sessions → All (λ s. TellsBy h s.seat s.replies) sessions
      → TellsOutcomes h (told ++ flat_map (λ s. s.replies) sessions)
  told_all told [] is apart above each = subst (TellsOutcomes h) (sym (append-nil told)) is
  told_all told (s ∷ more) is apart above each =
      let here = All-head (LiesAbove told) s more above in
      let own = All-head (λ (x : SessionRun). TellsBy h x.seat x.replies) s more each in
      let next = joined_above h s.seat told s.replies here own in
      subst (TellsOutcomes h) (append_assoc told s.replies (flat_map (λ (x : SessionRun). x.replies) more))
      (told_all (told ++ s.replies) more (joined h s.seat told s.replies is here own) (rest_apart s more apart)
      (next_above (told ++ s.replies) s more apart next)
      (All-tail (λ (x : SessionRun). TellsBy h x.seat x.replies) s more each))

  -- ---- of a run

  module _ (replies : List LineReply) (stages : List (ℕ × SessionStage))
      (played : RunPlays text bounds h replies stages)
    where
      pub all_stand : IsWorldRun bounds h → All (λ s. TellsBy h s.seat s.replies) played.sessions
      all_stand run = all_of text bounds h played.sessions (λ s. TellsBy h s.seat s.replies) played.each
          (λ k numbers s there runs. session_tells run k numbers s runs)

      pub run_outcomes : IsWorldRun bounds h → TellsOutcomes h replies
      run_outcomes run =
          let none = none_started played.before (before_replies text bounds h replies stages played) in
          subst (TellsOutcomes h) (sym played.all)
          (told_all played.before played.sessions (none_told played.before none h) played.apart
          (λ k d lt. none_above played.before none h ((get_or played.sessions k d).seat + 1)) (all_stand run))

      reply_pair : (s : LineReply) → IsReply s.answer → TellsPair (Some text) s
      reply_pair s is = by s.answer is.0
        where
          by : (answer : LineAnswer) → start_of answer ≡ None → SaysPair (Some text) s.number answer
          by (Ended start o keys) none = absurd (cc (none))
          by (Plain plain) none = tt

      pub run_pairs : All (TellsPair (Some text)) replies
      run_pairs =
          subst (All (TellsPair (Some text))) (sym played.all)
          (All-append (TellsPair (Some text)) played.before (flat_map (λ (s : SessionRun). s.replies) played.sessions)
          (λ k d lt. reply_pair _ (before_replies text bounds h replies stages played k d lt))
          (flat_all text (TellsPair (Some text)) played.sessions
          (all_of text bounds h played.sessions (λ s. All (TellsPair (Some text)) s.replies) played.each
          (λ k numbers s there runs. session_pairs k numbers s runs))))
