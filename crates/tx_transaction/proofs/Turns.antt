-- What is known of a fate stays, and which rollbacks are due.
use Rattle.std.proofs.Common.{◌≡◌, ℕ, inl, inr, Bool, true, false, List, [], ◌∷◌, Option, Some, None, Ok, Err, refl, sym, ap, ◌∙◌}
use Rattle.tx_types.specs.declared.mutation.Mode.{Mode}
use Rattle.tx_types.specs.declared.mutation.Mode.TheVariants.{TwoPhase, Async}
use Rattle.tx_types.specs.declared.mutation.Fate.{Fate}
use Rattle.tx_types.specs.declared.mutation.Fate.TheVariants as fate
use Rattle.tx_plan.specs.declared.body.Body.{Body}
use Rattle.tx_plan.specs.declared.body.Body.TheVariants as request
use Rattle.tx_plan.specs.declared.body.BatchRollback.{BatchRollback}
use Rattle.tx_plan.specs.declared.answer.Answer.{Answer}
use Rattle.tx_core.specs.Decisions.{fate_in}
use Rattle.tx_core.proofs.Basics.{some_same}
use Rattle.tx_transaction.specs.declared.state.Terms.{Terms}
use Rattle.tx_transaction.specs.declared.state.Phase.{Phase}
use Rattle.tx_transaction.specs.declared.state.Phase.TheVariants as phase
use Rattle.tx_transaction.specs.declared.state.Due.{Due}
use Rattle.tx_transaction.specs.Returns.{Response}
use Rattle.tx_transaction.specs.Buffers.{key_at, not_empty, first_index, promised}
use Rattle.tx_transaction.specs.Sessions.{SessionState, marked, first_settled, committed_by, after_answer, after_response, after_read, with_passed, finish_by, finish_of, outcome_of, has_primary, prewrite_of, prewrite_at, due_prewrite, commit_of, commit_at, commit_drawn, commit_by, commit_if, due_commit, rollback_of, check_of, check_at, abort_of, abort_open, abort_by, due_abort}
use Rattle.tx_transaction.specs.Turns.{SessionTurn, Enters, Declares, Draws, Hears, HearsRead, Passes, after_turn, after_turns, DecidesByPrimary, MayRollBack}

-- ---- what is known stays

module _ (end : Fate) where
  abbrev Knows : SessionState → Type 0
  Knows s = s.decision ≡ Some end

  stays_heard : (s : SessionState) (x : Phase) (i : ℕ) (a : Answer) → Knows s → Knows (after_answer s x i a)
  stays_heard s x i a known =
      ap (λ o. first_settled (first_settled o (fate_in a)) (committed_by (promised (marked s x i a)))) known

  stays_response : (s : SessionState) (x : Phase) (i : ℕ) (c : Response) → Knows s → Knows (after_response s x i c)
  stays_response s x i (Err why) known = known
  stays_response s x i (Ok a) known = stays_heard s x i a known

  stays_read : (s : SessionState) (c : Response) → Knows s → Knows (after_read s c)
  stays_read s (Err why) known = known
  stays_read s (Ok a) known = known

  stays_passed : (s : SessionState) (t : ℕ) (may : Bool) → Knows s → Knows (with_passed s t may)
  stays_passed s t false known = known
  stays_passed s t true known = known

  stays_next : (s : SessionState) (turn : SessionTurn) → Knows s → Knows (after_turn s turn)
  stays_next s (Enters buffer) known = known
  stays_next s (Declares terms placed) known = known
  stays_next s (Draws commit) known = known
  stays_next s (Hears x i c) known = stays_response s x i c known
  stays_next s (HearsRead c) known = stays_read s c known
  stays_next s (Passes t may) known = stays_passed s t may known

  stays : (s : SessionState) (turns : List SessionTurn) → Knows s → Knows (after_turns s turns)
  stays s [] known = known
  stays s (turn ∷ turns) known = stays (after_turn s turn) turns (stays_next s turn known)

pub stays_known : (s : SessionState) (turns : List SessionTurn) (end : Fate) → s.decision ≡ Some end
    → (after_turns s turns).decision ≡ Some end
stays_known s turns end known = stays end s turns known

pub stays_answered : (s : SessionState) (turns : List SessionTurn) (end : Fate) → s.decision ≡ Some end
    → finish_of (after_turns s turns) ≡ Some (outcome_of end)
stays_answered s turns end known = ap (finish_by (after_turns s turns)) (stays_known s turns end known)

-- ---- rollbacks

-- what a body asks to roll back
abbrev is_rollback : Body → Bool
is_rollback (request.BatchRollback b) = true
is_rollback _ = false

abbrev key_in : Body → Option (List ℕ)
key_in (request.BatchRollback b) = Some b.key
key_in _ = None

body_same : (d e : Due) → Some d ≡ Some e → d.body ≡ e.body
body_same d e is = ap (λ (x : Due). x.body) (some_same d e is)

module _ (s : SessionState) (due : Due) (b : BatchRollback) (asks : due.body ≡ request.BatchRollback b) where
  -- what is due is none that is no rollback
  another : (d : Due) → is_rollback d.body ≡ false → Some d ≡ Some due → ⊥
  another d other is =
      let same : d.body ≡ request.BatchRollback b = body_same d due is ∙ asks in
      let rolls : is_rollback d.body ≡ true = ap is_rollback same in
      cc (rolls, other)

  no_prewrite : (o : Option Terms) (index : Option ℕ) → prewrite_at s o index ≡ Some due → ⊥
  no_prewrite None index is = cc (is)
  no_prewrite (Some terms) None is = cc (is)
  no_prewrite (Some terms) (Some i) is = another (prewrite_of s terms i) refl is

  no_commit_at : (c : ℕ) (index : Option ℕ) → commit_at s c index ≡ Some due → ⊥
  no_commit_at c None is = cc (is)
  no_commit_at c (Some i) is = another (commit_of s c i) refl is

  no_commit_drawn : (o : Option ℕ) → commit_drawn s o ≡ Some due → ⊥
  no_commit_drawn None is = cc (is)
  no_commit_drawn (Some c) is = another (commit_of s c 0) refl is

  no_commit_by : (o : Option Fate) → commit_by s o ≡ Some due → ⊥
  no_commit_by None is = no_commit_drawn s.drawn is
  no_commit_by (Some (fate.Committed c)) is = no_commit_at c (first_index phase.Commit s.buffer) is
  no_commit_by (Some fate.Aborted) is = cc (is)

  no_commit_if : (may : Bool) → commit_if s may ≡ Some due → ⊥
  no_commit_if false is = cc (is)
  no_commit_if true is = no_commit_by s.decision is

  no_check_at : (index : Option ℕ) → check_at s index ≡ Some due → ⊥
  no_check_at None is = cc (is)
  no_check_at (Some i) is = another (check_of s i) refl is

  by_mode : (terms : Terms) (mode : Mode)
      → s.declared ≡ Some terms → terms.mode ≡ mode → s.decision ≡ None → abort_of s mode ≡ Some due
      → DecidesByPrimary s b
  by_mode terms TwoPhase declared in_mode unknown is =
      let same : Some (key_at s.buffer 0) ≡ Some b.key = ap key_in (body_same (rollback_of s 0) due is ∙ asks) in
      record { terms = terms; declared = declared; two_phase = in_mode; unknown = unknown; primary = sym (cc (same)) }
  by_mode terms Async declared in_mode unknown is = absurd (no_check_at (first_index phase.Prewrite s.buffer) is)

  by_open : (o : Option Terms) (some : Bool) → s.declared ≡ o → s.decision ≡ None → abort_open s o some ≡ Some due
      → DecidesByPrimary s b
  by_open None some declared unknown is = absurd (cc (is))
  by_open (Some terms) false declared unknown is = absurd (cc (is))
  by_open (Some terms) true declared unknown is = by_mode terms terms.mode declared refl unknown is

  by_decision : (o : Option Fate) → s.decision ≡ o → abort_by s o ≡ Some due → MayRollBack s b
  by_decision None known is = inr (by_open s.declared (not_empty s.buffer) refl known is)
  by_decision (Some (fate.Committed c)) known is = absurd (cc (is))
  by_decision (Some fate.Aborted) known is = inl known

pub abort_rolls_back : (s : SessionState) (due : Due) (b : BatchRollback) → due_abort s ≡ Some due
    → due.body ≡ request.BatchRollback b → MayRollBack s b
abort_rolls_back s due b is asks = by_decision s due b asks s.decision refl is

pub no_prewrite_rolls_back : (s : SessionState) (due : Due) (b : BatchRollback) → due_prewrite s ≡ Some due
    → due.body ≡ request.BatchRollback b → ⊥
no_prewrite_rolls_back s due b is asks = no_prewrite s due b asks s.declared (first_index phase.Prewrite s.buffer) is

pub no_commit_rolls_back : (s : SessionState) (due : Due) (b : BatchRollback) → due_commit s ≡ Some due
    → due.body ≡ request.BatchRollback b → ⊥
no_commit_rolls_back s due b is asks = no_commit_if s due b asks (has_primary s) is
