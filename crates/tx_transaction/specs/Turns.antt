-- What a session does and hears, by which its state changes, and which of its rollbacks may be due.
use Rattle.std.specs.Prelude.{◌≡◌, ◌⊎◌, ℕ, Bool, List, [], ◌∷◌, Some, None}
use Rattle.tx_types.specs.declared.mutation.Mode.TheVariants.{TwoPhase}
use Rattle.tx_types.specs.declared.mutation.Fate.TheVariants as fate
use Rattle.tx_plan.specs.declared.body.BatchRollback.{BatchRollback}
use Rattle.tx_transaction.specs.declared.state.Terms.{Terms}
use Rattle.tx_transaction.specs.declared.state.Phase.{Phase}
use Rattle.tx_transaction.specs.Returns.{Response}
use Rattle.tx_transaction.specs.Buffers.{Entries, key_at}
use Rattle.tx_transaction.specs.Sessions.{SessionState, after_response, after_read, with_passed}

-- It enters changes into its buffer, declares it, draws a commit timestamp, hears what came of a
-- request of a phase for the key at an index, hears what came of a read, or learns whether its
-- reads may pass by a transaction.
pub data SessionTurn : Type 0 where
  Enters : (buffer : Entries) → SessionTurn
  Declares : (terms : Terms) (placed : ℕ) → SessionTurn
  Draws : (commit : ℕ) → SessionTurn
  Hears : (phase : Phase) (index : ℕ) (response : Response) → SessionTurn
  HearsRead : (response : Response) → SessionTurn
  Passes : (start : ℕ) (may : Bool) → SessionTurn

-- the state after it
abbrev pub after_turn : SessionState → SessionTurn → SessionState
after_turn s (Enters buffer) = record s { buffer = buffer }
after_turn s (Declares terms placed) = record s { declared = Some terms; placed = placed }
after_turn s (Draws commit) = record s { drawn = Some commit }
after_turn s (Hears phase index response) = after_response s phase index response
after_turn s (HearsRead response) = after_read s response
after_turn s (Passes start may) = with_passed s start may

-- the state after these, one after the other
abbrev pub after_turns : SessionState → List SessionTurn → SessionState
after_turns s [] = s
after_turns s (turn ∷ turns) = after_turns (after_turn s turn) turns

-- a rollback is of the primary, declared in two phases, of a transaction of which no fate is known
pub record DecidesByPrimary (s : SessionState) (b : BatchRollback) : Type 0 where
  pub terms : Terms
  pub declared : s.declared ≡ Some terms
  pub two_phase : terms.mode ≡ TwoPhase
  pub unknown : s.decision ≡ None
  pub primary : b.key ≡ key_at s.buffer 0

-- a rollback is of a transaction that is known to be aborted, or it may decide
abbrev pub MayRollBack : SessionState → BatchRollback → Type 0
MayRollBack s b = (s.decision ≡ Some fate.Aborted) ⊎ DecidesByPrimary s b
