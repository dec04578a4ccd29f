-- A store that plays lines: what was said of each, and the text that tells it.
use Rattle.std.specs.Prelude.{◌≡◌, ◌≤◌, ◌<◌, ◌⊎◌, ◌+◌, ℕ, List, [], ◌∷◌, ◌++◌, length, drop, nat_le, if◌then◌else◌, Result, Ok, Err, IfOk, IfErr}
use Rattle.serde_json.specs.Data.{Items}
use Rattle.tx_types.specs.declared.fault.Cause.{Cause}
use Rattle.tx_types.specs.declared.key.Key.{Key}
use Rattle.tx_types.specs.declared.limits.TheConstants.{MAX_LINES}
use Rattle.tx_text.specs.Faults.{fault_words}
use Rattle.tx_text.specs.Members.{reply_text}
use Rattle.tx_reply.specs.declared.reply.ScriptReply.{ScriptReply}
use Rattle.tx_reply.specs.Replies.{reply_words}
use Rattle.tx_types.specs.declared.fault.Cause.TheVariants.{Lines}
use Rattle.tx_engine.specs.Slots.{engine_state, own}
use Rattle.tx_script.specs.Players.{PlayerState, HasPlayed, IsFault, IsReplied}

-- what a store has: its player, how many lines it was given, and what was said of the last of them
pub record LinesState : Type 0 where
  pub player : PlayerState
  pub number : ℕ
  pub said : Result ScriptReply Cause

-- the words that tell what was said
abbrev pub said_words : Result ScriptReply Cause → Items
said_words (Ok reply) = reply_words reply
said_words (Err cause) = fault_words cause

-- the line that tells what was said of the last line, with its number
abbrev pub said_text : LinesState → List ℕ
said_text s = reply_text (s.number, said_words s.said)

-- a text over the first bytes of others, where it fits
abbrev pub laid_over : List ℕ → List ℕ → List ℕ
laid_over text old = if nat_le (length text) (length old) then text ++ drop (length text) old else old

-- nobody but the player acted
abbrev pub IsAlone : PlayerState → Type 0
IsAlone p = length p.engine.network.newest ≤ own p.engine

module _ (bounds : List Key) where
  -- it has played the same lines
  abbrev pub HasPlayedSame : PlayerState → PlayerState → Type 0
  HasPlayedSame p next = (lines : List (List ℕ)) (done : List (ℕ × Items)) → HasPlayed bounds lines done p
      → HasPlayed bounds lines done next

  -- a line was replied to: where nobody else acted, it led to the reply from where the player stood
  -- to where it stands; and up to the last line that a script may have, it has played one line more
  abbrev pub WasReplied : PlayerState → List ℕ → PlayerState → ScriptReply → Type 0
  WasReplied p line next reply = (IsAlone next → IsReplied bounds p line reply next)
      × (p.number + 1 < MAX_LINES → (lines : List (List ℕ)) (done : List (ℕ × Items)) → HasPlayed bounds lines done p
      → HasPlayed bounds (lines ++ line ∷ []) (done ++ (p.number + 1, reply_words reply) ∷ []) next)

  -- a line was a fault: too many were tried, or, where nobody else acted, it is one for this cause,
  -- and the player stands where it stood; it has played the same
  abbrev pub WasFault : PlayerState → List ℕ → PlayerState → Cause → Type 0
  WasFault p line next cause = (((cause ≡ Lines) × (p.left ≡ 0)) ⊎ (IsAlone next → IsFault bounds p line cause))
      × (IsAlone next → engine_state next.engine ≡ engine_state p.engine) × HasPlayedSame p next

  -- a line was played: it is counted, and what is said of it is so
  abbrev pub IsPlayed : LinesState → List ℕ → LinesState → Type 0
  IsPlayed s line next = (s.number + 1 < 18446744073709551616 → next.number ≡ s.number + 1)
      × IfOk next.said (WasReplied s.player line next.player)
      × IfErr next.said (WasFault s.player line next.player)

  -- nothing was played, and the same is said
  abbrev pub IsKept : LinesState → LinesState → Type 0
  IsKept s next = (next.number ≡ s.number) × (next.said ≡ s.said) × HasPlayedSame s.player next.player
