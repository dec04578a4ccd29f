-- How a transfer of a run is played, from its start to what its line is told.
use Rattle.std.specs.Prelude.{◌≡◌, ◌⊎◌, ◌<◌, ◌&&◌, ℕ, false, List, Some, None, Ok, Err}
use Rattle.tx_types.specs.Lengths.{is_key}
use Rattle.tx_types.specs.declared.key.Key.{Key}
use Rattle.tx_core.specs.Histories.{History}
use Rattle.tx_journal.specs.Known.{Known}
use Rattle.tx_transaction.specs.Sessions.{finish_of}
use Rattle.tx_client.specs.Calls.{HasHeard, Seated}
use Rattle.tx_steps.specs.declared.transfer.Transfer.{Transfer}
use Rattle.tx_steps.specs.Steps.{Text}
use Rattle.tx_reply.specs.declared.reply.ScriptReply.{ScriptReply}
use Rattle.tx_reply.specs.declared.reply.ScriptReply.TheVariants as reply
use Rattle.tx_transfer.specs.declared.plain_reply.PlainReply.{PlainReply}
use Rattle.tx_transfer.specs.declared.progress.TransferProgress.{TransferProgress}
use Rattle.tx_transfer.specs.declared.progress.TransferProgress.TheVariants as progress
use Rattle.tx_transfer.specs.TransferSteps.{Moving, Steps, starting}
use Rattle.tx_transfer.specs.Steps.{Begun, Left}
use Rattle.tx_workload.specs.declared.reply.LineAnswer.{LineAnswer}
use Rattle.tx_workload.specs.declared.reply.LineAnswer.TheVariants.{Plain, Ended}
use Rattle.tx_workload.specs.Logs.{HasFinished}

-- what the line of a transfer is told that does not begin: memory is refused, or a key, or there is
-- no tick left to draw its start with
abbrev pub IsNotBegun : Transfer Text → Known → ScriptReply → Type 0
IsNotBegun what k said = (said ≡ reply.OutOfMemory)
    ⊎ (((said ≡ reply.KeyLength) × (is_key what.from && is_key what.to ≡ false))
    ⊎ ((said ≡ reply.OracleSpent) × (k.ticks < 1)))

-- what the line of one is told that is left: why it went on no more, or, where it was over, that
-- its session had no outcome
abbrev pub IsGivenUp : Moving → TransferProgress → ScriptReply → Type 0
IsGivenUp m progress.Over said = (said ≡ reply.OutOfMemory) × (finish_of m.session.state ≡ None)
IsGivenUp m progress.Spent said = said ≡ reply.OracleSpent
IsGivenUp m progress.OutOfMemory said = said ≡ reply.OutOfMemory
IsGivenUp m progress.More said = ⊥

module _ (bounds : List Key) where
  -- a live session heard of others
  abbrev pub HearsMore : Seated → Seated → Type 0
  HearsMore s t = (t.state ≡ s.state) × (told : History) × HasHeard bounds s.seat told t.seat

  -- it did, and then its transaction was left as it is
  abbrev pub LeftSo : Seated → Known → Type 0
  LeftSo s k = (t : Seated) × HearsMore s t × Left bounds t k

  -- What the line of a transfer is told that goes on no more, and what its seat then knows: its
  -- session's outcome, with its two keys, where it was over; or it is left.
  abbrev pub Ends : Moving → TransferProgress → LineAnswer → Known → Type 0
  Ends m p (Plain (Ok plain)) k = IsGivenUp m p plain.reply × LeftSo m.session k
  Ends m p (Plain (Err cause)) k = ⊥
  Ends m progress.Over (Ended start o keys) k = (start ≡ m.session.state.start)
      × (keys ≡ Some (m.what.from, m.what.to)) × (told : History) × HasFinished bounds m.session told o k
  Ends m p (Ended start o keys) k = ⊥

  -- from here it is played to its end
  abbrev pub Finishes : Moving → LineAnswer → Known → Type 0
  Finishes m answer k = (last : Moving) × (p : TransferProgress) × Steps bounds m p last × Ends last p answer k

  -- A transfer is played by a free seat, which is free again: it does not begin; or its transaction
  -- begins and is played to its end, unless there is no memory to keep it in.
  abbrev pub Transfers : Transfer Text → Known → LineAnswer → Known → Type 0
  Transfers what k answer l =
      ((plain : PlainReply) × (answer ≡ Plain (Ok plain)) × IsNotBegun what k plain.reply × (l ≡ k))
      ⊎ ((s t : Seated) × (number : ℕ) × Begun bounds k s × HearsMore s t
      × (Ends (starting number what t) progress.OutOfMemory answer l ⊎ Finishes (starting number what t) answer l))
