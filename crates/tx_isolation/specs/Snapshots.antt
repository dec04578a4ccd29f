-- Snapshot isolation in the words of transactions.
use Rattle.std.specs.Prelude.{◌≡◌, ◌≢◌, ◌⊎◌, ℕ, ◌≤◌, List, Option, Some, None, Ok}
use Rattle.tx_types.specs.declared.key.Key.{Key}
use Rattle.tx_types.specs.declared.value.Value.{Value}
use Rattle.tx_types.specs.declared.mutation.Mutation.{Mutation}
use Rattle.tx_types.specs.declared.mutation.Mutation.TheVariants as mutation
use Rattle.tx_plan.specs.declared.answer.Answer.{Answer}
use Rattle.tx_plan.specs.declared.answer.Answer.TheVariants as answer
use Rattle.tx_machine.specs.Machine.{Rows, Commits, Sees, table_of}
use Rattle.tx_core.specs.Histories.{History, Begins}
use Rattle.tx_core.specs.Shadow.{shadow}
use Rattle.tx_core.specs.Worlds.{IsWorldRun}
use Rattle.tx_journal.specs.Known.{Known}
use Rattle.tx_journal.specs.Replies.{Asked}
use Rattle.tx_journal.specs.Senders.{Reached}
use Rattle.tx_transaction.specs.Buffers.{buffered}
use Rattle.tx_transaction.specs.Sessions.{SessionState}
use Rattle.tx_client.specs.Walks.{Sends, get_walk}

-- what a transaction that starts there reads of a key of which it has entered this: its own value,
-- none where it deletes it, and else what the commits at or below its start leave
abbrev pub IsSnapshotOf : Option Mutation → Rows → ℕ → Key → Option Value → Type 0
IsSnapshotOf (Some (mutation.Put v)) rows start k found = found ≡ Some v
IsSnapshotOf (Some (mutation.Insert v)) rows start k found = found ≡ Some v
IsSnapshotOf (Some mutation.Delete) rows start k found = found ≡ None
IsSnapshotOf _ rows start k found = Sees rows k start found

-- the same of an answer: any other than a value or none reads nothing
abbrev pub AnswersSnapshot : Option Mutation → Rows → ℕ → Key → Answer → Type 0
AnswersSnapshot entered rows start k (answer.Found v) = IsSnapshotOf entered rows start k (Some v)
AnswersSnapshot entered rows start k answer.Nothing = IsSnapshotOf entered rows start k None
AnswersSnapshot entered rows start k _ = Unit {0}

-- What a session's get comes to is of its start, in every world run that begins with what its seat
-- then knows.
abbrev pub ReadsAtStart : {S : Type 0} → List Key → (S → Asked → Reached → S → Type 0) → Type 0
ReadsAtStart {S} bounds sends =
    (old new : Known) (a b : S) (s after : SessionState) (k : Key) (found : Answer) (h : History)
    → Sends sends bounds old a (get_walk s k) (after, Ok found) b new → Begins new.events h → IsWorldRun bounds h
    → AnswersSnapshot (buffered s.buffer k) (table_of (shadow h)).row s.start k found

-- of two transactions that commit one key, one has committed at or below the start of the other
abbrev pub AreApart : Rows → Type 0
AreApart rows = (k : Key) (t c u d : ℕ) (m n : Mutation) → Commits rows k t c m → Commits rows k u d n → t ≢ u
    → (c ≤ u) ⊎ (d ≤ t)
