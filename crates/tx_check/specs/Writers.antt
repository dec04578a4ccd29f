-- Who wrote the value that a refused read claims, and what became of him, by the steps that were
-- made. Lists of steps are oldest first: the step at i is that of line i + 1.
use Rattle.std.specs.Prelude.{ℕ, ◌+◌, ◌==◌, Bool, false, List, [], Option, Some, None, bytes_eq, codes, ◌&&◌}
use Rattle.std.specs.List.{list_any, position, slice_get}
use Rattle.serde_json.specs.Data.{Data, Items, no_items, item, Members, no_members, member, number, unsigned, string, null, object}
use Rattle.tx_types.specs.declared.key.Key.{Key}
use Rattle.tx_types.specs.declared.value.Value.{Value}
use Rattle.tx_types.specs.declared.mutation.Change.{Change}
use Rattle.tx_types.specs.declared.mutation.Mutation.{Mutation}
use Rattle.tx_types.specs.declared.mutation.Mutation.TheVariants.{Put, Insert, Delete, Lock}
use Rattle.tx_types.specs.declared.mutation.Fate.TheVariants.{Committed, Aborted}
use Rattle.tx_machine.specs.declared.step.Step.{Step}
use Rattle.tx_machine.specs.declared.step.Step.TheVariants.{Draw, Begin, Declare, Commit, Abort, Read, Scan, Answer}
use Rattle.tx_machine.specs.declared.reason.Standing.{Standing}
use Rattle.tx_machine.specs.declared.reason.Standing.TheVariants.{Declared, Ended}
use Rattle.tx_machine.specs.declared.reason.Why.{Why}
use Rattle.tx_machine.specs.declared.reason.Why.TheVariants as why
use Rattle.tx_check.specs.Reasons.{standing_word, committed_data}
use Rattle.tx_text.specs.Texts.{line_text}
use Rattle.tx_text.specs.Members.{stamp_data}

-- a mutation leaves this value
abbrev pub leaves : Mutation → Value → Bool
leaves (Put left) v = bytes_eq left v
leaves (Insert left) v = bytes_eq left v
leaves Delete v = false
leaves Lock v = false

-- a change puts this value into this key
abbrev pub puts : Change → Key → Value → Bool
puts change k v = bytes_eq change.key k && leaves change.mutation v

-- a step declares such a change
abbrev pub declares : Step → Key → Value → Bool
declares (Declare t set) k v = list_any (λ change. puts change k v) set
declares (Draw n) k v = false
declares (Begin t) k v = false
declares (Commit t c) k v = false
declares (Abort t) k v = false
declares (Read key r found) k v = false
declares (Scan s) k v = false
declares (Answer t fate) k v = false

-- a step ends the transaction that started here
abbrev pub ends : Step → ℕ → Bool
ends (Commit t c) start = t == start
ends (Abort t) start = t == start
ends (Draw n) start = false
ends (Begin t) start = false
ends (Declare t set) start = false
ends (Read k r found) start = false
ends (Scan s) start = false
ends (Answer t fate) start = false

-- the start of the transaction that declares at a step
abbrev pub start_at : Option Step → ℕ
start_at (Some (Declare t set)) = t
start_at _ = 0

-- what became of it, by the step that ended it
abbrev pub standing_at : Option Step → Standing
standing_at (Some (Commit t c)) = Ended (Committed c)
standing_at (Some (Abort t)) = Ended Aborted
standing_at _ = Declared

-- the step at a place, if there is one
abbrev pub step_at : List Step → Option ℕ → Option Step
step_at steps None = None
step_at steps (Some i) = slice_get steps i

-- the line of a place
abbrev pub line_at : Option ℕ → Data
line_at None = null
line_at (Some i) = number (unsigned (i + 1))

-- a transaction, and where it ended
abbrev pub writer_members : List Step → ℕ → ℕ → Option ℕ → Members
writer_members steps i start end = member (codes "line") (number (unsigned (i + 1)))
    (member (codes "start") (stamp_data start)
    (member (codes "is") (string (standing_word (standing_at (step_at steps end))))
    (member (codes "committed") (committed_data (standing_at (step_at steps end)))
    (member (codes "ended") (line_at end) no_members))))

-- who wrote a value: the first that declares it, or nobody
abbrev pub writer_data : List Step → Option ℕ → Data
writer_data steps None = null
writer_data steps (Some i) = object (writer_members steps i (start_at (slice_get steps i))
    (position (λ step. ends step (start_at (slice_get steps i))) steps))

abbrev pub writer_words : List Step → ℕ → Key → Value → Items
writer_words steps n k v = item (string (codes "wrote")) (item (number (unsigned n))
    (item (writer_data steps (position (λ step. declares step k v) steps)) no_items))

-- the line that says who wrote what the read of line n claims; none where it claims no value
abbrev pub writer_text : List Step → ℕ → Why → List ℕ
writer_text steps n (why.Read k at (Some v) seen) = line_text (writer_words steps n k v)
writer_text steps n _ = []
