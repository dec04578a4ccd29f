-- The text of a reason: why the step of a line is not made. After its word each reason has one
-- object, always with the same members in the same order, null where there is none.
use Rattle.std.specs.Prelude.{ℕ, List, codes}
use Rattle.serde_json.specs.Data.{Data, Items, no_items, item, Members, no_members, member, number, unsigned, string, null, object}
use Rattle.tx_types.specs.declared.mutation.Fate.TheVariants.{Committed, Aborted}
use Rattle.tx_machine.specs.declared.reason.SeenValue.{SeenValue}
use Rattle.tx_machine.specs.declared.reason.SeenValue.TheVariants.{Nothing, Deleted, Left}
use Rattle.tx_machine.specs.declared.reason.Standing.{Standing}
use Rattle.tx_machine.specs.declared.reason.Standing.TheVariants.{Undrawn, Drawn, Begun, Declared, Ended}
use Rattle.tx_machine.specs.declared.reason.Why.{Why}
use Rattle.tx_machine.specs.declared.reason.Why.TheVariants as why
use Rattle.tx_machine.specs.declared.versions.Writer.{Writer}
use Rattle.tx_check.specs.Steps.{found_data}
use Rattle.tx_text.specs.Texts.{line_text, text_of}
use Rattle.tx_text.specs.Members.{stamp_data}

-- how far a transaction has come
abbrev pub standing_word : Standing → List ℕ
standing_word Undrawn = codes "undrawn"
standing_word Drawn = codes "drawn"
standing_word Begun = codes "begun"
standing_word Declared = codes "declared"
standing_word (Ended (Committed c)) = codes "committed"
standing_word (Ended Aborted) = codes "aborted"

-- where it committed
abbrev pub committed_data : Standing → Data
committed_data (Ended (Committed c)) = stamp_data c
committed_data _ = null

-- a transaction that committed: its start and its commit
abbrev pub writer_members : Writer → Members
writer_members by = member (codes "by") (stamp_data by.start)
    (member (codes "committed") (stamp_data by.commit) no_members)

-- what a read sees, and who left it
abbrev pub seen_members : SeenValue → Members
seen_members Nothing = member (codes "is") null (member (codes "by") null (member (codes "committed") null no_members))
seen_members (Deleted by) = member (codes "is") null (writer_members by)
seen_members (Left v by) = member (codes "is") (text_of v) (writer_members by)

-- the word of a reason
abbrev pub reason_word : Why → List ℕ
reason_word (why.Last at last) = codes "last"
reason_word (why.State start is) = codes "state"
reason_word (why.Empty start) = codes "empty"
reason_word (why.Twice start key) = codes "twice"
reason_word (why.Early start commit) = codes "early"
reason_word (why.Conflict key other start) = codes "conflict"
reason_word (why.Unread key at commit) = codes "unread"
reason_word (why.Exists key at seen) = codes "exists"
reason_word (why.Count rows limit) = codes "count"
reason_word (why.Order key) = codes "order"
reason_word (why.Read key at claims seen) = codes "read"

-- what is told of it
abbrev pub reason_members : Why → Members
reason_members (why.Last at last) = member (codes "at") (stamp_data at)
    (member (codes "last") (stamp_data last) no_members)
reason_members (why.State start is) = member (codes "start") (stamp_data start)
    (member (codes "is") (string (standing_word is)) (member (codes "committed") (committed_data is) no_members))
reason_members (why.Empty start) = member (codes "start") (stamp_data start) no_members
reason_members (why.Twice start key) = member (codes "key") (text_of key)
    (member (codes "start") (stamp_data start) no_members)
reason_members (why.Early start commit) = member (codes "start") (stamp_data start)
    (member (codes "commit") (stamp_data commit) no_members)
reason_members (why.Conflict key other start) = member (codes "key") (text_of key)
    (member (codes "other") (stamp_data other.start)
    (member (codes "start") (stamp_data start) (member (codes "committed") (stamp_data other.commit) no_members)))
reason_members (why.Unread key at commit) = member (codes "key") (text_of key)
    (member (codes "at") (stamp_data at) (member (codes "commit") (stamp_data commit) no_members))
reason_members (why.Exists key at seen) = member (codes "key") (text_of key)
    (member (codes "at") (stamp_data at) (seen_members seen))
reason_members (why.Count rows limit) = member (codes "rows") (number (unsigned rows))
    (member (codes "limit") (number (unsigned limit)) no_members)
reason_members (why.Order key) = member (codes "key") (text_of key) no_members
reason_members (why.Read key at claims seen) = member (codes "key") (text_of key) (member (codes "at") (stamp_data at)
    (member (codes "claims") (found_data claims) (seen_members seen)))

-- its word and its members
abbrev pub reason_words : Why → Items
reason_words reason = item (string (reason_word reason)) (item (object (reason_members reason)) no_items)

-- the line that says why the step of the line of this number is not made
abbrev pub reason_text : ℕ → Why → List ℕ
reason_text n reason = line_text (item (string (codes "why")) (item (number (unsigned n)) (reason_words reason)))
