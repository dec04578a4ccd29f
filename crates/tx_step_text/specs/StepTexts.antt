-- The line of a step: its word, and behind it the members that tell of what. Strings stand for
-- their UTF-8 bytes.
use Rattle.std.specs.Prelude.{ℕ, List, [], ◌∷◌, ◌++◌, map, codes, Option, Some, None}
use Rattle.serde_json.specs.Data.{Data, array, string, number, unsigned, no_items, item}
use Rattle.serde_json.specs.View.{items_of}
use Rattle.serde_json.specs.Written.{compact_text}
use Rattle.tx_text.specs.Texts.{members_text}
use Rattle.tx_types.specs.declared.mutation.Mode.{Mode}
use Rattle.tx_types.specs.declared.mutation.Mode.TheVariants.{TwoPhase, Async}
use Rattle.tx_steps.specs.declared.transfer.Transfer.{Transfer}
use Rattle.tx_steps.specs.declared.delivery.Delivery.{Delivery}
use Rattle.tx_steps.specs.declared.delivery.Delivery.TheVariants as delivery
use Rattle.tx_steps.specs.declared.call.Call.{Call}
use Rattle.tx_steps.specs.declared.call.Call.TheVariants as call
use Rattle.tx_steps.specs.declared.op.Op.{Op}
use Rattle.tx_steps.specs.declared.op.Op.TheVariants as op
use Rattle.tx_steps.specs.declared.step.Step.{Step}
use Rattle.tx_steps.specs.declared.step.Step.TheVariants as step
use Rattle.tx_steps.specs.Steps.{Text}

-- a number of ticks or rows, a timestamp or an amount
abbrev pub whole : ℕ → Data
whole n = number (unsigned n)

-- ---- the words

-- the word of a mode
abbrev pub mode_word : Mode → Text
mode_word TwoPhase = codes "two-phase"
mode_word Async = codes "async"

-- the word of what a session does by itself
abbrev pub op_word : Op Text → Text
op_word (op.Put key value) = codes "put"
op_word (op.Insert key value) = codes "insert"
op_word (op.Delete key) = codes "delete"
op_word (op.Lock key) = codes "lock"
op_word (op.Declare mode ttl max_commit) = codes "declare"
op_word op.Draw = codes "draw"
op_word op.Finish = codes "finish"
op_word op.Stop = codes "stop"
op_word (op.Resolve now) = codes "resolve"

-- the word of what a session sends
abbrev pub call_word : Call Text → Text
call_word (call.Get key) = codes "get"
call_word (call.Scan from to limit) = codes "scan"
call_word call.Prewrite = codes "prewrite"
call_word call.Commit = codes "commit"
call_word call.Abort = codes "abort"
call_word (call.Heartbeat ttl) = codes "heartbeat"

-- the word that a step begins with
abbrev pub step_word : Step Text → Text
step_word (step.Begin name) = codes "begin"
step_word (step.Act name what) = op_word what
step_word (step.Send name what d) = call_word what
step_word (step.Deliver name) = codes "deliver"
step_word (step.Read key at) = codes "read"
step_word (step.Versions key) = codes "versions"
step_word (step.Tick ticks) = codes "tick"
step_word (step.Gc safe) = codes "gc"
step_word (step.Seed key value) = codes "seed"
step_word (step.Transfer name what) = codes "transfer"

-- ---- what they are told of

-- the greatest timestamp that an async commit may take, where there is one
abbrev pub bound_members : Option ℕ → List Data
bound_members None = []
bound_members (Some most) = whole most ∷ []

-- behind the session's name, what it does by itself
abbrev pub op_members : Op Text → List Data
op_members (op.Put key value) = string key ∷ string value ∷ []
op_members (op.Insert key value) = string key ∷ string value ∷ []
op_members (op.Delete key) = string key ∷ []
op_members (op.Lock key) = string key ∷ []
op_members (op.Declare mode ttl most) = string (mode_word mode) ∷ whole ttl ∷ bound_members most
op_members op.Draw = []
op_members op.Finish = []
op_members op.Stop = []
op_members (op.Resolve now) = whole now ∷ []

-- behind the session's name, what it sends
abbrev pub call_members : Call Text → List Data
call_members (call.Get key) = string key ∷ []
call_members (call.Scan from to limit) = string from ∷ string to ∷ whole limit ∷ []
call_members call.Prewrite = []
call_members call.Commit = []
call_members call.Abort = []
call_members (call.Heartbeat ttl) = whole ttl ∷ []

-- behind that, what becomes of the request: nothing where it simply arrives
abbrev pub delivery_members : Delivery Text → List Data
delivery_members delivery.Taken = []
delivery_members delivery.Lost = string (codes "lose") ∷ []
delivery_members delivery.Unanswered = string (codes "lose-reply") ∷ []
delivery_members delivery.Repeated = string (codes "repeat") ∷ []
delivery_members (delivery.Held name) = string (codes "hold") ∷ string name ∷ []

-- behind the session's name, what is moved
abbrev pub transfer_members : Transfer Text → List Data
transfer_members what =
    string what.from ∷ string what.to ∷ whole what.amount ∷ string (mode_word what.mode) ∷ []

-- the members behind the word
abbrev pub step_members : Step Text → List Data
step_members (step.Begin name) = string name ∷ []
step_members (step.Act name what) = string name ∷ op_members what
step_members (step.Send name what d) = string name ∷ call_members what ++ delivery_members d
step_members (step.Deliver name) = string name ∷ []
step_members (step.Read key at) = string key ∷ whole at ∷ []
step_members (step.Versions key) = string key ∷ []
step_members (step.Tick ticks) = whole ticks ∷ []
step_members (step.Gc safe) = whole safe ∷ []
step_members (step.Seed key value) = string key ∷ string value ∷ []
step_members (step.Transfer name what) = string name ∷ transfer_members what

-- ---- the line

-- the text of members behind another: a comma before each
abbrev pub later_text : List Data → List ℕ
later_text ds = members_text (items_of ds)

-- the JSON value of a step: the array of its word and what it is told of
abbrev pub step_data : Step Text → Data
step_data s = array (items_of (string (step_word s) ∷ step_members s))

-- the line of a step, without its newline: the compact text of that value
abbrev pub line_of : Step Text → List ℕ
line_of s = compact_text (step_data s)

-- the text of a script: the line of each step, with its newline
abbrev pub script_text : List (Step Text) → List ℕ
script_text [] = []
script_text (s ∷ steps) = line_of s ++ 10 ∷ script_text steps

-- ---- line 1

-- the JSON value of the keys between the regions: a word, and the list of them
abbrev pub bounds_data : List Text → Data
bounds_data keys = array (item (string (codes "regions")) (item (array (items_of (map string keys))) no_items))

-- the line that says them, without its newline
abbrev pub bounds_line : List Text → List ℕ
bounds_line keys = compact_text (bounds_data keys)
