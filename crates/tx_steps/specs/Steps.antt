-- The step of a script that a line says, over the members of its array. Strings stand for
-- their UTF-8 bytes.
use Rattle.std.specs.Prelude.{◌≢◌, ℕ, ◌&&◌, List, Bool, true, false, nat_le, Option, Some, None, option_map, option_and_then, if◌then◌else◌, bytes_eq, codes}
use Rattle.std.specs.Borrow.{Bor}
use Rattle.serde_json.specs.Data.{Items, no_items, item}
use Rattle.serde_json.specs.Find.{as_str, as_number, as_u64}
use Rattle.tx_types.specs.declared.limits.TheConstants.{MAX_TTL, MAX_TICK, MAX_SCAN_ROWS}
use Rattle.tx_types.specs.declared.mutation.Mode.{Mode}
use Rattle.tx_types.specs.declared.mutation.Mode.TheVariants.{TwoPhase, Async}
use Rattle.tx_steps.specs.declared.transfer.TheConstants.{MAX_AMOUNT}
use Rattle.tx_steps.specs.declared.transfer.Transfer.{Transfer}
use Rattle.tx_steps.specs.declared.program.Program.{Program}
use Rattle.tx_steps.specs.declared.program.Program.TheVariants.{Simulate, Run}
use Rattle.tx_steps.specs.declared.word.Word.{Word}
use Rattle.tx_steps.specs.declared.word.Word.TheVariants as word
use Rattle.tx_steps.specs.declared.delivery.Delivery.{Delivery}
use Rattle.tx_steps.specs.declared.delivery.Delivery.TheVariants as delivery
use Rattle.tx_steps.specs.declared.call.Call.{Call}
use Rattle.tx_steps.specs.declared.call.Call.TheVariants as call
use Rattle.tx_steps.specs.declared.op.Op.{Op}
use Rattle.tx_steps.specs.declared.op.Op.TheVariants as op
use Rattle.tx_steps.specs.declared.step.Step.{Step}
use Rattle.tx_steps.specs.declared.step.Step.TheVariants as step

-- a text, by its bytes
abbrev pub Text : Type 0
Text = List ℕ

-- ---- the same, with other texts

-- what becomes of a request, with what f makes of its text
abbrev pub delivery_named : {A B : Type 0} → (A → B) → Delivery A → Delivery B
delivery_named f delivery.Taken = delivery.Taken
delivery_named f delivery.Lost = delivery.Lost
delivery_named f delivery.Unanswered = delivery.Unanswered
delivery_named f delivery.Repeated = delivery.Repeated
delivery_named f (delivery.Held name) = delivery.Held (f name)

-- what a session sends, with what f makes of its texts
abbrev pub call_named : {A B : Type 0} → (A → B) → Call A → Call B
call_named f (call.Get key) = call.Get (f key)
call_named f (call.Scan from to limit) = call.Scan (f from) (f to) limit
call_named f call.Prewrite = call.Prewrite
call_named f call.Commit = call.Commit
call_named f call.Abort = call.Abort
call_named f (call.Heartbeat ttl) = call.Heartbeat ttl

-- what a session does by itself, with what f makes of its texts
abbrev pub op_named : {A B : Type 0} → (A → B) → Op A → Op B
op_named f (op.Put key value) = op.Put (f key) (f value)
op_named f (op.Insert key value) = op.Insert (f key) (f value)
op_named f (op.Delete key) = op.Delete (f key)
op_named f (op.Lock key) = op.Lock (f key)
op_named f (op.Declare mode ttl max_commit) = op.Declare mode ttl max_commit
op_named f op.Draw = op.Draw
op_named f op.Finish = op.Finish
op_named f op.Stop = op.Stop
op_named f (op.Resolve now) = op.Resolve now

-- what a transfer moves, with what f makes of its texts
abbrev pub transfer_named : {A B : Type 0} → (A → B) → Transfer A → Transfer B
transfer_named f t = record { from = f t.from; to = f t.to; amount = t.amount; mode = t.mode }

-- a step, with what f makes of its texts
abbrev pub named : {A B : Type 0} → (A → B) → Step A → Step B
named f (step.Begin name) = step.Begin (f name)
named f (step.Act name what) = step.Act (f name) (op_named f what)
named f (step.Send name what d) = step.Send (f name) (call_named f what) (delivery_named f d)
named f (step.Deliver name) = step.Deliver (f name)
named f (step.Read key at) = step.Read (f key) at
named f (step.Versions key) = step.Versions (f key)
named f (step.Tick ticks) = step.Tick ticks
named f (step.Gc safe) = step.Gc safe
named f (step.Seed key value) = step.Seed (f key) (f value)
named f (step.Transfer name what) = step.Transfer (f name) (transfer_named f what)

-- ---- what the program's values say

-- the bytes of a text
abbrev pub bytes_of : Bor Text → Text
bytes_of text = text.now

abbrev pub delivered : Delivery (Bor Text) → Delivery Text
delivered d = delivery_named bytes_of d

abbrev pub called : Call (Bor Text) → Call Text
called c = call_named bytes_of c

abbrev pub acted : Op (Bor Text) → Op Text
acted o = op_named bytes_of o

abbrev pub moved : Transfer (Bor Text) → Transfer Text
moved t = transfer_named bytes_of t

abbrev pub asked : Step (Bor Text) → Step Text
asked s = named bytes_of s

-- the two keys of a transfer differ
abbrev pub IsApart : Step Text → Type 0
IsApart (step.Transfer name what) = what.from ≢ what.to
IsApart _ = Unit {0}

-- ---- members, one after the other

-- a text comes first, and then these members
abbrev pub text_in : Items → Option (Text × Items)
text_in no_items = None
text_in (item d ds) = option_map (λ s. (s, ds)) (as_str d)

-- a whole number comes first
abbrev pub number_in : Items → Option (ℕ × Items)
number_in no_items = None
number_in (item d ds) = option_map (λ n. (n, ds)) (option_and_then as_u64 (as_number d))

-- a whole number from low to high comes first
abbrev pub within : ℕ → ℕ → Items → Option (ℕ × Items)
within low high ds = option_and_then (λ n. if nat_le low n.0 && nat_le n.0 high then Some n else None) (number_in ds)

-- no member is left
abbrev pub none_left : Items → Bool
none_left no_items = true
none_left (item d ds) = false

abbrev pub last_of : {A : Type 0} → A × Items → Option A
last_of p = if none_left p.1 then Some p.0 else None

-- a text, and nothing more
abbrev pub one_text : Items → Option Text
one_text ds = option_and_then last_of (text_in ds)

-- a number, and nothing more
abbrev pub one_number : Items → Option ℕ
one_number ds = option_and_then last_of (number_in ds)

-- ---- the steps

-- the words of delivery that stand alone
abbrev pub delivery_word : Text → Option (Delivery Text)
delivery_word w = if bytes_eq w (codes "lose") then Some delivery.Lost
    else (if bytes_eq w (codes "lose-reply") then Some delivery.Unanswered
    else (if bytes_eq w (codes "repeat") then Some delivery.Repeated else None))

-- nothing, `"lose"`, `"lose-reply"`, `"repeat"` or `"hold",name`
abbrev pub delivery_said : Items → Option (Delivery Text)
delivery_said no_items = Some delivery.Taken
delivery_said (item d ds) = option_and_then (λ w. if bytes_eq w (codes "hold")
    then option_map delivery.Held (one_text ds)
    else option_and_then (λ y. last_of (y, ds)) (delivery_word w)) (as_str d)

-- `s` and a delivery
abbrev pub sends_said : Call Text → Items → Option (Step Text)
sends_said what ds = option_and_then (λ s. option_map (step.Send s.0 what) (delivery_said s.1)) (text_in ds)

-- `s,key` and a delivery
abbrev pub get_said : Items → Option (Step Text)
get_said ds = option_and_then (λ s. option_and_then (λ k. option_map (step.Send s.0 (call.Get k.0)) (delivery_said k.1))
    (text_in s.1)) (text_in ds)

-- `from,to,limit`, with a limit of 1 to 1,024
abbrev pub range_said : Items → Option (Call Text × Items)
range_said ds = option_and_then (λ f. option_and_then (λ t. option_map (λ l. (
  call.Scan f.0 t.0 l.0,
  l.1,
)) (within 1 MAX_SCAN_ROWS t.1)) (text_in f.1)) (text_in ds)

-- `s,from,to,limit` and a delivery
abbrev pub scan_said : Items → Option (Step Text)
scan_said ds = option_and_then (λ s. option_and_then (λ r. option_map (step.Send s.0 r.0) (delivery_said r.1))
    (range_said s.1)) (text_in ds)

-- `s,ttl` and a delivery, with at most 2^32 - 1 ticks
abbrev pub heartbeat_said : Items → Option (Step Text)
heartbeat_said ds = option_and_then (λ s. option_and_then (λ n. option_map (step.Send s.0 (call.Heartbeat n.0))
    (delivery_said n.1)) (within 0 MAX_TTL s.1)) (text_in ds)

-- `key,value`
abbrev pub put_said : Items → Option (Op Text)
put_said ds = option_and_then (λ k. option_map (op.Put k.0) (one_text k.1)) (text_in ds)

-- `key,value`
abbrev pub insert_said : Items → Option (Op Text)
insert_said ds = option_and_then (λ k. option_map (op.Insert k.0) (one_text k.1)) (text_in ds)

-- a mode's word
abbrev pub mode_said : Text → Option Mode
mode_said w = if bytes_eq w (codes "two-phase") then Some TwoPhase else (if bytes_eq w (codes "async") then Some Async
    else None)

-- nothing, or for an async commit the greatest timestamp that it may take
abbrev pub max_said : Mode → Items → Option (Option ℕ)
max_said mode no_items = Some None
max_said TwoPhase (item d ds) = None
max_said Async (item d ds) = option_map Some (one_number (item d ds))

-- `mode,ttl`, and `max_commit` after `"async"`
abbrev pub declare_said : Items → Option (Op Text)
declare_said ds = option_and_then (λ w. option_and_then
    (λ m. option_and_then (λ n. option_map (op.Declare m n.0) (max_said m n.1)) (within 0 MAX_TTL w.1)) (mode_said w.0))
    (text_in ds)

-- what a session does by itself, by its word
abbrev pub op_said : Word → Items → Option (Op Text)
op_said word.Put ds = put_said ds
op_said word.Insert ds = insert_said ds
op_said word.Delete ds = option_map op.Delete (one_text ds)
op_said word.Lock ds = option_map op.Lock (one_text ds)
op_said word.Declare ds = declare_said ds
op_said word.Draw ds = last_of (op.Draw, ds)
op_said word.Finish ds = last_of (op.Finish, ds)
op_said word.Stop ds = last_of (op.Stop, ds)
op_said word.Resolve ds = option_map op.Resolve (one_number ds)
op_said _ ds = None

-- `key,ts`
abbrev pub read_said : Items → Option (Step Text)
read_said ds = option_and_then (λ k. option_map (step.Read k.0) (one_number k.1)) (text_in ds)

-- from 1 to 2^32 - 1 ticks
abbrev pub tick_said : Items → Option (Step Text)
tick_said ds = option_and_then (λ n. option_map step.Tick (last_of n)) (within 1 MAX_TICK ds)

-- `key,value`
abbrev pub seed_said : Items → Option (Step Text)
seed_said ds = option_and_then (λ k. option_map (step.Seed k.0) (one_text k.1)) (text_in ds)

-- `from,to,amount,mode`: two keys, and an amount of 1 to 10^12
abbrev pub moved_said : Items → Option (Transfer Text)
moved_said ds = option_and_then (λ f. option_and_then (λ t. option_and_then (λ n. option_and_then (λ m.
    if bytes_eq f.0 t.0 then None else Some (record { from = f.0; to = t.0; amount = n.0; mode = m }))
    (option_and_then mode_said (one_text n.1))) (within 1 MAX_AMOUNT t.1)) (text_in f.1)) (text_in ds)

-- `s` and what is moved
abbrev pub transfer_said : Items → Option (Step Text)
transfer_said ds = option_and_then (λ s. option_map (step.Transfer s.0) (moved_said s.1)) (text_in ds)

-- `s` and what the word says of a session by itself
abbrev pub acts_said : Word → Items → Option (Step Text)
acts_said w ds = option_and_then (λ s. option_map (step.Act s.0) (op_said w s.1)) (text_in ds)

-- a step, by its word and the members after it
abbrev pub said : Word → Items → Option (Step Text)
said word.Begin ds = option_map step.Begin (one_text ds)
said word.Get ds = get_said ds
said word.Scan ds = scan_said ds
said word.Prewrite ds = sends_said call.Prewrite ds
said word.Commit ds = sends_said call.Commit ds
said word.Abort ds = sends_said call.Abort ds
said word.Heartbeat ds = heartbeat_said ds
said word.Deliver ds = option_map step.Deliver (one_text ds)
said word.Read ds = read_said ds
said word.Versions ds = option_map step.Versions (one_text ds)
said word.Tick ds = tick_said ds
said word.Gc ds = option_map step.Gc (one_number ds)
said word.Seed ds = seed_said ds
said word.Transfer ds = transfer_said ds
said w ds = acts_said w ds

-- ---- the words

-- the words of a session's life
abbrev pub life_word : Text → Option Word
life_word w = if bytes_eq w (codes "begin") then Some word.Begin
    else (if bytes_eq w (codes "put") then Some word.Put
    else (if bytes_eq w (codes "get") then Some word.Get
    else (if bytes_eq w (codes "declare") then Some word.Declare
    else (if bytes_eq w (codes "prewrite") then Some word.Prewrite
    else (if bytes_eq w (codes "draw") then Some word.Draw
    else (if bytes_eq w (codes "commit") then Some word.Commit
    else (if bytes_eq w (codes "finish") then Some word.Finish else None)))))))

-- the other words of a session
abbrev pub session_word : Text → Option Word
session_word w = if bytes_eq w (codes "delete") then Some word.Delete
    else (if bytes_eq w (codes "lock") then Some word.Lock
    else (if bytes_eq w (codes "scan") then Some word.Scan
    else (if bytes_eq w (codes "abort") then Some word.Abort
    else (if bytes_eq w (codes "heartbeat") then Some word.Heartbeat
    else (if bytes_eq w (codes "stop") then Some word.Stop
    else (if bytes_eq w (codes "resolve") then Some word.Resolve
    else (if bytes_eq w (codes "insert") then Some word.Insert else None)))))))

-- the words of no session
abbrev pub world_word : Text → Option Word
world_word w = if bytes_eq w (codes "deliver") then Some word.Deliver
    else (if bytes_eq w (codes "read") then Some word.Read
    else (if bytes_eq w (codes "versions") then Some word.Versions
    else (if bytes_eq w (codes "tick") then Some word.Tick
    else (if bytes_eq w (codes "gc") then Some word.Gc else None))))

-- the words of runs
abbrev pub run_word : Text → Option Word
run_word w = if bytes_eq w (codes "transfer") then Some word.Transfer
    else (if bytes_eq w (codes "seed") then Some word.Seed else None)

abbrev pub or_else : Option Word → Option Word → Option Word
or_else None o = o
or_else (Some w) o = Some w

-- the word that a step begins with
abbrev pub word_said : Text → Option Word
word_said w = or_else (life_word w) (or_else (session_word w) (or_else (run_word w) (world_word w)))

-- the step that the members of an array say, of any program
abbrev pub any_said : Items → Option (Step Text)
any_said ds = option_and_then (λ w. option_and_then (λ x. said x w.1) (word_said w.0)) (text_in ds)

-- ---- the programs

-- a request simply arrives
abbrev pub is_taken : Delivery Text → Bool
is_taken delivery.Taken = true
is_taken _ = false

-- Whether a program's scripts have a step. A simulation has no seeds and no transfers; a run has no
-- words of delivery, and no step of no session but seeds.
abbrev pub is_of : Program → Step Text → Bool
is_of Simulate (step.Seed key value) = false
is_of Simulate (step.Transfer name what) = false
is_of Simulate _ = true
is_of Run (step.Send name what d) = is_taken d
is_of Run (step.Deliver name) = false
is_of Run (step.Read key at) = false
is_of Run (step.Versions key) = false
is_of Run (step.Tick ticks) = false
is_of Run (step.Gc safe) = false
is_of Run _ = true

-- the step of a program's script that the members of an array say, where they say one
abbrev pub step_said : Program → Items → Option (Step Text)
step_said program ds = option_and_then (λ s. if is_of program s then Some s else None) (any_said ds)
