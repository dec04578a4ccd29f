-- The members of a step say that step, and are read back from their text.
use Rattle.std.proofs.Common.{◌≡◌, ◌≢◌, ℕ, suc, All, map, ◌≤◌, List, [], ◌∷◌, ◌++◌, length, true, false, Option, Some, None, Ok, Err, inl, inr, refl, arith, ap, ◌∙◌, codes}
use Rattle.std.specs.Prelude.{if◌then◌else◌, IsUtf8, option_and_then, bytes_eq, nat_lt, ok_or}
use Rattle.std.proofs.lemmas.Bool.{le-leb, le-ltb, cases_Bool}
use Rattle.std.proofs.lemmas.List.Elements.{All-head, All-tail}
use Rattle.std.proofs.lemmas.Slice.Eq.{bytes_eq-Decides}
use Rattle.json.proofs.Printed.Utf8.{are_ascii, IsUtf8-are_ascii}
use Rattle.serde_json.specs.Data.{Data, string, items_depth}
use Rattle.serde_json.specs.View.{items_of}
use Rattle.tx_types.specs.declared.fault.Cause.TheVariants.{Json, Long, Lines}
use Rattle.tx_types.specs.declared.limits.TheConstants.{MAX_TTL, MAX_TICK, MAX_SCAN_ROWS}
use Rattle.tx_types.specs.declared.mutation.Mode.{Mode}
use Rattle.tx_types.specs.declared.mutation.Mode.TheVariants.{TwoPhase, Async}
use Rattle.tx_text.specs.Lines.{max_line, max_lines, NoNewline, lines_of}
use Rattle.tx_text.proofs.TextLines.{lines_of-line}
use Rattle.tx_text.specs.Parts.{count, json_of}
use Rattle.tx_types.specs.Lengths.{is_key}
use Rattle.tx_steps.specs.declared.transfer.TheConstants.{MAX_AMOUNT}
use Rattle.tx_steps.specs.declared.transfer.Transfer.{Transfer}
use Rattle.tx_steps.specs.declared.delivery.Delivery.{Delivery}
use Rattle.tx_steps.specs.declared.delivery.Delivery.TheVariants as delivery
use Rattle.tx_steps.specs.declared.call.Call.{Call}
use Rattle.tx_steps.specs.declared.call.Call.TheVariants as call
use Rattle.tx_steps.specs.declared.op.Op.{Op}
use Rattle.tx_steps.specs.declared.op.Op.TheVariants as op
use Rattle.tx_steps.specs.declared.step.Step.{Step}
use Rattle.tx_steps.specs.declared.step.Step.TheVariants as step
use Rattle.tx_steps.specs.Steps.{Text, delivery_said, mode_said, moved_said, any_said, is_of}
use Rattle.tx_steps.specs.Bounds.{all_keys}
use Rattle.tx_step_text.specs.StepTexts.{script_text, bounds_data, bounds_line, mode_word, op_word, call_word, bound_members, op_members, call_members, delivery_members, transfer_members, step_word, step_members, step_data, line_of}
use Rattle.tx_step_text.specs.Sayable.{AreBounds, IsBound, IsCall, IsOp, IsDelivery, IsTransfer, IsSayable}
use Rattle.tx_step_text.specs.ReadBack.{IsReadBack, AreReadBack}
use Rattle.tx_step_text.proofs.Newlines.{plain_none}
use Rattle.tx_step_text.proofs.Compact.{IsPlain, IsLeaf, AreLeaves, leaves_plain, leaves_flat, json_compact, leaves_compact}

-- ---- the members of a step say it

delivery_back : (d : Delivery Text) → delivery_said (items_of (delivery_members d)) ≡ Some d
delivery_back delivery.Taken = refl
delivery_back delivery.Lost = refl
delivery_back delivery.Unanswered = refl
delivery_back delivery.Repeated = refl
delivery_back (delivery.Held name) = refl

-- the step that the members of a step say
abbrev said_by : Step Text → Option (Step Text)
said_by s = any_said (items_of (string (step_word s) ∷ step_members s))

mode_back : (mode : Mode) → mode_said (mode_word mode) ≡ Some mode
mode_back TwoPhase = refl
mode_back Async = refl

sent_back : (name : Text) (what : Call Text) (d : Delivery Text) → IsCall what
    → said_by (step.Send name what d) ≡ Some (step.Send name what d)
sent_back name (call.Get key) d h = rw (delivery_back d) refl
sent_back name (call.Scan from to limit) d h =
    rw (le-leb 1 limit h.2, le-leb limit MAX_SCAN_ROWS h.3, delivery_back d) refl
sent_back name call.Prewrite d h = rw (delivery_back d) refl
sent_back name call.Commit d h = rw (delivery_back d) refl
sent_back name call.Abort d h = rw (delivery_back d) refl
sent_back name (call.Heartbeat ttl) d h =
    rw (le-leb 0 ttl (omega arith), le-leb ttl MAX_TTL h, delivery_back d) refl

acted_back : (name : Text) (what : Op Text) → IsOp what
    → said_by (step.Act name what) ≡ Some (step.Act name what)
acted_back name (op.Put key value) h = refl
acted_back name (op.Insert key value) h = refl
acted_back name (op.Delete key) h = refl
acted_back name (op.Lock key) h = refl
acted_back name (op.Declare TwoPhase ttl None) h =
    rw (le-leb 0 ttl (omega arith), le-leb ttl MAX_TTL h.0) refl
acted_back name (op.Declare TwoPhase ttl (Some most)) h = absurd h.1
acted_back name (op.Declare Async ttl None) h =
    rw (le-leb 0 ttl (omega arith), le-leb ttl MAX_TTL h.0) refl
acted_back name (op.Declare Async ttl (Some most)) h =
    rw (le-leb 0 ttl (omega arith), le-leb ttl MAX_TTL h.0) refl
acted_back name op.Draw h = refl
acted_back name op.Finish h = refl
acted_back name op.Stop h = refl
acted_back name (op.Resolve now) h = refl

unequal : (xs ys : Text) → xs ≢ ys → bytes_eq xs ys ≡ false
unequal xs ys apart =
    elim (cases_Bool (bytes_eq xs ys)) [ inl e ↦ absurd (apart ((bytes_eq-Decides xs ys).0 e)) | inr e ↦ e ]

moved_back : (what : Transfer Text) → IsTransfer what → moved_said (items_of (transfer_members what)) ≡ Some what
moved_back what h = rw (
  unequal what.from what.to h.2,
  le-leb 1 what.amount h.3,
  le-leb what.amount MAX_AMOUNT h.4,
  mode_back what.mode,
) refl

pub said_back : (s : Step Text) → IsSayable s → said_by s ≡ Some s
said_back (step.Begin name) h = refl
said_back (step.Act name what) h = acted_back name what h.1
said_back (step.Send name what d) h = sent_back name what d h.1
said_back (step.Deliver name) h = refl
said_back (step.Read key at) h = refl
said_back (step.Versions key) h = refl
said_back (step.Tick ticks) h = rw (le-leb 1 ticks h.0, le-leb ticks MAX_TICK h.1) refl
said_back (step.Gc safe) h = refl
said_back (step.Seed key value) h = refl
said_back (step.Transfer name what) h = rw (moved_back what h.1) refl

-- ---- each member is a string or a whole number

word_leaf : (s : Text) → are_ascii s ≡ true → IsLeaf (string s)
word_leaf s e = (IsUtf8-are_ascii s e, refl)

mode_leaf : (mode : Mode) → IsLeaf (string (mode_word mode))
mode_leaf TwoPhase = word_leaf (mode_word TwoPhase) refl
mode_leaf Async = word_leaf (mode_word Async) refl

op_word_leaf : (what : Op Text) → IsLeaf (string (op_word what))
op_word_leaf (op.Put key value) = word_leaf (codes "put") refl
op_word_leaf (op.Insert key value) = word_leaf (codes "insert") refl
op_word_leaf (op.Delete key) = word_leaf (codes "delete") refl
op_word_leaf (op.Lock key) = word_leaf (codes "lock") refl
op_word_leaf (op.Declare mode ttl most) = word_leaf (codes "declare") refl
op_word_leaf op.Draw = word_leaf (codes "draw") refl
op_word_leaf op.Finish = word_leaf (codes "finish") refl
op_word_leaf op.Stop = word_leaf (codes "stop") refl
op_word_leaf (op.Resolve now) = word_leaf (codes "resolve") refl

call_word_leaf : (what : Call Text) → IsLeaf (string (call_word what))
call_word_leaf (call.Get key) = word_leaf (codes "get") refl
call_word_leaf (call.Scan from to limit) = word_leaf (codes "scan") refl
call_word_leaf call.Prewrite = word_leaf (codes "prewrite") refl
call_word_leaf call.Commit = word_leaf (codes "commit") refl
call_word_leaf call.Abort = word_leaf (codes "abort") refl
call_word_leaf (call.Heartbeat ttl) = word_leaf (codes "heartbeat") refl

step_word_leaf : (s : Step Text) → IsLeaf (string (step_word s))
step_word_leaf (step.Begin name) = word_leaf (codes "begin") refl
step_word_leaf (step.Act name what) = op_word_leaf what
step_word_leaf (step.Send name what d) = call_word_leaf what
step_word_leaf (step.Deliver name) = word_leaf (codes "deliver") refl
step_word_leaf (step.Read key at) = word_leaf (codes "read") refl
step_word_leaf (step.Versions key) = word_leaf (codes "versions") refl
step_word_leaf (step.Tick ticks) = word_leaf (codes "tick") refl
step_word_leaf (step.Gc safe) = word_leaf (codes "gc") refl
step_word_leaf (step.Seed key value) = word_leaf (codes "seed") refl
step_word_leaf (step.Transfer name what) = word_leaf (codes "transfer") refl

bound_leaves : (mode : Mode) (most : Option ℕ) → IsBound mode most → AreLeaves (bound_members most)
bound_leaves mode None h = tt
bound_leaves TwoPhase (Some most) h = absurd h
bound_leaves Async (Some most) h = ((h, refl), tt)

op_leaves : (what : Op Text) → IsOp what → AreLeaves (op_members what)
op_leaves (op.Put key value) h = ((h.0, refl), ((h.1, refl), tt))
op_leaves (op.Insert key value) h = ((h.0, refl), ((h.1, refl), tt))
op_leaves (op.Delete key) h = ((h, refl), tt)
op_leaves (op.Lock key) h = ((h, refl), tt)
op_leaves (op.Declare mode ttl most) h = (mode_leaf mode, ((omega (arith, h.0), refl), bound_leaves mode most h.1))
op_leaves op.Draw h = tt
op_leaves op.Finish h = tt
op_leaves op.Stop h = tt
op_leaves (op.Resolve now) h = ((h, refl), tt)

delivery_leaves : (d : Delivery Text) → IsDelivery d → AreLeaves (delivery_members d)
delivery_leaves delivery.Taken h = tt
delivery_leaves delivery.Lost h = (word_leaf (codes "lose") refl, tt)
delivery_leaves delivery.Unanswered h = (word_leaf (codes "lose-reply") refl, tt)
delivery_leaves delivery.Repeated h = (word_leaf (codes "repeat") refl, tt)
delivery_leaves (delivery.Held name) h = (word_leaf (codes "hold") refl, ((h, refl), tt))

sent_leaves : (what : Call Text) (d : Delivery Text) → IsCall what → IsDelivery d
    → AreLeaves (call_members what ++ delivery_members d)
sent_leaves (call.Get key) d h g = ((h, refl), delivery_leaves d g)
sent_leaves (call.Scan from to limit) d h g =
    ((h.0, refl), ((h.1, refl), ((omega (arith, h.3), refl), delivery_leaves d g)))
sent_leaves call.Prewrite d h g = delivery_leaves d g
sent_leaves call.Commit d h g = delivery_leaves d g
sent_leaves call.Abort d h g = delivery_leaves d g
sent_leaves (call.Heartbeat ttl) d h g = ((omega (arith, h), refl), delivery_leaves d g)

member_leaves : (s : Step Text) → IsSayable s → AreLeaves (step_members s)
member_leaves (step.Begin name) h = ((h, refl), tt)
member_leaves (step.Act name what) h = ((h.0, refl), op_leaves what h.1)
member_leaves (step.Send name what d) h = ((h.0, refl), sent_leaves what d h.1 h.2)
member_leaves (step.Deliver name) h = ((h, refl), tt)
member_leaves (step.Read key at) h = ((h.0, refl), ((h.1, refl), tt))
member_leaves (step.Versions key) h = ((h, refl), tt)
member_leaves (step.Tick ticks) h = ((omega (arith, h.1), refl), tt)
member_leaves (step.Gc safe) h = ((h, refl), tt)
member_leaves (step.Seed key value) h = ((h.0, refl), ((h.1, refl), tt))
member_leaves (step.Transfer name what) h =
    ((h.0, refl), ((h.1.0, refl), ((h.1.1, refl), ((omega (arith, h.1.4), refl), (mode_leaf what.mode, tt)))))

-- ---- the line

pub line_json : (s : Step Text) → IsSayable s → json_of (line_of s) ≡ Some (step_data s)
line_json s h = leaves_compact (string (step_word s) ∷ step_members s) (step_word_leaf s, member_leaves s h)

said_json : (number size : ℕ) (o : Option Data) (d : Data) → number ≤ max_lines → size ≤ max_line → o ≡ Some d
    → (if nat_lt max_line size then Err Long else (if nat_lt max_lines number then Err Lines else ok_or o Json)) ≡ Ok d
said_json number size o d few short e = rw (le-ltb max_line size short, le-ltb max_lines number few, e) refl

line_one : (s : Step Text) → IsSayable s → NoNewline (line_of s)
line_one s h =
    plain_none (step_data s)
    (leaves_plain (string (step_word s) ∷ step_members s) (step_word_leaf s, member_leaves s h))

pub read_back : (s : Step Text) → IsSayable s → IsReadBack s
read_back s h = record {
  one = line_one s h;
  read = λ number few short.
      said_json number (length (line_of s)) (json_of (line_of s)) (step_data s) few short (line_json s h);
  says = λ program.
      ap (λ o. option_and_then (λ t. if is_of program t then Some t else None) o) (said_back s h);
}

pub script_lines : (steps : List (Step Text)) → All IsSayable steps → lines_of (script_text steps) ≡ map line_of steps
script_lines [] h = refl
script_lines (s ∷ steps) h =
    lines_of-line (line_of s) (script_text steps) (line_one s (All-head IsSayable s steps h))
    ∙ ap (λ lines. line_of s ∷ lines) (script_lines steps (All-tail IsSayable s steps h))

-- ---- the keys between the regions

keys_back : (keys : List Text) → All (λ key. IsUtf8 key × (is_key key ≡ true)) keys
    → all_keys (items_of (map string keys)) ≡ Some keys
keys_back [] h = refl
keys_back (key ∷ keys) h =
    rw (
      (All-head (λ k. IsUtf8 k × (is_key k ≡ true)) key keys h).1,
      keys_back keys (All-tail (λ k. IsUtf8 k × (is_key k ≡ true)) key keys h),
    ) refl

keys_leaves : (keys : List Text) → All (λ key. IsUtf8 key × (is_key key ≡ true)) keys → AreLeaves (map string keys)
keys_leaves [] h = tt
keys_leaves (key ∷ keys) h = (
  ((All-head (λ k. IsUtf8 k × (is_key k ≡ true)) key keys h).0, refl),
  keys_leaves keys (All-tail (λ k. IsUtf8 k × (is_key k ≡ true)) key keys h),
)

count_keys : (keys : List Text) → count (items_of (map string keys)) ≡ length keys
count_keys [] = refl
count_keys (key ∷ keys) = ap suc (count_keys keys)

bounds_plain : (keys : List Text) → AreBounds keys → IsPlain (bounds_data keys)
bounds_plain keys h = (
  IsUtf8-are_ascii (codes "regions") refl,
  (leaves_plain (map string keys) (keys_leaves keys h.each), tt),
)

bounds_json : (keys : List Text) → AreBounds keys → json_of (bounds_line keys) ≡ Some (bounds_data keys)
bounds_json keys h =
    let flat : items_depth (items_of (map string keys)) ≡ 0 =
    leaves_flat (map string keys) (keys_leaves keys h.each) in
    json_compact (bounds_data keys) (bounds_plain keys h) (omega (arith, flat))

pub bounds_read_back : (keys : List Text) → AreBounds keys → AreReadBack keys
bounds_read_back keys h = record {
  one = plain_none (bounds_data keys) (bounds_plain keys h);
  read = λ number few short.
      said_json number (length (bounds_line keys)) (json_of (bounds_line keys)) (bounds_data keys) few short
      (bounds_json keys h);
  says = rw (count_keys keys, h.few, keys_back keys h.each, h.rising) refl;
}
