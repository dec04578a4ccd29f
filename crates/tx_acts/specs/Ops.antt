-- The operations of a transaction, in words.
use Rattle.std.specs.Prelude.{ℕ, ◌+◌, ◌-◌, ◌==◌, ◌&&◌, Bool, true, false, cond, List, [], ◌∷◌, ◌++◌, codes, length, nat_le, nat_lt, take, drop, slice_index_or, slice_range}
use Rattle.std.specs.List.{filter, list_any}
use Rattle.serde_json.specs.Written.{compact_text}
use Rattle.tx_recording.specs.declared.recording.Span.{Span}
use Rattle.tx_recording.specs.declared.recording.Act.{Act}
use Rattle.tx_recording.specs.declared.recording.Act.TheVariants.{Append, Write, Read}
use Rattle.tx_recording.specs.declared.recording.RecordedOp.{RecordedOp}
use Rattle.tx_recording.specs.Recordings.{list_of, transaction_at}
use Rattle.tx_import.specs.declared.reader.NamedHistory.{NamedHistory}
use Rattle.tx_ring.specs.Markup.{each_of}
use Rattle.tx_verdict_text.specs.Words.{key_data, value_data}

-- ---- in words

-- a value, behind a space
abbrev pub value_text : NamedHistory → ℕ → List ℕ
value_text h v = codes " " ++ compact_text (value_data h v)

abbrev pub value_at : NamedHistory → List ℕ → ℕ → List ℕ
value_at h vs i = value_text h (slice_index_or vs i 0)

-- values, one behind the other
abbrev pub values_text : NamedHistory → List ℕ → List ℕ
values_text h vs = each_of (value_at h vs) (length vs)

-- what was read, where it is not much
abbrev pub seen_text : NamedHistory → List ℕ → List ℕ
seen_text h vs = cond (length vs == 0) (codes " nothing") (values_text h vs)

abbrev pub last_six : List ℕ → List ℕ
last_six vs = drop (length vs - 6) vs

-- the last values of a read
abbrev pub last_text : NamedHistory → List ℕ → List ℕ
last_text h vs = codes " .." ++ values_text h vs

-- what was read: of more than six values the last six
abbrev pub found_text : NamedHistory → List ℕ → List ℕ
found_text h vs = cond (nat_le (length vs) 6) (seen_text h vs) (last_text h (last_six vs))

-- the values of a read, where they are there
abbrev pub found_by : NamedHistory → Span → List ℕ
found_by h span = cond (nat_le (span.first + span.count) (length h.recording.elements.items))
    (list_of h.recording span) []

-- what was done with a key, and a colon
abbrev pub did_words : NamedHistory → List ℕ → ℕ → List ℕ
did_words h word k = word ++ (compact_text (key_data h k) ++ codes ":")

-- what an operation did with a key
abbrev pub act_text : NamedHistory → ℕ → Act → List ℕ
act_text h k (Append v) = did_words h (codes "append ") k ++ value_text h v
act_text h k (Write v) = did_words h (codes "write ") k ++ value_text h v
act_text h k (Read span) = did_words h (codes "read ") k ++ found_text h (found_by h span)

abbrev pub op_text : NamedHistory → RecordedOp → List ℕ
op_text h o = act_text h o.key o.act

-- ---- cut

-- a byte within a character, and not its first
abbrev pub is_inner : ℕ → Bool
is_inner b = nat_le 128 b && nat_lt b 192

-- a character begins at the place
abbrev pub begins_at : List ℕ → ℕ → Bool
begins_at text i = cond (is_inner (slice_index_or text i 0)) false true

-- where a text is cut: at the last of these places at which a character begins
abbrev pub cut_at : List ℕ → ℕ
cut_at text = cond (begins_at text 56) 56 (cond (begins_at text 55) 55 (cond (begins_at text 54) 54 53))

-- of more than 58 bytes some 56, and two dots
abbrev pub shortened : List ℕ → List ℕ
shortened text = cond (nat_le (length text) 58) text (take (cut_at text) text ++ codes "..")

-- an operation, in at most 58 bytes
abbrev pub op_line : NamedHistory → RecordedOp → List ℕ
op_line h o = shortened (op_text h o)

-- ---- which are shown

abbrev pub is_in : List ℕ → ℕ → Bool
is_in keys k = list_any (λ x. x == k) keys

-- those with one of the keys
abbrev pub keyed_ops : List ℕ → List RecordedOp → List RecordedOp
keyed_ops keys os = filter (λ o. is_in keys o.key) os

-- the first eight
abbrev pub first_ops : List RecordedOp → List RecordedOp
first_ops os = cond (nat_le (length os) 8) os (take 8 os)

-- all, where they are few, else those with one of the keys, as far as they are few
abbrev pub shown_ops : List ℕ → List RecordedOp → List RecordedOp
shown_ops keys os = cond (nat_le (length os) 8) os (first_ops (keyed_ops keys os))

-- ---- those of a transaction

-- a range of operations, where it is there
abbrev pub range_of : List RecordedOp → ℕ → ℕ → List RecordedOp
range_of os first upto = cond (nat_le first upto && nat_le upto (length os)) (slice_range os first upto) []

-- the operations of a transaction, where they are there
abbrev pub ops_at : NamedHistory → ℕ → List RecordedOp
ops_at h t = range_of h.recording.ops.items (transaction_at h.recording t).first (transaction_at h.recording t).upto
