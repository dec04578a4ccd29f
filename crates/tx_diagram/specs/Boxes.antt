-- What stands in the box of a transaction: its line, how it ended, and its operations.
use Rattle.std.specs.Prelude.{ℕ, List, ◌++◌, length, slice_index_or}
use Rattle.serde_json.specs.Written.{compact_text}
use Rattle.tx_recording.specs.declared.recording.RecordedOp.{RecordedOp}
use Rattle.tx_recording.specs.Recordings.{no_op}
use Rattle.tx_import.specs.declared.reader.NamedHistory.{NamedHistory}
use Rattle.tx_ring.specs.Markup.{each_of}
use Rattle.tx_ring.specs.Rings.{box_text, row_text}
use Rattle.tx_verdict_text.specs.Words.{id_data}
use Rattle.tx_acts.specs.Ops.{op_line, shown_ops, ops_at}
use Rattle.tx_acts.specs.About.{about_text}

abbrev pub id_text : NamedHistory → ℕ → List ℕ
id_text h t = compact_text (id_data h t)

-- the operations that are shown of a transaction where these keys matter
abbrev pub shown_of : NamedHistory → List ℕ → ℕ → List RecordedOp
shown_of h keys t = shown_ops keys (ops_at h t)

-- operations, a row each
abbrev pub op_row : NamedHistory → List RecordedOp → ℕ → List ℕ
op_row h os i = row_text i (op_line h (slice_index_or os i no_op))

abbrev pub rows_text : NamedHistory → List RecordedOp → List ℕ
rows_text h os = each_of (op_row h os) (length os)

-- a box with these operations
abbrev pub filled_text : NamedHistory → ℕ → ℕ → List ℕ → ℕ → List RecordedOp → List ℕ
filled_text h rows place kind t os = box_text rows place kind (id_text h t) (about_text h t (length os))
    ++ rows_text h os

-- the box of a transaction at a place, of a kind, where each has so many rows and these keys matter
abbrev pub box_of : NamedHistory → List ℕ → ℕ → ℕ → List ℕ → ℕ → List ℕ
box_of h keys rows place kind t = filled_text h rows place kind t (shown_of h keys t)
