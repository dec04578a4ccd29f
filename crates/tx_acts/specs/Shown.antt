-- What shows an edge, or a read that cannot be: lines, and their operations.
use Rattle.std.specs.Prelude.{ℕ, List, [], ◌∷◌, ◌++◌, codes, length, slice_index_or, Option, Some, None}
use Rattle.tx_recording.specs.declared.recording.RecordedOp.{RecordedOp}
use Rattle.tx_recording.specs.Recordings.{transaction_at, no_op}
use Rattle.tx_verdict.specs.declared.verdict.EdgeKind.{EdgeKind}
use Rattle.tx_verdict.specs.declared.verdict.EdgeKind.TheVariants.{Ww, Wr, Rw, So, Rt}
use Rattle.tx_verdict.specs.declared.verdict.CycleStep.{CycleStep}
use Rattle.tx_verdict.specs.declared.verdict.Fact.{Fact}
use Rattle.tx_import.specs.declared.reader.NamedHistory.{NamedHistory}
use Rattle.tx_ring.specs.Markup.{each_of}
use Rattle.tx_acts.specs.Ops.{op_line, keyed_ops, first_ops, ops_at}
use Rattle.tx_acts.specs.About.{line_word, process_text, number_text}

-- the operation at a place, behind others
abbrev pub behind_at : NamedHistory → List RecordedOp → ℕ → List ℕ
behind_at h os i = codes ", " ++ op_line h (slice_index_or os i no_op)

-- operations, one behind the other
abbrev pub behind_text : NamedHistory → List RecordedOp → List ℕ
behind_text h os = each_of (behind_at h os) (length os)

-- the first eight operations of a transaction with a key
abbrev pub ops_with : NamedHistory → ℕ → ℕ → List RecordedOp
ops_with h t k = first_ops (keyed_ops (k ∷ []) (ops_at h t))

-- a line, and what it did with the key, where there is one
abbrev pub did_text : NamedHistory → ℕ → Option ℕ → List ℕ
did_text h t None = []
did_text h t (Some k) = behind_text h (ops_with h t k)

-- what shows an edge of who comes first: what it did with the key, its process, or its end
abbrev pub first_text : NamedHistory → EdgeKind → ℕ → Option ℕ → List ℕ
first_text h Ww t key = did_text h t key
first_text h Wr t key = did_text h t key
first_text h Rw t key = did_text h t key
first_text h So t key = process_text h (transaction_at h.recording t).process
first_text h Rt t key = number_text (codes ", end ") (transaction_at h.recording t).ended

-- of the other: the same, or its start
abbrev pub second_text : NamedHistory → EdgeKind → ℕ → Option ℕ → List ℕ
second_text h Ww t key = did_text h t key
second_text h Wr t key = did_text h t key
second_text h Rw t key = did_text h t key
second_text h So t key = process_text h (transaction_at h.recording t).process
second_text h Rt t key = number_text (codes ", start ") (transaction_at h.recording t).began

-- what shows an edge
abbrev pub shown_text : NamedHistory → CycleStep → List ℕ
shown_text h s = line_word s.from ++ (first_text h s.edge s.from s.key ++ (codes "; " ++ (line_word s.to
    ++ second_text h s.edge s.to s.key)))

-- the other's line, where one is told of with a read
abbrev pub other_text : NamedHistory → ℕ → Option ℕ → List ℕ
other_text h k None = []
other_text h k (Some t) = codes "; " ++ (line_word t ++ did_text h t (Some k))

-- what shows a read that cannot be
abbrev pub read_shown : NamedHistory → Fact → List ℕ
read_shown h f = line_word f.txn ++ (did_text h f.txn (Some f.key) ++ other_text h f.key f.by)
