-- The picture of a read that cannot be, and its graph.
use Rattle.std.specs.Prelude.{ℕ, max, List, [], ◌∷◌, ◌++◌, codes, length, Option, Some, None}
use Rattle.serde_json.specs.Written.{compact_text}
use Rattle.tx_verdict.specs.declared.verdict.Rule.{Rule}
use Rattle.tx_verdict.specs.declared.verdict.Rule.TheVariants as rule
use Rattle.tx_verdict.specs.declared.verdict.Fact.{Fact}
use Rattle.tx_import.specs.declared.reader.NamedHistory.{NamedHistory}
use Rattle.tx_ring.specs.declared.ring.Subject.TheVariants.{Read}
use Rattle.tx_ring.specs.declared.ring.Tie.{Tie}
use Rattle.tx_ring.specs.declared.ring.Tie.TheVariants.{Arrow, Line, Nothing}
use Rattle.tx_ring.specs.Rings.{reach_of, head_text, tie_text, box_end_text, close_text}
use Rattle.tx_verdict_text.specs.Words.{key_data, known_value, rule_word}
use Rattle.tx_diagram.specs.Drawings.{quoted}
use Rattle.tx_diagram.specs.Boxes.{id_text, shown_of, box_of}
use Rattle.tx_acts.specs.Shown.{read_shown}

-- what was read: a key, and its value
abbrev pub read_text : NamedHistory → Fact → List ℕ
read_text h f = compact_text (key_data h f.key) ++ (codes " " ++ compact_text (known_value h f.value))

-- why it cannot be
abbrev pub why_text : Rule → List ℕ
why_text rule.Internal = codes "read, and not as the reader itself had left it"
why_text rule.G1a = codes "read, and the one who put it failed"
why_text rule.G1b = codes "read, and not all as it was left there"
why_text rule.Unwritten = codes "read, and nobody put it there"
why_text rule.Unrepeatable = codes "read, and not the same as before"
why_text rule.IncompatibleOrder = codes "both read it, in two orders"
why_text rule.Duplicate = codes "read twice"
why_text rule.LostUpdate = codes "both saw the same, and both put something there"

-- its colour: that of puts where both put something, else that of reads
abbrev pub colour_of : Rule → List ℕ
colour_of rule.LostUpdate = codes "ww"
colour_of _ = codes "wr"

-- what leads from the other who is told of to the reader: a line where both did the same
abbrev pub tie_of : Rule → Tie
tie_of rule.IncompatibleOrder = Line
tie_of rule.LostUpdate = Line
tie_of _ = Arrow

-- ---- the picture

-- the words of what leads from a box to the next one
abbrev pub tied_text : NamedHistory → Fact → ℕ → Tie → List ℕ
tied_text h f rows tie = tie_text rows tie (read_text h f) (why_text f.rule) (read_shown h f)

-- how many operations are shown of a transaction
abbrev pub rows_of : NamedHistory → Fact → ℕ → ℕ
rows_of h f t = length (shown_of h (f.key ∷ []) t)

-- how many rows each box has
abbrev pub most_rows : NamedHistory → Fact → Option ℕ → ℕ
most_rows h f None = rows_of h f f.txn
most_rows h f (Some t) = max (rows_of h f t) (rows_of h f f.txn)

-- the box of a transaction at a place, of a kind
abbrev pub box_at : NamedHistory → Fact → ℕ → ℕ → List ℕ → ℕ → List ℕ
box_at h f rows place kind t = box_of h (f.key ∷ []) rows place kind t

-- the reader's box
abbrev pub alone_text : NamedHistory → Fact → ℕ → List ℕ
alone_text h f rows = box_at h f rows 0 (colour_of f.rule) f.txn ++ tied_text h f rows Nothing

-- the other's box, and the reader's
abbrev pub pair_text : NamedHistory → Fact → ℕ → ℕ → List ℕ
pair_text h f rows t = box_at h f rows 0 (colour_of f.rule) t ++ (tied_text h f rows (tie_of f.rule)
    ++ (box_at h f rows 1 (codes "last") f.txn ++ box_end_text))

-- the reader's box, behind that of the other who is told of, if there is one
abbrev pub boxes_text : NamedHistory → Fact → ℕ → Option ℕ → List ℕ
boxes_text h f rows None = alone_text h f rows
boxes_text h f rows (Some t) = pair_text h f rows t

-- how many boxes there are
abbrev pub boxes_of : Option ℕ → ℕ
boxes_of None = 1
boxes_of (Some t) = 2

-- boxes with so many rows, whose words reach so far
abbrev pub framed_text : NamedHistory → Fact → ℕ → ℕ → List ℕ
framed_text h f rows reach = head_text Read (rule_word f.rule) rows (boxes_of f.by) reach
    ++ (boxes_text h f rows f.by ++ close_text)

abbrev pub read_picture : NamedHistory → Fact → List ℕ
read_picture h f = framed_text h f (most_rows h f f.by) (reach_of (read_text h f) (why_text f.rule))

-- ---- the graph

-- behind the words at an edge: no tip where both did the same
abbrev pub tip_text : Tie → List ℕ
tip_text Line = codes ",dir=none];\n"
tip_text _ = codes "];\n"

-- the reader, with these words beside it; or the edge that leads there from the other
abbrev pub edge_text : NamedHistory → Fact → Option ℕ → List ℕ → List ℕ
edge_text h f None label = codes "  " ++ (id_text h f.txn ++ (codes " [xlabel=" ++ (quoted label ++ codes "];\n")))
edge_text h f (Some t) label = codes "  " ++ (id_text h t ++ (codes " -> " ++ (id_text h f.txn
    ++ (codes " [label=" ++ (quoted label ++ tip_text (tie_of f.rule))))))

abbrev pub read_drawing : NamedHistory → Fact → List ℕ
read_drawing h f = codes "digraph \"" ++ (rule_word f.rule ++ (codes "\" {\n"
    ++ (edge_text h f f.by (read_text h f) ++ codes "}\n")))
