-- The drawing of a cycle for Graphviz.
use Rattle.std.specs.Prelude.{ℕ, ◌==◌, ◌||◌, cond, List, [], ◌∷◌, ◌++◌, codes, Option, Some, None}
use Rattle.std.specs.List.{flat_map}
use Rattle.serde_json.specs.Written.{compact_text}
use Rattle.tx_verdict.specs.declared.verdict.CycleStep.{CycleStep}
use Rattle.tx_verdict.specs.declared.verdict.Cycle.{Cycle}
use Rattle.tx_verdict.specs.declared.refutation.WriteOrder.{WriteOrder}
use Rattle.tx_verdict.specs.declared.refutation.Settled.{Settled}
use Rattle.tx_verdict.specs.declared.refutation.Lemma.{Lemma}
use Rattle.tx_verdict.specs.declared.refutation.Refutation.{Refutation}
use Rattle.tx_import.specs.declared.reader.NamedHistory.{NamedHistory}
use Rattle.tx_verdict_text.specs.Words.{id_data, key_data, edge_word, cycle_word}

-- a byte in a string of the drawing: a quotation mark or a backslash has a backslash before it
abbrev pub drawn_byte : ℕ → List ℕ
drawn_byte b = cond ((b == 34) || (b == 92)) (92 ∷ b ∷ []) (b ∷ [])

-- a string of the drawing
abbrev pub quoted : List ℕ → List ℕ
quoted text = codes "\"" ++ (flat_map drawn_byte text ++ codes "\"")

-- the words at an edge: its kind, and its key where it has one
abbrev pub label_text : NamedHistory → CycleStep → Option ℕ → List ℕ
label_text h s None = edge_word s.edge
label_text h s (Some k) = edge_word s.edge ++ (codes " " ++ compact_text (key_data h k))

-- an edge, from one transaction to another
abbrev pub arrow_text : NamedHistory → CycleStep → List ℕ
arrow_text h s = codes "  " ++ (compact_text (id_data h s.from) ++ (codes " -> " ++ (compact_text (id_data h s.to)
    ++ (codes " [label=" ++ (quoted (label_text h s s.key) ++ codes "];\n")))))

-- a cycle
abbrev pub drawing_text : NamedHistory → Cycle → List ℕ
drawing_text h c = codes "digraph \"" ++ (cycle_word c ++ (codes "\" {\n"
    ++ (flat_map (arrow_text h) c.steps.items ++ codes "}\n")))

-- an order: which of two wrote a key first
abbrev pub order_text : NamedHistory → WriteOrder → List ℕ
order_text h o = compact_text (id_data h o.first) ++ (codes " before " ++ (compact_text (id_data h o.second)
    ++ (codes " in " ++ compact_text (key_data h o.key))))

-- edges under a title
abbrev pub titled_text : NamedHistory → List ℕ → List CycleStep → List ℕ
titled_text h title steps = codes "digraph " ++ (quoted title ++ (codes " {\n"
    ++ (flat_map (arrow_text h) steps ++ codes "}\n")))

-- the round that the opposite of an order closes
abbrev pub settled_text : NamedHistory → Settled → List ℕ
settled_text h f = titled_text h (codes "not " ++ order_text h f.order) f.round.items

-- the round that the opposites of a clause's orders close
abbrev pub lemma_text : NamedHistory → Lemma → List ℕ
lemma_text h l = titled_text h (codes "clause") l.round.items

-- the rounds of a refutation, a graph each
abbrev pub refuted_drawing : NamedHistory → Refutation → List ℕ
refuted_drawing h x = flat_map (settled_text h) x.facts.items
    ++ (flat_map (lemma_text h) x.lemmas.items ++ titled_text h (codes "order") x.last.items)
