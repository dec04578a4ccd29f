-- The picture of a cycle: a box each transaction, and an arrow each edge, with what it says and
-- what shows it.
use Rattle.std.specs.Prelude.{ℕ, ◌-◌, ◌==◌, cond, max, List, [], ◌∷◌, ◌++◌, zero, suc, codes, length, Option, Some, None}
use Rattle.std.specs.List.{flat_map}
use Rattle.tx_verdict.specs.declared.verdict.EdgeKind.{EdgeKind}
use Rattle.tx_verdict.specs.declared.verdict.EdgeKind.TheVariants.{Ww, Wr, Rw, So, Rt}
use Rattle.tx_verdict.specs.declared.verdict.CycleStep.{CycleStep}
use Rattle.tx_verdict.specs.declared.verdict.Cycle.{Cycle}
use Rattle.tx_verdict.specs.declared.refutation.Settled.{Settled}
use Rattle.tx_verdict.specs.declared.refutation.Lemma.{Lemma}
use Rattle.tx_verdict.specs.declared.refutation.Refutation.{Refutation}
use Rattle.tx_verdict.specs.Steps.{step_at}
use Rattle.tx_import.specs.declared.reader.NamedHistory.{NamedHistory}
use Rattle.tx_ring.specs.declared.ring.Subject.TheVariants.{Cycle as OfCycle}
use Rattle.tx_ring.specs.declared.ring.Tie.{Tie}
use Rattle.tx_ring.specs.declared.ring.Tie.TheVariants.{Arrow, Nothing}
use Rattle.tx_ring.specs.Markup.{each_of}
use Rattle.tx_ring.specs.Rings.{reach_of, head_text, tie_text, end_text}
use Rattle.tx_verdict_text.specs.Words.{edge_word, cycle_word}
use Rattle.tx_diagram.specs.Drawings.{label_text, order_text}
use Rattle.tx_diagram.specs.Boxes.{id_text, shown_of, box_of}
use Rattle.tx_acts.specs.Shown.{shown_text}

-- the greatest of so many numbers
abbrev pub most_of : (ℕ → ℕ) → ℕ → ℕ
most_of f zero = 0
most_of f (suc n) = max (most_of f n) (f n)

-- words before, between and behind the ids of two transactions
abbrev pub told_text : NamedHistory → List ℕ → ℕ → List ℕ → ℕ → List ℕ → List ℕ
told_text h before t between u behind = before ++ (id_text h t ++ (between ++ (id_text h u ++ behind)))

-- what an edge from t to u says
abbrev pub sense_text : NamedHistory → EdgeKind → ℕ → ℕ → List ℕ
sense_text h Ww t u = told_text h (codes "") u (codes " wrote it after ") t (codes "")
sense_text h Wr t u = told_text h (codes "") u (codes " read what ") t (codes " wrote")
sense_text h Rw t u = told_text h (codes "") t (codes " read it as it was before ") u (codes " wrote it")
sense_text h So t u = told_text h (codes "one process ran ") t (codes " and then ") u (codes "")
sense_text h Rt t u = told_text h (codes "") t (codes " had ended when ") u (codes " began")

-- how far the words of an edge reach
abbrev pub reach_at : NamedHistory → CycleStep → ℕ
reach_at h s = reach_of (label_text h s s.key) (sense_text h s.edge s.from s.to)

-- the key of an edge, where it has one
abbrev pub known_keys : Option ℕ → List ℕ
known_keys None = []
known_keys (Some k) = k ∷ []

abbrev pub key_at : List CycleStep → ℕ → List ℕ
key_at steps i = known_keys (step_at steps i).key

-- the keys of edges
abbrev pub keys_of : List CycleStep → List ℕ
keys_of steps = each_of (key_at steps) (length steps)

-- how many operations are shown of the transaction that an edge leaves, where these keys matter
abbrev pub rows_at : NamedHistory → List ℕ → CycleStep → ℕ
rows_at h keys s = length (shown_of h keys s.from)

-- how many rows each box has
abbrev pub rows_of : NamedHistory → List ℕ → List CycleStep → ℕ
rows_of h keys steps = most_of (λ i. rows_at h keys (step_at steps i)) (length steps)

-- the words of an edge
abbrev pub tied_text : NamedHistory → ℕ → Tie → CycleStep → List ℕ
tied_text h rows tie s = tie_text rows tie (label_text h s s.key) (sense_text h s.edge s.from s.to) (shown_text h s)

-- the box of a transaction, and the edge that leaves it
abbrev pub piece_text : NamedHistory → List ℕ → ℕ → ℕ → Tie → CycleStep → List ℕ
piece_text h keys rows place tie s = box_of h keys rows place (edge_word s.edge) s.from ++ tied_text h rows tie s

-- an arrow leads from each box but the last of so many to the next one
abbrev pub tie_at : ℕ → ℕ → Tie
tie_at n i = cond (i == n - 1) Nothing Arrow

abbrev pub piece_at : NamedHistory → List ℕ → ℕ → List CycleStep → ℕ → List ℕ
piece_at h keys rows steps i = piece_text h keys rows i (tie_at (length steps) i) (step_at steps i)

abbrev pub last_word : List CycleStep → List ℕ
last_word steps = edge_word (step_at steps (length steps - 1)).edge

-- a cycle of this name, by its edges, in which these keys matter and each box has so many rows
abbrev pub ringed_text : NamedHistory → List ℕ → List ℕ → ℕ → List CycleStep → List ℕ
ringed_text h name keys rows steps =
    head_text OfCycle name rows (length steps) (most_of (λ i. reach_at h (step_at steps i)) (length steps))
    ++ (each_of (piece_at h keys rows steps) (length steps) ++ end_text rows (length steps) (last_word steps))

-- a cycle of this name, by its edges
abbrev pub picture_of : NamedHistory → List ℕ → List CycleStep → List ℕ
picture_of h name steps = ringed_text h name (keys_of steps) (rows_of h (keys_of steps) steps) steps

-- a cycle
abbrev pub picture_text : NamedHistory → Cycle → List ℕ
picture_text h c = picture_of h (cycle_word c) c.steps.items

-- the last round of a refutation
abbrev pub refuted_picture : NamedHistory → Refutation → List ℕ
refuted_picture h x = picture_of h (codes "order") x.last.items

-- the round that the opposite of an order closes
abbrev pub settled_picture : NamedHistory → Settled → List ℕ
settled_picture h f = picture_of h (codes "not " ++ order_text h f.order) f.round.items

-- the round that the opposites of a clause's orders close
abbrev pub lemma_picture : NamedHistory → Lemma → List ℕ
lemma_picture h l = picture_of h (codes "clause") l.round.items

-- the rounds of a refutation, a picture each
abbrev pub refuted_pictures : NamedHistory → Refutation → List ℕ
refuted_pictures h x = flat_map (settled_picture h) x.facts.items
    ++ (flat_map (lemma_picture h) x.lemmas.items ++ refuted_picture h x)
