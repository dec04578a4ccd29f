-- What the name of a cycle says of its steps: they have one name each.
use Rattle.std.specs.Prelude.{◌≡◌, ℕ, ◌≤◌, Bool, true, false, List, length, count_by}
use Rattle.tx_verdict.specs.declared.verdict.EdgeKind.{EdgeKind}
use Rattle.tx_verdict.specs.declared.verdict.EdgeKind.TheVariants.{Wr, Rw}
use Rattle.tx_verdict.specs.declared.verdict.CycleStep.{CycleStep}
use Rattle.tx_verdict.specs.declared.anomaly.Anomaly.{Anomaly}
use Rattle.tx_verdict.specs.declared.anomaly.Anomaly.TheVariants.{G0, G1c, LostUpdate, GSingle, LongFork, GNonadjacent, G2Item}
use Rattle.tx_verdict.specs.Steps.{AreApart, step_at}

abbrev pub is_rw_edge : EdgeKind → Bool
is_rw_edge Rw = true
is_rw_edge _ = false

abbrev pub is_wr_edge : EdgeKind → Bool
is_wr_edge Wr = true
is_wr_edge _ = false

-- it is an anti-dependency
abbrev pub is_rw : CycleStep → Bool
is_rw s = is_rw_edge s.edge

-- the second saw what the first put
abbrev pub is_wr : CycleStep → Bool
is_wr s = is_wr_edge s.edge

abbrev pub skews_of : List CycleStep → ℕ
skews_of steps = count_by is_rw steps

abbrev pub reads_of : List CycleStep → ℕ
reads_of steps = count_by is_wr steps

-- two steps of one key
abbrev pub AreOfOneKey : List CycleStep → Type 0
AreOfOneKey steps = (length steps ≡ 2) × ((step_at steps 0).key ≡ (step_at steps 1).key)

-- two anti-dependencies and two reads, in four steps
abbrev pub IsFork : List CycleStep → Type 0
IsFork steps = (skews_of steps ≡ 2) × (reads_of steps ≡ 2) × (length steps ≡ 4)

-- No anti-dependency, and no read; none, and a read; one, in two steps of one key; one, not so; of
-- more, no two of them neighbours, two and two reads beside them, and others; and two neighbours.
abbrev pub IsNamed : List CycleStep → Anomaly → Type 0
IsNamed steps G0 = (skews_of steps ≡ 0) × (reads_of steps ≡ 0)
IsNamed steps G1c = (skews_of steps ≡ 0) × (1 ≤ reads_of steps)
IsNamed steps LostUpdate = (skews_of steps ≡ 1) × AreOfOneKey steps
IsNamed steps GSingle = (skews_of steps ≡ 1) × (AreOfOneKey steps → ⊥)
IsNamed steps LongFork = AreApart steps × IsFork steps
IsNamed steps GNonadjacent = AreApart steps × (2 ≤ skews_of steps) × (IsFork steps → ⊥)
IsNamed steps G2Item = (2 ≤ skews_of steps) × (AreApart steps → ⊥)
