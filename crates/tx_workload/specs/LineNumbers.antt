-- The numbers of the lines of sessions.
use Rattle.std.specs.Prelude.{ℕ, List, map, Vec}
use Rattle.std.specs.declared.alloc.Global.{Global}
use Rattle.tx_transfer.specs.declared.source.Source.{Ghosts}
use Rattle.tx_workload.specs.declared.session_line.SessionLine.{SessionLine}
use Rattle.tx_workload.specs.declared.session_line.SessionLine.TheVariants.{Transfer, Line}

-- the number of a line
abbrev pub number_of : {L : Type 0} {g : Ghosts L} → SessionLine L g → ℕ
number_of (Transfer order) = order.number
number_of (Line line) = line.value.number

-- the numbers of the lines of each session
abbrev pub numbers_in : {L : Type 0} {g : Ghosts L} → List (Vec (SessionLine L g) Global) → List (List ℕ)
numbers_in sessions = map (λ lines. map number_of lines.items) sessions
