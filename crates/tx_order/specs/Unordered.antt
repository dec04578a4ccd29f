-- What is said of a graph that has no order.
use Rattle.std.specs.Prelude.{List}
use Rattle.tx_order.specs.declared.graph.Edge.{Edge}
use Rattle.tx_order.specs.declared.unordered.Unordered.{Unordered}
use Rattle.tx_order.specs.declared.unordered.Unordered.TheVariants.{Cycle, Memory}
use Rattle.tx_order.specs.Graphs.{IsCycle}

-- it has a cycle, or nothing is said where there was no room
abbrev pub IsUnordered : List Edge → Unordered → Type 0
IsUnordered edges (Cycle nodes) = IsCycle edges nodes.items
IsUnordered edges Memory = Unit {0}
