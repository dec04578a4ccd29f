use Rattle.std.proofs.Common.{◌≡◌, ◌++◌, length}
use Rattle.json.specs.Json.{Members}
use Rattle.json.specs.Find.{InMembers}
use Rattle.json.specs.Strict.{keys}
use Rattle.json.proofs.Unique.Keys.{texts}
use Rattle.tx_import.proofs.member_names.names_of.Given as goal

abbrev pub invariant-loop-name : goal.invariant-loop-name
invariant-loop-name l =
    (ms : Members) → InMembers l.fn.members ms
    → (rest : Members) × InMembers l.left rest × (texts l.names.items ++ keys rest ≡ keys ms)

abbrev pub decreases-loop-name : goal.decreases-loop-name
decreases-loop-name l = length l.left
