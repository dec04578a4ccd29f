-- The status and the warning that an end gives.
use Rattle.std.specs.Prelude.{ℕ, List, Result, Ok, Err, codes}
use Rattle.tx_text.specs.declared.end.End.{End}
use Rattle.tx_text.specs.declared.end.End.TheVariants as text
use Rattle.tx_text.specs.declared.end.Broken.{Broken}
use Rattle.tx_text.specs.declared.end.Broken.TheVariants.{Input, Output, Memory}
use Rattle.tx_command.specs.declared.status.CommandEnd.{CommandEnd}
use Rattle.tx_command.specs.declared.status.CommandEnd.TheVariants.{Well, Faulted, No, Open}

-- how a command ended whose text ended so
abbrev pub command_end : End → CommandEnd
command_end text.Well = Well
command_end text.Faulted = Faulted
command_end text.No = No

-- the status that an end gives
abbrev pub status : Result CommandEnd Broken → ℕ
status (Ok Well) = 0
status (Ok Faulted) = 2
status (Ok No) = 3
status (Err broken) = 4
status (Ok Open) = 5

-- the warning that goes before status 4
abbrev pub message : Broken → List ℕ
message Input = codes "the input failed"
message Output = codes "the output failed"
message Memory = codes "out of memory"
