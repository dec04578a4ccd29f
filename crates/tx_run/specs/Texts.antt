-- What a run writes, and how it ends.
use Rattle.std.specs.Prelude.{ℕ, List, if◌then◌else◌, Option, Some, None}
use Rattle.tx_text.specs.declared.end.End.{End}
use Rattle.tx_text.specs.declared.end.End.TheVariants.{Faulted, Well}
use Rattle.tx_workload.specs.Answers.{has_fault}
use Rattle.tx_workload.specs.Texts.{IsFaultText, IsTextOf}
use Rattle.tx_run.specs.declared.play.RunResult.{RunResult}

-- the text of a run of this script: of what it hands back, or of the fault for which nothing was
-- played
abbrev pub IsRunText : Option (List ℕ) → Option RunResult → List ℕ → Type 0
IsRunText source None text = IsFaultText source text
IsRunText source (Some played) text = IsTextOf played.replies played.total text

-- how a run ends: with a fault where nothing was played, or where an answer that it hands back is
-- one
abbrev pub end_of : Option RunResult → End
end_of None = Faulted
end_of (Some played) = if has_fault played.replies then Faulted else Well
