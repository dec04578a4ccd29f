-- A line that says a transfer says its two keys, and a step.
use Rattle.std.proofs.Common.{◌≡◌, ℕ, ◌-◌, List, Option, Some, None, Result, Ok, Err, option_map, option_and_then, refl, ap, sym, ◌∙◌}
use Rattle.std.specs.Prelude.{slice_get}
use Rattle.std.proofs.lemmas.Option.{same_Some}
use Rattle.serde_json.specs.Data.{Data}
use Rattle.tx_types.specs.declared.fault.Cause.{Cause}
use Rattle.tx_types.specs.declared.key.Key.{Key}
use Rattle.tx_text.specs.Lines.{lines_of}
use Rattle.tx_steps.specs.declared.program.Program.TheVariants.{Run}
use Rattle.tx_steps.specs.declared.step.Step.{Step}
use Rattle.tx_steps.specs.declared.step.Step.TheVariants as step
use Rattle.tx_steps.specs.declared.transfer.Transfer.{Transfer}
use Rattle.tx_steps.specs.Steps.{Text}
use Rattle.tx_steps.specs.Lines.{data_said, step_in}
use Rattle.tx_transfer.specs.Sources.{HasPair, HasTransfer, pair_in, pair_of, pair_said, transfer_in, transfer_of}

-- a step that says a transfer is one
pub from_step : (o : Option (Step Text)) (what : Transfer Text) → option_and_then transfer_of o ≡ Some what
    → (name : Text) × (o ≡ Some (step.Transfer name what))
from_step None what e = absurd (cc (e))
from_step (Some (step.Transfer name said)) what e =
    (name, ap (λ (t : Transfer Text). Some (step.Transfer name t)) (same_Some said what e))
from_step (Some (step.Begin name)) what e = absurd (cc (e))
from_step (Some (step.Act name op)) what e = absurd (cc (e))
from_step (Some (step.Send name call d)) what e = absurd (cc (e))
from_step (Some (step.Deliver name)) what e = absurd (cc (e))
from_step (Some (step.Read key n)) what e = absurd (cc (e))
from_step (Some (step.Versions key)) what e = absurd (cc (e))
from_step (Some (step.Tick n)) what e = absurd (cc (e))
from_step (Some (step.Gc n)) what e = absurd (cc (e))
from_step (Some (step.Seed key value)) what e = absurd (cc (e))

pair_from : (d : Result Data Cause) (what : Transfer Text) → transfer_in d ≡ Some what
    → pair_in d ≡ Some (what.from, what.to)
pair_from (Err c) what e = absurd (cc (e))
pair_from (Ok d) what e = ap (option_and_then pair_of) (from_step (step_in Run d) what e).1

pub pair_by : (source : Option (List ℕ)) (number : ℕ) (what : Transfer Text) → HasTransfer source number (Some what)
    → HasPair source number (Some (what.from, what.to))
pair_by None number what has = tt
pair_by (Some text) number what has = by (slice_get (lines_of text) (number - 1)) has
  where
    by : (o : Option (List ℕ)) → option_map (λ line. transfer_in (data_said number line)) o ≡ Some (Some what)
        → option_map (pair_said number) o ≡ Some (Some (what.from, what.to))
    by None e = absurd (cc (e))
    by (Some line) e = ap (λ (p : Option (Key × Key)). Some p)
        (pair_from (data_said number line) what (same_Some (transfer_in (data_said number line)) (Some what) e))
