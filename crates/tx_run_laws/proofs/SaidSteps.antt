-- What a line of a text may say.
use Rattle.std.proofs.Common.{◌≡◌, ℕ, ◌-◌, List, Option, Some, None, Result, Ok, Err, option_map, option_and_then, sym, ap}
use Rattle.std.specs.Prelude.{slice_get}
use Rattle.serde_json.specs.Data.{Data}
use Rattle.tx_types.specs.declared.fault.Cause.{Cause}
use Rattle.tx_text.specs.Lines.{lines_of}
use Rattle.tx_evidence.specs.Lines.{step_by}
use Rattle.tx_steps.specs.declared.program.Program.TheVariants.{Run}
use Rattle.tx_steps.specs.declared.step.Step.{Step}
use Rattle.tx_steps.specs.Lines.{data_said}
use Rattle.tx_steps.specs.Steps.{IsApart, Text}
use Rattle.tx_steps.proofs.Apart.{is_apart}
use Rattle.tx_transfer.specs.Sources.{HasPair, pair_in, pair_of, pair_said}
use Rattle.tx_workload.specs.Steps.{Says}

module _ (number : ℕ) (what : Step Text) where
  data_apart : (said : Result Data Cause) → step_by Run said ≡ Some what → IsApart what
  data_apart (Ok d) is = is_apart Run d what (sym is)
  data_apart (Err why) is = absurd (cc (is))

  line_apart : (o : Option (List ℕ)) → option_and_then (λ line. step_by Run (data_said number line)) o ≡ Some what
      → IsApart what
  line_apart (Some line) is = data_apart (data_said number line) is
  line_apart None is = absurd (cc (is))

  -- the two keys of a transfer differ
  pub says_apart : (text : List ℕ) → Says (Some text) number (Some what) → IsApart what
  says_apart text is = line_apart (slice_get (lines_of text) (number - 1)) is

  data_pair : (said : Result Data Cause) → step_by Run said ≡ Some what → pair_in said ≡ pair_of what
  data_pair (Ok d) is = ap (option_and_then pair_of) is
  data_pair (Err why) is = absurd (cc (is))

  line_pair : (o : Option (List ℕ)) → option_and_then (λ line. step_by Run (data_said number line)) o ≡ Some what
      → option_map (pair_said number) o ≡ Some (pair_of what)
  line_pair (Some line) is = ap Some (data_pair (data_said number line) is)
  line_pair None is = absurd (cc (is))

  -- it says the keys of its step
  pub says_pair : (source : Option (List ℕ)) → Says source number (Some what) → HasPair source number (pair_of what)
  says_pair None is = tt
  says_pair (Some text) is = line_pair (slice_get (lines_of text) (number - 1)) is
