-- The step that a line says, and the causes for which it says none.
use Rattle.std.proofs.Common.{◌≡◌, ℕ, ◌≤◌, ◌<◌, List, length, Option, Some, None, option_and_then, Result, Err, refl, ap, ◌∙◌, arith}
use Rattle.std.proofs.lemmas.Bool.{le-ltb, lt-ltb}
use Rattle.serde_json.specs.Data.{Data, Items, no_items, item}
use Rattle.serde_json.specs.Find.{as_array}
use Rattle.tx_types.specs.declared.fault.Cause.{Cause}
use Rattle.tx_types.specs.declared.fault.Cause.TheVariants.{Json, Long}
use Rattle.tx_machine.specs.declared.step.Step.{Step}
use Rattle.tx_text.specs.Lines.{max_line, max_lines}
use Rattle.tx_text.specs.Parts.{json_of, count}
use Rattle.tx_check.specs.MachineSteps.{step_alone, step_of, step_of_items}
use Rattle.tx_check.specs.Check.{step_of_form, step_of_json, step_in}

module _ (number : ℕ) (line : List ℕ) (short : length line ≤ max_line) (early : number ≤ max_lines) where
  line_is : step_in number line ≡ step_of_json (json_of line)
  line_is = rw (le-ltb max_line (length line) short, le-ltb max_lines number early) refl

  pub no_json : json_of line ≡ None → Err Json ≡ step_in number line
  no_json none = rw (line_is, none) refl

  pub as_said : (d : Data) (found : Result Step Cause) → json_of line ≡ Some d → found ≡ step_of_form (step_of d)
      → found ≡ step_in number line
  as_said d found is says = rw (line_is, is) says

pub too_long : (number : ℕ) (line : List ℕ) → max_line < length line → step_in number line ≡ Err Long
too_long number line long = rw (lt-ltb max_line (length line) long) refl

-- ---- arrays of too many members

module _ (d : Data) (many : (items : Items) → as_array d ≡ Some items → 7 < count items) where
  -- say no step of a machine
  pub no_step_alone : step_alone d ≡ None
  no_step_alone = by_items (as_array d) refl
    where
      none : (items : Items) → 7 < count items → step_of_items items ≡ None
      none no_items more = absurd (omega (arith, more))
      none (item a no_items) more = absurd (omega (arith, more))
      none (item a (item b no_items)) more = absurd (omega (arith, more))
      none (item a (item b (item c no_items))) more = absurd (omega (arith, more))
      none (item a (item b (item c (item e no_items)))) more = absurd (omega (arith, more))
      none (item a (item b (item c (item e (item f no_items))))) more = absurd (omega (arith, more))
      none (item a (item b (item c (item e (item f (item g no_items)))))) more = absurd (omega (arith, more))
      none (item a (item b (item c (item e (item f (item g (item h rest))))))) more = refl

      by_items : (o : Option Items) → as_array d ≡ o → option_and_then step_of_items (as_array d) ≡ None
      by_items None e = ap (option_and_then step_of_items) e
      by_items (Some items) e = ap (option_and_then step_of_items) e ∙ none items (many items e)
