-- The words of verdicts.
use Rattle.std.specs.Prelude.{codes}
use Rattle.serde_json.specs.Data.{Items, no_items, item, number, unsigned, string}
use Rattle.tx_text.specs.Faults.{fault_words}
use Rattle.tx_check.specs.declared.words.Verdict.{Verdict}
use Rattle.tx_check.specs.declared.words.Verdict.TheVariants.{Yes, No, Fault}

-- the words of a verdict
abbrev pub words : Verdict → Items
words Yes = item (string (codes "check")) (item (string (codes "yes")) no_items)
words (No n) = item (string (codes "check")) (item (string (codes "no")) (item (number (unsigned n)) no_items))
words (Fault n cause) = item (number (unsigned n)) (fault_words cause)
