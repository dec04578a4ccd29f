use Rattle.std.proofs.Common.{rules, ◌≡◌, length, sym, ap, subst, ◌∙◌}
use Rattle.tx_text.specs.Lines.{lines_of}
use Rattle.tx_script.specs.Players.{EndsWell}
use Rattle.tx_generate.specs.Scripts.{lines_asked}
use Rattle.tx_generate.proofs.Growth.{ends_none}
use Rattle.tx_generate.proofs.writer.script_of.Goals as goal

-- no line is asked for
pub returns-then-steps-eq0 : goal.returns-then-steps-eq0
returns-then-steps-eq0 g c =
    let zero : lines_asked c.args.settings ≡ 0 = search rules in
    record {
      ends = subst EndsWell (sym c.new.ensures.items) ends_none;
      all = ap (λ t. length (lines_of t)) c.new.ensures.items ∙ sym zero;
    }
