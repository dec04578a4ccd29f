use Rattle.std.proofs.Common.{◌≡◌, rules}
use Rattle.tx_text.specs.Texts.{line_text}
use Rattle.tx_check.specs.Turns.{verdict_of}
use Rattle.tx_check.specs.Words.{words}
use Rattle.tx_check.proofs.Told.{explained_no}
use Rattle.tx_check.proofs.explanation.explained.Goals as goal

pub returns-in_ok-put_why-in-Refused : goal.returns-in_ok-put_why-in-Refused
returns-in_ok-put_why-in-Refused c =
    let first = c.into_bytes-text.result.items in
    let line : first ≡ line_text (words (verdict_of c.args.stop.now)) = search rules in
    λ lines. explained_no lines c.in-Refused.number c.in-Refused.machine c.in-Refused.step c.args.stop.now
    c.args.steps.now first c.put_why.new.text.items c.in-Refused.is line (c.in_ok-put_why-in-Refused.ensures lines)
