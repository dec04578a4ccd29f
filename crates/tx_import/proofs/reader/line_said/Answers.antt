use Rattle.std.proofs.Common.{◌≡◌, Ok, rules}
use Rattle.std.proofs.lemmas.Str.{IsUtf8-from_is_utf8}
use Rattle.tx_import.specs.Histories.{said_in}
use Rattle.tx_import.proofs.ReadLines.{says_text}
use Rattle.tx_import.proofs.reader.line_said.Goals as goal

pub returns-in_default-clause-said : goal.returns-in_default-clause-said
returns-in_default-clause-said c =
    let line = c.args.line.now in
    let found : said_in c.args.number line ≡ Ok c.in-Ok.said = search rules in
    let text = IsUtf8-from_is_utf8 line (says_text c.args.number line c.in-Ok.said found) in
    absurd (c.in_default.ensures.cases.0 text)
