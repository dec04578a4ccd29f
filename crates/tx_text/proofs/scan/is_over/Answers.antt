use Rattle.std.proofs.Common.{arith, [], drop, length, ◌∙◌, ap, subst}
use Rattle.std.proofs.lemmas.Bool.{eqb-true}
use Rattle.std.proofs.lemmas.List.{drop_all}
use Rattle.json.specs.Lex.{lex, between}
use Rattle.tx_text.specs.Scan.{Same}
use Rattle.tx_text.proofs.Lexemes.{over}
use Rattle.tx_text.proofs.scan.is_over.Goals as goal

pub returns-in-Some : goal.returns-in-Some
returns-in-Some c = λ same.
    let line = c.args.line.now in
    let bytes = c.as_bytes-bytes.result.now in
    let end = eqb-true c.past_spaces.result (length bytes) same in
    let spaces = c.past_spaces.ensures.same
    ∙ ap (lex between) (drop_all c.past_spaces.result bytes (omega (arith, end))) in
    over (drop c.args.from line) line c.in-Some.at c.in-Some.ensures.same
    (subst (λ b. Same (drop c.in-Some.at b) []) c.as_bytes-bytes.ensures.value spaces)
