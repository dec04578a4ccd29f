use Rattle.std.proofs.Common.{◌≡◌, arith, drop, ◌+◌, ◌-◌, ◌∷◌, subst, sym}
use Rattle.std.proofs.lemmas.Str.{IsCharBoundary-after_ascii}
use Rattle.std.specs.Prelude.{slice_range}
use Rattle.std.specs.Str.{IsCharBoundary}
use Rattle.json.specs.Token.{string}
use Rattle.json.specs.Lex.{token}
use Rattle.tx_text.specs.Scan.{Runs, Begins}
use Rattle.tx_text.proofs.Lexemes.{quoted_begins, runs_next}
use Rattle.tx_text.proofs.scan.string.Goals as goal

pub range-requires-clause-start_boundary : goal.range-requires-clause-start_boundary
range-requires-clause-start_boundary c =
    let line = c.args.line.now in
    let start = c.in_ok-start.start in
    let quote = c.in_ok-start.ensures.after in
    let same : start - 1 + 1 ≡ start = omega arith in
    λ _. subst (IsCharBoundary line) same
    (IsCharBoundary-after_ascii line (start - 1) c.utf8.line (omega arith) (omega arith))

pub returns-clause-begins : goal.returns-clause-begins
returns-clause-begins c =
    let line = c.args.line.now in
    let bytes = c.as_bytes-bytes.result.now in
    let start = c.in_ok-start.start in
    let stop = c.plain_end-stop.result in
    let inside = slice_range bytes start stop in
    let runs = runs_next (drop start bytes) inside bytes stop 34 (omega arith) c.if-bytes-stop-ne34.false
    c.plain_end-stop.ensures.runs in
    let same = subst (λ b. Runs (drop start b) (slice_range b start stop) (34 ∷ drop (stop + 1) b))
    c.as_bytes-bytes.ensures.value runs in
    subst (λ s. Begins (drop c.args.from line) (token (string s)) (drop (stop + 1) line)) (sym c.range.ensures.value)
    (quoted_begins (drop c.args.from line) (drop start line) (slice_range line start stop) (drop (stop + 1) line)
    c.in_ok-start.ensures.same same)
