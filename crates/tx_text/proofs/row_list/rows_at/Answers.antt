use Rattle.std.proofs.Common.{rules, ◌≡◌, ◌∷◌, ◌++◌, [], drop, subst, sym}
use Rattle.tx_text.specs.Scan.{BeginsRows}
use Rattle.tx_text.proofs.ListedRows.{ReadRows, no_rows, no_row_yet, one_row_more, last_row}
use Rattle.tx_text.proofs.row_list.rows_at.Goals as goal

pub returns-in-Some-clause-begins : goal.returns-in-Some-clause-begins
returns-in-Some-clause-begins c =
    let line = c.args.line.now in
    subst (λ rows. BeginsRows (drop c.args.from line) rows (drop c.in-Some.end line)) (sym c.new-rows.ensures.items)
    (no_rows _ (drop c.in_ok-at.at line) _ c.in_ok-at.ensures.same c.in-Some.ensures.same)

pub rows-init : goal.rows-init
rows-init c =
    let line = c.args.line.now in
    let left = drop c.in_ok-at.at line in (
      c.in_ok-at.ensures.range,
      subst (λ rows. ReadRows (drop c.args.from line) rows left) (sym c.new-rows.ensures.items)
          (no_row_yet _ left c.in_ok-at.ensures.same),
    )

pub returns-in-Some-pass-clause-begins : goal.returns-in-Some-pass-clause-begins
returns-in-Some-pass-clause-begins c =
    let line = c.args.line.now in
    let more : c.push.new.self.items ≡ c.rows.rows.items ++ c.in_ok-row.row ∷ [] = search rules in
    subst (λ rows. BeginsRows (drop c.args.from line) rows (drop c.in-Some-pass.end line)) (sym more)
    (last_row _ c.rows.rows.items c.in_ok-row.row _ _ _ c.rows.invariant.1 c.in_ok-row.ensures.begins
    c.in-Some-pass.ensures.same)

pub rows-preserved : goal.rows-preserved
rows-preserved c =
    let line = c.args.line.now in
    let left = drop c.in_ok-at-2.at line in
    let more : c.push.new.self.items ≡ c.rows.rows.items ++ c.in_ok-row.row ∷ [] = search rules in (
      c.in_ok-at-2.ensures.range,
      subst (λ rows. ReadRows (drop c.args.from line) rows left) (sym more)
          (one_row_more _ c.rows.rows.items c.in_ok-row.row _ _ left c.rows.invariant.1 c.in_ok-row.ensures.begins
          c.in_ok-at-2.ensures.same),
    )
