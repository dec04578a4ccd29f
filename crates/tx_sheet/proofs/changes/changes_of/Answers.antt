use Rattle.std.proofs.Common.{◌<◌, ◌++◌, ◌∷◌, [], Bor, length, map, take, option_map, sym, subst, arith}
use Rattle.std.specs.Prelude.{Contains}
use Rattle.std.proofs.lemmas.List.{take_more}
use Rattle.std.proofs.lemmas.List.Elements.{Contains-get_or}
use Rattle.tx_cells.specs.declared.copies.KeyVersions.{KeyVersions}
use Rattle.tx_sheet.specs.Changes.{ChangesOf}
use Rattle.tx_sheet.proofs.changes.changes_of.Goals as goal

pub shown-preserved : goal.shown-preserved
shown-preserved c =
    let last = map (option_map (λ (s : Bor KeyVersions). s.now)) c.args.last.now in
    let xs = c.args.shown.now in
    let i = c.shown.said-index in
    let x = c.said-item.result in
    let within : i < length xs = omega (arith, c.shown-test.true) in
    let among = subst (Contains xs) (sym c.said-item.is) (Contains-get_or xs i x within) in
    subst (λ l. ChangesOf last xs l c.put_change.new.changes.items) (sym (take_more xs i x within))
    (subst (λ y. ChangesOf last xs (take i xs ++ y ∷ []) c.put_change.new.changes.items) c.said-item.is
    (c.in_ok-put_change.ensures xs (take i xs) among c.shown.invariant))
