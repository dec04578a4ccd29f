use Rattle.std.proofs.Common.{◌<◌, ◌≤◌, length, refl, sym, ◌∙◌, arith}
use Rattle.std.proofs.lemmas.Option.{slice_get_read}
use Rattle.tx_sheet.proofs.MoreArrows.{went_on, not_gone, all_keys}
use Rattle.tx_sheet.proofs.arrows.put_arrows.Goals as goal
use Rattle.tx_sheet.proofs.arrows.put_arrows.Goals.{then-has_gone+in_ok-put_arrow, else-has_gone}

pub keys-preserved : goal.keys-preserved
keys-preserved c =
    let keys = c.args.keys.now in
    let taking = c.args.taking.now in
    let i = c.keys.place in
    let key = c.index-keys-place.result in
    let within : i < length keys = omega (arith, c.keys-test.true) in
    let at = slice_get_read keys (length keys) i key refl within c.index-keys-place.is in
    elim c.if-has_gone.branch [
      | then-has_gone+in_ok-put_arrow w ↦ rw w.arrows-is (went_on keys taking i key at c.args.arrows.now.items
          c.keys.arrows.items w.put_arrow.new.arrows.items c.is_locked-meets_lock.result
          c.is_locked-meets_lock.ensures (sym c.has_gone.ensures ∙ w.if-has_gone.true) c.keys.invariant
          w.in_ok-put_arrow.ensures)
      | else-has_gone w ↦ rw w.arrows-is (not_gone keys taking i key at c.args.arrows.now.items c.keys.arrows.items
          (sym c.has_gone.ensures ∙ w.if-has_gone.false) c.keys.invariant)
    ]

pub returns : goal.returns
returns c =
    let keys = c.args.keys.now in
    let over : length keys ≤ c.keys.place = omega (arith, c.keys-test.false) in
    all_keys keys c.args.taking.now c.args.arrows.now.items c.keys.arrows.items c.keys.place over c.keys.invariant
