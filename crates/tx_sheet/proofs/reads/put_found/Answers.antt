use Rattle.std.proofs.Common.{◌≡◌, Bor, Some, option_map, sym, ap}
use Rattle.tx_types.specs.declared.value.Value.{Value}
use Rattle.tx_sheet.specs.Reads.{Learns}
use Rattle.tx_sheet.proofs.Lists.{on_ok}
use Rattle.tx_sheet.proofs.MoreReads.{learns_as}
use Rattle.tx_sheet.proofs.reads.put_found.Goals as goal

pub returns-in-Some : goal.returns-in-Some
returns-in-Some c =
    let a = c.args.reads.now.items in
    let b = c.put_value.new.reads.items in
    let place = c.args.place in
    let found = option_map (λ (v : Bor Value). v.now) c.in-Some.found in
    rw c.in-Some.is (on_ok c.put_value.result (Learns a b (λ k f. (k ≡ place) × (f ≡ found)))
    (Learns a b (λ k f. (k ≡ place) × (Some found ≡ Some f)))
    (λ h. learns_as a b (λ k f. (k ≡ place) × (f ≡ found)) (λ k f. (k ≡ place) × (Some found ≡ Some f))
    (λ k f w. (w.0, ap (λ x. Some x) (sym w.1))) (λ k f w. (w.0, cc (w.1))) h) c.put_value.ensures)
