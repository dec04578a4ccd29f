-- A region shows a key.
use Rattle.std.proofs.Common.{◌≡◌, ℕ, length, slice_get, slice_set, Some, Result, ap, subst, ◌∙◌, arith}
use Rattle.std.specs.List.{sum_by}
use Rattle.std.specs.Prelude.{IfOk}
use Rattle.std.proofs.lemmas.List.Sums.{sum_by-set}
use Rattle.std.proofs.lemmas.Option.{slice_get_within, get_or_from_slice_get}
use Rattle.tx_types.specs.declared.fault.Fault.{Fault}
use Rattle.tx_types.specs.declared.key.Key.{Key}
use Rattle.tx_cells.specs.declared.copies.KeyVersions.{KeyVersions}
use Rattle.tx_cells.specs.Copies.{Copies}
use Rattle.tx_core.specs.Histories.{History, left, Begins}
use Rattle.tx_core.specs.Recording.{part}
use Rattle.tx_journal.specs.Known.{Known}
use Rattle.tx_network.specs.Networks.{NetworkParts, made_by, AreNumbered, Showed, Displays}
use Rattle.tx_network.proofs.Posts.{numbered_at}

-- the region k learnt what is newest, was then l, and showed a key
pub showed_by : (k l : Known) (n : History) (key : Key) (copied : Result KeyVersions Fault) → l.seat ≡ k.seat
    → part k.seat l.events ≡ part k.seat k.events → Begins n l.events
    → IfOk copied (λ copy. Copies ((left l.events l.seat).cells key) copy) → Showed k n key copied l l.events
showed_by k l n key copied number own knows copies = record {
  begins = knows;
  number = number;
  counts = (let here : made_by l ≡ length (part k.seat l.events) = ap (λ i. length (part i l.events)) number in
      omega (arith, here, ap length own));
  copies = subst (λ i. IfOk copied (λ copy. Copies ((left l.events i).cells key) copy)) number copies;
}

-- the region at an index did
pub displayed_at : (n index : ℕ) (from to : NetworkParts) (k new : Known) (key : Key) (copied :
    Result KeyVersions Fault) → index ≡ n → slice_get from.regions index ≡ Some k → AreNumbered 0 from.regions
    → to.regions ≡ slice_set from.regions index new
    → to.held ≡ from.held → to.trace ≡ from.trace → Showed k from.newest key copied new to.newest
    → Displays n from to key copied
displayed_at n index from to k new key copied is there all placed held trace showed =
    let number : k.seat ≡ n = numbered_at 0 index from.regions k there all ∙ (omega (arith, is)) in
    let sums = sum_by-set made_by from.regions index new k (slice_get_within from.regions index k there) in
    let here = ap made_by (get_or_from_slice_get from.regions index k k there) in
    record {
      begins = showed.begins;
      counts = omega (arith, sums, here, showed.counts, ap (sum_by made_by) placed);
      held = held;
      trace = trace;
      copies = subst (λ i. IfOk copied (λ copy. Copies ((left to.newest i).cells key) copy)) number showed.copies;
    }
