use Rattle.std.proofs.Common.{◌≡◌, ◌+◌, ◌≤◌, [], length, vec_len}
use Rattle.std.specs.Prelude.{All}
use Rattle.tx_cells.specs.Contents.{nothing_held}
use Rattle.tx_journal.specs.Known.{Known}
use Rattle.tx_store.proofs.store.Store.new.Given as goal

abbrev pub invariant-loop-seat : goal.invariant-loop-seat
invariant-loop-seat g l = record {
  made : vec_len l.regions + length l.seat-iterator.rest.items ≡ length g.J.JournalId.bounds + 1;
  left : vec_len l.families ≡ length l.seat-iterator.rest.items;
  seats : All (λ (s : Known). (s.seat ≤ length g.J.JournalId.bounds) × (s.events ≡ [])) l.seat-iterator.rest.items;
  empty : All (λ f. g.F.Holds.content f ≡ (λ k. nothing_held)) l.families.items;
}
