-- One begin more.
use Rattle.std.proofs.Common.{◌≡◌, ◌<◌, length, arith, sym, ap, ◌∙◌}
use Rattle.std.proofs.lemmas.Grind.{common_steps}
use Rattle.std.proofs.lemmas.List.{get_or_read}
use Rattle.tx_recording.specs.declared.recording.RecordedTransaction.{RecordedTransaction}
use Rattle.tx_recording.specs.Recordings.{txns_of, no_transaction}
use Rattle.tx_clock.proofs.NextEvents.{begun_more}
use Rattle.tx_clock.proofs.clock.add_begins.Goals as goal

pub loop-txn-preserved : goal.loop-txn-preserved
loop-txn-preserved c =
    let r = c.args.recording.now in
    let n = c.loop-txn.txn in
    let lt : n < txns_of r = grind (arith, common_steps, c.loop-txn-test.true, c.len-txn-end.ensures) in
    let read = get_or_read r.transactions.items n c.index.result.now lt c.index.ensures no_transaction in
    begun_more r c.args.live.now c.loop-txn.events.items c.push.new.self.items n c.in-Some.time
    c.in_ok-push.ensures.items
    (sym (ap (λ (q : RecordedTransaction). q.began) read) ∙ c.in-Some.is) c.loop-txn.invariant
