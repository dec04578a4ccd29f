-- One end more.
use Rattle.std.proofs.Common.{◌≡◌, ◌<◌, length, arith, true, sym, ap, ◌∙◌}
use Rattle.std.proofs.lemmas.Grind.{common_steps}
use Rattle.std.proofs.lemmas.List.{get_or_read}
use Rattle.tx_recording.specs.declared.recording.RecordedTransaction.{RecordedTransaction}
use Rattle.tx_recording.specs.Recordings.{txns_of, no_transaction}
use Rattle.tx_clock.specs.declared.clock.ClockEvent.{ClockEvent}
use Rattle.tx_clock.proofs.NextEvents.{ended_more, kept_push}
use Rattle.tx_clock.proofs.clock.add_ends.Goals as goal

pub loop-txn-preserved : goal.loop-txn-preserved
loop-txn-preserved c =
    let r = c.args.recording.now in
    let n = c.loop-txn.txn in
    let lt : n < txns_of r = grind (arith, common_steps, c.loop-txn-test.true, c.len-txn-end.ensures) in
    let read = get_or_read r.transactions.items n c.index-in-loop-txn.result.now lt c.index-in-loop-txn.ensures
    no_transaction in
    record {
      kept = kept_push c.args.events.now.items c.loop-txn.events.items c.push.new.self.items
          record { time = c.in-Some.time; txn = n; ends = true } c.in_ok-push.ensures.items c.loop-txn.invariant.kept;
      has = ended_more r c.loop-txn.events.items c.push.new.self.items n c.in-Some.time c.in_ok-push.ensures.items
          (sym (ap (λ (q : RecordedTransaction). q.ended) read) ∙ c.in-Some.is) c.loop-txn.invariant.has;
    }
