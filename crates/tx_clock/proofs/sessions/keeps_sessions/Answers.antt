-- One transaction more.
use Rattle.std.proofs.Common.{◌≡◌, ℕ, ◌<◌, ◌≤◌, length, get_or, arith, sym, ap, ◌∙◌, subst, IsTrue}
use Rattle.std.proofs.lemmas.Grind.{common_steps}
use Rattle.std.proofs.lemmas.List.{get_or_read, length-set}
use Rattle.tx_recording.specs.declared.recording.RecordedTransaction.{RecordedTransaction}
use Rattle.tx_recording.specs.Recordings.{txns_of, transaction_at, no_transaction}
use Rattle.tx_clock.specs.KeptOrder.{live_in}
use Rattle.tx_clock.proofs.NextEvents.{above_none, kept_none, above_next, kept_next}
use Rattle.tx_clock.proofs.sessions.keeps_sessions.Goals as goal

pub loop-txn-preserved-then-not-has_process : goal.loop-txn-preserved-then-not-has_process
loop-txn-preserved-then-not-has_process c =
    let r = c.args.recording.now in
    let n = c.loop-txn.txn in
    let lt : n < txns_of r = grind (arith, common_steps, c.len-count.ensures, c.loop-txn-test.true) in
    let t = c.index-transaction.result.now in
    let read = get_or_read r.transactions.items n t lt c.index-transaction.ensures no_transaction in
    let none = sym (ap (λ (q : RecordedTransaction). q.process) read)
    ∙ c.has_process.ensures c.if-not-has_process.true in
    record {
      each = c.loop-txn.invariant.each;
      above = above_none r c.args.live.now c.args.starts.now c.args.commits.now c.loop-txn.latest.items n none
          c.loop-txn.invariant.above;
      kept = kept_none r c.args.live.now c.args.starts.now c.args.commits.now n none c.loop-txn.invariant.kept;
    }

pub loop-txn-preserved : goal.loop-txn-preserved
loop-txn-preserved c =
    let r = c.args.recording.now in
    let n = c.loop-txn.txn in
    let lt : n < txns_of r = grind (arith, common_steps, c.len-count.ensures, c.loop-txn-test.true) in
    let t = c.index-transaction.result.now in
    let read = get_or_read r.transactions.items n t lt c.index-transaction.ensures no_transaction in
    let process = sym (ap (λ (q : RecordedTransaction). q.process) read) ∙ c.in-Some.ensures.0 in
    let each = c.loop-txn.invariant.each in
    let within : c.in-Some.process < length c.loop-txn.latest.items =
    (let lt = c.in-Some.ensures.1 in grind (arith, common_steps, c.len-count.ensures, lt, each)) in
    let was : get_or c.loop-txn.latest.items c.in-Some.process 0 ≡ c.index-before.result.now =
    sym (get_or_read c.loop-txn.latest.items c.in-Some.process c.index-before.result.now within c.index-before.ensures
    0) in
    record {
      each = length-set c.loop-txn.latest.items c.in-Some.process c.later_of.result ∙ each;
      above = above_next r c.args.live.now c.args.starts.now c.args.commits.now c.loop-txn.latest.items n
          c.in-Some.process c.later_of.result
          within process (let up = c.later_of.ensures.kept in omega (arith, up, was))
          (λ ok. (let up = c.later_of.ensures.upto
          (c.is_ok.ensures.1 (ap (λ (q : RecordedTransaction). q.outcome) read ∙ ok)) in
          let same = c.number_at-in-loop-txn.ensures in
          omega (arith, up, same))) c.loop-txn.invariant.above;
      kept = kept_next r c.args.live.now c.args.starts.now c.args.commits.now c.loop-txn.latest.items n
          c.in-Some.process process
          (λ is. (let low = c.is_early.ensures c.if-is_early.false (subst IsTrue (sym c.live_at.ensures) is) in
          let same = c.number_at.ensures in
          omega (arith, low, same, was))) c.loop-txn.invariant.above c.loop-txn.invariant.kept;
    }

pub returns : goal.returns
returns c _ t u session live also = c.loop-txn.invariant.kept t u
    (let within = session.2 in grind (arith, common_steps, c.len-count.ensures, c.loop-txn-test.false, within)) session
    also
