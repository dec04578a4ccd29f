use Rattle.std.proofs.Common.{◌≡◌, ◌∙◌, ◌<◌, ◌+◌, List, length, get_or, take, drop, refl, sym, ap, subst}
use Rattle.tx_types.specs.declared.key.Key.{Key}
use Rattle.tx_types.specs.declared.lock.LockInfo.{LockInfo}
use Rattle.tx_client.specs.Walks.{Sends, Continues}
use Rattle.tx_resolve.specs.declared.findings.Other.TheVariants as other
use Rattle.tx_resolve.specs.Resolution.{other_walk, others_walk}
use Rattle.tx_resolve.specs.Facts.{HadLocks}
use Rattle.tx_resolve.proofs.Knowledge.{sent_more}
use Rattle.tx_resolve.proofs.AllowedRequests.{other_allowed}
use Rattle.tx_resolve.proofs.Greatest.{primarys_on, decided_greatest}
use Rattle.tx_resolve.proofs.Others.{all_keys, next_of, took_key, more_asked, end_asked, more_locks}
use Rattle.tx_resolve.proofs.resolver.ask_others.Goals as goal

pub ask_other-requires-clause-allowed : goal.ask_other-requires-clause-allowed
ask_other-requires-clause-allowed g c =
    let items : c.as_slice-key-items.result.now ≡ c.args.primary.now.secondaries =
    c.as_slice-key-items.ensures ∙ ap (λ (x : LockInfo). x.secondaries) c.facts-2.ensures in
    let i = c.loop-key.key-index in
    let key = c.key-item.result in
    other_allowed c.loop-key.seat.events c.args.met.now.start c.args.primary.now i key c.loop-key.invariant.primary
    (subst (λ (ks : List Key). i < length ks) items c.loop-key-test.true)
    (sym (c.key-item.is ∙ ap (λ (ks : List Key). get_or ks i key) items))

pub returns-in-Ends-clause-sends : goal.returns-in-Ends-clause-sends
returns-in-Ends-clause-sends g c =
    let items : c.as_slice-key-items.result.now ≡ c.args.primary.now.secondaries =
    c.as_slice-key-items.ensures ∙ ap (λ (x : LockInfo). x.secondaries) c.facts-2.ensures in
    let keys : List Key = c.as_slice-key-items.result.now in
    let i = c.loop-key.key-index in
    let t = c.args.met.now.start in
    let left = next_of keys i (i + 1) c.key-item.result refl c.loop-key-test.true c.key-item.is in
    subst (λ (ks : List Key). Sends g.S.Sender.sends g.J.JournalId.bounds c.args.seat.now c.args.sender.now
    (others_walk t ks c.args.primary.now.min) c.in-Ends.found c.ask_other.new.sender c.ask_other.new.seat) items
    (end_asked g.S.Sender.sends g.J.JournalId.bounds c.args.seat.now c.args.sender.now
    (others_walk t keys c.args.primary.now.min) t c.loop-key.seat c.loop-key.sender c.key-item.result
    (drop (i + 1) keys) (drop i keys) c.loop-key.most c.in-Ends.found c.ask_other.new.seat c.ask_other.new.sender
    left c.loop-key.invariant.sends c.in-Ends.ensures.sends)

pub loop-key-preserved : goal.loop-key-preserved
loop-key-preserved g c =
    let bounds = g.J.JournalId.bounds in
    let keys : List Key = c.as_slice-key-items.result.now in
    let i = c.loop-key.key-index in
    let t = c.args.met.now.start in
    let key = c.key-item.result in
    let m = c.in-Async.minimum in
    let l = c.loop-key.seat.events in
    let h = c.ask_other.new.seat.events in
    let left = next_of keys i (i + 1) key refl c.loop-key-test.true c.key-item.is in
    let took = took_key keys i (i + 1) key refl c.loop-key-test.true c.key-item.is in
    let more = sent_more g.S.Sender.sends bounds (other_walk t key) c.loop-key.seat c.ask_other.new.seat
    c.loop-key.sender c.ask_other.new.sender (other.Async m) c.loop-key.invariant.knows.run
    c.in-Async.ensures.sends in
    let goes = more_asked g.S.Sender.sends bounds c.args.seat.now c.args.sender.now
    (others_walk t keys c.args.primary.now.min) t c.loop-key.seat c.loop-key.sender key (drop (i + 1) keys)
    (drop i keys) c.loop-key.most m c.ask_other.new.seat c.ask_other.new.sender left c.loop-key.invariant.sends
    c.in-Async.ensures.sends in
    let locks = more_locks bounds l h more.0 more.1 t (take i keys) (take (i + 1) keys) key c.args.primary.now.min
    c.loop-key.most m took c.loop-key.invariant.locks c.in-Async.ensures.found in
    record {
      sends = subst (λ n. Continues g.S.Sender.sends bounds c.args.seat.now c.args.sender.now
          (others_walk t keys c.args.primary.now.min) c.ask_other.new.seat c.ask_other.new.sender
          (others_walk t (drop (i + 1) keys) n)) (sym c.greater-most.ensures) goes;
      knows = c.in-Async.ensures.knows;
      primary = primarys_on bounds l h more.0 more.1 t c.args.primary.now c.loop-key.invariant.primary;
      locks = subst (λ n. HadLocks h t (take (i + 1) keys) c.args.primary.now.min n) (sym c.greater-most.ensures) locks;
    }

pub returns-clause-found : goal.returns-clause-found
returns-clause-found g c =
    let keys : List Key = c.as_slice-key-items.result.now in
    let t = c.args.met.now.start in
    let all : take c.loop-key.key-index keys ≡ c.args.primary.now.secondaries =
    all_keys keys c.loop-key.key-index c.loop-key-test.false
    ∙ (c.as_slice-key-items.ensures ∙ ap (λ (x : LockInfo). x.secondaries) c.facts-2.ensures) in
    let locks = subst (λ (ks : List Key). HadLocks c.loop-key.seat.events t ks c.args.primary.now.min c.loop-key.most)
    all c.loop-key.invariant.locks in
    decided_greatest g.J.JournalId.bounds c.loop-key.seat.events c.loop-key.invariant.knows.run t c.args.primary.now
    c.loop-key.most c.loop-key.invariant.primary locks
