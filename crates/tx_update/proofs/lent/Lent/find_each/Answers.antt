use Rattle.std.proofs.Common.{◌≡◌, ◌++◌, ◌+◌, ◌∷◌, [], ℕ, List, Option, take, refl, sym, subst, rules, ◌∙◌}
use Rattle.std.proofs.lemmas.List.{take_more}
use Rattle.tx_types.specs.declared.key.Key.{Key}
use Rattle.tx_types.specs.declared.value.Value.{Value}
use Rattle.tx_core.proofs.seats.Beginnings.{begins_all, begins_more}
use Rattle.tx_transaction.specs.Buffers.{Entries, buffered}
use Rattle.tx_update.specs.Reads.{FindsEach, FindsEachOn, FindsOn}
use Rattle.tx_update.proofs.FoundKeys.{each_on}
use Rattle.tx_update.proofs.lent.Lent.find_each.Goals as goal

pub loop-key-init : goal.loop-key-init
loop-key-init g c = (
  refl,
  begins_all c.args.self.now.running.seat.events,
  (λ h begins run. subst (FindsEach c.args.self.now.running.state.buffer h g.B.Begun.session.state.start [])
      (sym c.new-found.ensures.items) tt),
)

pub returns-in_err-value-clause-more : goal.returns-in_err-value-clause-more
returns-in_err-value-clause-more g c =
    begins_more c.args.self.now.running.seat.events c.loop-key.self.running.seat.events
    c.find_on.new.self.running.seat.events c.loop-key.invariant.1 c.find_on.ensures.more

pub returns-in_err-push-clause-more : goal.returns-in_err-push-clause-more
returns-in_err-push-clause-more g c =
    begins_more c.args.self.now.running.seat.events c.loop-key.self.running.seat.events
    c.find_on.new.self.running.seat.events c.loop-key.invariant.1 c.find_on.ensures.more

pub loop-key-preserved : goal.loop-key-preserved
loop-key-preserved g c =
    let bounds = g.J.JournalId.bounds in
    let start = g.B.Begun.session.state.start in
    let entries = c.args.self.now.running.state.buffer in
    let before = c.loop-key.self.running.seat.events in
    let events = c.find_on.new.self.running.seat.events in
    let keys = take c.loop-key.key-index c.args.keys.now in
    let key = c.key-item.result in
    let value = c.in_ok-value.value in
    let more : take (c.loop-key.key-index + 1) c.args.keys.now ≡ keys ++ key ∷ [] =
    subst (λ (k : Key). take (c.loop-key.key-index + 1) c.args.keys.now ≡ keys ++ k ∷ []) (sym c.key-item.is)
    (take_more c.args.keys.now c.loop-key.key-index key c.loop-key-test.true) in
    let all : c.push.new.self.items ≡ c.loop-key.found.items ++ value ∷ [] = search rules in
    let found : FindsOn bounds (buffered entries key) events start key value =
    subst (λ (es : Entries). FindsOn bounds (buffered es key) events start key value) c.loop-key.invariant.0
    c.in_ok-value.ensures.finds in (
      c.find_on.ensures.same ∙ c.loop-key.invariant.0,
      begins_more c.args.self.now.running.seat.events before events c.loop-key.invariant.1 c.find_on.ensures.more,
      subst (λ (ks : List Key). FindsEachOn bounds entries events start ks c.push.new.self.items) (sym more)
          (subst (λ (os : List (Option Value)). FindsEachOn bounds entries events start (keys ++ key ∷ []) os) (sym all)
          (each_on bounds entries before events c.find_on.ensures.more start keys c.loop-key.found.items key value
          c.loop-key.invariant.2 found)),
    )
