use Rattle.std.proofs.Common.{◌≡◌, ◌++◌, ◌+◌, ◌∷◌, [], ℕ, List, Option, take, refl, sym, subst, rules, ◌∙◌}
use Rattle.std.proofs.lemmas.List.{take_more}
use Rattle.tx_types.specs.declared.key.Key.{Key}
use Rattle.tx_types.specs.declared.value.Value.{Value}
use Rattle.tx_core.specs.Histories.{last}
use Rattle.tx_reader.proofs.Observers.{sees_begins, sees_itself, sees_more}
use Rattle.tx_update.specs.Reads.{SeesOn}
use Rattle.tx_kv.specs.Views.{IsViewStop, SeesEach, SeesEachOn}
use Rattle.tx_kv.proofs.Views.{each_on, stops_less}
use Rattle.tx_kv.proofs.many.found_each.Goals as goal

pub loop-key-init : goal.loop-key-init
loop-key-init g c = (
  refl,
  sees_itself c.args.reader.now.seat,
  (λ h begins run. subst (SeesEach h c.args.reader.now.at []) (sym c.new-found.ensures.items) tt),
)

pub returns-in_err-value-clause-seat : goal.returns-in_err-value-clause-seat
returns-in_err-value-clause-seat g c =
    sees_more c.args.reader.now.seat c.loop-key.reader.seat c.found_at.new.reader.seat c.loop-key.invariant.1
    c.found_at.ensures.seat

pub returns-in_err-value-clause-err : goal.returns-in_err-value-clause-err
returns-in_err-value-clause-err g c =
    let events = c.found_at.new.reader.seat.events in
    let seen = last c.args.reader.now.seat.events in
    let at = c.args.reader.now.at in
    let why : IsViewStop events seen at c.in_err-value.field-0.0 =
    subst (λ (n : ℕ). IsViewStop events seen n c.in_err-value.field-0.0) c.loop-key.invariant.0
    (stops_less events seen (last c.loop-key.reader.seat.events) c.loop-key.reader.at c.loop-key.invariant.1.drawn
    c.in_err-value.field-0.0 c.in_err-value.ensures.err) in
    search rules

pub returns-in_err-push-clause-seat : goal.returns-in_err-push-clause-seat
returns-in_err-push-clause-seat g c =
    sees_more c.args.reader.now.seat c.loop-key.reader.seat c.found_at.new.reader.seat c.loop-key.invariant.1
    c.found_at.ensures.seat

pub loop-key-preserved : goal.loop-key-preserved
loop-key-preserved g c =
    let bounds = g.J.JournalId.bounds in
    let at = c.args.reader.now.at in
    let events = c.found_at.new.reader.seat.events in
    let keys = take c.loop-key.key-index c.args.keys.now in
    let key = c.key-item.result in
    let value = c.in_ok-value.value in
    let more : take (c.loop-key.key-index + 1) c.args.keys.now ≡ keys ++ key ∷ [] =
    subst (λ (k : Key). take (c.loop-key.key-index + 1) c.args.keys.now ≡ keys ++ k ∷ []) (sym c.key-item.is)
    (take_more c.args.keys.now c.loop-key.key-index key c.loop-key-test.true) in
    let all : c.push.new.self.items ≡ c.loop-key.found.items ++ value ∷ [] = search rules in (
      c.found_at.ensures.at ∙ c.loop-key.invariant.0,
      sees_more c.args.reader.now.seat c.loop-key.reader.seat c.found_at.new.reader.seat c.loop-key.invariant.1
          c.found_at.ensures.seat,
      subst (λ (ks : List Key). SeesEachOn bounds events at ks c.push.new.self.items) (sym more)
          (subst (λ (os : List (Option Value)). SeesEachOn bounds events at (keys ++ key ∷ []) os) (sym all)
          (each_on bounds c.loop-key.reader.seat.events events
          (sees_begins c.loop-key.reader.seat c.found_at.new.reader.seat c.found_at.ensures.seat) at keys
          c.loop-key.found.items key value c.loop-key.invariant.2
          (subst (λ (n : ℕ). SeesOn bounds events n key value) c.loop-key.invariant.0 c.in_ok-value.ensures.finds))),
    )
