use Rattle.std.proofs.Common.{◌≡◌, Some, None, Result, sym, subst}
use Rattle.std.specs.Prelude.{IfNone, IfSome, IfOk}
use Rattle.tx_types.specs.declared.fault.Fault.{Fault}
use Rattle.tx_journal.specs.Replies.{Asked}
use Rattle.tx_journal.specs.Senders.{IsHeld}
use Rattle.tx_network.specs.Networks.{NetworkParts, AllFit, requests, request_at}
use Rattle.tx_network.proofs.HeldRequests.{none_held, some_held}
use Rattle.tx_network.proofs.network.Network.copy_of.Goals as goal

pub invariant_of-self : goal.invariant_of-self
invariant_of-self g c = (
  c.self.invariant.0,
  c.self.invariant.1,
  subst (λ es. AllFit g.J.JournalId.bounds (requests es)) (sym c.copy_held.ensures.same) c.self.invariant.2,
)

pub returns-clause-none : goal.returns-clause-none
returns-clause-none g c =
    subst (λ (d : NetworkParts). IfNone c.copy_held.result (request_at d.held c.args.name.now ≡ None)) c.self.view_is
    (none_held c.copy_held.result c.self.inside.held c.args.name.now c.copy_held.ensures.none)

pub returns-clause-some : goal.returns-clause-some
returns-clause-some g c =
    let bounds = g.J.JournalId.bounds in
    subst (λ (d : NetworkParts). IfSome c.copy_held.result (λ copied. (q : Asked)
    × (request_at d.held c.args.name.now ≡ Some q) × IsHeld bounds q.body × IfOk copied (λ copy. copy ≡ q)))
    c.self.view_is
    (some_held bounds (λ (copied : Result Asked Fault) q. IfOk copied (λ copy. copy ≡ q)) c.copy_held.result
    c.self.inside.held c.args.name.now c.self.invariant.2 c.copy_held.ensures.some)
