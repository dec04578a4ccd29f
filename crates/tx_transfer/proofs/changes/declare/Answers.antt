use Rattle.std.proofs.Common.{inl, inr, sym, subst}
use Rattle.tx_client.specs.Calls.{Seated}
use Rattle.tx_transfer.specs.Transfers.{Moves}
use Rattle.tx_transfer.proofs.TransferWrites.{entered_once, entered_twice, declared_both}
use Rattle.tx_transfer.proofs.Steps.{refused_as, declares_or}
use Rattle.tx_transfer.proofs.changes.declare.Goals as goal

pub returns-in_err-enter-2 : goal.returns-in_err-enter-2
returns-in_err-enter-2 g c =
    let from = c.args.order.now.from in
    let to = c.args.order.now.to in
    let moves = entered_once from to c.args.session.now.state c.enter.new.session.state c.requires.declared
    c.requires.moves c.in_ok-enter.ensures.entered in
    record {
      moves = subst (λ (s : Seated). Moves from to s.state) (sym c.in_err-enter-2.ensures.same) moves;
      puts = inr (
        _,
        c.in_ok-enter.ensures.enters,
        inl (
          c.in_err-enter-2.field-0.0,
          refused_as c.from_residual-in_err-enter-2.result c.in_err-enter-2.field-0.0
              c.from_residual-in_err-enter-2.ensures.1,
          c.in_err-enter-2.ensures.enters,
        ),
      );
    }

pub returns : goal.returns
returns g c =
    let from = c.args.order.now.from in
    let to = c.args.order.now.to in
    let both = entered_twice from to c.args.session.now.state c.enter.new.session.state c.requires.declared
    c.requires.moves c.in_ok-enter.ensures.entered c.enter-2.new.session.state c.args.order.now.apart
    c.in_ok-enter-2.ensures.entered in
    record {
      moves = declared_both _ _
          c.declare.result from to _ c.enter-2.new.session c.declare.new.self c.declare.ensures.ok
          c.declare.ensures.same
          both;
      puts = inr (
        _,
        c.in_ok-enter.ensures.enters,
        inr (
          _,
          c.in_ok-enter-2.ensures.enters,
          declares_or g.J.JournalId.bounds _ c.enter-2.new.session c.declare.new.self c.declare.result
              c.declare.ensures.ok c.declare.ensures.same c.declare.ensures.err,
        ),
      );
    }

pub returns-in_err-enter-clause-puts : goal.returns-in_err-enter-clause-puts
returns-in_err-enter-clause-puts g c = inl (
  c.in_err-enter.field-0.0,
  refused_as c.from_residual.result c.in_err-enter.field-0.0 c.from_residual.ensures.1,
  c.in_err-enter.ensures.enters,
)
