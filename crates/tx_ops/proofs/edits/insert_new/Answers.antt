use Rattle.std.proofs.Common.{true, false, is_some, ◌∙◌, ap}
use Rattle.tx_transaction.specs.Buffers.{inserted}
use Rattle.tx_transaction.specs.Sessions.{SessionState}
use Rattle.tx_ops.proofs.EditEffects.{is_free, taken, inserted_so}
use Rattle.tx_ops.proofs.edits.insert_new.Goals as goal

pub returns-then-not-can_insert : goal.returns-then-not-can_insert
returns-then-not-can_insert g c = taken c.args.session.now c.args.key.now c.args.value.now
    (is_free c.args.session.now.state.buffer c.as_bytes.result.now c.args.key.now c.as_bytes.ensures.value false
    c.args.value.now (λ v. c.if-not-can_insert.ensures v
    ∙ ap (λ (s : SessionState). is_some (inserted s.buffer c.as_bytes.result.now v)) c.transaction.ensures))

pub returns : goal.returns
returns g c = inserted_so c.args.session.now c.args.key.now c.args.value.now
    (is_free c.args.session.now.state.buffer c.as_bytes.result.now c.args.key.now c.as_bytes.ensures.value true
    c.args.value.now (λ v. c.if-not-can_insert.ensures v
    ∙ ap (λ (s : SessionState). is_some (inserted s.buffer c.as_bytes.result.now v)) c.transaction.ensures))
    c.enter_insert.new.session c.enter_insert.result
    (c.enter_insert.ensures.ok, c.enter_insert.ensures.same) c.said.result (c.said.ensures.ok, c.said.ensures.err)
