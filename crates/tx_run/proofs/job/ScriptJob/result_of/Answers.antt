use Rattle.std.proofs.Common.{refl, sym, subst, Err}
use Rattle.std.specs.Borrow.{Bor}
use Rattle.tx_types.specs.declared.fault.Cause.TheVariants.{Name}
use Rattle.tx_steps.specs.declared.step.Step.{Step}
use Rattle.tx_steps.specs.Steps.{Text, acted, asked, called, delivered}
use Rattle.tx_transfer.specs.Replies.{said_of}
use Rattle.tx_workload.specs.Tells.{EnteredBefore, SaidTells, SaysOwn}
use Rattle.tx_run.specs.Played.{Makes}
use Rattle.tx_run.proofs.OwnLines.{act_own, next_entered, send_own}
use Rattle.tx_run.proofs.job.ScriptJob.result_of.Goals as goal

pub returns-in-Act-clause-own : goal.returns-in-Act-clause-own
returns-in-Act-clause-own g c =
    let source = g.L.Source.text in
    let job = c.args.self.now.number in
    let own = subst (λ (s : Step (Bor Text)). SaysOwn source job c.args.number (asked s)) c.in-Act.is c.requires.says in
    (act_own source g.J.JournalId.bounds job c.args.number c.in-Act.field-0.now c.args.session.now c.act.new.session
    (said_of c.act.result) c.requires.own _ _ (acted c.in-Act.action) own c.act.ensures).0

pub returns-in-Act-clause-tells : goal.returns-in-Act-clause-tells
returns-in-Act-clause-tells g c =
    let source = g.L.Source.text in
    let bounds = g.J.JournalId.bounds in
    let job = c.args.self.now.number in
    let own = subst (λ (s : Step (Bor Text)). SaysOwn source job c.args.number (asked s)) c.in-Act.is c.requires.says in
    subst (λ (s : Step (Bor Text)). SaidTells bounds (EnteredBefore source c.args.number)
    c.act.new.session.seat.events (asked s)
    (said_of c.act.result)) (sym c.in-Act.is)
    (act_own source bounds job c.args.number c.in-Act.field-0.now c.args.session.now c.act.new.session
    (said_of c.act.result) c.requires.own _ _ (acted c.in-Act.action) own c.act.ensures).1

pub returns-in-Act-clause-made : goal.returns-in-Act-clause-made
returns-in-Act-clause-made g c =
    subst (λ (s : Step (Bor Text)). Makes g.J.JournalId.bounds (asked s) c.args.session.now (said_of c.act.result)
    c.act.new.session) (sym c.in-Act.is) (_, _, c.act.ensures)

pub returns-in-Send-clause-own : goal.returns-in-Send-clause-own
returns-in-Send-clause-own g c =
    let source = g.L.Source.text in
    let job = c.args.self.now.number in
    let own = subst (λ (s : Step (Bor Text)). SaysOwn source job c.args.number (asked s)) c.in-Send.is c.requires.says
    in
    (send_own source g.J.JournalId.bounds job c.args.number c.in-Send.field-0.now c.args.session.now c.send.new.session
    (said_of c.send.result) c.requires.own (called c.in-Send.request) (delivered c.in-Send.field-2) own
    c.send.ensures.sends).0

pub returns-in-Send-clause-tells : goal.returns-in-Send-clause-tells
returns-in-Send-clause-tells g c =
    let source = g.L.Source.text in
    let bounds = g.J.JournalId.bounds in
    let job = c.args.self.now.number in
    let own = subst (λ (s : Step (Bor Text)). SaysOwn source job c.args.number (asked s)) c.in-Send.is c.requires.says
    in
    subst (λ (s : Step (Bor Text)). SaidTells bounds (EnteredBefore source c.args.number)
    c.send.new.session.seat.events (asked s)
    (said_of c.send.result)) (sym c.in-Send.is)
    (send_own source bounds job c.args.number c.in-Send.field-0.now c.args.session.now c.send.new.session
    (said_of c.send.result) c.requires.own (called c.in-Send.request) (delivered c.in-Send.field-2) own
    c.send.ensures.sends).1

pub returns-in-Send-clause-made : goal.returns-in-Send-clause-made
returns-in-Send-clause-made g c =
    subst (λ (s : Step (Bor Text)). Makes g.J.JournalId.bounds (asked s) c.args.session.now (said_of c.send.result)
    c.send.new.session) (sym c.in-Send.is) c.send.ensures.sends

pub returns-in-Begin-clause-own : goal.returns-in-Begin-clause-own
returns-in-Begin-clause-own g c =
    next_entered g.L.Source.text c.args.self.now.number c.args.number c.args.session.now.state.buffer c.requires.own

pub returns-in-Begin-clause-made : goal.returns-in-Begin-clause-made
returns-in-Begin-clause-made g c =
    subst (λ (s : Step (Bor Text)). Makes g.J.JournalId.bounds (asked s) c.args.session.now (Err Name)
    c.args.session.now)
    (sym c.in-Begin.is) (refl, refl)

pub returns-in_default-clause-own : goal.returns-in_default-clause-own
returns-in_default-clause-own g c =
    next_entered g.L.Source.text c.args.self.now.number c.args.number c.args.session.now.state.buffer c.requires.own
