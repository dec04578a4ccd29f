use denote.RattleType.{RattleType}
use denote.Exit.{yes}
use denote.Param.{param}
use denote.Param.Send.{IsSend, param_send, arg_send, view_send, recorded_send, struct_send, sendable}
use denote.Struct.Declared.{shape}
use Rattle.std.proofs.Common.{◌+◌, length, vec_len, arith}
use Rattle.std.proofs.Crossing.{Box-send, Vec-send, crosses}
use Rattle.tx_types.proofs.seat_no.SeatNo.TheSendSync.{the_send as number}
use Rattle.tx_journal.proofs.told.Told.TheSendSync.{the_send as told}
use Rattle.tx_journal.proofs.seat.Seat.TheSendSync.{the_send as seat}
use Rattle.tx_client.proofs.session.Session.TheSendSync.{the_send as session}
use Rattle.tx_latch.proofs.slot.Slot.TheSendSync.{the_send as slot}
use Rattle.tx_ops.proofs.stage.SessionStage.TheSendSync.{the_send as stage}
use Rattle.tx_transfer.proofs.context.Context.TheSendSync.{the_field_send as context}
use Rattle.tx_transfer.proofs.collector.Collector.TheSendSync.{the_field_send as collector}
use Rattle.tx_transfer.proofs.transfer.TransferState.TheSendSync.{the_send as transfer}
use Rattle.tx_workload.proofs.session_line.SessionLine.TheSendSync.{the_send as line}
use Rattle.tx_workload.specs.LineNumbers.{numbers_in}
use Rattle.tx_run.specs.contracts.job.ScriptJob.TheInside as Inside
use Rattle.tx_run.proofs.state.JobState.TheSendSync.{the_field_send as state}
use Rattle.tx_run.proofs.Sends.{reply_send, log_send}
use Rattle.tx_run.proofs.OwnSeats.{own_distinct, falling, answered_lines, played_outputs}
use Rattle.tx_run.proofs.sessions.work.Goals as goal

pub run_sessions-requires-clause-distinct : goal.run_sessions-requires-clause-distinct
run_sessions-requires-clause-distinct g c κs within =
    own_distinct (length g.J.JournalId.bounds + vec_len c.args.seats) c.in_ok-jobs.jobs.items c.in_ok-jobs.ensures.seats

pub run_sessions-requires-send-J : goal.run_sessions-requires-send-J
run_sessions-requires-send-J g c κs within =
    let b = c.type_bounds in let j = g.J.JournalId in let l = g.L.Source in
    let J : RattleType = param 0 g.row.J in let L : RattleType = param 1 g.row.L in
    let F : RattleType = param 2 g.row.F in let R : RattleType = param 4 g.row.R in
    let lines = Vec-send _ (line L l) in let slots = Vec-send _ slot in
    let inside : IsSend (Inside.the_row J L F R j l g.F.Holds) =
    recorded_send (Inside.the_field J L F R j l g.F.Holds).row _ _ (Inside.the_type J L F R j l g.F.Holds).to_one
    (struct_send (shape (Inside.the_type J L F R j l g.F.Holds)) (
      search sendable,
      (
        search (b.send-F, b.send-R, context, crosses, sendable),
        (
          state _ _ _ (seat J j) (Box-send _ (session J j)) (Box-send _ (transfer J L j l)),
          (
            log_send J L j l,
            (lines, (slots, (search (collector, sendable), (search sendable, (search sendable, tt))))),
          ),
        ),
      ),
    )) in
    param_send 0 _ (arg_send _ yes _ (view_send _ _ _ _ _ inside))

pub run_sessions-requires-send-J-Out : goal.run_sessions-requires-send-J-Out
run_sessions-requires-send-J-Out g c κs within =
    search (reply_send, told, stage, number, crosses, sendable) depth 30 fits 20000

pub returns-clause-falling : goal.returns-clause-falling
returns-clause-falling g c =
    falling (length g.J.JournalId.bounds + vec_len c.args.seats) c.in_ok-jobs.jobs.items c.in_ok-outputs.outputs.items
    c.in_ok-jobs.ensures.seats
    (omega (arith, c.in_ok-outputs.ensures.count, c.in_ok-outputs.outputs.ok.0, c.in_ok-jobs.jobs.ok.0))
    (λ index job output p q. (c.in_ok-outputs.ensures.each index job output p q).0.0.seat)

pub returns-clause-answered : goal.returns-clause-answered
returns-clause-answered g c =
    answered_lines (numbers_in c.args.sessions.items) c.in_ok-jobs.jobs.items c.in_ok-outputs.outputs.items
    c.in_ok-jobs.ensures.lines
    (omega (arith, c.in_ok-outputs.ensures.count, c.in_ok-outputs.outputs.ok.0, c.in_ok-jobs.jobs.ok.0))
    (λ index job output p q. (c.in_ok-outputs.ensures.each index job output p q).0.0)

pub returns-clause-played : goal.returns-clause-played
returns-clause-played g c =
    played_outputs g.J.JournalId.bounds g.L.Source.text (length g.J.JournalId.bounds + vec_len c.args.seats)
    c.in_ok-jobs.jobs.items c.in_ok-outputs.outputs.items c.in_ok-jobs.ensures.seats
    (omega (arith, c.in_ok-outputs.ensures.count, c.in_ok-outputs.outputs.ok.0, c.in_ok-jobs.jobs.ok.0))
    (λ index job output p q. (c.in_ok-outputs.ensures.each index job output p q).0)
