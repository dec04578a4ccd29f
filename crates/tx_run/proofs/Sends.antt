-- What a run hands to other threads: an answer of a line, and the log that holds them.
use denote.RattleType.{RattleType}
use denote.Param.Send.{IsSend, view_send, recorded_send, struct_send, sendable}
use denote.Struct.Declared.{shape}
use Rattle.std.proofs.Crossing.{Vec-send, crosses}
use Rattle.tx_types.proofs.fault.Cause.TheSendSync.{the_send as cause}
use Rattle.tx_types.proofs.seat_no.SeatNo.TheSendSync.{the_send as number}
use Rattle.tx_types.proofs.ts.Ts.TheSendSync.{the_send as stamp}
use Rattle.tx_journal.specs.declared.view.JournalId as journal
use Rattle.tx_journal.proofs.told.Told.TheSendSync.{the_send as told}
use Rattle.tx_transfer.specs.declared.source.Source as source
use Rattle.tx_transfer.proofs.plain_reply.PlainReply.TheSendSync.{the_send as plain}
use Rattle.tx_workload.specs.contracts.log.RunLog as RunLog
use Rattle.tx_workload.specs.contracts.log.RunLog.TheInside as Inside
use Rattle.tx_workload.specs.contracts.reply.LineReply as LineReply

-- the answer of a line: its keys own nothing
pub reply_send : IsSend LineReply.the_row
reply_send = search (plain, cause, stamp, crosses, sendable) depth 20 fits 10000

-- a log
module _ (J L : RattleType) (j : journal.Ghosts J.Denot) (l : source.Ghosts L.Denot) where
  inside_send : IsSend (Inside.the_row J L j l)
  inside_send =
      recorded_send (Inside.the_field J L j l).row _ _ (Inside.the_type J L j l).to_one
      (struct_send (shape (Inside.the_type J L j l)) (
        search (number, sendable),
        (told J j, (Vec-send _ reply_send, (search sendable, (search sendable, tt)))),
      ))

  pub log_send : IsSend (RunLog.the_row J L j l)
  log_send = view_send _ _ _ _ _ inside_send
