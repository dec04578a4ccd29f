use Rattle.std.proofs.Common.{List, Result, IfOk, sym, subst}
use Rattle.std.specs.Prelude.{Contains}
use Rattle.tx_types.specs.declared.fault.Fault.{Fault}
use Rattle.tx_types.specs.declared.lock.LockInfo.{LockInfo}
use Rattle.tx_core.specs.Laws.{WasToldOf}
use Rattle.tx_resolve.proofs.Knowledge.{asked_more}
use Rattle.tx_resolve.proofs.CollectorAnswers.{not_lost, to_list, listed_ok}
use Rattle.tx_resolve.proofs.collector.list.Goals as goal

pub listed_by-requires : goal.listed_by-requires
listed_by-requires g c =
    let asked = c.ask-response.ensures.asked in
    let more = asked_more g.S.Sender.sends g.J.JournalId.bounds c.args.seat.now c.ask-response.new.seat
    c.args.sender.now c.ask-response.new.sender _ c.ask-response.result c.requires.run asked in
    to_list g.J.JournalId.bounds c.ask-response.new.seat.events more.0 _ c.ask-response.result
    (not_lost g.S.Sender.sends c.requires.lossless g.J.JournalId.bounds _ _ _ _ _ _ asked)
    c.ask-response.ensures.told

pub returns-clause-told : goal.returns-clause-told
returns-clause-told g c =
    subst (λ (r : Result (List LockInfo) Fault). IfOk r (λ infos. (info : LockInfo) → Contains infos info
    → WasToldOf c.ask-response.new.seat.events info)) (sym c.listed_by.ensures)
    (listed_ok c.ask-response.new.seat.events _ c.ask-response.result c.ask-response.ensures.told)
