use Rattle.std.proofs.Common.{arith, take-add, take_all, length-drop}
use Rattle.std.proofs.KnownBytes.{Appends-kept, Appends-nil, Appends-trans}
use Rattle.tx_text.proofs.TextLines.{slice-end}
use Rattle.tx_text.proofs.output.send_rest.Goals as goal
use Rattle.tx_text.proofs.output.send_rest.Goals.{in-Ok, in-Err+else-ne}

pub writes-init : goal.writes-init
writes-init g c = (omega arith, Appends-nil _)

pub returns-then-sent-bytes-clause-all : goal.returns-then-sent-bytes-clause-all
returns-then-sent-bytes-clause-all g c =
    rw (take_all c.writes.sent c.args.bytes.now c.if-sent-bytes.true) at c.writes.invariant.1

pub writes-preserved : goal.writes-preserved
writes-preserved g c =
    let inv = c.writes.invariant in
    let all = c.args.bytes.now in
    let sent = c.writes.sent in
    elim c.match-write.branch [
      | in-Ok w ↦
          let more = rw (slice-end all sent) at w.in-Ok.ensures.bytes in
          let bound = rw (slice-end all sent) at w.in-Ok.ensures.bound in
          rw (w.sent-is, take-add sent w.in-Ok.n all) (
            omega (arith, inv.0, bound, length-drop sent all),
            Appends-trans _ _ _ _ _ inv.1 more,
          )
      | in-Err+else-ne w ↦ rw w.sent-is (inv.0, Appends-kept _ _ _ _ inv.1 w.in-Err.ensures.bytes)
    ]
