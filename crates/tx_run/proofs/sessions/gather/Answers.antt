use Rattle.std.proofs.Common.{refl, sym, ap, subst, ◌∙◌}
use Rattle.std.specs.List.{list_any}
use Rattle.tx_core.proofs.seats.Beginnings.{begins_all, begins_more}
use Rattle.tx_run.specs.Jobs.{AreFalling, AreJoined, Output}
use Rattle.tx_run.proofs.AllAnswers.{AreLeft, none_told, none_above, first_above, left_next, joined_none, joined_more, one_goes, opened_on, all_went, none_started, faulted_more}
use Rattle.tx_workload.proofs.Sources.{none_pairs}
use Rattle.tx_run.proofs.sessions.gather.Goals as goal

pub loop-output-init : goal.loop-output-init
loop-output-init g c =
    let same = c.into_iter-output-iterator.ensures.into_iter_gives.0 in
    let replies = c.args.replies.now in
    let none = none_started replies c.requires.none in
    record {
      left = record {
        falling = subst AreFalling (sym same) c.requires.falling;
        told = none_told replies none c.args.seat.now.events;
        pairs = none_pairs g.L.Source.text replies none;
        tells = c.requires.tells;
        above = λ k d lt. none_above replies none c.args.seat.now.events _;
      };
      split = sym same;
      joined = joined_none replies c.args.seat.now.events;
      grew = begins_all c.args.seat.now.events;
      faulted = refl;
    }

pub join-requires-clause-told : goal.join-requires-clause-told
join-requires-clause-told g c = c.loop-output.invariant.left.told

pub join-requires-clause-pairs : goal.join-requires-clause-pairs
join-requires-clause-pairs g c = c.loop-output.invariant.left.pairs

pub join-requires-clause-tells : goal.join-requires-clause-tells
join-requires-clause-tells g c = c.loop-output.invariant.left.tells

pub join-requires-clause-above : goal.join-requires-clause-above
join-requires-clause-above g c =
    first_above g.L.Source.text g.J.JournalId.bounds c.loop-output.seat.events c.loop-output.replies c.in-Some.output _
    (subst (AreLeft g.L.Source.text g.J.JournalId.bounds c.loop-output.seat.events c.loop-output.replies)
    c.in-Some.ensures.steps.0
    c.loop-output.invariant.left)

pub loop-output-preserved : goal.loop-output-preserved
loop-output-preserved g c =
    let before = c.loop-output.invariant in
    let step = c.in-Some.ensures.steps.0 in
    record {
      left = left_next g.L.Source.text g.J.JournalId.bounds c.join.new.seat.events c.join.new.replies c.in-Some.output _
          c.loop-output.output-iterator.rest.items step before.left.falling c.in_ok-fault.ensures.told
          c.in_ok-fault.ensures.pairs c.in_ok-fault.ensures.tells c.in_ok-fault.ensures.above;
      split = one_goes c.args.outputs.items c.loop-output.yielded c.loop-output.output-iterator.rest.items _
          c.in-Some.output before.split step;
      joined = joined_more c.args.replies.now c.loop-output.seat.events c.join.new.seat.events c.loop-output.replies
          c.join.new.replies c.loop-output.yielded c.in-Some.output before.joined c.in_ok-fault.ensures.joins;
      grew = begins_more c.args.seat.now.events c.loop-output.seat.events c.join.new.seat.events before.grew
          c.in_ok-fault.ensures.joins.grew;
      faulted = faulted_more c.loop-output.faulted c.in_ok-fault.fault c.loop-output.yielded c.in-Some.output
          before.faulted c.in_ok-fault.ensures.fault;
    }

pub returns-clause-comes : goal.returns-clause-comes
returns-clause-comes g c =
    let went = all_went c.args.outputs.items c.loop-output.yielded c.loop-output.output-iterator.rest.items
    c.loop-output.output-iterator.rest.len c.loop-output.invariant.split c.loop-output.output-iterator.rest.ok.0
    c.in-None.ensures.steps.0 in (
      c.args.replies.now,
      refl,
      c.requires.none,
      subst (AreJoined c.args.replies.now c.loop-output.seat.events c.loop-output.replies) went
          c.loop-output.invariant.joined,
      opened_on g.J.JournalId.bounds g.L.Source.text c.args.seat.now.events c.loop-output.seat.events
          c.loop-output.invariant.grew c.args.replies.now c.requires.opened,
    )

pub returns-clause-faulted : goal.returns-clause-faulted
returns-clause-faulted g c =
    let went = all_went c.args.outputs.items c.loop-output.yielded c.loop-output.output-iterator.rest.items
    c.loop-output.output-iterator.rest.len c.loop-output.invariant.split c.loop-output.output-iterator.rest.ok.0
    c.in-None.ensures.steps.0 in
    c.loop-output.invariant.faulted ∙ ap (list_any (λ (o : Output). o.faulted)) went
