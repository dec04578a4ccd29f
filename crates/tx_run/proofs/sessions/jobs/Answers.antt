use Rattle.std.proofs.Common.{◌+◌, ℕ, length, map, vec_len, sym, ap, subst, ◌∙◌, arith}
use Rattle.tx_journal.specs.Known.{Known}
use Rattle.tx_run.specs.Jobs.{HaveOwnSeats, IsFresh, job_lines}
use Rattle.tx_run.specs.Played.{at, free, fresh}
use Rattle.tx_workload.specs.LineNumbers.{number_of, numbers_in}
use Rattle.tx_run.proofs.OwnSeats.{own_push, map_push}
use Rattle.tx_run.proofs.AllAnswers.{one_goes, all_went}
use Rattle.tx_run.proofs.LinesLeft.{next_own}
use Rattle.std.proofs.lemmas.List.{length-map}
use Rattle.tx_run.proofs.sessions.jobs.Goals as goal

pub loop-lines-preserved : goal.loop-lines-preserved
loop-lines-preserved g c =
    let last = length g.J.JournalId.bounds + vec_len c.args.seats in
    let before = c.loop-lines.invariant in
    let two = c.in-Some-two_seats.ensures.two in
    let job = c.in_ok-new.field-0 in
    let made = c.in_ok-new.ensures in
    let step = ap length c.in-Some.ensures.steps.0 in
    let ok = c.loop-lines.jobs.ok.0 in
    let fresh : IsFresh job = (
      made.stands ∙ ap (λ (k : Known). at (free k)) c.in-Some-two_seats.ensures.fresh
          ∙ ap (λ (n : ℕ). at (free (fresh n))) (sym made.job.1),
      made.none,
    ) in
    record {
      seats = c.in-Some-two_seats.ensures.rest;
      left = omega (arith, before.left, two.0);
      number = omega (arith, before.number, c.in_ok-push.ensures.len);
      few = omega (arith, before.few, step);
      jobs = subst (λ l. HaveOwnSeats last l) (sym c.in_ok-push.ensures.items)
          (own_push last c.loop-lines.jobs.items job before.jobs (omega (arith, made.job.0, before.number, ok))
          (omega (arith, made.job.1, two.1, before.left, before.number, ok)) fresh);
      split = one_goes c.args.sessions.items c.loop-lines.yielded c.loop-lines.lines-iterator.rest.items _
          c.in-Some.lines before.split c.in-Some.ensures.steps.0;
      lines = ap (map job_lines) c.in_ok-push.ensures.items
          ∙ map_push job_lines (λ lines. map number_of lines.items) c.loop-lines.jobs.items c.loop-lines.yielded job
          c.in-Some.lines before.lines made.lines;
    }

pub returns-clause-lines : goal.returns-clause-lines
returns-clause-lines g c =
    let went = all_went c.args.sessions.items c.loop-lines.yielded c.loop-lines.lines-iterator.rest.items
    c.loop-lines.lines-iterator.rest.len c.loop-lines.invariant.split c.loop-lines.lines-iterator.rest.ok.0
    c.in-None.ensures.steps.0 in
    c.loop-lines.invariant.lines ∙ ap numbers_in went

pub new-requires : goal.new-requires
new-requires g c =
    let before = c.loop-lines.invariant in
    let yielded = c.loop-lines.yielded in
    let jobs = c.loop-lines.jobs in
    let ok = jobs.ok.0 in
    let same = sym (length-map jobs.items job_lines) ∙ ap length before.lines
    ∙ length-map yielded (λ lines. map number_of lines.items) in
    next_own (λ lines. map number_of lines.items) g.L.Source.text c.args.sessions.items yielded
    c.loop-lines.lines-iterator.rest.items _ c.in-Some.lines c.loop-lines.number before.split
    c.in-Some.ensures.steps.0 (omega (arith, before.number, ok, same)) c.requires.own
