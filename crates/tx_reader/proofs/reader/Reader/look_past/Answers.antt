use Rattle.std.proofs.Common.{◌≡◌, ℕ, IfOk, ap, rules, subst, ◌∙◌}
use Rattle.tx_core.specs.Histories.{last}
use Rattle.tx_reader.specs.Readers.{FindsAt, IsAnswerTo, OnlySees, Reading}
use Rattle.tx_plan.specs.declared.answer.Answer.{Answer}
use Rattle.tx_plan.specs.declared.answer.Answer.TheVariants as answer
use Rattle.tx_client.specs.Facts.{WasAnswered}
use Rattle.tx_reader.proofs.Observers.{sees_begins, sees_more, sees_seen, keeps_seen, found_by, if_found_by, locked_finds}
use Rattle.tx_reader.proofs.ReadAnswers.{may_be, if_may_be, locked_later, loaded_less, if_loaded_less}
use Rattle.tx_reader.proofs.reader.Reader.look_past.Goals as goal

pub invariant_of-self : goal.invariant_of-self
invariant_of-self g c =
    keeps_seen g.J.JournalId.bounds c.self.inside.seat c.last-now.new.self c.self.inside.at c.self.inside.passed
    c.self.invariant c.last-now.ensures.same.0 c.last-now.ensures.same.1 c.last-now.ensures.seen

pub loop-init : goal.loop-init
loop-init g c = (
  ap (λ (r : Reading). r.at) c.self.view_is,
  subst (λ (r : Reading). OnlySees r.seat c.last-now.new.self) c.self.view_is
      (sees_seen g.J.JournalId.bounds c.self.inside.seat c.last-now.new.self c.last-now.ensures.same.0
      c.last-now.ensures.same.1 c.last-now.ensures.seen),
)

pub returns-in_err-answer-clause-seat : goal.returns-in_err-answer-clause-seat
returns-in_err-answer-clause-seat g c =
    sees_more c.args.self.now.seat c.loop.self.seat c.look.new.self.seat c.loop.invariant.1 c.look.ensures.seat

pub returns-in_err-pass-in-KeyIsLocked-clause-seat : goal.returns-in_err-pass-in-KeyIsLocked-clause-seat
returns-in_err-pass-in-KeyIsLocked-clause-seat g c =
    sees_more c.args.self.now.seat c.look.new.self.seat c.pass.new.self.seat
    (sees_more c.args.self.now.seat c.loop.self.seat c.look.new.self.seat c.loop.invariant.1 c.look.ensures.seat)
    c.pass.ensures.seat

pub returns-then-not-branch-clause-seat : goal.returns-then-not-branch-clause-seat
returns-then-not-branch-clause-seat g c =
    sees_more c.args.self.now.seat c.look.new.self.seat c.pass.new.self.seat
    (sees_more c.args.self.now.seat c.loop.self.seat c.look.new.self.seat c.loop.invariant.1 c.look.ensures.seat)
    c.pass.ensures.seat

pub returns-then-not-branch-clause-finds : goal.returns-then-not-branch-clause-finds
returns-then-not-branch-clause-finds g c =
    locked_finds g.J.JournalId.bounds c.pass.new.self.seat.events c.args.self.now.at c.args.read.now
    c.in-KeyIsLocked.info

pub returns-then-not-branch-clause-may : goal.returns-then-not-branch-clause-may
returns-then-not-branch-clause-may g c =
    let seen = last c.args.self.now.seat.events in
    let info = c.in-KeyIsLocked.info in
    let told = c.in_ok-answer.ensures.told in
    let is : c.in_ok-answer.answer ≡ answer.KeyIsLocked info = search rules in
    subst (λ (n : ℕ). IsAnswerTo c.pass.new.self.seat.events seen n c.args.read.now (answer.KeyIsLocked info))
    c.loop.invariant.0
    (locked_later c.look.new.self.seat.events c.pass.new.self.seat.events
    (sees_begins c.look.new.self.seat c.pass.new.self.seat c.pass.ensures.seat) seen c.loop.self.at c.args.read.now info
    (may_be g.J.JournalId.bounds c.look.new.self.seat.events c.look.ensures.run seen c.loop.self.at c.args.read.now
    told.0 told.1 (answer.KeyIsLocked info)
    (subst (λ (a : Answer). WasAnswered c.look.new.self.seat.events told.0 a) is told.2) tt))

pub returns-in_default : goal.returns-in_default
returns-in_default g c = record {
  at = c.look.ensures.at ∙ c.loop.invariant.0;
  seat = sees_more c.args.self.now.seat c.loop.self.seat c.look.new.self.seat c.loop.invariant.1 c.look.ensures.seat;
  finds = subst
      (λ (n : ℕ). FindsAt g.J.JournalId.bounds c.look.new.self.seat.events n c.args.read.now c.in_ok-answer.answer)
      c.loop.invariant.0
      (found_by g.J.JournalId.bounds c.look.new.self.seat.events c.look.ensures.run c.loop.self.at c.args.read.now
      c.in_ok-answer.ensures.told.0 c.in_ok-answer.ensures.told.1 c.in_ok-answer.answer c.in_ok-answer.ensures.told.2);
  may = subst
      (λ (n : ℕ). IsAnswerTo c.look.new.self.seat.events (last c.args.self.now.seat.events) n c.args.read.now
      c.in_ok-answer.answer)
      c.loop.invariant.0
      (may_be g.J.JournalId.bounds c.look.new.self.seat.events c.look.ensures.run (last c.args.self.now.seat.events)
      c.loop.self.at c.args.read.now
      c.in_ok-answer.ensures.told.0 c.in_ok-answer.ensures.told.1 c.in_ok-answer.answer c.in_ok-answer.ensures.told.2
      (loaded_less (last c.args.self.now.seat.events) (last c.loop.self.seat.events) c.loop.invariant.1.drawn
      c.in_ok-answer.answer c.in_ok-answer.ensures.loaded));
  lossless = λ none. tt;
}

pub loop-preserved : goal.loop-preserved
loop-preserved g c = (
  c.pass.ensures.at ∙ (c.look.ensures.at ∙ c.loop.invariant.0),
  sees_more c.args.self.now.seat c.look.new.self.seat c.pass.new.self.seat
      (sees_more c.args.self.now.seat c.loop.self.seat c.look.new.self.seat c.loop.invariant.1 c.look.ensures.seat)
      c.pass.ensures.seat,
)

pub returns-clause-seat : goal.returns-clause-seat
returns-clause-seat g c =
    sees_more c.args.self.now.seat c.loop.self.seat c.look-2.new.self.seat c.loop.invariant.1 c.look-2.ensures.seat

pub returns-clause-finds : goal.returns-clause-finds
returns-clause-finds g c =
    subst (λ (n : ℕ). IfOk c.look-2.result (FindsAt g.J.JournalId.bounds c.look-2.new.self.seat.events n
    c.args.read.now))
    c.loop.invariant.0
    (if_found_by g.J.JournalId.bounds c.look-2.new.self.seat.events c.loop.self.at c.args.read.now c.look-2.ensures.run
    c.look-2.result c.look-2.ensures.told)

pub returns-clause-may : goal.returns-clause-may
returns-clause-may g c =
    let seen = last c.args.self.now.seat.events in
    subst (λ (n : ℕ). IfOk c.look-2.result (IsAnswerTo c.look-2.new.self.seat.events seen n c.args.read.now))
    c.loop.invariant.0
    (if_may_be g.J.JournalId.bounds c.look-2.new.self.seat.events c.look-2.ensures.run seen c.loop.self.at
    c.args.read.now c.look-2.result c.look-2.ensures.told
    (if_loaded_less seen (last c.loop.self.seat.events) c.loop.invariant.1.drawn c.look-2.result
    c.look-2.ensures.loaded))
