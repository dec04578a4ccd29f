use Rattle.std.proofs.Common.{◌≡◌, IfErr, IfOk, sym, subst}
use Rattle.tx_core.specs.Allowed.{Allowed}
use Rattle.tx_core.specs.Histories.{last}
use Rattle.tx_core.specs.Worlds.{IsWorldRun}
use Rattle.tx_transaction.specs.Returns.{Response}
use Rattle.tx_transaction.specs.declared.state.Miss.TheVariants.{Fault as Short}
use Rattle.tx_reader.specs.Readers.{Reading, OnlySees, LoadedFrom}
use Rattle.tx_reader.proofs.Observers.{held_of, sees_itself, learns_sees, keeps_learnt, short_alone}
use Rattle.tx_reader.proofs.ReadAnswers.{asked_loads}
use Rattle.tx_reader.proofs.reader.Reader.look.Goals as goal

pub returns-in_default-clause-seat : goal.returns-in_default-clause-seat
returns-in_default-clause-seat g c = sees_itself c.args.self.now.seat

pub ask-requires-clause-held : goal.ask-requires-clause-held
ask-requires-clause-held g c =
    held_of g.J.JournalId.bounds c.args.read.now c.requires.held c.args.self.now.at c.in-Ok.body c.in-Ok.ensures.0

pub ask-requires-clause-allowed : goal.ask-requires-clause-allowed
ask-requires-clause-allowed g c =
    subst (λ (r : Reading). Allowed r.seat.events c.in-Ok.body) (sym c.self.view_is) c.in-Ok.ensures.1

pub invariant_of-self : goal.invariant_of-self
invariant_of-self g c =
    keeps_learnt g.J.JournalId.bounds c.self.inside.seat c.ask.new.seat c.self.inside.at c.self.inside.passed
    c.self.invariant c.ask.ensures.asked.reached c.ask.ensures.asked.learns

pub returns-clause-seat : goal.returns-clause-seat
returns-clause-seat g c =
    subst (λ (r : Reading). OnlySees r.seat c.ask.new.seat) c.self.view_is
    (learns_sees g.J.JournalId.bounds c.self.inside.seat c.ask.new.seat c.ask.ensures.asked.reached
    c.ask.ensures.asked.learns)

pub returns-in_default-clause-run : goal.returns-in_default-clause-run
returns-in_default-clause-run g c =
    subst (λ (r : Reading). IsWorldRun g.J.JournalId.bounds r.seat.events) c.self.view_is c.self.invariant.0

pub returns-clause-run : goal.returns-clause-run
returns-clause-run g c =
    (keeps_learnt g.J.JournalId.bounds c.self.inside.seat c.ask.new.seat c.self.inside.at c.self.inside.passed
    c.self.invariant c.ask.ensures.asked.reached c.ask.ensures.asked.learns).0

pub returns-clause-lossless : goal.returns-clause-lossless
returns-clause-lossless g c lossless =
    subst (λ (r : Response). IfErr r (λ m. m ≡ Short)) (sym c.ask.ensures.asked.is)
    (short_alone g.S.Sender.sends lossless _ _ _ c.ask.ensures.asked.reached c.ask.ensures.asked.sent)

pub returns-clause-loaded : goal.returns-clause-loaded
returns-clause-loaded g c =
    subst (λ (r : Reading). IfOk c.ask.result (LoadedFrom (last r.seat.events))) c.self.view_is
    (asked_loads g.J.JournalId.bounds g.S.Sender.fits g.S.Sender.sends g.S.Sender.keys_between c.requires.way
    c.self.inside.seat c.ask.new.seat c.args.sender.now c.ask.new.sender c.args.self.now.at c.args.read.now
    c.in-Ok.body c.in-Ok.ensures.0 c.ask.result c.ask.ensures.asked)
