use Rattle.std.proofs.Common.{◌≡◌, All, false, Option, Some, None, ap, refl, sym, subst, ◌∙◌, ℕ}
use Rattle.std.proofs.lemmas.Bool.{eqb-true}
use Rattle.std.specs.Prelude.{is_some}
use Rattle.tx_core.specs.declared.event.Outcome.{Outcome}
use Rattle.tx_core.specs.Histories.{History, Begins}
use Rattle.tx_core.specs.declared.event.Event.TheVariants.{Answered}
use Rattle.tx_client.specs.Calls.{HasHeard, Records}
use Rattle.tx_journal.specs.Known.{Known}
use Rattle.tx_transaction.specs.Sessions.{SessionState, finish_of}
use Rattle.tx_workload.specs.declared.reply.LineAnswer.TheVariants.{Ended}
use Rattle.tx_workload.specs.Logs.{KeepsAnswer, KeepsOutcome, Logged, TellsBy}
use Rattle.tx_transfer.specs.Transfers.{IsBetween}
use Rattle.tx_transfer.specs.Transfers.{MovesSome}
use Rattle.tx_transfer.proofs.TransferWrites.{ends_between}
use Rattle.tx_workload.specs.Pairs.{TellsPair}
use Rattle.tx_workload.specs.Tells.{TellsLine}
use Rattle.tx_workload.proofs.SessionAnswers.{can_tell}
use Rattle.tx_workload.proofs.log.RunLog.finish.Goals as goal

none_of : (o : Option Outcome) → is_some o ≡ false → o ≡ None
none_of None is = refl
none_of (Some x) is = absurd (cc (is))

pub returns-then-is_none-clause-open_yet : goal.returns-then-is_none-clause-open_yet
returns-then-is_none-clause-open_yet g c =
    let bounds = g.J.JournalId.bounds in
    let old = c.args.session in
    let new = c.learn_told.new.self in
    let told = c.copy.ensures.copy ∙ ap (λ (l : Logged). l.told) c.self.view_is in (
      subst (λ (s : SessionState). finish_of s ≡ None) (c.transaction.ensures ∙ c.learn_told.ensures.state)
          (sym c.outcome.ensures ∙ none_of c.outcome.result c.if-is_none.ensures),
      c.learn_told.ensures.state,
      subst (λ (h : History). HasHeard bounds old.seat h new.seat) told c.learn_told.ensures.after_answer,
    )

pub learn_outcome-requires-clause-tell : goal.learn_outcome-requires-clause-tell
learn_outcome-requires-clause-tell g c =
    let bounds = g.J.JournalId.bounds in
    let k = c.learn_told.new.self.seat in
    let log : Logged = record {
      seat = c.self.inside.seat;
      told = c.copy.new.told;
      replies =
          c.self.inside.replies.items;
      lost = c.self.inside.lost;
    } in
    let knew = subst (λ (h : History). Begins h k.events) (c.copy.ensures.copy
    ∙ sym c.copy.ensures.same) c.learn_told.ensures.after_answer.knows in
    let records = subst (λ (t : ℕ). Records bounds k (Answered t c.in-Ok.outcome) c.in-Ok.seat)
    (sym c.start-start.ensures) c.in-Ok.ensures.ended.1 in
    let same = sym c.number.ensures.number ∙ eqb-true _ _ (sym c.if-eq.ensures) in
    let state = c.learn_told.new.self.state in
    let moves = subst (λ (s : SessionState). MovesSome c.args.keys s) (sym c.learn_told.ensures.state)
    c.requires.moves in
    let between = subst (λ (t : ℕ). IsBetween k.events t c.in-Ok.outcome c.args.keys) (sym c.start-start.ensures)
    (ends_between bounds k.events state c.in-Ok.outcome c.args.keys c.show.ensures.run c.show.ensures.stands
    c.in-Ok.ensures.ended.2 moves) in
    let tells = subst (λ (h : History). TellsBy h c.self.inside.seat c.self.inside.replies.items)
    (sym c.copy.ensures.same) c.self.invariant.0 in
    can_tell bounds log k c.start-start.result c.in-Ok.outcome c.args.keys c.in-Ok.seat knew records same between tells

pub returns-then-eq-clause-kept : goal.returns-then-eq-clause-kept
returns-then-eq-clause-kept g c =
    subst (λ (l : Logged). KeepsOutcome l c.args.number c.args.keys c.learn_outcome.new.self) c.self.view_is
    (c.start-start.result, c.in-Ok.outcome, c.learn_outcome.ensures.kept)

pub returns-then-eq-clause-finished : goal.returns-then-eq-clause-finished
returns-then-eq-clause-finished g c =
    let bounds = g.J.JournalId.bounds in
    let old = c.args.session in
    let mid = c.learn_told.new.self.seat in
    let o = c.in-Ok.outcome in
    let told = c.copy.ensures.copy ∙ ap (λ (l : Logged). l.told) c.self.view_is in
    let start = c.start-start.ensures ∙ ap (λ (s : SessionState). s.start) c.learn_told.ensures.state in (
      o,
      record {
        mid = mid;
        heard = subst (λ (h : History). HasHeard bounds old.seat h mid) told c.learn_told.ensures.after_answer;
        is = subst (λ (s : SessionState). finish_of s ≡ Some o) c.learn_told.ensures.state c.in-Ok.ensures.ended.0;
        records = subst (λ (k : Known). Records bounds mid (Answered old.state.start o) k)
            (sym c.learn_outcome.ensures.back)
            (subst (λ (s : SessionState). Records bounds mid (Answered s.start o) c.in-Ok.seat)
            c.learn_told.ensures.state c.in-Ok.ensures.ended.1);
      },
      subst (λ (t : ℕ). KeepsAnswer c.args.self.now c.args.number (Ended t o c.args.keys)
          c.learn_outcome.new.self) start
          (subst (λ (l : Logged). KeepsAnswer l c.args.number (Ended c.start-start.result o c.args.keys)
          c.learn_outcome.new.self) c.self.view_is c.learn_outcome.ensures.kept),
    )

pub invariant_of-self : goal.invariant_of-self
invariant_of-self g c =
    let xs = c.self.inside.replies.items in
    subst (λ (h : History). TellsBy h c.self.inside.seat xs × All (TellsPair g.L.Source.text) xs
    × All (TellsLine g.L.Source.text g.J.JournalId.bounds h) xs) (sym c.copy.ensures.same) c.self.invariant

pub invariant_of-self-2 : goal.invariant_of-self-2
invariant_of-self-2 g c =
    let xs = c.self.inside.replies.items in
    subst (λ (h : History). TellsBy h c.self.inside.seat xs × All (TellsPair g.L.Source.text) xs
    × All (TellsLine g.L.Source.text g.J.JournalId.bounds h) xs) (sym c.copy.ensures.same) c.self.invariant

pub invariant_of-self-then-eq : goal.invariant_of-self-then-eq
invariant_of-self-then-eq g c =
    let xs = c.self.inside.replies.items in
    subst (λ (h : History). TellsBy h c.self.inside.seat xs × All (TellsPair g.L.Source.text) xs
    × All (TellsLine g.L.Source.text g.J.JournalId.bounds h) xs) (sym c.copy.ensures.same) c.self.invariant
