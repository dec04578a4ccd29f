use Rattle.std.proofs.Common.{◌+◌, ◌++◌, sym, ap, subst, ◌∙◌, All, List, ℕ}
use Rattle.tx_core.proofs.seats.Beginnings.{begins_more, extends_begins}
use Rattle.tx_workload.specs.declared.reply.LineReply.{LineReply}
use Rattle.tx_core.specs.Histories.{History, Begins}
use Rattle.std.proofs.lemmas.List.Elements.{All-append}
use Rattle.tx_workload.specs.Outcomes.{TellsOutcomes}
use Rattle.tx_workload.specs.Pairs.{TellsPair}
use Rattle.tx_workload.specs.Tells.{TellsLine}
use Rattle.tx_workload.specs.Logs.{TellsBy}
use Rattle.tx_run.specs.Jobs.{IsAbove, Output, Joins}
use Rattle.tx_workload.proofs.SessionAnswers.{tells_on}
use Rattle.tx_workload.proofs.Evidence.{lines_tell_on}
use Rattle.tx_run.proofs.AllAnswers.{joined, joined_above, outcomes_on, all_above_on, some_more}
use Rattle.tx_run.proofs.sessions.join.Goals as goal

pub returns-clause-told : goal.returns-clause-told
returns-clause-told g c =
    let bounds = g.J.JournalId.bounds in
    let old = c.args.seat.now.events in
    let now = c.learn.new.self.events in
    let run = c.learn.ensures.seen.run in
    let mid = c.learn_last.new.seat in
    let more = begins_more old mid.events now c.learn_last.ensures.grew
    (extends_begins mid.seat mid.events now c.learn.ensures.seen.extends) in
    let log = c.output.inside.log in
    let seat = c.args.output.log.seat in
    let xs = c.args.replies.now in
    let same = ap (λ (o : Output). o.log.seat) c.output.view_is in
    let knows = subst (λ (h : History). Begins h now) c.into_parts-told.ensures.parts.0 c.learn.ensures.told in
    let tells = subst (λ (s : ℕ). TellsBy now s log.replies) same
    (tells_on bounds log.told now run knows log.seat log.replies c.into_parts-told.ensures.told) in
    let all = c.in_ok-add.ensures ∙ ap (λ (l : List LineReply). xs ++ l) c.into_parts-told.ensures.parts.1 in
    subst (λ (l : List LineReply). TellsOutcomes now l) (sym all)
    (joined now seat xs log.replies (outcomes_on bounds old now run more xs c.requires.told)
    (all_above_on bounds old now run more (seat + 1) xs c.requires.above) tells)

pub returns-clause-above : goal.returns-clause-above
returns-clause-above g c =
    let bounds = g.J.JournalId.bounds in
    let old = c.args.seat.now.events in
    let now = c.learn.new.self.events in
    let run = c.learn.ensures.seen.run in
    let mid = c.learn_last.new.seat in
    let more = begins_more old mid.events now c.learn_last.ensures.grew
    (extends_begins mid.seat mid.events now c.learn.ensures.seen.extends) in
    let log = c.output.inside.log in
    let seat = c.args.output.log.seat in
    let xs = c.args.replies.now in
    let same = ap (λ (o : Output). o.log.seat) c.output.view_is in
    let knows = subst (λ (h : History). Begins h now) c.into_parts-told.ensures.parts.0 c.learn.ensures.told in
    let tells = subst (λ (s : ℕ). TellsBy now s log.replies) same
    (tells_on bounds log.told now run knows log.seat log.replies c.into_parts-told.ensures.told) in
    let all = c.in_ok-add.ensures ∙ ap (λ (l : List LineReply). xs ++ l) c.into_parts-told.ensures.parts.1 in
    subst (λ (l : List LineReply). All (λ s. IsAbove now seat s.answer) l) (sym all)
    (joined_above now seat xs log.replies (all_above_on bounds old now run more (seat + 1) xs c.requires.above) tells)

pub returns-clause-pairs : goal.returns-clause-pairs
returns-clause-pairs g c =
    let xs = c.args.replies.now in
    let log = c.output.inside.log in
    let all = c.in_ok-add.ensures ∙ ap (λ (l : List LineReply). xs ++ l) c.into_parts-told.ensures.parts.1 in
    subst (λ (l : List LineReply). All (TellsPair g.L.Source.text) l) (sym all)
    (All-append (TellsPair g.L.Source.text) xs log.replies c.requires.pairs c.into_parts-told.ensures.pairs)

pub returns-clause-tells : goal.returns-clause-tells
returns-clause-tells g c =
    let source = g.L.Source.text in
    let bounds = g.J.JournalId.bounds in
    let old = c.args.seat.now.events in
    let now = c.learn.new.self.events in
    let mid = c.learn_last.new.seat in
    let more = begins_more old mid.events now c.learn_last.ensures.grew
    (extends_begins mid.seat mid.events now c.learn.ensures.seen.extends) in
    let log = c.output.inside.log in
    let xs = c.args.replies.now in
    let knows = subst (λ (h : History). Begins h now) c.into_parts-told.ensures.parts.0 c.learn.ensures.told in
    let all = c.in_ok-add.ensures ∙ ap (λ (l : List LineReply). xs ++ l) c.into_parts-told.ensures.parts.1 in
    subst (λ (l : List LineReply). All (TellsLine source bounds now) l) (sym all)
    (All-append (TellsLine source bounds now) xs log.replies
    (lines_tell_on source bounds old now more xs c.requires.tells)
    (lines_tell_on source bounds log.told now knows log.replies c.into_parts-told.ensures.tells))

pub returns-clause-joins : goal.returns-clause-joins
returns-clause-joins g c =
    let old = c.args.seat.now.events in
    let now = c.learn.new.self.events in
    let log = c.output.inside.log in
    let xs = c.args.replies.now in
    let output : Output = record {
      number = c.output.inside.number;
      log = log;
      faulted = c.output.inside.faulted;
      stage = c.output.inside.stage;
      last = c.output.inside.last;
    } in
    let mid = c.learn_last.new.seat in
    let on = extends_begins mid.seat mid.events now c.learn.ensures.seen.extends in
    subst (λ (o : Output). Joins old xs o now c.add.new.self) c.output.view_is (record {
      learnt = record {
        kept = sym c.into_parts-told.ensures.parts.2 ∙ c.if-lost.false;
        tells =
            c.into_parts-told.ensures.told;
        knows =
            subst (λ (h : History). Begins h now) c.into_parts-told.ensures.parts.0 c.learn.ensures.told;
        knew = some_more mid.events now on c.output.inside.last c.learn_last.ensures.knows;
      };
      grew = begins_more old mid.events now c.learn_last.ensures.grew on;
      all = c.in_ok-add.ensures ∙ ap (λ (l : List LineReply). xs ++ l) c.into_parts-told.ensures.parts.1;
    })
