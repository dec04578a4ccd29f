use Rattle.std.proofs.Common.{append-nil, arith, ◌++◌, ◌∷◌, [], if◌then◌else◌, All, Bool, List, Ok, not, refl, ap, sym, subst, ◌∙◌}
use Rattle.std.proofs.lemmas.List.Elements.{All-push}
use Rattle.tx_workload.specs.declared.reply.LineAnswer.TheVariants.{Plain}
use Rattle.tx_workload.specs.declared.reply.LineReply.{LineReply}
use Rattle.tx_workload.specs.Answers.{IsReply, numbers_of}
use Rattle.tx_workload.specs.Tells.{TellsLine}
use Rattle.tx_workload.proofs.Evidence.{lines_tell_on}
use Rattle.tx_workload.proofs.SeedAnswers.{adds_more, adds_none, one_more}
use Rattle.tx_workload.proofs.seeds.play_seeds.Goals as goal

pub loop-line-init : goal.loop-line-init
loop-line-init g c =
    let items = c.args.replies.now.items in
    record {
      quiet = c.requires.quiet;
      tells = c.requires.tells;
      adds = adds_none g.J.JournalId.bounds g.L.Source.text c.args.seat items;
      each = sym (append-nil (numbers_of items));
    }

pub loop-line-preserved : goal.loop-line-preserved
loop-line-preserved g c =
    let source = g.L.Source.text in
    let bounds = g.J.JournalId.bounds in
    let before = c.loop-line.invariant in
    let line = c.line-item.result in
    let plain = c.play-next.result.1 in
    let old = c.loop-line.replies.items in
    let h = c.play-next.result.0.events in
    let x : LineReply = record { number = line.number; answer = Plain (Ok plain) } in
    let items = c.push.ensures.items
    ∙ ap (λ (b : Bool). if b then old ++ x ∷ [] else old) (c.is_err.ensures.negation ∙ ap not c.if-is_err.false) in
    record {
      quiet = subst (λ (l : List LineReply). All (λ s. IsReply s.answer) l) (sym items)
          (All-push (λ s. IsReply s.answer) old x before.quiet (refl, refl));
      tells = subst (λ (l : List LineReply). All (TellsLine source bounds h) l) (sym items)
          (All-push (TellsLine source bounds h) old x
          (lines_tell_on source bounds c.loop-line.seat.events h c.play-next.ensures.knows old before.tells)
          c.play-next.ensures.tells);
      adds = adds_more bounds source c.args.seat c.loop-line.seat c.play-next.result.0 c.args.replies.now.items old
          c.push.new.self.items x before.adds items c.play-next.ensures.plays;
      each = one_more (λ line. line.number) (numbers_of c.args.replies.now.items) c.args.seeds.now
          c.loop-line.line-index line old c.push.new.self.items x (omega (arith, c.loop-line-test.true)) c.line-item.is
          items refl before.each;
    }
