use Rattle.std.proofs.Common.{All, ◌++◌, ℕ, List, map, sym, ap, subst, ◌∙◌}
use Rattle.tx_workload.specs.declared.reply.LineReply.{LineReply}
use Rattle.tx_core.proofs.seats.Beginnings.{begins_all}
use Rattle.tx_journal.specs.Known.{Known}
use Rattle.tx_workload.specs.PlayedSeeds.{PlaysSeeds}
use Rattle.tx_workload.specs.Answers.{numbers_of}
use Rattle.tx_workload.specs.Tells.{TellsLine}
use Rattle.tx_run.proofs.play.play_opening.Goals as goal

pub returns-clause-each : goal.returns-clause-each
returns-clause-each g c =
    ap numbers_of c.in_ok-add.ensures
    ∙ ap (λ (l : List LineReply). numbers_of (l ++ c.play_seeds.new.replies.items)) c.new-replies.ensures
    ∙ c.in_ok-seat.ensures.each
    ∙ ap (λ (l : List ℕ). l ++ map (λ s. s.number) c.args.seeds.now) c.in_ok-write_regions.ensures.each

pub returns-clause-tells : goal.returns-clause-tells
returns-clause-tells g c =
    let items = c.play_seeds.new.replies.items in
    let all = c.in_ok-add.ensures ∙ ap (λ (l : List LineReply). l ++ items) c.new-replies.ensures in
    subst (λ (l : List LineReply). All (TellsLine g.L.Source.text g.J.JournalId.bounds c.in_ok-seat.seat.events) l)
    (sym all) c.in_ok-seat.ensures.tells

pub returns-clause-opened : goal.returns-clause-opened
returns-clause-opened g c =
    let bounds = g.J.JournalId.bounds in
    let source = g.L.Source.text in
    let adds = c.in_ok-seat.ensures.plays in
    record {
      first = c.write_regions.new.replies.items;
      opening = c.in_ok-write_regions.ensures.each;
      seeds = adds.seeds;
      all = c.in_ok-add.ensures
          ∙ ap (λ (l : List LineReply). l ++ c.play_seeds.new.replies.items) c.new-replies.ensures ∙ adds.all;
      seat = c.args.seat.seat;
      last = c.in_ok-seat.seat;
      plays = subst (λ (k : Known). PlaysSeeds bounds source k adds.seeds c.in_ok-seat.seat) c.requires.fresh
          adds.plays;
      knew = begins_all c.in_ok-seat.seat.events;
    }
