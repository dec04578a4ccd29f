use Rattle.std.proofs.Common.{◌≡◌, ◌++◌, All, map, take}
use Rattle.tx_workload.specs.Answers.{IsReply, numbers_of}
use Rattle.tx_workload.specs.PlayedSeeds.{AddsSeeds}
use Rattle.tx_workload.specs.Tells.{TellsLine}
use Rattle.tx_workload.proofs.seeds.play_seeds.Given as goal

abbrev pub invariant-loop-line : goal.invariant-loop-line
invariant-loop-line g l = record {
  quiet : All (λ s. IsReply s.answer) l.replies.items;
  tells : All (TellsLine g.L.Source.text g.J.JournalId.bounds l.seat.events) l.replies.items;
  adds : AddsSeeds g.J.JournalId.bounds g.L.Source.text l.fn.seat l.fn.replies.items l.seat l.replies.items;
  each : numbers_of l.replies.items
      ≡ numbers_of l.fn.replies.items ++ map (λ line. line.number) (take l.line-index l.seeds);
}
