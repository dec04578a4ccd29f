use Rattle.std.proofs.Common.{refl, subst}
use Rattle.tx_types.specs.Keys.{AreRising}
use Rattle.tx_update.proofs.CallSequences.{follows_scan, goes_itself}
use Rattle.tx_update.proofs.ReadReplies.{scan_answered}
use Rattle.tx_update.proofs.ReadAnswers.{if_scan_finds}
use Rattle.tx_embed.proofs.ScanLocks.{scan_within}
use Rattle.tx_embed.proofs.reads.look_from.Goals as goal

pub returns : goal.returns
returns g c =
    let old = c.args.session.now in
    let new = c.scan-answer.new.self in
    let from = c.args.from.now in
    let to = c.args.to.now in
    let both = follows_scan g.S.Sender.sends g.J.JournalId.bounds old new _ _ from to 1 c.scan-answer.result
    c.scan-answer.ensures in
    let told = scan_answered g.J.JournalId.bounds g.S.Sender.fits g.S.Sender.sends g.S.Sender.keys_between
    c.requires.way old old new (goes_itself old.seat) refl _ _ from to 1 c.scan-answer.result c.scan-answer.ensures
    c.requires.drawn in (
      both,
      if_scan_finds g.J.JournalId.bounds g.S.Sender.fits g.S.Sender.sends g.S.Sender.keys_between c.requires.way old old
          new old.state.start refl refl _ _
          (subst AreRising (c.requires.way.between _) c.bounds-bounds.ensures.rising) c.show.ensures.run from to 1
          c.scan-answer.result c.scan-answer.ensures,
      told.0,
      told.1,
      scan_within g.J.JournalId.bounds g.S.Sender.fits g.S.Sender.sends g.S.Sender.keys_between c.requires.way old new
          _ _ from to 1 c.scan-answer.result c.scan-answer.ensures,
    )
