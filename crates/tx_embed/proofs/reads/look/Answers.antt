use Rattle.std.proofs.Common.{refl}
use Rattle.tx_transaction.specs.Buffers.{buffered}
use Rattle.tx_update.proofs.CallSequences.{follows_get, goes_itself}
use Rattle.tx_update.proofs.ReadReplies.{get_answered}
use Rattle.tx_update.proofs.ReadAnswers.{if_get_finds}
use Rattle.tx_embed.proofs.Found.{if_read_now}
use Rattle.tx_embed.proofs.reads.look.Goals as goal

pub returns : goal.returns
returns g c =
    let old = c.args.session.now in
    let new = c.get-answer.new.self in
    let both = follows_get g.S.Sender.sends g.J.JournalId.bounds old new _ _ c.args.key.now c.get-answer.result
    c.get-answer.ensures in
    let told = get_answered g.J.JournalId.bounds g.S.Sender.fits g.S.Sender.sends g.S.Sender.keys_between
    c.requires.way old old new (goes_itself old.seat) refl _ _ c.args.key.now c.get-answer.result c.get-answer.ensures
    c.requires.drawn in (
      both,
      if_read_now g.J.JournalId.bounds (buffered old.state.buffer c.args.key.now) new.seat.events c.show.ensures.run
          old.state.start c.args.key.now c.get-answer.result
          (if_get_finds g.J.JournalId.bounds g.S.Sender.fits g.S.Sender.sends g.S.Sender.keys_between c.requires.way
          old old new old.state.start refl refl _ _ c.args.key.now c.get-answer.result c.get-answer.ensures),
      told.0,
      told.1,
    )
