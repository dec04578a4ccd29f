use Rattle.std.proofs.Common.{ap, subst, ◌∙◌}
use Rattle.tx_types.specs.Keys.{AreRising}
use Rattle.tx_core.specs.Histories.{Begins}
use Rattle.tx_client.specs.Calls.{Seated}
use Rattle.tx_update.proofs.CallSequences.{follows_more, follows_scan, goes_begins}
use Rattle.tx_update.proofs.ReadReplies.{scan_answered}
use Rattle.tx_update.proofs.ReadAnswers.{if_scan_finds, if_scan_tells}
use Rattle.tx_update.proofs.session.Running.scan.Goals as goal

pub invariant_of-self : goal.invariant_of-self
invariant_of-self g c =
    let old = c.self.inside.session in
    let new = c.scan-result.new.self in
    let both = follows_scan g.S.Sender.sends g.J.JournalId.bounds old new _ _ c.args.from.now c.args.to.now c.args.limit
    c.scan-result.result c.scan-result.ensures in
    (c.self.invariant.0, follows_more g.B.Begun.session old new c.self.invariant.1 both.0, c.self.invariant.2)

pub returns-clause-same : goal.returns-clause-same
returns-clause-same g c =
    let both = follows_scan g.S.Sender.sends g.J.JournalId.bounds c.self.inside.session c.scan-result.new.self _ _
    c.args.from.now c.args.to.now c.args.limit c.scan-result.result c.scan-result.ensures in
    both.1 ∙ ap (λ (s : Seated). s.state.buffer) c.self.view_is

pub returns-clause-reads : goal.returns-clause-reads
returns-clause-reads g c =
    if_scan_finds g.J.JournalId.bounds g.S.Sender.fits g.S.Sender.sends g.S.Sender.keys_between c.self.invariant.0
    c.self.inside.session c.args.self.now c.scan-result.new.self g.B.Begun.session.state.start c.self.view_is
    c.self.invariant.1.start _ _
    (subst AreRising (c.self.invariant.0.between _) c.bounds-bounds.ensures.rising) c.show.ensures.run c.args.from.now
    c.args.to.now c.args.limit
    c.scan-result.result c.scan-result.ensures

pub returns-clause-more : goal.returns-clause-more
returns-clause-more g c =
    let old = c.self.inside.session in
    let new = c.scan-result.new.self in
    let both = follows_scan g.S.Sender.sends g.J.JournalId.bounds old new _ _ c.args.from.now c.args.to.now c.args.limit
    c.scan-result.result c.scan-result.ensures in
    subst (λ (s : Seated). Begins s.seat.events new.seat.events) c.self.view_is
    (goes_begins old.seat new.seat both.0.seat)

pub returns-clause-tells : goal.returns-clause-tells
returns-clause-tells g c =
    if_scan_tells g.J.JournalId.bounds g.S.Sender.fits g.S.Sender.sends g.S.Sender.keys_between c.self.invariant.0
    c.self.inside.session c.args.self.now c.scan-result.new.self g.B.Begun.session.state.start c.self.view_is
    c.self.invariant.1.start _ _
    (subst AreRising (c.self.invariant.0.between _) c.bounds-bounds.ensures.rising) c.show.ensures.run c.args.from.now
    c.args.to.now c.args.limit
    c.scan-result.result c.scan-result.ensures

pub returns-clause-may : goal.returns-clause-may
returns-clause-may g c = λ drawn.
    (scan_answered g.J.JournalId.bounds g.S.Sender.fits g.S.Sender.sends g.S.Sender.keys_between c.self.invariant.0
    g.B.Begun.session c.self.inside.session c.scan-result.new.self c.self.invariant.1.seat c.self.invariant.1.start _ _
    c.args.from.now c.args.to.now c.args.limit c.scan-result.result c.scan-result.ensures drawn).0

pub returns-clause-misses : goal.returns-clause-misses
returns-clause-misses g c = λ drawn.
    (scan_answered g.J.JournalId.bounds g.S.Sender.fits g.S.Sender.sends g.S.Sender.keys_between c.self.invariant.0
    g.B.Begun.session c.self.inside.session c.scan-result.new.self c.self.invariant.1.seat c.self.invariant.1.start _ _
    c.args.from.now c.args.to.now c.args.limit c.scan-result.result c.scan-result.ensures drawn).1
