use Rattle.std.proofs.Common.{◌≡◌, ◌∙◌, ◌-◌, length, inl, inr, Some, sym, subst}
use Rattle.tx_plan.specs.declared.body.Body.{Body}
use Rattle.tx_types.specs.Keys.{AreRising}
use Rattle.tx_journal.specs.Senders.{IsHeld}
use Rattle.tx_client.specs.Rooms.{IsScan}
use Rattle.tx_client.specs.Walks.{part_of, greater, low_of, high_of}
use Rattle.tx_client.proofs.Routes.{held_part}
use Rattle.tx_client.proofs.Scans.{part_body, part_short, part_some}
use Rattle.tx_client.proofs.session.Session.read_part.Goals as goal

pub look_part-requires-clause-held : goal.look_part-requires-clause-held
look_part-requires-clause-held g c =
    let bounds = g.J.JournalId.bounds in
    let s = c.args.self.now.state in
    let from = c.args.from.now in
    let to = c.args.to.now in
    let between : c.bounds.result.now ≡ bounds = c.bounds.ensures.value ∙ c.requires.way.between c.args.sender.now in
    let is : part_of s (greater from (low_of from bounds c.args.n)) (high_of to bounds c.args.n) c.left-left.result
    ≡ Some c.in-Ok-Some.body = (λ j. part_of s (greater from (low_of from (sym between j) c.args.n))
    (high_of to (sym between j) c.args.n) c.left-left.result) ∙ sym c.in-Ok-Some.ensures.ok
    ∙ c.in-Ok-Some.field-0-is in
    subst (λ (b : Body). IsHeld bounds b) (sym (part_body s (greater from (low_of from bounds c.args.n))
    (high_of to bounds c.args.n) c.left-left.result c.in-Ok-Some.body is)) (held_part bounds s from to c.args.n
    c.left-left.result (subst AreRising (c.requires.way.between c.args.sender.now) c.bounds.ensures.rising)
    c.requires.within)

pub look_part-requires-clause-left : goal.look_part-requires-clause-left
look_part-requires-clause-left g c =
    let bounds = g.J.JournalId.bounds in
    let s = c.args.self.now.state in
    let from = c.args.from.now in
    let to = c.args.to.now in
    let between : c.bounds.result.now ≡ bounds = c.bounds.ensures.value ∙ c.requires.way.between c.args.sender.now in
    let is : part_of s (greater from (low_of from bounds c.args.n)) (high_of to bounds c.args.n) c.left-left.result
    ≡ Some c.in-Ok-Some.body = (λ j. part_of s (greater from (low_of from (sym between j) c.args.n))
    (high_of to (sym between j) c.args.n) c.left-left.result) ∙ sym c.in-Ok-Some.ensures.ok
    ∙ c.in-Ok-Some.field-0-is in
    subst (λ (b : Body). IsScan (c.args.limit - length c.args.rows) b)
    (sym (part_body s (greater from (low_of from bounds c.args.n)) (high_of to bounds c.args.n) c.left-left.result
    c.in-Ok-Some.body is)) c.left-left.ensures

pub returns-in-Ok-Some : goal.returns-in-Ok-Some
returns-in-Ok-Some g c =
    let bounds = g.J.JournalId.bounds in
    let s = c.args.self.now.state in
    let from = c.args.from.now in
    let to = c.args.to.now in
    let between : c.bounds.result.now ≡ bounds = c.bounds.ensures.value ∙ c.requires.way.between c.args.sender.now in
    let is : part_of s (greater from (low_of from bounds c.args.n)) (high_of to bounds c.args.n) c.left-left.result
    ≡ Some c.in-Ok-Some.body = (λ j. part_of s (greater from (low_of from (sym between j) c.args.n))
    (high_of to (sym between j) c.args.n) c.left-left.result) ∙ sym c.in-Ok-Some.ensures.ok
    ∙ c.in-Ok-Some.field-0-is in
    elim c.look_part.ensures [
      | inl short ↦ part_short g.S.Sender.sends bounds c.args.self.now.seat c.args.sender.now c.look_part.new.sender s
          (greater from (low_of from bounds c.args.n))
          (high_of to bounds c.args.n) c.args.limit c.args.rows c.look_part.result c.look_part.new.self short.0 short.1
          short.2
      | inr sent ↦ part_some g.S.Sender.sends bounds c.args.self.now.seat c.look_part.new.self.seat c.args.sender.now
          c.look_part.new.sender s c.look_part.new.self.state (greater from (low_of from bounds c.args.n))
          (high_of to bounds c.args.n) c.left-left.result c.args.limit c.args.rows c.in-Ok-Some.body c.look_part.result
          c.left-left.ensures is sent
    ]
