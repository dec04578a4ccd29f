use Rattle.std.proofs.Common.{ℕ, List, sym, subst, ◌∙◌, Ok}
use Rattle.tx_types.specs.Lengths.{is_key}
use Rattle.tx_client.specs.Walks.{Sends, get_walk}
use Rattle.tx_ops.proofs.CallWalks.{read_unkeyed, read_short, read_sent}
use Rattle.tx_ops.proofs.calls.get.Goals as goal

pub returns-then-not-is_key : goal.returns-then-not-is_key
returns-then-not-is_key g c =
    read_unkeyed g.S.Sender.sends g.J.JournalId.bounds c.args.session.now c.args.sender.now (is_key c.args.key.now)
    (get_walk c.args.session.now.state c.args.key.now) (sym c.if-not-is_key.ensures)

pub returns-in_default : goal.returns-in_default
returns-in_default g c =
    read_short g.S.Sender.sends g.J.JournalId.bounds c.args.session.now c.args.sender.now (is_key c.args.key.now)
    (get_walk c.args.session.now.state c.args.key.now) (sym c.if-not-is_key.ensures)

pub returns : goal.returns
returns g c =
    let old = c.args.session.now in
    let new = c.get.new.self in
    read_sent g.S.Sender.sends g.J.JournalId.bounds old c.args.sender.now (is_key c.args.key.now)
    (get_walk old.state c.args.key.now) (sym c.if-not-is_key.ensures) new c.get.new.sender c.get.result
    c.reply_to.result
    (subst (λ (k : List ℕ). Sends g.S.Sender.sends g.J.JournalId.bounds old.seat c.args.sender.now
    (get_walk old.state k)
    (new.state, c.get.result) c.get.new.sender new.seat) (c.in-Ok.ensures.ok ∙ c.as_bytes.ensures.value)
    c.get.ensures) c.reply_to.ensures
