use Rattle.std.proofs.Common.{ℕ, ◌&&◌, List, sym, subst, Ok}
use Rattle.tx_types.specs.Lengths.{is_key}
use Rattle.tx_client.specs.Walks.{Sends, scan_walk}
use Rattle.tx_ops.proofs.CallWalks.{read_unkeyed, read_short, read_sent}
use Rattle.tx_ops.proofs.calls.scan.Goals as goal

pub returns-then-not-are_keys : goal.returns-then-not-are_keys
returns-then-not-are_keys g c =
    read_unkeyed g.S.Sender.sends g.J.JournalId.bounds c.args.session.now c.args.sender.now
    (is_key c.args.from.now && is_key c.args.to.now)
    (scan_walk c.args.session.now.state g.J.JournalId.bounds c.args.from.now c.args.to.now c.args.limit)
    (sym c.if-not-are_keys.ensures)

pub returns-in_default : goal.returns-in_default
returns-in_default g c =
    read_short g.S.Sender.sends g.J.JournalId.bounds c.args.session.now c.args.sender.now
    (is_key c.args.from.now && is_key c.args.to.now)
    (scan_walk c.args.session.now.state g.J.JournalId.bounds c.args.from.now c.args.to.now c.args.limit)
    (sym c.if-not-are_keys.ensures)

pub returns : goal.returns
returns g c =
    let bounds = g.J.JournalId.bounds in
    let old = c.args.session.now in
    let new = c.scan.new.self in
    let keys = c.in-Ok.ensures.ok in
    read_sent g.S.Sender.sends bounds old c.args.sender.now (is_key c.args.from.now && is_key c.args.to.now)
    (scan_walk old.state bounds c.args.from.now c.args.to.now c.args.limit) (sym c.if-not-are_keys.ensures) new
    c.scan.new.sender c.scan.result c.reply_to.result
    (subst (λ (ends : List ℕ × List ℕ). Sends g.S.Sender.sends bounds old.seat c.args.sender.now
    (scan_walk old.state bounds ends.0 ends.1 c.args.limit) (new.state, c.scan.result) c.scan.new.sender new.seat)
    (λ i. (keys.0 i, keys.1 i)) c.scan.ensures) c.reply_to.ensures
