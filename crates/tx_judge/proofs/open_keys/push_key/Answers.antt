-- The key is the last.
use Rattle.tx_judge.proofs.Firsts.{undecided_more}
use Rattle.tx_judge.proofs.open_keys.push_key.Goals as goal

pub returns : goal.returns
returns c =
    undecided_more c.args.recording.now c.args.keys.now.items c.push.new.self.items c.args.key
    c.in_ok-push.ensures.items c.requires.key
    c.requires.keys
