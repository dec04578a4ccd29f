use Rattle.std.proofs.Common.{inl}
use Rattle.tx_answers.proofs.answer.heard_bare.Goals as goal

pub returns : goal.returns
returns c = inl (c.requires.timely, (c.in_ok-bare.bare, c.in_ok-bare.ensures.bare, c.in_ok-answer.ensures))

pub judged-requires-clause-in_turn : goal.judged-requires-clause-in_turn
judged-requires-clause-in_turn c = c.in_ok-bare.ensures.in_turn c.requires.in_turn
