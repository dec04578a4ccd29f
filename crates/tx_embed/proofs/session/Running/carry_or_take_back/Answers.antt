use Rattle.tx_embed.proofs.session.Running.carry_or_take_back.Goals as goal

-- what stopped it, or nothing that names a key
pub returns-in-Err-clause-names : goal.returns-in-Err-clause-names
returns-in-Err-clause-names g c =
    c.stopped_by.ensures.names g.B.Begun.session.state.buffer c.in-Err.ensures.names
