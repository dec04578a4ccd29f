use Rattle.std.proofs.Common.{◌≡◌, length, ap, ◌∙◌, arith}
use Rattle.tx_engine.specs.Semantics.{opening}
use Rattle.tx_engine.specs.Slots.{Held}
use Rattle.tx_script.proofs.Checks.{opens_too, seated_too, traced_first}
use Rattle.tx_script.proofs.Players.{played_none}
use Rattle.tx_script.proofs.player.Player.filmed.Goals as goal

pub returns-clause-played : goal.returns-clause-played
returns-clause-played g c =
    let e = c.in_ok-engine.engine in
    let is = c.keep_takings.ensures.2 in
    let t = c.keep_takings.ensures.0 in
    played_none g.J.JournalId.bounds c.keep_takings.new.self 4294967295
    (opens_too t e c.keep_takings.new.self is c.in_ok-engine.ensures.opening)
    (ap (λ (x : Held). length x.slots) is ∙ c.in_ok-engine.ensures.slots)
    (seated_too t e c.keep_takings.new.self is g.J.JournalId.bounds 4294967295
    (c.in_ok-engine.ensures.ready 4294967295 (omega arith)))

pub returns-clause-player : goal.returns-clause-player
returns-clause-player g c = (returns-clause-played g c).stands

pub returns-clause-traced : goal.returns-clause-traced
returns-clause-traced g c =
    traced_first c.keep_takings.ensures.0 c.in_ok-engine.engine c.keep_takings.new.self c.keep_takings.ensures.2
    c.in_ok-engine.ensures.opening c.keep_takings.ensures.1

pub returns-clause-begins : goal.returns-clause-begins
returns-clause-begins g c =
    let e = c.in_ok-engine.engine in
    let is = c.keep_takings.ensures.2 in
    (opens_too c.keep_takings.ensures.0 e c.keep_takings.new.self is c.in_ok-engine.ensures.opening).engine
    ∙ ap opening (ap (λ (x : Held). length x.slots) is ∙ c.in_ok-engine.ensures.slots)
