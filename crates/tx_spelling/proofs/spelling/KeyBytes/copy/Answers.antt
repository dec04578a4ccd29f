use Rattle.std.proofs.Common.{◌∙◌}
use Rattle.tx_spelling.specs.Spelt.{marker_of, rest_of, same_key}
use Rattle.tx_spelling.proofs.spelling.KeyBytes.copy.Goals as goal

pub returns : goal.returns
returns c =
    let k = c.self.inside in
    let b = c.in_ok-behind.behind in
    same_key k.first (marker_of b) (rest_of b) c.result-1.given.0.0
    k.key.0 c.result-1.given.0.1 (rw (c.in_ok-behind.ensures.marker, c.in_ok-behind.ensures.rest) k.key.1)
    ∙ c.self.view_is
