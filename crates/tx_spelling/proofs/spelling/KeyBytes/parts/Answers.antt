use Rattle.tx_spelling.specs.Spelt.{marker_of, rest_of}
use Rattle.tx_spelling.proofs.FirstGroups.{rest_short}
use Rattle.tx_spelling.proofs.spelling.KeyBytes.parts.Goals as goal

pub returns-clause-within : goal.returns-clause-within
returns-clause-within c =
    let k = c.self.inside in (
      k.key.1.0,
      rw (c.parts-marker.ensures.rest)
          (rest_short k.first (marker_of k.behind) (rest_of k.behind) k.key.0 k.key.1),
    )
