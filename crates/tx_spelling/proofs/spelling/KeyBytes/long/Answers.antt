use Rattle.std.proofs.Common.{ap, ◌∙◌}
use Rattle.tx_codec.specs.Keys.{encoded_key}
use Rattle.tx_spelling.specs.Spelt.{same_key}
use Rattle.tx_spelling.proofs.FirstGroups.{long_spells}
use Rattle.tx_spelling.proofs.spelling.KeyBytes.long.Goals as goal

pub invariant_of-result : goal.invariant_of-result
invariant_of-result c =
    let key = c.as_bytes.result.now in
    let s = long_spells key c.in_ok-rest.rest.items c.number_of.result c.number_of.type_inv c.as_bytes.ensures.within
    (rw (c.as_bytes.ensures.value) c.requires)
    (c.number_of.ensures ∙ c.split_at.ensures.front) (c.in_ok-rest.ensures
    ∙ ap encoded_key c.split_at.ensures.back) in
    ((key, rw (c.in_ok-new.ensures.ok) s), tt)

pub returns : goal.returns
returns c =
    let key = c.as_bytes.result.now in
    let s = long_spells key c.in_ok-rest.rest.items c.number_of.result c.number_of.type_inv c.as_bytes.ensures.within
    (rw (c.as_bytes.ensures.value) c.requires)
    (c.number_of.ensures ∙ c.split_at.ensures.front) (c.in_ok-rest.ensures
    ∙ ap encoded_key c.split_at.ensures.back) in
    same_key c.number_of.result 255 c.in_ok-new.field-0.value.items c.result-2-1.given.0.0 key c.result-2-1.given.0.1
    (rw (c.in_ok-new.ensures.ok) s) ∙ c.as_bytes.ensures.value
