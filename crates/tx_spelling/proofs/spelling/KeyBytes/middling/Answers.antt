use Rattle.std.proofs.Common.{ℕ, ◌-◌, List, ◌++◌, length, drop, replicate, ap, ◌∙◌}
use Rattle.tx_spelling.specs.Spelt.{same_key}
use Rattle.tx_spelling.proofs.FirstGroups.{middling_spells}
use Rattle.tx_spelling.proofs.spelling.KeyBytes.middling.Goals as goal

pub invariant_of-result : goal.invariant_of-result
invariant_of-result c =
    let key = c.as_bytes.result.now in
    let after : List ℕ = drop 8 key in
    let back = c.split_at.ensures.back in
    let last = c.number_of-2.ensures ∙ c.padded-last.ensures
    ∙ ap (λ (w : List ℕ). w ++ replicate (8 - length w) 0) back in
    let marker = c.marker_of_last.ensures ∙ ap (λ (w : List ℕ). 255 - (8 - length w)) back in
    let s = middling_spells key c.number_of.result c.number_of-2.result c.number_of.type_inv c.as_bytes.ensures.within
    (rw (c.as_bytes.ensures.value) c.requires.0) (rw (c.as_bytes.ensures.value) c.requires.1) (c.number_of.ensures
    ∙ c.split_at.ensures.front) last in
    ((key, rw (marker) s), tt)

pub returns : goal.returns
returns c =
    let key = c.as_bytes.result.now in
    let after : List ℕ = drop 8 key in
    let back = c.split_at.ensures.back in
    let last = c.number_of-2.ensures ∙ c.padded-last.ensures
    ∙ ap (λ (w : List ℕ). w ++ replicate (8 - length w) 0) back in
    let marker = c.marker_of_last.ensures ∙ ap (λ (w : List ℕ). 255 - (8 - length w)) back in
    let s = middling_spells key c.number_of.result c.number_of-2.result c.number_of.type_inv c.as_bytes.ensures.within
    (rw (c.as_bytes.ensures.value) c.requires.0) (rw (c.as_bytes.ensures.value) c.requires.1) (c.number_of.ensures
    ∙ c.split_at.ensures.front) last in
    same_key c.number_of.result 255 _ c.result-1.given.0.0 key c.result-1.given.0.1 (rw (marker) s)
    ∙ c.as_bytes.ensures.value
