use Rattle.std.proofs.Common.{ℕ, ◌-◌, List, ◌++◌, length, replicate, sym, ap, ◌∙◌}
use Rattle.tx_spelling.specs.Spelt.{same_key}
use Rattle.tx_spelling.proofs.FirstGroups.{short_spells}
use Rattle.tx_spelling.proofs.spelling.KeyBytes.short.Goals as goal

pub invariant_of-result : goal.invariant_of-result
invariant_of-result c =
    let key = c.as_bytes-bytes.result.now in
    let s = short_spells key c.number_of.result c.number_of.type_inv c.as_bytes-bytes.ensures.within
    (rw (c.as_bytes-bytes.ensures.value) c.requires) (c.number_of.ensures
    ∙ (c.group_of-group.ensures ∙ ap (λ (k : List ℕ). k ++ replicate (8 - length k) 0)
    (sym c.as_bytes-bytes.ensures.value))) in
    ((key, rw (c.marker_of_last.ensures) s), tt)

pub returns : goal.returns
returns c =
    let key = c.as_bytes-bytes.result.now in
    let s = short_spells key c.number_of.result c.number_of.type_inv c.as_bytes-bytes.ensures.within
    (rw (c.as_bytes-bytes.ensures.value) c.requires) (c.number_of.ensures
    ∙ (c.group_of-group.ensures ∙ ap (λ (k : List ℕ). k ++ replicate (8 - length k) 0)
    (sym c.as_bytes-bytes.ensures.value))) in
    same_key c.number_of.result _ _ c.result-1.given.0.0 key c.result-1.given.0.1 (rw (c.marker_of_last.ensures) s)
    ∙ c.as_bytes-bytes.ensures.value
