use Rattle.std.proofs.Common.{◌≡◌, ◌-◌, Bool, true, false, not, length, take, replicate, refl, sym, ap, ◌∙◌, arith}
use Rattle.std.proofs.lemmas.List.{take-replicate}
use Rattle.std.proofs.lemmas.Bool.Decides.{Decides-eqb}
use Rattle.std.proofs.lemmas.Slice.Eq.{slice_eq-Decides}
use Rattle.tx_codec.proofs.Groups.{last_group-parts}
use Rattle.tx_codec.proofs.key.last_part.Goals as goal

not_both : (b : Bool) → b ≡ true → true ≡ not b → ⊥
not_both true e f = cc
not_both false e f = cc

pub returns-then-ne : goal.returns-then-ne
returns-then-ne c = λ part lt e.
    let bytes = c.in_ok-marker.bytes.now in
    let marker = c.in_ok-marker.marker.now in
    let p = last_group-parts part bytes marker lt (sym c.in_ok-marker.ensures.cases.0 ∙ e) in
    let front : c.split_at.result.0.now ≡ part = c.split_at.ensures.front ∙ sym p.front in
    let zeros : take (8 - length c.split_at.result.0.now) (replicate 8 0) ≡ replicate (8 - length part) 0 =
    ap (λ n. take (8 - n) (replicate 8 0)) (ap length front) ∙ take-replicate (8 - length part) 8 0 (omega arith) in
    let same = c.split_at.ensures.back ∙ p.pads ∙ sym zeros in
    let equal = (slice_eq-Decides Decides-eqb c.split_at.result.1.now
    (take (8 - length c.split_at.result.0.now) (replicate 8 0)) _ refl).1 same in
    (not_both _ equal c.if-ne.ensures)
