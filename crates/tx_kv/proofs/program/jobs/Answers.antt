use Rattle.std.proofs.Common.{◌≡◌, ◌<◌, All, subst, ◌++◌, ◌∷◌, [], ℕ, List, ap, sym, rules, vec_len, ◌∙◌}
use Rattle.std.proofs.Math.Numerals.{add-one}
use Rattle.tx_kv.specs.Programs.{numbers_below}
use Rattle.tx_kv.proofs.ClientNumbers.{all_numbers}
use Rattle.tx_kv.proofs.program.jobs.Goals as goal

pub loop-number-preserved : goal.loop-number-preserved
loop-number-preserved g c =
    let n = c.loop-number.number in
    let all : c.push.new.self.items ≡ c.loop-number.jobs.items ++ n ∷ [] = c.in_ok-push.ensures.items in (
      all ∙ ap (λ (ns : List ℕ). ns ++ n ∷ []) c.loop-number.invariant.0 ∙ sym (ap numbers_below (add-one n)),
      search rules,
    )

pub returns-clause-below : goal.returns-clause-below
returns-clause-below g c =
    let n = c.loop-number.number in
    let same : n ≡ vec_len c.args.pairs = search rules in
    subst (λ m. All (λ k. k < m) c.loop-number.jobs.items) same
    (subst (All (λ k. k < n)) (sym c.loop-number.invariant.0) (all_numbers n))
