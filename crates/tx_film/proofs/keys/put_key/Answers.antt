use Rattle.std.proofs.Common.{◌≡◌, ℕ, List, length, subst, sym, ap, ◌∙◌, arith}
use Rattle.std.specs.Str.{IsUtf8}
use Rattle.std.specs.Cmp.Lexicographic.{slice_cmp}
use Rattle.std.specs.Ordering.{nat_cmp}
use Rattle.std.specs.declared.cmp.Ordering.TheVariants.{Less, Greater}
use Rattle.std.specs.List.Sorted.{IsPartitionPoint}
use Rattle.tx_types.specs.declared.key.Key.{Key}
use Rattle.tx_types.specs.Keys.{AreRising}
use Rattle.tx_film.specs.Lines.{IsShowable}
use Rattle.tx_film.proofs.ShownKeys.{inserted}
use Rattle.tx_film.proofs.KeyOrder.{searched, rises_with}
use Rattle.tx_film.proofs.keys.put_key.Goals as goal

pub returns-in_ok-insert-clause-showable : goal.returns-in_ok-insert-clause-showable
returns-in_ok-insert-clause-showable c showable =
    subst IsShowable (sym c.in_ok-insert.ensures.items)
    (inserted c.args.keys.now.items c.in-Err.at c.in-Ok.key
    (subst IsUtf8 (sym (c.in-Ok.ensures.ok ∙ c.as_bytes.ensures.value)) c.utf8.text)
    (omega (arith, c.key.invariant.1, ap (λ (k : List ℕ). length k) c.key.view_is)) showable)

pub returns-in_ok-insert-clause-rising : goal.returns-in_ok-insert-clause-rising
returns-in_ok-insert-clause-rising c rising =
    let keys = c.args.keys.now.items in
    let key = c.in-Ok.key in
    let same : c.as_slice.result.now ≡ keys = c.as_slice.ensures.value in
    let point = subst (λ (ks : List Key). IsPartitionPoint (λ k. slice_cmp nat_cmp k key ≡ Less)
    (λ k. slice_cmp nat_cmp k key ≡ Greater) ks c.in-Err.at) same
    (c.in-Err.ensures.position (searched c.as_slice.result.now key (subst AreRising (sym same) rising))) in
    subst AreRising (sym c.in_ok-insert.ensures.items)
    (rises_with keys c.in-Err.at key rising (omega (arith, c.in-Err.ensures.bound, ap (length {A = Key}) same)) point)
