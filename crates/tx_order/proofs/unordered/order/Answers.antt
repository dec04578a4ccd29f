-- A sort only moves edges, so what is said of the sorted ones is said of those that were passed.
use Rattle.std.proofs.Common.{◌≡◌, ℕ, List, subst, sym, rules, Ok, Err, IfOk, IfErr, Result}
use Rattle.std.specs.List.Sorted.{IsPermutation}
use Rattle.std.proofs.lemmas.List.Sorted.{IsNonDecreasingBy-from_sort_by_key}
use Rattle.tx_order.specs.declared.graph.Edge.{Edge}
use Rattle.tx_order.specs.Graphs.{AreWithin, IsOrder}
use Rattle.tx_order.specs.declared.unordered.Unordered.{Unordered}
use Rattle.tx_order.specs.Unordered.{IsUnordered}
use Rattle.tx_order.specs.Search.{AreByFrom}
use Rattle.tx_order.proofs.Permuted.{within-permutation, order-permutation, unordered-permutation}
use Rattle.tx_order.proofs.unordered.order.Goals as goal

pub order_by_from-requires-clause-by_from : goal.order_by_from-requires-clause-by_from
order_by_from-requires-clause-by_from c =
    subst AreByFrom (sym c.as_slice.ensures.value)
    (IsNonDecreasingBy-from_sort_by_key (λ (x : Edge). x.from) _ c.in_ok-sort_by_key.ensures.sorted
    (λ a r f called. search rules))

pub order_by_from-requires-clause-within : goal.order_by_from-requires-clause-within
order_by_from-requires-clause-within c =
    subst (AreWithin c.args.nodes) (sym c.as_slice.ensures.value)
    (within-permutation c.args.nodes _ _ c.sort_by_key.ensures.permutation c.requires)

if_ok_map : {A E : Type 0} (P Q : A → Type 0) (r : Result A E) → ((a : A) → P a → Q a) → IfOk r P → IfOk r Q
if_ok_map P Q (Ok a) f h = f a h
if_ok_map P Q (Err e) f h = h

if_err_map : {A E : Type 0} (P Q : E → Type 0) (r : Result A E) → ((e : E) → P e → Q e) → IfErr r P → IfErr r Q
if_err_map P Q (Ok a) f h = h
if_err_map P Q (Err e) f h = f e h

-- the edges as they were passed, as they were sorted, and the slice of these
as_passed : (n : ℕ) (xs ys zs : List Edge) (places : List ℕ) → IsPermutation xs ys → zs ≡ ys → IsOrder n zs places
    → IsOrder n xs places
as_passed n xs ys zs places p e h = order-permutation n xs ys places p (subst (λ es. IsOrder n es places) e h)

passed_too : (xs ys zs : List Edge) (e : Unordered) → IsPermutation xs ys → zs ≡ ys → IsUnordered zs e
    → IsUnordered xs e
passed_too xs ys zs e p is h = unordered-permutation xs ys e p (subst (λ es. IsUnordered es e) is h)

pub returns-clause-ok : goal.returns-clause-ok
returns-clause-ok c =
    if_ok_map _ _ c.order_by_from.result
    (λ places h. as_passed c.args.nodes _ _ _ places.items c.sort_by_key.ensures.permutation c.as_slice.ensures.value h)
    c.order_by_from.ensures.ok

pub returns-clause-err : goal.returns-clause-err
returns-clause-err c =
    if_err_map _ _ c.order_by_from.result
    (λ e h. passed_too _ _ _ e c.sort_by_key.ensures.permutation c.as_slice.ensures.value h)
    c.order_by_from.ensures.err
