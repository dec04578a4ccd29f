-- A sort only moves edges.
use Rattle.std.proofs.Common.{◌≡◌, ℕ, List, subst, sym, rules, Ok, Err, IfOk, Result}
use Rattle.std.specs.List.Sorted.{IsPermutation}
use Rattle.std.proofs.lemmas.List.Sorted.{IsNonDecreasingBy-from_sort_by_key, IsPermutation-sym}
use Rattle.tx_order.specs.declared.graph.Edge.{Edge}
use Rattle.tx_order.specs.Graphs.{AreWithin, IsCycle}
use Rattle.tx_order.specs.Search.{AreByFrom}
use Rattle.tx_order.proofs.Permuted.{within-permutation, cycle-permutation}
use Rattle.tx_order.proofs.shortest.shorten.Goals as goal

pub shorten_by_from-requires-clause-by_from : goal.shorten_by_from-requires-clause-by_from
shorten_by_from-requires-clause-by_from c =
    subst AreByFrom (sym c.as_slice.ensures.value)
    (IsNonDecreasingBy-from_sort_by_key (λ (x : Edge). x.from) _ c.in_ok-sort_by_key.ensures.sorted
    (λ a r f called. search rules))

pub shorten_by_from-requires-clause-within : goal.shorten_by_from-requires-clause-within
shorten_by_from-requires-clause-within c =
    subst (AreWithin c.args.nodes) (sym c.as_slice.ensures.value)
    (within-permutation c.args.nodes _ _ c.sort_by_key.ensures.permutation c.requires)

if_ok_map : {A E : Type 0} (P Q : A → Type 0) (r : Result A E) → ((a : A) → P a → Q a) → IfOk r P → IfOk r Q
if_ok_map P Q (Ok a) f h = f a h
if_ok_map P Q (Err e) f h = h

-- a cycle of the sorted edges' slice is one of the edges that were passed, and back
as_passed : (xs ys zs : List Edge) (old new : List ℕ) → IsPermutation xs ys → zs ≡ ys
    → (IsCycle zs old → IsCycle zs new)
    → IsCycle xs old → IsCycle xs new
as_passed xs ys zs old new p e f h =
    cycle-permutation xs ys new p (subst (λ es. IsCycle es new) e
    (f (subst (λ es. IsCycle es old) (sym e) (cycle-permutation ys xs old (IsPermutation-sym xs ys p) h))))

pub returns-clause-cycle : goal.returns-clause-cycle
returns-clause-cycle c =
    if_ok_map _ _ c.shorten_by_from.result
    (λ least f. as_passed _ _ _ _ least.items c.sort_by_key.ensures.permutation c.as_slice.ensures.value f)
    c.shorten_by_from.ensures.cycle
