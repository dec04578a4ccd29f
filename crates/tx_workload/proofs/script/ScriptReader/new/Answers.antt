use Rattle.std.proofs.Common.{◌≡◌, ℕ, List, [], None, map, refl, ap, subst, sym}
use Rattle.std.specs.BTreeMap.{get_by_text}
use Rattle.tx_types.specs.declared.key.Key.{Key}
use Rattle.tx_workload.specs.Readers.{SortsBefore}
use Rattle.tx_workload.specs.LineNumbers.{numbers_in}
use Rattle.tx_workload.proofs.ReaderStates.{before_first}
use Rattle.tx_workload.proofs.script.ScriptReader.new.Goals as goal

pub returns-clause-sorted : goal.returns-clause-sorted
returns-clause-sorted g c =
    let none : (name : List ℕ) → get_by_text c.new-4.result name ≡ None = λ name. rw c.new-4.ensures.empty refl in
    subst (λ (k : List (List ℕ)). SortsBefore g.L.Source.text 1 (get_by_text c.new-4.result) k (map (λ s. s.number)
    c.new-2.result.items) c.new.result.items) (sym (ap numbers_in c.new-3.ensures.items))
    (subst (λ (k : List ℕ). SortsBefore g.L.Source.text 1 (get_by_text c.new-4.result) [] k c.new.result.items)
    (sym (ap (map (λ s. s.number)) c.new-2.ensures.items))
    (subst (λ (k : List Key). SortsBefore g.L.Source.text 1 (get_by_text c.new-4.result) [] [] k)
    (sym c.new.ensures.items) (before_first g.L.Source.text (get_by_text c.new-4.result) none)))
