use Rattle.std.proofs.Common.{◌≡◌, ℕ, ap, sym, ◌∙◌, inl, inr, List, Option, None}
use Rattle.std.specs.Cmp.Lexicographic.{slice_cmp}
use Rattle.std.specs.Ordering.{nat_cmp}
use Rattle.std.specs.BTreeMap as tree
use Rattle.std.specs.Map.{lookup}
use Rattle.tx_types.specs.declared.key.Key.{Key}
use Rattle.tx_types.specs.declared.mutation.Fate.{Fate}
use Rattle.tx_machine.specs.declared.machine.TxnStage.{TxnStage}
use Rattle.tx_machine.specs.declared.versions.KeyHistory.{KeyHistory}
use Rattle.tx_machine.specs.Shown.{history_of, versions_in, insert_read_in}
use Rattle.tx_machine.specs.Representation.{version_in, version_of, IsKept}
use Rattle.tx_machine.proofs.Steps.{tells_empty}
use Rattle.tx_machine.proofs.machine.Machine.new.Goals as goal

pub returns : goal.returns
returns c =
    let none : (k : Key) → history_of c.new-3.result k ≡ None =
    λ k. ap (λ (es : List (Key × KeyHistory)). lookup (tree.is_at (slice_cmp nat_cmp k)) es) c.new-3.ensures.empty in
    tells_empty (tree.get nat_cmp c.new.result) (tree.get nat_cmp c.new-2.result) (version_of c.new-3.result)
    (IsKept c.new-3.result c.new-4.result)
    (λ t. ap (λ (es : List (ℕ × TxnStage)). lookup (tree.is_at (nat_cmp t)) es) c.new.ensures.empty)
    (λ t. ap (λ (es : List (ℕ × Fate)). lookup (tree.is_at (nat_cmp t)) es) c.new-2.ensures.empty)
    (λ k q. ap (λ (o : Option KeyHistory). version_in (versions_in o) q) (none k))
    (λ k r x. elim x [ inl y ↦ c.new-4.ensures k r y | inr y ↦ cc (sym (ap insert_read_in (none k)) ∙ y) ])
