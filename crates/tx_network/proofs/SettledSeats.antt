-- At the end each seat has learnt what is newest.
use Rattle.std.proofs.Common.{◌≡◌, ◌++◌, inl, inr, List, [], ◌∷◌, length, Contains, ap, subst, arith}
use Rattle.std.proofs.lemmas.List.Elements.{Contains-push_cases}
use Rattle.tx_core.specs.Histories.{History, Begins}
use Rattle.tx_core.specs.Recording.{part}
use Rattle.tx_core.proofs.seats.Parts.{part_shorter}
use Rattle.tx_journal.specs.Known.{Known}
use Rattle.tx_network.specs.Networks.{IsDone}

-- a seat that has learnt it is done
pub done_learnt : (n : History) (old new : Known) → Begins n new.events
    → part old.seat new.events ≡ part old.seat old.events → IsDone n old
done_learnt n old new b own = omega (arith, part_shorter old.seat n new.events b, ap length own)

-- what gave up the last
pub done_popped : {X : Type 0} (P : X → Type 0) (all rest : List X) (p : X) → all ≡ rest ++ p ∷ [] → P p
    → ((q : X) → Contains rest q → P q) → (q : X) → Contains all q → P q
done_popped P all rest p is done others q among =
    elim (Contains-push_cases rest p q (subst (λ xs. Contains xs q) is among)) [
      | inl left ↦ others q left
      | inr same ↦ subst P same done
    ]
