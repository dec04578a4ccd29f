-- An engine over a new journal.
use Rattle.std.specs.Prelude.{◌≡◌, ℕ, suc, List, [], ◌∷◌, length}
use Rattle.tx_journal.specs.Known.{Known, known}
use Rattle.tx_engine.specs.declared.slots.SessionSlot.TheVariants.{Free}
use Rattle.tx_engine.specs.Semantics.{opening}
use Rattle.tx_engine.specs.Slots.{SlotContent, Held, engine_state, own}

-- a slot for each seat
abbrev pub frees : List Known → List SlotContent
frees [] = []
frees (k ∷ seats) = Free k ∷ frees seats

-- the seats i and those that follow it, which have made no event
abbrev pub AreDealt : ℕ → List Known → Type 0
AreDealt i [] = Unit {0}
AreDealt i (k ∷ seats) = (k ≡ known i 4294967296 []) × AreDealt (suc i) seats

-- nothing has happened, and each slot is free
pub record IsOpening (e : Held) : Type 0 where
  pub engine : engine_state e ≡ opening (length e.slots)
  pub none : own e ≡ 0
