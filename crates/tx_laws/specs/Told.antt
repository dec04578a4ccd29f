-- What was told of commits, what answers say of keys, and what a read finds of a commit.
use Rattle.std.specs.Prelude.{◌≡◌, ◌⊎◌, ℕ, ◌<◌, Option, Some, None, IsTrue}
use Rattle.tx_types.specs.declared.key.Key.{Key}
use Rattle.tx_types.specs.declared.value.Value.{Value}
use Rattle.tx_types.specs.declared.mutation.Mutation.{Mutation}
use Rattle.tx_types.specs.declared.mutation.Fate.TheVariants as fate
use Rattle.tx_types.specs.Keys.{IsVisible, put_by, value_in}
use Rattle.tx_plan.specs.declared.body.Body.{Body}
use Rattle.tx_plan.specs.declared.body.Body.TheVariants as body
use Rattle.tx_plan.specs.declared.answer.Answer.{Answer}
use Rattle.tx_plan.specs.declared.answer.Answer.TheVariants.{Found, Nothing, Rows}
use Rattle.tx_machine.specs.Keys.{covered}
use Rattle.tx_machine.specs.Machine.{Done, Newest, Rows as Table}
use Rattle.tx_core.specs.declared.event.Outcome.TheVariants as outcome
use Rattle.tx_core.specs.declared.event.Event.TheVariants.{Answered}
use Rattle.tx_core.specs.Histories.{History, Among}
use Rattle.tx_core.specs.Decisions.{decided}
use Rattle.tx_core.specs.Truth.{scan_read}
use Rattle.tx_core.specs.Worlds.{WasTold}

-- It was told that t is committed at c: by an answer of a region, by the outcome that its session
-- answered, or by locks that were told of and decide it.
abbrev pub IsTold : History → ℕ → ℕ → Type 0
IsTold h t c = WasTold h t (fate.Committed c) ⊎ (Among h (Answered t (outcome.Committed c))
    ⊎ (decided h t ≡ Done (fate.Committed c)))

-- What the answer to a read at r says of the key k: of the key that was read its value, or none; of
-- each key that a scan covered what its rows have there.
abbrev pub Says : Body → Answer → Key → ℕ → Option Value → Type 0
Says (body.Get b) (Found v) k r found = (b.key ≡ k) × (b.at ≡ r) × (Some v ≡ found)
Says (body.Get b) Nothing k r found = (b.key ≡ k) × (b.at ≡ r) × (None ≡ found)
Says (body.Scan b) (Rows rows) k r found = IsTrue (covered (scan_read b rows) k) × (b.at ≡ r)
    × (value_in rows k ≡ found)
Says _ _ k r found = ⊥

-- the newest commit of k at most at r lies above c, and it left this
pub record LeftLater (rows : Table) (k : Key) (c r : ℕ) (found : Option Value) : Type 0 where
  pub does : Mutation
  pub visible : IsVisible does
  pub newest : Newest rows k r does
  pub above : c < newest.at
  pub left : put_by does ≡ found

-- what a commit at c left that does m, or what a later one left
abbrev pub FindsAtLeast : Table → Key → ℕ → ℕ → Mutation → Option Value → Type 0
FindsAtLeast rows k c r m found = (put_by m ≡ found) ⊎ LeftLater rows k c r found
