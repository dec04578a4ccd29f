-- Records of a key that go one after the other, and the values that they keep apart.
-- Only private clauses of the two families cite it.
use Rattle.std.specs.Prelude.{◌≡◌, ◌≢◌, ℕ, Bool, true, Option, Some, None}
use Rattle.tx_types.specs.declared.value.Value.{Value}
use Rattle.tx_types.specs.declared.write.CommitRec.{CommitRec}
use Rattle.tx_types.specs.declared.write.WriteRec.{WriteRec}
use Rattle.tx_types.specs.declared.write.WriteRec.TheVariants.{Commit}
use Rattle.tx_cells.specs.Heads.{keeps_apart}
use Rattle.tx_cells.specs.Afterwards.{without_value}

abbrev pub Records : Type 0
Records = ℕ → Option WriteRec

-- a record that goes keeps the value of the transaction that started at t apart
pub record GoneApart (write : Records) (goes : ℕ → Bool) (t : ℕ) : Type 0 where
  pub at : ℕ
  pub rec : CommitRec
  pub found : write at ≡ Some (Commit rec)
  pub went : goes at ≡ true
  pub of : rec.start ≡ t
  pub apart : keeps_apart rec.mutation ≡ true

-- what becomes of the values where these records go
pub record ValuesGo (write : Records) (goes : ℕ → Bool) (before after : ℕ → Option Value) : Type 0 where
  pub gone : (t : ℕ) → GoneApart write goes t → after t ≡ None
  pub stayed : (t : ℕ) → (GoneApart write goes t → ⊥) → after t ≡ before t
  pub fewer : (t : ℕ) → after t ≢ None → after t ≡ before t

-- with a record goes the value that it keeps apart
pub record DropsValue (found : Option WriteRec) (before after : ℕ → Option Value) : Type 0 where
  pub gone : (rec : CommitRec) → found ≡ Some (Commit rec) → keeps_apart rec.mutation ≡ true → (t : ℕ)
      → after t ≡ without_value before rec.start t
  pub stays : ((rec : CommitRec) → found ≡ Some (Commit rec) → keeps_apart rec.mutation ≡ true → ⊥) → (t : ℕ)
      → after t ≡ before t
