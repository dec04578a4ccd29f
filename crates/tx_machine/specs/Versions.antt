-- What the versions of one key say, with the fates of their transactions.
use Rattle.std.specs.Prelude.{◌≡◌, ℕ, ◌<◌, ◌≤◌, Option, Some, None}
use Rattle.std.specs.Ordering.{nat_cmp}
use Rattle.std.specs.BTreeMap as tree
use Rattle.std.specs.BTreeMap.{BTreeMap}
use Rattle.tx_types.specs.declared.value.Value.{Value}
use Rattle.tx_types.specs.declared.mutation.Mutation.{Mutation}
use Rattle.tx_types.specs.declared.mutation.Fate.{Fate}
use Rattle.tx_types.specs.declared.mutation.Fate.TheVariants.{Committed}
use Rattle.tx_machine.specs.declared.versions.Version.{Version}
use Rattle.tx_types.specs.Keys.{IsVisible, put_by}

-- the versions of a key, by commit timestamp
abbrev pub Versions : Type 0
Versions = BTreeMap ℕ Version

-- how transactions ended, by start timestamp
abbrev pub Fates : Type 0
Fates = BTreeMap ℕ Fate

-- the transaction that started at u is committed at c, and does m
pub record Listed (versions : Versions) (fates : Fates) (u c : ℕ) (m : Mutation) : Type 0 where
  pub version : tree.get nat_cmp versions c ≡ Some record { start = u; mutation = m }
  pub committed : tree.get nat_cmp fates u ≡ Some (Committed c)

-- no commit above low and at most at r puts or deletes
abbrev pub BareBetween : Versions → Fates → ℕ → ℕ → Type 0
BareBetween versions fates low r = (u c : ℕ) (m : Mutation) → Listed versions fates u c m → IsVisible m → low < c
    → c ≤ r → ⊥

-- the newest put or delete at most at r does m
pub record NewestIn (versions : Versions) (fates : Fates) (r : ℕ) (m : Mutation) : Type 0 where
  pub start : ℕ
  pub at : ℕ
  pub listed : Listed versions fates start at m
  pub upto : at ≤ r
  pub newest : BareBetween versions fates at r

-- what a read at r sees of a key's versions
abbrev pub SeenIn : Versions → Fates → ℕ → Option Value → Type 0
SeenIn versions fates r (Some v) = (m : Mutation) × NewestIn versions fates r m × (put_by m ≡ Some v)
SeenIn versions fates r None = (m : Mutation) (v : Value) → NewestIn versions fates r m → put_by m ≡ Some v → ⊥

-- each commit lies above its start, and later commits started at or above earlier ones
pub record IsOrderly (versions : Versions) (fates : Fates) : Type 0 where
  pub above : (u c : ℕ) (m : Mutation) → Listed versions fates u c m → u < c
  pub later : (u c v d : ℕ) (m n : Mutation) → Listed versions fates u c m → Listed versions fates v d n → c < d → c ≤ v
