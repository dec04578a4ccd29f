-- The rows of keys.
use Rattle.std.specs.Prelude.{◌≡◌, Bool, List, Option, Some, IsTrue}
use Rattle.tx_types.specs.declared.key.Key.{Key}
use Rattle.tx_types.specs.declared.value.Value.{Value}
use Rattle.tx_types.specs.declared.mutation.KeyValue.{KeyValue}
use Rattle.tx_types.specs.Keys.{IsRising, value_in}

-- Rows are those of the keys that pass a test: they rise, each is of such a key, and of each such
-- key they tell.
pub record AreRowsOf (test : Key → Bool) (tells : Key → Option Value → Type 0) (rows : List KeyValue)
    : Type 0 where
  pub rising : IsRising rows
  pub within : (k : Key) (v : Value) → value_in rows k ≡ Some v → IsTrue (test k)
  pub each : (k : Key) → IsTrue (test k) → tells k (value_in rows k)
