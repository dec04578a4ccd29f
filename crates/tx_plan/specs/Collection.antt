-- What collection drops of one key, in the words of its write records.
use Rattle.std.specs.Prelude.{◌≡◌, ◌≢◌, ◌↔◌, ℕ, suc, ◌==◌, ◌+◌, ◌<◌, ◌≤◌, ◌&&◌, not, nat_lt, Bool, false, cond, List, [], ◌∷◌, AllPairs, Contains, Option, Some, None}
use Rattle.tx_plan.specs.declared.key_records.RecordKind.{RecordKind}
use Rattle.tx_plan.specs.Cells.{Write, Writes, Cells, is_long}
use Rattle.tx_types.specs.Keys.{is_visible}
use Rattle.tx_plan.specs.cases.Collect.{commit_is, is_put, keeps}

-- what collection asks of the record of a version
pub record IsKind (found : Option Write) (kind : RecordKind) : Type 0 where
  pub puts : kind.puts ≡ commit_is is_put found
  pub is_seen : kind.is_seen ≡ commit_is is_visible found
  pub has_long_value : kind.has_long_value ≡ commit_is is_long found

-- no record is at a timestamp or below
abbrev pub NoneUpto : Writes → ℕ → Type 0
NoneUpto write bound = (q : ℕ) → q ≤ bound → write q ≡ None

-- the newest record at a timestamp or below is at c, and of this kind
pub record IsNext (write : Writes) (bound c : ℕ) (kind : RecordKind) : Type 0 where
  pub upto : c ≤ bound
  pub there : write c ≢ None
  pub newest : (q : ℕ) → c < q → q ≤ bound → write q ≡ None
  pub is : IsKind (write c) kind

-- the timestamps at which collection drops a record of the key, each once
pub record DroppedOn (write : Writes) (safe : ℕ) (times : List ℕ) : Type 0 where
  pub once : AllPairs (λ x y. x ≢ y) times
  pub each : (q : ℕ) → Contains times q ↔ ((write q ≢ None) × (keeps write safe q ≡ false))

-- how many of these timestamps hold a commit record whose value lies in the `default` family
abbrev pub long_among : Writes → List ℕ → ℕ
long_among write [] = 0
long_among write (q ∷ times) = cond (commit_is is_long (write q)) (suc (long_among write times))
    (long_among write times)

-- the timestamp after this one, or 0 after none
abbrev pub past : Option ℕ → ℕ
past None = 0
past (Some q) = q + 1

-- whether this is the record that stays
abbrev pub stays : Option ℕ → ℕ → Bool
stays None q = false
stays (Some at) q = at == q

-- the cells of a key of which all records below a timestamp went but one, if one stays
abbrev pub without_below : Cells → ℕ → Option ℕ → Cells
without_below cells safe stay = record cells {
  write = λ q. cond (nat_lt q safe
      && not (stays stay q)) None (cells.write q);
}
