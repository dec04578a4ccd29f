-- What a pass over write records, from version to version, tells of the next.
-- Only this crate's own clauses cite it.
use Rattle.std.specs.Prelude.{option_map, ◌≡◌, ℕ, ◌<◌, ◌≤◌, true, Option, Some, ◌&&◌, ◌||◌, not, nat_lt, Bool, List, bytes_eq}
use Rattle.tx_types.specs.declared.write.WriteRec.{WriteRec}
use Rattle.tx_types.specs.declared.write.CommitRec.{CommitRec}
use Rattle.tx_types.specs.declared.write.WriteRec.TheVariants.{Commit}
use Rattle.tx_types.specs.declared.value.Value.{Value}
use Rattle.tx_plan.specs.Cells.{Writes}
use Rattle.tx_cells.specs.Contents.{write_of}
use Rattle.tx_codec.specs.Keys.{encoded_key}
use Rattle.tx_cells.specs.Heads.{record_kind}
use Rattle.tx_flat.specs.declared.sieve.Sieve.{Sieve}

-- a put or delete of its key, at the safe point or below, came before
abbrev pub is_followed : Sieve → List ℕ × ℕ → Bool
is_followed sieve v = sieve.followed && bytes_eq sieve.key (encoded_key v.0)

-- a record at or above the safe point stays, and below it a put that none of these follows
abbrev pub is_kept : Sieve → List ℕ × ℕ → WriteRec → Bool
is_kept sieve v rec = not (nat_lt v.1 sieve.safe) || (record_kind rec).puts && not (is_followed sieve v)

-- the transaction that started at t has its commit record below the safe point, and a put or delete
-- follows it up to there
pub record Outdated (write : ℕ → Option WriteRec) (safe t : ℕ) : Type 0 where
  pub at : ℕ
  pub rec : CommitRec
  pub found : write at ≡ Some (Commit rec)
  pub of : rec.start ≡ t
  pub above : t < at
  pub follows : ℕ
  pub later : at < follows
  pub upto : follows ≤ safe
  pub other : WriteRec
  pub stands : write follows ≡ Some other
  pub seen : (record_kind other).is_seen ≡ true

-- write records with the values of a key, as the tables see them
abbrev pub writes_of : (ℕ → Option WriteRec) → (ℕ → Option Value) → Writes
writes_of write value = λ c. option_map (write_of value) (write c)
