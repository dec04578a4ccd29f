-- What is left of a recording when what some transactions read is taken out of it.
use Rattle.std.specs.Prelude.{◌≡◌, ℕ, ◌<◌, Bool, true, false, cond, List}
use Rattle.std.specs.List.{filter}
use Rattle.tx_recording.specs.declared.recording.Act.{Act}
use Rattle.tx_recording.specs.declared.recording.Act.TheVariants.{Append, Write, Read}
use Rattle.tx_recording.specs.declared.recording.RecordedOp.{RecordedOp}
use Rattle.tx_recording.specs.declared.recording.RecordedTransaction.{RecordedTransaction}
use Rattle.tx_recording.specs.declared.recording.Recording.{Recording}
use Rattle.tx_recording.specs.Recordings.{txns_of, transaction_at, ops_of}

-- it puts something
abbrev pub is_put : Act → Bool
is_put (Append v) = true
is_put (Write v) = true
is_put (Read span) = false

-- the operations, where it was told of without its reads
abbrev pub without : Bool → List RecordedOp → List RecordedOp
without is_told os = cond is_told (filter (λ o. is_put o.act) os) os

-- the same transaction, but that its operations stand elsewhere
abbrev pub moved : RecordedTransaction → ℕ → ℕ → RecordedTransaction
moved t first upto = record {
  id = t.id;
  outcome = t.outcome;
  process = t.process;
  began = t.began;
  ended = t.ended;
  first = first;
  upto = upto;
}

-- Each transaction is the same, but that its operations stand elsewhere, and they are the same but
-- for the reads of those that were told of. All else is the same.
pub record IsLeft (r : Recording) (is_told : ℕ → Bool) (left : Recording) : Type 0 where
  pub transactions : (t : ℕ) → t < txns_of r → transaction_at left t
      ≡ moved (transaction_at r t) (transaction_at left t).first (transaction_at left t).upto
  pub ops : (t : ℕ) → t < txns_of r → ops_of left t ≡ without (is_told t) (ops_of r t)
  pub count : txns_of left ≡ txns_of r
  pub elements : left.elements.items ≡ r.elements.items
  pub keys : left.keys ≡ r.keys
  pub values : left.values ≡ r.values
