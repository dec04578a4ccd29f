-- When a history holds by a recording, and so under each explanation of it. Only this crate's own
-- clauses cite it.
use Rattle.std.specs.Prelude.{◌≡◌, ℕ, ◌+◌, ◌<◌, List, [], length, Contains, IsTrue, zero, suc, slice_index}
use Rattle.tx_views.specs.Views.{Saw}
use Rattle.tx_recording.specs.declared.recording.Recording.{Recording}
use Rattle.tx_recording.specs.Explanations.{Explanation, IsWriter, IsNewest}
use Rattle.tx_history.specs.declared.recorded.Read.{Read}
use Rattle.tx_recording.specs.Recordings.{txns_of}
use Rattle.tx_history.specs.Histories.{History, HasVersion}
use Rattle.tx_history.specs.Records.{history_of, writers_of}
use Rattle.tx_verdict.specs.declared.versions.Versions.{Versions}
use Rattle.tx_verdict.specs.Versions.{live_of}
use Rattle.tx_verdict.specs.Reasons.{SawOf, HasCommitted, HasWritten, IsBehind}

-- What the recording says of a history: its versions are of a key of the recording, were written
-- one behind the other, and who read a version saw the key as its writer left it.
pub record AreForced (r : Recording) (h : History) (key : ℕ → ℕ) : Type 0 where
  pub writers : (k i : ℕ) → HasVersion h k i → HasWritten r (h.writer k i) (key k)
  pub steps : (k i : ℕ) → HasVersion h k i → HasVersion h k (i + 1)
      → IsBehind r (key k) (h.writer k i) (h.writer k (i + 1))
  pub seen : (p : Read) → Contains h.reads p → HasVersion h p.key p.version
      → SawOf r p.txn (key p.key) (h.writer p.key p.version)
  pub none : (p : Read) → Contains h.reads p → p.version ≡ 0 → Saw r p.txn (key p.key) []
  pub readers : (p : Read) → Contains h.reads p → p.txn < txns_of r

-- the key of a chain
abbrev pub key_of : Versions → ℕ → ℕ
key_of v q = slice_index v.names.items q

-- the writer at i among those of k saw what the one before it left, and the first saw nothing
abbrev pub StartsAt : Recording → Explanation → ℕ → List ℕ → ℕ → Type 0
StartsAt r x k ws zero = (w : ℕ) → IsWriter r x w k → x.start (slice_index ws zero) < x.commit w
StartsAt r x k ws (suc i) = IsNewest r x k (x.start (slice_index ws (suc i))) (slice_index ws i)

-- the writer at i wrote before the next one
abbrev pub IsLinked : Recording → ℕ → List ℕ → ℕ → Type 0
IsLinked r k ws i = IsBehind r k (slice_index ws i) (slice_index ws (i + 1))

-- what is live committed
abbrev pub AreKnown : Recording → Versions → Type 0
AreKnown r v = (t : ℕ) → IsTrue (live_of v t) → HasCommitted r t

abbrev pub AreWriters : Recording → ℕ → List ℕ → Type 0
AreWriters r k ws = (i : ℕ) → i < length ws → HasWritten r (slice_index ws i) k

-- a read saw the version that it names
abbrev pub IsReadForced : Recording → Versions → Read → Type 0
IsReadForced r v p = (p.txn < txns_of r)
    × (HasVersion (history_of v.recorded) p.key p.version
    → SawOf r p.txn (key_of v p.key) ((history_of v.recorded).writer p.key p.version))
    × (p.version ≡ 0 → Saw r p.txn (key_of v p.key) [])

-- the versions of a chain are of its key, and were written one behind the other
abbrev pub IsChain : Recording → Versions → ℕ → Type 0
IsChain r v q = AreWriters r (key_of v q) (writers_of v.recorded q)
    × ((i : ℕ) → i + 1 < length (writers_of v.recorded q) → IsLinked r (key_of v q) (writers_of v.recorded q) i)

abbrev pub no_read : Read
no_read = record { txn = 0; key = 0; version = 0 }
