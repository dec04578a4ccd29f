-- Snapshot isolation of a recording. A committed transaction has a start and a commit above it. In
-- each key it sees what the newest committed writer at or below its start left there, it does its
-- operations on that, and it leaves what comes of it.
use Rattle.std.specs.Prelude.{◌≡◌, ◌≢◌, ◌⊎◌, ℕ, ◌<◌, ◌≤◌, ◌==◌, Bool, false, cond, List, [], ◌∷◌, ◌++◌, Contains, Some, IsTrue, take, slice_index_or}
use Rattle.tx_recording.specs.declared.recording.RecordedOutcome.TheVariants.{Ok, Fail}
use Rattle.tx_recording.specs.declared.recording.Span.{Span}
use Rattle.tx_recording.specs.declared.recording.Act.{Act}
use Rattle.tx_recording.specs.declared.recording.Act.TheVariants.{Append, Write, Read}
use Rattle.tx_recording.specs.declared.recording.RecordedOp.{RecordedOp}
use Rattle.tx_recording.specs.declared.recording.Orders.{Orders}
use Rattle.tx_recording.specs.declared.recording.Recording.{Recording}
use Rattle.tx_recording.specs.Recordings.{txns_of, transaction_at, ops_of, list_of, no_op}

-- what an act leaves of what a key holds
abbrev pub act_on : Act → List ℕ → List ℕ
act_on (Append v) xs = xs ++ v ∷ []
act_on (Write v) xs = v ∷ []
act_on (Read span) xs = xs

-- what operations leave of what a key holds
abbrev pub after : List RecordedOp → ℕ → List ℕ → List ℕ
after [] k xs = xs
after (o ∷ os) k xs = after os k (cond (o.key == k) (act_on o.act xs) xs)

-- it puts the value
abbrev pub Puts : Act → ℕ → Type 0
Puts (Append w) v = w ≡ v
Puts (Write w) v = w ≡ v
Puts (Read span) v = ⊥

-- one of the operations puts v into k
abbrev pub PutsIn : List RecordedOp → ℕ → ℕ → Type 0
PutsIn os k v = (o : RecordedOp) × Contains os o × (o.key ≡ k) × Puts o.act v

-- t puts v into k
abbrev pub IsPut : Recording → ℕ → ℕ → ℕ → Type 0
IsPut r t k v = PutsIn (ops_of r t) k v

-- each value is put by one transaction
abbrev pub ArePutOnce : Recording → Type 0
ArePutOnce r = (t u k l v : ℕ) → IsPut r t k v → IsPut r u l v → t ≡ u

-- which transactions committed, when each started and committed, and what each left in a key
pub record Explanation : Type 0 where
  pub committed : ℕ → Bool
  pub start : ℕ → ℕ
  pub commit : ℕ → ℕ
  pub left : ℕ → ℕ → List ℕ

-- t committed, and puts into k
abbrev pub IsWriter : Recording → Explanation → ℕ → ℕ → Type 0
IsWriter r x t k = IsTrue (x.committed t) × ((v : ℕ) × IsPut r t k v)

-- of the writers of k at or below a moment, u committed last
abbrev pub IsNewest : Recording → Explanation → ℕ → ℕ → ℕ → Type 0
IsNewest r x k at u = IsWriter r x u k × (x.commit u ≤ at)
    × ((w : ℕ) → IsWriter r x w k → x.commit w ≤ at → x.commit w ≤ x.commit u)

-- what k holds at a moment: what the newest writer left there, and nothing where there is none
abbrev pub Sees : Recording → Explanation → ℕ → ℕ → List ℕ → Type 0
Sees r x k at xs = ((u : ℕ) × IsNewest r x k at u × (xs ≡ x.left u k))
    ⊎ (((w : ℕ) → IsWriter r x w k → at < x.commit w) × (xs ≡ []))

abbrev pub op_at : Recording → ℕ → ℕ → RecordedOp
op_at r t p = slice_index_or (ops_of r t) p no_op

-- one of a process and one that it ran later: the first is known to have committed
abbrev pub IsSession : Recording → ℕ → ℕ → Type 0
IsSession r t u = (p : ℕ) × (t < u) × (u < txns_of r) × ((transaction_at r t).process ≡ Some p)
    × ((transaction_at r u).process ≡ Some p) × ((transaction_at r t).outcome ≡ Ok)

-- one that is known to have committed, and had ended before the other began
abbrev pub IsEarlier : Recording → ℕ → ℕ → Type 0
IsEarlier r t u = (e : ℕ) × (b : ℕ) × (e < b) × ((transaction_at r t).ended ≡ Some e)
    × ((transaction_at r u).began ≡ Some b) × ((transaction_at r t).outcome ≡ Ok)

-- the orders that are asked for have t before u
abbrev pub Precedes : Recording → Orders → ℕ → ℕ → Type 0
Precedes r orders t u = (IsTrue orders.sessions × IsSession r t u) ⊎ (IsTrue orders.strict × IsEarlier r t u)

-- Under this the recording is snapshot isolation. What is known to have committed did, and what
-- failed did not; of two that put into one key one started when the other had committed; each left
-- what its operations make of what it saw; each value that was read is what the reader's own
-- operations until then make of what it saw; and the orders that are asked for hold.
pub record Explains (r : Recording) (orders : Orders) (x : Explanation) : Type 0 where
  pub ok : (t : ℕ) → t < txns_of r → (transaction_at r t).outcome ≡ Ok → IsTrue (x.committed t)
  pub fail : (t : ℕ) → (transaction_at r t).outcome ≡ Fail → x.committed t ≡ false
  pub above : (t : ℕ) → IsTrue (x.committed t) → x.start t < x.commit t
  pub apart : (k t u : ℕ) → IsWriter r x t k → IsWriter r x u k → t ≢ u
      → (x.commit t ≤ x.start u) ⊎ (x.commit u ≤ x.start t)
  pub leaves : (k t : ℕ) → IsWriter r x t k
      → (xs : List ℕ) × Sees r x k (x.start t) xs × (x.left t k ≡ after (ops_of r t) k xs)
  pub reads : (t p : ℕ) (span : Span) → (transaction_at r t).outcome ≡ Ok → (op_at r t p).act ≡ Read span
      → (xs : List ℕ) × Sees r x (op_at r t p).key (x.start t) xs
      × (list_of r span ≡ after (take p (ops_of r t)) (op_at r t p).key xs)
  pub precedes : (t u : ℕ) → Precedes r orders t u → IsTrue (x.committed t) → IsTrue (x.committed u)
      → x.commit t ≤ x.start u
