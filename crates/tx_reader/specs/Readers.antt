-- Who reads at a timestamp, and what its reads find.
use Rattle.std.specs.Prelude.{◌≡◌, ◌&&◌, ◌<◌, ◌≤◌, ℕ, cond, List, [], ◌∷◌, Some, None, IsTrue}
use Rattle.tx_types.specs.declared.key.Key.{Key}
use Rattle.tx_types.specs.Keys.{key_lt, is_between}
use Rattle.tx_plan.specs.declared.body.Body.{Body}
use Rattle.tx_plan.specs.declared.body.Body.TheVariants as body
use Rattle.tx_plan.specs.declared.answer.Answer.{Answer}
use Rattle.tx_plan.specs.declared.answer.Answer.TheVariants as answer
use Rattle.tx_machine.specs.Machine.{Sees, SeesRows, table_of}
use Rattle.tx_core.specs.Histories.{History, Begins, last}
use Rattle.tx_core.specs.Recording.{Extends}
use Rattle.tx_core.specs.Shadow.{shadow}
use Rattle.tx_core.specs.Worlds.{IsWorldRun, route}
use Rattle.tx_journal.specs.Known.{Known}
use Rattle.tx_client.specs.Facts.{WasAnswered}
use Rattle.tx_laws.specs.Scans.{scan_at}
use Rattle.tx_reader.specs.declared.read.Read.{Read}
use Rattle.tx_reader.specs.declared.read.Read.TheVariants.{Key as OfKey, Part}

-- a reader: what its seat knows, and the timestamp at which it reads
pub record Reading : Type 0 where
  pub seat : Known
  pub at : ℕ

-- a seat has seen what others did, drew nothing, and recorded nothing; the last number that it has
-- seen drawn is no less
pub record OnlySees (old new : Known) : Type 0 where
  pub number : new.seat ≡ old.seat
  pub ticks : new.ticks ≡ old.ticks
  pub others : Extends old.seat old.events new.events
  pub drawn : last old.events ≤ last new.events

-- an answer to a read of a key at a timestamp, where it finds anything: what the one-step machine
-- sees there
abbrev pub ReadsAt : History → ℕ → Key → Answer → Type 0
ReadsAt h at key (answer.Found v) = Sees (table_of (shadow h)).row key at (Some v)
ReadsAt h at key answer.Nothing = Sees (table_of (shadow h)).row key at None
ReadsAt h at key _ = Unit {0}

-- the same in each world run that begins with what is known
abbrev pub ReadsOn : List Key → History → ℕ → Key → Answer → Type 0
ReadsOn bounds known at key a = (h : History) → Begins known h → IsWorldRun bounds h → ReadsAt h at key a

-- an answer to the read of a part of a range, where it has rows: in each world run that begins with
-- what is known they are what the one-step machine sees there
abbrev pub ScansAt : List Key → History → ℕ → Key → Key → ℕ → Answer → Type 0
ScansAt bounds known at from to limit (answer.Rows rows) =
    (h : History) → Begins known h → IsWorldRun bounds h
    → SeesRows (table_of (shadow h)).row (scan_at at from to limit rows)
ScansAt bounds known at from to limit _ = Unit {0}

-- a request that reads at a timestamp
abbrev pub IsReadAt : ℕ → Body → Type 0
IsReadAt at (body.Get b) = b.at ≡ at
IsReadAt at (body.Scan b) = b.at ≡ at
IsReadAt at _ = ⊥

-- a read at a timestamp was answered so
abbrev pub WasAnsweredAt : History → ℕ → Answer → Type 0
WasAnsweredAt h at a = (b : Body) × IsReadAt at b × WasAnswered h b a

-- a last number that is told lies at or above this
abbrev pub LoadedFrom : ℕ → Answer → Type 0
LoadedFrom n (answer.FutureTimestamp last) = n ≤ last
LoadedFrom n _ = Unit {0}

-- The answers that a read of a key at a timestamp may have, by one who had seen this number drawn:
-- a value, none, a lock of that key in the way, a safe point above the timestamp, or a last number
-- loaded that lies below the timestamp, and not below what was seen. A read at the timestamp was
-- answered so, in what is known then, where nothing is found.
abbrev pub IsKeyAnswer : History → ℕ → ℕ → Key → Answer → Type 0
IsKeyAnswer h seen at key (answer.Found v) = Unit {0}
IsKeyAnswer h seen at key answer.Nothing = Unit {0}
IsKeyAnswer h seen at key (answer.KeyIsLocked info) = (info.key ≡ key) × WasAnsweredAt h at (answer.KeyIsLocked info)
IsKeyAnswer h seen at key (answer.BelowSafePoint safe) = (at < safe) × WasAnsweredAt h at (answer.BelowSafePoint safe)
IsKeyAnswer h seen at key (answer.FutureTimestamp last) = (seen ≤ last) × (last < at)
    × WasAnsweredAt h at (answer.FutureTimestamp last)
IsKeyAnswer h seen at key _ = ⊥

-- the answers that the read of a part of a range may have: rows, or what a read of a key may have
-- where it finds nothing, but that the lock is of any key
abbrev pub IsPartAnswer : History → ℕ → ℕ → Answer → Type 0
IsPartAnswer h seen at (answer.Rows rows) = Unit {0}
IsPartAnswer h seen at (answer.KeyIsLocked info) = WasAnsweredAt h at (answer.KeyIsLocked info)
IsPartAnswer h seen at (answer.BelowSafePoint safe) = (at < safe) × WasAnsweredAt h at (answer.BelowSafePoint safe)
IsPartAnswer h seen at (answer.FutureTimestamp last) = (seen ≤ last) × (last < at)
    × WasAnsweredAt h at (answer.FutureTimestamp last)
IsPartAnswer h seen at _ = ⊥

-- ---- requests

-- the keys from one up to but not including another lie in one region
abbrev pub AreTogether : List Key → Key → Key → Type 0
AreTogether bounds from to = (k : Key) → IsTrue (is_between from to k) → route bounds k ≡ route bounds from

-- where the region of a key ends: at the least bound above it, where that lies below a key
abbrev pub part_end : List Key → Key → Key → Key
part_end [] from to = to
part_end (bound ∷ bounds) from to = part_end bounds from (cond (key_lt from bound && key_lt bound to) bound to)

-- one region has what is read
abbrev pub IsOfOneRegion : List Key → Read → Type 0
IsOfOneRegion bounds (OfKey key) = Unit {0}
IsOfOneRegion bounds (Part from to limit) = AreTogether bounds from to

-- what an answer to a read finds
abbrev pub FindsAt : List Key → History → ℕ → Read → Answer → Type 0
FindsAt bounds known at (OfKey key) a = ReadsOn bounds known at key a
FindsAt bounds known at (Part from to limit) a = ScansAt bounds known at from to limit a

-- the answers that a read at a timestamp may have
abbrev pub IsAnswerTo : History → ℕ → ℕ → Read → Answer → Type 0
IsAnswerTo h seen at (OfKey key) a = IsKeyAnswer h seen at key a
IsAnswerTo h seen at (Part from to limit) a = IsPartAnswer h seen at a

-- a request asks for this, at this timestamp
abbrev pub IsReadOf : Read → ℕ → Body → Type 0
IsReadOf (OfKey key) at (body.Get b) = (b.key ≡ key) × (b.at ≡ at)
IsReadOf (Part from to limit) at (body.Scan b) = (b.from ≡ from) × (b.to ≡ to) × (b.limit ≡ limit)
    × (b.at ≡ at)
IsReadOf read at _ = ⊥
