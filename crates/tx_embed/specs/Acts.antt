-- What a client does, and what is said of it.
use Rattle.std.specs.Prelude.{◌≡◌, ◌⊎◌, ◌<◌, ℕ, List, [], ◌∷◌, Some, None, Ok, Err}
use Rattle.tx_types.specs.declared.key.Key.{Key}
use Rattle.tx_types.specs.declared.mutation.Mutation.TheVariants as mutation
use Rattle.tx_types.specs.declared.mutation.Mode.TheVariants as mode
use Rattle.tx_core.specs.Histories.{declared}
use Rattle.tx_core.specs.declared.event.Event.TheVariants as event
use Rattle.tx_journal.specs.Known.{Known}
use Rattle.tx_transaction.specs.declared.state.Terms.{Terms}
use Rattle.tx_transaction.specs.Buffers.{Entries, touched, put_over, inserted, locked, buffered, is_full}
use Rattle.tx_transaction.specs.Sessions.{begun}
use Rattle.tx_client.specs.Calls.{Seated, BeganAt, Records}
use Rattle.tx_update.specs.declared.stops.Stop.TheVariants as stop
use Rattle.tx_update.specs.Reads.{Finds, FindsRows}
use Rattle.tx_update.specs.Stops.{IsReadStop, IsEntryStop, NamesKey}
use Rattle.tx_update.specs.Updates.{Follows}
use Rattle.tx_embed.specs.declared.answer.Said.{Said}
use Rattle.tx_embed.specs.declared.answer.Said.TheVariants as said
use Rattle.tx_embed.specs.declared.client.Slot.{Slot}
use Rattle.tx_embed.specs.declared.client.Slot.TheVariants.{Idle, Open}
use Rattle.tx_embed.specs.declared.open_transaction.NotCommitted.TheVariants as uncommitted
use Rattle.tx_embed.specs.declared.request.ClientAct.{ClientAct}
use Rattle.tx_embed.specs.declared.request.ClientAct.TheVariants as act
use Rattle.tx_embed.specs.Reads.{NamesWithin}
use Rattle.tx_embed.specs.Transactions.{Enters, Commits}

-- what the slot of a client has
abbrev pub SlotContent : Type 0
SlotContent = Slot Known Seated

-- the terms of each commit
abbrev pub commit_terms : Terms
commit_terms = record { mode = mode.TwoPhase; ttl = 0; max_commit = None }

-- a transaction begins by the seat, or the seat has no ticks for that
abbrev pub Begins : List Key → Known → Said → SlotContent → Type 0
Begins bounds k said.Done x = (s : Seated) × (x ≡ Open s) × (s.state ≡ begun s.state.start)
    × BeganAt bounds k s.state.start s.seat
Begins bounds k said.Spent x = (x ≡ Idle k) × (k.ticks < 1)
Begins bounds k _ x = ⊥

-- what a read of a key finds, or why it stops
abbrev pub FindsSo : Key → Seated → Said → Seated → Type 0
FindsSo key s (said.Found v) t = Finds (buffered s.state.buffer key) t.seat.events s.state.start key (Some v)
FindsSo key s said.Absent t = Finds (buffered s.state.buffer key) t.seat.events s.state.start key None
FindsSo key s (said.Stopped why) t = IsReadStop (λ _. ⊥) t.seat.events s.state.start why × NamesKey key why
FindsSo key s _ t = ⊥

-- the first row of a range that is seen at the start, or why the read stops
abbrev pub FirstSo : Key → Key → Seated → Said → Seated → Type 0
FirstSo from to s (said.Row row) t = FindsRows t.seat.events s.state.start from to 1 (row ∷ [])
FirstSo from to s said.Absent t = FindsRows t.seat.events s.state.start from to 1 []
FirstSo from to s (said.Stopped why) t = IsReadStop (λ _. ⊥) t.seat.events s.state.start why × NamesWithin from to why
FirstSo from to s _ t = ⊥

-- a read: the transaction goes on, and what it entered is the same
abbrev pub Reads : (Seated → Said → Seated → Type 0) → Seated → Said → SlotContent → Type 0
Reads so s told x = (t : Seated) × (x ≡ Open t) × Follows s t × (t.state.buffer ≡ s.state.buffer) × so s told t

-- this is entered, or nothing is, and why
abbrev pub EntersSo : Entries → Key → Seated → Said → SlotContent → Type 0
EntersSo entered key s said.Done x = (t : Seated) × (x ≡ Open t) × Enters entered s t
EntersSo entered key s (said.Stopped why) x = (x ≡ Open s) × IsEntryStop (is_full s.state.buffer key) why
EntersSo entered key s _ x = ⊥

-- an insert is entered, or nothing is, and why
abbrev pub InsertsSo : Key → List ℕ → Seated → Said → SlotContent → Type 0
InsertsSo key value s said.Done x = (t : Seated) × (x ≡ Open t)
    × (inserted s.state.buffer key value ≡ Some t.state.buffer) × Enters t.state.buffer s t
InsertsSo key value s (said.Stopped why) x = (x ≡ Open s) × (IsEntryStop (is_full s.state.buffer key) why
    ⊎ ((why ≡ stop.AlreadyExists key) × (inserted s.state.buffer key value ≡ None)))
InsertsSo key value s _ x = ⊥

-- the transaction has ended, as is told
abbrev pub EndsSo : List Key → Seated → Said → Known → Type 0
EndsSo bounds s (said.Committed at) k = Commits bounds commit_terms s (Ok (Some at)) k
EndsSo bounds s said.ReadOnly k = Commits bounds commit_terms s (Ok None) k
EndsSo bounds s (said.Stopped why) k = Commits bounds commit_terms s (Err (uncommitted.Stopped why)) k
EndsSo bounds s said.Unknown k = Commits bounds commit_terms s (Err uncommitted.Unknown) k
EndsSo bounds s _ k = ⊥

-- it is left: nothing of it was declared
abbrev pub Leaves : List Key → Seated → Known → Type 0
Leaves bounds s k = Records bounds s.seat (event.Stopped s.seat.seat) k × (declared s.seat.events s.state.start ≡ None)

-- What a client does that is asked this, by what its slot has, what is then said, and what its slot
-- has then. Without a transaction that is open, and with one where another is to begin, nothing is
-- done.
abbrev pub Acts : List Key → ClientAct → SlotContent → Said → SlotContent → Type 0
Acts bounds act.Begin (Idle k) told x = Begins bounds k told x
Acts bounds act.Begin a told x = (told ≡ said.Busy) × (x ≡ a)
Acts bounds (act.Get key) (Open s) told x = Reads (FindsSo key) s told x
Acts bounds (act.Put key value) (Open s) told x =
    EntersSo (touched s.state.buffer key (put_over (buffered s.state.buffer key) value)) key s told x
Acts bounds (act.Insert key value) (Open s) told x = InsertsSo key value s told x
Acts bounds (act.Delete key) (Open s) told x = EntersSo (touched s.state.buffer key mutation.Delete) key s told x
Acts bounds (act.Lock key) (Open s) told x = EntersSo (locked s.state.buffer key) key s told x
Acts bounds (act.Next from to) (Open s) told x = Reads (FirstSo from to) s told x
Acts bounds act.Commit (Open s) told x = (k : Known) × (x ≡ Idle k) × EndsSo bounds s told k
Acts bounds act.Abort (Open s) told x = (k : Known) × (x ≡ Idle k) × (told ≡ said.Done) × Leaves bounds s k
Acts bounds q a told x = (told ≡ said.NoTransaction) × (x ≡ a)

-- it is done within a transaction that is open, which stays open
abbrev pub IsWithin : ClientAct → Type 0
IsWithin act.Begin = ⊥
IsWithin act.Commit = ⊥
IsWithin act.Abort = ⊥
IsWithin _ = Unit {0}
