-- What a call makes of a store.
use Rattle.std.specs.Prelude.{◌≡◌, ◌⊎◌, ◌<◌, ◌+◌, ℕ, List, [], length, slice_get, slice_set, Option, Some, None}
use Rattle.tx_types.specs.declared.key.Key.{Key}
use Rattle.tx_journal.specs.Known.{Known, known}
use Rattle.tx_update.specs.Updates.{SeatGoesOn}
use Rattle.tx_embed.specs.declared.answer.Said.{Said}
use Rattle.tx_embed.specs.declared.answer.Said.TheVariants.{Done, Misused}
use Rattle.tx_embed.specs.declared.client.Slot.TheVariants.{Idle}
use Rattle.tx_embed.specs.declared.request.ClientAct.{ClientAct}
use Rattle.tx_embed.specs.Requests.{Parts, parts_in, Asks, IsRefused}
use Rattle.tx_embed.specs.Acts.{SlotContent, Acts}

-- what contracts see of a store: the slots of its clients, the seat that resolves locks in their
-- way, and what was said last
pub record StoreState : Type 0 where
  pub slots : List SlotContent
  pub resolver : Known
  pub said : Said

-- a seat as its journal deals it: it knows of no event, and may draw 2^32 ticks
abbrev pub dealt : ℕ → Known
dealt number = known number 4294967296 []

-- No client has a transaction that is open, and nothing was asked: all seats but the region's are
-- there, as the journal dealt them, that of the resolver first, and only who has one asks a region.
-- What was said last is `Done`, which is told by no bytes.
abbrev pub IsNew : StoreState → Type 0
IsNew s = (s.resolver ≡ dealt 1) × (s.said ≡ Done)
    × ((n : ℕ) → n < length s.slots → slice_get s.slots n ≡ Some (Idle (dealt (2 + n))))

-- the seat that resolves, which is there between two calls
abbrev pub seat_in : Option Known → Known
seat_in None = known 0 0 []
seat_in (Some k) = k

-- nobody did anything
abbrev pub IsSame : StoreState → StoreState → Type 0
IsSame old new = (new.slots ≡ old.slots) × (new.resolver ≡ old.resolver)

-- the client of this number did what is asked, and the others nothing; or there is no such client
abbrev pub ClientActs : List Key → ℕ → ClientAct → StoreState → StoreState → Type 0
ClientActs bounds n q old new = ((slice_get old.slots n ≡ None) × (new.said ≡ Misused) × IsSame old new)
    ⊎ ((a : SlotContent) × (x : SlotContent) × (slice_get old.slots n ≡ Some a)
    × (new.slots ≡ slice_set old.slots n x) × Acts bounds q a new.said x × SeatGoesOn old.resolver new.resolver)

-- what a request with these parts makes of a store
abbrev pub CalledBy : List Key → Option Parts → StoreState → StoreState → Type 0
CalledBy bounds None old new = (new.said ≡ Misused) × IsSame old new
CalledBy bounds (Some p) old new = (IsRefused p.op p.key p.value new.said × IsSame old new)
    ⊎ ((q : ClientAct) × Asks p.op p.key p.value q × ClientActs bounds p.client q old new)

-- what a request makes of a store
abbrev pub Called : List Key → List ℕ → StoreState → StoreState → Type 0
Called bounds request old new = CalledBy bounds (parts_in request) old new

-- this was said last
abbrev pub saying : Said → StoreState → StoreState
saying told s = record s { said = told }
