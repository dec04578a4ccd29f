-- What C hands over with a handle: the name of its journal, the block that it points to, the store
-- in it at that name, and the right to free the block.
use Rattle.std.specs.Prelude.{Option, Some, None}
use base.Fml.{Fml, ftrue}
use denote.RawPtr.{Ptr}
use Rattle.std.specs.Global.{Global}
use Rattle.std_heap.specs.contracts.GlobalAllocator.TheImpl.{ghosts}
use Rattle.std_alloc.specs.Box.Ownership.{box_owns}
use Rattle.std.specs.contracts.marker.Brand as brand
use Rattle.tx_journal.specs.declared.view.JournalId as id
use Rattle.tx_journal.specs.Known.{Opening}
use Rattle.tx_embed.specs.Calls.{StoreState}
use Rattle.tx_embed.specs.contracts.store.EmbeddedStore as store

-- a store, and the journal that it has
pub record Held : Type 0 where
  pub name : Opening
  pub state : StoreState

-- the journal's parts, by which its type is named
abbrev pub named : Opening → id.Ghosts brand.the_row.Denot
named o = record { table = o.table; bounds = o.bounds; seats = o.seats }

-- the store lies in a block of its own at the address
abbrev pub owns_store : Global → Ptr → Held → Fml
owns_store alloc at h = box_owns (ghosts.dealloc_token alloc) (store.the_row brand.the_row (named h.name)) at h.state

-- the store that an open has made lies at the address, where it has made one
abbrev pub owns_made : Global → Ptr → Option Held → Fml
owns_made alloc at None = ftrue
owns_made alloc at (Some h) = owns_store alloc at h
