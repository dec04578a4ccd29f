-- What an engine holds, what acts make of it, and what is counted.
use Rattle.std.specs.Prelude.{◌≡◌, ◌≤◌, ◌⊎◌, ℕ, suc, ◌+◌, Bool, true, List, [], ◌∷◌, ◌++◌, map, length, slice_get, slice_set, Option, Some, None, Result, Ok, Err, Contains, String, string_bytes, bytes_eq}
use Rattle.std.specs.BTreeMap.{BTreeMap}
use Rattle.std.specs.Global.{Global}
use Rattle.std.specs.List.{sum_by}
use Rattle.std.specs.Map.{lookup}
use Rattle.tx_types.specs.declared.fault.Cause.{Cause}
use Rattle.tx_types.specs.declared.fault.Cause.TheVariants as cause
use Rattle.tx_types.specs.declared.fault.Fault.{Fault}
use Rattle.tx_types.specs.declared.key.Key.{Key}
use Rattle.tx_cells.specs.declared.copies.KeyVersions.{KeyVersions}
use Rattle.tx_core.specs.Histories.{History}
use Rattle.tx_core.specs.declared.event.Declaration.{Declaration}
use Rattle.tx_core.specs.declared.event.Event.TheVariants.{Declared}
use Rattle.tx_trace.specs.Traces.{Noted}
use Rattle.tx_journal.specs.Known.{Known}
use Rattle.tx_transaction.specs.Sessions.{SessionState, begun, notes_one, with_passed}
use Rattle.tx_client.specs.Calls.{Seated}
use Rattle.tx_client.specs.Calls.{HasHeard}
use Rattle.tx_client.specs.declared.resolved.Status.TheVariants as status
use Rattle.tx_client.specs.declared.resolved.WaitCause.TheVariants as wait
use Rattle.tx_client.specs.Statuses.{FoundStatus, lies_above}
use Rattle.tx_engine.specs.declared.slots.SessionSlot.{SessionSlot}
use Rattle.tx_engine.specs.declared.slots.SessionSlot.TheVariants.{Free, Live, Lent}
use Rattle.tx_reply.specs.declared.reply.ScriptReply.{ScriptReply}
use Rattle.tx_reply.specs.declared.reply.ScriptReply.TheVariants as replies
use Rattle.tx_network.specs.Networks.{NetworkParts, network_state, NetworkState, made_by, IsDone, AreNumbered, IsTraced, GoesOnWith, KeptAs, NotesDrawn, Displays}
use Rattle.tx_steps.specs.declared.delivery.Delivery.{Delivery}
use Rattle.tx_steps.specs.declared.step.Step.{Step}
use Rattle.tx_steps.specs.Steps.{Text}
use Rattle.tx_engine.specs.Semantics.{SlotState, free, session, EngineState, Transition, stops, live_at, seat_at, resolves, delivers, inspects, turn}
use Rattle.tx_engine.specs.Plays.{Leads}

-- what a slot has
abbrev pub SlotContent : Type 0
SlotContent = SessionSlot Known Seated

abbrev pub seat_in : SlotContent → Option Known
seat_in (Free k) = Some k
seat_in (Live s) = Some s.seat
seat_in Lent = None

abbrev pub slot_of : SlotContent → SlotState
slot_of (Free k) = free
slot_of (Live s) = session s.state
slot_of Lent = session (begun 0)

-- the network, the seat for what no session does, the slots of names, and the slots
pub record Held : Type 0 where
  pub network : NetworkParts
  pub system_seat : Known
  pub names : List (List ℕ × ℕ)
  pub slots : List SlotContent

-- names by their bytes, with their slots
abbrev pub texts : List (String Global × ℕ) → List (List ℕ × ℕ)
texts entries = map (λ e. (string_bytes e.0, e.1)) entries

abbrev pub name_at : List (List ℕ × ℕ) → List ℕ → Option ℕ
name_at names q = lookup (λ k. bytes_eq q k) names

abbrev pub engine_with : NetworkState → ℕ → (List ℕ → Option ℕ) → List SlotState → EngineState
engine_with network ticks names slots = record { network = network; ticks = ticks; names = names; slots = slots }

-- the engine state that an engine holds
abbrev pub engine_state : Held → EngineState
engine_state e = engine_with (network_state e.network) e.system_seat.ticks (λ q. name_at e.names q)
    (map slot_of e.slots)

-- ---- counting

abbrev pub made_in : Option Known → ℕ
made_in None = 0
made_in (Some k) = made_by k

-- how many events the seats of the regions have made
abbrev pub at_regions : NetworkParts → ℕ
at_regions d = sum_by made_by d.regions

-- how many events all seats of the engine have made
abbrev pub own : Held → ℕ
own e = at_regions e.network + made_by e.system_seat + sum_by (λ p. made_in (seat_in p)) e.slots

-- the seat has this number, and may draw so many ticks
abbrev pub IsSeat : ℕ → ℕ → Option Known → Type 0
IsSeat i n None = ⊥
IsSeat i n (Some k) = (k.seat ≡ i) × (n ≤ k.ticks)

-- the seats of these slots are i and those that follow it, and each may draw so many ticks
abbrev pub AreSeated : ℕ → ℕ → List SlotContent → Type 0
AreSeated i n [] = Unit {0}
AreSeated i n (p ∷ slots) = IsSeat i n (seat_in p) × AreSeated (suc i) n slots

-- the seats of an engine are those of the regions, one for what no session does, and those of the
-- slots, each of which may draw so many ticks
pub record AllSeated (bounds : List Key) (n : ℕ) (e : Held) : Type 0 where
  pub system_seat : e.system_seat.seat ≡ length bounds + 1
  pub slots : AreSeated (length bounds + 2) n e.slots

-- no live session has this name, where each slot has a seat
abbrev pub NamesNone : List Key → BTreeMap (String Global) ℕ → List SlotContent → List ℕ → Type 0
NamesNone bounds names slots name = (e : Held) → e.names ≡ texts names.entries → e.slots ≡ slots → AllSeated bounds 1 e
    → live_at (engine_state e) name ≡ None

-- a number was drawn for what is declared, and then it was declared; or nothing was
abbrev pub NotesPlaced : Option Declaration → Option Noted → Option Noted → Type 0
NotesPlaced None old new = KeptAs old new
NotesPlaced (Some d) old new = (mid : Option Noted) × NotesDrawn d.drawn old mid × GoesOnWith mid (Declared d) new

-- Some events were made by a seat and the regions, at least so many came, and where no more
-- came, it is exact.
pub record Acts (old new : Known) (from to : NetworkParts) (Exact : Type 0) : Type 0 where
  pub made : ℕ
  pub counts : made_by new + at_regions to ≤ made_by old + at_regions from + made
  pub seat : new.seat ≡ old.seat
  pub ticks : old.ticks ≤ new.ticks + 1
  pub grows : length from.newest + made ≤ length to.newest
  pub exact : length to.newest ≤ length from.newest + made → Exact
  pub traced : length to.newest ≤ length from.newest + made → IsTraced from → IsTraced to

-- the same of the seat for no session, which may draw more ticks at once
pub record Serves (old new : Known) (from to : NetworkParts) (Exact : Type 0) : Type 0 where
  pub made : ℕ
  pub counts : made_by new + at_regions to ≤ made_by old + at_regions from + made
  pub seat : new.seat ≡ old.seat
  pub grows : length from.newest + made ≤ length to.newest
  pub exact : length to.newest ≤ length from.newest + made → Exact
  pub traced : length to.newest ≤ length from.newest + made → IsTraced from → IsTraced to

-- the same of that seat, which sends, and of a session's, which learns what was found
pub record Finds (old new k m : Known) (from to : NetworkParts) (Exact : Type 0) : Type 0 where
  pub made : ℕ
  pub counts : made_by new + made_by m + at_regions to ≤ made_by old + made_by k + at_regions from + made
  pub seat : new.seat ≡ old.seat
  pub ticks : new.ticks ≡ old.ticks
  pub system_seat : m.seat ≡ k.seat
  pub left : m.ticks ≡ k.ticks
  pub grows : length from.newest + made ≤ length to.newest
  pub exact : length to.newest ≤ length from.newest + made → Exact
  pub traced : length to.newest ≤ length from.newest + made → IsTraced from → IsTraced to

-- the same of an engine
pub record Goes (bounds : List Key) (old new : Held) (Exact : Type 0) : Type 0 where
  pub made : ℕ
  pub counts : own new ≤ own old + made
  pub size : length new.slots ≡ length old.slots
  pub seated : (n : ℕ) → AllSeated bounds (suc n) old → AllSeated bounds n new
  pub grows : length old.network.newest + made ≤ length new.network.newest
  pub exact : length new.network.newest ≤ length old.network.newest + made → Exact
  pub traced : length new.network.newest ≤ length old.network.newest + made → IsTraced old.network
      → IsTraced new.network

-- The region n showed a key, and nothing else of the engine changed: no event was made, and where
-- none came, its engine state is as it was.
pub record Peeks (n : ℕ) (old new : Held) (key : Key) (copied : Result KeyVersions Fault) : Type 0 where
  pub shown : Displays n old.network new.network key copied
  pub system_seat : new.system_seat ≡ old.system_seat
  pub names : new.names ≡ old.names
  pub slots : new.slots ≡ old.slots

-- ---- steps

-- a turn goes on to an engine state with this reply, whatever is refused after it
abbrev pub GoesTo : List Key → (List Bool → Transition) → ScriptReply → EngineState → Type 0
GoesTo bounds turn reply next = (refused : List Bool)
    × ((later : List Bool) → Leads bounds (λ n said left. (n ≡ next) × (said ≡ reply)
    × (left ≡ later)) (λ cause. ⊥) (turn (refused ++ later)))

-- A session of the seat n goes on with this reply, at this stage and at whatever slot its seat is.
abbrev pub SessionGoes : List Key → (List Bool → EngineState → ℕ → SessionState → Transition) → ℕ → SessionState
    → SessionState → NetworkState → NetworkState → ScriptReply → Type 0
SessionGoes bounds turn n old new from to reply = (ticks : ℕ) (names : List ℕ
    → Option ℕ) (slots : List SlotState) (k : ℕ) → n ≡ seat_at bounds k → slice_get slots k ≡ Some (session old)
    → GoesTo bounds (λ refused. turn refused (engine_with from ticks names slots) k old) reply
    (engine_with to ticks names (slice_set slots k (session new)))

-- it went on so
abbrev pub Sent : List Key → (List Bool → EngineState → ℕ → SessionState → Transition) → ScriptReply → Seated → Seated
    → NetworkParts → NetworkParts → Type 0
Sent bounds turn reply old new from to = Acts old.seat new.seat from to
    (SessionGoes bounds turn old.seat.seat old.state new.state (network_state from) (network_state to) reply)

-- nothing changes but what becomes of the next requests
abbrev pub Stays : NetworkParts → NetworkParts → Type 0
Stays from to = (delivery : Option (Delivery Text)) × (to ≡ record from { delivery = delivery })

-- a step of a session: it goes on; or it is not allowed, and nothing changes but what becomes of
-- the next requests, which each step that sends says anew
abbrev pub Did : List Key → (List Bool → EngineState → ℕ → SessionState → Transition) → Result ScriptReply Cause
    → Seated → Seated → NetworkParts → NetworkParts → Type 0
Did bounds turn (Ok reply) old new from to = Sent bounds turn reply old new from to
Did bounds turn (Err cause) old new from to = (new ≡ old) × Stays from to
    × ((refused : List Bool) (ticks : ℕ) (names : List ℕ → Option ℕ) (slots : List SlotState) (k : ℕ)
    → turn refused (engine_with (network_state from) ticks names slots) k old.state ≡ stops cause)

-- what a step of a session does at a slot: the live session there makes it; with none it is not
-- allowed, and changes nothing
abbrev pub ActsIn : List Key → (List Bool → EngineState → ℕ → SessionState → Transition) → SlotContent
    → SlotContent → Result ScriptReply Cause → NetworkParts → NetworkParts → Type 0
ActsIn bounds turn (Live s) new result from to = (t : Seated) × (new ≡ Live t) × Did bounds turn result s t from to
ActsIn bounds turn old new result from to = (result ≡ Err cause.Name) × (new ≡ old) × (to ≡ from)

-- a session learnt what was found; or memory for one more start that its reads pass by was refused,
-- and it waits
abbrev pub Learnt : List Key → FoundStatus → ScriptReply → Seated → Seated → Type 0
Learnt bounds f reply old new =
    ((reply ≡ replies.Status f.status)
    × (new.state ≡ with_passed old.state f.start (lies_above f.status old.state.start))
    × HasHeard bounds old.seat f.events new.seat)
    ⊎ ((reply ≡ replies.Status (status.Waiting wait.OutOfMemory))
    × (notes_one old.state f.start (lies_above f.status old.state.start) ≡ true)
    × (new ≡ old))

-- a lock that a session met is resolved; or that is not allowed and changes nothing
abbrev pub Resolves : List Key → ℕ → Result ScriptReply Cause → Seated → Seated → Known → Known → NetworkParts
    → NetworkParts → Type 0
Resolves bounds now (Ok reply) old new k m from to =
    Finds old.seat new.seat k m from to (SessionGoes bounds (λ refused engine j s.
    resolves bounds refused engine j s now) old.seat.seat old.state new.state (network_state from)
    (network_state to) reply)
Resolves bounds now (Err cause) old new k m from to = (new ≡ old) × (m ≡ k) × (to ≡ from)
    × ((refused : List Bool) (engine : EngineState) (j : ℕ)
    → resolves bounds refused engine j old.state now ≡ stops cause)

-- What a delivery gives: regions took a copy of a held request, so many events were made, at least
-- so many came, and where no more came, it is exact.
pub record Handed (bounds : List Key) (name : List ℕ) (reply : ScriptReply) (from to : NetworkParts) : Type 0 where
  pub made : ℕ
  pub counts : at_regions to ≤ at_regions from + made
  pub grows : length from.newest + made ≤ length to.newest
  pub traced : length to.newest ≤ length from.newest + made → IsTraced from → IsTraced to
  pub exact : length to.newest ≤ length from.newest + made
      → ((ticks : ℕ) (names : List ℕ → Option ℕ) (slots : List SlotState)
      → GoesTo bounds (λ refused. delivers bounds refused (engine_with (network_state from) ticks names slots)
      ((network_state from).held name)) reply (engine_with (network_state to) ticks names slots))

-- it is delivered; or nothing is held under the name
abbrev pub Delivered : List Key → List ℕ → Result ScriptReply Cause → NetworkParts → NetworkParts → Type 0
Delivered bounds name (Ok reply) from to = Handed bounds name reply from to
Delivered bounds name (Err cause) from to = (to ≡ from)
    × ((refused : List Bool) (ticks : ℕ) (names : List ℕ → Option ℕ) (slots : List SlotState)
    → delivers bounds refused (engine_with (network_state from) ticks names slots) ((network_state from).held name)
    ≡ stops cause)

-- What a step gives that has a key shown: no event was made, and where none came, it is exact.
pub record Inspected (bounds : List Key) (key : List ℕ) (reply : ScriptReply) (from to : NetworkParts) : Type 0 where
  pub counts : at_regions to ≤ at_regions from
  pub grows : length from.newest ≤ length to.newest
  pub traced : length to.newest ≤ length from.newest → IsTraced from → IsTraced to
  pub exact : length to.newest ≤ length from.newest
      → ((ticks : ℕ) (names : List ℕ → Option ℕ) (slots : List SlotState)
      → GoesTo bounds (λ refused. inspects refused (engine_with (network_state from) ticks names slots) key) reply
      (engine_with (network_state to) ticks names slots))

-- a turn went on from the engine state that the engine held to the one that it then holds, or it
-- stopped and changed nothing
abbrev pub TurnedBy : List Key → (List Bool → EngineState → Transition) → Result ScriptReply Cause → Held → Held
    → Type 0
TurnedBy bounds turn (Ok reply) old new = GoesTo bounds (λ refused. turn refused (engine_state old)) reply
    (engine_state new)
TurnedBy bounds turn (Err cause) old new = (engine_state new ≡ engine_state old)
    × ((later : List Bool) → turn later (engine_state old) ≡ stops cause)

-- a step did
abbrev pub Turned : List Key → Step Text → Result ScriptReply Cause → Held → Held → Type 0
Turned bounds step result old new = TurnedBy bounds (λ refused engine. turn bounds refused step engine) result old new

-- ---- the end

abbrev pub Done : History → Option Known → Type 0
Done n None = Unit {0}
Done n (Some k) = IsDone n k

-- what is newest has no event of a seat beyond those that the seat has made
pub record Settled (bounds : List Key) (e : Held) : Type 0 where
  pub many : length e.network.regions ≡ length bounds + 1
  pub regions : (k : Known) → Contains e.network.regions k → IsDone e.network.newest k
  pub numbers : AreNumbered 0 e.network.regions
  pub system_seat : IsDone e.network.newest e.system_seat
  pub slots : (p : SlotContent) → Contains e.slots p → Done e.network.newest (seat_in p)
