-- The queues of the slots, as the latches keep them: for each slot the last command in it, and
-- with each command how many stand directly before it and which stand directly behind it in
-- one of its slots. Only this crate's own clauses cite it.
use Rattle.std.specs.Prelude.{ℕ, suc, ◌+◌, ◌-◌, ◌≤◌, ◌<◌, ◌≡◌, Bool, true, false, cond, not, ◌&&◌, nat_eq, List, [], ◌∷◌, ◌++◌, length, map, drop, Option, None, Some, slice_index_or, slice_set}
use Rattle.std.specs.List.{filter, slice_get, list_any}
use Rattle.std.specs.Option.{option_map, is_some}
use Rattle.std.specs.Vec.{vec_capacity}
use Rattle.std.specs.HashMap.{get}
use Rattle.tx_types.specs.declared.limits.TheConstants.{LATCH_SLOTS}
use Rattle.tx_latch.specs.Asked.{Command, contains, meets}
use Rattle.tx_latch.specs.declared.queues.QueueEntry.{QueueEntry}
use Rattle.tx_latch.specs.declared.queues.Queues.{Queues}

-- these slots without the taken ones
abbrev pub minus : List ℕ → List ℕ → List ℕ
minus slots taken = filter (λ s. not (contains s taken)) slots

-- those of these slots in which no later command stands
abbrev pub untaken : List ℕ → List Command → List ℕ
untaken slots [] = slots
untaken slots (c ∷ later) = untaken (minus slots c.slots) later

-- the numbers of the later commands that come first in one of these slots
abbrev pub followers : List ℕ → List Command → List ℕ
followers slots [] = []
followers slots (c ∷ later) =
    cond (meets slots c.slots) (c.cid ∷ followers (minus slots c.slots) later) (followers (minus slots c.slots) later)

-- how many commands the one of this number stands directly behind, in one of their slots
abbrev pub ahead_of : ℕ → List Command → ℕ
ahead_of cid [] = 0
ahead_of cid (c ∷ later) = cond (contains cid (followers c.slots later)) 1 0 + ahead_of cid later

-- the first of two, where it is there
abbrev pub or_else : Option ℕ → Option ℕ → Option ℕ
or_else None other = other
or_else (Some x) other = Some x

-- the number of the last command in a slot
abbrev pub last_in : List Command → ℕ → Option ℕ
last_in [] s = None
last_in (c ∷ later) s = or_else (last_in later s) (cond (contains s c.slots) (Some c.cid) None)

-- whether this number is there
abbrev pub is_number : ℕ → Option ℕ → Bool
is_number x None = false
is_number x (Some y) = nat_eq x y

-- what is kept with a command
pub record Link : Type 0 where
  pub cid : ℕ
  pub slots : List ℕ
  pub ahead : ℕ
  pub behind : List ℕ

abbrev pub link_of : QueueEntry → Link
link_of e = record { cid = e.cid; slots = e.slots.items; ahead = e.ahead; behind = e.behind.items }

-- what is kept, by positions
abbrev pub links : List (Option QueueEntry) → List (Option Link)
links asked = map (option_map link_of) asked

-- the command of a link
abbrev pub command_of : Link → Command
command_of l = record { cid = l.cid; slots = l.slots }

-- the commands that stand in these positions
abbrev pub commands : List (Option Link) → List Command
commands [] = []
commands (None ∷ positions) = commands positions
commands (Some l ∷ positions) = command_of l ∷ commands positions

-- the room of the list that is kept with the command at a position
abbrev pub room_of : Option QueueEntry → ℕ
room_of None = 0
room_of (Some e) = vec_capacity e.behind

-- what holds of links by position, the positions by number, the last number by slot, and
-- the room by position
pub record Chained (ls : List (Option Link)) (at : ℕ → Option ℕ) (last : ℕ → Option ℕ) (room : ℕ → ℕ) : Type 0 where
  -- each command is found
  pub listed : (i : ℕ) (l : Link) → slice_index_or ls i None ≡ Some l → at l.cid ≡ Some i
  -- and no other in its place
  pub found : (c i : ℕ) (l : Link) → at c ≡ Some i → slice_index_or ls i None ≡ Some l → l.cid ≡ c
  pub within : (c i : ℕ) → at c ≡ Some i → i < length ls
  -- with each are those that stand directly behind it
  pub behind : (i : ℕ) (l : Link) → slice_index_or ls i None ≡ Some l
      → l.behind ≡ followers l.slots (commands (drop (suc i) ls))
  -- and the count of those that it stands directly behind
  pub ahead : (i : ℕ) (l : Link) → slice_index_or ls i None ≡ Some l → l.ahead ≡ ahead_of l.cid (commands ls)
  -- each slot has its last command
  pub last_is : (s : ℕ) → s < LATCH_SLOTS → last s ≡ last_in (commands ls) s
  -- there is room for one more behind each command in each slot in which it is the last
  pub room_is : (i : ℕ) (l : Link) → slice_index_or ls i None ≡ Some l
      → length l.behind + length (untaken l.slots (commands (drop (suc i) ls))) ≤ room i

-- each link is found by its number, and no other by its position
abbrev pub Placed : List (Option Link) → (ℕ → Option ℕ) → Type 0
Placed ls at =
    ((i : ℕ) (l : Link) → slice_index_or ls i None ≡ Some l → at l.cid ≡ Some i)
    × ((c i : ℕ) (l : Link) → at c ≡ Some i → slice_index_or ls i None ≡ Some l → l.cid ≡ c)

-- the position of a number
abbrev pub position_of : Queues → ℕ → Option ℕ
position_of q c = get nat_eq q.positions c

-- the room of a position
abbrev pub room_at : List (Option QueueEntry) → ℕ → ℕ
room_at asked i = room_of (slice_index_or asked i None)

-- the last number in a slot
abbrev pub last_of : Queues → ℕ → Option ℕ
last_of q s = slice_index_or q.last s None

-- what holds of the queues, also while a command joins them
abbrev pub Joinable : Queues → Type 0
Joinable q = Chained (links q.asked.items) (position_of q) (last_of q) (room_at q.asked.items)

-- and between calls: each number that has a position stands there
abbrev pub BetweenCalls : Queues → Type 0
BetweenCalls q = Joinable q × ((c i : ℕ) → position_of q c ≡ Some i
    → is_some (slice_index_or (links q.asked.items) i None) ≡ true)

-- the list that was asked
abbrev pub asked_of : Queues → List Command
asked_of q = commands (links q.asked.items)

-- the link with one of this number behind it, which is added unless it was just now
abbrev pub followed : ℕ → Link → Link
followed cid l = cond (is_number cid (slice_get l.behind (length l.behind - 1))) l (record l {
  behind = l.behind ++ cid
      ∷ [];
})

-- the link with one less before it
abbrev pub lowered : Link → Link
lowered l = record l { ahead = l.ahead - 1 }

-- a change of the link at a position
abbrev pub at_position : Option ℕ → (Link → Link) → List (Option Link) → List (Option Link)
at_position None f ls = ls
at_position (Some i) f ls = slice_set ls i (option_map f (slice_index_or ls i None))

-- the link at a position
abbrev pub link_at : Option ℕ → List (Option Link) → Option Link
link_at None ls = None
link_at (Some i) ls = slice_index_or ls i None

-- whether one of this number is added behind a link
abbrev pub adds : ℕ → Option Link → Bool
adds cid None = false
adds cid (Some l) = not (is_number cid (slice_get l.behind (length l.behind - 1)))

-- whether there is room for one more behind the link of a position, where it is added
abbrev pub HasRoom : ℕ → Option Link → ℕ → Type 0
HasRoom cid position room = (l : Link) → position ≡ Some l → adds cid (Some l) ≡ true → length l.behind < room

-- the link behind which one of this number is, where it was the last in one of these slots
abbrev pub joined : ℕ → (ℕ → Option ℕ) → List ℕ → Link → Link
joined cid last slots l = cond (list_any (λ s. is_number l.cid (last s)) slots) (record l {
  behind = l.behind ++ cid
      ∷ [];
}) l

-- the links that pass a test
abbrev pub count_links : (Link → Bool) → List (Option Link) → ℕ
count_links test [] = 0
count_links test (None ∷ ls) = count_links test ls
count_links test (Some l ∷ ls) = cond (test l) 1 0 + count_links test ls

-- how often a number stands in a list
abbrev pub tally : ℕ → List ℕ → ℕ
tally x [] = 0
tally x (y ∷ ys) = cond (nat_eq x y) 1 0 + tally x ys

-- the link with one less before it, where it is one of these
abbrev pub lowered_in : List ℕ → Link → Link
lowered_in cids l = record l { ahead = l.ahead - tally l.cid cids }

-- whether a command stands at a position with none before it
abbrev pub has_none_before : Option Link → Bool
has_none_before None = false
has_none_before (Some l) = nat_eq l.ahead 0

-- the links after one of this number came behind the last in a slot
abbrev pub after_slot : Option ℕ → (ℕ → Option ℕ) → ℕ → List (Option Link) → List (Option Link)
after_slot None at cid ls = ls
after_slot (Some b) at cid ls = at_position (at b) (followed cid) ls

-- whether it is added there
abbrev pub adds_slot : Option ℕ → (ℕ → Option ℕ) → ℕ → List (Option Link) → Bool
adds_slot None at cid ls = false
adds_slot (Some b) at cid ls = adds cid (link_at (at b) ls)

-- the position of a number that has one, once each of these links, from this position on,
-- is given its own
abbrev pub replaced : List (Option Link) → ℕ → ℕ → Option ℕ → Option ℕ
replaced [] from c o = o
replaced (None ∷ ls) from c o = replaced ls (suc from) c o
replaced (Some l ∷ ls) from c o = replaced ls (suc from) c (cond (nat_eq l.cid c && is_some o) (Some from) o)
