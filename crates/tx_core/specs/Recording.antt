-- Whose an event is, what a seat may record, and the events of one seat.
use Rattle.std.specs.Prelude.{◌≡◌, ◌≢◌, ◌⊎◌, ℕ, ◌+◌, ◌<◌, ◌==◌, zero, suc, Bool, false, cond, List, [], ◌∷◌, length, Option, Some, None}
use Rattle.tx_types.specs.declared.key.Key.{Key}
use Rattle.tx_core.specs.declared.event.Event.{Event}
use Rattle.tx_core.specs.declared.event.Event.TheVariants.{Drawn, Began, Declared, Answered, Stopped, Took}
use Rattle.tx_core.specs.Histories.{History, drawer}
use Rattle.tx_core.specs.Worlds.{MayCome, IsWorldRun}

-- the seat that makes an event after a history: who drew the start, for a transaction's events, and
-- the region's, for what it takes
abbrev pub owner : History → Event → Option ℕ
owner h (Drawn seat n) = Some seat
owner h (Began t) = drawer h t
owner h (Declared d) = drawer h d.start
owner h (Answered t outcome) = drawer h t
owner h (Stopped seat) = Some seat
owner h (Took x) = Some x.region

-- h goes on from l with no event of the seat
abbrev pub Extends : ℕ → History → History → Type 0
Extends seat l [] = l ≡ []
Extends seat l (e ∷ h) = (l ≡ e ∷ h) ⊎ (Extends seat l h × (owner h e ≢ Some seat))

-- An event may be recorded by a seat that has seen l: after each world run that extends l with no
-- event of this seat it may come, and it is this seat's.
abbrev pub MayRecord : List Key → ℕ → History → Event → Type 0
MayRecord bounds i l e = (h : History) → IsWorldRun bounds h → Extends i l h → MayCome bounds h e × (owner h e ≡ Some i)

-- ---- the events of one seat

-- whether an owner is this seat
abbrev pub is_seat : Option ℕ → ℕ → Bool
is_seat None i = false
is_seat (Some s) i = s == i

-- the events of a seat in a history
abbrev pub part : ℕ → History → History
part i [] = []
part i (e ∷ h) = cond (is_seat (owner h e) i) (e ∷ part i h) (part i h)

-- how many events the seats below n have in a history
abbrev pub events_of : ℕ → History → ℕ
events_of zero h = 0
events_of (suc n) h = events_of n h + length (part n h)

-- each event of a history is of a seat below n
abbrev pub AllOfSeats : ℕ → History → Type 0
AllOfSeats n [] = Unit {0}
AllOfSeats n (e ∷ h) = AllOfSeats n h × ((i : ℕ) × (owner h e ≡ Some i) × (i < n))
