-- A session starts at or above what its seat knew to be decided when it began, and commits above
-- what it knew so when it declared.
use Rattle.std.proofs.Common.{◌≡◌, ℕ, ◌<◌, ◌≤◌, inr, true, List, [], ◌∷◌, Some, refl, sym, subst}
use Rattle.tx_types.specs.declared.key.Key.{Key}
use Rattle.tx_types.specs.declared.mutation.Fate.TheVariants as fate
use Rattle.tx_types.specs.declared.mutation.Mutation.{Mutation}
use Rattle.tx_types.specs.Keys.{IsVisible}
use Rattle.tx_machine.specs.Machine.{Done, Commits, Newest, table_of}
use Rattle.tx_core.specs.declared.event.Declaration.{Declaration}
use Rattle.tx_core.specs.declared.event.Outcome.{Outcome}
use Rattle.tx_core.specs.declared.event.Outcome.TheVariants as outcome
use Rattle.tx_core.specs.declared.event.Event.{Event}
use Rattle.tx_core.specs.declared.event.Event.TheVariants.{Began, Declared}
use Rattle.tx_core.specs.Histories.{History, declared, Begins}
use Rattle.tx_core.specs.Decisions.{decided}
use Rattle.tx_core.specs.Laws.{DecidedBefore}
use Rattle.tx_core.specs.Shadow.{shadow}
use Rattle.tx_core.specs.Worlds.{IsWorldRun}
use Rattle.tx_core.proofs.Basics.{nat_same}
use Rattle.tx_core.proofs.seats.Beginnings.{begins_all, begins_more, extends_begins}
use Rattle.tx_core.proofs.seats.Stays.{declared_on}
use Rattle.tx_core.proofs.runs.CommitOrder.{decided_below, drawn_after, decided_before_on, decided_in_order, reads_decided}
use Rattle.tx_core.proofs.runs.Consequences.{decided_declared}
use Rattle.tx_journal.specs.Known.{Known, HasRecorded, HasDrawn}
use Rattle.tx_transaction.specs.declared.state.Terms.{Terms}
use Rattle.tx_transaction.specs.Buffers.{Entries, not_empty}
use Rattle.tx_transaction.specs.Sessions.{SessionState, declaration_of, declaration}
use Rattle.tx_client.specs.Calls.{BeganAt, Records, DeclaredWith, RecordsDeclared, IsDecidedSo}
use Rattle.tx_client.specs.Facts.{IsSeated}
use Rattle.tx_client.specs.Order.{IsDrawnAfter, CommitsAbove}
use Rattle.tx_client.proofs.Due.{stands_some}

-- a number that a seat draws is drawn after what it knew
drawn_next : (bounds : List Key) (i p : ℕ) (old mid : History) → HasDrawn bounds i old 1 p mid → IsDrawnAfter old mid p
drawn_next bounds i p old mid drew u c is =
    subst (λ x. DecidedBefore x p u c) (sym drew.is)
    (drawn_after i p u c old drew.before (extends_begins i old drew.before drew.extends) is)

-- and stays so when it recorded something
recorded_after : (bounds : List Key) (i p u c : ℕ) (e : Event) (mid new : History) → HasRecorded bounds i mid e new
    → DecidedBefore mid p u c → DecidedBefore new p u c
recorded_after bounds i p u c e mid new r before =
    subst (λ x. DecidedBefore x p u c) (sym r.is)
    (decided_before_on mid (e ∷ r.before) (begins_more mid r.before (e ∷ r.before)
    (extends_begins i mid r.before r.extends) (inr (begins_all r.before))) p u c before)

-- so a start is, once its seat drew it and recorded that it began there
pub began_drawn_after : (bounds : List Key) (k mid new : Known) (t : ℕ) → mid.seat ≡ k.seat
    → HasDrawn bounds k.seat k.events 1 t mid.events → Records bounds mid (Began t) new
    → IsDrawnAfter k.events new.events t
began_drawn_after bounds k mid new t number drew r u c is =
    recorded_after bounds mid.seat t u c (Began t) mid.events new.events r.recorded
    (drawn_next bounds k.seat t k.events mid.events drew u c is)

-- a start is drawn after what the seat knew
pub began_after : (bounds : List Key) (old new : Known) (t : ℕ) → BeganAt bounds old t new
    → IsDrawnAfter old.events new.events t
began_after bounds old new t w u c is =
    recorded_after bounds old.seat t u c (Began t) w.mid new.events w.began
    (drawn_next bounds old.seat t old.events w.mid w.drew u c is)

-- so is the number of a declaration
drawn_after_known : (bounds : List Key) (old new : Known) (d : Declaration) → DeclaredWith bounds old d new
    → IsDrawnAfter old.events new.events d.drawn
drawn_after_known bounds old new d w u c is =
    recorded_after bounds old.seat d.drawn u c (Declared d) w.mid new.events w.recorded
    (drawn_next bounds old.seat d.drawn old.events w.mid w.drew u c is)

-- so is that of a buffer that is not empty
pub declared_after : (bounds : List Key) (old new : Known) (t p : ℕ) (es : Entries) (terms : Terms)
    → RecordsDeclared bounds old (declaration t p es terms) new → not_empty es ≡ true
    → IsDrawnAfter old.events new.events p
declared_after bounds old new t p [] terms r some = absurd (cc (some))
declared_after bounds old new t p (e ∷ es) terms r some =
    drawn_after_known bounds old new (declaration_of t p (e ∷ es) terms) r

-- what a session answers is in order
pub answers_in_order : (bounds : List Key) (k : Known) (s : SessionState) (o : Outcome) → IsSeated bounds k s
    → IsDecidedSo k.events s.start o → CommitsAbove k.events s.placed o
answers_in_order bounds k s (outcome.Committed c) is end =
    let stands = stands_some bounds k.events is.0 k.seat s is.1
    (decided_declared bounds k.events is.0 s.start (fate.Committed c) end) in
    λ u d before. decided_in_order bounds k.events s.start u d c (declaration_of s.start s.placed s.buffer stands.0)
    is.0 stands.2 before end
answers_in_order bounds k s outcome.Aborted is end = tt
answers_in_order bounds k s (outcome.Unknown why) is end = tt
answers_in_order bounds k s outcome.ReadOnly is end = tt

pub commits_above : (bounds : List Key) (old new : Known) (d : Declaration) (h : History) (u c e : ℕ)
    → DeclaredWith bounds old d new → Begins new.events h
    → IsWorldRun bounds h → decided old.events u ≡ Done (fate.Committed c) → decided h d.start ≡ Done (fate.Committed e)
    → c < e
commits_above bounds old new d h u c e w goes run is end =
    let later : Begins (Declared d ∷ w.recorded.before) h = subst (λ x. Begins x h) w.recorded.is goes in
    let stands : declared (Declared d ∷ w.recorded.before) d.start ≡ Some d = rw (nat_same d.start) refl in
    decided_in_order bounds h d.start u c e d run (declared_on bounds (Declared d ∷ w.recorded.before) h run later
    d.start d stands) (decided_before_on new.events h goes d.drawn u c
    (drawn_after_known bounds old new d w u c is)) end

-- what a session begins after
began_before : (bounds : List Key) (old new : Known) (t : ℕ) (h : History) (u c : ℕ)
    → BeganAt bounds old t new → Begins new.events h → decided old.events u ≡ Done (fate.Committed c)
    → DecidedBefore h t u c
began_before bounds old new t h u c w goes is =
    decided_before_on new.events h goes t u c (began_after bounds old new t w u c is)

pub starts_above : (bounds : List Key) (old new : Known) (t : ℕ) (h : History) (u c : ℕ)
    → BeganAt bounds old t new → Begins new.events h → IsWorldRun bounds h
    → decided old.events u ≡ Done (fate.Committed c) → c ≤ t
starts_above bounds old new t h u c w goes run is =
    decided_below bounds h run t u c (began_before bounds old new t h u c w goes is)

pub reads_known : (bounds : List Key) (old new : Known) (t : ℕ) (h : History) (u c : ℕ) (k : Key) (m : Mutation)
    → BeganAt bounds old t new → Begins new.events h → IsWorldRun bounds h
    → decided old.events u ≡ Done (fate.Committed c)
    → Commits (table_of (shadow h)).row k u c m → IsVisible m
    → (n : Mutation) × (seen : Newest (table_of (shadow h)).row k t n) × (c ≤ seen.at)
reads_known bounds old new t h u c k m w goes run is commits visible =
    reads_decided bounds h t u c k m run (began_before bounds old new t h u c w goes is) commits visible
