-- A session's commit lies above those that its seat knew to be decided before it declared.
use Rattle.std.proofs.Common.{◌≡◌, ◌⊎◌, inl, inr, ℕ, Bool, true, false, List, [], ◌∷◌, Option, Some, None, is_some, Result, Ok, Err, OnOk, IfErr, ◌&&◌, refl, sym, ap, subst, ◌∙◌}
use Rattle.tx_types.specs.declared.key.Key.{Key}
use Rattle.tx_types.specs.declared.mutation.Fate.{Fate}
use Rattle.tx_types.specs.declared.mutation.Fate.TheVariants as fate
use Rattle.tx_core.specs.declared.event.Outcome.{Outcome}
use Rattle.tx_core.specs.declared.event.UnknownCause.{UnknownCause}
use Rattle.tx_core.specs.declared.event.Outcome.TheVariants as outcome
use Rattle.tx_core.specs.declared.event.Event.TheVariants.{Answered}
use Rattle.tx_core.specs.Histories.{History, declared, Begins}
use Rattle.tx_core.specs.Laws.{DecidedBefore}
use Rattle.tx_core.specs.Worlds.{IsWorldRun}
use Rattle.tx_core.proofs.seats.Stays.{declared_on}
use Rattle.tx_core.proofs.seats.StaysDecided.{decided_on}
use Rattle.tx_core.proofs.runs.CommitOrder.{decided_before_on}
use Rattle.tx_core.proofs.runs.Consequences.{decided_declared}
use Rattle.tx_transaction.specs.declared.state.Terms.{Terms}
use Rattle.tx_transaction.specs.Buffers.{Entries, not_empty}
use Rattle.tx_transaction.specs.Sessions.{SessionState, is_declared, has_primary, declaration, declaration_of, unknown_by, undecided, finish_by, finish_of}
use Rattle.tx_client.specs.Calls.{Seated, Records, RecordsDeclared, IsDecidedSo}
use Rattle.tx_client.specs.Facts.{standing}
use Rattle.tx_client.specs.Order.{IsDrawnAfter, CommitsAbove}
use Rattle.tx_journal.specs.Known.{Known}
use Rattle.tx_update.specs.declared.stops.Stop.{Stop}
use Rattle.tx_update.specs.declared.failure.Failure.{Failure}
use Rattle.tx_update.specs.Stops.{IsOwnRefusal}
use Rattle.tx_update.specs.Failures.{failure_in, IsOpenStop}
use Rattle.tx_update.specs.Updates.{HasOutcome, IsWithoutEffect, CameToNothing, SeatGoesOn, Follows, MayHaveDeclared, EndedWith, CommitsAboveKnown, Wrote}
use Rattle.tx_update.proofs.CallSequences.{goes_itself, goes_more, goes_begins}

-- what declares nothing has no primary
pub nothing_declared : (s : SessionState) → is_declared s ≡ false → has_primary s ≡ false
nothing_declared s none = ap (λ (b : Bool). b && not_empty s.buffer) none

-- what declared nothing, and goes on, has declared nothing
pub still_open : (old new : Seated) → Follows old new → is_declared old.state ≡ false → is_declared new.state ≡ false
still_open old new f none = ap is_some f.declared ∙ none

-- where something stands declared, there is a primary
stands_primary : (start placed : ℕ) (es : Entries) (o : Option Terms) → (standing start placed es o ≡ None → ⊥)
    → is_some o && not_empty es ≡ true
stands_primary start placed es None some = absurd (some refl)
stands_primary start placed [] (Some terms) some = absurd (some refl)
stands_primary start placed (e ∷ es) (Some terms) some = refl

-- a session with a primary has entered something
pub some_entered : (old new : Seated) → new.state.buffer ≡ old.state.buffer → has_primary new.state ≡ true
    → not_empty old.state.buffer ≡ true
some_entered old new same some =
    ap not_empty (sym same) ∙ second (is_declared new.state) (not_empty new.state.buffer) some
  where
    second : (b c : Bool) → b && c ≡ true → c ≡ true
    second true c e = e
    second false c e = absurd (cc (e))

-- a session that went on, and declared nothing
pub writes_nothing : (old new : Seated) → is_declared old.state ≡ false → Follows old new → MayHaveDeclared old new
writes_nothing old new none f =
    record { seat = f.seat; start = f.start; placed = inl (nothing_declared new.state (ap is_some f.declared ∙ none)) }

-- a session that declared, and went on
pub writes_placed : (old mid new : Seated) → SeatGoesOn old.seat mid.seat → mid.state.start ≡ old.state.start
    → IsDrawnAfter old.seat.events mid.seat.events mid.state.placed → Follows mid new → MayHaveDeclared old new
writes_placed old mid new goes start after f = record {
  seat = goes_more old.seat mid.seat new.seat goes f.seat;
  start = f.start ∙ start;
  placed = inr (λ u c is. subst (λ (p : ℕ). DecidedBefore new.seat.events p u c) (sym f.placed)
      (decided_before_on mid.seat.events new.seat.events (goes_begins mid.seat new.seat f.seat) mid.state.placed u c
      (after u c is)));
}

-- what was known is known to who goes on
pub known_on : (a b : History) → Begins a b → (o : Outcome) → CommitsAboveKnown b o → CommitsAboveKnown a o
known_on a b more (outcome.Committed c) above = λ u d is. above u d (decided_on a b more u (fate.Committed d) is)
known_on a b more outcome.Aborted above = tt
known_on a b more (outcome.Unknown why) above = tt
known_on a b more outcome.ReadOnly above = tt

-- a session that went on before it declared
pub writes_after : (a b c : Seated) → Follows a b → MayHaveDeclared b c → MayHaveDeclared a c
writes_after a b c f w = record {
  seat = goes_more a.seat b.seat c.seat f.seat w.seat;
  start = w.start ∙ f.start;
  placed = elim w.placed [
    | inl none ↦ inl none
    | inr after ↦ inr (λ u d is. after u d
        (decided_on a.seat.events b.seat.events (goes_begins a.seat b.seat f.seat) u (fate.Committed d) is))
  ];
}

-- a session that declared nothing worth a number
pub writes_empty : (old new : Seated) → SeatGoesOn old.seat new.seat → new.state.start ≡ old.state.start
    → has_primary new.state ≡ false → MayHaveDeclared old new
writes_empty old new goes start none = record { seat = goes; start = start; placed = inl none }

-- what is not declared stands as nothing
none_stands : (start placed : ℕ) (es : Entries) (o : Option Terms) → is_some o && not_empty es ≡ false
    → standing start placed es o ≡ None
none_stands start placed es None none = refl
none_stands start placed [] (Some terms) none = refl
none_stands start placed (e ∷ es) (Some terms) none = absurd (cc (none))

-- what is read-only has no primary
unknown_apart : (o : Option UnknownCause) → unknown_by o ≡ Some outcome.ReadOnly → ⊥
unknown_apart None e = cc (e)
unknown_apart (Some c) e = cc (e)

undecided_none : (s : SessionState) (b : Bool) → undecided s b ≡ Some outcome.ReadOnly → b ≡ false
undecided_none s true e = absurd (unknown_apart s.cause e)
undecided_none s false e = refl

read_only_none : (s : SessionState) (o : Option Fate) → finish_by s o ≡ Some outcome.ReadOnly → has_primary s ≡ false
read_only_none s (Some (fate.Committed c)) e = absurd (cc (e))
read_only_none s (Some fate.Aborted) e = absurd (cc (e))
read_only_none s None e = undecided_none s (has_primary s) e

-- what ended without effect came to nothing
pub came_to_nothing : (session : Seated) (end : Outcome) → declared session.seat.events session.state.start
    ≡ standing session.state.start session.state.placed session.state.buffer session.state.declared
    → finish_of session.state ≡ Some end → IsDecidedSo session.seat.events session.state.start end
    → IsWithoutEffect end → CameToNothing session.seat.events session.state.start
came_to_nothing session (outcome.Committed c) stands is decided none = absurd none
came_to_nothing session outcome.Aborted stands is decided none = inr decided
came_to_nothing session (outcome.Unknown why) stands is decided none = absurd none
came_to_nothing session outcome.ReadOnly stands is decided none = inl (stands
    ∙ none_stands session.state.start session.state.placed session.state.buffer session.state.declared
    (read_only_none session.state session.state.decision is))

-- what was committed lies above what was known
pub above_known : (bounds : List Key) (old new : Seated) (end : Outcome) → IsWorldRun bounds new.seat.events
    → declared new.seat.events new.state.start
    ≡ standing new.state.start new.state.placed new.state.buffer new.state.declared → MayHaveDeclared old new
    → IsDecidedSo new.seat.events new.state.start end → CommitsAbove new.seat.events new.state.placed end
    → CommitsAboveKnown old.seat.events end
above_known bounds old new (outcome.Committed c) run stands w decided order = by w.placed
  where
    some : has_primary new.state ≡ true
    some = stands_primary new.state.start new.state.placed new.state.buffer new.state.declared
        (λ none. decided_declared bounds new.seat.events run new.state.start (fate.Committed c) decided (stands ∙ none))

    by : (has_primary new.state ≡ false) ⊎ IsDrawnAfter old.seat.events new.seat.events new.state.placed
        → CommitsAboveKnown old.seat.events (outcome.Committed c)
    by (inl none) = absurd (cc (some, none))
    by (inr after) = λ u d is. order u d (after u d is)
above_known bounds old new outcome.Aborted run stands w decided order = tt
above_known bounds old new (outcome.Unknown why) run stands w decided order = tt
above_known bounds old new outcome.ReadOnly run stands w decided order = tt

-- what `finish` answers of a session that went on ends it
pub ended_so : (bounds : List Key) (begun session : Seated) (end : Outcome) (t : ℕ) (new : Known)
    → IsWorldRun bounds session.seat.events
    → declared session.seat.events session.state.start
    ≡ standing session.state.start session.state.placed session.state.buffer session.state.declared
    → MayHaveDeclared begun session → t ≡ session.state.start
    → (finish_of session.state ≡ Some end) × Records bounds session.seat (Answered session.state.start end) new
    × IsDecidedSo session.seat.events session.state.start end
    → CommitsAbove session.seat.events session.state.placed end → (ends : EndedWith bounds begun.seat t end new)
    × (ends.session ≡ session)
ended_so bounds begun session end t new run stands writes is (outcome, recorded, decided) order = (
  record {
    session = session;
    seat = writes.seat;
    start = sym is;
    outcome = outcome;
    recorded = subst (λ (u : ℕ). Records bounds session.seat (Answered u end) new) (sym is) recorded;
    decided = subst (λ (u : ℕ). IsDecidedSo session.seat.events u end) (sym is) decided;
    nothing = λ none. subst (CameToNothing session.seat.events) (sym is)
        (came_to_nothing session end stands outcome decided none);
    in_order = order;
    above = above_known bounds begun session end run stands writes decided order;
  },
  refl,
)

-- ---- nothing is declared

stands_none_of : (start placed : ℕ) (es : Entries) (o : Option Terms) → is_some o ≡ false
    → standing start placed es o ≡ None
stands_none_of start placed es None e = refl
stands_none_of start placed es (Some terms) e = absurd (cc (e))

-- of a session that declared nothing, nothing stands declared
pub open_stands : (s : Seated) → is_declared s.state ≡ false
    → declared s.seat.events s.state.start
    ≡ standing s.state.start s.state.placed s.state.buffer s.state.declared
    → declared s.seat.events s.state.start ≡ None
open_stands s none stands = stands ∙ stands_none_of s.state.start s.state.placed s.state.buffer s.state.declared none

-- ---- an outcome is there

-- of what declared nothing there is one
pub no_primary_ends : (s : Seated) → has_primary s.state ≡ false → HasOutcome s
no_primary_ends s none unended = by s.state.decision unended
  where
    by : (o : Option Fate) → finish_by s.state o ≡ None → ⊥
    by (Some end) e = cc (e)
    by None e = cc (subst (λ (b : Bool). undecided s.state b ≡ None) none e)

-- where nothing stopped it, or it was refused something
pub open_stop : {E : Type 0} (done : Result (Unit {0}) Stop) (P : Type 0) (failed : Option (Failure E))
    → failed ≡ failure_in done → OnOk done P → IfErr done (λ (s : Stop). IsOwnRefusal s ⊎ P) → IsOpenStop failed ⊎ P
open_stop (Ok x) P failed is ok err = inr ok
open_stop {E} (Err stop) P failed is ok err = subst (λ (f : Option (Failure E)). IsOpenStop f ⊎ P) (sym is) err

-- a session that declared nothing
pub undeclared_ends : (s : Seated) → is_declared s.state ≡ false → HasOutcome s
undeclared_ends s none = no_primary_ends s (nothing_declared s.state none)

-- ---- what is written

-- what is declared stays declared
declaration_on : (bounds : List Key) (start placed : ℕ) (es : Entries) (terms : Terms) (mid new : Known)
    → not_empty es ≡ true → IsWorldRun bounds new.events → SeatGoesOn mid new
    → declared mid.events start ≡ declaration start placed es terms
    → declared new.events start ≡ declaration start placed es terms
declaration_on bounds start placed [] terms mid new some run goes stands = absurd (cc (some))
declaration_on bounds start placed (e ∷ es) terms mid new some run goes stands =
    declared_on bounds mid.events new.events run (goes_begins mid new goes) start
    (declaration_of start placed (e ∷ es) terms) stands

module _ (bounds : List Key) (terms : Terms) (old mid : Seated)
    (is : mid.state ≡ record old.state { declared = Some terms; placed = mid.state.placed })
    (declares : RecordsDeclared bounds old.seat
    (declaration old.state.start mid.state.placed old.state.buffer terms) mid.seat)
    (stands : declared mid.seat.events mid.state.start
    ≡ standing mid.state.start mid.state.placed mid.state.buffer mid.state.declared) where
  stands_so : declared mid.seat.events old.state.start
      ≡ declaration old.state.start mid.state.placed old.state.buffer terms
  stands_so = subst (λ (s : SessionState). declared mid.seat.events s.start
      ≡ standing s.start mid.state.placed s.buffer s.declared) is stands

  -- a session that declared has written what was entered
  pub wrote_there : Wrote bounds terms old.state.start old.state.buffer old.seat mid.seat
  wrote_there = record {
    placed = mid.state.placed;
    after = mid.seat;
    declares = declares;
    goes = goes_itself mid.seat;
    stands = stands_so;
  }

  -- and so it has where it went on
  pub wrote_on : (new : Known) → has_primary mid.state ≡ true → IsWorldRun bounds new.events → SeatGoesOn mid.seat new
      → Wrote bounds terms old.state.start old.state.buffer old.seat new
  wrote_on new some run goes = record {
    placed = mid.state.placed;
    after = mid.seat;
    declares = declares;
    goes = goes;
    stands = declaration_on bounds old.state.start mid.state.placed old.state.buffer terms mid.seat new
        (some_entered old mid (ap (λ (s : SessionState). s.buffer) is) some) run goes stands_so;
  }

-- where it went well or not
pub well_or_not : {A E : Type 0} (r : Result A E) (P : Type 0) → P → OnOk r P
well_or_not (Ok v) P is = is
well_or_not (Err e) P is = tt
