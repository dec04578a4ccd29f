-- An update of a client tells how it came out.
use Rattle.std.proofs.Common.{◌≡◌, ◌≤◌, ◌⊎◌, inl, inr, ℕ, List, [], ◌∷◌, Option, Some, None, Result, Ok, Err, IfOk, IfErr, refl, sym, ap, subst, ◌∙◌}
use Rattle.tx_types.specs.declared.key.Key.{Key}
use Rattle.tx_types.specs.declared.mutation.Fate.TheVariants as fate
use Rattle.tx_core.specs.declared.event.Event.TheVariants.{Answered}
use Rattle.tx_core.specs.Histories.{History, declared}
use Rattle.tx_core.specs.Worlds.{IsWorldRun}
use Rattle.tx_core.proofs.seats.Beginnings.{run_beginning}
use Rattle.tx_core.proofs.runs.Consequences.{decided_declared}
use Rattle.tx_client.specs.Calls.{IsDecidedSo}
use Rattle.tx_core.specs.Recording.{Extends}
use Rattle.tx_journal.specs.Known.{Known, HasSeen}
use Rattle.tx_transaction.specs.declared.state.Terms.{Terms}
use Rattle.tx_transaction.specs.Buffers.{Entries}
use Rattle.tx_update.specs.declared.failure.Failure.{Failure}
use Rattle.tx_update.specs.declared.ended.Seats.{Seats}
use Rattle.tx_update.specs.declared.ended.Ended.{Ended}
use Rattle.tx_update.specs.declared.ended.Unended.{Unended}
use Rattle.tx_update.specs.declared.stops.Stop.{Stop}
use Rattle.tx_update.specs.Endings.{EndsOver, IsLastTry, IsUnended}
use Rattle.tx_reader.specs.Readers.{OnlySees}
use Rattle.tx_kv.specs.declared.updated.Updated.{Updated}
use Rattle.tx_kv.specs.declared.updated.NotUpdated.{NotUpdated}
use Rattle.tx_core.specs.declared.event.Outcome.{Outcome}
use Rattle.tx_core.specs.declared.event.Outcome.TheVariants as outcome
use Rattle.tx_update.specs.declared.failure.Failure.TheVariants as failure
use Rattle.tx_update.specs.declared.ended.Unended.TheVariants as unended
use Rattle.tx_update.specs.Failures.{TellsOfWork}
use Rattle.tx_update.specs.Updates.{SeatGoesOn, GoesWithoutEffect, IsWithoutEffect, EndedWith, Writes, Wrote}
use Rattle.tx_update.proofs.CallSequences.{goes_more, recorded_begins}
use Rattle.tx_kv.specs.Clients.{ClientState, Place, KeepsTerms, commit_of, HasValue, IsNotKnown, TellsEnd, TellsNoEnd, Updates, WentWell, WroteAll}
use Rattle.tx_kv.specs.UpdateResults.{told_stop, told_commit, told_reads, told_end}

-- a seat that saw what others did goes on
extends_without : (i : ℕ) (l h : History) → Extends i l h → GoesWithoutEffect i l h
extends_without i l [] g = g
extends_without i l (e ∷ h) g =
    elim g [ inl same ↦ inl same | inr more ↦ inr (extends_without i l h more.0, inl more.1) ]

pub seen_goes : (bounds : List Key) (old new : Known) → new.seat ≡ old.seat
    → HasSeen bounds old.seat old.events new.events → SeatGoesOn old new
seen_goes bounds old new number seen =
    record { number = number; knows = extends_without old.seat old.events new.events seen.extends }

module _ {J W O E : Type 0} (does : W → Entries → Result O (Failure E) → Entries → W → Type 0)
    (stops_at : W → ℕ → Stop → Type 0) (bounds : List Key) (terms : Terms) (old : Seats J) (resolves : Known)
    (goes : SeatGoesOn old.resolves resolves) (before after_it : W) (n : ℕ) where
  -- an update over seats of which one had seen more is one over the seats before
  ends_from : (e : Ended J O E)
      → EndsOver does bounds terms (record { begins = old.begins; resolves = resolves }) before n e after_it
      → EndsOver does bounds terms old before n e after_it
  ends_from e x = record {
    last = x.last;
    between = x.between;
    vain = x.vain;
    begun = x.begun;
    began = x.began;
    ends = x.ends;
    start = x.start;
    works = x.works;
    above = x.above;
    resolves = goes_more old.resolves resolves e.seats.resolves goes x.resolves;
  }

  unended_from : (u : Unended J E)
      → IsUnended does bounds terms (record { begins = old.begins; resolves = resolves }) before n u after_it
      → IsUnended does bounds terms old before n u after_it
  unended_from (unended.Spent seats) (vain, on, spent) =
      (vain, goes_more old.resolves resolves seats.resolves goes on, spent)
  unended_from (unended.Open session other stop) (last, between, vain, stays, on) =
      (last, between, vain, stays, goes_more old.resolves resolves other goes on)

-- what went well was written, or its fate is of something declared
went_well : {E : Type 0} (bounds : List Key) (h : History) → IsWorldRun bounds h → (t : ℕ) (o : Outcome)
    (stop : Option (Failure E))
    → WentWell o stop → IsDecidedSo h t o → (declared h t ≡ None → ⊥) ⊎ (stop ≡ None)
went_well bounds h run t (outcome.Committed c) stop well decided =
    inl (decided_declared bounds h run t (fate.Committed c) decided)
went_well bounds h run t outcome.ReadOnly None well decided = inr refl
went_well bounds h run t outcome.ReadOnly (Some failure) well decided = absurd well
went_well bounds h run t outcome.Aborted stop well decided = absurd well
went_well bounds h run t (outcome.Unknown why) stop well decided = absurd well

abbrev value_or : {A : Type 0} → A → Option A → A
value_or a None = a
value_or a (Some b) = b

same_value : {O : Type 0} (a v : O) (value : Option O) → value ≡ Some a → Some v ≡ value → a ≡ v
same_value a v value tells is = sym (ap (value_or a) (is ∙ tells))

-- the work answered what is told, and what it left entered was written
well_written : {O E : Type 0} (answered : Result O (Failure E)) (value : Option O) (stop : Option (Failure E)) (v : O)
    (wrote nothing : Type 0)
    → TellsOfWork answered value stop → Some v ≡ value → Writes answered stop wrote nothing
    → (nothing → ⊥) ⊎ (stop ≡ None) → (answered ≡ Ok v) × wrote
well_written (Ok a) value None v wrote nothing tells is writes some = (ap Ok (same_value a v value tells is), writes)
well_written (Ok a) value (Some (failure.Stopped s)) v wrote nothing tells is writes some = (
  ap Ok (same_value a v value tells is),
  elim writes [
    | inl so ↦ so
    | inr none ↦ elim some [ inl never ↦ absurd (never none) | inr unstopped ↦ absurd (cc (unstopped)) ]
  ],
)
well_written (Ok a) value (Some (failure.Own x)) v wrote nothing tells is writes some = absurd tells
well_written (Err f) value stop v wrote nothing tells is writes some = absurd (cc (is, tells.0))

-- a work that has no value, refused, and has written nothing
unvalued : {O E : Type 0} (answered : Result O (Failure E)) (value : Option O) (stop : Option (Failure E))
    (wrote nothing : Type 0)
    → TellsOfWork answered value stop → value ≡ None → Writes answered stop wrote nothing → nothing
unvalued (Ok a) value None wrote nothing tells none writes = absurd (cc (tells, none))
unvalued (Ok a) value (Some (failure.Stopped s)) wrote nothing tells none writes = absurd (cc (tells, none))
unvalued (Ok a) value (Some (failure.Own x)) wrote nothing tells none writes = absurd tells
unvalued (Err f) value stop wrote nothing tells none writes = writes

-- what a session that ended had seen is a world run
ended_run : (bounds : List Key) (old : Known) (t : ℕ) (end : Outcome) (new : Known)
    → (ends : EndedWith bounds old t end new) → IsWorldRun bounds ends.session.seat.events
ended_run bounds old t end new ends =
    let k = ends.session.seat in
    run_beginning bounds k.events new.events ends.recorded.recorded.run
    (recorded_begins bounds k.seat k.events new.events (Answered t end) ends.recorded.recorded)

module _ {J W O E : Type 0} (does : W → Entries → Result O (Failure E) → Entries → W → Type 0)
    (stops_at : W → ℕ → Stop → Type 0) (bounds : List Key)
    (terms : Terms) (old : Seats J) (before : W) (n : ℕ) (e : Ended J O E) (after_it : W)
    (over : EndsOver does bounds terms old before n e after_it) where
  decided_here : IsDecidedSo over.ends.session.seat.events over.begun.state.start e.outcome
  decided_here = subst (λ (t : ℕ). IsDecidedSo over.ends.session.seat.events t e.outcome) over.start over.ends.decided

  run_here : IsWorldRun bounds over.ends.session.seat.events
  run_here = ended_run bounds over.begun.seat e.start e.outcome e.seats.begins over.ends

  pub wrote_all : (r : Result (Updated O) (NotUpdated E)) → TellsEnd e r
      → WroteAll does stops_at bounds terms old before n e after_it over r
  wrote_all (Err why) tells = tt
  wrote_all (Ok u) (start, out, tries, value, well) =
      well_written over.works.answered e.value e.stop u.value
      (Wrote bounds terms over.begun.state.start over.works.entered over.works.before over.ends.session.seat)
      (declared over.ends.session.seat.events over.begun.state.start ≡ None) over.works.tells value over.works.wrote
      (went_well bounds over.ends.session.seat.events run_here over.begun.state.start e.outcome e.stop well
      decided_here)

  pub has_value : HasValue e
  has_value c is none =
      decided_declared bounds over.ends.session.seat.events run_here over.begun.state.start (fate.Committed c)
      (subst (λ (o : Outcome). IsDecidedSo over.ends.session.seat.events over.begun.state.start o) is decided_here)
      (unvalued over.works.answered e.value e.stop
      (Wrote bounds terms over.begun.state.start over.works.entered over.works.before over.ends.session.seat)
      (declared over.ends.session.seat.events over.begun.state.start ≡ None) over.works.tells none over.works.wrote)

module _ {J W O E : Type 0} (does : W → Entries → Result O (Failure E) → Entries → W → Type 0)
    (stops_at : W → ℕ → Stop → Type 0) (bounds : List Key) (terms : Terms) (old : Seats J) (before after_it : W)
    (again : ℕ) where
  pub if_has_value : (came : Result (Ended J O E) (Unended J E))
      → IfOk came (λ (e : Ended J O E). (e.retries ≤ again)
      × EndsOver does bounds terms old before e.retries e after_it)
      → IfOk came HasValue
  if_has_value (Ok e) (few, over) = has_value does stops_at bounds terms old before e.retries e after_it over
  if_has_value (Err u) over = tt

module _ {J W O E : Type 0} (does : W → Entries → Result O (Failure E) → Entries → W → Type 0)
    (stops_at : W → ℕ → Stop → Type 0) (bounds : List Key) (old : ClientState J) (before after_it : W)
    (r : Result (Updated O) (NotUpdated E)) (seats : Seats J) where
  abbrev Here : Type 0
  Here = Updates does stops_at bounds old before r
      (record { seats = seats; terms = old.terms; again = old.again; place = old.place }) after_it

  pub updates_so : (came : Result (Ended J O E) (Unended J E))
      → IfOk came (λ (e : Ended J O E). (e.retries ≤ old.again)
      × EndsOver does bounds old.terms old.seats before e.retries e after_it)
      → IfOk came (λ (e : Ended J O E). IsLastTry stops_at old.again e.retries e after_it)
      → IfErr came (λ (u : Unended J E). (n : ℕ) × (n ≤ old.again)
      × IsUnended does bounds old.terms old.seats before n u after_it)
      → IfOk came (λ (e : Ended J O E). TellsEnd e r × (seats ≡ e.seats))
      → IfErr came (λ (u : Unended J E). TellsNoEnd bounds u r seats)
      → Here
  updates_so (Ok e) (few, ends) last unit tells never = (
    (refl, refl, refl),
    inl (
      e,
      few,
      ends,
      last,
      tells.0,
      wrote_all does stops_at bounds old.terms old.seats before e.retries e after_it ends r tells.0,
      tells.1,
    ),
  )
  updates_so (Err u) unit last (n, few, is) never tells = (
    (refl, refl, refl),
    inr (u, n, few, is, tells),
  )

module _ {J W O E : Type 0} (does : W → Entries → Result O (Failure E) → Entries → W → Type 0)
    (stops_at : W → ℕ → Stop → Type 0) (bounds : List Key) (terms : Terms) (again : ℕ) (place : Place) (old : Seats J)
    (resolves : Known) (goes : SeatGoesOn old.resolves resolves) (before after_it : W)
    (r : Result (Updated O) (NotUpdated E)) (new : ClientState J) where
  abbrev At : Seats J → Type 0
  At seats = Updates does stops_at bounds
      (record { seats = seats; terms = terms; again = again; place = place }) before r new after_it

  -- an update by a client whose second seat had seen more is one by the client before
  pub updates_from : At (record { begins = old.begins; resolves = resolves }) → At old
  updates_from (same, inl (e, few, over, last, tells, wrote, seats)) = (
    same,
    inl (
      e,
      few,
      ends_from does stops_at bounds terms old resolves goes before after_it e.retries e over,
      last,
      tells,
      wrote_all does stops_at bounds terms old before e.retries e after_it
          (ends_from does stops_at bounds terms old resolves goes before after_it e.retries e over) r tells,
      seats,
    ),
  )
  updates_from (same, inr (u, n, few, is, tells)) = (
    same,
    inr (u, n, few, unended_from does stops_at bounds terms old resolves goes before after_it n u is, tells),
  )

module _ {J W O E : Type 0} (does : W → Entries → Result O (Failure E) → Entries → W → Type 0)
    (stops_at : W → ℕ → Stop → Type 0) (bounds : List Key) where
  -- the same, of any client that only saw more
  pub updates_at : (old mid : ClientState J) → mid.seats.begins ≡ old.seats.begins
      → SeatGoesOn old.seats.resolves mid.seats.resolves → KeepsTerms old mid
      → (before after_it : W) (r : Result (Updated O) (NotUpdated E)) (new : ClientState J)
      → Updates does stops_at bounds mid before r new after_it → Updates does stops_at bounds old before r new after_it
  updates_at old mid begins goes (terms, again, place) before after_it r new up =
      updates_from does stops_at bounds old.terms old.again old.place old.seats mid.seats.resolves goes before
      after_it r new
      (subst (λ (k : Known). By (record { begins = k; resolves = mid.seats.resolves }) old.terms old.again old.place)
      begins
      (subst (λ (t : Terms). By mid.seats t old.again old.place) terms
      (subst (λ (n : ℕ). By mid.seats mid.terms n old.place) again
      (subst (λ (p : Place). By mid.seats mid.terms mid.again p) place up))))
    where
      By : Seats J → Terms → ℕ → Place → Type 0
      By seats terms again place = Updates does stops_at bounds
          (record { seats = seats; terms = terms; again = again; place = place }) before r new after_it

-- who only sees what others did goes on
pub only_sees_goes : (old new : Known) → OnlySees old new → SeatGoesOn old new
only_sees_goes old new sees =
    record { number = sees.number; knows = extends_without old.seat old.events new.events sees.others }

module _ {J O E : Type 0} (e : Ended J O E) (has : HasValue e) where
  -- a refusal is told of what was without effect
  by_stop : IsWithoutEffect e.outcome → (s : Option (Failure E)) → e.stop ≡ s
      → TellsEnd e (Err (told_stop s))
  by_stop without (Some (failure.Own own)) is = (without, is)
  by_stop without (Some (failure.Stopped stop)) is = (without, inl is)
  by_stop without None is = (without, inr is)

  by_commit : (at : ℕ) → e.outcome ≡ outcome.Committed at → (v : Option O) → e.value ≡ v
      → TellsEnd e (told_commit e.start at e.retries v)
  by_commit at is (Some value) value_is = (
    refl,
    sym (ap commit_of is),
    refl,
    sym value_is,
    subst (λ o. WentWell o e.stop) (sym is) tt,
  )
  by_commit at is None value_is = absurd (has at is value_is)

  by_reads : e.outcome ≡ outcome.ReadOnly → (v : Option O) → e.value ≡ v → (s : Option (Failure E)) → e.stop ≡ s
      → TellsEnd e (told_reads e.start e.retries v s)
  by_reads is (Some value) value_is None stop_is = (
    refl,
    sym (ap commit_of is),
    refl,
    sym value_is,
    subst (λ o. WentWell o e.stop) (sym is) (subst (λ s. WentWell outcome.ReadOnly s) (sym stop_is) tt),
  )
  by_reads is (Some value) value_is (Some failure) stop_is =
      by_stop (subst IsWithoutEffect (sym is) tt) (Some failure) stop_is
  by_reads is None value_is s stop_is = by_stop (subst IsWithoutEffect (sym is) tt) s stop_is

  by_outcome : (o : Outcome) → e.outcome ≡ o → TellsEnd e (told_end e.start o e.retries e.value e.stop)
  by_outcome (outcome.Committed at) is = by_commit at is e.value refl
  by_outcome outcome.ReadOnly is = by_reads is e.value refl e.stop refl
  by_outcome outcome.Aborted is = by_stop (subst IsWithoutEffect (sym is) tt) e.stop refl
  by_outcome (outcome.Unknown why) is = (refl, subst IsNotKnown (sym is) tt)

  -- what is told of how it ended is right
  pub tells_end : TellsEnd e (told_end e.start e.outcome e.retries e.value e.stop)
  tells_end = by_outcome e.outcome refl
