-- What the calls of a session ask of its state and of its seat, and keep.
use Rattle.std.proofs.Common.{◌≡◌, ◌≤◌, ℕ, inl, inr, Bool, true, false, List, length, Option, Some, None, Result, Ok, Err, OnOk, OnErr, IfSome, refl, sym, subst, ◌∙◌, arith}
use borrow.Author.Tests.{ltb-true}
use Rattle.std.proofs.lemmas.List.Sums.{count_by-le-length}
use Rattle.tx_types.specs.declared.key.Key.{Key}
use Rattle.tx_types.specs.declared.value.Value.{Value}
use Rattle.tx_plan.specs.declared.body.Body.{Body}
use Rattle.tx_plan.specs.declared.answer.Answer.{Answer}
use Rattle.tx_types.specs.Keys.{key_le}
use Rattle.tx_types.specs.declared.mutation.Fate.{Fate}
use Rattle.tx_types.specs.declared.mutation.Fate.TheVariants as fate
use Rattle.tx_core.specs.declared.event.Outcome.{Outcome}
use Rattle.tx_core.specs.declared.event.Outcome.TheVariants as outcome
use Rattle.tx_core.specs.declared.event.UnknownCause.{UnknownCause}
use Rattle.tx_core.specs.declared.event.Event.TheVariants.{Began, Declared, Answered, Took}
use Rattle.tx_core.specs.Allowed.{MayPass}
use Rattle.tx_core.proofs.seats.StaysDecided.{decided_on, shown_on}
use Rattle.tx_client.specs.declared.resolved.Status.{Status}
use Rattle.tx_client.specs.declared.resolved.Status.TheVariants as status
use Rattle.tx_client.specs.Statuses.{Ends, lies_above}
use Rattle.tx_core.specs.declared.event.Declaration.{Declaration}
use Rattle.tx_core.specs.declared.event.Taken.{Taken}
use Rattle.tx_core.specs.Histories.{History, last, Among, Begins}
use Rattle.tx_core.specs.Worlds.{route, IsWorldRun}
use Rattle.tx_core.specs.Recording.{MayRecord}
use Rattle.tx_core.proofs.seats.Stays.{among_on}
use Rattle.tx_journal.specs.Known.{Known, HasSeen, HasDrawn, HasRecorded}
use Rattle.tx_journal.specs.Replies.{Asked, Given, IsTold, IsGiven}
use Rattle.tx_transaction.specs.declared.state.Terms.{Terms}
use Rattle.tx_transaction.specs.Returns.{Response}
use Rattle.tx_transaction.specs.declared.state.Phase.{Phase}
use Rattle.tx_transaction.specs.declared.state.Phase.TheVariants as phase
use Rattle.tx_transaction.specs.declared.state.Due.{Due}
use Rattle.tx_transaction.specs.Buffers.{is_full, inserted}
use Rattle.tx_transaction.specs.Sessions.{SessionState, begun, is_declared, has_primary, can_draw, declaration, with_passed, unknown_by, undecided, finish_by, finish_of}
use Rattle.tx_journal.specs.Senders.{IsHeld, Reached}
use Rattle.tx_client.specs.Learns.{response_by, response_of, Learns}
use Rattle.tx_client.specs.Facts.{RespondsSo, IsFor, IsSession, IsSeated}
use Rattle.tx_client.specs.Calls.{Records, RecordsDeclared, Asks, IsDecidedSo}
use Rattle.tx_client.proofs.Kept.{others_act}
use Rattle.tx_client.proofs.Events.{began_ok, inserted_ok, declared_none, drawn_is, may_declare_buffer, declared_ok, drew_ok, may_finish, passed_ok}
use Rattle.tx_client.proofs.Due.{known_decided}

-- ---- some region holds what is asked

pub held_at : (bounds : List Key) (k : Key) → (n : ℕ) × (n ≤ length bounds) × (route bounds k ≡ n)
held_at bounds k = (route bounds k, count_by-le-length (λ bound. key_le bound k) bounds, refl)

pub held_for : (bounds : List Key) (s : SessionState) (x : Phase) (due : Due) → IsFor s x due → IsHeld bounds due.body
held_for bounds s phase.Prewrite due f = subst (λ (d : Due). IsHeld bounds d.body) (sym f.2) (held_at bounds _)
held_for bounds s phase.Commit due f = subst (λ (d : Due). IsHeld bounds d.body) (sym f.2) (held_at bounds _)
held_for bounds s phase.Abort due (inl f) = subst (λ (d : Due). IsHeld bounds d.body) (sym f.1) (held_at bounds _)
held_for bounds s phase.Abort due (inr f) = subst (λ (d : Due). IsHeld bounds d.body) (sym f.1) (held_at bounds _)

-- ---- a reply tells what it answers

pub came_told : (bounds : List Key) (g : Given) (body : Body) (new : History) → IsGiven bounds g → g.request.body ≡ body
    → Begins g.events new → RespondsSo new body (response_by g.answer)
came_told bounds g body new given same b = go g.answer given.told
  where
    go : (o : Option Answer) → IfSome o (IsTold bounds g) → RespondsSo new body (response_by o)
    go None told = tt
    go (Some a) told =
        let y : Taken = record {
          region = told.region;
          body = g.request.body;
          loaded = last told.tells.point;
          answer = a;
        } in
        record {
          by = y;
          among = among_on g.events
              new b (Took y) (subst (λ h. Among h (Took y)) (sym told.tells.ends) (inl refl));
          asked = same;
          told = refl;
        }

-- so does what comes of a send, to whom learns it
pub came_reached : (bounds : List Key) (r : Reached) (body : Body) (old new : Known)
    → Learns bounds old r new → ((g : Given) → r ≡ Ok g → g.request.body ≡ body)
    → RespondsSo new.events body (response_of r)
came_reached bounds (Err l) body old new learns same = tt
came_reached bounds (Ok g) body old new learns same = came_told bounds g body new.events learns.4 (same g refl) learns.3

-- ---- what the type keeps

-- one of two things was made of the state
pub either : {A E : Type 0} (r : Result A E) (F : Type 0) (P : SessionState → Type 0) (old good new : SessionState)
    → OnOk r (F × (new ≡ good)) → OnErr r (new ≡ old) → P old → P good → P new
either (Ok x) F P old good new ok same was now = subst P (sym ok.1) now
either (Err e) F P old good new ok same was now = subst P (sym same) was

-- a key was inserted into the buffer, or nothing was changed
pub inserted_seated : {E : Type 0} (bounds : List Key) (k : Known) (old new : SessionState) (key : Key) (value : Value)
    (r : Result (Unit {0}) E) → IsSeated bounds k old → is_declared old ≡ false
    → OnOk r ((is_full old.buffer key ≡ false)
    × (inserted old.buffer key value ≡ Some new.buffer) × (new ≡ record old { buffer = new.buffer }))
    → OnErr r (new ≡ old) → IsSeated bounds k new
inserted_seated bounds k old new key value (Ok x) is not_yet ok same =
    subst (λ (s : SessionState). IsSeated bounds k s) (sym ok.2)
    (is.0, inserted_ok k.events k.seat old is.1 key value new.buffer ok.1 not_yet)
inserted_seated bounds k old new key value (Err e) is not_yet ok same =
    subst (λ (s : SessionState). IsSeated bounds k s) (sym same) is

-- the seat has seen more, and made no event
pub seen_seated : (bounds : List Key) (k new : Known) (s : SessionState) → IsSeated bounds k s → new.seat ≡ k.seat
    → HasSeen bounds k.seat k.events new.events → IsSeated bounds new s
seen_seated bounds k new s is number seen = (
  seen.run,
  subst (λ i. IsSession new.events i s) (sym number)
      (others_act bounds k.events new.events seen.run k.seat s seen.extends is.1),
)

-- it asked
pub asked_seated : {S : Type 0} (sends : S → Asked → Reached → S → Type 0) (bounds : List Key) (k new : Known)
    (s : SessionState) (body : Body) (from to : S) (c : Response) → IsSeated bounds k s
    → Asks sends bounds k body from to c new → IsSeated bounds new s
asked_seated sends bounds k new s body from to c is a = go a.reached a.learns
  where
    go : (r : Reached) → Learns bounds k r new → IsSeated bounds new s
    go (Err l) same = subst (λ x. IsSeated bounds x s) (sym same) is
    go (Ok g) (number, ticks, seen, told, given) = seen_seated bounds k new s is number seen

-- it drew a start, and recorded that it began there
pub began_seated : (bounds : List Key) (k mid new : Known) (t : ℕ)
    → mid.seat ≡ k.seat → HasDrawn bounds k.seat k.events 1 t mid.events → Records bounds mid (Began t) new
    → IsSeated bounds new (begun t)
began_seated bounds k mid new t number drew r =
    let recorded : HasRecorded bounds k.seat mid.events (Began t) new.events =
    subst (λ i. HasRecorded bounds i mid.events (Began t) new.events) number r.recorded in (
      r.recorded.run,
      subst (λ i. IsSession new.events i (begun t)) (sym (r.number ∙ number))
          (began_ok bounds k.seat t k.events mid.events new.events drew recorded),
    )

-- once it drew a number, what is declared it may record
pub may_declare_some : (bounds : List Key) (k : Known) (mid : History) (s : SessionState) (p : ℕ) (terms : Terms)
    (o : Option Declaration) → IsSeated bounds k s → is_declared s ≡ false
    → HasDrawn bounds k.seat k.events 1 p mid → o ≡ declaration s.start p s.buffer terms
    → IfSome o (λ d. MayRecord bounds k.seat mid (Declared d))
may_declare_some bounds k mid s p terms None is not_yet drew e = tt
may_declare_some bounds k mid s p terms (Some d) is not_yet drew e =
    may_declare_buffer bounds k.events mid k.seat s p terms d is.1 not_yet drew (sym e)

-- it recorded what is declared, if anything is
pub declared_seated : (bounds : List Key) (k new : Known) (s : SessionState) (p : ℕ) (terms : Terms)
    (o : Option Declaration) → IsSeated bounds k s → is_declared s ≡ false
    → o ≡ declaration s.start p s.buffer terms → RecordsDeclared bounds k o new
    → IsSeated bounds new (record s { declared = Some terms; placed = p })
declared_seated bounds k new s p terms None is not_yet e r =
    subst (λ x. IsSeated bounds x (record s { declared = Some terms; placed = p })) (sym r)
    (is.0, declared_none k.events k.seat s p terms is.1 not_yet (sym e))
declared_seated bounds k new s p terms (Some d) is not_yet e r =
    let drew : HasDrawn bounds k.seat k.events 1 p r.mid =
    subst (λ n. HasDrawn bounds k.seat k.events 1 n r.mid) (drawn_is s.start p s.buffer terms d (sym e)) r.drew in (
      r.recorded.run,
      subst (λ i. IsSession new.events i (record s { declared = Some terms; placed = p })) (sym r.number)
          (declared_ok bounds k.seat s p terms d k.events r.mid new.events is.1 drew (sym e) r.recorded),
    )

-- it drew a commit timestamp
pub drew_seated : (bounds : List Key) (k new : Known) (s : SessionState) (c : ℕ) → IsSeated bounds k s
    → can_draw s ≡ true → new.seat ≡ k.seat → HasDrawn bounds k.seat k.events 1 c new.events
    → IsSeated bounds new (record s { drawn = Some c })
drew_seated bounds k new s c is can number drew = (
  drew.run,
  subst (λ i. IsSession new.events i (record s { drawn = Some c })) (sym number)
      (drew_ok bounds k.seat s c k.events new.events is.1 can drew),
)

-- ---- it ends

pub decided_so : (bounds : List Key) (k : Known) (s : SessionState) (o : Outcome) → IsSeated bounds k s
    → finish_of s ≡ Some o → IsDecidedSo k.events s.start o
decided_so bounds k s o is e = by_decision s.decision refl e
  where
    by_cause : (c : Option UnknownCause) → unknown_by c ≡ Some o → IsDecidedSo k.events s.start o
    by_cause None e = absurd (cc (e))
    by_cause (Some why) e = (let same : outcome.Unknown why ≡ o =
        cc (e) in subst (IsDecidedSo k.events s.start) same tt)

    by_primary : (b : Bool) → undecided s b ≡ Some o → IsDecidedSo k.events s.start o
    by_primary false e = (let same : outcome.ReadOnly ≡ o = cc (e) in subst (IsDecidedSo k.events s.start) same tt)
    by_primary true e = by_cause s.cause e

    by_decision : (d : Option Fate) → s.decision ≡ d → finish_by s d ≡ Some o → IsDecidedSo k.events s.start o
    by_decision None was e = by_primary (has_primary s) e
    by_decision (Some (fate.Committed c)) was e = (let same : outcome.Committed c ≡ o =
        cc (e) in subst (IsDecidedSo k.events s.start) same
        (known_decided bounds k.events is.0 k.seat s is.1 (fate.Committed c) was))
    by_decision (Some fate.Aborted) was e = (let same : outcome.Aborted ≡ o =
        cc (e) in subst (IsDecidedSo k.events s.start) same
        (known_decided bounds k.events is.0 k.seat s is.1 fate.Aborted was))

module _ (bounds : List Key) (k seat : Known) (s : SessionState)
    (t : ℕ) (o : Outcome) (is : IsSeated bounds k s) (e : finish_of s ≡ Some o) (at : seat ≡ k)
    (start : t ≡ s.start) where
  pub finish_may : MayRecord bounds seat.seat seat.events (Answered t o)
  finish_may = subst (λ (x : Known × ℕ). MayRecord bounds x.0.seat x.0.events (Answered x.1 o))
      (λ j. (sym at j, sym start j)) (may_finish k.events k.seat s is.1 bounds o e)

  pub finish_ends : (new : Known)
      → Records bounds seat (Answered t o) new → (finish_of s ≡ Some o) × Records bounds k (Answered s.start o) new
      × IsDecidedSo k.events s.start o
  finish_ends new r = (
    e,
    subst (λ (x : Known × ℕ). Records bounds x.0 (Answered x.1 o) new) (λ j. (at j, start j)) r,
    decided_so bounds k s o is e,
  )

-- ---- what a resolver found

-- reads may pass by what lies above them
pub may_pass : (bounds : List Key) (l h : History)
    → IsWorldRun bounds h → Begins l h → (t r : ℕ) (what : Status) → Ends l t what → lies_above what r ≡ true
    → MayPass h r t
may_pass bounds l h run b t r (status.Committed c) ended e =
    inr (inl (c, decided_on l h b t (fate.Committed c) ended, omega (arith, ltb-true r c e)))
may_pass bounds l h run b t r status.Aborted ended e = inl (decided_on l h b t fate.Aborted ended)
may_pass bounds l h run b t r (status.Pushed m) ended e =
    inr (inr (m, shown_on bounds l h run b t m ended, omega (arith, ltb-true r m e)))
may_pass bounds l h run b t r (status.Waiting why) ended e = absurd (cc (e))

pub passed_seated : (bounds : List Key) (k new : Known) (s : SessionState) (l : History) (t : ℕ) (what : Status)
    → IsSeated bounds k s → new.seat ≡ k.seat
    → HasSeen bounds k.seat k.events new.events → Begins l new.events → Ends l t what
    → IsSeated bounds new (with_passed s t (lies_above what s.start))
passed_seated bounds k new s l t what is number seen b ended =
    let now = seen_seated bounds k new s is number seen in (
      now.0,
      passed_ok new.events new.seat s now.1 t (lies_above what s.start)
          (may_pass bounds l new.events now.0 b t s.start what ended),
    )
