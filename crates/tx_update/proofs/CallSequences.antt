-- Seats and sessions that go on, one call after another.
use Rattle.std.proofs.Common.{◌≡◌, ◌≢◌, not, ◌&&◌, ◌||◌, inl, inr, ℕ, Bool, true, false, List, [], ◌∷◌, ◌++◌, length, nat_lt, Option, Some, None, Result, Ok, Err, OnOk, OnErr, refl, sym, ap, subst, ◌∙◌}
use Rattle.tx_types.specs.declared.key.Key.{Key}
use Rattle.tx_types.specs.declared.fault.Fault.{Fault}
use Rattle.tx_types.specs.declared.mutation.KeyValue.{KeyValue}
use Rattle.tx_types.specs.declared.mutation.Mutation.{Mutation}
use Rattle.tx_types.specs.declared.mutation.Mutation.TheVariants as mutation
use Rattle.tx_types.specs.Keys.{key_lt}
use Rattle.tx_plan.specs.declared.answer.Answer.{Answer}
use Rattle.tx_plan.specs.declared.answer.Answer.TheVariants.{Rows}
use Rattle.tx_core.specs.declared.event.Declaration.{Declaration}
use Rattle.tx_core.specs.declared.event.Event.{Event}
use Rattle.tx_core.specs.declared.event.Event.TheVariants.{Drawn, Began, Declared}
use Rattle.tx_core.specs.Histories.{History, Begins}
use Rattle.tx_core.specs.Recording.{Extends}
use Rattle.tx_core.proofs.seats.Beginnings.{extends_all, begins_more}
use Rattle.tx_journal.specs.Known.{Known, HasSeen, HasRecorded, HasDrawn}
use Rattle.tx_journal.specs.Replies.{Asked}
use Rattle.tx_journal.proofs.Calls.{drawn_recorded}
use Rattle.tx_transaction.specs.declared.state.Miss.{Miss}
use Rattle.tx_transaction.specs.declared.state.Phase.{Phase}
use Rattle.tx_transaction.specs.declared.state.Phase.TheVariants as phase
use Rattle.tx_types.specs.declared.mutation.Fate.{Fate}
use Rattle.tx_transaction.specs.declared.state.Due.{Due}
use Rattle.tx_transaction.specs.Buffers.{buffered, not_empty}
use Rattle.tx_transaction.specs.Sessions.{SessionState, is_declared, has_primary, commit_drawn, commit_by, commit_if, due_commit, may_commit, can_commit, after_response, after_read, with_passed, undecided, finish_by, finish_of}
use Rattle.tx_transaction.specs.Returns.{Response, returned}
use Rattle.tx_journal.specs.Senders.{Reached}
use Rattle.tx_client.specs.Learns.{response_of, Learns}
use Rattle.tx_client.specs.Walks.{Walk, asks, grows, ends, then_walk, Sends, due_walk, part_by, part_walk, get_by, get_walk, enough, scan_after, scan_from, scan_walk, greater, lesser}
use Rattle.tx_client.specs.Calls.{Seated, HasHeard, BeganAt, Draws, RecordsDeclared}
use Rattle.tx_client.specs.declared.resolved.Status.{Status}
use Rattle.tx_client.specs.Statuses.{Stopping}
use Rattle.tx_resolve.specs.BlockedReads.{read_walk}
use Rattle.tx_update.specs.MetLock.{Resolves}
use Rattle.tx_update.specs.Updates.{AnswersNoEffect, GoesWithoutEffect, SeatGoesOn, Follows}

-- ---- histories

-- others act
extends_without : (i : ℕ) (l h : History) → Extends i l h → GoesWithoutEffect i l h
extends_without i l [] g = g
extends_without i l (e ∷ h) g =
    elim g [ inl same ↦ inl same | inr more ↦ inr (extends_without i l h more.0, inl more.1) ]

without_more : (i : ℕ) (l m h : History) → GoesWithoutEffect i l m → GoesWithoutEffect i m h → GoesWithoutEffect i l h
without_more i l m [] p q = subst (λ x. GoesWithoutEffect i l x) q p
without_more i l m (e ∷ h) p q =
    elim q [
      | inl same ↦ subst (λ x. GoesWithoutEffect i l x) same p
      | inr more ↦ inr (without_more i l m h p more.0, more.1)
    ]

pub without_begins : (i : ℕ) (l h : History) → GoesWithoutEffect i l h → Begins l h
without_begins i l [] g = g
without_begins i l (e ∷ h) g = elim g [ inl same ↦ inl same | inr more ↦ inr (without_begins i l h more.0) ]

module _ (bounds : List Key) (i : ℕ) (l h : History) where
  seen_without : HasSeen bounds i l h → GoesWithoutEffect i l h
  seen_without s = extends_without i l h s.extends

  recorded_without : (e : Event) → HasRecorded bounds i l e h → AnswersNoEffect e → GoesWithoutEffect i l h
  recorded_without e r quiet =
      subst (GoesWithoutEffect i l) (sym r.is) (inr (extends_without i l r.before r.extends, inr quiet))

  drawn_without : (ticks ts : ℕ) → HasDrawn bounds i l ticks ts h → GoesWithoutEffect i l h
  drawn_without ticks ts d = recorded_without (Drawn i ts) (drawn_recorded bounds i l h ticks ts d) tt

pub recorded_begins : (bounds : List Key) (i : ℕ) (l h : History) (e : Event) → HasRecorded bounds i l e h → Begins l h
recorded_begins bounds i l h e r =
    subst (Begins l) (sym r.is) (inr (without_begins i l r.before (extends_without i l r.before r.extends)))

-- ---- seats

pub goes_itself : (k : Known) → SeatGoesOn k k
goes_itself k = record { number = refl; knows = extends_without k.seat k.events k.events (extends_all k.seat k.events) }

pub goes_same : (k new : Known) → new ≡ k → SeatGoesOn k new
goes_same k new same = subst (λ (z : Known). SeatGoesOn k z) (sym same) (goes_itself k)

pub goes_more : (a b c : Known) → SeatGoesOn a b → SeatGoesOn b c → SeatGoesOn a c
goes_more a b c p q = record {
  number = q.number ∙ p.number;
  knows = without_more a.seat a.events b.events c.events p.knows
      (subst (λ (i : ℕ). GoesWithoutEffect i b.events c.events) p.number q.knows);
}

pub goes_begins : (old new : Known) → SeatGoesOn old new → Begins old.events new.events
goes_begins old new g = without_begins old.seat old.events new.events g.knows

module _ (bounds : List Key) where
  pub learnt : (k new : Known) (reached : Reached) → Learns bounds k reached new → SeatGoesOn k new
  learnt k new (Err l) same = goes_same k new same
  learnt k new (Ok g) (number, ticks, seen, told, given) =
      record { number = number; knows = seen_without bounds k.seat k.events new.events seen }

  pub heard_goes : (old new : Known) (told : History) → HasHeard bounds old told new → SeatGoesOn old new
  heard_goes old new told h =
      record { number = h.number; knows = seen_without bounds old.seat old.events new.events h.seen }

  pub began_begins : (old new : Known) (start : ℕ) → BeganAt bounds old start new → Begins old.events new.events
  began_begins old new start b =
      begins_more old.events b.mid new.events
      (without_begins old.seat old.events b.mid (drawn_without bounds old.seat old.events b.mid 1 start b.drew))
      (recorded_begins bounds old.seat b.mid new.events (Began start) b.began)

  pub draws_goes : (old new : Known) (c : ℕ) → Draws bounds old c new → SeatGoesOn old new
  draws_goes old new c d =
      record { number = d.number; knows = drawn_without bounds old.seat old.events new.events 1 c d.drawn }

  pub declares_goes : (old new : Known) (o : Option Declaration) → RecordsDeclared bounds old o new → SeatGoesOn old new
  declares_goes old new None same = goes_same old new same
  declares_goes old new (Some d) w = record {
    number = w.number;
    knows = without_more old.seat old.events w.mid new.events
        (drawn_without bounds old.seat old.events w.mid 1 d.drawn w.drew)
        (recorded_without bounds old.seat w.mid new.events (Declared d) w.recorded tt);
  }

module _ {S : Type 0} (sends : S → Asked → Reached → S → Type 0) (bounds : List Key) where
  -- who sends goes on
  pub sent_goes : {R : Type 0} (w : Walk R) (k new : Known) (from to : S) (r : R) → Sends sends bounds k from w r to new
      → SeatGoesOn k new
  sent_goes (ends x) k new from to r (is, same, at) = goes_same k new at
  sent_goes (grows more short) k new from to r (inl sent) = sent_goes short k new from to r sent
  sent_goes (grows more short) k new from to r (inr sent) = sent_goes more k new from to r sent
  sent_goes (asks body more) k new from to r (reached, mid, now, sent, learns, rest) =
      goes_more k now new (learnt bounds k now reached learns)
      (sent_goes (more (response_of reached)) now new mid to r rest)

-- ---- where a walk ends

-- each end of a walk is so
abbrev EndsIn : {R : Type 0} → (R → Type 0) → Walk R → Type 0
EndsIn P (asks body more) = (c : Response) → EndsIn P (more c)
EndsIn P (grows more short) = EndsIn P more × EndsIn P short
EndsIn P (ends r) = P r

module _ {S : Type 0} (sends : S → Asked → Reached → S → Type 0) (bounds : List Key) where
  sent_ends : {R : Type 0} (P : R → Type 0) (w : Walk R) (k new : Known) (from to : S) (r : R) → EndsIn P w
      → Sends sends bounds k from w r to new → P r
  sent_ends P (ends x) k new from to r all (is, same, at) = subst P (sym is) all
  sent_ends P (grows more short) k new from to r all (inl sent) = sent_ends P short k new from to r all.1 sent
  sent_ends P (grows more short) k new from to r all (inr sent) = sent_ends P more k new from to r all.0 sent
  sent_ends P (asks body more) k new from to r all (reached, mid, now, sent, learns, rest) =
      sent_ends P (more (response_of reached)) now new mid to r (all (response_of reached)) rest

-- ---- sessions

-- the transaction is the same, and declares the same
record Stays (old new : SessionState) : Type 0 where
  start : new.start ≡ old.start
  declared : new.declared ≡ old.declared
  placed : new.placed ≡ old.placed

stays_itself : (s : SessionState) → Stays s s
stays_itself s = record { start = refl; declared = refl; placed = refl }

stays_response : (s : SessionState) (x : Phase) (i : ℕ) (c : Response) → Stays s (after_response s x i c)
stays_response s x i (Err why) = record { start = refl; declared = refl; placed = refl }
stays_response s x i (Ok a) = record { start = refl; declared = refl; placed = refl }

stays_due : (s : SessionState) (x : Phase) (due : Option Due)
    → EndsIn (λ (r : SessionState × Result (Option Answer) Miss). Stays s r.0) (due_walk s x due)
stays_due s x None = stays_itself s
stays_due s x (Some due) = ((λ c. stays_response s x due.index c), stays_itself s)

-- and what is entered is the same
record Reads (old new : SessionState) : Type 0 where
  stays : Stays old new
  buffer : new.buffer ≡ old.buffer

reads_itself : (s : SessionState) → Reads s s
reads_itself s = record { stays = stays_itself s; buffer = refl }

reads_response : (s : SessionState) (c : Response) → Reads s (after_read s c)
reads_response s (Err why) = reads_itself s
reads_response s (Ok a) =
    record { stays = record { start = refl; declared = refl; placed = refl }; buffer = refl }

reads_more : (a b c : SessionState) → Reads a b → Reads b c → Reads a c
reads_more a b c p q = record {
  stays = record {
    start = q.stays.start ∙ p.stays.start;
    declared = q.stays.declared ∙ p.stays.declared;
    placed =
        q.stays.placed ∙ p.stays.placed;
  };
  buffer = q.buffer ∙ p.buffer;
}

abbrev HasRead : {R : Type 0} → SessionState → SessionState × R → Type 0
HasRead s r = Reads s r.0

reads_by : (s : SessionState) (key : Key) (o : Option Mutation) → EndsIn (HasRead s) (get_by s key o)
reads_by s key (Some (mutation.Put v)) = (reads_itself s, reads_itself s)
reads_by s key (Some (mutation.Insert v)) = (reads_itself s, reads_itself s)
reads_by s key (Some mutation.Delete) = reads_itself s
reads_by s key (Some mutation.Lock) = ((λ c. reads_response s c), reads_itself s)
reads_by s key None = ((λ c. reads_response s c), reads_itself s)

-- who goes on from a state with the rows so far
abbrev OnRows : Type 0
OnRows = SessionState → List KeyValue → Walk (SessionState × Result Answer Miss)

abbrev KeepsRead : SessionState → OnRows → Type 0
KeepsRead s on = (t : SessionState) (rows : List KeyValue) → Reads s t → EndsIn (HasRead s) (on t rows)

reads_after : (s t : SessionState) (limit : ℕ) (rows : List KeyValue) (r : Result Answer Miss) (on : OnRows)
    → KeepsRead s on → Reads s t → EndsIn (HasRead s) (scan_after t (part_by limit rows r) on)
reads_after s t limit rows (Ok (Rows found)) on keeps is = by (nat_lt (length (rows ++ found)) limit) refl
  where
    by : (b : Bool) → nat_lt (length (rows ++ found)) limit ≡ b
        → EndsIn (HasRead s) (scan_after t (enough limit (rows ++ found)) on)
    by true e = rw e (keeps t (rows ++ found) is)
    by false e = rw e is
reads_after s t limit rows (Ok _) on keeps is = is
reads_after s t limit rows (Err why) on keeps is = is

reads_part : (s t : SessionState) (low high : Key) (limit : ℕ) (rows : List KeyValue) (on : OnRows) → KeepsRead s on
    → Reads s t → EndsIn (HasRead s) (then_walk (part_walk t low high limit rows) (λ x. scan_after x.0 x.1 on))
reads_part s t low high limit rows on keeps is = by (key_lt low high) refl
  where
    by : (b : Bool) → key_lt low high ≡ b
        → EndsIn (HasRead s) (then_walk (part_walk t low high limit rows) (λ x. scan_after x.0 x.1 on))
    by true e = rw e (
      (λ c. reads_after s (after_read t c) limit rows c on keeps
          (reads_more s t (after_read t c) is (reads_response t c))),
      is,
    )
    by false e = rw e (keeps t rows is, is)

reads_scan : (s : SessionState) (from to : Key) (limit : ℕ) (low : Key) (bounds : List Key)
    → KeepsRead s (scan_from from to limit low bounds)
reads_scan s from to limit low [] t rows is =
    reads_part s t (greater from low) to limit rows (λ u all. ends (u, Ok (Rows all))) (λ u all keeps. keeps) is
reads_scan s from to limit low (bound ∷ bounds) t rows is =
    reads_part s t (greater from low) (lesser to bound) limit rows (scan_from from to limit bound bounds)
    (reads_scan s from to limit bound bounds) is

pub follows_itself : (s : Seated) → Follows s s
follows_itself s = record { seat = goes_itself s.seat; start = refl; declared = refl; placed = refl }

pub follows_same : (old new : Seated) → new ≡ old → Follows old new
follows_same old new same = subst (λ (z : Seated). Follows old z) (sym same) (follows_itself old)

pub follows_more : (a b c : Seated) → Follows a b → Follows b c → Follows a c
follows_more a b c p q = record {
  seat = goes_more a.seat b.seat c.seat p.seat q.seat;
  start = q.start ∙ p.start;
  declared = q.declared ∙ p.declared;
  placed = q.placed ∙ p.placed;
}

-- a session that may commit, and has no outcome, has a commit that is due
open_undecided : (s : SessionState) (o : Option Fate) → finish_by s o ≡ None → (o ≡ None) × (has_primary s ≡ true)
open_undecided s (Some end) e = absurd (cc (e))
open_undecided s None e = (refl, by (has_primary s) e)
  where
    by : (b : Bool) → undecided s b ≡ None → b ≡ true
    by true e = refl
    by false e = absurd (cc (e))

none_drawn : (s : SessionState) (o : Option ℕ) → commit_drawn s o ≡ None → o ≡ None
none_drawn s None e = refl
none_drawn s (Some c) e = absurd (cc (e))

may_not : (dec some : Bool) (d : Option Fate) (o : Option ℕ) → d ≡ None → o ≡ None → dec && some ≡ true
    → dec && (not some || may_commit d o) ≡ true → ⊥
may_not true true None None p q h e = cc (e)
may_not true true None (Some c) p q h e = cc (q)
may_not true true (Some end) o p q h e = cc (p)
may_not true false d o p q h e = cc (h)
may_not false some d o p q h e = cc (h)

none_due : (s : SessionState) → can_commit s ≡ true → due_commit s ≡ None → finish_of s ≢ None
none_due s can due unended =
    let both = open_undecided s s.decision unended in
    may_not (is_declared s) (not_empty s.buffer) s.decision s.drawn both.0
    (none_drawn s s.drawn
    (subst (λ (o : Option Fate). commit_by s o ≡ None) both.0
    (subst (λ (b : Bool). commit_if s b ≡ None) both.1 due)))
    both.1 can

ends_due : (s : SessionState) → can_commit s ≡ true → (due : Option Due) → due_commit s ≡ due
    → EndsIn (λ (y : SessionState × Result (Option Answer) Miss). y.1 ≡ Ok None → finish_of y.0 ≢ None)
    (due_walk s phase.Commit due)
ends_due s can None is = λ same. none_due s can is
ends_due s can (Some due) is = (by, λ same unended. cc (same))
  where
    by : (c : Response) → returned c ≡ Ok None → finish_of (after_response s phase.Commit due.index c) ≢ None
    by (Ok a) same unended = cc (same)
    by (Err why) same unended = cc (same)

module _ {S : Type 0} (sends : S → Asked → Reached → S → Type 0) (bounds : List Key) where
  -- the request of a phase is sent
  pub follows_due : (old new : Seated) (from to : S) (x : Phase) (due : Option Due) (r : Result (Option Answer) Miss)
      → Sends sends bounds old.seat from (due_walk old.state x due) (new.state, r) to new.seat → Follows old new
  follows_due old new from to x due r sent =
      let w = due_walk old.state x due in
      let stays = sent_ends sends bounds (λ (y : SessionState × Result (Option Answer) Miss). Stays old.state y.0) w
      old.seat new.seat from to (new.state, r) (stays_due old.state x due) sent in
      record {
        seat = sent_goes sends bounds w old.seat new.seat from to (new.state, r) sent;
        start =
            stays.start;
        declared = stays.declared;
        placed = stays.placed;
      }

  -- where no commit is due of a session that may commit, it has an outcome
  pub commit_ends : (old new : Seated) (from to : S) (r : Result (Option Answer) Miss) → can_commit old.state ≡ true
      → Sends sends bounds old.seat from (due_walk old.state phase.Commit (due_commit old.state)) (new.state, r) to
      new.seat → r ≡ Ok None → finish_of new.state ≢ None
  commit_ends old new from to r can sent is =
      sent_ends sends bounds (λ (y : SessionState × Result (Option Answer) Miss). y.1 ≡ Ok None → finish_of y.0 ≢ None)
      (due_walk old.state phase.Commit (due_commit old.state)) old.seat new.seat from to (new.state, r)
      (ends_due old.state can (due_commit old.state) refl) sent is

  read_follows : (old new : Seated) (from to : S) (w : Walk (SessionState × Result Answer Miss)) (r :
      Result Answer Miss) → EndsIn (HasRead old.state) w → Sends sends bounds old.seat from w (new.state, r) to new.seat
      → Follows old new × (new.state.buffer ≡ old.state.buffer)
  read_follows old new from to w r all sent =
      let reads = sent_ends sends bounds (HasRead old.state) w old.seat new.seat from to (new.state, r) all sent in (
        record {
          seat = sent_goes sends bounds w old.seat new.seat from to (new.state, r) sent;
          start =
              reads.stays.start;
          declared = reads.stays.declared;
          placed = reads.stays.placed;
        },
        reads.buffer,
      )

  -- a key is read
  pub follows_get : (old new : Seated) (from to : S) (key : Key) (r : Result Answer Miss)
      → Sends sends bounds old.seat from (get_walk old.state key) (new.state, r) to new.seat
      → Follows old new × (new.state.buffer ≡ old.state.buffer)
  follows_get old new from to key r sent =
      read_follows old new from to (get_walk old.state key) r (reads_by old.state key (buffered old.state.buffer key))
      sent

  -- a range is read
  pub follows_scan : (old new : Seated) (from to : S) (low high : Key) (limit : ℕ) (r : Result Answer Miss)
      → Sends sends bounds old.seat from (scan_walk old.state bounds low high limit) (new.state, r) to new.seat
      → Follows old new × (new.state.buffer ≡ old.state.buffer)
  follows_scan old new from to low high limit r sent =
      read_follows old new from to (scan_walk old.state bounds low high limit) r
      (reads_scan old.state low high limit low bounds old.state [] (reads_itself old.state)) sent

-- a session learns what was found
passed_stays : (s : SessionState) (t : ℕ) (may : Bool) → Reads s (with_passed s t may)
passed_stays s t false = reads_itself s
passed_stays s t true = record { stays = record { start = refl; declared = refl; placed = refl }; buffer = refl }

pub follows_learn : (bounds : List Key) (old new : Seated) (t : ℕ) (may : Bool) (told : History)
    → new.state ≡ with_passed old.state t may → HasHeard bounds old.seat told new.seat
    → Follows old new × (new.state.buffer ≡ old.state.buffer)
follows_learn bounds old new t may told is after_answer =
    let reads = subst (λ (z : SessionState). Reads old.state z) (sym is) (passed_stays old.state t may) in (
      record {
        seat = heard_goes bounds old.seat new.seat told after_answer;
        start = reads.stays.start;
        declared =
            reads.stays.declared;
        placed = reads.stays.placed;
      },
      reads.buffer,
    )

-- a seat resolves a lock
pub resolves_goes : {S : Type 0} (sends : S → Asked → Reached → S
    → Type 0) (bounds : List Key) (k new : Known) (from to : S) (met : Stopping) (reader now : ℕ) (result : Status)
    → Resolves sends bounds k from met reader now result to new → SeatGoesOn k new
resolves_goes sends bounds k new from to met reader now result (mid, learnt, sent) =
    goes_more k mid new (record {
      number = learnt.seat;
      knows =
          seen_without bounds k.seat k.events mid.events learnt.seen;
    })
    (sent_goes sends bounds (read_walk met.info reader now) mid new from to result sent)

-- so it does, whether or not it had the memory
pub follows_learnt : (bounds : List Key) (old new : Seated) (t : ℕ) (may : Bool) (told : History) (result :
    Result (Unit {0}) Fault)
    → OnOk result ((new.state ≡ with_passed old.state t may) × HasHeard bounds old.seat told new.seat)
    → OnErr result (new ≡ old) → Follows old new × (new.state.buffer ≡ old.state.buffer)
follows_learnt bounds old new t may told (Ok x) ok same = follows_learn bounds old new t may told ok.0 ok.1
follows_learnt bounds old new t may told (Err e) ok same =
    (follows_same old new same, ap (λ (z : Seated). z.state.buffer) same)

-- it draws its commit timestamp
pub follows_draw : (bounds : List Key) (old new : Seated) (c : ℕ) → new.state ≡ record old.state { drawn = Some c }
    → Draws bounds old.seat c new.seat → Follows old new
follows_draw bounds old new c is draws =
    record {
      seat = draws_goes bounds old.seat new.seat c draws;
      start = ap (λ (z : SessionState). z.start) is;
      declared
          = ap (λ (z : SessionState). z.declared) is;
      placed = ap (λ (z : SessionState). z.placed) is;
    }

-- a seat sees all that was drawn, and then resolves a lock
pub resolved_goes : {S : Type 0} (sends : S → Asked → Reached → S
    → Type 0) (bounds : List Key) (old mid new : Known) (from to : S) (met : Stopping) (reader now : ℕ) (result :
    Status) → mid.seat ≡ old.seat → HasSeen bounds old.seat old.events mid.events
    → Resolves sends bounds mid from met reader now result to new → SeatGoesOn old new
resolved_goes sends bounds old mid new from to met reader now result number seen resolves =
    goes_more old mid new (record { number = number; knows = seen_without bounds old.seat old.events mid.events seen })
    (resolves_goes sends bounds mid new from to met reader now result resolves)

-- what enters a change into the buffer, or nothing, keeps the seat
pub entry_seat : {E : Type 0} (r : Result (Unit {0}) E) (Fits : Type 0) (old new : Seated) (s : SessionState)
    → OnOk r (Fits × (new ≡ record { state = s; seat = old.seat })) → OnErr r (new ≡ old) → new.seat ≡ old.seat
entry_seat (Ok v) Fits old new s ok err = ap (λ (z : Seated). z.seat) ok.1
entry_seat (Err e) Fits old new s ok err = ap (λ (z : Seated). z.seat) err

pub insert_seat : {E : Type 0} (r : Result (Unit {0}) E) (Fits Inserts : Type 0) (old new : Seated) (s : SessionState)
    → OnOk r (Fits × Inserts × (new ≡ record { state = s; seat = old.seat })) → OnErr r (new ≡ old)
    → new.seat ≡ old.seat
insert_seat (Ok v) Fits Inserts old new s ok err = ap (λ (z : Seated). z.seat) ok.2
insert_seat (Err e) Fits Inserts old new s ok err = ap (λ (z : Seated). z.seat) err
