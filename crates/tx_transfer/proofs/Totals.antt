-- What is summed is what the one-step machine sees at one timestamp.
use Rattle.std.proofs.Common.{◌≡◌, inl, inr, ℕ, ◌+◌, ◌<◌, ◌≤◌, Bool, true, false, List, [], ◌∷◌, ◌++◌, length, Option, Some, None, Result, Ok, Err, IfOk, IsTrue, refl, sym, ap, subst, ◌∙◌, arith}
use Rattle.std.proofs.lemmas.List.Sums.{sum_by-append}
use Rattle.tx_types.specs.declared.key.Key.{Key}
use Rattle.tx_types.specs.declared.value.Value.{Value}
use Rattle.tx_types.specs.declared.lock.LockInfo.{LockInfo}
use Rattle.tx_types.specs.declared.mutation.KeyValue.{KeyValue}
use Rattle.tx_types.specs.declared.limits.TheConstants.{MAX_SCAN_ROWS}
use Rattle.tx_types.specs.Keys.{key_lt, key_le, is_between, is_scanned, AreRising}
use Rattle.tx_plan.proofs.KeyOrder.{le_itself, lt_le, lt_itself, lt_then_le}
use Rattle.tx_plan.specs.declared.answer.Answer.{Answer}
use Rattle.tx_plan.specs.declared.answer.Answer.TheVariants as answer
use Rattle.tx_machine.specs.Machine.{Rows, Sees, SeesRows, table_of}
use Rattle.tx_core.specs.declared.event.Event.{Event}
use Rattle.tx_core.specs.declared.event.Event.TheVariants.{Drawn, Began, Answered}
use Rattle.tx_core.specs.declared.event.Outcome.TheVariants as outcome
use Rattle.tx_core.specs.Histories.{History, Among, Begins}
use Rattle.tx_core.specs.Shadow.{shadow}
use Rattle.tx_core.specs.Worlds.{IsWorldRun}
use Rattle.tx_core.proofs.runs.CommitOrder.{answered_before, decided_below}
use Rattle.tx_core.proofs.seats.Beginnings.{begins_all, begins_more, extends_begins}
use Rattle.tx_core.proofs.seats.Stays.{among_on}
use Rattle.tx_journal.specs.Known.{Known}
use Rattle.tx_journal.specs.Replies.{Asked}
use Rattle.tx_journal.specs.Senders.{Reached, IsSender}
use Rattle.tx_transaction.specs.Sessions.{SessionState}
use Rattle.tx_transaction.specs.declared.state.Miss.{Miss}
use Rattle.tx_client.specs.declared.resolved.Status.{Status}
use Rattle.tx_client.specs.Statuses.{lies_above}
use Rattle.tx_client.specs.Calls.{Seated, BeganAt, Records}
use Rattle.tx_client.specs.Learns.{Learns, response_of}
use Rattle.tx_client.specs.Walks.{Walk, asks, grows, ends, Sends, scan_walk}
use Rattle.tx_laws.specs.Scans.{scan_at}
use Rattle.tx_laws.proofs.Scanned.{sees_whole}
use Rattle.tx_transfer.specs.Balances.{balance_of}
use Rattle.tx_transfer.specs.Resolutions.{ResolvesMet}
use Rattle.tx_laws.specs.Rows.{AreRowsOf}
use Rattle.tx_transfer.specs.Totals.{least, top, balances_of, IsSumOf, SumsTo, IsTotal, HasReadTo, ReadsOn, IsPage, IsPageOf, AddsPage}
use Rattle.tx_laws.proofs.Pages.{le_trans, between_both, none_there, short_page, last_within, front_of_page, joined}
use Rattle.tx_transfer.proofs.ScanStarts.{scan_start, passed_start}

-- ---- what a seat knows

learns_begins : (bounds : List Key) (old new : Known) (r : Reached) → Learns bounds old r new
    → Begins old.events new.events
learns_begins bounds old new (Err l) learns =
    subst (λ (k : Known). Begins old.events k.events) (sym learns) (begins_all old.events)
learns_begins bounds old new (Ok g) learns = extends_begins old.seat old.events new.events learns.2.extends

module _ {S : Type 0} (sends : S → Asked → Reached → S → Type 0) (bounds : List Key) where
  -- a seat that sent requests has seen more
  sent_begins : {R : Type 0} (w : Walk R) (old new : Known) (a b : S) (r : R) → Sends sends bounds old a w r b new
      → Begins old.events new.events
  sent_begins (ends r) old new a b result (is, there, knows) =
      subst (λ (k : Known). Begins old.events k.events) (sym knows) (begins_all old.events)
  sent_begins (grows more short) old new a b result (inl s) = sent_begins short old new a b result s
  sent_begins (grows more short) old new a b result (inr s) = sent_begins more old new a b result s
  sent_begins (asks body more) old new a b result (reached, mid, then, sent, learns, rest) =
      begins_more old.events then.events new.events (learns_begins bounds old then reached learns)
      (sent_begins (more (response_of reached)) then new mid b result rest)

  -- ---- a page

  module _ (from to : Key) (old new : Seated) (a b : S) (r : Result Answer Miss)
      (sent : Sends sends bounds old.seat a (scan_walk old.state bounds from to MAX_SCAN_ROWS) (new.state, r) b
      new.seat)
    where
      pub page_start : new.state.start ≡ old.state.start
      page_start = scan_start sends bounds old.seat new.seat a b old.state from to MAX_SCAN_ROWS (new.state, r) sent

      pub page_knows : Begins old.seat.events new.seat.events
      page_knows = sent_begins (scan_walk old.state bounds from to MAX_SCAN_ROWS) old.seat new.seat a b (new.state, r)
          sent

      page_is : (fits : S → Asked → Type 0) (keys_between : S → List Key) → IsSender bounds fits sends keys_between
          → to ≡ top → AreRising bounds → IsWorldRun bounds new.seat.events → (rows : List KeyValue)
          → r ≡ Ok (answer.Rows rows) → IsPage bounds new.seat.events old.state.start from rows
      page_is fits keys_between way all rising run rows is = record {
        few = (seen new.seat.events (begins_all new.seat.events) run).upto;
        run = run;
        sees = seen;
      }
        where
          seen : (h : History) → Begins new.seat.events h → IsWorldRun bounds h
              → SeesRows (table_of (shadow h)).row (scan_at old.state.start from top MAX_SCAN_ROWS rows)
          seen h begins there = sees_whole bounds fits sends keys_between rising way old.seat new.seat a b old.state
              new.state from top MAX_SCAN_ROWS rows h
              (subst (λ (x : Result Answer Miss).
              Sends sends bounds old.seat a (scan_walk old.state bounds from top MAX_SCAN_ROWS) (new.state, x) b
              new.seat) is
              (subst (λ (k : Key).
              Sends sends bounds old.seat a (scan_walk old.state bounds from k MAX_SCAN_ROWS) (new.state, r) b
              new.seat) all
              sent)) begins there

      pub page_of : (fits : S → Asked → Type 0) (keys_between : S → List Key) → IsSender bounds fits sends keys_between
          → to ≡ top → AreRising bounds → IsWorldRun bounds new.seat.events → (came : Result Answer Miss) → r ≡ came
          → IsPageOf bounds new.seat.events old.state.start from came
      page_of fits keys_between way all rising run (Ok (answer.Rows rows)) is =
          page_is fits keys_between way all rising run rows is
      page_of fits keys_between way all rising run (Ok _) is = tt
      page_of fits keys_between way all rising run (Err m) is = tt

-- ---- a lock in the way

module _ (bounds : List Key) (old new : Seated) (resolver after : Known) (now : Option ℕ) where
  pub resolved_start : (met : Option LockInfo) (found : Option Status)
      → ResolvesMet bounds old resolver met now found new after → new.state.start ≡ old.state.start
  resolved_start None found (none, same, stays) = ap (λ (s : Seated). s.state.start) same
  resolved_start (Some lock) found (status, some, resolves, state, heard) =
      ap (λ (s : SessionState). s.start) state
      ∙ passed_start old.state lock.start (lies_above status old.state.start)

  pub resolved_knows : (met : Option LockInfo) (found : Option Status)
      → ResolvesMet bounds old resolver met now found new after → Begins old.seat.events new.seat.events
  resolved_knows None found (none, same, stays) =
      subst (λ (s : Seated). Begins old.seat.events s.seat.events) (sym same) (begins_all old.seat.events)
  resolved_knows (Some lock) found (status, some, resolves, state, heard) =
      extends_begins old.seat.seat old.seat.events new.seat.events heard.seen.extends

-- ---- sums

module _ (bounds : List Key) (at : ℕ) where
  -- nothing lies below the first key
  pub none_read : (known : History) → HasReadTo bounds known at least 0
  none_read known = record {
    up = le_itself least;
    on = refl;
    sums = λ h begins run. (
      [],
      none_there (λ k found. Sees (table_of (shadow h)).row k at found) (is_between least least) (λ k inside.
          lt_itself least (lt_under k (between_both least least k inside))),
      refl,
    );
  }
    where
      lt_under : (k : Key) → IsTrue (key_le least k) × IsTrue (key_lt k least) → IsTrue (key_lt least least)
      lt_under k both = absurd (lt_itself k (lt_then_le k least k both.1 both.0))

  -- what is known stays so
  pub sums_on : (l h : History) → Begins l h → (to : Key) (sum : ℕ) → SumsTo bounds l at to sum
      → SumsTo bounds h at to sum
  sums_on l h begins to sum sums g later run = sums g (begins_more l h g begins later) run

  pub read_on : (l h : History) → Begins l h → (from : Key) (sum : ℕ) → HasReadTo bounds l at from sum
      → HasReadTo bounds h at from sum
  read_on l h begins from sum is =
      record { up = is.up; on = is.on; sums = sums_on l h begins from sum is.sums }

  sums_both : (xs ys : List KeyValue) (old new : ℕ) → old ≡ balances_of xs → new ≡ old + balances_of ys
      → new ≡ balances_of (xs ++ ys)
  sums_both xs ys old new is more =
      more ∙ ap (λ n. n + balances_of ys) is ∙ sym (sum_by-append (λ (row : KeyValue). balance_of row.value) xs ys)

  -- a scan has the rows of its range as far as it came
  page_rows : (table : Rows) (from : Key) (rows : List KeyValue)
      → SeesRows table (scan_at at from top MAX_SCAN_ROWS rows)
      → AreRowsOf (is_scanned from top MAX_SCAN_ROWS rows) (λ k found. Sees table k at found) rows
  page_rows table from rows sees = record { rising = sees.rising; within = sees.within; each = sees.each }

  module _ (known : History) (from : Key) (page : List KeyValue) (old new : ℕ)
      (read : HasReadTo bounds known at from old)
      (is : IsPage bounds known at from page) where
    -- the last page
    whole_added : length page < MAX_SCAN_ROWS → new ≡ old + balances_of page → SumsTo bounds known at top new
    whole_added short adds h begins run =
        let table = (table_of (shadow h)).row in
        let before = read.sums h begins run in (
          before.0 ++ page,
          joined (λ k found. Sees table k at found) least from top read.up read.on before.0 page before.1
              (short_page (λ k found. Sees table k at found) from top MAX_SCAN_ROWS page
              (page_rows table from page (is.sees h begins run)) short),
          sums_both before.0 page old new before.2 adds,
        )

    -- a page that may have been cut
    part_added : (front : List KeyValue) (last : KeyValue) → page ≡ front ++ last ∷ [] → new ≡ old + balances_of front
        → HasReadTo bounds known at last.key new
    part_added front last same adds = record {
      up = le_trans least from last.key read.up inside.0;
      on = lt_le last.key top inside.1;
      sums = λ h begins run.
          let table = (table_of (shadow h)).row in
          let before = read.sums h begins run in (
            before.0 ++ front,
            joined (λ k found. Sees table k at found) least from last.key read.up inside.0 before.0 front before.1
                (front_of_page (λ k found. Sees table k at found) from top MAX_SCAN_ROWS front last
                (rows_at h begins run)),
            sums_both before.0 front old new before.2 adds,
          );
    }
      where
        rows_at : (h : History) → Begins known h → IsWorldRun bounds h
            → AreRowsOf (is_scanned from top MAX_SCAN_ROWS (front ++ last ∷ []))
            (λ k found. Sees (table_of (shadow h)).row k at found) (front ++ last ∷ [])
        rows_at h begins run = subst (λ (l : List KeyValue).
            AreRowsOf (is_scanned from top MAX_SCAN_ROWS l) (λ k found. Sees (table_of (shadow h)).row k at found) l)
            same
            (page_rows (table_of (shadow h)).row from page (is.sees h begins run))

        inside : IsTrue (key_le from last.key) × IsTrue (key_lt last.key top)
        inside = between_both from top last.key
            (last_within (λ k found. Sees (table_of (shadow known)).row k at found) from top MAX_SCAN_ROWS front last
            (rows_at known (begins_all known) is.run))

    pub page_added : (next : Option Key) → AddsPage page old new next → ReadsOn bounds known at next new
    page_added None adds = whole_added adds.0 adds.1
    page_added (Some key) adds =
        subst (λ (k : Key). HasReadTo bounds known at k new) (sym adds.3) (part_added adds.0 adds.1 adds.2 adds.4)

-- ---- the timestamp

-- what was answered before a session began lies at or below its start
pub began_above : (bounds : List Key) (old new : Known) (start : ℕ) → BeganAt bounds old start new → (t c : ℕ)
    → Among old.events (Answered t (outcome.Committed c)) → c ≤ start
began_above bounds old new start b t c among =
    let before = b.drew.before in
    let run : IsWorldRun bounds (Drawn old.seat start ∷ before) = subst (IsWorldRun bounds) b.drew.is b.drew.run in
    decided_below bounds (Drawn old.seat start ∷ before) run start t c
    (answered_before bounds before (Drawn old.seat start ∷ before) old.seat start t c run
    (begins_all (Drawn old.seat start ∷ before))
    (among_on old.events before (extends_begins old.seat old.events before b.drew.extends)
    (Answered t (outcome.Committed c)) among))

pub began_knows : (bounds : List Key) (old new : Known) (start : ℕ) → BeganAt bounds old start new
    → Begins old.events new.events
began_knows bounds old new start b =
    let drew : Begins old.events b.mid = subst (Begins old.events) (sym b.drew.is)
    (inr (extends_begins old.seat old.events b.drew.before b.drew.extends)) in
    let began : Begins b.mid new.events = subst (Begins b.mid) (sym b.began.is)
    (inr (extends_begins old.seat b.mid b.began.before b.began.extends)) in
    begins_more old.events b.mid new.events drew began

stopped_knows : (bounds : List Key) (old new : Known) (e : Event) → Records bounds old e new
    → Begins old.events new.events
stopped_knows bounds old new e r = subst (Begins old.events) (sym r.recorded.is)
    (inr (extends_begins old.seat old.events r.recorded.before r.recorded.extends))

-- what a reading came to, once its session began at a timestamp, read all and was stopped
module _ (bounds : List Key) (before : Known) (begun read_all : Seated) (seat : Known) (e : Event)
    (began : BeganAt bounds before begun.state.start begun.seat) (grew : Begins begun.seat.events read_all.seat.events)
    (stopped : Records bounds read_all.seat e seat) {E F : Type 0} (read : Result ℕ F) where
  pub total_read : (r : Result (ℕ × Known) E) → IfOk r (λ x. (read ≡ Ok x.0) × (x.1 ≡ seat))
      → IfOk read (SumsTo bounds read_all.seat.events begun.state.start top)
      → IfOk r (λ x. IsTotal bounds before.events x.1.events x.0)
  total_read (Ok x) same sums = subst (λ (k : Known). IsTotal bounds before.events k.events x.0) (sym same.1) (record {
    at = begun.state.start;
    above = began_above bounds before begun.seat begun.state.start began;
    sums = sums_on bounds begun.state.start read_all.seat.events seat.events
        (stopped_knows bounds read_all.seat seat e stopped) top x.0
        (subst (λ (q : Result ℕ F). IfOk q (SumsTo bounds read_all.seat.events begun.state.start top)) same.0 sums);
  })
  total_read (Err why) same sums = tt

  pub total_knows : (r : Result (ℕ × Known) E) → IfOk r (λ x. (read ≡ Ok x.0) × (x.1 ≡ seat))
      → IfOk r (λ x. Begins before.events x.1.events)
  total_knows (Ok x) same = subst (λ (k : Known). Begins before.events k.events) (sym same.1)
      (begins_more before.events begun.seat.events seat.events
      (began_knows bounds before begun.seat begun.state.start began)
      (begins_more begun.seat.events read_all.seat.events seat.events grew
      (stopped_knows bounds read_all.seat seat e stopped)))
  total_knows (Err why) same = tt
