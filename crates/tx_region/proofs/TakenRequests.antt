-- How a region comes to its answer.
use Rattle.std.proofs.Common.{◌≡◌, ◌⊎◌, ◌≤◌, ℕ, inl, List, [], ◌∷◌, Option, Some, length, refl, sym, ap, subst, ◌∙◌, arith}
use Rattle.std.specs.Prelude.{IfSome, IfNone}
use Rattle.tx_types.specs.declared.key.Key.{Key}
use Rattle.tx_plan.specs.declared.body.Body.{Body}
use Rattle.tx_plan.specs.declared.body.Body.TheVariants as request
use Rattle.tx_plan.specs.declared.body.Collect.{Collect}
use Rattle.tx_plan.specs.declared.answer.Answer.{Answer}
use Rattle.tx_plan.specs.Cells.{Cells, Region, new_region}
use Rattle.tx_plan.specs.Answers.{AnswersFrom, leaves}
use Rattle.tx_plan.specs.Plans.{read_upto}
use Rattle.tx_plan.specs.cases.Prewrite.{least_minimum}
use Rattle.tx_plan.proofs.LeastMinimum.{more_promises}
use Rattle.tx_core.specs.declared.event.Taken.{Taken}
use Rattle.tx_core.specs.declared.event.Event.TheVariants.{Took}
use Rattle.tx_core.specs.Allowed.{Allowed}
use Rattle.tx_core.specs.Histories.{History, last, left, Begins, WasLast}
use Rattle.tx_core.specs.ReadMarks.{max_ts}
use Rattle.tx_core.specs.Recording.{MayRecord, Extends}
use Rattle.tx_core.specs.Worlds.{Holds, IsWorldRun}
use Rattle.tx_core.proofs.seats.Replies.{left_on, left_took}
use Rattle.tx_core.proofs.seats.Beginnings.{begins_more, extends_begins, extends_more}
use Rattle.tx_core.proofs.seats.ReadMarks.{region_within, read_drawn, taken_raises}
use Rattle.tx_core.proofs.seats.Recording.{may_take_from}
use Rattle.tx_core.proofs.seats.Stays.{last_was, was_last_on}
use Rattle.tx_core.proofs.seats.StaysAllowed.{allowed_on}
use Rattle.tx_core.specs.LastChanges.{turns, IsNoted, NotesAll, Drops}
use Rattle.tx_core.proofs.evolution.Notes.{turns_on, turns_took, noted_first, noted_on, noted_all}
use Rattle.tx_journal.specs.Known.{Known, HasSeen, HasRecorded}
use Rattle.tx_journal.specs.Replies.{Asked, Given, Tells, IsGiven}
use Rattle.tx_journal.proofs.Replies.{told_by}
use Rattle.tx_region.specs.Calls.{Executes, Counts}
use Rattle.tx_region.specs.TakenRequests.{HoldsWhatIsLeft, IsMark, Loads, Knows, Answered}

-- what a seat has seen, of the seat as it is kept
pub seen_inside : (bounds : List Key) (old new inside : Known) → inside ≡ new
    → new.seat ≡ old.seat → HasSeen bounds old.seat old.events new.events
    → HasSeen bounds inside.seat old.events inside.events
seen_inside bounds old new inside view same seen =
    subst (λ (p : ℕ × Known). HasSeen bounds p.0 old.events p.1.events)
    (λ i. (sym (ap (λ (k : Known). k.seat) view ∙ same) i, sym view i)) seen

-- only an async prewrite's answer looks at the mark
pub by_mark : (mark : ℕ) (h : History) (region : Region) (loaded : ℕ) (b : Body) (a : Answer) → IsMark b mark h
    → AnswersFrom mark region loaded b a → AnswersFrom (max_ts h) region loaded b a
by_mark mark h region loaded (request.Get b) a is answers = answers
by_mark mark h region loaded (request.Scan b) a is answers = answers
by_mark mark h region loaded (request.Prewrite b) a is answers =
    more_promises (region.cells b.key) region.safe loaded (λ m. m ≡ least_minimum mark b)
    (λ m. m ≡ least_minimum (max_ts h) b) b a (λ start async m e. e ∙ ap (λ n. least_minimum n b) (is async))
    answers
by_mark mark h region loaded (request.Commit b) a is answers = answers
by_mark mark h region loaded (request.BatchRollback b) a is answers = answers
by_mark mark h region loaded (request.TxnHeartBeat b) a is answers = answers
by_mark mark h region loaded (request.CheckTxnStatus b) a is answers = answers
by_mark mark h region loaded (request.CheckSecondaryLocks b) a is answers = answers
by_mark mark h region loaded (request.ResolveLock b) a is answers = answers
by_mark mark h region loaded (request.RaiseSafe b) a is answers = answers
by_mark mark h region loaded (request.LocksBelow b) a is answers = answers
by_mark mark h region loaded (request.Collect b) a is answers = answers

-- ---- what a region keeps

-- in the beginning
pub keeps_first : (bounds : List Key) (seat : Known) (region : ℕ → Region) (taken : ℕ) (numbers : Key → ℕ)
    → seat.events ≡ [] → seat.seat ≤ length bounds
    → region 0 ≡ new_region → taken ≡ 0 → ((k : Key) → numbers k ≡ 0) → HoldsWhatIsLeft bounds seat region taken numbers
keeps_first bounds seat region taken numbers none inside first count noted = record {
  left = subst (λ h. region (left h seat.seat).max_read ≡ left h seat.seat) (sym none) first;
  inside = inside;
  count = count ∙ ap (λ h. turns h seat.seat) (sym none);
  noted = λ k. subst (λ (p : History × ℕ). IsNoted p.0 seat.seat k p.1) (λ i. (sym none i, sym (noted k) i))
      (noted_first seat.seat k);
}

-- while other seats record
pub keeps_seen : (bounds : List Key) (old new : Known) (region : ℕ → Region) (taken : ℕ) (numbers : Key → ℕ)
    → HoldsWhatIsLeft bounds old region taken numbers → new.seat ≡ old.seat → Extends old.seat old.events new.events
    → HoldsWhatIsLeft bounds new region taken numbers
keeps_seen bounds old new region taken numbers is number goes =
    let still : left new.events new.seat ≡ left old.events old.seat =
    ap (left new.events) number ∙ left_on old.seat old.events new.events goes in
    record {
      left = subst (λ (r : Region). region r.max_read ≡ r) (sym still) is.left;
      inside = subst (λ n. n ≤ length bounds) (sym number) is.inside;
      count = is.count ∙ (sym (turns_on old.seat old.events new.events goes) ∙ ap (turns new.events) (sym number));
      noted = λ k. subst (λ n. IsNoted new.events n k (numbers k)) (sym number)
          (noted_on old.seat k (numbers k) old.events new.events goes (is.noted k));
    }

-- by records that hold, count and note the same
pub keeps_same : (bounds : List Key) (seat after_it : Known) (old new : ℕ → Region) (taken count : ℕ)
    (was now : Key → ℕ) → after_it ≡ seat → new ≡ old → (count ≡ taken)
    × ((k : Key) → now k ≡ was k) → HoldsWhatIsLeft bounds seat old taken was
    → HoldsWhatIsLeft bounds after_it new count now
keeps_same bounds seat after_it old new taken count was now still same numbers is =
    subst (λ (p : Known × (ℕ → Region) × ℕ × (Key → ℕ)). HoldsWhatIsLeft bounds p.0 p.1 p.2 p.3)
    (λ i. (sym still i, sym same i, sym numbers.0 i, λ k. sym (numbers.1 k) i)) is

-- ---- one event

-- The region n knows `marked`, and the request is answered by the case tables, with the least
-- minimum above each read.
module _ (bounds : List Key) (n : ℕ) (inside : n ≤ length bounds) (marked : History) (run : IsWorldRun bounds marked)
    (by : History) (body : Body) (loaded : ℕ) (knows : Knows by marked loaded) (allowed : Allowed by body)
    (holds : Holds bounds n body)
    (a : Answer) (least : AnswersFrom (max_ts marked) (left marked n) loaded body a) where
  abbrev pub event : Taken
  event = record { region = n; body = body; loaded = loaded; answer = a }

  pub may_answer : MayRecord bounds n marked (Took event)
  may_answer =
      may_take_from bounds n marked (max_ts marked) event refl inside
      (allowed_on bounds by marked run (begins_more by knows.point marked knows.heard knows.upto) body allowed)
      holds
      (was_last_on knows.point marked knows.upto loaded (subst (WasLast knows.point)
      (sym knows.is_last) (last_was knows.point))) run (region_within marked n) (read_drawn bounds marked run) least

-- so its reply tells it
pub tells_of : (bounds : List Key) (n : ℕ) (had marked by : History) (loaded : ℕ) → Extends n had marked
    → (knows : Knows by marked loaded) → (g : Given) (a : Answer) → g.request.by ≡ by
    → (added : HasRecorded bounds n marked (Took record {
      region = n;
      body = g.request.body;
      loaded = loaded;
      answer = a;
    }) g.events) → (t : Tells bounds n had g a) × (t.point ≡ knows.point)
    × (t.before ≡ added.before)
tells_of bounds n had marked by loaded goes knows g a said added = (
  record {
    before = added.before;
    point = knows.point;
    run = added.run;
    ends = added.is ∙ ap (λ l. Took (record { region = n; body = g.request.body; loaded = l; answer = a })
        ∷ added.before) knows.is_last;
    sender = subst (λ h. Begins h knows.point) (sym said) knows.heard;
    since = begins_more knows.point marked added.before knows.upto (extends_begins n marked added.before added.extends);
    region = extends_more n had marked added.before goes added.extends;
  },
  refl,
  refl,
)

pub extends_itself : (n : ℕ) (h : History) → Extends n h h
extends_itself n [] = refl
extends_itself n (e ∷ h) = inl refl

pub given_by : (bounds : List Key) (n : ℕ) (marked : History) (loaded : ℕ) (q : Asked) (a : Answer) (events : History)
    → Knows q.by marked loaded
    → HasRecorded bounds n marked (Took record { region = n; body = q.body; loaded = loaded; answer = a }) events
    → IsGiven bounds record { request = q; answer = Some a; events = events }
given_by bounds n marked loaded q a events knows added =
    let g : Given = record { request = q; answer = Some a; events = events } in
    let t = tells_of bounds n marked marked q.by loaded (extends_itself n marked) knows g a refl added in
    record { run = added.run; told = told_by bounds n marked g a t.0 }

-- ---- records that answer

module _ (bounds : List Key) (n : ℕ) (marked : History) (body : Body) (loaded : ℕ) (a : Answer) (before after : ℕ
    → Region) (read : Option ℕ) (kept : before (left marked n).max_read ≡ left marked n) (mine : (m : ℕ)
    → (after m).max_read ≡ m)
    (does : after (read_upto read (left marked n).max_read) ≡ leaves (left marked n) body a) where
  abbrev taken : Taken
  taken = record { region = n; body = body; loaded = loaded; answer = a }

  does_read : (leaves (left marked n) body a).max_read ≡ read_upto read (left marked n).max_read
  does_read = ap (λ (r : Region). r.max_read) (sym does) ∙ mine (read_upto read (left marked n).max_read)

  -- what was read is what the event reads
  pub reads : max_ts (Took taken ∷ marked) ≡ read_upto read (max_ts marked)
  reads = taken_raises marked taken read does_read

  module _ (new : History) (added : HasRecorded bounds n marked (Took taken) new) where
    -- what the event leaves is what the answer leaves
    left_now : left new n ≡ leaves (left marked n) body a
    left_now = ap (λ h. left h n) added.is ∙ left_took n marked added.before taken refl added.extends

    -- and what the families then hold
    kept_now : after (left new n).max_read ≡ left new n
    kept_now = ap (λ (r : Region). after r.max_read) left_now ∙ (ap after does_read ∙ (does ∙ sym left_now))

    module _ (inside : n ≤ length bounds) (old_cells new_cells : Key → Cells) (held : (m : ℕ)
        → (before m).cells ≡ old_cells) (holds : (m : ℕ) → (after m).cells ≡ new_cells)
        (count : ℕ) (was now : Key → ℕ) (count_is : count ≡ turns marked n) (noted : (k : Key)
        → IsNoted marked n k (was k))
        (after_it : ℕ) (counts : Counts body count old_cells was after_it new_cells now) where
      abbrev mid : History
      mid = added.before

      more : turns mid n ≡ turns marked n
      more = turns_on n marked mid added.extends

      cells_before : old_cells ≡ (left mid n).cells
      cells_before = sym (held (left marked n).max_read)
          ∙ ap (λ (r : Region). r.cells) (kept ∙ sym (left_on n marked mid added.extends))

      cells_after : new_cells ≡ (left (Took taken ∷ mid) n).cells
      cells_after = sym (holds (left new n).max_read)
          ∙ ap (λ (r : Region). r.cells) (kept_now ∙ ap (λ h. left h n) added.is)

      run : IsWorldRun bounds (Took taken ∷ mid)
      run = subst (IsWorldRun bounds) added.is added.run

      counted : after_it ≡ turns (Took taken ∷ mid) n
      counted = (let one = turns_took n mid taken refl in let turn =
          counts.turn in omega (arith, one, turn, count_is, more))

      notes : NotesAll (turns mid n) (turns (Took taken ∷ mid) n) (left mid n).cells was
          (left (Took taken ∷ mid) n).cells now
          ⊎ (((b : Collect) × (body ≡ request.Collect b))
          × Drops (left mid n).cells was (left (Took taken ∷ mid) n).cells now)
      notes =
          subst (λ (p : ℕ × ℕ × (Key → Cells) × (Key → Cells)).
          NotesAll p.0 p.1 p.2 was p.3 now ⊎ (((b : Collect) × (body ≡ request.Collect b)) × Drops p.2 was p.3 now))
          (λ i. ((count_is ∙ sym more) i, counted i, cells_before i, cells_after i)) counts.notes

      noted_now : (k : Key) → IsNoted (Took taken ∷ mid) n k (now k)
      noted_now = noted_all bounds n mid taken run refl was now
          (λ k. noted_on n k (was k) marked mid added.extends (noted k)) notes

      pub keeps_took : (seat : Known) → seat.seat ≡ n → seat.events ≡ new
          → HoldsWhatIsLeft bounds seat after after_it now
      keeps_took seat number events = record {
        left = subst (λ (p : ℕ × History). after (left p.1 p.0).max_read ≡ left p.1 p.0)
            (λ i. (sym number i, sym events i)) kept_now;
        inside = subst (λ m. m ≤ length bounds) (sym number) inside;
        count = counted ∙ (λ i. turns ((sym added.is ∙ sym events) i) (sym number i));
        noted = λ k. subst (λ (p : History × ℕ). IsNoted p.0 p.1 k (now k))
            (λ i. ((sym added.is ∙ sym events) i, sym number i)) (noted_now k);
      }

-- ---- answers under the lock

-- The region n had seen `had`, and loaded what it needs.
abbrev pub knows_loads : (bounds : List Key) (n : ℕ) (had by : History)
    (body : Body) (loaded mark : ℕ) (marked : History) → Loads bounds n had by body loaded mark marked
    → Knows by marked loaded
knows_loads bounds n had by body loaded mark marked loads =
    record {
      point = loads.point;
      heard = loads.heard;
      upto = extends_begins n loads.point marked loads.on.extends;
      is_last = loads.is_last;
    }

pub answered : (bounds : List Key) (n : ℕ) (had by : History) (body : Body) (loaded mark : ℕ) (marked : History)
    (loads : Loads bounds n had by body loaded mark marked) (a : Answer)
    → AnswersFrom (max_ts marked) (left marked n) loaded body a
    → (g : Given) → g.request.by ≡ by → g.request.body ≡ body
    → HasRecorded bounds n marked (Took record { region = n; body = body; loaded = loaded; answer = a }) g.events
    → Answered bounds n had g a
answered bounds n had by body loaded mark marked loads a least g said asked added =
    let goes : Extends n had marked = extends_more n had loads.point marked loads.here.extends loads.on.extends in
    let added' : HasRecorded bounds n marked (Took record {
      region = n;
      body = g.request.body;
      loaded = last loads.point;
      answer = a;
    }) g.events = subst (λ (p : Body × ℕ). HasRecorded bounds n marked
    (Took record { region = n; body = p.0; loaded = p.1; answer = a }) g.events)
    (λ i. (sym asked i, loads.is_last i)) added in
    let still : left marked n ≡ left had n = left_on n had marked goes in
    record {
      tells = record {
        before = added'.before;
        point = loads.point;
        run = added'.run;
        ends = added'.is;
        sender = subst (λ h. Begins h loads.point) (sym said) loads.heard;
        since = begins_more loads.point marked added'.before
            (extends_begins n loads.point marked loads.on.extends)
            (extends_begins n marked added'.before added'.extends);
        region = extends_more n had marked added'.before goes added'.extends;
      };
      loads = loads.here.extends;
      records = extends_more n loads.point marked added'.before loads.on.extends added'.extends;
      marked = marked;
      later = extends_begins n loads.point marked loads.on.extends;
      ends = extends_begins n marked added'.before added'.extends;
      least = subst (λ (p : Body × ℕ × Region). AnswersFrom (max_ts marked) p.2 p.1 p.0 a)
          (λ i. (sym asked i, loads.is_last i, still i)) least;
    }

pub if_some_is : {X : Type 0} (o : Option X) (x : X) (P : X → Type 0) → o ≡ Some x → P x → IfSome o P
if_some_is o x P e p = subst (λ q. IfSome q P) (sym e) p

pub if_none_is : {X : Type 0} (o : Option X) (x : X) (P : Type 0) → o ≡ Some x → IfNone o P
if_none_is o x P e = subst (λ q. IfNone q P) (sym e) tt

-- The region n had seen `had`, loaded what it needs, and executed the request, by families that
-- hold what its own events left.
module _ (bounds : List Key) (n : ℕ) (inside : n ≤ length bounds) (had by : History) (body : Body) (loaded mark : ℕ)
    (marked : History) (loads : Loads bounds n had by body loaded mark marked) (allowed : Allowed by body)
    (holds : Holds bounds n body)
    (before after : ℕ → Region) (a : Answer) (read : Option ℕ) (executes : Executes mark before loaded body a
    read after) (kept : before (left marked n).max_read ≡ left marked n) (mine : (m : ℕ)
    → (after m).max_read ≡ m) where
  pub least_taken : AnswersFrom (max_ts marked) (left marked n) loaded body a
  least_taken = by_mark mark marked (left marked n) loaded
      body a loads.is_mark (subst (λ r. AnswersFrom mark r loaded body a) kept
      (executes.answers (left marked n).max_read))

  pub does_taken : after (read_upto read (left marked n).max_read) ≡ leaves (left marked n) body a
  does_taken = executes.leaves (left marked n).max_read ∙ ap (λ r. leaves r body a) kept

  pub knows_taken : Knows by marked loaded
  knows_taken = knows_loads bounds n had by body loaded mark marked loads

  pub may_take_it : MayRecord bounds n marked (Took record { region = n; body = body; loaded = loaded; answer = a })
  may_take_it = may_answer bounds n inside marked loads.on.run by body loaded knows_taken allowed holds a least_taken

  pub reads_taken : max_ts (Took record { region = n; body = body; loaded = loaded; answer = a } ∷ marked)
      ≡ read_upto read (max_ts marked)
  reads_taken = reads bounds n marked body loaded a before after read kept mine does_taken
