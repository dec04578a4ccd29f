-- What a line that says a seed is told tells of what its seat then knows.
use Rattle.std.proofs.Common.{◌≡◌, inl, inr, ℕ, Bool, true, false, List, [], ◌∷◌, All, Option, Some, None, Result, Ok, Err, OnOk, refl, sym, ap, subst, ◌∙◌}
use Rattle.std.proofs.lemmas.List.Elements.{All-head, All-nil, All-cons, All-tail}
use Rattle.tx_types.specs.declared.fault.Fault.TheVariants as fault
use Rattle.tx_types.specs.declared.key.Key.{Key}
use Rattle.tx_types.specs.declared.mutation.Change.{Change}
use Rattle.tx_types.specs.declared.mutation.Mutation.TheVariants.{Put}
use Rattle.tx_plan.specs.declared.answer.Answer.{Answer}
use Rattle.tx_core.specs.declared.event.Declaration.{Declaration}
use Rattle.tx_core.specs.declared.event.Event.TheVariants.{Answered, Declared, Stopped}
use Rattle.tx_core.specs.declared.event.Outcome.{Outcome}
use Rattle.tx_core.specs.declared.event.Outcome.TheVariants as outcome
use Rattle.tx_core.specs.Histories.{History, Among}
use Rattle.tx_core.proofs.seats.Stays.{among_on}
use Rattle.tx_journal.specs.Known.{Known}
use Rattle.tx_journal.specs.Replies.{Asked}
use Rattle.tx_journal.specs.Senders.{Reached}
use Rattle.tx_transaction.specs.declared.state.Due.{Due}
use Rattle.tx_transaction.specs.declared.state.Miss.{Miss}
use Rattle.tx_transaction.specs.declared.state.Phase.{Phase}
use Rattle.tx_transaction.specs.declared.state.Phase.TheVariants as phase
use Rattle.tx_transaction.specs.declared.state.Terms.{Terms}
use Rattle.tx_transaction.specs.Buffers.{Entries, buffered, changes_of, put_over, touched}
use Rattle.tx_transaction.specs.Next.{due}
use Rattle.tx_transaction.specs.Returns.{Response}
use Rattle.tx_transaction.specs.Sessions.{SessionState, after_response, begun, can_commit, can_draw, declaration, declaration_of, finish_of}
use Rattle.tx_client.specs.Calls.{RecordsDeclared, Records, Seated}
use Rattle.tx_client.specs.Learns.{response_of}
use Rattle.tx_client.specs.Walks.{Sends, due_walk}
use Rattle.tx_store.specs.Stores.{Replies}
use Rattle.tx_transfer.specs.SeedLines.{Commits, Puts, SeedEnds, SeedPlays, SeedRuns, SeedWrites, is_committed, seed_terms, seeded_by}
use Rattle.tx_transfer.specs.Seeds.{WasSeeded}
use Rattle.tx_transfer.specs.Steps.{Came, CommitsIf, CommitsOr, DrawsOr, DrewIf, EndsBy, SendsOr, Then}
use Rattle.tx_transfer.proofs.SeedWrites.{seeded_on}
use Rattle.tx_workload.specs.declared.reply.LineAnswer.{LineAnswer}
use Rattle.tx_workload.specs.declared.reply.LineAnswer.TheVariants.{Plain}
use Rattle.tx_workload.specs.declared.reply.LineReply.{LineReply}
use Rattle.tx_workload.specs.Answers.{IsReply, numbers_of}
use Rattle.tx_workload.specs.Logs.{answer_to}
use Rattle.tx_workload.specs.PlayedSeeds.{PlaysSeed, PlaysSeeds}
use Rattle.tx_workload.specs.Steps.{SaysStep}
use Rattle.tx_workload.specs.Tells.{TellsLine, is_refusal}
use Rattle.tx_workload.proofs.Evidence.{line_tells_on, refusal_tells, seed_tells}
use Rattle.tx_run_laws.proofs.Seats.{Follows, begun_follows, draws_follows, follows_more, follows_same, heard_follows, records_follows, sends_follows}
use Rattle.tx_run_laws.proofs.LineSeats.{declares_goes, enters_goes}

-- ---- its transaction's start stays

response_start : (s : SessionState) (x : Phase) (i : ℕ) (c : Response) → (after_response s x i c).start ≡ s.start
response_start s x i (Err why) = refl
response_start s x i (Ok a) = refl

pub due_start : {S : Type 0} (sends : S → Asked → Reached → S → Type 0) (bounds : List Key) (k new : Known)
    (from to : S)
    (s : SessionState) (x : Phase) (due : Option Due) (r : SessionState × Result (Option Answer) Miss)
    → Sends sends bounds k from (due_walk s x due) r to new → r.0.start ≡ s.start
due_start sends bounds k new from to s x None r sent = ap (λ y. y.0.start) sent.0
due_start sends bounds k new from to s x (Some due) r (inl sent) = ap (λ y. y.0.start) sent.0
due_start sends bounds k new from to s x (Some due) r (inr (reached, mid, then, did, learns, end)) =
    ap (λ y. y.0.start) end.0 ∙ response_start s x due.index (response_of reached)

-- a session goes on, in the same transaction
pub record StaysOn (bounds : List Key) (s t : Seated) : Type 0 where
  pub follows : Follows bounds s.seat t.seat
  pub start : t.state.start ≡ s.state.start

on_more : (bounds : List Key) (r s t : Seated) → StaysOn bounds r s → StaysOn bounds s t → StaysOn bounds r t
on_more bounds r s t first then = record {
  follows = follows_more bounds r.seat s.seat t.seat first.follows then.follows;
  start = then.start ∙ first.start;
}

on_same : (bounds : List Key) (s t : Seated) → t ≡ s → StaysOn bounds s t
on_same bounds s t is = record {
  follows = follows_same bounds s.seat t.seat (ap (λ (x : Seated). x.seat) is);
  start = ap (λ (x : Seated). x.state.start) is;
}

module _ (bounds : List Key) where
  -- ---- it commits

  sends_on : (x : Phase) (s t : Seated) (came : Came) → SendsOr bounds x s came t → StaysOn bounds s t
  sends_on x s t came (answered, is, sent) = record {
    follows = sends_follows bounds (due_walk s.state x (due s.state x)) s.seat t.seat (t.state, answered) sent;
    start = due_start (Replies {S = Unit {0}}) bounds s.seat t.seat tt tt s.state x (due s.state x)
        (t.state, answered) sent;
  }

  drew_on : (may : Bool) (s t : Seated) → DrewIf bounds may s t → StaysOn bounds s t
  drew_on false s t same = on_same bounds s t same
  drew_on true s t (c, state, draws) = record {
    follows = draws_follows bounds s.seat t.seat c draws;
    start = ap (λ (x : SessionState). x.start) state;
  }

  draws_on : (s t : Seated) (came : Came) → DrawsOr bounds s came t → StaysOn bounds s t
  draws_on s t (Ok u) drew = drew_on (can_draw s.state) s t drew
  draws_on s t (Err e) (spent, may, ticks, same) = on_same bounds s t same

  commits_if_on : (may : Bool) (s t : Seated) (came : Came) → CommitsIf bounds may s came t → StaysOn bounds s t
  commits_if_on false s t came (is, same) = on_same bounds s t same
  commits_if_on true s t came sent = sends_on phase.Commit s t came sent

  then_on : (F G : Seated → Came → Seated → Type 0)
      → ((s t : Seated) (came : Came) → F s came t → StaysOn bounds s t)
      → ((s t : Seated) (came : Came) → G s came t → StaysOn bounds s t)
      → (s t : Seated) (came : Came) → Then F G s came t → StaysOn bounds s t
  then_on F G first next s t came (inl (e, is, one)) = first s t (Err e) one
  then_on F G first next s t came (inr (mid, one, two)) =
      on_more bounds s mid t (first s mid (Ok tt) one) (next mid t came two)

  commits_on : (s t : Seated) (came : Came) → Commits bounds s came t → StaysOn bounds s t
  commits_on s t came commits =
      then_on (SendsOr bounds phase.Prewrite) (Then (DrawsOr bounds) (CommitsOr bounds)) (sends_on phase.Prewrite)
      (then_on (DrawsOr bounds) (CommitsOr bounds) draws_on (λ a b c. commits_if_on (can_commit a.state) a b c))
      s t came commits

  -- ---- what it declared

  -- a buffer of this one change stands declared
  declares_one : (k l : Known) (start placed : ℕ) (es : Entries) (terms : Terms) (c : Change) → changes_of es ≡ c ∷ []
      → RecordsDeclared bounds k (declaration start placed es terms) l
      → (d : Declaration) × Among l.events (Declared d) × (d.start ≡ start) × (d.changes ≡ c ∷ [])
  declares_one k l start placed [] terms c is records = absurd (cc (is))
  declares_one k l start placed (e ∷ es) terms c is records =
      let d = declaration_of start placed (e ∷ es) terms in
      (d, subst (λ (h : History). Among h (Declared d)) (sym records.recorded.is) (inl refl), refl, is)

  module _ (key value : List ℕ) where
    abbrev change : Change
    change = record { key = key; mutation = Put value }

    -- a session that has just begun put the value on the key, and declared that
    puts_one : (first mid : Seated) → first.state ≡ begun first.state.start
        → Puts bounds key value first (Ok tt) mid
        → (d : Declaration) × Among mid.seat.events (Declared d) × (d.start ≡ first.state.start)
        × (d.changes ≡ change ∷ []) × (mid.state.start ≡ first.state.start)
    puts_one first mid is (inl (e, refused, enters)) = absurd (cc (refused))
    puts_one first mid is (inr (put, enters, (fits, state, records))) =
        let entered : Entries → Entries = λ es. touched es key (put_over (buffered es key) value) in
        let buffer : put.state.buffer ≡ entered first.state.buffer = ap (λ (x : Seated). x.state.buffer) enters in
        let one : changes_of put.state.buffer ≡ change ∷ [] =
        ap changes_of (buffer ∙ ap (λ (s : SessionState). entered s.buffer) is) in
        let start : put.state.start ≡ first.state.start = ap (λ (x : Seated). x.state.start) enters in
        let d = declares_one put.seat mid.seat put.state.start mid.state.placed put.state.buffer seed_terms change one
        records in
        (d.0, d.1, d.2 ∙ start, d.3, ap (λ (s : SessionState). s.start) state ∙ start)

    -- its session ended committed
    committed_so : (s : Seated) (o : Option Outcome) (new : Known) → is_committed o ≡ true → EndsBy bounds s o new
        → (c : ℕ) × Records bounds s.seat (Answered s.state.start (outcome.Committed c)) new
    committed_so s (Some (outcome.Committed c)) new is ends = (c, ends)
    committed_so s (Some outcome.Aborted) new is ends = absurd (cc (is))
    committed_so s (Some (outcome.Unknown why)) new is ends = absurd (cc (is))
    committed_so s (Some outcome.ReadOnly) new is ends = absurd (cc (is))
    committed_so s None new is ends = absurd (cc (is))

    written_so : (written : Came) (committed : Bool) → Ok tt ≡ seeded_by written committed
        → (written ≡ Ok tt) × (committed ≡ true)
    written_so (Err e) committed is = absurd (cc (is))
    written_so (Ok u) true is = (refl, refl)
    written_so (Ok u) false is = absurd (cc (is))

    wrote_one : (first last : Seated) → first.state ≡ begun first.state.start
        → SeedWrites bounds key value first (Ok tt) last
        → (d : Declaration) × Among last.seat.events (Declared d) × (d.start ≡ last.state.start)
        × (d.changes ≡ change ∷ [])
    wrote_one first last is (inl (e, refused, puts)) = absurd (cc (refused))
    wrote_one first last is (inr (mid, puts, commits)) =
        let d = puts_one first mid is puts in
        let on = commits_on mid last (Ok tt) commits in (
          d.0,
          among_on mid.seat.events last.seat.events on.follows.begins (Declared d.0) d.1,
          d.2 ∙ sym d.4 ∙ sym on.start,
          d.3,
        )

    runs_seed : (old new : Known) → SeedRuns bounds key value old (Ok tt) new → WasSeeded new.events key value
    runs_seed old new runs =
        let first = runs.first in
        let last = runs.last in
        let so = written_so runs.written (is_committed (finish_of last.state)) runs.is in
        let writes : SeedWrites bounds key value first (Ok tt) last =
        subst (λ (c : Came). SeedWrites bounds key value first c last) so.0 runs.writes in
        let d = wrote_one first last runs.begun.0 writes in
        let ended = committed_so last (finish_of last.state) new so.1 runs.ends in
        let begins = (records_follows bounds last.seat new
        (Answered last.state.start (outcome.Committed ended.0)) ended.1).begins in
        record {
          set = d.0;
          at = ended.0;
          declared = among_on last.seat.events new.events begins (Declared d.0) d.1;
          puts = d.3;
          committed = subst (λ (h : History). Among h (Answered d.0.start (outcome.Committed ended.0)))
              (sym ended.1.recorded.is) (inl (ap (λ (t : ℕ). Answered t (outcome.Committed ended.0)) (sym d.2)));
        }

    ends_seed : (old new : Known) → SeedEnds bounds key value old (Ok tt) new → WasSeeded new.events key value
    ends_seed old new (inl runs) = runs_seed old new runs
    ends_seed old new (inr (is, ticks, same)) = absurd (cc (is))

    -- one that came to nothing but its end was written
    pub seed_written : (old new : Known) (came : Came) → SeedPlays bounds key value old came new
        → OnOk came (WasSeeded new.events key value)
    seed_written old new (Err e) plays = tt
    seed_written old new (Ok u) (inl (e, is, fault, same)) = absurd (cc (is))
    seed_written old new (Ok u) (inr (ended, ends, heard)) =
        seeded_on ended.events new.events (heard_follows bounds ended new old.events heard).begins key value
        (ends_seed old ended ends)

    -- ---- its seat goes on

    puts_goes : (s t : Seated) (came : Came) → Puts bounds key value s came t → Follows bounds s.seat t.seat
    puts_goes s t came (inl (e, is, enters)) = enters_goes bounds key value s t (Err e) enters
    puts_goes s t came (inr (mid, enters, declares)) =
        follows_more bounds s.seat mid.seat t.seat (enters_goes bounds key value s mid (Ok tt) enters)
        (declares_goes bounds seed_terms mid t came declares)

    writes_goes : (s t : Seated) (came : Came) → SeedWrites bounds key value s came t → Follows bounds s.seat t.seat
    writes_goes s t came (inl (e, is, puts)) = puts_goes s t (Err e) puts
    writes_goes s t came (inr (mid, puts, commits)) =
        follows_more bounds s.seat mid.seat t.seat (puts_goes s mid (Ok tt) puts)
        (commits_on mid t came commits).follows

    ends_goes : (s : Seated) (o : Option Outcome) (new : Known) → EndsBy bounds s o new → Follows bounds s.seat new
    ends_goes s None new left = records_follows bounds s.seat new (Stopped s.seat.seat) left
    ends_goes s (Some o) new records = records_follows bounds s.seat new (Answered s.state.start o) records

    seed_ends_goes : (old new : Known) (came : Came) → SeedEnds bounds key value old came new → Follows bounds old new
    seed_ends_goes old new came (inl runs) =
        follows_more bounds old runs.first.seat new
        (begun_follows bounds old runs.first.seat runs.first.state.start runs.begun.1)
        (follows_more bounds runs.first.seat runs.last.seat new
        (writes_goes runs.first runs.last runs.written runs.writes)
        (ends_goes runs.last (finish_of runs.last.state) new runs.ends))
    seed_ends_goes old new came (inr (is, ticks, same)) = follows_same bounds old new same

    pub seed_follows : (old new : Known) (came : Came) → SeedPlays bounds key value old came new
        → Follows bounds old new
    seed_follows old new came (inl (e, is, fault, same)) = follows_same bounds old new same
    seed_follows old new came (inr (ended, ends, heard)) = follows_more bounds old ended new
        (seed_ends_goes old ended came ends) (heard_follows bounds ended new old.events heard)

  -- ---- its line, and all of them

  module _ (source : Option (List ℕ)) where
    one_follows : (old new : Known) (s : LineReply) → PlaysSeed bounds source old s new → Follows bounds old new
    one_follows old new s (inl seeded) =
        seed_follows seeded.key seeded.value old new seeded.came seeded.plays
    one_follows old new s (inr (plain, told, is, same)) = follows_same bounds old new same

    pub seeds_follow : (old last : Known) (seeds : List LineReply) → PlaysSeeds bounds source old seeds last
        → Follows bounds old last
    seeds_follow old last [] is = follows_same bounds old last is
    seeds_follow old last (s ∷ more) (mid, one, rest) =
        follows_more bounds old mid last (one_follows old mid s one) (seeds_follow mid last more rest)

    line_told : (h : History) (s : LineReply) (answer : LineAnswer) → s.answer ≡ answer
        → TellsLine source bounds h (answer_to s.number answer) → TellsLine source bounds h s
    line_told h s answer is tells =
        subst (λ (a : LineAnswer). TellsLine source bounds h (answer_to s.number a)) (sym is) tells

    seed_told : (old new : Known) (s : LineReply) → SaysStep source s.number → PlaysSeed bounds source old s new
        → TellsLine source bounds new.events s
    seed_told old new s says (inl seeded) = line_told new.events s (Plain (Ok seeded.plain)) seeded.told
        (seed_tells source bounds new.events s.number seeded.key seeded.value seeded.plain seeded.came seeded.is
        seeded.says (seed_written seeded.key seeded.value old new seeded.came seeded.plays))
    seed_told old new s says (inr (plain, told, is, same)) = line_told new.events s (Plain (Ok plain)) told
        (refusal_tells source bounds new.events s.number plain says (ap is_refusal is))

    pub seeds_tell : (old last : Known) (seeds : List LineReply) → All (SaysStep source) (numbers_of seeds)
        → PlaysSeeds bounds source old seeds last → All (TellsLine source bounds last.events) seeds
    seeds_tell old last [] says is = All-nil (TellsLine source bounds last.events)
    seeds_tell old last (s ∷ more) says (mid, one, rest) =
        All-cons (TellsLine source bounds last.events) s more
        (line_tells_on source bounds mid.events last.events (seeds_follow mid last more rest).begins s
        (seed_told old mid s (All-head (SaysStep source) s.number (numbers_of more) says) one))
        (seeds_tell mid last more (All-tail (SaysStep source) s.number (numbers_of more) says) rest)

    -- each is told a reply
    seed_replies : (old new : Known) (s : LineReply) → PlaysSeed bounds source old s new → IsReply s.answer
    seed_replies old new s (inl seeded) = subst IsReply (sym seeded.told) (refl, refl)
    seed_replies old new s (inr (plain, told, is, same)) = subst IsReply (sym told) (refl, refl)

    pub seeds_reply : (old last : Known) (seeds : List LineReply) → PlaysSeeds bounds source old seeds last
        → All (λ s. IsReply s.answer) seeds
    seeds_reply old last [] is = All-nil (λ (s : LineReply). IsReply s.answer)
    seeds_reply old last (s ∷ more) (mid, one, rest) =
        All-cons (λ (x : LineReply). IsReply x.answer) s more (seed_replies old mid s one)
        (seeds_reply mid last more rest)
