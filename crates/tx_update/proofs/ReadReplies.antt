-- What a session's reads are answered, and by what they stop.
use Rattle.std.proofs.Common.{◌≡◌, ◌<◌, ◌≤◌, inl, inr, ℕ, ◌-◌, Bool, true, false, List, [], ◌∷◌, ◌++◌, length, nat_lt, Option, Some, None, Result, Ok, Err, IfOk, IfErr, IfSome, refl, sym, ap, subst, ◌∙◌, arith}
use Rattle.tx_types.specs.declared.key.Key.{Key}
use Rattle.tx_types.specs.declared.value.Value.{Value}
use Rattle.tx_types.specs.declared.mutation.KeyValue.{KeyValue}
use Rattle.tx_types.specs.declared.mutation.Mutation.{Mutation}
use Rattle.tx_types.specs.declared.mutation.Mutation.TheVariants as mutation
use Rattle.tx_types.specs.Keys.{key_lt}
use Rattle.tx_plan.specs.declared.body.Body.{Body}
use Rattle.tx_plan.specs.declared.body.Body.TheVariants as body
use Rattle.tx_plan.specs.declared.body.Get.{Get}
use Rattle.tx_plan.specs.declared.body.Scan.{Scan}
use Rattle.tx_plan.specs.declared.answer.Answer.{Answer}
use Rattle.tx_plan.specs.declared.answer.Answer.TheVariants as answer
use Rattle.tx_plan.specs.Answers.{Answers}
use Rattle.tx_plan.specs.Cells.{Cells, Region}
use Rattle.tx_plan.specs.Reads.{read_answer}
use Rattle.tx_plan.specs.cases.Get.{AnswersGet}
use Rattle.tx_plan.specs.cases.Scan.{AnswersScan}
use Rattle.tx_core.specs.declared.event.Taken.{Taken}
use Rattle.tx_core.specs.declared.event.Event.TheVariants.{Began, Took}
use Rattle.tx_core.specs.Histories.{History, Begins, last, left}
use Rattle.tx_core.specs.Worlds.{IsWorldRun}
use Rattle.tx_core.proofs.seats.Beginnings.{begins_more, run_beginning}
use Rattle.tx_core.proofs.seats.Stays.{among_on, last_on}
use Rattle.tx_journal.specs.Known.{Known}
use Rattle.tx_journal.specs.declared.sender.Lost.{Lost}
use Rattle.tx_journal.specs.Replies.{Asked, Given, IsTold}
use Rattle.tx_journal.specs.Senders.{Reached, IsSender}
use Rattle.tx_transaction.specs.declared.state.Miss.{Miss}
use Rattle.tx_transaction.specs.declared.state.Miss.TheVariants as miss
use Rattle.tx_transaction.specs.Buffers.{buffered}
use Rattle.tx_transaction.specs.Sessions.{SessionState, read_of, scan_of, after_read}
use Rattle.tx_transaction.specs.Returns.{Response}
use Rattle.tx_client.specs.Calls.{Seated, BeganAt}
use Rattle.tx_client.specs.Facts.{WasAnswered, RespondsSo}
use Rattle.tx_client.specs.Learns.{response_by, response_of, Learns}
use Rattle.tx_client.specs.Walks.{Walk, asks, grows, ends, then_walk, Sends, part_by, part_walk, get_by, get_walk, enough, scan_after, scan_from, scan_walk, greater, lesser}
use Rattle.tx_client.proofs.Calls.{came_told}
use Rattle.tx_reader.specs.Readers.{IsReadAt, WasAnsweredAt}
use Rattle.tx_update.specs.Reads.{LosesRead, IsReadMiss, IsGetAnswer, IsScanAnswer, HasSeenStart}
use Rattle.tx_update.specs.Updates.{SeatGoesOn}
use Rattle.tx_update.proofs.CallSequences.{goes_begins, learnt, recorded_begins, sent_goes}

-- a session that began has seen its start drawn
pub began_drawn : (bounds : List Key) (old : Known) (s : Seated) → BeganAt bounds old s.state.start s.seat
    → HasSeenStart s
began_drawn bounds old s b =
    subst (λ n. n ≤ last s.seat.events) (ap last b.drew.is)
    (last_on bounds b.mid s.seat.events b.began.run
    (recorded_begins bounds old.seat b.mid s.seat.events (Began s.state.start) b.began))

-- ---- what a region answers to a read at or below the number that it loaded

abbrev KeySays : ℕ → Key → Answer → Type 0
KeySays at key (answer.Found v) = Unit {0}
KeySays at key answer.Nothing = Unit {0}
KeySays at key (answer.KeyIsLocked info) = info.key ≡ key
KeySays at key (answer.BelowSafePoint safe) = at < safe
KeySays at key _ = ⊥

abbrev PartSays : ℕ → Answer → Type 0
PartSays at (answer.Rows rows) = Unit {0}
PartSays at (answer.KeyIsLocked info) = Unit {0}
PartSays at (answer.BelowSafePoint safe) = at < safe
PartSays at _ = ⊥

read_said : (at : ℕ) (key : Key) (found : Option Value) → KeySays at key (read_answer found)
read_said at key None = tt
read_said at key (Some v) = tt

get_said : (cells : Cells) (safe loaded : ℕ) (b : Get) (a : Answer) → b.at ≤ loaded → AnswersGet cells safe loaded b a
    → KeySays b.at b.key a
get_said cells safe loaded b a le (inl x) = subst (KeySays b.at b.key) (sym x.1) x.0
get_said cells safe loaded b a le (inr (kept, inl x)) = absurd (omega (arith, le, x.0))
get_said cells safe loaded b a le (inr (kept, inr (drawn, inl x))) = subst (KeySays b.at b.key) (sym x.2) refl
get_said cells safe loaded b a le (inr (kept, inr (drawn, inr x))) =
    subst (KeySays b.at b.key) (sym x.1.1) (read_said b.at b.key x.1.0)

scan_said : (cells : Key → Cells) (safe loaded : ℕ) (b : Scan) (a : Answer) → b.at ≤ loaded
    → AnswersScan cells safe loaded b a → PartSays b.at a
scan_said cells safe loaded b a le (inl x) = subst (PartSays b.at) (sym x.1) x.0
scan_said cells safe loaded b a le (inr (kept, inl x)) = absurd (omega (arith, le, x.0))
scan_said cells safe loaded b a le (inr (kept, inr (drawn, inl x))) = subst (PartSays b.at) (sym x.answer) tt
scan_said cells safe loaded b a le (inr (kept, inr (drawn, inr x))) = subst (PartSays b.at) (sym x.answer) tt

-- what may be answered to a request, where it reads at or below n
abbrev MaySay : ℕ → Body → Answer → Type 0
MaySay n (body.Get b) a = b.at ≤ n → KeySays b.at b.key a
MaySay n (body.Scan b) a = b.at ≤ n → PartSays b.at a
MaySay n _ a = Unit {0}

said : (r : Region) (n loaded top : ℕ) → n ≤ loaded → (b : Body) (a : Answer) → Answers r loaded top b a → MaySay n b a
said r n loaded top le (body.Get b) a is =
    λ at. get_said (r.cells b.key) r.safe loaded b a (omega (arith, le, at)) is
said r n loaded top le (body.Scan b) a is = λ at. scan_said r.cells r.safe loaded b a (omega (arith, le, at)) is
said r n loaded top le b a is = tt

-- the region had loaded at least what was the last number for who asked
told : (bounds : List Key) (base : History) (g : Given) (a : Answer) → Begins base g.request.by → IsTold bounds g a
    → MaySay (last base) g.request.body a
told bounds base g a begins t =
    let x : Taken = record { region = t.region; body = g.request.body; loaded = last t.tells.point; answer = a } in
    let run : IsWorldRun bounds (Took x ∷ t.tells.before) = subst (IsWorldRun bounds) t.tells.ends t.tells.run in
    said (left t.tells.before t.region) (last base) (last t.tells.point) (last t.tells.before)
    (last_on bounds base t.tells.point (run_beginning bounds t.tells.point t.tells.before run.0 t.tells.since)
    (begins_more base g.request.by t.tells.point begins t.tells.sender)) g.request.body a run.1.answers

-- ---- what was answered

-- what was answered stays so
pub was_on : (l h : History) → Begins l h → (b : Body) (a : Answer) → WasAnswered l b a → WasAnswered h b a
was_on l h begins b a was = record {
  by = was.by;
  among = among_on l h begins (Took was.by) was.among;
  asked = was.asked;
  told = was.told;
}

pub answered_on : (l h : History) → Begins l h → (at : ℕ) (a : Answer) → WasAnsweredAt l at a → WasAnsweredAt h at a
answered_on l h begins at a (b, is, was) = (b, is, was_on l h begins b a was)

key_may : (h : History) (start : ℕ) (key : Key) (a : Answer) → KeySays start key a → WasAnsweredAt h start a
    → IsGetAnswer h start key a
key_may h start key (answer.Found v) says was = tt
key_may h start key answer.Nothing says was = tt
key_may h start key (answer.KeyIsLocked info) says was = (says, was)
key_may h start key (answer.BelowSafePoint safe) says was = (says, was)
key_may h start key a says was = absurd says

part_may : (h : History) (start : ℕ) (a : Answer) → PartSays start a → WasAnsweredAt h start a
    → IsScanAnswer h start a
part_may h start (answer.Rows rows) says was = tt
part_may h start (answer.KeyIsLocked info) says was = was
part_may h start (answer.BelowSafePoint safe) says was = (says, was)
part_may h start a says was = absurd says

-- ---- walks

-- each end of a walk is so, where this holds of what comes of each request
abbrev EndsBy : {R : Type 0} → (Body → Response → Type 0) → (R → Type 0) → Walk R → Type 0
EndsBy Q P (asks body more) = (c : Response) → Q body c → EndsBy Q P (more c)
EndsBy Q P (grows more short) = EndsBy Q P more × EndsBy Q P short
EndsBy Q P (ends r) = P r

-- a request of this body may be lost, or its reply
abbrev Loses : {S : Type 0} → (S → Asked → Reached → S → Type 0) → Body → Type 0
Loses {S} sends b = (from : S) × (q : Asked) × (l : Lost) × (to : S) × (q.body ≡ b) × sends from q (Err l) to

-- what comes of a request, by one who knows this in the end: an answer that was given, and that it
-- may have at or below n; or it may be lost
abbrev Heard : ℕ → History → (Body → Type 0) → Body → Response → Type 0
Heard n h lost b (Ok a) = MaySay n b a × WasAnswered h b a
Heard n h lost b (Err miss.Lost) = lost b
Heard n h lost b (Err miss.Fault) = Unit {0}

module _ {S : Type 0} (bounds : List Key) (fits : S → Asked → Type 0) (sends : S → Asked → Reached → S → Type 0)
    (keys_between : S → List Key) (way : IsSender bounds fits sends keys_between) (base : History) where
  responds : (k now : Known) (h : History) (from mid : S) (b : Body) (reached : Reached) → Begins base k.events
      → sends from (record { by = k.events; body = b }) reached mid → Learns bounds k reached now
      → Begins now.events h → Heard (last base) h (Loses sends) b (response_of reached)
  responds k now h from mid b (Err l) begins sent learns later =
      (from, record { by = k.events; body = b }, l, mid, refl, sent)
  responds k now h from mid b (Ok g) begins sent learns later =
      by g.answer learns.4.told
      (came_told bounds g b now.events learns.4 (ap (λ (q : Asked). q.body) is) learns.3)
    where
      is : g.request ≡ record { by = k.events; body = b }
      is = way.answers from mid (record { by = k.events; body = b }) g sent

      by : (o : Option Answer) → IfSome o (IsTold bounds g) → RespondsSo now.events b (response_by o)
          → Heard (last base) h (Loses sends) b (response_by o)
      by None t was = tt
      by (Some a) t was = (
        subst (λ (q : Asked). MaySay (last base) q.body a) is
            (told bounds base g a (subst (λ (q : Asked). Begins base q.by) (sym is) begins) t),
        was_on now.events h later b a was,
      )

  sent_by : {R : Type 0} (P : R → Type 0) (w : Walk R) (k new : Known) (from to : S) (r : R) → Begins base k.events
      → EndsBy (Heard (last base) new.events (Loses sends)) P w → Sends sends bounds k from w r to new → P r
  sent_by P (ends x) k new from to r begins all (is, same, at) = subst P (sym is) all
  sent_by P (grows more short) k new from to r begins all (inl sent) =
      sent_by P short k new from to r begins all.1 sent
  sent_by P (grows more short) k new from to r begins all (inr sent) =
      sent_by P more k new from to r begins all.0 sent
  sent_by P (asks body more) k new from to r begins all (reached, mid, now, sent, learns, rest) =
      sent_by P (more (response_of reached)) now new mid to r
      (begins_more base k.events now.events begins (goes_begins k now (learnt bounds k now reached learns)))
      (all (response_of reached) (responds k now new.events from mid body reached begins sent learns
      (goes_begins now new (sent_goes sends bounds (more (response_of reached)) now new mid to r rest)))) rest

-- ---- the walks of reads

-- what a call came to, a state and a result
abbrev Came : Type 0
Came = SessionState × Result Answer Miss

-- a read of a key, or a scan, that came to this: an answer that it may have, or why it has none
abbrev Gets : (ℕ → Type 0) → History → ℕ → Key → Came → Type 0
Gets loses h start key r = IfOk r.1 (IsGetAnswer h start key) × IfErr r.1 (IsReadMiss loses start)

abbrev Scans : (ℕ → Type 0) → History → ℕ → Came → Type 0
Scans loses h start r = IfOk r.1 (IsScanAnswer h start) × IfErr r.1 (IsReadMiss loses start)

-- who goes on from a state with the rows so far
abbrev OnRows : Type 0
OnRows = SessionState → List KeyValue → Walk Came

start_read : (s : SessionState) (c : Response) → (after_read s c).start ≡ s.start
start_read s (Err why) = refl
start_read s (Ok a) = refl

module _ {S : Type 0} (sends : S → Asked → Reached → S → Type 0) (n : ℕ) (h : History) (start : ℕ)
    (le : start ≤ n) where
  missed : (b : Body) → IsReadAt start b → Loses sends b → LosesRead sends start
  missed b at (from, q, l, to, same, lost) = (from, q, l, to, subst (IsReadAt start) (sym same) at, lost)

  got : (s u : SessionState) (key : Key) → s.start ≡ start → (c : Response) → Heard n h (Loses sends) (read_of s key) c
      → Gets (LosesRead sends) h start key (u, c)
  got s u key at (Err miss.Lost) lost = (tt, missed (read_of s key) at lost)
  got s u key at (Err miss.Fault) x = (tt, tt)
  got s u key at (Ok a) (may, was) = (
    key_may h start key a
        (subst (λ m. KeySays m key a) at (may (subst (λ m. m ≤ n) (sym at) le)))
        (read_of s key, at, was),
    tt,
  )

  gets_by : (s : SessionState) (key : Key) (o : Option Mutation) → s.start ≡ start
      → EndsBy (Heard n h (Loses sends)) (Gets (LosesRead sends) h start key) (get_by s key o)
  gets_by s key (Some (mutation.Put v)) at = ((tt, tt), (tt, tt))
  gets_by s key (Some (mutation.Insert v)) at = ((tt, tt), (tt, tt))
  gets_by s key (Some mutation.Delete) at = (tt, tt)
  gets_by s key (Some mutation.Lock) at = ((λ c heard. got s (after_read s c) key at c heard), (tt, tt))
  gets_by s key None at = ((λ c heard. got s (after_read s c) key at c heard), (tt, tt))

  scanned : (t u : SessionState) (low high : Key) (limit : ℕ) → t.start ≡ start → (c : Response)
      → Heard n h (Loses sends) (scan_of t low high limit) c → Scans (LosesRead sends) h start (u, c)
  scanned t u low high limit at (Err miss.Lost) lost = (tt, missed (scan_of t low high limit) at lost)
  scanned t u low high limit at (Err miss.Fault) x = (tt, tt)
  scanned t u low high limit at (Ok a) (may, was) = (
    part_may h start a
        (subst (λ m. PartSays m a) at (may (subst (λ m. m ≤ n) (sym at) le)))
        (scan_of t low high limit, at, was),
    tt,
  )

  abbrev ScanEnds : Walk Came → Type 0
  ScanEnds w = EndsBy (Heard n h (Loses sends)) (Scans (LosesRead sends) h start) w

  abbrev ScansOn : OnRows → Type 0
  ScansOn on = (t : SessionState) (rows : List KeyValue) → t.start ≡ start → ScanEnds (on t rows)

  scans_after : (t : SessionState) (limit : ℕ) (rows : List KeyValue) (r : Result Answer Miss) (on : OnRows)
      → ScansOn on → t.start ≡ start → Scans (LosesRead sends) h start (t, r)
      → ScanEnds (scan_after t (part_by limit rows r) on)
  scans_after t limit rows (Ok (answer.Rows found)) on keeps at is = by (nat_lt (length (rows ++ found)) limit) refl
    where
      by : (b : Bool) → nat_lt (length (rows ++ found)) limit ≡ b
          → ScanEnds (scan_after t (enough limit (rows ++ found)) on)
      by true e = rw e (keeps t (rows ++ found) at)
      by false e = rw e (tt, tt)
  scans_after t limit rows (Ok a) on keeps at is = is
  scans_after t limit rows (Err why) on keeps at is = is

  scans_part : (t : SessionState) (low high : Key) (limit : ℕ) (rows : List KeyValue) (on : OnRows)
      → ScansOn on → t.start ≡ start
      → ScanEnds (then_walk (part_walk t low high limit rows) (λ x. scan_after x.0 x.1 on))
  scans_part t low high limit rows on keeps at = by (key_lt low high) refl
    where
      by : (b : Bool) → key_lt low high ≡ b
          → ScanEnds (then_walk (part_walk t low high limit rows) (λ x. scan_after x.0 x.1 on))
      by true e = rw e (
        (λ c heard. scans_after (after_read t c) limit rows c on keeps (start_read t c ∙ at)
            (scanned t (after_read t c) low high (limit - length rows) at c heard)),
        (tt, tt),
      )
      by false e = rw e (keeps t rows at, (tt, tt))

  scans_from : (from to : Key) (limit : ℕ) (low : Key) (bounds : List Key)
      → ScansOn (scan_from from to limit low bounds)
  scans_from from to limit low [] t rows at =
      scans_part t (greater from low) to limit rows (λ u all. ends (u, Ok (answer.Rows all))) (λ u all at. (tt, tt)) at
  scans_from from to limit low (bound ∷ bounds) t rows at =
      scans_part t (greater from low) (lesser to bound) limit rows (scan_from from to limit bound bounds)
      (scans_from from to limit bound bounds) at

-- ---- the reads of a session that runs, and of whose start its seat had seen

module _ {S : Type 0} (bounds : List Key) (fits : S → Asked → Type 0) (sends : S → Asked → Reached → S → Type 0)
    (keys_between : S → List Key) (way : IsSender bounds fits sends keys_between) (base old new : Seated)
    (goes : SeatGoesOn base.seat old.seat) (same : old.state.start ≡ base.state.start) (a b : S) where
  pub get_answered : (key : Key) (r : Result Answer Miss)
      → Sends sends bounds old.seat a (get_walk old.state key) (new.state, r) b new.seat → HasSeenStart base
      → Gets (LosesRead sends) new.seat.events base.state.start key (new.state, r)
  get_answered key r sent drawn =
      sent_by bounds fits sends keys_between way base.seat.events
      (Gets (LosesRead sends) new.seat.events base.state.start key) (get_walk old.state key) old.seat new.seat a b
      (new.state, r) (goes_begins base.seat old.seat goes)
      (gets_by sends (last base.seat.events) new.seat.events base.state.start drawn old.state key
      (buffered old.state.buffer key) same) sent

  pub scan_answered : (from to : Key) (limit : ℕ) (r : Result Answer Miss)
      → Sends sends bounds old.seat a (scan_walk old.state bounds from to limit) (new.state, r) b new.seat
      → HasSeenStart base → Scans (LosesRead sends) new.seat.events base.state.start (new.state, r)
  scan_answered from to limit r sent drawn =
      sent_by bounds fits sends keys_between way base.seat.events
      (Scans (LosesRead sends) new.seat.events base.state.start) (scan_walk old.state bounds from to limit)
      old.seat new.seat a b (new.state, r) (goes_begins base.seat old.seat goes)
      (scans_from sends (last base.seat.events) new.seat.events base.state.start drawn from to limit from bounds
      old.state [] same) sent
