-- What a read at a timestamp may be answered.
use Rattle.std.proofs.Common.{◌≡◌, ◌<◌, ◌≤◌, ◌∷◌, arith, inl, inr, ℕ, Option, Some, None, Result, Ok, Err, IfOk, IfSome, List, refl, sym, subst}
use Rattle.tx_types.specs.declared.key.Key.{Key}
use Rattle.tx_types.specs.declared.value.Value.{Value}
use Rattle.tx_types.specs.declared.lock.LockInfo.{LockInfo}
use Rattle.tx_plan.specs.declared.body.Body.{Body}
use Rattle.tx_plan.specs.declared.body.Body.TheVariants as body
use Rattle.tx_plan.specs.declared.body.Get.{Get}
use Rattle.tx_plan.specs.declared.body.Scan.{Scan}
use Rattle.tx_plan.specs.declared.answer.Answer.{Answer}
use Rattle.tx_plan.specs.declared.answer.Answer.TheVariants as answer
use Rattle.tx_plan.specs.Answers.{Answers}
use Rattle.tx_plan.specs.Cells.{Cells, Region}
use Rattle.tx_plan.specs.Reads.{read_answer}
use Rattle.tx_plan.specs.cases.Get.{AnswersGet}
use Rattle.tx_plan.specs.cases.Scan.{AnswersScan}
use Rattle.tx_core.specs.declared.event.Taken.{Taken}
use Rattle.tx_core.specs.declared.event.Event.TheVariants.{Took}
use Rattle.tx_core.specs.Histories.{History, Begins, last, left}
use Rattle.tx_core.specs.Worlds.{IsWorldRun}
use Rattle.tx_core.proofs.seats.Beginnings.{run_beginning}
use Rattle.tx_core.proofs.seats.Stays.{last_on}
use Rattle.tx_journal.specs.Known.{Known}
use Rattle.tx_journal.specs.Replies.{Asked, Given, IsTold}
use Rattle.tx_journal.specs.Senders.{Reached, IsSender}
use Rattle.tx_transaction.specs.Returns.{Response}
use Rattle.tx_client.specs.Calls.{Asks}
use Rattle.tx_client.specs.Facts.{WasAnswered}
use Rattle.tx_client.specs.Learns.{response_by, response_of, Learns}
use Rattle.tx_client.proofs.Marks.{taken_there}
use Rattle.tx_reader.specs.declared.read.Read.{Read}
use Rattle.tx_reader.specs.declared.read.Read.TheVariants.{Key as OfKey, Part}
use Rattle.tx_reader.specs.Readers.{IsAnswerTo, IsKeyAnswer, IsPartAnswer, IsReadOf, LoadedFrom, WasAnsweredAt}
use Rattle.tx_reader.proofs.Observers.{was_on}

-- ---- what a region answers to a read

abbrev KeySays : ℕ → Key → Answer → Type 0
KeySays at key (answer.Found v) = Unit {0}
KeySays at key answer.Nothing = Unit {0}
KeySays at key (answer.KeyIsLocked info) = info.key ≡ key
KeySays at key (answer.BelowSafePoint safe) = at < safe
KeySays at key (answer.FutureTimestamp last) = last < at
KeySays at key _ = ⊥

abbrev PartSays : ℕ → Answer → Type 0
PartSays at (answer.Rows rows) = Unit {0}
PartSays at (answer.KeyIsLocked info) = Unit {0}
PartSays at (answer.BelowSafePoint safe) = at < safe
PartSays at (answer.FutureTimestamp last) = last < at
PartSays at _ = ⊥

value_says : (at : ℕ) (key : Key) (found : Option Value) → KeySays at key (read_answer found)
value_says at key None = tt
value_says at key (Some v) = tt

key_says : (cells : Cells) (safe loaded : ℕ) (b : Get) (a : Answer) → AnswersGet cells safe loaded b a
    → KeySays b.at b.key a
key_says cells safe loaded b a (inl x) = subst (KeySays b.at b.key) (sym x.1) x.0
key_says cells safe loaded b a (inr (kept, inl x)) = subst (KeySays b.at b.key) (sym x.1) x.0
key_says cells safe loaded b a (inr (kept, inr (drawn, inl x))) = subst (KeySays b.at b.key) (sym x.2) refl
key_says cells safe loaded b a (inr (kept, inr (drawn, inr x))) =
    subst (KeySays b.at b.key) (sym x.1.1) (value_says b.at b.key x.1.0)

part_says : (cells : Key → Cells) (safe loaded : ℕ) (b : Scan) (a : Answer) → AnswersScan cells safe loaded b a
    → PartSays b.at a
part_says cells safe loaded b a (inl x) = subst (PartSays b.at) (sym x.1) x.0
part_says cells safe loaded b a (inr (kept, inl x)) = subst (PartSays b.at) (sym x.1) x.0
part_says cells safe loaded b a (inr (kept, inr (drawn, inl x))) = subst (PartSays b.at) (sym x.answer) tt
part_says cells safe loaded b a (inr (kept, inr (drawn, inr x))) = subst (PartSays b.at) (sym x.answer) tt

-- what is answered to a request, where it is a read
abbrev Says : Body → Answer → Type 0
Says (body.Get b) a = KeySays b.at b.key a
Says (body.Scan b) a = PartSays b.at a
Says _ a = Unit {0}

say : (r : Region) (loaded top : ℕ) (b : Body) (a : Answer) → Answers r loaded top b a → Says b a
say r loaded top (body.Get b) a is = key_says (r.cells b.key) r.safe loaded b a is
say r loaded top (body.Scan b) a is = part_says r.cells r.safe loaded b a is
say r loaded top b a is = tt

-- ---- what a read is answered in a world run

-- with what was answered at the timestamp, and with what was loaded
key_may : (h : History) (seen at : ℕ) (key : Key) (a : Answer) → KeySays at key a → WasAnsweredAt h at a
    → LoadedFrom seen a → IsKeyAnswer h seen at key a
key_may h seen at key (answer.Found v) says was from = tt
key_may h seen at key answer.Nothing says was from = tt
key_may h seen at key (answer.KeyIsLocked info) says was from = (says, was)
key_may h seen at key (answer.BelowSafePoint safe) says was from = (says, was)
key_may h seen at key (answer.FutureTimestamp last) says was from = (from, says, was)
key_may h seen at key a says was from = absurd says

part_may : (h : History) (seen at : ℕ) (a : Answer) → PartSays at a → WasAnsweredAt h at a → LoadedFrom seen a
    → IsPartAnswer h seen at a
part_may h seen at (answer.Rows rows) says was from = tt
part_may h seen at (answer.KeyIsLocked info) says was from = was
part_may h seen at (answer.BelowSafePoint safe) says was from = (says, was)
part_may h seen at (answer.FutureTimestamp last) says was from = (from, says, was)
part_may h seen at a says was from = absurd says

module _ (bounds : List Key) (h : History) (run : IsWorldRun bounds h) where
  was_so : (b : Body) (a : Answer) → WasAnswered h b a → Says b a
  was_so b a was =
      let (before, taken) = taken_there bounds h was.by run was.among in
      subst (Says b) was.told
      (subst (λ (x : Body). Says x was.by.answer) was.asked
      (say (left before was.by.region) was.by.loaded (last before) was.by.body was.by.answer taken.1.answers))

  -- a read was answered so
  pub may_be : (seen at : ℕ) (read : Read) (b : Body) → IsReadOf read at b → (a : Answer) → WasAnswered h b a
      → LoadedFrom seen a → IsAnswerTo h seen at read a
  may_be seen at (OfKey key) (body.Get b) is a was from =
      key_may h seen at key a
      (subst (λ (k : Key). KeySays at k a) is.0
      (subst (λ (n : ℕ). KeySays n b.key a) is.1 (was_so (body.Get b) a was)))
      (body.Get b, is.1, was) from
  may_be seen at (OfKey key) b is a was from = absurd is
  may_be seen at (Part from to limit) (body.Scan b) (low, high, most, time) a was loaded =
      part_may h seen at a (subst (λ (n : ℕ). PartSays n a) time (was_so (body.Scan b) a was))
      (body.Scan b, time, was) loaded
  may_be seen at (Part from to limit) b is a was loaded = absurd is

  -- or it was not answered
  pub if_may_be : {E : Type 0} (seen at : ℕ) (read : Read) (r : Result Answer E)
      → IfOk r (λ a. (b : Body) × IsReadOf read at b × WasAnswered h b a) → IfOk r (LoadedFrom seen)
      → IfOk r (IsAnswerTo h seen at read)
  if_may_be seen at read (Ok a) (b, is, was) from = may_be seen at read b is a was from
  if_may_be seen at read (Err e) told from = tt

-- a lock that was in the way stays told
pub locked_later : (l h : History) → Begins l h → (seen at : ℕ) (read : Read) (info : LockInfo)
    → IsAnswerTo l seen at read (answer.KeyIsLocked info) → IsAnswerTo h seen at read (answer.KeyIsLocked info)
locked_later l h begins seen at (OfKey key) info (same, told) =
    (same, (told.0, told.1, was_on l h begins told.0 (answer.KeyIsLocked info) told.2))
locked_later l h begins seen at (Part from to limit) info (b, is, was) =
    (b, is, was_on l h begins b (answer.KeyIsLocked info) was)

-- ---- what was loaded

-- who had seen less asks for less
pub loaded_less : (m n : ℕ) → m ≤ n → (a : Answer) → LoadedFrom n a → LoadedFrom m a
loaded_less m n le (answer.FutureTimestamp last) from = omega (arith, le, from)
loaded_less m n le a from = tt

pub if_loaded_less : {E : Type 0} (m n : ℕ) → m ≤ n → (r : Result Answer E) → IfOk r (LoadedFrom n)
    → IfOk r (LoadedFrom m)
if_loaded_less m n le (Ok a) from = loaded_less m n le a from
if_loaded_less m n le (Err e) from = tt

value_loaded : (n : ℕ) (found : Option Value) → LoadedFrom n (read_answer found)
value_loaded n None = tt
value_loaded n (Some v) = tt

key_loaded : (cells : Cells) (safe n loaded : ℕ) → n ≤ loaded → (b : Get) (a : Answer)
    → AnswersGet cells safe loaded b a → LoadedFrom n a
key_loaded cells safe n loaded le b a (inl x) = subst (LoadedFrom n) (sym x.1) tt
key_loaded cells safe n loaded le b a (inr (kept, inl x)) = subst (LoadedFrom n) (sym x.1) le
key_loaded cells safe n loaded le b a (inr (kept, inr (drawn, inl x))) = subst (LoadedFrom n) (sym x.2) tt
key_loaded cells safe n loaded le b a (inr (kept, inr (drawn, inr x))) =
    subst (LoadedFrom n) (sym x.1.1) (value_loaded n x.1.0)

part_loaded : (cells : Key → Cells) (safe n loaded : ℕ) → n ≤ loaded → (b : Scan) (a : Answer)
    → AnswersScan cells safe loaded b a → LoadedFrom n a
part_loaded cells safe n loaded le b a (inl x) = subst (LoadedFrom n) (sym x.1) tt
part_loaded cells safe n loaded le b a (inr (kept, inl x)) = subst (LoadedFrom n) (sym x.1) le
part_loaded cells safe n loaded le b a (inr (kept, inr (drawn, inl x))) = subst (LoadedFrom n) (sym x.answer) tt
part_loaded cells safe n loaded le b a (inr (kept, inr (drawn, inr x))) = subst (LoadedFrom n) (sym x.answer) tt

abbrev Loads : ℕ → Body → Answer → Type 0
Loads n (body.Get b) a = LoadedFrom n a
Loads n (body.Scan b) a = LoadedFrom n a
Loads n _ a = Unit {0}

loads : (r : Region) (n loaded top : ℕ) → n ≤ loaded → (b : Body) (a : Answer) → Answers r loaded top b a
    → Loads n b a
loads r n loaded top le (body.Get b) a is = key_loaded (r.cells b.key) r.safe n loaded le b a is
loads r n loaded top le (body.Scan b) a is = part_loaded r.cells r.safe n loaded le b a is
loads r n loaded top le b a is = tt

-- the region had loaded at least what was the last number for who asked
told : (bounds : List Key) (g : Given) (a : Answer) → IsTold bounds g a → Loads (last g.request.by) g.request.body a
told bounds g a t =
    let x : Taken = record { region = t.region; body = g.request.body; loaded = last t.tells.point; answer = a } in
    let run : IsWorldRun bounds (Took x ∷ t.tells.before) = subst (IsWorldRun bounds) t.tells.ends t.tells.run in
    loads (left t.tells.before t.region) (last g.request.by) (last t.tells.point) (last t.tells.before)
    (last_on bounds g.request.by t.tells.point (run_beginning bounds t.tells.point t.tells.before run.0 t.tells.since)
    t.tells.sender) g.request.body a run.1.answers

read_loads : (n at : ℕ) (read : Read) (b : Body) → IsReadOf read at b → (a : Answer) → Loads n b a → LoadedFrom n a
read_loads n at (OfKey key) (body.Get b) is a from = from
read_loads n at (OfKey key) b is a from = absurd is
read_loads n at (Part low high limit) (body.Scan b) is a from = from
read_loads n at (Part low high limit) b is a from = absurd is

module _ {S : Type 0} (bounds : List Key) (fits : S → Asked → Type 0) (sends : S → Asked → Reached → S → Type 0)
    (keys_between : S → List Key) (way : IsSender bounds fits sends keys_between) (k new : Known) (from to : S)
    (at : ℕ) (read : Read) (b : Body) (is : IsReadOf read at b) where
  reached_loads : (reached : Reached) → sends from (record { by = k.events; body = b }) reached to
      → Learns bounds k reached new → IfOk (response_of reached) (LoadedFrom (last k.events))
  reached_loads (Err l) sent learns = tt
  reached_loads (Ok g) sent learns = by g.answer learns.4.told
    where
      same : g.request ≡ record { by = k.events; body = b }
      same = way.answers from to (record { by = k.events; body = b }) g sent

      by : (o : Option Answer) → IfSome o (IsTold bounds g) → IfOk (response_by o) (LoadedFrom (last k.events))
      by None t = tt
      by (Some a) t = read_loads (last k.events) at read b is a
          (subst (λ (q : Asked). Loads (last q.by) q.body a) same (told bounds g a t))

  -- what a read was answered
  pub asked_loads : (c : Response) → Asks sends bounds k b from to c new → IfOk c (LoadedFrom (last k.events))
  asked_loads c asks =
      subst (λ (r : Response). IfOk r (LoadedFrom (last k.events))) (sym asks.is)
      (reached_loads asks.reached asks.sent asks.learns)
