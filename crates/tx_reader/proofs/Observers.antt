-- Seats that only see what others did, and what a read at a timestamp finds.
use Rattle.std.proofs.Common.{◌≡◌, arith, inl, inr, ℕ, IsTrue, true, List, [], ◌∷◌, ◌++◌, Contains, Option, Some, None, Result, Ok, Err, IfOk, IfErr, OnOk, OnErr, refl, sym, ap, subst, ◌∙◌}
use Rattle.std.proofs.lemmas.List.Elements.{Contains-push, Contains-push_cases}
use Rattle.tx_types.specs.declared.key.Key.{Key}
use Rattle.tx_types.specs.declared.lock.LockInfo.{LockInfo}
use Rattle.tx_types.specs.Keys.{is_between}
use Rattle.tx_plan.specs.declared.body.Get.{Get}
use Rattle.tx_plan.specs.declared.body.Body.{Body}
use Rattle.tx_plan.specs.declared.body.Body.TheVariants as body
use Rattle.tx_plan.specs.declared.answer.Answer.{Answer}
use Rattle.tx_plan.specs.declared.answer.Answer.TheVariants as answer
use Rattle.tx_machine.specs.Machine.{SeesRows, table_of}
use Rattle.tx_core.specs.Histories.{History, Begins}
use Rattle.tx_core.specs.Shadow.{shadow}
use Rattle.tx_core.specs.Worlds.{IsWorldRun}
use Rattle.tx_core.specs.declared.event.Event.TheVariants.{Took}
use Rattle.tx_core.specs.Recording.{Extends}
use Rattle.tx_core.specs.Allowed.{MayPass, AllowsRead}
use Rattle.tx_core.specs.Decisions.{infos_in}
use Rattle.tx_core.specs.Laws.{WasToldOf}
use Rattle.tx_core.proofs.seats.Beginnings.{extends_all, extends_more, extends_begins}
use Rattle.tx_journal.specs.Known.{Known, HasSeen}
use Rattle.tx_journal.specs.Replies.{Asked}
use Rattle.tx_core.proofs.seats.Stays.{among_on, last_on}
use Rattle.tx_journal.specs.Senders.{IsHeld, LosesNothing, Reached}
use Rattle.tx_transaction.specs.declared.state.Miss.TheVariants as miss
use Rattle.tx_client.specs.Learns.{response_by, response_of, Learns}
use Rattle.tx_client.specs.Walks.{Walk, asks, grows, ends, Sends}
use Rattle.tx_client.specs.Facts.{WasAnswered}
use Rattle.tx_client.specs.declared.resolved.Status.{Status}
use Rattle.tx_client.specs.Statuses.{Ends, lies_above}
use Rattle.tx_client.proofs.Calls.{held_at, may_pass}
use Rattle.tx_client.proofs.Kept.{read_on}
use Rattle.tx_laws.specs.Scans.{scan_at}
use Rattle.tx_laws.specs.Told.{Says}
use Rattle.tx_laws.proofs.LaterReads.{answer_seen, rows_seen}
use Rattle.tx_reader.specs.declared.read.Read.{Read}
use Rattle.tx_reader.specs.declared.read.Read.TheVariants.{Key as OfKey, Part}
use Rattle.tx_reader.specs.Readers.{FindsAt, IsOfOneRegion, IsReadOf, OnlySees, ReadsAt}

pub sees_itself : (k : Known) → OnlySees k k
sees_itself k =
    record { number = refl; ticks = refl; others = extends_all k.seat k.events; drawn = omega arith }

pub sees_same : (k new : Known) → new ≡ k → OnlySees k new
sees_same k new same = subst (λ (z : Known). OnlySees k z) (sym same) (sees_itself k)

pub sees_more : (a b c : Known) → OnlySees a b → OnlySees b c → OnlySees a c
sees_more a b c p q = record {
  number = q.number ∙ p.number;
  ticks = q.ticks ∙ p.ticks;
  others = extends_more a.seat a.events b.events c.events p.others
      (subst (λ (i : ℕ). Extends i b.events c.events) p.number q.others);
  drawn = omega (arith, p.drawn, q.drawn);
}

pub sees_begins : (old new : Known) → OnlySees old new → Begins old.events new.events
sees_begins old new s = extends_begins old.seat old.events new.events s.others

pub sees_seen : (bounds : List Key) (old new : Known) → new.seat ≡ old.seat → new.ticks ≡ old.ticks
    → HasSeen bounds old.seat old.events new.events → OnlySees old new
sees_seen bounds old new number ticks seen = record {
  number = number;
  ticks = ticks;
  others = seen.extends;
  drawn = last_on bounds old.events new.events seen.run (extends_begins old.seat old.events new.events seen.extends);
}

module _ (bounds : List Key) where
  pub learns_sees : (k new : Known) (reached : Reached) → Learns bounds k reached new → OnlySees k new
  learns_sees k new (Err l) same = sees_same k new same
  learns_sees k new (Ok g) (number, ticks, seen, told, given) = sees_seen bounds k new number ticks seen

  -- what is known stays a world run
  pub learns_run : (k new : Known) (reached : Reached) → IsWorldRun bounds k.events → Learns bounds k reached new
      → IsWorldRun bounds new.events
  learns_run k new (Err l) run same = subst (λ (z : Known). IsWorldRun bounds z.events) (sym same) run
  learns_run k new (Ok g) run (number, ticks, seen, told, given) = seen.run

-- where nothing is lost, only memory is wanting
pub short_alone : {S : Type 0} (sends : S → Asked → Reached → S → Type 0) → LosesNothing sends
    → (from to : S) (q : Asked)
    (reached : Reached) → sends from q reached to → IfErr (response_of reached) (λ m. m ≡ miss.Fault)
short_alone sends lossless from to q (Err l) sent = absurd (lossless from to q l sent)
short_alone sends lossless from to q (Ok g) sent = by g.answer
  where
    by : (o : Option Answer) → IfErr (response_by o) (λ m. m ≡ miss.Fault)
    by None = refl
    by (Some a) = tt

module _ {S : Type 0} (sends : S → Asked → Reached → S → Type 0) (bounds : List Key) where
  -- who sends only sees what others did
  pub sent_sees : {R : Type 0} (w : Walk R) (k new : Known) (from to : S) (r : R) → Sends sends bounds k from w r to new
      → OnlySees k new
  sent_sees (ends x) k new from to r (is, same, at) = sees_same k new at
  sent_sees (grows more short) k new from to r (inl sent) = sent_sees short k new from to r sent
  sent_sees (grows more short) k new from to r (inr sent) = sent_sees more k new from to r sent
  sent_sees (asks b more) k new from to r (reached, mid, now, sent, learns, rest) =
      sees_more k now new (learns_sees bounds k now reached learns)
      (sent_sees (more (response_of reached)) now new mid to r rest)

  pub sent_runs : {R : Type 0} (w : Walk R) (k new : Known) (from to : S) (r : R) → IsWorldRun bounds k.events
      → Sends sends bounds k from w r to new → IsWorldRun bounds new.events
  sent_runs (ends x) k new from to r run (is, same, at) =
      subst (λ (z : Known). IsWorldRun bounds z.events) (sym at) run
  sent_runs (grows more short) k new from to r run (inl sent) = sent_runs short k new from to r run sent
  sent_runs (grows more short) k new from to r run (inr sent) = sent_runs more k new from to r run sent
  sent_runs (asks b more) k new from to r run (reached, mid, now, sent, learns, rest) =
      sent_runs (more (response_of reached)) now new mid to r (learns_run bounds k now reached run learns) rest

-- what was answered stays so
pub was_on : (l h : History) → Begins l h → (b : Body) (a : Answer) → WasAnswered l b a → WasAnswered h b a
was_on l h begins b a was = record {
  by = was.by;
  among = among_on l h begins (Took was.by) was.among;
  asked = was.asked;
  told = was.told;
}

-- a lock that an answer names was told of
pub locked_told : (h : History) (b : Body) (info : LockInfo) → WasAnswered h b (answer.KeyIsLocked info)
    → WasToldOf h info
locked_told h b info was = record {
  by = was.by;
  among = was.among;
  told = subst (λ (xs : List LockInfo). Contains xs info) (ap infos_in (sym was.told)) (Contains-push [] info);
}

-- what an answer finds is what the machine sees
pub found_so : (bounds : List Key) (h : History) → IsWorldRun bounds h → (b : Get) (at : ℕ) (key : Key) → b.key ≡ key
    → b.at ≡ at → (a : Answer) → WasAnswered h (body.Get b) a → ReadsAt h at key a
found_so bounds h run b at key same time (answer.Found v) was =
    answer_seen bounds h run was.by was.among key at (Some v)
    (subst (λ x. Says x was.by.answer key at (Some v)) (sym was.asked)
    (subst (λ y. Says (body.Get b) y key at (Some v)) (sym was.told) (same, time, refl)))
found_so bounds h run b at key same time answer.Nothing was =
    answer_seen bounds h run was.by was.among key at None
    (subst (λ x. Says x was.by.answer key at None) (sym was.asked)
    (subst (λ y. Says (body.Get b) y key at None) (sym was.told) (same, time, refl)))
found_so bounds h run b at key same time a was = tt

-- what a reader keeps: its seat has seen a world run, in which its reads may pass by those
abbrev pub Keeps : List Key → Known → ℕ → List ℕ → Type 0
Keeps bounds k at passed = IsWorldRun bounds k.events × AllowsRead k.events at passed

module _ (bounds : List Key) (k new : Known) (at : ℕ) (passed : List ℕ) (is : Keeps bounds k at passed) where
  keeps_on : OnlySees k new → IsWorldRun bounds new.events → Keeps bounds new at passed
  keeps_on sees run =
      (run, read_on bounds k.events new.events run (sees_begins k new sees) at passed is.1)

  pub keeps_learnt : (reached : Reached) → Learns bounds k reached new → Keeps bounds new at passed
  keeps_learnt reached learns =
      keeps_on (learns_sees bounds k new reached learns) (learns_run bounds k new reached is.0 learns)

  pub keeps_seen : new.seat ≡ k.seat → new.ticks ≡ k.ticks → HasSeen bounds k.seat k.events new.events
      → Keeps bounds new at passed
  keeps_seen number ticks seen = keeps_on (sees_seen bounds k new number ticks seen) seen.run

  pub keeps_sent : {S R : Type 0} (sends : S → Asked → Reached → S → Type 0) (w : Walk R) (from to : S) (r : R)
      → Sends sends bounds k from w r to new → Keeps bounds new at passed
  keeps_sent sends w from to r sent =
      keeps_on (sent_sees sends bounds w k new from to r sent) (sent_runs sends bounds w k new from to r is.0 sent)

-- one more is passed by
pub keeps_noted : (bounds : List Key) (k : Known) (at : ℕ) (passed all : List ℕ) (l : History) (t : ℕ) (what : Status)
    → Keeps bounds k at passed → Begins l k.events → Ends l t what → lies_above what at ≡ true
    → all ≡ passed ++ t ∷ [] → Keeps bounds k at all
keeps_noted bounds k at passed all l t what is begins ended above same =
    subst (λ (xs : List ℕ). Keeps bounds k at xs) (sym same) (
      is.0,
      λ u named. elim (Contains-push_cases passed t u named) [
        | inl old ↦ is.1 u old
        | inr new ↦ subst (MayPass k.events at) new (may_pass bounds l k.events is.0 begins t at what ended above)
      ],
    )

-- or it had no memory for that
pub noted_either : {E : Type 0} (bounds : List Key) (k : Known) (at : ℕ) (passed all : List ℕ) (l : History) (t : ℕ)
    (what :
    Status) (r : Result (Unit {0}) E) → Keeps bounds k at passed → Begins l k.events → Ends l t what
    → lies_above what at ≡ true → OnOk r (all ≡ passed ++ t ∷ []) → OnErr r (all ≡ passed) → Keeps bounds k at all
noted_either bounds k at passed all l t what (Ok x) is begins ended above ok same =
    keeps_noted bounds k at passed all l t what is begins ended above ok
noted_either bounds k at passed all l t what (Err e) is begins ended above ok same =
    subst (λ (xs : List ℕ). Keeps bounds k at xs) (sym same) is

-- ---- reads of a key, and of a part of a range

-- one region holds what is read
pub held_of : (bounds : List Key) (read : Read) → IsOfOneRegion bounds read → (at : ℕ) (b : Body) → IsReadOf read at b
    → IsHeld bounds b
held_of bounds (OfKey key) one at (body.Get b) is = held_at bounds b.key
held_of bounds (OfKey key) one at b is = absurd is
held_of bounds (Part from to limit) one at (body.Scan b) (low, high, most, time) =
    let (n, le, there) = held_at bounds from in (
      n,
      le,
      λ k inside. one k
          (subst (λ y. IsTrue (is_between from y k)) high (subst (λ x. IsTrue (is_between x b.to k)) low inside))
          ∙ there,
    )
held_of bounds (Part from to limit) one at b is = absurd is

-- what an answer to a read finds is what the machine sees
pub found_by : (bounds : List Key) (h : History) → IsWorldRun bounds h → (at : ℕ) (read : Read) (b : Body)
    → IsReadOf read at b → (a : Answer) → WasAnswered h b a → FindsAt bounds h at read a
found_by bounds h run at (OfKey key) (body.Get b) is a was =
    λ later begins now. found_so bounds later now b at key is.0 is.1 a (was_on h later begins (body.Get b) a was)
found_by bounds h run at (OfKey key) b is a was = absurd is
found_by bounds h run at (Part from to limit) (body.Scan b) (low, high, most, time) (answer.Rows rows) was =
    λ later begins now.
    subst (λ n. SeesRows (table_of (shadow later)).row (scan_at n from to limit rows)) time
    (subst (λ n. SeesRows (table_of (shadow later)).row (scan_at b.at from to n rows)) most
    (subst (λ k. SeesRows (table_of (shadow later)).row (scan_at b.at from k b.limit rows)) high
    (subst (λ k. SeesRows (table_of (shadow later)).row (scan_at b.at k b.to b.limit rows)) low
    (rows_seen bounds later now was.by (among_on h later begins _ was.among) b rows was.asked was.told))))
found_by bounds h run at (Part from to limit) (body.Scan b) is a was = tt
found_by bounds h run at (Part from to limit) b is a was = absurd is

-- a lock in the way finds nothing
pub locked_finds : (bounds : List Key) (h : History) (at : ℕ) (read : Read) (info : LockInfo)
    → FindsAt bounds h at read (answer.KeyIsLocked info)
locked_finds bounds h at (OfKey key) info = λ later begins now. tt
locked_finds bounds h at (Part from to limit) info = tt

-- what the last look found, if it was answered
pub if_found_by : {E : Type 0} (bounds : List Key) (h : History) (at : ℕ) (read : Read) → IsWorldRun bounds h
    → (r : Result Answer E) → IfOk r (λ a. (b : Body) × IsReadOf read at b × WasAnswered h b a)
    → IfOk r (FindsAt bounds h at read)
if_found_by bounds h at read run (Ok a) (b, is, was) = found_by bounds h run at read b is a was
if_found_by bounds h at read run (Err e) told = tt
