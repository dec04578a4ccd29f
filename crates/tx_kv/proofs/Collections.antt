-- What each answer on the way of a walk says, its end says: so of a collection.
use Rattle.std.proofs.Common.{◌≡◌, ◌+◌, inl, inr, ℕ, zero, suc, List, [], ◌∷◌, length, Result, Ok, Err, IfOk, IfErr, refl, ap, subst}
use Rattle.tx_types.specs.declared.key.Key.{Key}
use Rattle.tx_types.specs.declared.lock.LockInfo.{LockInfo}
use Rattle.tx_types.specs.declared.fault.Fault.{Fault}
use Rattle.tx_plan.specs.declared.answer.Answer.TheVariants as answer
use Rattle.tx_plan.specs.declared.body.Body.{Body}
use Rattle.tx_plan.specs.declared.body.Body.TheVariants as body
use Rattle.tx_core.specs.declared.event.Event.TheVariants.{Took}
use Rattle.tx_core.specs.Histories.{History, Begins}
use Rattle.tx_core.proofs.seats.Stays.{among_on}
use Rattle.tx_journal.specs.Known.{Known}
use Rattle.tx_journal.specs.Replies.{Asked, Given}
use Rattle.tx_journal.specs.Senders.{IsSender, Reached}
use Rattle.tx_transaction.specs.Returns.{Response}
use Rattle.tx_client.specs.Learns.{response_of}
use Rattle.tx_client.specs.Facts.{WasAnswered, RespondsSo}
use Rattle.tx_client.specs.Walks.{Walk, asks, grows, ends, then_walk, Sends}
use Rattle.tx_client.proofs.Calls.{came_reached}
use Rattle.tx_resolve.specs.declared.collector.Counts.{Counts}
use Rattle.tx_resolve.specs.Resolution.{resolve_walk}
use Rattle.tx_resolve.specs.Collection.{on_ok, in_regions, raised_by, listed_by, collected_by, added, raise_walk, list_walk, locks_walk, clear_walk, collect_walk, raises_walk, clears_walk, collects_walk, gc_walk}
use Rattle.tx_reader.proofs.Observers.{sent_sees, sees_begins}
use Rattle.tx_kv.specs.Collections.{AreRaised, AreDropped, HasCollected, IsCollectFault}

-- each end of a walk is so, where what comes of its requests was answered in this history
abbrev Comes : {R : Type 0} → (R → Type 0) → History → Walk R → Type 0
Comes P h (asks b more) = (c : Response) → RespondsSo h b c → Comes P h (more c)
Comes P h (grows more short) = Comes P h more × Comes P h short
Comes P h (ends r) = P r

responds_on : (l h : History) → Begins l h → (b : Body) (c : Response) → RespondsSo l b c → RespondsSo h b c
responds_on l h begins b (Err why) so = tt
responds_on l h begins b (Ok a) was =
    record { by = was.by; among = among_on l h begins (Took was.by) was.among; asked = was.asked; told = was.told }

module _ {S : Type 0} (bounds : List Key) (fits : S → Asked → Type 0) (sends : S → Asked → Reached → S → Type 0)
    (keys_between : S → List Key) (way : IsSender bounds fits sends keys_between) where
  -- what was sent on the way was answered so in what is known at its end
  sent_comes : {R : Type 0} (P : R → Type 0) (w : Walk R) (k new : Known) (from to : S) (r : R)
      → Sends sends bounds k from w r to new → Comes P new.events w → P r
  sent_comes P (ends x) k new from to r (is, same, at) all = rw is all
  sent_comes P (grows more short) k new from to r (inl sent) all = sent_comes P short k new from to r sent all.1
  sent_comes P (grows more short) k new from to r (inr sent) all = sent_comes P more k new from to r sent all.0
  sent_comes P (asks b more) k new from to r (reached, mid, now, sent, learns, rest) all =
      let same : (g : Given) → reached ≡ Ok g → g.request.body ≡ b =
      λ g is. ap (λ (q : Asked). q.body) (way.answers from mid (record { by = k.events; body = b }) g
      (subst (λ z. sends from (record { by = k.events; body = b }) z mid) is sent)) in
      sent_comes P (more (response_of reached)) now new mid to r rest
      (all (response_of reached)
      (responds_on now.events new.events
      (sees_begins now new (sent_sees sends bounds (more (response_of reached)) now new mid to r rest)) b
      (response_of reached) (came_reached bounds reached b k now learns same)))

module _ (h : History) where
  -- of any walk
  comes_any : {R : Type 0} (w : Walk R) → Comes (λ (r : R). Unit {0}) h w
  comes_any (asks b more) = λ c so. comes_any (more c)
  comes_any (grows more short) = (comes_any more, comes_any short)
  comes_any (ends r) = tt

  -- one walk after another
  comes_then : {A B : Type 0} (Q : A → Type 0) (P : B → Type 0) (w : Walk A) (next : A → Walk B) → Comes Q h w
      → ((a : A) → Q a → Comes P h (next a)) → Comes P h (then_walk w next)
  comes_then Q P (asks b more) next all on = λ c so. comes_then Q P (more c) next (all c so) on
  comes_then Q P (grows more short) next all on =
      (comes_then Q P more next all.0 on, comes_then Q P short next all.1 on)
  comes_then Q P (ends r) next all on = on r all

  -- it went so, or it was refused for a reason
  abbrev Or : {A : Type 0} → (A → Type 0) → Result A Fault → Type 0
  Or P (Ok a) = P a
  Or P (Err e) = IsCollectFault h e

  comes_map : {R : Type 0} (P Q : R → Type 0) → ((r : R) → P r → Q r) → (w : Walk R) → Comes P h w → Comes Q h w
  comes_map P Q on (asks b more) all = λ c so. comes_map P Q on (more c) (all c so)
  comes_map P Q on (grows more short) all = (comes_map P Q on more all.0, comes_map P Q on short all.1)
  comes_map P Q on (ends r) all = on r all

  or_map : {A : Type 0} (P Q : A → Type 0) → ((a : A) → P a → Q a) → (r : Result A Fault) → Or P r → Or Q r
  or_map P Q on (Ok a) is = on a is
  or_map P Q on (Err e) is = is

  -- a refusal ends it
  comes_ok : {A B : Type 0} (Q : A → Type 0) (P : B → Type 0) (w : Walk (Result A Fault))
      (next : A → Walk (Result B Fault))
      → Comes (Or Q) h w → ((a : A) → Q a → Comes (Or P) h (next a)) → Comes (Or P) h (then_walk w (on_ok next))
  comes_ok {A} Q P w next all on = comes_then (Or Q) (Or P) w (on_ok next) all by
    where
      by : (r : Result A Fault) → Or Q r → Comes (Or P) h (on_ok next r)
      by (Ok a) is = on a is
      by (Err e) is = is

  module _ (safe : ℕ) where
    raised_so : (n : ℕ) (c : Response) → RespondsSo h (body.RaiseSafe record { region = n; safe = safe }) c
        → Or (λ u. WasAnswered h (body.RaiseSafe record { region = n; safe = safe }) answer.Raised) (raised_by c)
    raised_so n (Ok answer.Raised) so = so
    raised_so n (Ok (answer.BelowSafePoint s)) so = (body.RaiseSafe record { region = n; safe = safe }, so)
    raised_so n (Ok (answer.FutureTimestamp l)) so = (body.RaiseSafe record { region = n; safe = safe }, so)
    raised_so n _ so = tt

    raises : (count n : ℕ)
        → Comes (Or (λ (u : Unit {0}). AreRaised h safe count n)) h (in_regions (λ n u. raise_walk safe n) count n tt)
    raises zero n = tt
    raises (suc count) n =
        comes_ok (λ (u : Unit {0}). WasAnswered h (body.RaiseSafe record { region = n; safe = safe }) answer.Raised)
        (λ (u : Unit {0}). AreRaised h safe (suc count) n) (raise_walk safe n)
        (in_regions (λ n u. raise_walk safe n) count (suc n)) (raised_so n)
        (λ u was. comes_map (Or (λ (v : Unit {0}). AreRaised h safe count (suc n)))
        (Or (λ (v : Unit {0}). AreRaised h safe (suc count) n))
        (or_map (λ (v : Unit {0}). AreRaised h safe count (suc n)) (λ (v : Unit {0}). AreRaised h safe (suc count) n)
        (λ v all. (was, all))) (in_regions (λ n u. raise_walk safe n) count (suc n) tt) (raises count (suc n)))

    listed_so : (n : ℕ) (c : Response) → Or (λ (infos : List LockInfo). Unit {0}) (listed_by c)
    listed_so n (Ok (answer.Locks infos)) = tt
    listed_so n _ = tt

    one_lock : (info : LockInfo) (who : _) (more : Walk (Result (Unit {0}) Fault))
        → Comes (Or (λ (u : Unit {0}). Unit {0})) h more
        → Comes (Or (λ (u : Unit {0}). Unit {0})) h (then_walk (resolve_walk info who) (λ status. more))
    one_lock info who more on =
        comes_then (λ x. Unit {0}) (Or (λ (u : Unit {0}). Unit {0})) (resolve_walk info who) (λ status. more)
        (comes_any (resolve_walk info who)) (λ status so. on)

    all_resolved : (infos : List LockInfo) → Comes (Or (λ (u : Unit {0}). Unit {0})) h (locks_walk infos)
    all_resolved [] = tt
    all_resolved (info ∷ infos) =
        let more : Comes (Or (λ (u : Unit {0}). Unit {0})) h (locks_walk infos) = all_resolved infos in
        search (one_lock, more)

    clears : (count n : ℕ)
        → Comes (Or (λ (u : Unit {0}). Unit {0})) h (in_regions (λ n u. clear_walk safe n) count n tt)
    clears zero n = tt
    clears (suc count) n =
        comes_ok (λ (u : Unit {0}). Unit {0}) (λ (u : Unit {0}). Unit {0}) (clear_walk safe n)
        (in_regions (λ n u. clear_walk safe n) count (suc n))
        (comes_ok (λ (infos : List LockInfo). Unit {0}) (λ (u : Unit {0}). Unit {0}) (list_walk safe n) locks_walk
        (λ c so. listed_so n c) (λ infos so. all_resolved infos)) (λ u so. clears count (suc n))

    -- what a region dropped is added
    abbrev Drops : ℕ → Counts → Counts → Type 0
    Drops n before total = (records : ℕ) × (values : ℕ)
        × WasAnswered h (body.Collect record { region = n; safe = safe }) (answer.Collected records values)
        × (total ≡ added before (record { records = records; values = values }))

    collected_so : (n : ℕ) (before : Counts) (c : Response)
        → RespondsSo h (body.Collect record { region = n; safe = safe }) c
        → Or (Drops n before) (collected_by before c)
    collected_so n before (Ok (answer.LocksRemain info)) so = (body.Collect record { region = n; safe = safe }, so)
    collected_so n before (Ok (answer.Collected r v)) so = (r, v, so, refl)
    collected_so n before (Ok (answer.BelowSafePoint s)) so = (body.Collect record { region = n; safe = safe }, so)
    collected_so n before _ so = tt

    collects : (count n : ℕ) (before : Counts)
        → Comes (Or (AreDropped h safe count n before)) h (in_regions (collect_walk safe) count n before)
    collects zero n before = refl
    collects (suc count) n before =
        comes_ok (Drops n before) (AreDropped h safe (suc count) n before) (collect_walk safe n before)
        (in_regions (collect_walk safe) count (suc n)) (collected_so n before)
        (λ mid drops. comes_map (Or (AreDropped h safe count (suc n) mid)) (Or (AreDropped h safe (suc count) n before))
        (or_map (AreDropped h safe count (suc n) mid) (AreDropped h safe (suc count) n before)
        (λ total all. (
          drops.0,
          drops.1,
          drops.2,
          subst (λ (x : Counts). AreDropped h safe count (suc n) x total) drops.3 all,
        ))) (in_regions (collect_walk safe) count (suc n) mid) (collects count (suc n) mid))

    -- a collection
    comes_gc : (bounds : List Key) → Comes (Or (HasCollected bounds h safe)) h (gc_walk bounds safe)
    comes_gc bounds =
        comes_ok (λ (u : Unit {0}). AreRaised h safe (length bounds + 1) 0) (HasCollected bounds h safe)
        (raises_walk bounds safe) (λ u. then_walk (clears_walk bounds safe) (on_ok (λ v. collects_walk bounds safe)))
        (raises (length bounds + 1) 0)
        (λ u raised. comes_ok (λ (v : Unit {0}). Unit {0}) (HasCollected bounds h safe) (clears_walk bounds safe)
        (λ v. collects_walk bounds safe) (clears (length bounds + 1) 0)
        (λ v so. comes_map (Or (AreDropped h safe (length bounds + 1) 0 (record { records = 0; values = 0 })))
        (Or (HasCollected bounds h safe))
        (or_map (AreDropped h safe (length bounds + 1) 0 (record { records = 0; values = 0 }))
        (HasCollected bounds h safe) (λ total dropped. (raised, dropped))) (collects_walk bounds safe)
        (collects (length bounds + 1) 0 (record { records = 0; values = 0 }))))

module _ {S : Type 0} (bounds : List Key) (fits : S → Asked → Type 0) (sends : S → Asked → Reached → S → Type 0)
    (keys_between : S → List Key) (way : IsSender bounds fits sends keys_between) (safe : ℕ) (k new : Known)
    (from to : S) (r : Result Counts Fault) (sent : Sends sends bounds k from (gc_walk bounds safe) r to new) where
  -- what was collected, or why it was refused
  collection_so : Or new.events (HasCollected bounds new.events safe) r
  collection_so =
      sent_comes bounds fits sends keys_between way (Or new.events (HasCollected bounds new.events safe))
      (gc_walk bounds safe) k new from to r sent (comes_gc new.events safe bounds)

  pub collected_all : IfOk r (HasCollected bounds new.events safe)
  collected_all = by r collection_so
    where
      by : (x : Result Counts Fault) → Or new.events (HasCollected bounds new.events safe) x
          → IfOk x (HasCollected bounds new.events safe)
      by (Ok a) so = so
      by (Err e) so = tt

  pub refused_so : IfErr r (IsCollectFault new.events)
  refused_so = by r collection_so
    where
      by : (x : Result Counts Fault) → Or new.events (HasCollected bounds new.events safe) x
          → IfErr x (IsCollectFault new.events)
      by (Ok a) so = tt
      by (Err e) so = so
