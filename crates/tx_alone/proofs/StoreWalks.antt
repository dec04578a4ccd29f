-- What the requests of a walk come to over a store, where nobody else acted.
use Rattle.std.proofs.Common.{◌≡◌, ◌≤◌, ◌⊎◌, ◌+◌, ℕ, true, inl, inr, List, ◌∷◌, length, Option, Some, None, Ok, Err, sym, ap, subst, ◌∙◌, arith}
use Rattle.std.specs.Prelude.{IfSome}
use Rattle.tx_types.specs.declared.key.Key.{Key}
use Rattle.tx_plan.specs.declared.answer.Answer.{Answer}
use Rattle.tx_plan.specs.declared.body.Body.{Body}
use Rattle.tx_plan.specs.Answers.{Answers}
use Rattle.tx_core.specs.declared.event.Event.TheVariants.{Took}
use Rattle.tx_core.specs.Histories.{History, Begins, last, left}
use Rattle.tx_core.specs.Worlds.{Holds, IsWorldRun}
use Rattle.tx_core.proofs.seats.Beginnings.{begins_length, begins_more, begins_whole, extends_begins}
use Rattle.tx_journal.specs.Known.{Known}
use Rattle.tx_journal.specs.Replies.{Asked, Given, IsTold}
use Rattle.tx_journal.specs.Senders.{Reached}
use Rattle.tx_transaction.specs.Returns.{Response}
use Rattle.tx_transaction.specs.declared.state.Miss.TheVariants as miss
use Rattle.tx_client.specs.Learns.{response_by, response_of, Learns}
use Rattle.tx_client.specs.Walks.{Walk, asks, grows, ends, Sends}
use Rattle.tx_network.specs.Networks.{made_by, made_for, region_for, takes_memory}
use Rattle.tx_core.specs.Recording.{part}
use Rattle.tx_core.proofs.seats.Parts.{part_extends}
use Rattle.tx_alone.specs.Ways.{CountsAnswers, IsAlone}
use Rattle.tx_alone.specs.Turns.{Table, AnyMinimum}

-- who sends makes no event
pub record IsSame (k new : Known) : Type 0 where
  pub number : new.seat ≡ k.seat
  pub own : made_by new ≡ made_by k

same_learnt : (bounds : List Key) (old new : Known) (g : Given) → Learns bounds old (Ok g) new → IsSame old new
same_learnt bounds old new g learns = record {
  number = learns.0;
  own = ap (λ i. length (part i new.events)) learns.0
      ∙ ap length (part_extends old.seat old.events new.events learns.2.extends);
}

module _ (May : Table) (bounds : List Key) where
  -- ---- what a walk may ask

  -- A request may need memory, just one region holds what it speaks of, and what a region may
  -- answer to it by the case tables stands in this table.
  pub record MayAsk (body : Body) : Type 0 where
    pub memory : takes_memory body ≡ true
    pub placed : (n : ℕ) → Holds bounds n body → n ≡ region_for bounds body
    pub suits : (h : History) (n : ℕ) (a : Answer) → AnyMinimum h n body a → May h n body a

  -- each request of a walk is so
  abbrev pub AllAsk : {R : Type 0} → Walk R → Type 0
  AllAsk (ends r) = Unit {0}
  AllAsk (grows more short) = AllAsk more × AllAsk short
  AllAsk (asks body more) = MayAsk body × ((c : Response) → AllAsk (more c))

  -- ---- what it comes to where nobody else acts

  -- a region answers, or is refused memory
  abbrev pub Meets : History → Body → Response → History → Type 0
  Meets h body (Err miss.Lost) next = ⊥
  Meets h body (Err miss.Fault) next = (takes_memory body ≡ true) × (next ≡ h)
  Meets h body (Ok a) next = May h (region_for bounds body) body a × (next ≡ Took (record {
    region = region_for bounds body;
    body = body;
    loaded = last h;
    answer = a;
  }) ∷ h)

  abbrev pub Runs : {R : Type 0} → History → Walk R → R → History → Type 0
  Runs h (ends r) result next = (result ≡ r) × (next ≡ h)
  Runs h (grows more short) result next = Runs h short result next ⊎ Runs h more result next
  Runs h (asks body more) result next = (c : Response) × (mid : History) × Meets h body c mid
      × Runs mid (more c) result next

  -- ---- counting

  -- The seat makes no event; what it knows grows by as many events as requests were answered, and
  -- where it grows by no more, this is so.
  pub record Comes (k : Known) (from : ℕ) (new : Known) (to : ℕ) (Exact : Type 0) : Type 0 where
    pub same : IsSame k new
    pub grows : length k.events + to ≤ length new.events + from
    pub exact : length new.events + from ≤ length k.events + to → Exact

  module _ (k new : Known) (from to : ℕ) (body : Body) (may : MayAsk body) (g : Given) (request : g.request
      ≡ record { by = k.events; body = body }) (learns : Learns bounds k (Ok g) new) where
    later : Begins k.events new.events
    later = extends_begins k.seat k.events new.events learns.2.extends

    -- no answer came
    refused : to ≡ from + 0 → Comes k from new to (Meets k.events body (Err miss.Fault) new.events)
    refused is = record {
      same = same_learnt bounds k new g learns;
      grows = omega (arith, is, begins_length k.events new.events later);
      exact = λ le. (may.memory, sym (begins_whole k.events new.events later (omega (arith, le, is))));
    }

    -- an answer came
    answered : (a : Answer) → IsTold bounds g a → to ≡ from + 1
        → Comes k from new to (Meets k.events body (Ok a) new.events)
    answered a told is =
        let x = told.tells in
        let sender : Begins k.events x.point = subst (λ (q : Asked). Begins q.by x.point) request x.sender in
        let ends : g.events ≡ Took record {
          region = told.region;
          body = body;
          loaded = last x.point;
          answer = a;
        } ∷ x.before = x.ends ∙ ap (λ (q : Asked). Took
        record { region = told.region; body = q.body; loaded = last x.point; answer = a } ∷ x.before) request in
        let long : length g.events ≡ length x.before + 1 = ap length ends ∙ omega arith in
        let heard = begins_length g.events new.events learns.3 in
        let since = begins_length x.point x.before x.since in
        let before = begins_length k.events x.point sender in
        record {
          same = same_learnt bounds k new g learns;
          grows = omega (arith, is, long, heard, since, before);
          exact = λ le.
              let point : k.events ≡ x.point =
              begins_whole k.events x.point sender (omega (arith, le, is, long, heard, since)) in
              let all : k.events ≡ x.before =
              begins_whole k.events x.before (begins_more k.events x.point x.before sender x.since)
              (omega (arith, le, is, long, heard)) in
              let knows : g.events ≡ new.events =
              begins_whole g.events new.events learns.3 (omega (arith, le, is, long, since, before)) in
              let take = (subst (IsWorldRun bounds) ends x.run).1 in
              let region : told.region ≡ region_for bounds body = may.placed told.region take.holds in (
                may.suits k.events (region_for bounds body) a
                    (subst (λ (p : History × History × ℕ). Answers (left p.1 p.2) (last p.0) (last p.1) body a)
                    (λ i. (sym point i, sym all i, region i)) take.answers),
                sym knows ∙ ends ∙ (λ i. Took record {
                  region = region i;
                  body = body;
                  loaded = last (sym point i);
                  answer = a;
                } ∷ sym all i),
              );
        }

    by_answer : (o : Option Answer) → IfSome o (IsTold bounds g) → to ≡ from + made_for o
        → Comes k from new to (Meets k.events body (response_by o) new.events)
    by_answer None told is = refused is
    by_answer (Some a) told is = answered a told is

  -- one request
  reply_comes : (k new : Known) (from to : ℕ) (body : Body) → MayAsk body → (r : Reached)
      → CountsAnswers from (record { by = k.events; body = body }) r to → Learns bounds k r new
      → Comes k from new to (Meets k.events body (response_of r) new.events)
  reply_comes k new from to body may (Ok g) sent learns =
      by_answer k new from to body may g sent.0 learns g.answer learns.4.told sent.1
  reply_comes k new from to body may (Err l) sent learns = absurd sent

  -- ---- a whole walk

  none_comes : (k new : Known) (from to : ℕ) (Exact : Type 0) → to ≡ from → new ≡ k → Exact
      → Comes k from new to Exact
  none_comes k new from to Exact is same exact = record {
    same = record {
      number = ap (λ (x : Known). x.seat) same;
      own = ap made_by same;
    };
    grows = omega (arith, is, ap (λ (x : Known). length x.events) same);
    exact = λ le. exact;
  }

  or_comes : (k new : Known) (from to : ℕ) (Exact Then : Type 0) → (Exact → Then) → Comes k from new to Exact
      → Comes k from new to Then
  or_comes k new from to Exact Then on c = record { same = c.same; grows = c.grows; exact = λ le. on (c.exact le) }

  then_comes : (k mid new : Known) (from at to : ℕ) (First Second Both : Type 0) → Comes k from mid at First
      → Comes mid at new to Second → (First → Second → Both) → Comes k from new to Both
  then_comes k mid new from at to First Second Both p q both = record {
    same = record {
      number = q.same.number ∙ p.same.number;
      own = q.same.own ∙ p.same.own;
    };
    grows = omega (arith, p.grows, q.grows);
    exact = λ le. both (p.exact (omega (arith, le, q.grows))) (q.exact (omega (arith, le, p.grows)));
  }

  pub walk_comes : {R : Type 0} (w : Walk R) → AllAsk w → (k new : Known) (from to : ℕ) (result : R)
      → Sends CountsAnswers bounds k from w result to new → Comes k from new to (Runs k.events w result new.events)
  walk_comes (ends r) all k new from to result sent = none_comes k new from to _ sent.1 sent.2 (
    sent.0,
    ap (λ (x : Known). x.events) sent.2,
  )
  walk_comes (grows more short) all k new from to result (inl sent) =
      or_comes k new from to _ _ inl (walk_comes short all.1 k new from to result sent)
  walk_comes (grows more short) all k new from to result (inr sent) =
      or_comes k new from to _ _ inr (walk_comes more all.0 k new from to result sent)
  walk_comes (asks body more) all k new from to result (reached, mid, then_known, sent, learns, rest) =
      let first = reply_comes k then_known from mid body all.0 reached sent learns in
      let second = walk_comes (more (response_of reached)) (all.1 (response_of reached)) then_known new mid to result
      rest in
      then_comes k then_known new from mid to _ _ _ first second
      (λ meets runs. (response_of reached, then_known.events, meets, runs))

  -- where nobody else acted, it is run so
  pub walk_runs : {R : Type 0} (w : Walk R) → AllAsk w → (k new : Known) (made : ℕ) (result : R)
      → Sends CountsAnswers bounds k 0 w result made new → IsAlone k made new → Runs k.events w result new.events
  walk_runs w all k new made result sent alone =
      let comes = walk_comes w all k new 0 made result sent in
      comes.exact (omega (arith, alone, comes.same.own))
