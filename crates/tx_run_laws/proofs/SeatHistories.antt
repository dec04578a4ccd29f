-- A session's seat hears of others, and makes no event; its start stays.
use Rattle.std.proofs.Common.{◌≡◌, inl, inr, ℕ, Bool, true, false, List, Option, Some, None, Result, Ok, Err, refl, sym, ap, subst, ◌∙◌}
use Rattle.tx_types.specs.declared.key.Key.{Key}
use Rattle.tx_types.specs.declared.mutation.Mutation.{Mutation}
use Rattle.tx_types.specs.declared.mutation.Mutation.TheVariants as mutation
use Rattle.tx_plan.specs.declared.answer.Answer.{Answer}
use Rattle.tx_core.specs.Histories.{History}
use Rattle.tx_core.specs.Recording.{Extends}
use Rattle.tx_core.specs.Worlds.{IsWorldRun}
use Rattle.tx_core.proofs.seats.Beginnings.{extends_all, extends_more}
use Rattle.tx_journal.specs.Known.{Known}
use Rattle.tx_journal.specs.Replies.{Asked}
use Rattle.tx_journal.specs.Senders.{Reached}
use Rattle.tx_transaction.specs.declared.state.Miss.{Miss}
use Rattle.tx_transaction.specs.Returns.{Response}
use Rattle.tx_transaction.specs.Sessions.{SessionState, after_read, with_passed}
use Rattle.tx_client.specs.Calls.{HasHeard}
use Rattle.tx_client.specs.Learns.{Learns, response_of}
use Rattle.tx_client.specs.Walks.{Walk, asks, grows, ends, Sends, get_by}

-- ---- its start stays

read_start : (s : SessionState) (c : Response) → (after_read s c).start ≡ s.start
read_start s (Err why) = refl
read_start s (Ok a) = refl

pub passed_keeps : (s : SessionState) (t : ℕ) (may : Bool)
    → ((with_passed s t may).start ≡ s.start) × ((with_passed s t may).buffer ≡ s.buffer)
passed_keeps s t false = (refl, refl)
passed_keeps s t true = (refl, refl)

module _ {S : Type 0} (sends : S → Asked → Reached → S → Type 0) (bounds : List Key) where
  pub by_start : (k new : Known) (from to : S) (s : SessionState) (key : Key) (o : Option Mutation)
      (r : SessionState × Result Answer Miss) → Sends sends bounds k from (get_by s key o) r to new
      → r.0.start ≡ s.start
  by_start k new from to s key (Some (mutation.Put v)) r (inl e) = ap (λ y. y.0.start) e.0
  by_start k new from to s key (Some (mutation.Put v)) r (inr e) = ap (λ y. y.0.start) e.0
  by_start k new from to s key (Some (mutation.Insert v)) r (inl e) = ap (λ y. y.0.start) e.0
  by_start k new from to s key (Some (mutation.Insert v)) r (inr e) = ap (λ y. y.0.start) e.0
  by_start k new from to s key (Some mutation.Delete) r e = ap (λ y. y.0.start) e.0
  by_start k new from to s key (Some mutation.Lock) r (inl e) = ap (λ y. y.0.start) e.0
  by_start k new from to s key (Some mutation.Lock) r (inr (reached, mid, then, sent, learns, e)) =
      ap (λ y. y.0.start) e.0 ∙ read_start s (response_of reached)
  by_start k new from to s key None r (inl e) = ap (λ y. y.0.start) e.0
  by_start k new from to s key None r (inr (reached, mid, then, sent, learns, e)) =
      ap (λ y. y.0.start) e.0 ∙ read_start s (response_of reached)

-- ---- its seat hears, and makes no event

pub record Hears (bounds : List Key) (k l : Known) : Type 0 where
  pub number : l.seat ≡ k.seat
  pub extends : Extends k.seat k.events l.events
  pub run : IsWorldRun bounds k.events → IsWorldRun bounds l.events

module _ (bounds : List Key) where
  hears_same : (k l : Known) → l ≡ k → Hears bounds k l
  hears_same k l is = subst (λ (x : Known). Hears bounds k x) (sym is)
      (record { number = refl; extends = extends_all k.seat k.events; run = λ run. run })

  hears_then : (a b c : Known) → Hears bounds a b → Hears bounds b c → Hears bounds a c
  hears_then a b c first then = record {
    number = then.number ∙ first.number;
    extends = extends_more a.seat a.events b.events c.events first.extends
        (subst (λ (i : ℕ). Extends i b.events c.events) first.number then.extends);
    run = λ run. then.run (first.run run);
  }

  pub heard_hears : (k l : Known) (told : History) → HasHeard bounds k told l → Hears bounds k l
  heard_hears k l told heard =
      record { number = heard.number; extends = heard.seen.extends; run = λ run. heard.seen.run }

  learnt_hears : (k l : Known) (r : Reached) → Learns bounds k r l → Hears bounds k l
  learnt_hears k l (Err lost) learns = hears_same k l learns
  learnt_hears k l (Ok g) learns =
      record { number = learns.0; extends = learns.2.extends; run = λ run. learns.2.run }

  pub walk_hears : {S R : Type 0} (sends : S → Asked → Reached → S → Type 0) (w : Walk R) (k l : Known) (from to : S)
      (r : R) → Sends sends bounds k from w r to l → Hears bounds k l
  walk_hears sends (ends s) k l from to r sent = hears_same k l sent.2
  walk_hears sends (grows more short) k l from to r (inl sent) = walk_hears sends short k l from to r sent
  walk_hears sends (grows more short) k l from to r (inr sent) = walk_hears sends more k l from to r sent
  walk_hears sends (asks body more) k l from to r (reached, mid, then, did, learns, rest) =
      hears_then k then l (learnt_hears k then reached learns)
      (walk_hears sends (more (response_of reached)) then l mid to r rest)
