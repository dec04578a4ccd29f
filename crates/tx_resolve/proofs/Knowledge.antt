-- What a resolver knows stays so while it asks, and how sends follow one another.
use Rattle.std.proofs.Common.{inl, inr, List, Ok, Err, sym, subst}
use Rattle.tx_types.specs.declared.key.Key.{Key}
use Rattle.tx_types.specs.declared.lock.LockInfo.{LockInfo}
use Rattle.tx_plan.specs.declared.body.Body.{Body}
use Rattle.tx_core.specs.declared.event.Event.TheVariants.{Took}
use Rattle.tx_core.specs.Histories.{History, Begins}
use Rattle.tx_core.specs.Worlds.{IsWorldRun}
use Rattle.tx_core.specs.Laws.{WasToldOf}
use Rattle.tx_core.proofs.seats.Beginnings.{begins_all, begins_more}
use Rattle.tx_core.proofs.seats.Stays.{among_on}
use Rattle.tx_journal.specs.Known.{Known}
use Rattle.tx_journal.specs.Replies.{Asked}
use Rattle.tx_journal.proofs.Calls.{seen_begins}
use Rattle.tx_transaction.specs.Returns.{Response}
use Rattle.tx_journal.specs.Senders.{Reached}
use Rattle.tx_client.specs.Learns.{response_of, Learns}
use Rattle.tx_client.specs.Walks.{Walk, asks, grows, ends, Sends}
use Rattle.tx_client.specs.Calls.{Asks}
use Rattle.tx_resolve.specs.Facts.{Knows}

-- what was told of a lock stays told
pub told_on : (l h : History) → Begins l h → (info : LockInfo) → WasToldOf l info → WasToldOf h info
told_on l h b info was = record { by = was.by; among = among_on l h b (Took was.by) was.among; told = was.told }

pub knows_on : (bounds : List Key) (l h : History) (met : LockInfo) → Knows bounds l met → IsWorldRun bounds h
    → Begins l h → Knows bounds h met
knows_on bounds l h met knows run b = record { run = run; told = told_on l h b met knows.told }

-- a world run that begins with another history
abbrev pub GoesOn : List Key → History → History → Type 0
GoesOn bounds l h = IsWorldRun bounds h × Begins l h

pub learnt : (bounds : List Key) (k new : Known) (reached : Reached) → IsWorldRun bounds k.events
    → Learns bounds k reached new → GoesOn bounds k.events new.events
learnt bounds k new (Err l) run same =
    subst (λ (z : Known). GoesOn bounds k.events z.events) (sym same) (run, begins_all k.events)
learnt bounds k new (Ok g) run (number, ticks, seen, told, given) =
    (seen.run, seen_begins bounds k.seat k.events new.events seen)

module _ {S : Type 0} (sends : S → Asked → Reached → S → Type 0) (bounds : List Key) where
  -- who sends sees more
  pub sent_more : {R : Type 0} (w : Walk R) (k new : Known) (from to : S) (r : R) → IsWorldRun bounds k.events
      → Sends sends bounds k from w r to new → GoesOn bounds k.events new.events
  sent_more (ends x) k new from to r run (is, same, at) =
      subst (λ (z : Known). GoesOn bounds k.events z.events) (sym at) (run, begins_all k.events)
  sent_more (grows more short) k new from to r run (inl sent) = sent_more short k new from to r run sent
  sent_more (grows more short) k new from to r run (inr sent) = sent_more more k new from to r run sent
  sent_more (asks body more) k new from to r run (reached, mid, now, sent, learns, rest) =
      let one = learnt bounds k now reached run learns in
      let two = sent_more (more (response_of reached)) now new mid to r one.0 rest in
      (two.0, begins_more k.events now.events new.events one.1 two.1)

  -- who asks sees more
  pub asked_more : (k new : Known) (from to : S) (body : Body) (c : Response) → IsWorldRun bounds k.events
      → Asks sends bounds k body from to c new → GoesOn bounds k.events new.events
  asked_more k new from to body c run a = learnt bounds k new a.reached run a.learns
