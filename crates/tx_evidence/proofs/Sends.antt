-- What the requests of a walk come to, where each of them was answered.
use Rattle.std.proofs.Common.{◌≡◌, inl, inr, List, Ok, Err, sym, ap, subst}
use Rattle.tx_types.specs.declared.key.Key.{Key}
use Rattle.tx_core.specs.Histories.{History, Begins}
use Rattle.tx_core.proofs.seats.Beginnings.{begins_all, extends_begins}
use Rattle.tx_journal.specs.Known.{Known}
use Rattle.tx_journal.specs.Replies.{Asked, Given}
use Rattle.tx_journal.specs.Senders.{Reached}
use Rattle.tx_client.specs.Learns.{response_of, Learns}
use Rattle.tx_client.specs.Walks.{Walk, asks, grows, ends, Sends}
use Rattle.tx_client.proofs.Calls.{came_reached}
use Rattle.tx_evidence.proofs.Results.{Comes}

-- a seat that learns what a reply tells has seen a beginning of what it then knows
pub learns_begins : (bounds : List Key) (old new : Known) (r : Reached) → Learns bounds old r new
    → Begins old.events new.events
learns_begins bounds old new (Err l) learns =
    subst (λ (k : Known). Begins old.events k.events) (sym learns) (begins_all old.events)
learns_begins bounds old new (Ok g) learns = extends_begins old.seat old.events new.events learns.2.extends

module _ {S R : Type 0} (sends : S → Asked → Reached → S → Type 0) (bounds : List Key) (Q : History → R → Type 0)
    (answers : (a b : S) (q : Asked) (g : Given) → sends a q (Ok g) b → g.request ≡ q) where
  -- whatever is answered on its way, this holds of what a walk comes to: so it holds where the
  -- requests were sent, each to those that answer just it
  pub sends_comes : (w : Walk R) (old new : Known) (from to : S) (result : R) → Comes Q old.events w
      → Sends sends bounds old from w result to new → Q new.events result
  sends_comes (ends r) old new from to result comes sent =
      subst (λ (k : Known). Q k.events result) (sym sent.2) (subst (λ x. Q old.events x) (sym sent.0) comes)
  sends_comes (grows more short) old new from to result comes (inl sent) =
      sends_comes short old new from to result comes.1 sent
  sends_comes (grows more short) old new from to result comes (inr sent) =
      sends_comes more old new from to result comes.0 sent
  sends_comes (asks body more) old new from to result comes (reached, mid, known, sent, learns, rest) =
      sends_comes (more (response_of reached)) known new mid to result
      (comes (response_of reached) known.events (learns_begins bounds old known reached learns)
      (came_reached bounds reached body old known learns (asked reached sent))) rest
    where
      asked : (r : Reached) → sends from (record { by = old.events; body = body }) r mid
          → (g : Given) → r ≡ Ok g → g.request.body ≡ body
      asked r one g is = ap (λ (q : Asked). q.body)
          (answers from mid _ g (subst (λ (o : Reached). sends from (record { by = old.events; body = body }) o mid)
          is one))
