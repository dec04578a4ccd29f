-- What is sent over a wire, or in a context, is sent over a store.
use Rattle.std.proofs.Common.{◌≡◌, inl, inr, List, Option, Some, None, Ok, Err, refl, ap, ◌∙◌}
use Rattle.tx_types.specs.declared.key.Key.{Key}
use Rattle.tx_plan.specs.declared.answer.Answer.{Answer}
use Rattle.tx_journal.specs.Known.{Known}
use Rattle.tx_journal.specs.Replies.{Asked}
use Rattle.tx_journal.specs.Senders.{Reached}
use Rattle.tx_store.specs.Stores.{Replies}
use Rattle.tx_client.specs.Learns.{response_by, response_of}
use Rattle.tx_client.specs.Walks.{Walk, asks, grows, ends, Sends}
use Rattle.tx_ops.proofs.Answered.{Came}
use Rattle.tx_transfer.specs.Sends.{SendsOver}

-- a reply that comes over one way comes over any
pub replies_over : {S : Type 0} (a b : S) (q : Asked) (reached : Reached) → Replies a q reached b
    → Replies {S = Unit {0}} tt q reached tt
replies_over a b q (Ok g) is = is
replies_over a b q (Err l) is = is

answered_came : (o : Option Answer) → Came (response_by o)
answered_came None = tt
answered_came (Some a) = tt

-- none is lost
pub replies_came : {S : Type 0} (a b : S) (q : Asked) (reached : Reached) → Replies a q reached b
    → Came (response_of reached)
replies_came a b q (Ok g) is = answered_came g.answer
replies_came a b q (Err l) is = absurd is

-- a way's two values are forgotten
pub sent_as : {S R : Type 0} (sends : S → Asked → Reached → S → Type 0) (bounds : List Key) (old new : Known)
    (from to : S) (walk : Walk R) (result : R) → Sends sends bounds old from walk result to new
    → ((a b : S) (q : Asked) (reached : Reached) → sends a q reached b → Replies a q reached b)
    → SendsOver bounds old walk result new
sent_as sends bounds old new from to (ends r) result (is, there, knows) replies = (is, refl, knows)
sent_as sends bounds old new from to (grows more short) result (inl s) replies =
    inl (sent_as sends bounds old new from to short result s replies)
sent_as sends bounds old new from to (grows more short) result (inr s) replies =
    inr (sent_as sends bounds old new from to more result s replies)
sent_as sends bounds old new from to (asks body more) result (reached, mid, then, sent, learns, rest) replies = (
  reached,
  tt,
  then,
  replies_over from mid (record { by = old.events; body = body }) reached
      (replies from mid (record { by = old.events; body = body }) reached sent),
  learns,
  sent_as sends bounds then new mid to (more (response_of reached)) result rest replies,
)

-- what each request keeps, a walk keeps
pub sent_keeps : {S A R : Type 0} (sends : S → Asked → Reached → S → Type 0) (bounds : List Key) (old new : Known)
    (from to : S) (walk : Walk R) (result : R) → Sends sends bounds old from walk result to new → (part : S → A)
    → ((a b : S) (q : Asked) (reached : Reached) → sends a q reached b → part b ≡ part a) → part to ≡ part from
sent_keeps sends bounds old new from to (ends r) result (is, there, knows) part keeps = ap part there
sent_keeps sends bounds old new from to (grows more short) result (inl s) part keeps =
    sent_keeps sends bounds old new from to short result s part keeps
sent_keeps sends bounds old new from to (grows more short) result (inr s) part keeps =
    sent_keeps sends bounds old new from to more result s part keeps
sent_keeps sends bounds old new from to (asks body more) result (reached, mid, then, sent, learns, rest) part keeps =
    sent_keeps sends bounds then new mid to (more (response_of reached)) result rest part keeps
    ∙ keeps from mid (record { by = old.events; body = body }) reached sent

-- the same of a wire
pub sent_over : {S R : Type 0} (bounds : List Key) (old new : Known) (from to : S) (walk : Walk R) (result : R)
    → Sends Replies bounds old from walk result to new → SendsOver bounds old walk result new
sent_over bounds old new from to walk result sent =
    sent_as Replies bounds old new from to walk result sent (λ a b q reached is. is)
