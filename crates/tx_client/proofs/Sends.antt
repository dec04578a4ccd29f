-- What a send comes to is what its walk says.
use Rattle.std.proofs.Common.{◌≡◌, inl, inr, List, refl, ap, subst, ◌∙◌}
use Rattle.tx_types.specs.declared.key.Key.{Key}
use Rattle.tx_plan.specs.declared.body.Body.{Body}
use Rattle.tx_journal.specs.Known.{Known}
use Rattle.tx_journal.specs.Replies.{Asked}
use Rattle.tx_transaction.specs.Sessions.{SessionState, after_read}
use Rattle.tx_journal.specs.Senders.{Reached}
use Rattle.tx_client.specs.Learns.{response_of}
use Rattle.tx_client.specs.Walks.{Walk, asks, grows, ends, then_walk, Sends, look_walk}
use Rattle.tx_transaction.specs.Returns.{Response}
use Rattle.tx_client.specs.Calls.{Asks}

module _ {S : Type 0} (sends : S → Asked → Reached → S → Type 0) (bounds : List Key) where
  pub looked : (k new : Known) (from to : S) (s after : SessionState) (body : Body) (c : Response)
      → Asks sends bounds k body from to c new → after ≡ after_read s c
      → Sends sends bounds k from (look_walk s body) (after, c) to new
  looked k new from to s after body c a e =
      let state : after ≡ after_read s (response_of a.reached) = e ∙ ap (after_read s) a.is in
      (a.reached, to, new, a.sent, a.learns, ((λ j. (state j, a.is j)), refl, refl))

  -- one walk after another
  pub sent_then : {A B : Type 0} (w : Walk A) (next : A → Walk B) (k mid new : Known) (from at to : S) (r : A) (q : B)
      → Sends sends bounds k from w r at mid → Sends sends bounds mid at (next r) q to new
      → Sends sends bounds k from (then_walk w next) q to new
  sent_then (ends x) next k mid new from at to r q first second =
      subst (λ (y : S × Known × _). Sends sends bounds y.1 y.0 (next y.2) q to new)
      (λ j. (first.1 j, first.2 j, first.0 j)) second
  sent_then (grows more short) next k mid new from at to r q (inl first) second =
      inl (sent_then short next k mid new from at to r q first second)
  sent_then (grows more short) next k mid new from at to r q (inr first) second =
      inr (sent_then more next k mid new from at to r q first second)
  sent_then (asks body more) next k mid new from at to r q (reached, here, now, sent, learns, rest) second = (
    reached,
    here,
    now,
    sent,
    learns,
    sent_then (more (response_of reached)) next now mid new here at to r q rest
        second,
  )
