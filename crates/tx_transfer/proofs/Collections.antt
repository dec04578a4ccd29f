-- A collector that is due collects.
use Rattle.std.proofs.Common.{◌≡◌, ◌≤◌, ◌-◌, ℕ, nat_lt, List, Option, Some, sym, ap, subst, ◌∙◌}
use Rattle.std.proofs.lemmas.Bool.{le-ltb}
use Rattle.tx_types.specs.declared.key.Key.{Key}
use Rattle.tx_core.specs.Histories.{last}
use Rattle.tx_journal.specs.Known.{Known}
use Rattle.tx_transfer.specs.declared.collector.Collector.{Collector}
use Rattle.tx_transfer.specs.RequestCounts.{sum_of}
use Rattle.tx_transfer.specs.Resolutions.{HasLooked}
use Rattle.tx_transfer.specs.Collections.{Collects, CollectsUnless, CollectsBy}

-- what is due does not lie above the last timestamp that was drawn
pub due_collects : (bounds : List Key) (old : Collector) (lives : Option ℕ) (life time safe dropped due all : ℕ)
    (seat mid after : Known) → lives ≡ Some life → HasLooked bounds seat mid → time ≡ last mid.events
    → old.due ≤ time → safe ≡ time - life → Collects bounds mid safe dropped after → due ≡ sum_of time life
    → all ≡ sum_of old.dropped dropped
    → CollectsBy bounds old lives seat (record old { due = due; dropped = all }) after
due_collects bounds old lives life time safe dropped due all seat mid after is looks at late below collects next more =
    let new : Collector = record old { due = due; dropped = all } in
    let unless : CollectsUnless bounds old life (nat_lt (last mid.events) old.due) mid new after =
    subst (λ b. CollectsUnless bounds old life b mid new after)
    (sym (ap (λ t. nat_lt t old.due) (sym at) ∙ le-ltb time old.due late)) (
      dropped,
      subst (λ t. Collects bounds mid t dropped after) (below ∙ ap (λ t. t - life) at) collects,
      (λ j. record old { due = (next ∙ ap (λ t. sum_of t life) at) j; dropped = more j }),
    ) in
    subst (λ o. CollectsBy bounds old o seat new after) (sym is) (mid, looks, unless)
