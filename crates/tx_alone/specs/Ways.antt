-- What a session makes of a step, over whatever way its requests go. A store is one way, and the
-- network of one thread is another: what `run` and `simulate` say of a step are two instances.
use Rattle.std.specs.Prelude.{◌≡◌, ◌≤◌, ◌+◌, ℕ, List, length, Ok, Err}
use Rattle.tx_types.specs.declared.fault.Cause.TheVariants.{Name, Order}
use Rattle.tx_types.specs.declared.key.Key.{Key}
use Rattle.tx_journal.specs.Known.{Known}
use Rattle.tx_journal.specs.Replies.{Asked}
use Rattle.tx_journal.specs.Senders.{Reached}
use Rattle.tx_client.specs.Calls.{Seated}
use Rattle.tx_client.specs.Walks.{Sends}
use Rattle.tx_steps.specs.declared.step.Step.{Step}
use Rattle.tx_steps.specs.declared.step.Step.TheVariants as step
use Rattle.tx_steps.specs.Steps.{Text}
use Rattle.tx_ops.specs.Acts.{Does}
use Rattle.tx_ops.specs.Calls.{Said, call_walk}
use Rattle.tx_network.specs.Networks.{NetworkParts, made_by, made_for, Passes}

module _ {S : Type 0} (sends : S → Asked → Reached → S → Type 0) (bounds : List Key) where
  -- What a live session makes of a step that neither begins nor ends it: an act is that of tx_ops,
  -- which sends nothing, and a call sends just its walk. No other step is allowed, and then all is
  -- as it was.
  abbrev pub MakesBy : Step Text → Seated → S → Said → Seated → S → Type 0
  MakesBy (step.Act name what) old from said new to = Does bounds what old said new × (to ≡ from)
  MakesBy (step.Send name what delivery) old from said new to =
      Sends sends bounds old.seat from (call_walk bounds old.state what) (new.state, said) to new.seat
  MakesBy (step.Begin name) old from said new to = (said ≡ Err Name) × (new ≡ old) × (to ≡ from)
  MakesBy _ old from said new to = (said ≡ Err Order) × (new ≡ old) × (to ≡ from)

-- the network of one thread, by the delivery that is set
abbrev pub PassesSo : List Key → NetworkParts → Asked → Reached → NetworkParts → Type 0
PassesSo bounds from q r to = Passes bounds from.delivery from q r to

-- a store, of which it is counted how many requests it answered: none is lost
abbrev pub CountsAnswers : ℕ → Asked → Reached → ℕ → Type 0
CountsAnswers n q (Ok g) m = (g.request ≡ q) × (m ≡ n + made_for g.answer)
CountsAnswers n q (Err l) m = ⊥

-- Nobody else acted: what a seat then knows has no more events beyond those that it knew than it
-- made itself, and so many answers to its requests.
abbrev pub IsAlone : Known → ℕ → Known → Type 0
IsAlone old answered new = length new.events + made_by old ≤ length old.events + made_by new + answered
