-- Whatever is sent over a store, its answers can be counted; and what is counted was sent over one.
use Rattle.std.proofs.Common.{◌+◌, ℕ, inl, inr, List, Ok, Err, refl}
use Rattle.tx_types.specs.declared.key.Key.{Key}
use Rattle.tx_journal.specs.Known.{Known}
use Rattle.tx_store.specs.Stores.{Replies}
use Rattle.tx_client.specs.Calls.{Seated}
use Rattle.tx_client.specs.Learns.{response_of}
use Rattle.tx_client.specs.Walks.{Walk, asks, grows, ends, Sends}
use Rattle.tx_steps.specs.declared.op.Op.{Op}
use Rattle.tx_steps.specs.declared.op.Op.TheVariants as op
use Rattle.tx_steps.specs.declared.step.Step.{Step}
use Rattle.tx_steps.specs.declared.step.Step.TheVariants as step
use Rattle.tx_steps.specs.Steps.{Text}
use Rattle.tx_ops.specs.Calls.{Said, call_walk}
use Rattle.tx_network.specs.Networks.{made_for}
use Rattle.tx_transfer.specs.Acts.{Acts}
use Rattle.tx_alone.specs.Turns.{IsStepOf}
use Rattle.tx_alone.specs.Ways.{CountsAnswers, MakesBy}

module _ (bounds : List Key) where
  pub walk_counts : {R : Type 0} (w : Walk R) (k new : Known) (from : ℕ) (r : R)
      → Sends (Replies {S = Unit {0}}) bounds k tt w r tt new → (to : ℕ) × Sends CountsAnswers bounds k from w r to new
  walk_counts (ends x) k new from r (is, there, knows) = (from, (is, refl, knows))
  walk_counts (grows more short) k new from r (inl sent) =
      (let rest = walk_counts short k new from r sent in (rest.0, inl rest.1))
  walk_counts (grows more short) k new from r (inr sent) =
      (let rest = walk_counts more k new from r sent in (rest.0, inr rest.1))
  walk_counts (asks body more) k new from r (Ok g, mid, then, is, learns, sent) =
      let rest = walk_counts (more (response_of (Ok g))) then new (from + made_for g.answer) r sent in
      (rest.0, (Ok g, from + made_for g.answer, then, (is, refl), learns, rest.1))
  walk_counts (asks body more) k new from r (Err l, mid, then, is, learns, sent) = absurd is

  over : {R : Type 0} (w : Walk R) (k new : Known) (from to : ℕ) (r : R) → Sends CountsAnswers bounds k from w r to new
      → Sends (Replies {S = Unit {0}}) bounds k tt w r tt new
  over (ends x) k new from to r (is, there, knows) = (is, refl, knows)
  over (grows more short) k new from to r (inl sent) = inl (over short k new from to r sent)
  over (grows more short) k new from to r (inr sent) = inr (over more k new from to r sent)
  over (asks body more) k new from to r (Ok g, mid, then, is, learns, sent) =
      (Ok g, tt, then, is.0, learns, over (more (response_of (Ok g))) then new mid to r sent)
  over (asks body more) k new from to r (Err l, mid, then, is, learns, sent) = absurd is

  -- ---- what tx_transfer says

  pub acts_make : (name : Text) (what : Op Text) (old new : Seated) (resolver after : Known) (said : Said)
      → IsStepOf name (step.Act name what) → Acts bounds what old resolver said new after
      → MakesBy (Replies {S = Unit {0}}) bounds (step.Act name what) old tt said new tt
  acts_make name (op.Put key value) old new resolver after said may acts = (acts.0, refl)
  acts_make name (op.Insert key value) old new resolver after said may acts = (acts.0, refl)
  acts_make name (op.Delete key) old new resolver after said may acts = (acts.0, refl)
  acts_make name (op.Lock key) old new resolver after said may acts = (acts.0, refl)
  acts_make name (op.Declare mode ttl most) old new resolver after said may acts = (acts.0, refl)
  acts_make name op.Draw old new resolver after said may acts = (acts.0, refl)
  acts_make name op.Finish old new resolver after said may acts = absurd may
  acts_make name op.Stop old new resolver after said may acts = absurd may
  acts_make name (op.Resolve now) old new resolver after said may acts = absurd may

  pub made_acts : (name : Text) (what : Op Text) (old new : Seated) (resolver : Known) (said : Said)
      → IsStepOf name (step.Act name what)
      → MakesBy (Replies {S = Unit {0}}) bounds (step.Act name what) old tt said new tt
      → Acts bounds what old resolver said new resolver
  made_acts name (op.Put key value) old new resolver said may made = (made.0, refl)
  made_acts name (op.Insert key value) old new resolver said may made = (made.0, refl)
  made_acts name (op.Delete key) old new resolver said may made = (made.0, refl)
  made_acts name (op.Lock key) old new resolver said may made = (made.0, refl)
  made_acts name (op.Declare mode ttl most) old new resolver said may made = (made.0, refl)
  made_acts name op.Draw old new resolver said may made = (made.0, refl)
  made_acts name op.Finish old new resolver said may made = absurd may
  made_acts name op.Stop old new resolver said may made = absurd may
  made_acts name (op.Resolve now) old new resolver said may made = absurd may

  -- of a step
  pub step_counts : (what : Step Text) (old new : Seated) (said : Said)
      → MakesBy (Replies {S = Unit {0}}) bounds what old tt said new tt
      → (answered : ℕ) × MakesBy CountsAnswers bounds what old 0 said new answered
  step_counts (step.Act name what) old new said (does, same) = (0, (does, refl))
  step_counts (step.Send name what d) old new said sent =
      walk_counts (call_walk bounds old.state what) old.seat new.seat 0 (new.state, said) sent
  step_counts (step.Begin name) old new said (is, same, there) = (0, (is, same, refl))
  step_counts (step.Deliver name) old new said (is, same, there) = (0, (is, same, refl))
  step_counts (step.Read key at) old new said (is, same, there) = (0, (is, same, refl))
  step_counts (step.Versions key) old new said (is, same, there) = (0, (is, same, refl))
  step_counts (step.Tick ticks) old new said (is, same, there) = (0, (is, same, refl))
  step_counts (step.Gc safe) old new said (is, same, there) = (0, (is, same, refl))
  step_counts (step.Seed key value) old new said (is, same, there) = (0, (is, same, refl))
  step_counts (step.Transfer name what) old new said (is, same, there) = (0, (is, same, refl))

  pub step_stores : (what : Step Text) (old new : Seated) (said : Said) (answered : ℕ)
      → MakesBy CountsAnswers bounds what old 0 said new answered
      → MakesBy (Replies {S = Unit {0}}) bounds what old tt said new tt
  step_stores (step.Act name what) old new said answered (does, same) = (does, refl)
  step_stores (step.Send name what d) old new said answered sent =
      over (call_walk bounds old.state what) old.seat new.seat 0 answered (new.state, said) sent
  step_stores (step.Begin name) old new said answered (is, same, there) = (is, same, refl)
  step_stores (step.Deliver name) old new said answered (is, same, there) = (is, same, refl)
  step_stores (step.Read key at) old new said answered (is, same, there) = (is, same, refl)
  step_stores (step.Versions key) old new said answered (is, same, there) = (is, same, refl)
  step_stores (step.Tick ticks) old new said answered (is, same, there) = (is, same, refl)
  step_stores (step.Gc safe) old new said answered (is, same, there) = (is, same, refl)
  step_stores (step.Seed key value) old new said answered (is, same, there) = (is, same, refl)
  step_stores (step.Transfer name what) old new said answered (is, same, there) = (is, same, refl)
