-- A step that resolves the lock a session met is its turn, where nobody else acted.
use Rattle.std.proofs.Common.{◌≡◌, ◌≤◌, ◌+◌, ◌&&◌, max, ℕ, Bool, true, false, cond, List, [], ◌∷◌, ◌++◌, length, Option, Some, None, Ok, Err, refl, sym, ap, subst, ◌∙◌, append_assoc, arith}
use Rattle.tx_types.specs.declared.key.Key.{Key}
use Rattle.tx_types.specs.declared.lock.LockInfo.{LockInfo}
use Rattle.tx_types.specs.declared.mutation.Fate.{Fate}
use Rattle.tx_types.specs.declared.mutation.Fate.TheVariants as fate
use Rattle.tx_types.specs.declared.mutation.Mode.{Mode}
use Rattle.tx_types.specs.declared.mutation.Mode.TheVariants.{Async, TwoPhase}
use Rattle.tx_plan.specs.declared.answer.Answer.TheVariants as answer
use Rattle.tx_plan.specs.declared.body.Body.{Body}
use Rattle.tx_core.specs.Histories.{History, Begins}
use Rattle.tx_core.specs.Recording.{part}
use Rattle.tx_core.proofs.seats.Beginnings.{begins_length, begins_more, begins_whole, extends_begins}
use Rattle.tx_transaction.specs.Returns.{Response}
use Rattle.tx_transaction.specs.Sessions.{SessionState, notes_one}
use Rattle.tx_client.specs.declared.resolved.Status.{Status}
use Rattle.tx_client.specs.declared.resolved.Status.TheVariants as status
use Rattle.tx_client.specs.declared.resolved.WaitCause.TheVariants as wait
use Rattle.tx_client.specs.Calls.{Seated}
use Rattle.tx_client.specs.Statuses.{lies_above}
use Rattle.tx_client.specs.Walks.{Walk, then_walk}
use Rattle.tx_resolve.specs.BlockedReads.{read_walk}
use Rattle.tx_resolve.specs.Resolution.{after_forced, after_others, after_primary, caller_of, check_of, forced_walk, further, is_async, is_over, lets_pass, other_by, others_walk, primary_by, resolve_walk, settle_walk, standing_by}
use Rattle.tx_steps.specs.declared.delivery.Delivery.TheVariants as deliveries
use Rattle.tx_steps.specs.declared.op.Op.TheVariants as op
use Rattle.tx_steps.specs.declared.step.Step.TheVariants as step
use Rattle.tx_steps.specs.Steps.{Text}
use Rattle.tx_reply.specs.declared.reply.ScriptReply.TheVariants as reply
use Rattle.tx_network.specs.Networks.{made_by}
use Rattle.tx_ops.specs.Edits.{is_refused, later_of}
use Rattle.tx_engine.specs.Semantics.{EngineState, at_history, in_session, learns, learnt, resolves, resolves_by, runs, turn, waits}
use Rattle.tx_core.proofs.Basics.{some_same}
use Rattle.tx_journal.specs.Known.{Known}
use Rattle.tx_types.specs.declared.fault.Cause.TheVariants.{Order}
use Rattle.tx_transfer.specs.Resolutions.{ResolvesMet}
use Rattle.tx_alone.proofs.CountedWalks.{walk_counts}
use Rattle.tx_alone.specs.Resolves.{ResolvesOver}
use Rattle.tx_alone.specs.Turns.{Table, IsLive, IsTurn, LeadsBy, LeastMinimum, with_live}
use Rattle.tx_alone.specs.Ways.{IsAlone}
use Rattle.tx_alone.proofs.ActTurns.{is_live}
use Rattle.tx_alone.proofs.CallBodies.{Suits, has_one, least_suits}
use Rattle.tx_alone.proofs.StoreWalks.{AllAsk, MayAsk, Runs, walk_comes}
use Rattle.tx_alone.proofs.WalkTurns.{runs_lead}

-- ---- what the resolver may ask

-- for whom a lock is resolved
abbrev domain : {A B : Type 0} → (A → B) → Type 0
domain {A} {B} f = A

abbrev Who : Type 0
Who = domain caller_of

module _ (May : Table) (bounds : List Key) (suit : (body : Body) → has_one body ≡ true → Suits May body) where
  module _ (met : LockInfo) (who : Who) where
    settle_ask : (end : Fate) → AllAsk May bounds (settle_walk met end)
    settle_ask end = ((record { memory = refl; placed = λ n is. sym is; suits = suit _ refl }, λ c. tt), tt)

    check_may : (forced : Bool) → MayAsk May bounds (check_of met who forced)
    check_may forced = record { memory = refl; placed = λ n is. sym is; suits = suit _ refl }

    forced_rests : (info : LockInfo) (b d : Bool) → AllAsk May bounds (after_forced met (standing_by info
        (cond b (Some (status.Pushed info.min)) (cond d None (Some (status.Waiting wait.Live))))))
    forced_rests info true d = tt
    forced_rests info false true = tt
    forced_rests info false false = tt

    forced_came : (c : Response) → AllAsk May bounds (after_forced met (primary_by who c))
    forced_came (Ok (answer.Locked info)) =
        forced_rests info (lets_pass who info.min) (is_async info.mode && is_over who info)
    forced_came (Ok (answer.Committed c)) = settle_ask (fate.Committed c)
    forced_came (Ok answer.RolledBack) = settle_ask fate.Aborted
    forced_came _ = tt

    forced_ask : AllAsk May bounds (forced_walk met who)
    forced_ask = ((check_may true, λ c. forced_came c), tt)

    -- what is asked of other keys, and then of what they come to
    abbrev OthersAsk : List Key → ℕ → Type 0
    OthersAsk keys most = AllAsk May bounds (then_walk (others_walk met.start keys most) (after_others met who))

    module _ (keys : List Key) (most : ℕ) (more : (n : ℕ) → OthersAsk keys n) where
      abbrev OtherAsk : Response → Type 0
      OtherAsk c = AllAsk May bounds (then_walk (further most (others_walk met.start keys) (other_by c))
          (after_others met who))

      by_mode : (info : LockInfo) (m : Mode) → OtherAsk (Ok (answer.Locked (record info { mode = m })))
      by_mode info TwoPhase = forced_ask
      by_mode info Async = more (max most info.min)

      other_came : (c : Response) → OtherAsk c
      other_came (Ok (answer.Locked info)) = by_mode info info.mode
      other_came (Ok (answer.Committed c)) = settle_ask (fate.Committed c)
      other_came (Ok answer.Missing) = settle_ask fate.Aborted
      other_came _ = tt

    others_ask : (keys : List Key) (most : ℕ) → OthersAsk keys most
    others_ask [] most = settle_ask (fate.Committed most)
    others_ask (key ∷ keys) most = (
      (
        record { memory = refl; placed = λ n is. sym is; suits = suit _ refl },
        λ c. other_came keys most (λ n. others_ask keys n) c,
      ),
      tt,
    )

    rests : (info : LockInfo) (b d : Bool) → AllAsk May bounds (after_primary met who (standing_by info
        (cond b (Some (status.Pushed info.min)) (cond d None (Some (status.Waiting wait.Live))))))
    rests info true d = tt
    rests info false true = others_ask info.secondaries info.min
    rests info false false = tt

    primary_came : (c : Response) → AllAsk May bounds (after_primary met who (primary_by who c))
    primary_came (Ok (answer.Locked info)) =
        rests info (lets_pass who info.min) (is_async info.mode && is_over who info)
    primary_came (Ok (answer.Committed c)) = settle_ask (fate.Committed c)
    primary_came (Ok answer.RolledBack) = settle_ask fate.Aborted
    primary_came _ = tt

    for_ask : AllAsk May bounds (resolve_walk met who)
    for_ask = ((check_may false, λ c. primary_came c), tt)

  read_ask : (met : LockInfo) (at now : ℕ) → AllAsk May bounds (read_walk met at now)
  read_ask met at now = search (for_ask)

-- ---- the turn

module _ (bounds : List Key) (e : EngineState) (name : Text) (k now : ℕ) (old new : Seated) (found : Status)
    (answered : ℕ) (live : IsLive bounds e name k old) (r : ResolvesOver bounds now old found new answered)
    (alone : IsAlone old.seat answered new.seat) where
  abbrev walk : Walk Status
  walk = read_walk r.lock old.state.start now

  own : made_by new.seat ≡ made_by old.seat
  own = ap (λ i. length (part i new.seat.events)) r.heard.number ∙ ap length r.heard.own

  before : Begins old.seat.events r.mid.events
  before = begins_more old.seat.events r.learnt.events r.mid.events r.learns.knows
      (extends_begins r.learnt.seat r.learnt.events r.mid.events r.looks.seen.extends)

  ran : Runs LeastMinimum bounds e.network.history walk found new.seat.events
  ran =
      let may = read_ask LeastMinimum bounds least_suits r.lock old.state.start now in
      let comes = walk_comes LeastMinimum bounds walk may r.mid r.after 0 answered found r.resolves in
      let first = begins_length old.seat.events r.mid.events before in
      let last = begins_length r.after.events new.seat.events r.heard.knows in
      let all : length new.seat.events ≤ length old.seat.events + answered = omega (arith, alone, own) in
      let grows = comes.grows in
      let from : old.seat.events ≡ r.mid.events =
      begins_whole old.seat.events r.mid.events before (omega (arith, all, first, last, grows)) in
      let to : r.after.events ≡ new.seat.events =
      begins_whole r.after.events new.seat.events r.heard.knows (omega (arith, all, first, last, grows)) in
      let runs_so = comes.exact (omega (arith, all, first, last, ap length to)) in
      subst (λ (p : History × History). Runs LeastMinimum bounds p.0 walk found p.1) (λ i. (
        (sym from ∙ sym live.knows) i,
        to i,
      )) runs_so

  -- by whether it notes one more start, for which memory is not refused
  abbrev Next : List Bool → Type 0
  Next bits = (later : List Bool) → learns (at_history e new.seat.events) k old.state r.lock found (bits ++ later)
      ≡ learnt (at_history e new.seat.events) k old.state r.lock found later

  learns_some : (bits : List Bool) × Next bits
  learns_some = by_need (notes_one old.state r.lock.start (lies_above found old.state.start))
    where
      by_need : (b : Bool) → (bits : List Bool) × ((later : List Bool)
          → cond b (cond (is_refused (bits ++ later))
          (waits (at_history e new.seat.events) (later_of (bits ++ later)))
          (learnt (at_history e new.seat.events) k old.state r.lock found (later_of (bits ++ later))))
          (learnt (at_history e new.seat.events) k old.state r.lock found (bits ++ later))
          ≡ learnt (at_history e new.seat.events) k old.state r.lock found later)
      by_need true = (false ∷ [], λ later. refl)
      by_need false = ([], λ later. refl)

  pub resolve_turn : IsTurn LeastMinimum bounds (step.Act name (op.Resolve now)) e (Ok (reply.Status found))
      (with_live e k new)
  resolve_turn =
      let led = runs_lead LeastMinimum bounds (λ later n said left. (n ≡ with_live e k new)
      × (said ≡ reply.Status found) × (left ≡ later)) walk e found new.seat.events ran
      (λ x n left. learns n k old.state r.lock x left) in
      let bits = learns_some.0 in (
        led.0 ++ bits,
        λ later.
            let goal = LeadsBy LeastMinimum bounds (λ n said left. (n ≡ with_live e k new)
            × (said ≡ reply.Status found) × (left ≡ later)) (λ c. ⊥) in
            subst goal (sym (at_lock ((led.0 ++ bits) ++ later)))
            (subst (λ all. goal (runs bounds deliveries.Taken all e walk
            (λ x n left. learns n k old.state r.lock x left))) (sym (append_assoc led.0 bits later))
            (led.1 later (bits ++ later) (subst goal (sym (learns_some.1 later)) (
              λ i. with_live e k (record new { state = sym r.state i }),
              refl,
              refl,
            )))),
      )
    where
      at_lock : (refused : List Bool) → turn bounds refused (step.Act name (op.Resolve now)) e
          ≡ runs bounds deliveries.Taken refused e walk (λ x n left. learns n k old.state r.lock x left)
      at_lock refused = ap (λ (o : Option (ℕ × SessionState)). in_session o (λ j s. resolves bounds refused e j s now))
          (is_live bounds e name k old live) ∙ ap (resolves_by bounds refused e k old.state now) r.met

-- where it met none, it may not
pub unmet_turn : (bounds : List Key) (e next : EngineState) (name : Text) (k now : ℕ) (old : Seated)
    → IsLive bounds e name k old → old.state.met ≡ None
    → IsTurn LeastMinimum bounds (step.Act name (op.Resolve now)) e (Err Order) next
unmet_turn bounds e next name k now old live none = λ refused.
    ap (λ (o : Option (ℕ × SessionState)). in_session o (λ j s. resolves bounds refused e j s now))
    (is_live bounds e name k old live) ∙ ap (resolves_by bounds refused e k old.state now) none

-- what tx_transfer says of it
pub met_resolves : (bounds : List Key) (now : ℕ) (old new : Seated) (resolver after : Known) (lock : LockInfo)
    (found : Status) → old.state.met ≡ Some lock
    → ResolvesMet bounds old resolver (Some lock) (Some now) (Some found) new after
    → (answered : ℕ) × ResolvesOver bounds now old found new answered
met_resolves bounds now old new resolver after lock found met (status, some, r, state, heard) =
    let same : found ≡ status = some_same found status some in
    let counted = walk_counts bounds (read_walk lock old.state.start now) r.mid after 0 status r.sends in (
      counted.0,
      subst (λ (f : Status). ResolvesOver bounds now old f new counted.0) (sym same) (record {
        lock = lock;
        met = met;
        resolver = resolver;
        learnt = r.learnt;
        learns = r.learns;
        mid = r.mid;
        looks = r.looks;
        after = after;
        resolves = counted.1;
        state = state;
        heard = heard;
      }),
    )
