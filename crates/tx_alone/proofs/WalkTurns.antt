-- A walk that is run where nobody else acts is its turn.
use Rattle.std.proofs.Common.{◌≡◌, Bool, true, false, cond, inl, inr, List, [], ◌∷◌, ◌++◌, Ok, Err, refl, sym, subst, ◌∙◌, append_assoc}
use Rattle.tx_types.specs.declared.fault.Cause.{Cause}
use Rattle.tx_types.specs.declared.key.Key.{Key}
use Rattle.tx_plan.specs.declared.body.Body.{Body}
use Rattle.tx_core.specs.Histories.{History}
use Rattle.tx_transaction.specs.Returns.{Response}
use Rattle.tx_transaction.specs.declared.state.Miss.TheVariants as miss
use Rattle.tx_client.specs.Walks.{Walk, asks, grows, ends}
use Rattle.tx_steps.specs.declared.delivery.Delivery.TheVariants as deliveries
use Rattle.tx_reply.specs.declared.reply.ScriptReply.{ScriptReply}
use Rattle.tx_ops.specs.Calls.{Said}
use Rattle.tx_ops.specs.Edits.{is_refused, later_of}
use Rattle.tx_network.specs.Networks.{takes_memory}
use Rattle.tx_engine.specs.Plays.{Leads}
use Rattle.tx_engine.specs.Slots.{GoesTo}
use Rattle.tx_engine.specs.Semantics.{EngineState, Transition, answers, asked, at_history, goes, inquires, runs, shows, stops}
use Rattle.tx_alone.specs.Turns.{Table, LeastMinimum, LeadsBy, GoesBy, TurnsBy}
use Rattle.tx_alone.proofs.StoreWalks.{Meets, Runs}

-- ---- what a turn leads to

module _ (May : Table) (bounds : List Key) where
  -- a turn that goes on at once
  pub goes_at : (turn : List Bool → Transition) (bits : List Bool) (said told : ScriptReply)
      (next then_next : EngineState) → ((later : List Bool) → turn (bits ++ later) ≡ goes next said later)
      → next ≡ then_next → said ≡ told → GoesBy May bounds turn told then_next
  goes_at turn bits said told next then_next is same also =
      (bits, λ later. subst (LeadsBy May bounds _ _) (sym (is later)) (same, also, refl))

  -- a turn that is another
  pub turns_as : (turn inner : List Bool → Transition) (said : Said) (next : EngineState)
      → ((refused : List Bool) → turn refused ≡ inner refused) → TurnsBy May bounds inner said next
      → TurnsBy May bounds turn said next
  turns_as turn inner (Ok reply) next is on =
      (on.0, λ later. subst (LeadsBy May bounds _ _) (sym (is (on.0 ++ later))) (on.1 later))
  turns_as turn inner (Err cause) next is halts = λ refused. is refused ∙ halts refused

-- by the table with the least minimum it is what `simulate` leads to
pub leads_least : (bounds : List Key) (Goes : EngineState → ScriptReply → List Bool → Type 0) (Stops : Cause → Type 0)
    (t : Transition) → LeadsBy LeastMinimum bounds Goes Stops t → Leads bounds Goes Stops t
leads_least bounds Goes Stops (goes engine said refused) leads = leads
leads_least bounds Goes Stops (inquires network body more) (a, may, leads) =
    (a, may, leads_least bounds Goes Stops (more a) leads)
leads_least bounds Goes Stops (shows network key more) (copy, may, leads) =
    (copy, may, leads_least bounds Goes Stops (more copy) leads)
leads_least bounds Goes Stops (stops cause) leads = leads

pub goes_least : (bounds : List Key) (turn : List Bool → Transition) (told : ScriptReply) (next : EngineState)
    → GoesBy LeastMinimum bounds turn told next → GoesTo bounds turn told next
goes_least bounds turn told next (refused, leads) =
    (refused, λ later. leads_least bounds _ _ (turn (refused ++ later)) (leads later))

-- ---- walks

module _ (May : Table) (bounds : List Key) (Goes : List Bool → EngineState → ScriptReply → List Bool → Type 0) where
  -- what a turn leads to, after some refusals, whatever is refused after those
  abbrev pub Leading : (on : List Bool → Transition) → (turn : List Bool → Transition) → Type 0
  Leading on turn = (bits : List Bool) × ((g later : List Bool) → LeadsBy May bounds (Goes g) (λ c. ⊥) (on later)
      → LeadsBy May bounds (Goes g) (λ c. ⊥) (turn (bits ++ later)))

  asked_leads : (engine : EngineState) (body : Body) (c : Response) (next : History)
      → Meets May bounds engine.network.history body c next
      → (on : Response → EngineState → List Bool → Transition)
      → Leading (on c (at_history engine next)) (λ refused. asked bounds refused engine body on)
  asked_leads engine body (Err miss.Lost) next meets on = absurd meets
  asked_leads engine body (Err miss.Fault) next meets on = (
    true ∷ [],
    λ g later leads. by_need g later (takes_memory body) meets.0
        (subst (λ h. LeadsBy May bounds (Goes g) (λ c. ⊥) (on (Err miss.Fault) (at_history engine h) later)) meets.1
        leads),
  )
    where
      by_need : (g later : List Bool) (b : Bool) → b ≡ true
          → LeadsBy May bounds (Goes g) (λ c. ⊥) (on (Err miss.Fault) engine later)
          → LeadsBy May bounds (Goes g) (λ c. ⊥) (cond b (on (Err miss.Fault) engine later)
          (answers bounds engine body on (true ∷ later)))
      by_need g later true needs leads = leads
      by_need g later false needs leads = absurd (cc (needs))
  asked_leads engine body (Ok a) next meets on = by_need (takes_memory body)
    where
      by_need : (b : Bool) → Leading (on (Ok a) (at_history engine next))
          (λ refused. cond b (cond (is_refused refused) (on (Err miss.Fault) engine (later_of refused))
          (answers bounds engine body on (later_of refused))) (answers bounds engine body on refused))
      by_need true = (
        false ∷ [],
        λ g later leads. (
          a,
          meets.0,
          subst (λ h. LeadsBy May bounds (Goes g) (λ c. ⊥) (on (Ok a) (at_history engine h) later)) meets.1 leads,
        ),
      )
      by_need false = (
        [],
        λ g later leads. (
          a,
          meets.0,
          subst (λ h. LeadsBy May bounds (Goes g) (λ c. ⊥) (on (Ok a) (at_history engine h) later)) meets.1 leads,
        ),
      )

  -- what a walk comes to where nobody else acts, its turn leads to
  pub runs_lead : {R : Type 0} (w : Walk R) (engine : EngineState) (r : R) (next : History)
      → Runs May bounds engine.network.history w r next → (on : R → EngineState → List Bool → Transition)
      → Leading (on r (at_history engine next)) (λ refused. runs bounds deliveries.Taken refused engine w on)
  runs_lead {R} (ends x) engine r next (is, same) on = (
    [],
    λ g later leads. subst (λ (p : R × History).
        LeadsBy May bounds (Goes g) (λ c. ⊥) (on p.0 (at_history engine p.1) later)) (λ i. (is i, same i)) leads,
  )
  runs_lead {R} (grows more short) engine r next (inl run) on =
      (let rest = runs_lead short engine r next run on in (true ∷ rest.0, λ g later leads. rest.1 g later leads))
  runs_lead {R} (grows more short) engine r next (inr run) on =
      (let rest = runs_lead more engine r next run on in (false ∷ rest.0, λ g later leads. rest.1 g later leads))
  runs_lead {R} (asks body more) engine r next (c, mid, meets, rest) on =
      let first = asked_leads engine body c mid meets (λ d at left. runs bounds deliveries.Taken left at (more d) on) in
      let second = runs_lead (more c) (at_history engine mid) r next rest on in (
        first.0 ++ second.0,
        λ g later leads. subst (λ bits. LeadsBy May bounds (Goes g) (λ c. ⊥)
            (asked bounds bits engine body (λ d at left. runs bounds deliveries.Taken left at (more d) on)))
            (sym (append_assoc first.0 second.0 later)) (first.1 g (second.0 ++ later) (second.1 g later leads)),
      )
