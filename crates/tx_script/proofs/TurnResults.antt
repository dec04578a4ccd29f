-- What holds of whatever a turn goes on to, by what regions answer.
use Rattle.std.proofs.Common.{◌≡◌, inl, inr, Bool, true, false, cond, List, refl, ◌∙◌, Ok, Err}
use Rattle.tx_types.specs.declared.fault.Cause.{Cause}
use Rattle.tx_types.specs.declared.key.Key.{Key}
use Rattle.tx_plan.specs.declared.body.Body.{Body}
use Rattle.tx_plan.specs.declared.answer.Answer.{Answer}
use Rattle.tx_cells.specs.declared.copies.KeyVersions.{KeyVersions}
use Rattle.tx_core.specs.Histories.{History, last, Begins}
use Rattle.tx_core.proofs.seats.Beginnings.{begins_all, begins_more}
use Rattle.tx_transaction.specs.Returns.{Response}
use Rattle.tx_transaction.specs.declared.state.Miss.TheVariants as miss
use Rattle.tx_client.specs.Facts.{RespondsSo}
use Rattle.tx_client.specs.Walks.{Walk, asks, grows, ends}
use Rattle.tx_ops.specs.Edits.{is_refused, later_of}
use Rattle.tx_steps.specs.declared.delivery.Delivery.{Delivery}
use Rattle.tx_steps.specs.declared.delivery.Delivery.TheVariants as deliveries
use Rattle.tx_steps.specs.Steps.{Text}
use Rattle.tx_network.specs.Networks.{taken, holding, takes_memory, region_for, MayShowSo}
use Rattle.tx_reply.specs.declared.reply.ScriptReply.{ScriptReply}
use Rattle.tx_engine.specs.Semantics.{EngineState, Transition, goes, inquires, shows, stops, at_network, answers, asked, sent, runs}
use Rattle.tx_engine.specs.Plays.{Leads}
use Rattle.tx_evidence.proofs.Results.{Comes}

-- an engine state that follows by requests alone: no session has changed
pub record Since (old new : EngineState) : Type 0 where
  pub begins : Begins old.network.history new.network.history
  pub names : new.names ≡ old.names
  pub slots : new.slots ≡ old.slots

pub since_same : (e : EngineState) → Since e e
since_same e = record { begins = begins_all e.network.history; names = refl; slots = refl }

since_more : (a b c : EngineState) → Since a b → Since b c → Since a c
since_more a b c x y = record {
  begins = begins_more a.network.history b.network.history c.network.history x.begins y.begins;
  names = y.names ∙ x.names;
  slots = y.slots ∙ x.slots;
}

-- ---- transitions

module _ (bounds : List Key) (P : EngineState → ScriptReply → Type 0) where
  -- whatever regions answer and show, this holds of what a turn goes on to
  abbrev pub AllTell : Transition → Type 0
  AllTell (goes engine said left) = P engine said
  AllTell (inquires network body more) = (a : Answer) → AllTell (more a)
  AllTell (shows network key more) = (copy : KeyVersions) → MayShowSo bounds network key copy → AllTell (more copy)
  AllTell (stops cause) = Unit {0}

  pub either : (b : Bool) (t u : Transition) → AllTell t → AllTell u → AllTell (cond b t u)
  either true t u x y = x
  either false t u x y = y

  -- what follows an answer, from whatever engine state comes by requests alone
  abbrev pub After : EngineState → Body → (Response → EngineState → List Bool → Transition) → Type 0
  After engine body on = (c : Response) (next : EngineState) (left : List Bool) → Since engine next
      → RespondsSo next.network.history body c → AllTell (on c next left)

  answers_tell : (engine : EngineState) (body : Body) (on : Response → EngineState → List Bool → Transition)
      → After engine body on → (left : List Bool) → AllTell (answers bounds engine body on left)
  answers_tell engine body on tell left = λ a.
      tell (Ok a) (at_network engine (taken bounds engine.network body a)) left
      (record { begins = inr (begins_all engine.network.history); names = refl; slots = refl })
      (record {
        by = record {
          region = region_for bounds body;
          body = body;
          loaded = last engine.network.history;
          answer = a;
        };
        among = inl refl;
        asked = refl;
        told = refl;
      })

  pub asked_tells : (refused : List Bool) (engine : EngineState) (body : Body) (on : Response → EngineState → List Bool
      → Transition) → After engine body on → AllTell (asked bounds refused engine body on)
  asked_tells refused engine body on tell =
      either (takes_memory body) _ _
      (either (is_refused refused) _ _ (tell (Err miss.Fault) engine (later_of refused) (since_same engine) tt)
      (answers_tell engine body on tell (later_of refused)))
      (answers_tell engine body on tell refused)

  sent_tells : (delivery : Delivery Text) (refused : List Bool) (engine : EngineState) (body : Body) (on : Response
      → EngineState → List Bool → Transition) → After engine body on
      → AllTell (sent bounds delivery refused engine body on)
  sent_tells deliveries.Taken refused engine body on tell = asked_tells refused engine body on tell
  sent_tells deliveries.Lost refused engine body on tell = tell (Err miss.Lost) engine refused (since_same engine) tt
  sent_tells deliveries.Unanswered refused engine body on tell =
      asked_tells refused engine body (λ c. on (Err miss.Lost))
      (λ c next left since was. tell (Err miss.Lost) next left since
      tt)
  sent_tells deliveries.Repeated refused engine body on tell =
      either (is_refused refused) _ _ (tell (Err miss.Fault) engine (later_of refused) (since_same engine) tt)
      (asked_tells (later_of refused) engine body (λ c next left. asked bounds left next body on)
      (λ c next left since was. asked_tells left next body on
      (λ d then_next then_left later so. tell d then_next then_left (since_more engine next then_next since later) so)))
  sent_tells (deliveries.Held name) refused engine body on tell =
      either (is_refused refused) _ _ (tell (Err miss.Fault) engine (later_of refused) (since_same engine) tt)
      (tell (Err miss.Lost) (at_network engine (holding engine.network name body)) (later_of refused)
      (record { begins = begins_all engine.network.history; names = refl; slots = refl }) tt)

  pub runs_tell : {R : Type 0} (Q : History → R → Type 0) (delivery : Delivery Text) (refused : List Bool)
      (engine : EngineState) (w : Walk R) (on : R → EngineState → List Bool → Transition)
      → Comes Q engine.network.history w → ((r : R) (next : EngineState) (left : List Bool) → Since engine next
      → Q next.network.history r → AllTell (on r next left)) → AllTell (runs bounds delivery refused engine w on)
  runs_tell Q delivery refused engine (ends r) on comes tell = tell r engine refused (since_same engine) comes
  runs_tell Q delivery refused engine (grows more short) on comes tell =
      either (is_refused refused) _ _ (runs_tell Q delivery (later_of refused) engine short on comes.1 tell)
      (runs_tell Q delivery (later_of refused) engine more on comes.0 tell)
  runs_tell Q delivery refused engine (asks body more) on comes tell =
      sent_tells delivery refused engine body (λ c next left. runs bounds delivery left next (more c) on)
      (λ c next left since was. runs_tell Q delivery left next (more c) on
      (comes c next.network.history since.begins was)
      (λ r then_next then_left later q. tell r then_next then_left (since_more engine next then_next since later) q))

  -- what comes of a turn is one of them
  pub leads_tell : {R : Type 0} (Goes : EngineState → ScriptReply → List Bool → Type 0) (Stops : Cause → Type 0)
      → ((next : EngineState) (said : ScriptReply) (left : List Bool) → P next said → Goes next said left → R)
      → ((c : Cause) → Stops c → R) → (t : Transition) → AllTell t → Leads bounds Goes Stops t → R
  leads_tell Goes Stops go stop (goes engine said left) tell leads = go engine said left tell leads
  leads_tell Goes Stops go stop (inquires network body more) tell (a, answers, leads) =
      leads_tell Goes Stops go stop (more a) (tell a) leads
  leads_tell Goes Stops go stop (shows network key more) tell (copy, may, leads) =
      leads_tell Goes Stops go stop (more copy) (tell copy may) leads
  leads_tell Goes Stops go stop (stops c) tell leads = stop c leads

-- what holds of each thing that a turn goes on to
pub all_tell_more : (bounds : List Key) (P Q : EngineState → ScriptReply → Type 0) → ((next : EngineState)
    (said : ScriptReply) → P next said → Q next said) → (t : Transition) → AllTell bounds P t → AllTell bounds Q t
all_tell_more bounds P Q f (goes engine said left) x = f engine said x
all_tell_more bounds P Q f (inquires network body more) x = λ a. all_tell_more bounds P Q f (more a) (x a)
all_tell_more bounds P Q f (shows network key more) x = λ copy may. all_tell_more bounds P Q f (more copy) (x copy may)
all_tell_more bounds P Q f (stops cause) x = tt
