-- What the network of one thread makes of requests.
use Rattle.std.specs.Prelude.{◌≡◌, ◌≤◌, ◌⊎◌, ℕ, suc, ◌+◌, ◌&&◌, not, nat_le, Bool, true, false, cond, List, [], ◌∷◌, map, length, Option, Some, None, option_map, is_some, Result, Ok, Err, IfOk, IfSome, String, string_bytes, bytes_eq, option_and_then}
use Rattle.std.specs.Global.{Global}
use Rattle.std.specs.Map.{lookup, update}
use Rattle.std.specs.List.{sum_by}
use Rattle.tx_types.specs.declared.fault.Fault.{Fault}
use Rattle.tx_types.specs.declared.limits.TheConstants.{MAX_HELD_REQUESTS}
use Rattle.tx_types.specs.Names.{is_name}
use Rattle.tx_types.specs.declared.key.Key.{Key}
use Rattle.tx_plan.specs.declared.body.Body.{Body}
use Rattle.tx_plan.specs.declared.body.Body.TheVariants.{RaiseSafe}
use Rattle.tx_plan.specs.declared.body.Scan.{Scan}
use Rattle.tx_plan.specs.declared.target.Target.{Target}
use Rattle.tx_plan.specs.declared.target.Target.TheVariants as target
use Rattle.tx_plan.specs.Targets.{target as target_of}
use Rattle.tx_plan.specs.declared.answer.Answer.{Answer}
use Rattle.tx_plan.specs.Answers.{AnswersFrom}
use Rattle.tx_cells.specs.declared.copies.KeyVersions.{KeyVersions}
use Rattle.tx_cells.specs.Copies.{Copies}
use Rattle.tx_core.specs.declared.event.Event.TheVariants.{Declared, Drawn, Took}
use Rattle.tx_core.specs.Histories.{History, last, left, Begins}
use Rattle.tx_core.specs.ReadMarks.{max_ts, AnswersNext}
use Rattle.tx_core.specs.Recording.{part}
use Rattle.tx_core.specs.Worlds.{route}
use Rattle.tx_journal.specs.Known.{Known}
use Rattle.tx_core.specs.declared.event.Event.{Event}
use Rattle.tx_core.specs.declared.event.Declaration.{Declaration}
use Rattle.tx_core.specs.declared.event.Taken.{Taken as TakenOf}
use Rattle.tx_core.specs.Worlds.{IsWorldRun}
use Rattle.tx_trace.specs.Traces.{Noted, Traces, Adds}
use Rattle.tx_trace.specs.declared.taken_log.Taking.{Taking}
use Rattle.tx_trace.specs.declared.taken_log.TakenLog.{TakenLog}
use Rattle.tx_journal.specs.Replies.{Asked, Given}
use Rattle.tx_steps.specs.declared.delivery.Delivery.{Delivery}
use Rattle.tx_steps.specs.declared.delivery.Delivery.TheVariants as deliveries
use Rattle.tx_transaction.specs.Returns.{Response}
use Rattle.tx_transaction.specs.declared.state.Miss.TheVariants as miss
use Rattle.tx_journal.specs.Senders.{Reached, IsHeld}
use Rattle.tx_client.specs.Walks.{Walk, asks, grows, ends}
use Rattle.tx_steps.specs.Steps.{Text}

-- The regions in their order, the newest history that anyone here has seen, the requests that are
-- held, by name, what becomes of the next request: none where memory for the name of its hold was
-- refused; and the machine's steps, where they are kept.
pub record NetworkParts : Type 0 where
  pub regions : List Known
  pub newest : History
  pub held : List (List ℕ × Asked)
  pub delivery : Option (Delivery Text)
  pub trace : Option Noted

-- held requests by the bytes of their names
abbrev pub requests : List (String Global × Asked) → List (List ℕ × Asked)
requests entries = map (λ e. (string_bytes e.0, e.1)) entries

-- the request that is held under a name
abbrev pub request_at : List (List ℕ × Asked) → List ℕ → Option Asked
request_at held q = lookup (λ k. bytes_eq q k) held

-- some region holds what each of them speaks of
abbrev pub AllFit : List Key → List (List ℕ × Asked) → Type 0
AllFit bounds held = (q : List ℕ) (r : Asked) → request_at held q ≡ Some r → IsHeld bounds r.body

-- the seats of these are i and those that follow it
abbrev pub AreNumbered : ℕ → List Known → Type 0
AreNumbered i [] = Unit {0}
AreNumbered i (k ∷ ks) = (k.seat ≡ i) × AreNumbered (suc i) ks

-- the region that a request is for: of its key, of the first key of its range, or the
-- one that it names
abbrev pub region_of : List Key → Target Key Scan → ℕ
region_of bounds (target.Key k) = route bounds k
region_of bounds (target.Range b) = route bounds b.from
region_of bounds (target.Region n) = n

abbrev pub region_for : List Key → Body → ℕ
region_for bounds b = region_of bounds (target_of b)

-- ---- counting

-- how many events a seat has made
abbrev pub made_by : Known → ℕ
made_by k = length (part k.seat k.events)

-- an answer is one event, and none is none
abbrev pub made_for : Option Answer → ℕ
made_for None = 0
made_for (Some a) = 1

-- n has no event of a seat beyond those that the seat has made
abbrev pub IsDone : History → Known → Type 0
IsDone n k = length (part k.seat n) ≤ made_by k

-- ---- the machine's steps

-- a trace that is kept goes on with an event; or it is kept no more
abbrev pub GoesOnWith : Option Noted → Event → Option Noted → Type 0
GoesOnWith old e None = Unit {0}
GoesOnWith None e (Some new) = ⊥
GoesOnWith (Some old) e (Some new) = Adds old e new

-- a number was drawn, by whatever seat
abbrev pub NotesDrawn : ℕ → Option Noted → Option Noted → Type 0
NotesDrawn t old new = (seat : ℕ) → GoesOnWith old (Drawn seat t) new

-- a trace that is kept is as it was; or it is kept no more
abbrev pub KeptAs : Option Noted → Option Noted → Type 0
KeptAs old new = IfSome new (λ t. old ≡ Some t)

-- something was declared, or nothing
abbrev pub NotesDeclared : Option Declaration → Option Noted → Option Noted → Type 0
NotesDeclared None old new = KeptAs old new
NotesDeclared (Some d) old new = GoesOnWith old (Declared d) new

-- where a trace is kept, what is going to be declared is at hand, or memory for that was refused
abbrev pub Foresees : Option Noted → Option Declaration → Result (Option Declaration) Fault → Type 0
Foresees None d copy = copy ≡ Ok None
Foresees (Some t) d copy = IfOk copy (λ x. x ≡ d)

-- a region answered a request, or was refused memory
abbrev pub NotesTaken : Body → Option Answer → Option Noted → Option Noted → Type 0
NotesTaken body None old new = new ≡ old
NotesTaken body (Some a) old new = (x : TakenOf) → x.body ≡ body → x.answer ≡ a → GoesOnWith old (Took x) new

-- where a trace is kept, it is that of what is newest
abbrev pub IsTraced : NetworkParts → Type 0
IsTraced d = IfSome d.trace (λ t. (bounds : List Key) → IsWorldRun bounds d.newest → Traces d.newest t)

-- what regions took, oldest first, where a trace keeps that
abbrev pub takings_in : Option Noted → Option (List Taking)
takings_in o = option_and_then (λ (n : Noted). option_map (λ (t : TakenLog). t.takings.items) n.taken) o

-- ---- what regions take

-- a region may need memory to answer: to all but RaiseSafe
abbrev pub takes_memory : Body → Bool
takes_memory (RaiseSafe b) = false
takes_memory _ = true

-- The region n took a request after `from`, and answered so: others may have acted before it loaded
-- the last number, before it loaded the greatest timestamp read, and after.
pub record Tooks (n : ℕ) (from : History) (body : Body) (a : Answer) (to : History) : Type 0 where
  pub before : History
  pub point : History
  pub is : to ≡ Took (record { region = n; body = body; loaded = last point; answer = a }) ∷ before
  pub marked : History
  pub later : Begins from point
  pub marks : Begins point marked
  pub ends : Begins marked before
  pub least : AnswersFrom (max_ts marked) (left before n) (last point) body a

-- by what the region n answered
abbrev pub TakesBy : ℕ → History → Body → Option Answer → History → Type 0
TakesBy n from body None to = Begins from to × (takes_memory body ≡ true)
TakesBy n from body (Some a) to = Tooks n from body a to

-- a region took a request, or was refused memory; what it then knew is newest
pub record Taken (k : Known) (from : History) (q : Asked) (g : Given) (new : Known) (to : History) : Type 0 where
  pub request : g.request ≡ q
  pub takes : TakesBy k.seat from q.body g.answer to
  pub number : new.seat ≡ k.seat
  pub counts : made_by new ≤ made_by k + made_for g.answer

-- one of the regions did
pub record Hands (n : ℕ) (from to : NetworkParts) (q : Asked) (g : Given) : Type 0 where
  pub request : g.request ≡ q
  pub takes : TakesBy n from.newest q.body g.answer to.newest
  pub counts : sum_by made_by to.regions ≤ sum_by made_by from.regions + made_for g.answer
  pub held : to.held ≡ from.held
  pub delivery : to.delivery ≡ from.delivery
  pub notes : NotesTaken q.body g.answer from.trace to.trace

-- ---- what regions show

-- A region learnt what is newest, what it then knew is newest, and it showed a key; or memory for
-- that was refused. It made no event.
pub record Showed (k : Known) (from : History) (key : Key) (copied : Result KeyVersions Fault) (new : Known)
    (to : History) : Type 0 where
  pub begins : Begins from to
  pub number : new.seat ≡ k.seat
  pub counts : made_by new ≤ made_by k
  pub copies : IfOk copied (λ copy. Copies ((left to k.seat).cells key) copy)

-- one of the regions did
pub record Displays (n : ℕ) (from to : NetworkParts) (key : Key) (copied : Result KeyVersions Fault) : Type 0 where
  pub begins : Begins from.newest to.newest
  pub counts : sum_by made_by to.regions ≤ sum_by made_by from.regions
  pub held : to.held ≡ from.held
  pub trace : to.trace ≡ from.trace
  pub copies : IfOk copied (λ copy. Copies ((left to.newest n).cells key) copy)

-- ---- deliveries

-- no reply came
abbrev pub IsLost : Reached → Type 0
IsLost (Ok g) = ⊥
IsLost (Err l) = Unit {0}

-- a request was taken once, and then again
pub record Twice (n : ℕ) (from to : NetworkParts) (q : Asked) (g : Given) : Type 0 where
  pub first : Given
  pub mid : NetworkParts
  pub took : Hands n from mid q first
  pub again : Hands n mid to q g

-- memory was refused for a copy of the request, or for its hold: no region took it
pub record IsUntaken (from to : NetworkParts) (q : Asked) (g : Given) : Type 0 where
  pub request : g.request ≡ q
  pub answer : g.answer ≡ None
  pub same : to ≡ from

-- the request is held under a name, and no region took it
pub record HoldsRequest (name : List ℕ) (from to : NetworkParts) (q : Asked) : Type 0 where
  pub regions : to.regions ≡ from.regions
  pub newest : to.newest ≡ from.newest
  pub held : (k : List ℕ) → request_at to.held k ≡ update bytes_eq (request_at from.held) name (Some q) k
  pub many : length to.held ≡ length from.held + cond (is_some (request_at from.held name)) 0 1
  pub delivery : to.delivery ≡ from.delivery
  pub trace : to.trace ≡ from.trace

abbrev pub Untaken : NetworkParts → Asked → Reached → NetworkParts → Type 0
Untaken a q (Ok g) b = IsUntaken a b q g
Untaken a q (Err l) b = ⊥

-- it is held; or memory for that was refused
abbrev pub HeldUnder : List ℕ → NetworkParts → Asked → Reached → NetworkParts → Type 0
HeldUnder name a q (Ok g) b = IsUntaken a b q g
HeldUnder name a q (Err l) b = HoldsRequest name a b q

module _ (bounds : List Key) where
  abbrev pub Replied : NetworkParts → Asked → Reached → NetworkParts → Type 0
  Replied a q (Ok g) b = Hands (region_for bounds q.body) a b q g
  Replied a q (Err l) b = ⊥

  abbrev pub Repeated : NetworkParts → Asked → Reached → NetworkParts → Type 0
  Repeated a q (Ok g) b = IsUntaken a b q g ⊎ Twice (region_for bounds q.body) a b q g
  Repeated a q (Err l) b = ⊥

  abbrev pub Passes : Option (Delivery Text) → NetworkParts → Asked → Reached → NetworkParts → Type 0
  Passes None a q r b = Untaken a q r b
  Passes (Some deliveries.Taken) a q r b = Replied a q r b
  Passes (Some deliveries.Lost) a q r b = (b ≡ a) × IsLost r
  Passes (Some deliveries.Unanswered) a q r b = ((g : Given) × Hands (region_for bounds q.body) a b q g) × IsLost r
  Passes (Some deliveries.Repeated) a q r b = Repeated a q r b
  Passes (Some (deliveries.Held name)) a q r b = HeldUnder name a q r b

-- ---- setting the delivery

abbrev pub IsHold : Delivery Text → Type 0
IsHold (deliveries.Held name) = Unit {0}
IsHold _ = ⊥

-- so the next requests go; or memory for the name of their hold was refused
abbrev pub IsSet : Delivery Text → NetworkParts → NetworkParts → Type 0
IsSet delivery from to = (to ≡ record from { delivery = Some delivery })
    ⊎ (IsHold delivery × (to ≡ record from { delivery = None }))

-- ---- where nobody else acts

-- what requests change: what has happened, and what is held under names, of which
-- so many are in use
pub record NetworkState : Type 0 where
  pub history : History
  pub held : List ℕ → Option Body
  pub kept : ℕ

-- what is held under a name
abbrev pub body_at : List (List ℕ × Asked) → List ℕ → Option Body
body_at held q = option_map (λ (r : Asked). r.body) (request_at held q)

-- what the network has of it
abbrev pub network_state : NetworkParts → NetworkState
network_state d = record { history = d.newest; held = λ q. body_at d.held q; kept = length d.held }

-- what has happened is this
abbrev pub with_events : NetworkState → History → NetworkState
with_events s h = record { history = h; held = s.held; kept = s.kept }

-- after a region took a request, and answered so
abbrev pub taken : List Key → NetworkState → Body → Answer → NetworkState
taken bounds s body a = with_events s (Took (record {
  region = region_for bounds body;
  body = body;
  loaded = last s.history;
  answer = a;
}) ∷ s.history)

-- after a request was held under a name
abbrev pub holding : NetworkState → List ℕ → Body → NetworkState
holding s name body = record {
  history = s.history;
  held = update bytes_eq s.held name (Some body);
  kept = s.kept + cond (is_some (s.held name)) 0 1;
}

-- a name to hold under is of 1 to 64 bytes, and not in use
abbrev pub may_go : NetworkState → Delivery Text → Bool
may_go s (deliveries.Held name) = is_name name && not (is_some (s.held name))
may_go s _ = true

-- a request that is to be held would be one too many
abbrev pub is_crowded : NetworkState → Delivery Text → Bool
is_crowded s (deliveries.Held name) = nat_le MAX_HELD_REQUESTS s.kept
is_crowded s _ = false

-- it is held, and not taken; or memory for that was refused
abbrev pub MetHold : List ℕ → NetworkState → Body → Response → NetworkState → Type 0
MetHold name s body (Err miss.Lost) next = next ≡ holding s name body
MetHold name s body (Err miss.Fault) next = next ≡ s
MetHold name s body (Ok a) next = ⊥

module _ (bounds : List Key) where
  -- the region answers by the case tables from what its events left, with the least minimum
  -- for an async lock
  abbrev pub MayAnswerSo : NetworkState → Body → Answer → Type 0
  MayAnswerSo s body a = AnswersNext s.history (region_for bounds body) (last s.history) body a

  -- the region of a key shows what its events left there
  abbrev pub MayShowSo : NetworkState → Key → KeyVersions → Type 0
  MayShowSo s key copy = Copies ((left s.history (route bounds key)).cells key) copy

  -- what came of a request that a region took, and what it changed
  abbrev pub Met : NetworkState → Body → Response → NetworkState → Type 0
  Met s body (Err miss.Lost) next = ⊥
  Met s body (Err miss.Fault) next = (takes_memory body ≡ true) × (next ≡ s)
  Met s body (Ok a) next = MayAnswerSo s body a × (next ≡ taken bounds s body a)

  -- its reply was lost
  abbrev pub MetLost : NetworkState → Body → Response → NetworkState → Type 0
  MetLost s body (Err miss.Lost) next = (c : Response) × Met s body c next
  MetLost s body _ next = ⊥

  -- it was taken twice; or memory for a copy was refused, and it was not taken
  abbrev pub MetTwice : NetworkState → Body → Response → NetworkState → Type 0
  MetTwice s body c next = ((c ≡ Err miss.Fault) × (next ≡ s))
      ⊎ ((first : Response) × (mid : NetworkState) × Met s body first mid × Met mid body c next)

  -- it was lost
  abbrev pub LostAll : NetworkState → Response → NetworkState → Type 0
  LostAll s (Err miss.Lost) next = next ≡ s
  LostAll s _ next = ⊥

  -- what came of a request by its delivery, and what it changed
  abbrev pub Reach : Option (Delivery Text) → NetworkState → Body → Response → NetworkState → Type 0
  Reach None s body c next = (c ≡ Err miss.Fault) × (next ≡ s)
  Reach (Some deliveries.Taken) s body c next = Met s body c next
  Reach (Some deliveries.Lost) s body c next = LostAll s c next
  Reach (Some deliveries.Unanswered) s body c next = MetLost s body c next
  Reach (Some deliveries.Repeated) s body c next = MetTwice s body c next
  Reach (Some (deliveries.Held name)) s body c next = MetHold name s body c next

  -- a walk, and what it changed
  abbrev pub Runs : {R : Type 0} → Option (Delivery Text) → NetworkState → Walk R → R → NetworkState → Type 0
  Runs delivery s (ends r) result next = (result ≡ r) × (next ≡ s)
  Runs delivery s (grows more short) result next = Runs delivery s short result next ⊎ Runs delivery s more result next
  Runs delivery s (asks body more) result next = (c : Response) × (mid : NetworkState) × Reach delivery s body c mid
      × Runs delivery mid (more c) result next
