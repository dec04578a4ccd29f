-- What the post's taking makes of what is newest.
use Rattle.std.proofs.Common.{◌≡◌, ◌≤◌, ◌<◌, ◌+◌, ℕ, suc, zero, List, [], ◌∷◌, length, slice_get, slice_set, slice_index_or, Option, Some, None, false, true, refl, sym, ap, subst, ◌∙◌, arith}
use Rattle.std.specs.List.{sum_by}
use Rattle.std.specs.Prelude.{IfNone, IfSome, IsSome}
use Rattle.std.proofs.lemmas.List.Sums.{sum_by-set}
use Rattle.std.proofs.lemmas.Option.{slice_get_within, get_or_from_slice_get}
use Rattle.tx_types.specs.declared.key.Key.{Key}
use Rattle.tx_plan.specs.declared.body.Body.{Body}
use Rattle.tx_plan.specs.declared.body.Body.TheVariants.{RaiseSafe}
use Rattle.tx_plan.specs.declared.answer.Answer.{Answer}
use Rattle.tx_plan.specs.Answers.{AnswersFrom}
use Rattle.tx_core.specs.declared.event.Event.TheVariants.{Took}
use Rattle.tx_core.specs.Histories.{History, last, left, Begins}
use Rattle.tx_core.specs.ReadMarks.{max_ts}
use Rattle.tx_core.specs.Recording.{part}
use Rattle.tx_core.proofs.Basics.{some_same}
use Rattle.tx_core.proofs.seats.Replies.{left_on}
use Rattle.tx_core.proofs.seats.Beginnings.{begins_more, extends_begins}
use Rattle.tx_core.proofs.seats.Parts.{part_extends}
use Rattle.tx_journal.specs.Known.{Known, HasSeen}
use Rattle.tx_journal.specs.Replies.{Asked, Given}
use Rattle.tx_region.specs.Calls.{TakesNoMemory}
use Rattle.tx_region.specs.TakenRequests.{Answered}
use Rattle.tx_network.specs.Networks.{NetworkParts, AreNumbered, made_by, made_for, NotesTaken, takes_memory, TakesBy, Taken, Hands}
use Rattle.tx_network.proofs.Counts.{part_upto}

-- the region k learnt what is newest and was then k1, and is k2 after it took the request
module _ (bounds : List Key) (k k1 k2 : Known) (n : History) (q : Asked) (g : Given) (number : k1.seat
    ≡ k.seat) (own : part k.seat k1.events ≡ part k.seat k.events) (knows : Begins n k1.events)
    (still : k2.seat ≡ k1.seat) (told : k2.events ≡ g.events) (asked : g.request ≡ q) where
  same : k2.seat ≡ k.seat
  same = still ∙ number

  made_upto : (m : ℕ) → length (part k.seat k2.events) ≤ length (part k.seat k1.events) + m → made_by k2 ≤ made_by k + m
  made_upto m le = (let here : made_by k2 ≡ length (part k.seat k2.events) = ap (λ i. length (part i k2.events)) same in
      omega (arith, here, le, ap length own))

  took : (a : Answer) → Answered bounds k1.seat k1.events g a
      → TakesBy k.seat n q.body (Some a) k2.events × (made_by k2 ≤ made_by k + 1)
  took a x = (
    record {
      before = x.tells.before;
      point = x.tells.point;
      is = told ∙ (x.tells.ends
          ∙ (λ i. Took (record { region = number i; body = (asked i).body; loaded = last x.tells.point; answer = a })
          ∷ x.tells.before));
      later = begins_more n k1.events x.tells.point knows (extends_begins k1.seat k1.events x.tells.point x.loads);
      marked = x.marked;
      marks = x.later;
      ends = x.ends;
      least = subst (λ (p : ℕ
          × Body). AnswersFrom (max_ts x.marked) (left x.tells.before p.0) (last x.tells.point) p.1 a)
          (λ i. (number i, (asked i).body))
          (subst (λ r. AnswersFrom (max_ts x.marked) r (last x.tells.point) g.request.body a)
          (sym (left_on k1.seat k1.events x.tells.before x.tells.region)) x.least);
    },
    made_upto 1
        (let events = ap (λ h. length (part k.seat h)) (told ∙ x.tells.ends) in
        let one = part_upto k.seat
        (Took (record { region = k1.seat; body = g.request.body; loaded = last x.tells.point; answer = a }))
        x.tells.before in
        let rest : part k.seat x.tells.before ≡ part k.seat k1.events =
        subst (λ i. part i x.tells.before
        ≡ part i k1.events) number (part_extends k1.seat k1.events x.tells.before x.tells.region) in
        omega (arith, events, one, ap length rest)),
  )

  quiet : HasSeen bounds k1.seat k1.events k2.events → Begins n k2.events × (made_by k2 ≤ made_by k + 0)
  quiet seen = (
    begins_more n k1.events k2.events knows (extends_begins k1.seat k1.events k2.events seen.extends),
    made_upto 0 (let rest : part k.seat k2.events ≡ part k.seat k1.events =
        subst (λ i. part i k2.events
        ≡ part i k1.events) number (part_extends k1.seat k1.events k2.events seen.extends) in
        omega (arith, ap length rest)),
  )

  abbrev no_answer : Option Answer
  no_answer = None

  -- what needs no memory is answered
  needs : (b : Body) → (TakesNoMemory b → IsSome no_answer) → takes_memory b ≡ true
  needs (RaiseSafe b) always = (let e : false ≡ true = always tt in absurd (cc (e)))
  needs _ always = refl

  by_answer : (o : Option Answer) → IfSome o (Answered bounds k1.seat k1.events g) → (TakesNoMemory q.body → IsSome o)
      → IfNone o (HasSeen bounds k1.seat k1.events k2.events)
      → TakesBy k.seat n q.body o k2.events × (made_by k2 ≤ made_by k + made_for o)
  by_answer None some always none = (let x = quiet none in ((x.0, needs q.body always), x.1))
  by_answer (Some a) some always none = took a some

  pub taken_by : IfSome g.answer (Answered bounds k1.seat k1.events g) → (TakesNoMemory q.body → IsSome g.answer)
      → IfNone g.answer (HasSeen bounds k1.seat k1.events k2.events) → Taken k n q g k2 k2.events
  taken_by some always none =
      (let x = by_answer g.answer some always none in
      record { request = asked; takes = x.0; number = same; counts = x.1 })

-- what stands at an index
pub there_at : {X : Type 0} (xs : List X) (k : ℕ) (x : X) → k < length xs → x ≡ slice_index_or xs k x
    → slice_get xs k ≡ Some x
there_at [] k x within is = absurd (omega (arith, within))
there_at (y ∷ ys) zero x within is = ap Some (sym is)
there_at (y ∷ ys) (suc k) x within is = there_at ys k x (omega (arith, within)) is

-- the seat of the region at an index
pub numbered_at : (i n : ℕ) (ks : List Known) (k : Known) → slice_get ks n ≡ Some k → AreNumbered i ks → k.seat ≡ i + n
numbered_at i n [] k there all = absurd (cc (there))
numbered_at i zero (x ∷ ks) k there all =
    subst (λ (y : Known). y.seat ≡ i + 0) (some_same x k there) (all.0 ∙ omega arith)
numbered_at i (suc n) (x ∷ ks) k there all = numbered_at (suc i) n ks k there all.1 ∙ omega arith

-- another seat with its number
pub numbered_set : (i n : ℕ) (ks : List Known) (k new : Known) → slice_get ks n ≡ Some k → new.seat ≡ k.seat
    → AreNumbered i ks → AreNumbered i (slice_set ks n new)
numbered_set i n [] k new there kept all = tt
numbered_set i zero (x ∷ ks) k new there kept all =
    (kept ∙ (ap (λ (y : Known). y.seat) (sym (some_same x k there)) ∙ all.0), all.1)
numbered_set i (suc n) (x ∷ ks) k new there kept all = (all.0, numbered_set (suc i) n ks k new there kept all.1)

-- the region at an index took a request
pub handed_at : (n index : ℕ) (from to : NetworkParts) (k new : Known) (q : Asked) (g : Given) → index ≡ n
    → slice_get from.regions index ≡ Some k → AreNumbered 0 from.regions → to.regions ≡ slice_set from.regions index new
    → to.held ≡ from.held → to.delivery ≡ from.delivery
    → Taken k from.newest q g new to.newest → NotesTaken q.body g.answer from.trace to.trace → Hands n from to q g
handed_at n index from to k new q g is there all placed held delivery took notes =
    let number : k.seat ≡ n = numbered_at 0 index from.regions k there all ∙ (omega (arith, is)) in
    let sums = sum_by-set made_by from.regions index new k (slice_get_within from.regions index k there) in
    let here = ap made_by (get_or_from_slice_get from.regions index k k there) in
    record {
      request = took.request;
      takes = subst (λ i. TakesBy i from.newest q.body g.answer to.newest) number took.takes;
      counts = omega (arith, sums, here, took.counts, ap (sum_by made_by) placed);
      held = held;
      delivery = delivery;
      notes = notes;
    }
