-- What comes of a plan.
use Rattle.std.proofs.Common.{◌≡◌, ◌≤◌, ℕ, inl, inr, List, ◌∷◌, Option, Some, None, sym, ap, subst, ◌∙◌, arith}
use Rattle.std.specs.Prelude.{IfSome, IfNone}
use Rattle.std.proofs.lemmas.Bool.{cases_lt}
use Rattle.tx_types.specs.declared.key.Key.{Key}
use Rattle.tx_plan.specs.declared.body.Body.{Body}
use Rattle.tx_plan.specs.declared.answer.Answer.{Answer}
use Rattle.tx_plan.specs.declared.planned_answer.Plan.{Plan}
use Rattle.tx_plan.specs.Cells.{Region}
use Rattle.tx_plan.specs.Answers.{AnswersFrom, leaves}
use Rattle.tx_plan.specs.Plans.{read_upto}
use Rattle.tx_cells.specs.Contents.{Content}
use Rattle.tx_core.specs.declared.event.Event.TheVariants.{Took}
use Rattle.tx_core.specs.Allowed.{Allowed}
use Rattle.tx_core.specs.Histories.{History, last, left, Begins}
use Rattle.tx_core.specs.ReadMarks.{max_ts}
use Rattle.tx_core.specs.Recording.{MayRecord, Extends}
use Rattle.tx_core.specs.Worlds.{Holds}
use Rattle.tx_core.proofs.seats.Replies.{left_on}
use Rattle.tx_core.proofs.seats.Beginnings.{begins_more, extends_begins, extends_more}
use Rattle.tx_core.proofs.seats.ReadMarks.{read_on}
use Rattle.tx_core.specs.LastChanges.{turns}
use Rattle.tx_journal.specs.Known.{Known, HasSeen, HasRecorded}
use Rattle.tx_journal.specs.Replies.{Asked, Given}
use Rattle.tx_journal.proofs.Calls.{seen_more}
use Rattle.tx_region.specs.Calls.{CarriesOut}
use Rattle.tx_region.specs.Copies.{key_in, SameKey, made, IsPlan, IsAbove}
use Rattle.tx_region.specs.KeyPlans.{PlanOf, AreOf, IsPlanFor, StayedKey, IsRight, Carried, CarriesPlan, AppliedTo, ComesOf}
use Rattle.tx_region.specs.TakenRequests.{HoldsWhatIsLeft, NeedsMark, Knows}
use Rattle.tx_region.specs.declared.applied.Applied.{Applied}
use Rattle.tx_region.specs.declared.applied.Applied.TheVariants.{Done, Stale}
use Rattle.tx_region.specs.declared.copy.Loaded.{Loaded}
use Rattle.tx_region.specs.declared.copy.RegionNumbers.{RegionNumbers}
use Rattle.tx_region.proofs.PlanEffects.{region_by}
use Rattle.tx_region.proofs.Copies.{planned_answers, planned_leaves, plan_still}
use Rattle.tx_region.proofs.TakenRequests.{may_answer, reads, tells_of}

-- ---- what is compared is what has to be the same

module _ (bounds : List Key) (k : Known) (content : Content)
    (s c : ℕ) (count : ℕ)
    (numbers : Key → ℕ) (is : HoldsWhatIsLeft bounds k (λ m. region_by content m s c) count numbers) where
  module _ (l : History) (b : Begins l k.events)
      (copied : RegionNumbers) (taken : ℕ) (loaded : Loaded) (are : AreOf l k.seat copied taken loaded)
      (key : Key) where
    pub key_same : StayedKey (region_by content 0 s c) (numbers key) copied taken
        → SameKey key (left l k.seat) (left k.events k.seat)
    key_same stayed =
        let collected : (left l k.seat).collected ≡ (left k.events k.seat).collected =
        sym are.collected ∙ (stayed.collected ∙ ap (λ (r : Region). r.collected) is.left) in
        let upto : numbers key ≤ turns l k.seat =
        (let few = stayed.key in let counted = are.count in omega (arith, few, counted)) in
        record {
          cells = (is.noted key).same l b collected upto;
          safe = sym are.safe ∙ (stayed.safe ∙ ap (λ (r : Region). r.safe) is.left);
          collected = collected;
        }

    pub key_stayed : SameKey key (left l k.seat) (left k.events k.seat)
        → StayedKey (region_by content 0 s c) (numbers key) copied taken
    key_stayed same = record {
      key = elim (cases_lt taken (numbers key)) [
        | inl lt ↦ absurd ((is.noted key).changed l b same.collected (let counted =
            are.count in omega (arith, lt, counted)) same.cells)
        | inr le ↦ le
      ];
      safe = are.safe ∙ (same.safe ∙ sym (ap (λ (r : Region). r.safe) is.left));
      collected = are.collected ∙ (same.collected ∙ sym (ap (λ (r : Region). r.collected) is.left));
    }

-- ---- a plan that is carried out

-- a plan that is right for what the seat's own events had left is right for what the region holds
pub plan_holds : (bounds : List Key) (old k : Known) → HasSeen bounds k.seat old.events k.events → k.seat ≡ old.seat
    → (content : Content) (s c : ℕ) (taken : ℕ)
    (numbers : Key → ℕ) (keeps : HoldsWhatIsLeft bounds k (λ m. region_by content m s c) taken numbers)
    (mark loaded : ℕ) (b : Body) (p : Plan)
    → IsPlan mark (left old.events old.seat) loaded b p
    → IsPlan mark (region_by content (left k.events k.seat).max_read s c) loaded b p
plan_holds bounds old k here number content s c taken numbers keeps mark loaded b p plan =
    subst (λ r. IsPlan mark r loaded b p)
    (sym (keeps.left ∙ (left_on k.seat old.events k.events here.extends ∙ ap (left old.events) number))) plan

-- The seat had seen `old`, and knows more by now; the plan is right for what its own events had
-- left, and its minimum lies above each read.
module _ (bounds : List Key) (old k : Known) (here : HasSeen bounds k.seat old.events k.events)
    (number : k.seat ≡ old.seat) (content : Content)
    (s c : ℕ) (taken : ℕ)
    (numbers : Key → ℕ) (keeps : HoldsWhatIsLeft bounds k (λ m. region_by content m s c) taken numbers)
    (after : ℕ → Region) (mine : (m : ℕ) → (after m).max_read ≡ m) (q : Asked) (allowed : Allowed q.by q.body)
    (holds : Holds bounds old.seat q.body) (loaded mark : ℕ) (knows : Knows q.by old.events loaded)
    (marks : NeedsMark q.body → mark ≤ max_ts old.events)
    (p : Plan) (plan : IsPlan mark (left old.events old.seat) loaded q.body p) (above : IsAbove p.change k.events)
    (a : Answer) (read : Option ℕ)
    (out : (m : ℕ) → CarriesOut (region_by content m s c)
    (key_in q.body) (made q.body ((region_by content m s c).cells (key_in q.body)) p.change) p a read
    (after m)) where
  beyond : Begins old.events k.events
  beyond = extends_begins k.seat old.events k.events here.extends

  abbrev pub now : ℕ
  now = (left k.events k.seat).max_read

  still : left k.events k.seat ≡ left old.events old.seat
  still = left_on k.seat old.events k.events here.extends ∙ ap (left old.events) number

  plan_here : IsPlan mark (region_by content now s c) loaded q.body p
  plan_here = plan_holds bounds old k here number content s c taken numbers keeps mark loaded q.body p plan

  higher : NeedsMark q.body → mark ≤ max_ts k.events
  higher needs = (let upto = marks needs in let more = read_on old.events k.events beyond in omega (arith, upto, more))

  plan_now : IsPlan (max_ts k.events) (region_by content now s c) loaded q.body p
  plan_now = plan_still q.body (region_by content now s c) loaded mark (max_ts k.events) p higher above plan_here

  pub least_here : AnswersFrom (max_ts k.events) (left k.events k.seat) loaded q.body a
  least_here = subst (λ r. AnswersFrom (max_ts k.events) r loaded q.body a) keeps.left
      (planned_answers content s c after (max_ts k.events) loaded q.body p a read out now plan_now)

  pub does_here : after (read_upto read now) ≡ leaves (left k.events k.seat) q.body a
  does_here = planned_leaves content s c after (max_ts k.events) loaded q.body p a read out now plan_now
      ∙ ap (λ r. leaves r q.body a) keeps.left

  pub knows_here : Knows q.by k.events loaded
  knows_here = record {
    point = knows.point;
    heard = knows.heard;
    upto = begins_more knows.point old.events k.events knows.upto beyond;
    is_last =
        knows.is_last;
  }

  pub may_here : MayRecord bounds k.seat k.events
      (Took record { region = k.seat; body = q.body; loaded = loaded; answer = a })
  may_here = may_answer bounds k.seat keeps.inside k.events
      here.run q.by q.body loaded knows_here allowed (subst (λ n. Holds bounds n q.body) (sym number) holds) a
      least_here

  pub reads_here : max_ts (Took record { region = k.seat; body = q.body; loaded = loaded; answer = a } ∷ k.events)
      ≡ read_upto read (max_ts k.events)
  reads_here = reads bounds k.seat k.events q.body loaded a (λ m. region_by content m s c) after read keeps.left mine
      does_here

  pub carried : (g : Given) → g.request ≡ q → HasRecorded bounds k.seat k.events
      (Took record { region = k.seat; body = q.body; loaded = loaded; answer = a }) g.events
      → Carried bounds old.seat old.events loaded p g a
  carried g said added = record {
    marked = k.events;
    seen = subst (λ n. HasSeen bounds n old.events k.events) number here;
    above = above;
    added = subst (λ (x : ℕ × Asked). HasRecorded bounds x.0 k.events
        (Took record { region = x.0; body = x.1.body; loaded = loaded; answer = a }) g.events)
        (λ i. (number i, sym said i)) added;
    least = subst (λ (x : Region × Asked). AnswersFrom (max_ts k.events) x.0 loaded x.1.body a)
        (λ i. (still i, sym said i)) least_here;
  }

-- ---- a plan that is applied

-- The region had seen `old`, learnt what the plan's seat had seen, and knew `mid`; its key was as
-- it was copied.
module _ (bounds : List Key) (old mid : Known) (number : mid.seat ≡ old.seat)
    (learns : HasSeen bounds old.seat old.events mid.events) (plan : PlanOf) (told : Begins plan.events mid.events)
    (q : Asked) (of : IsPlanFor q plan) where
  -- in the words of what it had seen
  same_before : SameKey (key_in q.body) (left plan.events mid.seat) (left mid.events mid.seat)
      → SameKey (key_in q.body) (left plan.events old.seat) (left old.events old.seat)
  same_before same =
      subst (λ (x : ℕ × Region). SameKey (key_in q.body) (left plan.events x.0) x.1)
      (λ i. (number i, (ap (left mid.events) number ∙ left_on old.seat old.events mid.events learns.extends) i))
      same

  pub not_before : (SameKey (key_in q.body) (left plan.events mid.seat) (left mid.events mid.seat) → ⊥)
      → SameKey (key_in q.body) (left plan.events old.seat) (left old.events old.seat) → ⊥
  not_before changed same =
      changed (subst (λ (x : ℕ × Region). SameKey (key_in q.body) (left plan.events x.0) x.1)
      (λ i. (
        sym number i,
        sym (ap (left mid.events) number ∙ left_on old.seat old.events mid.events learns.extends)
            i,
      )) same)

  pub knows_mid : Knows q.by mid.events plan.loaded.last
  knows_mid = record {
    point = of.knows.point;
    heard = of.knows.heard;
    upto = begins_more of.knows.point plan.events mid.events of.knows.upto told;
    is_last =
        of.knows.is_last;
  }

  pub mark_mid : NeedsMark q.body → plan.loaded.mark ≤ max_ts mid.events
  mark_mid needs = (let is = of.is_mark needs in let more =
      read_on plan.events mid.events told in omega (arith, is, more))

  module _ (same : SameKey (key_in q.body) (left plan.events mid.seat) (left mid.events mid.seat)) where
    applied : (g : Given) (a : Answer) → g.request ≡ q
        → Carried bounds mid.seat mid.events plan.loaded.last plan.planned g a
        → AppliedTo bounds old.seat old.events plan g a
    applied g a said x =
        let n = old.seat in
        let seen : HasSeen bounds n mid.events x.marked =
        subst (λ m. HasSeen bounds m mid.events x.marked) number x.seen in
        let goes : Extends n old.events x.marked =
        extends_more n old.events mid.events x.marked learns.extends seen.extends in
        let later : Begins plan.events x.marked =
        begins_more plan.events mid.events x.marked told (extends_begins n mid.events x.marked seen.extends) in
        let knows : Knows q.by x.marked plan.loaded.last =
        record {
          point = of.knows.point;
          heard = of.knows.heard;
          upto = begins_more of.knows.point plan.events x.marked of.knows.upto later;
          is_last = of.knows.is_last;
        } in
        let added : HasRecorded bounds n
        x.marked (Took record { region = n; body = g.request.body; loaded = plan.loaded.last; answer = a })
        g.events =
        subst (λ m. HasRecorded bounds m x.marked
        (Took record { region = m; body = g.request.body; loaded = plan.loaded.last; answer = a }) g.events) number
        x.added in
        let t = tells_of bounds n old.events x.marked q.by plan.loaded.last goes knows g a
        (ap (λ (r : Asked). r.by) said) added in
        record {
          tells = t.0;
          loads = of.knows.is_last ∙ ap last (sym t.1);
          upto = subst (λ h. Begins h plan.events) (sym t.1) of.knows.upto;
          same = subst (λ (r : Asked). SameKey (key_in r.body) (left plan.events n) (left old.events n)) (sym said)
              (same_before same);
          marked = x.marked;
          later = later;
          ends = subst (λ h. Begins x.marked h) (sym t.2) (extends_begins n x.marked added.before added.extends);
          above = x.above;
          least = subst (λ r. AnswersFrom (max_ts x.marked) r plan.loaded.last g.request.body a)
              (ap (left mid.events) number ∙ left_on n old.events mid.events learns.extends) x.least;
        }

    some_applied : (o : Option Answer) (g : Given) → g.request ≡ q
        → IfSome o (Carried bounds mid.seat mid.events plan.loaded.last plan.planned g)
        → IfSome o (AppliedTo bounds old.seat old.events plan g)
    some_applied None g said x = tt
    some_applied (Some a) g said x = applied g a said x

    seen_all : (now : History) → HasSeen bounds mid.seat mid.events now → HasSeen bounds old.seat old.events now
    seen_all now seen = seen_more bounds old.seat old.events mid.events now learns
        (subst (λ m. HasSeen bounds m mid.events now) number seen)

    none_seen : (o : Option Answer) (h : History) → IfNone o (IsAbove plan.planned.change h
        × HasSeen bounds mid.seat mid.events h)
        → IfNone o (IsRight old.seat old.events h q plan × HasSeen bounds old.seat old.events h)
    none_seen None h x = (record { same = same_before same; above = x.0 }, seen_all h x.1)
    none_seen (Some a) h x = tt

    pub comes_of : {J : Type 0} (r : Applied J) (now : History)
        → CarriesPlan bounds mid.seat mid.events now q plan.loaded.last plan.planned r
        → ComesOf bounds old.seat old.events now q plan r
    comes_of (Done g) now x = (x.0, x.1, some_applied g.answer g x.0 x.2, none_seen g.answer now x.3)
    comes_of (Stale again) now x = (x.0, inr x.1, seen_all now x.2)
