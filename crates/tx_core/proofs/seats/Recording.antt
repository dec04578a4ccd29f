-- What a seat may record: one lemma a kind of event.
use Rattle.std.proofs.Common.{◌≡◌, ◌≢◌, ◌+◌, ◌<◌, ◌≤◌, ℕ, inl, inr, true, false, List, [], ◌∷◌, length, Some, None, refl, sym, ap, subst, ◌∙◌, arith}
use Rattle.tx_types.specs.declared.key.Key.{Key}
use Rattle.tx_types.specs.declared.mutation.Mode.{Mode}
use Rattle.tx_types.specs.declared.mutation.Mode.TheVariants.{TwoPhase, Async}
use Rattle.tx_plan.specs.declared.body.Body.{Body}
use Rattle.tx_plan.specs.declared.body.Body.TheVariants.{Prewrite}
use Rattle.tx_plan.specs.Answers.{floor_in, Answers, AnswersFrom}
use Rattle.tx_plan.proofs.LeastMinimum.{mark_admitted}
use Rattle.tx_machine.specs.Keys.{IsDistinct}
use Rattle.tx_core.specs.declared.event.Declaration.{Declaration}
use Rattle.tx_core.specs.declared.event.Outcome.{Outcome}
use Rattle.tx_core.specs.declared.event.Taken.{Taken}
use Rattle.tx_core.specs.declared.event.Event.{Event}
use Rattle.tx_core.specs.declared.event.Event.TheVariants.{Drawn, Began, Declared, Answered, Stopped, Took}
use Rattle.tx_core.specs.Histories.{History, last, drawer, began, declared, answered, DrewSince, left, WasLast}
use Rattle.tx_core.specs.Allowed.{Allowed}
use Rattle.tx_core.specs.Worlds.{Holds, MayAnswer, IsWorldRun}
use Rattle.tx_core.specs.Recording.{owner, Extends, MayRecord}
use Rattle.tx_core.proofs.Basics.{nat_test, is_some}
use Rattle.tx_core.proofs.seats.Beginnings.{other_run_on, extends_begins, extends_more}
use Rattle.tx_core.proofs.seats.Stays.{last_on, was_last_on, was_last_upto, drawer_next, drawer_on, drawer_new, drew_since_on, declared_drew, began_on, began_drawn}
use Rattle.tx_core.proofs.seats.StaysAllowed.{allowed_on}
use Rattle.tx_core.proofs.seats.Replies.{left_on, answers_later, may_answer_on}

-- ---- what the seat that drew a start has not done, nobody does

module _ (i t : ℕ) (h : History) (by : drawer h t ≡ Some i) where
  unbegun_next : (e : Event) → owner h e ≢ Some i → began h t ≡ false → began (e ∷ h) t ≡ false
  unbegun_next (Began u) other is =
      elim (nat_test u t) [ inl x ↦ absurd (other (ap (drawer h) x.1 ∙ by)) | inr x ↦ rw x.0 is ]
  unbegun_next (Drawn s n) other is = is
  unbegun_next (Declared d) other is = is
  unbegun_next (Answered u o) other is = is
  unbegun_next (Stopped s) other is = is
  unbegun_next (Took x) other is = is

  undeclared_next : (e : Event) → owner h e ≢ Some i → declared h t ≡ None → declared (e ∷ h) t ≡ None
  undeclared_next (Declared d) other is =
      elim (nat_test d.start t) [ inl x ↦ absurd (other (ap (drawer h) x.1 ∙ by)) | inr x ↦ rw x.0 is ]
  undeclared_next (Drawn s n) other is = is
  undeclared_next (Began u) other is = is
  undeclared_next (Answered u o) other is = is
  undeclared_next (Stopped s) other is = is
  undeclared_next (Took x) other is = is

  unanswered_next : (e : Event) → owner h e ≢ Some i → answered h t ≡ false → answered (e ∷ h) t ≡ false
  unanswered_next (Answered u o) other is =
      elim (nat_test u t) [ inl x ↦ absurd (other (ap (drawer h) x.1 ∙ by)) | inr x ↦ rw x.0 is ]
  unanswered_next (Drawn s n) other is = is
  unanswered_next (Began u) other is = is
  unanswered_next (Declared d) other is = is
  unanswered_next (Stopped s) other is = is
  unanswered_next (Took x) other is = is

module _ (bounds : List Key) (i t : ℕ) (l h : History) (run : IsWorldRun bounds h) (goes : Extends i l h)
    (by : drawer l t ≡ Some i) where
  -- a fact of what the seat drew, which each event of another seat keeps
  own_on : (P : History → Type 0)
      → ((x : History) (e : Event) → drawer x t ≡ Some i → owner x e ≢ Some i → P x → P (e ∷ x)) → P l → P h
  own_on P step p = (other_run_on bounds i (λ x. (drawer x t ≡ Some i)
      × P x) (λ x e r may other both. (drawer_next bounds x e r may t i both.0, step x e both.0 other both.1)) l h run
      goes (by, p)).1

  pub unbegun_on : began l t ≡ false → began h t ≡ false
  unbegun_on = own_on (λ x. began x t ≡ false) (λ x e drawn. unbegun_next i t x drawn e)

  pub undeclared_on : declared l t ≡ None → declared h t ≡ None
  undeclared_on = own_on (λ x. declared x t ≡ None) (λ x e drawn. undeclared_next i t x drawn e)

  pub unanswered_on : answered l t ≡ false → answered h t ≡ false
  unanswered_on = own_on (λ x. answered x t ≡ false) (λ x e drawn. unanswered_next i t x drawn e)

-- ---- what may be recorded

-- the floor of a prewrite lies at most one above the last number
floor_upto : (bounds : List Key) (h : History) → IsWorldRun bounds h → (body : Body) → Allowed h body
    → floor_in body ≤ last h + 1
floor_upto bounds h run (Prewrite b) may =
    omega (arith, may.floor, of_mode may.of.mode, declared_drew bounds h run b.start may.of may.stands)
  where
    of_mode : (m : Mode) → elim m as (λ _. ℕ) [ TwoPhase ↦ 0 | Async ↦ may.of.drawn + 1 ] ≤ may.of.drawn + 1
    of_mode TwoPhase = omega arith
    of_mode Async = omega arith
floor_upto bounds h run _ may = omega arith

module _ (bounds : List Key) (i : ℕ) (l : History) where
  -- a region takes a request that is allowed after what it has seen
  pub may_take : (x : Taken) → x.region ≡ i → i ≤ length bounds → Allowed l x.body → Holds bounds x.region x.body
      → WasLast l x.loaded → Answers (left l x.region) x.loaded (last l) x.body x.answer → MayRecord bounds i l (Took x)
  may_take x own inside allowed holds was answers h run goes =
      let b = extends_begins i l h goes in
      let same : left h x.region ≡ left l x.region =
      subst (λ n. left h n ≡ left l n) (sym own) (left_on i l h goes) in (
        record {
          region = subst (λ n. n ≤ length bounds) (sym own) inside;
          allowed = allowed_on bounds l h run b x.body allowed;
          holds = holds;
          loaded = was_last_upto bounds h run x.loaded (was_last_on l h b x.loaded was);
          answers = answers_later (left h x.region) x.loaded (last l) (last h) (last_on bounds l h run b) x.body
              x.answer (subst (λ region. Answers region x.loaded (last l) x.body x.answer) (sym same) answers);
        },
        ap Some own,
      )

  -- so it may answer with the least minimum above a mark, which covers what was read in the region
  -- and does not lie above the last number drawn
  pub may_take_from : (mark : ℕ) (x : Taken) → x.region ≡ i → i ≤ length bounds → Allowed l x.body
      → Holds bounds x.region x.body → WasLast l x.loaded → IsWorldRun bounds l → (left l x.region).max_read ≤ mark
      → mark ≤ last l → AnswersFrom mark (left l x.region) x.loaded x.body x.answer → MayRecord bounds i l (Took x)
  may_take_from mark x own inside allowed holds was run covers upto answers =
      may_take x own inside allowed holds was
      (mark_admitted mark (left l x.region) x.loaded (last l) x.body x.answer covers upto
      (was_last_upto bounds l run x.loaded was) (floor_upto bounds l run x.body allowed) answers)

  -- a session begins at a number that it drew, and that did not begin yet
  pub may_begin : (t : ℕ) → drawer l t ≡ Some i → began l t ≡ false → MayRecord bounds i l (Began t)
  may_begin t by new h run goes =
      let still = drawer_on bounds l h run (extends_begins i l h goes) t i by in
      ((is_some (drawer h t) i still, unbegun_on bounds i t l h run goes by new), still)

  -- it declares once, with a number that it drew since, before it answers
  pub may_declare : (d : Declaration) → drawer l d.start ≡ Some i → began l d.start ≡ true
      → answered l d.start ≡ false → declared l d.start ≡ None → d.changes ≢ [] → IsDistinct d.changes
      → DrewSince l d.start d.drawn → MayRecord bounds i l (Declared d)
  may_declare d by begun unanswered new some distinct drew h run goes =
      let b = extends_begins i l h goes in (
        record {
          begun = began_on l h b d.start begun;
          unanswered = unanswered_on bounds i d.start l h run goes by unanswered;
          once = undeclared_on bounds i d.start l h run goes by new;
          some =
              some;
          distinct = distinct;
          drew = drew_since_on l h b d.start d.drawn drew;
        },
        drawer_on bounds l h run b d.start i by,
      )

  -- it answers once, what it knows
  pub may_answer : (t : ℕ) (o : Outcome) → drawer l t ≡ Some i → began l t ≡ true → answered l t ≡ false
      → MayAnswer l t o → MayRecord bounds i l (Answered t o)
  may_answer t o by begun new may h run goes =
      let b = extends_begins i l h goes in (
        (
          began_on l h b t begun,
          unanswered_on bounds i t l h run goes by new,
          may_answer_on bounds l h run b t o (undeclared_on bounds i t l h run goes by) may,
        ),
        drawer_on bounds l h run b t i by,
      )

  -- it may stop at any time
  pub may_stop : MayRecord bounds i l (Stopped i)
  may_stop h run goes = (tt, refl)

-- a session may begin at the number that it just drew
pub may_begin_drawn : (bounds : List Key) (i t : ℕ) (h : History) → IsWorldRun bounds (Drawn i t ∷ h)
    → MayRecord bounds i (Drawn i t ∷ h) (Began t)
may_begin_drawn bounds i t h run =
    may_begin bounds i (Drawn i t ∷ h) t (drawer_new i t h) (began_drawn bounds i t h run)

-- ---- world runs that go on

-- a draw above the last number may follow any world run
pub run_drawn : (bounds : List Key) (h : History) (i n : ℕ) → IsWorldRun bounds h → last h < n
    → IsWorldRun bounds (Drawn i n ∷ h)
run_drawn bounds h i n run above = (run, above)

-- what may be recorded makes a world run
pub run_recorded : (bounds : List Key) (i : ℕ) (l h : History) (e : Event) → MayRecord bounds i l e
    → IsWorldRun bounds h → Extends i l h → IsWorldRun bounds (e ∷ h)
run_recorded bounds i l h e may run goes = (run, (may h run goes).0)

-- what may be recorded after l may be recorded after what extends l
pub may_record_on : (bounds : List Key) (i : ℕ) (l m : History) (e : Event) → Extends i l m → MayRecord bounds i l e
    → MayRecord bounds i m e
may_record_on bounds i l m e goes may h run more = may h run (extends_more i l m h goes more)
