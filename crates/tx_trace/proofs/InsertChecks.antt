-- A trace goes on with the check of an insert: which keys were checked, and the read of a check.
use Rattle.std.proofs.Common.{◌≡◌, ◌≢◌, inl, inr, ℕ, ◌==◌, ◌&&◌, Bool, true, false, cond, List, [], ◌∷◌, ◌++◌, Option, Some, None, bytes_eq, refl, sym, ap, subst, ◌∙◌, arith}
use Rattle.std.proofs.lemmas.Bool.{cases_Bool, cases_lt, and_parts, eqb-true, eq-eqb}
use Rattle.tx_types.specs.declared.key.Key.{Key}
use Rattle.tx_types.specs.declared.value.Value.{Value}
use Rattle.tx_types.specs.declared.mutation.Mutation.{Mutation}
use Rattle.tx_types.specs.declared.mutation.Mutation.TheVariants as mutation
use Rattle.tx_plan.specs.declared.body.Prewrite.{Prewrite}
use Rattle.tx_plan.specs.declared.body.Body.TheVariants as body
use Rattle.tx_plan.specs.declared.answer.Answer.TheVariants.{Prewritten}
use Rattle.tx_plan.specs.cases.Prewrite.{AnswersPrewrite, MayPromise, lock_of, check_by}
use Rattle.tx_machine.specs.declared.step.Step.{Step}
use Rattle.tx_machine.specs.declared.step.Step.TheVariants as step
use Rattle.tx_machine.specs.Keys.{mutation_at}
use Rattle.tx_core.specs.declared.event.Declaration.{Declaration}
use Rattle.tx_core.specs.declared.event.Taken.{Taken}
use Rattle.tx_core.specs.declared.event.Event.TheVariants.{Took}
use Rattle.tx_core.specs.Histories.{History, last, declared, left}
use Rattle.tx_core.specs.Decisions.{Effect, Puts, Settles, RollsBack, NoEffect, effect_in, accepted_by, accepted}
use Rattle.tx_plan.specs.Own.{is_own}
use Rattle.tx_core.specs.Worlds.{route, IsWorldRun}
use Rattle.tx_core.specs.Shadow.{checked, checking}
use Rattle.tx_core.proofs.Basics.{key_true, some_same, cond_true, cond_false}
use Rattle.tx_core.proofs.requests.Good.{took}
use Rattle.tx_core.proofs.runs.AllRuns.{run_told}
use Rattle.tx_core.proofs.view.HistoryView.{view}
use Rattle.tx_core.proofs.view.View.{Inv, never_accepted}
use Rattle.tx_trace.specs.declared.log.TraceLog.{TraceLog}
use Rattle.tx_trace.specs.Pending.{PendingByStart}
use Rattle.tx_trace.specs.Logs.{IsLogOf, HasSteps, Tracks, steps_of, kept_in, checked_in, Locked, Accepts}
use Rattle.tx_trace.proofs.Effects.{stays_by}
use Rattle.tx_trace.proofs.Prewrites.{accepted_now, puts, locked}

none_of : {X : Type 0} (o : Option X) → (o ≢ None → ⊥) → o ≡ None
none_of None f = refl
none_of (Some x) f = absurd (f (λ e. cc e))

insert_of : (m : Mutation) (t at : ℕ) → check_by m t ≡ Some at → (v : Value) × (m ≡ mutation.Insert v)
insert_of (mutation.Put v) t at e = absurd (cc e)
insert_of (mutation.Insert v) t at e = (v, refl)
insert_of mutation.Delete t at e = absurd (cc e)
insert_of mutation.Lock t at e = absurd (cc e)

check_of : (m : Mutation) (v : Value) (t : ℕ) → m ≡ mutation.Insert v → check_by m t ≡ Some t
check_of m v t e = ap (λ x. check_by x t) e

-- ---- without its transaction's lock, an accepted prewrite is the first of its key

module _ (bounds : List Key) (h : History) (inv : Inv (view bounds h)) (b : Prewrite) (l m : ℕ) where
  abbrev at : ℕ
  at = route bounds b.key

  never : (P : ℕ → Type 0) → AnswersPrewrite ((left h at).cells b.key) (left h at).safe l P b (Prewritten m)
      → is_own ((left h at).cells b.key).lock b.start ≡ false → accepted h b.start b.key ≡ None
  never P (inl x) apart = absurd (cc (x.1))
  never P (inr (no0, inl x)) apart = absurd (cc (x.1))
  never P (inr (no0, inr (no1, inl (lock, own, e)))) apart =
      (let is = ap (λ o. is_own o b.start) own.stands in let same = eq-eqb lock.start b.start own.own in
      absurd (cc (apart, is, same)))
  never P (inr (no0, inr (no1, inr (no2, inl x)))) apart = absurd (cc (x.1))
  never P (inr (no0, inr (no1, inr (no2, inr (no3, inl (c, own, e)))))) apart = absurd (cc (e))
  never P (inr (no0, inr (no1, inr (no2, inr (no3, inr (no4, inl (lock, stands, e))))))) apart = absurd (cc (e))
  never P (inr (no0, inr (no1, inr (no2, inr (no3, inr (no4, inr (no5, inl (some, (start, c, newest, e))))))))) apart =
      absurd (cc (e))
  never P (inr (no0, inr (no1, inr (no2, inr (no3, inr (no4, inr (no5, inr (no6, inl x)))))))) apart = absurd (cc (x.1))
  never P (inr (no0, inr (no1, inr (no2, inr (no3, inr (no4, inr (no5, inr (no6, inr (no7, rest))))))))) apart =
      never_accepted (view bounds h) b.key b.start inv
      (elim (cases_lt b.start (left h at).safe) [
        | inl lt ↦ absurd (no0 lt)
        | inr le ↦ omega (arith, le, inv.marks.low b.key)
      ]) no2 no4 no3

module _ (bounds : List Key) (h : History) (n : ℕ) (b : Prewrite) (l m : ℕ)
    (run : IsWorldRun bounds (Took (took n (body.Prewrite b) l (Prewritten m)) ∷ h)) where
  abbrev x : Taken
  x = took n (body.Prewrite b) l (Prewritten m)

  abbrev own : Bool
  own = is_own ((left h n).cells b.key).lock b.start

  abbrev of : Declaration
  of = run.1.allowed.of

  first : own ≡ false → accepted h b.start b.key ≡ None
  first =
      subst (λ r. is_own ((left h r).cells b.key).lock b.start ≡ false → accepted h b.start b.key ≡ None) run.1.holds
      (never bounds h (run_told bounds h run.0).0.sound.inv b l m
      (MayPromise (left h (route bounds b.key)).max_read (last h) b)
      (subst (λ r. AnswersPrewrite ((left h r).cells b.key) (left h r).safe l
      (MayPromise (left h r).max_read (last h) b) b (Prewritten m)) (sym run.1.holds) run.1.answers))

  -- ---- the read of the check

  seen_none : check_by b.mutation b.start ≡ None → checking (body.Prewrite b) (effect_in h x) ≡ []
  seen_none none = go (effect_in h x)
    where
      go : (e : Effect) → checking (body.Prewrite b) e ≡ []
      go (Puts key lock) = ap (checked b) none
      go (Settles key t c) = refl
      go (RollsBack t) = refl
      go NoEffect = refl

  seen_again : accepted h b.start b.key ≢ None → checking (body.Prewrite b) (effect_in h x) ≡ []
  seen_again some = go own refl
    where
      go : (o : Bool) → own ≡ o → checking (body.Prewrite b) (effect_in h x) ≡ []
      go true e = ap (λ o. checking (body.Prewrite b) (cond o NoEffect (Puts b.key (lock_of b m)))) e
      go false e = absurd (some (first e))

  seen_first : accepted h b.start b.key ≡ None → check_by b.mutation b.start ≡ Some b.start
      → checking (body.Prewrite b) (effect_in h x) ≡ step.Read b.key b.start None ∷ []
  seen_first none is = ap (checking (body.Prewrite b)) (puts bounds h n b l m run own refl none) ∙ ap (checked b) is

  -- ---- what is accepted

  abbrev here : ℕ → Key → Bool
  here t k = (b.start == t) && bytes_eq b.key k

  more : (t : ℕ) (k : Key) → accepted h t k ≢ None → accepted (Took x ∷ h) t k ≢ None
  more t k = stays_by (effect_in h x) (last h) t k (accepted h t k)

  others : (t : ℕ) (k : Key) → here t k ≡ false → accepted (Took x ∷ h) t k ≡ accepted h t k
  others t k apart = go own
    where
      go : (o : Bool) → accepted_by (cond o NoEffect (Puts b.key (lock_of b m))) (last h) t k (accepted h t k)
          ≡ accepted h t k
      go true = refl
      go false = cond_false (here t k) _ (accepted h t k) apart

  start_is : (t : ℕ) (k : Key) → here t k ≡ true → b.start ≡ t
  start_is t k e = eqb-true b.start t (and_parts (b.start == t) (bytes_eq b.key k) e).0

  key_is : (t : ℕ) (k : Key) → here t k ≡ true → b.key ≡ k
  key_is t k e = key_true b.key k (and_parts (b.start == t) (bytes_eq b.key k) e).1

  -- what is declared of the key is what the prewrite says
  is_insert : (t : ℕ) (d : Declaration) (k : Key) (v : Value) → here t k ≡ true → declared h t ≡ Some d
      → mutation_at d.changes k ≡ Some (mutation.Insert v) → b.mutation ≡ mutation.Insert v
  is_insert t d k v e is ins =
      let same : of ≡ d = some_same of d (sym run.1.allowed.stands ∙ (ap (declared h) (start_is t k e) ∙ is)) in
      some_same b.mutation (mutation.Insert v) (sym run.1.allowed.mutation
      ∙ (ap (mutation_at of.changes) (key_is t k e)
      ∙ (ap (λ (y : Declaration). mutation_at y.changes k) same ∙ ins)))

  module _ (some : of.changes ≢ []) (old new : TraceLog) (f : IsLogOf h old) (a : Accepts b m old new) where
    unaccepted : (v : Value) → b.mutation ≡ mutation.Insert v → checked_in old b.start b.key ≡ false
        → accepted h b.start b.key ≡ None
    unaccepted v ins unchecked =
        none_of (accepted h b.start b.key)
        (λ was. (let e = f.1.inserts b.start of b.key v run.1.allowed.stands (run.1.allowed.mutation
        ∙ ap Some ins) was in cc (e, unchecked)))

    steps_by : (seen : List Step) → checking (body.Prewrite b) (effect_in h x) ≡ seen
        → steps_of a.between ≡ seen ++ steps_of old → ((q : ℕ) → kept_in a.between q ≡ kept_in old q)
        → HasSteps (Took x ∷ h) new
    steps_by seen checks steps same =
        locked bounds h n b l m run old new f.0 seen checks some
        (subst (λ (p : List Step × PendingByStart). Locked b.start b.key m p.0 p.1 new)
        (λ i. (steps i, λ q. same q i)) a.locks)

    -- nothing more is checked: where it inserts, its key was
    tracks_still : ((t : ℕ) (k : Key) → checked_in new t k ≡ checked_in old t k)
        → ((v : Value) → b.mutation ≡ mutation.Insert v → checked_in old b.start b.key ≡ true)
        → Tracks (Took x ∷ h) (checked_in new)
    tracks_still still was =
        record {
          accepts = λ t k e. more t k (f.1.accepts t k (sym (still t k) ∙ e));
          inserts = λ t d k v is ins now. still t k ∙ elim (cases_Bool (here t k)) [
            | inl e ↦ subst (λ (p : ℕ × Key). checked_in old p.0 p.1
                ≡ true) (λ i. (start_is t k e i, key_is t k e i)) (was v (is_insert t d k v e is ins))
            | inr e ↦ f.1.inserts t d k v is ins (λ none. now (others t k e ∙ none))
          ];
        }

    tracks_more : ((t : ℕ) (k : Key) → checked_in new t k ≡ cond (here t k) true (checked_in old t k))
        → Tracks (Took x ∷ h) (checked_in new)
    tracks_more keys =
        record {
          accepts = λ t k e. elim (cases_Bool (here t k)) [
            | inl y ↦ subst (λ (p : ℕ × Key). accepted (Took x ∷ h) p.0 p.1 ≢ None)
                (λ i. (start_is t k y i, key_is t k y i)) (accepted_now bounds h n b l m run)
            | inr y ↦ more t k (f.1.accepts t k (sym (keys t k ∙ cond_false (here t k) true (checked_in old t k) y)
                ∙ e))
          ];
          inserts = λ t d k v is ins now. keys t k ∙ elim (cases_Bool (here t k)) [
            | inl y ↦ cond_true (here t k) true (checked_in old t k) y
            | inr y ↦ cond_false (here t k) true (checked_in old t k) y
                ∙ f.1.inserts t d k v is ins (λ none. now (others t k y ∙ none))
          ];
        }

    no_insert : check_by b.mutation b.start ≡ None → (v : Value) → b.mutation ≡ mutation.Insert v
        → checked_in old b.start b.key ≡ true
    no_insert none v ins = (let is = check_of b.mutation v b.start ins in absurd (cc (none, is)))

    pub accepts : IsLogOf (Took x ∷ h) new
    accepts =
        elim a.checks [
          | inl y ↦ (
            steps_by [] (seen_none y.0) y.1.steps y.1.same,
            tracks_still (λ t k. a.still t k ∙ y.1.still t k) (no_insert y.0),
          )
          | inr z ↦ elim z [
            | inl y ↦ (
              steps_by [] (seen_again (f.1.accepts b.start b.key y.0)) y.1.steps y.1.same,
              tracks_still (λ t k. a.still t k ∙ y.1.still t k) (λ v ins. y.0),
            )
            | inr y ↦ (let ins = insert_of b.mutation b.start b.start y.inserts in (
              steps_by (step.Read b.key b.start None
                  ∷ []) (seen_first (unaccepted ins.0 ins.1 y.first) y.inserts) y.steps y.same,
              tracks_more (λ t k. a.still t k ∙ y.keys t k),
            ))
          ]
        ]
