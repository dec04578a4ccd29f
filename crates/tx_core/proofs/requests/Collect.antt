-- A region collects up to its safe point.
use Rattle.std.proofs.Common.{◌≡◌, ℕ, ◌≤◌, ◌==◌, inl, inr, Bool, true, cond, List, ◌∷◌, Some, refl, sym, ap, subst, ◌∙◌, arith}
use Rattle.std.proofs.lemmas.Bool.{cases_lt, eqb-true}
use Rattle.tx_types.specs.declared.key.Key.{Key}
use Rattle.tx_plan.specs.declared.body.Body.TheVariants as body
use Rattle.tx_plan.specs.declared.body.Collect.{Collect}
use Rattle.tx_plan.specs.declared.answer.Answer.{Answer}
use Rattle.tx_plan.specs.declared.answer.Answer.TheVariants.{Collected, LocksRemain, BelowSafePoint}
use Rattle.tx_plan.specs.Cells.{Lock, Region, info_of}
use Rattle.tx_plan.specs.Answers.{leaves}
use Rattle.tx_plan.specs.cases.Collect.{AnswersCollectBy, HasCollected, SomeLockBelow, kept}
use Rattle.tx_core.specs.declared.event.Event.TheVariants.{Took}
use Rattle.tx_core.specs.Histories.{History, left}
use Rattle.tx_core.specs.Worlds.{route}
use Rattle.tx_core.specs.Shadow.{shadow}
use Rattle.tx_core.proofs.Basics.{nat_test, cond_true, cond_false}
use Rattle.tx_core.proofs.changes.Collections.{collecting, ends_collect}
use Rattle.tx_core.proofs.changes.Sounds.{sound_collect}
use Rattle.tx_core.proofs.view.HistoryView.{view}
use Rattle.tx_core.proofs.requests.Good.{Good, Next, took, part_same, cells_at}
use Rattle.tx_core.proofs.requests.OnRegion.{assemble_region, still}

module _ (bounds : List Key) (h : History) (good : Good bounds h) (n : ℕ) (l : ℕ) (b : Collect) where
  -- up to its safe point, where no lock started below
  collects : (records values : ℕ) → b.safe ≡ (left h n).safe → (SomeLockBelow (left h n).cells b.safe → ⊥)
      → Next bounds h (took n (body.Collect b) l (Collected records values))
  collects records values at free =
      let a = Collected records values in
      let within : Key → Bool = λ q. n == route bounds q in
      let more : (q : Key) → within q ≡ true
      → ((left h (route bounds q)).collected ≤ b.safe) × (b.safe ≤ (left h (route bounds q)).safe) =
      λ q inside. (let same : (left h n).safe ≡ (left h (route bounds q)).safe =
      ap (λ m. (left h m).safe) (eqb-true n (route bounds q) inside) in
      (omega (arith, at, same, good.sound.inv.marks.low q), omega (arith, at, same))) in
      let above : (q : Key) (lock : Lock) → within q ≡ true → (cells_at bounds h q).lock ≡ Some lock
      → b.safe ≤ lock.start =
      λ q lock inside stands. elim (cases_lt lock.start b.safe) [
        | inl lt ↦
            absurd (free (
              info_of q lock,
              record {
                lock = lock;
                stands =
                    subst (λ m. ((left h m).cells q).lock ≡ Some lock) (sym (eqb-true n (route bounds q) inside))
                    stands;
                told =
                    refl;
                below = lt;
              },
            ))
        | inr le ↦ le
      ] in
      assemble_region bounds h good n l (body.Collect b) a
      (record {
        unnamed = refl;
        none = λ cells. refl;
        untold = λ u m. refl;
        unread = λ before. refl;
        unseen =
            refl;
        unnoted = λ e before. refl;
        unchecked = λ e. refl;
        floor = λ r. refl;
      }) (view bounds h).safe
      (collecting (view bounds h) within b.safe).collected (collecting (view bounds h) within b.safe).cells
      (λ k. part_same h n (route bounds k) (body.Collect b) l a (λ r. r.safe) (λ r. refl))
      (λ k. of_region (λ r. r.collected) (λ r. b.safe) (λ r. refl) k)
      (λ k. of_region (λ r. r.cells k) (λ r. kept (r.cells k) b.safe) (λ r. refl) k)
      (sound_collect (shadow h) (view bounds h) within b.safe good.sound more above)
      (ends_collect (view bounds h) within b.safe good.sound.inv more above good.ends)
      tt
    where
      -- a part of the region of a key, where collection makes f of it
      of_region : {X : Type 0} (part f : Region → X)
          → ((r : Region) → part (leaves r (body.Collect b) (Collected records values)) ≡ f r) → (k : Key)
          → part (left (Took (took n (body.Collect b) l (Collected records values)) ∷ h) (route bounds k))
          ≡ cond (n == route bounds k) (f (left h (route bounds k))) (part (left h (route bounds k)))
      of_region part f does k =
          elim (nat_test n (route bounds k)) [
            | inl x ↦ ap part (cond_true (n == route bounds k)
                (leaves (left h (route bounds k)) (body.Collect b) (Collected records values)) (left h (route bounds k))
                x.0) ∙ does (left h (route bounds k))
                ∙ sym (cond_true (n == route bounds k) (f (left h (route bounds k))) (part (left h (route bounds k)))
                x.0)
            | inr x ↦ ap part (cond_false (n == route bounds k)
                (leaves (left h (route bounds k)) (body.Collect b) (Collected records values)) (left h (route bounds k))
                x.0) ∙ sym (cond_false (n == route bounds k) (f (left h (route bounds k)))
                (part (left h (route bounds k))) x.0)
          ]

  silent : (a x : Answer) → a ≡ x → Next bounds h (took n (body.Collect b) l x)
      → Next bounds h (took n (body.Collect b) l a)
  silent a x e next = subst (λ y. Next bounds h (took n (body.Collect b) l y)) (sym e) next

  pub next_collect : (a : Answer) → AnswersCollectBy HasCollected (left h n).cells (left h n).safe b a
      → Next bounds h (took n (body.Collect b) l a)
  next_collect a (inl x) =
      silent a (BelowSafePoint (left h n).safe) x.1
      (still bounds h good n l (body.Collect b) (BelowSafePoint (left h n).safe)
      (record {
        unnamed = refl;
        none = λ cells. refl;
        untold = λ u m. refl;
        unread = λ before. refl;
        unseen =
            refl;
        unnoted = λ e before. refl;
        unchecked = λ e. refl;
        floor = λ r. refl;
      }) (λ r. refl) tt)
  next_collect a (inr (no0, inl (some, (info, first, e)))) =
      silent a (LocksRemain info) e
      (still bounds h good n l (body.Collect b) (LocksRemain info)
      (record {
        unnamed = refl;
        none = λ cells. refl;
        untold = λ u m. refl;
        unread = λ before. refl;
        unseen =
            refl;
        unnoted = λ e before. refl;
        unchecked = λ e. refl;
        floor = λ r. refl;
      }) (λ r. refl) tt)
  next_collect a (inr (no0, inr (free, (records, values, e)))) =
      silent a (Collected records values) e
      (collects records values
      (elim (nat_test b.safe (left h n).safe) [ inl x ↦ x.1 | inr x ↦ absurd (no0 x.1) ]) free)
