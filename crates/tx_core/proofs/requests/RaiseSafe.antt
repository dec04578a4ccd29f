-- A region answers that its safe point is to rise.
use Rattle.std.proofs.Common.{◌≡◌, ℕ, ◌<◌, ◌≤◌, ◌==◌, inl, inr, List, ◌∷◌, refl, sym, ap, subst, arith}
use Rattle.std.proofs.lemmas.Bool.{cases_lt}
use Rattle.tx_types.specs.declared.key.Key.{Key}
use Rattle.tx_plan.specs.declared.body.Body.TheVariants as body
use Rattle.tx_plan.specs.declared.body.RaiseSafe.{RaiseSafe}
use Rattle.tx_plan.specs.declared.answer.Answer.{Answer}
use Rattle.tx_plan.specs.declared.answer.Answer.TheVariants.{Raised, BelowSafePoint, FutureTimestamp}
use Rattle.tx_plan.specs.Cells.{Region}
use Rattle.tx_plan.specs.Answers.{leaves}
use Rattle.tx_plan.specs.cases.RaiseSafe.{AnswersRaiseSafe}
use Rattle.tx_core.specs.declared.event.Event.TheVariants.{Took}
use Rattle.tx_core.specs.Histories.{History, left}
use Rattle.tx_core.specs.Worlds.{route}
use Rattle.tx_core.specs.Shadow.{shadow}
use Rattle.tx_core.proofs.Basics.{nat_test, cond_true, cond_false}
use Rattle.tx_core.proofs.changes.Sounds.{sound_raise_safe}
use Rattle.tx_core.proofs.view.HistoryView.{view}
use Rattle.tx_core.proofs.requests.Good.{Good, Next, took, part_same}
use Rattle.tx_core.proofs.requests.OnRegion.{assemble_region, still}

module _ (bounds : List Key) (h : History) (good : Good bounds h) (n : ℕ) (l : ℕ) (b : RaiseSafe) where
  raised_by : (a : Answer) → a ≡ Raised → ((b.safe < (left h n).safe) → ⊥)
      → Next bounds h (took n (body.RaiseSafe b) l Raised)
  raised_by a e high =
      let after : Key → ℕ = λ k. (left (Took (took n (body.RaiseSafe b) l Raised) ∷ h) (route bounds k)).safe in
      assemble_region bounds h good n l (body.RaiseSafe b) Raised
      (record {
        unnamed = refl;
        none = λ cells. refl;
        untold = λ u m. refl;
        unread = λ before. refl;
        unseen =
            refl;
        unnoted = λ e before. refl;
        unchecked = λ e. refl;
        floor = λ r. refl;
      }) after (view bounds h).collected
      (view bounds h).cells
      (λ k. refl)
      (λ k. part_same h n (route bounds k) (body.RaiseSafe b) l Raised (λ r. r.collected) (λ r. refl))
      (λ k. part_same h n (route bounds k) (body.RaiseSafe b) l Raised (λ r. r.cells k) (λ r. refl))
      (sound_raise_safe (shadow h) (view bounds h) after good.sound rises)
      good.ends
      tt
    where
      rises : (k : Key) → (left h (route bounds k)).safe ≤
          (left (Took (took n (body.RaiseSafe b) l Raised) ∷ h) (route bounds k)).safe
      rises k =
          elim (nat_test n (route bounds k)) [
            | inl x ↦ (let new : (left (Took (took n (body.RaiseSafe b) l Raised) ∷ h) (route bounds k)).safe ≡ b.safe =
                ap (λ (r : Region). r.safe)
                (cond_true (n == route bounds k) (leaves (left h (route bounds k)) (body.RaiseSafe b) Raised)
                (left h (route bounds k)) x.0) in
                elim (cases_lt b.safe (left h n).safe) [
                  | inl lt ↦ absurd (high lt)
                  | inr le ↦ omega (arith, new, le, ap (λ m. (left h m).safe) x.1)
                ])
            | inr x ↦ (let same : (left (Took (took n (body.RaiseSafe b) l Raised) ∷ h) (route bounds k)).safe
                ≡ (left h (route bounds k)).safe =
                ap (λ (r : Region). r.safe)
                (cond_false (n == route bounds k) (leaves (left h (route bounds k)) (body.RaiseSafe b) Raised)
                (left h (route bounds k)) x.0) in
                omega (arith, same))
          ]

  silent : (a x : Answer) → a ≡ x → Next bounds h (took n (body.RaiseSafe b) l x)
      → Next bounds h (took n (body.RaiseSafe b) l a)
  silent a x e next = subst (λ y. Next bounds h (took n (body.RaiseSafe b) l y)) (sym e) next

  pub next_raise_safe : (a : Answer) → AnswersRaiseSafe (left h n).safe l b a
      → Next bounds h (took n (body.RaiseSafe b) l a)
  next_raise_safe a (inl x) =
      silent a (FutureTimestamp l) x.1
      (still bounds h good n l (body.RaiseSafe b) (FutureTimestamp l)
      (record {
        unnamed = refl;
        none = λ cells. refl;
        untold = λ u m. refl;
        unread = λ before. refl;
        unseen =
            refl;
        unnoted = λ e before. refl;
        unchecked = λ e. refl;
        floor = λ r. refl;
      }) (λ r. refl) tt)
  next_raise_safe a (inr (no0, inl x)) =
      silent a (BelowSafePoint (left h n).safe) x.1
      (still bounds h good n l (body.RaiseSafe b) (BelowSafePoint (left h n).safe)
      (record {
        unnamed = refl;
        none = λ cells. refl;
        untold = λ u m. refl;
        unread = λ before. refl;
        unseen =
            refl;
        unnoted = λ e before. refl;
        unchecked = λ e. refl;
        floor = λ r. refl;
      }) (λ r. refl) tt)
  next_raise_safe a (inr (no0, inr (no1, e))) = silent a Raised e (raised_by a e no1)
