-- What a view shows of a transaction.
use Rattle.std.proofs.Common.{◌≡◌, ℕ, Option, Some, None, refl, sym, ap, subst, false, ◌∙◌}
use Rattle.std.specs.Prelude.{MatchOption, option_map, is_some}
use Rattle.tx_plan.specs.declared.view.CommitAt.{CommitAt}
use Rattle.tx_plan.specs.declared.view.TxnView.{TxnView}
use Rattle.tx_plan.specs.Cells.{Lock, Cells}
use Rattle.tx_plan.specs.Own.{OwnCommit}
use Rattle.tx_plan.specs.Views.{Shows, lock_head_of}
use Rattle.tx_plan.specs.cases.Prewrite.{SomeAbove, NewestAbove}

none_mapped : (o : Option Lock) → is_some (option_map lock_head_of o) ≡ false → o ≡ None
none_mapped None e = refl
none_mapped (Some lock) e = absurd (cc e)

module _ (cells : Cells) (t c : ℕ) (view : TxnView) (shows : Shows cells t c view) where
  pub own_commit : (d : ℕ) → view.own_commit ≡ Some d → OwnCommit cells.write t d
  own_commit d e = subst
      (λ (o : Option ℕ). MatchOption o ((c : ℕ) → OwnCommit cells.write t c → ⊥) (λ c. OwnCommit cells.write t c)) e
      shows.own_commit

  pub no_commit : view.own_commit ≡ None → (d : ℕ) → OwnCommit cells.write t d → ⊥
  no_commit e = subst (λ (o : Option ℕ). MatchOption o ((c : ℕ) → OwnCommit cells.write t c
      → ⊥) (λ c. OwnCommit cells.write t c)) e shows.own_commit

  pub newest : (at : CommitAt) → view.newest_above ≡ Some at → NewestAbove cells.write t at.start at.commit
  newest at e = subst (λ (o : Option CommitAt). MatchOption o (SomeAbove cells.write t
      → ⊥) (λ (at : CommitAt). NewestAbove cells.write t at.start at.commit)) e shows.newest

  pub none_above : view.newest_above ≡ None → SomeAbove cells.write t → ⊥
  none_above e = subst (λ (o : Option CommitAt). MatchOption o (SomeAbove cells.write t
      → ⊥) (λ (at : CommitAt). NewestAbove cells.write t at.start at.commit)) e shows.newest

  pub no_lock : is_some view.lock ≡ false → cells.lock ≡ None
  no_lock e = none_mapped cells.lock (ap is_some (sym shows.lock) ∙ e)
