-- What carrying out a plan makes of a region.
use Rattle.std.proofs.Common.{◌≡◌, ◌≢◌, ℕ, inl, inr, cond, bytes_eq, refl, sym, ap, subst, ◌∙◌}
use Rattle.tx_types.specs.declared.key.Key.{Key}
use Rattle.tx_plan.specs.declared.body.Body.{Body}
use Rattle.tx_plan.specs.declared.body.Body.TheVariants as body
use Rattle.tx_plan.specs.declared.body.Prewrite.{Prewrite}
use Rattle.tx_plan.specs.declared.key_change.KeyChange.{KeyChange}
use Rattle.tx_plan.specs.Changes.{changed, Applies}
use Rattle.tx_plan.specs.RealChanges.{Makes}
use Rattle.tx_plan.specs.Cells.{Cells, Region, with_cells}
use Rattle.tx_cells.specs.Contents.{OnKey, Content, cells_of, cells_in}
use Rattle.tx_cells.specs.Afterwards.{OnlyOn}
use Rattle.tx_region.specs.Copies.{made, MayMake}
use Rattle.tx_region.proofs.Basics.{key_test, cond_true, cond_false}

-- the region of a content
abbrev pub region_by : Content → ℕ → ℕ → ℕ → Region
region_by content max_read safe collected = record {
  cells = cells_in content;
  max_read = max_read;
  safe = safe;
  collected = collected;
}

-- the cells of each key, where families hold something else on one key
cells_on : (before after : Content) (key : Key) (x : OnKey) (cells : Cells) → OnlyOn key x before after
    → cells_of (after key) ≡ cells
    → (q : Key) → cells_of (after q) ≡ cond (bytes_eq key q) cells (cells_of (before q))
cells_on before after key x cells only put q =
    elim (key_test key q) [
      | inl t ↦ ap (λ (k : Key). cells_of (after k)) (sym t.1) ∙ (put ∙ sym (cond_true _ _ _ t.0))
      | inr t ↦ ap cells_of (only.others q (λ e. t.1 (sym e))) ∙ sym (cond_false _ _ _ t.0)
    ]

-- so one key of the region has other cells
pub region_put : (before after : Content) (m s c : ℕ) (key : Key) (x : OnKey) (cells : Cells)
    → OnlyOn key x before after → cells_of (after key) ≡ cells
    → region_by after m s c ≡ with_cells (region_by before m s c) key cells
region_put before after m s c key x cells only put =
    λ i. record { cells = λ q. cells_on before after key x cells only put q i; max_read = m; safe = s; collected = c }

-- a key that gets the cells that it had
pub with_same : (region : Region) (key : Key) → with_cells region key (region.cells key) ≡ region
with_same region key = λ i. record {
  cells = λ q. at q i;
  max_read = region.max_read;
  safe = region.safe;
  collected =
      region.collected;
}
  where
    at : (q : Key) → cond (bytes_eq key q) (region.cells key) (region.cells q) ≡ region.cells q
    at q =
        elim (key_test key q) [
          | inl t ↦ cond_true _ _ _ t.0 ∙ ap region.cells t.1
          | inr t ↦ cond_false _ _ _ t.0
        ]

-- what a request that is no prewrite plans is a change of the cells
module _ (cells : Cells) (c : KeyChange) where
  pub made_other : (b : Body) → ((x : Prewrite) → b ≢ body.Prewrite x) → made b cells c ≡ changed cells c
  made_other (body.Prewrite x) other = absurd (other x refl)
  made_other (body.Get x) other = refl
  made_other (body.Scan x) other = refl
  made_other (body.Commit x) other = refl
  made_other (body.BatchRollback x) other = refl
  made_other (body.TxnHeartBeat x) other = refl
  made_other (body.CheckTxnStatus x) other = refl
  made_other (body.CheckSecondaryLocks x) other = refl
  made_other (body.ResolveLock x) other = refl
  made_other (body.RaiseSafe x) other = refl
  made_other (body.LocksBelow x) other = refl
  made_other (body.Collect x) other = refl

  pub may_other : (b : Body) → ((x : Prewrite) → b ≢ body.Prewrite x) → MayMake b cells c
      → Applies cells c × Makes cells c
  may_other (body.Prewrite x) other may = absurd (other x refl)
  may_other (body.Get x) other may = subst (λ z. Applies cells z × Makes cells z) (sym may) (tt, tt)
  may_other (body.Scan x) other may = may
  may_other (body.Commit x) other may = may
  may_other (body.BatchRollback x) other may = may
  may_other (body.TxnHeartBeat x) other may = may
  may_other (body.CheckTxnStatus x) other may = may
  may_other (body.CheckSecondaryLocks x) other may = may
  may_other (body.ResolveLock x) other may = may
  may_other (body.RaiseSafe x) other may = may
  may_other (body.LocksBelow x) other may = may
  may_other (body.Collect x) other may = may
