-- The cells of one key change.
use Rattle.std.proofs.Common.{◌≡◌, ◌≢◌, ℕ, ◌⊎◌, inl, inr, cond, Option, Some, None, bytes_eq, refl, sym, ap, subst, ◌∙◌}
use Rattle.tx_types.specs.declared.key.Key.{Key}
use Rattle.tx_plan.specs.Cells.{Lock, CommitRecord, CommitOf, Cells}
use Rattle.tx_plan.specs.Own.{on_own_lock}
use Rattle.tx_core.proofs.Basics.{nat_test, key_test, some_same}
use Rattle.tx_core.proofs.view.View.{View, OnCells, Records, Kept, Inv}

-- a view with other cells on k
abbrev pub keyed : View → Key → Cells → View
keyed w k new = record w { cells = λ q. cond (bytes_eq k q) new (w.cells q) }

-- what holds of the cells that k gets, and of those that are left, holds of those that are there
pub at_cells : (w : View) (k q : Key) (new : Cells) (P : Key → Cells → Type 0) → P k new → (k ≢ q → P q (w.cells q))
    → P q (cond (bytes_eq k q) new (w.cells q))
at_cells w k q new P same other =
    elim (key_test k q) [
      | inl e ↦ rw e.0 (subst (λ x. P x new) e.1 same)
      | inr e ↦ rw e.0 (other e.1)
    ]

-- a key that gets the cells that it has
pub keyed_same : (w : View) (k : Key) → ◌≡◌ {A = View} (keyed w k (w.cells k)) w
keyed_same w k = λ j. record w { cells = λ q. same q j }
  where
    same : (q : Key) → cond (bytes_eq k q) (w.cells k) (w.cells q) ≡ w.cells q
    same q = elim (key_test k q) [ inl e ↦ rw e.0 (ap w.cells e.1) | inr e ↦ rw e.0 refl ]

-- what holds with the cells holds with the same cells
pub keyed_to : (w : View) (k : Key) (old new : Cells) (P : View → Type 0) → old ≡ new → P (keyed w k old)
    → P (keyed w k new)
keyed_to w k old new P same = subst (λ cells. P (keyed w k cells)) same

-- what is done to its own lock is done to the lock that stands, or nothing is done
pub own_cases : (cells : Cells) (t : ℕ) (f : Lock → Cells)
    → ((lock : Lock) × (cells.lock ≡ Some lock) × (lock.start ≡ t) × (on_own_lock cells t f ≡ f lock))
    ⊎ (((lock : Lock) → cells.lock ≡ Some lock → lock.start ≢ t) × (on_own_lock cells t f ≡ cells))
own_cases cells t f = go cells.lock refl
  where
    go : (o : Option Lock) → cells.lock ≡ o
        → ((lock : Lock) × (cells.lock ≡ Some lock) × (lock.start ≡ t) × (on_own_lock cells t f ≡ f lock))
        ⊎ (((lock : Lock) → cells.lock ≡ Some lock → lock.start ≢ t) × (on_own_lock cells t f ≡ cells))
    go None e = inr (λ lock stands. absurd (cc (e, stands)), rw e refl)
    go (Some lock) e =
        elim (nat_test lock.start t) [
          | inl x ↦ inl (lock, e, x.1, rw (e, x.0) refl)
          | inr x ↦ inr (
            λ other stands own. x.1 (ap (λ (l : Lock). l.start) (some_same lock other (sym e ∙ stands))
                ∙ own),
            rw (e, x.0) refl,
          )
        ]

-- what the new cells of a key must hold, so that the invariants stay
abbrev pub Fits : View → Key → Cells → Type 0
Fits w k new = OnCells w.declared w.decided w.accepted w.shown k (w.collected k) new

-- the invariants stay where the new cells hold what they must
pub inv_keyed : (w : View) (k : Key) (new : Cells) → Inv w → Fits w k new → Inv (keyed w k new)
inv_keyed w k new i fits =
    record {
      clock = i.clock;
      marks = i.marks;
      acceptances = i.acceptances;
      keys = λ q. at_cells w k q new (Fits w) fits (λ other. i.keys q);
      commits = i.commits;
      unread = i.unread;
      checks = i.checks;
      shown = i.shown;
    }

-- what the new cells must hold where each lock of theirs stood before
pub record FitsWrites (w : View) (k : Key) (new : Cells) : Type 0 where
  pub stood : (lock : Lock) → new.lock ≡ Some lock → (w.cells k).lock ≡ Some lock
  pub unwritten : (lock : Lock) → new.lock ≡ Some lock → (c : ℕ) (rec : CommitRecord)
      → new.write c ≡ Some (CommitOf rec) → rec.start ≢ lock.start
  pub records : Records w.declared w.decided k (w.collected k) new.write
  pub kept : Kept w.declared w.decided w.accepted k (w.collected k) new

-- and where each lock of the new cells stood before
pub inv_written : (w : View) (k : Key) (new : Cells) → Inv w → FitsWrites w k new → Inv (keyed w k new)
inv_written w k new i fits =
    inv_keyed w k new i record {
      lock = λ lock e. (i.keys k).lock lock (fits.stood lock e);
      alone = λ lock e. (let x = (i.keys k).alone lock (fits.stood lock e) in
          record { above = x.above; unwritten = fits.unwritten lock e; fresh = x.fresh; unseen = x.unseen });
      records = fits.records;
      kept = fits.kept;
    }
