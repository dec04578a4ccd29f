-- A transaction begins.
use Rattle.std.proofs.Common.{◌≡◌, ◌≢◌, ℕ, ◌==◌, inl, inr, true, cond, None, refl, sym, subst}
use Rattle.tx_core.proofs.Basics.{nat_test}
use Rattle.tx_core.proofs.view.View.{View, Inv}

-- the transaction that starts at t begins
abbrev pub beginning : View → ℕ → View
beginning w t = record w { began = λ q. cond (t == q) true (w.began q) }

-- its start was drawn
pub inv_begin : (w : View) (t : ℕ) → Inv w → w.drawer t ≢ None → Inv (beginning w t)
inv_begin w t i drawn =
    record {
      clock = record {
        drawn = i.clock.drawn;
        begun = λ q b none. elim (nat_test t q) [
          | inl e ↦ drawn (subst (λ n. w.drawer n ≡ None) (sym e.1) none)
          | inr e ↦ i.clock.begun q (rw e.0 at b) none
        ];
        declares = λ q d. elim (nat_test t q) as (λ _. cond (t == q) true (w.began q) ≡ true) [
          | inl e ↦ rw e.0 refl
          | inr e ↦ rw e.0 (i.clock.declares q d)
        ];
        decides = i.clock.decides;
      };
      marks = i.marks;
      acceptances = i.acceptances;
      keys = i.keys;
      commits = i.commits;
      unread = i.unread;
      checks = i.checks;
      shown = i.shown;
    }
