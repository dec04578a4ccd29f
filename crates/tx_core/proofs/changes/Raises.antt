-- The greatest timestamp that was read, or the safe point, rises on some keys.
use Rattle.std.proofs.Common.{ℕ, ◌≤◌, arith}
use Rattle.tx_types.specs.declared.key.Key.{Key}
use Rattle.tx_core.proofs.view.View.{View, Inv}

-- the greatest timestamp read is this from now on
abbrev pub raising : View → (Key → ℕ) → View
raising w floor = record w { floor = floor }

-- it rises
pub inv_raise : (w : View) (floor : Key → ℕ) → Inv w → ((k : Key) → w.floor k ≤ floor k) → Inv (raising w floor)
inv_raise w floor i more =
    record {
      clock = i.clock;
      marks = record {
        upto = i.marks.upto;
        known = λ k r read. omega (arith, i.marks.known k r read, more k);
        low =
            i.marks.low;
      };
      acceptances = i.acceptances;
      keys = i.keys;
      commits = i.commits;
      unread = i.unread;
      checks = i.checks;
      shown = i.shown;
    }

-- the safe point is this from now on
abbrev pub raising_safe : View → (Key → ℕ) → View
raising_safe w safe = record w { safe = safe }

-- it rises
pub inv_raise_safe : (w : View) (safe : Key → ℕ) → Inv w → ((k : Key) → w.safe k ≤ safe k) → Inv (raising_safe w safe)
inv_raise_safe w safe i more =
    record {
      clock = i.clock;
      marks = record { upto = i.marks.upto; known = i.marks.known; low = λ k. omega (arith, i.marks.low k, more k) };
      acceptances = i.acceptances;
      keys = i.keys;
      commits = i.commits;
      unread = i.unread;
      checks = i.checks;
      shown = i.shown;
    }
