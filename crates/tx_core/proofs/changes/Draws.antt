-- A number is drawn.
use Rattle.std.proofs.Common.{◌≢◌, ℕ, ◌<◌, ◌==◌, inl, inr, cond, Some, None, arith}
use Rattle.tx_core.proofs.Basics.{nat_test, chosen}
use Rattle.tx_core.proofs.view.View.{View, Inv}

-- the seat draws n
abbrev pub drawing : View → ℕ → ℕ → View
drawing w seat n = record w { last = n; drawer = λ q. cond (n == q) (Some seat) (w.drawer q) }

-- n lies above the last number
pub inv_draw : (w : View) (seat n : ℕ) → Inv w → w.last < n → Inv (drawing w seat n)
inv_draw w seat n i lt =
    record {
      clock = record {
        drawn = λ t d. elim (nat_test n t) [
          | inl e ↦ omega (arith, e.1)
          | inr e ↦ (let old : w.drawer t ≢ None = λ none. d (rw e.0 none) in
              omega (arith, i.clock.drawn t old, lt))
        ];
        begun = λ t b e. elim (chosen (n == t) (Some seat) (w.drawer t) None e) [
          | inl x ↦ (cc (x.1))
          | inr x ↦ i.clock.begun t b x.1
        ];
        declares = i.clock.declares;
        decides = i.clock.decides;
      };
      marks = record {
        upto = λ k r e. omega (arith, i.marks.upto k r e, lt);
        known = i.marks.known;
        low =
            i.marks.low;
      };
      acceptances = λ t k by e. (let x = i.acceptances t k by e in
          record {
            does = x.does;
            above = x.above;
            bounded = x.bounded;
            upto = x.upto;
            at =
                omega (arith, x.at, lt);
            mode = x.mode;
          });
      keys = i.keys;
      commits = λ t c e. (let x = i.commits t c e in
          record {
            range = (x.range.0, omega (arith, x.range.1, lt));
            accepts = x.accepts;
            bounds = x.bounds;
            shows =
                x.shows;
          });
      unread = i.unread;
      checks = i.checks;
      shown = i.shown;
    }
