-- A draw after a look is a draw.
use Rattle.std.proofs.Common.{◌≡◌, ℕ, List, Result, Ok, Err, IfOk, subst}
use Rattle.tx_types.specs.declared.key.Key.{Key}
use Rattle.tx_core.specs.Histories.{History}
use Rattle.tx_core.proofs.seats.Beginnings.{extends_more}
use Rattle.tx_journal.specs.Known.{Known, HasDrawn, HasSeen}

module _ (bounds : List Key) (old mid : Known) (number : mid.seat ≡ old.seat)
    (seen : HasSeen bounds old.seat old.events mid.events) (ticks : ℕ) (new : History) where
  drawn_then : (ts : ℕ) → HasDrawn bounds mid.seat mid.events ticks ts new
      → HasDrawn bounds old.seat old.events ticks ts new
  drawn_then ts drawn =
      let same = subst (λ (n : ℕ). HasDrawn bounds n mid.events ticks ts new) number drawn in record {
        before = same.before;
        extends = extends_more old.seat old.events mid.events same.before seen.extends same.extends;
        is = same.is;
        run = same.run;
        above = same.above;
      }

  pub if_drawn_then : {E : Type 0} (r : Result ℕ E) → IfOk r (λ ts. HasDrawn bounds mid.seat mid.events ticks ts new)
      → IfOk r (λ ts. HasDrawn bounds old.seat old.events ticks ts new)
  if_drawn_then (Ok ts) drawn = drawn_then ts drawn
  if_drawn_then (Err e) none = tt
