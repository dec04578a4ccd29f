-- A key that is checked.
use Rattle.std.proofs.Common.{◌≡◌, ℕ, ◌==◌, ◌&&◌, not, Bool, true, false, bytes_eq, Result, Ok, Err, refl, sym, subst, ◌∙◌}
use Rattle.std.specs.BTreeMap as tree
use Rattle.std.specs.Cmp.{unsigned_ties}
use Rattle.std.specs.Result.{OnErr}
use Rattle.std.specs.Bool.{OnFalse}
use Rattle.std.specs.declared.cmp.Ordering.{Ordering}
use Rattle.std.specs.declared.cmp.Ordering.TheVariants.{Less, Equal, Greater}
use Rattle.std.specs.Ordering.{is_eq, ordering_then}
use Rattle.tx_types.specs.declared.key.Key.{Key}
use Rattle.tx_core.specs.Decisions.{accepted, decided}
use Rattle.tx_trace.specs.declared.log.TraceLog.{TraceLog}
use Rattle.tx_trace.specs.Logs.{Stands, steps_of, kept_in, checked_in, by_start, Stays}
use Rattle.tx_trace.proofs.KeySets.{at_is}

eq_then : (x y : Ordering) → is_eq (ordering_then x y) ≡ (is_eq x && is_eq y)
eq_then Less y = refl
eq_then Equal y = refl
eq_then Greater y = refl

-- a test of a start and a key
pub at_pair : (t : ℕ) (k : Key) (p : ℕ × Key) → tree.is_at (by_start (t, k)) p ≡ ((t == p.0) && bytes_eq k p.1)
at_pair t k p = eq_then _ _ ∙ (λ i. sym (unsigned_ties t p.0) i && at_is k p.1 i)

-- what was there already, and what is new
pub was_there : (x y : Bool) → y ≡ not x → y ≡ false → x ≡ true
was_there true y e f = refl
was_there false y e f = absurd (cc (e, f))

pub was_new : (x y : Bool) → y ≡ not x → y ≡ true → x ≡ false
was_new true y e f = absurd (cc (e, f))
was_new false y e f = refl

pub false_of : (b : Bool) (A : Type 0) → b ≡ false → OnFalse b A → A
false_of true A e f = absurd (cc e)
false_of false A e f = f

pub on_err_is : {T E : Type 0} (r : Result T E) (A : Type 0) → A → OnErr r A
on_err_is (Ok x) A a = tt
on_err_is (Err e) A a = a

-- a log with the same parts
pub stays_same : (old new : TraceLog) → steps_of new ≡ steps_of old → ((t : ℕ) → kept_in new t ≡ kept_in old t)
    → ((t : ℕ) (k : Key) → checked_in new t k ≡ checked_in old t k) → Stays old new
stays_same old new steps kept still h f = (
  record {
    shadows = steps ∙ f.0.shadows;
    pending =
        λ t d is. subst (Stands (decided h t) d (accepted h t)) (sym (kept t)) (f.0.pending t d is);
  },
  record {
    accepts = λ t k e. f.1.accepts t k (sym (still t k) ∙ e);
    inserts =
        λ t d k v is ins some. still t k ∙ f.1.inserts t d k v is ins some;
  },
)
