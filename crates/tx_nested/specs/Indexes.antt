-- Indexes among entries in the order of their timestamps, and which of them go.
use Rattle.std.specs.Prelude.{◌≡◌, ℕ, ◌==◌, ◌<◌, ◌≤◌, ◌&&◌, not, nat_lt, Bool, false, cond, List, length, slice_get, Option, Some, None}

-- the entries before the index are below t, and those from it on are not
pub record IsIndex {X : Type 0} (es : List (ℕ × X)) (t i : ℕ) : Type 0 where
  pub within : i ≤ length es
  pub below : (j : ℕ) (e : ℕ × X) → j < i → slice_get es j ≡ Some e → e.0 < t
  pub from : (j : ℕ) (e : ℕ × X) → i ≤ j → slice_get es j ≡ Some e → t ≤ e.0

-- what an entry holds, if it is at t
abbrev pub value_of : {X : Type 0} → ℕ → Option (ℕ × X) → Option X
value_of t None = None
value_of t (Some e) = cond (e.0 == t) (Some e.1) None

-- whether this is the one that stays
abbrev pub stays : Option ℕ → ℕ → Bool
stays None q = false
stays (Some at) q = at == q

-- all below the safe point, but the one that stays
abbrev pub goes_below : ℕ → Option ℕ → ℕ → Bool
goes_below safe stay q = nat_lt q safe && not (stays stay q)
