-- What a resolver asks is allowed.
use Rattle.std.proofs.Common.{◌≡◌, ◌≢◌, ◌<◌, ℕ, zero, suc, Bool, true, false, cond, List, [], ◌∷◌, map, length, Some, None, bytes_eq, get_or, inl, inr, refl, sym, ap, subst, ◌∙◌, arith}
use Rattle.tx_types.specs.declared.key.Key.{Key}
use Rattle.tx_types.specs.declared.lock.LockInfo.{LockInfo}
use Rattle.tx_types.specs.declared.mutation.Change.{Change}
use Rattle.tx_types.specs.declared.mutation.Fate.{Fate}
use Rattle.tx_types.specs.declared.mutation.Mode.{Mode}
use Rattle.tx_types.specs.declared.mutation.Mode.TheVariants.{TwoPhase, Async}
use Rattle.tx_machine.specs.Keys.{mutation_at}
use Rattle.tx_machine.specs.Machine.{Done}
use Rattle.tx_core.specs.Histories.{History, declared, set_of, set_at, is_first}
use Rattle.tx_core.specs.Decisions.{decided, HasTwoPhaseLock}
use Rattle.tx_core.specs.Allowed.{other_keys, Allowed}
use Rattle.tx_core.specs.Laws.{IsLockOf}
use Rattle.tx_core.proofs.Basics.{key_test}
use Rattle.tx_core.proofs.locks.ToldLocks.{told_lock}
use Rattle.tx_resolve.specs.declared.findings.For.{For}
use Rattle.tx_resolve.specs.Resolution.{check_of, other_of, settle_of}
use Rattle.tx_resolve.specs.Facts.{Knows, IsPrimarysLock}

pub lock_known : (bounds : List Key) (h : History) (met : LockInfo) → Knows bounds h met → IsLockOf h met
lock_known bounds h met knows = told_lock bounds h met knows.run knows.told

-- a check of the primary
pub check_allowed : (bounds : List Key) (h : History) (met : LockInfo) (who : For) (forced : Bool) → Knows bounds h met
    → (forced ≡ true → HasTwoPhaseLock h met.start) → Allowed h (check_of met who forced)
check_allowed bounds h met who forced knows two_phase =
    let is = lock_known bounds h met knows in
    record { primary = ap (λ o. is_first (set_of o) met.primary) is.declares ∙ is.primary; forced = two_phase }

-- a fate that is decided
pub settle_allowed : (bounds : List Key) (h : History) (met : LockInfo) (end : Fate) → Knows bounds h met
    → decided h met.start ≡ Done end → Allowed h (settle_of met end)
settle_allowed bounds h met end knows e = e

-- ---- the other keys

-- a key of a set but the first is in the set
in_rest : (c : Change) (cs : List Change) (k : Key) → mutation_at cs k ≢ None → mutation_at (c ∷ cs) k ≢ None
in_rest c cs k some none = go (bytes_eq c.key k) none
  where
    go : (b : Bool) → cond b (Some c.mutation) (mutation_at cs k) ≡ None → ⊥
    go true e = cc (e)
    go false e = some e

key_within : (cs : List Change) (n : ℕ) (k : Key) → n < length (map (λ (d : Change). d.key) cs)
    → get_or (map (λ (d : Change). d.key) cs) n k ≡ k → mutation_at cs k ≢ None
key_within [] n k lt at = absurd (omega (arith, lt))
key_within (c ∷ cs) zero k lt at = elim (key_test c.key k) [ inl x ↦ rw x.0 (λ e. cc (e)) | inr x ↦ absurd (x.1 at) ]
key_within (c ∷ cs) (suc n) k lt at = in_rest c cs k (key_within cs n k (omega (arith, lt)) at)

other_within : (cs : List Change) (n : ℕ) (k : Key) → n < length (other_keys cs) → get_or (other_keys cs) n k ≡ k
    → mutation_at cs k ≢ None
other_within [] n k lt at = absurd (omega (arith, lt))
other_within (c ∷ cs) n k lt at = in_rest c cs k (key_within cs n k lt at)

-- the primary's lock lists all keys but its own
pub lists_others : (h : History) (t : ℕ) (info : LockInfo) → IsPrimarysLock h t info
    → info.secondaries ≡ other_keys (set_at h t)
lists_others h t info p =
    let set : set_at h t ≡ p.is.of.changes = ap (λ u. set_of (declared h u)) (sym p.own) ∙ ap set_of p.is.declares in
    let first : is_first p.is.of.changes info.key ≡ true = ap (λ s. is_first s info.key) (sym set) ∙ p.primary in
    p.is.listed p.async ∙ listed p.is.of.mode (p.is.async p.async) (is_first p.is.of.changes info.key) first
    ∙ ap other_keys (sym set)
  where
    listed : (m : Mode) → m ≡ Async → (b : Bool) → b ≡ true
        → elim m [ TwoPhase ↦ [] | Async ↦ cond b (other_keys p.is.of.changes) [] ] ≡ other_keys p.is.of.changes
    listed TwoPhase e b first = absurd (cc (e))
    listed Async e true first = refl
    listed Async e false first = absurd (cc (first))

-- a check of a key that it lists
pub other_allowed : (h : History) (t : ℕ) (info : LockInfo) (n : ℕ) (k : Key) → IsPrimarysLock h t info
    → n < length info.secondaries → get_or info.secondaries n k ≡ k → Allowed h (other_of t k)
other_allowed h t info n k p lt at =
    let lists = lists_others h t info p in
    let set : set_at h t ≡ p.is.of.changes = ap (λ u. set_of (declared h u)) (sym p.own) ∙ ap set_of p.is.declares in
    let within = other_within (set_at h t) n k (subst (λ (ks : List Key). n < length ks) lists lt)
    (ap (λ (ks : List Key). get_or ks n k) (sym lists) ∙ at) in
    record {
      of = p.is.of;
      stands = ap (declared h) (sym p.own) ∙ p.is.declares;
      async = p.is.async p.async;
      within = subst (λ s. mutation_at s k ≢ None) set within;
    }
