-- Regions, and locks, are gone through one after another.
use Rattle.std.proofs.Common.{◌≡◌, ◌<◌, ◌+◌, ◌-◌, ℕ, suc, List, ◌∷◌, length, Result, Ok, Err, refl, sym, ap, subst, ◌∙◌, arith}
use Rattle.std.specs.Result.{IsErrAnd}
use Rattle.std.proofs.lemmas.Result.{err_from_is_err_and}
use Rattle.tx_types.specs.declared.key.Key.{Key}
use Rattle.tx_types.specs.declared.fault.Fault.{Fault}
use Rattle.tx_types.specs.declared.lock.LockInfo.{LockInfo}
use Rattle.tx_journal.specs.Known.{Known}
use Rattle.tx_journal.specs.Replies.{Asked}
use Rattle.tx_client.specs.declared.resolved.Status.{Status}
use Rattle.tx_journal.specs.Senders.{Reached}
use Rattle.tx_client.specs.Walks.{Walk, Sends, Continues}
use Rattle.tx_client.proofs.Sends.{sent_then}
use Rattle.tx_resolve.specs.declared.findings.For.TheVariants.{Collector}
use Rattle.tx_resolve.specs.Resolution.{resolve_walk}
use Rattle.tx_resolve.specs.Collection.{on_ok, in_regions, locks_walk}

-- a fault is handed on
pub is_fault : {A : Type 0} (r : Result A Fault) (why : Fault) → IsErrAnd r (λ e. e ≡ why) → r ≡ Err why
is_fault r why is = (let p = err_from_is_err_and r is in p.1 ∙ ap Err p.2)

-- there is a region of this number
pub is_region : (shown keys bounds : List Key) (n : ℕ) → shown ≡ keys → keys ≡ bounds → n < length shown + 1
    → n < length bounds + 1
is_region shown keys bounds n e f = subst (λ (ks : List Key). n < length ks + 1) (e ∙ f)

module _ {S A : Type 0} (sends : S → Asked → Reached → S → Type 0) (bounds : List Key) (each : ℕ → A
    → Walk (Result A Fault)) (k0 : Known) (s0 : S) (w : Walk (Result A Fault)) (count n : ℕ) (k : Known) (at : S) (a :
    A) where
  -- what is left before one more region
  left : n < count → count - n ≡ suc (count - (n + 1))
  left lt = omega (arith, lt)

  -- one more region
  pub more_regions : n < count → Continues sends bounds k0 s0 w k at (in_regions each (count - n) n a)
      → (b : A) (new : Known) (to : S) → Sends sends bounds k at (each n a) (Ok b) to new
      → Continues sends bounds k0 s0 w new to (in_regions each (count - (n + 1)) (n + 1) b)
  more_regions lt goes b new to sent result end last more =
      let one : n + 1 ≡ suc n = omega arith in
      let on = subst (λ m. Sends sends bounds new to (in_regions each (count - (n + 1)) m b) result end last) one
      more in
      goes result end last (subst (λ m. Sends sends bounds k at (in_regions each m n a) result end last) (sym (left lt))
      (sent_then sends bounds (each n a) (on_ok (in_regions each (count - (n + 1)) (suc n))) k new last at to end (Ok b)
      result sent on))

  -- one refused
  pub regions_refused : n < count → Continues sends bounds k0 s0 w k at (in_regions each (count - n) n a)
      → (r : Result A Fault) (why : Fault) → r ≡ Err why → (new : Known) (to : S)
      → Sends sends bounds k at (each n a) (Err why) to new → Sends sends bounds k0 s0 w r to new
  regions_refused lt goes r why is new to sent =
      goes r to new (subst (λ m. Sends sends bounds k at (in_regions each m n a) r to new) (sym (left lt))
      (sent_then sends bounds (each n a) (on_ok (in_regions each (count - (n + 1)) (suc n))) k new new at to to
      (Err why) r sent (is, refl, refl)))

-- one more lock
module _ {S : Type 0} (sends : S → Asked → Reached → S
    → Type 0) (bounds : List Key) (k0 : Known) (s0 : S) (w : Walk (Result (Unit {0}) Fault)) (k : Known) (at : S) where
  pub more_resolved : (info : LockInfo) (infos rest : List LockInfo) (status : Status) (new : Known) (to : S)
      → rest ≡ info ∷ infos → Continues sends bounds k0 s0 w k at (locks_walk rest)
      → Sends sends bounds k at (resolve_walk info Collector) status to new
      → Continues sends bounds k0 s0 w new to (locks_walk infos)
  more_resolved info infos rest status new to is goes sent result end last more =
      goes result end last (subst (λ xs. Sends sends bounds k at (locks_walk xs) result end last) (sym is)
      (sent_then sends bounds (resolve_walk info Collector) (λ s. locks_walk infos) k new last at to end status
      result sent more))
