-- An async lock that is told lists fewer keys than its transaction has.
use Rattle.std.proofs.Common.{◌≡◌, ◌≢◌, ◌<◌, Bool, true, false, cond, List, [], ◌∷◌, map, length, None, refl, ap, arith}
use Rattle.tx_types.specs.declared.key.Key.{Key}
use Rattle.tx_types.specs.declared.lock.LockInfo.{LockInfo}
use Rattle.tx_types.specs.declared.mutation.Change.{Change}
use Rattle.tx_types.specs.declared.mutation.Mode.{Mode}
use Rattle.tx_types.specs.declared.mutation.Mode.TheVariants.{TwoPhase, Async}
use Rattle.tx_machine.specs.Keys.{mutation_at}
use Rattle.tx_core.specs.Histories.{History, set_of, set_at, is_first}
use Rattle.tx_core.specs.Allowed.{other_keys}
use Rattle.tx_core.specs.Laws.{WasToldOf, IsLockOf}
use Rattle.tx_core.specs.Worlds.{IsWorldRun}
use Rattle.tx_core.proofs.locks.ToldLocks.{told_lock}

keys_many : (cs : List Change) → length (map (λ (d : Change). d.key) cs) ≡ length cs
keys_many [] = refl
keys_many (c ∷ cs) = omega (arith, keys_many cs)

others_fewer : (cs : List Change) (k : Key) → mutation_at cs k ≢ None → (m : Mode) (b : Bool)
    → length (elim m as (λ n. List Key) [ TwoPhase ↦ [] | Async ↦ cond b (other_keys cs) [] ]) < length cs
others_fewer [] k some m b = absurd (some refl)
others_fewer (c ∷ cs) k some TwoPhase b = omega arith
others_fewer (c ∷ cs) k some Async true = omega (arith, keys_many cs)
others_fewer (c ∷ cs) k some Async false = omega arith

pub lists_fewer : (bounds : List Key) (h : History) (info : LockInfo) → IsWorldRun bounds h → WasToldOf h info
    → info.mode ≡ Async → length info.secondaries < length (set_at h info.start)
lists_fewer bounds h info run told async =
    let is : IsLockOf h info = told_lock bounds h info run told in
    let set : set_at h info.start ≡ is.of.changes = ap set_of is.declares in
    let fewer = others_fewer is.of.changes info.key is.within is.of.mode (is_first is.of.changes info.key) in
    let lists = ap (λ (ks : List Key). length ks) (is.listed async) in
    let many = ap (λ (cs : List Change). length cs) set in
    omega (arith, fewer, lists, many)
