-- The other keys are asked one after another.
use Rattle.std.proofs.Common.{◌≡◌, ◌<◌, ◌≤◌, ◌+◌, ◌++◌, ℕ, zero, suc, max, List, [], ◌∷◌, length, get_or, take, drop, refl, sym, ap, subst, ◌∙◌, arith, drop-cons}
use Rattle.tx_types.specs.declared.key.Key.{Key}
use Rattle.tx_types.specs.declared.mutation.Fate.TheVariants as fate
use Rattle.tx_core.specs.Histories.{History, Begins}
use Rattle.tx_core.specs.Worlds.{IsWorldRun}
use Rattle.tx_core.specs.Laws.{HadAsyncLock}
use Rattle.tx_journal.specs.Known.{Known}
use Rattle.tx_journal.specs.Replies.{Asked}
use Rattle.tx_journal.specs.Senders.{Reached}
use Rattle.tx_client.specs.Walks.{Walk, Sends, Continues}
use Rattle.tx_client.proofs.Sends.{sent_then}
use Rattle.tx_resolve.specs.declared.findings.Others.{Others}
use Rattle.tx_resolve.specs.declared.findings.Others.TheVariants as others
use Rattle.tx_resolve.specs.declared.findings.Other.TheVariants as other
use Rattle.tx_resolve.specs.Resolution.{other_walk, further, others_walk}
use Rattle.tx_resolve.specs.Facts.{HadLocks}
use Rattle.tx_resolve.proofs.Greatest.{locks_on, locks_push}

-- all of them
pub all_keys : (keys : List Key) (n : ℕ) → length keys ≤ n → take n keys ≡ keys
all_keys [] zero le = refl
all_keys [] (suc n) le = refl
all_keys (k ∷ keys) zero le = absurd (omega (arith, le))
all_keys (k ∷ keys) (suc n) le = ap (λ ks. k ∷ ks) (all_keys keys n (omega (arith, le)))

-- the first of what is left
pub next_of : {X : Type 0} (xs : List X) (i n : ℕ) (x : X) → n ≡ i + 1 → i < length xs → x ≡ get_or xs i x
    → drop i xs ≡ x ∷ drop n xs
next_of xs i n x is lt at = drop-cons xs i x lt ∙ (λ j. (sym at j) ∷ drop ((one ∙ sym is) j) xs)
  where
    one : suc i ≡ i + 1
    one = omega arith

-- one more of what was asked
pub took_key : (keys : List Key) (i n : ℕ) (key : Key) → n ≡ i + 1 → i < length keys → key ≡ get_or keys i key
    → take n keys ≡ take i keys ++ key ∷ []
took_key [] i n key is lt at = absurd (omega (arith, lt))
took_key (k ∷ keys) zero n key is lt at = ap (λ m. take m (k ∷ keys)) is ∙ ap (λ x. x ∷ []) (sym at)
took_key (k ∷ keys) (suc i) n key is lt at =
    let more : suc i + 1 ≡ suc (i + 1) = omega arith in
    ap (λ m. take m (k ∷ keys)) (is ∙ more)
    ∙ ap (λ ks. k ∷ ks) (took_key keys i (i + 1) key refl (omega (arith, lt)) at)

module _ {S : Type 0} (sends : S → Asked → Reached → S
    → Type 0) (bounds : List Key) (k0 : Known) (s0 : S) (w : Walk Others) (t : ℕ) (k : Known) (at : S) where
  -- one more key had an async lock
  pub more_asked : (key : Key) (keys rest : List Key) (most m : ℕ) (new : Known) (to : S) → rest ≡ key ∷ keys
      → Continues sends bounds k0 s0 w k at (others_walk t rest most)
      → Sends sends bounds k at (other_walk t key) (other.Async m) to new
      → Continues sends bounds k0 s0 w new to (others_walk t keys (max most m))
  more_asked key keys rest most m new to is goes sent result end last more =
      goes result end last (subst (λ ks. Sends sends bounds k at (others_walk t ks most) result end last) (sym is)
      (sent_then sends bounds (other_walk t key) (further most (others_walk t keys)) k new last at to end
      (other.Async m) result sent more))

  -- one ended it
  pub end_asked : (key : Key) (keys rest : List Key) (most : ℕ) (found : Others) (new : Known) (to : S)
      → rest ≡ key ∷ keys → Continues sends bounds k0 s0 w k at (others_walk t rest most)
      → Sends sends bounds k at (other_walk t key) (other.Ends found) to new → Sends sends bounds k0 s0 w found to new
  end_asked key keys rest most found new to is goes sent =
      goes found to new (subst (λ ks. Sends sends bounds k at (others_walk t ks most) found to new) (sym is)
      (sent_then sends bounds (other_walk t key) (further most (others_walk t keys)) k new new at to to
      (other.Ends found) found sent (refl, refl, refl)))

  -- none is left
  pub all_asked : (rest : List Key) (most : ℕ) → rest ≡ []
      → Continues sends bounds k0 s0 w k at (others_walk t rest most)
      → Sends sends bounds k0 s0 w (others.Decided (fate.Committed most)) at k
  all_asked rest most none goes =
      goes (others.Decided (fate.Committed most)) at k
      (subst (λ ks. Sends sends bounds k at (others_walk t ks most) (others.Decided (fate.Committed most)) at k)
      (sym none) (refl, refl, refl))

-- one more key had its lock
pub more_locks : (bounds : List Key) (l h : History) → IsWorldRun bounds h → Begins l h
    → (t : ℕ) (keys some : List Key) (key : Key) (least most m : ℕ) → some ≡ keys ++ key ∷ []
    → HadLocks l t keys least most → HadAsyncLock h t key m → HadLocks h t some least (max most m)
more_locks bounds l h run b t keys some key least most m is locks had =
    subst (λ ks. HadLocks h t ks least (max most m)) (sym is)
    (locks_push h t keys key least most m (locks_on bounds l h run b t keys least most locks) had)
