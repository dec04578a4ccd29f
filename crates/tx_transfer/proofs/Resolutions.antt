-- A lock that stood in the way is resolved over a store.
use Rattle.std.proofs.Common.{◌≡◌, ℕ, List, Option, ap, subst, ◌∙◌}
use Rattle.std.specs.Prelude.{unwrap_or}
use Rattle.tx_types.specs.declared.key.Key.{Key}
use Rattle.tx_types.specs.declared.lock.LockInfo.{LockInfo}
use Rattle.tx_core.specs.Histories.{History, last}
use Rattle.tx_journal.specs.Known.{Known}
use Rattle.tx_store.specs.Stores.{Replies}
use Rattle.tx_client.specs.declared.resolved.Status.{Status}
use Rattle.tx_client.specs.Calls.{HasHeard}
use Rattle.tx_client.specs.Walks.{Sends}
use Rattle.tx_resolve.specs.BlockedReads.{read_walk}
use Rattle.tx_transfer.specs.Resolutions.{HasLooked, Resolves}
use Rattle.tx_transfer.specs.Sends.{SendsOver}
use Rattle.tx_transfer.proofs.Sends.{sent_over}

-- what is sent over a wire, at the time that was handed in or else at the last that was drawn
pub resolved_over : {S : Type 0} (bounds : List Key) (old learnt mid new : Known) (from to : S) (lock : LockInfo)
    (told : History) (reader time drawn : ℕ) (now : Option ℕ) (result : Status) → HasHeard bounds old told learnt
    → HasLooked bounds learnt mid → time ≡ unwrap_or now drawn → drawn ≡ last mid.events
    → Sends Replies bounds mid from (read_walk lock reader time) result to new
    → Resolves bounds old lock told reader now result new
resolved_over bounds old learnt mid new from to lock told reader time drawn now result learns looks is at sends =
    record {
      learnt = learnt;
      learns = learns;
      mid = mid;
      looks = looks;
      sends = subst (λ (t : ℕ). SendsOver bounds mid (read_walk lock reader t) result new)
          (is ∙ ap (λ (t : ℕ). unwrap_or now t) at)
          (sent_over bounds mid new from to (read_walk lock reader time) result sends);
    }
