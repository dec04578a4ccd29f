-- What a decision says of a history.
use Rattle.std.specs.Prelude.{◌≡◌, ℕ, ◌<◌, List, length, slice_index}
use Rattle.tx_history.specs.Histories.{History, IsAssignment}
use Rattle.tx_history.specs.declared.decision.HistoryDecision.{HistoryDecision}
use Rattle.tx_history.specs.declared.decision.HistoryDecision.TheVariants.{Yes, No}
use Rattle.tx_history.specs.Graph.{IsCycleOf}

-- These are its timestamps, one start and one commit a transaction, and no two start at one.
pub record AreTimestamps (h : History) (starts commits : List ℕ) : Type 0 where
  pub assigned : IsAssignment h (slice_index starts) (slice_index commits)
  pub start_each : length starts ≡ h.txns
  pub commit_each : length commits ≡ h.txns
  pub distinct : (t u : ℕ) → t < h.txns → u < h.txns → slice_index starts t ≡ slice_index starts u → t ≡ u

-- yes: these are its timestamps; no: it has none, and these nodes are a cycle of its graph
abbrev pub IsDecision : History → HistoryDecision → Type 0
IsDecision h (Yes starts commits) = AreTimestamps h starts.items commits.items
IsDecision h (No nodes) = IsCycleOf h nodes.items × ((start commit : ℕ → ℕ) → IsAssignment h start commit → ⊥)
