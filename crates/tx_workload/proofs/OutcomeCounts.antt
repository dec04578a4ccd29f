-- The outcomes that lines are told, one line after another.
use Rattle.std.proofs.Common.{◌≡◌, ℕ, ◌+◌, ◌<◌, ◌≤◌, ◌^◌, true, false, List, length, get_or, take, ap, ◌∙◌, refl, arith}
use Rattle.std.specs.List.{count_by}
use Rattle.std.proofs.lemmas.List.{length-take}
use Rattle.std.proofs.lemmas.List.Sums.{count_by_more_yes, count_by_more_no, count_by-le-length}
use Rattle.tx_core.specs.declared.event.Outcome.TheVariants.{Committed, Aborted, Unknown, ReadOnly}
use Rattle.tx_workload.specs.declared.reply.LineAnswer.{LineAnswer}
use Rattle.tx_workload.specs.declared.reply.LineAnswer.TheVariants.{Plain, Ended}
use Rattle.tx_workload.specs.declared.reply.LineReply.{LineReply}
use Rattle.tx_workload.specs.declared.counts.RunCounts.{RunCounts}
use Rattle.tx_workload.specs.Texts.{counts_of, counted, IsRoomy, is_committed, is_aborted, is_unknown, is_read_only}

same_counts : (a b : RunCounts) → a.committed ≡ b.committed → a.aborted ≡ b.aborted → a.unknown ≡ b.unknown
    → a.read_only ≡ b.read_only → a ≡ b
same_counts a b p q r s =
    ap (λ n. record a { committed = n }) p ∙ ap (λ n. record a { committed = b.committed; aborted = n }) q
    ∙ ap (λ n. record a { committed = b.committed; aborted = b.aborted; unknown = n }) r
    ∙ ap (λ n. record a { committed = b.committed; aborted = b.aborted; unknown = b.unknown; read_only = n }) s

module _ (lines : List LineReply) (i : ℕ) (d : LineReply) (within : i < length lines) where
  -- one more line
  pub counted_more : counts_of (take (i + 1) lines) ≡ counted (counts_of (take i lines)) (get_or lines i d).answer
  counted_more = by_reply (get_or lines i d).answer refl
    where
      by_reply : (r : LineAnswer) → (get_or lines i d).answer ≡ r
          → counts_of (take (i + 1) lines) ≡ counted (counts_of (take i lines)) r
      by_reply (Ended start (Committed c) keys) is = same_counts _ _
          (count_by_more_yes (λ s. is_committed s.answer) lines i d within (ap is_committed is))
          (count_by_more_no (λ s. is_aborted s.answer) lines i d within (ap is_aborted is))
          (count_by_more_no (λ s. is_unknown s.answer) lines i d within (ap is_unknown is))
          (count_by_more_no (λ s. is_read_only s.answer) lines i d within (ap is_read_only is))
      by_reply (Ended start Aborted keys) is = same_counts _ _
          (count_by_more_no (λ s. is_committed s.answer) lines i d within (ap is_committed is))
          (count_by_more_yes (λ s. is_aborted s.answer) lines i d within (ap is_aborted is))
          (count_by_more_no (λ s. is_unknown s.answer) lines i d within (ap is_unknown is))
          (count_by_more_no (λ s. is_read_only s.answer) lines i d within (ap is_read_only is))
      by_reply (Ended start (Unknown why) keys) is = same_counts _ _
          (count_by_more_no (λ s. is_committed s.answer) lines i d within (ap is_committed is))
          (count_by_more_no (λ s. is_aborted s.answer) lines i d within (ap is_aborted is))
          (count_by_more_yes (λ s. is_unknown s.answer) lines i d within (ap is_unknown is))
          (count_by_more_no (λ s. is_read_only s.answer) lines i d within (ap is_read_only is))
      by_reply (Ended start ReadOnly keys) is = same_counts _ _
          (count_by_more_no (λ s. is_committed s.answer) lines i d within (ap is_committed is))
          (count_by_more_no (λ s. is_aborted s.answer) lines i d within (ap is_aborted is))
          (count_by_more_no (λ s. is_unknown s.answer) lines i d within (ap is_unknown is))
          (count_by_more_yes (λ s. is_read_only s.answer) lines i d within (ap is_read_only is))
      by_reply (Plain plain) is = same_counts _ _
          (count_by_more_no (λ s. is_committed s.answer) lines i d within (ap is_committed is))
          (count_by_more_no (λ s. is_aborted s.answer) lines i d within (ap is_aborted is))
          (count_by_more_no (λ s. is_unknown s.answer) lines i d within (ap is_unknown is))
          (count_by_more_no (λ s. is_read_only s.answer) lines i d within (ap is_read_only is))

-- few lines are counted by small numbers
pub roomy : (lines : List LineReply) → length lines + 1 < 2 ^ 64 → IsRoomy (counts_of lines)
roomy lines few = record {
  committed = omega (arith, few, count_by-le-length (λ s. is_committed s.answer) lines);
  aborted = omega (arith, few, count_by-le-length (λ s. is_aborted s.answer) lines);
  unknown = omega (arith, few, count_by-le-length (λ s. is_unknown s.answer) lines);
  read_only = omega (arith, few, count_by-le-length (λ s. is_read_only s.answer) lines);
}
