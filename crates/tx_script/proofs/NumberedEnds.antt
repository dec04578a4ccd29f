-- What was written of a script whose steps stand beside the numbers of its lines, in the end.
use Rattle.std.proofs.Common.{◌≡◌, ◌≤◌, inl, inr, ℕ, List, [], ◌++◌, length, Option, Some, None, IfSome, refl, sym, ap, subst, ◌∙◌, append-nil}
use Rattle.std.specs.Io.KnownBytes.{Appends, Keeps}
use Rattle.std.proofs.KnownBytes.{Appends-trans, Appends-kept}
use Rattle.tx_types.specs.declared.key.Key.{Key}
use Rattle.tx_core.specs.Worlds.{IsWorldRun}
use Rattle.tx_text.specs.declared.end.Broken.{Broken}
use Rattle.tx_text.specs.declared.end.End.{End}
use Rattle.tx_text.specs.declared.end.End.TheVariants.{Well, Faulted}
use Rattle.tx_text.specs.declared.end.End.TheVariants as ended
use Rattle.tx_engine.specs.Slots.{Held, own}
use Rattle.tx_script.specs.Play.{Played, render}
use Rattle.tx_script.specs.Checked.{IsBegun}
use Rattle.tx_script.specs.Numbered.{numbered_lines, numbers_told, AreNumbers, EndsNumberedLines, BreaksNumberedLines}
use Rattle.tx_script.specs.Loops.{EndsAt, NumberedAt, TellsNumbers, BeginsNumbers}
use Rattle.tx_script.proofs.PlayReplies.{is_play}

module _ (bounds : List Key) (e : Held) (came : length e.network.newest ≤ own e)
    (run : IsWorldRun bounds e.network.newest) (lines : List (List ℕ)) (old mid new : Option (List ℕ)) where
  -- nothing follows the replies
  faulted : (end : End) → EndsAt bounds lines e.network.newest old mid end → (Well ≡ end → ⊥)
      → Appends mid new [] → ((p : Played) → end ≡ p.ended → numbers_told p.ended [] p.history ≡ [])
      → EndsNumberedLines bounds lines old new end
  faulted end (refused, p, plays, history, wrote, ends) other more told = (
    refused,
    p,
    [],
    is_play bounds refused lines p plays (subst (IsWorldRun bounds) (sym history) run),
    Appends-trans _ _ _ _ _ wrote (subst (Appends mid new) (sym (told p ends)) more),
    ends,
    λ well. absurd (other (sym (ends ∙ well))),
  )

  pub ends_numbered : (end : End) (numbers : Option (List ℕ))
      → (length e.network.newest ≤ own e → EndsAt bounds lines e.network.newest old mid end)
      → (end ≡ Well → IfSome numbers (λ ns. NumberedAt bounds lines ns e.network.newest old mid))
      → TellsNumbers end e.network.newest numbers mid new → EndsNumberedLines bounds lines old new end
  ends_numbered Well (Some ns) h n more =
      let r = n refl in (
        r.refused,
        r.played,
        ns,
        is_play bounds r.refused lines r.played r.plays (subst (IsWorldRun bounds) (sym r.history) run),
        Appends-trans _ _ _ _ _ r.wrote (subst (λ d. Appends mid new (numbers_told d ns r.played.history))
            (sym r.ended) (subst (λ k. Appends mid new (numbers_told Well ns k)) (sym r.history) more)),
        sym r.ended,
        λ well. r.are,
      )
  ends_numbered Well None h n more = absurd more
  ends_numbered Faulted numbers h n more = faulted Faulted (h came) (λ is. cc (is)) more
      (λ p is. subst (λ d. numbers_told d [] p.history ≡ []) is refl)
  ends_numbered ended.No numbers h n more = faulted ended.No (h came) (λ is. cc (is)) more
      (λ p is. subst (λ d. numbers_told d [] p.history ≡ []) is refl)

  pub breaks_numbered : (end : End) (numbers : Option (List ℕ))
      → (length e.network.newest ≤ own e → EndsAt bounds lines e.network.newest old mid end) → end ≡ Well
      → IfSome numbers (λ ns. NumberedAt bounds lines ns e.network.newest old mid) → (why : Broken)
      → BeginsNumbers why e.network.newest numbers mid new → BreaksNumberedLines bounds why lines old new
  breaks_numbered end (Some ns) h well r why (written, begun, more) =
      inr (
        r.refused,
        r.played,
        ns,
        written,
        is_play bounds r.refused lines r.played r.plays (subst (IsWorldRun bounds) (sym r.history) run),
        r.ended,
        r.are,
        subst (λ k. IsBegun why (numbered_lines ns k) written) (sym r.history) begun,
        Appends-trans _ _ _ _ _ r.wrote more,
      )
  breaks_numbered end None h well r why kept =
      let (refused, p, plays, history, wrote, ends) = h came in
      inl (
        refused,
        lines,
        [],
        p,
        render p.replies,
        [],
        sym (append-nil lines),
        is_play bounds refused lines p plays (subst (IsWorldRun bounds) (sym history) run),
        Appends-kept _ _ _ _ wrote kept,
        sym (append-nil (render p.replies)),
        inr refl,
      )
