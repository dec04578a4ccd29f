-- What is said of a line where its player was numbered anew.
use Rattle.std.proofs.Common.{◌≡◌, ◌≤◌, ◌<◌, ◌+◌, ◌∙◌, ℕ, List, [], ◌∷◌, ◌++◌, Result, Ok, Err, IfOk, length, sym, ap, subst}
use Rattle.serde_json.specs.Data.{Items}
use Rattle.tx_types.specs.declared.fault.Cause.{Cause}
use Rattle.tx_types.specs.declared.key.Key.{Key}
use Rattle.tx_types.specs.declared.limits.TheConstants.{MAX_LINES}
use Rattle.tx_reply.specs.declared.reply.ScriptReply.{ScriptReply}
use Rattle.tx_reply.specs.Replies.{reply_words}
use Rattle.tx_engine.specs.Slots.{Held, engine_state, own, GoesTo}
use Rattle.tx_script.specs.Play.{line_turn}
use Rattle.tx_script.specs.Players.{PlayerState, HasPlayed, IsReplied}
use Rattle.tx_line_store.specs.Lines.{WasReplied}

module _ (bounds : List Key) (line : List ℕ) (old : PlayerState) where
  -- a reply, after which the next line may have another number
  pub replied : (mid next : PlayerState) (reply : ScriptReply) → next.engine ≡ mid.engine
      → (mid.number < MAX_LINES → next ≡ mid) → mid.number ≡ old.number + 1
      → (length mid.engine.network.newest ≤ own mid.engine → IsReplied bounds old line reply mid)
      → ((lines : List (List ℕ)) (done : List (ℕ × Items)) → HasPlayed bounds lines done old
      → HasPlayed bounds (lines ++ line ∷ []) (done ++ (mid.number, reply_words reply) ∷ []) mid)
      → WasReplied bounds old line next reply
  replied mid next reply engine same counts leads plays = (
    subst (λ (e : Held). length e.network.newest ≤ own e
        → GoesTo bounds (λ refused. line_turn bounds refused (old.number + 1) line
        (engine_state old.engine)) reply (engine_state e)) (sym engine) leads,
    λ early lines done has.
        subst (λ (n : ℕ). HasPlayed bounds (lines ++ line ∷ []) (done ++ (n, reply_words reply) ∷ []) next) counts
        (subst (λ (p : PlayerState). HasPlayed bounds (lines ++ line ∷ [])
        (done ++ (mid.number, reply_words reply) ∷ []) p)
        (sym (same (subst (λ (n : ℕ). n < MAX_LINES) (sym counts) early))) (plays lines done has)),
  )

  -- the first line
  pub first_played : (next : PlayerState) (said : Result ScriptReply Cause) → old.number ≡ 0
      → IfOk said (λ reply. (lines : List (List ℕ)) (done : List (ℕ × Items)) → HasPlayed bounds lines done old
      → HasPlayed bounds (lines ++ line ∷ []) (done ++ (next.number, reply_words reply) ∷ []) next)
      → IfOk said (λ _. next.number ≡ old.number + 1)
      → HasPlayed bounds [] [] old
      → IfOk said (λ reply. HasPlayed bounds (line ∷ []) ((1, reply_words reply) ∷ []) next)
  first_played next (Ok reply) none plays counts has =
      subst (λ (n : ℕ). HasPlayed bounds (line ∷ []) ((n, reply_words reply) ∷ []) next)
      (counts ∙ ap (λ n. n + 1) none) (plays [] [] has)
  first_played next (Err cause) none plays counts has = tt
