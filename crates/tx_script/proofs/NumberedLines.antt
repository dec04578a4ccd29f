-- The numbers of steps in the loop over the lines, by what was found of each.
use Rattle.std.proofs.Common.{◌≡◌, ◌≤◌, ◌<◌, ◌+◌, ℕ, List, [], ◌∷◌, length, Option, Some, None, IfSome, option_map, Ok, refl, sym, ap, subst, ◌∙◌}
use Rattle.std.specs.Io.KnownBytes.{Appends, Keeps}
use Rattle.tx_types.specs.declared.key.Key.{Key}
use Rattle.tx_types.specs.declared.limits.TheConstants.{MAX_LIVE_SESSIONS}
use Rattle.tx_core.specs.Histories.{History}
use Rattle.tx_core.specs.Shadow.{shadow}
use Rattle.tx_core.specs.Worlds.{IsWorldRun}
use Rattle.tx_core.proofs.seats.Beginnings.{run_beginning}
use Rattle.tx_trace.specs.Traces.{Noted, Traces}
use Rattle.tx_text.specs.declared.lines.Found.{Found}
use Rattle.tx_text.specs.declared.lines.Found.TheVariants as found
use Rattle.tx_text.specs.Lines.{lines_of}
use Rattle.tx_text.specs.Members.{reply_text}
use Rattle.tx_reply.specs.declared.reply.ScriptReply.{ScriptReply}
use Rattle.tx_reply.specs.Replies.{reply_words}
use Rattle.tx_network.specs.Networks.{IsTraced}
use Rattle.tx_engine.specs.Slots.{Held, engine_state, own, Goes, GoesTo, TurnedBy}
use Rattle.tx_engine.specs.Openings.{IsOpening}
use Rattle.tx_script.specs.declared.line.Turned.TheVariants as turned
use Rattle.tx_script.specs.Play.{line_turn}
use Rattle.tx_script.specs.Loops.{Ahead, AheadBy, FoundTurned, FitsFound, NotesLine, NumberedAt}
use Rattle.tx_script.proofs.Scripts.{Counts, before_too, exactly}
use Rattle.tx_script.proofs.LineNumbers.{NumbersSoFar, none_so_far, numbers_on, numbered_at, line_grew, counted, filled}

module _ (bounds : List Key) (number : ℕ) (line : List ℕ) (e next : Held) where
  reply_goes : (f : Found) (reply : ScriptReply) → FitsFound f (turned.Goes reply)
      → Goes bounds e next (FoundTurned bounds number f line (turned.Goes reply) e next)
      → Goes bounds e next (TurnedBy bounds (λ refused. line_turn bounds refused number line) (Ok reply) e next)
  reply_goes found.Line reply fits goes = goes
  reply_goes found.Long reply fits goes = absurd (cc (fits))
  reply_goes found.End reply fits goes = absurd (cc (fits))

  end_same : (f : Found) → FitsFound f turned.End → FoundTurned bounds number f line turned.End e next
      → next.network.newest ≡ e.network.newest
  end_same found.Line fits same = absurd fits
  end_same found.Long fits same = absurd (cc (fits))
  end_same found.End fits same = same

reply_ahead : (f : Found) (line : List ℕ) (left : Option (List ℕ)) (ahead : List (List ℕ)) (reply : ScriptReply)
    → FitsFound f (turned.Goes reply) → Ahead f line left ahead
    → (rest : List ℕ) × (left ≡ Some rest) × (ahead ≡ line ∷ lines_of rest)
reply_ahead found.Line line left ahead reply fits is = is
reply_ahead found.Long line left ahead reply fits is = absurd (cc (fits))
reply_ahead found.End line left ahead reply fits is = absurd (cc (fits))

end_ahead : (f : Found) (line : List ℕ) (left : Option (List ℕ)) (ahead : List (List ℕ)) → FitsFound f turned.End
    → Ahead f line left ahead → ahead ≡ []
end_ahead found.Line line left ahead fits is = absurd fits
end_ahead found.Long line left ahead fits is = absurd (cc (fits))
end_ahead found.End line left ahead fits is = is

module _ (bounds : List Key) (first0 : Found) (line0 : List ℕ) (left0 old : Option (List ℕ)) where
  -- whatever lines come first: these are ahead, the others have been played, and their steps have
  -- these numbers
  abbrev pub NumbersOn : Found → List ℕ → Option (List ℕ) → Option (List ℕ) → ℕ → Held → List ℕ → Type 0
  NumbersOn f line left new number e numbers = length e.network.newest ≤ own e
      → IsWorldRun bounds e.network.newest → (lines : List (List ℕ)) → Ahead first0 line0 left0 lines
      → (ahead : List (List ℕ)) × Ahead f line left ahead
      × NumbersSoFar bounds lines ahead old new number e numbers

  -- the same between two lines, where it may not have been looked yet what the first is
  abbrev pub NumbersBy : Option Found → List ℕ → Option (List ℕ) → Option (List ℕ) → ℕ → Held → List ℕ → Type 0
  NumbersBy before line left new number e numbers = length e.network.newest ≤ own e
      → IsWorldRun bounds e.network.newest → (lines : List (List ℕ)) → Ahead first0 line0 left0 lines
      → (ahead : List (List ℕ)) × AheadBy before line left ahead
      × NumbersSoFar bounds lines ahead old new number e numbers

  pub numbers_first : (e : Held) (numbers : Option (List ℕ)) → IsOpening e → length e.slots ≡ MAX_LIVE_SESSIONS
      → IfSome numbers (λ ns. ns ≡ []) → IfSome numbers (NumbersBy (Some first0) line0 left0 old 0 e)
  numbers_first e None opens size none = tt
  numbers_first e (Some ns) opens size none =
      λ le run lines a. (lines, a, none_so_far bounds e lines old ns opens size none)

  -- it was looked what it is
  pub numbers_found : (before : Option Found) (line0' : List ℕ) (left0' new : Option (List ℕ)) (number : ℕ) (e : Held)
      (f : Found) (line : List ℕ) (left : Option (List ℕ)) (numbers : Option (List ℕ))
      → ((lines : List (List ℕ)) → AheadBy before line0' left0' lines → Ahead f line left lines)
      → IfSome numbers (NumbersBy before line0' left0' new number e)
      → IfSome numbers (NumbersOn f line left new number e)
  numbers_found before line0' left0' new number e f line left None reads on = tt
  numbers_found before line0' left0' new number e f line left (Some ns) reads on = λ le run lines a. (
      let (ahead, is, x) = on le run lines a in (ahead, reads ahead is, x))

  module _ (f : Found) (line : List ℕ) (left new : Option (List ℕ)) (number : ℕ) (e next : Held)
      (c : Counts bounds number e) where
    -- a reply
    module _ (reply : ScriptReply) (goes : Goes bounds e next (FoundTurned bounds (number + 1) f line
        (turned.Goes reply) e next)) (fits : FitsFound f (turned.Goes reply)) (new' : Option (List ℕ))
        (sent : Appends new new' (reply_text (number + 1, reply_words reply)))
        (traced : length next.network.newest ≤ own next → IsTraced next.network) where
      go : Goes bounds e next (TurnedBy bounds (λ refused. line_turn bounds refused (number + 1) line) (Ok reply) e
          next)
      go = reply_goes bounds (number + 1) line e next f reply fits goes

      follows : length next.network.newest ≤ own next → GoesTo bounds (λ refused. line_turn bounds refused (number + 1)
          line (engine_state e)) reply (engine_state next)
      follows le = exactly bounds number e next c _ go le

      next_numbers : (line' : List ℕ) (count : ℕ)
          → Some count ≡ option_map (λ (t : Noted). length t.steps) next.network.trace → (numbers : List ℕ)
          → NumbersOn f line left new number e numbers
          → NumbersBy None line' left new' (number + 1) next (filled numbers count (number + 1))
      next_numbers line' count made numbers on = λ le run lines a. (
          let grew = line_grew bounds line number e next reply (follows le) in
          let (ahead, is, x) = on (before_too bounds number e next c _ goes le)
          (run_beginning bounds e.network.newest next.network.newest run grew) lines a in
          let (rest, left_is, at) = reply_ahead f line left ahead reply fits is in (
            lines_of rest,
            (rest, left_is, refl),
            numbers_on bounds line number e next reply (follows le) lines (lines_of rest) old new numbers
                (subst (λ l. NumbersSoFar bounds lines l old new number e numbers) at x) count
                (counted next.network.trace count bounds next.network.newest made (traced le) run) new' sent,
          ))

      pub numbers_next : (line' : List ℕ) (made : Option ℕ)
          → made ≡ option_map (λ (t : Noted). length t.steps) next.network.trace → (olds news : Option (List ℕ))
          → NotesLine (number + 1) made olds news → IfSome olds (NumbersOn f line left new number e)
          → IfSome news (NumbersBy None line' left new' (number + 1) next)
      numbers_next line' made is olds None noted on = tt
      numbers_next line' made is olds (Some ns) (before, count, was, so_many, fills) on =
          subst (NumbersBy None line' left new' (number + 1) next) (sym fills)
          (next_numbers line' count (sym so_many ∙ is) before
          (subst (λ o. IfSome o (NumbersOn f line left new number e)) was on))

    -- nothing is left
    module _ (goes : Goes bounds e next (FoundTurned bounds (number + 1) f line turned.End e next))
        (fits : FitsFound f turned.End) (new' : Option (List ℕ)) (kept : Keeps new new') where
      pub numbers_end : (numbers : Option (List ℕ)) → IfSome numbers (NumbersOn f line left new number e)
          → length next.network.newest ≤ own next → IsWorldRun bounds next.network.newest → (lines : List (List ℕ))
          → Ahead first0 line0 left0 lines
          → IfSome numbers (λ ns. NumberedAt bounds lines ns next.network.newest old new')
      numbers_end None on le run lines a = tt
      numbers_end (Some ns) on le run lines a =
          let same = end_same bounds (number + 1) line e next f fits (exactly bounds number e next c _ goes le) in
          let run' = subst (IsWorldRun bounds) same run in
          let (ahead, is, x) = on (before_too bounds number e next c _ goes le) run' lines a in
          subst (λ h. NumberedAt bounds lines ns h old new') (sym same)
          (numbered_at bounds lines old new new' number e ns
          (subst (λ l. NumbersSoFar bounds lines l old new number e ns) (end_ahead f line left ahead fits is) x) run'
          kept)
