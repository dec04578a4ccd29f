-- When all has settled, the condition holds: nobody else acted.
use Rattle.std.proofs.Common.{◌≡◌, ◌≤◌, ◌+◌, ℕ, List, [], length, inr, Option, Some, None, IfSome, Result, Ok, Err, refl, sym, subst, ap, ◌∙◌}
use Rattle.std.proofs.lemmas.Bool.{lt-ltb}
use Rattle.std.specs.Io.KnownBytes.{Keeps}
use Rattle.std.proofs.KnownBytes.{Appends-nil, Appends-kept}
use Rattle.std.specs.Result.{IfOk, IfErr}
use Rattle.tx_types.specs.declared.key.Key.{Key}
use Rattle.tx_types.specs.declared.limits.TheConstants.{MAX_LIVE_SESSIONS}
use Rattle.tx_core.specs.Recording.{AllOfSeats}
use Rattle.tx_core.specs.Worlds.{IsWorldRun}
use Rattle.tx_core.proofs.seats.Beginnings.{run_beginning}
use Rattle.tx_text.specs.declared.end.End.{End}
use Rattle.tx_text.specs.declared.end.Broken.{Broken}
use Rattle.tx_text.specs.declared.lines.Found.{Found}
use Rattle.tx_text.specs.declared.lines.Found.TheVariants as found
use Rattle.tx_text.specs.Lines.{max_line}
use Rattle.tx_engine.specs.Semantics.{opening}
use Rattle.tx_engine.specs.Slots.{Held, own, AllSeated, Settled}
use Rattle.tx_engine.proofs.HistoryLengths.{history_upto}
use Rattle.tx_evidence.specs.Lines.{bounds_of}
use Rattle.tx_script.specs.Play.{EndsLines, BreaksLines, ending}
use Rattle.tx_script.specs.Loops.{Ahead, first_bounds, EndsAt, BreaksAt}
use Rattle.tx_script.proofs.PlayReplies.{is_play}

-- all that came was made by the engine
pub all_came : (bounds : List Key) (e : Held) (seats : ℕ) → length e.slots ≡ MAX_LIVE_SESSIONS → AllSeated bounds 0 e
    → Settled bounds e → AllOfSeats seats e.network.newest → seats ≡ length bounds + 2 + MAX_LIVE_SESSIONS
    → length e.network.newest ≤ own e
all_came bounds e seats size seated settled all count =
    history_upto bounds e seated settled (subst (λ n. AllOfSeats n e.network.newest) (count ∙ ap (λ n. length bounds + 2
    + n) (sym size)) all)

module _ (bounds : List Key) (e : Held) (came : length e.network.newest
    ≤ own e) (run : IsWorldRun bounds e.network.newest) where
  pub ends_lines : (lines : List (List ℕ)) (old new : Option (List ℕ)) (end : End)
      → (length e.network.newest ≤ own e → EndsAt bounds lines e.network.newest old new end)
      → EndsLines bounds lines old new end
  ends_lines lines old new end h =
      let (refused, p, plays, history, wrote, ended) = h came in
      (refused, p, is_play bounds refused lines p plays (subst (IsWorldRun bounds) (sym history) run), wrote, ended)

  pub breaks_lines : (lines : List (List ℕ)) (old new : Option (List ℕ)) (why : Broken)
      → (length e.network.newest ≤ own e → BreaksAt bounds lines why e.network.newest old new)
      → BreaksLines bounds why lines old new
  breaks_lines lines old new why h =
      let (refused, first, rest, p, written, more, split, plays, begins, wrote, whole, cause) = h came in (
        refused,
        first,
        rest,
        p,
        written,
        more,
        split,
        is_play bounds refused first p plays (run_beginning bounds p.history e.network.newest run begins),
        wrote,
        whole,
        cause,
      )

-- what follows from what holds of a result
pub then_ok : {T E : Type 0} (P Q : T → Type 0) (r : Result T E) → IfOk r P → ((x : T) → P x → Q x) → IfOk r Q
then_ok P Q (Ok x) p on = on x p
then_ok P Q (Err x) p on = tt

pub then_err : {T E : Type 0} (P Q : E → Type 0) (r : Result T E) → IfErr r P → ((x : E) → P x → Q x) → IfErr r Q
then_err P Q (Ok x) p on = tt
then_err P Q (Err x) p on = on x p

pub if_some : {X : Type 0} (P Q : X → Type 0) (o : Option X) → ((x : X) → P x → Q x) → IfSome o P → IfSome o Q
if_some P Q None f h = tt
if_some P Q (Some x) f h = f x h

pub any_some : {X : Type 0} (P : X → Type 0) (o : Option X) → ((x : X) → P x) → IfSome o P
any_some P None f = tt
any_some P (Some x) f = f x

-- broken off before the first line
pub breaks_first : (bounds : List Key) (why : Broken) (lines : List (List ℕ)) (old new : Option (List ℕ))
    → Keeps old new → BreaksLines bounds why lines old new
breaks_first bounds why lines old new kept = (
  [],
  [],
  lines,
  ending (opening MAX_LIVE_SESSIONS),
  [],
  [],
  refl,
  is_play bounds [] [] (ending (opening MAX_LIVE_SESSIONS)) refl tt,
  Appends-kept _ _ _ _ (Appends-nil old) kept,
  refl,
  inr refl,
)

-- the keys between the regions are those that the lines ahead say
pub bounds_ahead : (f : Found) (line : List ℕ) (left : Option (List ℕ)) (lines : List (List ℕ))
    → Ahead f line left lines → first_bounds f line ≡ bounds_of lines
bounds_ahead found.Line line left lines (rest, left_is, is) = ap bounds_of (sym is)
bounds_ahead found.Long line left lines (first, more, long, is) =
    sym (rw (lt-ltb max_line (length first) long) refl) ∙ ap bounds_of (sym is)
bounds_ahead found.End line left lines is = ap bounds_of (sym is)
