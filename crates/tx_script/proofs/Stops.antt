-- A line that is out of order, and how far the session of its step is.
use Rattle.std.proofs.Common.{◌≡◌, ◌≤◌, ◌+◌, ℕ, List, ◌∷◌, length, Option, Some, Err, IfSome, sym, ap, subst, ◌∙◌}
use Rattle.tx_types.specs.declared.fault.Cause.{Cause}
use Rattle.tx_types.specs.declared.fault.Cause.TheVariants as cause
use Rattle.tx_types.specs.declared.key.Key.{Key}
use Rattle.tx_text.specs.declared.lines.Found.{Found}
use Rattle.tx_text.specs.declared.lines.Found.TheVariants as found
use Rattle.tx_text.specs.Lines.{lines_of}
use Rattle.tx_engine.specs.Semantics.{EngineState}
use Rattle.tx_engine.specs.Slots.{Held, engine_state, own, Goes, TurnedBy}
use Rattle.tx_ops.specs.declared.stage.SessionStage.{SessionStage}
use Rattle.tx_script.specs.declared.line.Turned.TheVariants as turned
use Rattle.tx_script.specs.Play.{line_turn}
use Rattle.tx_script.specs.Loops.{Ahead, FoundTurned, FitsFound}
use Rattle.tx_script.specs.Stages.{line_stage, IsOutOfOrder, NotesStage}
use Rattle.tx_script.proofs.Scripts.{Counts, PlaysOn, before_too, exactly}
use Rattle.tx_script.proofs.Lines.{On}
use Rattle.tx_script.proofs.Ends.{if_some}

module _ (bounds : List Key) (number : ℕ) (line : List ℕ) (left : Option (List ℕ)) (e next : Held) where
  -- it is a line that was read: of one that is too long that is the cause
  order_found : (f : Found) (ahead : List (List ℕ)) → FitsFound f (turned.Stops cause.Order) → Ahead f line left ahead
      → Goes bounds e next (FoundTurned bounds number f line (turned.Stops cause.Order) e next)
      → (rest : List (List ℕ)) × (ahead ≡ line ∷ rest)
      × Goes bounds e next (TurnedBy bounds (λ refused. line_turn bounds refused number line) (Err cause.Order) e next)
  order_found found.Line ahead fits (rest, left_is, is) goes = (lines_of rest, is, goes)
  order_found found.Long ahead fits is goes = absurd (cc (fits))
  order_found found.End ahead fits is goes = absurd (cc (fits))

module _ (bounds : List Key) (first0 : Found) (line0 : List ℕ) (left0 old : Option (List ℕ)) (f : Found)
    (line : List ℕ) (left new : Option (List ℕ)) (number : ℕ) (e : Held)
    (on : On bounds first0 line0 left0 old f line left new number e) (next : Held) (c : Counts bounds number e) where
  order_stops : Goes bounds e next (FoundTurned bounds (number + 1) f line (turned.Stops cause.Order) e next)
      → FitsFound f (turned.Stops cause.Order) → length next.network.newest ≤ own next → (at : SessionStage)
      → line_stage (engine_state next) (number + 1) line ≡ Some at → (lines : List (List ℕ))
      → Ahead first0 line0 left0 lines → IsOutOfOrder bounds lines at
  order_stops goes fits le at stage lines a =
      let (ahead, is, x) = on lines a in
      let (rest, comes, stop) = order_found bounds (number + 1) line left e next f ahead fits is goes in
      let here : PlaysOn bounds lines (line ∷ rest) old new number e =
      subst (λ l. PlaysOn bounds lines l old new number e) comes x in
      let same : engine_state next ≡ engine_state e = (exactly bounds number e next c _ stop le).0 in
      record {
        first = here.lines;
        line = line;
        rest = rest;
        done = here.done;
        number = number;
        engine = e;
        split = here.split;
        so_far = here.so_far (before_too bounds number e next c _ stop le);
        halts = (exactly bounds number e next c _ stop le).1;
        stage = subst (λ (s : EngineState). line_stage s (number + 1) line ≡ Some at) same stage;
      }

  -- what is noted where a line stops a script
  pub stop_noted : (why : Cause) → Goes bounds e next (FoundTurned bounds (number + 1) f line (turned.Stops why) e next)
      → FitsFound f (turned.Stops why) → (o : Option SessionStage)
      → IfSome o (λ at. (why ≡ cause.Order) × (line_stage (engine_state next) (number + 1) line ≡ Some at))
      → length next.network.newest ≤ own next → (lines : List (List ℕ)) → Ahead first0 line0 left0 lines
      → NotesStage bounds lines o
  stop_noted why goes fits o is le lines a = if_some _ _ o (λ at h. order_stops
      (subst (λ w. Goes bounds e next (FoundTurned bounds (number + 1) f line (turned.Stops w) e next)) h.0 goes)
      (subst (λ w. FitsFound f (turned.Stops w)) h.0 fits) le at h.1 lines a) is
