-- The loop over the lines, by what was found of each.
use Rattle.std.proofs.Common.{◌≡◌, ◌≤◌, ◌<◌, ◌+◌, ℕ, Bool, List, [], ◌∷◌, ◌++◌, length, Option, None, Some, Result, Ok, Err, refl, sym, ap, subst, ◌∙◌, append_assoc, IfSome, arith}
use Rattle.std.proofs.lemmas.Bool.{lt-ltb}
use Rattle.std.specs.Prelude.{IfOk, drop}
use Rattle.std.specs.Io.{StartsWith}
use Rattle.std.specs.Io.BufRead.{DropsConsumable}
use Rattle.std.specs.Io.KnownBytes.{Appends, Consumes, Keeps}
use Rattle.std.proofs.lemmas.List.{take-append-drop, length-append}
use Rattle.std.proofs.Math.Seq.{drop-append-add}
use Rattle.std.proofs.KnownBytes.{Keeps-refl}
use Rattle.tx_types.specs.declared.fault.Cause.{Cause}
use Rattle.tx_types.specs.declared.fault.Cause.TheVariants as cause
use Rattle.tx_types.specs.declared.key.Key.{Key}
use Rattle.tx_types.specs.declared.limits.TheConstants.{MAX_LIVE_SESSIONS}
use Rattle.tx_core.specs.Histories.{History}
use Rattle.tx_text.specs.declared.end.Broken.{Broken}
use Rattle.tx_text.specs.declared.end.End.{End}
use Rattle.tx_text.specs.declared.end.End.TheVariants.{Well, Faulted}
use Rattle.tx_text.specs.declared.lines.Found.{Found}
use Rattle.tx_text.specs.declared.lines.Found.TheVariants as found
use Rattle.tx_reply.specs.declared.reply.ScriptReply.{ScriptReply}
use Rattle.tx_text.specs.Lines.{lines_of, max_line, IsFirstLine, NoNewline, ReadsLine}
use Rattle.tx_text.proofs.TextLines.{lines_of-line}
use Rattle.tx_text.specs.Output.{BreaksText}
use Rattle.tx_reply.specs.Replies.{reply_words}
use Rattle.tx_text.specs.Members.{reply_text}
use Rattle.tx_text.specs.Faults.{fault_words}
use Rattle.tx_engine.specs.Semantics.{stops}
use Rattle.tx_engine.specs.Slots.{Held, engine_state, own, Goes, TurnedBy}
use Rattle.tx_engine.specs.Openings.{IsOpening}
use Rattle.tx_script.specs.declared.line.Turned.{Turned}
use Rattle.tx_script.specs.declared.line.Turned.TheVariants as turned
use Rattle.tx_script.specs.Play.{line_turn}
use Rattle.tx_script.specs.Loops.{Ahead, AheadBy, FoundTurned, FitsFound, EndsAt, BreaksAt}
use Rattle.tx_script.proofs.Scripts.{Counts, PlaysOn, at_first, breaks, ends_well, before_too, exactly, ends_faulted, breaks_fault, breaks_last, goes_on, breaks_reply}

-- a line that is too long
long_turn : (bounds : List Key) (later : List Bool) (number : ℕ) (line : List ℕ) (e : Held) → max_line < length line
    → line_turn bounds later number line (engine_state e) ≡ stops cause.Long
long_turn bounds later number line e long = rw (lt-ltb max_line (length line) long) refl

-- the cause is that one
long_is : (c : Cause) → turned.Stops c ≡ turned.Stops cause.Long → cause.Long ≡ c
long_is c is = cc (is)

-- the first line ahead, where there is one
abbrev First : (line : List ℕ) (rest : List (List ℕ)) → List (List ℕ) → Type 0
First line rest ahead = ahead ≡ line ∷ rest

module _ (bounds : List Key) (number : ℕ) (line : List ℕ) (left : Option (List ℕ)) (e next : Held) where
  end_ahead : (f : Found) (ahead : List (List ℕ)) → FitsFound f turned.End → Ahead f line left ahead → ahead ≡ []
  end_ahead found.Line ahead fits is = absurd fits
  end_ahead found.Long ahead fits is = absurd (cc (fits))
  end_ahead found.End ahead fits is = is

  end_same : (f : Found) → FitsFound f turned.End → FoundTurned bounds number f line turned.End e next
      → next.network.newest ≡ e.network.newest
  end_same found.Line fits same = absurd fits
  end_same found.Long fits same = absurd (cc (fits))
  end_same found.End fits same = same

  -- what a step made, where more is known of it
  goes_then : (P Q : Type 0) → Goes bounds e next P → (P → Q) → Goes bounds e next Q
  goes_then P Q g on = record {
    made = g.made;
    counts = g.counts;
    size = g.size;
    seated = g.seated;
    grows = g.grows;
    exact = λ le. on (g.exact le);
    traced = g.traced;
  }

  stop_found : (f : Found) (ahead : List (List ℕ)) (c : Cause) → FitsFound f (turned.Stops c) → Ahead f line left ahead
      → Goes bounds e next (FoundTurned bounds number f line (turned.Stops c) e next)
      → (first : List ℕ) × (rest : List (List ℕ)) × First first rest ahead
      × Goes bounds e next (TurnedBy bounds (λ refused. line_turn bounds refused number first) (Err c) e next)
  stop_found found.Line ahead c fits (rest, left_is, is) goes = (line, lines_of rest, is, goes)
  stop_found found.Long ahead c fits (first, more, long, is) goes = (
    first,
    more,
    is,
    goes_then _ _ goes (λ same. (
      same,
      λ later. long_turn bounds later number first e long ∙ ap (λ d. stops d) (long_is c fits),
    )),
  )
  stop_found found.End ahead c fits is goes = absurd (cc (fits))

  reply_found : (f : Found) (ahead : List (List ℕ)) (reply : ScriptReply) → FitsFound f (turned.Goes reply)
      → Ahead f line left ahead → Goes bounds e next (FoundTurned bounds number f line (turned.Goes reply) e next)
      → (rest : List ℕ) × (left ≡ Some rest) × First line (lines_of rest) ahead
      × Goes bounds e next (TurnedBy bounds (λ refused. line_turn bounds refused number line) (Ok reply) e next)
  reply_found found.Line ahead reply fits (rest, left_is, is) goes = (rest, left_is, is, goes)
  reply_found found.Long ahead reply fits is goes = absurd (cc (fits))
  reply_found found.End ahead reply fits is goes = absurd (cc (fits))

-- what a read found of the lines that are left
pub reads_ahead : (f : Found) (line : List ℕ) (bytes : List ℕ) (left : Option (List ℕ)) → ReadsLine bytes left f line
    → Ahead f line left (lines_of bytes)
reads_ahead found.Line line bytes left (rest, left_is, short, is) = (rest, left_is, is)
reads_ahead found.Long line bytes left (first, more, long, is) = (first, more, long, is)
reads_ahead found.End line bytes left is = ap lines_of is

-- known bytes stay
keeps_some : (bytes : List ℕ) (new : Option (List ℕ)) → Keeps (Some bytes) new → new ≡ Some bytes
keeps_some bytes None kept = absurd kept
keeps_some bytes (Some ys) kept = ap Some kept

-- known bytes that are taken come first
takes_some : (bytes taken : List ℕ) (new : Option (List ℕ)) → Consumes (Some bytes) new taken
    → (rest : List ℕ) × (new ≡ Some rest) × (bytes ≡ taken ++ rest)
takes_some bytes taken None took = absurd took
takes_some bytes taken (Some ys) took = (ys, refl, took)

-- what a read found, of which nothing was looked for before
pub read_ahead : (f : Found) (line0 line : List ℕ) (old mid left : Option (List ℕ)) → Keeps old mid
    → IfSome mid (λ bytes. ReadsLine bytes left f line) → (lines : List (List ℕ)) → AheadBy None line0 old lines
    → Ahead f line left lines
read_ahead f line0 line old mid left kept reads lines (bytes, old_is, is) =
    let mid_is : mid ≡ Some bytes = keeps_some bytes mid (subst (λ o. Keeps o mid) old_is kept) in
    subst (Ahead f line left) (sym is) (reads_ahead f line bytes left (subst
    (λ o. IfSome o (λ xs. ReadsLine xs left f line)) mid_is reads))

-- a line that was taken with its newline
pub taken_ahead : (line0 line : List ℕ) (old left : Option (List ℕ)) → NoNewline line
    → Consumes old left (line ++ 10 ∷ []) → (lines : List (List ℕ)) → AheadBy None line0 old lines
    → Ahead found.Line line left lines
taken_ahead line0 line old left plain took lines (bytes, old_is, is) =
    let (rest, left_is, whole) = takes_some bytes (line ++ 10 ∷ []) left
    (subst (λ o. Consumes o left (line ++ 10 ∷ [])) old_is took) in
    (rest, left_is, is ∙ (ap lines_of (whole ∙ append_assoc line (10 ∷ []) rest) ∙ lines_of-line line rest plain))

-- what comes behind a line and its newline
behind : (line rest more : List ℕ) → drop (length line + 1) ((line ++ 10 ∷ rest) ++ more) ≡ rest ++ more
behind line rest more =
    ap (drop (length line + 1)) (append_assoc line (10 ∷ rest) more) ∙ drop-append-add line (10 ∷ (rest ++ more)) 1

-- bytes that begin with a line and its newline
line_first : (xs available line rest : List ℕ) → StartsWith xs available → available ≡ line ++ 10 ∷ rest
    → xs ≡ (line ++ 10 ∷ []) ++ drop (length line + 1) xs
line_first xs available line rest starts is =
    let more = drop (length available) xs in
    let split : xs ≡ (line ++ 10 ∷ rest) ++ more =
    sym (take-append-drop (length available) xs) ∙ ap (λ f. f ++ more) (starts ∙ is) in
    let left : drop (length line + 1) xs ≡ rest ++ more =
    ap (drop (length line + 1)) split ∙ behind line rest more in
    split ∙ (append_assoc line (10 ∷ rest) more ∙ (sym (append_assoc line (10 ∷ []) (rest ++ more))
    ∙ ap (λ r. (line ++ 10 ∷ []) ++ r) (sym left)))

within : (limit : Option ℕ) (a b : ℕ) → b ≤ a → IfSome limit (λ n. a ≤ n) → IfSome limit (λ n. b ≤ n)
within None a b le at = tt
within (Some n) a b le at = omega (arith, le, at)

-- a line in what is at hand is taken with its newline
pub line_consumed : (old mid new : Option (List ℕ)) (limit : Option ℕ) (available line : List ℕ)
    → IfSome old (λ xs. StartsWith xs available) → Keeps old mid
    → IfSome old (λ _. IfSome limit (λ n. length available ≤ n))
    → DropsConsumable mid new limit (length line + 1) → IsFirstLine line available
    → Consumes old new (line ++ 10 ∷ [])
line_consumed None mid new limit available line starts kept room drops first = tt
line_consumed (Some xs) None new limit available line starts kept room drops first = absurd kept
line_consumed (Some xs) (Some ys) new limit available line starts kept room drops (rest, is, plain) =
    let long : length line + 1 ≤ length available =
    omega (arith, ap length is, length-append line (10 ∷ rest)) in
    let gone : new ≡ Some (drop (length line + 1) xs) =
    drops (within limit (length available) (length line + 1) long room)
    ∙ ap (λ z. Some (drop (length line + 1) z)) kept in
    subst (λ o. Consumes (Some xs) o (line ++ 10 ∷ [])) (sym gone) (line_first xs available line rest starts is)

-- what came of a line that was found, where it is known what was found
pub found_next : (r : Result Turned Broken) (A B C D N : Turned → Type 0) → IfOk r A → IfOk r B → IfOk r C → IfOk r D
    → ((t : Turned) → A t → B t → C t → D t → N t) → IfOk r N
found_next (Ok t) A B C D N a b c d f = f t a b c d
found_next (Err e) A B C D N a b c d f = tt

module _ (bounds : List Key) (first0 : Found) (line0 : List ℕ) (left0 old : Option (List ℕ)) where
  -- whatever lines come first: these are ahead, and the others have been played
  abbrev pub On : Found → List ℕ → Option (List ℕ) → Option (List ℕ) → ℕ → Held → Type 0
  On f line left new number e = (lines : List (List ℕ)) → Ahead first0 line0 left0 lines → (ahead : List (List ℕ))
      × Ahead f line left ahead × PlaysOn bounds lines ahead old new number e

  abbrev pub AllEnd : History → Option (List ℕ) → End → Type 0
  AllEnd h new end = (lines : List (List ℕ)) → Ahead first0 line0 left0 lines → EndsAt bounds lines h old new end

  abbrev pub AllBreak : Broken → History → Option (List ℕ) → Type 0
  AllBreak why h new = (lines : List (List ℕ)) → Ahead first0 line0 left0 lines → BreaksAt bounds lines why h old new

  -- the same between two lines, where it may not have been looked yet what the first is
  abbrev pub OnBy : Option Found → List ℕ → Option (List ℕ) → Option (List ℕ) → ℕ → Held → Type 0
  OnBy before line left new number e = (lines : List (List ℕ)) → Ahead first0 line0 left0 lines
      → (ahead : List (List ℕ)) × AheadBy before line left ahead × PlaysOn bounds lines ahead old new number e

  pub on_first : (e : Held) → IsOpening e → length e.slots ≡ MAX_LIVE_SESSIONS → OnBy (Some first0) line0 left0 old 0 e
  on_first e opens size = λ lines a. (lines, a, at_first bounds e lines old opens size)

  -- it was looked what it is
  pub on_found : (before : Option Found) (line0' : List ℕ) (left0' new : Option (List ℕ)) (number : ℕ) (e : Held)
      (f : Found) (line : List ℕ) (left : Option (List ℕ)) → OnBy before line0' left0' new number e
      → ((lines : List (List ℕ)) → AheadBy before line0' left0' lines → Ahead f line left lines)
      → On f line left new number e
  on_found before line0' left0' new number e f line left on reads = λ lines a. (let (ahead, is, x) = on lines a
      in (ahead, reads ahead is, x))

  -- it could not be looked
  pub break_between : (before : Option Found) (line : List ℕ) (left new : Option (List ℕ)) (number : ℕ) (e : Held)
      → OnBy before line left new number e → (why : Broken) → length e.network.newest ≤ own e
      → AllBreak why e.network.newest new
  break_between before line left new number e on why le = λ lines a. (let (ahead, is, x) = on lines a
      in breaks bounds lines ahead old new number e x why new (Keeps-refl new) le)

  module _ (f : Found) (line : List ℕ) (left new : Option (List ℕ)) (number : ℕ) (e : Held)
      (on : On f line left new number e) where
    pub break_before : (why : Broken) (new' : Option (List ℕ)) → Keeps new new' → length e.network.newest ≤ own e
        → AllBreak why e.network.newest new'
    break_before why new' kept le = λ lines a. (let (ahead, is, x) = on lines a
        in breaks bounds lines ahead old new number e x why new' kept le)

    module _ (next : Held) (c : Counts bounds number e) where
      -- nothing is left
      module _ (goes : Goes bounds e next (FoundTurned bounds (number
          + 1) f line turned.End e next)) (fits : FitsFound f turned.End) (new' : Option (List ℕ))
          (kept : Keeps new new') (le : length next.network.newest ≤ own next) where
        le_before : length e.network.newest ≤ own e
        le_before = before_too bounds number e next c _ goes le

        same : next.network.newest ≡ e.network.newest
        same = end_same bounds (number + 1) line left e next f fits (exactly bounds number e next c _ goes le)

        pub end_well : AllEnd next.network.newest new' Well
        end_well = λ lines a. (let (ahead, is, x) = on lines a in
            subst (λ h. EndsAt bounds lines h old new' Well) (sym same) (ends_well bounds lines ahead old new number e x
            (end_ahead bounds (number + 1) line left e next f ahead fits is) new' kept le_before))

        pub end_broken : (why : Broken) → AllBreak why next.network.newest new'
        end_broken why = λ lines a. subst (λ h. BreaksAt bounds lines why h old new') (sym same)
            (break_before why new' kept le_before lines a)

      -- a fault
      module _ (why : Cause) (goes : Goes bounds e next (FoundTurned bounds (number
          + 1) f line (turned.Stops why) e next)) (fits : FitsFound f (turned.Stops why))
          (le : length next.network.newest ≤ own next) where
        pub fault_ends : (new' new'' : Option (List ℕ)) → Appends new new' (reply_text (number + 1, fault_words why))
            → Keeps new' new'' → AllEnd next.network.newest new'' Faulted
        fault_ends new' new'' sent kept = λ lines a. (let (ahead, is, x) = on lines a in
            let (first, rest, at, stop) = stop_found bounds (number + 1) line left e next f ahead why fits is goes in
            ends_faulted bounds lines first rest old new number e next c
            (subst (λ l. PlaysOn bounds lines l old new number e) at x) why stop le new' new'' sent kept)

        pub fault_breaks : (b : Broken) (new' : Option (List ℕ))
            → BreaksText b new new' (reply_text (number + 1, fault_words why)) → AllBreak b next.network.newest new'
        fault_breaks b new' text = λ lines a. (let (ahead, is, x) = on lines a in
            let (first, rest, at, stop) = stop_found bounds (number + 1) line left e next f ahead why fits is goes in
            breaks_fault bounds lines first rest old new number e next c
            (subst (λ l. PlaysOn bounds lines l old new number e) at x) why stop le b new' text)

        pub fault_breaks_last : (b : Broken) (new' new'' : Option (List ℕ))
            → Appends new new' (reply_text (number + 1, fault_words why)) → Keeps new' new''
            → AllBreak b next.network.newest new''
        fault_breaks_last b new' new'' sent kept = λ lines a. (let (ahead, is, x) = on lines a in
            let (first, rest, at, stop) = stop_found bounds (number + 1) line left e next f ahead why fits is goes in
            breaks_last bounds lines first rest old new number e next c
            (subst (λ l. PlaysOn bounds lines l old new number e) at x) why stop le b new' new'' sent kept)

      -- a reply
      module _ (reply : ScriptReply) (goes : Goes bounds e next (FoundTurned bounds (number
          + 1) f line (turned.Goes reply) e next)) (fits : FitsFound f (turned.Goes reply)) where
        pub reply_breaks : (b : Broken) (new' : Option (List ℕ))
            → BreaksText b new new' (reply_text (number + 1, reply_words reply)) → length next.network.newest ≤ own next
            → AllBreak b next.network.newest new'
        reply_breaks b new' text le = λ lines a. (let (ahead, is, x) = on lines a in
            let (rest, left_is, at, go) = reply_found bounds (number + 1) line left e next f ahead reply fits is goes in
            breaks_reply bounds lines line (lines_of rest) old new number e next c
            (subst (λ l. PlaysOn bounds lines l old new number e) at x) reply go b new' text le)

        module _ (new' : Option (List ℕ)) (sent : Appends new new' (reply_text (number + 1, reply_words reply))) where
          -- the lines behind it are next
          pub on_next : (line' : List ℕ) → OnBy None line' left new' (number + 1) next
          on_next line' = λ lines a. (let (ahead, is, x) = on lines a in
              let (rest, left_is, at, go) = reply_found bounds (number + 1) line left e next f ahead reply fits is goes
              in (
                lines_of rest,
                (rest, left_is, refl),
                goes_on bounds lines line (lines_of rest) old new number e next c
                    (subst (λ l. PlaysOn bounds lines l old new number e) at x) reply go new' sent,
              ))
