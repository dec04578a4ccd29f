-- The loop over the lines: under the condition that no more events came than the engine made, what
-- is written is of a play.
use Rattle.std.proofs.Common.{◌≡◌, ◌≤◌, ◌⊎◌, inl, inr, ◌+◌, ◌-◌, ℕ, suc, Bool, List, [], ◌∷◌, ◌++◌, length, take, drop, Option, Result, Ok, Err, refl, sym, ap, subst, ◌∙◌, append_assoc, append-nil, take-append-drop, arith}
use Rattle.std.specs.Result.{IfErr, IsErrAnd}
use Rattle.std.specs.Io.KnownBytes.{Appends, Keeps}
use Rattle.std.proofs.KnownBytes.{Appends-nil, Appends-trans, Appends-kept}
use Rattle.serde_json.specs.Data.{Items}
use Rattle.tx_types.specs.declared.fault.Cause.{Cause}
use Rattle.tx_types.specs.declared.key.Key.{Key}
use Rattle.tx_types.specs.declared.limits.TheConstants.{MAX_LIVE_SESSIONS, MAX_LINES}
use Rattle.tx_core.specs.Histories.{Begins}
use Rattle.tx_core.proofs.seats.Beginnings.{begins_all, begins_more}
use Rattle.tx_text.specs.declared.end.Broken.{Broken}
use Rattle.tx_text.specs.declared.end.Broken.TheVariants.{Output}
use Rattle.tx_text.specs.declared.end.End.TheVariants.{Well, Faulted}
use Rattle.tx_reply.specs.declared.reply.ScriptReply.{ScriptReply}
use Rattle.tx_text.specs.Output.{BreaksText}
use Rattle.tx_reply.specs.Replies.{reply_words}
use Rattle.tx_text.specs.Members.{reply_text}
use Rattle.tx_text.specs.Faults.{fault_words}
use Rattle.tx_engine.specs.Semantics.{EngineState, opening, Transition, goes, inquires, shows, stops}
use Rattle.tx_engine.specs.Plays.{Leads}
use Rattle.tx_network.specs.Networks.{NetworkParts, IsTraced}
use Rattle.tx_engine.specs.Slots.{Held, engine_state, own, AllSeated, Goes, GoesTo, TurnedBy}
use Rattle.tx_engine.specs.Openings.{IsOpening}
use Rattle.tx_engine.proofs.AllGrow.{leads_begin}
use Rattle.tx_engine.proofs.SlotCounts.{all_fewer}
use Rattle.tx_script.specs.Play.{line_turn, Played, before, ending, faulted, Plays, render}
use Rattle.tx_script.specs.Players.{after, SoFar}
use Rattle.tx_script.specs.Loops.{BetweenLines, EndsAt, BreaksAt}
use Rattle.tx_script.proofs.OnePlay.{line_grows}

pub if_err_is : {T E : Type 0} (P : E → Type 0) (r : Result T E) (e : E) → IsErrAnd r (λ y. y ≡ e) → P e → IfErr r P
if_err_is P (Ok v) e is p = tt
if_err_is P (Err y) e is p = subst P (sym is) p

pub if_any_err : {T E : Type 0} {P : E → Type 0} (r : Result T E) → ((e : E) → P e) → IfErr r P
if_any_err (Ok v) f = tt
if_any_err (Err e) f = f e

pub render-append : (xs ys : List (ℕ × Items)) → render (xs ++ ys) ≡ render xs ++ render ys
render-append [] ys = refl
render-append (x ∷ xs) ys = ap (λ l. reply_text x ++ l) (render-append xs ys) ∙ sym
    (append_assoc (reply_text x) (render xs) (render ys))

-- the text of one more
pub render_more : (done : List (ℕ × Items)) (r : ℕ × Items) → render (done ++ r ∷ []) ≡ render done ++ reply_text r
render_more done r = render-append done (r ∷ []) ∙ ap (λ t. render done ++ t) (append-nil (reply_text r))

module _ (bounds : List Key) where
  -- what is counted before each line
  pub record Counts (number : ℕ) (e : Held) : Type 0 where
    pub size : length e.slots ≡ MAX_LIVE_SESSIONS
    pub left : ℕ
    pub lines : left + number ≡ MAX_LINES + 1
    pub seated : AllSeated bounds left e
    pub counts : own e ≤ length e.network.newest

  -- before each line: these lines are ahead, and under the condition the others have been played
  pub record PlaysOn (all ahead : List (List ℕ)) (old new : Option (List ℕ)) (number : ℕ) (e : Held) : Type 0 where
    pub lines : List (List ℕ)
    pub done : List (ℕ × Items)
    pub split : all ≡ lines ++ ahead
    pub wrote : Appends old new (render done)
    pub so_far : length e.network.newest ≤ own e → SoFar bounds lines done number e

  pub at_first : (e : Held) (all : List (List ℕ)) (old : Option (List ℕ)) → IsOpening e
      → length e.slots ≡ MAX_LIVE_SESSIONS → PlaysOn all all old old 0 e
  at_first e all old opens size = record {
    lines = [];
    done = [];
    split = refl;
    wrote = Appends-nil old;
    so_far = λ le. record {
      told = [];
      goes_on = λ later more p plays. subst (λ s. Plays bounds s 0 later more p)
          (opens.engine ∙ ap opening size) plays;
    };
  }

  pub counts_first : (e : Held) → IsOpening e → length e.slots ≡ MAX_LIVE_SESSIONS → AllSeated bounds (MAX_LINES + 1) e
      → Counts 0 e
  counts_first e opens size ready = record {
    size = size;
    left = MAX_LINES + 1;
    lines = omega arith;
    seated = ready;
    counts = omega (arith, opens.none);
  }

  -- a turn that goes on to an engine state leads to what is played from there
  pub lead_to : (next : EngineState) (reply : ScriptReply) (later : List Bool)
      (Goes : EngineState → ScriptReply → List Bool
      → Type 0) (Stops : Cause → Type 0) → Goes next reply later → (t : Transition)
      → Leads bounds (λ n said left. (n ≡ next) × (said ≡ reply) × (left ≡ later)) (λ c. ⊥) t
      → Leads bounds Goes Stops t
  lead_to next reply later Goes Stops here (goes n said left) (a, b, c) =
      subst (λ x. Goes x said left) (sym a) (subst (λ x. Goes next x left) (sym b)
      (subst (λ x. Goes next reply x) (sym c) here))
  lead_to next reply later Goes Stops here (inquires network body more) (a, answers, leads) =
      (a, answers, lead_to next reply later Goes Stops here (more a) leads)
  lead_to next reply later Goes Stops here (shows network key more) (copy, is, leads) =
      (copy, is, lead_to next reply later Goes Stops here (more copy) leads)
  lead_to next reply later Goes Stops here (stops c) leads = absurd leads

  -- a line that goes on: what it leads to has been led to
  module _ (lines : List (List ℕ)) (done : List (ℕ × Items)) (line : List ℕ) (number : ℕ) (e next : Held)
      (reply : ScriptReply) where
    together : (p : Played) → after done (before (number + 1, reply_words reply) p)
        ≡ after (done ++ (number + 1, reply_words reply) ∷ []) p
    together p = λ i. record {
      replies = sym (append_assoc done ((number + 1, reply_words reply) ∷ []) p.replies) i;
      history = p.history;
      ended = p.ended;
    }

    pub so_next : SoFar bounds lines done number e
        → GoesTo bounds (λ refused. line_turn bounds refused (number + 1) line (engine_state e)) reply
        (engine_state next)
        → SoFar bounds (lines ++ line ∷ []) (done ++ (number + 1, reply_words reply) ∷ []) (number + 1) next
    so_next soon follows = record {
      told = soon.told ++ follows.0;
      goes_on = λ later more p plays.
          (let here : Plays bounds (engine_state e) number (follows.0 ++ later) (line ∷ more) (before (
            number + 1,
            reply_words reply,
          ) p) = lead_to (engine_state next) reply later _ _ (
            p,
            plays,
            refl,
          ) (line_turn bounds (follows.0 ++ later) (number
          + 1) line (engine_state e)) (follows.1 later) in
          subst (λ (q : Played). Plays bounds (opening MAX_LIVE_SESSIONS) 0 ((soon.told ++ follows.0)
          ++ later) ((lines ++ line ∷ []) ++ more) q) (together p)
          (subst (λ bits. Plays bounds (opening MAX_LIVE_SESSIONS) 0 bits ((lines ++ line ∷ [])
          ++ more) (after done (before (
            number + 1,
            reply_words reply,
          ) p))) (sym (append_assoc soon.told follows.0 later))
          (subst (λ ls. Plays bounds (opening MAX_LIVE_SESSIONS) 0 (soon.told
          ++ (follows.0 ++ later)) ls (after done (before (
            number + 1,
            reply_words reply,
          ) p))) (sym (append_assoc lines (line ∷ []) more))
          (soon.goes_on (follows.0 ++ later) (line ∷ more) (before (number + 1, reply_words reply) p) here))));
    }

  -- ---- before the next line

  module _ (all ahead : List (List ℕ)) (old new : Option (List ℕ)) (number : ℕ) (e : Held)
      (x : PlaysOn all ahead old new number e) where
    -- it is not played
    pub breaks : (why : Broken) (new' : Option (List ℕ)) → Keeps new new' → length e.network.newest ≤ own e
        → BreaksAt bounds all why e.network.newest old new'
    breaks why new' kept le =
        let soon = x.so_far le in (
          soon.told ++ [],
          x.lines ++ [],
          ahead,
          after x.done (ending (engine_state e)),
          render x.done,
          [],
          x.split ∙ ap (λ l. l ++ ahead) (sym (append-nil x.lines)),
          soon.goes_on [] [] (ending (engine_state e)) refl,
          begins_all e.network.newest,
          Appends-kept _ _ _ _ x.wrote kept,
          ap render (append-nil x.done) ∙ sym (append-nil (render x.done)),
          inr refl,
        )

    -- none is ahead
    pub ends_well : ahead ≡ [] → (new' : Option (List ℕ)) → Keeps new new' → length e.network.newest ≤ own e
        → EndsAt bounds all e.network.newest old new' Well
    ends_well none new' kept le =
        let soon = x.so_far le in (
          soon.told ++ [],
          after x.done (ending (engine_state e)),
          subst (λ l. Plays bounds (opening MAX_LIVE_SESSIONS) 0 (soon.told
              ++ []) l (after x.done (ending (engine_state e)))) (sym (x.split ∙ ap (λ r. x.lines
              ++ r) none)) (soon.goes_on [] [] (ending (engine_state e)) refl),
          refl,
          subst (λ d. Appends old new' (render d)) (sym (append-nil x.done)) (Appends-kept _ _ _ _ x.wrote kept),
          refl,
        )

  pub kept : (number : ℕ) (e : Held) → Counts number e → BetweenLines bounds e
  kept number e c = record {
    size = c.size;
    seated = all_fewer bounds c.left 0 e (omega arith) c.seated;
    counts = c.counts;
  }

  pub ready : (number : ℕ) (e : Held) → Counts number e → number ≤ MAX_LINES → AllSeated bounds 1 e
  ready number e c some = all_fewer bounds c.left 1 e (omega (arith, c.lines, some)) c.seated

  -- ---- a line

  -- the condition after a line is the condition before it, and that the line is exact
  module _ (number : ℕ) (e next : Held) (c : Counts number e) (Exact : Type 0) (goes : Goes bounds e next Exact) where
    pub still : number + 1 ≤ MAX_LINES → Counts (number + 1) next
    still some =
        let less : ℕ = (MAX_LINES + 1) - (number + 1) in
        let is : c.left ≡ suc less = omega (arith, c.lines, some) in
        record {
          size = goes.size ∙ c.size;
          left = less;
          lines = omega (arith, some);
          seated = goes.seated less (subst (λ n. AllSeated bounds n e) is c.seated);
          counts = omega (arith, c.counts, goes.counts, goes.grows);
        }

    -- the line may be the last that is read
    pub kept_after : number ≤ MAX_LINES → BetweenLines bounds next
    kept_after some =
        let less : ℕ = MAX_LINES - number in
        let is : c.left ≡ suc less = omega (arith, c.lines, some) in
        record {
          size = goes.size ∙ c.size;
          seated = all_fewer bounds less 0 next (omega arith)
              (goes.seated less (subst (λ n. AllSeated bounds n e) is c.seated));
          counts = omega (arith, c.counts, goes.counts, goes.grows);
        }

    module _ (le : length next.network.newest ≤ own next) where
      pub before_too : length e.network.newest ≤ own e
      before_too = omega (arith, le, goes.counts, goes.grows)

      pub exactly : Exact
      exactly = goes.exact (omega (arith, le, goes.counts, c.counts))

      -- the steps that are kept go on
      pub traced_on : (from : NetworkParts) → (length e.network.newest ≤ own e → IsTraced from → IsTraced e.network)
          → IsTraced from → IsTraced next.network
      traced_on from before first = goes.traced (omega (arith, le, goes.counts, c.counts)) (before before_too first)

  module _ (all : List (List ℕ)) (line : List ℕ) (rest : List (List ℕ)) (old new : Option (List ℕ)) (number : ℕ)
      (e next : Held) (c : Counts number e) (x : PlaysOn all (line ∷ rest) old new number e) where
    -- a fault
    module _ (why : Cause) (goes : Goes bounds e next (TurnedBy bounds (λ refused. line_turn bounds refused (number
        + 1) line) (Err why) e next)) (le : length next.network.newest ≤ own next) where
      abbrev soon : SoFar bounds x.lines x.done number e
      soon = x.so_far (before_too number e next c _ goes le)

      abbrev stop : TurnedBy bounds (λ refused. line_turn bounds refused (number + 1) line) (Err why) e next
      stop = exactly number e next c _ goes le

      stayed : next.network.newest ≡ e.network.newest
      stayed = ap (λ (s : EngineState). s.network.history) stop.0

      abbrev last : Played
      last = faulted (engine_state e) (number + 1) why

      here : Plays bounds (engine_state e) number [] (line ∷ rest) last
      here = subst (Leads bounds (λ n said left. (q : Played) × Plays bounds n (number + 1) left rest q
          × (last ≡ before (number + 1, reply_words said) q)) (λ d. last
          ≡ faulted (engine_state e) (number + 1) d)) (sym (stop.1 [])) refl

      fault_plays : Plays bounds (opening MAX_LIVE_SESSIONS) 0 (soon.told ++ []) all (after x.done last)
      fault_plays = subst (λ l. Plays bounds (opening MAX_LIVE_SESSIONS) 0 (soon.told
          ++ []) l (after x.done last)) (sym x.split) (soon.goes_on [] (line ∷ rest) last here)

      abbrev text : List ℕ
      text = reply_text (number + 1, fault_words why)

      pub ends_faulted : (new' new'' : Option (List ℕ)) → Appends new new' (reply_text (number + 1, fault_words why))
          → Keeps new' new'' → EndsAt bounds all next.network.newest old new'' Faulted
      ends_faulted new' new'' sent kept = (
        soon.told ++ [],
        after x.done last,
        fault_plays,
        sym stayed,
        subst (Appends old new'') (sym (render_more x.done (
          number + 1,
          fault_words why,
        ))) (Appends-kept _ _ _ _ (Appends-trans _ _ _ _ _ x.wrote sent) kept),
        refl,
      )

      broken_fault : (b : Broken) (new' : Option (List ℕ)) (written more : List ℕ) → Appends old new' written
          → render x.done ++ text ≡ written ++ more → (b ≡ Output) ⊎ (more ≡ [])
          → BreaksAt bounds all b next.network.newest old new'
      broken_fault b new' written more appends is whole = (
        soon.told ++ [],
        all,
        [],
        after x.done last,
        written,
        more,
        sym (append-nil all),
        fault_plays,
        subst (Begins e.network.newest) (sym stayed) (begins_all e.network.newest),
        appends,
        render_more x.done (number + 1, fault_words why) ∙ is,
        whole,
      )

      -- its line was not written whole
      pub breaks_fault : (b : Broken) (new' : Option (List ℕ))
          → BreaksText b new new' (reply_text (number + 1, fault_words why))
          → BreaksAt bounds all b next.network.newest old new'
      breaks_fault b new' (inl (is, part)) =
          broken_fault b new' (render x.done ++ take part.0 text) (drop part.0 text)
          (Appends-trans _ _ _ _ _ x.wrote part.1)
          (ap (λ t. render x.done ++ t) (sym (take-append-drop part.0 text)) ∙ sym
          (append_assoc (render x.done) (take part.0 text) (drop part.0 text))) (inl is)
      breaks_fault b new' (inr kept) =
          subst (λ h. BreaksAt bounds all b h old new') (sym stayed) (breaks all (line
          ∷ rest) old new number e x b new' kept (before_too number e next c _ goes le))

      -- after its line
      pub breaks_last : (b : Broken) (new' new'' : Option (List ℕ))
          → Appends new new' (reply_text (number + 1, fault_words why)) → Keeps new' new''
          → BreaksAt bounds all b next.network.newest old new''
      breaks_last b new' new'' sent kept =
          broken_fault b new'' (render x.done ++ text) []
          (Appends-kept _ _ _ _ (Appends-trans _ _ _ _ _ x.wrote sent) kept) (sym (append-nil (render x.done
          ++ text))) (inr refl)

    -- a reply
    module _ (reply : ScriptReply) (goes : Goes bounds e next
        (TurnedBy bounds (λ refused. line_turn bounds refused (number + 1) line) (Ok reply) e next)) where
      abbrev told : List (ℕ × Items)
      told = x.done ++ (number + 1, reply_words reply) ∷ []

      abbrev played : List (List ℕ)
      played = x.lines ++ line ∷ []

      soon_after : length next.network.newest ≤ own next → SoFar bounds played told (number + 1) next
      soon_after le = so_next x.lines x.done line number e next reply
          (x.so_far (before_too number e next c _ goes le)) (exactly number e next c _ goes le)

      split_more : all ≡ played ++ rest
      split_more = x.split ∙ sym (append_assoc x.lines (line ∷ []) rest)

      pub goes_on : (new' : Option (List ℕ)) → Appends new new' (reply_text (number + 1, reply_words reply))
          → PlaysOn all rest old new' (number + 1) next
      goes_on new' sent = record {
        lines = played;
        done = told;
        split = split_more;
        wrote = subst (Appends old new') (sym (render_more x.done (
          number + 1,
          reply_words reply,
        ))) (Appends-trans _ _ _ _ _ x.wrote sent);
        so_far = soon_after;
      }

      -- the line only added events
      grew : length next.network.newest ≤ own next → Begins e.network.newest next.network.newest
      grew le =
          let follows : GoesTo bounds (λ refused. line_turn bounds refused (number
          + 1) line (engine_state e)) reply (engine_state next) = exactly number e next c _ goes le in
          leads_begin bounds _ (λ c. ⊥) e.network.newest e.network.newest next.network.newest (λ n said left y.
          subst (λ (s : EngineState). Begins s.network.history next.network.newest) (sym y.0)
          (begins_all next.network.newest)) (λ c no. absurd no)
          (line_turn bounds (follows.0 ++ []) (number
          + 1) line (engine_state e)) (line_grows bounds (engine_state e) (follows.0 ++ []) (number
          + 1) line) (follows.1 [])

      -- its line was not written whole
      pub breaks_reply : (b : Broken) (new' : Option (List ℕ))
          → BreaksText b new new' (reply_text (number + 1, reply_words reply)) → length next.network.newest ≤ own next
          → BreaksAt bounds all b next.network.newest old new'
      breaks_reply b new' (inl (is, part)) le =
          let text = reply_text (number + 1, reply_words reply) in
          let soon = soon_after le in (
            soon.told ++ [],
            played ++ [],
            rest,
            after told (ending (engine_state next)),
            render x.done ++ take part.0 text,
            drop part.0 text,
            split_more ∙ ap (λ l. l ++ rest) (sym (append-nil played)),
            soon.goes_on [] [] (ending (engine_state next)) refl,
            begins_all next.network.newest,
            Appends-trans _ _ _ _ _ x.wrote part.1,
            ap render (append-nil told) ∙ render_more x.done (
              number + 1,
              reply_words reply,
            ) ∙ ap (λ t. render x.done
                ++ t) (sym (take-append-drop part.0 text)) ∙ sym (append_assoc (render x.done) (take part.0 text)
                (drop part.0 text)),
            inl is,
          )
      breaks_reply b new' (inr kept) le =
          let (refused, first, others, p, written, more, split, plays, begins, appends, whole, why) =
          breaks all (line ∷ rest) old new number e x b new' kept (before_too number e next c _ goes le) in (
            refused,
            first,
            others,
            p,
            written,
            more,
            split,
            plays,
            begins_more p.history e.network.newest next.network.newest begins (grew le),
            appends,
            whole,
            why,
          )
