-- The numbers of the lines during which steps were taken, from line to line.
use Rattle.std.proofs.Common.{◌≡◌, ◌≤◌, ◌<◌, ◌⊎◌, inl, inr, ◌+◌, ◌-◌, ℕ, suc, Bool, List, [], ◌∷◌, ◌++◌, length, take, get_or, Option, Some, None, IfSome, option_map, Ok, refl, sym, ap, subst, ◌∙◌, append_assoc, append-nil, arith, length-append}
use Rattle.std.specs.Prelude.{replicate}
use Rattle.std.proofs.lemmas.Bool.{cases_lt}
use Rattle.std.proofs.lemmas.List.{take-append-le, take_all, get_or_append_left, get_or-append-add, get_or-replicate, length-replicate}
use Rattle.std.specs.Io.KnownBytes.{Appends, Keeps}
use Rattle.std.proofs.KnownBytes.{Appends-nil, Appends-trans, Appends-kept}
use Rattle.serde_json.specs.Data.{Items}
use Rattle.tx_types.specs.declared.key.Key.{Key}
use Rattle.tx_types.specs.declared.limits.TheConstants.{MAX_LIVE_SESSIONS}
use Rattle.tx_plan.specs.Answers.{start_in}
use Rattle.tx_core.specs.declared.event.Event.{Event}
use Rattle.tx_core.specs.declared.event.Event.TheVariants.{Drawn, Began, Declared, Answered, Stopped, Took}
use Rattle.tx_core.specs.Histories.{History, Begins}
use Rattle.tx_core.specs.Decisions.{effect_in}
use Rattle.tx_core.specs.EventSteps.{reading}
use Rattle.tx_core.specs.Shadow.{shadow, answering, deciding_in, checking}
use Rattle.tx_core.specs.Worlds.{IsWorldRun}
use Rattle.tx_core.proofs.seats.Beginnings.{begins_all, begins_more, run_beginning}
use Rattle.tx_trace.specs.Traces.{Noted, Traces}
use Rattle.tx_text.specs.declared.end.End.TheVariants.{Well}
use Rattle.tx_text.specs.Members.{reply_text}
use Rattle.tx_reply.specs.declared.reply.ScriptReply.{ScriptReply}
use Rattle.tx_reply.specs.Replies.{reply_words}
use Rattle.tx_network.specs.Networks.{IsTraced}
use Rattle.tx_engine.specs.Semantics.{EngineState, opening}
use Rattle.tx_engine.specs.Slots.{Held, engine_state, own, GoesTo}
use Rattle.tx_engine.specs.Openings.{IsOpening}
use Rattle.tx_engine.proofs.AllGrow.{leads_begin}
use Rattle.tx_script.specs.Play.{line_turn, Played, before, ending, Plays, render}
use Rattle.tx_script.specs.Numbered.{steps_in, IsTakenAt, AreNumbers}
use Rattle.tx_script.specs.Loops.{NumberedAt}
use Rattle.tx_script.proofs.OnePlay.{line_grows}
use Rattle.tx_script.proofs.Scripts.{lead_to, render_more}
use Rattle.tx_script.proofs.PlayReplies.{is_play}

-- ---- steps

-- one event more has no step less
one_more : (e : Event) (h : History) → length (shadow h) ≤ length (shadow (e ∷ h))
one_more (Drawn seat n) h = omega arith
one_more (Began t) h = omega arith
one_more (Declared d) h = omega arith
one_more (Answered t o) h = omega (arith, length-append (answering t o) (shadow h))
one_more (Stopped seat) h = omega arith
one_more (Took x) h = omega (
  arith,
  length-append (deciding_in h x (start_in x.body)) (checking x.body (effect_in h x)
      ++ (reading x.body x.answer ++ shadow h)),
  length-append (checking x.body (effect_in h x)) (reading x.body x.answer ++ shadow h),
  length-append (reading x.body x.answer) (shadow h),
)

-- a beginning has no step more
pub fewer_steps : (l h : History) → Begins l h → length (shadow l) ≤ length (shadow h)
fewer_steps l [] b = omega (arith, ap (λ (x : History). length (shadow x)) b)
fewer_steps l (e ∷ h) b =
    elim b [
      | inl same ↦ omega (arith, ap (λ (x : History). length (shadow x)) same)
      | inr more ↦ omega (arith, fewer_steps l h more, one_more e h)
    ]

-- as many steps are kept as there are
pub counted : (trace : Option Noted) (count : ℕ) (bounds : List Key) (h : History)
    → Some count ≡ option_map (λ (t : Noted). length t.steps) trace
    → IfSome trace (λ t. (bounds : List Key) → IsWorldRun bounds h → Traces h t) → IsWorldRun bounds h
    → count ≡ length (shadow h)
counted None count bounds h is traced run = absurd (cc (is))
counted (Some t) count bounds h is traced run =
    let same : count ≡ length t.steps = cc (is) in
    same ∙ ap length (traced bounds run).0.shadows

-- ---- numbers

-- so many numbers, of which those that come are these
abbrev pub filled : List ℕ → ℕ → ℕ → List ℕ
filled before count number = take count before ++ replicate (count - length before) number

module _ (before : List ℕ) (count number : ℕ) (few : length before ≤ count) where
  filled_is : filled before count number ≡ before ++ replicate (count - length before) number
  filled_is = ap (λ l. l ++ replicate (count - length before) number) (take_all count before few)

  pub filled_length : length (filled before count number) ≡ count
  filled_length = ap length filled_is ∙ length-append before (replicate (count - length before) number)
      ∙ omega (arith, length-replicate (count - length before) number, few)

  pub filled_old : (place : ℕ) → place < length before
      → get_or (filled before count number) place 0 ≡ get_or before place 0
  filled_old place old = ap (λ l. get_or l place 0) filled_is
      ∙ get_or_append_left before (replicate (count - length before) number) 0 place old

  pub filled_new : (place : ℕ) → length before ≤ place → place < count
      → get_or (filled before count number) place 0 ≡ number
  filled_new place new within =
      let past : length before + (place - length before) ≡ place = omega (arith, new) in
      ap (λ l. get_or l place 0) filled_is
      ∙ ap (λ n. get_or (before ++ replicate (count - length before) number) n 0) (sym past)
      ∙ get_or-append-add before (replicate (count - length before) number) (place - length before) 0
      ∙ get_or-replicate (count - length before) (place - length before) number 0 (omega (arith, new, within))

-- ---- lines

module _ (bounds : List Key) where
  -- what is played behind these replies
  abbrev pub behind : List (ℕ × Items) → Played → Played
  behind done p = record { replies = done ++ p.replies; history = p.history; ended = p.ended }

  -- these lines have led to the engine's engine state, with these replies, where the calls that
  -- `told` names met want of memory
  abbrev pub LedTo : List Bool → List (List ℕ) → List (ℕ × Items) → ℕ → Held → Type 0
  LedTo told lines done number e = (later : List Bool) (more : List (List ℕ)) (p : Played)
      → Plays bounds (engine_state e) number later more p
      → Plays bounds (opening MAX_LIVE_SESSIONS) 0 (told ++ later) (lines ++ more) (behind done p)

  -- so they are a script of their own
  abbrev pub alone : List (ℕ × Items) → Held → Played
  alone done e = behind done (ending (engine_state e))

  led_alone : (told : List Bool) (lines : List (List ℕ)) (done : List (ℕ × Items)) (number : ℕ) (e : Held)
      → LedTo told lines done number e → (later : List Bool)
      → Plays bounds (opening MAX_LIVE_SESSIONS) 0 (told ++ later) lines (alone done e)
  led_alone told lines done number e led later =
      subst (λ l. Plays bounds (opening MAX_LIVE_SESSIONS) 0 (told ++ later) l (alone done e)) (append-nil lines)
      (led later [] (ending (engine_state e)) refl)

  -- the step at this place was taken during the line of this number, whatever is played later
  pub record Placed (told : List Bool) (lines : List (List ℕ)) (h : History) (place number : ℕ) : Type 0 where
    pub earlier : ℕ
    pub line : number ≡ earlier + 1
    pub within : earlier < length lines
    pub first : Played
    pub last : Played
    pub plays_first : (later : List Bool)
        → Plays bounds (opening MAX_LIVE_SESSIONS) 0 (told ++ later) (take earlier lines) first
    pub plays_last : (later : List Bool)
        → Plays bounds (opening MAX_LIVE_SESSIONS) 0 (told ++ later) (take number lines) last
    pub begins_first : Begins first.history h
    pub begins_last : Begins last.history h
    pub not_yet : steps_in first ≤ place
    pub by_then : place < steps_in last

  -- before each line: these lines are ahead, the others have been played, and their steps have
  -- these numbers
  pub record NumbersSoFar (all ahead : List (List ℕ)) (old new : Option (List ℕ)) (number : ℕ) (e : Held)
      (numbers : List ℕ) : Type 0 where
    pub told : List Bool
    pub lines : List (List ℕ)
    pub done : List (ℕ × Items)
    pub split : all ≡ lines ++ ahead
    pub count : length lines ≡ number
    pub wrote : Appends old new (render done)
    pub led : LedTo told lines done number e
    pub many : length numbers ≡ length (shadow e.network.newest)
    pub placed : (place : ℕ) → place < length numbers
        → Placed told lines e.network.newest place (get_or numbers place 0)

  pub none_so_far : (e : Held) (all : List (List ℕ)) (old : Option (List ℕ)) (numbers : List ℕ) → IsOpening e
      → length e.slots ≡ MAX_LIVE_SESSIONS → numbers ≡ [] → NumbersSoFar all all old old 0 e numbers
  none_so_far e all old numbers opens size none = record {
    told = [];
    lines = [];
    done = [];
    split = refl;
    count = refl;
    wrote = Appends-nil old;
    led = λ later more p plays. subst (λ s. Plays bounds s 0 later more p) (opens.engine ∙ ap opening size) plays;
    many = ap length none ∙ sym (ap (λ (s : EngineState). length (shadow s.network.history)) opens.engine);
    placed = λ place within. absurd (omega (arith, ap length none, within));
  }

  -- ---- a line that goes on

  module _ (line : List ℕ) (number : ℕ) (e next : Held) (reply : ScriptReply) (follows : GoesTo bounds (λ refused.
      line_turn bounds refused (number + 1) line (engine_state e)) reply (engine_state next)) where
    -- it only added events
    pub line_grew : Begins e.network.newest next.network.newest
    line_grew = leads_begin bounds _ (λ c. ⊥) e.network.newest e.network.newest next.network.newest (λ n said left y.
        subst (λ (s : EngineState). Begins s.network.history next.network.newest) (sym y.0)
        (begins_all next.network.newest)) (λ c no. absurd no)
        (line_turn bounds (follows.0 ++ []) (number + 1) line (engine_state e))
        (line_grows bounds (engine_state e) (follows.0 ++ []) (number + 1) line) (follows.1 [])

    module _ (told : List Bool) (lines : List (List ℕ)) (done : List (ℕ × Items))
        (led : LedTo told lines done number e) where
      abbrev said : ℕ × Items
      said = (number + 1, reply_words reply)

      together : (p : Played) → behind done (before said p) ≡ behind (done ++ said ∷ []) p
      together p = λ i. record {
        replies = sym (append_assoc done (said ∷ []) p.replies) i;
        history = p.history;
        ended = p.ended;
      }

      pub led_on : LedTo (told ++ follows.0) (lines ++ line ∷ []) (done ++ said ∷ []) (number + 1) next
      led_on = λ later more p plays.
          (let here : Plays bounds (engine_state e) number (follows.0 ++ later) (line ∷ more) (before said p) =
          lead_to bounds (engine_state next) reply later _ _ (
            p,
            plays,
            refl,
          ) (line_turn bounds (follows.0 ++ later) (number + 1) line (engine_state e)) (follows.1 later) in
          subst (λ (q : Played). Plays bounds (opening MAX_LIVE_SESSIONS) 0 ((told ++ follows.0) ++ later) ((lines
          ++ line ∷ []) ++ more) q) (together p)
          (subst (λ bits. Plays bounds (opening MAX_LIVE_SESSIONS) 0 bits ((lines ++ line ∷ []) ++ more)
          (behind done (before said p))) (sym (append_assoc told follows.0 later))
          (subst (λ ls. Plays bounds (opening MAX_LIVE_SESSIONS) 0 (told ++ (follows.0 ++ later)) ls
          (behind done (before said p))) (sym (append_assoc lines (line ∷ []) more))
          (led (follows.0 ++ later) (line ∷ more) (before said p) here))))

      -- a play of some of the lines before it, whatever is played later
      earlier_plays : (n : ℕ) (p : Played) → n ≤ length lines
          → ((later : List Bool) → Plays bounds (opening MAX_LIVE_SESSIONS) 0 (told ++ later) (take n lines) p)
          → (later : List Bool) → Plays bounds (opening MAX_LIVE_SESSIONS) 0 ((told ++ follows.0) ++ later)
          (take n (lines ++ line ∷ [])) p
      earlier_plays n p within plays later =
          subst (λ bits. Plays bounds (opening MAX_LIVE_SESSIONS) 0 bits (take n (lines ++ line ∷ [])) p)
          (sym (append_assoc told follows.0 later))
          (subst (λ ls. Plays bounds (opening MAX_LIVE_SESSIONS) 0 (told ++ (follows.0 ++ later)) ls p)
          (sym (take-append-le n lines (line ∷ []) within)) (plays (follows.0 ++ later)))

      -- a step that was taken before it
      placed_before : (place n : ℕ) → Placed told lines e.network.newest place n
          → Placed (told ++ follows.0) (lines ++ line ∷ []) next.network.newest place n
      placed_before place n x = record {
        earlier = x.earlier;
        line = x.line;
        within = omega (arith, x.within, length-append lines (line ∷ []));
        first = x.first;
        last = x.last;
        plays_first = earlier_plays x.earlier x.first (omega (arith, x.within)) x.plays_first;
        plays_last = earlier_plays n x.last (omega (arith, x.within, x.line)) x.plays_last;
        begins_first = begins_more x.first.history e.network.newest next.network.newest x.begins_first line_grew;
        begins_last = begins_more x.last.history e.network.newest next.network.newest x.begins_last line_grew;
        not_yet = x.not_yet;
        by_then = x.by_then;
      }

      -- a step that was taken during it
      module _ (count : length lines ≡ number) where
        whole : (later : List Bool) → Plays bounds (opening MAX_LIVE_SESSIONS) 0 ((told ++ follows.0) ++ later)
            (take (number + 1) (lines ++ line ∷ [])) (alone (done ++ said ∷ []) next)
        whole later = subst (λ ls. Plays bounds (opening MAX_LIVE_SESSIONS) 0 ((told ++ follows.0) ++ later) ls
            (alone (done ++ said ∷ []) next))
            (sym (take_all (number + 1) (lines ++ line ∷ []) (omega (arith, count, length-append lines (line ∷ [])))))
            (led_alone (told ++ follows.0) (lines ++ line ∷ []) (done ++ said ∷ []) (number + 1) next led_on later)

        alone_before : (later : List Bool) → Plays bounds (opening MAX_LIVE_SESSIONS) 0 (told ++ later)
            (take number lines) (alone done e)
        alone_before later = subst (λ ls. Plays bounds (opening MAX_LIVE_SESSIONS) 0 (told ++ later) ls (alone done e))
            (sym (take_all number lines (omega (arith, count)))) (led_alone told lines done number e led later)

        placed_here : (place : ℕ) → length (shadow e.network.newest) ≤ place
            → place < length (shadow next.network.newest)
            → Placed (told ++ follows.0) (lines ++ line ∷ []) next.network.newest place (number + 1)
        placed_here place past within = record {
          earlier = number;
          line = refl;
          within = omega (arith, count, length-append lines (line ∷ []));
          first = alone done e;
          last = alone (done ++ said ∷ []) next;
          plays_first = earlier_plays number (alone done e) (omega (arith, count)) alone_before;
          plays_last = whole;
          begins_first = line_grew;
          begins_last = begins_all next.network.newest;
          not_yet = past;
          by_then = within;
        }

    -- the numbers go on
    module _ (all rest : List (List ℕ)) (old new : Option (List ℕ)) (numbers : List ℕ)
        (x : NumbersSoFar all (line ∷ rest) old new number e numbers) (count : ℕ)
        (counts : count ≡ length (shadow next.network.newest)) where
      few : length numbers ≤ count
      few = omega (arith, x.many, counts, fewer_steps e.network.newest next.network.newest line_grew)

      abbrev filled_here : List ℕ
      filled_here = filled numbers count (number + 1)

      placed_on : (place : ℕ) → place < length filled_here → Placed (x.told ++ follows.0) (x.lines ++ line ∷ [])
          next.network.newest place (get_or filled_here place 0)
      placed_on place within = elim (cases_lt place (length numbers)) [
        | inl before ↦ subst (Placed (x.told ++ follows.0) (x.lines ++ line ∷ []) next.network.newest place)
            (sym (filled_old numbers count (number + 1) few place before))
            (placed_before x.told x.lines x.done x.led place (get_or numbers place 0) (x.placed place before))
        | inr after ↦ subst (Placed (x.told ++ follows.0) (x.lines ++ line ∷ []) next.network.newest place)
            (sym (filled_new numbers count (number + 1) few place after
            (omega (arith, within, filled_length numbers count (number + 1) few))))
            (placed_here x.told x.lines x.done x.led x.count place (omega (arith, after, x.many))
            (omega (arith, within, counts, filled_length numbers count (number + 1) few)))
      ]

      pub numbers_on : (new' : Option (List ℕ)) → Appends new new' (reply_text (number + 1, reply_words reply))
          → NumbersSoFar all rest old new' (number + 1) next filled_here
      numbers_on new' sent = record {
        told = x.told ++ follows.0;
        lines = x.lines ++ line ∷ [];
        done = x.done ++ (number + 1, reply_words reply) ∷ [];
        split = x.split ∙ sym (append_assoc x.lines (line ∷ []) rest);
        count = length-append x.lines (line ∷ []) ∙ omega (arith, x.count);
        wrote = subst (Appends old new') (sym (render_more x.done (
          number + 1,
          reply_words reply,
        ))) (Appends-trans _ _ _ _ _ x.wrote sent);
        led = led_on x.told x.lines x.done x.led;
        many = filled_length numbers count (number + 1) few ∙ counts;
        placed = placed_on;
      }

  -- ---- the end

  -- the step at this place was taken during the line of this number
  taken_at : (told : List Bool) (lines : List (List ℕ)) (h : History) (place number : ℕ) → IsWorldRun bounds h
      → Placed told lines h place number → IsTakenAt bounds (told ++ []) lines place number
  taken_at told lines h place number run x = record {
    earlier = x.earlier;
    line = x.line;
    within = x.within;
    before = x.first;
    after = x.last;
    plays_before = is_play bounds (told ++ []) (take x.earlier lines) x.first (x.plays_first [])
        (run_beginning bounds x.first.history h run x.begins_first);
    plays_after = is_play bounds (told ++ []) (take number lines) x.last (x.plays_last [])
        (run_beginning bounds x.last.history h run x.begins_last);
    not_yet = x.not_yet;
    by_then = x.by_then;
  }

  pub numbered_at : (all : List (List ℕ)) (old new new' : Option (List ℕ)) (number : ℕ) (e : Held) (numbers : List ℕ)
      → NumbersSoFar all [] old new number e numbers → IsWorldRun bounds e.network.newest → Keeps new new'
      → NumberedAt bounds all numbers e.network.newest old new'
  numbered_at all old new new' number e numbers x run kept =
      let same : x.lines ≡ all = sym (append-nil x.lines) ∙ sym x.split in
      let last : Played = alone x.done e in
      record {
        refused = x.told ++ [];
        played = last;
        plays = subst (λ ls. Plays bounds (opening MAX_LIVE_SESSIONS) 0 (x.told ++ []) ls last) same
            (led_alone x.told x.lines x.done number e x.led []);
        history = refl;
        wrote = subst (λ d. Appends old new' (render d)) (sym (append-nil x.done))
            (Appends-kept _ _ _ _ x.wrote kept);
        ended = refl;
        are = record {
          each = x.many;
          taken = λ place within. subst (λ ls. IsTakenAt bounds (x.told ++ []) ls place (get_or numbers place 0)) same
              (taken_at x.told x.lines e.network.newest place (get_or numbers place 0) run (x.placed place within));
        };
      }
