-- What is filmed goes on by a line, and ends.
use Rattle.std.proofs.Common.{◌≡◌, ◌≤◌, ◌<◌, ◌+◌, ℕ, List, [], ◌∷◌, ◌++◌, length, reverse, Option, Some, None, option_map, is_some, true, Ok, Err, inl, inr, refl, sym, ap, subst, ◌∙◌, append-nil, take, take_all, arith}
use Rattle.std.specs.Prelude.{◌⊎◌, IfSome, All}
use Rattle.std.proofs.lemmas.List.{length-append, length-reverse, append_assoc, reverse-append, reverse-reverse}
use Rattle.std.proofs.lemmas.List.Elements.{All-same, All-nil}
use Rattle.std.proofs.Math.Seq.{take-append_seam}
use Rattle.serde_json.specs.Data.{Items}
use Rattle.tx_types.specs.declared.fault.Cause.{Cause}
use Rattle.tx_types.specs.declared.fault.Cause.TheVariants as causes
use Rattle.tx_types.specs.declared.key.Key.{Key}
use Rattle.tx_types.specs.declared.limits.TheConstants.{MAX_LIVE_SESSIONS}
use Rattle.tx_core.specs.Worlds.{IsWorldRun}
use Rattle.tx_core.specs.Histories.{History, Begins}
use Rattle.tx_core.specs.Shadow.{shadow}
use Rattle.tx_trace.specs.declared.taken_log.TakenLog.{TakenLog}
use Rattle.tx_trace.specs.Takings.{takings, AreTakings}
use Rattle.tx_trace.specs.Traces.{Noted, Traces}
use Rattle.tx_network.specs.Networks.{NetworkParts, IsTraced, takings_in}
use Rattle.tx_core.proofs.Basics.{some_same}
use Rattle.tx_core.proofs.seats.Beginnings.{begins_all}
use Rattle.tx_trace.specs.declared.taken_log.Taking.{Taking}
use Rattle.tx_network.proofs.Traces.{traced_same}
use Rattle.tx_engine.specs.Semantics.{EngineState, opening}
use Rattle.tx_engine.specs.Plays.{Leads}
use Rattle.tx_engine.specs.Slots.{engine_state, own}
use Rattle.tx_text.specs.declared.end.End.{End}
use Rattle.tx_text.specs.declared.end.End.TheVariants.{Well, Faulted, No}
use Rattle.tx_reply.specs.declared.reply.ScriptReply.{ScriptReply}
use Rattle.tx_reply.specs.Replies.{reply_words}
use Rattle.tx_script.specs.Play.{line_turn, Played, Plays, before, ending, faulted}
use Rattle.tx_script.specs.Players.{PlayerState, after, HasPlayed, IsFault, IsReplied, Traced, Peeked}
use Rattle.tx_script.proofs.PlayReplies.{is_play}
use Rattle.tx_script.proofs.LineNumbers.{line_grew}
use Rattle.tx_film.specs.declared.frame.Frame.{Frame}
use Rattle.tx_film.specs.declared.frame.KeyShown.{KeyShown}
use Rattle.tx_film.specs.Films.{FilmParts, words_of, replies_from, Led, StandsSo, Reel, first_lines, Films}
use Rattle.tx_film.specs.Filmed.{Counted, IsShot, Shots, AreShown, HasFilmed, Stands, Halts, StopsAt, Halted, Ended}
use Rattle.tx_film.proofs.Cuts.{cut_reel}

-- one frame more
replies_behind : (n : ℕ) (fs : List Frame) (f : Frame)
    → replies_from n (fs ++ f ∷ []) ≡ replies_from n fs ++ (n + length fs + 1, words_of f.reply) ∷ []
replies_behind n [] f = ap (λ k. (k + 1, words_of f.reply) ∷ []) (omega arith)
replies_behind n (g ∷ fs) f = ap (λ rs. (n + 1, words_of g.reply) ∷ rs) (replies_behind (n + 1) fs f
    ∙ ap (λ k. replies_from (n + 1) fs ++ (k + 1, words_of f.reply) ∷ []) (omega arith))

pub replies_on : (fs : List Frame) (f : Frame) (m : ℕ) → m ≡ length fs + 1
    → replies_from 0 (fs ++ f ∷ []) ≡ replies_from 0 fs ++ (m, words_of f.reply) ∷ []
replies_on fs f m is = replies_behind 0 fs f
    ∙ ap (λ k. replies_from 0 fs ++ (k, words_of f.reply) ∷ []) (omega (arith, is))

-- a beginning of a run is one
runs_begin : (bounds : List Key) (l h : History) → Begins l h → IsWorldRun bounds h → IsWorldRun bounds l
runs_begin bounds l [] b run = subst (IsWorldRun bounds) (sym b) run
runs_begin bounds l (e ∷ h) b run = elim b [
  | inl same ↦ subst (IsWorldRun bounds) (sym same) run
  | inr more ↦ runs_begin bounds l h more run.0
]

-- ---- what is counted

module _ (bounds : List Key) (network : NetworkParts) (took made : ℕ) (c : Counted network took made)
    (traced : IsTraced network) (run : IsWorldRun bounds network.newest) where
  of_trace : Traces network.newest c.trace
  of_trace = subst (λ o. IfSome o (λ t. (bounds : List Key) → IsWorldRun bounds network.newest
      → Traces network.newest t)) c.is traced bounds run

  are_taken : takings network.newest ≡ reverse c.log.takings.items
  are_taken = subst (λ o. IfSome o (AreTakings network.newest)) c.kept of_trace.2

  counted_takings : took ≡ length (takings network.newest)
  counted_takings = c.requests ∙ (sym (length-reverse c.log.takings.items) ∙ ap (λ ts. length ts) (sym are_taken))

  counted_steps : made ≡ length (shadow network.newest)
  counted_steps = c.steps ∙ ap (λ ss. length ss) of_trace.0.shadows

-- one frame more, with its line
reel_on : (bounds shown : List Key) (frames : List Frame) (lines : List (List ℕ)) (f : Frame) (line : List ℕ)
    (a b : EngineState) → IsShot bounds shown (length frames + 1) line a b f
    → Shots bounds shown (reverse frames) (reverse lines) a
    → Shots bounds shown (reverse (frames ++ f ∷ [])) (reverse (lines ++ line ∷ [])) b
reel_on bounds shown frames lines f line a b is reel =
    subst (λ fs. Shots bounds shown fs (reverse (lines ++ line ∷ [])) b) (sym (reverse-append frames (f ∷ [])))
    (subst (λ ls. Shots bounds shown (f ∷ reverse frames) ls b) (sym (reverse-append lines (line ∷ [])))
    (a, subst (λ n. IsShot bounds shown (n + 1) line a b f) (sym (length-reverse frames)) is, reel))

module _ (bounds shown : List Key) where
  -- nothing was filmed yet
  pub begun : (p : PlayerState) → HasPlayed bounds [] [] p → IsTraced p.engine.network
      → engine_state p.engine ≡ opening MAX_LIVE_SESSIONS → HasFilmed bounds shown [] [] p
  begun p played traced begins = record {
    played = played;
    many = refl;
    traced = λ le. traced;
    reel = λ le run. (refl, begins);
  }

  -- ---- where a player stands

  pub stands_so : (p : PlayerState) → Stands bounds p p
  stands_so p = record {
    number = refl;
    left = refl;
    before = λ le. le;
    newest = λ le. refl;
    state = λ le. refl;
    trace = refl;
    played = λ lines done h. h;
  }

  pub stands_on : (p q r : PlayerState) → Stands bounds p q → Stands bounds q r → Stands bounds p r
  stands_on p q r a b = record {
    number = b.number ∙ a.number;
    left = b.left ∙ a.left;
    before = λ le. a.before (b.before le);
    newest = λ le. b.newest le ∙ a.newest (b.before le);
    state = λ le. b.state le ∙ a.state (b.before le);
    trace = b.trace ∙ a.trace;
    played = λ lines done h. b.played lines done (a.played lines done h);
  }

  -- a key was shown
  pub stands_shown : (p q : PlayerState) → Peeked bounds p q
      → ((lines : List (List ℕ)) (done : List (ℕ × Items)) → HasPlayed bounds lines done p
      → HasPlayed bounds lines done q) → Stands bounds p q
  stands_shown p q same played = record {
    number = same.number;
    left = same.left;
    before = same.before;
    newest = same.newest;
    state = same.state;
    trace = same.trace;
    played = played;
  }

  -- ---- a line

  module _ (line : List ℕ) (p mid q : PlayerState) (traced : Traced bounds p mid) where
    -- it was replied to, and then the player stood still
    pub filmed_on : (frames : List Frame) (f : Frame) (reply : ScriptReply) → f.reply ≡ Ok reply
        → p.number ≡ length frames → mid.number ≡ p.number + 1
        → ((lines : List (List ℕ)) (done : List (ℕ × Items)) → HasPlayed bounds lines done p
        → HasPlayed bounds (lines ++ line ∷ []) (done ++ (mid.number, reply_words reply) ∷ []) mid)
        → (length mid.engine.network.newest ≤ own mid.engine → IsReplied bounds p line reply mid)
        → Counted mid.engine.network f.takings f.steps
        → Stands bounds mid q → AreShown bounds shown q.engine f.keys.items → (lines : List (List ℕ))
        → HasFilmed bounds shown lines frames p
        → HasFilmed bounds shown (lines ++ line ∷ []) (frames ++ f ∷ []) q
    filmed_on frames f reply said many number plays replied counted stands shows lines h = record {
      played = stands.played (lines ++ line ∷ []) (replies_from 0 (frames ++ f ∷ []))
          (subst (λ rs. HasPlayed bounds (lines ++ line ∷ []) rs mid)
          (sym (replies_on frames f mid.number (number ∙ ap (λ n. n + 1) many)
          ∙ ap (λ r. replies_from 0 frames ++ (mid.number, words_of r) ∷ []) said))
          (plays lines (replies_from 0 frames) h.played));
      many = length-append frames (f ∷ []) ∙ (ap (λ n. n + 1) h.many ∙ sym (length-append lines (line ∷ [])));
      traced = λ le. traced_same mid.engine.network q.engine.network (stands.newest le) stands.trace
          (here (stands.before le));
      reel = λ le run. subst (Shots bounds shown (reverse (frames ++ f ∷ [])) (reverse (lines ++ line ∷ [])))
          (sym (stands.state le)) (rolls (stands.before le) (subst (IsWorldRun bounds) (stands.newest le) run)
          (subst (λ n. All (StandsSo bounds shown n) f.keys.items) (stands.newest le) (shows le)));
    }
      where
        here : length mid.engine.network.newest ≤ own mid.engine → IsTraced mid.engine.network
        here le = traced.traced le (h.traced (traced.before le))

        grew : length mid.engine.network.newest ≤ own mid.engine
            → Begins p.engine.network.newest mid.engine.network.newest
        grew le = line_grew bounds line p.number p.engine mid.engine reply (replied le)

        shot : length mid.engine.network.newest ≤ own mid.engine → IsWorldRun bounds mid.engine.network.newest
            → All (StandsSo bounds shown mid.engine.network.newest) f.keys.items
            → IsShot bounds shown (length frames + 1) line (engine_state p.engine) (engine_state mid.engine) f
        shot le run keys = record {
          led = subst (Led bounds (length frames + 1) line (engine_state p.engine) (engine_state mid.engine)) (sym said)
              (subst (λ n. Led bounds (n + 1) line (engine_state p.engine) (engine_state mid.engine) (Ok reply)) many
              (replied le));
          grew = grew le;
          takings = counted_takings bounds mid.engine.network f.takings f.steps counted
              (traced.traced le (h.traced (traced.before le))) run;
          steps = counted_steps bounds mid.engine.network f.takings f.steps counted
              (traced.traced le (h.traced (traced.before le))) run;
          keys = keys;
        }

        rolls : length mid.engine.network.newest ≤ own mid.engine → IsWorldRun bounds mid.engine.network.newest
            → All (StandsSo bounds shown mid.engine.network.newest) f.keys.items
            → Shots bounds shown (reverse (frames ++ f ∷ [])) (reverse (lines ++ line ∷ [])) (engine_state mid.engine)
        rolls le run keys = reel_on bounds shown frames lines f line (engine_state p.engine) (engine_state mid.engine)
            (shot le run keys) (h.reel (traced.before le) (runs_begin bounds p.engine.network.newest
            mid.engine.network.newest (grew le) run))

    -- it is a fault
    pub stopped : (frames : List Frame) (f : Frame) (cause : Cause) → f.reply ≡ Err cause → p.number ≡ length frames
        → mid.number ≡ p.number → 0 < p.left
        → (length mid.engine.network.newest ≤ own mid.engine → engine_state mid.engine ≡ engine_state p.engine)
        → (((cause ≡ causes.Lines) × (p.left ≡ 0)) ⊎ (length mid.engine.network.newest ≤ own mid.engine
        → IsFault bounds p line cause))
        → ((lines : List (List ℕ)) (done : List (ℕ × Items)) → HasPlayed bounds lines done p
        → HasPlayed bounds lines done mid)
        → Counted p.engine.network f.takings f.steps → f.keys.items ≡ []
        → (lines : List (List ℕ)) → HasFilmed bounds shown lines frames p
        → StopsAt bounds shown lines frames (frames ++ f ∷ []) line cause mid
    stopped frames f cause said many number some state faults stays counted none lines h = record {
      filmed = record {
        played = stays lines (replies_from 0 frames) h.played;
        many = h.many;
        traced = λ le. traced.traced le (h.traced (traced.before le));
        reel = λ le run. still le run;
      };
      halts = halts faults;
      many = length-append frames (f ∷ []) ∙ ap (λ n. n + 1) h.many;
      reel = λ le run. reel_on bounds shown frames lines f line (engine_state mid.engine) (engine_state mid.engine)
          (shot le run) (still le run);
      replies = replies_on frames f (mid.number + 1) (ap (λ n. n + 1) (number ∙ many))
          ∙ ap (λ r. replies_from 0 frames ++ (mid.number + 1, words_of r) ∷ []) said;
    } where
      halts : (((cause ≡ causes.Lines) × (p.left ≡ 0)) ⊎ (length mid.engine.network.newest ≤ own mid.engine
          → IsFault bounds p line cause)) → Halts bounds shown mid line cause
      halts (inl spent) le refused = absurd (omega (arith, some, spent.1))
      halts (inr fault) le refused =
          ap (λ n. line_turn bounds refused (n + 1) line (engine_state mid.engine)) number
          ∙ (ap (λ s. line_turn bounds refused (p.number + 1) line s) (state le) ∙ fault le refused)

      here : EngineState
      here = engine_state mid.engine

      newest : length mid.engine.network.newest ≤ own mid.engine
          → mid.engine.network.newest ≡ p.engine.network.newest
      newest le = ap (λ (s : EngineState). s.network.history) (state le)

      still : length mid.engine.network.newest ≤ own mid.engine → IsWorldRun bounds mid.engine.network.newest
          → Shots bounds shown (reverse frames) (reverse lines) (engine_state mid.engine)
      still le run = subst (Shots bounds shown (reverse frames) (reverse lines)) (sym (state le))
          (h.reel (traced.before le) (subst (IsWorldRun bounds) (newest le) run))

      shot : length mid.engine.network.newest ≤ own mid.engine → IsWorldRun bounds mid.engine.network.newest
          → IsShot bounds shown (length frames + 1) line (engine_state mid.engine) (engine_state mid.engine) f
      shot le run = record {
        led = subst (Led bounds (length frames + 1) line here here) (sym said) (
          refl,
          λ refused. ap (λ n. line_turn bounds refused (n + 1) line (engine_state mid.engine))
              (sym (number ∙ many)) ∙ halts faults le refused,
        );
        grew = begins_all mid.engine.network.newest;
        takings = counted_takings bounds p.engine.network f.takings f.steps counted
            (h.traced (traced.before le)) (subst (IsWorldRun bounds) (newest le) run)
            ∙ ap (λ n. length (takings n)) (sym (newest le));
        steps = counted_steps bounds p.engine.network f.takings f.steps counted
            (h.traced (traced.before le)) (subst (IsWorldRun bounds) (newest le) run)
            ∙ ap (λ n. length (shadow n)) (sym (newest le));
        keys = All-same (StandsSo bounds shown mid.engine.network.newest) f.keys.items [] none
            (All-nil (StandsSo bounds shown mid.engine.network.newest));
      }

  -- ---- the end

  module _ (p : PlayerState) (came : length p.engine.network.newest ≤ own p.engine)
      (run : IsWorldRun bounds p.engine.network.newest) (t : Noted) (is : p.engine.network.trace ≡ Some t)
      (log : TakenLog) (kept : t.taken ≡ Some log) where
    traces : IsTraced p.engine.network → Traces p.engine.network.newest t
    traces traced = subst (λ o. IfSome o (λ t. (bounds : List Key) → IsWorldRun bounds p.engine.network.newest
        → Traces p.engine.network.newest t)) is traced bounds run

    took : IsTraced p.engine.network → takings p.engine.network.newest ≡ reverse log.takings.items
    took traced = subst (λ o. IfSome o (AreTakings p.engine.network.newest)) kept (traces traced).2

    abbrev pub parts : List Frame → End → FilmParts
    parts frames ended = record {
      frames = frames;
      takings = reverse log.takings.items;
      steps = t.steps;
      ended = ended;
    }

    -- what the frames count, the film has
    rolled : (frames : List Frame) (ended : End) (lines : List (List ℕ)) → IsTraced p.engine.network
        → Shots bounds shown (reverse frames) lines (engine_state p.engine)
        → Reel bounds shown (parts frames ended) (reverse frames) lines (engine_state p.engine)
    rolled frames ended lines traced shots = cut_reel bounds shown (parts frames ended) (engine_state p.engine)
        (sym (took traced)) ((traces traced).0.shadows) (reverse frames) [] lines (engine_state p.engine)
        (sym (append-nil (reverse (reverse frames)) ∙ reverse-reverse frames))
        (begins_all p.engine.network.newest) shots

    ends_well : (lines : List (List ℕ)) (frames : List Frame) → HasFilmed bounds shown lines frames p
        → Films bounds shown lines (parts frames Well)
    ends_well lines frames h =
        let soon = h.played.so_far came in
        let last : Played = after (replies_from 0 frames) (ending (engine_state p.engine)) in
        record {
          refused = soon.told ++ [];
          play = last;
          is = is_play bounds (soon.told ++ []) lines last
              (subst (λ l. Plays bounds (opening MAX_LIVE_SESSIONS) 0 (soon.told ++ []) l last) (append-nil lines)
              (soon.goes_on [] [] (ending (engine_state p.engine)) refl)) run;
          ended = refl;
          replies = append-nil (replies_from 0 frames);
          takings = sym (took (h.traced came));
          steps = (traces (h.traced came)).0.shadows;
          last = engine_state p.engine;
          reel = rolled frames Well (reverse (first_lines frames lines)) (h.traced came)
              (subst (λ ls. Shots bounds shown (reverse frames) (reverse ls) (engine_state p.engine))
              (sym (take_all (length frames) lines (omega (arith, h.many)))) (h.reel came run));
          whole = refl;
        }

    ends_faulted : (lines : List (List ℕ)) (frames : List Frame) → Halted bounds shown lines frames p
        → Films bounds shown lines (parts frames Faulted)
    ends_faulted lines frames h =
        let soon = h.stops.filmed.played.so_far came in
        let end : Played = faulted (engine_state p.engine) (p.number + 1) h.cause in
        let last : Played = after (replies_from 0 h.before) end in
        let halts : Plays bounds (engine_state p.engine) p.number [] (h.line ∷ h.rest) end =
        subst (Leads bounds (λ next said left. (q : Played) × Plays bounds next (p.number + 1) left h.rest q
        × (end ≡ before (p.number + 1, reply_words said) q))
        (λ cause. end ≡ faulted (engine_state p.engine) (p.number + 1) cause)) (sym (h.stops.halts came [])) refl in
        record {
          refused = soon.told ++ [];
          play = last;
          is = is_play bounds (soon.told ++ []) lines last
              (subst (λ l. Plays bounds (opening MAX_LIVE_SESSIONS) 0 (soon.told ++ []) l last) (sym h.split)
              (soon.goes_on [] (h.line ∷ h.rest) end halts)) run;
          ended = refl;
          replies = sym h.stops.replies;
          takings = sym (took (h.stops.filmed.traced came));
          steps = (traces (h.stops.filmed.traced came)).0.shadows;
          last = engine_state p.engine;
          reel = rolled frames Faulted (reverse (first_lines frames lines)) (h.stops.filmed.traced came)
              (subst (λ ls. Shots bounds shown (reverse frames) (reverse ls) (engine_state p.engine)) (sym (played h))
              (h.stops.reel came run));
          whole = refl;
        }
      where
        played : (h : Halted bounds shown lines frames p) → first_lines frames lines ≡ h.first ++ h.line ∷ []
        played h = ap (λ ls. take (length frames) ls) (h.split ∙ sym (append_assoc h.first (h.line ∷ []) h.rest))
            ∙ (ap (λ n. take n ((h.first ++ h.line ∷ []) ++ h.rest))
            (h.stops.many ∙ sym (length-append h.first (h.line ∷ [])))
            ∙ take-append_seam (h.first ++ h.line ∷ []) h.rest)

    pub films : (lines : List (List ℕ)) (frames : List Frame) (ended : End) → Ended bounds shown lines frames ended p
        → Films bounds shown lines (parts frames ended)
    films lines frames Well h = ends_well lines frames h
    films lines frames Faulted h = ends_faulted lines frames h
    films lines frames No h = absurd h

-- ---- what is kept of a trace

pub has_log : {X Y : Type 0} (o : Option X) (f : X → Y) (q : Option TakenLog) (g : TakenLog → Y)
    → option_map f o ≡ option_map g q → is_some o ≡ true → (t : TakenLog) × (q ≡ Some t)
has_log None f q g same some = absurd (cc (some))
has_log (Some x) f None g same some = absurd (cc (same))
has_log (Some x) f (Some t) g same some = (t, refl)

-- ---- what is counted of a player

module _ (network : NetworkParts) (ts : List Taking) (n : ℕ) where
  counted_of : (t : Noted) → network.trace ≡ Some t → (q : Option TakenLog) → t.taken ≡ q
      → Some ts ≡ option_map (λ (l : TakenLog). l.takings.items) q → n ≡ length t.steps
      → Counted network (length ts) n
  counted_of t is None kept took made = absurd (cc (took))
  counted_of t is (Some log) kept took made = record {
    trace = t;
    log = log;
    is = is;
    kept = kept;
    requests = ap (λ xs. length xs) (some_same ts log.takings.items took);
    steps = made;
  }

  counted_by : (o : Option Noted) → network.trace ≡ o → Some ts ≡ takings_in o
      → Some n ≡ option_map (λ (t : Noted). length t.steps) o → Counted network (length ts) n
  counted_by None is took made = absurd (cc (made))
  counted_by (Some t) is took made = counted_of t is t.taken refl took (some_same n (length t.steps) made)

  pub counted : Some ts ≡ takings_in network.trace
      → Some n ≡ option_map (λ (t : Noted). length t.steps) network.trace → Counted network (length ts) n
  counted took made = counted_by network.trace refl took made
