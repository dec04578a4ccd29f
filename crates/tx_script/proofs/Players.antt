-- A player's next line: it goes on by it, or stays where it was.
use Rattle.std.proofs.Common.{◌≡◌, ◌<◌, ◌≤◌, ◌+◌, ℕ, suc, List, [], ◌∷◌, ◌++◌, length, Result, Ok, Err, OnErr, refl, sym, ap, subst, ◌∙◌, append-nil, arith}
use Rattle.serde_json.specs.Data.{Items}
use Rattle.tx_types.specs.declared.fault.Cause.{Cause}
use Rattle.tx_types.specs.declared.key.Key.{Key}
use Rattle.tx_types.specs.declared.limits.TheConstants.{MAX_LIVE_SESSIONS, MAX_LINES}
use Rattle.tx_core.specs.Worlds.{IsWorldRun}
use Rattle.tx_reply.specs.declared.reply.ScriptReply.{ScriptReply}
use Rattle.tx_reply.specs.Replies.{reply_words}
use Rattle.tx_engine.specs.Semantics.{EngineState, opening}
use Rattle.tx_engine.specs.Slots.{Held, engine_state, own, AllSeated, Goes, TurnedBy}
use Rattle.tx_engine.specs.Openings.{IsOpening}
use Rattle.tx_engine.proofs.SlotCounts.{all_fewer}
use Rattle.tx_script.specs.Play.{line_turn, Played, Plays, ending}
use Rattle.tx_script.specs.Loops.{BetweenLines}
use Rattle.tx_script.specs.Players.{PlayerState, after, SoFar, HasPlayed, IsPlayer, IsFault, IsReplied, EndWellWith, Traced}
use Rattle.tx_network.specs.Networks.{IsTraced}
use Rattle.tx_script.proofs.Scripts.{so_next}
use Rattle.tx_script.proofs.PlayReplies.{is_play}

-- what is so after any refusal
pub on_err_any : {T E : Type 0} (P : Type 0) (r : Result T E) → P → OnErr r P
on_err_any P (Ok v) p = tt
on_err_any P (Err e) p = p

module _ (bounds : List Key) where
  -- it has played nothing
  pub played_none : (e : Held) (left : ℕ) → IsOpening e → length e.slots ≡ MAX_LIVE_SESSIONS → AllSeated bounds left e
      → HasPlayed bounds [] [] (record { engine = e; number = 0; left = left })
  played_none e left opens size seated = record {
    stands = record { few = omega arith; size = size; seated = seated; counts = omega (arith, opens.none) };
    so_far = λ le. record {
      told = [];
      goes_on = λ later more p plays. subst (λ s. Plays bounds s 0 later more p)
          (opens.engine ∙ ap opening size) plays;
    };
  }

  pub ready : (p : PlayerState) → IsPlayer bounds p → 0 < p.left → AllSeated bounds 1 p.engine
  ready p is some = all_fewer bounds p.left 1 p.engine (omega arith) is.seated

  pub few : (p : PlayerState) → IsPlayer bounds p → p.number ≤ MAX_LINES
  few p is = is.few

  pub kept : (p : PlayerState) → IsPlayer bounds p → BetweenLines bounds p.engine
  kept p is = record {
    size = is.size;
    seated = all_fewer bounds p.left 0 p.engine (omega arith) is.seated;
    counts = is.counts;
  }

  -- it is a player still, and what came of the line is exact where nobody else acted
  module _ (line : List ℕ) (old new : PlayerState) (tried : old.left ≡ suc new.left) (is : IsPlayer bounds old) where
    module _ (Exact : Type 0) (goes : Goes bounds old.engine new.engine Exact) where
      seated_on : AllSeated bounds new.left new.engine
      seated_on = goes.seated new.left (subst (λ n. AllSeated bounds n old.engine) tried is.seated)

      counts_on : own new.engine ≤ length new.engine.network.newest
      counts_on = omega (arith, is.counts, goes.counts, goes.grows)

      module _ (le : length new.engine.network.newest ≤ own new.engine) where
        pub before_too : length old.engine.network.newest ≤ own old.engine
        before_too = omega (arith, le, goes.counts, goes.grows)

        pub exactly : Exact
        exactly = goes.exact (omega (arith, le, goes.counts, is.counts))

    pub plays_on : (reply : ScriptReply) → new.number ≡ old.number + 1 → old.number + 1 ≤ MAX_LINES
        → Goes bounds old.engine new.engine (TurnedBy bounds (λ refused. line_turn bounds refused (old.number + 1) line)
        (Ok reply) old.engine new.engine) → IsPlayer bounds new
    plays_on reply number some goes = record {
      few = omega (arith, number, some);
      size = goes.size ∙ is.size;
      seated = seated_on _ goes;
      counts = counts_on _ goes;
    }

    pub stays_on : (why : Cause) → new.number ≡ old.number
        → Goes bounds old.engine new.engine (TurnedBy bounds (λ refused. line_turn bounds refused (old.number + 1) line)
        (Err why) old.engine new.engine) → IsPlayer bounds new
    stays_on why number goes = record {
      few = subst (λ n. n ≤ MAX_LINES) (sym number) is.few;
      size = goes.size ∙ is.size;
      seated = seated_on _ goes;
      counts = counts_on _ goes;
    }

    pub replies : (reply : ScriptReply)
        → Goes bounds old.engine new.engine (TurnedBy bounds (λ refused. line_turn bounds refused (old.number + 1) line)
        (Ok reply) old.engine new.engine) → length new.engine.network.newest ≤ own new.engine
        → IsReplied bounds old line reply new
    replies reply goes le = exactly _ goes le

    pub traced_on : (result : Result ScriptReply Cause)
        → Goes bounds old.engine new.engine (TurnedBy bounds (λ refused. line_turn bounds refused (old.number + 1) line)
        result old.engine new.engine) → Traced bounds old new
    traced_on result goes = record {
      before = before_too _ goes;
      traced = λ le. goes.traced (omega (arith, le, goes.counts, is.counts));
    }

    pub faults : (why : Cause)
        → Goes bounds old.engine new.engine (TurnedBy bounds (λ refused. line_turn bounds refused (old.number + 1) line)
        (Err why) old.engine new.engine) → length new.engine.network.newest ≤ own new.engine
        → IsFault bounds old line why
    faults why goes le refused = (exactly _ goes le).1 refused

    pub as_before : (why : Cause)
        → Goes bounds old.engine new.engine (TurnedBy bounds (λ refused. line_turn bounds refused (old.number + 1) line)
        (Err why) old.engine new.engine) → length new.engine.network.newest ≤ own new.engine
        → engine_state new.engine ≡ engine_state old.engine
    as_before why goes le = (exactly _ goes le).0

  -- it has played one line more, or what it had before
  module _ (line : List ℕ) (old new : PlayerState) (tried : old.left ≡ suc new.left) (lines : List (List ℕ))
      (done : List (ℕ × Items)) (has : HasPlayed bounds lines done old) where
    pub goes_on : (reply : ScriptReply) → new.number ≡ old.number + 1 → old.number + 1 ≤ MAX_LINES
        → Goes bounds old.engine new.engine (TurnedBy bounds (λ refused. line_turn bounds refused (old.number + 1) line)
        (Ok reply) old.engine new.engine)
        → HasPlayed bounds (lines ++ line ∷ []) (done ++ (new.number, reply_words reply) ∷ []) new
    goes_on reply number some goes = record {
      stands = plays_on line old new tried has.stands reply number some goes;
      so_far = λ le. subst (λ n. SoFar bounds (lines ++ line ∷ []) (done
          ++ (n, reply_words reply) ∷ []) n new.engine) (sym number)
          (so_next bounds lines done line old.number old.engine new.engine reply
          (has.so_far (before_too line old new tried has.stands _ goes le))
          (exactly line old new tried has.stands _ goes le));
    }

    pub stays : (why : Cause) → new.number ≡ old.number
        → Goes bounds old.engine new.engine (TurnedBy bounds (λ refused. line_turn bounds refused (old.number + 1) line)
        (Err why) old.engine new.engine) → HasPlayed bounds lines done new
    stays why number goes = record {
      stands = stays_on line old new tried has.stands why number goes;
      so_far = λ le.
          (let soon = has.so_far (before_too line old new tried has.stands _ goes le) in
          let same : engine_state new.engine ≡ engine_state old.engine =
          (exactly line old new tried has.stands _ goes le).0 in
          record {
            told = soon.told;
            goes_on = λ later more p plays. soon.goes_on later more p
                (subst (λ (s : EngineState). Plays bounds s old.number later more p) same
                (subst (λ n. Plays bounds (engine_state new.engine) n later more p) number plays));
          });
    }

  -- its next line has another number
  pub numbers_anew : (old new : PlayerState) → new.engine ≡ old.engine → new.number ≤ MAX_LINES → new.left ≤ old.left
      → IsPlayer bounds old → IsPlayer bounds new
  numbers_anew old new engine some less is = record {
    few = some;
    size = ap (λ (e : Held). length e.slots) engine ∙ is.size;
    seated = subst (AllSeated bounds new.left) (sym engine) (all_fewer bounds old.left new.left old.engine less
        is.seated);
    counts = subst (λ (e : Held). own e ≤ length e.network.newest) (sym engine) is.counts;
  }

  -- it tried none, or tried and broke off
  pub rests_on : (old new : PlayerState) → new.engine ≡ old.engine → new.number ≡ old.number → new.left ≤ old.left
      → IsPlayer bounds old → IsPlayer bounds new
  rests_on old new engine number less is = numbers_anew old new engine
      (subst (λ n. n ≤ MAX_LINES) (sym number) is.few) less is

  pub rests : (old new : PlayerState) → new.engine ≡ old.engine → new.number ≡ old.number → new.left ≤ old.left
      → (lines : List (List ℕ)) (done : List (ℕ × Items)) → HasPlayed bounds lines done old
      → HasPlayed bounds lines done new
  rests old new engine number less lines done has = record {
    stands = rests_on old new engine number less has.stands;
    so_far = subst (λ (e : Held). length e.network.newest ≤ own e → SoFar bounds lines done new.number e) (sym engine)
        (λ le. subst (λ n. SoFar bounds lines done n old.engine) (sym number) (has.so_far le));
  }

  -- where its engine is as it was, so is its trace
  pub traced_still : (old new : PlayerState) → new.engine ≡ old.engine → Traced bounds old new
  traced_still old new engine = record {
    before = subst (λ (e : Held). length e.network.newest ≤ own e → length old.engine.network.newest ≤ own old.engine)
        (sym engine) (λ le. le);
    traced = subst (λ (e : Held). length e.network.newest ≤ own e → IsTraced old.engine.network → IsTraced e.network)
        (sym engine) (λ le t. t);
  }

  -- what it has played ends well
  pub ends : (p : PlayerState) → length p.engine.network.newest ≤ own p.engine
      → IsWorldRun bounds p.engine.network.newest → (lines : List (List ℕ)) (done : List (ℕ × Items))
      → HasPlayed bounds lines done p → EndWellWith bounds lines done
  ends p came run lines done has =
      let soon = has.so_far came in
      let last : Played = after done (ending (engine_state p.engine)) in (
        soon.told ++ [],
        last,
        is_play bounds (soon.told ++ []) lines last
            (subst (λ l. Plays bounds (opening MAX_LIVE_SESSIONS) 0 (soon.told ++ []) l last) (append-nil lines)
            (soon.goes_on [] [] (ending (engine_state p.engine)) refl)) run,
        append-nil done,
        refl,
      )
