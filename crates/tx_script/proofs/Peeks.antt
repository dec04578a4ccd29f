-- A player that has a key shown stands where it stood.
use Rattle.std.proofs.Common.{◌≡◌, ◌≤◌, ◌+◌, ℕ, List, length, map, Result, refl, sym, ap, subst, ◌∙◌, arith}
use Rattle.std.specs.List.{sum_by}
use Rattle.serde_json.specs.Data.{Items}
use Rattle.tx_types.specs.declared.fault.Fault.{Fault}
use Rattle.tx_types.specs.declared.key.Key.{Key}
use Rattle.tx_types.specs.declared.limits.TheConstants.{MAX_LINES, MAX_LIVE_SESSIONS}
use Rattle.tx_cells.specs.declared.copies.KeyVersions.{KeyVersions}
use Rattle.tx_core.proofs.seats.Beginnings.{begins_length, begins_whole}
use Rattle.tx_network.specs.Networks.{network_state, made_by}
use Rattle.tx_network.proofs.Stages.{same_network}
use Rattle.tx_engine.specs.Semantics.{EngineState}
use Rattle.tx_engine.specs.Slots.{Held, seat_in, slot_of, name_at, made_in, engine_with, engine_state, own, AllSeated, AreSeated, Peeks}
use Rattle.tx_engine.proofs.SlotCounts.{known_ticks}
use Rattle.tx_script.specs.Play.{Plays}
use Rattle.tx_script.specs.Players.{PlayerState, SoFar, HasPlayed, IsPlayer, Peeked}

module _ (bounds : List Key) (n : ℕ) (key : Key) (copied : Result KeyVersions Fault) (from to : Held)
    (peeks : Peeks n from to key copied) where
  made : own to ≤ own from
  made = omega (
    arith,
    peeks.shown.counts,
    ap made_by peeks.system_seat,
    ap (sum_by (λ p. made_in (seat_in p))) peeks.slots,
  )

  more : length from.network.newest ≤ length to.network.newest
  more = begins_length from.network.newest to.network.newest peeks.shown.begins

  seated : (m : ℕ) → AllSeated bounds m from → AllSeated bounds m to
  seated m s = record {
    system_seat = ap (λ k. k.seat) peeks.system_seat ∙ s.system_seat;
    slots = subst (AreSeated (length bounds + 2) m) (sym peeks.slots) s.slots;
  }

  module _ (le : length to.network.newest ≤ own to) where
    before : length from.network.newest ≤ own from
    before = omega (arith, le, made, more)

    module _ (kept : own from ≤ length from.network.newest) where
      newest : to.network.newest ≡ from.network.newest
      newest = sym (begins_whole from.network.newest to.network.newest peeks.shown.begins
          (omega (arith, le, made, kept)))

      state : engine_state to ≡ engine_state from
      state i = engine_with (same_network from.network to.network from.network.newest newest peeks.shown.held i)
          (known_ticks (peeks.system_seat i)) (λ q. name_at (peeks.names i) q) (map slot_of (peeks.slots i))

  module _ (number left : ℕ) where
    abbrev old : PlayerState
    old = record { engine = from; number = number; left = left }

    abbrev new : PlayerState
    new = record { engine = to; number = number; left = left }

    pub player_still : IsPlayer bounds old → IsPlayer bounds new
    player_still is = record {
      few = is.few;
      size = ap length peeks.slots ∙ is.size;
      seated = seated left is.seated;
      counts = omega (arith, made, more, is.counts);
    }

    pub peeked : IsPlayer bounds old → Peeked bounds old new
    peeked is = record {
      number = refl;
      left = refl;
      before = before;
      newest = λ le. newest le is.counts;
      state = λ le. state le is.counts;
      trace = peeks.shown.trace;
    }

    pub played_still : (lines : List (List ℕ)) (done : List (ℕ × Items)) → HasPlayed bounds lines done old
        → HasPlayed bounds lines done new
    played_still lines done has = record {
      stands = player_still has.stands;
      so_far = λ le.
          (let soon = has.so_far (before le) in
          record {
            told = soon.told;
            goes_on = λ later rest p plays. soon.goes_on later rest p
                (subst (λ (s : EngineState). Plays bounds s number later rest p) (state le has.stands.counts) plays);
          });
    }
