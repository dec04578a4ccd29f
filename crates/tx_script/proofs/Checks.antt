-- A script that is checked: the steps that were kept are those of its run, which are a
-- run of the machine.
use Rattle.std.proofs.Common.{◌≡◌, ◌≤◌, inl, inr, ◌+◌, ℕ, List, [], length, Option, Some, None, IfSome, sym, ap, subst, ◌∙◌}
use Rattle.std.specs.Io.KnownBytes.{Appends, Keeps}
use Rattle.std.proofs.KnownBytes.{Appends-trans}
use Rattle.tx_types.specs.declared.key.Key.{Key}
use Rattle.tx_types.specs.declared.limits.TheConstants.{MAX_LIVE_SESSIONS}
use Rattle.tx_core.specs.Histories.{History}
use Rattle.tx_core.specs.Recording.{AllOfSeats}
use Rattle.tx_core.specs.Shadow.{shadow}
use Rattle.tx_core.specs.Worlds.{IsWorldRun}
use Rattle.tx_core.proofs.runs.AllRuns.{shadow_runs}
use Rattle.tx_machine.specs.declared.step.Step.{Step}
use Rattle.tx_machine.specs.Machine.{IsRun}
use Rattle.tx_trace.specs.Traces.{Noted, Traces}
use Rattle.tx_text.specs.declared.end.Broken.{Broken}
use Rattle.tx_text.specs.declared.end.End.{End}
use Rattle.tx_text.specs.declared.end.End.TheVariants.{Well}
use Rattle.tx_network.specs.Networks.{IsTraced}
use Rattle.tx_engine.specs.Slots.{Held, own, AllSeated, Settled}
use Rattle.tx_engine.specs.Openings.{IsOpening}
use Rattle.tx_script.specs.Checked.{IsBegun, step_lines, steps_told, EndsCheckedLines, BreaksCheckedLines}
use Rattle.tx_script.specs.declared.asked.Asked.{Asked}
use Rattle.tx_script.specs.declared.asked.Asked.TheVariants.{Replies, Steps, NumberedSteps}
use Rattle.tx_script.specs.Loops.{BetweenLines, EndsAt, AreOf, AppendsBegun, BreaksAsked}
use Rattle.tx_script.proofs.PlayReplies.{is_play}
use Rattle.tx_script.proofs.Ends.{all_came, breaks_first, if_some}

-- broken off before the first line
pub breaks_first_asked : (asked : Asked) (bounds : List Key) (why : Broken) (lines : List (List ℕ))
    (old new : Option (List ℕ)) → Keeps old new → BreaksAsked asked bounds why lines old new
breaks_first_asked Replies bounds why lines old new kept = breaks_first bounds why lines old new kept
breaks_first_asked Steps bounds why lines old new kept = inl (breaks_first bounds why lines old new kept)
breaks_first_asked NumberedSteps bounds why lines old new kept = inl (breaks_first bounds why lines old new kept)

-- ---- what is kept changes nothing else

-- an engine that keeps these steps
abbrev pub with_trace : Option Noted → Held → Held
with_trace trace e = record e { network = record e.network { trace = trace } }

settled_before : (trace : Option Noted) (bounds : List Key) (e : Held) → Settled bounds (with_trace trace e)
    → Settled bounds e
settled_before trace bounds e s = record {
  many = s.many;
  regions = s.regions;
  numbers = s.numbers;
  system_seat = s.system_seat;
  slots = s.slots;
}

-- steps are kept from the opening on: those of what is newest, of which there is nothing
module _ (t : Noted) (e after : Held) (is : after ≡ with_trace (Some t) e) where
  pub opens_too : IsOpening e → IsOpening after
  opens_too opens = subst IsOpening (sym is) (record { engine = opens.engine; none = opens.none })

  pub seated_too : (bounds : List Key) (n : ℕ) → AllSeated bounds n e → AllSeated bounds n after
  seated_too bounds n seated = subst (AllSeated bounds n) (sym is) (record {
    system_seat = seated.system_seat;
    slots = seated.slots;
  })

  pub traced_first : IsOpening e → Traces [] t → IsTraced after.network
  traced_first opens traces = subst (λ (x : Held). IsTraced x.network) (sym is)
      (λ bounds run. subst (λ h. Traces h t) (sym (ap (λ s. s.network.history) opens.engine)) traces)

-- ---- in the end

-- all has settled: nobody else acted, and what is newest is a run
module _ (bounds : List Key) (e after : Held) (kept : BetweenLines bounds e) (taken : after
    ≡ with_trace None e) (settled : Settled bounds after) (seats : ℕ)
    (told : History) (is : told ≡ after.network.newest) (shown : IsWorldRun bounds told
    × AllOfSeats seats told) (count : seats ≡ length bounds + 2 + MAX_LIVE_SESSIONS) where
  here : told ≡ e.network.newest
  here = is ∙ ap (λ (x : Held). x.network.newest) taken

  pub it_came : length e.network.newest ≤ own e
  it_came = all_came bounds e seats kept.size kept.seated
      (settled_before None bounds e (subst (Settled bounds) taken settled)) (subst (AllOfSeats seats) here shown.1)
      count

  pub it_is_run : IsWorldRun bounds e.network.newest
  it_is_run = subst (IsWorldRun bounds) here shown.0

module _ (bounds : List Key) (e : Held) (came : length e.network.newest
    ≤ own e) (run : IsWorldRun bounds e.network.newest) where
  -- the steps that were kept are those of the run
  module _ (trace : Option Noted) (its : trace ≡ e.network.trace) (traced : length e.network.newest ≤ own e
      → IsTraced e.network) where
    pub are_of : AreOf e.network.newest trace
    are_of = if_some (λ t. (bounds : List Key) → IsWorldRun bounds e.network.newest
        → Traces e.network.newest t) (λ t. t.steps
        ≡ shadow e.network.newest) trace (λ t traces. (traces bounds run).0.shadows)
        (subst (λ o. IfSome o (λ t. (bounds : List Key) → IsWorldRun bounds e.network.newest
        → Traces e.network.newest t)) (sym its) (traced came))

    -- and so a run of the machine
    pub are_run : IfSome trace (λ t. IsRun t.steps)
    are_run = if_some (λ t. t.steps ≡ shadow e.network.newest) (λ t. IsRun t.steps) trace
        (λ t is. subst (λ (steps : List Step). IsRun steps) (sym is) (shadow_runs bounds e.network.newest run)) are_of

  -- what was written, where the play went on to its end
  module _ (lines : List (List ℕ)) (old mid new : Option (List ℕ)) (end : End) (h : length e.network.newest ≤ own e
      → EndsAt bounds lines e.network.newest old mid end) where
    pub ends_checked : Appends mid new (steps_told end e.network.newest) → EndsCheckedLines bounds lines old new end
    ends_checked more =
        let (refused, p, plays, history, wrote, ended) = h came in (
          refused,
          p,
          is_play bounds refused lines p plays (subst (IsWorldRun bounds) (sym history) run),
          Appends-trans _ _ _ _ _ wrote (subst (λ d. Appends mid new (steps_told d p.history)) ended
              (subst (λ k. Appends mid new (steps_told end k)) (sym history) more)),
          ended,
        )

    pub breaks_after : (why : Broken) → end ≡ Well → AppendsBegun why mid new (step_lines e.network.newest)
        → BreaksCheckedLines bounds why lines old new
    breaks_after why well (written, begun, more) =
        let (refused, p, plays, history, wrote, ended) = h came in
        inr (
          refused,
          p,
          written,
          is_play bounds refused lines p plays (subst (IsWorldRun bounds) (sym history) run),
          sym ended ∙ well,
          subst (λ k. IsBegun why (step_lines k) written) (sym history) begun,
          Appends-trans _ _ _ _ _ wrote more,
        )
