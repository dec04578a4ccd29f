-- A session that goes on has still seen its start, and what is told of its end.
use Rattle.std.proofs.Common.{◌≡◌, ◌⊎◌, inl, inr, ℕ, List, Option, None, Result, Ok, Err, IfErr, OnOk, sym, subst, arith}
use Rattle.tx_types.specs.declared.key.Key.{Key}
use Rattle.tx_types.specs.declared.mutation.Fate.TheVariants as fate
use Rattle.tx_core.specs.declared.event.Outcome.{Outcome}
use Rattle.tx_core.specs.declared.event.Outcome.TheVariants as outcome
use Rattle.tx_core.specs.Histories.{declared}
use Rattle.tx_core.specs.Worlds.{IsWorldRun}
use Rattle.tx_core.proofs.seats.Stays.{last_on}
use Rattle.tx_core.proofs.runs.Consequences.{decided_declared}
use Rattle.tx_journal.specs.Known.{Known}
use Rattle.tx_transaction.specs.declared.state.Terms.{Terms}
use Rattle.tx_client.specs.Calls.{Seated, IsDecidedSo}
use Rattle.tx_update.specs.declared.stops.Stop.{Stop}
use Rattle.tx_update.specs.Reads.{HasSeenStart}
use Rattle.tx_update.specs.Stops.{IsOwnRefusal}
use Rattle.tx_update.specs.Updates.{Follows, IsWithoutEffect, EndedWith, Wrote}
use Rattle.tx_update.proofs.CallSequences.{goes_begins}
use Rattle.tx_embed.specs.declared.open_transaction.NotCommitted.{NotCommitted}
use Rattle.tx_embed.specs.Transactions.{Commits, EndedAllWritten, EndedInVain, NamesEntered, TellsOf, told_why}

pub seen_more : (bounds : List Key) (old new : Seated) → Follows old new → IsWorldRun bounds new.seat.events
    → HasSeenStart old → HasSeenStart new
seen_more bounds old new f run seen =
    omega (
      arith,
      f.start,
      seen,
      last_on bounds old.seat.events new.seat.events run (goes_begins old.seat new.seat f.seat),
    )

-- whatever stopped it, this is so
pub at_each_stop : {W : Type 0} (done : Result (Unit {0}) Stop) → W → IfErr done (λ s. IsOwnRefusal s ⊎ W)
at_each_stop (Ok x) so = tt
at_each_stop (Err s) so = inr so

module _ (bounds : List Key) (terms : Terms) (old session : Seated) (new : Known)
    (run : IsWorldRun bounds session.seat.events)
    (at_most : Wrote bounds terms old.state.start old.state.buffer old.seat session.seat
    ⊎ (declared session.seat.events old.state.start ≡ None)) where
  abbrev Written : Type 0
  Written = Wrote bounds terms old.state.start old.state.buffer old.seat session.seat

  abbrev Ended : Outcome → Type 0
  Ended o = (ends : EndedWith bounds old.seat old.state.start o new) × (ends.session ≡ session)

  all_written : (o : Outcome) → Ended o → Written → EndedAllWritten bounds terms old o new
  all_written o (ends, same) wrote = (
    ends,
    subst (λ (s : Seated). Wrote bounds terms old.state.start old.state.buffer old.seat s.seat)
        (sym same) wrote,
  )

  -- what is committed was declared, so all of it was written
  committed_written : (c : ℕ) → Ended (outcome.Committed c) → Written
  committed_written c (ends, same) = elim at_most [
    | inl wrote ↦ wrote
    | inr none ↦ absurd (decided_declared bounds session.seat.events run old.state.start (fate.Committed c)
        (subst (λ (s : Seated). IsDecidedSo s.seat.events old.state.start (outcome.Committed c)) same
        ends.decided) none)
  ]

  names_why : (done : Result (Unit {0}) Stop) → IfErr done (NamesEntered old.state.buffer)
      → NamesEntered old.state.buffer (told_why done)
  names_why (Ok x) names = tt
  names_why (Err s) names = names

  abbrev Why : Stop → Type 0
  Why s = IsOwnRefusal s ⊎ Written

  why_told : (done : Result (Unit {0}) Stop) → OnOk done Written → IfErr done Why → Why (told_why done)
  why_told (Ok x) wrote why = inr wrote
  why_told (Err s) wrote why = why

  in_vain : (o : Outcome) (s : Stop) → Ended o → IsWithoutEffect o → NamesEntered old.state.buffer s → Why s
      → EndedInVain bounds terms old o s new
  in_vain o s (ends, same) none names why = (
    ends,
    none,
    names,
    elim why [
      | inl own ↦ inl own
      | inr wrote ↦ inr (subst (λ (t : Seated). Wrote bounds terms old.state.start old.state.buffer old.seat t.seat)
          (sym same) wrote)
    ],
  )

  pub commits_so : (o : Outcome) (done : Result (Unit {0}) Stop) (r : Result (Option ℕ) NotCommitted)
      → Ended o → OnOk done Written → IfErr done (NamesEntered old.state.buffer) → IfErr done Why → TellsOf o done r
      → Commits bounds terms old r new
  commits_so (outcome.Committed c) done r ended wrote names why told =
      subst (λ x. Commits bounds terms old x new) (sym told)
      (all_written (outcome.Committed c) ended (committed_written c ended))
  commits_so (outcome.Unknown cause) done r ended wrote names why told =
      subst (λ x. Commits bounds terms old x new) (sym told) (inl (outcome.Unknown cause, ended.0, tt))
  commits_so outcome.ReadOnly (Ok x) r ended wrote names why told =
      subst (λ x. Commits bounds terms old x new) (sym told) (all_written outcome.ReadOnly ended wrote)
  commits_so outcome.ReadOnly (Err s) r ended wrote names why told =
      subst (λ x. Commits bounds terms old x new) (sym told)
      (outcome.ReadOnly, in_vain outcome.ReadOnly s ended tt names why)
  commits_so outcome.Aborted done r ended wrote names why told =
      subst (λ x. Commits bounds terms old x new) (sym told) (
        outcome.Aborted,
        in_vain outcome.Aborted (told_why done) ended tt (names_why done names) (why_told done wrote why),
      )
