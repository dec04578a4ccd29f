-- Events that no region takes keep what holds of a history.
use Rattle.std.proofs.Common.{◌≡◌, ◌≢◌, ℕ, ◌<◌, ◌++◌, inl, inr, true, false, List, [], ◌∷◌, None, refl, ap, ◌∙◌}
use Rattle.tx_types.specs.declared.key.Key.{Key}
use Rattle.tx_types.specs.declared.mutation.Fate.TheVariants as fate
use Rattle.tx_machine.specs.Machine.{State, Open, Done, table_of}
use Rattle.tx_core.specs.declared.event.Declaration.{Declaration}
use Rattle.tx_core.specs.declared.event.Outcome.{Outcome}
use Rattle.tx_core.specs.declared.event.Outcome.TheVariants as outcome
use Rattle.tx_core.specs.declared.event.Taken.{Taken}
use Rattle.tx_core.specs.declared.event.Event.{Event}
use Rattle.tx_core.specs.declared.event.Event.TheVariants.{Drawn, Began, Declared, Answered, Stopped, Took}
use Rattle.tx_core.specs.Histories.{History, last, drawer, began, declared, Among}
use Rattle.tx_core.specs.Decisions.{decided}
use Rattle.tx_core.specs.Worlds.{MayAnswer}
use Rattle.tx_core.specs.Legal.{IsLegalDeclaration}
use Rattle.tx_core.specs.Shadow.{answering, shadow}
use Rattle.tx_core.specs.Truth.{IsTrueOutcome}
use Rattle.tx_core.proofs.view.View.{IsCommitted, IsAborted}
use Rattle.tx_core.proofs.view.Tables.{Sound, has_ended}
use Rattle.tx_core.proofs.view.Ends.{Ends, ends_declare}
use Rattle.tx_core.proofs.changes.Sounds.{sound_draw, sound_begin, sound_declare, sound_answer}
use Rattle.tx_core.proofs.view.HistoryView.{view, sound_first, ends_first}
use Rattle.tx_core.proofs.requests.Good.{Good}

pub good_first : (bounds : List Key) → Good bounds []
good_first bounds =
    record {
      sound = sound_first bounds;
      ends = ends_first bounds;
      told = λ x among. absurd among;
    }

module _ (bounds : List Key) (h : History) (good : Good bounds h) where
  -- an answer that stands in a longer history stood before, where the new event is none
  before : (e : Event) → ((x : Taken) → e ≡ Took x → ⊥) → (x : Taken) → Among (e ∷ h) (Took x) → Among h (Took x)
  before e other x among = elim among [ inl now ↦ absurd (other x now) | inr old ↦ old ]

  -- an event that leaves what was drawn and decided as it was
  quiet_event : (e : Event) → ((x : Taken) → e ≡ Took x → ⊥) → decided (e ∷ h) ≡ decided h
      → Sound (shadow (e ∷ h)) (view bounds (e ∷ h)) → Ends (view bounds (e ∷ h)) → Good bounds (e ∷ h)
  quiet_event e other same sound ends =
      record {
        sound = sound;
        ends = ends;
        told = λ x among t of end tells. ap (λ d. d t) same ∙ good.told x (before e other x among) t of end tells;
      }

  pub good_drawn : (seat n : ℕ) → last h < n → Good bounds (Drawn seat n ∷ h)
  good_drawn seat n more =
      quiet_event (Drawn seat n) (λ x e. (cc (e))) refl (sound_draw (shadow h) (view bounds h) seat n good.sound more)
      good.ends

  pub good_began : (t : ℕ) → drawer h t ≢ None → began h t ≡ false → Good bounds (Began t ∷ h)
  good_began t drawn new =
      quiet_event (Began t) (λ x e. (cc (e))) refl (sound_begin (shadow h) (view bounds h) t good.sound drawn new)
      good.ends

  pub good_declared : (d : Declaration) → IsLegalDeclaration h d → Good bounds (Declared d ∷ h)
  good_declared d may =
      quiet_event (Declared d) (λ x e. (cc (e))) refl
      (sound_declare (shadow h) (view bounds h) d good.sound may.once may.begun may.some may.distinct)
      (ends_declare (view bounds h) d good.ends good.sound.inv may.once)

  pub good_stopped : (seat : ℕ) → Good bounds (Stopped seat ∷ h)
  good_stopped seat = quiet_event (Stopped seat) (λ x e. (cc (e))) refl good.sound good.ends

  -- what a session knows of its transaction is decided
  known_commit : (t c : ℕ) → MayAnswer h t (outcome.Committed c) → IsCommitted (decided h) t c
  known_commit t c may =
      elim may [
        | inl told ↦ good.told told.by told.among t told.of (fate.Committed c) told.tells
        | inr all ↦ good.ends.all_async t c all
      ]

  known_abort : (t : ℕ) → MayAnswer h t outcome.Aborted → IsAborted (decided h) t
  known_abort t told = good.told told.by told.among t told.of fate.Aborted told.tells

  pub good_answered : (t : ℕ) (o : Outcome) → MayAnswer h t o → Good bounds (Answered t o ∷ h)
  good_answered t o may = quiet_event (Answered t o) (λ x e. (cc (e))) refl (sound o may) good.ends
    where
      sound : (o : Outcome) → MayAnswer h t o → Sound (answering t o ++ shadow h) (view bounds h)
      sound (outcome.Committed c) may =
          sound_answer (shadow h) (view bounds h) t (fate.Committed c) good.sound (known_commit t c may)
      sound outcome.Aborted may = sound_answer (shadow h) (view bounds h) t fate.Aborted good.sound (known_abort t may)
      sound (outcome.Unknown cause) may = good.sound
      sound outcome.ReadOnly may = good.sound

  -- who declared nothing is open
  no_end : (t : ℕ) → declared h t ≡ None → decided h t ≡ Open
  no_end t none = go (decided h t) refl
    where
      go : (s : State) → decided h t ≡ s → decided h t ≡ Open
      go Open e = e
      go (Done x) e = absurd (good.sound.inv.clock.decides t (λ o. cc (o, e)) none)

  pub true_outcome : (t : ℕ) (o : Outcome) → began h t ≡ true → MayAnswer h t o
      → IsTrueOutcome (table_of (shadow (Answered t o ∷ h))) t o
  true_outcome t (outcome.Committed c) begun may =
      has_ended (table_of (shadow h)) (view bounds h) t (fate.Committed c) good.sound.inv good.sound.shows
      (known_commit t c may)
  true_outcome t outcome.Aborted begun may =
      has_ended (table_of (shadow h)) (view bounds h) t fate.Aborted good.sound.inv good.sound.shows (known_abort t may)
  true_outcome t (outcome.Unknown cause) begun may = tt
  true_outcome t outcome.ReadOnly begun none =
      let undecided : decided h t ≡ Open = no_end t none in
      good.sound.shows.row t ∙ rw (begun, none, undecided) refl
