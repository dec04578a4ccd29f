-- What came with a line is a part of what came.
use Rattle.std.proofs.Common.{◌≡◌, ◌≤◌, ◌+◌, ◌-◌, ℕ, zero, suc, List, [], ◌∷◌, ◌++◌, length, reverse, take, drop, true, cond, Some, inl, inr, refl, sym, ap, subst, ◌∙◌, arith}
use Rattle.std.specs.Prelude.{◌&&◌, nat_le, slice_get}
use Rattle.std.proofs.lemmas.Bool.Decides.{nat_tests}
use Rattle.std.proofs.lemmas.List.{length-append, length-reverse, append_assoc, reverse-append, reverse-reverse, take_at, drop_at}
use Rattle.tx_types.specs.declared.key.Key.{Key}
use Rattle.tx_types.specs.declared.limits.TheConstants.{MAX_LIVE_SESSIONS}
use Rattle.tx_machine.specs.declared.step.Step.{Step}
use Rattle.tx_machine.specs.declared.step.Step.TheVariants as step
use Rattle.tx_core.specs.declared.event.Event.{Event}
use Rattle.tx_core.specs.declared.event.Event.TheVariants.{Drawn, Began, Declared, Answered, Stopped, Took}
use Rattle.tx_core.specs.Histories.{History, Begins}
use Rattle.tx_core.specs.EventSteps.{reading}
use Rattle.tx_core.specs.Decisions.{effect_in}
use Rattle.tx_core.specs.Shadow.{shadow, deciding_in, checking, answering}
use Rattle.tx_core.proofs.seats.Beginnings.{begins_more}
use Rattle.tx_plan.specs.Answers.{start_in}
use Rattle.tx_trace.specs.declared.taken_log.Taking.{Taking}
use Rattle.tx_trace.specs.Takings.{takings}
use Rattle.tx_engine.specs.Semantics.{EngineState, opening}
use Rattle.tx_film.specs.declared.frame.Frame.{Frame}
use Rattle.tx_film.specs.Films.{FilmParts, count_in, count_before, part, part_at, takings_at, steps_at, Reel}
use Rattle.tx_film.specs.Filmed.{IsShot, Shots}

-- ---- a part of a list

le_is : (a b : ℕ) → a ≤ b → nat_le a b ≡ true
le_is a b le = grind (arith, nat_tests)

part_is : {A : Type 0} (all x y z : List A) (from to : ℕ) → all ≡ x ++ (y ++ z) → from ≡ length x
    → to ≡ length x + length y → part all from to ≡ y
part_is all x y z from to is starts ends =
    let low : from ≤ to = omega (arith, starts, ends) in
    let high : to ≤ length all = omega (
      arith,
      starts,
      ends,
      ap (λ l. length l) is,
      length-append x (y ++ z),
      length-append y z,
    ) in
    let tests : (nat_le from to && nat_le to (length all)) ≡ true =
    ap (λ b. b && nat_le to (length all)) (le_is from to low)
    ∙ le_is to (length all) high in
    let count : to - from ≡ length y = omega (arith, starts, ends) in
    ap (λ b. cond b (take (to - from) (drop from all)) []) tests
    ∙ (ap (λ l. take (to - from) l) (ap (λ l. drop from l) is ∙ drop_at x (y ++ z) from (sym starts))
    ∙ take_at y z (to - from) (sym count))

at_seam : {A : Type 0} (xs : List A) (x : A) (ys : List A) → slice_get (xs ++ x ∷ ys) (length xs) ≡ Some x
at_seam [] x ys = refl
at_seam (z ∷ xs) x ys = at_seam xs x ys

-- ---- what is read off a run goes on with it

one_taking : (e : Event) (h : History) → (x : List Taking) × (takings (e ∷ h) ≡ x ++ takings h)
one_taking (Took x) h = (record { body = x.body; answer = x.answer } ∷ [], refl)
one_taking _ h = ([], refl)

more_takings : (l h : History) → Begins l h → (x : List Taking) × (takings h ≡ x ++ takings l)
more_takings l [] b = ([], ap takings (sym b))
more_takings l (e ∷ h) b =
    elim b [
      | inl same ↦ ([], ap takings (sym same))
      | inr more ↦
          let one = one_taking e h in
          let rest = more_takings l h more in (
            one.0 ++ rest.0,
            one.1 ∙ (ap (λ t. one.0 ++ t) rest.1 ∙ sym (append_assoc one.0 rest.0 (takings l))),
          )
    ]

one_step : (e : Event) (h : History) → (x : List Step) × (shadow (e ∷ h) ≡ x ++ shadow h)
one_step (Took x) h =
    let decided = deciding_in h x (start_in x.body) in
    let checked = checking x.body (effect_in h x) in
    let read = reading x.body x.answer in (
      decided ++ (checked ++ read),
      ap (λ s. decided ++ s) (sym (append_assoc checked read (shadow h)))
          ∙ sym (append_assoc decided (checked ++ read) (shadow h)),
    )
one_step (Answered t o) h = (answering t o, refl)
one_step (Stopped seat) h = ([], refl)
one_step (Drawn seat n) h = (step.Draw n ∷ [], refl)
one_step (Began t) h = (step.Begin t ∷ [], refl)
one_step (Declared d) h = (step.Declare d.start d.changes ∷ [], refl)

more_steps : (l h : History) → Begins l h → (x : List Step) × (shadow h ≡ x ++ shadow l)
more_steps l [] b = ([], ap shadow (sym b))
more_steps l (e ∷ h) b =
    elim b [
      | inl same ↦ ([], ap shadow (sym same))
      | inr more ↦
          let one = one_step e h in
          let rest = more_steps l h more in (
            one.0 ++ rest.0,
            one.1 ∙ (ap (λ t. one.0 ++ t) rest.1 ∙ sym (append_assoc one.0 rest.0 (shadow l))),
          )
    ]

-- what came between two points of a run is the part between its counts there
module _ {X : Type 0} (g : History → List X)
    (more : (l h : History) → Begins l h → (x : List X) × (g h ≡ x ++ g l)) where
  came : (a b last : History) (all : List X) (from to : ℕ) → Begins a b → Begins b last → all ≡ g last
      → from ≡ length (g a) → to ≡ length (g b) → g b ≡ reverse (part (reverse all) from to) ++ g a
  came a b last all from to first then is starts ends =
      let y : List X = (more a b first).0 in
      let z : List X = (more b last then).0 in
      let of_b : g b ≡ y ++ g a = (more a b first).1 in
      let whole : all ≡ z ++ (y ++ g a) = is ∙ ((more b last then).1 ∙ ap (λ l. z ++ l) of_b) in
      let turned : reverse all ≡ reverse (g a) ++ (reverse y ++ reverse z) =
      ap (λ l. reverse l) whole ∙ (reverse-append z (y ++ g a) ∙ (ap (λ l. l ++ reverse z) (reverse-append y (g a))
      ∙ append_assoc (reverse (g a)) (reverse y) (reverse z))) in
      let at : from ≡ length (reverse (g a)) = starts ∙ sym (length-reverse (g a)) in
      let upto : to ≡ length (reverse (g a)) + length (reverse y) = omega (
        arith,
        starts,
        ends,
        ap (λ l. length l) of_b,
        length-append y (g a),
        length-reverse (g a),
        length-reverse y,
      ) in
      let cut : part (reverse all) from to ≡ reverse y = part_is (reverse all) (reverse (g a)) (reverse y) (reverse z)
      from to turned at upto in
      of_b ∙ ap (λ l. l ++ g a) (sym (ap (λ l. reverse l) cut ∙ reverse-reverse y))

-- ---- the film has at its places what came with its lines

module _ (bounds shown : List Key) (film : FilmParts) (last : EngineState)
    (took : film.takings ≡ takings last.network.history) (made : film.steps ≡ shadow last.network.history) where
  at_place : (f : Frame) (fs later : List Frame) → film.frames ≡ reverse (f ∷ fs) ++ later
      → slice_get film.frames (length fs) ≡ Some f
  at_place f fs later split =
      let seam : film.frames ≡ reverse fs ++ f ∷ later =
      split ∙ (ap (λ l. l ++ later) (reverse-append (f ∷ []) fs) ∙ append_assoc (reverse fs) (f ∷ []) later) in
      ap (λ l. slice_get l (length fs)) seam
      ∙ (ap (λ n. slice_get (reverse fs ++ f ∷ later) n) (sym (length-reverse fs)) ∙ at_seam (reverse fs) f later)

  starts_taken : (fs later : List Frame) (lines : List (List ℕ)) (s : EngineState) → film.frames ≡ reverse fs ++ later
      → Shots bounds shown fs lines s
      → count_before (λ (f : Frame). f.takings) film.frames (length fs) ≡ length (takings s.network.history)
  starts_taken [] later lines s split shots =
      ap (λ (e : EngineState). length (takings e.network.history)) (sym shots.1)
  starts_taken (f ∷ fs) later [] s split shots = absurd shots
  starts_taken (f ∷ fs) later (line ∷ lines) s split shots =
      ap (λ o. count_in (λ (f : Frame). f.takings) o) (at_place f fs later split) ∙ shots.1.takings

  starts_made : (fs later : List Frame) (lines : List (List ℕ)) (s : EngineState) → film.frames ≡ reverse fs ++ later
      → Shots bounds shown fs lines s
      → count_before (λ (f : Frame). f.steps) film.frames (length fs) ≡ length (shadow s.network.history)
  starts_made [] later lines s split shots =
      ap (λ (e : EngineState). length (shadow e.network.history)) (sym shots.1)
  starts_made (f ∷ fs) later [] s split shots = absurd shots
  starts_made (f ∷ fs) later (line ∷ lines) s split shots =
      ap (λ o. count_in (λ (f : Frame). f.steps) o) (at_place f fs later split) ∙ shots.1.steps

  pub cut_reel : (fs later : List Frame) (lines : List (List ℕ)) (s : EngineState) → film.frames ≡ reverse fs ++ later
      → Begins s.network.history last.network.history → Shots bounds shown fs lines s
      → Reel bounds shown film fs lines s
  cut_reel [] later lines s split begins shots = shots
  cut_reel (f ∷ fs) later [] s split begins shots = shots
  cut_reel (f ∷ fs) later (line ∷ lines) s split begins (before, shot, rest) =
      let seam : film.frames ≡ reverse fs ++ f ∷ later =
      split ∙ (ap (λ l. l ++ later) (reverse-append (f ∷ []) fs) ∙ append_assoc (reverse fs) (f ∷ []) later) in (
        before,
        record {
          led = shot.led;
          takings = came takings more_takings before.network.history s.network.history last.network.history film.takings
              (count_before (λ (f : Frame). f.takings) film.frames (length fs))
              (count_in (λ (f : Frame). f.takings) (slice_get film.frames (length fs))) shot.grew begins took
              (starts_taken fs (f ∷ later) lines before seam rest)
              (ap (λ o. count_in (λ (f : Frame). f.takings) o) (at_place f fs later split) ∙ shot.takings);
          steps = came shadow more_steps before.network.history s.network.history last.network.history film.steps
              (count_before (λ (f : Frame). f.steps) film.frames (length fs))
              (count_in (λ (f : Frame). f.steps) (slice_get film.frames (length fs))) shot.grew begins made
              (starts_made fs (f ∷ later) lines before seam rest)
              (ap (λ o. count_in (λ (f : Frame). f.steps) o) (at_place f fs later split) ∙ shot.steps);
          keys = shot.keys;
        },
        cut_reel fs (f ∷ later) lines before seam
            (begins_more before.network.history s.network.history last.network.history shot.grew begins) rest,
      )
