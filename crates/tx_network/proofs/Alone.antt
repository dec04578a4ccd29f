-- Where as many events came as were made, nobody else acted.
use Rattle.std.proofs.Common.{◌≡◌, ◌≤◌, ◌+◌, ℕ, List, ◌∷◌, length, sym, ap, subst, ◌∙◌, arith}
use Rattle.tx_types.specs.declared.key.Key.{Key}
use Rattle.tx_plan.specs.declared.body.Body.{Body}
use Rattle.tx_plan.specs.declared.answer.Answer.{Answer}
use Rattle.tx_plan.specs.Answers.{AnswersFrom}
use Rattle.tx_core.specs.declared.event.Event.{Event}
use Rattle.tx_core.specs.declared.event.Event.TheVariants.{Drawn, Began, Took}
use Rattle.tx_core.specs.Histories.{History, last, left, Begins}
use Rattle.tx_core.specs.ReadMarks.{max_ts, AnswersNext}
use Rattle.tx_core.proofs.seats.Beginnings.{begins_more, begins_length, begins_whole, extends_begins}
use Rattle.tx_journal.specs.Known.{HasDrawn, HasRecorded}
use Rattle.tx_network.specs.Networks.{Tooks}

module _ (bounds : List Key) (i : ℕ) (n l : History) (knew : Begins n l) where
  -- an event that is recorded
  module _ (e : Event) (new : History) (r : HasRecorded bounds i l e new) where
    later : Begins n r.before
    later = begins_more n l r.before knew (extends_begins i l r.before r.extends)

    pub recorded_grows : length n + 1 ≤ length new
    recorded_grows = omega (arith, begins_length n r.before later, ap length r.is)

    pub recorded_alone : length new ≤ length n + 1 → new ≡ e ∷ n
    recorded_alone le = r.is ∙ ap (λ h. e ∷ h) (sym (begins_whole n r.before later (omega (arith, le, ap length r.is))))

  -- a draw of so many ticks
  module _ (ticks t : ℕ) (new : History) (d : HasDrawn bounds i l ticks t new) where
    since : Begins n d.before
    since = begins_more n l d.before knew (extends_begins i l d.before d.extends)

    pub drawn_grows : length n + 1 ≤ length new
    drawn_grows = omega (arith, begins_length n d.before since, ap length d.is)

    module _ (le : length new ≤ length n + 1) where
      unchanged : n ≡ d.before
      unchanged = begins_whole n d.before since (omega (arith, le, ap length d.is))

      pub drawn_number : t ≡ last n + ticks
      drawn_number = d.above ∙ ap (λ h. last h + ticks) (sym unchanged)

      pub drawn_alone : new ≡ Drawn i t ∷ n
      drawn_alone = d.is ∙ ap (λ h. Drawn i t ∷ h) (sym unchanged)

  -- a begin: a draw, and the event
  module _ (t : ℕ) (mid new : History) (d : HasDrawn bounds i l 1 t mid) (r :
      HasRecorded bounds i mid (Began t) new) where
    first : Begins n d.before
    first = begins_more n l d.before knew (extends_begins i l d.before d.extends)

    second : Begins mid r.before
    second = extends_begins i mid r.before r.extends

    pub begun_grows : length n + 2 ≤ length new
    begun_grows = omega (
      arith,
      begins_length n d.before first,
      ap length d.is,
      begins_length mid r.before second,
      ap length r.is,
    )

    module _ (le : length new ≤ length n + 2) where
      same : n ≡ d.before
      same = begins_whole n d.before first
          (omega (arith, le, ap length d.is, begins_length mid r.before second, ap length r.is))

      after : mid ≡ r.before
      after = begins_whole mid r.before second
          (omega (arith, le, begins_length n d.before first, ap length d.is, ap length r.is))

      pub begun_number : t ≡ last n + 1
      begun_number = d.above ∙ ap (λ h. last h + 1) (sym same)

      pub begun_alone : new ≡ Began t ∷ Drawn i t ∷ n
      begun_alone = r.is ∙ ap (λ h. Began t ∷ h) (sym after ∙ (d.is ∙ ap (λ h. Drawn i t ∷ h) (sym same)))

-- a request that a region takes
module _ (r : ℕ) (n : History) (body : Body) (a : Answer) (new : History) (t : Tooks r n body a new) where
  until : Begins n t.before
  until = begins_more n t.point t.before t.later (begins_more t.point t.marked t.before t.marks t.ends)

  pub took_grows : length n + 1 ≤ length new
  took_grows = omega (arith, begins_length n t.before until, ap length t.is)

  module _ (le : length new ≤ length n + 1) where
    was : n ≡ t.before
    was = begins_whole n t.before until (omega (arith, le, ap length t.is))

    loaded : n ≡ t.point
    loaded = begins_whole n t.point t.later
        (omega (
          arith,
          ap length was,
          begins_length t.point t.before (begins_more t.point t.marked t.before t.marks t.ends),
        ))

    marked : n ≡ t.marked
    marked = begins_whole n t.marked (begins_more n t.point t.marked t.later t.marks)
        (omega (arith, ap length was, begins_length t.marked t.before t.ends))

    pub took_alone : new ≡ Took (record { region = r; body = body; loaded = last n; answer = a }) ∷ n
    took_alone = t.is ∙ (λ i. Took (record { region = r; body = body; loaded = last (sym loaded i); answer = a })
        ∷ sym was i)

    pub took_answers : AnswersNext n r (last n) body a
    took_answers = subst (λ (p : History × History × History). AnswersFrom (max_ts p.2) (left p.0 r) (last p.1) body a)
        (λ i. (sym was i, sym loaded i, sym marked i)) t.least
