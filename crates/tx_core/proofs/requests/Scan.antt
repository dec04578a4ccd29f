-- A region answers a scan.
use Rattle.std.proofs.Common.{◌≡◌, ℕ, ◌≤◌, ◌||◌, nat_lt, inl, inr, List, IsTrue, length, refl, sym, ap, subst, arith}
use Rattle.std.proofs.lemmas.Bool.{cases_lt, and_parts}
use Rattle.std.proofs.Math.Nat.{le-max_right}
use Rattle.std.specs.Prelude.{Contains}
use Rattle.tx_types.specs.declared.key.Key.{Key}
use Rattle.tx_types.specs.declared.mutation.KeyValue.{KeyValue}
use Rattle.tx_plan.specs.declared.body.Scan.{Scan}
use Rattle.tx_plan.specs.declared.body.Body.TheVariants as body
use Rattle.tx_plan.specs.declared.answer.Answer.{Answer}
use Rattle.tx_plan.specs.declared.answer.Answer.TheVariants.{Rows, KeyIsLocked, BelowSafePoint, FutureTimestamp}
use Rattle.tx_plan.specs.Cells.{Cells, info_of}
use Rattle.tx_plan.specs.Reads.{Blocks, Reads, Walked, in_range, covered}
use Rattle.tx_plan.specs.cases.Scan.{AnswersScan}
use Rattle.tx_types.specs.Keys.{value_in, reaches}
use Rattle.tx_core.specs.Histories.{History, last, left}
use Rattle.tx_core.specs.Decisions.{accepted, decided}
use Rattle.tx_core.specs.Worlds.{route, Holds}
use Rattle.tx_core.specs.Shadow.{shadow}
use Rattle.tx_core.proofs.view.View.{View}
use Rattle.tx_core.proofs.changes.Raises.{raising}
use Rattle.tx_core.proofs.changes.Reads.{Passes}
use Rattle.tx_core.proofs.view.Reads.{walked_rows, sound_walk}
use Rattle.tx_core.proofs.view.Tables.{Sound}
use Rattle.tx_core.proofs.view.HistoryView.{shown_in, view}
use Rattle.tx_core.proofs.requests.Good.{Good, Next, IsRead, took, cells_at, floor_after, floor_reaches, sound_floor, assemble_read}

module _ (bounds : List Key) (h : History) (good : Good bounds h) (n : ℕ) (b : Scan) (l : ℕ) where
  is_read : (a : Answer) → IsRead (body.Scan b) a b.at
  is_read a = record {
    unnamed = refl;
    does = λ r. refl;
    none = λ cells. refl;
    untold = λ u n. refl;
    unnoted =
        λ e before. refl;
    unchecked = λ e. refl;
  }

  silent : (a x : Answer) → a ≡ x → Next bounds h (took n (body.Scan b) l x) → Next bounds h (took n (body.Scan b) l a)
  silent a x e next = subst (λ y. Next bounds h (took n (body.Scan b) l y)) (sym e) next

  raised_view : (a : Answer)
      → Sound (shadow h) (raising (view bounds h) (floor_after bounds h (took n (body.Scan b) l a)))
  raised_view a = sound_floor bounds h good n (body.Scan b) l a b.at (is_read a)

  -- the rows of a walk that met no lock; each key of the range lies in the region
  gives : Holds bounds n (body.Scan b) → b.at ≤ last h → (left h n).safe ≤ b.at
      → ((t : ℕ) → Contains b.bypass t → Passes (decided h) (accepted h) (shown_in h) b.at t) → (rows : List KeyValue)
      → length rows ≤ b.limit → Walked (left h n).cells b.at b.bypass (covered b rows) rows
      → Next bounds h (took n (body.Scan b) l (Rows rows))
  gives holds upto fresh may rows few walked =
      let w : View = raising (view bounds h) (floor_after bounds h (took n (body.Scan b) l (Rows rows))) in
      let low : (k : Key) → IsTrue (in_range b k) → (left h (route bounds k)).collected ≤ b.at =
      λ k inside. (let safe : (left h (route bounds k)).safe ≤ b.at =
      subst (λ m. (left h m).safe ≤ b.at) (sym (holds k inside)) fresh in
      omega (arith, safe, good.sound.inv.marks.low k)) in
      let here : (k : Key) → IsTrue (in_range b k) → b.at ≤ w.floor k =
      λ k inside. floor_reaches bounds h n (body.Scan b) l (Rows rows) b.at (is_read (Rows rows))
      (λ m. le-max_right m b.at) k (holds k inside) in
      let at : (k : Key) → IsTrue (covered b rows k) → (left h n).cells k ≡ cells_at bounds h k =
      λ k inside. ap (λ m. (left h m).cells k)
      (sym (holds k (and_parts (in_range b k) (nat_lt (length rows) b.limit || reaches rows k) inside).0)) in
      let same : Walked (cells_at bounds h) b.at b.bypass (covered b rows) rows = record {
        rising = walked.rising;
        inside = walked.inside;
        free = λ k lock inside blocks. walked.free k lock inside
            (subst (λ (c : Cells). Blocks c.lock b.at b.bypass lock) (sym (at k inside)) blocks);
        read = λ k inside. subst (λ (c : Cells). Reads c.write b.at (value_in rows k)) (at k inside)
            (walked.read k inside);
      } in
      assemble_read bounds h good n (body.Scan b) l (Rows rows) b.at (is_read (Rows rows))
      (sound_walk (shadow h) w b rows (raised_view (Rows rows)) upto low here may few same)
      (walked_rows (shadow h) w b rows (raised_view (Rows rows)) upto low here may few same)

  pub next_scan : (a : Answer) → Holds bounds n (body.Scan b)
      → ((t : ℕ) → Contains b.bypass t → Passes (decided h) (accepted h) (shown_in h) b.at t) → l ≤ last h
      → AnswersScan (left h n).cells (left h n).safe l b a → Next bounds h (took n (body.Scan b) l a)
  next_scan a holds may upto (inl x) =
      silent a (BelowSafePoint (left h n).safe) x.1
      (assemble_read bounds h good n (body.Scan b) l (BelowSafePoint (left h n).safe) b.at
      (is_read (BelowSafePoint (left h n).safe)) (raised_view (BelowSafePoint (left h n).safe)) tt)
  next_scan a holds may upto (inr (no0, inl x)) =
      silent a (FutureTimestamp l) x.1
      (assemble_read bounds h good n (body.Scan b) l (FutureTimestamp l) b.at (is_read (FutureTimestamp l))
      (raised_view (FutureTimestamp l)) tt)
  next_scan a holds may upto (inr (no0, inr (no1, inl x))) =
      silent a (KeyIsLocked (info_of x.key x.lock)) x.answer
      (assemble_read bounds h good n (body.Scan b) l (KeyIsLocked (info_of x.key x.lock)) b.at
      (is_read (KeyIsLocked (info_of x.key x.lock))) (raised_view (KeyIsLocked (info_of x.key x.lock))) tt)
  next_scan a holds may upto (inr (no0, inr (no1, inr x))) =
      silent a (Rows x.rows) x.answer
      (gives holds (elim (cases_lt l b.at) [ inl lt ↦ absurd (no1 lt) | inr le ↦ omega (arith, le, upto) ])
      (elim (cases_lt b.at (left h n).safe) [ inl lt ↦ absurd (no0 lt) | inr le ↦ le ]) may x.rows x.upto x.walked)
