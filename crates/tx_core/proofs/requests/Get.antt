-- A region answers a read of one key.
use Rattle.std.proofs.Common.{◌≡◌, ℕ, ◌≤◌, inl, inr, List, Option, Some, None, bytes_eq, refl, sym, subst, arith}
use Rattle.std.proofs.lemmas.Bool.{cases_lt}
use Rattle.std.proofs.Math.Nat.{le-max_right}
use Rattle.std.specs.Prelude.{Contains}
use Rattle.tx_types.specs.declared.key.Key.{Key}
use Rattle.tx_types.specs.declared.value.Value.{Value}
use Rattle.tx_plan.specs.declared.body.Get.{Get}
use Rattle.tx_plan.specs.declared.body.Body.TheVariants as body
use Rattle.tx_plan.specs.declared.answer.Answer.{Answer}
use Rattle.tx_plan.specs.declared.answer.Answer.TheVariants.{Found, Nothing, KeyIsLocked, BelowSafePoint, FutureTimestamp}
use Rattle.tx_plan.specs.Cells.{info_of}
use Rattle.tx_plan.specs.Reads.{Blocks, Reads, read_answer}
use Rattle.tx_plan.specs.cases.Get.{AnswersGet}
use Rattle.tx_core.specs.Histories.{History, last, left}
use Rattle.tx_core.specs.Decisions.{accepted, decided}
use Rattle.tx_core.specs.Worlds.{route}
use Rattle.tx_core.specs.Shadow.{shadow}
use Rattle.tx_core.proofs.Basics.{key_true}
use Rattle.tx_core.proofs.changes.Raises.{raising}
use Rattle.tx_core.proofs.changes.Reads.{Passes, Unblocked}
use Rattle.tx_core.proofs.view.Reads.{unblocked}
use Rattle.tx_core.proofs.view.Tables.{Sound}
use Rattle.tx_core.proofs.changes.Sounds.{sound_read}
use Rattle.tx_core.proofs.view.HistoryView.{shown_in, view}
use Rattle.tx_core.proofs.requests.Good.{Good, Next, IsRead, took, cells_at, floor_after, floor_reaches, sound_floor, assemble_read}

module _ (bounds : List Key) (h : History) (good : Good bounds h) (b : Get) (l : ℕ) where
  is_read : (a : Answer) → IsRead (body.Get b) a b.at
  is_read a = record {
    unnamed = refl;
    does = λ r. refl;
    none = λ cells. refl;
    untold = λ u n. refl;
    unnoted =
        λ e before. refl;
    unchecked = λ e. refl;
  }

  silent : (a x : Answer) → a ≡ x → Next bounds h (took (route bounds b.key) (body.Get b) l x)
      → Next bounds h (took (route bounds b.key) (body.Get b) l a)
  silent a x e next = subst (λ y. Next bounds h (took (route bounds b.key) (body.Get b) l y)) (sym e) next

  refused : (a : Answer)
      → Sound (shadow h) (raising (view bounds h) (floor_after bounds h (took (route bounds b.key) (body.Get b) l a)))
  refused a = sound_floor bounds h good (route bounds b.key) (body.Get b) l a b.at (is_read a)

  -- a read that meets no lock
  module _ (upto : b.at ≤ last h) (fresh : (left h (route bounds b.key)).collected ≤ b.at) (free :
      Unblocked (view bounds h) (bytes_eq b.key) b.at) where
    gives : (found : Option Value) → Reads (cells_at bounds h b.key).write b.at found
        → Next bounds h (took (route bounds b.key) (body.Get b) l (read_answer found))
    gives (Some v) reads =
        let here = floor_reaches bounds h (route bounds b.key) (body.Get b) l (Found v) b.at (is_read (Found v))
        (λ m. le-max_right m b.at) b.key refl in
        let sound = sound_read (shadow h)
        (raising (view bounds h) (floor_after bounds h (took (route bounds b.key) (body.Get b) l (Found v)))) b.key
        b.at (Some v) (refused (Found v)) upto here fresh free reads in
        assemble_read bounds h good (route bounds b.key) (body.Get b) l (Found v) b.at (is_read (Found v)) sound
        sound.run.1.1
    gives None reads =
        let here = floor_reaches bounds h (route bounds b.key) (body.Get b) l Nothing b.at (is_read Nothing)
        (λ m. le-max_right m b.at) b.key refl in
        let sound = sound_read (shadow h)
        (raising (view bounds h) (floor_after bounds h (took (route bounds b.key) (body.Get b) l Nothing))) b.key
        b.at None (refused Nothing) upto here fresh free reads in
        assemble_read bounds h good (route bounds b.key) (body.Get b) l Nothing b.at (is_read Nothing) sound
        sound.run.1.1

  pub next_get : (a : Answer) → ((t : ℕ) → Contains b.bypass t → Passes (decided h) (accepted h) (shown_in h) b.at t)
      → l ≤ last h
      → AnswersGet (cells_at bounds h b.key) (left h (route bounds b.key)).safe l b a
      → Next bounds h (took (route bounds b.key) (body.Get b) l a)
  next_get a may upto (inl x) =
      silent a (BelowSafePoint (left h (route bounds b.key)).safe) x.1
      (assemble_read bounds h good (route bounds b.key) (body.Get b) l
      (BelowSafePoint (left h (route bounds b.key)).safe) b.at
      (is_read (BelowSafePoint (left h (route bounds b.key)).safe))
      (refused (BelowSafePoint (left h (route bounds b.key)).safe)) tt)
  next_get a may upto (inr (no0, inl x)) =
      silent a (FutureTimestamp l) x.1
      (assemble_read bounds h good (route bounds b.key) (body.Get b) l (FutureTimestamp l) b.at
      (is_read (FutureTimestamp l)) (refused (FutureTimestamp l)) tt)
  next_get a may upto (inr (no0, inr (no1, inl (lock, blocks, e)))) =
      silent a (KeyIsLocked (info_of b.key lock)) e
      (assemble_read bounds h good (route bounds b.key) (body.Get b) l (KeyIsLocked (info_of b.key lock)) b.at
      (is_read (KeyIsLocked (info_of b.key lock))) (refused (KeyIsLocked (info_of b.key lock))) tt)
  next_get a may upto (inr (no0, inr (no1, inr (free, (found, e, reads))))) =
      silent a (read_answer found) e (gives
      (elim (cases_lt l b.at) [ inl lt ↦ absurd (no1 lt) | inr le ↦ omega (arith, le, upto) ])
      (elim (cases_lt b.at (left h (route bounds b.key)).safe) [
        | inl lt ↦ absurd (no0 lt)
        | inr le ↦ omega (arith, le, good.sound.inv.marks.low b.key)
      ])
      (unblocked (view bounds h) (bytes_eq b.key) b.at b.bypass
      (λ k lock inside. (let same : b.key ≡ k = key_true b.key k inside in
      subst (λ q. Blocks (cells_at bounds h q).lock b.at b.bypass lock → ⊥) same (free lock))) may)
      found reads)
