-- Rows, one line further.
use Rattle.std.proofs.Common.{◌≡◌, ◌<◌, ◌+◌, ◌++◌, ◌∷◌, [], ℕ, zero, suc, List, Bool, Option, Some, length, take, get_or, refl, sym, ap, ◌∙◌, subst, inl, inr, add-one, arith}
use Rattle.std.specs.Prelude.{◌⊎◌, slice_get}
use Rattle.std.proofs.lemmas.List.{length-append, length-take, get_or-take}
use Rattle.std.proofs.lemmas.Option.{slice_get_read}
use Rattle.tx_types.specs.declared.key.Key.{Key}
use Rattle.tx_cells.specs.declared.copies.KeyVersions.{KeyVersions}
use Rattle.tx_film.specs.declared.frame.Frame.{Frame}
use Rattle.tx_film.specs.declared.frame.KeyShown.{KeyShown}
use Rattle.tx_film.specs.Films.{FilmParts}
use Rattle.tx_sheet.specs.declared.row.Change.{Change}
use Rattle.tx_sheet.specs.declared.row.KeyRead.{KeyRead}
use Rattle.tx_sheet.specs.declared.row.Row.{Row}
use Rattle.tx_sheet.specs.declared.row.Target.{Target}
use Rattle.tx_sheet.specs.Changes.{noted}
use Rattle.tx_sheet.specs.Rows.{keys_in, last_before, HasSigns, IsRowOf, AreRows}

push_cases : {A : Type 0} (xs : List A) (y : A) (k : ℕ) (x : A) → slice_get (xs ++ y ∷ []) k ≡ Some x
    → (slice_get xs k ≡ Some x) ⊎ ((k ≡ length xs) × (y ≡ x))
push_cases [] y zero x e = inr (refl, cc (e))
push_cases [] y (suc k) x e = absurd (cc (e))
push_cases (z ∷ zs) y zero x e = inl e
push_cases (z ∷ zs) y (suc k) x e = elim (push_cases zs y k x e) [
  | inl h ↦ inl h
  | inr h ↦ inr (ap suc h.0, h.1)
]

module _ (keys : List Key) (film : FilmParts) (machine : Bool) where
  -- where the same was shown last, and the same is shown, at one place
  pub signs_here : (l m : List (Option KeyVersions)) (s t : List KeyShown) (i j : ℕ) (to : List Target) (b : Bool)
      (found : List KeyRead) (changed : List Change) (made : ℕ)
      → HasSigns keys film machine l s i to b found changed made → l ≡ m → s ≡ t → i ≡ j
      → HasSigns keys film machine m t j to b found changed made
  signs_here l m s t i j to b found changed made h e f g =
      subst (λ n. HasSigns keys film machine m t n to b found changed made) g
      (subst (λ x. HasSigns keys film machine m x i to b found changed made) f
      (subst (λ x. HasSigns keys film machine x s i to b found changed made) e h))

  pub no_rows : AreRows keys film machine 0 []
  no_rows = record { many = refl; signs = λ k row e. absurd (cc (e)) }

  pub rows_more : (place : ℕ) (rows : List Row) (row : Row) → AreRows keys film machine place rows
      → IsRowOf keys film machine place row → AreRows keys film machine (place + 1) (rows ++ row ∷ [])
  rows_more place rows row h is = record {
    many = length-append rows (row ∷ []) ∙ ap (λ n. n + 1) h.many;
    signs = λ k r e. elim (push_cases rows row k r e) [
      | inl before ↦ h.signs k r before
      | inr last ↦ subst (λ x. IsRowOf keys film machine k x) last.1
          (subst (λ n. IsRowOf keys film machine n row) (sym (last.0 ∙ h.many)) is)
    ];
  }

-- what was shown last, one line further
pub last_more : (count : ℕ) (frames : List Frame) (place : ℕ) (frame : Frame) (old new : List (Option KeyVersions))
    → slice_get frames place ≡ Some frame → old ≡ last_before count frames place → new ≡ noted old frame.keys.items
    → new ≡ last_before count frames (place + 1)
last_more count frames place frame old new at was is = rw add-one
    (is ∙ (ap (λ l. noted l frame.keys.items) was
    ∙ ap (λ s. noted (last_before count frames place) s) (sym (ap keys_in at))))

-- the line at a place of the first ones
pub among_first : (frames : List Frame) (n i : ℕ) (f : Frame) → i < length (take n frames)
    → f ≡ get_or (take n frames) i f → slice_get frames i ≡ Some f
among_first frames n i f lt is =
    let below : i < n = omega (arith, lt, length-take n frames) in
    let within : i < length frames = omega (arith, lt, length-take n frames) in
    slice_get_read frames (length frames) i f refl within (is ∙ get_or-take n frames i f below)
