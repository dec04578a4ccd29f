-- The names of a script's sessions and the lines of each, as the text has one more line.
use Rattle.std.proofs.Common.{◌≡◌, ℕ, zero, suc, ◌+◌, List, [], ◌∷◌, ◌++◌, map, set, length, filter, Bool, true, false, if◌then◌else◌, ◌||◌, Option, Some, None, refl, sym, ap, subst, ◌∙◌, append-nil, arith}
use Rattle.std.specs.Prelude.{fold, slice_get, bytes_eq}
use Rattle.std.specs.List.{list_any, enumerate_from, IsDistinct, AllByRecursion}
use Rattle.std.proofs.lemmas.Cmp.{nat_list_eq_equiv}
use Rattle.std.proofs.lemmas.List.{map-append}
use Rattle.std.proofs.lemmas.List.Elements.{filter-append}
use Rattle.std.proofs.lemmas.List.Folds.{list_any-append}
use Rattle.std.proofs.lemmas.List.Sums.{fold-append}
use Rattle.std.proofs.lemmas.Map.Keys.{IsDistinct-push, IsDistinct-head, IsDistinct-tail}
use Rattle.std.proofs.lemmas.Map.Steps.{list_any_congr}
use Rattle.std.proofs.lemmas.Option.{same_Some}
use Rattle.tx_steps.specs.Steps.{Text}
use Rattle.tx_workload.specs.ScriptLines.{is_named, is_seed, lines_of_session, numbered, seeds_of, session_names, session_of, with_name}

-- ---- names

or_none : (a b : Bool) → (a || b) ≡ false → (a ≡ false) × (b ≡ false)
or_none true b e = absurd (cc (e))
or_none false b e = (refl, e)

distinct_with : (names : List Text) (s : Option Text) → IsDistinct bytes_eq names
    → IsDistinct bytes_eq (with_name names s)
distinct_with names None distinct = distinct
distinct_with names (Some name) distinct = by (list_any (bytes_eq name) names) refl
  where
    by : (b : Bool) → list_any (bytes_eq name) names ≡ b → IsDistinct bytes_eq (if b then names else names ++ name ∷ [])
    by true e = distinct
    by false e = IsDistinct-push nat_list_eq_equiv names name distinct e

-- a name that is not among them then was not before, and the one that was added is another
none_with : (names : List Text) (s : Option Text) (name : Text) → list_any (bytes_eq name) (with_name names s) ≡ false
    → (list_any (bytes_eq name) names ≡ false) × (is_named name s ≡ false)
none_with names None name h = (h, refl)
none_with names (Some other) name h = by (list_any (bytes_eq other) names) refl h
  where
    other_than : (b : Bool) → bytes_eq name other ≡ b → list_any (bytes_eq other) names ≡ true
        → list_any (bytes_eq name) names ≡ false → b ≡ false
    other_than true same there none =
        let both : list_any (bytes_eq name) names ≡ list_any (bytes_eq other) names =
        list_any_congr nat_list_eq_equiv name other names same in
        absurd (cc)
    other_than false same there none = refl

    by : (b : Bool) → list_any (bytes_eq other) names ≡ b
        → list_any (bytes_eq name) (if b then names else names ++ other ∷ []) ≡ false
        → (list_any (bytes_eq name) names ≡ false) × (bytes_eq name other ≡ false)
    by true e none = (none, other_than (bytes_eq name other) refl e none)
    by false e none =
        let parts = or_none (list_any (bytes_eq name) names) (bytes_eq name other || false)
        (sym (list_any-append (bytes_eq name) names (other ∷ [])) ∙ none) in
        (parts.0, (or_none (bytes_eq name other) false parts.1).0)

-- ---- lines, each with what it says and its number

module _ {E : Type 0} (said : E → Option Text) (number : E → ℕ) where
  abbrev names_at : List Text → List E → List Text
  names_at names es = fold (λ ns e. with_name ns (said e)) names es

  distinct_at : (es : List E) (names : List Text) → IsDistinct bytes_eq names → IsDistinct bytes_eq (names_at names es)
  distinct_at [] names distinct = distinct
  distinct_at (e ∷ es) names distinct =
      distinct_at es (with_name names (said e)) (distinct_with names (said e) distinct)

  -- a name that no line says has no line
  none_at : (es : List E) (names : List Text) (name : Text) → list_any (bytes_eq name) (names_at names es) ≡ false
      → (list_any (bytes_eq name) names ≡ false) × (filter (λ e. is_named name (said e)) es ≡ [])
  none_at [] names name h = (h, refl)
  none_at (e ∷ es) names name h =
      let rest = none_at es (with_name names (said e)) name h in
      let here = none_with names (said e) name rest.0 in (
        here.0,
        ap (λ (b : Bool). if b then e ∷ filter (λ e. is_named name (said e)) es
            else filter (λ e. is_named name (said e)) es) here.1 ∙ rest.1,
      )

  names_more : (es : List E) (e : E) → names_at [] (es ++ e ∷ []) ≡ with_name (names_at [] es) (said e)
  names_more es e = fold-append (λ ns e. with_name ns (said e)) [] es (e ∷ [])

  numbers_more : (test : E → Bool) (es : List E) (e : E) → map number (filter test (es ++ e ∷ []))
      ≡ map number (filter test es) ++ (if test e then number e ∷ [] else [])
  numbers_more test es e =
      ap (map number) (filter-append test es (e ∷ [])) ∙ map-append number (filter test es) (filter test (e ∷ []))
      ∙ ap (λ (l : List ℕ). map number (filter test es) ++ l) (by (test e))
    where
      by : (b : Bool) → map number (if b then e ∷ [] else []) ≡ (if b then number e ∷ [] else [])
      by true = refl
      by false = refl

numbered_more : (n : ℕ) (lines : List (List ℕ)) (line : List ℕ) (m : ℕ) → m ≡ n + length lines
    → enumerate_from n (lines ++ line ∷ []) ≡ enumerate_from n lines ++ (m, line) ∷ []
numbered_more n [] line m is =
    let same : n ≡ m = omega (arith, is) in
    ap (λ (k : ℕ). (k, line) ∷ []) same
numbered_more n (x ∷ lines) line m is =
    ap (λ (l : List (ℕ × List ℕ)). (n, x) ∷ l) (numbered_more (n + 1) lines line m (omega (arith, is)))

-- ---- one more line of a text

abbrev says : ℕ × List ℕ → Option Text
says l = session_of l.0 l.1

abbrev number_at : ℕ × List ℕ → ℕ
number_at l = l.0

module _ (lines : List (List ℕ)) (line : List ℕ) (number : ℕ) (at : number ≡ length lines + 1) where
  one_more : numbered (lines ++ line ∷ []) ≡ numbered lines ++ (number, line) ∷ []
  one_more = numbered_more 1 lines line number (omega (arith, at))

  pub session_names-more : session_names (lines ++ line ∷ []) ≡ with_name (session_names lines) (session_of number line)
  session_names-more =
      ap (names_at says number_at []) one_more ∙ names_more says number_at (numbered lines) (number, line)

  pub lines_more : (name : Text) → lines_of_session name (lines ++ line ∷ [])
      ≡ lines_of_session name lines ++ (if is_named name (session_of number line) then number ∷ [] else [])
  lines_more name =
      ap (λ (es : List (ℕ × List ℕ)). map number_at (filter (λ l. is_named name (says l)) es)) one_more
      ∙ numbers_more says number_at (λ l. is_named name (says l)) (numbered lines) (number, line)

  pub seeds_more : seeds_of (lines ++ line ∷ [])
      ≡ seeds_of lines ++ (if is_seed number line then number ∷ [] else [])
  seeds_more =
      ap (λ (es : List (ℕ × List ℕ)). map number_at (filter (λ l. is_seed l.0 l.1) es)) one_more
      ∙ numbers_more says number_at (λ l. is_seed l.0 l.1) (numbered lines) (number, line)

pub session_names-distinct : (lines : List (List ℕ)) → IsDistinct bytes_eq (session_names lines)
unfolding IsDistinct
session_names-distinct lines = distinct_at says number_at (numbered lines) [] tt

pub no_lines : (lines : List (List ℕ)) (name : Text) → list_any (bytes_eq name) (session_names lines) ≡ false
    → lines_of_session name lines ≡ []
no_lines lines name none = ap (map number_at) (none_at says number_at (numbered lines) [] name none).1

-- ---- a line joins a session

pub map_same : {X Y : Type 0} (f g : X → Y) → ((x : X) → f x ≡ g x) → (xs : List X) → map f xs ≡ map g xs
map_same f g same [] = refl
map_same f g same (x ∷ xs) =
    ap (λ y. y ∷ map f xs) (same x) ∙ ap (λ l. g x ∷ l) (map_same f g same xs)

-- a name is among those that all differ from another
away_at : (name other : Text) (names : List Text) (i : ℕ) → AllByRecursion (λ n. bytes_eq other n ≡ false) names
    → slice_get names i ≡ Some name → bytes_eq other name ≡ false
away_at name other [] i away there = absurd (cc (there))
away_at name other (n ∷ names) zero away there =
    subst (λ (x : Text). bytes_eq other x ≡ false) (same_Some n name there) away.0
away_at name other (n ∷ names) (suc i) away there = away_at name other names i away.1 there

module _ (f : Text → List ℕ) (number : ℕ) (name : Text) where
  -- what stands beside a name, with one more number where it is this one
  abbrev pub with_number : Text → List ℕ
  with_number n = f n ++ (if bytes_eq n name then number ∷ [] else [])

  same_number : (n : Text) → bytes_eq n name ≡ false → with_number n ≡ f n
  same_number n apart = ap (λ (b : Bool). f n ++ (if b then number ∷ [] else [])) apart ∙ append-nil (f n)

  pub more_number : (n : Text) → n ≡ name → with_number n ≡ f name ++ number ∷ []
  more_number n is =
      ap with_number is ∙ ap (λ (b : Bool). f name ++ (if b then number ∷ [] else [])) (nat_list_eq_equiv.refl name)

  others_same : (names : List Text) → AllByRecursion (λ n. bytes_eq name n ≡ false) names
      → map with_number names ≡ map f names
  others_same [] away = refl
  others_same (n ∷ names) away =
      ap (λ l. l ∷ map with_number names) (same_number n (nat_list_eq_equiv.symm n name ∙ away.0))
      ∙ ap (λ l. f n ∷ l) (others_same names away.1)

  pub joined : (names : List Text) (i : ℕ) → IsDistinct bytes_eq names → slice_get names i ≡ Some name
      → map with_number names ≡ set (map f names) i (f name ++ number ∷ [])
  joined [] i distinct there = absurd (cc (there))
  joined (n ∷ names) zero distinct there =
      let same : n ≡ name = same_Some n name there in
      let away : AllByRecursion (λ m. bytes_eq name m ≡ false) names =
      subst (λ (x : Text). AllByRecursion (λ m. bytes_eq x m ≡ false) names) same
      (IsDistinct-head bytes_eq n names distinct) in
      ap (λ l. l ∷ map with_number names) (more_number n same)
      ∙ ap (λ l. (f name ++ number ∷ []) ∷ l) (others_same names away)
  joined (n ∷ names) (suc i) distinct there =
      let apart : bytes_eq n name ≡ false =
      away_at name n names i (IsDistinct-head bytes_eq n names distinct) there in
      ap (λ l. l ∷ map with_number names) (same_number n apart)
      ∙ ap (λ l. f n ∷ l) (joined names i (IsDistinct-tail bytes_eq n names distinct) there)

  pub begun : (names : List Text) → list_any (bytes_eq name) names ≡ false → map with_number names ≡ map f names
  begun [] none = refl
  begun (n ∷ names) none =
      let parts = or_none (bytes_eq name n) (list_any (bytes_eq name) names) none in
      ap (λ l. l ∷ map with_number names) (same_number n (nat_list_eq_equiv.symm n name ∙ parts.0))
      ∙ ap (λ l. f n ∷ l) (begun names parts.1)
