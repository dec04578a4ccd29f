-- The lines that a job has left, of which the last one stands first.
use Rattle.std.proofs.Common.{◌≡◌, ◌<◌, ℕ, suc, List, [], ◌∷◌, ◌++◌, All, map, Bool, true, false, length, Option, Some, None, option_map, refl, sym, ap, subst, ◌∙◌, append-nil, arith}
use Rattle.std.specs.Prelude.{reverse, slice_get, IfSome}
use Rattle.std.specs.List.{AllPairs}
use Rattle.std.specs.Option.{option_to_list}
use Rattle.std.proofs.lemmas.List.{reverse-append, reverse-reverse}
use Rattle.std.proofs.lemmas.List.Elements.{All-head, All-tail}
use Rattle.std.proofs.lemmas.Option.{slice_get-map}
use Rattle.tx_transaction.specs.Buffers.{Entries}
use Rattle.tx_types.specs.declared.key.Key.{Key}
use Rattle.tx_types.specs.declared.value.Value.{Value}
use Rattle.tx_evidence.specs.Buffers.{AllBy}
use Rattle.tx_evidence.proofs.Buffers.{all_more}
use Rattle.tx_run.specs.Jobs.{IsSound, Working}
use Rattle.tx_workload.specs.Readers.{HasSession}
use Rattle.tx_workload.specs.Tells.{AreEntered, AreOf, AreOwn, ComeLater, EnteredBy, Owns, session_name}

abbrev Rise : Option (List ℕ) → List ℕ → Type 0
Rise source lines = IfSome source (λ text. AllPairs (λ m n. m < n) lines)

none_rise : (source : Option (List ℕ)) → Rise source []
none_rise None = tt
none_rise (Some text) = λ i j d before within. absurd (omega (arith, within))

pub first_rises : (source : Option (List ℕ)) (number : ℕ) (left : List ℕ) → Rise source (number ∷ left)
    → ComeLater source number left
first_rises None number left rise = tt
first_rises (Some text) number left rise = λ i d within. rise 0 (suc i) d (omega arith) (omega (arith, within))

rest_rise : (source : Option (List ℕ)) (number : ℕ) (left : List ℕ) → Rise source (number ∷ left) → Rise source left
rest_rise None number left rise = tt
rest_rise (Some text) number left rise =
    λ i j d before within. rise (suc i) (suc j) d (omega (arith, before)) (omega (arith, within))

module _ (source : Option (List ℕ)) (job : ℕ) (number : ℕ) (left : List ℕ) where
  abbrev Named : ℕ → Type 0
  Named n = HasSession source n (session_name source job)

  abbrev Entered : ℕ → Key → Option Value → Type 0
  Entered n key o = EnteredBy source job n key o

  -- the first line
  pub first_entered : (es : Entries) → AreEntered source job (number ∷ left) es → AllBy (EnteredBy source job number) es
  first_entered es entered = all_more (λ k o. All (λ n. Entered n k o) (number ∷ left)) (EnteredBy source job number)
      (λ k o all. All-head (λ n. Entered n k o) number left all) es entered

  rest_entered : (es : Entries) → AreEntered source job (number ∷ left) es → AreEntered source job left es
  rest_entered es entered =
      all_more (λ k o. All (λ n. Entered n k o) (number ∷ left)) (λ k o. All (λ n. Entered n k o) left)
      (λ k o all. All-tail (λ n. Entered n k o) number left all) es entered

  pub first_own : AreOf source job (number ∷ left) → Named number
  first_own own = All-head Named number left own.named

  pub rest_own : AreOf source job (number ∷ left) → AreOf source job left
  rest_own own =
      record { named = All-tail Named number left own.named; rise = rest_rise source number left own.rise }

-- what a job's session has entered, and which lines it has left
pub owns_none : (source : Option (List ℕ)) (job : ℕ) (left : List ℕ) → AreOf source job left → Owns source job left []
owns_none source job left own = record { lines = own; entered = tt }

-- where no line is left
pub owns_over : (source : Option (List ℕ)) (job : ℕ) (left : List ℕ) (es : Entries) → Owns source job left es
    → Owns source job [] es
owns_over source job left es owns = record {
  lines = record { named = λ i d lt. absurd (omega (arith, lt)); rise = none_rise source };
  entered = all_more (λ k o. All (λ n. EnteredBy source job n k o) left)
      (λ k o. All (λ n. EnteredBy source job n k o) []) (λ k o all i d lt. absurd (omega (arith, lt))) es owns.entered;
}

not_faulted : (b : Bool) (number : ℕ) (left : List ℕ) → (b ≡ true → number ∷ left ≡ []) → b ≡ false
not_faulted false number left over = refl
not_faulted true number left over = let none : number ∷ left ≡ [] = over refl in absurd (cc (none))

module _ {A : Type 0} (number : A → ℕ) where
  abbrev numbers : List A → List ℕ
  numbers lines = map number (reverse lines)

  first_left : (old new : List A) (x : A) → old ≡ new ++ x ∷ [] → numbers old ≡ number x ∷ numbers new
  first_left old new x is = ap numbers is ∙ ap (map number) (reverse-append new (x ∷ []))

  same_left : (old new : List A) → old ≡ new ++ [] → numbers old ≡ numbers new
  same_left old new is = ap numbers (is ∙ append-nil new)

  -- lines that were put the other way round
  pub all_left : (lines turned : List A) → turned ≡ reverse lines → numbers turned ≡ map number lines
  all_left lines turned is = ap numbers is ∙ ap (map number) (reverse-reverse lines)

  module _ (source : Option (List ℕ)) (job : ℕ) (old new : List A) where
    pub owns_left : (es : Entries) (o : Option A) → old ≡ new ++ option_to_list o → Owns source job (numbers old) es
        → Owns source job (numbers new) es
    owns_left es None is owns = subst (λ (l : List ℕ). Owns source job l es) (same_left old new is) owns
    owns_left es (Some x) is owns =
        let all = subst (λ (l : List ℕ). Owns source job l es) (first_left old new x is) owns in
        record {
          lines = rest_own source job (number x) (numbers new) all.lines;
          entered = rest_entered source job (number x) (numbers new) es all.entered;
        }

    pub one_own : (o : Option A) → old ≡ new ++ option_to_list o → AreOf source job (numbers old)
        → IfSome o (λ line. HasSession source (number line) (session_name source job))
    one_own None is own = tt
    one_own (Some x) is own = first_own source job (number x) (numbers new)
        (subst (λ (l : List ℕ). AreOf source job l) (first_left old new x is) own)

    pub one_before : (o : Option A) → old ≡ new ++ option_to_list o → AreOf source job (numbers old)
        → IfSome o (λ line. ComeLater source (number line) (numbers new))
    one_before None is own = tt
    one_before (Some x) is own = first_rises source (number x) (numbers new)
        (subst (λ (l : List ℕ). Rise source l) (first_left old new x is) own.rise)

    pub one_entered : (es : Entries) (o : Option A) → old ≡ new ++ option_to_list o
        → AreEntered source job (numbers old) es → IfSome o (λ line. AllBy (EnteredBy source job (number line)) es)
    one_entered es None is entered = tt
    one_entered es (Some x) is entered = first_entered source job (number x) (numbers new) es
        (subst (λ (l : List ℕ). AreEntered source job l es) (first_left old new x is) entered)

  pub owns_turned : (source : Option (List ℕ)) (job : ℕ) (lines turned : List A) → turned ≡ reverse lines
      → AreOf source job (map number lines) → Owns source job (numbers turned) []
  owns_turned source job lines turned is own = owns_none source job (numbers turned)
      (subst (λ (l : List ℕ). AreOf source job l) (sym (all_left lines turned is)) own)

  module _ (j : Working) where
    abbrev with_lines : List A → Working
    with_lines lines = record j { left = numbers lines }

    pub sound_left : (old new : List A) (o : Option A) → old ≡ new ++ option_to_list o → IsSound (with_lines old)
        → IsSound (with_lines new)
    sound_left old new None is sound =
        subst (λ (l : List ℕ). IsSound (record j { left = l })) (same_left old new is) sound
    sound_left old new (Some x) is sound = record {
      over = λ e.
          let none : number x ∷ numbers new ≡ [] = sym (first_left old new x is) ∙ (sound.over e).0 in
          absurd (cc (none));
      ends = sound.ends;
    }

    pub some_left : (old new : List A) (o : Option A) → old ≡ new ++ option_to_list o → IsSound (with_lines old)
        → IfSome o (λ line. (with_lines old ≡ record j { left = number line ∷ numbers new }) × (j.faulted ≡ false))
    some_left old new None is sound = tt
    some_left old new (Some x) is sound =
        let first = first_left old new x is in (
          ap (λ (l : List ℕ). record j { left = l }) first,
          not_faulted j.faulted (number x) (numbers new) (λ e. sym first ∙ (sound.over e).0),
        )

next_at : {V : Type 0} (went rest : List V) (next : V) → slice_get (went ++ next ∷ rest) (length went) ≡ Some next
next_at [] rest next = refl
next_at (x ∷ went) rest next = next_at went rest next

-- the lines of the session that comes next are its own
pub next_own : {V : Type 0} (numbers : V → List ℕ) (source : Option (List ℕ)) (all went left rest : List V) (next : V)
    (k : ℕ) → all ≡ went ++ left → left ≡ next ∷ rest → k ≡ length went → AreOwn source (map numbers all)
    → AreOf source k (numbers next)
next_own {V} numbers source all went left rest next k split is at own =
    let there : slice_get all (length went) ≡ Some next =
    ap (λ (l : List V). slice_get l (length went)) (split ∙ ap (λ (l : List V). went ++ l) is)
    ∙ next_at went rest next in
    own k (numbers next)
    (slice_get-map numbers all k ∙ ap (option_map numbers) (ap (λ (n : ℕ). slice_get all n) at ∙ there))
