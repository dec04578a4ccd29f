-- The greatest timestamp that was read in a history.
use Rattle.std.proofs.Common.{◌≡◌, ◌≤◌, ℕ, max, inl, inr, List, [], ◌∷◌, Option, Some, None, refl, sym, ap, subst, ◌∙◌, arith}
use Rattle.tx_types.specs.declared.key.Key.{Key}
use Rattle.tx_plan.specs.Cells.{Region}
use Rattle.tx_plan.specs.Answers.{leaves}
use Rattle.tx_plan.specs.Plans.{read_upto}
use Rattle.tx_core.specs.declared.event.Taken.{Taken}
use Rattle.tx_core.specs.declared.event.Event.{Event}
use Rattle.tx_core.specs.declared.event.Event.TheVariants.{Drawn, Began, Declared, Answered, Stopped, Took}
use Rattle.tx_core.specs.Histories.{History, last, left, Begins}
use Rattle.tx_core.specs.ReadMarks.{max_ts}
use Rattle.tx_core.specs.Recording.{owner, Extends}
use Rattle.tx_core.specs.Worlds.{IsWorldRun}
use Rattle.tx_core.proofs.Basics.{nat_test, some_same}
use Rattle.tx_core.proofs.seats.Replies.{left_on}
use Rattle.tx_core.proofs.seats.Beginnings.{extends_begins}
use Rattle.tx_core.proofs.seats.Numbers.{left_upto}

-- each region's own lies at or below it
pub region_within : (h : History) (n : ℕ) → (left h n).max_read ≤ max_ts h
region_within [] n = omega arith
region_within (Drawn s m ∷ h) n = region_within h n
region_within (Began t ∷ h) n = region_within h n
region_within (Declared d ∷ h) n = region_within h n
region_within (Answered t o ∷ h) n = region_within h n
region_within (Stopped s ∷ h) n = region_within h n
region_within (Took x ∷ h) n =
    let before = region_within h n in
    elim (nat_test x.region n) [
      | inl same ↦ rw same.0
          (subst (λ m. (leaves (left h m) x.body x.answer).max_read ≤ max (max_ts h)
          (leaves (left h x.region) x.body x.answer).max_read) same.1 (omega arith))
      | inr other ↦ rw other.0 (omega (arith, before))
    ]

-- in a world run it lies at most at the last number drawn
pub read_drawn : (bounds : List Key) (h : History) → IsWorldRun bounds h → max_ts h ≤ last h
read_drawn bounds [] run = omega arith
read_drawn bounds (Drawn s m ∷ h) run = (let before = read_drawn bounds h run.0 in omega (arith, before, run.1))
read_drawn bounds (Began t ∷ h) run = read_drawn bounds h run.0
read_drawn bounds (Declared d ∷ h) run = read_drawn bounds h run.0
read_drawn bounds (Answered t o ∷ h) run = read_drawn bounds h run.0
read_drawn bounds (Stopped s ∷ h) run = read_drawn bounds h run.0
read_drawn bounds (Took x ∷ h) run =
    let before = read_drawn bounds h run.0 in
    let here = (left_upto bounds (Took x ∷ h) run x.region).read in
    let mine : left (Took x ∷ h) x.region ≡ leaves (left h x.region) x.body x.answer = own_region h x in
    omega (arith, before, here, ap (λ (r : Region). r.max_read) mine)
  where
    own_region : (h : History) (x : Taken) → left (Took x ∷ h) x.region ≡ leaves (left h x.region) x.body x.answer
    own_region h x = elim (nat_test x.region x.region) [ inl y ↦ rw y.0 refl | inr y ↦ absurd (y.1 refl) ]

-- an event only raises it
read_next : (h : History) (e : Event) → max_ts h ≤ max_ts (e ∷ h)
read_next h (Took x) = omega arith
read_next h (Drawn s n) = omega arith
read_next h (Began t) = omega arith
read_next h (Declared d) = omega arith
read_next h (Answered t o) = omega arith
read_next h (Stopped s) = omega arith

pub read_on : (l h : History) → Begins l h → max_ts l ≤ max_ts h
read_on l [] b = (let same = ap max_ts b in omega (arith, same))
read_on l (e ∷ h) b =
    elim b [
      | inl same ↦ (let is = ap max_ts same in omega (arith, is))
      | inr on ↦ (let before = read_on l h on in let next = read_next h e in omega (arith, before, next))
    ]

-- ---- what one event makes of it

-- two raises that come to the same above a come to the same above what lies at or above it
raises_more : (a b c d : ℕ) → a ≤ b → max a c ≡ max a d → max b c ≡ max b d
raises_more a b c d le same = omega (arith, le, same)

module _ (i : ℕ) (l h : History) (goes : Extends i l h) where
  -- what a seat's event makes of it, by what the seat knew
  pub raised_on : (e : Event) (r : ℕ) → owner h e ≡ Some i → max_ts (e ∷ l) ≡ max (max_ts l) r
      → max_ts (e ∷ h) ≡ max (max_ts h) r
  raised_on (Took x) r own is =
      let same : left h x.region ≡ left l x.region =
      subst (λ n. left h n ≡ left l n) (sym (some_same x.region i own)) (left_on i l h goes) in
      let mark : (leaves (left h x.region) x.body x.answer).max_read
      ≡ (leaves (left l x.region) x.body x.answer).max_read =
      ap (λ (region : Region). (leaves region x.body x.answer).max_read) same in
      ap (max (max_ts h)) mark
      ∙ raises_more (max_ts l) (max_ts h) (leaves (left l x.region) x.body x.answer).max_read r
      (read_on l h (extends_begins i l h goes)) is
  raised_on (Drawn s n) r own is = (let on = read_on l h (extends_begins i l h goes) in omega (arith, on, is))
  raised_on (Began t) r own is = (let on = read_on l h (extends_begins i l h goes) in omega (arith, on, is))
  raised_on (Declared d) r own is = (let on = read_on l h (extends_begins i l h goes) in omega (arith, on, is))
  raised_on (Answered t o) r own is = (let on = read_on l h (extends_begins i l h goes) in omega (arith, on, is))
  raised_on (Stopped s) r own is = (let on = read_on l h (extends_begins i l h goes) in omega (arith, on, is))

  -- an event that left it as it was
  pub unraised_on : (e : Event) → owner h e ≡ Some i → max_ts (e ∷ l) ≡ max_ts l → max_ts (e ∷ h) ≡ max_ts h
  unraised_on e own is = (let raised = raised_on e 0 own (omega (arith, is)) in omega (arith, raised))

-- what a region's answer makes of it, by what was read
pub taken_raises : (h : History) (x : Taken) (read : Option ℕ)
    → (leaves (left h x.region) x.body x.answer).max_read ≡ read_upto read (left h x.region).max_read
    → max_ts (Took x ∷ h) ≡ read_upto read (max_ts h)
taken_raises h x None is = (let within = region_within h x.region in omega (arith, within, is))
taken_raises h x (Some r) is = (let within = region_within h x.region in omega (arith, within, is))
