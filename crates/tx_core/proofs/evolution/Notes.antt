-- The number that is noted of a key tells whether its cells are those of an earlier moment.
use Rattle.std.proofs.Common.{◌≡◌, ◌≢◌, ◌⊎◌, ℕ, ◌+◌, ◌<◌, ◌≤◌, inl, inr, List, [], ◌∷◌, Some, refl, sym, ap, subst, ◌∙◌, arith}
use Rattle.std.proofs.lemmas.Bool.{cases_lt}
use Rattle.tx_types.specs.declared.key.Key.{Key}
use Rattle.tx_plan.specs.Cells.{Region}
use Rattle.tx_plan.specs.Answers.{leaves}
use Rattle.tx_core.specs.declared.event.Taken.{Taken}
use Rattle.tx_core.specs.declared.event.Event.{Event}
use Rattle.tx_core.specs.declared.event.Event.TheVariants.{Drawn, Began, Declared, Answered, Stopped, Took}
use Rattle.tx_core.specs.Histories.{History, left, last, Begins}
use Rattle.tx_core.specs.Recording.{owner, Extends}
use Rattle.tx_core.specs.Worlds.{MayCome, IsWorldRun}
use Rattle.tx_core.proofs.Basics.{nat_test}
use Rattle.tx_core.proofs.seats.Replies.{left_on}
use Rattle.tx_core.proofs.seats.Beginnings.{begins_either, extends_begins, extends_between, other_on}
use Rattle.tx_core.specs.Later.{AreRegular, GoesOn}
use Rattle.tx_plan.specs.declared.body.Collect.{Collect}
use Rattle.tx_plan.specs.declared.body.Body.TheVariants as body
use Rattle.tx_plan.specs.declared.answer.Answer.{Answer}
use Rattle.tx_plan.specs.declared.answer.Answer.TheVariants as answer
use Rattle.tx_plan.specs.cases.Collect.{kept}
use Rattle.tx_core.proofs.evolution.Keys.{kept_same}
use Rattle.tx_core.proofs.evolution.Order.{later_same, never_back}
use Rattle.tx_core.proofs.evolution.Steps.{new_regular, steps, goes_more}
use Rattle.tx_core.specs.LastChanges.{turn_of, turns, IsNoted, Notes, NotesAll, Drops}

goes_same : (region : Region) → GoesOn region region
goes_same region = record { rises = omega arith; safe = omega arith; later = λ e k. later_same (region.cells k) }

-- ---- regions in world runs

-- what a region's own events leave is regular
pub left_regular : (bounds : List Key) (h : History) → IsWorldRun bounds h → (n : ℕ) → AreRegular (left h n)
left_regular bounds [] run n = new_regular
left_regular bounds (Drawn s m ∷ h) run n = left_regular bounds h run.0 n
left_regular bounds (Began t ∷ h) run n = left_regular bounds h run.0 n
left_regular bounds (Declared d ∷ h) run n = left_regular bounds h run.0 n
left_regular bounds (Answered t o ∷ h) run n = left_regular bounds h run.0 n
left_regular bounds (Stopped s ∷ h) run n = left_regular bounds h run.0 n
left_regular bounds (Took x ∷ h) run n =
    elim (nat_test x.region n) [
      | inl same ↦ rw same.0
          (subst (λ m. AreRegular (leaves (left h m) x.body x.answer)) same.1
          (steps (left h x.region) (left_regular bounds h run.0 x.region) x.loaded (last h) x.body x.answer
          run.1.answers).regular)
      | inr other ↦ rw other.0 (left_regular bounds h run.0 n)
    ]

-- one event
goes_next : (bounds : List Key) (h : History) (e : Event) → IsWorldRun bounds h → MayCome bounds h e → (n : ℕ)
    → GoesOn (left h n) (left (e ∷ h) n)
goes_next bounds h (Drawn s m) run may n = goes_same (left h n)
goes_next bounds h (Began t) run may n = goes_same (left h n)
goes_next bounds h (Declared d) run may n = goes_same (left h n)
goes_next bounds h (Answered t o) run may n = goes_same (left h n)
goes_next bounds h (Stopped s) run may n = goes_same (left h n)
goes_next bounds h (Took x) run may n =
    elim (nat_test x.region n) [
      | inl same ↦ rw same.0
          (subst (λ m. GoesOn (left h m) (leaves (left h m) x.body x.answer)) same.1
          (steps (left h x.region) (left_regular bounds h run x.region) x.loaded (last h) x.body x.answer
          may.answers).goes_on)
      | inr other ↦ rw other.0 (goes_same (left h n))
    ]

-- from a beginning on
pub left_goes_on : (bounds : List Key) (n : ℕ) (l h : History) → IsWorldRun bounds h → Begins l h
    → GoesOn (left l n) (left h n)
left_goes_on bounds n l [] run b = subst (λ x. GoesOn (left l n) (left x n)) b (goes_same (left l n))
left_goes_on bounds n l (e ∷ h) run b =
    elim b [
      | inl same ↦ subst (λ x. GoesOn (left l n) (left x n)) same (goes_same (left l n))
      | inr more ↦ goes_more (left l n) (left h n) (left (e ∷ h) n) (left_goes_on bounds n l h run.0 more)
          (goes_next bounds h e run.0 run.1 n)
    ]

-- ---- turns

turns_next : (n : ℕ) (h : History) (e : Event) → owner h e ≢ Some n → turns (e ∷ h) n ≡ turns h n
turns_next n h (Took x) other =
    elim (nat_test x.region n) [ inl y ↦ absurd (other (ap Some y.1)) | inr y ↦ rw y.0 refl ]
turns_next n h (Drawn s m) other = refl
turns_next n h (Began t) other = refl
turns_next n h (Declared d) other = refl
turns_next n h (Answered t o) other = refl
turns_next n h (Stopped s) other = refl

pub turns_on : (n : ℕ) (l h : History) → Extends n l h → turns h n ≡ turns l n
turns_on n l h g = other_on n (λ x. turns x n ≡ turns l n) (λ x e other same. turns_next n x e other ∙ same) l h g refl

pub turns_took : (n : ℕ) (h : History) (x : Taken) → x.region ≡ n → turns (Took x ∷ h) n ≡ turns h n + turn_of x.body
turns_took n h x own = elim (nat_test x.region n) [ inl y ↦ rw y.0 refl | inr y ↦ absurd (y.1 own) ]

turns_one : (n : ℕ) (h : History) (e : Event) → turns h n ≤ turns (e ∷ h) n
turns_one n h (Took x) = elim (nat_test x.region n) [ inl y ↦ rw y.0 (omega arith) | inr y ↦ rw y.0 (omega arith) ]
turns_one n h (Drawn s m) = omega arith
turns_one n h (Began t) = omega arith
turns_one n h (Declared d) = omega arith
turns_one n h (Answered t o) = omega arith
turns_one n h (Stopped s) = omega arith

pub turns_more : (n : ℕ) (l h : History) → Begins l h → turns l n ≤ turns h n
turns_more n l [] b = subst (λ x. turns l n ≤ turns x n) b (omega arith)
turns_more n l (e ∷ h) b =
    elim b [
      | inl same ↦ subst (λ x. turns l n ≤ turns x n) same (omega arith)
      | inr more ↦ (let one = turns_one n h e in let rest = turns_more n l h more in omega (arith, one, rest))
    ]

-- ---- what is noted

-- in a region that took nothing
pub noted_first : (n : ℕ) (k : Key) → IsNoted [] n k 0
noted_first n k = record {
  low = omega arith;
  same = λ l b e le. ap (λ x. (left x n).cells k) b;
  changed = λ l b e lt. absurd (omega (arith, lt));
}

-- with events of others
pub noted_on : (n : ℕ) (k : Key) (s : ℕ) (l h : History) → Extends n l h → IsNoted l n k s → IsNoted h n k s
noted_on n k s l h g is =
    let b = extends_begins n l h g in
    let region : left h n ≡ left l n = left_on n l h g in
    let count : turns h n ≡ turns l n = turns_on n l h g in
    record {
      low = omega (arith, is.low, count);
      same = λ m c e le.
          elim (begins_either m l h c b) [
            | inl before ↦ is.same m before (e ∙ ap (λ (r : Region). r.collected) region) le
                ∙ ap (λ (r : Region). r.cells k) (sym region)
            | inr after ↦ (let between = extends_between n l m h g after c in
                ap (λ (r : Region). r.cells k) (left_on n l m between.0 ∙ sym region))
          ];
      changed = λ m c e lt.
          elim (begins_either m l h c b) [
            | inl before ↦ λ eq. is.changed m before (e ∙ ap (λ (r : Region). r.collected) region) lt (eq
                ∙ ap (λ (r : Region). r.cells k) region)
            | inr after ↦ (let between = extends_between n l m h g after c in let same = turns_on n l m between.0 in
                absurd (omega (arith, lt, same, is.low)))
          ];
    }

-- with a request that the region takes
pub noted_took : (bounds : List Key) (n : ℕ) (h : History) (x : Taken) → IsWorldRun bounds (Took x ∷ h)
    → (k : Key) (s t : ℕ) → IsNoted h n k s
    → Notes (turns h n) (turns (Took x ∷ h) n) ((left h n).cells k) s ((left (Took x ∷ h) n).cells k) t
    → IsNoted (Took x ∷ h) n k t
noted_took bounds n h x run k s t is notes =
    record { low = low notes; same = λ l b. same notes l b; changed = λ l b. changed notes l b }
  where
    after : Region
    after = left (Took x ∷ h) n

    now : ℕ
    now = turns (Took x ∷ h) n

    rises : GoesOn (left h n) after
    rises = goes_next bounds h (Took x) run.0 run.1 n

    -- a beginning with the same collection had it before the event too
    before : (l : History) → Begins l h → (left l n).collected ≡ after.collected
        → (left l n).collected ≡ (left h n).collected
    before l b e = (let first = (left_goes_on bounds n l h run.0 b).rises in let second = rises.rises in
        omega (arith, e, first, second))

    low : Notes (turns h n) now ((left h n).cells k) s (after.cells k) t → t ≤ turns (Took x ∷ h) n
    low (inl both) = (let more = turns_one n h (Took x) in omega (arith, both.1, is.low, more))
    low (inr both) = omega (arith, both.1)

    same : Notes (turns h n) now ((left h n).cells k) s (after.cells k) t → (l : History) → Begins l (Took x ∷ h)
        → (left l n).collected ≡ after.collected → t ≤ turns l n → (left l n).cells k ≡ after.cells k
    same w l (inl all) e le = ap (λ y. (left y n).cells k) all
    same (inl both) l (inr more) e le = is.same l more (before l more e) (omega (arith, le, both.1)) ∙ both.0
    same (inr both) l (inr more) e le =
        absurd (let few = turns_more n l h more in omega (arith, le, both.1, both.2, few))

    changed : Notes (turns h n) now ((left h n).cells k) s (after.cells k) t → (l : History) → Begins l (Took x ∷ h)
        → (left l n).collected ≡ after.collected → turns l n < t → (left l n).cells k ≢ after.cells k
    changed w l (inl all) e lt =
        absurd (let here = low w in let there = ap (λ y. turns y n) all in omega (arith, lt, here, there))
    changed (inl both) l (inr more) e lt =
        λ eq. is.changed l more (before l more e) (omega (arith, lt, both.1)) (eq ∙ sym both.0)
    changed (inr both) l (inr more) e lt =
        let was = before l more e in
        never_back ((left l n).cells k) ((left h n).cells k) (after.cells k)
        ((left_goes_on bounds n l h run.0 more).later was k) (rises.later (sym was ∙ e) k) both.0

-- with a collection that rises: no earlier moment has the same collection, so any number will do
noted_raised : (bounds : List Key) (n : ℕ) (h : History) (x : Taken) → IsWorldRun bounds (Took x ∷ h)
    → (k : Key) (t : ℕ) → t ≤ turns (Took x ∷ h) n → (left h n).collected < (left (Took x ∷ h) n).collected
    → IsNoted (Took x ∷ h) n k t
noted_raised bounds n h x run k t low more = record {
  low = low;
  same = λ l b e le. elim b [
    | inl all ↦ ap (λ y. (left y n).cells k) all
    | inr before ↦ absurd (let first = (left_goes_on bounds n l h run.0 before).rises in omega (arith, e, first, more))
  ];
  changed = λ l b e lt. elim b [
    | inl all ↦ absurd (let there = ap (λ y. turns y n) all in omega (arith, lt, low, there))
    | inr before ↦ absurd (let first = (left_goes_on bounds n l h run.0 before).rises in omega (arith, e, first, more))
  ];
}

-- a collection at the point of the last one changes no key
collected_again : (bounds : List Key) (n : ℕ) (h : History) → IsWorldRun bounds h → (k : Key)
    → kept ((left h n).cells k) (left h n).collected ≡ (left h n).cells k
collected_again bounds n h run k =
    let is = (left_regular bounds h run n).keys k in
    λ i. record {
      lock = ((left h n).cells k).lock;
      write =
          λ q. kept_same (left h n).collected ((left h n).cells k) is q i;
    }

-- so where a collection changes some key it rises
same_collected : (region : Region) (b : Collect) (a : Answer)
    → ((k : Key) → kept (region.cells k) region.collected ≡ region.cells k)
    → region.collected ≡ (leaves region (body.Collect b) a).collected → (k : Key)
    → region.cells k ≡ (leaves region (body.Collect b) a).cells k
same_collected region b (answer.Collected records values) again same k = sym (again k) ∙ ap (kept (region.cells k)) same
same_collected region b _ again same k = refl

noted_dropped : (bounds : List Key) (n : ℕ) (h : History) (x : Taken) → IsWorldRun bounds (Took x ∷ h) → x.region ≡ n
    → (b : Collect) → x.body ≡ body.Collect b → (s t : Key → ℕ) → ((k : Key) → IsNoted h n k (s k))
    → Drops (left h n).cells s (left (Took x ∷ h) n).cells t → (k : Key) → IsNoted (Took x ∷ h) n k (t k)
noted_dropped bounds n h x run own b asked s t is drops k =
    noted_raised bounds n h x run k (t k) (let more = turns_one n h (Took x) in let low = (is k).low in
    let less = drops.1 k in omega (arith, more, low, less))
    (elim (cases_lt (left h n).collected (left (Took x ∷ h) n).collected) [
      | inl lt ↦ lt
      | inr le ↦
          let rises = (goes_next bounds h (Took x) run.0 run.1 n).rises in
          let same : (left h n).collected ≡ (left (Took x ∷ h) n).collected = omega (arith, le, rises) in
          let is_left : left (Took x ∷ h) n ≡ leaves (left h n) (body.Collect b) x.answer =
          here ∙ ap (λ q. leaves (left h n) q x.answer) asked in
          absurd (drops.0 (λ q. same_collected (left h n) b x.answer (collected_again bounds n h run.0) (same
          ∙ ap (λ (r : Region). r.collected) is_left) q ∙ ap (λ (r : Region). r.cells q) (sym is_left)))
    ])
  where
    here : left (Took x ∷ h) n ≡ leaves (left h n) x.body x.answer
    here = elim (nat_test x.region n) [ inl y ↦ rw y.0 refl | inr y ↦ absurd (y.1 own) ]

-- what each request makes of the numbers
pub noted_all : (bounds : List Key) (n : ℕ) (h : History) (x : Taken) → IsWorldRun bounds (Took x ∷ h) → x.region ≡ n
    → (s t : Key → ℕ) → ((k : Key) → IsNoted h n k (s k))
    → NotesAll (turns h n) (turns (Took x ∷ h) n) (left h n).cells s (left (Took x ∷ h) n).cells t
    ⊎ (((b : Collect) × (x.body ≡ body.Collect b)) × Drops (left h n).cells s (left (Took x ∷ h) n).cells t)
    → (k : Key) → IsNoted (Took x ∷ h) n k (t k)
noted_all bounds n h x run own s t is (inl notes) k = noted_took bounds n h x run k (s k) (t k) (is k) (notes k)
noted_all bounds n h x run own s t is (inr (asked, drops)) k =
    noted_dropped bounds n h x run own asked.0 asked.1 s t is drops k
