-- What stays so, however a world run grows.
use Rattle.std.proofs.Common.{◌≡◌, ◌≢◌, ◌≤◌, ℕ, ◌==◌, inl, inr, Bool, true, false, cond, List, [], ◌∷◌, Some, None, refl, sym, ap, subst, ◌∙◌, arith}
use Rattle.tx_types.specs.declared.key.Key.{Key}
use Rattle.tx_types.specs.declared.mutation.Fate.{Fate}
use Rattle.tx_core.specs.declared.event.Declaration.{Declaration}
use Rattle.tx_core.specs.declared.event.Event.{Event}
use Rattle.tx_core.specs.declared.event.Event.TheVariants.{Drawn, Began, Declared, Answered, Stopped, Took}
use Rattle.tx_core.specs.Histories.{History, last, drawer, began, declared, answered, DrewSince, set_of, set_at, Among, WasLast, Begins}
use Rattle.tx_core.specs.Recording.{owner}
use Rattle.tx_core.specs.Decisions.{Acceptance, Effect, Puts, Settles, RollsBack, NoEffect, accepted_by, accepted, effect_in}
use Rattle.tx_core.specs.Worlds.{MayCome, IsWorldRun, WasTold}
use Rattle.tx_core.proofs.Basics.{nat_test, nat_same, chosen, cond_same, some_same, some_of, is_some}
use Rattle.tx_core.proofs.seats.Beginnings.{begins_all, begins_more, kept_on, run_on}

-- ---- the last number

-- an event never lowers the last number
last_next : (bounds : List Key) (h : History) (e : Event) → MayCome bounds h e → last h ≤ last (e ∷ h)
last_next bounds h (Drawn s n) may = omega (arith, may)
last_next bounds h (Began t) may = omega arith
last_next bounds h (Declared d) may = omega arith
last_next bounds h (Answered t o) may = omega arith
last_next bounds h (Stopped s) may = omega arith
last_next bounds h (Took x) may = omega arith

pub last_on : (bounds : List Key) (l h : History) → IsWorldRun bounds h → Begins l h → last l ≤ last h
last_on bounds l h run b =
    run_on bounds (λ x. last l ≤ last x) (λ x e r may le. omega (arith, le, last_next bounds x e may)) l h run b
    (omega arith)

-- the last number of a beginning was the last
pub last_was : (h : History) → WasLast h (last h)
last_was h = (h, begins_all h, refl)

-- and it is no more than itself
pub upto_last : (h : History) → last h ≤ last h
upto_last h = omega arith

pub was_last_on : (l h : History) → Begins l h → (n : ℕ) → WasLast l n → WasLast h n
was_last_on l h b n was = (was.0, begins_more was.0 l h was.1 b, was.2)

pub was_last_of : (l h : History) → Begins l h → WasLast h (last l)
was_last_of l h b = (l, b, refl)

pub was_last_upto : (bounds : List Key) (h : History) → IsWorldRun bounds h → (n : ℕ) → WasLast h n → n ≤ last h
was_last_upto bounds h run n was = omega (arith, was.2, last_on bounds was.0 h run was.1)

-- ---- what was drawn

-- what was drawn is at most the last number
pub drawn_upto : (bounds : List Key) (h : History) → IsWorldRun bounds h → (t : ℕ) → drawer h t ≢ None → t ≤ last h
drawn_upto bounds [] run t drawn = absurd (drawn refl)
drawn_upto bounds (Drawn s n ∷ h) run t drawn =
    elim (nat_test n t) [
      | inl x ↦ omega (arith, x.1)
      | inr x ↦ (let before : drawer h t ≢ None = λ none. drawn (rw x.0 none) in
          omega (arith, drawn_upto bounds h run.0 t before, run.1))
    ]
drawn_upto bounds (Began u ∷ h) run t drawn = drawn_upto bounds h run.0 t drawn
drawn_upto bounds (Declared d ∷ h) run t drawn = drawn_upto bounds h run.0 t drawn
drawn_upto bounds (Answered u o ∷ h) run t drawn = drawn_upto bounds h run.0 t drawn
drawn_upto bounds (Stopped s ∷ h) run t drawn = drawn_upto bounds h run.0 t drawn
drawn_upto bounds (Took x ∷ h) run t drawn = drawn_upto bounds h run.0 t drawn

-- the seat that drew a number stays the one: each number is drawn once, as they rise
pub drawer_next : (bounds : List Key) (h : History) (e : Event) → IsWorldRun bounds h → MayCome bounds h e → (t s : ℕ)
    → drawer h t ≡ Some s → drawer (e ∷ h) t ≡ Some s
drawer_next bounds h (Drawn i n) run may t s by =
    elim (nat_test n t) [
      | inl x ↦ absurd (omega (arith, x.1, may, drawn_upto bounds h run t (is_some (drawer h t) s by)))
      | inr x ↦ rw x.0 by
    ]
drawer_next bounds h (Began u) run may t s by = by
drawer_next bounds h (Declared d) run may t s by = by
drawer_next bounds h (Answered u o) run may t s by = by
drawer_next bounds h (Stopped i) run may t s by = by
drawer_next bounds h (Took x) run may t s by = by

pub drawer_on : (bounds : List Key) (l h : History) → IsWorldRun bounds h → Begins l h → (t s : ℕ) → drawer l t ≡ Some s
    → drawer h t ≡ Some s
drawer_on bounds l h run b t s =
    run_on bounds (λ x. drawer x t ≡ Some s) (λ x e r may by. drawer_next bounds x e r may t s by) l h run b

pub drawn_on : (bounds : List Key) (l h : History) → IsWorldRun bounds h → Begins l h → (t : ℕ) → drawer l t ≢ None
    → drawer h t ≢ None
drawn_on bounds l h run b t drawn =
    (let by = some_of (drawer l t) drawn in is_some (drawer h t) by.0 (drawer_on bounds l h run b t by.0 by.1))

-- what was drawn since a start stays so, and is at most the last number
pub drew_since_on : (l h : History) → Begins l h → (t p : ℕ) → DrewSince l t p → DrewSince h t p
drew_since_on l h b t p = kept_on (λ x. DrewSince x t p) (λ x e is. next x e is) l h b
  where
    next : (x : History) (e : Event) → DrewSince x t p → DrewSince (e ∷ x) t p
    next x (Drawn s n) is = inr is
    next x (Began u) is = is
    next x (Declared d) is = is
    next x (Answered u o) is = is
    next x (Stopped s) is = is
    next x (Took y) is = is

pub drew_upto : (bounds : List Key) (h : History) → IsWorldRun bounds h → (t p : ℕ) → DrewSince h t p → p ≤ last h
drew_upto bounds [] run t p drew = absurd drew
drew_upto bounds (Drawn s n ∷ h) run t p drew =
    elim drew [
      | inl now ↦ omega (arith, now.0)
      | inr before ↦ omega (arith, drew_upto bounds h run.0 t p before, run.1)
    ]
drew_upto bounds (Began u ∷ h) run t p drew = drew_upto bounds h run.0 t p drew
drew_upto bounds (Declared d ∷ h) run t p drew = drew_upto bounds h run.0 t p drew
drew_upto bounds (Answered u o ∷ h) run t p drew = drew_upto bounds h run.0 t p drew
drew_upto bounds (Stopped s ∷ h) run t p drew = drew_upto bounds h run.0 t p drew
drew_upto bounds (Took x ∷ h) run t p drew = drew_upto bounds h run.0 t p drew

-- so is the number that was drawn for a declaration
pub declared_drew : (bounds : List Key) (h : History) → IsWorldRun bounds h → (t : ℕ) (d : Declaration)
    → declared h t ≡ Some d → d.drawn ≤ last h
declared_drew bounds [] run t d e = absurd (cc (e))
declared_drew bounds (Declared x ∷ h) run t d e =
    elim (chosen (x.start == t) (Some x) (declared h t) (Some d) e) [
      | inl now ↦ (let same : x ≡ d = some_same x d now.1 in
          omega (arith, drew_upto bounds h run.0 x.start x.drawn run.1.drew, ap (λ (y : Declaration). y.drawn) same))
      | inr before ↦ declared_drew bounds h run.0 t d before.1
    ]
declared_drew bounds (Drawn s n ∷ h) run t d e = omega (arith, declared_drew bounds h run.0 t d e, run.1)
declared_drew bounds (Began u ∷ h) run t d e = declared_drew bounds h run.0 t d e
declared_drew bounds (Answered u o ∷ h) run t d e = declared_drew bounds h run.0 t d e
declared_drew bounds (Stopped s ∷ h) run t d e = declared_drew bounds h run.0 t d e
declared_drew bounds (Took x ∷ h) run t d e = declared_drew bounds h run.0 t d e

-- the number that a seat just drew is its
pub drawer_new : (i t : ℕ) (h : History) → drawer (Drawn i t ∷ h) t ≡ Some i
drawer_new i t h = rw (nat_same t) refl

-- ---- what began, was declared and was answered

began_next : (h : History) (e : Event) (t : ℕ) → began h t ≡ true → began (e ∷ h) t ≡ true
began_next h (Began u) t is = ap (cond _ true) is ∙ cond_same _ true
began_next h (Drawn s n) t is = is
began_next h (Declared d) t is = is
began_next h (Answered u o) t is = is
began_next h (Stopped s) t is = is
began_next h (Took x) t is = is

pub began_on : (l h : History) → Begins l h → (t : ℕ) → began l t ≡ true → began h t ≡ true
began_on l h b t = kept_on (λ x. began x t ≡ true) (λ x e is. began_next x e t is) l h b

pub began_new : (t : ℕ) (h : History) → began (Began t ∷ h) t ≡ true
began_new t h = rw (nat_same t) refl

answered_next : (h : History) (e : Event) (t : ℕ) → answered h t ≡ true → answered (e ∷ h) t ≡ true
answered_next h (Answered u o) t is = ap (cond _ true) is ∙ cond_same _ true
answered_next h (Drawn s n) t is = is
answered_next h (Began u) t is = is
answered_next h (Declared d) t is = is
answered_next h (Stopped s) t is = is
answered_next h (Took x) t is = is

pub answered_on : (l h : History) → Begins l h → (t : ℕ) → answered l t ≡ true → answered h t ≡ true
answered_on l h b t = kept_on (λ x. answered x t ≡ true) (λ x e is. answered_next x e t is) l h b

-- a transaction declares once
declared_next : (bounds : List Key) (h : History) (e : Event) → MayCome bounds h e → (t : ℕ) (d : Declaration)
    → declared h t ≡ Some d → declared (e ∷ h) t ≡ Some d
declared_next bounds h (Declared x) may t d is =
    elim (nat_test x.start t) [
      | inl y ↦ absurd (cc (may.once, subst (λ n. declared h n ≡ Some d) (sym y.1) is))
      | inr y ↦ rw y.0 is
    ]
declared_next bounds h (Drawn s n) may t d is = is
declared_next bounds h (Began u) may t d is = is
declared_next bounds h (Answered u o) may t d is = is
declared_next bounds h (Stopped s) may t d is = is
declared_next bounds h (Took x) may t d is = is

pub declared_on : (bounds : List Key) (l h : History) → IsWorldRun bounds h → Begins l h → (t : ℕ) (d : Declaration)
    → declared l t ≡ Some d → declared h t ≡ Some d
declared_on bounds l h run b t d =
    run_on bounds (λ x. declared x t ≡ Some d) (λ x e r may is. declared_next bounds x e may t d is) l h run b

pub set_on : (bounds : List Key) (l h : History) → IsWorldRun bounds h → Begins l h → (t : ℕ) → declared l t ≢ None
    → set_at h t ≡ set_at l t
set_on bounds l h run b t some =
    (let d = some_of (declared l t) some in ap set_of (declared_on bounds l h run b t d.0 d.1) ∙ sym (ap set_of d.1))

-- what began was drawn
pub begun_drawn : (bounds : List Key) (h : History) → IsWorldRun bounds h → (t : ℕ) → began h t ≡ true
    → drawer h t ≢ None
begun_drawn bounds [] run t is = absurd (cc (is))
begun_drawn bounds (Began u ∷ h) run t is =
    elim (nat_test u t) [
      | inl x ↦ subst (λ n. drawer h n ≢ None) x.1 run.1.0
      | inr x ↦ (let before : began h t ≡ true = subst (λ c. cond c true (began h t) ≡ true) x.0 is in
          begun_drawn bounds h run.0 t before)
    ]
begun_drawn bounds (Drawn s n ∷ h) run t is =
    (let by = some_of (drawer h t) (begun_drawn bounds h run.0 t is) in
    is_some (drawer (Drawn s n ∷ h) t) by.0 (drawer_next bounds h (Drawn s n) run.0 run.1 t by.0 by.1))
begun_drawn bounds (Declared d ∷ h) run t is = begun_drawn bounds h run.0 t is
begun_drawn bounds (Answered u o ∷ h) run t is = begun_drawn bounds h run.0 t is
begun_drawn bounds (Stopped s ∷ h) run t is = begun_drawn bounds h run.0 t is
begun_drawn bounds (Took x ∷ h) run t is = begun_drawn bounds h run.0 t is

-- so a start is at most the last number
pub begun_upto : (bounds : List Key) (h : History) → IsWorldRun bounds h → (t : ℕ) → began h t ≡ true → t ≤ last h
begun_upto bounds h run t is = drawn_upto bounds h run t (begun_drawn bounds h run t is)

-- a number that was just drawn did not begin yet
pub began_drawn : (bounds : List Key) (i t : ℕ) (h : History) → IsWorldRun bounds (Drawn i t ∷ h)
    → began (Drawn i t ∷ h) t ≡ false
began_drawn bounds i t h run = go (began h t) refl
  where
    go : (b : Bool) → began h t ≡ b → began h t ≡ false
    go true e = absurd (omega (arith, run.1, begun_upto bounds h run.0 t e))
    go false e = e

-- what was declared began, and is of its own start
pub declared_began : (bounds : List Key) (h : History) → IsWorldRun bounds h → (t : ℕ) (d : Declaration)
    → declared h t ≡ Some d → began h t ≡ true
declared_began bounds [] run t d is = absurd (cc (is))
declared_began bounds (Declared x ∷ h) run t d is =
    elim (nat_test x.start t) [
      | inl y ↦ subst (λ n. began h n ≡ true) y.1 run.1.begun
      | inr y ↦ (let before : declared h t ≡ Some d = subst (λ c. cond c (Some x) (declared h t) ≡ Some d) y.0 is in
          declared_began bounds h run.0 t d before)
    ]
declared_began bounds (Began u ∷ h) run t d is = began_next h (Began u) t (declared_began bounds h run.0 t d is)
declared_began bounds (Drawn s n ∷ h) run t d is = declared_began bounds h run.0 t d is
declared_began bounds (Answered u o ∷ h) run t d is = declared_began bounds h run.0 t d is
declared_began bounds (Stopped s ∷ h) run t d is = declared_began bounds h run.0 t d is
declared_began bounds (Took x ∷ h) run t d is = declared_began bounds h run.0 t d is

pub declared_start : (h : History) (t : ℕ) (d : Declaration) → declared h t ≡ Some d → d.start ≡ t
declared_start [] t d is = absurd (cc (is))
declared_start (Declared x ∷ h) t d is =
    elim (nat_test x.start t) [
      | inl y ↦ (let same : x ≡ d = some_same x d (subst (λ c. cond c (Some x) (declared h t) ≡ Some d) y.0 is) in
          subst (λ (z : Declaration). z.start ≡ t) same y.1)
      | inr y ↦ (let before : declared h t ≡ Some d = subst (λ c. cond c (Some x) (declared h t) ≡ Some d) y.0 is in
          declared_start h t d before)
    ]
declared_start (Began u ∷ h) t d is = declared_start h t d is
declared_start (Drawn s n ∷ h) t d is = declared_start h t d is
declared_start (Answered u o ∷ h) t d is = declared_start h t d is
declared_start (Stopped s ∷ h) t d is = declared_start h t d is
declared_start (Took x ∷ h) t d is = declared_start h t d is

-- ---- owners

-- the seat that makes an event stays the one
pub owner_on : (bounds : List Key) (l h : History) → IsWorldRun bounds h → Begins l h → (e : Event) (i : ℕ)
    → owner l e ≡ Some i → owner h e ≡ Some i
owner_on bounds l h run b (Drawn s n) i own = own
owner_on bounds l h run b (Began t) i own = drawer_on bounds l h run b t i own
owner_on bounds l h run b (Declared d) i own = drawer_on bounds l h run b d.start i own
owner_on bounds l h run b (Answered t o) i own = drawer_on bounds l h run b t i own
owner_on bounds l h run b (Stopped s) i own = own
owner_on bounds l h run b (Took x) i own = own

-- each event of a world run is some seat's
pub owner_some : (bounds : List Key) (h : History) → IsWorldRun bounds h → (e : Event) → MayCome bounds h e
    → owner h e ≢ None
owner_some bounds h run (Drawn s n) may = λ none. cc (none)
owner_some bounds h run (Began t) may = may.0
owner_some bounds h run (Declared d) may = begun_drawn bounds h run d.start may.begun
owner_some bounds h run (Answered t o) may = begun_drawn bounds h run t may.0
owner_some bounds h run (Stopped s) may = λ none. cc (none)
owner_some bounds h run (Took x) may = λ none. cc (none)

-- ---- events, acceptances and what is allowed

pub among_on : (l h : History) → Begins l h → (e : Event) → Among l e → Among h e
among_on l h b e = kept_on (λ x. Among x e) (λ x y among. inr among) l h b

pub told_on : (l h : History) → Begins l h → (t : ℕ) (end : Fate) → WasTold l t end → WasTold h t end
told_on l h b t end told =
    record { by = told.by; among = among_on l h b (Took told.by) told.among; of = told.of; tells = told.tells }

accepted_next : (h : History) (e : Event) (t : ℕ) (k : Key) (by : Acceptance) → accepted h t k ≡ Some by
    → accepted (e ∷ h) t k ≡ Some by
accepted_next h (Took x) t k by is = ap (accepted_by (effect_in h x) (last h) t k) is ∙ stands (effect_in h x)
  where
    stands : (e : Effect) → accepted_by e (last h) t k (Some by) ≡ Some by
    stands (Puts key lock) = cond_same _ (Some by)
    stands (Settles key u c) = refl
    stands (RollsBack u) = refl
    stands NoEffect = refl
accepted_next h (Drawn s n) t k by is = is
accepted_next h (Began u) t k by is = is
accepted_next h (Declared d) t k by is = is
accepted_next h (Answered u o) t k by is = is
accepted_next h (Stopped s) t k by is = is

pub accepted_on : (l h : History) → Begins l h → (t : ℕ) (k : Key) (by : Acceptance) → accepted l t k ≡ Some by
    → accepted h t k ≡ Some by
accepted_on l h b t k by = kept_on (λ x. accepted x t k ≡ Some by) (λ x e is. accepted_next x e t k by is) l h b
