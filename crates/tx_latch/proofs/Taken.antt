-- A granted command taken out of the positions.
use Rattle.std.proofs.Common.{◌≡◌, ℕ, ◌<◌, ◌≤◌, Bool, true, false, cond, not, ◌&&◌, eqb, suc, List, ◌∷◌, ◌++◌, Option, None, Some, map, get_or, set, take, drop, refl, sym, ap, ◌∙◌, subst}
use Rattle.std.specs.Option.{option_map, is_some}
use Rattle.std.specs.List.{filter}
use Rattle.std.proofs.lemmas.List.{get_or-set_other}
use Rattle.std.proofs.lemmas.Bool.{eqb-true, eq-eqb}
use Rattle.tx_latch.specs.Asked.{Command, contains, is_granted, without, newly_granted, blocked, Distinct}
use Rattle.tx_latch.specs.Queues.{Link, commands, command_of, Chained, Placed, is_number, lowered_in, followers}
use Rattle.tx_latch.proofs.Granted.{without-around}
use Rattle.tx_latch.proofs.Ahead.{is_granted_at}
use Rattle.tx_latch.proofs.Freed.{freed-around}
use Rattle.tx_latch.proofs.Places.{link-get, some_same, none_apart, split-at, split-none, commands-map, Distinct-positions}
use Rattle.tx_latch.proofs.Leave.{leaves, left_some, leave-cases}

true_false : true ≡ false → ⊥
true_false h = cc

not_true : (a : Bool) → not a ≡ true → a ≡ false
not_true true h = absurd (true_false (sym h))
not_true false h = refl

-- what is known once a command was taken out
pub record Taken (ls items : List (Option Link)) (at last : ℕ → Option ℕ) (room : ℕ → ℕ) (cid : ℕ) (behind : List ℕ) :
    Type 0 where
  pub chained : Chained items at last room
  pub stands : (c i : ℕ) → at c ≡ Some i → is_some (get_or items i None) ≡ true
  pub list : commands items ≡ without cid (commands ls)
  pub freed : filter (is_granted (commands items)) behind ≡ newly_granted (commands ls) (commands items)

some_none : (l : Link) → (let x : Option Link = Some l in x) ≡ None → ⊥
some_none l h = cc

some_map : (g : Link → Link) (o : Option Link) → is_some (option_map g o) ≡ is_some o
some_map g None = refl
some_map g (Some l) = refl

left_apart : (cid c k i : ℕ) (o : Option ℕ) (b : Bool) → eqb cid c ≡ b → cond b None o ≡ Some k
    → (o ≡ Some k → eqb cid c ≡ true) → ⊥
left_apart cid c k i o true e h f = none_apart k h
left_apart cid c k i o false e h f = true_false (sym (f h) ∙ e)

set_get : (ls : List (Option Link)) (i k : ℕ) (l : Link) → get_or (set ls i None) k None ≡ Some l
    → (k ≡ i → ⊥) × (get_or ls k None ≡ Some l)
set_get ls i k l h =
    let r = leave-cases ls (λ x. x) i k l (link-get (λ x. x) (set ls i None) k ∙ ap (option_map (λ (x : Link). x)) h) in
    (r.1, r.2 ∙ ap (λ x. Some x) (sym r.3))

placed_listed : (ls : List (Option Link)) (at at' : ℕ → Option ℕ) (cid i k : ℕ) (l : Link) (b : Bool)
    → eqb cid l.cid ≡ b → at' l.cid ≡ cond (eqb cid l.cid) None (at l.cid) → at cid ≡ Some i
    → (k ≡ i → ⊥) × (get_or ls k None ≡ Some l) → (get_or ls k None ≡ Some l → at l.cid ≡ Some k)
    → (get_or ls i None ≡ Some l → l.cid ≡ cid) → at' l.cid ≡ Some k
placed_listed ls at at' cid i k l true e left here r f g =
    absurd (r.0 (some_same k i (sym (f r.1) ∙ ap at (sym (eqb-true cid l.cid e)) ∙ here)))
placed_listed ls at at' cid i k l false e left here r f g = left ∙ ap (λ b. cond b None (at l.cid)) e ∙ f r.1

-- the positions while one is empty
pub placed-set : (ls : List (Option Link)) (at at' last : ℕ → Option ℕ) (room : ℕ → ℕ) (cid i : ℕ)
    → Chained ls at last room → at cid ≡ Some i → ((c : ℕ) → at' c ≡ cond (eqb cid c) None (at c))
    → Placed (set ls i None) at'
placed-set ls at at' last room cid i old here left = (
  λ k l e. placed_listed ls at at' cid i k l (eqb cid l.cid) refl (left l.cid) here (set_get ls i k l e)
      (λ h. old.listed k l h) (λ h. old.found cid i l here h),
  λ c k l a e. old.found c k l (left_some (eqb cid c) (at c) k (sym (left c) ∙ a)) (set_get ls i k l e).1,
)

pub taken : (ls items : List (Option Link)) (at at' last last' : ℕ → Option ℕ) (room wide : ℕ
    → ℕ) (cid i : ℕ) (l : Link)
    → Chained ls at last room → ((c i : ℕ) → at c ≡ Some i → is_some (get_or ls i None) ≡ true)
    → is_granted (commands ls) cid ≡ true
    → at cid ≡ Some i → get_or ls i None ≡ Some l → ((c : ℕ) → at' c ≡ cond (eqb cid c) None (at c))
    → ((s : ℕ) → s < 256 → last' s ≡ cond (contains s l.slots && is_number cid (last s)) None (last s))
    → items ≡ map (option_map (lowered_in l.behind)) (set ls i None) → ((k : ℕ) → (k ≡ i → ⊥) → room k ≤ wide k)
    → Taken ls items at' last' wide cid l.behind
taken ls items at at' last last' room wide cid i l old stands granted here there left lasts is wider =
    let same : l.cid ≡ cid = old.found cid i l here there in
    let bs : List Command = commands (take i ls) in
    let xs : List Command = commands (drop (suc i) ls) in
    let p : Command = command_of l in
    let whole : commands ls ≡ bs ++ p ∷ xs = split-at ls i l there in
    let distinct : Distinct (bs ++ p ∷ xs) =
    subst Distinct whole (Distinct-positions ls at (λ k. k) (λ a b z. z) old.listed) in
    let free : blocked bs p ≡ false =
    not_true (blocked bs p) (sym (is_granted_at bs p xs distinct) ∙ ap (λ t. is_granted t l.cid) (sym whole)
    ∙ ap (is_granted (commands ls)) same ∙ granted) in
    let all : commands items ≡ bs ++ xs =
    ap commands is ∙ commands-map (lowered_in l.behind) (λ x. refl) (set ls i None) ∙ split-none ls i in
    let follow : l.behind ≡ followers l.slots xs = old.behind i l there in
    record {
      chained = subst (λ t. Chained t at' last' wide) (sym is)
          (leaves ls at at' last last' room wide i l old there free (λ c. left c
          ∙ ap (λ n. cond (eqb n c) None (at c)) (sym same))
          (λ s lt. lasts s lt ∙ ap (λ n. cond (contains s l.slots && is_number n (last s)) None (last s)) (sym same))
          wider);
      stands = λ c k h. (let a : at c ≡ Some k = left_some (eqb cid c) (at c) k (sym (left c) ∙ h) in
          ap (λ t. is_some (get_or t k None)) is ∙ ap is_some (link-get (lowered_in l.behind) (set ls i None) k)
          ∙ some_map (lowered_in l.behind) (get_or (set ls i None) k None)
          ∙ ap is_some (get_or-set_other ls i k None None
          (λ z. left_apart cid c k i (at c) (eqb cid c) refl (sym (left c)
          ∙ h) (λ q. eq-eqb cid c (sym same ∙ old.found c i l (q ∙ ap (λ j. Some j) z) there)))) ∙ stands c k a);
      list = all ∙ sym (ap (without cid) whole ∙ ap (λ n. without n (bs ++ p ∷ xs)) (sym same)
          ∙ without-around bs p xs distinct);
      freed = ap (λ t. filter (is_granted t) l.behind) all ∙ ap (filter (is_granted (bs ++ xs))) follow
          ∙ freed-around bs p xs distinct free
          ∙ sym (ap (newly_granted (commands ls)) all ∙ ap (λ t. newly_granted t (bs ++ xs)) whole);
    }
