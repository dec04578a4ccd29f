-- What holds of the queues after a granted command left them.
use Rattle.std.proofs.Common.{◌≡◌, ℕ, ◌+◌, ◌-◌, ◌<◌, ◌≤◌, Bool, true, false, cond, ◌||◌, ◌&&◌, eqb, zero, suc, List, [], ◌∷◌, ◌++◌, Option, None, Some, map, length, get_or, set, take, drop, refl, sym, ap, ◌∙◌, subst, arith, ⊎_elim, ◌⊎◌, inl, inr, zero-add}
use Rattle.std.specs.Option.{option_map}
use Rattle.std.proofs.lemmas.List.{length-set, length-map, get_or-set_other, get_or-take, get_or-drop, drop-set-lt, drop-set-add, drop-map}
use Rattle.std.proofs.lemmas.Bool.{cases_eq, cases_lt, eqb-true}
use Rattle.tx_latch.specs.Asked.{Command, contains, meets, blocked, Distinct}
use Rattle.tx_latch.specs.Queues.{Link, minus, untaken, followers, ahead_of, last_in, is_number, commands, command_of, Chained, lowered_in, tally}
use Rattle.tx_latch.proofs.Lists.{or_none}
use Rattle.tx_latch.proofs.Links.{followers-skip, minus_keeps, minus_apart}
use Rattle.tx_latch.proofs.Last.{last_in-around}
use Rattle.tx_latch.proofs.Ahead.{ahead-around, Lacks-followers}
use Rattle.tx_latch.proofs.Places.{from_map, commands-map, split-at, split-none, blocked-position, Distinct-positions, link-get, some_same, eqb_apart}

pub untaken-skip : (slots : List ℕ) (mid : List Command) (p : Command) (xs : List Command) → meets slots p.slots ≡ false
    → untaken slots (mid ++ p ∷ xs) ≡ untaken slots (mid ++ xs)
untaken-skip slots [] p xs h = ap (λ t. untaken t xs) (minus_keeps slots p.slots h)
untaken-skip slots (m ∷ mid) p xs h = untaken-skip (minus slots m.slots) mid p xs (minus_apart slots m.slots p.slots h)

count_none : (x : ℕ) (xs : List ℕ) → contains x xs ≡ false → tally x xs ≡ 0
count_none x [] h = refl
count_none x (y ∷ ys) h = let two = or_none (eqb x y) (contains x ys) h in
    rw two.0 (zero-add (tally x ys) ∙ count_none x ys two.1)

count_step : (x y : ℕ) (ys : List ℕ) (b : Bool) → eqb x y ≡ b → contains y ys ≡ false
    → tally x ys ≡ cond (contains x ys) 1 0 → tally x (y ∷ ys) ≡ cond (eqb x y || contains x ys) 1 0
count_step x y ys true e h ih =
    let none : contains x ys ≡ false = ap (λ n. contains n ys) (eqb-true x y e) ∙ h in
    rw (e, count_none x ys none) refl
count_step x y ys false e h ih = rw e (zero-add (tally x ys) ∙ ih)

-- a number follows once at most
pub count-followers : (x : ℕ) (slots : List ℕ) (cs : List Command) → Distinct cs
    → tally x (followers slots cs) ≡ cond (contains x (followers slots cs)) 1 0
count-followers x slots [] d = refl
count-followers x slots (c ∷ cs) d =
    let ih = count-followers x (minus slots c.slots) cs d.1 in
    elim (meets slots c.slots) as (λ b. tally x
    (cond b (c.cid ∷ followers (minus slots c.slots) cs) (followers (minus slots c.slots) cs))
    ≡ cond (contains x (cond b (c.cid ∷ followers (minus slots c.slots) cs) (followers (minus slots c.slots) cs))) 1
    0) [
      | true ↦ count_step x c.cid (followers (minus slots c.slots) cs) (eqb x c.cid) refl
          (Lacks-followers c.cid (minus slots c.slots) cs d.0) ih
      | false ↦ ih
    ]

set-none : (ls : List (Option Link)) (i : ℕ) → get_or (set ls i None) i None ≡ None
set-none [] zero = refl
set-none [] (suc i) = refl
set-none (o ∷ ls) zero = refl
set-none (o ∷ ls) (suc i) = set-none ls i

some_none : (l : Link) → (let x : Option Link = Some l in x) ≡ None → ⊥
some_none l h = cc

none_some : (k : ℕ) → (let x : Option ℕ = None in x) ≡ Some k → ⊥
none_some k h = cc

pub left_some : (b : Bool) (o : Option ℕ) (k : ℕ) → cond b None o ≡ Some k → o ≡ Some k
left_some true o k h = absurd (none_some k h)
left_some false o k h = h

Distinct-behind : (bs : List Command) (p : Command) (xs : List Command) → Distinct (bs ++ p ∷ xs) → Distinct xs
Distinct-behind [] p xs d = d.1
Distinct-behind (b ∷ bs) p xs d = Distinct-behind bs p xs d.1

ahead_step : (a n t c r : ℕ) → a ≡ t → t ≡ c + r → n ≡ c → a - n ≡ r
ahead_step a n t c r e f g = omega arith

kept_room : (mb lb mf lf : List ℕ) (room wide : ℕ) → mb ≡ lb → mf ≡ lf → length lb + length lf ≤ room → room ≤ wide
    → length mb + length mf ≤ wide
kept_room mb lb mf lf room wide e f h w =
    let one : length mb ≡ length lb = ap length e in
    let two : length mf ≡ length lf = ap length f in
    omega arith

-- the positions once one is empty and the others are lowered
pub leave-cases : (ls : List (Option Link)) (g : Link → Link) (i k : ℕ) (m : Link)
    → get_or (map (option_map g) (set ls i None)) k None ≡ Some m
    → (l : Link) × (k ≡ i → ⊥) × (get_or ls k None ≡ Some l) × (m ≡ g l)
leave-cases ls g i k m h =
    let r = from_map g (get_or (set ls i None) k None) m (sym (link-get g (set ls i None) k) ∙ h) in
    ⊎_elim
    (λ e. absurd (let none : get_or (set ls i None) i None ≡ None = set-none ls i in
    let some : get_or (set ls i None) i None ≡ Some r.0 = ap (λ n. get_or (set ls i None) n None) (sym e) ∙ r.1 in
    some_none r.0 (sym some ∙ none)))
    (λ n. (r.0, n, sym (get_or-set_other ls i k None None n) ∙ r.1, r.2))
    (cases_eq k i)

-- what stands behind another position, without the one that left
pub behind-left : (ls : List (Option Link)) (i k : ℕ) (p : Link) → get_or ls i None ≡ Some p → (k ≡ i → ⊥)
    → (k < i × ((mid xs : List Command) × (commands (drop (suc k) ls) ≡ mid ++ command_of p ∷ xs)
    × (commands (drop (suc k) (set ls i None)) ≡ mid ++ xs)))
    ⊎ (commands (drop (suc k) (set ls i None)) ≡ commands (drop (suc k) ls))
behind-left ls i k p h n =
    ⊎_elim
    (λ lt.
    let j : ℕ = i - suc k in
    let rest : List (Option Link) = drop (suc k) ls in
    let sum : suc k + j ≡ i = omega arith in
    let at : get_or rest j None ≡ Some p = get_or-drop (suc k) ls j None ∙ ap (λ t. get_or ls t None) sum ∙ h in
    let gone : drop (suc k) (set ls i None) ≡ set rest j None =
    ap (λ t. drop (suc k) (set ls t None)) (sym sum) ∙ drop-set-add (suc k) ls j None in
    inl (
      lt,
      (
        commands (take j rest),
        commands (drop (suc j) rest),
        split-at rest j p at,
        ap commands gone
            ∙ split-none rest j,
      ),
    ))
    (λ le. inr (ap commands (drop-set-lt (suc k) ls i None (omega arith))))
    (cases_lt k i)

-- what is true of the positions once a granted command has left
pub leaves : (ls : List (Option Link)) (at at' last last' : ℕ → Option ℕ) (room wide : ℕ → ℕ) (i : ℕ) (p : Link)
    → Chained ls at last room → get_or ls i None ≡ Some p → blocked (commands (take i ls)) (command_of p) ≡ false
    → ((c : ℕ) → at' c ≡ cond (eqb p.cid c) None (at c))
    → ((s : ℕ) → s < 256 → last' s ≡ cond (contains s p.slots && is_number p.cid (last s)) None (last s))
    → ((k : ℕ) → (k ≡ i → ⊥) → room k ≤ wide k)
    → Chained (map (option_map (lowered_in p.behind)) (set ls i None)) at' last' wide
leaves ls at at' last last' room wide i p old here free left lasts wider =
    let g : Link → Link = lowered_in p.behind in
    let keeps : (l : Link) → command_of (g l) ≡ command_of l = λ l. refl in
    let bs : List Command = commands (take i ls) in
    let xs : List Command = commands (drop (suc i) ls) in
    let whole : commands ls ≡ bs ++ command_of p ∷ xs = split-at ls i p here in
    let all : commands (map (option_map g) (set ls i None)) ≡ bs ++ xs =
    commands-map g keeps (set ls i None) ∙ split-none ls i in
    let distinct : Distinct (commands ls) = Distinct-positions ls at (λ k. k) (λ a b e. e) old.listed in
    let apart : (k : ℕ) (l : Link) → (k ≡ i → ⊥) → get_or ls k None ≡ Some l → eqb p.cid l.cid ≡ false =
    λ k l n e. eqb_apart p.cid l.cid
    (λ same. n (some_same k i (sym (old.listed k l e) ∙ ap at (sym same) ∙ old.listed i p here))) in
    let later : (k : ℕ) (l : Link)
    → commands (drop (suc k) (map (option_map g) (set ls i None))) ≡ commands (drop (suc k) (set ls i None)) =
    λ k l. ap commands (drop-map (option_map g) (suc k) (set ls i None))
    ∙ commands-map g keeps (drop (suc k) (set ls i None)) in
    let apart-before : (k : ℕ) (l : Link) → k < i → get_or ls k None ≡ Some l → meets l.slots p.slots ≡ false =
    λ k l lt e. blocked-position (take i ls) (command_of p) k l free (get_or-take i ls k None lt ∙ e) in
    record {
      listed = λ k m e. (let r = leave-cases ls g i k m e in
          ap (λ (y : Link). at' y.cid) r.3 ∙ left r.0.cid ∙ ap (λ b. cond b None (at r.0.cid)) (apart k r.0 r.1 r.2)
          ∙ old.listed k r.0 r.2);
      found = λ c k m a e. (let r = leave-cases ls g i k m e in
          ap (λ (y : Link). y.cid) r.3 ∙ old.found c k r.0 (left_some (eqb p.cid c) (at c) k (sym (left c) ∙ a)) r.2);
      within = λ c k a. (let lt : k < length ls =
          old.within c k (left_some (eqb p.cid c) (at c) k (sym (left c) ∙ a)) in
          let same : length (map (option_map g) (set ls i None)) ≡ length ls =
          length-map (set ls i None) (option_map g) ∙ length-set ls i None in
          omega arith);
      behind = λ k m e. (let r = leave-cases ls g i k m e in
          ap (λ (y : Link). y.behind) r.3 ∙ old.behind k r.0 r.2
          ∙ ⊎_elim
          (λ q. ap (followers r.0.slots) q.1.2
          ∙ followers-skip r.0.slots q.1.0 (command_of p) q.1.1 (apart-before k r.0 q.0 r.2)
          ∙ sym (ap (followers r.0.slots) (later k r.0 ∙ q.1.3)))
          (λ q. sym (ap (followers r.0.slots) (later k r.0 ∙ q)))
          (behind-left ls i k p here r.1)
          ∙ sym (ap (λ (y : Link). followers y.slots (commands (drop (suc k) (map (option_map g) (set ls i None)))))
          r.3));
      ahead = λ k m e. (let r = leave-cases ls g i k m e in
          ap (λ (y : Link). y.ahead) r.3
          ∙ ahead_step r.0.ahead (tally r.0.cid p.behind) (ahead_of r.0.cid (commands ls))
          (cond (contains r.0.cid (followers p.slots xs)) 1 0) (ahead_of r.0.cid (bs ++ xs))
          (old.ahead k r.0 r.2)
          (ap (ahead_of r.0.cid) whole ∙ ahead-around r.0.cid bs (command_of p) xs free)
          (ap (tally r.0.cid) (old.behind i p here)
          ∙ count-followers r.0.cid p.slots xs
          (Distinct-behind bs (command_of p) xs (subst Distinct whole distinct)))
          ∙ sym (ap (λ (y : Link). ahead_of y.cid (commands (map (option_map g) (set ls i None)))) r.3
          ∙ ap (ahead_of r.0.cid) all));
      last_is = λ s lt.
          lasts s lt ∙ ap (λ o. cond (contains s p.slots && is_number p.cid o) None o) (old.last_is s lt
          ∙ ap (λ t. last_in t s) whole)
          ∙ sym (ap (λ t. last_in t s) all
          ∙ last_in-around bs (command_of p) xs s (subst Distinct whole distinct) free);
      room_is = λ k m e. (let r = leave-cases ls g i k m e in
          let same : untaken m.slots (commands (drop (suc k) (map (option_map g) (set ls i None))))
          ≡ untaken r.0.slots (commands (drop (suc k) ls)) =
          ap (λ (y : Link). untaken y.slots (commands (drop (suc k) (map (option_map g) (set ls i None))))) r.3
          ∙ ⊎_elim
          (λ q. ap (untaken r.0.slots) (later k r.0 ∙ q.1.3)
          ∙ sym (ap (untaken r.0.slots) q.1.2
          ∙ untaken-skip r.0.slots q.1.0 (command_of p) q.1.1 (apart-before k r.0 q.0 r.2)))
          (λ q. ap (untaken r.0.slots) (later k r.0 ∙ q))
          (behind-left ls i k p here r.1) in
          kept_room m.behind r.0.behind (untaken m.slots (commands (drop (suc k) (map (option_map g) (set ls i None)))))
          (untaken r.0.slots (commands (drop (suc k) ls))) (room k) (wide k)
          (ap (λ (y : Link). y.behind) r.3) same (old.room_is k r.0 r.2) (wider k r.1));
    }
