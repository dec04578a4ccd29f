-- What the positions tell of the list that was asked.
use Rattle.std.proofs.Common.{◌≡◌, ℕ, ◌+◌, ◌-◌, ◌<◌, Bool, true, false, cond, not, ◌||◌, eqb, zero, suc, List, [], ◌∷◌, ◌++◌, Option, None, Some, map, get_or, take, drop, refl, sym, ap, ◌∙◌, subst, arith}
use Rattle.std.specs.Option.{option_map, is_some}
use Rattle.tx_latch.specs.Asked.{Command, contains, cids, is_asked, is_granted, blocked, Distinct}
use Rattle.tx_latch.specs.Queues.{Link, commands, command_of, Chained, Placed, at_position, lowered, lowered_in, tally, has_none_before, ahead_of, links, room_at, last_in}
use Rattle.tx_latch.specs.declared.queues.QueueEntry.{QueueEntry}
use Rattle.tx_latch.proofs.Lists.{eqb_self, same_eqb}
use Rattle.tx_latch.proofs.Granted.{Lacks-granted}
use Rattle.tx_latch.proofs.Ahead.{ahead_tells, is_granted_at}
use Rattle.tx_latch.proofs.Places.{split-at, Lacks-positions, Distinct-positions, none_apart, eqb_apart, at_position-map}
use Rattle.std.proofs.lemmas.Bool.{eqb-true}

pub true_false : true ≡ false → ⊥
true_false h = cc

pub or_true : (a : Bool) → (a || true) ≡ true
or_true true = refl
or_true false = refl

not_true : (a : Bool) → not a ≡ true → a ≡ false
not_true true h = absurd (true_false (sym h))
not_true false h = refl

find_step : (x : Link) (ls : List (Option Link)) (c : ℕ) (b : Bool) → eqb c x.cid ≡ b
    → (b || contains c (cids (commands ls))) ≡ true
    → (contains c (cids (commands ls)) ≡ true → (i : ℕ) × ((l : Link) × (get_or ls i None ≡ Some l) × (l.cid ≡ c)))
    → (i : ℕ) × ((l : Link) × (get_or (Some x ∷ ls) i None ≡ Some l) × (l.cid ≡ c))
find_step x ls c true e h f = (0, (x, refl, sym (eqb-true c x.cid e)))
find_step x ls c false e h f = let r = f h in (suc r.0, r.1)

-- a number that stands in the list has a position there
pub find-position : (ls : List (Option Link)) (c : ℕ) → contains c (cids (commands ls)) ≡ true
    → (i : ℕ) × ((l : Link) × (get_or ls i None ≡ Some l) × (l.cid ≡ c))
find-position [] c h = absurd (true_false (sym h))
find-position (None ∷ ls) c h = let r = find-position ls c h in (suc r.0, r.1)
find-position (Some x ∷ ls) c h = find_step x ls c (eqb c x.cid) refl h (λ k. find-position ls c k)

pub contains-position : (ls : List (Option Link)) (i : ℕ) (l : Link) → get_or ls i None ≡ Some l
    → contains l.cid (cids (commands ls)) ≡ true
contains-position [] i l h = absurd (cc)
contains-position (None ∷ ls) zero l h = absurd (cc)
contains-position (None ∷ ls) (suc i) l h = contains-position ls i l h
contains-position (Some x ∷ ls) zero l h = let same : x ≡ l = cc in rw (same, eqb_self l.cid) refl
contains-position (Some x ∷ ls) (suc i) l h = rw (contains-position ls i l h) (or_true (eqb l.cid x.cid))

asked_found : (ls : List (Option Link)) (at : ℕ → Option ℕ) (c i : ℕ) (o : Option Link) → get_or ls i None ≡ o
    → Placed ls at → is_some (get_or ls i None) ≡ true → at c ≡ Some i → true ≡ is_asked (commands ls) c
asked_found ls at c i None g p s e = absurd (true_false (sym s ∙ ap is_some g))
asked_found ls at c i (Some l) g p s e = sym (contains-position ls i l g) ∙ ap (is_asked (commands ls)) (p.1 c i l e g)

asked_step : (ls : List (Option Link)) (at : ℕ → Option ℕ) (c : ℕ) (o : Option ℕ) → Placed ls at
    → ((c i : ℕ) → at c ≡ Some i → is_some (get_or ls i None) ≡ true) → at c ≡ o → is_some o ≡ is_asked (commands ls) c
asked_step ls at c None p stands e =
    sym (Lacks-positions ls c (λ k l h. eqb_apart c l.cid (λ same. none_apart k (sym e ∙ ap at same ∙ p.0 k l h))))
asked_step ls at c (Some i) p stands e = asked_found ls at c i (get_or ls i None) refl p (stands c i e) e

-- a number that has a position was asked
pub asked-read : (ls : List (Option Link)) (at : ℕ → Option ℕ) (c : ℕ) → Placed ls at
    → ((c i : ℕ) → at c ≡ Some i → is_some (get_or ls i None) ≡ true) → is_some (at c) ≡ is_asked (commands ls) c
asked-read ls at c p stands = asked_step ls at c (at c) p stands refl

-- a command with none before it is granted
pub granted-read : (ls : List (Option Link)) (at last : ℕ → Option ℕ) (room : ℕ → ℕ) (c i : ℕ) (l : Link)
    → Chained ls at last room → at c ≡ Some i → get_or ls i None ≡ Some l
    → has_none_before (Some l) ≡ is_granted (commands ls) c
granted-read ls at last room c i l old e h =
    let whole = split-at ls i l h in
    let distinct : Distinct (commands ls) = Distinct-positions ls at (λ k. k) (λ a b e. e) old.listed in
    ap (λ n. eqb n 0) (old.ahead i l h ∙ ap (ahead_of l.cid) whole)
    ∙ ahead_tells (commands (take i ls)) (command_of l) (commands (drop (suc i) ls)) (subst Distinct whole distinct)
    ∙ ap (λ t. is_granted t l.cid) (sym whole) ∙ ap (is_granted (commands ls)) (old.found c i l e h)

pub granted-none : (ls : List (Option Link)) (at : ℕ → Option ℕ) (c : ℕ) → Placed ls at → at c ≡ None
    → false ≡ is_granted (commands ls) c
granted-none ls at c p e =
    sym (Lacks-granted c (commands ls)
    (Lacks-positions ls c (λ k l h. eqb_apart c l.cid (λ same. none_apart k (sym e ∙ ap at same ∙ p.0 k l h)))))

granted_asked : (cs : List Command) (c : ℕ) (b : Bool) → contains c (cids cs) ≡ b → is_granted cs c ≡ true
    → contains c (cids cs) ≡ true
granted_asked cs c true e g = e
granted_asked cs c false e g = absurd (true_false (sym g ∙ Lacks-granted c cs e))

-- a granted command has a position, and nobody before it shares a slot
pub granted-position : (ls : List (Option Link)) (at last : ℕ → Option ℕ) (room : ℕ → ℕ) (c : ℕ)
    → Chained ls at last room → is_granted (commands ls) c ≡ true
    → (i : ℕ) × ((l : Link) × (get_or ls i None ≡ Some l) × (l.cid ≡ c) × (at c ≡ Some i)
    × (blocked (commands (take i ls)) (command_of l) ≡ false))
granted-position ls at last room c old g =
    let r = find-position ls c (granted_asked (commands ls) c (contains c (cids (commands ls))) refl g) in
    let whole = split-at ls r.0 r.1.0 r.1.1 in
    let distinct : Distinct (commands ls) = Distinct-positions ls at (λ k. k) (λ a b e. e) old.listed in
    let free : not (blocked (commands (take r.0 ls)) (command_of r.1.0)) ≡ true =
    sym (is_granted_at (commands (take r.0 ls)) (command_of r.1.0) (commands (drop (suc r.0) ls))
    (subst Distinct whole distinct))
    ∙ ap (λ t. is_granted t r.1.0.cid) (sym whole) ∙ ap (is_granted (commands ls)) r.1.2 ∙ g in (
      r.0,
      (
        r.1.0,
        r.1.1,
        r.1.2,
        ap at (sym r.1.2) ∙ old.listed r.0 r.1.0 r.1.1,
        not_true (blocked (commands (take r.0 ls)) (command_of r.1.0)) free,
      ),
    )

sums : (a b n : ℕ) → a + (b + n) ≡ b + (a + n)
sums a b n = omega arith

abbrev lowered_by : Link → ℕ → Link
lowered_by l n = record l { ahead = l.ahead - n }

lower_cases : (l : Link) (b : Bool) (n : ℕ)
    → lowered_by l (cond b 1 0 + n) ≡ cond b (lowered (lowered_by l n)) (lowered_by l n)
lower_cases l true n = let e : l.ahead - (1 + n) ≡ l.ahead - n - 1 = omega arith in ap (λ k. record l { ahead = k }) e
lower_cases l false n = let e : l.ahead - (0 + n) ≡ l.ahead - n = omega arith in ap (λ k. record l { ahead = k }) e

pub lower-none : (ls : List (Option Link)) → map (option_map (lowered_in [])) ls ≡ ls
lower-none [] = refl
lower-none (None ∷ ls) = ap (λ t. None ∷ t) (lower-none ls)
lower-none (Some l ∷ ls) = let n : l.ahead - 0 ≡ l.ahead = omega arith in rw (n, lower-none ls) refl

tally-push : (x : ℕ) (ks : List ℕ) (y : ℕ) → tally x (ks ++ y ∷ []) ≡ cond (eqb x y) 1 0 + tally x ks
tally-push x [] y = refl
tally-push x (k ∷ ks) y = let ih : tally x (ks ++ y ∷ []) ≡ cond (eqb x y) 1 0 + tally x ks = tally-push x ks y in
    rw ih (sums (cond (eqb x k) 1 0) (cond (eqb x y) 1 0) (tally x ks))

-- one more is lowered
pub lower-step : (ls : List (Option Link)) (at : ℕ → Option ℕ) → Placed ls at → (ks : List ℕ) (x : ℕ)
    → at_position (at x) lowered (map (option_map (lowered_in ks)) ls) ≡ map (option_map (lowered_in (ks ++ x ∷ []))) ls
lower-step ls at p ks x = at_position-map ls at p.0 p.1 x (lowered_in ks) lowered (lowered_in (ks ++ x ∷ []))
    (λ k l h. ap (λ n. lowered_by l n) (tally-push l.cid ks x
    ∙ ap (λ b. cond b 1 0 + tally l.cid ks) (same_eqb l.cid x)) ∙ lower_cases l (eqb x l.cid) (tally l.cid ks))

some_none : (l : Link) → (let x : Option Link = Some l in x) ≡ None → ⊥
some_none l h = cc

-- where there is no position, all holds
pub nothing-kept : (asked : List (Option QueueEntry)) (at last : ℕ → Option ℕ) → asked ≡ [] → ((c : ℕ) → at c ≡ None)
    → ((s : ℕ) → s < 256 → last s ≡ None)
    → Chained (links asked) at last (room_at asked)
    × ((c i : ℕ) → at c ≡ Some i → is_some (get_or (links asked) i None) ≡ true)
nothing-kept asked at last e none free =
    let no : (i : ℕ) → get_or (links asked) i None ≡ None = λ i. ap (λ t. get_or (links t) i None) e in
    let not-there : (i : ℕ) (l : Link) → get_or (links asked) i None ≡ Some l → ⊥ =
    λ i l h. some_none l (sym h ∙ no i) in
    let not-at : (c i : ℕ) → at c ≡ Some i → ⊥ = λ c i h. none_apart i (sym (none c) ∙ h) in (
      record {
        listed = λ i l h. absurd (not-there i l h);
        found = λ c i l h k. absurd (not-at c i h);
        within = λ c i h. absurd (not-at c i h);
        behind = λ i l h. absurd (not-there i l h);
        ahead = λ i l h. absurd (not-there i l h);
        last_is = λ s lt. free s lt ∙ sym (ap (λ t. last_in (commands (links t)) s) e);
        room_is = λ i l h. absurd (not-there i l h);
      },
      λ c i h. absurd (not-at c i h),
    )

granted_read_step : (ls : List (Option Link)) (at last : ℕ → Option ℕ) (room : ℕ → ℕ) (c i : ℕ) (o : Option Link)
    → get_or ls i None ≡ o → Chained ls at last room → at c ≡ Some i → is_some (get_or ls i None) ≡ true
    → has_none_before o ≡ is_granted (commands ls) c
granted_read_step ls at last room c i None g old e s = absurd (true_false (sym s ∙ ap is_some g))
granted_read_step ls at last room c i (Some l) g old e s = granted-read ls at last room c i l old e g

pub granted-read-at : (ls : List (Option Link)) (at last : ℕ → Option ℕ) (room : ℕ → ℕ) (c i : ℕ)
    → Chained ls at last room → at c ≡ Some i → is_some (get_or ls i None) ≡ true
    → has_none_before (get_or ls i None) ≡ is_granted (commands ls) c
granted-read-at ls at last room c i old e s = granted_read_step ls at last room c i (get_or ls i None) refl old e s
