-- Changes of one position, of all positions, and of the end of the list of positions.
use Rattle.std.proofs.Common.{◌≡◌, ℕ, ◌<◌, false, cond, eqb, zero, suc, List, [], ◌∷◌, ◌++◌, Option, None, Some, map, length, get_or, set, take, drop, refl, sym, ap, ◌∙◌, subst, arith, ⊎_elim}
use Rattle.std.specs.Option.{option_map}
use Rattle.std.proofs.lemmas.List.{map-set, get_or_read}
use Rattle.std.proofs.lemmas.Bool.{eq-eqb}
use Rattle.tx_latch.specs.Asked.{Command, contains, meets, cids, blocked, Lacks, Distinct}
use Rattle.tx_latch.specs.Queues.{Link, link_of, links, commands, at_position, command_of, HasRoom, room_of}
use Rattle.tx_latch.specs.declared.queues.QueueEntry.{QueueEntry}
use Rattle.std.proofs.lemmas.Bool.Decides.{eqb_tells}
use Rattle.tx_latch.proofs.Lists.{or_none}

-- what is read at a position of the links
pub link-get : {X Y : Type 0} (f : X → Y) (xs : List (Option X)) (i : ℕ)
    → get_or (map (option_map f) xs) i None ≡ option_map f (get_or xs i None)
link-get f [] i = refl
link-get f (x ∷ xs) zero = refl
link-get f (x ∷ xs) (suc i) = link-get f xs i

-- a change of one entry changes one link
pub links-set : (asked : List (Option QueueEntry)) (i : ℕ) (v : Option QueueEntry) (f : Link → Link)
    → option_map link_of v ≡ option_map f (option_map link_of (get_or asked i None))
    → links (set asked i v) ≡ at_position (Some i) f (links asked)
links-set asked i v f e =
    map-set (option_map link_of) asked i v
    ∙ ap (set (links asked) i) (e ∙ ap (option_map f) (sym (link-get link_of asked i)))

pub links-write : (asked : List (Option QueueEntry)) (i : ℕ) (v w : Option QueueEntry) (f : Link → Link)
    → i < length asked → w ≡ get_or asked i w → option_map link_of v ≡ option_map f (option_map link_of w)
    → links (set asked i v) ≡ at_position (Some i) f (links asked)
links-write asked i v w f lt e h =
    links-set asked i v f (h ∙ ap (λ o. option_map f (option_map link_of o)) (get_or_read asked i w lt e None))

pub some_same : (a b : ℕ) → (let x : Option ℕ = Some a in x) ≡ Some b → a ≡ b
some_same a b h = cc

pub none_apart : (k : ℕ) → (let x : Option ℕ = None in x) ≡ Some k → ⊥
none_apart k h = cc

pub suc_same : (a b : ℕ) → suc a ≡ suc b → a ≡ b
suc_same a b h = omega arith

apart_zero : (k : ℕ) → 0 ≡ suc k → ⊥
apart_zero k h = omega arith

-- two numbers that are not the same
pub eqb_apart : (a b : ℕ) → (a ≡ b → ⊥) → eqb a b ≡ false
eqb_apart a b h = ⊎_elim (λ t. absurd (h t.1)) (λ t. t.0) (eqb_tells a b)

-- what a mapped position comes from
pub from_map : (g : Link → Link) (o : Option Link) (m : Link) → option_map g o ≡ Some m
    → (l : Link) × (o ≡ Some l) × (m ≡ g l)
from_map g None m h = absurd (cc)
from_map g (Some l) m h = (l, refl, cc)

pub commands-map : (g : Link → Link) → ((l : Link) → command_of (g l) ≡ command_of l) → (ls : List (Option Link))
    → commands (map (option_map g) ls) ≡ commands ls
commands-map g h [] = refl
commands-map g h (None ∷ ls) = commands-map g h ls
commands-map g h (Some l ∷ ls) = rw (h l, commands-map g h ls) refl

pub commands-append : (xs ys : List (Option Link)) → commands (xs ++ ys) ≡ commands xs ++ commands ys
commands-append [] ys = refl
commands-append (None ∷ xs) ys = commands-append xs ys
commands-append (Some l ∷ xs) ys = ap (λ t. command_of l ∷ t) (commands-append xs ys)

-- the list around one position
pub split-at : (ls : List (Option Link)) (i : ℕ) (l : Link) → get_or ls i None ≡ Some l
    → commands ls ≡ commands (take i ls) ++ command_of l ∷ commands (drop (suc i) ls)
split-at [] i l h = absurd (cc)
split-at (o ∷ ls) zero l h = ap (λ p. commands (p ∷ ls)) h
split-at (None ∷ ls) (suc i) l h = split-at ls i l h
split-at (Some x ∷ ls) (suc i) l h = ap (λ t. command_of x ∷ t) (split-at ls i l h)

-- the list without one position
pub split-none : (ls : List (Option Link)) (i : ℕ)
    → commands (set ls i None) ≡ commands (take i ls) ++ commands (drop (suc i) ls)
split-none [] zero = refl
split-none [] (suc i) = refl
split-none (o ∷ ls) zero = refl
split-none (None ∷ ls) (suc i) = split-none ls i
split-none (Some x ∷ ls) (suc i) = ap (λ t. command_of x ∷ t) (split-none ls i)

pub blocked-position : (ls : List (Option Link)) (p : Command) (k : ℕ) (l : Link) → blocked (commands ls) p ≡ false
    → get_or ls k None ≡ Some l → meets l.slots p.slots ≡ false
blocked-position [] p k l h e = absurd (cc)
blocked-position (None ∷ ls) p zero l h e = absurd (cc)
blocked-position (None ∷ ls) p (suc k) l h e = blocked-position ls p k l h e
blocked-position (Some x ∷ ls) p zero l h e = let same : x ≡ l = cc in
    subst (λ (y : Link). meets y.slots p.slots
    ≡ false) same (or_none (meets x.slots p.slots) (blocked (commands ls) p) h).0
blocked-position (Some x ∷ ls) p (suc k) l h e =
    blocked-position ls p k l (or_none (meets x.slots p.slots) (blocked (commands ls) p) h).1 e

pub Lacks-position : (ls : List (Option Link)) (c k : ℕ) (l : Link) → Lacks c (commands ls) → get_or ls k None ≡ Some l
    → eqb c l.cid ≡ false
Lacks-position [] c k l h e = absurd (cc)
Lacks-position (None ∷ ls) c zero l h e = absurd (cc)
Lacks-position (None ∷ ls) c (suc k) l h e = Lacks-position ls c k l h e
Lacks-position (Some x ∷ ls) c zero l h e = let same : x ≡ l = cc in
    subst (λ (y : Link). eqb c y.cid ≡ false) same (or_none (eqb c x.cid) (contains c (cids (commands ls))) h).0
Lacks-position (Some x ∷ ls) c (suc k) l h e =
    Lacks-position ls c k l (or_none (eqb c x.cid) (contains c (cids (commands ls))) h).1 e

pub Lacks-positions : (ls : List (Option Link)) (c : ℕ)
    → ((k : ℕ) (l : Link) → get_or ls k None ≡ Some l → eqb c l.cid ≡ false) → Lacks c (commands ls)
Lacks-positions [] c h = refl
Lacks-positions (None ∷ ls) c h = Lacks-positions ls c (λ k. h (suc k))
Lacks-positions (Some x ∷ ls) c h = rw (h 0 x refl) (Lacks-positions ls c (λ k. h (suc k)))

pub Distinct-positions : (ls : List (Option Link)) (at : ℕ → Option ℕ) (f : ℕ → ℕ) → ((a b : ℕ) → f a ≡ f b → a ≡ b)
    → ((k : ℕ) (l : Link) → get_or ls k None ≡ Some l → at l.cid ≡ Some (f k)) → Distinct (commands ls)
Distinct-positions [] at f inj h = tt
Distinct-positions (None ∷ ls) at f inj h =
    Distinct-positions ls at (λ k. f (suc k)) (λ a b e. suc_same a b (inj (suc a) (suc b) e)) (λ k. h (suc k))
Distinct-positions (Some x ∷ ls) at f inj h = (
  Lacks-positions ls x.cid
      (λ k l e. eqb_apart x.cid l.cid
      (λ same. apart_zero k
      (inj 0 (suc k) (some_same (f 0) (f (suc k)) (sym (h 0 x refl) ∙ ap at same ∙ h (suc k) l e))))),
  Distinct-positions ls at (λ k. f (suc k)) (λ a b e. suc_same a b (inj (suc a) (suc b) e)) (λ k. h (suc k)),
)

-- the room of a position that was read
pub room-read : (cid : ℕ) (asked : List (Option QueueEntry)) (i : ℕ) (w : Option QueueEntry) → i < length asked
    → w ≡ get_or asked i w → HasRoom cid (get_or (links asked) i None) (room_of (get_or asked i None))
    → HasRoom cid (option_map link_of w) (room_of w)
room-read cid asked i w lt e h =
    let is : w ≡ get_or asked i None = get_or_read asked i w lt e None in
    subst (λ o. HasRoom cid (option_map link_of o) (room_of o)) (sym is)
    (subst (λ o. HasRoom cid o (room_of (get_or asked i None))) (link-get link_of asked i) h)

-- two maps that agree at each position
pub map-agree : (f g : Link → Link) (ls : List (Option Link))
    → ((k : ℕ) (l : Link) → get_or ls k None ≡ Some l → f l ≡ g l) → map (option_map f) ls ≡ map (option_map g) ls
map-agree f g [] h = refl
map-agree f g (None ∷ ls) h = ap (λ t. None ∷ t) (map-agree f g ls (λ k. h (suc k)))
map-agree f g (Some l ∷ ls) h = rw (h 0 l refl, map-agree f g ls (λ k. h (suc k))) refl

-- a further change of the one link that has a number, by its position
pub set-agree : (f g h : Link → Link) (ls : List (Option Link)) (i : ℕ)
    → ((k : ℕ) (l : Link) → (k ≡ i → ⊥) → get_or ls k None ≡ Some l → f l ≡ g l)
    → ((l : Link) → get_or ls i None ≡ Some l → h (f l) ≡ g l)
    → set (map (option_map f) ls) i (option_map h (get_or (map (option_map f) ls) i None)) ≡ map (option_map g) ls
set-agree f g h [] zero other at = refl
set-agree f g h [] (suc i) other at = refl
set-agree f g h (None ∷ ls) zero other at =
    ap (λ t. None ∷ t) (map-agree f g ls (λ k l. other (suc k) l (λ e. apart_zero k (sym e))))
set-agree f g h (Some x ∷ ls) zero other at =
    rw (at x refl, map-agree f g ls (λ k l. other (suc k) l (λ e. apart_zero k (sym e)))) refl
set-agree f g h (None ∷ ls) (suc i) other at =
    ap (λ t. None ∷ t) (set-agree f g h ls i (λ k l n. other (suc k) l (λ e. n (suc_same k i e))) at)
set-agree f g h (Some x ∷ ls) (suc i) other at =
    rw (
      other 0 x (apart_zero i) refl,
      set-agree f g h ls i (λ k l n. other (suc k) l (λ e. n (suc_same k i e))) at,
    ) refl

at_place_step : (o : Option ℕ) (ls : List (Option Link)) (at : ℕ → Option ℕ)
    → ((i : ℕ) (l : Link) → get_or ls i None ≡ Some l → at l.cid ≡ Some i)
    → ((c i : ℕ) (l : Link) → at c ≡ Some i → get_or ls i None ≡ Some l → l.cid ≡ c)
    → (x : ℕ) (f h g : Link → Link)
    → ((k : ℕ) (l : Link) → get_or ls k None ≡ Some l → g l ≡ cond (eqb x l.cid) (h (f l)) (f l)) → at x ≡ o
    → at_position o h (map (option_map f) ls) ≡ map (option_map g) ls
at_place_step None ls at listed found x f h g is e =
    map-agree f g ls (λ k l t. sym (is k l t
    ∙ ap (λ b. cond b (h (f l)) (f l))
    (eqb_apart x l.cid (λ same. none_apart k (sym e ∙ ap at same ∙ listed k l t)))))
at_place_step (Some i) ls at listed found x f h g is e =
    set-agree f g h ls i
    (λ k l n t. sym (is k l t
    ∙ ap (λ b. cond b (h (f l)) (f l))
    (eqb_apart x l.cid (λ same. n (some_same k i (sym (sym e ∙ ap at same ∙ listed k l t)))))))
    (λ l t. sym (is i l t ∙ ap (λ b. cond b (h (f l)) (f l)) (eq-eqb x l.cid (sym (found x i l e t)))))

-- a change of the link that has a number, where all were changed before
pub at_position-map : (ls : List (Option Link)) (at : ℕ → Option ℕ)
    → ((i : ℕ) (l : Link) → get_or ls i None ≡ Some l → at l.cid ≡ Some i)
    → ((c i : ℕ) (l : Link) → at c ≡ Some i → get_or ls i None ≡ Some l → l.cid ≡ c)
    → (x : ℕ) (f h g : Link → Link)
    → ((k : ℕ) (l : Link) → get_or ls k None ≡ Some l → g l ≡ cond (eqb x l.cid) (h (f l)) (f l))
    → at_position (at x) h (map (option_map f) ls) ≡ map (option_map g) ls
at_position-map ls at listed found x f h g is = at_place_step (at x) ls at listed found x f h g is refl
