-- What holds of the queues after a command joined them.
use Rattle.std.proofs.Common.{◌≡◌, ℕ, ◌+◌, ◌<◌, ◌≤◌, Bool, true, false, cond, not, ◌||◌, eqb, zero, suc, List, [], ◌∷◌, ◌++◌, Option, None, Some, map, length, get_or, take, drop, refl, sym, ap, ◌∙◌, subst, arith, ⊎_elim, ◌⊎◌, inl, inr}
use Rattle.std.specs.Option.{option_map}
use Rattle.std.specs.List.{list_any}
use Rattle.std.proofs.lemmas.List.{length-append, append-nil, length-map}
use Rattle.tx_latch.specs.Asked.{Command, contains, meets, cids, Lacks, Distinct}
use Rattle.tx_latch.specs.Queues.{Link, minus, untaken, followers, ahead_of, last_in, is_number, commands, command_of, Chained, joined, count_links}
use Rattle.tx_latch.proofs.Lists.{or_none, same_eqb, meets_mutual, Each, Each_map}
use Rattle.tx_latch.proofs.Granted.{Lacks-both}
use Rattle.tx_latch.proofs.Links.{followers-push}
use Rattle.tx_latch.proofs.Last.{last_in-push, last_in-at}
use Rattle.tx_latch.proofs.Ahead.{directly, ahead-push, ahead_at}
use Rattle.tx_latch.proofs.Places.{from_map, commands-map, commands-append, split-at, Lacks-position, Distinct-positions}

-- a list that ends in an empty position
pub get-end : (ls : List (Option Link)) (i : ℕ) → get_or (ls ++ None ∷ []) i None ≡ get_or ls i None
get-end [] zero = refl
get-end [] (suc i) = refl
get-end (o ∷ ls) zero = refl
get-end (o ∷ ls) (suc i) = get-end ls i

drop_nil : (n : ℕ) → commands (drop n []) ≡ []
drop_nil zero = refl
drop_nil (suc n) = refl

pub drop-end : (n : ℕ) (ls : List (Option Link)) → commands (drop n (ls ++ None ∷ [])) ≡ commands (drop n ls)
drop-end zero ls = commands-append ls (None ∷ []) ∙ append-nil (commands ls)
drop-end (suc n) [] = drop_nil n
drop-end (suc n) (o ∷ ls) = drop-end n ls

-- the positions once one is added at the end
pub position-cases : (ls : List (Option Link)) (g : Link → Link) (n : Link) (i : ℕ) (m : Link)
    → get_or (map (option_map g) ls ++ Some n ∷ []) i None ≡ Some m
    → ((l : Link) × (i < length ls) × (get_or ls i None ≡ Some l) × (m ≡ g l)) ⊎ ((i ≡ length ls) × (m ≡ n))
position-cases [] g n zero m h = inr (refl, cc)
position-cases [] g n (suc i) m h = absurd (cc)
position-cases (o ∷ ls) g n zero m h = let r = from_map g o m h in inl (r.0, omega arith, r.1, r.2)
position-cases (o ∷ ls) g n (suc i) m h =
    ⊎_elim (λ r. inl (r.0, (let lt : i < length ls = r.1 in omega arith), r.2, r.3))
    (λ r. inr ((let e : i ≡ length ls = r.0 in omega arith), r.1)) (position-cases ls g n i m h)

pub drop-new : (g : Link → Link) → ((l : Link) → command_of (g l) ≡ command_of l)
    → (n : ℕ) (ls : List (Option Link)) (m : Link) → n ≤ length ls
    → commands (drop n (map (option_map g) ls ++ Some m ∷ [])) ≡ commands (drop n ls) ++ command_of m ∷ []
drop-new g k zero ls m h =
    commands-append (map (option_map g) ls) (Some m ∷ []) ∙ ap (λ t. t ++ command_of m ∷ []) (commands-map g k ls)
drop-new g k (suc n) [] m h = absurd (omega arith)
drop-new g k (suc n) (o ∷ ls) m h = drop-new g k n ls m (omega arith)

pub drop-past : (g : Link → Link) (ls : List (Option Link)) (m : Link)
    → commands (drop (suc (length ls)) (map (option_map g) ls ++ Some m ∷ [])) ≡ []
drop-past g [] m = refl
drop-past g (o ∷ ls) m = drop-past g ls m

-- one that joins
pub joined-command : (cid : ℕ) (last : ℕ → Option ℕ) (slots : List ℕ) (l : Link)
    → command_of (joined cid last slots l) ≡ command_of l
joined-command cid last slots l =
    elim (list_any (λ s. is_number l.cid (last s)) slots) as (λ b. command_of
    (cond b (record l { behind = l.behind ++ cid ∷ [] }) l) ≡ command_of l) [ true ↦ refl | false ↦ refl ]

pub joined-ahead : (cid : ℕ) (last : ℕ → Option ℕ) (slots : List ℕ) (l : Link)
    → (joined cid last slots l).ahead ≡ l.ahead
joined-ahead cid last slots l =
    elim (list_any (λ s. is_number l.cid (last s)) slots) as (λ b.
    (cond b (record l { behind = l.behind ++ cid ∷ [] }) l).ahead ≡ l.ahead) [ true ↦ refl | false ↦ refl ]

pub joined-behind : (cid : ℕ) (last : ℕ → Option ℕ) (slots : List ℕ) (l : Link)
    → (joined cid last slots l).behind ≡ l.behind ++ cond (list_any (λ s. is_number l.cid (last s)) slots) (cid ∷ []) []
joined-behind cid last slots l =
    elim (list_any (λ s. is_number l.cid (last s)) slots) as (λ b.
    (cond b (record l { behind = l.behind ++ cid ∷ [] }) l).behind ≡ l.behind ++ cond b (cid ∷ []) []) [
      | true ↦ refl
      | false ↦ sym (append-nil l.behind)
    ]

pub any_agree_each : {X : Type 0} (p q : X → Bool) (xs : List X) → Each (λ x. p x ≡ q x) xs
    → list_any p xs ≡ list_any q xs
any_agree_each p q [] h = refl
any_agree_each p q (x ∷ xs) h = rw (h.0, any_agree_each p q xs h.1) refl

pub count-directly : (f : Link → Bool) (c : Command) (ls : List (Option Link))
    → ((i : ℕ) (l : Link) → get_or ls i None ≡ Some l
    → f l ≡ meets (untaken l.slots (commands (drop (suc i) ls))) c.slots) → count_links f ls ≡ directly c (commands ls)
count-directly f c [] h = refl
count-directly f c (None ∷ ls) h = count-directly f c ls (λ i. h (suc i))
count-directly f c (Some x ∷ ls) h = rw (h 0 x refl, count-directly f c ls (λ i. h (suc i))) refl

pub Distinct-push : (cs : List Command) (c : Command) → Distinct cs → Lacks c.cid cs → Distinct (cs ++ c ∷ [])
Distinct-push [] c d h = (refl, tt)
Distinct-push (x ∷ cs) c d h =
    let two = or_none (eqb c.cid x.cid) (contains c.cid (cids cs)) h in
    let apart : eqb x.cid c.cid ≡ false = same_eqb x.cid c.cid ∙ two.0 in
    (Lacks-both x.cid cs (c ∷ []) d.0 (rw apart refl), Distinct-push cs c d.1 two.1)

pub untaken-push : (slots : List ℕ) (cs : List Command) (c : Command)
    → untaken slots (cs ++ c ∷ []) ≡ minus (untaken slots cs) c.slots
untaken-push slots [] c = refl
untaken-push slots (x ∷ cs) c = untaken-push (minus slots x.slots) cs c

pub minus-shorter : (xs ys : List ℕ) → length (minus xs ys) + cond (meets xs ys) 1 0 ≤ length xs
minus-shorter [] ys = omega arith
minus-shorter (x ∷ xs) ys =
    let ih : length (minus xs ys) + cond (meets xs ys) 1 0 ≤ length xs = minus-shorter xs ys in
    elim (contains x ys) as (λ b. length (cond (not b) (x ∷ minus xs ys) (minus xs ys)) + cond (b
    || meets xs ys) 1 0 ≤ suc (length xs))
    [ true ↦ (let low : length (minus xs ys) ≤ length xs = omega arith in omega arith) | false ↦ omega arith ]

room_sum : (mb lb b m f' d f r w : ℕ) → mb ≡ lb + b → b ≡ m → f' ≡ d → d + m ≤ f → lb + f ≤ r → r ≤ w → mb + f' ≤ w
room_sum mb lb b m f' d f r w e h k s t u = omega arith

room_step : (mb lb : List ℕ) (cid : ℕ) (b : Bool) (free slots free' : List ℕ) (room wide : ℕ)
    → mb ≡ lb ++ cond b (cid ∷ []) [] → b ≡ meets free slots → free' ≡ minus free slots → length lb + length free ≤ room
    → room ≤ wide → length mb + length free' ≤ wide
room_step mb lb cid b free slots free' room wide e h k r w =
    room_sum (length mb) (length lb) (cond b 1 0) (cond (meets free slots) 1 0) (length free')
    (length (minus free slots)) (length free) room wide
    (ap length e ∙ length-append lb (cond b (cid ∷ []) [])
    ∙ ap (λ n. length lb + n)
    (elim b as (λ d. length (cond d (cid ∷ []) []) ≡ cond d 1 0) [ true ↦ refl | false ↦ refl ]))
    (ap (λ d. cond {A = ℕ} d 1 0) h) (ap length k) (minus-shorter free slots) r w

room_new : (mb free slots : List ℕ) (wide : ℕ) → mb ≡ [] → free ≡ slots → length slots ≤ wide
    → length mb + length free ≤ wide
room_new mb free slots wide e f h =
    let one : length mb ≡ 0 = ap length e in
    let two : length free ≡ length slots = ap length f in
    omega arith

-- the last command of a slot has it left over
pub last-meets : (ls : List (Option Link)) (last : ℕ → Option ℕ) (slots : List ℕ) (i : ℕ) (l : Link)
    → get_or ls i None ≡ Some l → Distinct (commands ls) → ((s : ℕ) → s < 256 → last s ≡ last_in (commands ls) s)
    → Each (λ s. s < 256) slots
    → list_any (λ s. is_number l.cid (last s)) slots ≡ meets (untaken l.slots (commands (drop (suc i) ls))) slots
last-meets ls last slots i l e d h small =
    let whole = split-at ls i l e in
    let rest = untaken l.slots (commands (drop (suc i) ls)) in
    any_agree_each (λ s. is_number l.cid (last s)) (λ s. contains s rest) slots
    (Each_map (λ s. s < 256) (λ s. is_number l.cid (last s) ≡ contains s rest)
    (λ s lt. ap (is_number l.cid) (h s lt ∙ ap (λ t. last_in t s) whole)
    ∙ sym (last_in-at (commands (take i ls)) (command_of l) (commands (drop (suc i) ls)) s
    (subst Distinct whole d))) slots small)
    ∙ meets_mutual slots rest

-- what is true of the positions of a list that ends in an empty one, once a command has joined
-- and stands there
pub joins : (ls : List (Option Link)) (at last : ℕ → Option ℕ) (room wide : ℕ → ℕ) (cid : ℕ) (slots : List ℕ)
    → Chained (ls ++ None ∷ []) at last room → Lacks cid (commands ls) → at cid ≡ Some (length ls)
    → ((c : ℕ) → at c ≡ Some (length ls) → cid ≡ c)
    → Each (λ s. s < 256) slots → ((i : ℕ) → i < length ls → room i ≤ wide i) → length slots ≤ wide (length ls)
    → Chained (map (option_map (joined cid last slots)) ls
    ++ Some (record {
      cid = cid;
      slots = slots;
      ahead =
          count_links (λ l. list_any (λ s. is_number l.cid (last s)) slots) ls;
      behind = [];
    }) ∷ [])
    at (λ s. cond (contains s slots) (Some cid) (last s)) wide
joins ls at last room wide cid slots old absent placed only small wider own =
    let f : Link → Bool = λ l. list_any (λ s. is_number l.cid (last s)) slots in
    let g : Link → Link = joined cid last slots in
    let c : Command = record { cid = cid; slots = slots } in
    let n : Link = record { cid = cid; slots = slots; ahead = count_links f ls; behind = [] } in
    let keeps : (l : Link) → command_of (g l) ≡ command_of l = joined-command cid last slots in
    let same : commands (ls ++ None ∷ []) ≡ commands ls = drop-end 0 ls in
    let there : (i : ℕ) (l : Link) → get_or ls i None ≡ Some l → get_or (ls ++ None ∷ []) i None ≡ Some l =
    λ i l e. get-end ls i ∙ e in
    let distinct : Distinct (commands ls) =
    Distinct-positions ls at (λ k. k) (λ a b e. e) (λ k l e. old.listed k l (there k l e)) in
    let meets-is : (i : ℕ) (l : Link) → get_or ls i None ≡ Some l
    → f l ≡ meets (untaken l.slots (commands (drop (suc i) ls))) slots =
    λ i l e. last-meets ls last slots i l e distinct (λ s lt. old.last_is s lt ∙ ap (λ t. last_in t s) same) small in
    let all : commands (map (option_map g) ls ++ Some n ∷ []) ≡ commands ls ++ c ∷ [] =
    drop-new g keeps 0 ls n (omega arith) in
    let counted : count_links f ls ≡ directly c (commands ls) = count-directly f c ls meets-is in
    let after : (i : ℕ) → i < length ls
    → commands (drop (suc i) (map (option_map g) ls ++ Some n ∷ [])) ≡ commands (drop (suc i) ls) ++ c ∷ [] =
    λ i lt. drop-new g keeps (suc i) ls n (omega arith) in
    record {
      listed = λ i m e. ⊎_elim
          (λ r. ap (λ (x : Command). at x.cid) (ap command_of r.3 ∙ keeps r.0) ∙ old.listed i r.0 (there i r.0 r.2))
          (λ r. ap (λ (x : Link). at x.cid) r.1 ∙ placed ∙ ap (λ k. Some k) (sym r.0))
          (position-cases ls g n i m e);
      found = λ x i m a e. ⊎_elim
          (λ r. ap (λ (y : Command). y.cid) (ap command_of r.3 ∙ keeps r.0) ∙ old.found x i r.0 a (there i r.0 r.2))
          (λ r. ap (λ (y : Link). y.cid) r.1 ∙ only x (a ∙ ap (λ k. Some k) r.0))
          (position-cases ls g n i m e);
      within = λ x i a. (let lt : i < length (ls ++ None ∷ []) = old.within x i a in
          let one : length (ls ++ None ∷ []) ≡ length ls + 1 = length-append ls (None ∷ []) in
          let two : length (map (option_map g) ls ++ Some n ∷ []) ≡ length ls + 1 =
          length-append (map (option_map g) ls) (Some n ∷ []) ∙ ap (λ k. k + 1) (length-map ls (option_map g)) in
          omega arith);
      behind = λ i m e. ⊎_elim
          (λ r.
          let slots-same : m.slots ≡ r.0.slots = ap (λ (y : Command). y.slots) (ap command_of r.3 ∙ keeps r.0) in
          ap (λ (y : Link). y.behind) r.3 ∙ joined-behind cid last slots r.0
          ∙ ap (λ t. t ++ cond (f r.0) (cid ∷ []) []) (old.behind i r.0 (there i r.0 r.2)
          ∙ ap (followers r.0.slots) (drop-end (suc i) ls))
          ∙ ap (λ b. followers r.0.slots (commands (drop (suc i) ls)) ++ cond b (cid ∷ []) []) (meets-is i r.0 r.2)
          ∙ sym (ap (λ t. followers t (commands (drop (suc i) (map (option_map g) ls ++ Some n ∷ [])))) slots-same
          ∙ ap (followers r.0.slots) (after i r.1) ∙ followers-push r.0.slots (commands (drop (suc i) ls)) c))
          (λ r. ap (λ (y : Link). y.behind) r.1
          ∙ sym (ap (λ k. followers m.slots (commands (drop (suc k) (map (option_map g) ls ++ Some n ∷ [])))) r.0
          ∙ ap (followers m.slots) (drop-past g ls n)))
          (position-cases ls g n i m e);
      ahead = λ i m e. ⊎_elim
          (λ r.
          let cid-same : m.cid ≡ r.0.cid = ap (λ (y : Command). y.cid) (ap command_of r.3 ∙ keeps r.0) in
          let apart : eqb r.0.cid cid ≡ false = same_eqb r.0.cid cid ∙ Lacks-position ls cid i r.0 absent r.2 in
          ap (λ (y : Link). y.ahead) r.3 ∙ joined-ahead cid last slots r.0 ∙ old.ahead i r.0 (there i r.0 r.2)
          ∙ ap (ahead_of r.0.cid) same
          ∙ sym (ap (λ k. ahead_of k (commands (map (option_map g) ls ++ Some n ∷ []))) cid-same
          ∙ ap (ahead_of r.0.cid) all ∙ ahead-push r.0.cid (commands ls) c apart))
          (λ r. ap (λ (y : Link). y.ahead) r.1 ∙ counted
          ∙ sym (ap (λ (y : Link). ahead_of y.cid (commands (map (option_map g) ls ++ Some n ∷ []))) r.1
          ∙ ap (ahead_of cid) all ∙ ahead_at (commands ls) c [] (Distinct-push (commands ls) c distinct absent)))
          (position-cases ls g n i m e);
      last_is = λ s lt. ap (cond (contains s slots) (Some cid)) (old.last_is s lt ∙ ap (λ t. last_in t s) same)
          ∙ sym (ap (λ t. last_in t s) all ∙ last_in-push (commands ls) c s);
      room_is = λ i m e. ⊎_elim
          (λ r.
          let slots-same : m.slots ≡ r.0.slots = ap (λ (y : Command). y.slots) (ap command_of r.3 ∙ keeps r.0) in
          let behind-same : m.behind ≡ r.0.behind ++ cond (f r.0) (cid ∷ []) [] =
          ap (λ (y : Link). y.behind) r.3 ∙ joined-behind cid last slots r.0 in
          room_step m.behind r.0.behind cid (f r.0) (untaken r.0.slots (commands (drop (suc i) ls))) slots
          (untaken m.slots (commands (drop (suc i) (map (option_map g) ls ++ Some n ∷ [])))) (room i) (wide i)
          behind-same (meets-is i r.0 r.2)
          (ap (λ t. untaken t (commands (drop (suc i) (map (option_map g) ls ++ Some n ∷ [])))) slots-same
          ∙ ap (untaken r.0.slots) (after i r.1) ∙ untaken-push r.0.slots (commands (drop (suc i) ls)) c)
          (subst (λ t. length r.0.behind + length (untaken r.0.slots t) ≤ room i) (drop-end (suc i) ls)
          (old.room_is i r.0 (there i r.0 r.2)))
          (wider i r.1))
          (λ r. room_new m.behind (untaken m.slots (commands (drop (suc i) (map (option_map g) ls ++ Some n ∷ []))))
          slots (wide i)
          (ap (λ (y : Link). y.behind) r.1)
          (ap (λ k. untaken m.slots (commands (drop (suc k) (map (option_map g) ls ++ Some n ∷ [])))) r.0
          ∙ ap (untaken m.slots) (drop-past g ls n) ∙ ap (λ (y : Link). y.slots) r.1)
          (subst (λ k. length slots ≤ wide k) (sym r.0) own))
          (position-cases ls g n i m e);
    }
