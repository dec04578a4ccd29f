-- A command added at the end of the positions, and one taken out.
use Rattle.std.proofs.Common.{◌≡◌, ℕ, ◌+◌, ◌<◌, ◌≤◌, Bool, true, false, cond, eqb, zero, suc, List, [], ◌∷◌, ◌++◌, Option, None, Some, map, length, get_or, set, drop, refl, sym, ap, ◌∙◌, subst, arith, Result, Ok, Err}
use Rattle.std.specs.Result.{OnErr}
use Rattle.std.specs.Option.{option_map, is_some}
use Rattle.std.specs.List.{list_any, All}
use Rattle.std.proofs.lemmas.List.{map-append, map-set, length-append, length-map, get_or-set_same, get_or-set_other, get_or_past}
use Rattle.std.proofs.lemmas.Bool.{eqb-true}
use Rattle.tx_latch.specs.Asked.{Command, contains, is_granted, is_asked, Lacks, Distinct}
use Rattle.tx_latch.specs.Queues.{Link, link_of, links, commands, Chained, joined, count_links, is_number, room_at, room_of, ahead_of, untaken, followers, last_in}
use Rattle.tx_latch.specs.declared.queues.QueueEntry.{QueueEntry}
use Rattle.tx_latch.proofs.Lists.{eqb_self, Each}
use Rattle.tx_latch.proofs.Ahead.{ahead_tells}
use Rattle.tx_latch.proofs.Places.{some_same, Lacks-position, Distinct-positions}
use Rattle.tx_latch.proofs.Join.{get-end, drop-end, drop-new, joins, joined-command, Distinct-push}

true_false : true ≡ false → ⊥
true_false h = cc

le_refl : (n : ℕ) → n ≤ n
le_refl n = omega arith

le_same : (m n : ℕ) → m ≡ n → m ≤ n
le_same m n e = omega arith

zero_least : (n : ℕ) → 0 ≤ n
zero_least n = omega arith

less_apart : (i k n : ℕ) → i < k → k ≡ n → i ≡ n → ⊥
less_apart i k n lt e h = omega arith

link_none : (l : Link) → (let x : Option Link = Some l in x) ≡ None → ⊥
link_none l h = cc

-- the same, told otherwise
pub chain-agree : (ls : List (Option Link)) (at at' last last' : ℕ → Option ℕ) (room wide : ℕ → ℕ)
    → Chained ls at last room → ((c : ℕ) → at' c ≡ at c) → ((s : ℕ) → s < 256 → last' s ≡ last s)
    → ((i : ℕ) → room i ≤ wide i) → Chained ls at' last' wide
chain-agree ls at at' last last' room wide old positions lasts wider = record {
  listed = λ i l e. positions l.cid ∙ old.listed i l e;
  found = λ c i l a e. old.found c i l (sym (positions c) ∙ a) e;
  within = λ c i a. old.within c i (sym (positions c) ∙ a);
  behind = old.behind;
  ahead = old.ahead;
  last_is = λ s lt. lasts s lt ∙ old.last_is s lt;
  room_is = λ i l e. (let one : length l.behind + length (untaken l.slots (commands (drop (suc i) ls))) ≤ room i =
      old.room_is i l e in let two : room i ≤ wide i = wider i in omega arith);
}

-- an empty position at the end
pub chain-end : (ls : List (Option Link)) (at last : ℕ → Option ℕ) (room : ℕ → ℕ) → Chained ls at last room
    → Chained (ls ++ None ∷ []) at last room
chain-end ls at last room old =
    let back : (i : ℕ) (l : Link) → get_or (ls ++ None ∷ []) i None ≡ Some l → get_or ls i None ≡ Some l =
    λ i l e. sym (get-end ls i) ∙ e in
    let all : commands (ls ++ None ∷ []) ≡ commands ls = drop-end 0 ls in
    record {
      listed = λ i l e. old.listed i l (back i l e);
      found = λ c i l a e. old.found c i l a (back i l e);
      within = λ c i a. (let lt : i < length ls = old.within c i a in
          let n : length (ls ++ None ∷ []) ≡ length ls + 1 = length-append ls (None ∷ []) in omega arith);
      behind = λ i l e. old.behind i l (back i l e) ∙ sym (ap (followers l.slots) (drop-end (suc i) ls));
      ahead = λ i l e. old.ahead i l (back i l e) ∙ sym (ap (ahead_of l.cid) all);
      last_is = λ s lt. old.last_is s lt ∙ sym (ap (λ t. last_in t s) all);
      room_is = λ i l e. subst (λ t. length l.behind + length (untaken l.slots t) ≤ room i) (sym (drop-end (suc i) ls))
          (old.room_is i l (back i l e));
    }

insert_found : (ls : List (Option Link)) (at : ℕ → Option ℕ) (cid c i : ℕ) (l : Link) (b : Bool) → eqb cid c ≡ b
    → cond b (Some (length ls)) (at c) ≡ Some i → get_or ls i None ≡ Some l → (at c ≡ Some i → l.cid ≡ c) → l.cid ≡ c
insert_found ls at cid c i l true e h g f =
    absurd (link_none l (sym (ap (λ k. get_or ls k None) (some_same (length ls) i h) ∙ g)
    ∙ get_or_past ls (length ls) None (le_refl (length ls))))
insert_found ls at cid c i l false e h g f = f h

insert_within : (ls : List (Option Link)) (at : ℕ → Option ℕ) (c i : ℕ) (b : Bool)
    → cond b (Some (length ls)) (at c) ≡ Some i → (at c ≡ Some i → i < length (ls ++ None ∷ []))
    → i < length (ls ++ None ∷ [])
insert_within ls at c i true h f =
    (let e : length ls ≡ i = some_same (length ls) i h in
    let n : length (ls ++ None ∷ []) ≡ length ls + 1 = length-append ls (None ∷ []) in omega arith)
insert_within ls at c i false h f = f h

-- a number gets the empty position at the end
pub chain-insert : (ls : List (Option Link)) (at at' last : ℕ → Option ℕ) (room : ℕ → ℕ) (cid : ℕ)
    → Chained (ls ++ None ∷ []) at last room → Lacks cid (commands ls)
    → ((c : ℕ) → at' c ≡ cond (eqb cid c) (Some (length ls)) (at c)) → Chained (ls ++ None ∷ []) at' last room
chain-insert ls at at' last room cid old absent put = record {
  listed = λ i l e. put l.cid
      ∙ ap (λ b. cond b (Some (length ls)) (at l.cid)) (Lacks-position ls cid i l absent (sym (get-end ls i) ∙ e))
      ∙ old.listed i l e;
  found = λ c i l a e. insert_found ls at cid c i l (eqb cid c) refl (sym (put c) ∙ a) (sym (get-end ls i)
      ∙ e) (λ h. old.found c i l h e);
  within = λ c i a. insert_within ls at c i (eqb cid c) (sym (put c) ∙ a) (λ h. old.within c i h);
  behind = old.behind;
  ahead = old.ahead;
  last_is = old.last_is;
  room_is = old.room_is;
}

pub links-end : (asked : List (Option QueueEntry)) → links (asked ++ None ∷ []) ≡ links asked ++ None ∷ []
links-end asked = map-append (option_map link_of) asked (None ∷ [])

pub entry-end : (asked : List (Option QueueEntry)) (i : ℕ) → get_or (asked ++ None ∷ []) i None ≡ get_or asked i None
entry-end [] zero = refl
entry-end [] (suc i) = refl
entry-end (o ∷ asked) zero = refl
entry-end (o ∷ asked) (suc i) = entry-end asked i

-- after an empty position was put at the end
pub kept-end : (asked items : List (Option QueueEntry)) (at at' last : ℕ → Option ℕ)
    → Chained (links asked) at last (room_at asked)
    → ((c i : ℕ) → at c ≡ Some i → is_some (get_or (links asked) i None) ≡ true) → items ≡ asked ++ None ∷ []
    → ((c : ℕ) → at' c ≡ at c)
    → Chained (links items) at' last (room_at items)
    × ((c i : ℕ) → at' c ≡ Some i → is_some (get_or (links items) i None) ≡ true)
kept-end asked items at at' last old stands e same =
    let is : links items ≡ links asked ++ None ∷ [] = ap links e ∙ links-end asked in
    let wide : (i : ℕ) → room_at asked i ≡ room_at items i =
    λ i. ap room_of (sym (entry-end asked i)) ∙ ap (λ t. room_at t i) (sym e) in (
      subst (λ t. Chained t at' last (room_at items)) (sym is)
          (chain-agree (links asked ++ None
          ∷ []) at at' last last (room_at asked) (room_at items) (chain-end (links asked) at last (room_at asked) old)
          same (λ s lt. refl) (λ i. le_same (room_at asked i) (room_at items i) (wide i))),
      λ c i h. ap (λ t. is_some (get_or t i None)) is ∙ ap is_some (get-end (links asked) i)
          ∙ stands c i (sym (same c) ∙ h),
    )

-- after a number got it
pub joinable-end : (asked items : List (Option QueueEntry)) (at at' last : ℕ → Option ℕ) (cid : ℕ)
    → Chained (links asked) at last (room_at asked) → items ≡ asked ++ None ∷ []
    → is_asked (commands (links asked)) cid ≡ false
    → ((c : ℕ) → at' c ≡ cond (eqb cid c) (Some (length (links asked))) (at c))
    → Chained (links items) at' last (room_at items)
joinable-end asked items at at' last cid old e absent put =
    let is : links items ≡ links asked ++ None ∷ [] = ap links e ∙ links-end asked in
    let wide : (i : ℕ) → room_at asked i ≡ room_at items i =
    λ i. ap room_of (sym (entry-end asked i)) ∙ ap (λ t. room_at t i) (sym e) in
    subst (λ t. Chained t at' last (room_at items)) (sym is)
    (chain-agree (links asked ++ None
    ∷ []) at' at' last last (room_at asked) (room_at items)
    (chain-insert (links asked) at at' last (room_at asked) cid
    (chain-end (links asked) at last (room_at asked) old) absent put)
    (λ c. refl) (λ s lt. refl) (λ i. le_same (room_at asked i) (room_at items i) (wide i)))

pub asked-end : (asked items : List (Option QueueEntry)) → items ≡ asked ++ None ∷ []
    → commands (links items) ≡ commands (links asked)
asked-end asked items e = ap commands (ap links e ∙ links-end asked) ∙ drop-end 0 (links asked)

pub set-end : (g : Link → Link) (ls : List (Option Link)) (v : Option Link)
    → set (map (option_map g) (ls ++ None ∷ [])) (length ls) v ≡ map (option_map g) ls ++ v ∷ []
set-end g [] v = refl
set-end g (o ∷ ls) v = ap (λ t. option_map g o ∷ t) (set-end g ls v)

pub count-end : (f : Link → Bool) (ls : List (Option Link)) → count_links f (ls ++ None ∷ []) ≡ count_links f ls
count-end f [] = refl
count-end f (None ∷ ls) = count-end f ls
count-end f (Some l ∷ ls) = ap (λ n. cond (f l) 1 0 + n) (count-end f ls)

pub stands-more : (g : Link → Link) (ls : List (Option Link)) (n : Link) (i : ℕ) → is_some (get_or ls i None) ≡ true
    → is_some (get_or (map (option_map g) ls ++ Some n ∷ []) i None) ≡ true
stands-more g [] n i h = absurd (true_false (sym h))
stands-more g (None ∷ ls) n zero h = absurd (true_false (sym h))
stands-more g (Some l ∷ ls) n zero h = refl
stands-more g (o ∷ ls) n (suc i) h = stands-more g ls n i h

pub stands-last : (g : Link → Link) (ls : List (Option Link)) (n : Link)
    → is_some (get_or (map (option_map g) ls ++ Some n ∷ []) (length ls) None) ≡ true
stands-last g [] n = refl
stands-last g (o ∷ ls) n = stands-last g ls n

get-new : (g : Link → Link) (ls : List (Option Link)) (n : Link)
    → get_or (map (option_map g) ls ++ Some n ∷ []) (length ls) None ≡ Some n
get-new g [] n = refl
get-new g (o ∷ ls) n = get-new g ls n

-- what is known of a command that was added
pub record Added (asked items : List (Option QueueEntry)) (at last : ℕ
    → Option ℕ) (cid : ℕ) (slots : List ℕ) (ahead : ℕ) : Type 0 where
  pub chained : Chained (links items) at last (room_at items)
  pub stands : (c i : ℕ) → at c ≡ Some i → is_some (get_or (links items) i None) ≡ true
  pub list : commands (links items) ≡ commands (links asked) ++ record { cid = cid; slots = slots } ∷ []
  pub first : eqb ahead 0 ≡ is_granted (commands (links items)) cid

link_eq : (e : QueueEntry) (n : ℕ) → e.ahead ≡ n → e.behind.items ≡ []
    → link_of e ≡ record { cid = e.cid; slots = e.slots.items; ahead = n; behind = [] }
link_eq e n h k = ap (λ a. let l : Link =
    record { cid = e.cid; slots = e.slots.items; ahead = a; behind = e.behind.items } in l) h
    ∙ ap (λ b. let l : Link = record { cid = e.cid; slots = e.slots.items; ahead = n; behind = b } in l) k

only_step : (ls : List (Option Link)) (at : ℕ → Option ℕ) (cid c : ℕ) (b : Bool) → eqb cid c ≡ b
    → cond b (Some (length ls)) (at c) ≡ Some (length ls) → (at c ≡ Some (length ls) → length ls < length ls) → cid ≡ c
only_step ls at cid c true e h f = eqb-true cid c e
only_step ls at cid c false e h f = absurd (let lt : length ls < length ls = f h in omega arith)

each_from_all : (xs : List ℕ) → All (λ s. s < 256) xs → Each (λ s. s < 256) xs
each_from_all [] h = tt
each_from_all (x ∷ xs) h = (h 0 0 (omega arith), each_from_all xs (λ k d lt. h (suc k) d (omega arith)))

stands_step : (g : Link → Link) (ls : List (Option Link)) (n : Link) (at : ℕ → Option ℕ) (c i : ℕ) (b : Bool)
    → cond b (Some (length ls)) (at c) ≡ Some i → (at c ≡ Some i → is_some (get_or ls i None) ≡ true)
    → is_some (get_or (map (option_map g) ls ++ Some n ∷ []) i None) ≡ true
stands_step g ls n at c i true h f =
    ap (λ k. is_some (get_or (map (option_map g) ls ++ Some n ∷ []) k None)) (sym (some_same (length ls) i h))
    ∙ stands-last g ls n
stands_step g ls n at c i false h f = stands-more g ls n i (f h)

pub added : (asked items joined-items : List (Option QueueEntry)) (at at' at'' last last' : ℕ
    → Option ℕ) (e : QueueEntry) (n : ℕ)
    → Chained (links asked) at last (room_at asked)
    → ((c i : ℕ) → at c ≡ Some i → is_some (get_or (links asked) i None) ≡ true)
    → is_asked (commands (links asked)) e.cid ≡ false
    → items ≡ asked ++ None ∷ [] → n ≡ length asked → ((c : ℕ) → at' c ≡ cond (eqb e.cid c) (Some n) (at c))
    → links joined-items ≡ map (option_map (joined e.cid last e.slots.items)) (links items)
    → e.ahead ≡ count_links (λ l. list_any (λ s. is_number l.cid (last s)) e.slots.items) (links items)
    → ((s : ℕ) → s < 256 → last' s ≡ cond (contains s e.slots.items) (Some e.cid) (last s)) → ((c : ℕ) → at'' c ≡ at' c)
    → ((i : ℕ) → room_at items i ≤ room_at joined-items i)
    → All (λ s. s < 256) e.slots.items → e.behind.items ≡ [] → length e.slots.items ≤ room_of (Some e)
    → Added asked (set joined-items n (Some e)) at'' last' e.cid e.slots.items e.ahead
added asked items joined-items at at' at'' last last' e n old stands absent end position put links-joined count lasts
    same wider small fresh own =
    let ls : List (Option Link) = links asked in
    let g : Link → Link = joined e.cid last e.slots.items in
    let f : Link → Bool = λ l. list_any (λ s. is_number l.cid (last s)) e.slots.items in
    let new : Link = record { cid = e.cid; slots = e.slots.items; ahead = count_links f ls; behind = [] } in
    let len : length ls ≡ n = length-map asked (option_map link_of) ∙ sym position in
    let is : links items ≡ ls ++ None ∷ [] = ap links end ∙ links-end asked in
    let put' : (c : ℕ) → at' c ≡ cond (eqb e.cid c) (Some (length ls)) (at c) =
    λ c. put c ∙ ap (λ k. cond (eqb e.cid c) (Some k) (at c)) (sym len) in
    let link-is : link_of e ≡ new =
    link_eq e (count_links f ls) (count ∙ ap (count_links f) is ∙ count-end f ls) fresh in
    let final : links (set joined-items n (Some e)) ≡ map (option_map g) ls ++ Some new ∷ [] =
    map-set (option_map link_of) joined-items n (Some e)
    ∙ ap (λ t. set t n (Some (link_of e))) (links-joined ∙ ap (map (option_map g)) is)
    ∙ ap (λ k. set (map (option_map g) (ls ++ None ∷ [])) k (Some (link_of e))) (sym len)
    ∙ set-end g ls (Some (link_of e))
    ∙ ap (λ l. map (option_map g) ls ++ Some l ∷ []) link-is in
    let joinable : Chained (ls ++ None ∷ []) at' last (room_at items) =
    subst (λ t. Chained t at' last (room_at items)) is
    (joinable-end asked items at at' last e.cid old end absent put') in
    let placed : at' e.cid ≡ Some (length ls) =
    put' e.cid ∙ ap (λ b. cond b (Some (length ls)) (at e.cid)) (eqb_self e.cid) in
    let only : (c : ℕ) → at' c ≡ Some (length ls) → e.cid ≡ c =
    λ c h. only_step ls at e.cid c (eqb e.cid c) refl (sym (put' c) ∙ h) (λ k. old.within c (length ls) k) in
    let long : length joined-items ≡ n + 1 =
    sym (length-map joined-items (option_map link_of)) ∙ ap length (links-joined ∙ ap (map (option_map g)) is)
    ∙ length-map (ls ++ None ∷ []) (option_map g) ∙ length-append ls (None ∷ []) ∙ ap (λ k. k + 1) len in
    let items-final : List (Option QueueEntry) = set joined-items n (Some e) in
    let roomy : (i : ℕ) → i < length ls → room_at items i ≤ room_at items-final i =
    λ i lt. (let k : room_at items i ≤ room_at joined-items i = wider i in
    let r : room_at items-final i ≡ room_at joined-items i =
    ap room_of (get_or-set_other joined-items n i (Some e) None (λ z. less_apart i (length ls) n lt len z)) in
    omega arith) in
    let here : room_at items-final n ≡ room_of (Some e) =
    ap room_of (get_or-set_same joined-items n (Some e) None (omega arith)) in
    let own' : length e.slots.items ≤ room_at items-final (length ls) =
    subst (λ k. length e.slots.items ≤ room_at items-final k) (sym len)
    (subst (λ k. length e.slots.items ≤ k) (sym here) own) in
    let chained : Chained (map (option_map g) ls ++ Some new
    ∷ []) at' (λ s. cond (contains s e.slots.items) (Some e.cid) (last s)) (room_at items-final) =
    joins ls at' last (room_at items) (room_at items-final) e.cid e.slots.items joinable absent placed only
    (each_from_all e.slots.items small) roomy own' in
    let c : Command = record { cid = e.cid; slots = e.slots.items } in
    let list : commands (links items-final) ≡ commands ls ++ c ∷ [] =
    ap commands final ∙ drop-new g (joined-command e.cid last e.slots.items) 0 ls new (zero_least (length ls)) in
    let distinct : Distinct (commands ls ++ c ∷ []) =
    Distinct-push (commands ls) c (Distinct-positions ls at (λ k. k) (λ a b z. z) old.listed) absent in
    let last-chained = subst
    (λ t. Chained t at' (λ s. cond (contains s e.slots.items) (Some e.cid) (last s)) (room_at items-final))
    (sym final) chained in
    record {
      chained = chain-agree (links items-final) at' at'' (λ s. cond (contains s e.slots.items) (Some e.cid) (last s))
          last' (room_at items-final) (room_at items-final) last-chained same lasts
          (λ i. le_refl (room_at items-final i));
      stands = λ k i h. ap (λ t. is_some (get_or t i None)) final
          ∙ stands_step g ls new at k i (eqb e.cid k) (sym (put' k) ∙ sym (same k) ∙ h) (λ j. stands k i j);
      list = list;
      first = ap (λ k. eqb k 0) (ap (λ (x : Link). x.ahead) link-is ∙ chained.ahead (length ls) new (get-new g ls new)
          ∙ ap (ahead_of e.cid)
          (drop-new g (joined-command e.cid last e.slots.items) 0 ls new (zero_least (length ls))))
          ∙ ahead_tells (commands ls) c [] distinct ∙ ap (λ t. is_granted t e.cid) (sym list);
    }

pub on_err : {T E : Type 0} {P : Type 0} (r : Result T E) → P → OnErr r P
on_err (Ok x) p = tt
on_err (Err e) p = p
