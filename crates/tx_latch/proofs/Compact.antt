-- The positions once the empty ones are dropped.
use Rattle.std.proofs.Common.{◌≡◌, ℕ, ◌+◌, ◌<◌, ◌≤◌, Bool, true, false, cond, ◌&&◌, eqb, zero, suc, List, [], ◌∷◌, ◌++◌, Option, None, Some, length, get_or, drop, refl, sym, ap, ◌∙◌, subst, arith, zero-add, add-zero}
use Rattle.std.specs.Option.{is_some}
use Rattle.std.specs.List.{filter}
use Rattle.tx_latch.specs.Asked.{contains, cids, Lacks, Distinct}
use Rattle.tx_latch.specs.Queues.{Link, link_of, links, commands, command_of, Chained, room_at, replaced, followers, untaken, ahead_of, last_in}
use Rattle.tx_latch.specs.declared.queues.QueueEntry.{QueueEntry}
use Rattle.tx_latch.proofs.Lists.{or_none, eqb_self, same_eqb}
use Rattle.tx_latch.proofs.Places.{some_same, Distinct-positions}
use Rattle.tx_latch.proofs.Read.{true_false}

pub squeeze-commands : (asked : List (Option QueueEntry))
    → commands (links (filter is_some asked)) ≡ commands (links asked)
squeeze-commands [] = refl
squeeze-commands (None ∷ asked) = squeeze-commands asked
squeeze-commands (Some e ∷ asked) = ap (λ t. command_of (link_of e) ∷ t) (squeeze-commands asked)

-- where a position comes from
pub squeeze : (asked : List (Option QueueEntry)) (i : ℕ) (l : Link)
    → get_or (links (filter is_some asked)) i None ≡ Some l
    → (k : ℕ) × ((get_or (links asked) k None ≡ Some l)
    × (commands (drop (suc i) (links (filter is_some asked))) ≡ commands (drop (suc k) (links asked)))
    × (room_at asked k ≡ room_at (filter is_some asked) i))
squeeze [] i l h = absurd (cc)
squeeze (None ∷ asked) i l h = let r = squeeze asked i l h in (suc r.0, r.1)
squeeze (Some e ∷ asked) zero l h = (0, (h, squeeze-commands asked, refl))
squeeze (Some e ∷ asked) (suc i) l h = let r = squeeze asked i l h in (suc r.0, r.1)

-- where a position goes
pub unsqueeze : (asked : List (Option QueueEntry)) (k : ℕ) (l : Link) → get_or (links asked) k None ≡ Some l
    → (i : ℕ) × ((get_or (links (filter is_some asked)) i None ≡ Some l) × (i < length (links (filter is_some asked))))
unsqueeze [] k l h = absurd (cc)
unsqueeze (None ∷ asked) zero l h = absurd (cc)
unsqueeze (None ∷ asked) (suc k) l h = unsqueeze asked k l h
unsqueeze (Some e ∷ asked) zero l h = (0, (h, omega arith))
unsqueeze (Some e ∷ asked) (suc k) l h = let r = unsqueeze asked k l h in
    (suc r.0, (r.1.0, (let lt : r.0 < length (links (filter is_some asked)) = r.1.1 in omega arith)))

sums : (i from : ℕ) → i + suc from ≡ suc i + from
sums i from = omega arith

some_of : (o : Option ℕ) → is_some o ≡ true → (n : ℕ) × (o ≡ Some n)
some_of None h = absurd (true_false (sym h))
some_of (Some n) h = (n, refl)

link_some : (o : Option Link) → is_some o ≡ true → (l : Link) × (o ≡ Some l)
link_some None h = absurd (true_false (sym h))
link_some (Some l) h = (l, refl)

link_same : (l m : Link) → (let x : Option Link = Some l in x) ≡ Some m → l ≡ m
link_same l m h = cc

cond_some : (b : Bool) (n : ℕ) (o : Option ℕ) → is_some (cond (b && is_some o) (Some n) o) ≡ is_some o
cond_some true n None = refl
cond_some true n (Some x) = refl
cond_some false n o = refl

pub replaced-some : (ls : List (Option Link)) (from c : ℕ) (o : Option ℕ) → is_some (replaced ls from c o) ≡ is_some o
replaced-some [] from c o = refl
replaced-some (None ∷ ls) from c o = replaced-some ls (suc from) c o
replaced-some (Some l ∷ ls) from c o =
    replaced-some ls (suc from) c (cond (eqb l.cid c && is_some o) (Some from) o) ∙ cond_some (eqb l.cid c) from o

pub replaced-none : (ls : List (Option Link)) (from c : ℕ) (o : Option ℕ) → Lacks c (commands ls)
    → replaced ls from c o ≡ o
replaced-none [] from c o h = refl
replaced-none (None ∷ ls) from c o h = replaced-none ls (suc from) c o h
replaced-none (Some l ∷ ls) from c o h =
    let two = or_none (eqb c l.cid) (contains c (cids (commands ls))) h in
    let apart : eqb l.cid c ≡ false = same_eqb l.cid c ∙ two.0 in
    ap (λ b. replaced ls (suc from) c (cond (b && is_some o) (Some from) o)) apart
    ∙ replaced-none ls (suc from) c o two.1

pub replaced-at : (ls : List (Option Link)) (from i : ℕ) (l : Link) (o : Option ℕ) → Distinct (commands ls)
    → get_or ls i None ≡ Some l → is_some o ≡ true → replaced ls from l.cid o ≡ Some (i + from)
replaced-at [] from i l o d h s = absurd (cc)
replaced-at (None ∷ ls) from zero l o d h s = absurd (cc)
replaced-at (None ∷ ls) from (suc i) l o d h s = replaced-at ls (suc from) i l o d h s ∙ ap (λ n. Some n) (sums i from)
replaced-at (Some x ∷ ls) from zero l o d h s =
    let same : x ≡ l = cc in
    let test : (eqb x.cid l.cid && is_some o) ≡ true =
    ap (λ n. eqb n l.cid && is_some o) (ap (λ (y : Link). y.cid) same) ∙ ap (λ b. b && is_some o) (eqb_self l.cid)
    ∙ s in
    ap (λ b. replaced ls (suc from) l.cid (cond b (Some from) o)) test
    ∙ replaced-none ls (suc from) l.cid (Some from) (subst (λ (y : Link). Lacks y.cid (commands ls)) same d.0)
    ∙ ap (λ n. Some n) (sym (zero-add from))
replaced-at (Some x ∷ ls) from (suc i) l o d h s =
    replaced-at ls (suc from) i l (cond (eqb x.cid l.cid && is_some o) (Some from) o) d.1 h
    (cond_some (eqb x.cid l.cid) from o ∙ s) ∙ ap (λ n. Some n) (sums i from)

pub replaced-append : (xs ys : List (Option Link)) (from c : ℕ) (o : Option ℕ)
    → replaced (xs ++ ys) from c o ≡ replaced ys (length xs + from) c (replaced xs from c o)
replaced-append [] ys from c o = ap (λ n. replaced ys n c o) (sym (zero-add from))
replaced-append (None ∷ xs) ys from c o =
    replaced-append xs ys (suc from) c o
    ∙ ap (λ n. replaced ys n c (replaced xs (suc from) c o)) (sums (length xs) from)
replaced-append (Some l ∷ xs) ys from c o =
    let o' : Option ℕ = cond (eqb l.cid c && is_some o) (Some from) o in
    replaced-append xs ys (suc from) c o'
    ∙ ap (λ n. replaced ys n c (replaced xs (suc from) c o')) (sums (length xs) from)

-- what is true of the positions once the empty ones are dropped and the others given
pub compacts : (asked items : List (Option QueueEntry)) (at at' last last' : ℕ → Option ℕ)
    → Chained (links asked) at last (room_at asked)
    → ((c i : ℕ) → at c ≡ Some i → is_some (get_or (links asked) i None) ≡ true)
    → items ≡ filter is_some asked → ((c : ℕ) → at' c ≡ replaced (links items) 0 c (at c))
    → ((s : ℕ) → last' s ≡ last s)
    → (Chained (links items) at' last' (room_at items)
    × ((c i : ℕ) → at' c ≡ Some i → is_some (get_or (links items) i None) ≡ true))
    × (commands (links items) ≡ commands (links asked))
compacts asked items at at' last last' old stands is put lasts =
    let same : commands (links items) ≡ commands (links asked) =
    ap (λ t. commands (links t)) is ∙ squeeze-commands asked in
    let distinct : Distinct (commands (links items)) =
    subst Distinct (sym same) (Distinct-positions (links asked) at (λ k. k) (λ a b z. z) old.listed) in
    let from : (i : ℕ) (l : Link) → get_or (links items) i None ≡ Some l
    → (k : ℕ) × ((get_or (links asked) k None ≡ Some l)
    × (commands (drop (suc i) (links items)) ≡ commands (drop (suc k) (links asked)))
    × (room_at asked k ≡ room_at items i)) =
    λ i l h. subst (λ t. (k : ℕ)
    × ((get_or (links asked) k None ≡ Some l)
    × (commands (drop (suc i) (links t)) ≡ commands (drop (suc k) (links asked)))
    × (room_at asked k ≡ room_at t i))) (sym is)
    (squeeze asked i l (ap (λ t. get_or (links t) i None) (sym is) ∙ h)) in
    let listed : (i : ℕ) (l : Link) → get_or (links items) i None ≡ Some l → at' l.cid ≡ Some i =
    λ i l h. (let r = from i l h in
    put l.cid ∙ replaced-at (links items) 0 i l (at l.cid) distinct h (ap is_some (old.listed r.0 l r.1.0))
    ∙ ap (λ n. Some n) (add-zero i)) in
    let there : (c i : ℕ) → at' c ≡ Some i
    → (l : Link) × (l.cid ≡ c) × (get_or (links items) i None ≡ Some l) × (i < length (links items)) =
    λ c i h. (let s : is_some (at c) ≡ true =
    sym (replaced-some (links items) 0 c (at c)) ∙ ap is_some (sym (put c) ∙ h) in
    let k = some_of (at c) s in
    let l = link_some (get_or (links asked) k.0 None) (stands c k.0 k.1) in
    let cid : l.0.cid ≡ c = old.found c k.0 l.0 k.1 l.1 in
    let j = unsqueeze asked k.0 l.0 l.1 in
    let j-at : get_or (links items) j.0 None ≡ Some l.0 = ap (λ t. get_or (links t) j.0 None) is ∙ j.1.0 in
    let same-position : j.0 ≡ i = some_same j.0 i (sym (listed j.0 l.0 j-at) ∙ ap at' cid ∙ h) in (
      l.0,
      cid,
      ap (λ n. get_or (links items) n None) (sym same-position) ∙ j-at,
      subst (λ n. n < length (links items)) same-position (subst (λ t. j.0 < length (links t)) (sym is) j.1.1),
    )) in (
      (
        record {
          listed = listed;
          found = λ c i l a h. (let r = there c i a in ap (λ (y : Link). y.cid) (link_same l r.0 (sym h ∙ r.2)) ∙ r.1);
          within = λ c i a. (there c i a).3;
          behind = λ i l h. (let r = from i l h in old.behind r.0 l r.1.0 ∙ ap (followers l.slots) (sym r.1.1));
          ahead = λ i l h. (let r = from i l h in old.ahead r.0 l r.1.0 ∙ ap (ahead_of l.cid) (sym same));
          last_is = λ s lt. lasts s ∙ old.last_is s lt ∙ ap (λ t. last_in t s) (sym same);
          room_is = λ i l h. (let r = from i l h in
              subst (λ n. length l.behind + length (untaken l.slots (commands (drop (suc i) (links items)))) ≤ n) r.1.2
              (subst (λ t. length l.behind + length (untaken l.slots t) ≤ room_at asked r.0) (sym r.1.1)
              (old.room_is r.0 l r.1.0)));
        },
        λ c i a. ap is_some (there c i a).2,
      ),
      same,
    )
