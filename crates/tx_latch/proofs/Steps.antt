-- One slot of a command that joins the queues.
use Rattle.std.proofs.Common.{◌≡◌, ℕ, ◌+◌, ◌-◌, ◌<◌, ◌≤◌, Bool, true, false, cond, not, ◌||◌, eqb, zero, suc, List, [], ◌∷◌, ◌++◌, Option, None, Some, map, length, get_or, take, drop, refl, sym, ap, ◌∙◌, subst, arith, add-zero}
use Rattle.std.specs.Option.{option_map}
use Rattle.std.specs.List.{list_any, slice_get}
use mir.Val.{bool_byte}
use Rattle.std.proofs.lemmas.List.{length_push}
use Rattle.std.proofs.lemmas.List.Folds.{list_any-append}
use Rattle.std.proofs.lemmas.Bool.{eqb-true, eq-eqb}
use Rattle.tx_latch.specs.Asked.{contains, cids, Lacks, Distinct}
use Rattle.tx_latch.specs.Queues.{Link, untaken, last_in, is_number, commands, command_of, Chained, joined, followed, adds, link_at, at_position, count_links, HasRoom, after_slot, adds_slot}
use Rattle.tx_latch.proofs.Lists.{or_none, or_false, eqb_self, same_eqb}
use Rattle.tx_latch.proofs.Granted.{Lacks-append}
use Rattle.tx_latch.proofs.Last.{last_in-at}
use Rattle.tx_latch.proofs.Ahead.{Lacks-followers}
use Rattle.tx_latch.proofs.Places.{from_map, split-at, Lacks-position, Distinct-positions, link-get, some_same, none_apart, eqb_apart, map-agree, at_position-map}

-- whether a link is the last in one of these slots
abbrev pub is_last : (ℕ → Option ℕ) → List ℕ → Link → Bool
is_last last slots l = list_any (λ s. is_number l.cid (last s)) slots

pub is_last-more : (last : ℕ → Option ℕ) (ks : List ℕ) (n : ℕ) (l : Link)
    → is_last last (ks ++ n ∷ []) l ≡ (is_last last ks l || is_number l.cid (last n))
is_last-more last ks n l =
    list_any-append (λ s. is_number l.cid (last s)) ks (n ∷ [])
    ∙ ap (λ b. is_last last ks l || b) (or_false (is_number l.cid (last n)))

true_false : true ≡ false → ⊥
true_false h = cc

link_none : (l : Link) → (let x : Option Link = Some l in x) ≡ None → ⊥
link_none l h = cc

or_true : (a : Bool) → (a || true) ≡ true
or_true true = refl
or_true false = refl

any_contains_step : (p : ℕ → Bool) (n x : ℕ) (ks : List ℕ) (b : Bool) → eqb n x ≡ b → (b || contains n ks) ≡ true
    → p n ≡ true → (contains n ks ≡ true → list_any p ks ≡ true) → (p x || list_any p ks) ≡ true
any_contains_step p n x ks true e h k ih = let at : p x ≡ true = ap p (sym (eqb-true n x e)) ∙ k in rw at refl
any_contains_step p n x ks false e h k ih = rw (ih h) (or_true (p x))

-- a slot that is one of these decides
pub any-contains : (p : ℕ → Bool) (n : ℕ) (ks : List ℕ) → contains n ks ≡ true → p n ≡ true → list_any p ks ≡ true
any-contains p n [] h k = absurd (cc)
any-contains p n (x ∷ ks) h k = any_contains_step p n x ks (eqb n x) refl h k (λ m. any-contains p n ks m k)

get-push : (xs : List ℕ) (y : ℕ) → slice_get (xs ++ y ∷ []) (length xs) ≡ Some y
get-push [] y = refl
get-push (x ∷ xs) y = get-push xs y

pub last-push : (xs : List ℕ) (y : ℕ) → slice_get (xs ++ y ∷ []) (length (xs ++ y ∷ []) - 1) ≡ Some y
last-push xs y = let n : length (xs ++ y ∷ []) - 1 ≡ length xs = omega (arith, length_push xs y) in
    ap (slice_get (xs ++ y ∷ [])) n ∙ get-push xs y

pub last-lacks : (x : ℕ) (xs : List ℕ) (i : ℕ) → contains x xs ≡ false → is_number x (slice_get xs i) ≡ false
last-lacks x [] i h = refl
last-lacks x (y ∷ ys) zero h = (or_none (eqb x y) (contains x ys) h).0
last-lacks x (y ∷ ys) (suc i) h = last-lacks x ys i (or_none (eqb x y) (contains x ys) h).1

pub count-same : (f g : Link → Bool) (ls : List (Option Link))
    → ((k : ℕ) (l : Link) → get_or ls k None ≡ Some l → g l ≡ f l) → count_links g ls ≡ count_links f ls
count-same f g [] h = refl
count-same f g (None ∷ ls) h = count-same f g ls (λ k. h (suc k))
count-same f g (Some l ∷ ls) h = rw (h 0 l refl, count-same f g ls (λ k. h (suc k))) refl

suc_apart : (k : ℕ) → suc k ≡ 0 → ⊥
suc_apart k h = omega arith

suc_less : (k i : ℕ) → suc k ≡ suc i → k ≡ i
suc_less k i h = omega arith

one_step : (b : Bool) (n : ℕ) → cond {A = ℕ} true 1 0 + n ≡ (cond b 1 0 + n) + cond (not b) 1 0
one_step true n = omega arith
one_step false n = omega arith

sum_step : (a n b : ℕ) → a + (n + b) ≡ (a + n) + b
sum_step a n b = omega arith

pub count-one : (f g : Link → Bool) (ls : List (Option Link)) (i : ℕ) (l₀ : Link) → get_or ls i None ≡ Some l₀
    → g l₀ ≡ true → ((k : ℕ) (l : Link) → (k ≡ i → ⊥) → get_or ls k None ≡ Some l → g l ≡ f l)
    → count_links g ls ≡ count_links f ls + cond (not (f l₀)) 1 0
count-one f g [] i l₀ e t h = absurd (cc)
count-one f g (None ∷ ls) zero l₀ e t h = absurd (cc)
count-one f g (Some x ∷ ls) zero l₀ e t h =
    let same : x ≡ l₀ = cc in
    let rest : count_links g ls ≡ count_links f ls = count-same f g ls (λ k l. h (suc k) l (λ z. suc_apart k z)) in
    let at : g x ≡ true = ap g same ∙ t in
    rw (at, rest, ← same) (one_step (f x) (count_links f ls))
count-one f g (None ∷ ls) (suc i) l₀ e t h = count-one f g ls i l₀ e t (λ k l n. h (suc k) l (λ z. n (suc_less k i z)))
count-one f g (Some x ∷ ls) (suc i) l₀ e t h =
    let ih : count_links g ls ≡ count_links f ls + cond (not (f l₀)) 1 0 =
    count-one f g ls i l₀ e t (λ k l n. h (suc k) l (λ z. n (suc_less k i z))) in
    let head : g x ≡ f x = h 0 x (λ z. suc_apart i (sym z)) refl in
    rw (head, ih) (sum_step (cond (f x) 1 0) (count_links f ls) (cond (not (f l₀)) 1 0))

abbrev pub more : ℕ → Link → Link
more cid l = record l { behind = l.behind ++ cid ∷ [] }

or_absorb : (q t : Bool) → (t ≡ true → q ≡ true) → (q || t) ≡ q
or_absorb true t h = refl
or_absorb false true h = sym (h refl)
or_absorb false false h = refl

followed_more : (cid : ℕ) (l : Link) → followed cid (more cid l) ≡ more cid l
followed_more cid l =
    let at : is_number cid (slice_get (l.behind ++ cid ∷ []) (length (l.behind ++ cid ∷ []) - 1)) ≡ true =
    ap (is_number cid) (last-push l.behind cid) ∙ eqb_self cid in
    ap (λ b. cond b (more cid l) (more cid (more cid l))) at

followed_fresh : (cid : ℕ) (l : Link) → contains cid l.behind ≡ false → followed cid l ≡ more cid l
followed_fresh cid l h =
    ap (λ b. cond b l (more cid l)) (last-lacks cid l.behind (length l.behind - 1) h)

more_last : (cid : ℕ) (l : Link) (q t : Bool) → contains cid l.behind ≡ false
    → cond (q || t) (more cid l) l ≡ cond t (followed cid (cond q (more cid l) l)) (cond q (more cid l) l)
more_last cid l true true h = sym (followed_more cid l)
more_last cid l true false h = refl
more_last cid l false true h = sym (followed_fresh cid l h)
more_last cid l false false h = refl

more_cases : (cid b : ℕ) (l : Link) (p q : Bool) (o : Option ℕ) → contains cid l.behind ≡ false → eqb cid l.cid ≡ false
    → cond p (Some cid) o ≡ Some b → (p ≡ true → is_number l.cid o ≡ true → q ≡ true)
    → cond (q || is_number l.cid o) (more cid l) l
    ≡ cond (eqb b l.cid) (followed cid (cond q (more cid l) l)) (cond q (more cid l) l)
more_cases cid b l true q o fresh other e f =
    let same : cid ≡ b = some_same cid b e in
    let apart : eqb b l.cid ≡ false = ap (λ n. eqb n l.cid) (sym same) ∙ other in
    ap (λ t. cond t (more cid l) l) (or_absorb q (is_number l.cid o) (f refl))
    ∙ sym (ap (λ t. cond t (followed cid (cond q (more cid l) l)) (cond q (more cid l) l)) apart)
more_cases cid b l false q o fresh other e f =
    ap (λ x. cond (q || is_number l.cid x) (more cid l) l) e
    ∙ more_last cid l q (eqb l.cid b) fresh
    ∙ ap (λ t. cond t (followed cid (cond q (more cid l) l)) (cond q (more cid l) l)) (same_eqb l.cid b)

-- a command that was the last in a slot has one more behind it, unless it has it already
pub joined-more : (cid : ℕ) (last : ℕ → Option ℕ) (ks : List ℕ) (n b : ℕ) (l : Link) → contains cid l.behind ≡ false
    → eqb cid l.cid ≡ false → cond (contains n ks) (Some cid) (last n) ≡ Some b
    → joined cid last (ks ++ n ∷ []) l ≡ cond (eqb b l.cid) (followed cid (joined cid last ks l)) (joined cid last ks l)
joined-more cid last ks n b l fresh other e =
    ap (λ t. cond t (more cid l) l) (is_last-more last ks n l)
    ∙ more_cases cid b l (contains n ks) (is_last last ks l) (last n) fresh other e
    (λ h k. any-contains (λ s. is_number l.cid (last s)) n ks h k)

some_none : (n : ℕ) → (let x : Option ℕ = Some n in x) ≡ None → ⊥
some_none n h = cc

none_cases : (cid x : ℕ) (p q : Bool) (o : Option ℕ) → cond p (Some cid) o ≡ None → (q || is_number x o) ≡ q
none_cases cid x true q o e = absurd (some_none cid e)
none_cases cid x false q o e = ap (λ t. q || is_number x t) e ∙ or_false q

other_cases : (cid b x : ℕ) (p q : Bool) (o : Option ℕ) → cond p (Some cid) o ≡ Some b → eqb b x ≡ false
    → (p ≡ true → is_number x o ≡ true → q ≡ true) → (q || is_number x o) ≡ q
other_cases cid b x true q o e other f = or_absorb q (is_number x o) (f refl)
other_cases cid b x false q o e other f =
    ap (λ t. q || is_number x t) e ∙ ap (λ t. q || t) (same_eqb x b ∙ other) ∙ or_false q

-- a slot in which nobody stands joins none
pub is_last-none : (cid : ℕ) (last : ℕ → Option ℕ) (ks : List ℕ) (n : ℕ) (l : Link)
    → cond (contains n ks) (Some cid) (last n) ≡ None → is_last last (ks ++ n ∷ []) l ≡ is_last last ks l
is_last-none cid last ks n l e =
    is_last-more last ks n l ∙ none_cases cid l.cid (contains n ks) (is_last last ks l) (last n) e

-- those that are not of the number stay
pub is_last-other : (cid : ℕ) (last : ℕ → Option ℕ) (ks : List ℕ) (n b : ℕ) (l : Link)
    → cond (contains n ks) (Some cid) (last n) ≡ Some b → eqb b l.cid ≡ false
    → is_last last (ks ++ n ∷ []) l ≡ is_last last ks l
is_last-other cid last ks n b l e other =
    is_last-more last ks n l
    ∙ other_cases cid b l.cid (contains n ks) (is_last last ks l) (last n) e other
    (λ h k. any-contains (λ s. is_number l.cid (last s)) n ks h k)

-- what is known of the links, before the command joins
pub fresh : (ls : List (Option Link)) (at last : ℕ → Option ℕ) (room : ℕ → ℕ) (cid : ℕ) → Chained ls at last room
    → Lacks cid (commands ls) → (i : ℕ) (l : Link) → get_or ls i None ≡ Some l → contains cid l.behind ≡ false
fresh ls at last room cid old absent i l e =
    let parts = Lacks-append cid (commands (take i ls)) (command_of l
    ∷ commands (drop (suc i) ls)) (sym (ap (λ t. contains cid (cids t)) (split-at ls i l e)) ∙ absent) in
    let later : Lacks cid (commands (drop (suc i) ls)) =
    (or_none (eqb cid l.cid) (contains cid (cids (commands (drop (suc i) ls)))) parts.1).1 in
    ap (contains cid) (old.behind i l e) ∙ Lacks-followers cid l.slots (commands (drop (suc i) ls)) later

-- one slot: the links
pub join-links : (ls : List (Option Link)) (at last : ℕ → Option ℕ) (room : ℕ → ℕ) (cid : ℕ) (ks : List ℕ) (n b : ℕ)
    → Chained ls at last room → Lacks cid (commands ls) → cond (contains n ks) (Some cid) (last n) ≡ Some b
    → at_position (at b) (followed cid) (map (option_map (joined cid last ks)) ls)
    ≡ map (option_map (joined cid last (ks ++ n ∷ []))) ls
join-links ls at last room cid ks n b old absent e =
    at_position-map ls at old.listed old.found b (joined cid last ks) (followed cid) (joined cid last (ks ++ n ∷ []))
    (λ k l t. joined-more cid last ks n b l (fresh ls at last room cid old absent k l t)
    (Lacks-position ls cid k l absent t) e)

pub join-links-none : (ls : List (Option Link)) (last : ℕ → Option ℕ) (cid : ℕ) (ks : List ℕ) (n : ℕ)
    → cond (contains n ks) (Some cid) (last n) ≡ None
    → map (option_map (joined cid last ks)) ls ≡ map (option_map (joined cid last (ks ++ n ∷ []))) ls
join-links-none ls last cid ks n e =
    map-agree (joined cid last ks) (joined cid last (ks ++ n ∷ [])) ls
    (λ k l t. ap (λ b. cond b (more cid l) l) (sym (is_last-none cid last ks n l e)))

pub join-count-none : (ls : List (Option Link)) (last : ℕ → Option ℕ) (cid : ℕ) (ks : List ℕ) (n : ℕ)
    → cond (contains n ks) (Some cid) (last n) ≡ None
    → count_links (is_last last (ks ++ n ∷ [])) ls ≡ count_links (is_last last ks) ls
join-count-none ls last cid ks n e =
    count-same (is_last last ks) (is_last last (ks ++ n ∷ [])) ls (λ k l t. is_last-none cid last ks n l e)

adds_joined : (cid : ℕ) (l : Link) (q : Bool) → contains cid l.behind ≡ false
    → adds cid (Some (cond q (more cid l) l)) ≡ not q
adds_joined cid l true h = ap not (ap (is_number cid) (last-push l.behind cid) ∙ eqb_self cid)
adds_joined cid l false h = ap not (last-lacks cid l.behind (length l.behind - 1) h)

slot_free_step : (cid b x : ℕ) (p : Bool) (o : Option ℕ) → cond p (Some cid) o ≡ Some b → x ≡ b → eqb cid x ≡ false
    → p ≡ false
slot_free_step cid b x false o e is other = refl
slot_free_step cid b x true o e is other = absurd (true_false (sym (eq-eqb cid x (some_same cid b e ∙ sym is)) ∙ other))

slot_free : (cid : ℕ) (last : ℕ → Option ℕ) (ks : List ℕ) (n b : ℕ) (l : Link)
    → cond (contains n ks) (Some cid) (last n) ≡ Some b → l.cid ≡ b → eqb cid l.cid ≡ false → contains n ks ≡ false
slot_free cid last ks n b l e is other = slot_free_step cid b l.cid (contains n ks) (last n) e is other

count_place : (ls : List (Option Link)) (at last : ℕ → Option ℕ) (room : ℕ
    → ℕ) (cid : ℕ) (ks : List ℕ) (n b i : ℕ) (o : Option Link) → get_or ls i None ≡ o → Chained ls at last room
    → Lacks cid (commands ls) → cond (contains n ks) (Some cid) (last n) ≡ Some b → at b ≡ Some i
    → count_links (is_last last (ks ++ n ∷ [])) ls
    ≡ count_links (is_last last ks) ls + cond (adds cid (option_map (joined cid last ks) (get_or ls i None))) 1 0
count_place ls at last room cid ks n b i None g old absent e t =
    count-same (is_last last ks) (is_last last (ks ++ n ∷ [])) ls
    (λ k l h. is_last-other cid last ks n b l e (eqb_apart b l.cid (λ same.
    let k-is : k ≡ i = some_same k i (sym (old.listed k l h) ∙ sym (ap at same) ∙ t) in
    link_none l (sym (ap (λ j. get_or ls j None) (sym k-is) ∙ h) ∙ g))))
    ∙ sym (add-zero (count_links (is_last last ks) ls))
    ∙ ap (λ o. count_links (is_last last ks) ls + cond (adds cid (option_map (joined cid last ks) o)) 1 0) (sym g)
count_place ls at last room cid ks n b i (Some l₀) g old absent e t =
    let is : l₀.cid ≡ b = old.found b i l₀ t g in
    let there : contains n ks ≡ false = slot_free cid last ks n b l₀ e is (Lacks-position ls cid i l₀ absent g) in
    let held : last n ≡ Some b = sym (ap (λ p. cond p (Some cid) (last n)) there) ∙ e in
    let now : is_last last (ks ++ n ∷ []) l₀ ≡ true =
    is_last-more last ks n l₀ ∙ ap (λ o. is_last last ks l₀ || is_number l₀.cid o) held
    ∙ ap (λ d. is_last last ks l₀ || d) (eq-eqb l₀.cid b is) ∙ or_true (is_last last ks l₀) in
    count-one (is_last last ks) (is_last last (ks ++ n ∷ [])) ls i l₀ g now
    (λ k l m h. is_last-other cid last ks n b l e
    (eqb_apart b l.cid (λ same. m (some_same k i (sym (old.listed k l h) ∙ sym (ap at same) ∙ t)))))
    ∙ ap (λ d. count_links (is_last last ks) ls + cond d 1 0)
    (sym (adds_joined cid l₀ (is_last last ks l₀) (fresh ls at last room cid old absent i l₀ g)))
    ∙ ap (λ o. count_links (is_last last ks) ls + cond (adds cid (option_map (joined cid last ks) o)) 1 0) (sym g)

adds_free : (cid : ℕ) (l : Link) (q : Bool) → adds cid (Some (cond q (more cid l) l)) ≡ true → q ≡ false
adds_free cid l false h = refl
adds_free cid l true h =
    absurd (true_false (sym h ∙ ap not (ap (is_number cid) (last-push l.behind cid) ∙ eqb_self cid)))

contains-length : (n : ℕ) (xs : List ℕ) → contains n xs ≡ true → 1 ≤ length xs
contains-length n [] h = absurd (true_false (sym h))
contains-length n (x ∷ xs) h = omega arith

room_sum : (m l u r : ℕ) → m ≡ l → 1 ≤ u → l + u ≤ r → m < r
room_sum m l u r e h k = omega arith

count_step : (ls : List (Option Link)) (at last : ℕ → Option ℕ) (room : ℕ
    → ℕ) (cid : ℕ) (ks : List ℕ) (n b : ℕ) (o : Option ℕ) → Chained ls at last room → Lacks cid (commands ls)
    → cond (contains n ks) (Some cid) (last n) ≡ Some b → at b ≡ o
    → count_links (is_last last (ks ++ n ∷ [])) ls
    ≡ count_links (is_last last ks) ls + cond (adds cid (link_at o (map (option_map (joined cid last ks)) ls))) 1 0
count_step ls at last room cid ks n b None old absent e t =
    count-same (is_last last ks) (is_last last (ks ++ n ∷ [])) ls
    (λ k l h. is_last-other cid last ks n b l e
    (eqb_apart b l.cid (λ same. none_apart k (sym t ∙ ap at same ∙ old.listed k l h))))
    ∙ sym (add-zero (count_links (is_last last ks) ls))
count_step ls at last room cid ks n b (Some i) old absent e t =
    count_place ls at last room cid ks n b i (get_or ls i None) refl old absent e t
    ∙ ap (λ o. count_links (is_last last ks) ls + cond (adds cid o) 1 0) (sym (link-get (joined cid last ks) ls i))

-- one slot: the count
pub join-count : (ls : List (Option Link)) (at last : ℕ → Option ℕ) (room : ℕ → ℕ) (cid : ℕ) (ks : List ℕ) (n b : ℕ)
    → Chained ls at last room → Lacks cid (commands ls) → cond (contains n ks) (Some cid) (last n) ≡ Some b
    → count_links (is_last last (ks ++ n ∷ [])) ls
    ≡ count_links (is_last last ks) ls + cond (adds cid (link_at (at b) (map (option_map (joined cid last ks)) ls)))
    1 0
join-count ls at last room cid ks n b old absent e = count_step ls at last room cid ks n b (at b) old absent e refl

-- one slot: the room
pub join-room : (ls : List (Option Link)) (at last : ℕ → Option ℕ) (room : ℕ → ℕ) (cid : ℕ) (ks : List ℕ) (n b i : ℕ)
    → Chained ls at last room → Lacks cid (commands ls) → n < 256 → cond (contains n ks) (Some cid) (last n) ≡ Some b
    → at b ≡ Some i
    → HasRoom cid (get_or (map (option_map (joined cid last ks)) ls) i None) (room i)
join-room ls at last room cid ks n b i old absent small e t = λ m h add.
    let r = from_map (joined cid last ks) (get_or ls i None) m (sym (link-get (joined cid last ks) ls i) ∙ h) in
    let l : Link = r.0 in
    let is : l.cid ≡ b = old.found b i l t r.1 in
    let free : is_last last ks l ≡ false =
    adds_free cid l (is_last last ks l) (sym (ap (λ x. adds cid (Some x)) r.2) ∙ add) in
    let there : contains n ks ≡ false = slot_free cid last ks n b l e is (Lacks-position ls cid i l absent r.1) in
    let held : last n ≡ Some b = sym (ap (λ p. cond p (Some cid) (last n)) there) ∙ e in
    let distinct : Distinct (commands ls) = Distinct-positions ls at (λ k. k) (λ a b e. e) old.listed in
    let whole = split-at ls i l r.1 in
    let left : contains n (untaken l.slots (commands (drop (suc i) ls))) ≡ true =
    last_in-at (commands (take i ls)) (command_of l) (commands (drop (suc i) ls)) n (subst Distinct whole distinct)
    ∙ ap (is_number l.cid) (sym (ap (λ c. last_in c n) whole) ∙ sym (old.last_is n small) ∙ held) ∙ eq-eqb l.cid b is in
    let some : 1 ≤ length (untaken l.slots (commands (drop (suc i) ls))) =
    contains-length n (untaken l.slots (commands (drop (suc i) ls))) left in
    let behind-same : length m.behind ≡ length l.behind =
    ap (λ (x : Link). length x.behind) (r.2 ∙ ap (λ d. cond d (more cid l) l) free) in
    room_sum (length m.behind) (length l.behind) (length (untaken l.slots (commands (drop (suc i) ls)))) (room i)
    behind-same some (old.room_is i l r.1)

-- one slot, whoever was the last in it
pub slot-links : (ls : List (Option Link)) (at last : ℕ → Option ℕ) (room : ℕ
    → ℕ) (cid : ℕ) (ks : List ℕ) (n : ℕ) (o : Option ℕ) → Chained ls at last room → Lacks cid (commands ls)
    → cond (contains n ks) (Some cid) (last n) ≡ o
    → after_slot o at cid (map (option_map (joined cid last ks)) ls)
    ≡ map (option_map (joined cid last (ks ++ n ∷ []))) ls
slot-links ls at last room cid ks n None old absent e = join-links-none ls last cid ks n e
slot-links ls at last room cid ks n (Some b) old absent e = join-links ls at last room cid ks n b old absent e

pub slot-count : (ls : List (Option Link)) (at last : ℕ → Option ℕ) (room : ℕ
    → ℕ) (cid : ℕ) (ks : List ℕ) (n : ℕ) (o : Option ℕ) → Chained ls at last room → Lacks cid (commands ls)
    → cond (contains n ks) (Some cid) (last n) ≡ o
    → count_links (is_last last (ks ++ n ∷ [])) ls
    ≡ count_links (is_last last ks) ls + cond (adds_slot o at cid (map (option_map (joined cid last ks)) ls)) 1 0
slot-count ls at last room cid ks n None old absent e =
    join-count-none ls last cid ks n e ∙ sym (add-zero (count_links (is_last last ks) ls))
slot-count ls at last room cid ks n (Some b) old absent e = join-count ls at last room cid ks n b old absent e

pub join-none : (cid : ℕ) (last : ℕ → Option ℕ) (ls : List (Option Link))
    → ls ≡ map (option_map (joined cid last [])) ls
join-none cid last [] = refl
join-none cid last (None ∷ ls) = ap (λ t. None ∷ t) (join-none cid last ls)
join-none cid last (Some l ∷ ls) = ap (λ t. Some l ∷ t) (join-none cid last ls)

pub count-none : (last : ℕ → Option ℕ) (ls : List (Option Link)) → 0 ≡ count_links (is_last last []) ls
count-none last [] = refl
count-none last (None ∷ ls) = count-none last ls
count-none last (Some l ∷ ls) = let ih : 0 ≡ count_links (is_last last []) ls = count-none last ls in omega arith

pub after-agree : (o : Option ℕ) (at at' : ℕ → Option ℕ) (cid : ℕ) (ls : List (Option Link)) → ((c : ℕ) → at' c ≡ at c)
    → after_slot o at' cid ls ≡ after_slot o at cid ls
after-agree None at at' cid ls h = refl
after-agree (Some b) at at' cid ls h = ap (λ p. at_position p (followed cid) ls) (h b)

pub adds-agree : (o : Option ℕ) (at at' : ℕ → Option ℕ) (cid : ℕ) (ls : List (Option Link)) → ((c : ℕ) → at' c ≡ at c)
    → adds_slot o at' cid ls ≡ adds_slot o at cid ls
adds-agree None at at' cid ls h = refl
adds-agree (Some b) at at' cid ls h = ap (λ p. adds cid (link_at p ls)) (h b)

last_cases : (a b : Bool) (x y : Option ℕ) → cond b x (cond a x y) ≡ cond (a || (b || false)) x y
last_cases true true x y = refl
last_cases true false x y = refl
last_cases false true x y = refl
last_cases false false x y = refl

pub last-step : (cid s n : ℕ) (ks : List ℕ) (o : Option ℕ)
    → cond (eqb s n) (Some cid) (cond (contains s ks) (Some cid) o) ≡ cond (contains s (ks ++ n ∷ [])) (Some cid) o
last-step cid s n ks o =
    last_cases (contains s ks) (eqb s n) (Some cid) o
    ∙ ap (λ b. cond b (Some cid) o) (sym (list_any-append (λ y. eqb s y) ks (n ∷ [])))

pub byte-is : (b : Bool) → bool_byte b ≡ cond b 1 0
byte-is true = refl
byte-is false = refl

pub byte-small : (b : Bool) → bool_byte b ≤ 1
byte-small true = omega arith
byte-small false = omega arith
