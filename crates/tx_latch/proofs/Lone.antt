-- Commands that need no queue: they are all granted, and none becomes so when one of them leaves.
use Rattle.std.proofs.Common.{◌≡◌, ℕ, suc, ◌+◌, ◌<◌, ◌≤◌, Bool, true, false, cond, not, ◌||◌, eqb, ltb, List, [], ◌∷◌, ◌++◌, None, Some, Result, Ok, Err, IfOk, OnErr, IsTrue, length, take, drop, refl, sym, ap, ◌∙◌, subst, append_assoc, arith}
use Rattle.std.specs.List.{list_any, filter, position, prefix_len, slice_get}
use Rattle.std.proofs.lemmas.Bool.{eqb-true}
use Rattle.std.proofs.lemmas.Bool.Decides.{nat_tests}
use Rattle.std.proofs.lemmas.List.{append-nil, map-append}
use Rattle.std.proofs.lemmas.List.Elements.{filter-append}
use Rattle.tx_types.specs.declared.fault.Fault.{Fault}
use Rattle.tx_latch.specs.declared.asked_commands.Lone.{Lone}
use Rattle.tx_latch.specs.Asked.{Command, contains, meets, blocked, granted_behind, granted, cids, is_asked, is_granted, newly_granted, without, Lacks, Distinct, AreFree}
use Rattle.tx_latch.specs.Lone.{alone, lones}
use Rattle.tx_latch.proofs.Lists.{Each, Each_map, filter_agree_each, or_false, or_none, eqb_self, same_eqb, contains-append}
use Rattle.tx_latch.proofs.Granted.{blocked-append, granted-cons, Distinct-around, Distinct-filter, without-Lacks, without-around, Lacks-append, Lacks-both, cids-append, newly-around}
use Rattle.tx_latch.proofs.Freed.{granted_behind-append, granted_apart}
use Rattle.tx_latch.proofs.Read.{or_true}

-- ---- commands that share no slot with those before them

-- they are granted
granted_free : (earlier later : List Command) → AreFree earlier later → granted_behind earlier later ≡ later
granted_free earlier [] f = refl
granted_free earlier (c ∷ later) f = rw f.0 (ap (λ t. c ∷ t) (granted_free (earlier ++ c ∷ []) later f.1))

pub granted-free : (q fs : List Command) → AreFree q fs → granted (q ++ fs) ≡ granted q ++ fs
granted-free q fs f = granted_behind-append [] q fs ∙ ap (λ t. granted q ++ t) (granted_free q fs f)

pub is_asked-both : (q fs : List Command) (x : ℕ) → is_asked (q ++ fs) x ≡ (is_asked q x || contains x (cids fs))
is_asked-both q fs x = ap (contains x) (cids-append q fs) ∙ contains-append x (cids q) (cids fs)

pub is_granted-both : (q fs : List Command) (x : ℕ) → AreFree q fs
    → is_granted (q ++ fs) x ≡ (is_granted q x || contains x (cids fs))
is_granted-both q fs x f = ap (λ t. contains x (cids t)) (granted-free q fs f) ∙ is_asked-both (granted q) fs x

-- one more of them
pub AreFree-push : (e fs : List Command) (p : Command) → AreFree e fs → blocked (e ++ fs) p ≡ false
    → AreFree e (fs ++ p ∷ [])
AreFree-push e [] p f h = (ap (λ t. blocked t p) (sym (append-nil e)) ∙ h, tt)
AreFree-push e (c ∷ fs) p f h =
    (f.0, AreFree-push (e ++ c ∷ []) fs p f.1 (ap (λ t. blocked t p) (append_assoc e (c ∷ []) fs) ∙ h))

-- fewer before them
AreFree-fewer : (e less fs : List Command) → ((c : Command) → blocked e c ≡ false → blocked less c ≡ false)
    → AreFree e fs → AreFree less fs
AreFree-fewer e less [] h f = tt
AreFree-fewer e less (c ∷ fs) h f = (
  h c f.0,
  AreFree-fewer (e ++ c ∷ []) (less ++ c ∷ []) fs
      (λ d k. let two = or_none (blocked e d) (blocked (c ∷ []) d) (sym (blocked-append e (c ∷ []) d) ∙ k) in
      blocked-append less (c ∷ []) d ∙ rw (h d two.0) two.1)
      f.1,
)

blocked_first : (e : List Command) (p c : Command) → blocked (e ++ p ∷ []) c ≡ false
    → (blocked e c ≡ false) × (meets p.slots c.slots ≡ false)
blocked_first e p c k =
    let two = or_none (blocked e c) (blocked (p ∷ []) c) (sym (blocked-append e (p ∷ []) c) ∙ k) in
    (two.0, sym (or_false (meets p.slots c.slots)) ∙ two.1)

pub AreFree-drop : (e xs : List Command) (p : Command) (ys : List Command) → AreFree e (xs ++ p ∷ ys)
    → AreFree e (xs ++ ys)
AreFree-drop e [] p ys f = AreFree-fewer (e ++ p ∷ []) e ys (λ c k. (blocked_first e p c k).0) f.1
AreFree-drop e (x ∷ xs) p ys f = (f.0, AreFree-drop (e ++ x ∷ []) xs p ys f.1)

blocked_filter : (t : Command → Bool) (q : List Command) (c : Command) → blocked q c ≡ false
    → blocked (filter t q) c ≡ false
blocked_filter t [] c h = refl
blocked_filter t (x ∷ q) c h =
    let two = or_none (meets x.slots c.slots) (blocked q c) h in
    let ih : blocked (filter t q) c ≡ false = blocked_filter t q c two.1 in
    elim (t x) as (λ b. blocked (cond b (x ∷ filter t q) (filter t q)) c ≡ false) [ true ↦ rw two.0 ih | false ↦ ih ]

pub AreFree-filter : (t : Command → Bool) (q fs : List Command) → AreFree q fs → AreFree (filter t q) fs
AreFree-filter t q fs f = AreFree-fewer q (filter t q) fs (λ c h. blocked_filter t q c h) f

AreFree-behind : (e xs rest : List Command) → AreFree e (xs ++ rest) → AreFree (e ++ xs) rest
AreFree-behind e [] rest f = subst (λ t. AreFree t rest) (sym (append-nil e)) f
AreFree-behind e (x ∷ xs) rest f =
    subst (λ t. AreFree t rest) (append_assoc e (x ∷ []) xs) (AreFree-behind (e ++ x ∷ []) xs rest f.1)

-- ---- numbers

pub Distinct-push : (cs : List Command) (p : Command) → Distinct cs → Lacks p.cid cs → Distinct (cs ++ p ∷ [])
Distinct-push [] p d l = (refl, tt)
Distinct-push (c ∷ cs) p d l =
    let two = or_none (eqb p.cid c.cid) (contains p.cid (cids cs)) l in
    let other : eqb c.cid p.cid ≡ false = same_eqb c.cid p.cid ∙ two.0 in
    (Lacks-both c.cid cs (p ∷ []) d.0 (rw other refl), Distinct-push cs p d.1 two.1)

-- the numbers of the first part are none of the second's
lacks_each : (q fs : List Command) → Distinct (q ++ fs) → Each (λ c. Lacks c.cid fs) q
lacks_each [] fs d = tt
lacks_each (c ∷ q) fs d = ((Lacks-append c.cid q fs d.0).1, lacks_each q fs d.1)

Each-filter : (P : Command → Type 0) (t : Command → Bool) (cs : List Command) → Each P cs → Each P (filter t cs)
Each-filter P t [] h = tt
Each-filter P t (c ∷ cs) h =
    let ih : Each P (filter t cs) = Each-filter P t cs h.1 in
    elim (t c) as (λ b. Each P (cond b (c ∷ filter t cs) (filter t cs))) [ true ↦ (h.0, ih) | false ↦ ih ]

Each-granted : (P : Command → Type 0) (cs : List Command) → Each P cs → Each P (granted cs)
Each-granted P [] h = tt
Each-granted P (c ∷ cs) h =
    subst (Each P) (sym (granted-cons c cs)) (
      h.0,
      Each-filter P (λ d. not (meets c.slots d.slots)) (granted cs) (Each-granted P cs h.1),
    )

-- ---- one of the queues leaves

pub without-both : (x : ℕ) (q fs : List Command) → Lacks x fs → without x (q ++ fs) ≡ without x q ++ fs
without-both x q fs l = filter-append (λ c. not (eqb x c.cid)) q fs ∙ ap (λ t. without x q ++ t) (without-Lacks x fs l)

own_none : (a : Command → Bool) (pre fs : List Command)
    → filter (λ c. not (a c || contains c.cid (cids (pre ++ fs)))) fs ≡ []
own_none a pre [] = refl
own_none a pre (f ∷ fs) =
    let there : contains f.cid (cids (pre ++ f ∷ fs)) ≡ true =
    is_asked-both pre (f ∷ fs) f.cid ∙ rw (eqb_self f.cid) (or_true (is_asked pre f.cid)) in
    let ih : filter (λ c. not (a c || contains c.cid (cids ((pre ++ f ∷ []) ++ fs)))) fs ≡ [] =
    own_none a (pre ++ f ∷ []) fs in
    let same : filter (λ c. not (a c || contains c.cid (cids (pre ++ f ∷ fs)))) fs ≡ [] =
    ap (λ t. filter (λ c. not (a c || contains c.cid (cids t))) fs) (sym (append_assoc pre (f ∷ []) fs)) ∙ ih in
    rw (there, or_true (a f)) same

-- those that become granted are the same, whether there are such commands behind the queues or not
pub newly-both : (x : ℕ) (q fs : List Command) → AreFree q fs → Distinct (q ++ fs)
    → newly_granted q (without x q) ≡ newly_granted (q ++ fs) (without x q ++ fs)
newly-both x q fs f d =
    let left : List Command = without x q in
    let free : AreFree left fs = AreFree-filter (λ c. not (eqb x c.cid)) q fs f in
    let old : Command → Bool = λ c. not (is_granted q c.cid) in
    let new : Command → Bool = λ c. not (is_granted (q ++ fs) c.cid) in
    let mid : Command → Bool = λ c. not (is_granted q c.cid || contains c.cid (cids fs)) in
    let each : Each (λ c. Lacks c.cid fs) (granted left) =
    Each-granted (λ c. Lacks c.cid fs) left
    (Each-filter (λ c. Lacks c.cid fs) (λ c. not (eqb x c.cid)) q (lacks_each q fs d)) in
    let first : filter new (granted left) ≡ filter old (granted left) =
    filter_agree_each new old (granted left)
    (Each_map (λ c. Lacks c.cid fs) (λ c. new c
    ≡ old c) (λ c l. ap not (is_granted-both q fs c.cid f ∙ rw l (or_false (is_granted q c.cid)))) (granted left)
    each) in
    let all : Each (λ c. new c ≡ mid c) fs = each_same new mid (λ c. ap not (is_granted-both q fs c.cid f)) fs in
    let second : filter new fs ≡ [] = filter_agree_each new mid fs all ∙ own_none (λ c. is_granted q c.cid) [] fs in
    sym (ap (λ t. cids (filter new t)) (granted-free left fs free)
    ∙ ap cids (filter-append new (granted left) fs ∙ ap (λ t. filter new (granted left) ++ t) second
    ∙ append-nil (filter new (granted left)) ∙ first))
  where
    each_same : (p r : Command → Bool) → ((c : Command) → p c ≡ r c) → (cs : List Command) → Each (λ c. p c ≡ r c) cs
    each_same p r h [] = tt
    each_same p r h (c ∷ cs) = (h c, each_same p r h cs)

-- ---- one of them leaves

apart_behind : (e : List Command) (p : Command) (ys : List Command) → AreFree e ys
    → ((c : Command) → blocked e c ≡ false → meets p.slots c.slots ≡ false)
    → filter (λ c. meets p.slots c.slots) ys ≡ []
apart_behind e p [] f h = refl
apart_behind e p (c ∷ ys) f h =
    rw (h c f.0) (apart_behind (e ++ c ∷ []) p ys f.1 (λ d k. h d (blocked_first e c d k).0))

-- nobody becomes granted
pub newly-none : (q xs : List Command) (p : Command) (ys : List Command) → AreFree q (xs ++ p ∷ ys)
    → Distinct (q ++ (xs ++ p ∷ ys)) → [] ≡ newly_granted (q ++ (xs ++ p ∷ ys)) (q ++ (xs ++ ys))
newly-none q xs p ys f d =
    let bs : List Command = q ++ xs in
    let whole : q ++ (xs ++ p ∷ ys) ≡ bs ++ p ∷ ys = sym (append_assoc q xs (p ∷ ys)) in
    let rest : q ++ (xs ++ ys) ≡ bs ++ ys = sym (append_assoc q xs ys) in
    let behind : AreFree bs (p ∷ ys) = AreFree-behind q xs (p ∷ ys) f in
    let after : AreFree bs ys = AreFree-fewer (bs ++ p ∷ []) bs ys (λ c k. (blocked_first bs p c k).0) behind.1 in
    let t : Command → Bool = λ c. meets p.slots c.slots in
    let none : filter t (granted (bs ++ ys)) ≡ [] =
    ap (filter t) (granted-free bs ys after)
    ∙ filter-append t (granted bs) ys
    ∙ rw (granted_apart bs p behind.0)
    (apart_behind (bs ++ p ∷ []) p ys behind.1 (λ c k. (blocked_first bs p c k).1)) in
    sym (ap (λ l. newly_granted l (q ++ (xs ++ ys))) whole ∙ ap (newly_granted (bs ++ p ∷ ys)) rest
    ∙ newly-around bs p ys (subst Distinct whole d) behind.0 ∙ ap cids none)

pub without-one : (q xs : List Command) (p : Command) (ys : List Command) → Distinct (q ++ (xs ++ p ∷ ys))
    → q ++ (xs ++ ys) ≡ without p.cid (q ++ (xs ++ p ∷ ys))
without-one q xs p ys d =
    let whole : q ++ (xs ++ p ∷ ys) ≡ (q ++ xs) ++ p ∷ ys = sym (append_assoc q xs (p ∷ ys)) in
    sym (ap (without p.cid) whole ∙ without-around (q ++ xs) p ys (subst Distinct whole d) ∙ append_assoc q xs ys)

-- ---- the positions of such commands

pub any_number : (x : ℕ) (ls : List Lone) → list_any (λ one. eqb x one.cid) ls ≡ contains x (cids (lones ls))
any_number x [] = refl
any_number x (l ∷ ls) = ap (λ b. eqb x l.cid || b) (any_number x ls)

slot_step : (a : Bool) → (a || false || false) ≡ a
slot_step true = refl
slot_step false = refl

pub any_slot : (s n : ℕ) (ls : List Lone)
    → list_any (λ one. eqb one.slot s) ls ≡ blocked (lones ls) (alone record { cid = n; slot = s })
any_slot s n [] = refl
any_slot s n (l ∷ ls) =
    let ih : list_any (λ one. eqb one.slot s) ls ≡ blocked (lones ls) (alone record { cid = n; slot = s }) =
    any_slot s n ls in
    rw ih (ap (λ b. b || blocked (lones ls) (alone record { cid = n; slot = s })) (sym (slot_step (eqb l.slot s))))

-- the one that was found, and those around it
pub record Found (x : ℕ) (ls : List Lone) (i : ℕ) : Type 0 where
  pub one : Lone
  pub number : one.cid ≡ x
  pub around : ls ≡ take i ls ++ one ∷ drop (suc i) ls

found_step : (x i : ℕ) (l : Lone) (ls : List Lone) (b : Bool) → eqb l.cid x ≡ b
    → cond (not b) (1 + prefix_len (λ one. not (eqb one.cid x)) ls) 0 ≡ i → i < length (l ∷ ls)
    → ((j : ℕ) → prefix_len (λ one. not (eqb one.cid x)) ls ≡ j → j < length ls → Found x ls j) → Found x (l ∷ ls) i
found_step x i l ls true h e lt rest =
    subst (Found x (l ∷ ls)) e record { one = l; number = eqb-true l.cid x h; around = refl }
found_step x i l ls false h e lt rest =
    let n : ℕ = prefix_len (λ one. not (eqb one.cid x)) ls in
    let f = rest n refl (omega (arith, e, lt)) in
    let same : suc n ≡ i = omega (arith, e) in
    subst (Found x (l ∷ ls)) same record { one = f.one; number = f.number; around = ap (λ t. l ∷ t) f.around }

found_first : (x : ℕ) (ls : List Lone) (i : ℕ) → prefix_len (λ one. not (eqb one.cid x)) ls ≡ i → i < length ls
    → Found x ls i
found_first x [] i e lt = absurd (omega (arith, lt))
found_first x (l ∷ ls) i e lt = found_step x i l ls (eqb l.cid x) refl e lt (λ j. found_first x ls j)

place_step : (x : ℕ) (ls : List Lone) (n i : ℕ) (b : Bool) → prefix_len (λ one. not (eqb one.cid x)) ls ≡ n
    → ltb n (length ls) ≡ b → cond b (Some n) None ≡ Some i → Found x ls i
place_step x ls n i true e h k =
    let same : n ≡ i = cc in
    let lt : n < length ls = grind (arith, nat_tests, h) in
    found_first x ls i (e ∙ same) (omega (arith, lt, same))
place_step x ls n i false e h k = absurd (cc)

pub found : (x : ℕ) (ls : List Lone) (i : ℕ) → position (λ one. eqb one.cid x) ls ≡ Some i → Found x ls i
found x ls i e = let n : ℕ = prefix_len (λ one. not (eqb one.cid x)) ls in
    place_step x ls n i (ltb n (length ls)) refl refl e

lacks_step : (x : ℕ) (l : Lone) (ls : List Lone) (b : Bool) → eqb l.cid x ≡ b
    → length (l ∷ ls) ≤ cond (not b) (1 + prefix_len (λ one. not (eqb one.cid x)) ls) 0
    → (length ls ≤ prefix_len (λ one. not (eqb one.cid x)) ls → Lacks x (lones ls)) → Lacks x (lones (l ∷ ls))
lacks_step x l ls true h le rest = absurd (omega (arith, le))
lacks_step x l ls false h le rest =
    let other : eqb x l.cid ≡ false = same_eqb x l.cid ∙ h in
    let ih : Lacks x (lones ls) = rest (omega (arith, le)) in
    rw other ih

lacks_all : (x : ℕ) (ls : List Lone) → length ls ≤ prefix_len (λ one. not (eqb one.cid x)) ls → Lacks x (lones ls)
lacks_all x [] le = refl
lacks_all x (l ∷ ls) le = lacks_step x l ls (eqb l.cid x) refl le (lacks_all x ls)

none_step : (x : ℕ) (ls : List Lone) (n : ℕ) (b : Bool) → prefix_len (λ one. not (eqb one.cid x)) ls ≡ n
    → ltb n (length ls) ≡ b → cond b (Some n) None ≡ None → Lacks x (lones ls)
none_step x ls n true e h k = absurd (cc)
none_step x ls n false e h k = let le : length ls ≤ n = grind (arith, nat_tests, h) in
    lacks_all x ls (omega (arith, le, e))

pub not_found : (x : ℕ) (ls : List Lone) → position (λ one. eqb one.cid x) ls ≡ None → Lacks x (lones ls)
not_found x ls e = let n : ℕ = prefix_len (λ one. not (eqb one.cid x)) ls in
    none_step x ls n (ltb n (length ls)) refl refl e

-- ---- what the calls of `Asked` need

pub asked-lone : (q : List Command) (ls : List Lone) (x : ℕ) → list_any (λ one. eqb x one.cid) ls ≡ true
    → true ≡ is_asked (q ++ lones ls) x
asked-lone q ls x h =
    sym (is_asked-both q (lones ls) x ∙ ap (λ b. is_asked q x || b) (sym (any_number x ls) ∙ h)
    ∙ or_true (is_asked q x))

pub asked-queued : (q : List Command) (ls : List Lone) (x : ℕ) → list_any (λ one. eqb x one.cid) ls ≡ false
    → is_asked q x ≡ is_asked (q ++ lones ls) x
asked-queued q ls x h =
    sym (is_asked-both q (lones ls) x ∙ ap (λ b. is_asked q x || b) (sym (any_number x ls) ∙ h)
    ∙ or_false (is_asked q x))

pub granted-lone : (q : List Command) (ls : List Lone) (x : ℕ) → AreFree q (lones ls)
    → list_any (λ one. eqb x one.cid) ls ≡ true → true ≡ is_granted (q ++ lones ls) x
granted-lone q ls x f h =
    sym (is_granted-both q (lones ls) x f ∙ ap (λ b. is_granted q x || b) (sym (any_number x ls) ∙ h)
    ∙ or_true (is_granted q x))

pub granted-queued : (q : List Command) (ls : List Lone) (x : ℕ) → AreFree q (lones ls)
    → list_any (λ one. eqb x one.cid) ls ≡ false → is_granted q x ≡ is_granted (q ++ lones ls) x
granted-queued q ls x f h =
    sym (is_granted-both q (lones ls) x f ∙ ap (λ b. is_granted q x || b) (sym (any_number x ls) ∙ h)
    ∙ or_false (is_granted q x))

pub free-slot : (q : List Command) (ls : List Lone) (s : ℕ) → q ≡ [] → list_any (λ one. eqb one.slot s) ls ≡ false
    → blocked (q ++ lones ls) (alone record { cid = 0; slot = s }) ≡ false
free-slot q ls s e h =
    ap (λ t. blocked (t ++ lones ls) (alone record { cid = 0; slot = s })) e ∙ (sym (any_slot s 0 ls) ∙ h)

-- one more
pub record Pushed (q : List Command) (items : List Lone) (x : ℕ) : Type 0 where
  pub free : AreFree q (lones items)
  pub distinct : Distinct (q ++ lones items)
  pub granted : is_granted (q ++ lones items) x ≡ true

pub pushed : (q : List Command) (ls items : List Lone) (l : Lone) → items ≡ ls ++ l ∷ [] → AreFree q (lones ls)
    → Distinct (q ++ lones ls) → Lacks l.cid (q ++ lones ls) → blocked (q ++ lones ls) (alone l) ≡ false
    → Pushed q items l.cid
pushed q ls items l e f d lacks b =
    let more : lones items ≡ lones ls ++ alone l ∷ [] = ap lones e ∙ map-append alone ls (l ∷ []) in
    let free : AreFree q (lones ls ++ alone l ∷ []) = AreFree-push q (lones ls) (alone l) f b in
    let distinct : Distinct ((q ++ lones ls) ++ alone l ∷ []) = Distinct-push (q ++ lones ls) (alone l) d lacks in
    let there : contains l.cid (cids (lones ls ++ alone l ∷ [])) ≡ true =
    is_asked-both (lones ls) (alone l ∷ []) l.cid ∙ rw (eqb_self l.cid) (or_true (is_asked (lones ls) l.cid)) in
    record {
      free = subst (AreFree q) (sym more) free;
      distinct = subst (λ t. Distinct (q ++ t)) (sym more)
          (subst Distinct (append_assoc q (lones ls) (alone l ∷ [])) distinct);
      granted = ap (λ t. is_granted (q ++ t) l.cid) more
          ∙ (is_granted-both q (lones ls ++ alone l ∷ []) l.cid free ∙ ap (λ b. is_granted q l.cid || b) there
          ∙ or_true (is_granted q l.cid));
    }

-- one that left
pub record Taken (q : List Command) (ls items : List Lone) (x : ℕ) : Type 0 where
  pub free : AreFree q (lones items)
  pub left : q ++ lones items ≡ without x (q ++ lones ls)
  pub distinct : Distinct (q ++ lones items)
  pub freed : [] ≡ newly_granted (q ++ lones ls) (q ++ lones items)

pub taken : (q : List Command) (ls items : List Lone) (x i : ℕ) → position (λ one. eqb one.cid x) ls ≡ Some i
    → items ≡ take i ls ++ drop (suc i) ls → AreFree q (lones ls) → Distinct (q ++ lones ls) → Taken q ls items x
taken q ls items x i at e f d =
    let p = found x ls i at in
    let xs : List Command = lones (take i ls) in
    let ys : List Command = lones (drop (suc i) ls) in
    let one : Command = alone p.one in
    let old : lones ls ≡ xs ++ one ∷ ys = ap lones p.around ∙ map-append alone (take i ls) (p.one ∷ drop (suc i) ls) in
    let new : lones items ≡ xs ++ ys = ap lones e ∙ map-append alone (take i ls) (drop (suc i) ls) in
    let free : AreFree q (xs ++ one ∷ ys) = subst (AreFree q) old f in
    let apart : Distinct (q ++ (xs ++ one ∷ ys)) = subst (λ t. Distinct (q ++ t)) old d in
    let left : q ++ lones items ≡ without x (q ++ lones ls) =
    ap (λ t. q ++ t) new ∙ without-one q xs one ys apart ∙ ap (λ n. without n (q ++ (xs ++ one ∷ ys))) p.number
    ∙ ap (λ t. without x (q ++ t)) (sym old) in
    record {
      free = subst (AreFree q) (sym new) (AreFree-drop q xs one ys free);
      left = left;
      distinct = subst Distinct (sym left) (Distinct-filter (λ c. not (eqb x c.cid)) (q ++ lones ls) d);
      freed = newly-none q xs one ys free apart
          ∙ (ap (λ t. newly_granted (q ++ t) (q ++ (xs ++ ys))) (sym old)
          ∙ ap (λ t. newly_granted (q ++ lones ls) (q ++ t)) (sym new));
    }

-- one of the queues that left
pub record Left (q now : List Command) (ls : List Lone) (x : ℕ) : Type 0 where
  pub free : AreFree now (lones ls)
  pub left : now ++ lones ls ≡ without x (q ++ lones ls)
  pub distinct : Distinct (now ++ lones ls)
  pub freed : newly_granted q now ≡ newly_granted (q ++ lones ls) (now ++ lones ls)

pub leaves : (q now : List Command) (ls : List Lone) (x : ℕ) → position (λ one. eqb one.cid x) ls ≡ None
    → now ≡ without x q → AreFree q (lones ls) → Distinct (q ++ lones ls) → Left q now ls x
leaves q now ls x at e f d =
    let left : now ++ lones ls ≡ without x (q ++ lones ls) =
    ap (λ t. t ++ lones ls) e ∙ sym (without-both x q (lones ls) (not_found x ls at)) in
    record {
      free = subst (λ t. AreFree t (lones ls)) (sym e) (AreFree-filter (λ c. not (eqb x c.cid)) q (lones ls) f);
      left = left;
      distinct = subst Distinct (sym left) (Distinct-filter (λ c. not (eqb x c.cid)) (q ++ lones ls) d);
      freed = ap (newly_granted q) e ∙ newly-both x q (lones ls) f d
          ∙ ap (λ t. newly_granted (q ++ lones ls) (t ++ lones ls)) (sym e);
    }

pub granted-in-queue : (q : List Command) (ls : List Lone) (x : ℕ) → position (λ one. eqb one.cid x) ls ≡ None
    → AreFree q (lones ls) → is_granted (q ++ lones ls) x ≡ true → is_granted q x ≡ true
granted-in-queue q ls x at f g =
    sym (or_false (is_granted q x)) ∙ ap (λ b. is_granted q x || b) (sym (not_found x ls at))
    ∙ sym (is_granted-both q (lones ls) x f) ∙ g

-- the first of them is none of the queues'
pub absent-first : (q : List Command) (l : Lone) (ls : List Lone) → Distinct (q ++ lones (l ∷ ls))
    → is_asked q l.cid ≡ false
absent-first q l ls d = (Distinct-around q (alone l) (lones ls) d).0

pub moved-distinct : (q : List Command) (p : Command) (fs : List Command) → Distinct (q ++ p ∷ fs)
    → Distinct ((q ++ p ∷ []) ++ fs)
moved-distinct q p fs d = subst Distinct (sym (append_assoc q (p ∷ []) fs)) d

-- where none of them is left, a command joins the queues, or memory is refused
pub queued : (q now : List Command) (ls : List Lone) (c : Command) (r : Result Bool Fault) → ls ≡ []
    → Distinct (q ++ lones ls) → is_asked (q ++ lones ls) c.cid ≡ false → IfOk r (λ b. now ≡ q ++ c ∷ [])
    → OnErr r (now ≡ q)
    → AreFree now (lones ls) × Distinct (now ++ lones ls)
queued q now ls c r e d l ok err = (
  subst (λ t. AreFree now (lones t)) (sym e) tt,
  subst (λ t. Distinct (now ++ lones t)) (sym e) (subst Distinct (sym (append-nil now)) (either r ok err)),
)
  where
    whole : q ++ lones ls ≡ q
    whole = ap (λ t. q ++ lones t) e ∙ append-nil q

    either : (r : Result Bool Fault) → IfOk r (λ b. now ≡ q ++ c ∷ []) → OnErr r (now ≡ q) → Distinct now
    either (Ok b) ok err =
        subst Distinct (sym ok) (Distinct-push q c (subst Distinct whole d) (subst (Lacks c.cid) whole l))
    either (Err f) ok err = subst Distinct (sym err) (subst Distinct whole d)

pub starts : (ls : List Lone) (x : Lone) → slice_get ls 0 ≡ Some x → ls ≡ x ∷ drop 1 ls
starts [] x e = absurd (cc)
starts (l ∷ ls) x e = let same : l ≡ x = cc in ap (λ t. t ∷ ls) same

pub is_false : (b : Bool) → IsTrue (not b) → b ≡ false
is_false true h = absurd (cc)
is_false false h = refl
