-- What the walk of a scan comes to, part by part.
use Rattle.std.proofs.Common.{◌≡◌, ◌⊎◌, ℕ, ◌-◌, ◌<◌, ◌≤◌, ◌&&◌, inl, inr, Bool, true, false, cond, List, [], ◌∷◌, ◌++◌, length, nat_lt, Option, Some, None, Result, Ok, Err, IsTrue, refl, sym, ap, subst, ◌∙◌, arith}
use Rattle.std.proofs.lemmas.Bool.{cases_Bool, ltb-true, ltb-false}
use Rattle.tx_types.specs.declared.key.Key.{Key}
use Rattle.tx_types.specs.declared.mutation.KeyValue.{KeyValue}
use Rattle.tx_types.specs.Keys.{key_lt, key_le, is_between, AreRising}
use Rattle.tx_plan.specs.declared.body.Body.{Body}
use Rattle.tx_plan.specs.declared.body.Body.TheVariants as body
use Rattle.tx_plan.specs.declared.answer.Answer.{Answer}
use Rattle.tx_plan.specs.declared.answer.Answer.TheVariants as answer
use Rattle.tx_plan.proofs.KeyOrder.{lt_trans, lt_le, le_cases, le_lt, lt_then_le, not_lt}
use Rattle.tx_machine.specs.Machine.{SeesRows, table_of}
use Rattle.tx_core.specs.Histories.{History, Begins}
use Rattle.tx_core.specs.Shadow.{shadow}
use Rattle.tx_core.specs.Worlds.{IsWorldRun}
use Rattle.tx_core.proofs.seats.Beginnings.{begins_all, begins_more, extends_begins}
use Rattle.tx_core.proofs.seats.Stays.{among_on}
use Rattle.tx_journal.specs.Known.{Known}
use Rattle.tx_journal.specs.Replies.{Asked, Given}
use Rattle.tx_transaction.specs.declared.state.Miss.{Miss}
use Rattle.tx_transaction.specs.declared.state.Miss.TheVariants as miss
use Rattle.tx_transaction.specs.Sessions.{SessionState, scan_of, after_read}
use Rattle.tx_transaction.specs.Returns.{Response}
use Rattle.tx_journal.specs.Senders.{Reached, IsSender}
use Rattle.tx_client.specs.Learns.{response_by, response_of, Learns}
use Rattle.tx_client.specs.Walks.{Walk, asks, grows, ends, then_walk, Sends, look_part, part_by, part_walk, enough, scan_after, scan_from, scan_walk, lesser, greater}
use Rattle.tx_client.specs.Facts.{WasAnswered, RespondsSo}
use Rattle.tx_client.proofs.Calls.{came_told}
use Rattle.tx_laws.specs.Scans.{scan_at, SeesWhole}
use Rattle.tx_laws.proofs.LaterReads.{rows_seen}
use Rattle.tx_laws.proofs.RangeParts.{Has, SoFar, none_yet, all_seen, passed_by, joined_more, joined_full}

-- ---- the greater and the lesser of two keys

le_trans : (i j k : Key) → IsTrue (key_le i j) → IsTrue (key_le j k) → IsTrue (key_le i k)
le_trans i j k p q = elim (le_cases i j p) [
  | inl x ↦ lt_le i k (lt_then_le i j k x q)
  | inr e ↦ subst (λ x. IsTrue (key_le x k)) (sym e) q
]

greater_le : (j k x : Key) → IsTrue (key_le j x) → IsTrue (key_le k x) → IsTrue (key_le (greater j k) x)
greater_le j k x p q = go (key_lt j k)
  where
    go : (b : Bool) → IsTrue (key_le (cond b k j) x)
    go true = q
    go false = p

greater_both : (j k x : Key) → IsTrue (key_le (greater j k) x) → IsTrue (key_le j x) × IsTrue (key_le k x)
greater_both j k x = go (key_lt j k) refl
  where
    go : (b : Bool) → key_lt j k ≡ b → IsTrue (key_le (cond b k j) x) → IsTrue (key_le j x) × IsTrue (key_le k x)
    go true e le = (le_trans j k x (lt_le j k e) le, le)
    go false e le = (le, le_trans k j x (not_lt j k e) le)

lesser_lt : (j k x : Key) → IsTrue (key_lt x j) → IsTrue (key_lt x k) → IsTrue (key_lt x (lesser j k))
lesser_lt j k x p q = go (key_lt k j)
  where
    go : (b : Bool) → IsTrue (key_lt x (cond b k j))
    go true = q
    go false = p

lesser_both : (j k x : Key) → IsTrue (key_lt x (lesser j k)) → IsTrue (key_lt x j) × IsTrue (key_lt x k)
lesser_both j k x = go (key_lt k j) refl
  where
    go : (b : Bool) → key_lt k j ≡ b → IsTrue (key_lt x (cond b k j)) → IsTrue (key_lt x j) × IsTrue (key_lt x k)
    go true e lt = (lt_trans x k j lt e, lt)
    go false e lt = (lt, lt_then_le x j k lt (not_lt k j e))

between_both : (low high k : Key) → IsTrue (is_between low high k) → IsTrue (key_le low k) × IsTrue (key_lt k high)
between_both low high k e = split (key_le low k) (key_lt k high) e
  where
    split : (b c : Bool) → (b && c) ≡ true → (b ≡ true) × (c ≡ true)
    split true c e = (refl, e)
    split false c e = absurd (cc (e))

between : (low high k : Key) → IsTrue (key_le low k) → IsTrue (key_lt k high) → IsTrue (is_between low high k)
between low high k p q = rw (p, q) refl

-- ---- answers

abbrev is_rows : Answer → Bool
is_rows (answer.Rows rows) = true
is_rows _ = false

abbrev rows_in : Answer → List KeyValue
rows_in (answer.Rows rows) = rows
rows_in _ = []

abbrev answered : Result Answer Miss → Answer
answered (Ok a) = a
answered (Err why) = answer.Nothing

-- a walk that ended otherwise did not end with rows
other_end : (after t : SessionState) (all : List KeyValue) (a : Answer) → is_rows a ≡ false
    → ◌≡◌ {A = SessionState × Result Answer Miss} (after, Ok (answer.Rows all)) (t, Ok a) → ⊥
other_end after t all a other e =
    let same : answer.Rows all ≡ a = ap (λ (x : SessionState × Result Answer Miss). answered x.1) e in
    let rows_too : true ≡ is_rows a = ap is_rows same in
    cc (rows_too, other)

missed_end : (after t : SessionState) (all : List KeyValue) (why : Miss)
    → ◌≡◌ {A = SessionState × Result Answer Miss} (after, Ok (answer.Rows all)) (t, Err why) → ⊥
missed_end after t all why e =
    let same : Ok (answer.Rows all) ≡ Err why = ap (λ (x : SessionState × Result Answer Miss). x.1) e in
    cc (same)

rows_end : (after t : SessionState) (all rows : List KeyValue)
    → ◌≡◌ {A = SessionState × Result Answer Miss} (after, Ok (answer.Rows all)) (t, Ok (answer.Rows rows)) → all ≡ rows
rows_end after t all rows e = ap (λ (x : SessionState × Result Answer Miss). rows_in (answered x.1)) e

-- an answer is to the request that was sent
abbrev AnswersAsked : {S : Type 0} → (S → Asked → Reached → S → Type 0) → Type 0
AnswersAsked {S} sends = (a b : S) (q : Asked) (g : Given) → sends a q (Ok g) b → g.request ≡ q

module _ {S : Type 0} (sends : S → Asked → Reached → S → Type 0) (bounds : List Key) where
  -- what a seat learns begins with what it knew
  learnt : (k new : Known) (reached : Reached) → Learns bounds k reached new → Begins k.events new.events
  learnt k new (Err l) same = subst (λ (x : Known). Begins k.events x.events) (sym same) (begins_all k.events)
  learnt k new (Ok g) learns = extends_begins k.seat k.events new.events learns.2.extends

  pub later : {R : Type 0} (w : Walk R) (r : R) (k new : Known) (a b : S) → Sends sends bounds k a w r b new
      → Begins k.events new.events
  later (ends x) r k new a b sent = subst (λ (y : Known). Begins k.events y.events) (sym sent.2) (begins_all k.events)
  later (grows more short) r k new a b sent =
      elim sent [ inl x ↦ later short r k new a b x | inr x ↦ later more r k new a b x ]
  later (asks body more) r k new a b (reached, mid, then_known, sent, learns, rest) =
      begins_more k.events then_known.events new.events (learnt k then_known reached learns)
      (later (more (response_of reached)) r then_known new mid b rest)

  module _ (to_it : AnswersAsked sends) (k new : Known) (a b : S) (s after : SessionState) (low high : Key) (limit :
      ℕ) (rows all : List KeyValue) (on : SessionState → List KeyValue → Walk (SessionState × Result Answer Miss)) where
    -- the read of the part
    abbrev asked : Body
    asked = scan_of s low high (limit - length rows)

    -- A part has no keys; or its rows are not enough and the scan goes on; or they are.
    pub data PartGives : Type 0 where
      Empty : (none : key_lt low high
          ≡ false) (rest : Sends sends bounds k a (on s rows) (after, Ok (answer.Rows all)) b new) → PartGives
      Goes : (found : List KeyValue) (t : SessionState) (then_known : Known) (mid : S) (same : t.start
          ≡ s.start) (told : WasAnswered then_known.events asked (answer.Rows found))
          (short : length (rows ++ found) < limit) (rest :
          Sends sends bounds then_known mid (on t (rows ++ found)) (after, Ok (answer.Rows all)) b new) → PartGives
      Enough : (found : List KeyValue) (then_known : Known) (told :
          WasAnswered then_known.events asked (answer.Rows found)) (begins : Begins then_known.events new.events)
          (full : limit ≤ length (rows ++ found)) (is : all ≡ rows ++ found) → PartGives

    -- what follows of what came
    abbrev follows : Response → Walk (SessionState × Result Answer Miss)
    follows c = scan_after (after_read s c) (part_by limit rows c) on

    joined : (then_known : Known) (mid : S) (found : List KeyValue) (t : SessionState) → t.start ≡ s.start
        → WasAnswered then_known.events asked (answer.Rows found)
        → Sends sends bounds then_known mid (scan_after t (enough limit (rows ++ found)) on) (
          after,
          Ok (answer.Rows all),
        ) b new → PartGives
    joined then_known mid found t same told sent = elim (cases_Bool (nat_lt (length (rows ++ found)) limit)) [
      | inl short ↦ (let rest :
          Sends sends bounds then_known mid (on t (rows ++ found)) (after, Ok (answer.Rows all)) b new =
          rw short at sent in
          Goes found t then_known mid same told (ltb-true (length (rows ++ found)) limit short) rest)
      | inr full ↦ (let rest :
          Sends sends bounds then_known mid (ends (t, Ok (answer.Rows (rows ++ found)))) (
            after,
            Ok (answer.Rows all),
          ) b new = rw full at sent in
          Enough found then_known told
          (subst (λ (y : Known). Begins then_known.events y.events) (sym rest.2) (begins_all then_known.events))
          (ltb-false (length (rows ++ found)) limit full) (rows_end after t all (rows ++ found) rest.0))
    ]

    by_answer : (then_known : Known) (mid : S) (x : Answer) → WasAnswered then_known.events asked x
        → Sends sends bounds then_known mid (follows (Ok x)) (after, Ok (answer.Rows all)) b new
        → PartGives
    by_answer then_known mid (answer.Rows found) told sent =
        joined then_known mid found (after_read s (Ok (answer.Rows found))) refl told sent
    by_answer then_known mid x told sent =
        absurd (other_end after (after_read s (Ok x)) all x refl sent.0)

    by_reply : (then_known : Known) (mid : S) (o : Option Answer) → RespondsSo then_known.events asked (response_by o)
        → Sends sends bounds then_known mid (follows (response_by o)) (after, Ok (answer.Rows all)) b new → PartGives
    by_reply then_known mid None told sent = absurd (missed_end after s all miss.Fault sent.0)
    by_reply then_known mid (Some x) told sent = by_answer then_known mid x told sent

    by_reached : (then_known : Known) (mid : S) (reached : Reached)
        → sends a (record { by = k.events; body = asked }) reached mid → Learns bounds k reached then_known
        → Sends sends bounds then_known mid (follows (response_of reached)) (after, Ok (answer.Rows all)) b new
        → PartGives
    by_reached then_known mid (Err l) sent learns rest = absurd (missed_end after s all _ rest.0)
    by_reached then_known mid (Ok g) sent learns rest =
        by_reply then_known mid g.answer
        (came_told bounds g asked then_known.events learns.4
        (ap (λ (q : Asked). q.body) (to_it a mid (record { by = k.events; body = asked }) g sent)) learns.3) rest

    by_part : (sent : Sends sends bounds k a (then_walk (look_part s asked limit rows) (λ x. scan_after x.0 x.1 on))
        (after, Ok (answer.Rows all)) b new) → PartGives
    by_part (reached, mid, then_known, sent, learns, rest) = by_reached then_known mid reached sent learns rest

    pub part_gives : Sends sends bounds k a (then_walk (part_walk s low high limit rows) (λ x. scan_after x.0 x.1 on))
        (after, Ok (answer.Rows all)) b new → PartGives
    part_gives sent = elim sent [
      | inl short ↦ absurd (missed_end after s all miss.Fault short.0)
      | inr more ↦ elim (cases_Bool (key_lt low high)) [
        | inl some ↦ by_part (let read :
            Sends sends bounds k a (then_walk (look_part s asked limit rows) (λ x. scan_after x.0 x.1 on)) (
              after,
              Ok (answer.Rows all),
            ) b new = rw some at more in read)
        | inr none ↦ Empty none (let rest : Sends sends bounds k a (on s rows) (after, Ok (answer.Rows all)) b new =
            rw none at more in rest)
      ]
    ]

-- ---- the parts in order

rising_rest : (b : Key) (bs : List Key) → AreRising (b ∷ bs) → AreRising bs
rising_rest b [] r = tt
rising_rest b (c ∷ cs) r = r.1

module _ {S : Type 0} (sends : S → Asked → Reached → S → Type 0) (bounds : List Key) (to_it : AnswersAsked sends)
    (h : History) (run : IsWorldRun bounds h) (new : Known) (goes : Begins new.events h) (b : S) (after : SessionState)
    (start : ℕ) (from to : Key) (limit : ℕ) (all : List KeyValue) where
  abbrev Whole : Type 0
  Whole = SeesRows (table_of (shadow h)).row (scan_at start from to limit all)

  abbrev Upto : (Key → Type 0) → List KeyValue → Type 0
  Upto passed rows = SoFar (table_of (shadow h)).row from to start limit passed rows

  abbrev Below : Key → Key → Type 0
  Below border k = IsTrue (key_lt k border)

  -- the rows of a part are what is seen there
  part_seen : (l : History) → Begins l h → (s : SessionState) → s.start ≡ start
      → (low high : Key) (rows found : List KeyValue)
      → WasAnswered l (scan_of s low high (limit - length rows)) (answer.Rows found)
      → SeesRows (table_of (shadow h)).row record {
        from = low;
        to = high;
        at = start;
        limit = limit - length rows;
        rows
            = found;
      }
  part_seen l begins s same low high rows found told =
      subst (λ n. SeesRows (table_of (shadow h)).row record {
        from = low;
        to = high;
        at = n;
        limit =
            limit - length rows;
        rows = found;
      }) same
      (rows_seen bounds h run told.by (among_on l h begins _ told.among) _ found told.asked told.told)

  -- the keys of a part lie in the range, from its border on
  inside : (border high k : Key) → ((x : Key) → IsTrue (key_lt x high) → IsTrue (key_lt x to))
      → IsTrue (is_between (greater from border) high k) → IsTrue (is_between from to k) × IsTrue (key_le border k)
  inside border high k upto e =
      let ends_at = between_both (greater from border) high k e in
      let above = greater_both from border k ends_at.0 in
      (between from to k above.0 (upto k ends_at.1), above.1)

  lands : (border high k : Key) → IsTrue (is_between from to k) → IsTrue (key_le border k) → IsTrue (key_lt k high)
      → IsTrue (is_between (greater from border) high k)
  lands border high k e above below =
      between (greater from border) high k (greater_le from border k (between_both from to k e).0 above) below

  -- a key of the range is below the border, or from it on
  side : (border k : Key) → Below border k ⊎ IsTrue (key_le border k)
  side border k = elim (cases_Bool (key_lt k border)) [ inl e ↦ inl e | inr e ↦ inr (not_lt k border e) ]

  none_there : (border high k : Key) → key_lt (greater from border) high ≡ false
      → IsTrue (is_between (greater from border) high k) → ⊥
  none_there border high k none e =
      let ends_at = between_both (greater from border) high k e in
      let some : key_lt (greater from border) high ≡ true = le_lt (greater from border) k high ends_at.0 ends_at.1 in
      cc (none, some)

  same_rows : (rows : List KeyValue) → all ≡ rows
      → SeesRows (table_of (shadow h)).row (scan_at start from to limit rows) → Whole
  same_rows rows is seen =
      subst (λ (l : List KeyValue). SeesRows (table_of (shadow h)).row (scan_at start from to limit l)) (sym is) seen

  -- the last part
  last_part : (low : Key) (s : SessionState) → s.start ≡ start → (rows : List KeyValue) → Upto (Below low) rows
      → (k : Known) (a : S)
      → PartGives sends bounds to_it k new a b s after (greater from low) to limit rows all
      (λ t more. ends (t, Ok (answer.Rows more))) → Whole
  last_part low s same rows so_far k a (Empty none rest) =
      same_rows rows (rows_end after s all rows rest.0)
      (all_seen (table_of (shadow h)).row from to start limit rows
      (passed_by (table_of (shadow h)).row from to start limit (Below low) (λ x. Unit {0}) rows so_far (λ x has. tt)
      (λ x e here. elim (side low x) [
        | inl below ↦ below
        | inr above ↦ absurd (none_there low to x none (lands low to x e above (between_both from to x e).1))
      ])))
  last_part low s same rows so_far k a (Goes found t then_known mid kept told short rest) =
      let begins : Begins then_known.events h =
      begins_more then_known.events new.events h
      (later sends bounds (ends (t, Ok (answer.Rows (rows ++ found)))) (
        after,
        Ok (answer.Rows all),
      ) then_known new mid b rest) goes in
      same_rows (rows ++ found) (rows_end after t all (rows ++ found) rest.0)
      (all_seen (table_of (shadow h)).row from to start limit (rows ++ found)
      (joined_more (table_of (shadow h)).row from to start limit low (greater from low) to rows found so_far
      (part_seen then_known.events begins s same (greater from low) to rows found told)
      (λ x e. inside low to x (λ y lt. lt) e)
      (λ x. Unit {0}) short (λ x has. tt) (λ x e. tt)
      (λ x e here. elim (side low x) [
        | inl below ↦ inl below
        | inr above ↦ inr (lands low to x e above (between_both from to x e).1)
      ])))
  last_part low s same rows so_far k a (Enough found then_known told begins full is) =
      same_rows (rows ++ found) is
      (joined_full (table_of (shadow h)).row from to start limit low (greater from low) to rows found so_far
      (part_seen then_known.events (begins_more then_known.events new.events h begins goes) s same (greater from low) to
      rows found told)
      (λ x e. inside low to x (λ y lt. lt) e)
      (λ x e above below. lands low to x e above below) full)

  -- a part before the last
  module _ (low bound : Key) (bs : List Key) (s : SessionState) (same : s.start
      ≡ start) (rows : List KeyValue) (so_far : Upto (Below low) rows)
      (ordered : (x : Key) → Has rows x → AreRising (low ∷ bound ∷ bs))
      (rest_is : (t : SessionState) → t.start ≡ start → (more : List KeyValue) → Upto (Below bound) more
      → (k : Known) (a : S)
      → Sends sends bounds k a (scan_from from to limit bound bs t more) (after, Ok (answer.Rows all)) b new
      → Whole) where
    abbrev high : Key
    high = lesser to bound

    -- rows so far lie below the next border
    old_below : (x : Key) → Has rows x → Below bound x
    old_below x has = lt_trans x low bound (so_far.within x has).1 (ordered x has).0

    upto_high : (x : Key) → IsTrue (key_lt x high) → IsTrue (key_lt x to)
    upto_high x lt = (lesser_both to bound x lt).0

    there : (x : Key) → IsTrue (is_between from to x) → Below bound x → IsTrue (key_le low x)
        → IsTrue (is_between (greater from low) high x)
    there x e below above = lands low high x e above (lesser_lt to bound x (between_both from to x e).1 below)

    next_part : (k : Known) (a : S)
        → PartGives sends bounds to_it k new a b s after (greater from low) high limit rows all
        (scan_from from to limit bound bs) → Whole
    next_part k a (Empty none rest) =
        rest_is s same rows
        (passed_by (table_of (shadow h)).row from to start limit (Below low) (Below bound) rows so_far old_below
        (λ x e here. elim (side low x) [
          | inl below ↦ below
          | inr above ↦ absurd (none_there low high x none (there x e here above))
        ]))
        k a rest
    next_part k a (Goes found t then_known mid kept told short rest) =
        let begins : Begins then_known.events h =
        begins_more then_known.events new.events h
        (later sends bounds (scan_from from to limit bound bs t (rows ++ found)) (
          after,
          Ok (answer.Rows all),
        ) then_known new mid b rest) goes in
        rest_is t (kept ∙ same) (rows ++ found)
        (joined_more (table_of (shadow h)).row from to start limit low (greater from low) high rows found so_far
        (part_seen then_known.events begins s same (greater from low) high rows found told)
        (λ x e. inside low high x upto_high e)
        (Below bound) short old_below (λ x e. (lesser_both to bound x (between_both (greater from low) high x e).1).1)
        (λ x e here. elim (side low x) [ inl below ↦ inl below | inr above ↦ inr (there x e here above) ]))
        then_known mid rest
    next_part k a (Enough found then_known told begins full is) =
        same_rows (rows ++ found) is
        (joined_full (table_of (shadow h)).row from to start limit low (greater from low) high rows found so_far
        (part_seen then_known.events (begins_more then_known.events new.events h begins goes) s same (greater from low)
        high rows found told)
        (λ x e. inside low high x upto_high e)
        (λ x e above below. lands low high x e above below) full)

  scans : (low : Key) (bs : List Key) → AreRising bs → (s : SessionState) → s.start ≡ start → (rows : List KeyValue)
      → Upto (Below low) rows → ((x : Key) → Has rows x → AreRising (low ∷ bs))
      → (k : Known) (a : S)
      → Sends sends bounds k a (scan_from from to limit low bs s rows) (after, Ok (answer.Rows all)) b new → Whole
  scans low [] rising s same rows so_far ordered k a sent =
      last_part low s same rows so_far k a
      (part_gives sends bounds to_it k new a b s after (greater from low) to limit rows all
      (λ t more. ends (t, Ok (answer.Rows more))) sent)
  scans low (bound ∷ bs) rising s same rows so_far ordered k a sent =
      next_part low bound bs s same rows so_far ordered
      (λ t is more upto l c rest. scans bound bs (rising_rest bound bs rising) t is more upto (λ x has. rising) l c
      rest)
      k a (part_gives sends bounds to_it k new a b s after (greater from low) (lesser to bound) limit rows all
      (scan_from from to limit bound bs) sent)

pub sees_whole : {S : Type 0} (bounds : List Key) (fits : S → Asked → Type 0) (sends : S → Asked → Reached → S
    → Type 0) (keys_between : S → List Key) → AreRising bounds → IsSender bounds fits sends keys_between
    → SeesWhole bounds sends
sees_whole bounds fits sends keys_between rising way old new a b s after from to limit rows h sent begins run =
    scans sends bounds (λ x y q g did. way.answers x y q g did) h run new begins b after s.start from to limit rows from
    bounds rising s refl []
    (none_yet (table_of (shadow h)).row from to s.start limit) (λ x has. absurd (cc (has.1))) old a sent
