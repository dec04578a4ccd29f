-- Collection of one key, record by record from the safe point down.
use Rattle.std.proofs.Common.{◌≡◌, ◌≢◌, ◌⊎◌, ◌↔◌, inl, inr, refl, sym, ap, ◌∙◌, subst, Bool, true, false, cond, not, List, [], ◌∷◌, length, ℕ, zero, suc, ◌+◌, ◌-◌, ◌<◌, ◌≤◌, arith, add-one, Option, Some, None}
use Rattle.std.specs.Prelude.{◌&&◌, ◌||◌, AllPairs, Contains, slice_index_or}
use Rattle.std.proofs.lemmas.Bool.{cases_Bool, and_parts, and_from, and_cases, and_left, and_right, or_cases, or_parts, lt-ltb, le-ltb, cases_lt, cases_order, not-true}
use Rattle.std.proofs.lemmas.List.{get_or_default}
use Rattle.tx_types.specs.declared.mutation.Mutation.{Mutation}
use Rattle.tx_types.specs.declared.mutation.Mutation.TheVariants.{Put, Insert, Delete, Lock}
use Rattle.tx_plan.specs.declared.key_records.RecordKind.{RecordKind}
use Rattle.tx_plan.specs.Cells.{Write, CommitOf, Rollback, Writes, is_long}
use Rattle.tx_types.specs.Keys.{is_visible}
use Rattle.tx_plan.specs.cases.Collect.{is_put, commit_is, none_above, keeps}
use Rattle.tx_plan.specs.Collection.{NoneUpto, IsNext, DroppedOn, long_among, past}
use Rattle.tx_plan.proofs.LockRows.{contains_next, contains_first, contains_cases, contains_none}

-- ---- what a record says

put_visible : (o : Option Write) → commit_is is_put o ≡ true → commit_is is_visible o ≡ true
put_visible None e = absurd (cc (e))
put_visible (Some Rollback) e = absurd (cc (e))
put_visible (Some (CommitOf rec)) e = by_mutation rec.mutation e
  where
    by_mutation : (m : Mutation) → is_put m ≡ true → is_visible m ≡ true
    by_mutation (Put v) h = refl
    by_mutation (Insert v) h = refl
    by_mutation Delete h = absurd (cc (h))
    by_mutation Lock h = absurd (cc (h))

-- ---- the records at and above one

-- a put or delete stands from low to high, both included
pub record SeenFrom (write : Writes) (low high : ℕ) : Type 0 where
  pub at : ℕ
  pub from : low ≤ at
  pub upto : at ≤ high
  pub visible : commit_is is_visible (write at) ≡ true

abbrev pub UnseenFrom : Writes → ℕ → ℕ → Type 0
UnseenFrom write low high = (q : ℕ) → low ≤ q → q ≤ high → commit_is is_visible (write q) ≡ false

none_above_from : (write : Writes) (q n : ℕ) → ((p : ℕ) → q < p → p ≤ q + n → commit_is is_visible (write p) ≡ false)
    → none_above write q n ≡ true
none_above_from write q zero h = refl
none_above_from write q (suc n) h =
    and_from (not (commit_is is_visible (write (q + suc n)))) (none_above write q n)
    (rw (h (q + suc n) (omega arith) (omega arith)) refl) (none_above_from write q n (λ p lt le. h p lt (omega arith)))

none_above_at : (write : Writes) (q n p : ℕ) → none_above write q n ≡ true → q < p → p ≤ q + n
    → commit_is is_visible (write p) ≡ false
none_above_at write q zero p h lt le = absurd (omega arith)
none_above_at write q (suc n) p h lt le =
    let both = and_parts (not (commit_is is_visible (write (q + suc n)))) (none_above write q n) h in
    elim (cases_lt p (q + suc n)) [
      | inl below ↦ none_above_at write q n p both.1 lt (omega arith)
      | inr above ↦ (let same : q + suc n ≡ p = omega arith in
          subst (λ x. commit_is is_visible (write x)
          ≡ false) same (not-true (commit_is is_visible (write (q + suc n))) both.0))
    ]

keeps_parts : (write : Writes) (safe q : ℕ) → q < safe → keeps write safe q ≡ true
    → (commit_is is_put (write q) ≡ true) × (none_above write q (safe - q) ≡ true)
keeps_parts write safe q lt e =
    and_parts (commit_is is_put (write q)) (none_above write q (safe - q)) (let below = lt-ltb q safe lt in
    rw below at e)

-- a put that nothing seen follows stays
pub keeps_put : (write : Writes) (safe q : ℕ) → q < safe → commit_is is_put (write q) ≡ true
    → UnseenFrom write (q + 1) safe → keeps write safe q ≡ true
keeps_put write safe q lt put unseen =
    (rw (lt-ltb q safe lt)
    (and_from (commit_is is_put (write q)) (none_above write q (safe - q)) put
    (none_above_from write q (safe - q) (λ p above upto. unseen p (omega arith) (omega arith)))))

-- a record that is no put goes
pub drops_other : (write : Writes) (safe q : ℕ) → q < safe → commit_is is_put (write q) ≡ false
    → keeps write safe q ≡ false
drops_other write safe q lt put = (rw (lt-ltb q safe lt, put) refl)

-- a record that something seen follows goes
pub drops_followed : (write : Writes) (safe q : ℕ) → q < safe → SeenFrom write (q + 1) safe → keeps write safe q ≡ false
drops_followed write safe q lt seen =
    elim (cases_Bool (keeps write safe q)) [
      | inl e ↦ (let both = keeps_parts write safe q lt e in
          let unseen = none_above_at write q (safe - q) seen.at both.1 (omega (arith, seen.from))
          (omega (arith, seen.upto)) in absurd (cc (unseen, seen.visible)))
      | inr e ↦ e
    ]

-- ---- the records that go

abbrev pub is_standing : Option Write → Bool
is_standing None = false
is_standing (Some rec) = true

-- the timestamps below n at which collection drops a record, from new to old
abbrev pub drops : Writes → ℕ → ℕ → List ℕ
drops write safe zero = []
drops write safe (suc n) =
    cond (is_standing (write n) && not (keeps write safe n)) (n ∷ drops write safe n) (drops write safe n)

standing_ne : (o : Option Write) → is_standing o ≡ true → o ≢ None
standing_ne None e = absurd (cc (e))
standing_ne (Some rec) e = λ h. (cc (h))

ne_standing : (o : Option Write) → o ≢ None → is_standing o ≡ true
ne_standing None ne = absurd (ne refl)
ne_standing (Some rec) ne = refl

drops_below : (write : Writes) (safe n q : ℕ) → Contains (drops write safe n) q → q < n
drops_below write safe zero q c = absurd (contains_none q c)
drops_below write safe (suc n) q c =
    elim (cases_Bool (is_standing (write n) && not (keeps write safe n))) [
      | inl goes ↦ (let c2 : Contains (n ∷ drops write safe n) q = rw goes at c in
          elim (contains_cases n (drops write safe n) q c2) [
            | inl e ↦ omega (arith, e)
            | inr later ↦ omega (arith, drops_below write safe n q later)
          ])
      | inr stays ↦ (let c2 : Contains (drops write safe n) q = rw stays at c in
          omega (arith, drops_below write safe n q c2))
    ]

drops_are : (write : Writes) (safe n q : ℕ) → Contains (drops write safe n) q
    → (write q ≢ None) × (keeps write safe q ≡ false)
drops_are write safe zero q c = absurd (contains_none q c)
drops_are write safe (suc n) q c =
    elim (cases_Bool (is_standing (write n) && not (keeps write safe n))) [
      | inl goes ↦ (let c2 : Contains (n ∷ drops write safe n) q = rw goes at c in
          elim (contains_cases n (drops write safe n) q c2) [
            | inl e ↦ (let both = and_parts (is_standing (write n)) (not (keeps write safe n)) goes in
                subst (λ x. (write x ≢ None) × (keeps write safe x ≡ false)) e (
                  standing_ne (write n) both.0,
                  not-true (keeps write safe n) both.1,
                ))
            | inr later ↦ drops_are write safe n q later
          ])
      | inr stays ↦ (let c2 : Contains (drops write safe n) q = rw stays at c in drops_are write safe n q c2)
    ]

are_drops : (write : Writes) (safe n q : ℕ) → q < n → write q ≢ None → keeps write safe q ≡ false
    → Contains (drops write safe n) q
are_drops write safe zero q lt ne gone = absurd (omega arith)
are_drops write safe (suc n) q lt ne gone =
    elim (cases_order q n) [
      | inl e ↦ (let goes : (is_standing (write n) && not (keeps write safe n)) ≡ true =
          subst (λ x. (is_standing (write x) && not (keeps write safe x))
          ≡ true) e (rw (ne_standing (write q) ne, gone) refl) in
          (rw goes (subst (λ x. Contains (n ∷ drops write safe n) x) (sym e) (contains_first n (drops write safe n)))))
      | inr other ↦ (let below : q < n = elim other [ inl x ↦ x | inr x ↦ absurd (omega arith) ] in
          let there = are_drops write safe n q below ne gone in
          elim (cases_Bool (is_standing (write n) && not (keeps write safe n))) [
            | inl goes ↦ (rw goes (contains_next n (drops write safe n) q there))
            | inr stays ↦ (rw stays there)
          ])
    ]

pub pairs_first : {X : Type 0} (x : X) (xs : List X) → ((y : X) → Contains xs y → x ≢ y) → AllPairs (λ a b. a ≢ b) xs
    → AllPairs (λ a b. a ≢ b) (x ∷ xs)
pairs_first x xs other pairs zero zero d lt bound = absurd (omega arith)
pairs_first x xs other pairs zero (suc j) d lt bound =
    other (slice_index_or xs j d) (j, omega arith, get_or_default xs j (slice_index_or xs j d) d (omega arith))
pairs_first x xs other pairs (suc i) zero d lt bound = absurd (omega arith)
pairs_first x xs other pairs (suc i) (suc j) d lt bound = pairs i j d (omega arith) (omega arith)

pub pairs_none : {X : Type 0} → AllPairs {X = X} (λ a b. a ≢ b) []
pairs_none i j d lt bound = absurd (omega (arith, bound))

drops_once : (write : Writes) (safe n : ℕ) → AllPairs (λ a b. a ≢ b) (drops write safe n)
drops_once write safe zero = pairs_none
drops_once write safe (suc n) =
    elim (cases_Bool (is_standing (write n) && not (keeps write safe n))) [
      | inl goes ↦ (rw goes
          (pairs_first n (drops write safe n) (λ y c e. (omega (arith, drops_below write safe n y c, e)))
          (drops_once write safe n)))
      | inr stays ↦ (rw stays (drops_once write safe n))
    ]

-- a record from the safe point on stays
pub keeps_above : (write : Writes) (safe q : ℕ) → safe ≤ q → keeps write safe q ≡ true
keeps_above write safe q le = (rw (le-ltb q safe le) refl)

-- these are all that go
pub dropped_on : (write : Writes) (safe : ℕ) → DroppedOn write safe (drops write safe safe)
dropped_on write safe = record {
  once = drops_once write safe safe;
  each = λ q. (drops_are write safe safe q, λ h. are_drops write safe safe q (below q h.1) h.0 h.1);
}
  where
    below : (q : ℕ) → keeps write safe q ≡ false → q < safe
    below q e = elim (cases_lt q safe) [
      | inl lt ↦ lt
      | inr ge ↦ (let stays = keeps_above write safe q ge in absurd (cc (stays, e)))
    ]

-- ---- one record after another

-- where no record stands between, as much goes
drops_gap : (write : Writes) (safe below at : ℕ) → at < below → ((q : ℕ) → at < q → q < below → write q ≡ None)
    → drops write safe below ≡ drops write safe (suc at)
drops_gap write safe zero at lt none = absurd (omega arith)
drops_gap write safe (suc n) at lt none =
    elim (cases_order at n) [
      | inl e ↦ ap (λ x. drops write safe (suc x)) (sym e)
      | inr other ↦ (let less : at < n = elim other [ inl x ↦ x | inr x ↦ absurd (omega arith) ] in
          let same : drops write safe (suc n) ≡ drops write safe n = (rw (none n less (omega arith)) refl) in
          same ∙ drops_gap write safe n at less (λ q a b. none q a (omega arith)))
    ]

-- collection of a key has come down to `below`
pub record CollectedTo (write : Writes) (safe below : ℕ) (followed : Bool) (stay : Option ℕ) (records values : ℕ) :
    Type 0 where
  pub upto : below ≤ safe + 1
  pub seen : followed ≡ true → SeenFrom write below safe
  pub unseen : followed ≡ false → UnseenFrom write below safe
  pub stays : (q : ℕ) → stay ≡ Some q → (q < safe) × (write q ≢ None) × (keeps write safe q ≡ true)
  pub only : (q : ℕ) → below ≤ q → q < safe → write q ≢ None → keeps write safe q ≡ true → stay ≡ Some q
  pub counted : records + length (drops write safe below) ≡ length (drops write safe safe)
  pub long : values + long_among write (drops write safe below) ≡ long_among write (drops write safe safe)

pub collect_starts : (write : Writes) (safe : ℕ) → CollectedTo write safe (safe + 1) false None 0 0
collect_starts write safe = record {
  upto = omega arith;
  seen = λ e. absurd (cc (e));
  unseen = λ e q low high. absurd (omega arith);
  stays = λ q e. absurd (cc (e));
  only = λ q low lt ne e. absurd (omega arith);
  counted = (let l = ap (λ (l : List ℕ). length l) top in omega (arith, l));
  long = (let l = ap (long_among write) top in omega (arith, l));
}
  where
    top : drops write safe (safe + 1) ≡ drops write safe safe
    top = rw (
      add-one,
      and_right (is_standing (write safe)) (not (keeps write safe safe))
          (rw (keeps_above write safe safe (omega arith)) refl),
    ) refl

pub length_drops : (write : Writes) (safe n : ℕ) → length (drops write safe n) ≤ n
length_drops write safe zero = omega arith
length_drops write safe (suc n) =
    let rest = length_drops write safe n in
    elim (cases_Bool (is_standing (write n) && not (keeps write safe n))) [
      | inl goes ↦ (rw goes (omega arith))
      | inr stays ↦ (rw stays (omega arith))
    ]

long_length : (write : Writes) (times : List ℕ) → long_among write times ≤ length times
long_length write [] = omega arith
long_length write (q ∷ times) =
    let rest = long_length write times in
    elim (cases_Bool (commit_is is_long (write q))) [
      | inl long ↦ (rw long (omega arith))
      | inr short ↦ (rw short (omega arith))
    ]

module _ (write : Writes) (safe below : ℕ) (followed : Bool) (stay : Option ℕ) (records values : ℕ) (so :
    CollectedTo write safe below followed stay records values) (at : ℕ) (low : at < below) (there :
    write at ≢ None) (newest : (q : ℕ) → at < q → q < below → write q ≡ None) where
  in_range : at ≤ safe
  in_range = omega (arith, low, so.upto)

  -- a timestamp from here on is this one, one with no record, or was met before
  met : (q : ℕ) → at ≤ q → (q ≡ at) ⊎ ((write q ≡ None) ⊎ (below ≤ q))
  met q low = elim (cases_lt q below) [
    | inl lt ↦ elim (cases_order q at) [
      | inl e ↦ inl e
      | inr n ↦ elim n [ inl x ↦ absurd (omega arith) | inr x ↦ inr (inl (newest q x lt)) ]
    ]
    | inr ge ↦ inr (inr ge)
  ]

  seen_next : (after : Bool) → after ≡ (followed || commit_is is_visible (write at)) → after ≡ true
      → SeenFrom write at safe
  seen_next after is e = elim (or_cases followed (commit_is is_visible (write at)) (sym is ∙ e)) [
    | inl old ↦ (let s = so.seen old in
        record { at = s.at; from = omega (arith, s.from, low); upto = s.upto; visible = s.visible })
    | inr new ↦ record { at = at; from = omega arith; upto = omega (arith, in_range); visible = new }
  ]

  unseen_past : followed ≡ false → (q : ℕ) → at < q → q ≤ safe → commit_is is_visible (write q) ≡ false
  unseen_past old q low high = elim (met q (omega arith)) [
    | inl same ↦ absurd (omega arith)
    | inr n ↦ elim n [ inl none ↦ (rw none refl) | inr ge ↦ so.unseen old q ge high ]
  ]

  unseen_next : (after : Bool) → after ≡ (followed || commit_is is_visible (write at)) → after ≡ false
      → UnseenFrom write at safe
  unseen_next after is e q low high =
      let both = or_parts followed (commit_is is_visible (write at)) (sym is ∙ e) in
      elim (met q low) [
        | inl same ↦ subst (λ x. commit_is is_visible (write x) ≡ false) (sym same) both.1
        | inr n ↦ elim n [ inl none ↦ (rw none refl) | inr ge ↦ so.unseen both.0 q ge high ]
      ]

  drops_here : drops write safe below ≡ drops write safe (suc at)
  drops_here = drops_gap write safe below at low newest

  keeps_here : at < safe → commit_is is_put (write at) ≡ true → followed ≡ false → keeps write safe at ≡ true
  keeps_here lt put old = keeps_put write safe at lt put (λ q low high. unseen_past old q (omega arith) high)

  -- a put that nothing seen follows stays
  pub collect_keeps : (after : Bool) → at < safe → commit_is is_put (write at) ≡ true → followed ≡ false
      → after ≡ (followed || commit_is is_visible (write at)) → CollectedTo write safe at after (Some at) records values
  collect_keeps after low put old is = record {
    upto = omega (arith, in_range);
    seen = seen_next after is;
    unseen = unseen_next after is;
    stays = λ q e. (let same : at ≡ q = cc (e) in
        subst (λ x. (x < safe) × (write x ≢ None) × (keeps write safe x ≡ true)) same (
          low,
          there,
          keeps_here low put old,
        ));
    only = λ q from lt ne e. (elim (met q from) [
      | inl same ↦ ap Some (sym same)
      | inr n ↦ elim n [
        | inl none ↦ absurd (ne none)
        | inr ge ↦ (let visible = put_visible (write q) (keeps_parts write safe q lt e).0 in
            let not_seen = so.unseen old q ge (omega arith) in absurd (cc (visible, not_seen)))
      ]
    ]);
    counted = ap (λ l. records + length l) (sym same_drops) ∙ so.counted;
    long = ap (λ l. values + long_among write l) (sym same_drops) ∙ so.long;
  }
    where
      same_drops : drops write safe below ≡ drops write safe at
      same_drops = drops_here
          ∙ (rw (and_right (is_standing (write at)) (not (keeps write safe at)) (rw (keeps_here low put old) refl))
          refl)

  -- the record at the safe point stays
  pub collect_passes : (after : Bool) → safe ≤ at → after ≡ (followed || commit_is is_visible (write at))
      → CollectedTo write safe at after stay records values
  collect_passes after le is = record {
    upto = omega (arith, in_range);
    seen = seen_next after is;
    unseen = unseen_next after is;
    stays = so.stays;
    only = λ q from lt ne k. (elim (met q from) [
      | inl same ↦ absurd (omega (arith, same, lt, le))
      | inr n ↦ elim n [ inl none ↦ absurd (ne none) | inr ge ↦ so.only q ge lt ne k ]
    ]);
    counted = ap (λ l. records + length l) (sym same_drops) ∙ so.counted;
    long = ap (λ l. values + long_among write l) (sym same_drops) ∙ so.long;
  }
    where
      same_drops : drops write safe below ≡ drops write safe at
      same_drops = drops_here
          ∙ (rw (and_right (is_standing (write at)) (not (keeps write safe at))
          (rw (keeps_above write safe at le) refl)) refl)

  -- a record that is no put, or that something seen follows, goes
  goes_here : at < safe → (commit_is is_put (write at) && not followed) ≡ false → keeps write safe at ≡ false
  goes_here lt e = elim (and_cases (commit_is is_put (write at)) (not followed) e) [
    | inl put ↦ drops_other write safe at lt put
    | inr old ↦ (let s = so.seen (not_false followed old) in
        drops_followed write safe at lt
        (record { at = s.at; from = omega (arith, s.from, low); upto = s.upto; visible = s.visible }))
  ]
    where
      not_false : (b : Bool) → not b ≡ false → b ≡ true
      not_false true h = refl
      not_false false h = absurd (cc (h))

  drops_first : at < safe → (commit_is is_put (write at) && not followed) ≡ false
      → drops write safe below ≡ at ∷ drops write safe at
  drops_first lt e = drops_here ∙ (rw (ne_standing (write at) there, goes_here lt e) refl)

  pub collect_drops : (after : Bool) (gone : ℕ) → at < safe → (commit_is is_put (write at) && not followed) ≡ false
      → after ≡ (followed || commit_is is_visible (write at))
      → gone ≡ cond (commit_is is_long (write at)) (values + 1) values
      → CollectedTo write safe at after stay (records + 1) gone
  collect_drops after gone low e is gone_is = record {
    upto = omega (arith, in_range);
    seen = seen_next after is;
    unseen = unseen_next after is;
    stays = so.stays;
    only = λ q from lt ne k. (elim (met q from) [
      | inl same ↦ (let goes = goes_here low e in
          let stays : keeps write safe at ≡ true = subst (λ x. keeps write safe x ≡ true) same k in
          absurd (cc (goes, stays)))
      | inr n ↦ elim n [ inl none ↦ absurd (ne none) | inr ge ↦ so.only q ge lt ne k ]
    ]);
    counted = (let l = ap (λ (x : List ℕ). length x) (drops_first low e) in omega (arith, l, so.counted));
    long = long_here;
  }
    where
      long_here : gone + long_among write (drops write safe at) ≡ long_among write (drops write safe safe)
      long_here =
          let l = ap (long_among write) (drops_first low e) in
          elim (cases_Bool (commit_is is_long (write at))) [
            | inl longer ↦ (let g : gone ≡ values + 1 = gone_is ∙ (rw longer refl) in
                let m : long_among write (at ∷ drops write safe at) ≡ suc (long_among write (drops write safe at)) =
                (rw longer refl) in omega (arith, l, m, g, so.long))
            | inr short ↦ (let g : gone ≡ values = gone_is ∙ (rw short refl) in
                let m : long_among write (at ∷ drops write safe at) ≡ long_among write (drops write safe at) =
                (rw short refl) in omega (arith, l, m, g, so.long))
          ]

  -- there is room to count it
  pub collect_fits : at < safe → (commit_is is_put (write at) && not followed) ≡ false → records + 1 ≤ safe
  collect_fits low e = let l = ap (λ (x : List ℕ). length x) (drops_first low e) in
      omega (arith, l, so.counted, length_drops write safe safe)

  pub values_fit : at < safe → (commit_is is_put (write at) && not followed) ≡ false
      → commit_is is_long (write at) ≡ true → values + 1 ≤ safe
  values_fit low e longer =
      let l = ap (long_among write) (drops_first low e) in
      let m : long_among write (at ∷ drops write safe at) ≡ suc (long_among write (drops write safe at)) =
      (rw longer refl) in
      omega (arith, l, m, so.long, long_length write (drops write safe safe), length_drops write safe safe)

-- where no record is left below, all has been collected
drops_none : (write : Writes) (safe n : ℕ) → ((q : ℕ) → q < n → write q ≡ None) → drops write safe n ≡ []
drops_none write safe zero none = refl
drops_none write safe (suc n) none =
    (rw (none n (omega arith)) (drops_none write safe n (λ q lt. none q (omega arith))))

pub collect_ends : (write : Writes) (safe below : ℕ) (followed : Bool) (stay : Option ℕ) (records values : ℕ)
    → CollectedTo write safe below followed stay records values → ((q : ℕ) → q < below → write q ≡ None)
    → (records ≡ length (drops write safe safe)) × (values ≡ long_among write (drops write safe safe))
collect_ends write safe below followed stay records values so none =
    let e = drops_none write safe below none in
    let l = ap (λ (x : List ℕ). length x) e in
    let m = ap (long_among write) e in
    (omega (arith, l, so.counted), omega (arith, m, so.long))

pub collect_stays : (write : Writes) (safe below : ℕ) (followed : Bool) (stay : Option ℕ) (records values : ℕ)
    → CollectedTo write safe below followed stay records values → ((q : ℕ) → q < below → write q ≡ None) → (q : ℕ)
    → q < safe → write q ≢ None → (keeps write safe q ≡ true) ↔ (stay ≡ Some q)
collect_stays write safe below followed stay records values so none q lt ne = (
  λ k. (elim (cases_lt q below) [ inl x ↦ absurd (ne (none q x)) | inr ge ↦ so.only q ge lt ne k ]),
  λ e. (so.stays q e).2,
)

-- ---- the two ways in which the code learns that a record goes

pub goes_followed : (put followed : Bool) → followed ≡ true → (put && not followed) ≡ false
goes_followed put followed e = and_right put (not followed) (rw e refl)

pub goes_no_put : (put result followed : Bool) → result ≡ put → result ≡ false → (put && not followed) ≡ false
goes_no_put put result followed is e = and_left put (not followed) (sym is ∙ e)

-- ---- a step of the loop

-- a record that is no put, or that something seen follows
abbrev pub Goes : RecordKind → Bool → Type 0
Goes kind followed = ((kind.puts ≡ true) × (followed ≡ true)) ⊎ (kind.puts ≡ false)

module _ (write now : Writes) (safe bound at : ℕ) (kind : RecordKind) (below : Option ℕ) (followed : Bool) (stay :
    Option ℕ) (records values : ℕ) (same : now ≡ write) (is : below
    ≡ Some bound) (so : CollectedTo write safe (past below) followed stay records values) (came :
    IsNext now bound at kind) where
  next : IsNext write bound at kind
  next = subst (λ (w : Writes). IsNext w bound at kind) same came

  to : CollectedTo write safe (bound + 1) followed stay records values
  to = subst (λ n. CollectedTo write safe n followed stay records values) (ap past is) so

  low : at < bound + 1
  low = omega (arith, next.upto)

  newest : (q : ℕ) → at < q → q < bound + 1 → write q ≡ None
  newest q above under = next.newest q above (omega (arith, under))

  goes : Goes kind followed → (commit_is is_put (write at) && not followed) ≡ false
  goes (inl v) = goes_followed (commit_is is_put (write at)) followed v.1
  goes (inr v) = goes_no_put (commit_is is_put (write at)) kind.puts followed next.is.puts v

  seen : (after : Bool) → after ≡ (followed || kind.is_seen) → after ≡ (followed || commit_is is_visible (write at))
  seen after e = e ∙ ap (λ b. followed || b) next.is.is_seen

  -- there is room to count it
  pub step_fits : at < safe → Goes kind followed → records + 1 ≤ safe
  step_fits lt gone = collect_fits write safe (bound + 1) followed stay records values to at low next.there newest lt
      (goes gone)

  pub step_values : at < safe → Goes kind followed → kind.has_long_value ≡ true → values + 1 ≤ safe
  step_values lt gone long =
      values_fit write safe (bound + 1) followed stay records values to at low next.there newest lt (goes gone)
      (sym next.is.has_long_value ∙ long)

  -- it is met
  pub step_keeps : (after : Bool) → after ≡ (followed || kind.is_seen) → at < safe → kind.puts ≡ true → followed ≡ false
      → CollectedTo write safe at after (Some at) records values
  step_keeps after e lt put old =
      collect_keeps write safe (bound + 1) followed stay records values to at low next.there newest after lt
      (sym next.is.puts ∙ put) old (seen after e)

  pub step_drops : (after : Bool) (gone : ℕ) → after ≡ (followed || kind.is_seen) → at < safe → Goes kind followed
      → gone ≡ cond kind.has_long_value (values + 1) values → CollectedTo write safe at after stay (records + 1) gone
  step_drops after gone e lt g is_gone =
      collect_drops write safe (bound + 1) followed stay records values to at low next.there newest after gone lt
      (goes g) (seen after e) (is_gone ∙ ap (λ b. cond b (values + 1) values) next.is.has_long_value)

  pub step_passes : (after : Bool) → after ≡ (followed || kind.is_seen) → safe ≤ at
      → CollectedTo write safe at after stay records values
  step_passes after e le =
      collect_passes write safe (bound + 1) followed stay records values to at low next.there newest after le
      (seen after e)

-- where no record comes next, all has been counted
pub step_ends : (write now : Writes) (safe bound : ℕ) (below : Option ℕ) (followed : Bool) (stay :
    Option ℕ) (records values : ℕ) → now ≡ write → below ≡ Some bound
    → CollectedTo write safe (past below) followed stay records values → NoneUpto now bound
    → (records ≡ length (drops write safe safe)) × (values ≡ long_among write (drops write safe safe))
step_ends write now safe bound below followed stay records values same is so none =
    collect_ends write safe (past below) followed stay records values so
    (λ q lt. subst (λ (w : Writes). NoneUpto w bound) same none q (omega (arith, lt, ap past is)))

-- where the walk is at an end
pub all_ended : (write : Writes) (safe : ℕ) (below : Option ℕ) (followed : Bool) (stay : Option ℕ) (records values : ℕ)
    → below ≡ None → CollectedTo write safe (past below) followed stay records values
    → (records ≡ length (drops write safe safe)) × (values ≡ long_among write (drops write safe safe))
all_ended write safe below followed stay records values is so =
    collect_ends write safe (past below) followed stay records values so
    (λ q lt. absurd (omega (arith, lt, ap past is)))

-- how many values have gone by then
pub gone_long : (long : Bool) (values : ℕ) → long ≡ true → values + 1 ≡ cond long (values + 1) values
gone_long long values e = (rw e refl)

pub gone_short : (long : Bool) (values : ℕ) → long ≡ false → values ≡ cond long (values + 1) values
gone_short long values e = (rw e refl)

-- what was seen by then
pub after_true : (after followed seen : Bool) → followed ≡ true → after ≡ followed → after ≡ (followed || seen)
after_true after followed seen f e = e ∙ f ∙ (rw f refl)

pub after_other : (after followed seen : Bool) → followed ≡ false → after ≡ seen → after ≡ (followed || seen)
after_other after followed seen f e = e ∙ (rw f refl)
