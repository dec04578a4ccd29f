-- A transaction is decided: it commits.
use Rattle.std.proofs.Common.{◌≡◌, ◌≢◌, ℕ, ◌+◌, ◌<◌, ◌≤◌, ◌==◌, ◌⊎◌, max, inl, inr, cond, List, [], ◌∷◌, Option, Some, None, bytes_eq, refl, sym, ap, subst, ◌∙◌, arith}
use Rattle.std.proofs.lemmas.Bool.{cases_lt}
use Rattle.tx_types.specs.declared.key.Key.{Key}
use Rattle.tx_types.specs.declared.mutation.Change.{Change}
use Rattle.tx_types.specs.declared.mutation.Mutation.{Mutation}
use Rattle.tx_types.specs.declared.mutation.Mutation.TheVariants.{Put}
use Rattle.tx_types.specs.declared.mutation.Mode.{Mode}
use Rattle.tx_types.specs.declared.mutation.Mode.TheVariants.{TwoPhase, Async}
use Rattle.tx_types.specs.declared.mutation.Fate.{Fate}
use Rattle.tx_types.specs.declared.mutation.Fate.TheVariants.{Committed, Aborted}
use Rattle.tx_machine.specs.Keys.{mutation_at}
use Rattle.tx_machine.specs.Machine.{State, Open, Done}
use Rattle.tx_plan.specs.Cells.{Lock}
use Rattle.tx_plan.specs.Own.{OwnLock}
use Rattle.tx_core.specs.Histories.{set_of, is_first}
use Rattle.tx_core.specs.Decisions.{Acceptance, async_minimum, greater, greatest}
use Rattle.tx_core.proofs.Basics.{nat_test, key_test, key_same, cond_true, cond_false, some_same, some_of, is_some}
use Rattle.tx_core.proofs.view.View.{View, IsCommit, Inv, Does, IsPrimary, IsCommitted, IsAborted, Accepts, FellBack, bound, Held, first_within, does_declared, does_within, bound_async, later_by, gone_by}

-- An open transaction may be committed at c: each of its keys is accepted, with a bound of
-- at most c; what was shown lies at or below c; c lies above its start and at most one above
-- the last number.
pub record CanDecide (w : View) (t c : ℕ) : Type 0 where
  pub opened : w.decided t ≡ Open
  pub declared : w.declared t ≢ None
  pub above : t < c
  pub upto : c ≤ w.last + 1
  pub accepts : Accepts w.declared w.accepted t
  pub bounds : (k : Key) (by : Acceptance) → w.accepted t k ≡ Some by → bound by ≤ c
  pub shown : w.shown t ≤ c

-- a number that was drawn after all acceptances, at or above the minimum of the primary's lock
pub decide_drawn : (w : View) (t c : ℕ) (p : Key) (first : Lock) → Inv w → w.decided t ≡ Open
    → Accepts w.declared w.accepted t → w.drawer c ≢ None
    → ((k : Key) (by : Acceptance) → w.accepted t k ≡ Some by → by.at < c) → IsPrimary w.declared t p
    → OwnLock (w.cells p).lock t first → first.min ≤ c → CanDecide w t c
decide_drawn w t c p first i o all drawn after is own low =
    let does = first_within w.declared t p is in
    let of = some_of (w.accepted t p) (all p (does_within w.declared t p does.0 does.1)) in
    record {
      opened = o;
      declared = does_declared w.declared t p does.0 does.1;
      above = omega (
        arith,
        (i.acceptances t p of.0 of.1).above,
        (i.acceptances t p of.0 of.1).bounded,
        (i.acceptances t p of.0 of.1).upto,
        after p of.0 of.1,
      );
      upto = omega (arith, i.clock.drawn c drawn);
      accepts = all;
      bounds = λ k by e. omega (arith, (i.acceptances t k by e).upto, after k by e);
      shown = omega (
        arith,
        ((i.keys p).lock first own.stands).shows (ap (λ n. is_first (set_of (w.declared n)) p) own.own ∙ is),
        ap w.shown own.own,
        low,
      );
    }

-- ---- the greatest minimum

-- an async acceptance of k with a minimum of at most c
pub record IsAsyncUpto (accepted : Key → Option Acceptance) (k : Key) (c : ℕ) : Type 0 where
  pub by : Acceptance
  pub stands : accepted k ≡ Some by
  pub async : by.lock.mode ≡ Async
  pub upto : by.lock.min ≤ c

-- an async minimum is one of an async acceptance
pub async_of : (o : Option Acceptance) (m : ℕ) → async_minimum o ≡ Some m
    → (by : Acceptance) × (o ≡ Some by) × (by.lock.mode ≡ Async) × (by.lock.min ≡ m)
async_of None m e = absurd (cc (e))
async_of (Some by) m e = go by.lock.mode refl
  where
    go : (mode : Mode) → by.lock.mode ≡ mode
        → (x : Acceptance) × (Some by ≡ Some x) × (x.lock.mode ≡ Async) × (x.lock.min ≡ m)
    go TwoPhase two = (let fact : async_minimum (Some by) ≡ None = rw two refl in absurd (cc (fact, e)))
    go Async async = (let fact : async_minimum (Some by) ≡ Some by.lock.min = rw async refl in
        (by, refl, async, some_same by.lock.min m (sym fact ∙ e)))

-- the greater of two minimums, where both are there
pub greater_of : (a b : Option ℕ) (c : ℕ) → greater a b ≡ Some c
    → (m : ℕ) × (n : ℕ) × (a ≡ Some m) × (b ≡ Some n) × (c ≡ max m n)
greater_of None b c e = absurd (cc (e))
greater_of (Some m) None c e = absurd (cc (e))
greater_of (Some m) (Some n) c e = (m, n, refl, refl, sym (some_same (max m n) c e))

-- where there is a greatest minimum, each key is accepted async with one of at most that
pub greatest_each : (accepted : Key → Option Acceptance) (set : List Change) (c : ℕ) → greatest accepted set ≡ Some c
    → (k : Key) → mutation_at set k ≢ None → IsAsyncUpto accepted k c
greatest_each accepted [] c e k some = absurd (some refl)
greatest_each accepted (x ∷ []) c e k some =
    elim (key_test x.key k) [
      | inl same ↦ (let of = async_of (accepted x.key) c e in
          record {
            by = of.0;
            stands = subst (λ y. accepted y ≡ Some of.0) same.1 of.1;
            async = of.2;
            upto =
                omega (arith, of.3);
          })
      | inr other ↦ absurd (some (cond_false (bytes_eq x.key k) (Some x.mutation) None other.0))
    ]
greatest_each accepted (x ∷ y ∷ ys) c e k some =
    let both = greater_of (async_minimum (accepted x.key)) (greatest accepted (y ∷ ys)) c e in
    elim (key_test x.key k) [
      | inl same ↦ (let of = async_of (accepted x.key) both.0 both.2 in
          record {
            by = of.0;
            stands = subst (λ z. accepted z ≡ Some of.0) same.1 of.1;
            async = of.2;
            upto =
                omega (arith, of.3, both.4);
          })
      | inr other ↦ (let rest =
          greatest_each accepted (y
          ∷ ys) both.1 both.3 k
          (λ none. some (cond_false (bytes_eq x.key k) (Some x.mutation) (mutation_at (y ∷ ys) k) other.0 ∙ none)) in
          record { by = rest.by; stands = rest.stands; async = rest.async; upto = omega (arith, rest.upto, both.4) })
    ]

-- and it is the minimum of one of them
pub greatest_some : (accepted : Key → Option Acceptance) (set : List Change) (c : ℕ) → greatest accepted set ≡ Some c
    → (k : Key) × (by : Acceptance) × (accepted k ≡ Some by) × (by.lock.mode ≡ Async) × (by.lock.min ≡ c)
greatest_some accepted [] c e = absurd (cc (e))
greatest_some accepted (x ∷ []) c e = (let of = async_of (accepted x.key) c e in (x.key, of.0, of.1, of.2, of.3))
greatest_some accepted (x ∷ y ∷ ys) c e =
    let both = greater_of (async_minimum (accepted x.key)) (greatest accepted (y ∷ ys)) c e in
    let of = async_of (accepted x.key) both.0 both.2 in
    let rest = greatest_some accepted (y ∷ ys) both.1 both.3 in
    elim (cases_lt both.0 both.1) [
      | inl lt ↦ (rest.0, rest.1, rest.2, rest.3, omega (arith, rest.4, both.4, lt))
      | inr le ↦ (x.key, of.0, of.1, of.2, omega (arith, of.3, both.4, le))
    ]

-- ---- the change

-- an open transaction is committed at c
abbrev pub deciding : View → ℕ → ℕ → View
deciding w t c = record w { decided = λ q. cond (t == q) (Done (Committed c)) (w.decided q) }

module _ (w : View) (t c : ℕ) (i : Inv w) (may : CanDecide w t c) where
  -- what is decided after it: the commit, or what was before
  pub was_decided : (q : ℕ) (s : State) → (deciding w t c).decided q ≡ s
      → ((t ≡ q) × (Done (Committed c) ≡ s)) ⊎ (w.decided q ≡ s)
  was_decided q s e =
      elim (nat_test t q) [
        | inl x ↦ inl (x.1, sym (cond_true (t == q) (Done (Committed c)) (w.decided q) x.0) ∙ e)
        | inr x ↦ inr (sym (cond_false (t == q) (Done (Committed c)) (w.decided q) x.0) ∙ e)
      ]

  -- what was decided is so still
  pub still_decided : (q : ℕ) (e : Fate) → w.decided q ≡ Done e → (deciding w t c).decided q ≡ Done e
  still_decided q e end =
      elim (nat_test t q) [
        | inl x ↦ absurd (cc (may.opened, x.1, end))
        | inr x ↦ cond_false (t == q) (Done (Committed c)) (w.decided q) x.0 ∙ end
      ]

  was_open : (q : ℕ) → (deciding w t c).decided q ≡ Open → w.decided q ≡ Open
  was_open q e = elim (was_decided q Open e) [ inl x ↦ absurd (cc (x.1)) | inr x ↦ x ]

  was_aborted : (q : ℕ) → IsAborted (deciding w t c).decided q → IsAborted w.decided q
  was_aborted q e = elim (was_decided q (Done Aborted) e) [ inl x ↦ absurd (cc (x.1)) | inr x ↦ x ]

  was_committed : (q d : ℕ) → IsCommitted (deciding w t c).decided q d → ((t ≡ q) × (c ≡ d)) ⊎ IsCommitted w.decided q d
  was_committed q d e = elim (was_decided q (Done (Committed d)) e) [ inl x ↦ inl (x.0, cc (x.1)) | inr x ↦ inr x ]

  -- its keys are locked
  own : (k : Key) (m : Mutation) → Does w.declared t k m → Held (w.cells k) t
  own k m does = (i.keys k).kept.held t (may.accepts k (does_within w.declared t k m does)) may.opened

  own_of : (q : ℕ) (k : Key) (m : Mutation) → t ≡ q → Does w.declared q k m → Held (w.cells k) t
  own_of q k m same does = own k m (subst (λ n. Does w.declared n k m) (sym same) does)

  -- an open transaction that may be committed is
  pub inv_decide : Inv (deciding w t c)
  inv_decide =
      record {
        clock = record {
          drawn = i.clock.drawn;
          begun = i.clock.begun;
          declares = i.clock.declares;
          decides = λ q e. elim (nat_test t q) [
            | inl x ↦ subst (λ n. w.declared n ≢ None) x.1 may.declared
            | inr x ↦ i.clock.decides q (λ y. e (cond_false (t == q) (Done (Committed c)) (w.decided q) x.0 ∙ y))
          ];
        };
        marks = i.marks;
        acceptances = i.acceptances;
        keys = λ k. record {
          lock = (i.keys k).lock;
          alone = λ lock e. (let old = (i.keys k).alone lock e in record {
            above = λ u d m end does other.
                elim (was_committed u d end) [
                  | inl x ↦ (let at = own_of u k m x.0 does in absurd (other (cc (at.stands, at.own, e, x.0))))
                  | inr x ↦ old.above u d m x does other
                ];
            unwritten = old.unwritten;
            fresh = old.fresh;
            unseen = λ v ins u d y end does low.
                elim (was_committed u d end) [
                  | inl x ↦ (let at = own_of u k (Put y) x.0 does in
                      absurd (omega (
                        arith,
                        ap (λ (l : Lock). l.start) (some_same at.lock lock (sym at.stands ∙ e)),
                        at.own,
                        may.above,
                        x.1,
                        low,
                      )))
                  | inr x ↦ later_by w.decided (deciding w t c).decided w.declared w.declared k d lock.start
                      (λ q at e. still_decided q (Committed at) e) (λ q n does. does)
                      (old.unseen v ins u d y x does low)
                ];
          });
          records = record {
            committed = λ d rec e. still_decided rec.start (Committed d) ((i.keys k).records.committed d rec e);
            does = (i.keys k).records.does;
            rolled = λ q e. still_decided q Aborted ((i.keys k).records.rolled q e);
            newest = λ q rec e v low u d m end does visible above upto.
                elim (was_committed u d end) [
                  | inl x ↦ (let at = own_of u k m x.0 does in
                      omega (arith, ((i.keys k).alone at.lock at.stands).fresh, at.own, may.above, upto, x.1))
                  | inr x ↦ (i.keys k).records.newest q rec e v low u d m x does visible above upto
                ];
          };
          kept = record {
            complete = λ u d m end does.
                elim (was_committed u d end) [
                  | inl x ↦ inr (inl (subst (Held (w.cells k)) x.0 (own_of u k m x.0 does)))
                  | inr x ↦ elim ((i.keys k).kept.complete u d m x does) [
                    | inl y ↦ inl y
                    | inr rest ↦ elim rest [
                      | inl y ↦ inr (inl y)
                      | inr y ↦ inr (inr (gone_by w.decided (deciding w t c).decided w.declared w.declared k d
                          (w.collected k) (w.collected k) m (λ q at e. still_decided q (Committed at) e)
                          (λ q n does. does)
                          (omega arith) y))
                    ]
                  ]
                ];
            held = λ q e o. (i.keys k).kept.held q e (was_open q o);
            cleared = λ q e o. (i.keys k).kept.cleared q e (was_aborted q o);
          };
        };
        commits = λ q d e. elim (was_committed q d e) [ inl x ↦ new_commit q d x.0 x.1 | inr x ↦ i.commits q d x ];
        unread = λ q k by e o. i.unread q k by e (was_open q o);
        checks = i.checks;
        shown = i.shown;
      }
    where
      new_commit : (q d : ℕ) → t ≡ q → c ≡ d → IsCommit w.last w.declared w.accepted w.shown q d
      new_commit q d same at = record {
        range = (omega (arith, may.above, same, at), omega (arith, may.upto, at));
        accepts = subst (Accepts w.declared w.accepted) same may.accepts;
        bounds = λ k by a. omega (arith, may.bounds k by (ap (λ n. w.accepted n k) same ∙ a), at);
        shows = omega (arith, may.shown, ap w.shown same, at);
      }

-- by the last acceptance, at the greatest minimum, where each key is accepted async
pub decide_async : (w : View) (t c : ℕ) → Inv w → w.decided t ≡ Open
    → greatest (w.accepted t) (set_of (w.declared t)) ≡ Some c → CanDecide w t c
decide_async w t c i o most =
    let some = greatest_some (w.accepted t) (set_of (w.declared t)) c most in
    let within = does_within w.declared t some.0 some.1.lock.mutation (i.acceptances t some.0 some.1 some.2).does in
    record {
      opened = o;
      declared = does_declared w.declared t some.0 some.1.lock.mutation (i.acceptances t some.0 some.1 some.2).does;
      above = omega (arith, (i.acceptances t some.0 some.1 some.2).above, some.4);
      upto = omega (
        arith,
        (i.acceptances t some.0 some.1 some.2).bounded,
        (i.acceptances t some.0 some.1 some.2).upto,
        (i.acceptances t some.0 some.1 some.2).at,
        some.4,
      );
      accepts = λ k x. (let each = greatest_each (w.accepted t) (set_of (w.declared t)) c most k x in
          is_some (w.accepted t k) each.by each.stands);
      bounds = λ k by e.
          (let each = greatest_each (w.accepted t) (set_of (w.declared t)) c most k
          (does_within w.declared t k by.lock.mutation (i.acceptances t k by e).does) in
          let same : each.by ≡ by = some_same each.by by (sym each.stands ∙ e) in
          omega (
            arith,
            bound_async by (ap (λ (b : Acceptance). b.lock.mode) (sym same) ∙ each.async),
            each.upto,
            ap (λ (b : Acceptance). b.lock.min) same,
          ));
      shown = shown;
    }
  where
    never : FellBack w.accepted t → ⊥
    never fell = (let each =
        greatest_each (w.accepted t) (set_of (w.declared t)) c most fell.key
        (does_within w.declared t fell.key fell.by.lock.mutation (i.acceptances t fell.key fell.by fell.stands).does) in
        cc (each.async, fell.two_phase, some_same each.by fell.by (sym each.stands ∙ fell.stands)))

    shown : w.shown t ≤ c
    shown = go (set_of (w.declared t)) refl
      where
        go : (set : List Change) → set_of (w.declared t) ≡ set → w.shown t ≤ c
        go [] e = (let fact : greatest (w.accepted t) (set_of (w.declared t)) ≡ None = ap (greatest (w.accepted t)) e in
            absurd (cc (fact, most)))
        go (x ∷ xs) e =
            (let first : IsPrimary w.declared t x.key = ap (λ s. is_first s x.key) e ∙ key_same x.key in
            let does = first_within w.declared t x.key first in
            let each = greatest_each (w.accepted t) (set_of (w.declared t)) c most x.key
            (does_within w.declared t x.key does.0 does.1) in
            omega (arith, i.shown.first t x.key each.by first each.stands never, each.upto))
