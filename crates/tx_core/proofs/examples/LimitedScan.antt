-- A scan that its limit ends: it gives the committed row, and meets no lock, though the next key of
-- its range is still locked.
use Rattle.std.proofs.Common.{◌≡◌, ◌≢◌, ◌⊎◌, ℕ, ◌<◌, ◌≤◌, ◌||◌, inl, inr, Bool, true, false, List, [], ◌∷◌, Option, Some, None, bytes_eq, IsTrue, refl, sym, ap, subst, arith}
use Rattle.std.proofs.lemmas.Bool.{and_parts}
use Rattle.tx_types.specs.declared.key.Key.{Key}
use Rattle.tx_types.specs.declared.value.Value.{Value}
use Rattle.tx_types.specs.declared.mutation.KeyValue.{KeyValue}
use Rattle.tx_types.specs.declared.mutation.Mutation.TheVariants.{Put}
use Rattle.tx_types.specs.declared.mutation.Mode.TheVariants as mode
use Rattle.tx_plan.specs.declared.body.Scan as scan_body
use Rattle.tx_plan.specs.declared.body.Body.TheVariants.{Prewrite, Commit, Scan}
use Rattle.tx_plan.specs.declared.answer.Answer.TheVariants.{Rows, Prewritten, Committed}
use Rattle.tx_plan.specs.Cells.{Lock, CommitRecord, CommitOf}
use Rattle.tx_types.specs.Keys.{key_lt, key_le, value_in}
use Rattle.tx_plan.specs.Reads.{Blocks, Reads, in_range, covered}
use Rattle.tx_plan.proofs.KeyOrder.{le_cases, lt_then_le}
use Rattle.tx_machine.specs.Keys.{mutation_at}
use Rattle.tx_machine.specs.declared.step.Step.TheVariants as step
use Rattle.tx_core.specs.declared.event.Declaration.{Declaration}
use Rattle.tx_core.specs.declared.event.Taken.{Taken}
use Rattle.tx_core.specs.declared.event.Event.TheVariants.{Drawn, Began, Declared, Took}
use Rattle.tx_core.specs.Histories.{History, set_at, left}
use Rattle.tx_core.specs.Decisions.{Acceptance, accepted}
use Rattle.tx_core.specs.Worlds.{IsWorldRun, MayTake}
use Rattle.tx_core.specs.Shadow.{shadow}
use Rattle.tx_core.specs.Truth.{scan_read}
use Rattle.tx_core.proofs.Basics.{key_test, key_true, chosen}
use Rattle.tx_core.proofs.seats.Stays.{upto_last}
use Rattle.tx_core.proofs.examples.Words.{a, b, x, none, unrolled}

abbrev two_keys : Declaration
two_keys = record {
  start = 1;
  changes =
      record { key = a; mutation = Put x } ∷ record { key = b; mutation = Put x } ∷ [];
  mode = mode.TwoPhase;
  ttl =
      10;
  max_commit = None;
  drawn = 2;
}

abbrev prewrite : Key → Taken
prewrite k = record {
  region = 0;
  body =
      Prewrite record {
        key = k;
        mutation = Put x;
        start = 1;
        primary = a;
        mode = mode.TwoPhase;
        max_commit = None;
        floor
            = 0;
        ttl = 10;
        others = [];
      };
  loaded = 2;
  answer = Prewritten 0;
}

abbrev commit_a : Taken
commit_a = record {
  region = 0;
  body = Commit record { key = a; start = 1; commit = 3 };
  loaded = 3;
  answer =
      Committed 3;
}

-- the range of both keys, one row
abbrev range : scan_body.Scan
range = record { from = a; to = 99 ∷ []; at = 4; limit = 1; bypass = [] }

abbrev rows : List KeyValue
rows = record { key = a; value = x } ∷ []

abbrev scan : Taken
scan = record { region = 0; body = Scan range; loaded = 4; answer = Rows rows }

abbrev begins : History
begins = Declared two_keys ∷ Drawn 1 2 ∷ Began 1 ∷ Drawn 1 1 ∷ []

abbrev locked : History
locked = Drawn 1 3 ∷ Took (prewrite b) ∷ Took (prewrite a) ∷ begins

abbrev committed : History
committed = Drawn 2 4 ∷ Took commit_a ∷ locked

begins_run : IsWorldRun [] begins
begins_run = (
  (((tt, omega arith), (λ e. (cc (e)), refl)), omega arith),
  record {
    begun = refl;
    unanswered = refl;
    once = refl;
    some = λ e. (cc (e));
    distinct = (refl, (refl, tt));
    drew =
        inl (refl, refl, refl);
  },
)

locks_a : MayTake [] begins (prewrite a)
locks_a = record {
  region = omega arith;
  allowed = record {
    of = two_keys;
    stands = refl;
    mutation = refl;
    primary = refl;
    mode = refl;
    max_commit =
        refl;
    floor = refl;
    ttl = refl;
    others = refl;
  };
  holds = refl;
  loaded = upto_last begins;
  answers = inr (
    λ h. omega arith,
    inr (
      λ h. omega arith,
      inr (
        λ lock own. (cc (own.stands)),
        inr (
          unrolled 1,
          inr (
            λ c own. (cc (own.stands)),
            inr (λ lock e. (cc (e)), inr (λ some. (cc (some.stands)), inr (λ ins. ins.0, inr (λ e. (cc (e)), refl)))),
          ),
        ),
      ),
    ),
  );
}

locks_b : MayTake [] (Took (prewrite a) ∷ begins) (prewrite b)
locks_b = record {
  region = omega arith;
  allowed = record {
    of = two_keys;
    stands = refl;
    mutation = refl;
    primary = refl;
    mode = refl;
    max_commit =
        refl;
    floor = refl;
    ttl = refl;
    others = refl;
  };
  holds = refl;
  loaded = upto_last (Took (prewrite a) ∷ begins);
  answers = inr (
    λ h. omega arith,
    inr (
      λ h. omega arith,
      inr (
        λ lock own. (cc (own.stands)),
        inr (
          unrolled 1,
          inr (
            λ c own. (cc (own.stands)),
            inr (λ lock e. (cc (e)), inr (λ some. (cc (some.stands)), inr (λ ins. ins.0, inr (λ e. (cc (e)), refl)))),
          ),
        ),
      ),
    ),
  );
}

-- the keys of the set
either : (k : Key) → mutation_at (set_at locked 1) k ≢ None → (a ≡ k) ⊎ (b ≡ k)
either k within = elim (key_test a k) [
  | inl e ↦ inl e.1
  | inr e ↦ elim (key_test b k) [ inl f ↦ inr f.1 | inr f ↦ absurd (within (rw (e.0, f.0) refl)) ]
]

abbrev at_of : Option Acceptance → ℕ
at_of None = 0
at_of (Some by) = by.at

commits_a : MayTake [] locked commit_a
commits_a = record {
  region = omega arith;
  allowed = inr record {
    primary = refl;
    accepted = all;
    two_phase =
        record { key = a; by = _; stands = refl; two_phase = refl };
    drawn =
        record { seat = 1; of_start = refl; of_commit = refl; after = after };
  };
  holds = refl;
  loaded = upto_last locked;
  answers = inr (
    λ h. omega arith,
    inl (_, record { stands = refl; own = refl }, inr (λ h. omega arith, inr (λ rec h. (cc (h.stands)), refl))),
  );
}
  where
    all : (k : Key) → mutation_at (set_at locked 1) k ≢ None → accepted locked 1 k ≢ None
    all k within = elim (either k within) [
      | inl e ↦ subst (λ q. accepted locked 1 q ≢ None) e (λ n. (cc (n)))
      | inr e ↦ subst (λ q. accepted locked 1 q ≢ None) e (λ n. (cc (n)))
    ]

    at_two : (k : Key) → mutation_at (set_at locked 1) k ≢ None → at_of (accepted locked 1 k) ≡ 2
    at_two k within = elim (either k within) [
      | inl e ↦ subst (λ q. at_of (accepted locked 1 q) ≡ 2) e refl
      | inr e ↦ subst (λ q. at_of (accepted locked 1 q) ≡ 2) e refl
    ]

    after : (k : Key) (by : Acceptance) → mutation_at (set_at locked 1) k ≢ None → accepted locked 1 k ≡ Some by
        → by.at < 3
    after k by within is = omega (arith, at_two k within, ap at_of is)

-- the scan covers its row alone
only_a : (k : Key) → IsTrue (covered range rows k) → a ≡ k
only_a k within =
    let parts = and_parts (in_range range k) (key_le k a || false) within in
    elim (le_cases a k (and_parts (key_le a k) (key_lt k (99 ∷ [])) parts.0).0) [
      | inl above ↦ (let below : IsTrue (key_lt a a) = lt_then_le a k a above (or_left (key_le k a) parts.1) in
          absurd (cc (below)))
      | inr same ↦ same
    ]
  where
    or_left : (p : Bool) → IsTrue (p || false) → IsTrue p
    or_left true e = e
    or_left false e = e

scans : MayTake [] committed scan
scans = record {
  region = omega arith;
  allowed = λ t within. absurd (none t within);
  holds = λ k inside. refl;
  loaded = upto_last committed;
  answers = inr (
    λ h. omega arith,
    inr (
      λ h. omega arith,
      inr record {
        rows = rows;
        answer = refl;
        upto = omega arith;
        walked =
            record { rising = tt; inside = inside; free = free; read = read };
      },
    ),
  );
}
  where
    inside : (k : Key) (v : Value) → value_in rows k ≡ Some v → IsTrue (covered range rows k)
    inside k v e = elim (chosen (bytes_eq a k) (Some x) None (Some v) e) [
      | inl y ↦
          subst (λ q. IsTrue (covered range rows q)) (key_true a k y.0) refl
      | inr y ↦ (cc (y.1))
    ]

    free : (k : Key) (lock : Lock) → IsTrue (covered range rows k) → Blocks ((left committed 0).cells k).lock 4 [] lock
        → ⊥
    free k lock within blocks =
        (let at : Blocks ((left committed 0).cells a).lock 4 [] lock =
        subst (λ q. Blocks ((left committed 0).cells q).lock 4 [] lock) (sym (only_a k within)) blocks in
        cc (at.stands))

    newest : (c : ℕ) (rec : CommitRecord) → ((left committed 0).cells a).write c ≡ Some (CommitOf rec) → 3 < c → c ≤ 4
        → ⊥
    newest c rec e low high =
        (let four : 4 ≡ c = omega (arith, low, high) in
        let at : ((left committed 0).cells a).write 4 ≡ Some (CommitOf rec) =
        subst (λ n. ((left committed 0).cells a).write n ≡ Some (CommitOf rec)) (sym four) e in cc (at))

    finds : Reads ((left committed 0).cells a).write 4 (Some x)
    finds = record {
      at = 3;
      rec = _;
      stands = refl;
      puts = refl;
      upto = omega arith;
      newest =
          λ c rec e seen low high. newest c rec e low high;
    }

    read : (k : Key) → IsTrue (covered range rows k) → Reads ((left committed 0).cells k).write 4 (value_in rows k)
    read k within = subst (λ q. Reads ((left committed 0).cells q).write 4 (value_in rows q)) (only_a k within) finds

pub limit_ends_the_scan : IsWorldRun [] (Took scan ∷ committed)
limit_ends_the_scan = ((((((begins_run, locks_a), locks_b), omega arith), commits_a), omega arith), scans)

-- the key behind the row is locked still
pub lock_behind_the_row : ((left committed 0).cells b).lock ≢ None
lock_behind_the_row e = (cc (e))

pub shadow_of_it : shadow (Took scan ∷ committed) ≡ step.Scan (scan_read range rows) ∷ step.Draw 4 ∷ step.Commit 1 3
    ∷ step.Draw 3 ∷ step.Declare 1 two_keys.changes ∷ step.Draw 2 ∷ step.Begin 1 ∷ step.Draw 1 ∷ []
shadow_of_it = refl
