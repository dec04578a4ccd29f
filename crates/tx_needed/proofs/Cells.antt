-- What stands on a key on which nothing was written, or one record.
use Rattle.std.proofs.Common.{◌≡◌, ◌≢◌, ℕ, ◌≤◌, ◌==◌, inl, inr, true, false, Bool, Some, None, bytes_eq, sym, ap, subst, ◌∙◌, arith}
use Rattle.tx_types.specs.declared.key.Key.{Key}
use Rattle.tx_types.specs.Keys.{IsInsert}
use Rattle.tx_plan.specs.declared.body.Prewrite.{Prewrite}
use Rattle.tx_plan.specs.Cells.{CommitRecord, Write, CommitOf, Rollback, Writes, Region}
use Rattle.tx_plan.specs.Own.{OwnCommit, OwnRollback}
use Rattle.tx_plan.specs.cases.Prewrite.{SomeAbove, HasValue}
use Rattle.tx_core.proofs.Basics.{nat_test, key_test, some_same}
use Rattle.tx_needed.proofs.Words.{a}

-- ---- one key, and one timestamp

-- what holds of a and of each other key
pub by_key : (P : Key → Type 0) → P a → ((k : Key) → bytes_eq a k ≡ false → P k) → (k : Key) → P k
by_key P at_a elsewhere k = elim (key_test a k) [ inl e ↦ subst P e.1 at_a | inr e ↦ elsewhere k e.0 ]

-- what holds at c and at each other timestamp
pub by_time : (P : ℕ → Type 0) (c : ℕ) → P c → ((q : ℕ) → (c == q) ≡ false → P q) → (q : ℕ) → P q
by_time P c at_c elsewhere q = elim (nat_test c q) [ inl e ↦ subst P e.1 at_c | inr e ↦ elsewhere q e.0 ]

-- ---- nothing is written

pub never_rolled : {write : Writes} {t : ℕ} → ((c : ℕ) → write c ≡ None) → OwnRollback write t → ⊥
never_rolled {write} {t} unwritten (inl e) = (let none = unwritten t in cc (none, e))
never_rolled {write} {t} unwritten (inr y) = (let none = unwritten t in let some = y.1.stands in cc (none, some))

pub never_committed : {write : Writes} {t : ℕ} → ((c : ℕ) → write c ≡ None) → (c : ℕ) → OwnCommit write t c → ⊥
never_committed unwritten c own = (let none = unwritten c in let some = own.stands in cc (none, some))

-- ---- one record

-- this one stands at c, and no other
pub record IsOnly (write : Writes) (c : ℕ) (w : Write) : Type 0 where
  pub here : write c ≡ Some w
  pub elsewhere : (q : ℕ) → (c == q) ≡ false → write q ≡ None

pub only_there : {write : Writes} {c : ℕ} {w : Write} → IsOnly write c w → (q : ℕ) (v : Write) → write q ≡ Some v
    → (c ≡ q) × (w ≡ v)
only_there {write} {c} {w} is q v stands = elim (nat_test c q) [
  | inl e ↦ (e.1, some_same w v (sym is.here ∙ ap write e.1 ∙ stands))
  | inr e ↦ (let none = is.elsewhere q e.0 in absurd (cc (none, stands)))
]

-- ---- what a prewrite finds

-- no lock is in its way, and nothing that stands tells of its transaction or lies above its start
pub record IsFree (r : Region) (q : Prewrite) : Type 0 where
  pub unlocked : (r.cells q.key).lock ≡ None
  pub unrolled : OwnRollback (r.cells q.key).write q.start → ⊥
  pub uncommitted : (c : ℕ) → OwnCommit (r.cells q.key).write q.start c → ⊥
  pub none_above : SomeAbove (r.cells q.key).write q.start → ⊥
  pub no_value : IsInsert q.mutation × HasValue (r.cells q.key).write q.start → ⊥

-- nothing is written on the key
pub unwritten : {r : Region} {q : Prewrite} → (r.cells q.key).lock ≡ None
    → ((c : ℕ) → (r.cells q.key).write c ≡ None) → IsFree r q
unwritten unlocked none = record {
  unlocked = unlocked;
  unrolled = never_rolled none;
  uncommitted = never_committed none;
  none_above = λ some. (let free = none some.at in let stands = some.stands in cc (free, stands));
  no_value = λ both. (let free = none both.1.1.at in let stands = both.1.1.stands in cc (free, stands));
}

abbrev pub mark_of : Write → Bool
mark_of (CommitOf rec) = rec.overlapped_rollback
mark_of Rollback = true

abbrev pub start_in : Write → ℕ
start_in (CommitOf rec) = rec.start
start_in Rollback = 0

-- another's commit record with no mark stands there alone, at or below the start
pub under_others : {r : Region} {q : Prewrite} (c : ℕ) (rec : CommitRecord) → (r.cells q.key).lock ≡ None
    → IsOnly (r.cells q.key).write c (CommitOf rec) → c ≤ q.start → rec.start ≢ q.start
    → rec.overlapped_rollback ≡ false
    → (IsInsert q.mutation × HasValue (r.cells q.key).write q.start → ⊥) → IsFree r q
under_others {r} {q} c rec unlocked is low other unmarked no_value = record {
  unlocked = unlocked;
  unrolled = λ own. elim own [
    | inl e ↦ (let same = (only_there is q.start Rollback e).1 in cc (same))
    | inr y ↦ (let same = ap mark_of (only_there is q.start (CommitOf y.0) y.1.stands).1 in let yes = y.2 in
        cc (same, yes, unmarked))
  ];
  uncommitted = λ d own. other (ap start_in (only_there is d (CommitOf own.rec) own.stands).1 ∙ own.own);
  none_above = λ some. (let same = (only_there is some.at (CommitOf some.rec) some.stands).0 in
      omega (arith, same, low, some.above));
  no_value = no_value;
}

-- another's rollback stands there alone
pub beside_rollback : {r : Region} {q : Prewrite} (c : ℕ) → (r.cells q.key).lock ≡ None
    → IsOnly (r.cells q.key).write c Rollback → c ≢ q.start → IsFree r q
beside_rollback {r} {q} c unlocked is other = record {
  unlocked = unlocked;
  unrolled = λ own. elim own [
    | inl e ↦ other (only_there is q.start Rollback e).0
    | inr y ↦ not_commit q.start y.0 y.1.stands
  ];
  uncommitted = λ d own. not_commit d own.rec own.stands;
  none_above = λ some. not_commit some.at some.rec some.stands;
  no_value = λ both. not_commit both.1.1.at both.1.1.rec both.1.1.stands;
}
  where
    not_commit : (d : ℕ) (rec : CommitRecord) → (r.cells q.key).write d ≡ Some (CommitOf rec) → ⊥
    not_commit d rec stands = (let same = (only_there is d (CommitOf rec) stands).1 in cc (same))
