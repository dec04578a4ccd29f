-- A key is inserted; a second insert of it is refused; and after it was deleted it is inserted
-- again. The first commit's answer was lost: it is answered again, and a status check tells of it.
use Rattle.std.proofs.Common.{◌≡◌, ℕ, ◌<◌, inl, inr, true, false, [], ◌∷◌, Option, Some, None, refl, sym, ap, subst, arith}
use Rattle.tx_types.specs.declared.mutation.Mutation.TheVariants.{Insert, Delete}
use Rattle.tx_plan.specs.declared.body.Body.TheVariants.{CheckTxnStatus}
use Rattle.tx_plan.specs.declared.answer.Answer.TheVariants.{Prewritten, Committed, AlreadyExists}
use Rattle.tx_plan.specs.Cells.{CommitOf, Write}
use Rattle.tx_plan.specs.cases.Prewrite.{HasValue}
use Rattle.tx_core.specs.declared.event.Taken.{Taken}
use Rattle.tx_core.specs.declared.event.Event.TheVariants.{Drawn, Took}
use Rattle.tx_core.specs.Histories.{History, left}
use Rattle.tx_core.specs.Worlds.{IsWorldRun, MayTake}
use Rattle.tx_core.proofs.Basics.{nat_test}
use Rattle.tx_core.proofs.seats.Stays.{upto_last}
use Rattle.tx_core.proofs.examples.Words.{a, x}
use Rattle.tx_core.proofs.examples.OneKey.{begins, lock_key, commit_key, begins_run, AllBelow, locks, refuses, commits}
use Rattle.tx_core.specs.Happens.{Happens, CommitsInsert, RefusesInsert, InsertsOverDelete, FindsCommit, FindsByStatus}

-- ---- a key is inserted

abbrev locked : History
locked = Drawn 1 3 ∷ Took (lock_key 1 (Insert x) (Prewritten 0)) ∷ begins 1 (Insert x) []

abbrev pub inserted : History
inserted = Took (commit_key 1 3) ∷ locked

begun_run : IsWorldRun [] (begins 1 (Insert x) [])
begun_run = begins_run 1 (Insert x) [] tt (omega arith) refl refl refl

locked_run : IsWorldRun [] locked
locked_run = (
  (
    begun_run,
    locks (begins 1 (Insert x) []) 1 (Insert x) refl refl refl refl (λ c rec e. (cc (e))) refl
        (λ found. (cc (found.1.1.stands))),
  ),
  omega arith,
)

pub inserted_run : IsWorldRun [] inserted
inserted_run = (
  locked_run,
  commits locked 1 3 (Insert x) _ _ refl refl refl refl refl (omega arith) refl refl (omega arith) refl refl refl,
)

-- ---- its commit is found again

abbrev pub status : Taken
status = record {
  region = 0;
  body = CheckTxnStatus record {
    key = a;
    start = 1;
    caller = 3;
    current = 100;
    rollback_if_not_exist = true;
    force_sync_commit = false;
  };
  loaded = 3;
  answer = Committed 3;
}

commits_again : MayTake [] inserted (commit_key 1 3)
commits_again = record {
  region = omega arith;
  allowed = inl refl;
  holds = refl;
  loaded = upto_last inserted;
  answers = inr (
    λ h. omega (arith, h),
    inr (λ lock own. (cc (own.stands)), inl (3, record { rec = _; stands = refl; own = refl }, refl)),
  );
}

pub again_run : IsWorldRun [] (Took (commit_key 1 3) ∷ inserted)
again_run = (inserted_run, commits_again)

tells_status : MayTake [] inserted status
tells_status = record {
  region = omega arith;
  allowed = record { primary = refl; forced = λ e. (cc (e)) };
  holds = refl;
  loaded = upto_last inserted;
  answers = inr (
    λ h. omega (arith, h),
    inr (
      λ h. omega (arith, h),
      inr (λ lock own. (cc (own.stands)), inl (3, record { rec = _; stands = refl; own = refl }, refl)),
    ),
  );
}

pub status_run : IsWorldRun [] (Took status ∷ inserted)
status_run = (inserted_run, tells_status)

-- ---- a second insert is refused

abbrev pub second : History
second = begins 4 (Insert x) inserted

abbrev start_of : Option Write → ℕ
start_of (Some (CommitOf rec)) = rec.start
start_of _ = 0

inserted_below : (t : ℕ) → 3 < t → AllBelow ((left inserted 0).cells a).write t
inserted_below t above c rec e = elim (nat_test 3 c) [
  | inl y ↦ (let at : ((left inserted 0).cells a).write 3 ≡ Some (CommitOf rec) =
      subst (λ n. ((left inserted 0).cells a).write n ≡ Some (CommitOf rec)) (sym y.1) e in
      (omega (arith, y.1, above), omega (arith, ap start_of at, above)))
  | inr y ↦ (let at : None ≡ Some (CommitOf rec) = rw y.0 at e in absurd (cc (at)))
]

second_run : IsWorldRun [] second
second_run = begins_run 4 (Insert x) inserted inserted_run (omega arith) refl refl refl

has_value : HasValue ((left second 0).cells a).write 4
has_value = (
  x,
  record {
    at = 3;
    rec = _;
    stands = refl;
    puts = refl;
    upto = omega arith;
    newest = λ c rec e seen low high. (let below =
        inserted_below 4 (omega arith) c rec e in omega (arith, low, below.0));
  },
)

pub refused_run : IsWorldRun [] (Took (lock_key 4 (Insert x) AlreadyExists) ∷ second)
refused_run = (
  second_run,
  refuses second 4 (Insert x) refl refl refl refl (inserted_below 4 (omega arith)) refl tt has_value,
)

-- ---- it is deleted, and inserted again

abbrev deleting : History
deleting = Drawn 1 6 ∷ Took (lock_key 4 Delete (Prewritten 0)) ∷ begins 4 Delete inserted

abbrev deleted : History
deleted = Took (commit_key 4 6) ∷ deleting

abbrev third : History
third = Drawn 1 9 ∷ Took (lock_key 7 (Insert x) (Prewritten 0)) ∷ begins 7 (Insert x) deleted

abbrev pub reinserted : History
reinserted = Took (commit_key 7 9) ∷ third

deleted_run : IsWorldRun [] deleted
deleted_run = (
  (
    (
      begins_run 4 Delete inserted inserted_run (omega arith) refl refl refl,
      locks (begins 4 Delete inserted) 4 Delete refl refl refl refl (inserted_below 4 (omega arith)) refl
          (λ fresh. absurd fresh.0),
    ),
    omega arith,
  ),
  commits deleting 4 6 Delete _ _ refl refl refl refl refl (omega arith) refl refl (omega arith) refl refl refl,
)

deleted_below : AllBelow ((left deleted 0).cells a).write 7
deleted_below c rec e = elim (nat_test 6 c) [
  | inl y ↦ (let at : ((left deleted 0).cells a).write 6 ≡ Some (CommitOf rec) =
      subst (λ n. ((left deleted 0).cells a).write n ≡ Some (CommitOf rec)) (sym y.1) e in
      (omega (arith, y.1), omega (arith, ap start_of at)))
  | inr y ↦ (let at : ((left inserted 0).cells a).write c ≡ Some (CommitOf rec) = rw y.0 at e in
      inserted_below 7 (omega arith) c rec at)
]

-- the newest below 7 is the delete
no_value : HasValue ((left deleted 0).cells a).write 7 → ⊥
no_value (v, found) = elim (nat_test 6 found.at) [
  | inl y ↦ (let at : ((left deleted 0).cells a).write 6 ≡ Some (CommitOf found.rec) =
      subst (λ n. ((left deleted 0).cells a).write n ≡ Some (CommitOf found.rec)) (sym y.1) found.stands in
      (cc (at, found.puts)))
  | inr y ↦ (let at : ((left inserted 0).cells a).write found.at ≡ Some (CommitOf found.rec) =
      rw y.0 at found.stands in
      let low = inserted_below 4 (omega arith) found.at found.rec at in
      found.newest 6 _ refl tt (omega (arith, low.0)) (omega arith))
]

pub reinserted_run : IsWorldRun [] reinserted
reinserted_run = (
  (
    (
      begins_run 7 (Insert x) deleted deleted_run (omega arith) refl refl refl,
      locks (begins 7 (Insert x) deleted) 7 (Insert x) refl refl refl refl deleted_below refl
          (λ fresh. no_value fresh.1),
    ),
    omega arith,
  ),
  commits third 7 9 (Insert x) _ _ refl refl refl refl refl (omega arith) refl refl (omega arith) refl refl refl,
)

-- ---- what happens

pub commits_insert : Happens CommitsInsert
commits_insert = (
  [],
  locked,
  commit_key 1 3,
  inserted_run,
  record {
    key = a;
    start = 1;
    commit = 3;
    value = x;
    decides = record { before = refl; now = refl };
    commits = record { set = _; row_is = refl; does = refl };
  },
)

pub finds_commit : Happens FindsCommit
finds_commit = (
  [],
  inserted,
  commit_key 1 3,
  again_run,
  record { b = _; asked = refl; answer = refl; before = inl refl },
)

pub finds_by_status : Happens FindsByStatus
finds_by_status = (
  [],
  inserted,
  status,
  status_run,
  record { b = _; asked = refl; commit = 3; answer = refl; before = refl },
)

pub refuses_insert : Happens RefusesInsert
refuses_insert = (
  [],
  second,
  lock_key 4 (Insert x) AlreadyExists,
  refused_run,
  record { b = _; asked = refl; answer = refl },
)

pub inserts_over_delete : Happens InsertsOverDelete
inserts_over_delete = (
  [],
  third,
  commit_key 7 9,
  reinserted_run,
  record {
    key = a;
    starts = (1, 4, 7);
    commits = (3, 6, 9);
    value = x;
    first = record { set = _; row_is = refl; does = refl };
    deleted = record { set = _; row_is = refl; does = refl };
    again = record { set = _; row_is = refl; does = refl };
    order = (omega arith, omega arith);
  },
)
