-- Steps of transactions that change the key a alone, in two phases, in one region.
use Rattle.std.proofs.Common.{◌≡◌, ℕ, suc, ◌<◌, ◌≤◌, inl, inr, true, false, [], ◌∷◌, Some, None, refl, ap, arith}
use Rattle.tx_types.specs.declared.mutation.Mutation.{Mutation}
use Rattle.tx_types.specs.declared.mutation.Mode.TheVariants as mode
use Rattle.tx_types.specs.Keys.{IsInsert}
use Rattle.tx_plan.specs.declared.body.Body.TheVariants.{Prewrite, Commit}
use Rattle.tx_plan.specs.declared.answer.Answer.{Answer}
use Rattle.tx_plan.specs.declared.answer.Answer.TheVariants.{Prewritten, Committed, AlreadyExists}
use Rattle.tx_plan.specs.Cells.{Lock, CommitRecord, CommitOf, Writes}
use Rattle.tx_plan.specs.cases.Prewrite.{HasValue}
use Rattle.tx_core.specs.declared.event.Declaration.{Declaration}
use Rattle.tx_core.specs.declared.event.Taken.{Taken}
use Rattle.tx_core.specs.declared.event.Event.TheVariants.{Drawn, Began, Declared}
use Rattle.tx_core.specs.Histories.{History, last, drawer, began, declared, answered, set_of, left}
use Rattle.tx_core.specs.Decisions.{Acceptance, accepted}
use Rattle.tx_core.specs.Worlds.{IsWorldRun, MayTake}
use Rattle.tx_core.proofs.Basics.{nat_same}
use Rattle.tx_core.proofs.examples.Words.{a, decides_at}

-- it starts at t, does m to a, and drew the next number
abbrev pub one_key : ℕ → Mutation → Declaration
one_key t m = record {
  start = t;
  changes = record { key = a; mutation = m } ∷ [];
  mode = mode.TwoPhase;
  ttl = 10;
  max_commit = None;
  drawn = suc t;
}

abbrev pub begins : ℕ → Mutation → History → History
begins t m h = Declared (one_key t m) ∷ Drawn 1 (suc t) ∷ Began t ∷ Drawn 1 t ∷ h

abbrev pub lock_key : ℕ → Mutation → Answer → Taken
lock_key t m answer = record {
  region = 0;
  body = Prewrite record {
    key = a;
    mutation = m;
    start = t;
    primary = a;
    mode = mode.TwoPhase;
    max_commit = None;
    floor = 0;
    ttl = 10;
    others = [];
  };
  loaded = suc t;
  answer = answer;
}

abbrev pub commit_key : ℕ → ℕ → Taken
commit_key t c = record {
  region = 0;
  body = Commit record { key = a; start = t; commit = c };
  loaded = c;
  answer = Committed c;
}

-- it begins and declares
pub begins_run : (t : ℕ) (m : Mutation) (h : History) → IsWorldRun [] h → last h < t → began h t ≡ false
    → declared h t ≡ None → answered h t ≡ false → IsWorldRun [] (begins t m h)
begins_run t m h run low unbegun undeclared unanswered = (
  (((run, low), (λ e. (cc (drew, e)), unbegun)), omega arith),
  record {
    begun = began_now;
    unanswered = unanswered;
    once = undeclared;
    some = λ e. (cc (e));
    distinct = (refl, tt);
    drew = inl (refl, began_now, drew);
  },
)
  where
    drew : drawer (Drawn 1 t ∷ h) t ≡ Some 1
    drew = rw (nat_same t) refl

    began_now : began (Began t ∷ Drawn 1 t ∷ h) t ≡ true
    began_now = rw (nat_same t) refl

-- what committed on a lies below t, and started there
abbrev pub AllBelow : Writes → ℕ → Type 0
AllBelow write t = (c : ℕ) (rec : CommitRecord) → write c ≡ Some (CommitOf rec) → (c < t) × (rec.start < t)

-- nothing of the transaction is on the key, which is free
module _ (h : History) (t : ℕ) (m : Mutation) (is : declared h t ≡ Some (one_key t m)) (safe :
    (left h 0).safe ≡ 0) (free : ((left h 0).cells a).lock ≡ None) (unwritten :
    ((left h 0).cells a).write t ≡ None) (below : AllBelow ((left h 0).cells a).write t) (next : suc t ≡ last h) where
  -- a prewrite finds it so
  pub locks : (IsInsert m × HasValue ((left h 0).cells a).write t → ⊥) → MayTake [] h (lock_key t m (Prewritten 0))
  locks fresh = record {
    region = omega arith;
    allowed = record {
      of = one_key t m;
      stands = is;
      mutation = refl;
      primary = refl;
      mode = refl;
      max_commit = refl;
      floor = refl;
      ttl = refl;
      others = refl;
    };
    holds = refl;
    loaded = omega (arith, next);
    answers = inr (
      λ low. omega (arith, low, safe),
      inr (
        λ low. omega (arith, low),
        inr (
          λ lock own. (cc (free, own.stands)),
          inr (
            λ own. elim own [ inl e ↦ (cc (unwritten, e)) | inr y ↦ (cc (unwritten, y.1.stands)) ],
            inr (
              λ c own. omega (arith, (below c own.rec own.stands).1, own.own),
              inr (
                λ lock e. (cc (free, e)),
                inr (
                  λ some. omega (arith, (below some.at some.rec some.stands).0, some.above),
                  inr (fresh, inr (λ e. (cc (e)), refl)),
                ),
              ),
            ),
          ),
        ),
      ),
    );
  }

  -- an insert finds a value
  pub refuses : IsInsert m → HasValue ((left h 0).cells a).write t → MayTake [] h (lock_key t m AlreadyExists)
  refuses inserts found = record {
    region = omega arith;
    allowed = record {
      of = one_key t m;
      stands = is;
      mutation = refl;
      primary = refl;
      mode = refl;
      max_commit = refl;
      floor = refl;
      ttl = refl;
      others = refl;
    };
    holds = refl;
    loaded = omega (arith, next);
    answers = inr (
      λ low. omega (arith, low, safe),
      inr (
        λ low. omega (arith, low),
        inr (
          λ lock own. (cc (free, own.stands)),
          inr (
            λ own. elim own [ inl e ↦ (cc (unwritten, e)) | inr y ↦ (cc (unwritten, y.1.stands)) ],
            inr (
              λ c own. omega (arith, (below c own.rec own.stands).1, own.own),
              inr (
                λ lock e. (cc (free, e)),
                inr (
                  λ some. omega (arith, (below some.at some.rec some.stands).0, some.above),
                  inl ((inserts, found), refl),
                ),
              ),
            ),
          ),
        ),
      ),
    );
  }

-- its lock is committed at the last number that was drawn
pub commits : (h : History) (t c : ℕ) (m : Mutation) (by : Acceptance) (lock : Lock)
    → declared h t ≡ Some (one_key t m) → accepted h t a ≡ Some by → by.lock.mode ≡ mode.TwoPhase
    → drawer h t ≡ Some 1 → drawer h c ≡ Some 1 → by.at < c → ((left h 0).cells a).lock ≡ Some lock → lock.start ≡ t
    → lock.min ≤ c → ((left h 0).cells a).write c ≡ None → (left h 0).collected ≡ 0 → last h ≡ c
    → MayTake [] h (commit_key t c)
commits h t c m by lock is put two began drew later stands own low unwritten uncollected next = record {
  region = omega arith;
  allowed = inr (decides_at t h m c by (ap set_of is) put two began drew later);
  holds = refl;
  loaded = omega (arith, next);
  answers = inr (
    λ h. omega (arith, h, uncollected),
    inl (
      lock,
      record { stands = stands; own = own },
      inr (λ h. omega (arith, h, low), inr (λ rec h. (cc (unwritten, h.stands)), refl)),
    ),
  );
}
