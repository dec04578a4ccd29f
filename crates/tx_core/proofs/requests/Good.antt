-- What holds of every history, and how an answer of a region on one key keeps it.
use Rattle.std.proofs.Common.{◌≡◌, ◌≢◌, ℕ, ◌<◌, ◌≤◌, ◌==◌, ◌++◌, inl, inr, true, false, cond, List, [], ◌∷◌, Option, Some, None, bytes_eq, refl, sym, ap, subst, ◌∙◌, arith}
use Rattle.std.proofs.lemmas.Bool.{ne_eqb, eq-eqb}
use Rattle.std.proofs.Math.Nat.{le-max_left}
use Rattle.tx_types.specs.declared.key.Key.{Key}
use Rattle.tx_types.specs.declared.mutation.Fate.{Fate}
use Rattle.tx_types.specs.declared.mutation.Fate.TheVariants.{Committed, Aborted}
use Rattle.tx_machine.specs.declared.step.Step.{Step}
use Rattle.tx_machine.specs.Machine.{State, Open, Done, Reading, Commits, table_of}
use Rattle.tx_plan.specs.declared.body.Body.{Body}
use Rattle.tx_plan.specs.declared.answer.Answer.{Answer}
use Rattle.tx_plan.specs.declared.answer.Answer.TheVariants.{Found, Nothing, Rows, KeyIsLocked}
use Rattle.tx_plan.specs.Cells.{Lock, CommitRecord, CommitOf, Region, Cells, with_cells, with_max_read}
use Rattle.tx_plan.specs.Reads.{raised}
use Rattle.tx_plan.specs.Own.{OwnCommit, OwnRollback, is_own}
use Rattle.tx_plan.specs.Answers.{leaves, start_in}
use Rattle.tx_core.specs.declared.event.Taken.{Taken}
use Rattle.tx_core.specs.declared.event.Event.TheVariants.{Took}
use Rattle.tx_core.specs.Histories.{History, last, set_at, left, Among}
use Rattle.tx_core.specs.Decisions.{Acceptance, Effect, NoEffect, effect, effect_in, accepted, accepted_by, decision, first_decided, decided, fate_in}
use Rattle.tx_core.specs.Worlds.{route}
use Rattle.tx_core.specs.Shadow.{deciding, deciding_in, checking, shadow}
use Rattle.tx_core.specs.EventSteps.{reading}
use Rattle.tx_core.specs.Truth.{HasEnded, IsOvertaken, IsTrueAnswer}
use Rattle.tx_core.proofs.Basics.{nat_test, nat_same, key_test, cond_true, cond_false}
use Rattle.tx_core.proofs.view.View.{View, IsCommitted}
use Rattle.tx_core.proofs.view.Tables.{Sound, has_ended, is_commits}
use Rattle.tx_core.proofs.changes.Raises.{raising}
use Rattle.tx_core.proofs.changes.Sounds.{sound_raise}
use Rattle.tx_core.proofs.view.Ends.{Ends}
use Rattle.tx_core.proofs.view.HistoryView.{reads_by, checks_by, reads_in, shown_put, shown_told, shown_in, view}

-- The machine's steps and the view are sound, the ends hold, and an answer that told of an end told
-- what is decided.
pub record Good (bounds : List Key) (h : History) : Type 0 where
  pub sound : Sound (shadow h) (view bounds h)
  pub ends : Ends (view bounds h)
  pub told : (x : Taken) → Among h (Took x) → (t : ℕ) → start_in x.body ≡ Some t → (end : Fate)
      → fate_in x.answer ≡ Some end → decided h t ≡ Done end

abbrev pub took : ℕ → Body → ℕ → Answer → Taken
took n body l a = record { region = n; body = body; loaded = l; answer = a }

-- what an answer of a region leaves
pub record Next (bounds : List Key) (h : History) (x : Taken) : Type 0 where
  pub sound : Sound (shadow (Took x ∷ h)) (view bounds (Took x ∷ h))
  pub ends : Ends (view bounds (Took x ∷ h))
  pub truth : IsTrueAnswer (table_of (shadow (Took x ∷ h))) x.body x.answer

-- ---- views with the same parts

pub record Same (w v : View) : Type 0 where
  pub last : w.last ≡ v.last
  pub drawer : (t : ℕ) → w.drawer t ≡ v.drawer t
  pub began : (t : ℕ) → w.began t ≡ v.began t
  pub declared : (t : ℕ) → w.declared t ≡ v.declared t
  pub decided : (t : ℕ) → w.decided t ≡ v.decided t
  pub accepted : (t : ℕ) (k : Key) → w.accepted t k ≡ v.accepted t k
  pub reads : w.reads ≡ v.reads
  pub shown : (t : ℕ) → w.shown t ≡ v.shown t
  pub floor : (k : Key) → w.floor k ≡ v.floor k
  pub safe : (k : Key) → w.safe k ≡ v.safe k
  pub collected : (k : Key) → w.collected k ≡ v.collected k
  pub cells : (k : Key) → w.cells k ≡ v.cells k

pub same_view : (w v : View) → Same w v → ◌≡◌ {A = View} w v
same_view w v s =
    λ i. record {
      last = s.last i;
      drawer = λ t. s.drawer t i;
      began = λ t. s.began t i;
      declared = λ t. s.declared t i;
      decided = λ t. s.decided t i;
      accepted = λ t k. s.accepted t k i;
      reads = s.reads i;
      shown = λ t. s.shown t i;
      floor = λ k. s.floor k i;
      safe = λ k. s.safe k i;
      collected = λ k. s.collected k i;
      cells = λ k. s.cells k i;
    }

-- ---- requests on one key, of one transaction

-- what stands on a key
abbrev pub cells_at : List Key → History → Key → Cells
cells_at bounds h k = (left h (route bounds k)).cells k

-- the request names the transaction that started at t and reads nothing, and the answer does f to
-- the cells of k alone
pub record OnKey (k : Key) (body : Body) (a : Answer) (t : ℕ) (f : Cells → Cells) : Type 0 where
  pub named : start_in body ≡ Some t
  pub does : (r : Region) → leaves r body a ≡ with_cells r k (f (r.cells k))
  pub unread : (before : List Reading) → reads_by body a before ≡ before
  pub unseen : reading body a ≡ []
  pub unnoted : (e : Effect) (before : List Reading) → checks_by body e before ≡ before
  pub unchecked : (e : Effect) → checking body e ≡ []

-- where a region answers, what it leaves of itself stays in what the answer does not touch
pub part_same : {X : Type 0} (h : History) (n m : ℕ) (body : Body) (l : ℕ) (a : Answer) (part : Region → X)
    → ((r : Region) → part (leaves r body a) ≡ part r) → part (left (Took (took n body l a) ∷ h) m) ≡ part (left h m)
part_same h n m body l a part same =
    elim (nat_test n m) [
      | inl x ↦ ap part (cond_true (n == m) (leaves (left h m) body a) (left h m) x.0) ∙ same (left h m)
      | inr x ↦ ap part (cond_false (n == m) (leaves (left h m) body a) (left h m) x.0)
    ]

-- the cells after an answer that changes those of one key
pub cells_keyed : (bounds : List Key) (h : History) (k : Key) (body : Body) (l : ℕ) (a : Answer) (f : Cells → Cells)
    → ((r : Region) (q : Key) → (leaves r body a).cells q ≡ cond (bytes_eq k q) (f (r.cells k)) (r.cells q)) → (q : Key)
    → cells_at bounds (Took (took (route bounds k) body l a) ∷ h) q
    ≡ cond (bytes_eq k q) (f (cells_at bounds h k)) (cells_at bounds h q)
cells_keyed bounds h k body l a f does q =
    elim (key_test k q) [
      | inl e ↦ subst (λ x. cells_at bounds (Took (took (route bounds k) body l a) ∷ h) x
          ≡ cond (bytes_eq k x) (f (cells_at bounds h k)) (cells_at bounds h x)) e.1
          (here k (nat_same (route bounds k)))
      | inr e ↦ elim (nat_test (route bounds k) (route bounds q)) [
        | inl x ↦ here q x.0 ∙ cond_false (bytes_eq k q) (f ((left h (route bounds q)).cells k)) (cells_at bounds h q)
            e.0 ∙ sym (cond_false (bytes_eq k q) (f (cells_at bounds h k)) (cells_at bounds h q) e.0)
        | inr x ↦ ap (λ (r : Region). r.cells q)
            (cond_false (route bounds k == route bounds q) (leaves (left h (route bounds q)) body a)
            (left h (route bounds q)) x.0)
            ∙ sym (cond_false (bytes_eq k q) (f (cells_at bounds h k)) (cells_at bounds h q) e.0)
      ]
    ]
  where
    here : (y : Key) → (route bounds k == route bounds y) ≡ true
        → cells_at bounds (Took (took (route bounds k) body l a) ∷ h) y
        ≡ cond (bytes_eq k y) (f ((left h (route bounds y)).cells k)) (cells_at bounds h y)
    here y e = ap (λ (r : Region). r.cells y)
        (cond_true (route bounds k == route bounds y) (leaves (left h (route bounds y)) body a)
        (left h (route bounds y)) e) ∙ does (left h (route bounds y)) y

pub decided_same : (t : ℕ) (s : State) → deciding t s s ≡ []
decided_same t Open = refl
decided_same t (Done e) = refl

-- What an answer leaves, by its parts: its effect, and the decisions, the acceptances, what is
-- shown and the cells of k after it.
pub assemble : (bounds : List Key) (h : History) (k : Key) (body : Body) (l : ℕ) (a : Answer) (t : ℕ) (f : Cells
    → Cells) → OnKey k body a t f → (e : Effect) → effect_in h (took (route bounds k) body l a) ≡ e
    → (d : ℕ → State) (acc : ℕ → Key → Option Acceptance) (shown : ℕ → ℕ) (new : Cells) (steps : List Step)
    → ((u : ℕ) → first_decided (decision (set_at h u) (λ q. accepted_by e (last h) u q (accepted h u q)) e u)
    (decided h u) ≡ d u) → ((u : ℕ) (q : Key) → accepted_by e (last h) u q (accepted h u q) ≡ acc u q)
    → ((u : ℕ) → shown_told body a u (shown_put (set_at h u) e u (shown_in h u)) ≡ shown u)
    → f (cells_at bounds h k) ≡ new → deciding t (decided h t) (d t) ++ shadow h ≡ steps
    → Sound steps (record (view bounds h) {
      decided = d;
      accepted = acc;
      shown = shown;
      cells =
          λ q. cond (bytes_eq k q) new (cells_at bounds h q);
    })
    → Ends (record (view bounds h) {
      decided = d;
      accepted = acc;
      shown = shown;
      cells =
          λ q. cond (bytes_eq k q) new (cells_at bounds h q);
    }) → IsTrueAnswer (table_of steps) body a
    → Next bounds h (took (route bounds k) body l a)
assemble bounds h k body l a t f on e is d acc shown new steps fates accepts shows cells same sound ends truth =
    let x = took (route bounds k) body l a in
    let v : View = record (view bounds h) {
      decided = d;
      accepted = acc;
      shown = shown;
      cells =
          λ q. cond (bytes_eq k q) new (cells_at bounds h q);
    } in
    let now : (u : ℕ) → decided (Took x ∷ h) u ≡ d u =
    λ u. ap (λ y. first_decided (decision (set_at h u) (λ q. accepted_by y (last h) u q (accepted h u q)) y u)
    (decided h u)) is ∙ fates u in
    let w : view bounds (Took x ∷ h) ≡ v = same_view (view bounds (Took x ∷ h)) v record {
      last = refl;
      drawer = λ u. refl;
      began = λ u. refl;
      declared = λ u. refl;
      decided = now;
      accepted = λ u q. ap (λ y. accepted_by y (last h) u q (accepted h u q)) is ∙ accepts u q;
      reads = on.unnoted (effect_in h x) (reads_by body a (reads_in h)) ∙ on.unread (reads_in h);
      shown = λ u. ap (λ y. shown_told body a u (shown_put (set_at h u) y u (shown_in h u))) is ∙ shows u;
      floor = λ q. part_same h (route bounds k) (route bounds q) body l a (λ r. r.max_read)
          (λ r. ap (λ (y : Region). y.max_read) (on.does r));
      safe = λ q. part_same h (route bounds k) (route bounds q) body l a (λ r. r.safe)
          (λ r. ap (λ (y : Region). y.safe) (on.does r));
      collected = λ q. part_same h (route bounds k) (route bounds q) body l a (λ r. r.collected)
          (λ r. ap (λ (y : Region). y.collected) (on.does r));
      cells = λ q. cells_keyed bounds h k body l a f (λ r j. ap (λ (y : Region). y.cells j) (on.does r)) q
          ∙ ap (λ c. cond (bytes_eq k q) c (cells_at bounds h q)) cells;
    } in
    let made : shadow (Took x ∷ h) ≡ steps =
    ap (λ r. deciding_in h x (start_in body) ++ (r ++ (reading body a ++ shadow h))) (on.unchecked (effect_in h x))
    ∙ ap (λ r. deciding_in h x (start_in body) ++ (r ++ shadow h)) on.unseen
    ∙ ap (λ o. deciding_in h x o ++ shadow h) on.named ∙ ap (λ s. deciding t (decided h t) s ++ shadow h) (now t)
    ∙ same in
    record {
      sound = subst (λ s. Sound s (view bounds (Took x ∷ h))) (sym made) (subst (Sound steps) (sym w) sound);
      ends = subst Ends (sym w) ends;
      truth = subst (λ s. IsTrueAnswer (table_of s) body a) (sym made) truth;
    }

-- An answer of no effect that leaves the cells as they were.
pub quiet : (bounds : List Key) (h : History) → Good bounds h
    → (k : Key) (body : Body) (l : ℕ) (a : Answer) (t : ℕ) (f : Cells → Cells) → OnKey k body a t f
    → effect_in h (took (route bounds k) body l a) ≡ NoEffect → ((u n : ℕ) → shown_told body a u n ≡ n)
    → f (cells_at bounds h k) ≡ cells_at bounds h k → IsTrueAnswer (table_of (shadow h)) body a
    → Next bounds h (took (route bounds k) body l a)
quiet bounds h good k body l a t f on is shows cells truth =
    let kept : (q : Key) → cond (bytes_eq k q) (cells_at bounds h k) (cells_at bounds h q) ≡ cells_at bounds h q =
    λ q. elim (key_test k q) [ inl e ↦ rw e.0 (ap (cells_at bounds h) e.1) | inr e ↦ rw e.0 refl ] in
    let v : View = record (view bounds h) {
      cells =
          λ q. cond (bytes_eq k q) (cells_at bounds h k) (cells_at bounds h q);
    } in
    let w : v ≡ view bounds h = λ i. record (view bounds h) { cells = λ q. kept q i } in
    assemble bounds h k body l a t f on NoEffect is (decided h) (accepted h) (shown_in h) (cells_at bounds h k)
    (shadow h) (λ u. refl) (λ u q. refl) (λ u. shows u (shown_in h u)) cells
    (ap (λ s. s ++ shadow h) (decided_same t (decided h t))) (subst (Sound (shadow h)) (sym w) good.sound)
    (subst Ends (sym w) good.ends) truth

-- ---- what records tell

module _ (bounds : List Key) (h : History) (good : Good bounds h) where
  -- its commit record: it is committed there
  pub own_commit : (k : Key) (t c : ℕ) → OwnCommit (cells_at bounds h k).write t c → IsCommitted (decided h) t c
  own_commit k t c own =
      subst (λ n. IsCommitted (decided h) n c) own.own ((good.sound.inv.keys k).records.committed c own.rec own.stands)

  -- what is decided is told truly
  pub true_end : (t : ℕ) (e : Fate) → decided h t ≡ Done e → HasEnded (table_of (shadow h)) t e
  true_end t e end = has_ended (table_of (shadow h)) (view bounds h) t e good.sound.inv good.sound.shows end

  pub true_commit : (k : Key) (t c : ℕ) → OwnCommit (cells_at bounds h k).write t c
      → HasEnded (table_of (shadow h)) t (Committed c)
  true_commit k t c own = true_end t (Committed c) (own_commit k t c own)

  pub true_rollback : (k : Key) (t : ℕ) → OwnRollback (cells_at bounds h k).write t
      → HasEnded (table_of (shadow h)) t Aborted
  true_rollback k t own = true_end t Aborted ((good.sound.inv.keys k).records.rolled t own)

  -- another's commit record above a start
  pub overtakes : (k : Key) (t s c : ℕ) (rec : CommitRecord) → (cells_at bounds h k).write c ≡ Some (CommitOf rec)
      → rec.start ≡ s → s ≢ t → t < c → IsOvertaken (table_of (shadow h)) k t s c
  overtakes k t s c rec stands is other above =
      let x = is_commits (table_of (shadow h)) (view bounds h) k rec.start c rec.mutation good.sound.inv
      good.sound.shows ((good.sound.inv.keys k).records.committed c rec stands)
      ((good.sound.inv.keys k).records.does c rec stands) in
      record {
        does = x.declared;
        commits = subst (λ u. Commits (table_of (shadow h)).row k u c x.declared) is x.commits;
        other = other;
        above = above;
      }

-- a lock that is not its own
pub not_own : (o : Option Lock) (t : ℕ) → ((lock : Lock) → o ≡ Some lock → lock.start ≢ t) → is_own o t ≡ false
not_own None t other = refl
not_own (Some lock) t other = ne_eqb lock.start t (other lock refl)

-- ---- requests that read

-- The request names no transaction, and the answer changes nothing but the greatest timestamp read.
pub record IsRead (body : Body) (a : Answer) (at : ℕ) : Type 0 where
  pub unnamed : start_in body ≡ None
  pub does : (r : Region) → leaves r body a ≡ with_max_read r (raised a at r.max_read)
  pub none : (cells : Key → Cells) → effect cells body a ≡ NoEffect
  pub untold : (u n : ℕ) → shown_told body a u n ≡ n
  pub unnoted : (e : Effect) (before : List Reading) → checks_by body e before ≡ before
  pub unchecked : (e : Effect) → checking body e ≡ []

-- the greatest timestamp read after an answer, on a key
abbrev pub floor_after : List Key → History → Taken → Key → ℕ
floor_after bounds h x k = (left (Took x ∷ h) (route bounds k)).max_read

-- it grows
raised_more : (a : Answer) (r m : ℕ) → m ≤ raised a r m
raised_more (Found v) r m = le-max_left m r
raised_more Nothing r m = le-max_left m r
raised_more (Rows rows) r m = le-max_left m r
raised_more (KeyIsLocked info) r m = le-max_left m r
raised_more _ r m = omega arith

pub floor_more : (bounds : List Key) (h : History) (n : ℕ) (body : Body) (l : ℕ) (a : Answer) (at : ℕ)
    → IsRead body a at → (k : Key) → (left h (route bounds k)).max_read ≤ floor_after bounds h (took n body l a) k
floor_more bounds h n body l a at read k =
    elim (nat_test n (route bounds k)) [
      | inl x ↦ (let new : floor_after bounds h (took n body l a) k ≡ raised a at (left h (route bounds k)).max_read =
          ap (λ (r : Region). r.max_read)
          (cond_true (n == route bounds k) (leaves (left h (route bounds k)) body a) (left h (route bounds k)) x.0
          ∙ read.does (left h (route bounds k))) in
          omega (arith, new, raised_more a at (left h (route bounds k)).max_read))
      | inr x ↦ (let same : floor_after bounds h (took n body l a) k ≡ (left h (route bounds k)).max_read =
          ap (λ (r : Region). r.max_read)
          (cond_false (n == route bounds k) (leaves (left h (route bounds k)) body a) (left h (route bounds k)) x.0) in
          omega (arith, same))
    ]

-- and reaches a read that was answered, in its region
pub floor_reaches : (bounds : List Key) (h : History) (n : ℕ) (body : Body) (l : ℕ) (a : Answer) (at : ℕ)
    → IsRead body a at → ((m : ℕ) → at ≤ raised a at m) → (k : Key) → route bounds k ≡ n
    → at ≤ floor_after bounds h (took n body l a) k
floor_reaches bounds h n body l a at read up k here =
    let new : floor_after bounds h (took n body l a) k ≡ raised a at (left h (route bounds k)).max_read =
    ap (λ (r : Region). r.max_read)
    (cond_true (n == route bounds k) (leaves (left h (route bounds k)) body a) (left h (route bounds k))
    (eq-eqb n (route bounds k) (sym here)) ∙ read.does (left h (route bounds k))) in
    omega (arith, new, up (left h (route bounds k)).max_read)

-- the view before the answer is as sound with that number raised
pub sound_floor : (bounds : List Key) (h : History) → Good bounds h
    → (n : ℕ) (body : Body) (l : ℕ) (a : Answer) (at : ℕ) → IsRead body a at
    → Sound (shadow h) (raising (view bounds h) (floor_after bounds h (took n body l a)))
sound_floor bounds h good n body l a at read =
    sound_raise (shadow h) (view bounds h) (floor_after bounds h (took n body l a)) good.sound
    (floor_more bounds h n body l a at read)

-- What an answer to a read leaves.
pub assemble_read : (bounds : List Key) (h : History) → Good bounds h
    → (n : ℕ) (body : Body) (l : ℕ) (a : Answer) (at : ℕ) → IsRead body a at
    → Sound (reading body a
    ++ shadow h) (record (view bounds h) {
      floor = floor_after bounds h (took n body l a);
      reads =
          reads_by body a (reads_in h);
    }) → IsTrueAnswer (table_of (reading body a ++ shadow h)) body a
    → Next bounds h (took n body l a)
assemble_read bounds h good n body l a at read sound truth =
    let x = took n body l a in
    let v : View = record (view bounds h) { floor = floor_after bounds h x; reads = reads_by body a (reads_in h) } in
    let none : effect_in h x ≡ NoEffect = read.none (left h n).cells in
    let w : view bounds (Took x ∷ h) ≡ v = same_view (view bounds (Took x ∷ h)) v record {
      last = refl;
      drawer = λ u. refl;
      began = λ u. refl;
      declared = λ u. refl;
      decided = λ u. ap (λ y. first_decided
          (decision (set_at h u) (λ q. accepted_by y (last h) u q (accepted h u q)) y u) (decided h u)) none;
      accepted = λ u q. ap (λ y. accepted_by y (last h) u q (accepted h u q)) none;
      reads = read.unnoted (effect_in h x) (reads_by body a (reads_in h));
      shown = λ u. ap (λ y. shown_told body a u (shown_put (set_at h u) y u (shown_in h u))) none
          ∙ read.untold u (shown_in h u);
      floor = λ q. refl;
      safe = λ q. part_same h n (route bounds q) body l a (λ r. r.safe)
          (λ r. ap (λ (y : Region). y.safe) (read.does r));
      collected = λ q. part_same h n (route bounds q) body l a (λ r. r.collected)
          (λ r. ap (λ (y : Region). y.collected) (read.does r));
      cells = λ q. part_same h n (route bounds q) body l a (λ r. r.cells q)
          (λ r. ap (λ (y : Region). y.cells q) (read.does r));
    } in
    let made : shadow (Took x ∷ h) ≡ reading body a ++ shadow h =
    ap (λ r. deciding_in h x (start_in body)
    ++ (r ++ (reading body a ++ shadow h))) (read.unchecked (effect_in h x))
    ∙ ap (λ o. deciding_in h x o ++ (reading body a ++ shadow h)) read.unnamed in
    record {
      sound = subst (λ s. Sound s (view bounds (Took x ∷ h))) (sym made)
          (subst (Sound (reading body a ++ shadow h)) (sym w) sound);
      ends = subst Ends (sym w) good.ends;
      truth = subst (λ s. IsTrueAnswer (table_of s) body a) (sym made) truth;
    }
