-- What an answer to a session's request tells, its state may keep.
use Rattle.std.proofs.Common.{◌≡◌, ℕ, inl, inr, zero, suc, List, [], ◌∷◌, Option, Some, None, Ok, refl, sym, ap, subst, ◌∙◌}
use Rattle.tx_types.specs.declared.key.Key.{Key}
use Rattle.tx_types.specs.declared.lock.LockInfo.{LockInfo}
use Rattle.tx_types.specs.declared.mutation.Fate.{Fate}
use Rattle.tx_types.specs.declared.mutation.Fate.TheVariants as fate
use Rattle.tx_machine.specs.Keys.{IsDistinct}
use Rattle.tx_plan.specs.declared.body.Body.{Body}
use Rattle.tx_plan.specs.declared.answer.Answer.{Answer}
use Rattle.tx_plan.specs.declared.answer.Answer.TheVariants.{Prewritten, Committed, RolledBack, Missing, Locked, KeyIsLocked, CommitTsExpired}
use Rattle.tx_plan.specs.Answers.{start_in}
use Rattle.tx_core.specs.Histories.{History, declared}
use Rattle.tx_core.specs.Decisions.{fate_in}
use Rattle.tx_core.specs.Worlds.{WasTold, MayAnswer, IsWorldRun}
use Rattle.tx_transaction.specs.declared.state.Terms.{Terms}
use Rattle.tx_transaction.specs.declared.state.Phase.{Phase}
use Rattle.tx_transaction.specs.declared.state.Phase.TheVariants as phase
use Rattle.tx_transaction.specs.declared.state.Progress.{Progress}
use Rattle.tx_transaction.specs.declared.state.Miss.{Miss}
use Rattle.tx_transaction.specs.declared.state.Due.{Due}
use Rattle.tx_transaction.specs.Buffers.{Entries, changes_of, key_at, progress_at, with_progress, promised}
use Rattle.tx_transaction.specs.Sessions.{SessionState, first_settled, committed_by, met_by, drawn_after, sent_by, marked_by, marked, missed, after_answer, after_read, outcome_of}
use Rattle.tx_client.specs.Facts.{WasAnswered, WasMet, standing, Mark, Marks, IsSession, IsFor}
use Rattle.tx_transaction.proofs.Entries.{changes_with, declaration_with}
use Rattle.tx_client.proofs.Due.{names_start}
use Rattle.tx_client.proofs.Marks.{prewritten_mark, checked_mark, rolled_unlocked}
use Rattle.tx_client.proofs.AsyncCommits.{promised_greatest}

-- ---- marks by places

mark_at : (h : History) (t : ℕ) (es : Entries) (i : ℕ) → Marks h t es
    → Mark h t (key_at es i) (progress_at es i).accepted
mark_at h t [] i m = tt
mark_at h t (e ∷ es) zero m = m.0
mark_at h t (e ∷ es) (suc i) m = mark_at h t es i m.1

marks_with : (h : History) (t : ℕ) (es : Entries) (i : ℕ) (p : Progress) → Marks h t es
    → Mark h t (key_at es i) p.accepted → Marks h t (with_progress es i p)
marks_with h t [] i p m new = tt
marks_with h t (e ∷ es) zero p m new = (new, m.1)
marks_with h t (e ∷ es) (suc i) p m new = (m.0, marks_with h t es i p m.1 new)

-- progress is no part of what stands declared
standing_with : (t placed : ℕ) (es : Entries) (i : ℕ) (p : Progress) (o : Option Terms)
    → standing t placed (with_progress es i p) o ≡ standing t placed es o
standing_with t placed es i p None = refl
standing_with t placed es i p (Some terms) = declaration_with t placed es i p terms

-- what was sent is not accepted by that
sent_accepted : (x : Phase) (p : Progress) → (sent_by x p).accepted ≡ p.accepted
sent_accepted phase.Prewrite p = refl
sent_accepted phase.Commit p = refl
sent_accepted phase.Abort p = refl

-- ---- answers

-- an answer gives up a drawn timestamp, or keeps it
drawn_was : (a : Answer) (o : Option ℕ) (c : ℕ) → drawn_after a o ≡ Some c → o ≡ Some c
drawn_was (CommitTsExpired m) o c e = absurd (cc (e))
drawn_was _ o c e = e

-- a lock that is met stood in the way
met_told : (h : History) (b : Body) (a : Answer) → WasAnswered h b a → (o : Option LockInfo)
    → ((info : LockInfo) → o ≡ Some info → WasMet h info) → (info : LockInfo) → met_by a o ≡ Some info → WasMet h info
met_told h b (KeyIsLocked found) was o old info e =
    let same : found ≡ info = cc (e) in
    subst (WasMet h) same (b, was)
met_told h b _ was o old info e = old info e

module _ (bounds : List Key) (h : History) (run : IsWorldRun bounds h) (i : ℕ) (s : SessionState)
    (is : IsSession h i s) where
  -- a fate that an answer tells was told
  answer_told : (x : Phase) (due : Due) → IsFor s x due → (a : Answer) → WasAnswered h due.body a → (end : Fate)
      → fate_in a ≡ Some end → MayAnswer h s.start (outcome_of end)
  answer_told x due f a was end e = by_end end (record {
    by = was.by;
    among = was.among;
    of = ap start_in was.asked
        ∙ names_start s x due f;
    tells = ap fate_in was.told ∙ e;
  })
    where
      by_end : (end : Fate) → WasTold h s.start end → MayAnswer h s.start (outcome_of end)
      by_end (fate.Committed c) told = inl told
      by_end fate.Aborted told = told

  -- where each key has an async lock
  promise_told : (es : Entries) → declared h s.start ≡ standing s.start s.placed es s.declared
      → IsDistinct (changes_of es) → Marks h s.start es → (end : Fate) → committed_by (promised es) ≡ Some end
      → MayAnswer h s.start (outcome_of end)
  promise_told es stands distinct marks end e = go (promised es) refl e
    where
      go : (o : Option ℕ) → promised es ≡ o → committed_by o ≡ Some end → MayAnswer h s.start (outcome_of end)
      go None at e = absurd (cc (e))
      go (Some c) at e = (let same : fate.Committed c ≡ end =
          cc (e) in subst (λ q. MayAnswer h s.start (outcome_of q)) same
          (inr (promised_greatest bounds h run s.start s.placed es s.declared c stands distinct marks at)))

  -- the mark that an answer makes is true
  new_mark : (x : Phase) (due : Due) → IsFor s x due → (a : Answer) → WasAnswered h due.body a → (p : Progress)
      → Mark h s.start (key_at s.buffer due.index) p.accepted
      → Mark h s.start (key_at s.buffer due.index) (marked_by x a p).accepted
  new_mark phase.Prewrite due f (Prewritten m) was p old =
      let index : f.1 ≡ due.index = sym (ap (λ (d : Due). d.index) f.2) in
      subst (λ n. Mark h s.start (key_at s.buffer n) (Some m)) index
      (prewritten_mark bounds h run _ m (subst (λ (d : Due). WasAnswered h d.body (Prewritten m)) f.2 was))
  new_mark phase.Commit due f (Committed c) was p old = old
  new_mark phase.Abort due f RolledBack was p old = old
  new_mark phase.Abort due f Missing was p old = old
  new_mark phase.Abort due (inl f) (Locked info) was p old =
      absurd (rolled_unlocked bounds h run _ info (subst (λ (d : Due). WasAnswered h d.body (Locked info)) f.1 was))
  new_mark phase.Abort due (inr f) (Locked info) was p old =
      let index : f.0 ≡ due.index = sym (ap (λ (d : Due). d.index) f.1) in
      subst (λ n. Mark h s.start (key_at s.buffer n) (Some _)) index
      (checked_mark bounds h run _ info (subst (λ (d : Due). WasAnswered h d.body (Locked info)) f.1 was))
  new_mark _ due f a was p old = old

  -- what is known of the fate, after an answer
  settled : (x : Phase) (due : Due) → IsFor s x due → (a : Answer) → WasAnswered h due.body a → (es : Entries)
      → declared h s.start ≡ standing s.start s.placed es s.declared → IsDistinct (changes_of es) → Marks h s.start es
      → (end : Fate)
      → first_settled (first_settled s.decision (fate_in a)) (committed_by (promised es)) ≡ Some end
      → MayAnswer h s.start (outcome_of end)
  settled x due f a was es stands distinct marks end e = go s.decision (fate_in a) refl refl e
    where
      go : (o told : Option Fate) → s.decision ≡ o → fate_in a ≡ told
          → first_settled (first_settled o told) (committed_by (promised es)) ≡ Some end
          → MayAnswer h s.start (outcome_of end)
      go None None at tells e = promise_told es stands distinct marks end e
      go None (Some q) at tells e = answer_told x due f a was end (tells ∙ e)
      go (Some old) told at tells e = is.settled end (at ∙ e)

  -- a request of a phase was answered
  pub heard_ok : (x : Phase) (due : Due) → IsFor s x due → (a : Answer) → WasAnswered h due.body a
      → IsSession h i (after_answer s x due.index a)
  heard_ok x due f a was =
      let p : Progress = progress_at s.buffer due.index in
      let q : Progress = marked_by x a (sent_by x p) in
      let stands : declared h s.start ≡ standing s.start s.placed (marked s x due.index a) s.declared = is.stands
      ∙ sym (standing_with s.start s.placed s.buffer due.index q s.declared) in
      let distinct : IsDistinct (changes_of (marked s x due.index a)) =
      subst IsDistinct (sym (changes_with s.buffer due.index q)) is.distinct in
      let old : Mark h s.start (key_at s.buffer due.index) (sent_by x p).accepted =
      subst (Mark h s.start (key_at s.buffer due.index)) (sym (sent_accepted x p))
      (mark_at h s.start s.buffer due.index is.marks) in
      let marks : Marks h s.start (marked s x due.index a) =
      marks_with h s.start s.buffer due.index q is.marks (new_mark x due f a was (sent_by x p) old) in
      record {
        drew_start = is.drew_start;
        begun = is.begun;
        unanswered = is.unanswered;
        stands = stands;
        distinct = distinct;
        marks = marks;
        passes = is.passes;
        met = met_told h due.body a was s.met is.met;
        ready = λ c e. is.ready c (drawn_was a s.drawn c e);
        settled = settled x due f a was (marked s x due.index a) stands distinct marks;
      }

  -- it was not answered
  pub missed_ok : (x : Phase) (n : ℕ) (why : Miss) → IsSession h i (missed s x n why)
  missed_ok x n why =
      let p : Progress = progress_at s.buffer n in
      record {
        drew_start = is.drew_start;
        begun = is.begun;
        unanswered = is.unanswered;
        stands = is.stands ∙ sym (standing_with s.start s.placed s.buffer n (sent_by x p) s.declared);
        distinct = subst IsDistinct (sym (changes_with s.buffer n (sent_by x p))) is.distinct;
        marks = marks_with h s.start s.buffer n (sent_by x p) is.marks
            (subst (Mark h s.start (key_at s.buffer n)) (sym (sent_accepted x p))
            (mark_at h s.start s.buffer n is.marks));
        passes = is.passes;
        met = is.met;
        ready = is.ready;
        settled = is.settled;
      }

  -- a read was answered
  pub read_ok : (b : Body) (a : Answer) → WasAnswered h b a → IsSession h i (after_read s (Ok a))
  read_ok b a was =
      record {
        drew_start = is.drew_start;
        begun = is.begun;
        unanswered = is.unanswered;
        stands = is.stands;
        distinct = is.distinct;
        marks = is.marks;
        passes = is.passes;
        met = met_told h b a was s.met is.met;
        ready = is.ready;
        settled = is.settled;
      }
