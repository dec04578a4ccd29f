-- What answers to a resolver tell is so.
use Rattle.std.proofs.Common.{◌≡◌, ◌&&◌, ◌+◌, ℕ, Bool, true, false, cond, List, [], Some, None, Ok, Err, inl, inr, refl, sym, ap, subst, ◌∙◌}
use Rattle.std.specs.Prelude.{Contains}
use Rattle.std.proofs.lemmas.Bool.{and_parts}
use Rattle.std.proofs.lemmas.List.Elements.{Contains-push}
use Rattle.tx_types.specs.declared.key.Key.{Key}
use Rattle.tx_types.specs.declared.lock.LockInfo.{LockInfo}
use Rattle.tx_types.specs.declared.mutation.Fate.{Fate}
use Rattle.tx_types.specs.declared.mutation.Fate.TheVariants as fate
use Rattle.tx_types.specs.declared.mutation.Mode.{Mode}
use Rattle.tx_types.specs.declared.mutation.Mode.TheVariants.{TwoPhase, Async}
use Rattle.tx_machine.specs.Machine.{Done}
use Rattle.tx_plan.specs.declared.body.Body.{Body}
use Rattle.tx_plan.specs.declared.body.Body.TheVariants as request
use Rattle.tx_plan.specs.declared.body.CheckTxnStatus.{CheckTxnStatus}
use Rattle.tx_plan.specs.declared.body.CheckSecondaryLocks.{CheckSecondaryLocks}
use Rattle.tx_plan.specs.declared.answer.Answer.{Answer}
use Rattle.tx_plan.specs.declared.answer.Answer.TheVariants as answer
use Rattle.tx_plan.specs.Cells.{Lock, Region, info_of}
use Rattle.tx_plan.specs.Answers.{Answers, start_in}
use Rattle.tx_plan.specs.cases.CheckTxnStatus.{ChecksLock, with_minimum}
use Rattle.tx_core.specs.Histories.{History, last, set_of, set_at, is_first, left}
use Rattle.tx_core.specs.Decisions.{accepted, decided, infos_in, fate_in}
use Rattle.tx_core.specs.Worlds.{IsWorldRun}
use Rattle.tx_core.specs.Laws.{WasToldOf, IsLockOf}
use Rattle.tx_core.proofs.runs.Consequences.{told_fate}
use Rattle.tx_core.proofs.locks.ToldLocks.{told_lock}
use Rattle.tx_transaction.specs.Returns.{Response}
use Rattle.tx_client.specs.declared.resolved.Status.TheVariants as status
use Rattle.tx_client.specs.declared.resolved.WaitCause.TheVariants as cause
use Rattle.tx_client.specs.Facts.{WasAnswered, RespondsSo}
use Rattle.tx_client.specs.Statuses.{Ends}
use Rattle.tx_client.proofs.Marks.{taken_there}
use Rattle.tx_resolve.specs.declared.findings.For.{For}
use Rattle.tx_resolve.specs.declared.findings.Others.TheVariants as others
use Rattle.tx_resolve.specs.declared.findings.Other.TheVariants as other
use Rattle.tx_resolve.specs.Resolution.{is_over, lets_pass, check_of, other_of, is_async, rests_by, standing_by, primary_by, other_by, status_of, settled_by}
use Rattle.tx_resolve.specs.Facts.{Knows, IsPrimary, IsOther}
use Rattle.tx_resolve.proofs.AllowedRequests.{lock_known}

-- ---- whose a lock is that is told of

-- the lock is the transaction's own, on the key that was asked
abbrev IsOwn : ℕ → Key → LockInfo → Type 0
IsOwn t k info = (info.start ≡ t) × (info.key ≡ k)

own_is : (t : ℕ) (k : Key) (lock : Lock) (info : LockInfo) (a : Answer) → lock.start ≡ t
    → a ≡ answer.Locked (info_of k lock) → a ≡ answer.Locked info → IsOwn t k info
own_is t k lock info a own is e = (let same : info_of k lock ≡ info = cc (is, e) in subst (IsOwn t k) same (own, refl))

checks_own : (b : CheckTxnStatus) (lock : Lock) (a : Answer) (info : LockInfo) → lock.start ≡ b.start
    → ChecksLock b lock a → a ≡ answer.Locked info → IsOwn b.start b.key info
checks_own b lock a info own (inl x) e = own_is b.start b.key lock info a own x.1 e
checks_own b lock a info own (inr (no0, inl x)) e = absurd (cc (x.1, e))
checks_own b lock a info own (inr (no0, inr (no1, inl x))) e =
    own_is b.start b.key (with_minimum lock (b.caller + 1)) info a own x.1 e
checks_own b lock a info own (inr (no0, inr (no1, inr (no2, is)))) e = own_is b.start b.key lock info a own is e

check_finds : (r : Region) (l top : ℕ) (b : CheckTxnStatus) (a : Answer) (info : LockInfo)
    → Answers r l top (request.CheckTxnStatus b) a → a ≡ answer.Locked info → IsOwn b.start b.key info
check_finds r l top b a info (inl x) e = absurd (cc (x.1, e))
check_finds r l top b a info (inr (no0, inl x)) e = absurd (cc (x.1, e))
check_finds r l top b a info (inr (no0, inr (no1, inl (lock, own, checks)))) e =
    checks_own b lock a info own.own checks e
check_finds r l top b a info (inr (no0, inr (no1, inr (no2, inl (c, own, is))))) e = absurd (cc (is, e))
check_finds r l top b a info (inr (no0, inr (no1, inr (no2, inr (no3, inl x))))) e = absurd (cc (x.1, e))
check_finds r l top b a info (inr (no0, inr (no1, inr (no2, inr (no3, inr (no4, inl x)))))) e = absurd (cc (x.1, e))
check_finds r l top b a info (inr (no0, inr (no1, inr (no2, inr (no3, inr (no4, inr (no5, is))))))) e =
    absurd (cc (is, e))

other_finds : (r : Region) (l top : ℕ) (b : CheckSecondaryLocks) (a : Answer) (info : LockInfo)
    → Answers r l top (request.CheckSecondaryLocks b) a → a ≡ answer.Locked info → IsOwn b.start b.key info
other_finds r l top b a info (inl x) e = absurd (cc (x.1, e))
other_finds r l top b a info (inr (no0, inl (lock, own, is))) e = own_is b.start b.key lock info a own.own is e
other_finds r l top b a info (inr (no0, inr (no1, inl (c, own, is)))) e = absurd (cc (is, e))
other_finds r l top b a info (inr (no0, inr (no1, inr (no2, is)))) e = absurd (cc (is, e))

-- ---- what was answered

module _ (bounds : List Key) (h : History) (run : IsWorldRun bounds h) where
  -- some region gave the answer by the case tables
  abbrev pub Gave : Body → Answer → Type 0
  Gave b a = (r : Region) × (l : ℕ) × (top : ℕ) × Answers r l top b a

  pub gave : (b : Body) (a : Answer) → WasAnswered h b a → Gave b a
  gave b a was =
      let took = taken_there bounds h was.by run was.among in (
        left took.0 was.by.region,
        was.by.loaded,
        last took.0,
        subst (λ (x : Body × Answer). Answers (left took.0 was.by.region) was.by.loaded (last took.0) x.0 x.1)
            (λ j. (was.asked j, was.told j)) took.1.1.answers,
      )

  -- a lock was told of
  pub told_of : (b : Body) (info : LockInfo) → WasAnswered h b (answer.Locked info) → WasToldOf h info
  told_of b info was = record {
    by = was.by;
    among = was.among;
    told =
        subst (λ (xs : List LockInfo). Contains xs info) (ap infos_in (sym was.told)) (Contains-push [] info);
  }

  -- a fate was told
  fate_told : (b : Body) (a : Answer) (t : ℕ) (end : Fate) → start_in b ≡ Some t → fate_in a ≡ Some end
      → WasAnswered h b a → decided h t ≡ Done end
  fate_told b a t end of tells was =
      told_fate bounds h run t end
      (record { by = was.by; among = was.among; of = ap start_in was.asked ∙ of; tells = ap fate_in was.told ∙ tells })

  -- ---- the primary

  module _ (met : LockInfo) (knows : Knows bounds h met) (who : For) (forced : Bool) where
    is_met : IsLockOf h met
    is_met = lock_known bounds h met knows

    set : set_at h met.start ≡ is_met.of.changes
    set = ap set_of is_met.declares

    standing_ok : (info : LockInfo) → WasAnswered h (check_of met who forced) (answer.Locked info)
        → IsPrimary h met.start (standing_by info (rests_by who info))
    standing_ok info was = passes (lets_pass who info.min)
      where
        told : WasToldOf h info
        told = told_of (check_of met who forced) info was

        own : IsOwn met.start met.primary info
        own = (let g = gave (check_of met who forced) (answer.Locked info) was in
            check_finds g.0 g.1 g.2 _ (answer.Locked info) info g.3 refl)

        first : is_first (set_at h met.start) info.key ≡ true
        first = ap (is_first (set_at h met.start)) own.1 ∙ ap (λ s. is_first s met.primary) set ∙ is_met.primary

        async : (m : Mode) → is_async m ≡ true → m ≡ Async
        async TwoPhase e = absurd (cc (e))
        async Async e = refl

        stands : (b : Bool) → (is_async info.mode && is_over who info) ≡ b
            → IsPrimary h met.start (standing_by info (cond b None (Some (status.Waiting cause.Live))))
        stands true e = record {
          is = told_lock bounds h info run told;
          own = own.0;
          primary = first;
          async =
              async info.mode (and_parts (is_async info.mode) (is_over who info) e).0;
        }
        stands false e = tt

        passes : (b : Bool) → IsPrimary h met.start
            (standing_by info (cond b (Some (status.Pushed info.min))
            (cond (is_async info.mode && is_over who info) None (Some (status.Waiting cause.Live)))))
        passes true = record {
          by = told.by;
          among = told.among;
          info = info;
          told = told.told;
          primary = first;
          own =
              own.0;
          min = refl;
        }
        passes false = stands (is_async info.mode && is_over who info) refl

    pub primary_ok : (c : Response) → RespondsSo h (check_of met who forced) c
        → IsPrimary h met.start (primary_by who c)
    primary_ok (Ok (answer.Committed c)) was =
        fate_told (check_of met who forced) (answer.Committed c) met.start (fate.Committed c) refl refl was
    primary_ok (Ok answer.RolledBack) was =
        fate_told (check_of met who forced) answer.RolledBack met.start fate.Aborted refl refl was
    primary_ok (Ok (answer.Locked info)) was = standing_ok info was
    primary_ok _ was = tt

  -- ---- another key

  pub other_ok : (t : ℕ) (key : Key) (c : Response) → RespondsSo h (other_of t key) c → IsOther h t key (other_by c)
  other_ok t key (Ok (answer.Committed c)) was =
      fate_told (other_of t key) (answer.Committed c) t (fate.Committed c) refl refl was
  other_ok t key (Ok answer.Missing) was =
      fate_told (other_of t key) answer.Missing t fate.Aborted refl refl was
  other_ok t key (Ok (answer.Locked info)) was = by_mode info.mode refl
    where
      own : IsOwn t key info
      own = (let g = gave (other_of t key) (answer.Locked info) was in
          other_finds g.0 g.1 g.2 _ (answer.Locked info) info g.3 refl)

      is : IsLockOf h info
      is = told_lock bounds h info run (told_of (other_of t key) info was)

      by_mode : (m : Mode) → info.mode ≡ m
          → IsOther h t key (elim m [ TwoPhase ↦ other.Ends others.FellBack | Async ↦ other.Async info.min ])
      by_mode TwoPhase e = record {
        key = info.key;
        by = is.by;
        stands =
            subst (λ u. accepted h u info.key ≡ Some is.by) own.0 is.accepted;
        two_phase = is.mode ∙ e;
      }
      by_mode Async e = record { info = info; is = is; key = own.1; own = own.0; async = e; min = refl }
  other_ok t key _ was = tt

-- ---- the lock that was met

ends_so : (h : History) (t : ℕ) (end : Fate) → decided h t ≡ Done end → Ends h t (status_of end)
ends_so h t (fate.Committed c) e = e
ends_so h t fate.Aborted e = e

pub settled_ok : (h : History) (t : ℕ) (end : Fate) (c : Response) → decided h t ≡ Done end
    → Ends h t (settled_by end c)
settled_ok h t end (Err why) e = tt
settled_ok h t end (Ok answer.Resolved) e = ends_so h t end e
settled_ok h t end (Ok _) e = tt
