-- What a resolver comes to where its requests are served.
use Rattle.std.proofs.Common.{◌≡◌, ◌⊎◌, ◌≤◌, ◌<◌, ◌+◌, ◌&&◌, ℕ, nat_lt, inl, inr, Bool, true, false, cond, List, [], ◌∷◌, Option, Some, None, Ok, Err, refl, sym, ap, subst, ◌∙◌, arith}
use Rattle.std.specs.Prelude.{Contains}
use Rattle.std.proofs.lemmas.Bool.{ltb-true, ltb-false, lt-ltb}
use Rattle.std.proofs.lemmas.List.Elements.{Contains-push}
use Rattle.tx_types.specs.declared.key.Key.{Key}
use Rattle.tx_types.specs.declared.lock.LockInfo.{LockInfo}
use Rattle.tx_types.specs.declared.mutation.Fate.{Fate}
use Rattle.tx_types.specs.declared.mutation.Fate.TheVariants as fate
use Rattle.tx_types.specs.declared.mutation.Mode.{Mode}
use Rattle.tx_types.specs.declared.mutation.Mode.TheVariants.{TwoPhase, Async}
use Rattle.tx_plan.specs.declared.body.Body.{Body}
use Rattle.tx_plan.specs.declared.body.CheckTxnStatus.{CheckTxnStatus}
use Rattle.tx_plan.specs.declared.answer.Answer.{Answer}
use Rattle.tx_plan.specs.declared.answer.Answer.TheVariants as answer
use Rattle.tx_core.specs.Decisions.{infos_in}
use Rattle.tx_core.specs.Histories.{History, last}
use Rattle.tx_core.specs.Laws.{WasToldOf}
use Rattle.tx_journal.specs.Known.{Known}
use Rattle.tx_journal.specs.Replies.{Asked}
use Rattle.tx_journal.specs.Senders.{Reached}
use Rattle.tx_transaction.specs.Returns.{Response}
use Rattle.tx_client.specs.declared.resolved.Status.{Status}
use Rattle.tx_client.specs.declared.resolved.Status.TheVariants as status
use Rattle.tx_client.specs.declared.resolved.WaitCause.TheVariants as cause
use Rattle.tx_client.specs.Facts.{WasAnswered}
use Rattle.tx_client.specs.Learns.{response_of}
use Rattle.tx_client.specs.Walks.{Walk, then_walk, Sends}
use Rattle.tx_resolve.specs.Resolution.{caller_of, time_of, is_over, lets_pass, check_of, other_of, settle_of, is_async, rests_by, standing_by, primary_by, other_by, status_of, settled_by, settle_walk, further, others_walk, after_forced, forced_walk, after_others, after_primary, resolve_walk}
use Rattle.tx_resolve.specs.BlockedReads.{read_walk}
use Rattle.tx_progress.specs.Settlement.{IsServed, AllServed, IsSettled, LivesOn, SettlesUnlessAlive, Settles}
use Rattle.tx_progress.proofs.Results.{Came, AnswersAsked, came, upto_on, Below, resolves, others_told, IsChecked, Checks, checks_told}

-- what this walk comes to where its requests are served
pub record SettlesBy {S : Type 0} (sends : S → Asked → Reached → S → Type 0) (bounds : List Key) (w : Walk Status)
    (met : LockInfo) (at now : ℕ) : Type 0 where
  pub so : (old new : Known) (a b : S) (found : Status) → (sent : Sends sends bounds old a w found b new)
      → AllServed sends bounds old a w found b new sent → at ≤ last old.events → met.start + met.ttl < now
      → IsSettled new.events met at found ⊎ LivesOn new.events met at now

-- a lock was told of
told_of : (h : History) (b : Body) (info : LockInfo) → WasAnswered h b (answer.Locked info) → WasToldOf h info
told_of h b info was = record {
  by = was.by;
  among = was.among;
  told =
      subst (λ (xs : List LockInfo). Contains xs info) (ap infos_in (sym was.told)) (Contains-push [] info);
}

-- an answer that is served is not refused below the safe point
not_below : (a : Answer) → Below a → IsServed (Ok a) → ⊥
not_below a (safe, e) served = subst (λ x. IsServed (Ok x)) e served

module _ {S : Type 0} (sends : S → Asked → Reached → S → Type 0) (bounds : List Key) (asked : AnswersAsked sends) (met :
    LockInfo) (at now : ℕ) where
  -- whatever this walk is sent as, it settles
  abbrev Sure : Known → S → Walk Status → Known → S → Status → Type 0
  Sure k from w new to found = (sent : Sends sends bounds k from w found to new)
      → AllServed sends bounds k from w found to new sent → IsSettled new.events met at found

  -- ---- the lock that was met

  fate_sure : (h : History) (end : Fate) → WasAnswered h (settle_of met end) answer.Resolved
      → IsSettled h met at (status_of end)
  fate_sure h (fate.Committed c) was = was
  fate_sure h fate.Aborted was = was

  settled_sure : (by new : History) (end : Fate) (c : Response)
      → ((x : Answer) → c ≡ Ok x → Came by new (settle_of met end) x) → IsServed c
      → IsSettled new met at (settled_by end c)
  settled_sure by new end (Err why) came served = absurd served
  settled_sure by new end (Ok a) came served =
      elim (resolves by new met.key met.start end a (came a refl)) [
        | inl e ↦ subst (λ x. IsSettled new met at (settled_by end (Ok x))) (sym e)
            (fate_sure new end (subst (WasAnswered new (settle_of met end)) e (came a refl).was))
        | inr below ↦ absurd (not_below a below served)
      ]

  settle_sure : (end : Fate) (k new : Known) (from to : S) (found : Status)
      → Sure k from (settle_walk met end) new to found
  settle_sure end k new from to found (inl short) served = absurd served
  settle_sure end k new from to found (inr (reached, mid, then_known, sent, learns, (is, here, last))) served =
      subst (λ (z : Known × Status). IsSettled z.0.events met at z.1) (λ j. (sym last j, sym is j))
      (settled_sure k.events then_known.events end (response_of reached)
      (λ x e. came sends bounds asked k then_known from mid (settle_of met end) reached x sent learns e) served.0)

  -- ---- the primary

  module _ (who : _) (caller : caller_of who ≡ at) (lets : (m : ℕ)
      → lets_pass who m ≡ nat_lt at m) (over : is_over who met
      ≡ true) where
    abbrev check_body : Bool → CheckTxnStatus
    check_body forced = record {
      key = met.primary;
      start = met.start;
      caller = caller_of who;
      current = time_of who;
      rollback_if_not_exist = is_over who met;
      force_sync_commit = forced;
    }

    -- where the read is at a number that was seen, a check that is served is answered so
    check_served : (by new : History) (forced : Bool) (a : Answer) → Came by new (check_of met who forced) a
        → at ≤ last by → IsServed (Ok a) → Checks (check_body forced) a
    check_served by new forced a was le served =
        elim (checks_told by new (check_body forced) a was (omega (arith, caller, le)) over) [
          | inl below ↦ absurd (not_below a below served)
          | inr checks ↦ checks
        ]

    pushed_by : (info : LockInfo) → at < info.min → rests_by who info ≡ Some (status.Pushed info.min)
    pushed_by info lt =
        ap (λ b. cond b (Some (status.Pushed info.min))
        (cond (is_async info.mode && is_over who info) None (Some (status.Waiting cause.Live))))
        (lets info.min ∙ lt-ltb at info.min lt)

    -- the caller of a check is the reader
    above : (info : LockInfo) → caller_of who < info.min → at < info.min
    above info lt = omega (arith, caller, lt)

    -- ---- a check that was forced

    forced_by : (k new : Known) (from to : S) (found : Status) (a : Answer) → Checks (check_body true) a
        → Sure k from (after_forced met (primary_by who (Ok a))) new to found
    forced_by k new from to found a (inl e) =
        subst (λ x. Sure k from (after_forced met (primary_by who (Ok x))) new to found) (sym e)
        (settle_sure fate.Aborted k new from to found)
    forced_by k new from to found a (inr (inl (c, e))) =
        subst (λ x. Sure k from (after_forced met (primary_by who (Ok x))) new to found) (sym e)
        (settle_sure (fate.Committed c) k new from to found)
    forced_by k new from to found a (inr (inr (info, e, is))) =
        subst (λ x. Sure k from (after_forced met (primary_by who (Ok x))) new to found) (sym e)
        (elim is.lets [
          | inl lt ↦ subst (λ o. Sure k from (after_forced met (standing_by info o)) new to found)
              (sym (pushed_by info (above info lt)))
              (λ sent served. subst (IsSettled new.events met at) (sym sent.0) (above info lt))
          | inr x ↦ absurd (cc (x.1))
        ])

    after_forced_sure : (k new : Known) (from to : S) (found : Status) (by later : History) (c : Response)
        → ((x : Answer) → c ≡ Ok x → Came by later (check_of met who true) x) → at ≤ last by
        → IsServed c → Sure k from (after_forced met (primary_by who c)) new to found
    after_forced_sure k new from to found by later (Err why) came le served = absurd served
    after_forced_sure k new from to found by later (Ok a) came le served =
        forced_by k new from to found a (check_served by later true a (came a refl) le served)

    forced_sure : (k new : Known) (from to : S) (found : Status) → at ≤ last k.events
        → Sure k from (forced_walk met who) new to found
    forced_sure k new from to found le (inl short) served = absurd served
    forced_sure k new from to found le (inr (reached, mid, then_known, sent, learns, rest)) served =
        after_forced_sure then_known new mid to found k.events then_known.events (response_of reached)
        (λ x e. came sends bounds asked k then_known from mid (check_of met who true) reached x sent learns e) le
        served.0
        rest served.1

    -- ---- the other keys

    module _ (k new : Known) (from to : S) (found : Status) (le : at ≤ last k.events) (most : ℕ) (more : ℕ
        → Walk _) (on : (least : ℕ) → Sure k from (then_walk (more least) (after_others met who)) new to found) where
      -- what follows the answer of another key
      abbrev Follows : Answer → Type 0
      Follows a =
          Sure k from (then_walk (further most more (other_by (Ok a))) (after_others met who)) new to
          found

      by_mode : (info : LockInfo) (m : Mode) → info.mode ≡ m → Follows (answer.Locked info)
      by_mode info TwoPhase e = rw e (forced_sure k new from to found le)
      by_mode info Async e = rw e (on _)

      other_by_sure : (by later : History) (key : Key) (a : Answer) → Came by later (other_of met.start key) a
          → IsServed (Ok a) → Follows a
      other_by_sure by later key a was served =
          elim (others_told by later (record { key = key; start = met.start }) a was) [
            | inl below ↦ absurd (not_below a below served)
            | inr (inl (info, e)) ↦ subst Follows (sym e) (by_mode info info.mode refl)
            | inr (inr (inl (c, e))) ↦ subst Follows (sym e) (settle_sure (fate.Committed c) k new from to found)
            | inr (inr (inr e)) ↦ subst Follows (sym e) (settle_sure fate.Aborted k new from to found)
          ]

      other_sure : (by later : History) (key : Key) (c : Response)
          → ((x : Answer) → c ≡ Ok x → Came by later (other_of met.start key) x) → IsServed c
          → Sure k from (then_walk (further most more (other_by c)) (after_others met who)) new to found
      other_sure by later key (Err why) came served = absurd served
      other_sure by later key (Ok a) came served = other_by_sure by later key a (came a refl) served

    others_sure : (keys : List Key) (least : ℕ) (k new : Known) (from to : S) (found : Status) → at ≤ last k.events
        → Sure k from (then_walk (others_walk met.start keys least) (after_others met who)) new to found
    others_sure [] least k new from to found le sent served =
        settle_sure (fate.Committed least) k new from to found sent served
    others_sure (key ∷ keys) least k new from to found le (inl short) served = absurd served
    others_sure (key ∷ keys) least k new from to found le (inr (reached, mid, then_known, sent, learns, rest)) served =
        let on = upto_on sends bounds asked k then_known reached at learns le in
        other_sure then_known new mid to found on least (others_walk met.start keys)
        (λ most. others_sure keys most then_known new mid to found on) k.events then_known.events key
        (response_of reached)
        (λ x e. came sends bounds asked k then_known from mid (other_of met.start key) reached x sent learns e) served.0
        rest served.1

    -- ---- the first check

    module _ (time : (info : LockInfo) → is_over who info ≡ nat_lt (info.start + info.ttl) now) where
      abbrev Comes : Known → S → Walk Status → Known → S → Status → Type 0
      Comes k from w new to found = (sent : Sends sends bounds k from w found to new)
          → AllServed sends bounds k from w found to new sent
          → IsSettled new.events met at found ⊎ LivesOn new.events met at now

      -- what follows the lock of the primary
      abbrev Stands : Known → S → Known → S → Status → LockInfo → Option Status → Type 0
      Stands k from new to found info o = Comes k from (after_primary met who (standing_by info o)) new to found

      rests_is : (info : LockInfo) (p q : Bool) → nat_lt at info.min ≡ p → nat_lt (info.start + info.ttl) now ≡ q
          → info.mode ≡ Async
          → rests_by who info ≡ cond p (Some (status.Pushed info.min)) (cond q None (Some (status.Waiting cause.Live)))
      rests_is info p q e f async =
          λ j. cond ((lets info.min ∙ e) j) (Some (status.Pushed info.min))
          (cond (is_async (async j) && (time info ∙ f) j) None (Some (status.Waiting cause.Live)))

      stands_by : (k new : Known) (from to : S) (found : Status) (info : LockInfo) → at ≤ last k.events
          → WasToldOf k.events info → info.start ≡ met.start → info.key ≡ met.primary → info.mode ≡ Async → (p q : Bool)
          → nat_lt at info.min ≡ p → nat_lt (info.start + info.ttl) now ≡ q
          → Stands k from new to found info
          (cond p (Some (status.Pushed info.min)) (cond q None (Some (status.Waiting cause.Live))))
      stands_by k new from to found info le told own key async true q e f =
          λ sent served. inl (subst (IsSettled new.events met at) (sym sent.0) (ltb-true at info.min e))
      stands_by k new from to found info le told own key async false true e f =
          λ sent served. inl (others_sure info.secondaries info.min k new from to found le sent served)
      stands_by k new from to found info le told own key async false false e f =
          λ sent served. inr (subst (λ (z : Known). LivesOn z.events met at now) (sym sent.2)
          (record {
            info = info;
            told = told;
            own = own;
            primary = key;
            async = async;
            blocks = ltb-false at info.min e;
            alive = ltb-false (info.start + info.ttl) now f;
          }))

      lock_comes : (k new : Known) (from to : S) (found : Status) (info : LockInfo) → at ≤ last k.events
          → WasToldOf k.events info → IsChecked (check_body false) info
          → Stands k from new to found info (rests_by who info)
      lock_comes k new from to found info le told is =
          elim is.lets [
            | inl lt ↦ subst (Stands k from new to found info) (sym (pushed_by info (above info lt)))
                (λ sent served. inl (subst (IsSettled new.events met at) (sym sent.0) (above info lt)))
            | inr x ↦ subst (Stands k from new to found info) (sym (rests_is info _ _ refl refl x.0))
                (stands_by k new from to found info le told is.own is.key x.0 _ _ refl refl)
          ]

      checked_comes : (k new : Known) (from to : S) (found : Status) (a : Answer) → at ≤ last k.events
          → WasAnswered k.events (check_of met who false) a → Checks (check_body false) a
          → Comes k from (after_primary met who (primary_by who (Ok a))) new to found
      checked_comes k new from to found a le was (inl e) =
          subst (λ x. Comes k from (after_primary met who (primary_by who (Ok x))) new to found) (sym e)
          (λ sent served. inl (settle_sure fate.Aborted k new from to found sent served))
      checked_comes k new from to found a le was (inr (inl (c, e))) =
          subst (λ x. Comes k from (after_primary met who (primary_by who (Ok x))) new to found) (sym e)
          (λ sent served. inl (settle_sure (fate.Committed c) k new from to found sent served))
      checked_comes k new from to found a le was (inr (inr (info, e, is))) =
          subst (λ x. Comes k from (after_primary met who (primary_by who (Ok x))) new to found) (sym e)
          (lock_comes k new from to found info le
          (told_of k.events (check_of met who false) info (subst (WasAnswered k.events (check_of met who false)) e was))
          is)

      after_comes : (k new : Known) (from to : S) (found : Status) (by : History) (c : Response) → at ≤ last by
          → at ≤ last k.events
          → ((x : Answer) → c ≡ Ok x → Came by k.events (check_of met who false) x) → IsServed c
          → Comes k from (after_primary met who (primary_by who c)) new to found
      after_comes k new from to found by (Err why) le on came served = absurd served
      after_comes k new from to found by (Ok a) le on came served =
          checked_comes k new from to found a on (came a refl).was
          (check_served by k.events false a (came a refl) le served)

      resolve_comes : (old new : Known) (a b : S) (found : Status) → at ≤ last old.events
          → Comes old a (resolve_walk met who) new b found
      resolve_comes old new a b found le (inl short) served = absurd served
      resolve_comes old new a b found le (inr (reached, mid, then_known, sent, learns, rest)) served =
          after_comes then_known new mid b found old.events (response_of reached) le
          (upto_on sends bounds asked old then_known reached at learns le)
          (λ x e. came sends bounds asked old then_known a mid (check_of met who false) reached x sent learns e)
          served.0 rest served.1

  resolve_settles : (who : _) → caller_of who ≡ at → ((m : ℕ) → lets_pass who m ≡ nat_lt at m)
      → ((info : LockInfo) → is_over who info ≡ nat_lt (info.start + info.ttl) now)
      → SettlesBy sends bounds (resolve_walk met who) met at now
  resolve_settles who caller lets time = record {
    so = λ old new a b found sent served le past.
        resolve_comes who caller lets (time met ∙ lt-ltb (met.start + met.ttl) now past) time old new a b found le sent
        served;
  }

  read_settles : SettlesBy sends bounds (read_walk met at now) met at now
  read_settles = search (resolve_settles)

module _ {S : Type 0} (sends : S → Asked → Reached → S → Type 0) (bounds : List Key) (asked : AnswersAsked sends) where
  pub settles_unless : SettlesUnlessAlive bounds sends
  settles_unless old new a b met at now found sent served le past =
      (read_settles sends bounds asked met at now).so old new a b found sent served le past

  pub settles : Settles bounds sends
  settles old new a b met at now found sent served le past over =
      elim (settles_unless old new a b met at now found sent served le past) [
        | inl settled ↦ settled
        | inr lives ↦ absurd (omega (
          arith,
          lives.alive,
          over lives.info lives.told lives.own lives.primary,
        ))
      ]
