-- What is allowed stays allowed.
use Rattle.std.proofs.Common.{◌≡◌, ◌≢◌, ℕ, ◌++◌, inl, inr, true, List, None, sym, ap, ◌∙◌}
use Rattle.tx_types.specs.declared.key.Key.{Key}
use Rattle.tx_types.specs.declared.mutation.Fate.TheVariants.{Committed, Aborted}
use Rattle.tx_plan.specs.declared.body.Body.{Body}
use Rattle.tx_plan.specs.declared.body.Body.TheVariants as body
use Rattle.tx_plan.specs.declared.body.Commit.{Commit}
use Rattle.tx_core.specs.Histories.{History, declared, set_of, set_at, is_first, Begins}
use Rattle.tx_core.specs.Allowed.{Allowed, MayPass, MayDecide}
use Rattle.tx_core.specs.Worlds.{IsWorldRun}
use Rattle.tx_core.proofs.Basics.{some_of, is_some}
use Rattle.tx_core.proofs.view.View.{first_declared}
use Rattle.tx_core.proofs.seats.Beginnings.{begins_append}
use Rattle.tx_core.proofs.seats.Stays.{declared_on}
use Rattle.tx_core.proofs.seats.StaysDecided.{decided_on, two_phase_on, shown_on, all_accepted_on, drew_on}

module _ (bounds : List Key) (l h : History) (run : IsWorldRun bounds h) (b : Begins l h) where
  still_declared : (t : ℕ) → declared l t ≢ None → declared h t ≢ None
  still_declared t some =
      (let d = some_of (declared l t) some in is_some (declared h t) d.0 (declared_on bounds l h run b t d.0 d.1))

  -- a transaction that a read may pass by
  pub may_pass_on : (r t : ℕ) → MayPass l r t → MayPass h r t
  may_pass_on r t may =
      elim may [
        | inl gone ↦ inl (decided_on l h b t Aborted gone)
        | inr rest ↦ elim rest [
          | inl done ↦ inr (inl (done.0, decided_on l h b t (Committed done.0) done.1, done.2))
          | inr shown ↦ inr (inr (shown.0, shown_on bounds l h run b t shown.0 shown.1, shown.2))
        ]
      ]

  -- the primary is still the primary
  first_on : (t : ℕ) (k : Key) → is_first (set_at l t) k ≡ true → is_first (set_at h t) k ≡ true
  first_on t k first =
      let of = first_declared (declared l t) k first in
      ap (λ o. is_first (set_of o) k) (declared_on bounds l h run b t of.0 of.1 ∙ sym of.1) ∙ first

  decide_on : (c : Commit) → MayDecide l c → MayDecide h c
  decide_on c may =
      let of = first_declared (declared l c.start) c.key may.primary in
      let some = is_some (declared l c.start) of.0 of.1 in
      record {
        primary = first_on c.start c.key may.primary;
        accepted = all_accepted_on bounds l h run b c.start some may.accepted;
        two_phase = two_phase_on l h b c.start may.two_phase;
        drawn = drew_on bounds l h run b c.start some may.accepted c.commit may.drawn;
      }

  pub allowed_on : (x : Body) → Allowed l x → Allowed h x
  allowed_on (body.Get x) a = λ t named. may_pass_on x.at t (a t named)
  allowed_on (body.Scan x) a = λ t named. may_pass_on x.at t (a t named)
  allowed_on (body.Prewrite x) a =
      record {
        of = a.of;
        stands = declared_on bounds l h run b x.start a.of a.stands;
        mutation = a.mutation;
        primary =
            a.primary;
        mode = a.mode;
        max_commit = a.max_commit;
        floor = a.floor;
        ttl = a.ttl;
        others = a.others;
      }
  allowed_on (body.Commit x) a =
      elim a [
        | inl done ↦ inl (decided_on l h b x.start (Committed x.commit) done)
        | inr may ↦ inr (decide_on x may)
      ]
  allowed_on (body.BatchRollback x) a =
      record {
        of = a.of;
        stands = declared_on bounds l h run b x.start a.of a.stands;
        may = elim a.may [ inl gone ↦ inl (decided_on l h b x.start Aborted gone) | inr two ↦ inr two ];
      }
  allowed_on (body.TxnHeartBeat x) a = still_declared x.start a
  allowed_on (body.CheckTxnStatus x) a =
      record {
        primary = first_on x.start x.key a.primary;
        forced =
            λ f. two_phase_on l h b x.start (a.forced f);
      }
  allowed_on (body.CheckSecondaryLocks x) a =
      record {
        of = a.of;
        stands = declared_on bounds l h run b x.start a.of a.stands;
        async = a.async;
        within =
            a.within;
      }
  allowed_on (body.ResolveLock x) a = decided_on l h b x.start x.fate a
  allowed_on (body.RaiseSafe x) a = tt
  allowed_on (body.LocksBelow x) a = tt
  allowed_on (body.Collect x) a = tt

-- after the events of a world run that goes on from it
pub allowed_later : (bounds : List Key) (more h : History) (x : Body) → IsWorldRun bounds (more ++ h) → Allowed h x
    → Allowed (more ++ h) x
allowed_later bounds more h x run = allowed_on bounds h (more ++ h) run (begins_append more h) x
