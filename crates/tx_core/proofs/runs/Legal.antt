-- Every world run is a legal run.
use Rattle.std.proofs.Common.{ℕ, inl, inr, List, [], ◌∷◌, sym, ap, ◌∙◌, arith}
use Rattle.tx_types.specs.declared.key.Key.{Key}
use Rattle.tx_machine.specs.Keys.{mutation_at}
use Rattle.tx_plan.specs.declared.body.Body.{Body}
use Rattle.tx_plan.specs.declared.body.Body.TheVariants as body
use Rattle.tx_core.specs.declared.event.Event.{Event}
use Rattle.tx_core.specs.declared.event.Event.TheVariants.{Drawn, Began, Declared, Answered, Stopped, Took}
use Rattle.tx_core.specs.Histories.{History, set_of}
use Rattle.tx_core.specs.Allowed.{AllowsRead, Allowed}
use Rattle.tx_core.specs.Worlds.{MayCome, IsWorldRun}
use Rattle.tx_core.specs.Legal.{IsLegalRead, IsLegalRequest, IsLegal, IsLegalRun}

legal_read : (h : History) (r : ℕ) (bypass : List ℕ) → AllowsRead h r bypass → IsLegalRead h r bypass
legal_read h r bypass may t named =
    elim (may t named) [
      | inl gone ↦ inl gone
      | inr rest ↦ elim rest [
        | inl done ↦ inr (inl done)
        | inr shown ↦ (let has = shown.1 in
            inr (inr (
              has.info,
              record { by = has.by; among = has.among; told = has.told },
              has.own,
              omega (arith, has.min, shown.2),
            )))
      ]
    ]

-- a request that is allowed is legal
pub legal_request : (h : History) (x : Body) → Allowed h x → IsLegalRequest h x
legal_request h (body.Get b) may = legal_read h b.at b.bypass may
legal_request h (body.Scan b) may = legal_read h b.at b.bypass may
legal_request h (body.Prewrite b) may =
    record { of = may.of; stands = may.stands; mutation = may.mutation; mode = may.mode }
legal_request h (body.Commit b) may =
    elim may [
      | inl done ↦ inl done
      | inr new ↦ inr (
          record {
            primary = new.primary;
            complete = new.accepted;
            two_phase = new.two_phase;
            drawn = λ none. cc (none, new.drawn.of_commit);
            after = new.drawn.after;
          }
          )
    ]
legal_request h (body.BatchRollback b) may = may
legal_request h (body.TxnHeartBeat b) may = tt
legal_request h (body.CheckTxnStatus b) may = may
legal_request h (body.CheckSecondaryLocks b) may =
    λ none. may.within (sym (ap (λ o. mutation_at (set_of o) b.key) may.stands) ∙ none)
legal_request h (body.ResolveLock b) may = may
legal_request h (body.RaiseSafe b) may = tt
legal_request h (body.LocksBelow b) may = tt
legal_request h (body.Collect b) may = tt

legal_next : (bounds : List Key) (h : History) (e : Event) → MayCome bounds h e → IsLegal bounds h e
legal_next bounds h (Drawn seat n) may = may
legal_next bounds h (Began t) may = may
legal_next bounds h (Declared d) may =
    record { begun = may.begun; once = may.once; some = may.some; distinct = may.distinct }
legal_next bounds h (Answered t o) may = (may.0, may.2)
legal_next bounds h (Stopped seat) may = tt
legal_next bounds h (Took x) may =
    record {
      legal = legal_request h x.body may.allowed;
      holds = may.holds;
      loaded = may.loaded;
      answers = may.answers;
    }

pub legal_run : (bounds : List Key) (h : History) → IsWorldRun bounds h → IsLegalRun bounds h
legal_run bounds [] run = tt
legal_run bounds (e ∷ h) run = (legal_run bounds h run.0, legal_next bounds h e run.1)
