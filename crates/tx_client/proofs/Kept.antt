-- What holds of a session's state stays so while others act.
use Rattle.std.proofs.Common.{◌≡◌, ◌≢◌, ℕ, zero, suc, List, [], ◌∷◌, Option, Some, None}
use Rattle.tx_types.specs.declared.key.Key.{Key}
use Rattle.tx_types.specs.declared.lock.LockInfo.{LockInfo}
use Rattle.tx_types.specs.declared.mutation.Fate.{Fate}
use Rattle.tx_types.specs.declared.mutation.Fate.TheVariants as fate
use Rattle.tx_plan.specs.declared.body.Body.TheVariants as request
use Rattle.tx_core.specs.declared.event.Declaration.{Declaration}
use Rattle.tx_core.specs.declared.event.Event.TheVariants.{Took}
use Rattle.tx_core.specs.Histories.{History, declared, Begins}
use Rattle.tx_core.specs.Recording.{Extends}
use Rattle.tx_core.specs.Decisions.{accepted}
use Rattle.tx_core.specs.Allowed.{AllowsRead}
use Rattle.tx_core.specs.Worlds.{IsWorldRun, MayAnswer}
use Rattle.tx_core.proofs.Basics.{some_of, is_some}
use Rattle.tx_core.proofs.seats.Beginnings.{extends_begins}
use Rattle.tx_core.proofs.seats.Stays.{drawer_on, began_on, declared_on, among_on, told_on, accepted_on}
use Rattle.tx_core.proofs.seats.StaysAllowed.{allowed_on}
use Rattle.tx_core.proofs.seats.StaysDecided.{two_phase_on, all_accepted_on, drew_on}
use Rattle.tx_core.proofs.seats.Replies.{may_commit_on}
use Rattle.tx_core.proofs.seats.Recording.{undeclared_on, unanswered_on}
use Rattle.tx_core.proofs.locks.ToldLocks.{is_lock_on}
use Rattle.tx_transaction.specs.Buffers.{Entries}
use Rattle.tx_transaction.specs.Sessions.{SessionState, outcome_of}
use Rattle.tx_client.specs.Facts.{WasMet, standing, Mark, Marks, IsReady, IsSession}

accepted_still : (l h : History) → Begins l h → (t : ℕ) (k : Key) → accepted l t k ≢ None → accepted h t k ≢ None
accepted_still l h b t k some = (let by = some_of (accepted l t k) some in is_some (accepted h t k) by.0
    (accepted_on l h b t k by.0 by.1))

module _ (bounds : List Key) (l h : History) (run : IsWorldRun bounds h) (b : Begins l h) where
  pub mark_on : (t : ℕ) (k : Key) (o : Option ℕ) → Mark l t k o → Mark h t k o
  mark_on t k None m = tt
  mark_on t k (Some zero) m = record {
    accepted = accepted_still l h b t k m.accepted;
    two_phase =
        two_phase_on l h b t m.two_phase;
  }
  mark_on t k (Some (suc n)) m = record {
    info = m.info;
    is = is_lock_on bounds l h run b m.info m.is;
    key = m.key;
    own = m.own;
    async = m.async;
    min = m.min;
  }

  pub marks_on : (t : ℕ) (es : Entries) → Marks l t es → Marks h t es
  marks_on t [] m = tt
  marks_on t (e ∷ es) m = (mark_on t e.0 e.1.progress.accepted m.0, marks_on t es m.1)

  pub ready_on : (t c : ℕ) → IsReady l t c → IsReady h t c
  ready_on t c r =
      let d = some_of (declared l t) r.stands in
      record {
        stands = is_some (declared h t) d.0 (declared_on bounds l h run b t d.0 d.1);
        all = all_accepted_on bounds l h run b t r.stands r.all;
        two_phase = two_phase_on l h b t r.two_phase;
        drew = drew_on bounds l h run b t r.stands r.all c r.drew;
      }

  pub read_on : (r : ℕ) (bypass : List ℕ) → AllowsRead l r bypass → AllowsRead h r bypass
  read_on r bypass may = allowed_on bounds l h run b (request.Get (record { key = []; at = r; bypass = bypass })) may

  pub settled_on : (t : ℕ) (end : Fate) → MayAnswer l t (outcome_of end) → MayAnswer h t (outcome_of end)
  settled_on t (fate.Committed c) may = may_commit_on bounds l h run b t c may
  settled_on t fate.Aborted may = told_on l h b t fate.Aborted may

  pub met_on : (info : LockInfo) → WasMet l info → WasMet h info
  met_on info (asked, was) = (
    asked,
    record { by = was.by; among = among_on l h b (Took was.by) was.among; asked = was.asked; told = was.told },
  )

-- others act
pub others_act : (bounds : List Key) (l h : History) → IsWorldRun bounds h → (i : ℕ) (s : SessionState)
    → Extends i l h → IsSession l i s → IsSession h i s
others_act bounds l h run i s goes is =
    record {
      drew_start = drawer_on bounds l h run b s.start i is.drew_start;
      begun = began_on l h b s.start is.begun;
      unanswered = unanswered_on bounds i s.start l h run goes is.drew_start is.unanswered;
      stands = stands (standing s.start s.placed s.buffer s.declared) is.stands;
      distinct = is.distinct;
      marks = marks_on bounds l h run b s.start s.buffer is.marks;
      passes = read_on bounds l h run b s.start s.bypass is.passes;
      met = λ info e. met_on bounds l h run b info (is.met info e);
      ready = λ c e. ready_on bounds l h run b s.start c (is.ready c e);
      settled = λ end e. settled_on bounds l h run b s.start end (is.settled end e);
    }
  where
    b : Begins l h
    b = extends_begins i l h goes

    stands : (o : Option Declaration) → declared l s.start ≡ o → declared h s.start ≡ o
    stands None e = undeclared_on bounds i s.start l h run goes is.drew_start e
    stands (Some d) e = declared_on bounds l h run b s.start d e
