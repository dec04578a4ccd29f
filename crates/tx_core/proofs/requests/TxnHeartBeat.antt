-- A region answers a heartbeat: the transaction's lock lives longer, and nothing else changes.
use Rattle.std.proofs.Common.{◌≡◌, ℕ, ◌++◌, inl, inr, max, List, refl, sym, ap, subst}
use Rattle.tx_plan.specs.declared.body.TxnHeartBeat.{TxnHeartBeat}
use Rattle.tx_plan.specs.declared.body.Body.TheVariants as body
use Rattle.tx_plan.specs.declared.answer.Answer.{Answer}
use Rattle.tx_plan.specs.declared.answer.Answer.TheVariants.{Ttl, TxnLockNotFound, BelowSafePoint}
use Rattle.tx_plan.specs.cases.TxnHeartBeat.{AnswersTxnHeartBeat}
use Rattle.tx_types.specs.declared.key.Key.{Key}
use Rattle.tx_core.specs.Histories.{History, left}
use Rattle.tx_core.specs.Decisions.{NoEffect, accepted, decided}
use Rattle.tx_core.specs.Worlds.{route}
use Rattle.tx_core.specs.Shadow.{shadow}
use Rattle.tx_core.proofs.changes.HeartBeat.{lengthened}
use Rattle.tx_core.proofs.changes.CellsEnds.{ends_lengthen}
use Rattle.tx_core.proofs.changes.Sounds.{sound_lengthen}
use Rattle.tx_core.proofs.view.HistoryView.{view, shown_in}
use Rattle.tx_core.proofs.requests.Good.{Good, Next, OnKey, took, cells_at, assemble, quiet, decided_same}
use Rattle.tx_plan.specs.Answers.{leaves_on}

module _ (bounds : List Key) (h : History) (good : Good bounds h) (b : TxnHeartBeat) (l : ℕ) where
  on_key : (a : Answer) → OnKey b.key (body.TxnHeartBeat b) a b.start (λ c. leaves_on c (body.TxnHeartBeat b) a)
  on_key a = record {
    named = refl;
    does = λ r. refl;
    unread = λ before. refl;
    unseen = refl;
    unnoted =
        λ e before. refl;
    unchecked = λ e. refl;
  }

  silent : (a x : Answer) → a ≡ x → Next bounds h (took (route bounds b.key) (body.TxnHeartBeat b) l x)
      → Next bounds h (took (route bounds b.key) (body.TxnHeartBeat b) l a)
  silent a x e next = subst (λ y. Next bounds h (took (route bounds b.key) (body.TxnHeartBeat b) l y)) (sym e) next

  -- the lock has this time to live now
  lives : (ttl : ℕ) → Next bounds h (took (route bounds b.key) (body.TxnHeartBeat b) l (Ttl ttl))
  lives ttl =
      assemble bounds h b.key (body.TxnHeartBeat b) l (Ttl ttl) b.start
      (λ c. leaves_on c (body.TxnHeartBeat b) (Ttl ttl))
      (on_key (Ttl ttl)) NoEffect refl (decided h) (accepted h) (shown_in h)
      (lengthened (cells_at bounds h b.key) b.start ttl) (shadow h)
      (λ u. refl)
      (λ u q. refl)
      (λ u. refl)
      refl
      (ap (λ s. s ++ shadow h) (decided_same b.start (decided h b.start)))
      (sound_lengthen (shadow h) (view bounds h) b.key b.start ttl good.sound)
      (ends_lengthen (view bounds h) b.key b.start ttl good.ends)
      tt

  pub next_heart_beat : (a : Answer)
      → AnswersTxnHeartBeat (cells_at bounds h b.key) (left h (route bounds b.key)).collected b a
      → Next bounds h (took (route bounds b.key) (body.TxnHeartBeat b) l a)
  next_heart_beat a (inl x) =
      silent a (BelowSafePoint (left h (route bounds b.key)).collected) x.1
      (quiet bounds h good b.key (body.TxnHeartBeat b) l (BelowSafePoint (left h (route bounds b.key)).collected)
      b.start (λ c. leaves_on c (body.TxnHeartBeat b) (BelowSafePoint (left h (route bounds b.key)).collected))
      (on_key (BelowSafePoint (left h (route bounds b.key)).collected)) refl (λ u n. refl) refl tt)
  next_heart_beat a (inr (no0, inl (lock, own, e))) =
      silent a (Ttl (max lock.ttl b.ttl)) e (lives (max lock.ttl b.ttl))
  next_heart_beat a (inr (no0, inr (no1, e))) =
      silent a TxnLockNotFound e
      (quiet bounds h good b.key (body.TxnHeartBeat b) l TxnLockNotFound b.start
      (λ c. leaves_on c (body.TxnHeartBeat b) TxnLockNotFound) (on_key TxnLockNotFound) refl (λ u n. refl) refl tt)
