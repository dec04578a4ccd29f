-- By what a read stops.
use Rattle.std.proofs.Common.{◌≡◌, ◌∙◌, ℕ, Option, Some, None, option_map, Result, Ok, Err, IfOk, IfErr, IfSome, sym, ap, subst}
use Rattle.std.specs.Prelude.{unwrap_or}
use Rattle.tx_types.specs.declared.key.Key.{Key}
use Rattle.tx_types.specs.declared.lock.LockInfo.{LockInfo}
use Rattle.tx_plan.specs.declared.answer.Answer.{Answer}
use Rattle.tx_plan.specs.declared.answer.Answer.TheVariants.{KeyIsLocked}
use Rattle.tx_core.specs.Histories.{History, Begins}
use Rattle.tx_transaction.specs.declared.state.Miss.{Miss}
use Rattle.tx_client.specs.declared.resolved.WaitCause.{WaitCause}
use Rattle.tx_update.specs.declared.stops.Stop.{Stop}
use Rattle.tx_update.specs.declared.stops.Stop.TheVariants as stop
use Rattle.tx_update.specs.Reads.{IsGetAnswer, TellsLock}
use Rattle.tx_update.specs.Stops.{IsReadStop}
use Rattle.tx_update.proofs.ReadReplies.{answered_on}

module _ (loses : ℕ → Type 0) (h : History) (start : ℕ) where
  -- by an answer
  pub told_stops : (s : Stop) → IsReadStop (λ _. ⊥) h start s → IsReadStop loses h start s
  told_stops (stop.Waits key why) is = is
  told_stops stop.BelowSafePoint is = is
  told_stops stop.Lost is = absurd is
  told_stops (stop.Refused f) is = is
  told_stops (stop.Conflict key) is = absurd is
  told_stops stop.RolledBack is = absurd is
  told_stops (stop.AlreadyExists key) is = absurd is

  pub if_told_stops : {A : Type 0} (May : History → ℕ → Type 0) (r : Result A Stop)
      → IfErr r (λ s. (g : History) (n : ℕ) → May g n → IsReadStop (λ _. ⊥) g n s) → May h start
      → IfErr r (IsReadStop loses h start)
  if_told_stops May (Ok x) stops may = tt
  if_told_stops May (Err s) stops may = told_stops s (stops h start may)

-- an answer to the read of a key tells of a lock of that key
key_locks : (h : History) (start : ℕ) (key : Key) (a : Answer) → IsGetAnswer h start key a
    → TellsLock h start (Some key) a
key_locks h start key (KeyIsLocked info) is = is
key_locks h start key a is = tt

pub if_key_locks : {E : Type 0} (h : History) (start : ℕ) (key : Key) (r : Result Answer E)
    → IfOk r (IsGetAnswer h start key) → IfOk r (TellsLock h start (Some key))
if_key_locks h start key (Ok a) is = key_locks h start key a is
if_key_locks h start key (Err e) is = tt

-- the key that is told is that of the lock
locked_key : {T : Type 0} (key_of : T → Key) (named : Option T) (default key : T) (locked : Key)
    → key ≡ unwrap_or named default → key_of default ≡ locked
    → IfSome (option_map key_of named) (λ k. locked ≡ k) → locked ≡ key_of key
locked_key key_of None default key locked is own told = sym own ∙ ap key_of (sym is)
locked_key key_of (Some k) default key locked is own told = told ∙ ap key_of (sym is)

-- a lock in the way was told of
pub lock_stops : {T : Type 0} (loses : ℕ → Type 0) (l h : History) → Begins l h → (start : ℕ) (key_of : T → Key)
    (named : Option T) (default key : T) (r : Result Answer Miss) (info : LockInfo) (told : Key) (why : WaitCause)
    → r ≡ Ok (KeyIsLocked info) → key_of default ≡ info.key → key ≡ unwrap_or named default → told ≡ key_of key
    → IfOk r (TellsLock l start (option_map key_of named)) → IsReadStop loses h start (stop.Waits told why)
lock_stops loses l h begins start key_of named default key r info told why answered own is same tells =
    let lock = subst (λ r. IfOk r (TellsLock l start (option_map key_of named))) answered tells in (
      info,
      locked_key key_of named default key info.key is own lock.0 ∙ sym same,
      answered_on l h begins start (KeyIsLocked info) lock.1,
    )
