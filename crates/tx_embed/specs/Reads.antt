-- What the reads of a transaction that is open come to.
use Rattle.std.specs.Prelude.{◌≡◌, ℕ, [], ◌∷◌, Option, Some, None, Result, IfOk, IfErr, IsTrue}
use Rattle.tx_types.specs.declared.key.Key.{Key}
use Rattle.tx_types.specs.declared.value.Value.{Value}
use Rattle.tx_types.specs.declared.mutation.KeyValue.{KeyValue}
use Rattle.tx_types.specs.Keys.{is_between}
use Rattle.tx_plan.specs.declared.answer.Answer.{Answer}
use Rattle.tx_plan.specs.declared.answer.Answer.TheVariants.{KeyIsLocked}
use Rattle.tx_core.specs.Histories.{History}
use Rattle.tx_transaction.specs.declared.state.Miss.{Miss}
use Rattle.tx_transaction.specs.Buffers.{buffered}
use Rattle.tx_client.specs.Calls.{Seated}
use Rattle.tx_update.specs.declared.stops.Stop.{Stop}
use Rattle.tx_update.specs.declared.stops.Stop.TheVariants.{Waits}
use Rattle.tx_update.specs.Reads.{Finds, FindsRows, AnswersRead, AnswersScan, IsGetAnswer, IsScanAnswer, IsReadMiss}
use Rattle.tx_update.specs.Stops.{IsReadStop, NamesKey}
use Rattle.tx_update.specs.Updates.{Follows}

-- the transaction goes on, and what it entered is the same
abbrev pub OnlyReads : Seated → Seated → Type 0
OnlyReads old new = Follows old new × (new.state.buffer ≡ old.state.buffer)

-- the first row of a range, if it has one, that the one-step machine sees at the start
abbrev pub FindsFirst : History → ℕ → Key → Key → Option KeyValue → Type 0
FindsFirst h start from to (Some row) = FindsRows h start from to 1 (row ∷ [])
FindsFirst h start from to None = FindsRows h start from to 1 []

-- where an answer to the read of a range tells of a lock in the way, that is of a key of the range
abbrev pub LocksWithin : Key → Key → Answer → Type 0
LocksWithin from to (KeyIsLocked info) = IsTrue (is_between from to info.key)
LocksWithin from to _ = Unit {0}

-- where a lock stands in the way of the read of a range, a key of the range is told
abbrev pub NamesWithin : Key → Key → Stop → Type 0
NamesWithin from to (Waits told why) = IsTrue (is_between from to told)
NamesWithin from to _ = Unit {0}

module _ (loses : ℕ → Type 0) where
  -- a read of a key was sent, once
  abbrev pub LooksAt : Seated → Key → Result Answer Miss → Seated → Type 0
  LooksAt old key r new = OnlyReads old new
      × IfOk r (AnswersRead (buffered old.state.buffer key) new.seat.events old.state.start key)
      × IfOk r (IsGetAnswer new.seat.events old.state.start key)
      × IfErr r (IsReadMiss loses old.state.start)

  -- the value of a key was read: what was entered of it, or what the one-step machine sees at the
  -- start; or the read stopped, for a reason that is so
  abbrev pub Gets : Seated → Key → Result (Option Value) Stop → Seated → Type 0
  Gets old key r new = OnlyReads old new
      × IfOk r (Finds (buffered old.state.buffer key) new.seat.events old.state.start key)
      × IfErr r (IsReadStop loses new.seat.events old.state.start) × IfErr r (NamesKey key)

  -- a read of the first row of a range was sent, once
  abbrev pub LooksFrom : Seated → Key → Key → Result Answer Miss → Seated → Type 0
  LooksFrom old from to r new = OnlyReads old new
      × IfOk r (AnswersScan new.seat.events old.state.start from to 1)
      × IfOk r (IsScanAnswer new.seat.events old.state.start)
      × IfErr r (IsReadMiss loses old.state.start)
      × IfOk r (LocksWithin from to)

  -- the first row of a range was read, or the read stopped, for a reason that is so
  abbrev pub Nexts : Seated → Key → Key → Result (Option KeyValue) Stop → Seated → Type 0
  Nexts old from to r new = OnlyReads old new
      × IfOk r (FindsFirst new.seat.events old.state.start from to)
      × IfErr r (IsReadStop loses new.seat.events old.state.start) × IfErr r (NamesWithin from to)
