-- What a turn leads to.
use Rattle.std.specs.Prelude.{List, Bool}
use Rattle.tx_types.specs.declared.fault.Cause.{Cause}
use Rattle.tx_types.specs.declared.key.Key.{Key}
use Rattle.tx_plan.specs.declared.answer.Answer.{Answer}
use Rattle.tx_cells.specs.declared.copies.KeyVersions.{KeyVersions}
use Rattle.tx_reply.specs.declared.reply.ScriptReply.{ScriptReply}
use Rattle.tx_network.specs.Networks.{MayAnswerSo, MayShowSo}
use Rattle.tx_engine.specs.Semantics.{EngineState, Transition, goes, inquires, shows, stops}

module _ (bounds : List Key) where
  -- a turn goes on so, or stops so: a region that is asked answers by the case tables from what
  -- its events left, with the least minimum for an async lock, and what it shows of a key is
  -- what they left there
  abbrev pub Leads : (EngineState → ScriptReply → List Bool → Type 0) → (Cause → Type 0) → Transition → Type 0
  Leads Goes Stops (goes engine said refused) = Goes engine said refused
  Leads Goes Stops (inquires network body more) = (a : Answer) × MayAnswerSo bounds network body a
      × Leads Goes Stops (more a)
  Leads Goes Stops (shows network key more) = (copy : KeyVersions) × MayShowSo bounds network key copy
      × Leads Goes Stops (more copy)
  Leads Goes Stops (stops cause) = Stops cause
