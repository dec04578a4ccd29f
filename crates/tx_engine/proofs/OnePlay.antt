-- A turn leads to one thing where that is of a world run: wherever a region is asked, a beginning
-- of it has happened.
use Rattle.std.proofs.Common.{Bool, List, subst}
use Rattle.tx_types.specs.declared.fault.Cause.{Cause}
use Rattle.tx_types.specs.declared.key.Key.{Key}
use Rattle.tx_cells.proofs.OneCopy.{one_copy}
use Rattle.tx_core.specs.Histories.{History, Begins, last, left}
use Rattle.tx_core.specs.Worlds.{IsWorldRun, route}
use Rattle.tx_core.proofs.seats.Beginnings.{run_beginning}
use Rattle.tx_core.proofs.unique.OneAnswer.{one_answer}
use Rattle.tx_reply.specs.declared.reply.ScriptReply.{ScriptReply}
use Rattle.tx_network.specs.Networks.{region_for}
use Rattle.tx_engine.specs.Semantics.{EngineState, Transition, goes, inquires, shows, stops}
use Rattle.tx_engine.specs.Plays.{Leads}
use Rattle.tx_engine.proofs.AllGrow.{AllGrow, leads_begin}

module _ (bounds : List Key) where
  -- where two things come of a turn, they come of it on one way
  pub one_lead : (Goes Went : EngineState → ScriptReply → List Bool → Type 0) (Stops Stopped : Cause
      → Type 0) (R : Type 0) (from h end : History) → IsWorldRun bounds end
      → ((next : EngineState) (said : ScriptReply) (left : List Bool) → Goes next said left
      → Begins next.network.history end) → ((c : Cause) → Stops c → Begins from end)
      → ((next : EngineState) (said : ScriptReply) (left : List Bool) → Goes next said left → Went next said left → R)
      → ((c : Cause) → Stops c → Stopped c → R)
      → (t : Transition) → AllGrow from h t → Leads bounds Goes Stops t → Leads bounds Went Stopped t → R
  one_lead Goes Went Stops Stopped R from h end run go stop on off (goes next said left) grow x y =
      on next said left x y
  one_lead Goes Went Stops Stopped R from h end run go stop on off (inquires network body more) grow (a, answers, x) (
    b,
    also,
    y,
  ) =
      let run_here : IsWorldRun bounds network.history =
      run_beginning bounds network.history end run (leads_begin bounds Goes Stops from network.history end go stop
      (more a) (grow.1 a) x) in
      one_lead Goes Went Stops Stopped R from network.history end run go stop on off (more a) (grow.1 a) x
      (subst (λ c. Leads bounds Went Stopped (more c)) (one_answer bounds network.history (region_for bounds body)
      (last network.history) body b a run_here also answers) y)
  one_lead Goes Went Stops Stopped R from h end run go stop on off (shows network key more) grow (a, is, x) (
    b,
    also,
    y,
  ) =
      one_lead Goes Went Stops Stopped R from network.history end run go stop on off (more a) (grow.1 a) x
      (subst (λ c. Leads bounds Went Stopped (more c))
      (one_copy ((left network.history (route bounds key)).cells key) b a also is) y)
  one_lead Goes Went Stops Stopped R from h end run go stop on off (stops c) grow x y = off c x y
