-- The requests that regions took, with their answers.
use Rattle.std.specs.Prelude.{◌≡◌, List, [], ◌∷◌, reverse, Option, IfSome}
use Rattle.tx_core.specs.declared.event.Event.{Event}
use Rattle.tx_core.specs.declared.event.Event.TheVariants.{Took}
use Rattle.tx_core.specs.Histories.{History}
use Rattle.tx_trace.specs.declared.taken_log.TakenLog.{TakenLog}
use Rattle.tx_trace.specs.declared.taken_log.Taking.{Taking}

-- The requests that regions took, each with its answer, newest first.
abbrev pub takings : History → List Taking
takings [] = []
takings (Took x ∷ h) = record { body = x.body; answer = x.answer } ∷ takings h
takings (_ ∷ h) = takings h

-- It has what regions took in a history, each once, in order.
abbrev pub AreTakings : History → TakenLog → Type 0
AreTakings h t = takings h ≡ reverse t.takings.items

-- it goes on with an event, of whatever history it was
abbrev pub TakingsGoOn : TakenLog → Event → TakenLog → Type 0
TakingsGoOn old e new = (h : History) → AreTakings h old → AreTakings (e ∷ h) new

-- where it is kept, it goes on with an event; or it is kept no more
abbrev pub MayGoOn : Option TakenLog → Event → Option TakenLog → Type 0
MayGoOn old e new = (h : History) → IfSome old (AreTakings h) → IfSome new (AreTakings (e ∷ h))
