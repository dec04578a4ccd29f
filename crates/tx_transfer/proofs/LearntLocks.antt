-- What was told of a lock stands for who learns it.
use Rattle.std.proofs.Common.{ℕ, List}
use Rattle.tx_types.specs.declared.key.Key.{Key}
use Rattle.tx_types.specs.declared.lock.LockInfo.{LockInfo}
use Rattle.tx_core.specs.declared.event.Event.TheVariants.{Took}
use Rattle.tx_core.specs.Histories.{History, Begins}
use Rattle.tx_core.specs.Laws.{WasToldOf}
use Rattle.tx_core.proofs.seats.Beginnings.{extends_begins}
use Rattle.tx_core.proofs.seats.Stays.{among_on}
use Rattle.tx_journal.specs.Known.{HasSeen}

pub told_on : (l h : History) → Begins l h → (info : LockInfo) → WasToldOf l info → WasToldOf h info
told_on l h b info was = record { by = was.by; among = among_on l h b (Took was.by) was.among; told = was.told }

pub told_after : (bounds : List Key) (seat : ℕ) (l a b : History) (info : LockInfo) → WasToldOf l info → Begins l a
    → HasSeen bounds seat a b → WasToldOf b info
told_after bounds seat l a b info was more seen =
    told_on a b (extends_begins seat a b seen.extends) info (told_on l a more info was)
