-- Answers by tables that lack a case, or a part of one: as a region answers that has forgotten what
-- the case looks at. What the answer leaves is as ever.
use Rattle.std.specs.Prelude.{ℕ, false, List, Option, Some, None}
use Rattle.tx_types.specs.declared.key.Key.{Key}
use Rattle.tx_types.specs.declared.mutation.Mode.TheVariants.{TwoPhase}
use Rattle.tx_types.specs.declared.mutation.Mutation.TheVariants.{Lock as Locks}
use Rattle.tx_plan.specs.declared.body.Body.{Body}
use Rattle.tx_plan.specs.declared.body.Body.TheVariants as body
use Rattle.tx_plan.specs.Cells.{Lock, Write, CommitOf, Rollback, Region}
use Rattle.tx_core.specs.declared.event.Event.{Event}
use Rattle.tx_core.specs.declared.event.Event.TheVariants.{Took}
use Rattle.tx_core.specs.Histories.{History, left}
use Rattle.tx_core.specs.Allowed.{Allowed}
use Rattle.tx_needed.specs.Needed.{TakesAs}

-- a region takes a request of one command that the protocol allows, and answers as one that has
-- forgotten something
abbrev pub Forgets : (Body → Type 0) → (Region → Region) → List Key → History → Event → Type 0
Forgets IsOf forgets bounds h (Took x) = TakesAs (λ l b. IsOf b × Allowed l b) (λ l n. forgets (left l n)) bounds h x
Forgets IsOf forgets bounds h e = ⊥

-- ---- commands

abbrev pub IsGet : Body → Type 0
IsGet (body.Get q) = Unit {0}
IsGet b = ⊥

abbrev pub IsScan : Body → Type 0
IsScan (body.Scan q) = Unit {0}
IsScan b = ⊥

abbrev pub IsPrewrite : Body → Type 0
IsPrewrite (body.Prewrite q) = Unit {0}
IsPrewrite b = ⊥

abbrev pub IsCommit : Body → Type 0
IsCommit (body.Commit q) = Unit {0}
IsCommit b = ⊥

abbrev pub IsBatchRollback : Body → Type 0
IsBatchRollback (body.BatchRollback q) = Unit {0}
IsBatchRollback b = ⊥

abbrev pub IsCheckTxnStatus : Body → Type 0
IsCheckTxnStatus (body.CheckTxnStatus q) = Unit {0}
IsCheckTxnStatus b = ⊥

abbrev pub IsCheckSecondaryLocks : Body → Type 0
IsCheckSecondaryLocks (body.CheckSecondaryLocks q) = Unit {0}
IsCheckSecondaryLocks b = ⊥

abbrev pub IsRaiseSafe : Body → Type 0
IsRaiseSafe (body.RaiseSafe q) = Unit {0}
IsRaiseSafe b = ⊥

abbrev pub IsCollect : Body → Type 0
IsCollect (body.Collect q) = Unit {0}
IsCollect b = ⊥

-- ---- what is forgotten

-- the greatest timestamp that was read; its safe point; the last collection
abbrev pub no_reads : Region → Region
no_reads r = record r { max_read = 0 }

abbrev pub no_safe : Region → Region
no_safe r = record r { safe = 0 }

abbrev pub no_collection : Region → Region
no_collection r = record r { collected = 0 }

-- the locks; their modes; their minimums
abbrev pub on_locks : (Lock → Option Lock) → Region → Region
on_locks f r = record r {
  cells = λ k. record { lock = elim (r.cells k).lock [ None ↦ None | Some lock ↦ f lock ]; write = (r.cells k).write };
}

abbrev pub no_lock : Lock → Option Lock
no_lock lock = None

abbrev pub no_mode : Lock → Option Lock
no_mode lock = Some record lock { mode = TwoPhase }

abbrev pub no_minimum : Lock → Option Lock
no_minimum lock = Some record lock { min = 0 }

-- rollbacks; the marks on commit records; commit records; what they put
abbrev pub on_writes : (Option Write → Option Write) → Region → Region
on_writes f r = record r { cells = λ k. record { lock = (r.cells k).lock; write = λ c. f ((r.cells k).write c) } }

abbrev pub no_rollback : Option Write → Option Write
no_rollback (Some Rollback) = None
no_rollback w = w

abbrev pub no_mark : Option Write → Option Write
no_mark (Some (CommitOf rec)) = Some (CommitOf record rec { overlapped_rollback = false })
no_mark w = w

abbrev pub no_commit : Option Write → Option Write
no_commit (Some (CommitOf rec)) = None
no_commit w = w

abbrev pub no_put : Option Write → Option Write
no_put (Some (CommitOf rec)) = Some (CommitOf record rec { mutation = Locks })
no_put w = w

-- ---- what is taken for the safe point

-- a region collects at a number that is not its safe point, as if it were
abbrev pub CollectsAnywhere : List Key → History → Event → Type 0
CollectsAnywhere bounds h e = (n : ℕ) × Forgets IsCollect (λ r. record r { safe = n }) bounds h e
