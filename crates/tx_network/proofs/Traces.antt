-- The trace that is kept, as what is newest grows.
use Rattle.std.proofs.Common.{◌≡◌, ℕ, List, ◌∷◌, Option, Some, None, is_some, true, false, Result, Ok, Err, refl, sym, subst}
use Rattle.std.specs.Prelude.{IfSome, IfOk, OnOk, is_err}
use Rattle.tx_types.specs.declared.fault.Fault.{Fault}
use Rattle.tx_types.specs.declared.key.Key.{Key}
use Rattle.tx_core.specs.declared.event.Event.{Event}
use Rattle.tx_core.specs.declared.event.Event.TheVariants.{Declared, Stopped}
use Rattle.tx_core.specs.declared.event.Declaration.{Declaration}
use Rattle.tx_core.specs.Histories.{History}
use Rattle.tx_core.specs.Worlds.{IsWorldRun}
use Rattle.tx_trace.specs.Traces.{Noted, Traces}
use Rattle.tx_trace.proofs.Histories.{stopped_adds}
use Rattle.tx_network.specs.Networks.{NetworkParts, GoesOnWith, KeptAs, NotesDeclared, Foresees, IsTraced}

-- by its parts
abbrev pub TracedBy : History → Option Noted → Type 0
TracedBy h o = IfSome o (λ t. (bounds : List Key) → IsWorldRun bounds h → Traces h t)

by_parts : (from to : NetworkParts) (h : History) (o : Option Noted) → to.newest ≡ h → to.trace ≡ o → TracedBy h o
    → IsTraced to
by_parts from to h o newest trace t = subst (λ x. TracedBy x to.trace) (sym newest) (subst (TracedBy h) (sym trace) t)

pub traced_same : (from to : NetworkParts) → to.newest ≡ from.newest → to.trace ≡ from.trace → IsTraced from
    → IsTraced to
traced_same from to newest trace t = by_parts from to from.newest from.trace newest trace t

kept_by : (h : History) (old new : Option Noted) → KeptAs old new → TracedBy h old → TracedBy h new
kept_by h old None kept t = tt
kept_by h old (Some new) kept t = subst (TracedBy h) kept t

pub traced_kept : (from to : NetworkParts) → to.newest ≡ from.newest → KeptAs from.trace to.trace → IsTraced from
    → IsTraced to
traced_kept from to newest kept t =
    by_parts from to from.newest to.trace newest (λ i. to.trace) (kept_by from.newest from.trace to.trace kept t)

-- it is as it was
pub kept_same : (old new : Option Noted) → new ≡ old → KeptAs old new
kept_same old None same = tt
kept_same old (Some t) same = sym same

on_by : (h : History) (e : Event) (old new : Option Noted) → GoesOnWith old e new → TracedBy h old
    → TracedBy (e ∷ h) new
on_by h e old None goes t = tt
on_by h e None (Some new) goes t = absurd goes
on_by h e (Some old) (Some new) goes t = λ bounds run. goes bounds h run (t bounds run.0)

pub traced_on : (from to : NetworkParts) (e : Event) → to.newest ≡ e ∷ from.newest → GoesOnWith from.trace e to.trace
    → IsTraced from → IsTraced to
traced_on from to e newest goes t =
    by_parts from to (e ∷ from.newest) to.trace newest (λ i. to.trace) (on_by from.newest e from.trace to.trace goes t)

pub traced_twice : (from to : NetworkParts) (d e : Event) (o : Option Noted) → to.newest ≡ e ∷ d ∷ from.newest
    → GoesOnWith from.trace d o → GoesOnWith o e to.trace → IsTraced from → IsTraced to
traced_twice from to d e o newest first second t =
    by_parts from to (e ∷ d
    ∷ from.newest) to.trace newest (λ i. to.trace)
    (on_by (d ∷ from.newest) e o to.trace second (on_by from.newest d from.trace o first t))

-- a session that stops is no step
stop_by : (seat : ℕ) (o : Option Noted) → GoesOnWith o (Stopped seat) o
stop_by seat None = tt
stop_by seat (Some t) = stopped_adds t seat

pub stopped_on : (from to : NetworkParts) (seat : ℕ) → to.trace ≡ from.trace
    → GoesOnWith from.trace (Stopped seat) to.trace
stopped_on from to seat same = subst (GoesOnWith from.trace (Stopped seat)) (sym same) (stop_by seat from.trace)

-- what came of a step that went well
pub went_well : {T E : Type 0} (r : Result T E) (P : Type 0) → OnOk r P → is_err r ≡ false → P
went_well (Ok x) P told well = told
went_well (Err e) P told well = absurd (cc (well))

-- ---- what is declared

-- it is at hand where a trace is kept
pub seen_where : (o : Option Noted) (d : Option Declaration) (copy : Result (Option Declaration) Fault)
    → is_some o ≡ true → IfOk copy (λ x. x ≡ d) → Foresees o d copy
seen_where None d copy kept ok = absurd (cc (kept))
seen_where (Some t) d copy kept ok = ok

pub unseen_where : (o : Option Noted) (d : Option Declaration) → is_some o ≡ false → Foresees o d (Ok None)
unseen_where None d kept = refl
unseen_where (Some t) d kept = absurd (cc (kept))

-- nothing is noted
pub notes_none : (o : Option Noted) (d : Option Declaration) → Foresees o d (Ok None) → NotesDeclared d o o
notes_none None None seen = tt
notes_none None (Some d) seen = tt
notes_none (Some t) None seen = refl
notes_none (Some t) (Some d) seen = absurd (cc (seen))

-- what was at hand is noted
pub notes_some : (old new : Option Noted) (x : Declaration) (d : Option Declaration) → GoesOnWith old (Declared x) new
    → Foresees old d (Ok (Some x)) → NotesDeclared d old new
notes_some None new x d goes seen = absurd (cc (seen))
notes_some (Some t) new x d goes seen = subst (λ o. NotesDeclared o (Some t) new) seen goes

-- memory for it was refused
pub notes_lost : (old : Option Noted) (d : Option Declaration) → NotesDeclared d old None
notes_lost old None = tt
notes_lost old (Some d) = tt
