-- Of which transactions a no tells: of those on its cycle, on one of the rounds that refute it, or
-- of the one that read what it names. Of a cycle of which no edge is by a read it also tells of
-- those that read in the key of its first edge of writes what one of that edge's transactions put
-- there: that is why the order of its writes is known.
use Rattle.std.specs.Prelude.{ℕ, ◌+◌, ◌==◌, Bool, true, false, ◌&&◌, ◌||◌, cond, List, [], ◌∷◌, length, nat_le, Option, Some, None}
use Rattle.std.specs.List.{find, list_any}
use Rattle.std.specs.Option.{is_some}
use Rattle.tx_verdict.specs.declared.anomaly.Anomaly.{Anomaly}
use Rattle.tx_verdict.specs.declared.anomaly.Anomaly.TheVariants.{G0}
use Rattle.tx_recording.specs.declared.recording.RecordedOutcome.{RecordedOutcome}
use Rattle.tx_recording.specs.declared.recording.RecordedOutcome.TheVariants.{Ok, Fail, Info}
use Rattle.tx_recording.specs.declared.recording.Act.{Act}
use Rattle.tx_recording.specs.declared.recording.Act.TheVariants.{Append, Write, Read}
use Rattle.tx_recording.specs.declared.recording.RecordedOp.{RecordedOp}
use Rattle.tx_recording.specs.declared.recording.Recording.{Recording}
use Rattle.tx_recording.specs.Recordings.{transaction_at, ops_of, list_of}
use Rattle.tx_verdict.specs.declared.verdict.Cycle.{Cycle}
use Rattle.tx_verdict.specs.declared.verdict.CycleStep.{CycleStep}
use Rattle.tx_verdict.specs.declared.verdict.HistoryVerdict.{HistoryVerdict}
use Rattle.tx_verdict.specs.declared.verdict.HistoryVerdict.TheVariants.{No, Refuted, Fact as Found}
use Rattle.tx_verdict.specs.declared.refutation.Settled.{Settled}
use Rattle.tx_verdict.specs.declared.refutation.Lemma.{Lemma}
use Rattle.tx_verdict.specs.declared.refutation.Refutation.{Refutation}

-- it is known to have committed
abbrev pub is_ok : RecordedOutcome → Bool
is_ok Ok = true
is_ok Fail = false
is_ok Info = false

-- the act puts the value
abbrev pub is_value : ℕ → Act → Bool
is_value v (Append w) = w == v
is_value v (Write w) = w == v
is_value v (Read span) = false

-- one of the operations puts the value
abbrev pub puts_value : List RecordedOp → ℕ → Bool
puts_value os v = list_any (λ o. is_value v o.act) os

-- one of the operations puts one of the values
abbrev pub sees_one : List RecordedOp → List ℕ → Bool
sees_one os vs = list_any (puts_value os) vs

-- the values that an act read
abbrev pub read_by : Recording → Act → List ℕ
read_by r (Append v) = []
read_by r (Write v) = []
read_by r (Read span) = cond (nat_le (span.first + span.count) (length r.elements.items)) (list_of r span) []

-- the operation read in the key what one of these operations put
abbrev pub sees_in : Recording → ℕ → List RecordedOp → RecordedOp → Bool
sees_in r k os o = (o.key == k) && sees_one os (read_by r o.act)

-- t read in the key, if there is one, what u put there
abbrev pub sees_put : Recording → ℕ → Option ℕ → ℕ → Bool
sees_put r u None t = false
sees_put r u (Some k) t = list_any (sees_in r k (ops_of r u)) (ops_of r t)

-- the first of the edges that has a key
abbrev pub first_keyed : List CycleStep → Option CycleStep
first_keyed steps = find (λ s. is_some s.key) steps

-- t read in the key of an edge, where there is one, what one of its transactions put there
abbrev pub sees_one_of : Recording → Option CycleStep → ℕ → Bool
sees_one_of r None t = false
sees_one_of r (Some s) t = sees_put r s.to s.key t || sees_put r s.from s.key t

-- t is on the cycle
abbrev pub is_on : List CycleStep → ℕ → Bool
is_on steps t = list_any (λ s. s.from == t) steps

-- t is on the round of the order
abbrev pub is_round_of : ℕ → Settled → Bool
is_round_of t f = is_on f.round.items t

-- t is on the round of the clause
abbrev pub is_lemma_of : ℕ → Lemma → Bool
is_lemma_of t l = is_on l.round.items t

-- t is on one of the rounds
abbrev pub is_on_one : Refutation → ℕ → Bool
is_on_one x t = is_on x.last.items t || (list_any (is_round_of t) x.facts.items
    || list_any (is_lemma_of t) x.lemmas.items)

-- no edge of the cycle is by a read
abbrev pub is_dirty : Anomaly → Bool
is_dirty G0 = true
is_dirty _ = false

abbrev pub is_named : Recording → Cycle → ℕ → Bool
is_named r c t = is_on c.steps.items t || (is_dirty c.anomaly && sees_one_of r (first_keyed c.steps.items) t)

-- what is told is told of t
abbrev pub is_of : Recording → HistoryVerdict → ℕ → Bool
is_of r (No c) t = is_named r c t
is_of r (Refuted x) t = is_on_one x t
is_of r (Found f) t = f.txn == t
is_of r _ t = false

-- the verdict tells of t, which is known to have committed
abbrev pub tells : Recording → HistoryVerdict → ℕ → Bool
tells r v t = is_ok (transaction_at r t).outcome && is_of r v t

-- one of the verdicts does
abbrev pub told_by : Recording → List HistoryVerdict → ℕ → Bool
told_by r [] t = false
told_by r (v ∷ vs) t = told_by r vs t || tells r v t
