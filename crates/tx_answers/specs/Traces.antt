-- The trace of timestamps that explain a recording: steps of the one-step machine, in which its
-- transactions start, read what they saw, and commit what they put.
use Rattle.std.specs.Prelude.{◌≡◌, ℕ, ◌+◌, ◌-◌, ◌==◌, Bool, false, ◌&&◌, cond, List, [], ◌∷◌, ◌++◌, reverse, length, take, drop, Option, Some, None, is_some, option_map, unwrap_or, zero, suc, slice_get, slice_index, slice_index_or, decimal}
use Rattle.std.specs.Fmt.{signed_decimal}
use Rattle.std.specs.List.{list_any, flat_map}
use Rattle.std.specs.List.Sorted.{IsPermutation}
use Rattle.tx_types.specs.declared.mutation.Change.{Change}
use Rattle.tx_types.specs.declared.mutation.Mutation.TheVariants.{Put}
use Rattle.tx_machine.specs.declared.step.Step.{Step}
use Rattle.tx_machine.specs.declared.step.Step.TheVariants as step
use Rattle.tx_machine.specs.Machine.{IsRun}
use Rattle.tx_check.specs.Steps.{step_text}
use Rattle.tx_recording.specs.declared.recording.RecordedOutcome.{RecordedOutcome}
use Rattle.tx_recording.specs.declared.recording.RecordedOutcome.TheVariants.{Ok, Fail, Info}
use Rattle.tx_recording.specs.declared.recording.Span.{Span}
use Rattle.tx_recording.specs.declared.recording.Act.{Act}
use Rattle.tx_recording.specs.declared.recording.Act.TheVariants.{Append, Write, Read}
use Rattle.tx_recording.specs.declared.recording.RecordedOp.{RecordedOp}
use Rattle.tx_recording.specs.Recordings.{txns_of, transaction_at, ops_of, no_op}
use Rattle.tx_verdict.specs.declared.verdict.Timestamps.{Timestamps}
use Rattle.tx_import.specs.declared.name.Name.{Name}
use Rattle.tx_import.specs.declared.name.Name.TheVariants.{Text, Number}
use Rattle.tx_import.specs.declared.name.Scalar.{Scalar}
use Rattle.tx_import.specs.declared.name.Scalar.TheVariants as scalar
use Rattle.tx_import.specs.declared.reader.NamedHistory.{NamedHistory}
use Rattle.tx_verdict_text.specs.Words.{truth_word}
use Rattle.tx_answers.specs.declared.moment.Moment.{Moment}
use Rattle.tx_answers.specs.declared.moment.Moment.TheVariants.{Start, Commit}

-- what is told of each number below one, in turn
abbrev pub each_of : {A : Type 0} → (ℕ → List A) → ℕ → List A
each_of f zero = []
each_of f (suc n) = each_of f n ++ f n

-- ---- moments

-- the start and the commit of a transaction, where it committed: the machine's numbers are the
-- timestamps
abbrev pub moments_at : Timestamps → ℕ → List Moment
moments_at x t = cond (slice_index_or x.committed.items t false)
    (Start t (slice_index x.starts.items t)
    ∷ Commit t (slice_index x.starts.items t) (slice_index x.commits.items t) ∷ []) []

-- ---- steps

-- a name as a text: a number is its digits
abbrev pub name_bytes : Name → List ℕ
name_bytes (Text s) = s
name_bytes (Number n) = decimal n

-- a value as a text, in the same way: true and false are their words
abbrev pub scalar_bytes : Scalar → List ℕ
scalar_bytes (scalar.Text s) = s
scalar_bytes (scalar.Number n) = decimal n
scalar_bytes (scalar.Negative z) = signed_decimal z
scalar_bytes (scalar.Truth b) = truth_word b

abbrev pub key_bytes : NamedHistory → ℕ → List ℕ
key_bytes h k = name_bytes (unwrap_or (slice_get h.tables.keys k) (Number 0))

abbrev pub value_bytes : NamedHistory → ℕ → List ℕ
value_bytes h v = scalar_bytes
    (unwrap_or (option_map (λ kv. kv.value) (slice_get h.tables.values v)) (scalar.Number 0))

-- what an act puts into its key
abbrev pub put_by : Act → Option ℕ
put_by (Append v) = Some v
put_by (Write v) = Some v
put_by (Read span) = None

-- an operation puts something
abbrev pub is_put : RecordedOp → Bool
is_put o = is_some (put_by o.act)

-- an operation puts something into a key
abbrev pub is_put_into : ℕ → RecordedOp → Bool
is_put_into k o = (o.key == k) && is_put o

-- what a read found: the last of its values stands for all of them
abbrev pub found_by : NamedHistory → Span → Option (List ℕ)
found_by h span = cond (span.count == 0) None
    (option_map (value_bytes h) (slice_get h.recording.elements.items (span.first + (span.count - 1))))

-- the read of a key at a number
abbrev pub read_step : NamedHistory → ℕ → ℕ → Act → List Step
read_step h at k (Read span) = step.Read (key_bytes h k) at (found_by h span) ∷ []
read_step h at k (Append v) = []
read_step h at k (Write v) = []

-- the same of the operation at a place, where those before it put nothing into its key
abbrev pub read_at : NamedHistory → ℕ → List RecordedOp → ℕ → List Step
read_at h at os p = cond (list_any (is_put_into (slice_index_or os p no_op).key) (take p os)) []
    (read_step h at (slice_index_or os p no_op).key (slice_index_or os p no_op).act)

-- what a transaction read: it is not known of one whose end is not
abbrev pub reads_of : NamedHistory → RecordedOutcome → ℕ → List RecordedOp → List Step
reads_of h Ok at os = each_of (read_at h at os) (length os)
reads_of h Fail at os = []
reads_of h Info at os = []

-- what an act leaves in a key: the value that is put last stands for all before it
abbrev pub change_of : NamedHistory → ℕ → Option ℕ → List Change
change_of h k None = []
change_of h k (Some v) = record { key = key_bytes h k; mutation = Put (value_bytes h v) } ∷ []

-- the same of the operation at a place, where those behind it put nothing into its key
abbrev pub change_at : NamedHistory → List RecordedOp → ℕ → List Change
change_at h os p = cond (list_any (is_put_into (slice_index_or os p no_op).key) (drop (p + 1) os)) []
    (change_of h (slice_index_or os p no_op).key (put_by (slice_index_or os p no_op).act))

-- what a transaction leaves
abbrev pub changes_of : NamedHistory → List RecordedOp → List Change
changes_of h os = each_of (change_at h os) (length os)

-- where it puts something, it declares what it leaves
abbrev pub declared_by : NamedHistory → ℕ → List RecordedOp → List Step
declared_by h at os = cond (list_any is_put os) (step.Declare at (changes_of h os) ∷ []) []

-- a transaction starts at a number, and reads there
abbrev pub start_steps : NamedHistory → ℕ → ℕ → List Step
start_steps h t at = (step.Draw at ∷ step.Begin at ∷ [])
    ++ (reads_of h (transaction_at h.recording t).outcome at (ops_of h.recording t)
    ++ declared_by h at (ops_of h.recording t))

-- where it puts something, it commits at a number
abbrev pub commit_steps : NamedHistory → ℕ → ℕ → ℕ → List Step
commit_steps h t at commit =
    cond (list_any is_put (ops_of h.recording t)) (step.Draw commit ∷ step.Commit at commit ∷ []) []

abbrev pub moment_steps : NamedHistory → Moment → List Step
moment_steps h (Start t at) = start_steps h t at
moment_steps h (Commit t at commit) = commit_steps h t at commit

-- the text of a trace: the starts and the commits of the transactions that committed, each once, in
-- an order in which their steps are a run of the machine
abbrev pub IsTrace : NamedHistory → Timestamps → List ℕ → Type 0
IsTrace h x text = (moments : List Moment) × IsPermutation (each_of (moments_at x) (txns_of h.recording)) moments
    × ∥ IsRun (reverse (flat_map (moment_steps h) moments)) ∥₁
    × (text ≡ flat_map step_text (flat_map (moment_steps h) moments))
