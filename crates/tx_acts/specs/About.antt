-- What is said of a transaction: its line, how it ended, who ran it and when.
use Rattle.std.specs.Prelude.{ℕ, ◌+◌, cond, List, [], ◌++◌, codes, decimal, length, nat_lt, Option, Some, None}
use Rattle.serde_json.specs.Written.{compact_text}
use Rattle.tx_recording.specs.declared.recording.RecordedOutcome.{RecordedOutcome}
use Rattle.tx_recording.specs.declared.recording.RecordedOutcome.TheVariants.{Ok, Fail, Info}
use Rattle.tx_recording.specs.declared.recording.RecordedTransaction.{RecordedTransaction}
use Rattle.tx_recording.specs.Recordings.{transaction_at}
use Rattle.tx_import.specs.declared.reader.NamedHistory.{NamedHistory}
use Rattle.tx_verdict_text.specs.Words.{process_data}
use Rattle.tx_acts.specs.Ops.{ops_at}

-- the number of the line that says a transaction
abbrev pub line_word : ℕ → List ℕ
line_word t = codes "line " ++ decimal (t + 1)

abbrev pub outcome_text : RecordedOutcome → List ℕ
outcome_text Ok = codes ", ok"
outcome_text Fail = codes ", fail"
outcome_text Info = codes ", info"

-- a process, where there is one
abbrev pub process_text : NamedHistory → Option ℕ → List ℕ
process_text h None = []
process_text h (Some p) = codes ", process " ++ compact_text (process_data h p)

-- a number behind words, where there is one
abbrev pub number_text : List ℕ → Option ℕ → List ℕ
number_text words None = []
number_text words (Some n) = words ++ decimal n

-- how a transaction ended, who ran it, and when
abbrev pub ended_text : NamedHistory → RecordedTransaction → List ℕ
ended_text h x = outcome_text x.outcome ++ (process_text h x.process
    ++ (number_text (codes ", start ") x.began ++ number_text (codes ", end ") x.ended))

-- how many of all operations are shown
abbrev pub part_text : ℕ → ℕ → List ℕ
part_text shown all = codes ", " ++ (decimal shown ++ (codes " of " ++ (decimal all ++ codes " operations")))

-- the same, where they are not all
abbrev pub few_text : ℕ → ℕ → List ℕ
few_text shown all = cond (nat_lt shown all) (part_text shown all) []

abbrev pub said_text : NamedHistory → ℕ → RecordedTransaction → ℕ → ℕ → List ℕ
said_text h t x shown all = line_word t ++ (ended_text h x ++ few_text shown all)

-- what is said of a transaction of which so many operations are shown
abbrev pub about_text : NamedHistory → ℕ → ℕ → List ℕ
about_text h t shown = said_text h t (transaction_at h.recording t) shown (length (ops_at h t))
