-- What explains a recording at a level of isolation. A serial execution explains it where the
-- timestamps are those of one: what is serializable is snapshot isolation.
use Rattle.std.specs.Prelude.{◌≡◌, ◌≢◌, ◌⊎◌, ℕ, ◌≤◌, IsTrue}
use Rattle.tx_recording.specs.declared.recording.Recording.{Recording}
use Rattle.tx_recording.specs.Explanations.{Explanation, Explains}
use Rattle.tx_verdict.specs.declared.question.Level.TheVariants.{Serializable}
use Rattle.tx_verdict.specs.declared.question.Question.{Question}

-- one after the other: of any two that committed one started when the other had committed
abbrev pub IsSerial : Explanation → Type 0
IsSerial x = (t u : ℕ) → IsTrue (x.committed t) → IsTrue (x.committed u) → t ≢ u
    → (x.commit t ≤ x.start u) ⊎ (x.commit u ≤ x.start t)

-- under this the recording is snapshot isolation, and a serial execution where that is asked for
abbrev pub ExplainsAt : Recording → Question → Explanation → Type 0
ExplainsAt r asked x = Explains r asked.orders x × (asked.level ≡ Serializable → IsSerial x)
