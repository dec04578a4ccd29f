-- What a seed does: it begins a transaction of its own, puts its value, declares, prewrites and
-- commits it, and ends.
use Rattle.std.specs.Prelude.{◌≡◌, ◌⊎◌, ◌<◌, Bool, true, false, List, ℕ, Option, Some, None, Ok, Err}
use Rattle.tx_types.specs.declared.key.Key.{Key}
use Rattle.tx_types.specs.declared.value.Value.{Value}
use Rattle.tx_types.specs.declared.fault.Fault.{Fault}
use Rattle.tx_types.specs.declared.fault.Fault.TheVariants as fault
use Rattle.tx_types.specs.declared.mutation.Mode.TheVariants.{TwoPhase}
use Rattle.tx_core.specs.declared.event.Outcome.{Outcome}
use Rattle.tx_core.specs.declared.event.Outcome.TheVariants.{Committed}
use Rattle.tx_journal.specs.Known.{Known}
use Rattle.tx_transaction.specs.declared.state.Phase.TheVariants as phase
use Rattle.tx_transaction.specs.declared.state.Terms.{Terms}
use Rattle.tx_transaction.specs.Sessions.{finish_of}
use Rattle.tx_client.specs.Calls.{HasHeard, Seated}
use Rattle.tx_transfer.specs.declared.changes.TheConstants.{TTL}
use Rattle.tx_transfer.specs.Seeds.{IsTextFault}
use Rattle.tx_transfer.specs.Steps.{Begun, Came, CommitsOr, DeclaresOr, DrawsOr, EndsBy, Enters, SendsOr, Then}

-- how its transaction is declared
abbrev pub seed_terms : Terms
seed_terms = record { mode = TwoPhase; ttl = TTL; max_commit = None }

-- whether an outcome is a commit
abbrev pub is_committed : Option Outcome → Bool
is_committed (Some (Committed at)) = true
is_committed _ = false

-- a seed is told to be done where nothing was refused and its session ended committed
abbrev pub seeded_by : Came → Bool → Came
seeded_by (Err e) committed = Err e
seeded_by (Ok u) true = Ok tt
seeded_by (Ok u) false = Err fault.OutOfMemory

module _ (bounds : List Key) where
  -- it puts its value on its key, and declares that
  abbrev pub Puts : Key → Value → Seated → Came → Seated → Type 0
  Puts key value = Then (Enters key value) (DeclaresOr bounds seed_terms)

  -- it prewrites, draws and commits
  abbrev pub Commits : Seated → Came → Seated → Type 0
  Commits = Then (SendsOr bounds phase.Prewrite) (Then (DrawsOr bounds) (CommitsOr bounds))

  abbrev pub SeedWrites : Key → Value → Seated → Came → Seated → Type 0
  SeedWrites key value = Then (Puts key value) Commits

  -- its transaction, from its start to its end
  pub record SeedRuns (key : Key) (value : Value) (old : Known) (came : Came) (new : Known) : Type 0 where
    pub first : Seated
    pub begun : Begun bounds old first
    pub written : Came
    pub last : Seated
    pub writes : SeedWrites key value first written last
    pub ends : EndsBy bounds last (finish_of last.state) new
    pub is : came ≡ seeded_by written (is_committed (finish_of last.state))

  -- this, or none begins, since ticks are spent
  abbrev pub SeedEnds : Key → Value → Known → Came → Known → Type 0
  SeedEnds key value old came new = SeedRuns key value old came new
      ⊎ ((came ≡ Err fault.OracleSpent) × (old.ticks < 1) × (new ≡ old))

  -- A seed of these texts is played: they are refused, and nothing is done; or its transaction is
  -- run, and its seat then knows what it knew.
  abbrev pub SeedPlays : List ℕ → List ℕ → Known → Came → Known → Type 0
  SeedPlays key value old came new = ((e : Fault) × (came ≡ Err e) × IsTextFault key value e × (new ≡ old))
      ⊎ ((ended : Known) × SeedEnds key value old came ended × HasHeard bounds ended old.events new)
