-- The seeds of a run, played one after another by one seat.
use Rattle.std.specs.Prelude.{◌≡◌, ◌⊎◌, ◌++◌, ℕ, [], ◌∷◌, List, Option, Some, Ok}
use Rattle.tx_types.specs.declared.key.Key.{Key}
use Rattle.tx_journal.specs.Known.{Known}
use Rattle.tx_steps.specs.declared.step.Step.TheVariants as step
use Rattle.tx_reply.specs.declared.reply.ScriptReply.TheVariants as reply
use Rattle.tx_transfer.specs.declared.plain_reply.PlainReply.{PlainReply}
use Rattle.tx_transfer.specs.Replies.{reply_by}
use Rattle.tx_transfer.specs.SeedLines.{SeedPlays}
use Rattle.tx_transfer.specs.Steps.{Came}
use Rattle.tx_workload.specs.declared.reply.LineAnswer.TheVariants.{Plain}
use Rattle.tx_workload.specs.declared.reply.LineReply.{LineReply}
use Rattle.tx_workload.specs.Steps.{Says}

module _ (bounds : List Key) (source : Option (List ℕ)) where
  -- a line that says a seed is played: by a transaction of its own its value is put on its key, and
  -- the line is told what that came to
  pub record IsSeeded (old : Known) (s : LineReply) (new : Known) : Type 0 where
    pub key : List ℕ
    pub value : List ℕ
    pub says : Says source s.number (Some (step.Seed key value))
    pub came : Came
    pub plays : SeedPlays bounds key value old came new
    pub plain : PlainReply
    pub told : s.answer ≡ Plain (Ok plain)
    pub is : plain.reply ≡ reply_by came

  -- this, or memory was refused as the line was read again, and nothing is done
  abbrev pub PlaysSeed : Known → LineReply → Known → Type 0
  PlaysSeed old s new = IsSeeded old s new
      ⊎ ((plain : PlainReply) × (s.answer ≡ Plain (Ok plain)) × (plain.reply ≡ reply.OutOfMemory) × (new ≡ old))

  -- the lines of seeds are played one after another, each by what the seat then knows
  abbrev pub PlaysSeeds : Known → List LineReply → Known → Type 0
  PlaysSeeds old [] new = new ≡ old
  PlaysSeeds old (s ∷ more) new = (mid : Known) × PlaysSeed old s mid × PlaysSeeds mid more new

  -- more answers are those of seeds that were played
  pub record AddsSeeds (old : Known) (before : List LineReply) (new : Known) (after : List LineReply) : Type 0 where
    pub seeds : List LineReply
    pub plays : PlaysSeeds old seeds new
    pub all : after ≡ before ++ seeds
