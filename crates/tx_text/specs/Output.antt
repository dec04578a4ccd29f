-- What a write that fails leaves.
use Rattle.std.specs.Prelude.{◌≡◌, ◌⊎◌, ℕ, List, take, Option}
use Rattle.std.specs.Io.KnownBytes.{Appends, Keeps}
use Rattle.tx_text.specs.declared.end.Broken.{Broken}
use Rattle.tx_text.specs.declared.end.Broken.TheVariants.{Output}

-- known bytes grew by the first few of bs
abbrev pub AppendsPart : Option (List ℕ) → Option (List ℕ) → List ℕ → Type 0
AppendsPart old new bs = (n : ℕ) × Appends old new (take n bs)

-- writing bs was broken off: by a write, after the first few of them, or before the first
abbrev pub BreaksText : Broken → Option (List ℕ) → Option (List ℕ) → List ℕ → Type 0
BreaksText why old new bs = ((why ≡ Output) × AppendsPart old new bs) ⊎ Keeps old new
