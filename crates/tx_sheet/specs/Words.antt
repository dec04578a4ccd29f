-- Short words, which a picture shows as they are.
use Rattle.std.specs.Prelude.{ℕ, ◌<◌, ◌≤◌, List, length, All}

-- a short word: 1 to 24 ASCII characters, printable and no spaces
abbrev pub IsWord : List ℕ → Type 0
IsWord text = (0 < length text) × (length text ≤ 24) × All (λ b. (33 ≤ b) × (b ≤ 126)) text
