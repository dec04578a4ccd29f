-- The region of the case tables that records stand for.
use Rattle.std.specs.Prelude.{◌≡◌, ℕ}
use Rattle.tx_types.specs.declared.key.Key.{Key}
use Rattle.tx_plan.specs.Cells.{Region}
use Rattle.tx_cells.specs.Contents.{Content, cells_in}
use Rattle.tx_region.specs.declared.records.Records.{Records}

-- the region of records whose families hold what `content` says, in which nothing above `max_read`
-- was read
abbrev pub region_of : {F : Type 0} → (F → Content) → Records F → ℕ → Region
region_of content records max_read = record {
  cells = cells_in (content records.families);
  max_read = max_read;
  safe = records.safe;
  collected = records.collected;
}

-- records that counted the same, and whose keys have the same numbers
abbrev pub HasSameNumbers : {F : Type 0} → (F → Key → ℕ) → Records F → Records F → Type 0
HasSameNumbers numbers before after = (after.taken ≡ before.taken)
    × ((k : Key) → numbers after.families k ≡ numbers before.families k)
