-- What a reader of a script has kept of the lines that it has read. But for `HasSession`, only this
-- crate's own clauses cite it.
use Rattle.std.specs.Prelude.{◌≡◌, ℕ, ◌-◌, List, map, take, false, slice_get, bytes_eq}
use Rattle.std.specs.Prelude.{Option, Some, None, option_and_then, IfSome}
use Rattle.std.specs.List.{list_any}
use Rattle.std.specs.BTreeMap.{get_by_text}
use Rattle.tx_types.specs.declared.key.Key.{Key}
use Rattle.tx_text.specs.Lines.{lines_of}
use Rattle.tx_steps.specs.Steps.{Text}
use Rattle.tx_transfer.specs.declared.source.Source.{Ghosts}
use Rattle.tx_evidence.specs.Lines.{bounds_of}
use Rattle.tx_workload.specs.declared.script.ScriptReader.{ScriptReader}
use Rattle.tx_workload.specs.LineNumbers.{numbers_in}
use Rattle.tx_workload.specs.ScriptLines.{session_of, session_names, sessions_of, seeds_of}

-- the lines are kept, and a name has the index of its session, where it has one
pub record Sorts (lines : List (List ℕ)) (index : Text → Option ℕ)
    (kept : List (List ℕ)) (others : List ℕ) (between : List Key) : Type 0 where
  pub found : (name : Text) (i : ℕ) → index name ≡ Some i → slice_get (session_names lines) i ≡ Some name
  pub missed : (name : Text) → index name ≡ None → list_any (bytes_eq name) (session_names lines) ≡ false
  pub sessions : kept ≡ sessions_of lines
  pub seeds : others ≡ seeds_of lines
  pub bounds : between ≡ bounds_of lines

-- the same, of the lines of the text before the one of this number, where the text is known
abbrev pub SortsBefore : Option (List ℕ) → ℕ → (Text → Option ℕ) → List (List ℕ) → List ℕ → List Key → Type 0
SortsBefore source number index kept others between =
    IfSome source (λ text. Sorts (take (number - 1) (lines_of text)) index kept others between)

-- the same, of what a reader keeps
abbrev pub HasSorted : {L : Type 0} {g : Ghosts L} → Option (List ℕ) → ℕ → ScriptReader L g → Type 0
HasSorted source number r = SortsBefore source number (get_by_text r.indexes) (numbers_in r.script.sessions.items)
    (map (λ seed. seed.number) r.script.seeds.items) r.script.bounds.items

-- the line of this number is of the session of this name, where the text is known
abbrev pub HasSession : Option (List ℕ) → ℕ → Text → Type 0
HasSession source number name =
    IfSome source (λ text. option_and_then (session_of number) (slice_get (lines_of text) (number - 1)) ≡ Some name)
