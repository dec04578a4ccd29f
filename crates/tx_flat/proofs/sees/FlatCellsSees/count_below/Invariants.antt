use Rattle.std.proofs.Common.{ℕ, List, length}
use Rattle.std.specs.BTreeMap as tree
use Rattle.std.specs.Prelude.{option_map}
use Rattle.std.specs.Ordering.{nat_cmp}
use Rattle.std.specs.Cmp.Lexicographic.{slice_cmp}
use Rattle.tx_cells.specs.Contents.{lock_of}
use Rattle.tx_spelling.specs.Spelt.{version_cmp}
use Rattle.tx_flat.proofs.Sieves.{Place, AreLeft, Knows}
use Rattle.tx_flat.proofs.SieveCounts.{Counted}
use Rattle.tx_flat.proofs.sees.FlatCellsSees.count_below.Given as goal

abbrev pub invariant-records : goal.invariant-records
invariant-records l =
    let W = tree.get version_cmp l.fn.self.writes in
    let V = λ (k : List ℕ) (t : ℕ). tree.get version_cmp l.fn.self.values (k, t) in
    let L = λ (k : List ℕ). option_map (lock_of (V k)) (tree.get (slice_cmp nat_cmp) l.fn.self.locks k) in
    record {
      pass : (slot : Place) × Knows W V l.fn.safe l.sieve slot × AreLeft W slot l.writes;
      counted : Counted L W V l.fn.safe l.writes l.records l.values;
    }

abbrev pub decreases-records : goal.decreases-records
decreases-records l = length l.writes
