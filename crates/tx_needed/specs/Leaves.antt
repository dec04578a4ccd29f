-- What answers leave by a rule that lacks a row: the mark that a commit record takes or is given,
-- the newest put that a collection keeps, the read of an insert's check. Locks are left as ever,
-- and so what events do (`effect`) is the same.
use Rattle.std.specs.Prelude.{ℕ, ◌==◌, cond, nat_lt, None}
use Rattle.tx_types.specs.declared.key.Key.{Key}
use Rattle.tx_plan.specs.declared.body.Body.{Body}
use Rattle.tx_plan.specs.declared.body.Body.TheVariants as body
use Rattle.tx_plan.specs.declared.answer.Answer.{Answer}
use Rattle.tx_plan.specs.declared.answer.Answer.TheVariants.{Collected}
use Rattle.tx_plan.specs.Cells.{Cells, Region, with_cells}
use Rattle.tx_plan.specs.Answers.{leaves}
use Rattle.tx_needed.specs.Forgets.{no_mark}

-- a region with no mark on what stands at c on k
abbrev pub unmarked_at : Key → ℕ → Region → Region
unmarked_at k c r = with_cells r k record (r.cells k) {
  write = λ q. cond (c == q) (no_mark ((r.cells k).write q)) ((r.cells k).write q);
}

-- a commit record does not take the mark of the rollback that stood in its place
abbrev pub takes_no_mark : Region → Body → Answer → Region
takes_no_mark r (body.Commit b) a = unmarked_at b.key b.commit (leaves r (body.Commit b) a)
takes_no_mark r b a = leaves r b a

-- a rollback that a check of a secondary lock leaves does not mark the commit record in its place
abbrev pub gives_no_mark : Region → Body → Answer → Region
gives_no_mark r (body.CheckSecondaryLocks b) a = unmarked_at b.key b.start (leaves r (body.CheckSecondaryLocks b) a)
gives_no_mark r b a = leaves r b a

-- a collection drops every record below its safe point, the newest put too
abbrev pub dropped : Cells → ℕ → Cells
dropped cells safe = record cells { write = λ q. cond (nat_lt q safe) None (cells.write q) }

abbrev pub keeps_no_put : Region → Body → Answer → Region
keeps_no_put r (body.Collect b) (Collected records values) = record r {
  cells = λ k. dropped (r.cells k) b.safe;
  collected = b.safe;
}
keeps_no_put r b a = leaves r b a

-- the check of an insert does not count as a read
abbrev pub checks_unread : Region → Body → Answer → Region
checks_unread r (body.Prewrite b) a = record (leaves r (body.Prewrite b) a) { max_read = r.max_read }
checks_unread r b a = leaves r b a

-- nor does a get
abbrev pub gets_unread : Region → Body → Answer → Region
gets_unread r (body.Get b) a = r
gets_unread r b a = leaves r b a
