use Rattle.std.proofs.Common.{rules, append-nil}
use Rattle.tx_types.specs.declared.write.WriteRec.TheVariants as stored
use Rattle.tx_cells.specs.Afterwards.{commit_of}
use Rattle.tx_records.proofs.LockEnds.{commit_spelt}
use Rattle.tx_records.proofs.records.LockBytes.commit_record.Goals as goal

pub invariant_of-result : goal.invariant_of-result
invariant_of-result c =
    let lock = c.self.inside.rec in (
      (
        stored.Commit (commit_of lock.0 c.args.overlapped_rollback),
        (
          record { start = lock.1.0.start; mutation = lock.1.0.mutation },
          rw (
            c.in_ok-bytes.ensures.ok,
            append-nil c.copy_from_slice.new.self,
            c.copy_from_slice.ensures.after,
            c.as_slice-lock.ensures.value,
          ) (commit_spelt c.self.inside.bytes.items lock.0
              c.self.inside.value c.args.overlapped_rollback c.from.result lock.1 (c.self.inside.position lock.0 lock.1)
              (search rules)),
        ),
      ),
      tt,
    )
