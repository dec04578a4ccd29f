use Rattle.std.proofs.Common.{sym, rules}
use Rattle.std.proofs.lemmas.List.Sorted.{IsPartitionPoint-from_clause}
use Rattle.tx_types.specs.Keys.{key_le}
use Rattle.tx_region.proofs.BoundsBelow.{parted, count_at}
use Rattle.tx_region.proofs.routes.route.Goals as goal

pub returns : goal.returns
returns c =
    let bounds = c.args.bounds.now in
    let key = c.args.key.now in
    sym (count_at (λ b. key_le b key) bounds c.partition_point.result c.partition_point.ensures.bound
    (IsPartitionPoint-from_clause (λ b. key_le b key) bounds
    c.partition_point.result c.partition_point.ensures.partitioned (parted bounds c.requires key)
    (λ a r f call. search rules)))
