use Rattle.std.proofs.Common.{arith, sym, ◌∙◌, ◌+◌, subst}
use Rattle.std.proofs.lemmas.Map.Keys.{ge_from_not_lt}
use Rattle.tx_plan.proofs.Orders.{is_below}
use Rattle.tx_plan.proofs.Collects.{CollectedTo, drops, dropped_on, step_fits, step_values, step_keeps, step_drops, step_passes, step_ends, all_ended, gone_long, gone_short, after_true, after_other}
use Rattle.tx_plan.proofs.key_records.collect_key.Goals as goal
use Rattle.tx_plan.proofs.key_records.collect_key.Goals.{then-lt+then-kind+then-not-followed, then-lt+else-kind+else-prove+then-kind-2, then-lt+else-kind+else-prove+else-kind-2, else-lt, then-followed, else-followed, in-Some+in_default-newest_upto, in_default}

pub prove-unreachable-requires : goal.prove-unreachable-requires
prove-unreachable-requires g c =
    let room = step_fits (g.R.KeyRecords.write c.args.key.now) _ c.args.safe _ _ _ c.records.below c.records.followed
    c.records.kept c.records.records c.records.values c.records.invariant.same c.in-Some.is c.records.invariant.to
    c.in-Some-newest_upto.ensures.newest (is_below _ _ c.if-lt.ensures) c.else-kind.either in
    omega (arith, room)

pub overflow_add-values : goal.overflow_add-values
overflow_add-values g c =
    let room = step_values (g.R.KeyRecords.write c.args.key.now) _ c.args.safe _ _ _ c.records.below c.records.followed
    c.records.kept c.records.records c.records.values c.records.invariant.same c.in-Some.is c.records.invariant.to
    c.in-Some-newest_upto.ensures.newest (is_below _ _ c.if-lt.ensures) c.else-kind.either c.if-kind-2.true in
    omega (arith, room)

pub records-preserved : goal.records-preserved
records-preserved g c = record {
  same = c.in-Some-newest_upto.ensures.same ∙ c.records.invariant.same;
  to = subst (λ n. CollectedTo (g.R.KeyRecords.write c.args.key.now) c.args.safe n c.if-followed.followed c.if-lt.kept
      c.if-lt.records c.if-lt.values) (sym c.before-below.ensures) (elim c.if-lt.branch [
        | then-lt+then-kind+then-not-followed w ↦
            rw (
              w.kept-is,
              w.records-is,
              w.values-is,
            ) (step_keeps (g.R.KeyRecords.write c.args.key.now) _ c.args.safe _ _ _ c.records.below
            c.records.followed c.records.kept c.records.records c.records.values c.records.invariant.same c.in-Some.is
            c.records.invariant.to c.in-Some-newest_upto.ensures.newest c.if-followed.followed
            (elim c.if-followed.branch [
              | then-followed v ↦ after_true _ _ _ v.if-followed.true v.followed-is
              | else-followed v ↦ after_other _ _ _ v.if-followed.false v.followed-is
            ]) (is_below _ _ w.if-lt.ensures)
            w.if-kind.true w.if-not-followed.true)
        | then-lt+else-kind+else-prove+then-kind-2 w ↦
            rw (
              w.kept-is,
              w.records-is,
              w.values-is,
            ) (step_drops (g.R.KeyRecords.write c.args.key.now) _ c.args.safe _ _ _ c.records.below
            c.records.followed c.records.kept c.records.records c.records.values c.records.invariant.same c.in-Some.is
            c.records.invariant.to c.in-Some-newest_upto.ensures.newest c.if-followed.followed (c.records.values + 1)
            (elim c.if-followed.branch [
              | then-followed v ↦ after_true _ _ _ v.if-followed.true v.followed-is
              | else-followed v ↦ after_other _ _ _ v.if-followed.false v.followed-is
            ]) (is_below _ _ w.if-lt.ensures)
            w.else-kind.either (gone_long _ c.records.values w.if-kind-2.true))
        | then-lt+else-kind+else-prove+else-kind-2 w ↦
            rw (
              w.kept-is,
              w.records-is,
              w.values-is,
            ) (step_drops (g.R.KeyRecords.write c.args.key.now) _ c.args.safe _ _ _ c.records.below
            c.records.followed c.records.kept c.records.records c.records.values c.records.invariant.same c.in-Some.is
            c.records.invariant.to c.in-Some-newest_upto.ensures.newest c.if-followed.followed c.records.values
            (elim c.if-followed.branch [
              | then-followed v ↦ after_true _ _ _ v.if-followed.true v.followed-is
              | else-followed v ↦ after_other _ _ _ v.if-followed.false v.followed-is
            ]) (is_below _ _ w.if-lt.ensures)
            w.else-kind.either (gone_short _ c.records.values w.if-kind-2.false))
        | else-lt w ↦
            rw (
              w.kept-is,
              w.records-is,
              w.values-is,
            ) (step_passes (g.R.KeyRecords.write c.args.key.now) _ c.args.safe _ _ _ c.records.below
            c.records.followed c.records.kept c.records.records c.records.values c.records.invariant.same c.in-Some.is
            c.records.invariant.to c.in-Some-newest_upto.ensures.newest c.if-followed.followed
            (elim c.if-followed.branch [
              | then-followed v ↦ after_true _ _ _ v.if-followed.true v.followed-is
              | else-followed v ↦ after_other _ _ _ v.if-followed.false v.followed-is
            ])
            (ge_from_not_lt _ _ (sym w.if-lt.ensures)))
      ]);
}

pub returns-clause-counts : goal.returns-clause-counts
returns-clause-counts g c =
    let write = g.R.KeyRecords.write c.args.key.now in
    let all = drops write c.args.safe c.args.safe in
    elim c.match-below.branch [
      | in-Some+in_default-newest_upto w ↦
          (let ends = step_ends write _ c.args.safe _ c.records.below c.records.followed c.records.kept
          c.records.records c.records.values c.records.invariant.same w.in-Some.is c.records.invariant.to
          w.in_default-newest_upto.ensures.newest in
          (all, dropped_on write c.args.safe, ends.0, ends.1))
      | in_default w ↦
          (let ends = all_ended write c.args.safe c.records.below c.records.followed c.records.kept c.records.records
          c.records.values w.in_default.is c.records.invariant.to in
          (all, dropped_on write c.args.safe, ends.0, ends.1))
    ]
