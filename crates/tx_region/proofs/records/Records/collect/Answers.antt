use Rattle.std.proofs.Common.{rules, ◌≡◌, ◌≢◌, inl, inr, length, refl, sym, ap, ◌∙◌, arith}
use Rattle.tx_plan.specs.declared.answer.Answer.TheVariants.{Collected}
use Rattle.tx_plan.specs.cases.Collect.{SomeLockBelow, long_values}
use Rattle.tx_plan.specs.Plans.{read_upto}
use Rattle.tx_region.specs.Regions.{region_of}
use Rattle.tx_region.proofs.records.Records.collect.Goals as goal
use Rattle.tx_plan.specs.Answers.{leaves}
use Rattle.tx_plan.specs.declared.body.Body.TheVariants as asked

pub drop_below-requires : goal.drop_below-requires
drop_below-requires g c = (let counts = c.in_ok-records.ensures.counts in (counts.0, counts.1, counts.2))

pub returns-clause-ok : goal.returns-clause-ok
returns-clause-ok g c =
    let content = g.F.Holds.content in
    let s = c.args.self.now in
    let b = c.args.body.now in
    let before = region_of content s in
    let dropped = c.drop_below.new.self in
    let after = region_of content
    record {
      alloc = s.alloc;
      families = dropped.families;
      safe = s.safe;
      collected = b.safe;
      taken = dropped.taken;
    } in
    let counts = c.in_ok-records.ensures.counts in
    let a_is : c.unread-2.result.answer ≡ Collected (length counts.0) (long_values (before 0).cells counts.0) =
    c.unread-2.ensures.0 ∙ (λ i. Collected (counts.2 i) (counts.3 i)) in
    let at_safe : b.safe ≢ s.safe → ⊥ = search rules in
    let unlocked : SomeLockBelow (before 0).cells b.safe → ⊥ = search rules in
    λ mark loaded. record {
      answers = λ n. inr (at_safe, inr (unlocked, (counts.0, counts.1, a_is)));
      leaves = λ n.
          ap (λ r. region_of content record {
            alloc = dropped.alloc;
            families = dropped.families;
            safe = dropped.safe;
            collected = b.safe;
            taken = dropped.taken;
          }
          (read_upto r n)) c.unread-2.ensures.1
          ∙ ((λ i. record {
            cells = λ k. c.drop_below.ensures.cells k i;
            max_read = n;
            safe = c.drop_below.ensures.same.1 i;
            collected = b.safe;
          })
          ∙ ap (λ a. leaves (before n) (asked.Collect b) a) (sym a_is));
    }

pub returns-clause-counts : goal.returns-clause-counts
returns-clause-counts g c =
    let content = g.F.Holds.content in
    let s = c.args.self.now in
    let dropped = c.drop_below.new.self in
    let same = c.drop_below.ensures.same.3 in
    record {
      turn = omega (arith, same);
      notes = elim c.drop_below.ensures.notes [
        | inl still ↦ inl (λ k. inl (still k))
        | inr drops ↦ inr ((c.args.body.now, refl), drops)
      ];
    }
