use Rattle.std.proofs.Common.{◌==◌, ◌&&◌, ◌∷◌, bytes_eq, inl, inr, cond, true, None, refl, sym, ap, ◌∙◌}
use Rattle.std.specs.BTreeMap as tree
use Rattle.std.specs.List.{list_any}
use Rattle.tx_types.specs.declared.key.Key.{Key}
use Rattle.tx_machine.specs.declared.step.Step.TheVariants as step
use Rattle.tx_trace.specs.declared.log.TraceLog.{TraceLog}
use Rattle.tx_trace.specs.Logs.{steps_of, checked_in, by_start, Stays}
use Rattle.tx_trace.proofs.Steps.{one_more}
use Rattle.tx_trace.proofs.CheckedKeys.{at_pair, was_there, was_new, false_of, on_err_is, stays_same}
use Rattle.tx_trace.proofs.log.TraceLog.read_first.Goals as goal

pub returns-in_err-first-clause-same : goal.returns-in_err-first-clause-same
returns-in_err-first-clause-same c =
    let old = c.args.self.now in
    let new : TraceLog = record {
      alloc = old.alloc;
      steps = old.steps;
      pending = old.pending;
      checked =
          c.insert.new.self;
    } in
    on_err_is c.from_residual-in_err-first.result (Stays old new)
    (stays_same old new refl (λ t. refl)
    (λ t k. ap (λ ks. list_any (tree.is_at (by_start (t, k))) ks) c.in_err-first.ensures.err))

pub returns-then-not-first-clause-ok : goal.returns-then-not-first-clause-ok
returns-then-not-first-clause-ok c =
    let key = c.in_ok-clone-2.ensures.ok in
    inr (inl (
      ap (λ k. checked_in c.args.self.now c.args.body.now.start k) (sym key)
          ∙ was_there _ c.in_ok-first.first c.in_ok-first.ensures.added c.if-not-first.true,
      record {
        steps = refl;
        same = λ t. refl;
        still =
            λ t k. ap (λ ks. list_any (tree.is_at (by_start (t, k))) ks)
            (false_of c.in_ok-first.first _ c.if-not-first.true c.in_ok-first.ensures.unchanged);
      },
    ))

pub returns-clause-ok : goal.returns-clause-ok
returns-clause-ok c =
    let key = c.in_ok-clone-2.ensures.ok in
    let start = c.args.body.now.start in
    inr (inr (record {
      inserts = c.requires.inserts;
      first = ap (λ k. checked_in c.args.self.now start k) (sym key)
          ∙ was_new _ c.in_ok-first.first c.in_ok-first.ensures.added c.if-not-first.false;
      steps = one_more c.args.self.now.steps.items c.args.self.now.steps.items c.push_reserved.new.self.items
          (step.Read c.in_ok-clone.field-0 start None) refl c.push_reserved.ensures.items
          ∙ ap (λ (k : Key). step.Read k start None ∷ steps_of c.args.self.now) c.in_ok-clone.ensures.ok;
      same = λ t. refl;
      keys = λ t k. c.in_ok-first.ensures.updates.0 (t, k)
          ∙ (ap (λ b. cond b true (checked_in c.args.self.now t k)) (at_pair start c.in_ok-clone-2.field-0 (t, k))
          ∙ ap (λ (q : Key). cond ((start == t) && bytes_eq q k) true (checked_in c.args.self.now t k)) key);
    }))
