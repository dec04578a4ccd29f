use Rattle.std.proofs.Common.{◌-◌, ◌<◌, ◌^◌, ℕ, List, refl, ap, sym, subst, ◌∙◌, arith}
use Rattle.std.specs.Prelude.{IsSome}
use Rattle.std.specs.BTreeMap as tree
use Rattle.tx_spelling.specs.Spelt.{version_cmp}
use Rattle.tx_cells.proofs.NewestFirst.{Down, HasStart, some_none, starts_end, starts_fall, starts_last, starts_on, down_starts}
use Rattle.tx_flat.proofs.cells.starts_down.Goals as goal

pub values-init : goal.values-init
values-init c =
    let has = HasStart (tree.get version_cmp c.args.values.now) c.args.version.0 in
    record {
      same_key = refl;
      down = subst (λ (it : List ℕ). Down (λ (t : ℕ). t) has (2 ^ 64 - 1) it it) (sym c.new-starts.ensures)
          (down_starts (λ (t : ℕ). t) has (2 ^ 64 - 1) (λ q h. (let lt = h.0 in omega (arith, lt))));
    }

pub returns-in_default-clause-all : goal.returns-in_default-clause-all
returns-in_default-clause-all c =
    let values = tree.get version_cmp c.args.values.now in
    let key = ap (λ (v : List ℕ × ℕ). v.0) c.set_at.ensures ∙ c.values.invariant.same_key in
    starts_end (HasStart values c.args.version.0) c.values.bound c.set_at.new.self.1
    (ap (λ (v : List ℕ × ℕ). v.1) c.set_at.ensures ∙ c.new.ensures) c.values.starts c.values.invariant.down
    (λ q has le. some_none (values (c.args.version.0, q)) has.1 (ap (λ (k : List ℕ). values (k, q)) (sym key)
    ∙ c.in_default.ensures.none q le))

pub returns-then-get-eq0-clause-fall : goal.returns-then-get-eq0-clause-fall
returns-then-get-eq0-clause-fall c =
    let values = tree.get version_cmp c.args.values.now in
    let start = c.in-Some.start in
    let key = ap (λ (v : List ℕ × ℕ). v.0) c.set_at.ensures ∙ c.values.invariant.same_key in
    let lt : start < 2 ^ 64 = omega (arith, c.get.ensures, c.get.type_inv) in
    starts_fall (HasStart values c.args.version.0) c.values.bound c.set_at.new.self.1
    (ap (λ (v : List ℕ × ℕ). v.1) c.set_at.ensures ∙ c.new.ensures) c.values.starts c.values.invariant.down
    start (
      c.in-Some.ensures.found.0,
      (lt, subst (λ (k : List ℕ). IsSome (values (k, start))) key c.in-Some.ensures.found.1),
    )
    (λ q has le. c.in-Some.ensures.nearest q le (subst (λ (k : List ℕ). IsSome (values (k, q))) (sym key) has.1))
    c.push.new.self c.in_ok-push.ensures.ok

pub returns-then-get-eq0-clause-all : goal.returns-then-get-eq0-clause-all
returns-then-get-eq0-clause-all c =
    let values = tree.get version_cmp c.args.values.now in
    let start = c.in-Some.start in
    let key = ap (λ (v : List ℕ × ℕ). v.0) c.set_at.ensures ∙ c.values.invariant.same_key in
    let lt : start < 2 ^ 64 = omega (arith, c.get.ensures, c.get.type_inv) in
    starts_last (HasStart values c.args.version.0) c.values.bound c.set_at.new.self.1
    (ap (λ (v : List ℕ × ℕ). v.1) c.set_at.ensures ∙ c.new.ensures) c.values.starts c.values.invariant.down
    start (
      c.in-Some.ensures.found.0,
      (lt, subst (λ (k : List ℕ). IsSome (values (k, start))) key c.in-Some.ensures.found.1),
    )
    (λ q has le. c.in-Some.ensures.nearest q le (subst (λ (k : List ℕ). IsSome (values (k, q))) (sym key) has.1))
    c.push.new.self c.in_ok-push.ensures.ok (omega (arith, c.if-get-eq0.true, c.get.ensures))

pub values-preserved : goal.values-preserved
values-preserved c =
    let values = tree.get version_cmp c.args.values.now in
    let start = c.in-Some.start in
    let key = ap (λ (v : List ℕ × ℕ). v.0) c.set_at.ensures ∙ c.values.invariant.same_key in
    let lt : start < 2 ^ 64 = omega (arith, c.get.ensures, c.get.type_inv) in
    let on = starts_on (HasStart values c.args.version.0) c.values.bound c.set_at.new.self.1
    (ap (λ (v : List ℕ × ℕ). v.1) c.set_at.ensures ∙ c.new.ensures) c.values.starts c.values.invariant.down
    start (
      c.in-Some.ensures.found.0,
      (lt, subst (λ (k : List ℕ). IsSome (values (k, start))) key c.in-Some.ensures.found.1),
    )
    (λ q has le. c.in-Some.ensures.nearest q le (subst (λ (k : List ℕ). IsSome (values (k, q))) (sym key) has.1))
    c.push.new.self c.in_ok-push.ensures.ok
    (c.get-bound.result - 1) (omega (arith, c.get-bound.ensures)) (omega (arith, c.if-get-eq0.false, c.get.ensures)) in
    record { same_key = key; down = on }
