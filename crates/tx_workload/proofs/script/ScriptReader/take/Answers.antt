use Rattle.std.proofs.Common.{◌+◌, Bool, map, if◌then◌else◌, sym, ap, subst, ◌∙◌}
use Rattle.std.specs.BTreeMap.{get_by_text}
use Rattle.tx_steps.specs.Lines.{bounds_in, data_of}
use Rattle.tx_evidence.specs.Lines.{bounds_by}
use Rattle.tx_workload.specs.LineNumbers.{numbers_in}
use Rattle.tx_workload.specs.Readers.{SortsBefore}
use Rattle.tx_workload.proofs.ReaderStates.{before_open}
use Rattle.tx_workload.proofs.script.ScriptReader.take.Goals as goal

pub returns-then-branch-clause-sorted : goal.returns-then-branch-clause-sorted
returns-then-branch-clause-sorted g c =
    let source = g.L.Source.text in
    let r = c.args.self.now in
    let n = c.opens.new.self in
    let number = c.args.number in
    let d = data_of c.in-Ok.line in
    let bounds = c.in_ok-opens.ensures.bounds
    ∙ ap (λ (b : Bool). if b then bounds_by (bounds_in d) else r.script.bounds.items) c.if-branch.true in
    subst (λ i. SortsBefore source (number + 1) (get_by_text i) (numbers_in n.script.sessions.items)
    (map (λ seed. seed.number) n.script.seeds.items) n.script.bounds.items) (sym c.in_ok-opens.ensures.indexes)
    (subst (λ sessions. SortsBefore source (number + 1) (get_by_text r.indexes) (numbers_in sessions.items)
    (map (λ seed. seed.number) n.script.seeds.items) n.script.bounds.items) (sym c.in_ok-opens.ensures.sessions)
    (subst (λ seeds. SortsBefore source (number + 1) (get_by_text r.indexes) (numbers_in r.script.sessions.items)
    (map (λ seed. seed.number) seeds.items) n.script.bounds.items) (sym c.in_ok-opens.ensures.seeds)
    (before_open source number c.requires.some (get_by_text r.indexes) (numbers_in r.script.sessions.items)
    (map (λ seed. seed.number) r.script.seeds.items) r.script.bounds.items n.script.bounds.items c.args.text.now d
    c.requires.line (rw c.in-Ok.is at c.in_ok-line.ensures.ok)
    (sym c.in_ok-opens.ensures.said ∙ c.if-branch.true) bounds c.requires.sorted)))
