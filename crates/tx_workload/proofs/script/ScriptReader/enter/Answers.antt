use Rattle.std.proofs.Common.{◌≡◌, ℕ, ◌+◌, Some, map, if◌then◌else◌, bytes_eq, length, sym, ap, subst, ◌∙◌, arith, vec_len}
use Rattle.std.specs.BTreeMap.{get_by_text}
use Rattle.std.proofs.lemmas.List.{length-map}
use Rattle.tx_workload.specs.LineNumbers.{number_of, numbers_in}
use Rattle.tx_workload.specs.Readers.{SortsBefore}
use Rattle.tx_workload.proofs.ReaderStates.{before_known, before_new}
use Rattle.tx_workload.proofs.script.ScriptReader.enter.Goals as goal

pub returns-in-Some-clause-sorted : goal.returns-in-Some-clause-sorted
returns-in-Some-clause-sorted g c =
    let r = c.args.self.now in
    before_known g.L.Source.text (number_of c.args.line) c.requires.some (get_by_text r.indexes)
    (numbers_in r.script.sessions.items) (map (λ seed. seed.number) r.script.seeds.items) r.script.bounds.items
    c.args.name.now c.in-Some.index.now (numbers_in c.add_line.new.sessions.items) c.requires.named
    (sym c.in-Some.ensures.value)
    (λ within. c.in_ok-add_line.ensures.added
    (omega (arith, within, length-map r.script.sessions.items (λ v. map number_of v.items), r.script.sessions.ok.0)))
    c.requires.sorted

pub returns-clause-sorted : goal.returns-clause-sorted
returns-clause-sorted g c =
    let r = c.args.self.now in
    let n = c.begin.new.self in
    let count : vec_len r.script.sessions ≡ length (numbers_in r.script.sessions.items) =
    omega (arith, length-map r.script.sessions.items (λ v. map number_of v.items), r.script.sessions.ok.0) in
    subst (λ bounds. SortsBefore g.L.Source.text (number_of c.args.line + 1) (get_by_text n.indexes)
    (numbers_in n.script.sessions.items) (map (λ seed. seed.number) n.script.seeds.items) bounds.items)
    (sym c.in_ok-begin.ensures.bounds)
    (subst (λ seeds. SortsBefore g.L.Source.text (number_of c.args.line + 1) (get_by_text n.indexes)
    (numbers_in n.script.sessions.items) (map (λ seed. seed.number) seeds.items) r.script.bounds.items)
    (sym c.in_ok-begin.ensures.seeds)
    (before_new g.L.Source.text (number_of c.args.line) c.requires.some (get_by_text r.indexes)
    (numbers_in r.script.sessions.items) (map (λ seed. seed.number) r.script.seeds.items) r.script.bounds.items
    c.args.name.now (get_by_text n.indexes) (numbers_in n.script.sessions.items) c.requires.named
    (sym c.in_default.ensures.value)
    c.in_ok-begin.ensures.sessions
    (λ q. c.in_ok-begin.ensures.indexes q ∙ ap (λ (k : ℕ). if bytes_eq c.args.name.now q then Some k
    else get_by_text r.indexes q) count) c.requires.sorted))
