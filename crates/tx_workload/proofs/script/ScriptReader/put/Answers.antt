use Rattle.std.proofs.Common.{map, sym, ◌∙◌}
use Rattle.std.specs.BTreeMap.{get_by_text}
use Rattle.tx_steps.specs.Steps.{asked}
use Rattle.tx_workload.specs.LineNumbers.{numbers_in}
use Rattle.tx_workload.specs.ScriptLines.{is_seed}
use Rattle.tx_workload.proofs.ReaderStates.{before_none, bounds_step, seed_added, seed_by}
use Rattle.tx_workload.proofs.script.ScriptReader.put.Goals as goal

pub returns-in_ok-push-in-None-clause-sorted : goal.returns-in_ok-push-in-None-clause-sorted
returns-in_ok-push-in-None-clause-sorted g c =
    let r = c.args.self.now in
    let seed = seed_by c.args.number c.args.text.now (asked c.args.step) c.requires.said (sym c.in-None.ensures) in
    before_none g.L.Source.text c.args.number c.requires.some (get_by_text r.indexes)
    (numbers_in r.script.sessions.items) (map (λ s. s.number) r.script.seeds.items) r.script.bounds.items
    c.args.text.now (map (λ s. s.number) c.push.new.self.items) r.script.bounds.items c.requires.line seed.0
    (seed_added (λ s. s.number) r.script.seeds.items c.push.new.self.items c.in_ok-line-in-None.line c.args.number
    (is_seed c.args.number c.args.text.now) c.in_ok-push-in-None.ensures.items c.in_ok-line-in-None.ensures seed.1)
    (λ lines at was. was ∙ sym (bounds_step lines c.args.text.now c.args.number (asked c.args.step) at c.requires.said))
    c.requires.sorted
