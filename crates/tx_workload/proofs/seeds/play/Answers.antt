use Rattle.std.proofs.Common.{inl, inr, List, ℕ, Some, refl, sym, ap, subst}
use Rattle.std.specs.Borrow.{Bor}
use Rattle.tx_core.proofs.seats.Beginnings.{begins_all}
use Rattle.tx_steps.specs.declared.step.Step.{Step}
use Rattle.tx_steps.specs.Steps.{Text, asked}
use Rattle.tx_steps.specs.Lines.{data_of}
use Rattle.tx_transfer.specs.Sources.{HasLine}
use Rattle.tx_workload.specs.Steps.{Says}
use Rattle.tx_workload.specs.Tells.{is_refusal}
use Rattle.tx_workload.proofs.Evidence.{refusal_tells, seed_tells, step_made}
use Rattle.tx_workload.proofs.seeds.play.Goals as goal

pub returns-in-Some-Seed-clause-tells : goal.returns-in-Some-Seed-clause-tells
returns-in-Some-Seed-clause-tells g c =
    let source = g.L.Source.text in
    let number = c.args.script_line.now.number in
    let line = subst (λ (l : List ℕ). HasLine source number l) (sym c.as_slice.ensures.value)
    c.args.script_line.now.line in
    let is = rw c.in-Ok-Ok.field-0-is at c.in-Ok-Ok.ensures.ok in
    let said = rw c.in-Some-Seed.is at c.step.ensures.said in
    let says = step_made source number c.as_slice.result.now (data_of c.in-Ok-Ok.line) c.in-Some-Seed.field-0 line is
    said in
    seed_tells source g.J.JournalId.bounds c.seed-seat.result.0.events number c.in-Some-Seed.key.now
    c.in-Some-Seed.value.now c.reply_to.result c.seed-seat.result.1 c.reply_to.ensures
    (subst (λ (s : Step (Bor Text)). Says source number (Some (asked s))) c.in-Some-Seed.field-0-is says)
    c.seed-seat.ensures.wrote

pub returns-clause-tells : goal.returns-clause-tells
returns-clause-tells g c =
    refusal_tells g.L.Source.text g.J.JournalId.bounds c.args.seat.events c.args.script_line.now.number c.new.result
    c.args.script_line.now.says (ap is_refusal c.new.ensures)

pub returns-clause-knows : goal.returns-clause-knows
returns-clause-knows g c = begins_all c.args.seat.events

pub returns-in-Some-Seed-clause-plays : goal.returns-in-Some-Seed-clause-plays
returns-in-Some-Seed-clause-plays g c =
    let source = g.L.Source.text in
    let number = c.args.script_line.now.number in
    let line = subst (λ (l : List ℕ). HasLine source number l) (sym c.as_slice.ensures.value)
    c.args.script_line.now.line in
    let is = rw c.in-Ok-Ok.field-0-is at c.in-Ok-Ok.ensures.ok in
    let said = rw c.in-Some-Seed.is at c.step.ensures.said in
    let says = step_made source number c.as_slice.result.now (data_of c.in-Ok-Ok.line) c.in-Some-Seed.field-0 line is
    said in
    inl (record {
      key = c.in-Some-Seed.key.now;
      value = c.in-Some-Seed.value.now;
      says = subst (λ (s : Step (Bor Text)). Says source number (Some (asked s))) c.in-Some-Seed.field-0-is says;
      came = c.seed-seat.result.1;
      plays = c.seed-seat.ensures.plays;
      plain = c.reply_to.result;
      told = refl;
      is = c.reply_to.ensures;
    })

pub returns-clause-plays : goal.returns-clause-plays
returns-clause-plays g c = inr (c.new.result, refl, c.new.ensures, refl)
