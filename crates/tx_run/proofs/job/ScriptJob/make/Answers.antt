use Rattle.std.proofs.Common.{rules, ◌≡◌, false, Some, Err, inl, inr, refl, ap, sym, subst, ◌∙◌}
use Rattle.tx_types.specs.declared.fault.Cause.TheVariants.{Name}
use Rattle.tx_workload.specs.declared.reply.LineAnswer.TheVariants.{Plain}
use Rattle.tx_run.specs.Played.{begins, free}
use Rattle.tx_transfer.specs.Sources.{HasTransfer, transfer_of}
use Rattle.tx_run.proofs.Leads.{has_transfer, leads_taken}
use Rattle.tx_run.proofs.Played.{kept_told, played_from, same_standing, turns_free}
use Rattle.tx_run.proofs.job.ScriptJob.make.Goals.{in_default-via-in-Begin+else-is_name, in_default-via-in-Transfer-step+else-is_name-2, in_default-via-in_default}
use Rattle.std.specs.Borrow.{Bor}
use Rattle.tx_steps.specs.declared.step.Step.{Step}
use Rattle.tx_steps.specs.declared.step.Step.TheVariants as step
use Rattle.tx_steps.specs.declared.op.Op.{Op}
use Rattle.tx_steps.specs.Steps.{Text, acted, asked, bytes_of}
use Rattle.tx_workload.specs.Steps.{Says}
use Rattle.tx_workload.specs.Logs.{Logged}
use Rattle.tx_run.specs.Played.{Where, buffer_at}
use Rattle.tx_evidence.specs.Buffers.{AllBy}
use Rattle.tx_run.specs.Jobs.{Working}
use Rattle.tx_workload.specs.Tells.{EnteredBy}
use Rattle.tx_workload.proofs.Evidence.{begin_says, act_says}
use Rattle.tx_run.proofs.job.ScriptJob.make.Goals as goal

pub begin-requires-clause-says : goal.begin-requires-clause-says
begin-requires-clause-says g c =
    begin_says g.L.Source.text c.args.number c.args.step c.requires.says _ c.in-Begin.is

pub leave-requires-clause-says : goal.leave-requires-clause-says
leave-requires-clause-says g c =
    act_says g.L.Source.text c.args.number c.args.step c.requires.says _ _ c.in-Act-default-Stop.is

pub operate-requires-clause-own : goal.operate-requires-clause-own
operate-requires-clause-own g c =
    let source = g.L.Source.text in
    let number = c.args.number in
    let es = c.in-Live.session.value.state.buffer in
    let same = rw c.in-Live.is at c.take_state.ensures.entered in
    subst (λ (w : Working). AllBy (EnteredBy source w.number number) es) (sym c.take_state.ensures.taken)
    (subst (λ (w : Where). AllBy (EnteredBy source c.args.self.now.number number) (buffer_at w)) (sym same)
    c.requires.entered)

pub leave-requires-clause-stops : goal.leave-requires-clause-stops
leave-requires-clause-stops g c =
    let source = g.L.Source.text in
    let name = bytes_of c.in-Act-default-Stop.field-0 in
    let first = subst (λ (s : Step (Bor Text)). Says source c.args.number (Some (asked s))) c.in-Act-default-Stop.is
    c.requires.says in
    let stop = rw c.in-Act-default-Stop.is at c.in-Act-default-Stop.field-1-is in (
      name,
      subst (λ (o : Op (Bor Text)). Says source c.args.number (Some (step.Act name (acted o))))
          stop first,
    )

pub begin-requires-clause-begins : goal.begin-requires-clause-begins
begin-requires-clause-begins g c =
    let source = g.L.Source.text in (
      bytes_of c.in-Begin.name,
      search rules,
      subst (λ (s : Step (Bor Text)). Says source c.args.number (Some (asked s))) c.in-Begin.is c.requires.says,
    )

pub finish-requires-clause-finishes : goal.finish-requires-clause-finishes
finish-requires-clause-finishes g c =
    let source = g.L.Source.text in
    let name = bytes_of c.in-Act-default-Finish.field-0 in
    let first = subst (λ (s : Step (Bor Text)). Says source c.args.number (Some (asked s))) c.in-Act-default-Finish.is
    c.requires.says in
    let finish = rw c.in-Act-default-Finish.is at c.in-Act-default-Finish.field-1-is in (
      name,
      subst (λ (o : Op (Bor Text)). Says source c.args.number (Some (step.Act name (acted o))))
          finish first,
    )

pub returns-in-Free-clause-plays : goal.returns-in-Free-clause-plays
returns-in-Free-clause-plays g c known from is =
    let bounds = g.J.JournalId.bounds in
    let source = g.L.Source.text in
    let what = asked c.args.step in
    let seat = c.in-Free.seat in
    let none : begins what ≡ false = elim c.in_default.branch [
      | in_default-via-in-Begin+else-is_name w ↦
          subst (λ (s : Step (Bor Text)). begins (asked s) ≡ false) (sym w.in-Begin.is) (search rules)
      | in_default-via-in-Transfer-step+else-is_name-2 w ↦
          subst (λ (s : Step (Bor Text)). begins (asked s) ≡ false) (sym w.in-Transfer-step.is) (search rules)
      | in_default-via-in_default w ↦ search rules
    ] in
    let here : free seat ≡ from = same_standing _ (free seat) from (rw c.in-Free.is at
    c.take_state.ensures.entered) is in
    let same = ap (λ (w : Working). w.log) c.take_state.ensures.taken in
    let set = ap (λ (w : Working). w.log) c.set_state.ensures in
    inl (played_from bounds source (free seat) from c.args.number c.args.self.now.log c.take_state.new.self.log
    c.fail.new.self.log c.fail.new.self.stands here same
    (record {
      answer = Plain (Err Name);
      to = free seat;
      there = c.fail.ensures.stands ∙ ap (λ (w : Working). w.stands) c.set_state.ensures;
      kept = kept_told c.take_state.new.self.log c.set_state.new.self.log c.fail.new.self.log c.args.number
          (Plain (Err Name)) (ap (λ (l : Logged). l.lost) set) (ap (λ (l : Logged). l.replies) set) c.fail.ensures.kept;
      plays = record {
        what = what;
        says = c.requires.says;
        here = free seat;
        hears = inl refl;
        there = free seat;
        turns = inl (turns_free bounds what seat none);
        heard = inl refl;
      };
    }))

pub returns-in-Transfer-step-clause-plays : goal.returns-in-Transfer-step-clause-plays
returns-in-Transfer-step-clause-plays g c known from is =
    let seat = c.in-Free.seat in
    let new = c.order_transfer.new.self in
    let here = same_standing _ (free seat) from (rw c.in-Free.is at c.take_state.ensures.entered) is in
    inr (leads_taken g.J.JournalId.bounds g.L.Source.text (free seat) from c.args.self.now.log
    c.take_state.new.self.log new.log new.stands here (ap (λ (w : Working). w.log) c.take_state.ensures.taken)
    (c.order_transfer.ensures.plays known))

pub order_transfer-requires-clause-said : goal.order_transfer-requires-clause-said
order_transfer-requires-clause-said g c =
    let source = g.L.Source.text in
    subst (λ (s : Step (Bor Text)). HasTransfer source c.args.number (transfer_of (asked s))) c.in-Transfer-step.is
    (has_transfer source c.args.number (asked c.args.step) c.requires.says)
