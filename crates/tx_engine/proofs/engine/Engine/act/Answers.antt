use Rattle.std.proofs.Common.{◌≡◌, List, Result, inl, inr, sym, subst}
use Rattle.std.specs.Borrow.{Bor}
use Rattle.tx_types.specs.declared.fault.Cause.{Cause}
use Rattle.tx_types.specs.declared.key.Key.{Key}
use Rattle.tx_steps.specs.declared.op.Op.{Op}
use Rattle.tx_steps.specs.declared.step.Step.TheVariants as step
use Rattle.tx_steps.specs.Steps.{Text, acted}
use Rattle.tx_reply.specs.declared.reply.ScriptReply.{ScriptReply}
use Rattle.tx_engine.specs.Semantics.{edits, in_session, live_at}
use Rattle.tx_engine.specs.Slots.{Held, Goes, Turned, TurnedBy}
use Rattle.tx_engine.proofs.engine.Engine.act.Goals as goal

module _ (bounds : List Key) (name : Text) (r : Result ScriptReply Cause) (old new : Held) where
  abbrev Edited : Op (Bor Text) → Type 0
  Edited o = Goes bounds old new (TurnedBy bounds (λ refused engine. in_session (live_at engine name)
      (λ k s. edits refused engine k s bounds (acted o))) r old new)

  abbrev Acted : Op (Bor Text) → Type 0
  Acted o = Goes bounds old new (Turned bounds (step.Act name (acted o)) r old new)

  -- what is done in the slot is the step, by the operation that this is
  is_op : (op named : Op (Bor Text)) → op ≡ named → (Edited named → Acted named) → Edited op → Acted op
  is_op op named is on did = subst Acted (sym is) (on (subst Edited is did))

pub returns-in-Put : goal.returns-in-Put
returns-in-Put g c =
    let by = is_op g.J.JournalId.bounds c.args.name.now c.edit.result c.args.self.now c.edit.new.self c.args.op.now in
    let did = c.edit.ensures.goes in
    record {
      goes = elim c.in-Put.is [
        | inl put ↦ by _ put.2 (λ x. x) did
        | inr rest ↦ elim rest [
          | inl insert ↦ by _ insert.2 (λ x. x) did
          | inr rest ↦ elim rest [
            | inl delete ↦ by _ delete.1 (λ x. x) did
            | inr rest ↦ elim rest [
              | inl lock ↦ by _ lock.1 (λ x. x) did
              | inr rest ↦ elim rest [
                | inl declare ↦ by _ declare.3 (λ x. x) did
                | inr draw ↦ by _ draw (λ x. x) did
              ]
            ]
          ]
        ]
      ];
    }
