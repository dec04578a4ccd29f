-- Nobody read what it put.
use Rattle.std.proofs.Common.{◌≡◌, ℕ, true, false, get_or, Contains, arith, sym, ap, ◌∙◌, subst}
use Rattle.std.proofs.lemmas.Grind.{common_steps}
use Rattle.std.proofs.lemmas.List.{get_or_read}
use Rattle.tx_recording.specs.declared.recording.RecordedOp.{RecordedOp}
use Rattle.tx_recording.specs.declared.recording.RecordedTransaction.{RecordedTransaction}
use Rattle.tx_recording.specs.Recordings.{no_transaction, no_op}
use Rattle.tx_recording.specs.Explanations.{Puts}
use Rattle.tx_import.proofs.Bares.{each_by_place}
use Rattle.tx_import.proofs.bare.is_unread.Goals as goal

pub returns : goal.returns
returns c _ =
    let r = c.args.recording.now in
    let read = c.args.read.now in
    let P : RecordedOp → Type 0 = λ (o : RecordedOp). (v : ℕ) → Puts o.act v → get_or read v false ≡ true → ⊥ in (
      sym (ap (λ (q : RecordedTransaction). q.outcome)
          (get_or_read r.transactions.items c.args.txn c.index.result.now c.requires.within c.index.ensures
          no_transaction))
          ∙ c.in-Fail.is,
      λ o v there put seen. each_by_place P c.ops_of-ops.result.now no_op
          (λ j lt. c.loop-i.invariant j (grind (arith, common_steps, c.loop-i-test.false, lt))) o
          (subst (λ q. Contains q o) (sym c.ops_of-ops.ensures.are) there) v put (c.requires.marked v seen),
    )
