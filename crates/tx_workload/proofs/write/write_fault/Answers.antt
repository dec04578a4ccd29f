use Rattle.std.proofs.Common.{◌++◌, ap, subst, ◌∙◌}
use Rattle.std.specs.Io.KnownBytes.{Appends}
use Rattle.std.proofs.KnownBytes.{Appends-kept, Keeps-refl}
use Rattle.tx_text.specs.Faults.{fault_words}
use Rattle.tx_text.specs.Members.{reply_text}
use Rattle.tx_text.specs.Output.{AppendsPart}
use Rattle.tx_workload.proofs.WrittenLines.{on_any_ok, on_any_err, part_none, part_all}
use Rattle.tx_workload.proofs.write.write_fault.Goals as goal

pub returns-in_err-put_fault-clause-part : goal.returns-in_err-put_fault-clause-part
returns-in_err-put_fault-clause-part g c = on_any_err _ _ (part_none _ _ _ (Keeps-refl _))

pub returns-in_err-send-clause-part : goal.returns-in_err-send-clause-part
returns-in_err-send-clause-part g c =
    let line = reply_text (c.args.number, fault_words c.args.cause) in
    let text = c.as_slice.ensures.value ∙ c.in_ok-put_fault.ensures ∙ ap (λ l. l ++ line) c.new-text.ensures.items in
    on_any_err _ _ (subst (AppendsPart (g.W.Write.contents c.args.writer.now) (g.W.Write.contents c.send.new.writer))
    text c.in_err-send.ensures.part)

pub returns-clause-all : goal.returns-clause-all
returns-clause-all g c =
    let line = reply_text (c.args.number, fault_words c.args.cause) in
    let text = c.as_slice.ensures.value ∙ c.in_ok-put_fault.ensures ∙ ap (λ l. l ++ line) c.new-text.ensures.items in
    on_any_ok _ _ (Appends-kept _ _ _ _
    (subst (Appends (g.W.Write.contents c.args.writer.now) (g.W.Write.contents c.send.new.writer)) text
    c.in_ok-send.ensures.all) c.finish.ensures.kept)

pub returns-clause-part : goal.returns-clause-part
returns-clause-part g c =
    let line = reply_text (c.args.number, fault_words c.args.cause) in
    let text = c.as_slice.ensures.value ∙ c.in_ok-put_fault.ensures ∙ ap (λ l. l ++ line) c.new-text.ensures.items in
    on_any_err _ _ (part_all _ _ _
    (Appends-kept _ _ _ _
    (subst (Appends (g.W.Write.contents c.args.writer.now) (g.W.Write.contents c.send.new.writer)) text
    c.in_ok-send.ensures.all) c.finish.ensures.kept))
