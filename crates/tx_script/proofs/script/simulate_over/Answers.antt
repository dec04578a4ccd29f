use Rattle.tx_script.proofs.Ends.{ends_lines, breaks_lines, then_ok, then_err}
use Rattle.tx_script.proofs.script.simulate_over.Goals as goal

pub returns-clause-ends : goal.returns-clause-ends
returns-clause-ends g c = then_ok _ _ c.play_lines-end.result c.play_lines-end.ensures.ends
    (λ end h lines a. ends_lines g.J.JournalId.bounds c.play_lines-end.new.engine c.close.ensures.came
    c.close.ensures.run lines (g.W.Write.contents c.args.writer.now)
    (g.W.Write.contents c.play_lines-end.new.writer) end (λ le. h le lines a))

pub returns-clause-breaks : goal.returns-clause-breaks
returns-clause-breaks g c = then_err _ _ c.play_lines-end.result c.play_lines-end.ensures.breaks
    (λ why h lines a. breaks_lines g.J.JournalId.bounds c.play_lines-end.new.engine c.close.ensures.came
    c.close.ensures.run lines (g.W.Write.contents c.args.writer.now)
    (g.W.Write.contents c.play_lines-end.new.writer) why (λ le. h le lines a))

pub returns-clause-staged : goal.returns-clause-staged
returns-clause-staged g c = then_ok _ _ c.play_lines-end.result c.play_lines-end.ensures.staged
    (λ end h lines a. h c.close.ensures.came lines a)
