use Rattle.std.proofs.Common.{◌≡◌, List, refl, ap, subst, ◌∙◌}
use Rattle.std.proofs.KnownBytes.{Keeps-refl}
use Rattle.tx_types.specs.declared.key.Key.{Key}
use Rattle.tx_text.specs.Lines.{lines_of}
use Rattle.tx_evidence.specs.Lines.{bounds_of}
use Rattle.tx_script.specs.Loops.{first_bounds, EndsAsked, BreaksAsked}
use Rattle.tx_script.specs.Stages.{NotesStage}
use Rattle.tx_script.proofs.Scripts.{if_any_err}
use Rattle.tx_script.proofs.Lines.{reads_ahead}
use Rattle.tx_script.proofs.Ends.{then_ok, then_err, if_some, any_some, bounds_ahead}
use Rattle.tx_script.proofs.Checks.{breaks_first_asked}
use Rattle.tx_script.proofs.simulation.play.Goals as goal

pub returns-in_err-first-clause-breaks : goal.returns-in_err-first-clause-breaks
returns-in_err-first-clause-breaks g c = if_any_err _ (λ why. any_some _ (g.R.Read.remaining c.args.reader.now)
    (λ input. breaks_first_asked c.args.asked (bounds_of (lines_of input)) why (lines_of input)
    (g.W.Write.contents c.args.writer.now) _ (Keeps-refl _)))

pub returns-in_err-bounds-clause-breaks : goal.returns-in_err-bounds-clause-breaks
returns-in_err-bounds-clause-breaks g c = if_any_err _ (λ why. any_some _ (g.R.Read.remaining c.args.reader.now)
    (λ input. breaks_first_asked c.args.asked (bounds_of (lines_of input)) why (lines_of input)
    (g.W.Write.contents c.args.writer.now) _ (Keeps-refl _)))

pub returns-in_default-clause-breaks : goal.returns-in_default-clause-breaks
returns-in_default-clause-breaks g c = any_some _ (g.R.Read.remaining c.args.reader.now)
    (λ input. breaks_first_asked c.args.asked (bounds_of (lines_of input)) _ (lines_of input)
    (g.W.Write.contents c.args.writer.now) _ (Keeps-refl _))

pub returns-in_default-new-clause-breaks : goal.returns-in_default-new-clause-breaks
returns-in_default-new-clause-breaks g c = any_some _ (g.R.Read.remaining c.args.reader.now)
    (λ input. breaks_first_asked c.args.asked (bounds_of (lines_of input)) _ (lines_of input)
    (g.W.Write.contents c.args.writer.now) _ (Keeps-refl _))

pub over-requires-clause-named : goal.over-requires-clause-named
over-requires-clause-named g c = (refl, refl, refl)

pub returns-clause-ends : goal.returns-clause-ends
returns-clause-ends g c =
    let line = c.read_line.new.line.items in
    let left = g.R.Read.remaining c.read_line.new.reader in
    let old = g.W.Write.contents c.args.writer.now in
    let new = g.W.Write.contents c.over.new.writer in
    let said : c.in-Ok-new.opened.bounds ≡ first_bounds c.in_ok-first.first line =
    c.in-Ok-new.ensures.ok.0 ∙ c.in_ok-bounds.ensures.bounds ∙ ap (first_bounds c.in_ok-first.first)
    c.as_slice.ensures.value in
    then_ok _ _ c.over.result c.over.ensures.ends
    (λ end h. if_some _ _ (g.R.Read.remaining c.args.reader.now)
    (λ input reads. (let ahead = reads_ahead c.in_ok-first.first line input left reads in
    subst (λ (bounds : List Key). EndsAsked c.args.asked bounds (lines_of input) old new end)
    (said ∙ bounds_ahead c.in_ok-first.first line left (lines_of input) ahead) (h (lines_of input) ahead)))
    c.in_ok-first.ensures.reads)

pub returns-clause-breaks : goal.returns-clause-breaks
returns-clause-breaks g c =
    let line = c.read_line.new.line.items in
    let left = g.R.Read.remaining c.read_line.new.reader in
    let old = g.W.Write.contents c.args.writer.now in
    let new = g.W.Write.contents c.over.new.writer in
    let said : c.in-Ok-new.opened.bounds ≡ first_bounds c.in_ok-first.first line =
    c.in-Ok-new.ensures.ok.0 ∙ c.in_ok-bounds.ensures.bounds ∙ ap (first_bounds c.in_ok-first.first)
    c.as_slice.ensures.value in
    then_err _ _ c.over.result c.over.ensures.breaks
    (λ why h. if_some _ _ (g.R.Read.remaining c.args.reader.now)
    (λ input reads. (let ahead = reads_ahead c.in_ok-first.first line input left reads in
    subst (λ (bounds : List Key). BreaksAsked c.args.asked bounds why (lines_of input) old new)
    (said ∙ bounds_ahead c.in_ok-first.first line left (lines_of input) ahead) (h (lines_of input) ahead)))
    c.in_ok-first.ensures.reads)

pub returns-clause-staged : goal.returns-clause-staged
returns-clause-staged g c =
    let line = c.read_line.new.line.items in
    let left = g.R.Read.remaining c.read_line.new.reader in
    let said : c.in-Ok-new.opened.bounds ≡ first_bounds c.in_ok-first.first line =
    c.in-Ok-new.ensures.ok.0 ∙ c.in_ok-bounds.ensures.bounds ∙ ap (first_bounds c.in_ok-first.first)
    c.as_slice.ensures.value in
    then_ok _ _ c.over.result c.over.ensures.staged
    (λ end h. if_some _ _ (g.R.Read.remaining c.args.reader.now)
    (λ input reads. (let ahead = reads_ahead c.in_ok-first.first line input left reads in
    subst (λ (bounds : List Key). NotesStage bounds (lines_of input) c.over.new.stage)
    (said ∙ bounds_ahead c.in_ok-first.first line left (lines_of input) ahead) (h (lines_of input) ahead)))
    c.in_ok-first.ensures.reads)
