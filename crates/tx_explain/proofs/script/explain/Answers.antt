use Rattle.std.proofs.Common.{◌≡◌, ℕ, List, Bor, map, ap, sym, subst, ◌∙◌}
use Rattle.tx_types.specs.Keys.{AreRising}
use Rattle.tx_text.specs.Lines.{lines_of}
use Rattle.tx_evidence.specs.Lines.{bounds_of}
use Rattle.tx_script.proofs.Ends.{if_some}
use Rattle.tx_film.specs.Films.{Films}
use Rattle.tx_explain.specs.Explained.{Shows}
use Rattle.tx_explain.proofs.script.explain.Goals as goal

abbrev now : Bor (List ℕ) → List ℕ
now line = line.now

pub returns-clause-ends : goal.returns-clause-ends
returns-clause-ends g c =
    if_some (λ input. c.in_ok-text.text.items ≡ input) _ _ (λ input is.
    (let whole : map now c.in_ok-lines.lines.items ≡ lines_of input =
    c.in_ok-lines.ensures.lines ∙ ap lines_of (c.as_slice.ensures.value ∙ is) in
    let are : map now c.as_slice-4.result.now ≡ lines_of input = ap (map now) c.as_slice-4.ensures.value ∙ whole in
    let drawn : map now c.as_slice-6.result.now ≡ lines_of input = ap (map now) c.as_slice-6.ensures.value ∙ whole in
    let form = c.args.options.form in
    let keys = c.as_slice-3.result.now in
    let film = c.in_ok-film.film in (
      keys,
      subst AreRising (sym c.as_slice-3.ensures.value) c.in_ok-keys.ensures.rising,
      film,
      subst (λ ls. Films (bounds_of ls) keys ls film) are c.in_ok-film.ensures,
      c.end-end.ensures,
      (
        c.as_slice-7.result.now,
        c.in_ok-write_all.ensures.all,
        subst (λ ls. Shows form ls film c.as_slice-7.result.now) drawn
            (subst (λ t. Shows form (map now c.as_slice-6.result.now) film t) (sym c.as_slice-7.ensures.value)
            c.in_ok-shown.ensures),
      ),
    ))) c.in_ok-text.ensures
