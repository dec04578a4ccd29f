use Rattle.std.proofs.Common.{◌≡◌, inl, inr, ◌++◌, List, ℕ, map, refl, sym, ap, subst}
use Rattle.std.specs.List.{flat_map}
use Rattle.std.specs.Io.KnownBytes.{Appends}
use Rattle.std.proofs.KnownBytes.{Appends-trans}
use Rattle.tx_workload.specs.Lines.{line_of}
use Rattle.tx_text.specs.Output.{AppendsPart}
use Rattle.tx_workload.specs.Texts.{outcomes_text, total_text, counts_of}
use Rattle.tx_workload.proofs.WrittenLines.{on_any_err, on_ok, on_err, part_first, part_then}
use Rattle.tx_workload.proofs.write.write_all.Goals as goal

pub returns-in_err-write_lines-clause-part : goal.returns-in_err-write_lines-clause-part
returns-in_err-write_lines-clause-part g c =
    let lines = map (λ p. p.1.now) c.in_ok-lines.lines.items in
    let old = g.W.Write.contents c.args.writer.now in
    let mid = g.W.Write.contents c.write_lines.new.writer in
    let part = subst (λ l. AppendsPart old mid (flat_map line_of (map (λ p. p.1.now) l))) c.as_slice.ensures.value
    c.in_err-write_lines.ensures.part in
    on_any_err _ _ (inr (
      _,
      (lines, c.in_ok-lines.ensures, refl),
      part_first _ _ _ (outcomes_text (counts_of lines) ++ total_text c.args.total) part,
    ))

pub returns-clause-all : goal.returns-clause-all
returns-clause-all g c =
    let lines = map (λ p. p.1.now) c.in_ok-lines.lines.items in
    let old = g.W.Write.contents c.args.writer.now in
    let mid = g.W.Write.contents c.write_lines.new.writer in
    let new = g.W.Write.contents c.write_sums.new.writer in
    let all = subst (λ l. Appends old mid (flat_map line_of (map (λ p. p.1.now) l))) c.as_slice.ensures.value
    c.in_ok-write_lines.ensures.all in
    let counts = subst (λ l. c.counts_of.result
    ≡ counts_of (map (λ p. p.1.now) l)) c.as_slice-2.ensures.value c.counts_of.ensures in
    on_ok c.write_sums.result c.write_sums.ensures.all
    (λ sent. (
      _,
      (
        lines,
        c.in_ok-lines.ensures,
        ap (λ n. flat_map line_of lines ++ (outcomes_text n ++ total_text c.args.total)) counts,
      ),
      Appends-trans _ _ _ _ _ all sent,
    ))

pub returns-clause-part : goal.returns-clause-part
returns-clause-part g c =
    let lines = map (λ p. p.1.now) c.in_ok-lines.lines.items in
    let old = g.W.Write.contents c.args.writer.now in
    let mid = g.W.Write.contents c.write_lines.new.writer in
    let all = subst (λ l. Appends old mid (flat_map line_of (map (λ p. p.1.now) l))) c.as_slice.ensures.value
    c.in_ok-write_lines.ensures.all in
    let counts = subst (λ l. c.counts_of.result
    ≡ counts_of (map (λ p. p.1.now) l)) c.as_slice-2.ensures.value c.counts_of.ensures in
    on_err c.write_sums.result c.write_sums.ensures.part
    (λ part. inr (
      _,
      (
        lines,
        c.in_ok-lines.ensures,
        ap (λ n. flat_map line_of lines ++ (outcomes_text n ++ total_text c.args.total)) counts,
      ),
      part_then _ _ _ _ _ all part,
    ))
