use Rattle.std.proofs.Common.{◌≡◌, ◌≤◌, ◌<◌, ℕ, List, [], ◌∷◌, ◌++◌, map, take, length, get_or, min, rules, sym, ap, subst, ◌∙◌, arith, length-append}
use Rattle.std.specs.List.{concat, zip}
use Rattle.std.specs.Slice.Iter.{iter_rest}
use Rattle.std.specs.Iterator.Adapters.{zip_first, zip_second}
use Rattle.std.specs.Io.KnownBytes.{Appends}
use Rattle.std.proofs.lemmas.Slice.Zip.{zip_turn, zip_end, length-zip, get_or-zip}
use Rattle.std.proofs.lemmas.List.{take_all}
use Rattle.tx_machine.specs.declared.step.Step.{Step}
use Rattle.tx_text.specs.Output.{AppendsPart}
use Rattle.tx_check.specs.Steps.{beside_text}
use Rattle.tx_script.proofs.Scripts.{if_err_is, if_any_err}
use Rattle.tx_script.proofs.Begun.{each_more, each_none, each_part}
use Rattle.tx_script.proofs.line_numbers.write_each.Goals as goal

-- what is sent: the line that was put into an empty text
line_is : (bytes put cleared line is : List ℕ) → bytes ≡ put → put ≡ cleared ++ line → cleared ≡ [] → line ≡ is
    → bytes ≡ is
line_is bytes put cleared line is a b c d = a ∙ b ∙ ap (λ l. l ++ line) c ∙ d

-- a number and its step
pair_is : (ns : List ℕ) (ss : List Step) (i n : ℕ) (s : Step) → i < length ns → i < length ss → n ≡ get_or ns i n
    → s ≡ get_or ss i s → get_or (zip ns ss) i (n, s) ≡ (n, s)
pair_is ns ss i n s a b number step = get_or-zip ns ss i (n, s) a b
    ∙ ap (λ (m : ℕ). (m, get_or ss i s)) (sym number) ∙ ap (λ (x : Step). (n, x)) (sym step)

pub returns-in_err-put_step_beside-clause-part : goal.returns-in_err-put_step_beside-clause-part
returns-in_err-put_step_beside-clause-part g c =
    let ns = c.args.numbers.now in
    let ss = c.args.steps.now in
    let xs = c.steps.yielded in
    let n = c.in-Some.number.now in
    let s = c.in-Some.step.now in
    let first : iter_rest (zip_first c.into_iter-number-iterator.result) ≡ ns = first_of (search rules, cc) in
    let second : iter_rest (zip_second c.into_iter-number-iterator.result) ≡ ss = first_of (search rules, cc) in
    let turn = zip_turn ns ss xs c.into_iter-number-iterator.result
    c.steps.number-iterator c.next.new.self c.next.result first second c.steps.yielded_by
    (c.in-Some.number, c.in-Some.step) c.in-Some.is
    c.next.ensures.steps in
    let within : length xs < length (zip ns ss) = omega (arith, length-zip ns ss, turn.0, turn.1) in
    let item : get_or (zip ns ss) (length xs) (n, s) ≡ (n, s) =
    pair_is ns ss (length xs) n s turn.0 turn.1 (turn.2 n) (turn.3 s) in
    if_any_err _ (each_none beside_text (zip ns ss) (length xs) (n, s) within (g.W.Write.contents c.args.writer.now)
    (g.W.Write.contents c.steps.writer) c.steps.invariant)

pub returns-in_err-send-clause-part : goal.returns-in_err-send-clause-part
returns-in_err-send-clause-part g c =
    let ns = c.args.numbers.now in
    let ss = c.args.steps.now in
    let xs = c.steps.yielded in
    let n = c.in-Some.number.now in
    let s = c.in-Some.step.now in
    let first : iter_rest (zip_first c.into_iter-number-iterator.result) ≡ ns = first_of (search rules, cc) in
    let second : iter_rest (zip_second c.into_iter-number-iterator.result) ≡ ss = first_of (search rules, cc) in
    let turn = zip_turn ns ss xs c.into_iter-number-iterator.result
    c.steps.number-iterator c.next.new.self c.next.result first second c.steps.yielded_by
    (c.in-Some.number, c.in-Some.step) c.in-Some.is
    c.next.ensures.steps in
    let within : length xs < length (zip ns ss) = omega (arith, length-zip ns ss, turn.0, turn.1) in
    let item : get_or (zip ns ss) (length xs) (n, s) ≡ (n, s) =
    pair_is ns ss (length xs) n s turn.0 turn.1 (turn.2 n) (turn.3 s) in
    let text : c.as_slice.result.now ≡ beside_text (get_or (zip ns ss) (length xs) (n, s)) =
    line_is _ _ _ _ _ c.as_slice.ensures.value c.in_ok-put_step_beside.ensures c.clear.ensures.items
    (ap beside_text (sym item)) in
    let mid = g.W.Write.contents c.steps.writer in
    let new = g.W.Write.contents c.send.new.writer in
    let e = c.in_err-send.field-0.0 in
    if_err_is _ _ e c.from_residual-in_err-send.ensures.1
    (each_part beside_text (zip ns ss) (length xs) (n, s) within (g.W.Write.contents c.args.writer.now) mid
    c.steps.invariant e new (subst (AppendsPart mid new) text c.in_err-send.ensures.part) c.in_err-send.ensures.err)

pub steps-preserved : goal.steps-preserved
steps-preserved g c =
    let ns = c.args.numbers.now in
    let ss = c.args.steps.now in
    let xs = c.steps.yielded in
    let n = c.in-Some.number.now in
    let s = c.in-Some.step.now in
    let first : iter_rest (zip_first c.into_iter-number-iterator.result) ≡ ns = first_of (search rules, cc) in
    let second : iter_rest (zip_second c.into_iter-number-iterator.result) ≡ ss = first_of (search rules, cc) in
    let turn = zip_turn ns ss xs c.into_iter-number-iterator.result
    c.steps.number-iterator c.next.new.self c.next.result first second c.steps.yielded_by
    (c.in-Some.number, c.in-Some.step) c.in-Some.is
    c.next.ensures.steps in
    let within : length xs < length (zip ns ss) = omega (arith, length-zip ns ss, turn.0, turn.1) in
    let item : get_or (zip ns ss) (length xs) (n, s) ≡ (n, s) =
    pair_is ns ss (length xs) n s turn.0 turn.1 (turn.2 n) (turn.3 s) in
    let text : c.as_slice.result.now ≡ beside_text (get_or (zip ns ss) (length xs) (n, s)) =
    line_is _ _ _ _ _ c.as_slice.ensures.value c.in_ok-put_step_beside.ensures c.clear.ensures.items
    (ap beside_text (sym item)) in
    let old = g.W.Write.contents c.args.writer.now in
    let mid = g.W.Write.contents c.steps.writer in
    let new = g.W.Write.contents c.send.new.writer in
    subst (λ k. Appends old new (concat (map beside_text (take k (zip ns ss)))))
    (sym (length-append xs ((c.in-Some.number, c.in-Some.step) ∷ [])))
    (each_more beside_text (zip ns ss) (length xs) (n, s) within old mid c.steps.invariant new
    (subst (Appends mid new) text c.in_ok-send.ensures.all))

pub returns-clause-all : goal.returns-clause-all
returns-clause-all g c =
    let ns = c.args.numbers.now in
    let ss = c.args.steps.now in
    let xs = c.steps.yielded in
    let first : iter_rest (zip_first c.into_iter-number-iterator.result) ≡ ns = first_of (search rules, cc) in
    let second : iter_rest (zip_second c.into_iter-number-iterator.result) ≡ ss = first_of (search rules, cc) in
    let all : length xs ≡ min (length ns) (length ss) =
    zip_end ns ss xs c.into_iter-number-iterator.result
    c.steps.number-iterator c.next.new.self c.next.result first second c.steps.yielded_by c.in-None.is
    c.next.ensures.steps in
    subst (λ ps. Appends (g.W.Write.contents c.args.writer.now) (g.W.Write.contents c.steps.writer)
    (concat (map beside_text ps))) (take_all (length xs) (zip ns ss) (omega (arith, length-zip ns ss, all)))
    c.steps.invariant
