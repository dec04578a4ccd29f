-- A comparison of slices decides whether they are equal.
use Rattle.std.proofs.Common.{◌-◌, length, take, drop, sym, ◌∙◌}
use Rattle.std.proofs.lemmas.Bool.Decides.{Decides-eqb}
use Rattle.std.proofs.lemmas.List.{take_rest}
use Rattle.std.proofs.lemmas.Slice.Eq.{slice_eq-Decides}
use Rattle.tx_views.proofs.view.is_end.Goals as goal

pub returns : goal.returns
returns c =
    let list = c.args.list.now in
    let rest = take_rest list c.args.cut in
    let both = slice_eq-Decides Decides-eqb (take (length list - c.args.cut) (drop c.args.cut list)) c.args.own.now
    c.eq.result c.eq.ensures in
    (λ is. sym rest ∙ both.0 is, λ same. both.1 (rest ∙ same))
