use Rattle.std.proofs.Common.{sym, ◌∙◌}
use Rattle.tx_spelling.specs.Spelt.{marker_of, rest_of}
use Rattle.tx_spelling.proofs.FirstGroups.{first_decides, behind_decides}
use Rattle.tx_spelling.proofs.spelling.KeyBytesOrd.cmp.Goals as goal

pub returns-then-self-other : goal.returns-then-self-other
returns-then-self-other c =
    let a = c.self.inside in
    let b = c.other.inside in
    rw (sym c.self.view_is, sym c.other.view_is) (
    c.cmp.ensures ∙ sym (first_decides c.key_order.ensures a.first b.first (marker_of a.behind)
    (marker_of b.behind) (rest_of a.behind) (rest_of b.behind) a.key.0 b.key.0 a.key.1 b.key.1 c.if-self-other.true)
    )

pub returns : goal.returns
returns c =
    let a = c.self.inside in
    let b = c.other.inside in
    rw (sym c.self.view_is, sym c.other.view_is) (
    c.order.ensures ∙ sym (behind_decides c.key_order.ensures a.first b.first (marker_of a.behind)
    (marker_of b.behind) (rest_of a.behind) (rest_of b.behind) a.key.0 b.key.0 a.key.1 b.key.1
    c.if-self-other.false)
    )
