use Rattle.std.proofs.Common.{◌++◌, length, drop, replicate, ap, ◌∙◌}
use Rattle.std.proofs.lemmas.List.{drop-replicate}
use Rattle.tx_codec.proofs.Groups.{group_marked}
use Rattle.tx_codec.proofs.key.group_of.Goals as goal

pub returns : goal.returns
returns c =
    let part = c.args.part.now in
    group_marked part _ c.args.marker c.requires
    (ap (λ w. w ++ drop (length part) (replicate 9 0)) c.copy_from_slice.ensures.after
    ∙ ap (λ z. part ++ z) (drop-replicate (length part) 9 0))
