use Rattle.std.proofs.Common.{◌≡◌, List, [], ◌∷◌, ◌++◌, append_assoc, sym, ap, ◌∙◌}
use Rattle.std.specs.Prelude.{Vec}
use Rattle.std.specs.declared.alloc.Global.{Global}
use Rattle.std.proofs.lemmas.List.{append-nil}
use Rattle.tx_workload.specs.declared.reply.LineReply.{LineReply}
use Rattle.tx_workload.specs.Replies.{all_of}
use Rattle.tx_workload.proofs.replies.Replies.add.Goals as goal

all_of_push : (parts : List (Vec LineReply Global)) (part : Vec LineReply Global)
    → all_of (parts ++ part ∷ []) ≡ all_of parts ++ part.items
all_of_push [] part = append-nil part.items
all_of_push (first ∷ parts) part =
    ap (λ (t : List LineReply). first.items ++ t) (all_of_push parts part)
    ∙ sym (append_assoc first.items (all_of parts) part.items)

pub returns : goal.returns
returns c = ap all_of c.in_ok-push.ensures.items ∙ all_of_push c.self.inside.parts.items c.args.part
    ∙ ap (λ (t : List LineReply). t ++ c.args.part.items) c.self.view_is
