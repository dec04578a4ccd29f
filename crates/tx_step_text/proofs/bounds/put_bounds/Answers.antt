use Rattle.std.proofs.Common.{rules, ◌≡◌, [], ◌∷◌, ◌++◌, map, ap, ◌∙◌}
use Rattle.serde_json.specs.Data.{string, array}
use Rattle.serde_json.specs.View.{items_of}
use Rattle.serde_json.specs.Written.{compact_text}
use Rattle.tx_step_text.proofs.MemberTexts.{regions_text, bounds_is}
use Rattle.tx_step_text.proofs.bounds.put_bounds.Goals as goal

pub returns : goal.returns
returns g c =
    let old = c.args.out.now.items in
    let bytes = g.S.StepText.bytes in
    let list = compact_text (array (items_of (map (λ k. string (bytes k)) c.args.keys.now))) in
    let opened : c.extend_from_slice.new.self.items ≡ old ++ regions_text = search rules in
    let listed : c.put_list.new.out.items ≡ c.extend_from_slice.new.self.items ++ list = search rules in
    let closed : c.push.new.self.items ≡ c.put_list.new.out.items ++ 93 ∷ [] = search rules in
    closed ∙ ap (λ t. t ++ 93 ∷ []) (listed ∙ ap (λ t. t ++ list) opened) ∙ bounds_is bytes old c.args.keys.now
