use Rattle.std.proofs.Common.{◌≡◌, [], ◌∷◌, ◌++◌, sym, ap, ◌∙◌, append_assoc, append-nil}
use Rattle.std.proofs.lemmas.List.{map_push}
use Rattle.json.specs.Json.{no_members}
use Rattle.json.specs.Strict.{keys}
use Rattle.json.proofs.Unique.Keys.{texts}
use Rattle.tx_import.proofs.member_names.names_of.Goals as goal

pub loop-name-init : goal.loop-name-init
loop-name-init c ms inside = (ms, inside, ap (λ ks. texts ks ++ keys ms) c.new-names.ensures.items)

pub loop-name-preserved : goal.loop-name-preserved
loop-name-preserved c ms inside =
    let now = c.loop-name.invariant ms inside in
    let f = c.in-Some.ensures.value now.0 now.1 in
    let had = texts c.loop-name.names.items in
    let name = c.in-Some.name in
    let pushed : texts c.push.new.self.items ≡ had ++ name.now ∷ [] =
    ap texts c.in_ok-push.ensures.items ∙ map_push (λ x. x.now) c.loop-name.names.items name in (
      f.1,
      f.4,
      ap (λ ks. ks ++ keys f.1) pushed ∙ append_assoc had (name.now ∷ []) (keys f.1)
          ∙ ap (λ l. had ++ keys l) (sym f.2) ∙ now.2,
    )

pub returns : goal.returns
returns c ms inside =
    let now = c.loop-name.invariant ms inside in
    let done : now.0 ≡ no_members = c.in_default.ensures.value now.0 now.1 in
    sym (append-nil _) ∙ ap (λ l. texts c.loop-name.names.items ++ keys l) (sym done) ∙ now.2
