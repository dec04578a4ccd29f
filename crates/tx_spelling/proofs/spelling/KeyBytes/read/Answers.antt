use Rattle.std.proofs.Common.{◌≡◌, ◌++◌, ◌∷◌, [], ◌-◌, take, refl, sym, ap, ◌∙◌, subst, List, ℕ, length, IfOk}
use Rattle.std.specs.Int.{w64, to_be_bytes}
use Rattle.tx_codec.specs.Keys.{IsKey}
use Rattle.tx_spelling.specs.declared.spelling.Behind.{Behind}
use Rattle.tx_spelling.specs.Spelt.{SpellsKey, marker_of, rest_of}
use Rattle.tx_spelling.proofs.FirstGroups.{short_read, next_read}
use Rattle.tx_spelling.proofs.spelling.KeyBytes.read.Goals as goal

pub key_of-requires : goal.key_of-requires
key_of-requires c =
    let k = c.self.inside in
    let s : SpellsKey k.first c.in-Nothing.marker [] k.key.0 =
    subst (λ (b : Behind). SpellsKey k.first (marker_of b) (rest_of b) k.key.0) c.in-Nothing.is k.key.1 in
    let is = short_read k.first c.in-Nothing.marker k.key.0 s
    ∙ ap (λ n. take n (to_be_bytes w64 k.first)) (sym c.part_len.ensures.0)
    ∙ ap (take c.part_len.result) (sym c.to_be_bytes-group.ensures) in
    subst IsKey is k.key.1.1

pub returns-in-Nothing-clause-ok : goal.returns-in-Nothing-clause-ok
returns-in-Nothing-clause-ok c =
    let k = c.self.inside in
    let s : SpellsKey k.first c.in-Nothing.marker [] k.key.0 =
    subst (λ (b : Behind). SpellsKey k.first (marker_of b) (rest_of b) k.key.0) c.in-Nothing.is k.key.1 in
    let is = short_read k.first c.in-Nothing.marker k.key.0 s
    ∙ ap (λ n. take n (to_be_bytes w64 k.first)) (sym c.part_len.ensures.0)
    ∙ ap (take c.part_len.result) (sym c.to_be_bytes-group.ensures) in
    subst (λ (w : List ℕ). IfOk c.key_of.result (λ key. key ≡ w)) (sym is ∙ c.self.view_is) c.key_of.ensures.ok

pub key_of_two-requires : goal.key_of_two-requires
key_of_two-requires c =
    let k = c.self.inside in
    let last : List ℕ = to_be_bytes w64 c.in-Group.last in
    let s : SpellsKey k.first 255 (last ++ c.in-Group.marker ∷ []) k.key.0 =
    subst (λ (b : Behind). SpellsKey k.first (marker_of b) (rest_of b) k.key.0) c.in-Group.is k.key.1 in
    let is = next_read k.first last k.key.0 c.in-Group.marker refl s
    ∙ ap (λ (r : List ℕ). to_be_bytes w64 k.first ++ take (c.in-Group.marker - 247) r)
    (sym c.to_be_bytes-behind.ensures)
    ∙ ap (λ (w : List ℕ). w ++ take (c.in-Group.marker - 247) c.to_be_bytes-behind.result)
    (sym c.to_be_bytes-group.ensures) in
    (ap length c.to_be_bytes-group.ensures, ap length c.to_be_bytes-behind.ensures, subst IsKey is k.key.1.1)

pub returns-in-Group-clause-ok : goal.returns-in-Group-clause-ok
returns-in-Group-clause-ok c =
    let k = c.self.inside in
    let last : List ℕ = to_be_bytes w64 c.in-Group.last in
    let s : SpellsKey k.first 255 (last ++ c.in-Group.marker ∷ []) k.key.0 =
    subst (λ (b : Behind). SpellsKey k.first (marker_of b) (rest_of b) k.key.0) c.in-Group.is k.key.1 in
    let is = next_read k.first last k.key.0 c.in-Group.marker refl s
    ∙ ap (λ (r : List ℕ). to_be_bytes w64 k.first ++ take (c.in-Group.marker - 247) r)
    (sym c.to_be_bytes-behind.ensures)
    ∙ ap (λ (w : List ℕ). w ++ take (c.in-Group.marker - 247) c.to_be_bytes-behind.result)
    (sym c.to_be_bytes-group.ensures) in
    subst (λ (w : List ℕ). IfOk c.key_of_two.result (λ key. key ≡ w)) (sym is ∙ c.self.view_is) c.key_of_two.ensures.ok
