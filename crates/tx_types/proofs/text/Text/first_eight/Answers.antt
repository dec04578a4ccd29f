use Rattle.std.proofs.Common.{◌-◌, ℕ, List, take, ◌++◌, replicate, sym, ap, ◌∙◌, subst}
use Rattle.tx_types.specs.Texts.{bytes_of, IsWithin}
use Rattle.tx_types.proofs.Parts.{first_of}
use Rattle.tx_types.proofs.text.Text.first_eight.Goals as goal

pub returns-in-Short : goal.returns-in-Short
returns-in-Short c =
    let short = c.in-Short.short in
    let within = subst IsWithin c.in-Short.is c.self.invariant in
    first_of short.len (22 - short.len) short.bytes c.copy_from_slice.new.self c.copy_from_slice.ensures.after
    c.copy_from_slice.ensures.len within.1
    ∙ ap (λ (t : List ℕ). take 8 (t ++ replicate 8 0)) (sym (ap bytes_of c.in-Short.is) ∙ c.self.view_is)
