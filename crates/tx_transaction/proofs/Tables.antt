-- The table of a write buffer, behind the reference to it.
use Rattle.std.proofs.Common.{◌≡◌, Option, Some, sym, ap, ◌∙◌}
use Rattle.std.specs.Global.{Global}
use Rattle.std.specs.declared.boxed.Box.{Box}
use Rattle.tx_transaction.specs.declared.key_table.TableParts.{TableParts}
use Rattle.tx_transaction.specs.Buffers.{Entries}
use Rattle.tx_transaction.specs.Tables.{entries_in}

-- its entries
pub entries_there : (o : Option (Box TableParts Global)) (b : Box TableParts Global) (t : TableParts) (es : Entries)
    → entries_in o ≡ es → o ≡ Some b → t ≡ b.value → t.entries.entries ≡ es
entries_there o b t es view made is =
    ap (λ (u : TableParts). u.entries.entries) is ∙ sym (ap entries_in made) ∙ view
