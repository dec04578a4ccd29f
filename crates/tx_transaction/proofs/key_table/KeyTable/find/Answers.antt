use Rattle.std.proofs.Common.{◌≡◌, ◌∙◌, ap, option_map}
use Rattle.tx_transaction.specs.Buffers.{buffered}
use Rattle.tx_transaction.specs.declared.state.BufferEntry.{BufferEntry}
use Rattle.tx_transaction.proofs.Lookups.{found}
use Rattle.tx_transaction.proofs.Tables.{entries_there}
use Rattle.tx_transaction.proofs.key_table.KeyTable.find.Goals as goal

pub returns-in-Some-get : goal.returns-in-Some-get
returns-in-Some-get c =
    let t = c.deref.result.now in
    let is : t.entries.entries ≡ c.args.self.now =
    entries_there c.self.inside.parts c.in-Some.parts t c.args.self.now c.self.view_is c.in-Some.is c.deref.ensures in
    ap (option_map (λ (e : BufferEntry). e.mutation)) c.in-Some-get.ensures.value
    ∙ found t.entries.entries c.args.key.now ∙ ap (λ es. buffered es c.args.key.now) is

pub returns-in-None : goal.returns-in-None
returns-in-None c =
    let t = c.deref.result.now in
    let is : t.entries.entries ≡ c.args.self.now =
    entries_there c.self.inside.parts c.in-Some.parts t c.args.self.now c.self.view_is c.in-Some.is c.deref.ensures in
    ap (option_map (λ (e : BufferEntry). e.mutation)) c.in-None.ensures.value
    ∙ found t.entries.entries c.args.key.now ∙ ap (λ es. buffered es c.args.key.now) is
