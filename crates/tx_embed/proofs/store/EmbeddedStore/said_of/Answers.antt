use Rattle.std.proofs.Common.{◌≡◌, ◌<◌, inl, true, false, length, Option, Some, rules, refl, sym, subst}
use Rattle.std.specs.Prelude.{slice_get, slice_set}
use Rattle.tx_journal.specs.Known.{Known}
use Rattle.tx_update.specs.Updates.{SeatGoesOn}
use Rattle.tx_embed.specs.declared.answer.Said.TheVariants.{Misused}
use Rattle.tx_embed.specs.Requests.{Parts}
use Rattle.tx_embed.specs.Calls.{StoreState, Called, CalledBy, saying, seat_in}
use Rattle.tx_embed.proofs.ClientActs.{there_at, none_at, called_acts, called_nobody}
use Rattle.tx_embed.proofs.store.EmbeddedStore.said_of.Goals as goal

-- nothing is asked
pub returns-in-Err : goal.returns-in-Err
returns-in-Err g c =
    let now = c.args.self.now in
    subst (λ (o : Option Parts). CalledBy g.J.JournalId.bounds o now (saying c.in-Err.said now)) c.in-Some.ensures
    (inl (c.in-Err.ensures.err, (refl, refl)))

-- there is no such client
pub returns-then-not-has_client : goal.returns-then-not-has_client
returns-then-not-has_client g c =
    let now = c.args.self.now in
    let parts = c.in-Some.parts in
    let p : Parts =
    record { op = parts.op; client = parts.client; key = parts.key.now; value = parts.value.now } in
    let no : c.has_client.result ≡ false = search (rules, c.if-not-has_client.true) in
    called_nobody g.J.JournalId.bounds c.args.request.now now (saying Misused now) p (sym c.in-Some.ensures)
    c.in-Ok.asked c.in-Ok.ensures.ok (none_at now.slots parts.client (c.has_client.ensures.no no)) refl refl refl

-- the client did what is asked
pub returns : goal.returns
returns g c =
    let inside = c.self.inside in
    let parts = c.in-Some.parts in
    let p : Parts =
    record { op = parts.op; client = parts.client; key = parts.key.now; value = parts.value.now } in
    let old : StoreState =
    record { slots = inside.clients.items; resolver = seat_in inside.resolver; said = inside.said } in
    let new : StoreState = record {
      slots = slice_set inside.clients.items parts.client c.act-said.new.slot;
      resolver = c.act-said.result.1;
      said = c.act-said.result.0;
    } in
    let yes : c.has_client.result ≡ true = search (rules, c.if-not-has_client.false) in
    let within : parts.client < length inside.clients.items =
    subst (λ (s : StoreState). parts.client < length s.slots) (sym c.self.view_is) (c.has_client.ensures.yes yes) in
    let there : slice_get inside.clients.items parts.client ≡ Some c.index_mut-slot.result.now =
    there_at inside.clients.items parts.client c.index_mut-slot.result.now within c.index_mut-slot.ensures.value in
    let same : c.in-Some-take.resolver ≡ seat_in inside.resolver = search rules in
    subst (λ (s : StoreState). Called g.J.JournalId.bounds c.args.request.now s new) c.self.view_is
    (called_acts g.J.JournalId.bounds c.args.request.now old new p (sym c.in-Some.ensures) c.in-Ok.asked
    c.in-Ok.ensures.ok c.index_mut-slot.result.now c.act-said.new.slot there refl c.act-said.ensures.acts
    (subst (λ (k : Known). SeatGoesOn k c.act-said.result.1) same c.act-said.ensures.resolver))
