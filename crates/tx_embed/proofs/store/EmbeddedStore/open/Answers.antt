use Rattle.std.proofs.Common.{◌≡◌, ◌<◌, ◌+◌, ◌∷◌, ℕ, List, length, slice_get, Some, refl, ap, subst, ◌∙◌, arith}
use Rattle.tx_journal.specs.Known.{Known}
use Rattle.tx_embed.specs.Calls.{dealt}
use Rattle.tx_embed.proofs.NewSlots.{removed, resolves, waits}
use Rattle.tx_embed.proofs.store.EmbeddedStore.open.Goals as goal

-- the first seat is the region's, the second resolves, and the others have slots
pub returns-clause-new : goal.returns-clause-new
returns-clause-new g c =
    let count = g.J.JournalId.seats in
    let named = c.in_ok-journal.ensures in
    let all = c.in_ok-journal.seats.items in
    let one = c.remove-first.new.self.items in
    let two = c.remove-resolver.new.self.items in
    let first = c.remove-first.result in
    let resolver = c.remove-resolver.result in
    let size : length all ≡ count = omega (arith, named.count, c.in_ok-journal.seats.ok.0) in
    let some : 0 < length all = omega (arith, size, c.requires.some, c.requires.named.2) in
    let at_first : all ≡ first ∷ one = removed all one first some c.remove-first.ensures.value
    c.remove-first.ensures.items in
    let more : 0 < length one = omega (arith, size, c.requires.some, c.requires.named.2, ap length at_first) in
    let at_second : one ≡ resolver ∷ two = removed one two resolver more c.remove-resolver.ensures.value
    c.remove-resolver.ensures.items in
    let split : all ≡ first ∷ (resolver ∷ two) = at_first ∙ ap (λ l. first ∷ l) at_second in
    let each : (k : ℕ) → k < count → slice_get (first ∷ (resolver ∷ two)) k ≡ Some (dealt k) =
    subst (λ (l : List Known). (k : ℕ) → k < count → slice_get l k ≡ Some (dealt k)) split named.seats in
    let left : length two + 2 ≡ count = omega (arith, size, ap length split) in (
      resolves first resolver two count each left,
      refl,
      waits first resolver two count each left c.in_ok-clients.clients.items c.in_ok-clients.ensures.each,
    )
