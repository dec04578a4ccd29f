use Rattle.std.proofs.Common.{◌≡◌, slice_set, option_map, string_bytes, refl, sym, ap, subst, ◌∙◌, arith}
use Rattle.std.proofs.lemmas.List.{length-set}
use Rattle.tx_core.specs.Histories.{History, Begins}
use Rattle.tx_core.specs.Worlds.{Holds}
use Rattle.tx_journal.specs.Known.{Known}
use Rattle.tx_journal.specs.Replies.{Asked}
use Rattle.tx_steps.specs.Steps.{delivery_named}
use Rattle.tx_network.specs.Networks.{NetworkParts, Hands, NotesTaken, Taken, region_for, requests}
use Rattle.tx_network.proofs.Posts.{there_at, numbered_at, numbered_set, handed_at, taken_by}
use Rattle.tx_network.proofs.network.Network.take_in.Goals as goal

pub take_in-requires : goal.take_in-requires
take_in-requires g c =
    let ks = c.self.inside.regions.items in
    let there = there_at ks c.index_of-index.result c.index_mut-region.result.now
    (omega (arith, c.index_of-index.ensures.within, c.self.invariant.1)) c.index_mut-region.ensures.value in
    let at = numbered_at 0 c.index_of-index.result ks c.index_mut-region.result.now there c.self.invariant.0 in
    let here = subst (λ n. Holds g.J.JournalId.bounds n c.args.place.now.request.body) (sym (at ∙ omega arith))
    (subst (Holds g.J.JournalId.bounds c.index_of-index.result) c.body.ensures.body
    c.index_of-index.ensures.holds) in
    record {
      holds = subst (λ n. Holds g.J.JournalId.bounds n c.args.place.now.request.body) (sym c.learn.ensures.same.0) here;
    }

pub invariant_of-self : goal.invariant_of-self
invariant_of-self g c =
    let ks = c.self.inside.regions.items in
    let there = there_at ks c.index_of-index.result c.index_mut-region.result.now
    (omega (arith, c.index_of-index.ensures.within, c.self.invariant.1)) c.index_mut-region.ensures.value in
    let number = ap (λ (k : Known). k.seat) c.tell.ensures.same
    ∙ (c.take_in.ensures.same.0 ∙ c.learn.ensures.same.0) in (
      numbered_set 0 c.index_of-index.result ks c.index_mut-region.result.now c.tell.new.self there number
          c.self.invariant.0,
      length-set ks c.index_of-index.result c.tell.new.self ∙ c.self.invariant.1,
      c.self.invariant.2,
    )

pub returns : goal.returns
returns g c =
    let s = c.self.inside in
    let index = c.index_of-index.result in
    let k = c.index_mut-region.result.now in
    let r = c.take_in.new.place in
    let from : NetworkParts =
    record {
      regions = s.regions.items;
      newest = s.newest;
      held = requests s.held.entries;
      delivery =
          option_map (delivery_named string_bytes) s.delivery;
      trace = s.trace;
    } in
    let to : NetworkParts =
    record {
      regions = slice_set s.regions.items index c.tell.new.self;
      newest = c.tell.result;
      held =
          requests s.held.entries;
      delivery = option_map (delivery_named string_bytes) s.delivery;
      trace =
          c.note_reply.new.trace;
    } in
    let n = region_for g.J.JournalId.bounds c.args.place.now.request.body in
    let there = there_at s.regions.items index k (omega (arith, c.index_of-index.ensures.within, c.self.invariant.1))
    c.index_mut-region.ensures.value in
    let is : index ≡ n = c.index_of-index.ensures.number ∙ ap (region_for g.J.JournalId.bounds) c.body.ensures.body in
    let newest : Begins s.newest c.learn.new.self.events =
    subst (λ h. Begins h c.learn.new.self.events) c.copy-told.ensures.copy c.learn.ensures.told in
    let taken = taken_by g.J.JournalId.bounds k c.learn.new.self c.take_in.new.self s.newest c.args.place.now.request r
    c.learn.ensures.same.0 c.learn.ensures.own newest c.take_in.ensures.same.0 c.take_in.ensures.told
    c.take_in.ensures.request c.take_in.ensures.answered c.take_in.ensures.always
    c.take_in.ensures.refused in
    let told : Taken k s.newest c.args.place.now.request r c.tell.new.self c.tell.result =
    subst (λ (p : Known × History). Taken k s.newest c.args.place.now.request r p.0 p.1)
    (λ i. (sym c.tell.ensures.same i, sym c.tell.ensures.told i)) taken in
    let notes : NotesTaken c.args.place.now.request.body r.answer s.trace c.note_reply.new.trace =
    subst (λ (q : Asked). NotesTaken q.body r.answer s.trace c.note_reply.new.trace) c.take_in.ensures.request
    c.note_reply.ensures in
    subst (λ (d : NetworkParts). Hands n d to c.args.place.now.request r) c.self.view_is
    (handed_at n index from to k c.tell.new.self c.args.place.now.request r is there c.self.invariant.0 refl refl refl
    told notes)
