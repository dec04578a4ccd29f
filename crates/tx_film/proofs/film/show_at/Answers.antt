use Rattle.std.proofs.Common.{◌≡◌, ◌<◌, ◌∷◌, ◌++◌, [], length, get_or, Some, refl, sym, subst, arith}
use Rattle.std.specs.Prelude.{All}
use Rattle.std.proofs.lemmas.List.Elements.{All-push, All-same}
use Rattle.std.proofs.lemmas.Option.{slice_get_read}
use Rattle.tx_film.specs.declared.frame.KeyShown.{KeyShown}
use Rattle.tx_film.specs.Films.{StandsSo}
use Rattle.tx_film.proofs.Reels.{stands_shown, stands_so}
use Rattle.tx_film.proofs.film.show_at.Goals as goal

pub returns-clause-same : goal.returns-clause-same
returns-clause-same g c = stands_shown g.J.JournalId.bounds c.args.keys.now c.args.player.now c.show_key.new.self
    c.show_key.ensures.same c.show_key.ensures.played

pub returns-in_default-clause-same : goal.returns-in_default-clause-same
returns-in_default-clause-same g c = stands_so g.J.JournalId.bounds c.args.keys.now c.args.player.now

pub returns-clause-shows : goal.returns-clause-shows
returns-clause-shows g c were le =
    let bounds = g.J.JournalId.bounds in
    let keys = c.args.keys.now in
    let old = c.args.shown.now.items in
    let same = c.show_key.ensures.same in
    let at = c.in-Some.ensures.lookup in
    let P : KeyShown → Type 0 = StandsSo bounds keys c.show_key.new.self.engine.network.newest in
    let said : KeyShown = record { key = c.args.place; shown = c.in-Ok.copy } in
    All-same P c.push.new.self.items (old ++ said ∷ []) c.in_ok-push.ensures.items
    (All-push P old said
    (subst (λ n. All (StandsSo bounds keys n) old) (sym (same.newest le)) (were (same.before le))) (
      c.in-Some.key.now,
      slice_get_read keys (length keys) c.args.place c.in-Some.key.now refl at.3.0 at.1,
      c.in-Ok.ensures.shows,
    ))
