use Rattle.std.proofs.Common.{List, ◌++◌, map, sym, subst}
use Rattle.tx_types.specs.declared.key.Key.{Key}
use Rattle.tx_workload.specs.ScriptLines.{opening_of}
use Rattle.tx_run.specs.Jobs.{ComesOf}
use Rattle.tx_workload.specs.LineNumbers.{numbers_in}
use Rattle.tx_workload.proofs.Evidence.{all_tell, opens_with}
use Rattle.tx_run.proofs.OwnLines.{own_lines}
use Rattle.tx_run.proofs.ComesOfTexts.{comes_of_text}
use Rattle.tx_workload.proofs.WrittenLines.{from_played, on_any_err}
use Rattle.tx_run.proofs.run.run.Goals as goal

pub returns-clause-comes : goal.returns-clause-comes
returns-clause-comes g c =
    let script = c.in-Ok.script in
    let played = c.in_ok-played.played in
    let kept = rw c.in-Ok.is at c.in_ok-script.ensures.kept in
    let source = g.L.Source.text in
    let seeds = map (λ seed. seed.number) script.seeds.items in
    let lines = numbers_in script.sessions.items in
    comes_of_text source lines seeds script.bounds.items played.seen.bounds played.seen.events played.replies
    played.stages.items kept
    (subst (λ (b : List Key). ComesOf b source (opening_of script.bounds.items ++ seeds) lines played.seen.events
    played.replies played.stages.items) (sym c.in_ok-played.ensures.bounds) c.in_ok-played.ensures.comes)

pub play_script-requires-clause-own : goal.play_script-requires-clause-own
play_script-requires-clause-own g c κs within =
    let script = c.in-Ok.script in
    own_lines g.L.Source.text (numbers_in script.sessions.items) (map (λ seed. seed.number) script.seeds.items)
    script.bounds.items (rw c.in-Ok.is at c.in_ok-script.ensures.kept)

pub play_script-requires-clause-opens : goal.play_script-requires-clause-opens
play_script-requires-clause-opens g c κs within =
    let script = c.in-Ok.script in
    opens_with g.L.Source.text (numbers_in script.sessions.items) (map (λ seed. seed.number) script.seeds.items)
    script.bounds.items (rw c.in-Ok.is at c.in_ok-script.ensures.kept)

pub returns-clause-tells : goal.returns-clause-tells
returns-clause-tells g c =
    let script = c.in-Ok.script in
    let played = c.in_ok-played.played in
    all_tell g.L.Source.text (numbers_in script.sessions.items) (map (λ seed. seed.number) script.seeds.items)
    script.bounds.items played.seen played.replies (rw c.in-Ok.is at c.in_ok-script.ensures.kept)
    c.in_ok-played.ensures.tells c.in_ok-played.ensures.bounds

pub returns-in_err-write_all-clause-broken : goal.returns-in_err-write_all-clause-broken
returns-in_err-write_all-clause-broken g c =
    let script = c.in-Ok.script in
    let played = c.in_ok-played.played in
    let tells = all_tell g.L.Source.text (numbers_in script.sessions.items)
    (map (λ seed. seed.number) script.seeds.items)
    script.bounds.items played.seen played.replies (rw c.in-Ok.is at c.in_ok-script.ensures.kept)
    c.in_ok-played.ensures.tells c.in_ok-played.ensures.bounds in
    on_any_err _ _ (from_played g.L.Source.text (g.W.Write.contents c.args.writer.now)
    (g.W.Write.contents c.write_all.new.writer) played.seen played.replies played.total c.show.ensures
    c.in_ok-played.ensures.told c.in_ok-played.ensures.pairs tells c.in_ok-played.ensures.total
    c.in_err-write_all.ensures.part)
