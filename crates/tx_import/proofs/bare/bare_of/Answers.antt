-- The same recording, but for such transactions.
use Rattle.std.proofs.Common.{refl}
use Rattle.tx_recording.specs.declared.recording.Recording.{Recording}
use Rattle.tx_import.proofs.Bares.{bare_recording, bare_in_turn}
use Rattle.tx_import.proofs.bare.bare_of.Goals as goal

pub returns-clause-recording : goal.returns-clause-recording
returns-clause-recording c = bare_recording c.args.history.recording _ c.requires record {
  ops = refl;
  elements = refl;
  keys = refl;
  values = refl;
  transactions = c.in_ok-transactions.ensures;
}

pub returns-clause-in_turn : goal.returns-clause-in_turn
returns-clause-in_turn c in_turn =
    let r = c.args.history.recording in
    let b : Recording = record {
      transactions = c.in_ok-transactions.transactions;
      ops = r.ops;
      elements = r.elements;
      keys = r.keys;
      values = r.values;
    } in
    bare_in_turn r b c.requires record {
      ops = refl;
      elements = refl;
      keys = refl;
      values = refl;
      transactions = c.in_ok-transactions.ensures;
    } in_turn
