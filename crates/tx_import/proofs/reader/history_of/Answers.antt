use Rattle.std.proofs.Common.{refl}
use Rattle.tx_import.proofs.Drafted.{recorded}
use Rattle.tx_import.proofs.reader.history_of.Goals as goal

pub returns-clause-recording : goal.returns-clause-recording
returns-clause-recording c =
    recorded c.args.draft _ c.requires.fits c.requires.few refl refl refl c.len-keys.ensures.len
    c.len-values.ensures.len

pub returns-clause-history : goal.returns-clause-history
returns-clause-history c = λ said drafted. record {
  recording = recorded c.args.draft _ c.requires.fits c.requires.few refl refl refl c.len-keys.ensures.len
      c.len-values.ensures.len;
  keys = c.len-keys.ensures.len;
  values = c.len-values.ensures.len;
  keys_apart = c.len-keys.ensures.apart;
  values_apart = c.len-values.ensures.apart;
  processes_apart = c.len.ensures.apart;
  transactions = drafted;
}
