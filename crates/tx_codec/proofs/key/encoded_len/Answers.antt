use Rattle.std.proofs.Common.{sym}
use Rattle.tx_codec.proofs.Groups.{encoded_key-length}
use Rattle.tx_codec.proofs.key.encoded_len.Goals as goal

pub returns-clause-len : goal.returns-clause-len
returns-clause-len c = sym (encoded_key-length c.args.key.now)
