use Rattle.tx_codec.specs.Records.{IsWrite, write_bytes}
use Rattle.tx_codec.proofs.Parts.{Fails-whole}
use Rattle.tx_codec.proofs.records.decode_write.Goals as goal

pub returns-in-Err-Malformed-clause-only : goal.returns-in-Err-Malformed-clause-only
returns-in-Err-Malformed-clause-only c = λ rec is e.
    let fails = rw c.in-Err-Malformed.field-0-is at c.in-Err-Malformed.ensures in
    absurd (Fails-whole IsWrite write_bytes c.args.bytes.now fails rec is e)
