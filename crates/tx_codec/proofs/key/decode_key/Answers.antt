use Rattle.std.proofs.Common.{length, sym, ap, ◌∙◌, arith, Some}
use Rattle.std.proofs.lemmas.List.{length-take}
use Rattle.tx_codec.proofs.Versions.{encoded_key-one}
use Rattle.tx_codec.proofs.key.decode_key.Goals as goal

pub returns-then-len-lt-MIN_KEY_BYTES-clause-only : goal.returns-then-len-lt-MIN_KEY_BYTES-clause-only
returns-then-len-lt-MIN_KEY_BYTES-clause-only c = λ key is e.
    let same = encoded_key-one _ key (sym c.in-Some.ensures.1 ∙ e) in
    absurd (omega (arith, ap length same, length-take c.in-Some.len c.read_key.new.key))

pub returns-clause-only : goal.returns-clause-only
returns-clause-only c = λ key is e.
    ap Some (c.in_ok-new.ensures.ok ∙ encoded_key-one _ key (sym c.in-Some.ensures.1 ∙ e))
