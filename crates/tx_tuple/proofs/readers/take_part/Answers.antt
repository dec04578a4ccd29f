use Rattle.std.proofs.Common.{◌∷◌, ◌++◌, ◌-◌, List, ℕ, length, take, drop, ap, sym, ◌∙◌, true≢false}
use Rattle.std.proofs.lemmas.Str.{IsUtf8-string_bytes}
use Rattle.tx_tuple.specs.Tuples.{ended}
use Rattle.tx_tuple.proofs.Fronts.{no_text, no_signed, no_unsigned, first_is}
use Rattle.tx_tuple.proofs.readers.take_part.Goals as goal

pub returns-in_default-from_utf8 : goal.returns-in_default-from_utf8
returns-in_default-from_utf8 c =
    let bytes = c.args.bytes.now in
    let read = rw c.in-Some-2.is at c.in_ok-bytes-in-2.ensures in
    no_text bytes (take (length bytes - 1) (drop 1 bytes)) c.in-Some-2.bytes.items c.in-Some-2.rest.now
    (first_is bytes 2 c.in-len1-up.len_at_least c.in-2.is) read
    (λ is. true≢false (sym (c.in_default-from_utf8.ensures.succeeds is)))

pub returns-in_default-take_number : goal.returns-in_default-take_number
returns-in_default-take_number c =
    let bytes = c.args.bytes.now in
    no_signed bytes (take (length bytes - 1) (drop 1 bytes)) (first_is bytes 3 c.in-len1-up.len_at_least c.in-3.is)
    c.in_default-take_number.ensures

pub returns-in_default-take_number-2 : goal.returns-in_default-take_number-2
returns-in_default-take_number-2 c =
    let bytes = c.args.bytes.now in
    no_unsigned bytes (take (length bytes - 1) (drop 1 bytes)) (first_is bytes 4 c.in-len1-up.len_at_least c.in-4.is)
    c.in_default-take_number-2.ensures

pub returns-in-Ok : goal.returns-in-Ok
returns-in-Ok c =
    let bytes = c.args.bytes.now in
    let read = rw c.in-Some-2.is at c.in_ok-bytes-in-2.ensures in (
      IsUtf8-string_bytes c.in-Ok.text,
      first_is bytes 2 c.in-len1-up.len_at_least c.in-2.is ∙ ap (λ (w : List ℕ). 2 ∷ w) read
          ∙ ap (λ v. 2 ∷ (ended v.items ++ c.in-Some-2.rest.now)) (sym c.in-Ok.ensures.ok),
    )
