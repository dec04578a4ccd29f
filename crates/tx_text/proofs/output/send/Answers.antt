use Rattle.std.proofs.Common.{ℕ, ◌+◌, ◌≡◌, List, length, take, drop, Option, Result, Ok, Err, take-add, subst, sym}
use Rattle.std.specs.Prelude.{OnErr}
use Rattle.std.proofs.KnownBytes.{Appends-trans}
use Rattle.std.specs.Io.KnownBytes.{Appends}
use Rattle.tx_text.specs.Output.{AppendsPart}
use Rattle.tx_text.proofs.TextLines.{slice-end}
use Rattle.tx_text.proofs.output.send.Goals as goal

on_err : {T E : Type 0} (r : Result T E) (P Q : Type 0) → (P → Q) → OnErr r P → OnErr r Q
on_err (Ok t) P Q f p = tt
on_err (Err e) P Q f p = f p

-- a first write took the first few bytes, and others a part of the rest
part_of : (old mid new : Option (List ℕ)) (n : ℕ) (bs : List ℕ) → Appends old mid (take n bs)
    → AppendsPart mid new (drop n bs) → AppendsPart old new bs
part_of old mid new n bs first (m, rest) =
    (n + m, subst (Appends old new) (sym (take-add n m bs)) (Appends-trans _ _ _ _ _ first rest))

pub returns-in-Ok-2-clause-part : goal.returns-in-Ok-2-clause-part
returns-in-Ok-2-clause-part g c =
    let bs = c.args.bytes.now in
    let n = c.in-Ok.n in
    on_err c.send_rest.result _ _ (λ rest. part_of _ _ _ n bs c.in-Ok.ensures.bytes
    (subst (AppendsPart (g.W.Write.contents c.write.new.self) (g.W.Write.contents c.send_rest.new.writer))
    (slice-end bs n) rest)) c.send_rest.ensures.part
