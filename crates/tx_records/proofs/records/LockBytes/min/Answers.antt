use Rattle.std.proofs.Common.{◌≡◌, ℕ, ◌-◌, ◌^◌, ◌<◌, List, length, take, drop, sym, ap, ◌∙◌}
use Rattle.std.proofs.lemmas.List.{length-drop}
use Rattle.std.proofs.Math.Seq.{take-length}
use Rattle.byteorder.specs.Endian.{big_number}
use Rattle.tx_types.specs.declared.lock.LockRec.{LockRec}
use Rattle.tx_codec.specs.Records.{lock_bytes}
use Rattle.tx_codec.proofs.Words.{again_8}
use Rattle.tx_records.proofs.records.LockBytes.min.Goals as goal

behind : (bytes : List ℕ) (rec : LockRec) → bytes ≡ lock_bytes rec → rec.min < 2 ^ 64
    → big_number 8 (take (length bytes - 10) (drop 10 bytes)) ≡ rec.min
behind bytes rec e lt =
    ap (λ n. big_number 8 (take n (drop 10 bytes))) (sym (length-drop 10 bytes))
    ∙ ap (big_number 8) (take-length (drop 10 bytes)) ∙ ap (λ (x : List ℕ). big_number 8 (drop 10 x)) e
    ∙ again_8 rec.min lt

pub returns : goal.returns
returns c =
    let rec = c.self.inside.rec in
    c.new.ensures ∙ c.read_u64.ensures
    ∙ ap (λ (x : List ℕ). big_number 8 (take (length x - 10) (drop 10 x))) c.as_slice.ensures.value
    ∙ behind c.self.inside.bytes.items rec.0 rec.1.1 rec.1.0.min
    ∙ ap (λ (x : LockRec). x.min) c.self.view_is
