use Rattle.std.proofs.Common.{◌≡◌, ◌-◌, ◌^◌, length, sym, ap, ◌∙◌, arith, refl, Option, Some}
use Rattle.tx_types.specs.declared.ts.Ts.{Ts}
use Rattle.byteorder.specs.Endian.{big_number}
use Rattle.tx_types.specs.declared.key.Key.{Key}
use Rattle.tx_codec.proofs.Versions.{version_parts, version_made, timestamp_is}
use Rattle.tx_codec.proofs.key.decode_version.Goals as goal

key_is : (a b : Key) → Some a ≡ Some b → a ≡ b
key_is a b e = cc

abbrev version : Key → Ts → Option (Key × Ts)
version key ts = Some (key, ts)

version_is : (a b : Key) (s t : Ts) → a ≡ b → s ≡ t → version a s ≡ version b t
version_is a b s t e f = ap (λ (k : Key). version k s) e ∙ ap (version b) f

pub returns-clause-found : goal.returns-clause-found
returns-clause-found c =
    let f = rw c.in-Some.is at c.in_ok-key.ensures.found in
    let n = length c.args.bytes.now - 8 in (
      f.0,
      version_made c.args.bytes.now c.in-Some.key
          c.new.result n (λ i. omega (arith, c.type_inv.bytes i)) (omega arith) refl (sym c.split_at.ensures.front
          ∙ f.1)
          (c.new.ensures ∙ ap (λ k. 2 ^ 64 - 1 - k) (c.read_u64.ensures ∙ ap (big_number 8) c.split_at.ensures.back)),
    )

pub returns-clause-only : goal.returns-clause-only
returns-clause-only c = λ key ts is lt e.
    let o = rw c.in-Some.is at c.in_ok-key.ensures.only in
    let n = length c.args.bytes.now - 8 in
    let parts = version_parts c.args.bytes.now key ts n (omega arith) refl e in
    let key-is = key_is c.in-Some.key key (o key is (c.split_at.ensures.front ∙ parts.0)) in
    let ts-is = c.new.ensures
    ∙ ap (λ k. 2 ^ 64 - 1 - k) c.read_u64.ensures
    ∙ timestamp_is c.split_at.result.1.now ts lt (c.split_at.ensures.back ∙ parts.1) in
    version_is c.in-Some.key key c.new.result ts key-is ts-is
