use Rattle.std.proofs.Common.{◌≡◌, ℕ, List, ◌+◌, length, take, get_or, arith, inl, inr, sym, ap, ◌∙◌}
use Rattle.std.proofs.lemmas.List.{length-take, get_or-take, take-take}
use Rattle.tx_codec.proofs.KeyReads.{IsRead-group, IsRead-stopped, IsRead-none, IsRead-long, IsRead-all, front_written}
use Rattle.tx_codec.proofs.key.read_key.Goals as goal
use Rattle.tx_codec.proofs.key.read_key.Goals.{then-group-via-then-group, then-group-via-else-group+then-len-gt-MAX_KEY_BYTES}

marker_is : (rest group : List ℕ) → group ≡ take 9 rest → get_or group 8 0 ≡ get_or rest 8 0
marker_is rest group e = ap (λ w. get_or w 8 0) e ∙ get_or-take 9 rest 8 0 (omega arith)

pub returns-then-group : goal.returns-then-group
returns-then-group c =
    let rest = c.loop-rest.rest.now in
    let front = take c.loop-rest.len c.loop-rest.key in
    let size = length-take c.loop-rest.len c.loop-rest.key in
    let marker = marker_is rest c.split_at.result.0.now c.split_at.ensures.front in
    IsRead-stopped c.args.bytes.now rest front c.loop-rest.invariant.1 c.loop-rest-test.true
    (elim c.then-group.branch [
      | then-group-via-then-group w ↦ inl (λ e. w.if-group.true (marker ∙ e))
      | then-group-via-else-group+then-len-gt-MAX_KEY_BYTES w ↦ inr (omega arith)
    ])

pub loop-rest-preserved : goal.loop-rest-preserved
loop-rest-preserved c =
    let rest = c.loop-rest.rest.now in
    let marker = sym (marker_is rest c.split_at.result.0.now c.split_at.ensures.front) ∙ c.if-group.false in
    let part : c.copy_from_slice.new.self ≡ take 8 rest = c.copy_from_slice.ensures.after
    ∙ ap (take 8) c.split_at.ensures.front ∙ take-take 8 9 rest (omega arith) in
    let written = front_written c.loop-rest.key c.copy_from_slice.new.self c.loop-rest.len (c.loop-rest.len + 8)
    (omega arith) (omega (arith, ap length part, length-take 8 rest)) in (
      c.if-len-gt-MAX_KEY_BYTES.false,
      rw (written, part, c.split_at.ensures.back)
          (IsRead-group c.args.bytes.now rest (take c.loop-rest.len c.loop-rest.key)
          (omega arith) marker c.loop-rest.invariant.1),
    )

pub returns-in_err-part : goal.returns-in_err-part
returns-in_err-part c =
    rw c.from_residual.ensures (λ other fits. IsRead-none c.args.bytes.now
    c.loop-rest.rest.now (take c.loop-rest.len c.loop-rest.key) c.loop-rest.invariant.1
    (omega arith) c.in_err-part.ensures other)

pub returns-then-part-len : goal.returns-then-part-len
returns-then-part-len c =
    IsRead-long c.args.bytes.now c.loop-rest.rest.now (take c.loop-rest.len c.loop-rest.key) c.in_ok-part.part.now
    c.loop-rest.invariant.1 (omega arith) c.in_ok-part.ensures.0 c.in_ok-part.ensures.1
    (omega (arith, length-take c.loop-rest.len c.loop-rest.key))

pub returns : goal.returns
returns c =
    let part = c.in_ok-part.part.now in
    let n = c.loop-rest.len + length part in
    let same : c.copy_from_slice-2.new.self ≡ part = c.copy_from_slice-2.ensures.after in
    let written = front_written c.loop-rest.key c.copy_from_slice-2.new.self c.loop-rest.len n (omega arith)
    (omega (arith, ap length same)) in (
      omega arith,
      rw (written, same) (IsRead-all c.args.bytes.now c.loop-rest.rest.now
          (take c.loop-rest.len c.loop-rest.key) part c.loop-rest.invariant.1 c.in_ok-part.ensures.0
          c.in_ok-part.ensures.1),
    )
