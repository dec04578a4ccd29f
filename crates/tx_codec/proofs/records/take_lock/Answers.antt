use Rattle.std.proofs.lemmas.Result.{err_from_is_err_and}
use Rattle.tx_codec.proofs.LockParts.{head_read, ttl_fails, primary_fails, others_fails, mutation_fails, lock_taken}
use Rattle.tx_codec.proofs.records.take_lock.Goals as goal

pub returns-in_err-ttl : goal.returns-in_err-ttl
returns-in_err-ttl c =
    let p = err_from_is_err_and c.from_residual-in_err-ttl.result c.from_residual-in_err-ttl.ensures.1 in
    let fails = ttl_fails c.args.bytes.now
    c.in_ok-kind.ensures c.in_ok-mode.ensures c.in_ok-start.ensures c.in_ok-min.ensures c.in_err-ttl.field-0.0
    c.in_err-ttl.ensures in
    rw (p.1, p.2) fails

pub returns-in_err-primary : goal.returns-in_err-primary
returns-in_err-primary c =
    let p = err_from_is_err_and c.from_residual-in_err-primary.result c.from_residual-in_err-primary.ensures.1 in
    let head = head_read c.args.bytes.now c.in_ok-kind.ensures c.in_ok-mode.ensures c.in_ok-start.ensures
    c.in_ok-min.ensures c.in_ok-ttl.ensures in
    let fails = primary_fails head c.in_err-primary.field-0.0 c.in_err-primary.ensures in
    rw (p.1, p.2) fails

pub returns-in_err-mode-2 : goal.returns-in_err-mode-2
returns-in_err-mode-2 c =
    let p = err_from_is_err_and c.from_residual-in_err-mode-2.result c.from_residual-in_err-mode-2.ensures.1 in
    let head = head_read c.args.bytes.now c.in_ok-kind.ensures c.in_ok-mode.ensures c.in_ok-start.ensures
    c.in_ok-min.ensures c.in_ok-ttl.ensures in
    let fails = others_fails head c.in_ok-primary.primary c.in_ok-primary.ensures c.in_err-mode-2.field-0.0
    c.in_err-mode-2.ensures in
    rw (p.1, p.2) fails

pub returns-in_err-mutation : goal.returns-in_err-mutation
returns-in_err-mutation c =
    let p = err_from_is_err_and c.from_residual-in_err-mutation.result c.from_residual-in_err-mutation.ensures.1 in
    let head = head_read c.args.bytes.now c.in_ok-kind.ensures c.in_ok-mode.ensures c.in_ok-start.ensures
    c.in_ok-min.ensures c.in_ok-ttl.ensures in
    let fails = mutation_fails head c.in_ok-primary.primary
    c.in_ok-primary.ensures c.in_ok-mode-2.mode c.in_ok-mode-2.ensures c.in_err-mutation.field-0.0
    c.in_err-mutation.ensures in
    rw (p.1, p.2) fails

pub returns : goal.returns
returns c =
    let head = head_read c.args.bytes.now c.in_ok-kind.ensures c.in_ok-mode.ensures c.in_ok-start.ensures
    c.in_ok-min.ensures c.in_ok-ttl.ensures in
    let taken = lock_taken head c.in_ok-start.ensures.is c.in_ok-min.ensures.is c.in_ok-ttl.ensures.is
    c.in_ok-primary.primary c.in_ok-primary.ensures c.in_ok-mode-2.mode c.in_ok-mode-2.ensures
    c.in_ok-mutation.mutation c.in_ok-mutation.ensures in
    rw (c.new.ensures, c.new-2.ensures) taken
