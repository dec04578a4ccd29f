use Rattle.tx_progress.proofs.Calls.{scan_few, read_few, gc_few}
use Rattle.tx_progress.proofs.KeyLists.{lists_fewer}
use Rattle.tx_progress.proofs.requests.requests_are_few.Goals as goal

pub returns-clause-scan : goal.returns-clause-scan
returns-clause-scan c = scan_few

pub returns-clause-resolve : goal.returns-clause-resolve
returns-clause-resolve c met at now locks others = read_few locks others met at now

pub returns-clause-gc : goal.returns-clause-gc
returns-clause-gc c bounds safe locks others = gc_few locks others bounds safe

pub returns-clause-lists : goal.returns-clause-lists
returns-clause-lists c = lists_fewer
