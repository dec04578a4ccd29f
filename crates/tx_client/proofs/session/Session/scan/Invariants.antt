use Rattle.tx_client.specs.Walks.{Continues, scan_walk}
use Rattle.tx_client.proofs.Scans.{scan_left}
use Rattle.tx_client.proofs.session.Session.scan.Given as goal

-- what is left of the scan
abbrev pub invariant-loop-n : goal.invariant-loop-n
invariant-loop-n g l = Continues g.S.Sender.sends g.J.JournalId.bounds l.initial.self.seat l.initial.sender
    (scan_walk l.initial.self.state g.J.JournalId.bounds l.from l.to l.limit) l.self.seat l.sender
    (scan_left l.from l.to l.limit l.from g.J.JournalId.bounds l.n l.self.state l.rows)
