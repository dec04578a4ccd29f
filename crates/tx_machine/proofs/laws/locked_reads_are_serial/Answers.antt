use Rattle.tx_machine.proofs.Inserts.{alone}
use Rattle.tx_machine.proofs.Serial.{sees_until, read_until, scanned_until}
use Rattle.tx_machine.proofs.laws.locked_reads_are_serial.Goals as goal

pub returns : goal.returns
returns c = record { alone = alone; sees = sees_until; reads = read_until; scans = scanned_until }
