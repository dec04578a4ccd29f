use Rattle.tx_html.proofs.Safe.{is_data}
use Rattle.tx_html.proofs.shield.shielded_is_data.Goals as goal

pub returns : goal.returns
returns c = is_data
