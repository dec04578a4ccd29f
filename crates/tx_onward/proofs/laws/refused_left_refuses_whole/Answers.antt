-- What explains the whole explains what is left.
use Rattle.tx_onward.proofs.Wholes.{explains_left}
use Rattle.tx_onward.proofs.laws.refused_left_refuses_whole.Goals as goal

pub returns : goal.returns
returns c r told left asked l refused x (e, serial) =
    refused x (explains_left r left told l x asked.orders e, serial)
