use Rattle.tx_plan.proofs.Sound.{sound_changed, sound_put, sound_kept}
use Rattle.tx_plan.proofs.laws.cells_stay_sound.Goals as goal

pub returns : goal.returns
returns c = record { change = sound_changed; prewrite = sound_put; collection = sound_kept }
