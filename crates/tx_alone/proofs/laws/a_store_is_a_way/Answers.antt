use Rattle.tx_alone.proofs.CountedWalks.{acts_make, made_acts}
use Rattle.tx_alone.proofs.laws.a_store_is_a_way.Goals as goal

pub returns : goal.returns
returns c = record {
  acts = acts_make;
  acted = made_acts;
  calls = λ bounds name what delivery old new said sent. sent;
  called = λ bounds name what delivery old new said made. made;
}
