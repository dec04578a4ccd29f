-- A transaction of no session, which declares two keys and prewrites the second alone.
use Rattle.std.specs.Prelude.{ℕ, [], ◌∷◌, None}
use Rattle.tx_types.specs.declared.key.Key.{Key}
use Rattle.tx_types.specs.declared.mutation.Mutation.TheVariants.{Delete}
use Rattle.tx_types.specs.declared.mutation.Mode.TheVariants.{TwoPhase}
use Rattle.tx_plan.specs.declared.body.Body.{Body}
use Rattle.tx_plan.specs.declared.body.Body.TheVariants as body
use Rattle.tx_core.specs.declared.event.Declaration.{Declaration}

-- what it declares, with a number that it drew: in two phases it deletes both
abbrev pub both_of : ℕ → ℕ → Key → Key → Declaration
both_of t placed first second = record {
  start = t;
  changes = record { key = first; mutation = Delete } ∷ record { key = second; mutation = Delete } ∷ [];
  mode = TwoPhase;
  ttl = 10;
  max_commit = None;
  drawn = placed;
}

-- the prewrite of the second
abbrev pub second_of : ℕ → Key → Key → Body
second_of t first second = body.Prewrite record {
  key = second;
  mutation = Delete;
  start = t;
  primary = first;
  mode = TwoPhase;
  max_commit = None;
  floor = 0;
  ttl = 10;
  others = [];
}
