-- The room that a scan takes for the rows of a part before it asks for them.
use Rattle.std.specs.Prelude.{ℕ, ◌≡◌, ◌+◌, ◌<◌, ◌≤◌, length, Result, Ok, Vec, vec_len, vec_capacity}
use Rattle.tx_plan.specs.declared.body.Body.{Body}
use Rattle.tx_plan.specs.declared.body.Body.TheVariants as request
use Rattle.tx_plan.specs.declared.answer.Answer.{Answer}
use Rattle.tx_plan.specs.declared.answer.Answer.TheVariants as answer
use Rattle.tx_transaction.specs.declared.state.Miss.{Miss}

-- room for n elements more, where there is any
abbrev pub HasRoom : {X Z : Type 0} → Vec X Z → ℕ → Type 0
HasRoom v n = 0 < vec_len v → vec_len v + n ≤ vec_capacity v

-- a scan for at most n rows
abbrev pub IsScan : ℕ → Body → Type 0
IsScan n (request.Scan b) = b.limit ≡ n
IsScan n _ = ⊥

-- where rows are answered, they are at most n
abbrev pub HasUpto : ℕ → Result Answer Miss → Type 0
HasUpto n (Ok (answer.Rows found)) = length found ≤ n
HasUpto n _ = Unit {0}
