-- What a call gives of what came of its request.
use Rattle.std.specs.Prelude.{◌≡◌, ◌⊎◌, Option, Some, None, Result, Ok, Err}
use Rattle.tx_types.specs.declared.mutation.Mutation.{Mutation}
use Rattle.tx_types.specs.declared.mutation.Mutation.TheVariants as mutation
use Rattle.tx_plan.specs.declared.answer.Answer.{Answer}
use Rattle.tx_plan.specs.declared.answer.Answer.TheVariants as answer
use Rattle.tx_transaction.specs.declared.state.Miss.{Miss}
use Rattle.tx_transaction.specs.declared.state.Miss.TheVariants as miss

-- what came of a request: its answer, or why there is none
abbrev pub Response : Type 0
Response = Result Answer Miss

-- no answer to a request is no answer of the call
abbrev pub returned : Response → Result (Option Answer) Miss
returned (Err why) = Err why
returned (Ok a) = Ok (Some a)

-- what the buffer answers to a read
abbrev pub IsBuffered : Option Mutation → Option (Result Answer Miss) → Type 0
IsBuffered (Some (mutation.Put v)) r = (r ≡ Some (Err miss.Fault)) ⊎ (r ≡ Some (Ok (answer.Found v)))
IsBuffered (Some (mutation.Insert v)) r = (r ≡ Some (Err miss.Fault)) ⊎ (r ≡ Some (Ok (answer.Found v)))
IsBuffered (Some mutation.Delete) r = r ≡ Some (Ok answer.Nothing)
IsBuffered _ r = r ≡ None
