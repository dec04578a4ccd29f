-- Which lines of a session are answered.
use Rattle.std.specs.Prelude.{◌≡◌, ℕ, [], ◌∷◌, ◌++◌, map, List, Bool, true, false, None, Ok, Err}
use Rattle.std.specs.List.{list_any}
use Rattle.tx_workload.specs.declared.reply.LineAnswer.{LineAnswer}
use Rattle.tx_workload.specs.declared.reply.LineAnswer.TheVariants.{Plain, Ended}
use Rattle.tx_workload.specs.declared.reply.LineReply.{LineReply}
use Rattle.tx_workload.specs.Outcomes.{start_of}

-- a fault of the script
abbrev pub is_fault : LineAnswer → Bool
is_fault (Plain (Err cause)) = true
is_fault (Plain (Ok plain)) = false
is_fault (Ended start o keys) = false

-- whether one of these answers is a fault
abbrev pub has_fault : List LineReply → Bool
has_fault replies = list_any (λ s. is_fault s.answer) replies

-- neither an outcome nor a fault
abbrev pub IsReply : LineAnswer → Type 0
IsReply answer = (start_of answer ≡ None) × (is_fault answer ≡ false)

-- the numbers of the lines that were answered
abbrev pub numbers_of : List LineReply → List ℕ
numbers_of replies = map (λ s. s.number) replies

-- where a fault ended a session, it is its last answer and its only fault; else none is one
abbrev pub EndsSo : Bool → List LineReply → Type 0
EndsSo false replies = has_fault replies ≡ false
EndsSo true replies = (front : List LineReply) × (last : LineReply)
    × (replies ≡ front ++ last ∷ []) × (has_fault front ≡ false) × (is_fault last.answer ≡ true)

-- Each of these lines was answered, in order and once, up to a fault of the script: those behind it
-- were not. With no fault all were.
pub record Answers (lines : List ℕ) (faulted : Bool) (replies : List LineReply) : Type 0 where
  pub behind : List ℕ
  pub order : lines ≡ numbers_of replies ++ behind
  pub whole : faulted ≡ false → behind ≡ []
  pub ends : EndsSo faulted replies
