-- The lines of a history that were read, and the draft of what they say.
use Rattle.std.proofs.Common.{◌≡◌, ℕ, suc, ◌+◌, ◌^◌, ◌<◌, ◌≤◌, ◌↔◌, Bool, true, false, nat_lt, if◌then◌else◌, IsTrue, true≢false, List, [], ◌∷◌, ◌++◌, length, Option, Some, None, IfSome, Ok, Err, refl, sym, ap, subst, ◌∙◌, append_assoc, append-nil, add-zero, length-append, arith, inl, inr}
use Rattle.std.specs.Str.{is_utf8}
use Rattle.std.proofs.lemmas.Bool.{cases_lt}
use Rattle.serde_json.specs.Data.{Data}
use Rattle.serde_json.specs.Read.{read}
use Rattle.tx_types.specs.declared.fault.Cause.{Cause}
use Rattle.tx_types.specs.declared.fault.Cause.TheVariants.{Long, Lines}
use Rattle.tx_text.specs.Lines.{max_line, max_lines, lines_of}
use Rattle.tx_import.specs.declared.line_content.SaidTransaction.{SaidTransaction}
use Rattle.tx_import.specs.declared.draft.Draft.{Draft}
use Rattle.tx_import.specs.declared.reader.NamedHistory.{NamedHistory}
use Rattle.tx_import.specs.declared.reader.HistoryTurn.TheVariants as turn
use Rattle.tx_import.specs.Drafts.{held, IsDraftOf}
use Rattle.tx_import.specs.Histories.{said_in, or_json, Says, Say, total, IsHistory, IsHistoryOf, SayUpTo, IsFault, IsFaultOf}
use Rattle.tx_import.specs.Turns.{HistoryTurns, Refuses}
use Rattle.tx_import.proofs.Drafted.{draft_adds}

pub if_some : {X : Type 0} {P Q : X → Type 0} (o : Option X) → ((x : X) → P x → Q x) → IfSome o P → IfSome o Q
if_some None f h = tt
if_some (Some x) f h = f x h

-- a line that says a transaction is UTF-8
pub says_text : (number : ℕ) (line : List ℕ) (t : SaidTransaction) → said_in number line ≡ Ok t → is_utf8 line ≡ true
says_text number line t is =
    go (nat_lt max_line (length line)) (nat_lt max_lines number) (is_utf8 line) (read line) is
  where
    go : (long late text : Bool) (o : Option Data) → (if long then Err Long else (if late then Err Lines
        else or_json number (if text then o else None))) ≡ Ok t → text ≡ true
    go true late text o e = cc
    go false true text o e = cc
    go false false true o e = refl
    go false false false o e = cc

-- the lines before those that are left say what the draft holds
pub record SoFar (input : List ℕ) (left : Option (List ℕ)) (d : Draft) (number : ℕ) : Type 0 where
  pub rest : List ℕ
  pub before : List (List ℕ)
  pub said : List SaidTransaction
  pub is_left : left ≡ Some rest
  pub split : lines_of input ≡ before ++ lines_of rest
  pub counted : length before ≡ number
  pub says : Say 1 before said
  pub drafted : IsDraftOf d said
  pub held_is : held d ≡ total said

pub so_far : (known : Option (List ℕ)) (d : Draft) → IsDraftOf d [] → held d ≡ 0
    → IfSome known (λ input. SoFar input known d 0)
so_far None d none zero = tt
so_far (Some input) d none zero = record {
  rest = input;
  before = [];
  said = [];
  is_left = refl;
  split = refl;
  counted = refl;
  says = tt;
  drafted = none;
  held_is = zero;
}

-- there is no room where the test says so
pub no_room : (b : Bool) (n : ℕ) → (IsTrue b ↔ (n < 2 ^ 32)) → b ≡ false → 2 ^ 32 ≤ n
no_room b n test full =
    elim (cases_lt n (2 ^ 32)) [
      | inl few ↦ absurd (true≢false (sym (test.1 few) ∙ full))
      | inr much ↦ much
    ]

-- what holds of the bytes that are left
left_at : (P : List ℕ → Type 0) (left : Option (List ℕ)) (rest : List ℕ) → left ≡ Some rest → IfSome left P → P rest
left_at P left rest is turns = subst (λ o. IfSome o P) is turns

-- one more line says one more transaction
Say-more : (number : ℕ) (lines : List (List ℕ)) (ts : List SaidTransaction) (line : List ℕ) (t : SaidTransaction)
    → Say number lines ts → Says (number + length lines) line t
    → Say number (lines ++ line ∷ []) (ts ++ t ∷ [])
Say-more number [] [] line t says is = (subst (λ n. Says n line t) (add-zero number) is, tt)
Say-more number [] (s ∷ ts) line t says is = absurd says
Say-more number (l ∷ lines) [] line t says is = absurd says
Say-more number (l ∷ lines) (s ∷ ts) line t says is =
    let place : number + suc (length lines) ≡ (number + 1) + length lines = omega arith in
    (says.0, Say-more (number + 1) lines ts line t says.1 (subst (λ n. Says n line t) place is))

total-append : (xs ys : List SaidTransaction) → total (xs ++ ys) ≡ total xs + total ys
total-append [] ys = omega arith
total-append (x ∷ xs) ys = omega (arith, total-append xs ys)

module _ {input : List ℕ} {left : Option (List ℕ)} {d : Draft} {number : ℕ} (soon : SoFar input left d number)
    (left' : Option (List ℕ)) (next : Draft) where
  at_rest : (t : _) → IfSome left (λ bytes. HistoryTurns bytes left' d next (number + 1) t)
      → HistoryTurns soon.rest left' d next (number + 1) t
  at_rest t turns = left_at (λ bytes. HistoryTurns bytes left' d next (number + 1) t) left soon.rest soon.is_left turns

  -- at the end all lines were read
  pub ended : (h : NamedHistory) → ((said : List SaidTransaction) → IsDraftOf next said → IsHistory h said)
      → IfSome left (λ bytes. HistoryTurns bytes left' d next (number + 1) turn.End) → IsHistoryOf (lines_of input) h
  ended h is turns =
      let found = at_rest turn.End turns in
      let all : lines_of input ≡ soon.before =
      soon.split ∙ ap (λ r. soon.before ++ lines_of r) found.0 ∙ append-nil soon.before in
      let drafted : IsDraftOf next soon.said = subst (λ e. IsDraftOf e soon.said) (sym found.1) soon.drafted in
      (soon.said, subst (λ ls. Say 1 ls soon.said) (sym all) soon.says, is soon.said drafted)

  -- the line that is next
  reached : (line : List ℕ) (more : List (List ℕ)) → lines_of soon.rest ≡ line ∷ more
      → SayUpTo (lines_of input) (number + 1) line soon.said
  reached line more is = record {
    before = soon.before;
    more = more;
    split = soon.split ∙ ap (λ ls. soon.before ++ ls) is;
    numbered = ap (λ n. n + 1) (sym soon.counted);
    says = soon.says;
  }

  fault_of : (line : List ℕ) (cause : Cause) → Refuses d (number + 1) line cause
      → IsFault line soon.said (record { number = number + 1; cause = cause })
  fault_of line cause (inl none) = inl none
  fault_of line cause (inr (t, is, much, lines)) = inr (t, is, omega (arith, much, soon.held_is), lines)

  pub faulted : (cause : Cause)
      → IfSome left (λ bytes. HistoryTurns bytes left' d next (number + 1) (turn.Faulted cause))
      → IsFaultOf (lines_of input) (record { number = number + 1; cause = cause })
  faulted cause turns =
      let found = at_rest (turn.Faulted cause) turns in
      (found.0, soon.said, reached found.0 found.1 found.2, fault_of found.0 cause found.3)

  pub put : IfSome left (λ bytes. HistoryTurns bytes left' d next (number + 1) turn.Put)
      → SoFar input left' next (number + 1)
  put turns =
      let found = at_rest turn.Put turns in
      let line = found.0 in
      let said = found.2 in
      let adds = found.6 in
      let place : number + 1 ≡ 1 + length soon.before = omega (arith, soon.counted) in
      let sum = total-append soon.said (said ∷ []) in
      record {
        rest = found.1;
        before = soon.before ++ line ∷ [];
        said = soon.said ++ said ∷ [];
        is_left = found.3;
        split = soon.split ∙ ap (λ ls. soon.before ++ ls) found.4
            ∙ sym (append_assoc soon.before (line ∷ []) (lines_of found.1));
        counted = length-append soon.before (line ∷ []) ∙ ap (λ n. n + 1) soon.counted;
        says = Say-more 1 soon.before soon.said line said soon.says
            (subst (λ n. Says n line said) place found.5);
        drafted = draft_adds d next soon.said said adds.grows adds.adds soon.drafted;
        held_is = omega (arith, adds.held_is, soon.held_is, sum);
      }
