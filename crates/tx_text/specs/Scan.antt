-- How a scan of a line stands to its lexemes. Only this crate's own clauses cite it.
use Rattle.std.specs.Prelude.{◌≡◌, ◌⊎◌, ℕ, List, [], ◌∷◌, map, Some}
use Rattle.serde_json.specs.Data.{Data, string, number, unsigned, null}
use Rattle.serde_json.specs.Read.{number_of}
use Rattle.json.specs.Token.{Token, begin_array, end_array}
use Rattle.json.specs.Lex.{Lexeme, token, comma, between, in_string, lex}
use Rattle.json.specs.Text.{content, plain, prepend}
use Rattle.tx_text.specs.declared.part.Part.{Part}
use Rattle.tx_text.specs.declared.row_list.ListItem.{ListItem}
use Rattle.tx_text.specs.declared.row_list.ListItem.TheVariants.{Pair, Triple}
use Rattle.tx_text.specs.Parts.{part_data}

-- within a string, xs goes on as ys past the bytes s, which stand for themselves
pub record Runs (xs s ys : List ℕ) : Type 0 where
  pub content : content plain xs ≡ prepend s (content plain ys)
  pub lexemes : lex in_string xs ≡ lex in_string ys

-- xs and ys have the same lexemes
abbrev pub Same : List ℕ → List ℕ → Type 0
Same xs ys = lex between xs ≡ lex between ys

-- the lexeme l comes first in xs, and then those of ys
abbrev pub Begins : List ℕ → Lexeme → List ℕ → Type 0
Begins xs l ys = lex between xs ≡ l ∷ lex between ys

-- a number that reads as n comes first in xs, and then the lexemes of ys
abbrev pub BeginsNumber : List ℕ → ℕ → List ℕ → Type 0
BeginsNumber xs n ys = (digits : List ℕ) × Begins xs (token (Token.number digits)) ys
    × (number_of digits ≡ Some (unsigned n))

-- a number or a word may end before this byte: a comma, a bracket or a space
abbrev pub EndsWord : ℕ → Type 0
EndsWord y = (y ≡ 44) ⊎ ((y ≡ 93) ⊎ (y ≡ 32))

-- a string, the digits of a number with its value, or null
pub data Leaf : Type 0 where
  text : (s : List ℕ) → Leaf
  digits : (s : List ℕ) (n : ℕ) (reads : number_of s ≡ Some (unsigned n)) → Leaf
  none : Leaf

-- its token, and the value that it stands for
abbrev pub leaf_token : Leaf → Token
leaf_token (text s) = Token.string s
leaf_token (digits s n reads) = Token.number s
leaf_token none = Token.null

abbrev pub leaf_data : Leaf → Data
leaf_data (text s) = string s
leaf_data (digits s n reads) = number (unsigned n)
leaf_data none = null

-- this part comes first in xs, and then the lexemes of ys
abbrev pub BeginsPart : List ℕ → Part → List ℕ → Type 0
BeginsPart xs part ys = (leaf : Leaf) × Begins xs (token (leaf_token leaf)) ys × (leaf_data leaf ≡ part_data part)

-- the lexemes of members with a comma after each, and what comes then
abbrev pub before : List Leaf → List Lexeme → List Lexeme
before [] rest = rest
before (l ∷ ls) rest = token (leaf_token l) ∷ comma ∷ before ls rest

-- these parts were read up to here, a comma after each
pub record ReadParts (line : List ℕ) (parts : List Part) (left : List ℕ) : Type 0 where
  pub leaves : List Leaf
  pub same : map leaf_data leaves ≡ map part_data parts
  pub lexed : lex between line ≡ token begin_array ∷ before leaves (lex between left)

-- the lexemes of a row, and what comes then
abbrev pub row_lexemes : ListItem → List Lexeme → List Lexeme
row_lexemes (Pair a b) rest = token begin_array ∷ token (Token.string a.now) ∷ comma ∷ token (Token.string b.now)
    ∷ token end_array ∷ rest
row_lexemes (Triple a b c) rest = token begin_array ∷ token (Token.string a.now) ∷ comma ∷ token (Token.string b.now)
    ∷ comma ∷ token (Token.string c.now) ∷ token end_array ∷ rest

-- the lexemes of rows with a comma between them, the bracket after them, and what comes then
abbrev pub rows_lexemes : List ListItem → List Lexeme → List Lexeme
rows_lexemes [] rest = token end_array ∷ rest
rows_lexemes (r ∷ []) rest = row_lexemes r (token end_array ∷ rest)
rows_lexemes (r ∷ s ∷ rows) rest = row_lexemes r (comma ∷ rows_lexemes (s ∷ rows) rest)

-- this row comes first in xs, and then the lexemes of ys
abbrev pub BeginsRow : List ℕ → ListItem → List ℕ → Type 0
BeginsRow xs row ys = lex between xs ≡ row_lexemes row (lex between ys)

-- the array of these rows comes first in xs, and then the lexemes of ys
abbrev pub BeginsRows : List ℕ → List ListItem → List ℕ → Type 0
BeginsRows xs rows ys = lex between xs ≡ token begin_array ∷ rows_lexemes rows (lex between ys)
