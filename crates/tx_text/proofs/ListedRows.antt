-- The value of an array whose last member is a list of rows, by its lexemes.
use Rattle.std.proofs.Common.{◌≡◌, ◌<◌, ℕ, zero, suc, List, [], ◌∷◌, ◌++◌, map, length, Some, refl, sym, ap, ◌∙◌, arith}
use Rattle.json.specs.Token.{Token, begin_array, end_array}
use Rattle.json.specs.Lex.{Lexeme, token, comma, between, lex, fresh, after_comma, punctuate}
use Rattle.json.specs.Json as json
use Rattle.json.specs.Json.{items, value, parse_map}
use Rattle.serde_json.specs.Read.{read, of_items}
use Rattle.serde_json.specs.Data.{array, item}
use Rattle.serde_json.specs.View.{items_of}
use Rattle.std.specs.Prelude.{option_map}
use Rattle.tx_text.specs.declared.part.Part.{Part}
use Rattle.tx_text.specs.declared.row_list.ListItem.{ListItem}
use Rattle.tx_text.specs.declared.row_list.ListItem.TheVariants.{Pair, Triple}
use Rattle.tx_text.specs.Parts.{row_data, listed_items}
use Rattle.tx_text.specs.Scan.{Same, Begins, before, ReadParts, row_lexemes, rows_lexemes, BeginsRow, BeginsRows}
use Rattle.tx_text.proofs.Lexemes.{bracket_opens, bracket_closes, comma_between}
use Rattle.tx_text.proofs.Leaves.{Last, reads_as, data_is}

-- ---- one row

pub pair_begins : (xs p q r s ys : List ℕ) (a b : List ℕ) → Same xs (91 ∷ p) → Begins p (token (Token.string a)) q
    → Same q (44 ∷ r) → Begins r (token (Token.string b)) s → Same s (93 ∷ ys)
    → lex between xs ≡ token begin_array ∷ token (Token.string a) ∷ comma ∷ token (Token.string b) ∷ token end_array
    ∷ lex between ys
pair_begins xs p q r s ys a b opens first next second closes =
    bracket_opens xs p opens ∙ ap (λ l. token begin_array ∷ l) (
    first ∙ ap (λ l. token (Token.string a) ∷ l) (
    comma_between q r next ∙ ap (λ l. comma ∷ l) (
    second ∙ ap (λ l. token (Token.string b) ∷ l) (bracket_closes s ys closes))))

pub triple_begins : (xs p q r s t u ys : List ℕ) (a b c : List ℕ) → Same xs (91 ∷ p)
    → Begins p (token (Token.string a)) q → Same q (44 ∷ r) → Begins r (token (Token.string b)) s → Same s (44 ∷ t)
    → Begins t (token (Token.string c)) u → Same u (93 ∷ ys)
    → lex between xs ≡ token begin_array ∷ token (Token.string a) ∷ comma ∷ token (Token.string b) ∷ comma
    ∷ token (Token.string c) ∷ token end_array ∷ lex between ys
triple_begins xs p q r s t u ys a b c opens first next second last third closes =
    bracket_opens xs p opens ∙ ap (λ l. token begin_array ∷ l) (
    first ∙ ap (λ l. token (Token.string a) ∷ l) (
    comma_between q r next ∙ ap (λ l. comma ∷ l) (
    second ∙ ap (λ l. token (Token.string b) ∷ l) (
    comma_between s t last ∙ ap (λ l. comma ∷ l) (
    third ∙ ap (λ l. token (Token.string c) ∷ l) (bracket_closes u ys closes))))))

-- ---- rows one after another

-- the lexemes of rows with a comma after each, and what comes then
abbrev pub commaed : List ListItem → List Lexeme → List Lexeme
commaed [] rest = rest
commaed (r ∷ rows) rest = row_lexemes r (comma ∷ commaed rows rest)

-- these rows of the list that begins in xs were read up to here, a comma after each
abbrev pub ReadRows : List ℕ → List ListItem → List ℕ → Type 0
ReadRows xs rows left = lex between xs ≡ token begin_array ∷ commaed rows (lex between left)

commaed_more : (rows : List ListItem) (r : ListItem) (rest : List Lexeme)
    → commaed (rows ++ r ∷ []) rest ≡ commaed rows (row_lexemes r (comma ∷ rest))
commaed_more [] r rest = refl
commaed_more (s ∷ rows) r rest = ap (λ l. row_lexemes s (comma ∷ l)) (commaed_more rows r rest)

commaed_last : (rows : List ListItem) (r : ListItem) (rest : List Lexeme)
    → commaed rows (row_lexemes r (token end_array ∷ rest)) ≡ rows_lexemes (rows ++ r ∷ []) rest
commaed_last [] r rest = refl
commaed_last (s ∷ []) r rest = refl
commaed_last (s ∷ t ∷ rows) r rest = ap (λ l. row_lexemes s (comma ∷ l)) (commaed_last (t ∷ rows) r rest)

pub no_row_yet : (xs left : List ℕ) → Same xs (91 ∷ left) → ReadRows xs [] left
no_row_yet xs left same = bracket_opens xs left same

pub one_row_more : (xs : List ℕ) (rows : List ListItem) (row : ListItem) (at after next : List ℕ) → ReadRows xs rows at
    → BeginsRow at row after → Same after (44 ∷ next) → ReadRows xs (rows ++ row ∷ []) next
one_row_more xs rows row at after next soon begins comma_next =
    soon ∙ ap (λ l. token begin_array ∷ l) (
    ap (commaed rows) (begins ∙ ap (row_lexemes row) (comma_between after next comma_next))
    ∙ sym (commaed_more rows row (lex between next)))

pub last_row : (xs : List ℕ) (rows : List ListItem) (row : ListItem) (at after ys : List ℕ) → ReadRows xs rows at
    → BeginsRow at row after → Same after (93 ∷ ys) → BeginsRows xs (rows ++ row ∷ []) ys
last_row xs rows row at after ys soon begins closes =
    soon ∙ ap (λ l. token begin_array ∷ l) (
    ap (commaed rows) (begins ∙ ap (row_lexemes row) (bracket_closes after ys closes))
    ∙ commaed_last rows row (lex between ys))

pub no_rows : (xs left ys : List ℕ) → Same xs (91 ∷ left) → Same left (93 ∷ ys) → BeginsRows xs [] ys
no_rows xs left ys opens closes =
    bracket_opens xs left opens ∙ ap (λ l. token begin_array ∷ l) (bracket_closes left ys closes)

-- ---- the value of the list

abbrev row_tokens : ListItem → List Token → List Token
row_tokens (Pair a b) ts = begin_array ∷ Token.string a.now ∷ Token.string b.now ∷ end_array ∷ ts
row_tokens (Triple a b c) ts =
    begin_array ∷ Token.string a.now ∷ Token.string b.now ∷ Token.string c.now ∷ end_array ∷ ts

abbrev rows_tokens : List ListItem → List Token
rows_tokens [] = end_array ∷ end_array ∷ []
rows_tokens (r ∷ rows) = row_tokens r (rows_tokens rows)

abbrev row_json : ListItem → json.Json
row_json (Pair a b) = json.array (json.item (json.string a.now) (json.item (json.string b.now) json.no_items))
row_json (Triple a b c) =
    json.array (json.item (json.string a.now)
    (json.item (json.string b.now) (json.item (json.string c.now) json.no_items)))

abbrev rows_json : List ListItem → json.Items
rows_json [] = json.no_items
rows_json (r ∷ rows) = json.item (row_json r) (rows_json rows)

-- the bracket of the line after that of the list
abbrev line_end : List Lexeme
line_end = token end_array ∷ []

tokens_later : (r : ListItem) (rows : List ListItem)
    → punctuate after_comma (rows_lexemes (r ∷ rows) line_end) ≡ rows_tokens (r ∷ rows)
unfolding punctuate
tokens_later (Pair a b) [] = refl
tokens_later (Triple a b c) [] = refl
tokens_later (Pair a b) (s ∷ rows) = ap (row_tokens (Pair a b)) (tokens_later s rows)
tokens_later (Triple a b c) (s ∷ rows) = ap (row_tokens (Triple a b c)) (tokens_later s rows)

tokens_first : (rows : List ListItem) → punctuate fresh (rows_lexemes rows line_end) ≡ rows_tokens rows
unfolding punctuate
tokens_first [] = refl
tokens_first (Pair a b ∷ []) = refl
tokens_first (Triple a b c ∷ []) = refl
tokens_first (Pair a b ∷ s ∷ rows) = ap (row_tokens (Pair a b)) (tokens_later s rows)
tokens_first (Triple a b c ∷ s ∷ rows) = ap (row_tokens (Triple a b c)) (tokens_later s rows)

long_enough : (rows : List ListItem) → length rows < length (rows_tokens rows)
long_enough [] = omega arith
long_enough (Pair a b ∷ rows) = let h = long_enough rows in omega (arith, h)
long_enough (Triple a b c ∷ rows) = let h = long_enough rows in omega (arith, h)

rows_parse : (rows : List ListItem) (n : ℕ) → length rows < n
    → items (value 125) n (rows_tokens rows) ≡ Some (rows_json rows, end_array ∷ [])
unfolding items value
rows_parse rows zero h = absurd (omega (arith, h))
rows_parse [] (suc n) h = refl
rows_parse (Pair a b ∷ rows) (suc n) h =
    ap (parse_map (json.item (row_json (Pair a b)))) (rows_parse rows n (omega (arith, h)))
rows_parse (Triple a b c ∷ rows) (suc n) h =
    ap (parse_map (json.item (row_json (Triple a b c)))) (rows_parse rows n (omega (arith, h)))

ends_at : (n : ℕ) → 0 < n → items (value 126) n (end_array ∷ []) ≡ Some (json.no_items, [])
unfolding items
ends_at zero h = absurd (omega (arith, h))
ends_at (suc n) h = refl

list_parses : (rows : List ListItem)
    → items (value 126) (length (begin_array ∷ rows_tokens rows)) (begin_array ∷ rows_tokens rows)
    ≡ Some (json.item (json.array (rows_json rows)) json.no_items, [])
unfolding items value
list_parses rows =
    let more = long_enough rows in
    let inside = rows_parse rows (length (rows_tokens rows)) more in
    let after = ends_at (length (rows_tokens rows)) (omega (arith, more)) in
    rw inside (rw after refl)

rows_read : (rows : List ListItem) → of_items (rows_json rows) ≡ Some (items_of (map row_data rows))
rows_read [] = refl
rows_read (Pair a b ∷ rows) = ap (option_map (item (row_data (Pair a b)))) (rows_read rows)
rows_read (Triple a b c ∷ rows) = ap (option_map (item (row_data (Triple a b c)))) (rows_read rows)

list_last : (rows : List ListItem)
    → Last (token begin_array ∷ rows_lexemes rows line_end) (array (items_of (map row_data rows)))
unfolding punctuate
list_last rows = record {
  tokens = begin_array ∷ rows_tokens rows;
  first = ap (λ ts. begin_array ∷ ts) (tokens_first rows);
  later = ap (λ ts. begin_array ∷ ts) (tokens_first rows);
  tree = json.array (rows_json rows);
  parses = list_parses rows;
  reads = ap (option_map array) (rows_read rows);
}

-- the list, and the end of the line
pub read_listed : (line : List ℕ) (parts : List Part) (rows : List ListItem) (at after : List ℕ)
    → ReadParts line parts at → BeginsRows at rows after → Begins after (token end_array) []
    → read line ≡ Some (array (listed_items parts rows))
unfolding lex
read_listed line parts rows at after soon begins ends =
    reads_as (list_last rows) line soon.leaves (soon.lexed
    ∙ ap (λ l. token begin_array ∷ before soon.leaves l) (begins
    ∙ ap (λ l. token begin_array ∷ rows_lexemes rows l) ends))
    ∙ ap (λ ds. Some (array ds)) (data_is soon.leaves (array (items_of (map row_data rows))))
    ∙ ap (λ ds. Some (array (items_of (ds ++ array (items_of (map row_data rows)) ∷ [])))) soon.same
