-- The value of an array of strings, numbers and nulls, by its lexemes.
use Rattle.std.proofs.Common.{◌≡◌, ◌<◌, ℕ, suc, List, [], ◌∷◌, ◌++◌, map, length, Option, Some, None, option_map, option_and_then, refl, sym, ap, subst, ◌∙◌, IsUtf8, inl, inr}
use Rattle.std.proofs.lemmas.Bool.{cases_Bool}
use Rattle.std.proofs.lemmas.Str.{is_utf8-from_IsUtf8, IsUtf8-from_is_utf8}
use Rattle.std.specs.Str.{is_utf8}
use Rattle.json.specs.Token.{Token, begin_array, end_array}
use Rattle.json.specs.Lex.{Lexeme, token, comma, between, lex, fresh, after_comma, punctuate}
use Rattle.json.specs.Json as json
use Rattle.json.specs.Json.{items, value, if_last, parse_map}
use Rattle.serde_json.specs.Read.{read, of_json, of_items, max_depth}
use Rattle.serde_json.specs.Data.{Data, array, number}
use Rattle.serde_json.specs.Data as tree
use Rattle.serde_json.specs.View as tree_view
use Rattle.serde_json.specs.declared.value.Value.{Value}
use Rattle.tx_text.specs.declared.part.Part.{Part}
use Rattle.tx_text.specs.Parts.{json_of, part_data, parts_items, count}
use Rattle.tx_text.specs.Scan.{Leaf, text, digits, none, leaf_token, leaf_data, Same, Begins, BeginsPart, before, ReadParts}

pub json_is : (line : List ℕ) (d : Data) → IsUtf8 line → read line ≡ Some d → json_of line ≡ Some d
json_is line d utf8 is = rw (is_utf8-from_IsUtf8 line utf8) is

pub json_some : (line : List ℕ) (d : Data) → IsUtf8 line × (read line ≡ Some d) → json_of line ≡ Some d
json_some line d e = json_is line d e.0 e.1

pub json_none : (line : List ℕ) → (IsUtf8 line → read line ≡ None) → json_of line ≡ None
json_none line never =
    elim (cases_Bool (is_utf8 line)) [ inl e ↦ rw e (never (IsUtf8-from_is_utf8 line e)) | inr e ↦ rw e refl ]

before_more : (ls : List Leaf) (l : Leaf) (rest : List Lexeme)
    → before (ls ++ l ∷ []) rest ≡ before ls (token (leaf_token l) ∷ comma ∷ rest)
before_more [] l rest = refl
before_more (k ∷ ls) l rest = ap (λ r. token (leaf_token k) ∷ comma ∷ r) (before_more ls l rest)

-- what stands last in the array of a line, with the bracket after it: its lexemes, and its data
pub record Last (lexemes : List Lexeme) (data_last : Data) : Type 0 where
  pub tokens : List Token
  pub first : punctuate fresh lexemes ≡ tokens
  pub later : punctuate after_comma lexemes ≡ tokens
  pub tree : json.Json
  pub parses : items (value 126) (length tokens) tokens ≡ Some (json.item tree json.no_items, [])
  pub reads : of_json tree ≡ Some data_last

abbrev leaf_json : Leaf → json.Json
leaf_json (text s) = json.string s
leaf_json (digits s n reads) = json.number s
leaf_json none = json.null

leaf_is : (l : Leaf) → of_json (leaf_json l) ≡ Some (leaf_data l)
leaf_is (text s) = refl
leaf_is (digits s n reads) = ap (option_map number) reads
leaf_is none = refl

leaf_last : (l : Leaf) → Last (token (leaf_token l) ∷ token end_array ∷ []) (leaf_data l)
unfolding punctuate items value
leaf_last (text s) = record {
  tokens = Token.string s ∷ end_array ∷ [];
  first = refl;
  later = refl;
  tree =
      json.string s;
  parses = refl;
  reads = refl;
}
leaf_last (digits s n e) =
    record {
      tokens = Token.number s ∷ end_array ∷ [];
      first = refl;
      later = refl;
      tree = json.number s;
      parses =
          refl;
      reads = ap (option_map number) e;
    }
leaf_last none = record {
  tokens = Token.null ∷ end_array ∷ [];
  first = refl;
  later = refl;
  tree = json.null;
  parses =
      refl;
  reads = refl;
}

-- ---- members, and the last of them

abbrev tokens_of : List Leaf → List Token → List Token
tokens_of [] last = last
tokens_of (l ∷ ls) last = leaf_token l ∷ tokens_of ls last

abbrev jsons_of : List Leaf → json.Json → json.Items
jsons_of [] last = json.item last json.no_items
jsons_of (l ∷ ls) last = json.item (leaf_json l) (jsons_of ls last)

abbrev data_of : List Leaf → Data → tree.Items
data_of [] last = tree.item last tree.no_items
data_of (l ∷ ls) last = tree.item (leaf_data l) (data_of ls last)

module _ {lexemes : List Lexeme} {data_last : Data} (last : Last lexemes data_last) where
  tokens_later : (ls : List Leaf) → punctuate after_comma (before ls lexemes) ≡ tokens_of ls last.tokens
  unfolding punctuate
  tokens_later [] = last.later
  tokens_later (text s ∷ ls) = ap (λ ts. Token.string s ∷ ts) (tokens_later ls)
  tokens_later (digits s n e ∷ ls) = ap (λ ts. Token.number s ∷ ts) (tokens_later ls)
  tokens_later (none ∷ ls) = ap (λ ts. Token.null ∷ ts) (tokens_later ls)

  tokens_first : (ls : List Leaf) → punctuate fresh (before ls lexemes) ≡ tokens_of ls last.tokens
  unfolding punctuate
  tokens_first [] = last.first
  tokens_first (text s ∷ ls) = ap (λ ts. Token.string s ∷ ts) (tokens_later ls)
  tokens_first (digits s n e ∷ ls) = ap (λ ts. Token.number s ∷ ts) (tokens_later ls)
  tokens_first (none ∷ ls) = ap (λ ts. Token.null ∷ ts) (tokens_later ls)

  tokens_whole : (ls : List Leaf)
      → punctuate fresh (token begin_array ∷ before ls lexemes) ≡ begin_array ∷ tokens_of ls last.tokens
  unfolding punctuate
  tokens_whole ls = ap (λ ts. begin_array ∷ ts) (tokens_first ls)

  items_are : (ls : List Leaf)
      → items (value 126) (length (tokens_of ls last.tokens)) (tokens_of ls last.tokens)
      ≡ Some (jsons_of ls last.tree, [])
  unfolding items value
  items_are [] = last.parses
  items_are (text s ∷ ls) = ap (parse_map (json.item (json.string s))) (items_are ls)
  items_are (digits s n e ∷ ls) = ap (parse_map (json.item (json.number s))) (items_are ls)
  items_are (none ∷ ls) = ap (parse_map (json.item json.null)) (items_are ls)

  value_is : (ls : List Leaf)
      → value max_depth (begin_array ∷ tokens_of ls last.tokens) ≡ Some (json.array (jsons_of ls last.tree), [])
  unfolding value
  value_is ls = ap (parse_map json.array) (items_are ls)

  leaves_are : (ls : List Leaf) → of_items (jsons_of ls last.tree) ≡ Some (data_of ls data_last)
  leaves_are [] = ap (option_and_then (λ d. option_map (tree.item d) (Some tree.no_items))) last.reads
  leaves_are (l ∷ ls) =
      ap (option_and_then (λ d. option_map (tree.item d) (of_items (jsons_of ls last.tree)))) (leaf_is l)
      ∙ ap (option_map (tree.item (leaf_data l))) (leaves_are ls)

  -- the value of the whole
  pub reads_as : (line : List ℕ) (ls : List Leaf) → lex between line ≡ token begin_array ∷ before ls lexemes
      → read line ≡ Some (array (data_of ls data_last))
  reads_as line ls h =
      ap (λ l. option_and_then of_json (option_and_then (λ p. if_last p.0 p.1) (value max_depth (punctuate fresh l)))) h
      ∙ ap (λ ts. option_and_then of_json (option_and_then (λ p. if_last p.0 p.1) (value max_depth ts)))
      (tokens_whole ls)
      ∙ ap (λ o. option_and_then of_json (option_and_then (λ p. if_last p.0 p.1) o)) (value_is ls)
      ∙ ap (option_map array) (leaves_are ls)

pub data_is : (ls : List Leaf) (last : Data) → data_of ls last ≡ tree_view.items_of (map leaf_data ls ++ last ∷ [])
data_is [] last = refl
data_is (l ∷ ls) last = ap (tree.item (leaf_data l)) (data_is ls last)

-- ---- the members so far

pub read_none : (line left : List ℕ) → Same line (91 ∷ left) → ReadParts line [] left
unfolding lex
read_none line left same = record { leaves = []; same = refl; lexed = same }

pub map_more : {A B : Type 0} (f : A → B) (xs : List A) (x : A) → map f (xs ++ x ∷ []) ≡ map f xs ++ f x ∷ []
map_more f [] x = refl
map_more f (y ∷ xs) x = ap (λ l. f y ∷ l) (map_more f xs x)

comma_first : (xs ys : List ℕ) → Same xs (44 ∷ ys) → Begins xs comma ys
unfolding lex
comma_first xs ys same = same

one_more : (leaves : List Leaf) (leaf : Leaf) (parts : List Part) (part : Part)
    → map leaf_data leaves ≡ map part_data parts → leaf_data leaf ≡ part_data part
    → map leaf_data leaves ++ leaf_data leaf ∷ [] ≡ map part_data (parts ++ part ∷ [])
one_more leaves leaf parts part same is =
    ap (λ l. l ++ leaf_data leaf ∷ []) same ∙ ap (λ d. map part_data parts ++ d ∷ []) is
    ∙ sym (map_more part_data parts part)

pub read_more : (line : List ℕ) (parts : List Part) (part : Part) (at after next : List ℕ) → ReadParts line parts at
    → BeginsPart at part after → Same after (44 ∷ next) → ReadParts line (parts ++ part ∷ []) next
read_more line parts part at after next soon begins comma_next = record {
  leaves = soon.leaves ++ begins.0 ∷ [];
  same = map_more leaf_data soon.leaves begins.0 ∙ one_more soon.leaves begins.0 parts part soon.same begins.2;
  lexed = soon.lexed ∙ ap (λ l. token begin_array ∷ before soon.leaves l) (begins.1
      ∙ ap (λ l. token (leaf_token begins.0) ∷ l) (comma_first after next comma_next))
      ∙ ap (λ l. token begin_array ∷ l) (sym (before_more soon.leaves begins.0 (lex between next)));
}

-- the last of them, and the end of the line
pub read_all : (line : List ℕ) (parts : List Part) (part : Part) (at after : List ℕ) → ReadParts line parts at
    → BeginsPart at part after → Begins after (token end_array) []
    → read line ≡ Some (array (parts_items (parts ++ part ∷ [])))
unfolding lex
read_all line parts part at after soon begins ends =
    reads_as (leaf_last begins.0) line soon.leaves (soon.lexed
    ∙ ap (λ l. token begin_array ∷ before soon.leaves l) (begins.1
    ∙ ap (λ l. token (leaf_token begins.0) ∷ l) ends))
    ∙ ap (λ ds. Some (array ds)) (data_is soon.leaves (leaf_data begins.0))
    ∙ ap (λ ds. Some (array (tree_view.items_of ds))) (one_more soon.leaves begins.0 parts part soon.same begins.2)

-- ---- the members of a value

pub count_is : (vs : List Value) → count (tree_view.items_view vs) ≡ length vs
count_is [] = refl
count_is (v ∷ vs) = ap suc (count_is vs)

pub counted : (items : tree.Items) (vs : List Value) (n : ℕ) → Some (tree_view.items_view vs) ≡ Some items
    → n < length vs → n < count items
counted items vs n e more = subst (λ k. n < k) (sym (count_is vs) ∙ ap (λ o. count (found o)) e) more
  where
    found : Option tree.Items → tree.Items
    found None = tree.no_items
    found (Some ds) = ds
