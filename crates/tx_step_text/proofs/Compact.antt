-- The compact text of a value of strings, whole numbers and arrays of them is read as that value.
use Rattle.std.proofs.Common.{◌≡◌, suc, ◌<◌, ◌≤◌, ◌^◌, List, [], ◌∷◌, ◌++◌, Bool, true, false, Option, Some, None, option_map, option_and_then, refl, sym, ap, ◌∙◌, arith, append-nil}
use Rattle.std.specs.Prelude.{IsUtf8, decimal, if◌then◌else◌}
use Rattle.std.specs.Str.{is_utf8}
use Rattle.std.proofs.lemmas.Str.{IsUtf8-append, IsUtf8-from_ascii, is_utf8-from_IsUtf8}
use Rattle.std.proofs.lemmas.Fmt.{IsAscii-decimal}
use Rattle.json.specs.Json as json
use Rattle.json.specs.Lex.{tokens}
use Rattle.json.specs.Tree as tree
use Rattle.json.proofs.Printed.Utf8.{IsUtf8-are_ascii, IsUtf8-quoted}
use Rattle.json.proofs.Printed.Decimals.{IsNumber-decimal}
use Rattle.json.proofs.Printed.Tokens.{tokens-print}
use Rattle.json.proofs.Printed.Trees.{value-json_tokens, ArePrintable-json_tokens}
use Rattle.serde_json.specs.Data.{Data, null, boolean, string, number, unsigned, negative, float, array, object, Items, no_items, item, depth, items_depth}
use Rattle.serde_json.specs.View.{items_of}
use Rattle.serde_json.specs.Read.{read, of_json, of_items, max_depth}
use Rattle.serde_json.specs.Written.{compact_text, items_text, outline, items_outline, comma_if}
use Rattle.serde_json.proofs.Numbers.{number_of-decimal}
use Rattle.serde_json.proofs.Texts.{print-outline}
use Rattle.tx_text.specs.Parts.{json_of}

-- ---- which values these are

abbrev mutual
  pub IsPlain : Data → Type 0
  IsPlain (string s) = IsUtf8 s
  IsPlain (number (unsigned n)) = n < 2 ^ 64
  IsPlain (number (negative z)) = ⊥
  IsPlain (number (float x)) = ⊥
  IsPlain (array ds) = ArePlain ds
  IsPlain null = ⊥
  IsPlain (boolean b) = ⊥
  IsPlain (object ms) = ⊥

  pub ArePlain : Items → Type 0
  ArePlain no_items = Unit {0}
  ArePlain (item d ds) = IsPlain d × ArePlain ds

-- a string or a number
abbrev pub IsLeaf : Data → Type 0
IsLeaf d = IsPlain d × (depth d ≡ 0)

abbrev pub AreLeaves : List Data → Type 0
AreLeaves [] = Unit {0}
AreLeaves (d ∷ ds) = IsLeaf d × AreLeaves ds

-- ---- it is UTF-8

comma_utf8 : (later : Bool) → IsUtf8 (comma_if later)
comma_utf8 true = IsUtf8-are_ascii (44 ∷ []) refl
comma_utf8 false = IsUtf8-are_ascii [] refl

mutual
  plain_utf8 : (d : Data) → IsPlain d → IsUtf8 (compact_text d)
  plain_utf8 (string s) h = IsUtf8-quoted s h
  plain_utf8 (number (unsigned n)) h = IsUtf8-from_ascii (decimal n) (IsAscii-decimal n h)
  plain_utf8 (number (negative z)) h = absurd h
  plain_utf8 (number (float x)) h = absurd h
  plain_utf8 null h = absurd h
  plain_utf8 (boolean b) h = absurd h
  plain_utf8 (array ds) h =
      IsUtf8-append (91 ∷ []) (items_text false ds) (IsUtf8-are_ascii (91 ∷ []) refl) (items_utf8 ds false h)
  plain_utf8 (object ms) h = absurd h

  items_utf8 : (ds : Items) (later : Bool) → ArePlain ds → IsUtf8 (items_text later ds)
  items_utf8 no_items later h = IsUtf8-are_ascii (93 ∷ []) refl
  items_utf8 (item d ds) later h =
      IsUtf8-append (comma_if later) (compact_text d ++ items_text true ds) (comma_utf8 later)
      (IsUtf8-append (compact_text d) (items_text true ds) (plain_utf8 d h.0) (items_utf8 ds true h.1))

-- ---- what is read

mutual
  plain_reads : (d : Data) → IsPlain d → of_json (outline d) ≡ Some d
  plain_reads (string s) h = refl
  plain_reads (number (unsigned n)) h = ap (option_map number) (number_of-decimal n h)
  plain_reads (number (negative z)) h = absurd h
  plain_reads (number (float x)) h = absurd h
  plain_reads null h = absurd h
  plain_reads (boolean b) h = absurd h
  plain_reads (array ds) h = ap (option_map array) (items_read ds h)
  plain_reads (object ms) h = absurd h

  items_read : (ds : Items) → ArePlain ds → of_items (items_outline ds) ≡ Some ds
  items_read no_items h = refl
  items_read (item d ds) h = rw (plain_reads d h.0, items_read ds h.1) refl

mutual
  plain_numbers : (d : Data) → IsPlain d → tree.HasNumbers (outline d)
  plain_numbers (string s) h = tt
  plain_numbers (number (unsigned n)) h = IsNumber-decimal n h
  plain_numbers (number (negative z)) h = absurd h
  plain_numbers (number (float x)) h = absurd h
  plain_numbers null h = absurd h
  plain_numbers (boolean b) h = absurd h
  plain_numbers (array ds) h = items_numbers ds h
  plain_numbers (object ms) h = absurd h

  items_numbers : (ds : Items) → ArePlain ds → tree.ItemsHaveNumbers (items_outline ds)
  items_numbers no_items h = tt
  items_numbers (item d ds) h = (plain_numbers d h.0, items_numbers ds h.1)

mutual
  plain_depth : (d : Data) → IsPlain d → tree.depth (outline d) ≡ depth d
  plain_depth (string s) h = refl
  plain_depth (number (unsigned n)) h = refl
  plain_depth (number (negative z)) h = absurd h
  plain_depth (number (float x)) h = absurd h
  plain_depth null h = absurd h
  plain_depth (boolean b) h = absurd h
  plain_depth (array ds) h = ap suc (items_deep ds h)
  plain_depth (object ms) h = absurd h

  items_deep : (ds : Items) → ArePlain ds → tree.items_depth (items_outline ds) ≡ items_depth ds
  items_deep no_items h = refl
  items_deep (item d ds) h = rw (plain_depth d h.0, items_deep ds h.1) refl

-- ---- the whole text

read_compact : (d : Data) → IsPlain d → depth d ≤ max_depth → read (compact_text d) ≡ Some d
read_compact d h shallow =
    let flat : tree.depth (outline d) ≤ max_depth = omega (arith, plain_depth d h) in
    let lexed : tokens (compact_text d) ≡ tree.json_tokens (outline d) =
    ap tokens (sym (print-outline d))
    ∙ tokens-print (tree.json_tokens (outline d)) (ArePrintable-json_tokens (outline d) (plain_numbers d h)) in
    ap (λ ts. option_and_then of_json (option_and_then (λ p. json.if_last p.0 p.1) (json.value max_depth ts)))
    (lexed ∙ sym (append-nil (tree.json_tokens (outline d))))
    ∙ ap (λ o. option_and_then of_json (option_and_then (λ p. json.if_last p.0 p.1) o))
    (value-json_tokens (outline d) max_depth [] flat)
    ∙ plain_reads d h

chosen : {A : Type 0} (b : Bool) (o : Option A) → b ≡ true → (if b then o else None) ≡ o
chosen b o e = rw e refl

pub json_compact : (d : Data) → IsPlain d → depth d ≤ max_depth → json_of (compact_text d) ≡ Some d
json_compact d h shallow =
    chosen (is_utf8 (compact_text d)) (read (compact_text d)) (is_utf8-from_IsUtf8 (compact_text d) (plain_utf8 d h))
    ∙ read_compact d h shallow

-- ---- an array of strings and numbers

pub leaves_plain : (ds : List Data) → AreLeaves ds → ArePlain (items_of ds)
leaves_plain [] h = tt
leaves_plain (d ∷ ds) h = (h.0.0, leaves_plain ds h.1)

pub leaves_flat : (ds : List Data) → AreLeaves ds → items_depth (items_of ds) ≡ 0
leaves_flat [] h = refl
leaves_flat (d ∷ ds) h = rw (h.0.1, leaves_flat ds h.1) refl

pub leaves_compact : (ds : List Data) → AreLeaves ds
    → json_of (compact_text (array (items_of ds))) ≡ Some (array (items_of ds))
leaves_compact ds h = json_compact (array (items_of ds)) (leaves_plain ds h) (omega (arith, leaves_flat ds h))
