-- The bytes that stand for a tuple, and the order of tuples.
use Rattle.std.specs.Prelude.{◌≡◌, ℕ, zero, suc, ◌+◌, ◌-◌, ◌^◌, ◌<◌, List, [], ◌∷◌, ◌++◌, ℤ, pos, negsuc, FitsSigned}
use Rattle.std.specs.Str.{IsUtf8}
use Rattle.std.specs.String.{string_bytes}
use Rattle.std.specs.List.{flat_map, AllByRecursion}
use Rattle.std.specs.Int.{w64, to_be_bytes}
use Rattle.std.specs.Ordering.{nat_cmp, int_cmp}
use Rattle.std.specs.declared.cmp.Ordering.{Ordering}
use Rattle.std.specs.Cmp.Lexicographic.{slice_cmp}
use Rattle.tx_tuple.specs.declared.part.Part.{Part}
use Rattle.tx_tuple.specs.declared.part.Part.TheVariants as lent
use Rattle.tx_tuple.specs.declared.part.OwnedPart.{OwnedPart}
use Rattle.tx_tuple.specs.declared.part.OwnedPart.TheVariants as owned

-- an element of a tuple: bytes, a text by its bytes, a signed number or an unsigned one
pub data Element : Type 0 where
  Bytes : (bytes : List ℕ) → Element
  Text : (bytes : List ℕ) → Element
  Signed : (number : ℤ) → Element
  Unsigned : (number : ℕ) → Element

-- the element that a part is
abbrev pub element : Part → Element
element (lent.Bytes bytes) = Bytes bytes.now
element (lent.Text text) = Text text.now
element (lent.Signed number) = Signed number
element (lent.Unsigned number) = Unsigned number

-- the element that a part is which holds its bytes
abbrev pub owned_element : OwnedPart → Element
owned_element (owned.Bytes bytes) = Bytes bytes.items
owned_element (owned.Text text) = Text (string_bytes text)
owned_element (owned.Signed number) = Signed number
owned_element (owned.Unsigned number) = Unsigned number

-- what every part is: a text is UTF-8, and numbers have 64 bits
abbrev pub IsElement : Element → Type 0
IsElement (Bytes bytes) = Unit {0}
IsElement (Text bytes) = IsUtf8 bytes
IsElement (Signed number) = FitsSigned w64 number
IsElement (Unsigned number) = number < 2 ^ 64

abbrev pub AreElements : List Element → Type 0
AreElements elements = AllByRecursion IsElement elements

-- the byte that an element begins with
abbrev pub tag : Element → ℕ
tag (Bytes bytes) = 1
tag (Text bytes) = 2
tag (Signed number) = 3
tag (Unsigned number) = 4

-- a byte, and behind a zero 255, so that it does not end the bytes
abbrev pub escaped : ℕ → List ℕ
escaped zero = 0 ∷ 255 ∷ []
escaped (suc byte) = suc byte ∷ []

-- bytes, escaped, and their end: 0 and 1
abbrev pub ended : List ℕ → List ℕ
ended bytes = flat_map escaped bytes ++ 0 ∷ 1 ∷ []

-- a signed number, raised by 2 ^ 63
abbrev pub raised : ℤ → ℕ
raised (pos n) = 2 ^ 63 + n
raised (negsuc n) = 2 ^ 63 - 1 - n

-- what stands behind the tag: numbers with the highest byte first
abbrev pub content : Element → List ℕ
content (Bytes bytes) = ended bytes
content (Text bytes) = ended bytes
content (Signed number) = to_be_bytes w64 (raised number)
content (Unsigned number) = to_be_bytes w64 number

abbrev pub element_bytes : Element → List ℕ
element_bytes e = tag e ∷ content e

-- the bytes of a tuple: those of its elements, one behind the other
abbrev pub packed : List Element → List ℕ
packed elements = flat_map element_bytes elements

-- How elements are ordered: bytes, texts, signed and unsigned numbers, in this order, and those of
-- one kind as their bytes or numbers are.
abbrev pub element_cmp : Element → Element → Ordering
element_cmp (Bytes a) (Bytes b) = slice_cmp nat_cmp a b
element_cmp (Text a) (Text b) = slice_cmp nat_cmp a b
element_cmp (Signed a) (Signed b) = int_cmp a b
element_cmp (Unsigned a) (Unsigned b) = nat_cmp a b
element_cmp a b = nat_cmp (tag a) (tag b)

-- How tuples are ordered: the first element that differs decides, and a tuple that begins a longer
-- one comes before it.
abbrev pub tuple_cmp : List Element → List Element → Ordering
tuple_cmp = slice_cmp element_cmp

-- Tuples order as the bytes that stand for them.
abbrev pub TuplesKeepOrder : Type 0
TuplesKeepOrder = (a b : List Element) → AreElements a → AreElements b
    → slice_cmp nat_cmp (packed a) (packed b) ≡ tuple_cmp a b

-- No two tuples are of the same bytes.
abbrev pub OneTuple : Type 0
OneTuple = (a b : List Element) → AreElements a → AreElements b → packed a ≡ packed b → a ≡ b

-- The bytes of a tuple begin with those of another only where the tuple begins with the other's
-- elements. (Where it does, they do.)
abbrev pub PrefixesAreTuples : Type 0
PrefixesAreTuples = (a b : List Element) (rest : List ℕ) → AreElements a → AreElements b
    → packed b ≡ packed a ++ rest → (more : List Element) × (b ≡ a ++ more) × (rest ≡ packed more)
