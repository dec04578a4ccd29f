-- The text of a picture of a ring.
use Rattle.std.specs.Prelude.{ℕ, ◌+◌, ◌-◌, ◌*◌, ◌^◌, min, max, List, ◌++◌, length, codes, decimal}
use Rattle.tx_ring.specs.declared.ring.TheConstants.{FONT, LOOKS}
use Rattle.tx_ring.specs.declared.ring.Subject.{Subject}
use Rattle.tx_ring.specs.declared.ring.Subject.TheVariants.{Cycle, Read}
use Rattle.tx_ring.specs.declared.ring.Tie.{Tie}
use Rattle.tx_ring.specs.declared.ring.Tie.TheVariants.{Arrow, Line, Nothing}
use Rattle.tx_ring.specs.Markup.{marked}

-- as many, up to 2^32
abbrev pub few : ℕ → ℕ
few n = min n (2 ^ 32)

-- how high a box of so many rows is, up to 64
abbrev pub high_of : ℕ → ℕ
high_of rows = 44 + 14 * min rows 64

-- how far down the box at a place stands, where each has so many rows
abbrev pub top_of : ℕ → ℕ → ℕ
top_of rows place = 72 + (60 + high_of rows) * few place

-- how high a picture of so many boxes is
abbrev pub height_of : ℕ → ℕ → ℕ
height_of rows n = 90 + (60 + high_of rows) * few n

-- how wide a picture is, whose words reach so far
abbrev pub width_of : ℕ → ℕ
width_of reach = max (190 + few reach) 452

-- how far the words at an arrow reach
abbrev pub reach_of : List ℕ → List ℕ → ℕ
reach_of label sense = max (8 * few (length label)) (6 * few (length sense))

-- the size of a picture, with words between
abbrev pub size_text : ℕ → List ℕ → ℕ → ℕ → List ℕ
size_text reach between rows n = decimal (width_of reach) ++ (between ++ decimal (height_of rows n))

-- what a picture is called
abbrev pub what_text : Subject → List ℕ
what_text Cycle = codes "A cycle of transactions"
what_text Read = codes "A read that cannot be"

-- what is said below its title
abbrev pub note_text : Subject → List ℕ
note_text Cycle = codes "Each has to come before the next one, and the last before the first"
note_text Read = codes "No order of the transactions explains what was read"

-- what a picture is called, how it looks, its title, and what is said below that
abbrev pub looks_text : Subject → List ℕ → List ℕ
looks_text subject title = FONT.now ++ (what_text subject ++ (LOOKS.now ++ (marked title
    ++ (codes "</text>\n<text class=\"small\" x=\"20\" y=\"48\">" ++ (note_text subject ++ codes "</text>\n")))))

-- the head: how large the picture is, and what stands above its boxes
abbrev pub head_text : Subject → List ℕ → ℕ → ℕ → ℕ → List ℕ
head_text subject title rows n reach = codes "<svg xmlns=\"http://www.w3.org/2000/svg\" viewBox=\"0 0 "
    ++ (size_text reach (codes " ") rows n ++ (codes "\" width=\""
    ++ (size_text reach (codes "\" height=\"") rows n ++ looks_text subject title)))

-- where a box begins, and how high it is
abbrev pub place_text : ℕ → ℕ → List ℕ → List ℕ
place_text rows place kind = codes "<g class=\"" ++ (kind ++ (codes "\" transform=\"translate(56 "
    ++ (decimal (top_of rows place) ++ (codes ")\">\n<rect class=\"box\" width=\"372\" height=\""
    ++ decimal (high_of rows)))))

-- the beginning of a box: its name, and what is said of it
abbrev pub box_text : ℕ → ℕ → List ℕ → List ℕ → List ℕ → List ℕ
box_text rows place kind name about = place_text rows place kind
    ++ (codes "\" rx=\"6\"/>\n<text x=\"12\" y=\"18\">transaction " ++ (marked name
    ++ (codes "</text>\n<text class=\"small\" x=\"12\" y=\"33\">" ++ (marked about ++ codes "</text>\n"))))

-- how far down a row of a box stands
abbrev pub row_top : ℕ → ℕ
row_top i = 50 + 14 * few i

-- a row of a box
abbrev pub row_text : ℕ → List ℕ → List ℕ
row_text i text = codes "<text class=\"row\" x=\"12\" y=\"" ++ (decimal (row_top i) ++ (codes "\">"
    ++ (marked text ++ codes "</text>\n")))

-- what leads to the next box, behind how far down this one ends
abbrev pub tip_text : Tie → List ℕ
tip_text Arrow = codes "v58m-5 -8l5 8l5 -8"
tip_text Line = codes "v58"
tip_text Nothing = codes ""

-- words so far below a box
abbrev pub word_text : ℕ → List ℕ → ℕ → List ℕ → List ℕ
word_text rows class below words = codes "<text class=\"" ++ (class ++ (codes "\" x=\"104\" y=\""
    ++ (decimal (high_of rows + below) ++ (codes "\">" ++ (marked words ++ codes "</text>\n")))))

-- what leads to the next box, with its words and what shows it, and the end of the box
abbrev pub tie_text : ℕ → Tie → List ℕ → List ℕ → List ℕ → List ℕ
tie_text rows tie label sense shown = codes "<g><title>" ++ (marked shown ++ (codes "</title>\n"
    ++ (word_text rows (codes "kind") 22 label ++ (word_text rows (codes "small") 37 sense
    ++ (codes "<path d=\"M88 " ++ (decimal (high_of rows) ++ (tip_text tie ++ codes "\"/></g></g>\n")))))))

-- the end of a box from which nothing leads on
abbrev pub box_end_text : List ℕ
box_end_text = codes "</g>\n"

-- the end of a picture that is no ring
abbrev pub close_text : List ℕ
close_text = codes "</svg>\n"

-- the arrow from the last box to the first
abbrev pub end_text : ℕ → ℕ → List ℕ → List ℕ
end_text rows n kind = codes "<g class=\"" ++ (kind ++ (codes "\"><path d=\"M144 "
    ++ (decimal (top_of rows (n - 1) + high_of rows) ++ codes "v42H30V92h24m-8 -5l8 5l-8 5\"/></g>\n</svg>\n")))
