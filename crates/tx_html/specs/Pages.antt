-- The text of a page.
use Rattle.std.specs.Prelude.{ℕ, ◌==◌, ◌≢◌, List, [], ◌∷◌, ◌++◌, if◌then◌else◌, codes, All}
use Rattle.std.specs.List.{flat_map}
use Rattle.tx_html.specs.declared.page.PageFrame.{PageFrame}
use Rattle.tx_html.specs.declared.page.PageParts.{PageParts}

-- a byte of data: <, > and & as JSON escapes them
abbrev pub shielded_byte : ℕ → List ℕ
shielded_byte b = if b == 60 then codes "\\u003c" else if b == 62 then codes "\\u003e"
    else if b == 38 then codes "\\u0026" else b ∷ []

-- data, as it stands in a page
abbrev pub shielded : List ℕ → List ℕ
shielded text = flat_map shielded_byte text

-- neither < nor > nor &
abbrev pub IsMarkless : ℕ → Type 0
IsMarkless b = (b ≢ 60) × (b ≢ 62) × (b ≢ 38)

-- no element begins or ends in it, and no name of a character
abbrev pub IsData : List ℕ → Type 0
IsData text = All IsMarkless text

-- an element of data of this name
abbrev pub block_text : List ℕ → List ℕ → List ℕ
block_text name inner = codes "<script type=\"application/json\" id=\"" ++ (name ++ (codes "\">\n"
    ++ (shielded inner ++ codes "</script>\n")))

-- the elements of data of a page
abbrev pub blocks_text : PageParts → List ℕ
blocks_text p = block_text (codes "script") p.script.now ++ (block_text (codes "replies") p.replies.now
    ++ (block_text (codes "steps") p.steps.now ++ block_text (codes "film") p.film.now))

-- what is seen of a page
abbrev pub view_text : PageFrame → PageParts → List ℕ
view_text frame p = frame.head.now ++ (p.drawing.now ++ (frame.middle.now ++ (p.rows.now ++ frame.below.now)))

-- a page
abbrev pub page_text : PageFrame → PageParts → List ℕ
page_text frame p = view_text frame p ++ (blocks_text p ++ frame.foot.now)
