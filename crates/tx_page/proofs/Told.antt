-- Lines of a page, one after another.
use Rattle.std.proofs.Common.{◌≡◌, ℕ, ◌+◌, ◌<◌, List, [], ◌++◌, Bor, length, map, take, get_or, sym, ap, ◌∙◌, arith}
use Rattle.std.specs.List.{flat_map}
use Rattle.std.proofs.lemmas.List.{flat_map_more, take_more, length-take}
use Rattle.tx_text.specs.Members.{reply_text}
use Rattle.tx_script.specs.Play.{render}
use Rattle.tx_script.proofs.Scripts.{render_more}
use Rattle.tx_film.specs.declared.frame.Frame.{Frame}
use Rattle.tx_film.specs.Films.{words_of, replies_from}
use Rattle.tx_film.proofs.Parts.{one_line}
use Rattle.tx_film.proofs.Reels.{replies_on}
use Rattle.tx_page.specs.Shown.{quoted_line, script_text}

-- a line as its bytes
abbrev pub now : Bor (List ℕ) → List ℕ
now line = line.now

-- one line more
pub line_more : (xs : List (Bor (List ℕ))) (i : ℕ) (d : Bor (List ℕ)) → i < length xs
    → script_text (map now (take i xs)) ++ quoted_line (now (get_or xs i d)) ≡ script_text (map now (take (i + 1) xs))
line_more xs i d h =
    flat_map_more quoted_line [] (map now (take i xs)) (now (get_or xs i d))
    ∙ ap (flat_map quoted_line) (sym (one_line now xs i d h))

-- so many frames are before the next
so_many : (fs : List Frame) (i : ℕ) → i < length fs → i + 1 ≡ length (take i fs) + 1
so_many fs i h = let n = length-take i fs in omega (arith, h)

-- one reply more
pub told_more : (fs : List Frame) (i : ℕ) (d : Frame) → i < length fs
    → render (replies_from 0 (take i fs)) ++ reply_text (i + 1, words_of (get_or fs i d).reply)
    ≡ render (replies_from 0 (take (i + 1) fs))
told_more fs i d h =
    sym (render_more (replies_from 0 (take i fs)) (i + 1, words_of (get_or fs i d).reply))
    ∙ ap render (sym (replies_on (take i fs) (get_or fs i d) (i + 1) (so_many fs i h)))
    ∙ ap (λ gs. render (replies_from 0 gs)) (sym (take_more fs i d h))
