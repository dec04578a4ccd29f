-- Keys that lines can show.
use Rattle.std.proofs.Common.{◌≡◌, ◌≤◌, ℕ, true, List, ◌∷◌, ◌++◌, length, take, drop}
use Rattle.std.specs.Str.{IsUtf8, is_utf8}
use Rattle.std.proofs.lemmas.Str.{is_utf8-from_IsUtf8}
use Rattle.std.proofs.lemmas.List.Elements.{All-append, All-cons, All-take, All-drop}
use Rattle.tx_types.specs.declared.key.Key.{Key}
use Rattle.tx_types.specs.declared.limits.TheConstants.{MAX_KEY_BYTES}
use Rattle.tx_film.specs.Lines.{IsShowable}

abbrev One : Key → Type 0
One key = (is_utf8 key ≡ true) × (length key ≤ MAX_KEY_BYTES)

pub inserted : (keys : List Key) (at : ℕ) (key : Key) → IsUtf8 key → length key ≤ MAX_KEY_BYTES → IsShowable keys
    → IsShowable (take at keys ++ key ∷ drop at keys)
inserted keys at key text short each = All-append One (take at keys) (key ∷ drop at keys) (All-take One at keys each)
    (All-cons One key (drop at keys) (is_utf8-from_IsUtf8 key text, short) (All-drop One at keys each))
