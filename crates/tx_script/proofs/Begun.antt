-- Lines that are written one after another, up to where that was broken off.
use Rattle.std.proofs.Common.{◌≡◌, inl, inr, ◌+◌, ◌<◌, ℕ, suc, List, [], ◌∷◌, ◌++◌, map, length, take, drop, get_or, Option, refl, sym, ap, subst, ◌∙◌, append_assoc, append-nil, take-append-drop, drop-cons}
use Rattle.std.specs.List.{concat}
use Rattle.std.specs.Io.KnownBytes.{Appends, Keeps}
use Rattle.std.proofs.KnownBytes.{Appends-nil, Appends-trans, Appends-kept, Keeps-refl}
use Rattle.std.proofs.lemmas.List.{map_more, map-append}
use Rattle.std.proofs.lemmas.List.Folds.{concat-append}
use Rattle.tx_text.specs.declared.end.Broken.{Broken}
use Rattle.tx_text.specs.declared.end.Broken.TheVariants.{Output}
use Rattle.tx_text.specs.Output.{AppendsPart}
use Rattle.tx_script.specs.Checked.{IsBegun}
use Rattle.tx_script.specs.Loops.{AppendsBegun}

-- ---- texts

begun_more : (why : Broken) (lines more : List (List ℕ)) (written : List ℕ) → IsBegun why lines written
    → IsBegun why (lines ++ more) written
begun_more why lines more written (inl (first, rest, split, is)) =
    inl (first, rest ++ more, ap (λ l. l ++ more) split ∙ append_assoc first rest more, is)
begun_more why lines more written (inr (rest, is, out)) =
    inr (
      rest ++ concat more,
      concat-append lines more ∙ ap (λ l. l
          ++ concat more) is ∙ append_assoc written rest (concat more),
      out,
    )

begun_after : (why : Broken) (done lines : List (List ℕ)) (written : List ℕ) → IsBegun why lines written
    → IsBegun why (done ++ lines) (concat done ++ written)
begun_after why done lines written (inl (first, rest, split, is)) =
    inl (
      done ++ first,
      rest,
      ap (λ l. done ++ l) split ∙ sym (append_assoc done first rest),
      ap (λ l. concat done ++ l) is ∙ sym (concat-append done first),
    )
begun_after why done lines written (inr (rest, is, out)) =
    inr (
      rest,
      concat-append done lines ∙ ap (λ l. concat done ++ l) is ∙ sym (append_assoc (concat done) written rest),
      out,
    )

-- ---- what was written

-- nothing
pub appends_none : (why : Broken) (old new : Option (List ℕ)) (lines : List (List ℕ)) → Keeps old new
    → AppendsBegun why old new lines
appends_none why old new lines kept = ([], inl ([], lines, refl, refl), Appends-kept _ _ _ _ (Appends-nil old) kept)

-- the first few bytes of the next line, where a write failed
pub appends_part : (why : Broken) (old new : Option (List ℕ)) (line : List ℕ) (more : List (List ℕ))
    → AppendsPart old new line → why ≡ Output → AppendsBegun why old new (line ∷ more)
appends_part why old new line more (n, part) out = (
  take n line,
  inr (
    drop n line ++ concat more,
    ap (λ l. l ++ concat more) (sym (take-append-drop n line)) ∙ append_assoc
        (take n line) (drop n line) (concat more),
    out,
  ),
  part,
)

-- the only line, and no more
pub appends_line : (why : Broken) (old mid new : Option (List ℕ)) (line : List ℕ) → Appends old mid line → Keeps mid new
    → AppendsBegun why old new (line ∷ [])
appends_line why old mid new line sent kept = (
  line,
  inl (line ∷ [], [], refl, sym (append-nil line)),
  Appends-kept _ _ _ _ sent kept,
)

-- the same, where more lines were to come
pub appends_more : (why : Broken) (old new : Option (List ℕ)) (lines more : List (List ℕ))
    → AppendsBegun why old new lines → AppendsBegun why old new (lines ++ more)
appends_more why old new lines more (written, begun, appends) = (
  written,
  begun_more why lines more written begun,
  appends,
)

-- the same, after lines that were written
pub appends_after : (why : Broken) (old mid new : Option (List ℕ)) (done lines : List (List ℕ))
    → Appends old mid (concat done) → AppendsBegun why mid new lines → AppendsBegun why old new (done ++ lines)
appends_after why old mid new done lines sent (written, begun, appends) =
    (concat done ++ written, begun_after why done lines written begun, Appends-trans _ _ _ _ _ sent appends)

-- all of some lines, and one more
pub appends_last : (old mid new : Option (List ℕ)) (lines : List (List ℕ)) (last : List ℕ)
    → Appends old mid (concat lines) → Appends mid new last → Appends old new (concat (lines ++ last ∷ []))
appends_last old mid new lines last sent more = subst (Appends old new) (sym (concat-append lines (last
    ∷ []) ∙ ap (λ l. concat lines ++ l) (append-nil last))) (Appends-trans _ _ _ _ _ sent more)

-- ---- a line for each

module _ {X : Type 0} (f : X → List ℕ) (xs : List X) (i : ℕ) (d : X) (within : i < length xs) where
  -- one more
  concat_more : concat (map f (take (i + 1) xs)) ≡ concat (map f (take i xs)) ++ f (get_or xs i d)
  concat_more = ap concat (map_more f xs i d within) ∙ concat-append (map f (take i xs)) (f (get_or xs i d)
      ∷ []) ∙ ap (λ l. concat (map f (take i xs)) ++ l) (append-nil (f (get_or xs i d)))

  -- those before it, and from it on
  split_at : map f xs ≡ map f (take i xs) ++ f (get_or xs i d) ∷ map f (drop (suc i) xs)
  split_at = ap (map f) (sym (take-append-drop i xs) ∙ ap (λ l. take i xs
      ++ l) (drop-cons xs i d within)) ∙ map-append f (take i xs) (get_or xs i d ∷ drop (suc i) xs)

  -- those before it were written
  module _ (old mid : Option (List ℕ)) (sent : Appends old mid (concat (map f (take i xs)))) where
    pub each_more : (new : Option (List ℕ)) → Appends mid new (f (get_or xs i d))
        → Appends old new (concat (map f (take (i + 1) xs)))
    each_more new more = subst (Appends old new) (sym concat_more) (Appends-trans _ _ _ _ _ sent more)

    each_then : (why : Broken) (new : Option (List ℕ))
        → AppendsBegun why mid new (f (get_or xs i d) ∷ map f (drop (suc i) xs)) → AppendsBegun why old new (map f xs)
    each_then why new begun = subst (AppendsBegun why old new) (sym split_at)
        (appends_after why old mid new (map f (take i xs)) (f (get_or xs i d) ∷ map f (drop (suc i) xs)) sent begun)

    pub each_none : (why : Broken) → AppendsBegun why old mid (map f xs)
    each_none why = each_then why mid (appends_none why mid mid (f (get_or xs i d)
        ∷ map f (drop (suc i) xs)) (Keeps-refl mid))

    pub each_part : (why : Broken) (new : Option (List ℕ)) → AppendsPart mid new (f (get_or xs i d)) → why ≡ Output
        → AppendsBegun why old new (map f xs)
    each_part why new part out = each_then why new
        (appends_part why mid new (f (get_or xs i d)) (map f (drop (suc i) xs)) part out)
