-- Lines that are written one after another, up to where that was broken off.
use Rattle.std.proofs.Common.{◌≡◌, inl, inr, ℕ, ◌+◌, ◌<◌, suc, List, [], ◌∷◌, ◌++◌, All, map, length, take, drop, get_or, Option, Result, Ok, Err, OnOk, OnErr, refl, sym, ap, subst, ◌∙◌, append_assoc, append-nil, take-append-drop, drop-cons}
use Rattle.std.specs.List.{flat_map}
use Rattle.std.specs.Io.KnownBytes.{Appends, Keeps}
use Rattle.std.proofs.KnownBytes.{Appends-nil, Appends-trans, Appends-kept}
use Rattle.std.proofs.Math.Seq.{take-append_seam}
use Rattle.std.proofs.lemmas.List.{map_more, map-append, take-map}
use Rattle.std.proofs.lemmas.Grind.{flat_map-append}
use Rattle.tx_core.specs.Worlds.{IsWorldRun}
use Rattle.tx_journal.specs.Known.{Seen}
use Rattle.tx_text.specs.Output.{AppendsPart}
use Rattle.tx_workload.specs.declared.reply.LineReply.{LineReply}
use Rattle.tx_workload.specs.Outcomes.{TellsOutcomes}
use Rattle.tx_workload.specs.Pairs.{TellsPair}
use Rattle.tx_workload.specs.Tells.{AllTell}
use Rattle.tx_workload.specs.Totals.{TellsTotal}
use Rattle.tx_workload.specs.Texts.{IsTextOf, IsTextFrom, WritesPart}

pub on_any_err : {T E : Type 0} (P : Type 0) (r : Result T E) → P → OnErr r P
on_any_err P (Ok v) p = tt
on_any_err P (Err e) p = p

pub on_any_ok : {T E : Type 0} (P : Type 0) (r : Result T E) → P → OnOk r P
on_any_ok P (Ok v) p = p
on_any_ok P (Err e) p = tt

pub on_ok : {T E : Type 0} {P Q : Type 0} (r : Result T E) → OnOk r P → (P → Q) → OnOk r Q
on_ok (Ok v) p f = f p
on_ok (Err e) p f = tt

pub on_err : {T E : Type 0} {P Q : Type 0} (r : Result T E) → OnErr r P → (P → Q) → OnErr r Q
on_err (Ok v) p f = tt
on_err (Err e) p f = f p

-- ---- the first few bytes of a text

part_from : (old new : Option (List ℕ)) (text written more : List ℕ) → text ≡ written ++ more → Appends old new written
    → AppendsPart old new text
part_from old new text written more is sent =
    (length written, subst (Appends old new) (sym (ap (take (length written)) is ∙ take-append_seam written more)) sent)

-- none, and all
pub part_none : (old new : Option (List ℕ)) (text : List ℕ) → Keeps old new → AppendsPart old new text
part_none old new text kept = part_from old new text [] text refl (Appends-kept _ _ _ _ (Appends-nil old) kept)

pub part_all : (old new : Option (List ℕ)) (text : List ℕ) → Appends old new text → AppendsPart old new text
part_all old new text sent = part_from old new text text [] (sym (append-nil text)) sent

-- some of what comes next, after all that comes first
pub part_after : (old mid new : Option (List ℕ)) (done next rest text : List ℕ) → text ≡ done ++ (next ++ rest)
    → Appends old mid done → AppendsPart mid new next → AppendsPart old new text
part_after old mid new done next rest text is sent (n, part) =
    part_from old new text (done ++ take n next) (drop n next ++ rest)
    (is ∙ ap (λ l. done ++ (l ++ rest)) (sym (take-append-drop n next))
    ∙ ap (λ l. done ++ l) (append_assoc (take n next) (drop n next) rest)
    ∙ sym (append_assoc done (take n next) (drop n next ++ rest)))
    (Appends-trans _ _ _ _ _ sent part)

-- some of what comes first
pub part_first : (old new : Option (List ℕ)) (first rest : List ℕ) → AppendsPart old new first
    → AppendsPart old new (first ++ rest)
part_first old new first rest (n, part) = part_from old new (first ++ rest) (take n first) (drop n first ++ rest)
    (ap (λ l. l ++ rest) (sym (take-append-drop n first)) ∙ append_assoc (take n first) (drop n first) rest) part

-- some of what comes last
pub part_then : (old mid new : Option (List ℕ)) (first last : List ℕ) → Appends old mid first → AppendsPart mid new last
    → AppendsPart old new (first ++ last)
part_then old mid new first last sent part =
    part_after old mid new first last [] (first ++ last) (ap (λ l. first ++ l) (sym (append-nil last))) sent part

-- ---- a line for each

module _ {P X : Type 0} (f : X → List ℕ) (v : P → X) (xs : List P) (i : ℕ) (d : P) (within : i < length xs) where
  -- one more
  text_more : flat_map f (take (i + 1) (map v xs)) ≡ flat_map f (take i (map v xs)) ++ f (v (get_or xs i d))
  text_more =
      ap (flat_map f) (take-map v (i + 1) xs ∙ map_more v xs i d within
      ∙ ap (λ l. l ++ v (get_or xs i d) ∷ []) (sym (take-map v i xs)))
      ∙ flat_map-append f (take i (map v xs)) (v (get_or xs i d) ∷ [])
      ∙ ap (λ l. flat_map f (take i (map v xs)) ++ l) (append-nil (f (v (get_or xs i d))))

  -- those before it, it, and those after it
  split_at : flat_map f (map v xs) ≡ flat_map f (take i (map v xs))
      ++ (f (v (get_or xs i d)) ++ flat_map f (map v (drop (suc i) xs)))
  split_at =
      ap (λ l. flat_map f (map v l)) (sym (take-append-drop i xs) ∙ ap (λ l. take i xs ++ l) (drop-cons xs i d within))
      ∙ ap (flat_map f) (map-append v (take i xs) (get_or xs i d ∷ drop (suc i) xs))
      ∙ flat_map-append f (map v (take i xs)) (v (get_or xs i d) ∷ map v (drop (suc i) xs))
      ∙ ap (λ l. flat_map f l
      ++ (f (v (get_or xs i d)) ++ flat_map f (map v (drop (suc i) xs)))) (sym (take-map v i xs))

  -- those before it were written
  module _ (old mid : Option (List ℕ)) (sent : Appends old mid (flat_map f (take i (map v xs)))) where
    pub each_more : (new : Option (List ℕ)) → Appends mid new (f (v (get_or xs i d)))
        → Appends old new (flat_map f (take (i + 1) (map v xs)))
    each_more new more = subst (Appends old new) (sym text_more) (Appends-trans _ _ _ _ _ sent more)

    pub each_none : AppendsPart old mid (flat_map f (map v xs))
    each_none = part_from old mid _ (flat_map f (take i (map v xs))) _ split_at sent

    pub each_part : (new : Option (List ℕ)) → AppendsPart mid new (f (v (get_or xs i d)))
        → AppendsPart old new (flat_map f (map v xs))
    each_part new part = part_after old mid new (flat_map f (take i (map v xs))) (f (v (get_or xs i d))) _ _ split_at
        sent part

-- ---- of what was played

pub from_played : (source old new : Option (List ℕ)) (seen : Seen) (replies : List LineReply) (total : ℕ)
    → IsWorldRun seen.bounds seen.events → TellsOutcomes seen.events replies → All (TellsPair source) replies
    → AllTell source seen replies → TellsTotal seen replies total → WritesPart old new (IsTextOf replies total)
    → WritesPart old new (IsTextFrom source)
from_played source old new seen replies total run told pairs tells sum (inl kept) = inl kept
from_played source old new seen replies total run told pairs tells sum (inr (text, is, part)) =
    inr (text, inr (seen, replies, total, run, told, pairs, tells, sum, is), part)
