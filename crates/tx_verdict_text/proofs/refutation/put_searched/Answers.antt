use Rattle.std.proofs.Common.{◌≡◌, ℕ, ◌<◌, List, ◌++◌, codes, ◌∷◌, [], length, map, ap, ◌∙◌, append_assoc, arith}
use Rattle.json.specs.Print.{escape_byte}
use Rattle.serde_json.specs.Data.{array}
use Rattle.serde_json.specs.View.{items_of}
use Rattle.serde_json.specs.Written.{compact_text}
use Rattle.tx_verdict.specs.declared.refutation.Lemma.{Lemma}
use Rattle.tx_verdict.specs.declared.refutation.Refutation.{Refutation}
use Rattle.tx_import.specs.declared.reader.NamedHistory.{NamedHistory}
use Rattle.tx_text.specs.Texts.{line_text}
use Rattle.tx_text.proofs.Texts.{if_ok}
use Rattle.tx_check.proofs.Joins.{join_four}
use Rattle.tx_verdict_text.specs.Words.{answer_words, told_items, facts_data, lemma_data, hints_data, steps_data}
use Rattle.tx_verdict_text.proofs.Lines.{after, four_end}
use Rattle.tx_verdict_text.proofs.refutation.put_searched.Goals as goal

told_so : (h : NamedHistory) (x : Refutation) (ls : List Lemma) → 0 < length ls
    → codes "[\"import\",\"no\",\"order\"," ++ (compact_text (facts_data h x)
    ++ 44 ∷ (compact_text (array (items_of (map (lemma_data h) ls)))
    ++ 44 ∷ (compact_text (hints_data h x.hints.items) ++ 44 ∷ (compact_text (steps_data h x.last.items)
    ++ 93 ∷ 10 ∷ [])))) ≡ line_text (answer_words (codes "no") (told_items h x ls))
unfolding escape_byte
told_so h x [] some = absurd (omega (arith, some))
told_so h x (l ∷ ls) some =
    ap (λ t. codes "[\"import\",\"no\",\"order\"," ++ t) (four_end (compact_text (facts_data h x))
    (compact_text (array (items_of (map (lemma_data h) (l ∷ ls))))) (compact_text (hints_data h x.hints.items))
    (compact_text (steps_data h x.last.items)))

pub returns : goal.returns
returns c =
    let old = c.args.out.now.items in
    let x = c.args.refutation.now in
    let h = c.args.history.now in
    let before = codes "[\"import\",\"no\",\"order\"," in
    let facts = compact_text (facts_data h x) in
    let lemmas = compact_text (array (items_of (map (lemma_data h) x.lemmas.items))) in
    let hints = compact_text (hints_data h x.hints.items) in
    let steps = compact_text (steps_data h x.last.items) in
    if_ok c.extend_from_slice-5.result _ _ _ c.extend_from_slice-5.ensures.items (λ e. e
    ∙ join_four old (before ++ facts) (44 ∷ lemmas) (44 ∷ hints) (44 ∷ steps) (93 ∷ 10 ∷ [])
    (after old before facts c.in_ok-extend_from_slice.ensures.items c.in_ok-put_facts.ensures)
    (after c.put_facts.new.out.items (44 ∷ []) lemmas c.in_ok-extend_from_slice-2.ensures.items
    c.in_ok-put_clauses.ensures)
    (after c.put_clauses.new.out.items (44 ∷ []) hints c.in_ok-extend_from_slice-3.ensures.items
    c.in_ok-put_list.ensures)
    (after c.put_list.new.out.items (44 ∷ []) steps c.in_ok-extend_from_slice-4.ensures.items
    c.in_ok-put_round.ensures)
    ∙ ap (λ t. old ++ t) (front before facts (44 ∷ (lemmas ++ 44 ∷ (hints ++ 44 ∷ (steps ++ 93 ∷ 10 ∷ []))))
    ∙ told_so h x x.lemmas.items c.requires))
  where
    front : (a b t : List ℕ) → (a ++ b) ++ t ≡ a ++ (b ++ t)
    front a b t = append_assoc a b t
