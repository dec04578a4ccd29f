-- Changes, one key further.
use Rattle.std.proofs.Common.{◌≡◌, ◌≢◌, ◌<◌, ◌++◌, ◌∷◌, [], List, length, get_or, Option, Some, subst, ◌∙◌, inl, inr, arith}
use Rattle.std.specs.Prelude.{◌⊎◌, Any}
use Rattle.std.proofs.lemmas.List.Elements.{All-push, All-weaker, All-nil, Contains-get_or}
use Rattle.std.proofs.lemmas.List.Quantifiers.{all_pairs_push}
use Rattle.tx_cells.specs.declared.copies.KeyVersions.{KeyVersions}
use Rattle.tx_sheet.specs.declared.row.Change.{Change}
use Rattle.tx_film.specs.declared.frame.KeyShown.{KeyShown}
use Rattle.tx_sheet.specs.Seen.{lock_in, records_in, AreAlike}
use Rattle.tx_sheet.specs.Changes.{IsChange, IsQuiet, IsSame, last_of, IsTold, ChangesOf}
use Rattle.tx_sheet.proofs.Lists.{any_from, any_left, any_last}
use Rattle.tx_sheet.proofs.Others.{none_new}

-- a change that is quiet tells that nothing changed
pub quiet_same : (before : Option KeyVersions) (after : KeyVersions) (c : Change) → IsChange before after c
    → IsQuiet c → IsSame before after
quiet_same before after c is quiet = (
  subst (λ l. AreAlike l (lock_in (Some after))) is.old_lock (subst (AreAlike c.old_lock) is.lock quiet.0),
  none_new (records_in before) (records_in (Some after)) c.came.items is.came quiet.1,
  none_new (records_in (Some after)) (records_in before) c.went.items is.went quiet.2,
)

module _ (last : List (Option KeyVersions)) (said these : List KeyShown) (s : KeyShown) (changes : List Change)
    (h : ChangesOf last said these changes) where
  -- nothing is to be told
  pub silent : (s.key < length last → IsSame (last_of last s.key) s.shown ⊎ Any (λ c. c.key ≡ s.key) changes)
      → ChangesOf last said (these ++ s ∷ []) changes
  silent here = record {
    told = h.told;
    all = All-push (λ (x : KeyShown). x.key < length last
        → IsSame (last_of last x.key) x.shown ⊎ Any (λ c. c.key ≡ x.key) changes) these s h.all here;
    once = h.once;
  }

  -- a change is told
  pub told_more : (c : Change) → IsTold last said c → c.key ≡ s.key → (Any (λ x. x.key ≡ s.key) changes → ⊥)
      → ChangesOf last said (these ++ s ∷ []) (changes ++ c ∷ [])
  told_more c is key none = record {
    told = All-push (IsTold last said) changes c h.told is;
    all = All-push (λ (x : KeyShown). x.key < length last
        → IsSame (last_of last x.key) x.shown ⊎ Any (λ d. d.key ≡ x.key) (changes ++ c ∷ [])) these s
        (All-weaker (λ (x : KeyShown). x.key < length last
        → IsSame (last_of last x.key) x.shown ⊎ Any (λ d. d.key ≡ x.key) changes)
        (λ (x : KeyShown). x.key < length last
        → IsSame (last_of last x.key) x.shown ⊎ Any (λ d. d.key ≡ x.key) (changes ++ c ∷ []))
        (λ x was lt. elim (was lt) [
          | inl same ↦ inl same
          | inr any ↦ inr (any_left (λ (d : Change). d.key ≡ x.key) changes c any)
        ]) these h.all)
        (λ lt. inr (any_last (λ (d : Change). d.key ≡ s.key) changes c key));
    once = all_pairs_push (λ (a b : Change). a.key ≢ b.key) changes c h.once
        (λ k d lt same. none (any_from (λ (x : Change). x.key ≡ s.key) changes (get_or changes k d)
        (Contains-get_or changes k d lt) (same ∙ key)));
  }

pub no_changes : (last : List (Option KeyVersions)) (said : List KeyShown) → ChangesOf last said [] []
no_changes last said = record {
  told = All-nil (IsTold last said);
  all = All-nil (λ (x : KeyShown). x.key < length last
      → IsSame (last_of last x.key) x.shown ⊎ Any (λ (c : Change). c.key ≡ x.key) []);
  once = λ i j d lt lt'. absurd (omega (arith, lt'));
}
