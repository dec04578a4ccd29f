-- What a command makes of the numbers of the keys.
use Rattle.std.proofs.Common.{◌≡◌, ◌≢◌, ◌⊎◌, ℕ, ◌+◌, ◌<◌, inl, inr, cond, List, [], ◌∷◌, length, Result, Ok, Err, Option, Some, None, refl, sym, ap, subst, ◌∙◌, arith}
use Rattle.std.specs.Prelude.{IfOk, OnOk, Contains}
use Rattle.std.proofs.lemmas.Bool.{cases_Bool}
use Rattle.tx_types.specs.declared.key.Key.{Key}
use Rattle.tx_plan.specs.declared.body.Body.{Body}
use Rattle.tx_plan.specs.declared.body.Prewrite.{Prewrite}
use Rattle.tx_plan.specs.declared.key_change.KeyChange.{KeyChange}
use Rattle.tx_plan.specs.declared.key_change.KeyChange.TheVariants as change
use Rattle.tx_plan.specs.declared.key_change.NewLock.{NewLock}
use Rattle.tx_plan.specs.Cells.{Cells, Write}
use Rattle.tx_plan.specs.Changes.{changed, Applies, after_put, CanPut}
use Rattle.tx_plan.specs.RealChanges.{Makes}
use Rattle.tx_plan.specs.cases.Collect.{keeps, kept, IsDropped, AllDropped}
use Rattle.tx_cells.specs.Contents.{OnKey, Content, cells_of, cells_in}
use Rattle.tx_cells.specs.Afterwards.{OnlyOn}
use Rattle.tx_cells.specs.Numbers.{noted, noted_by}
use Rattle.tx_core.specs.LastChanges.{turn_of, NotesAll}
use Rattle.tx_core.proofs.evolution.Changes.{makes_other, puts_other}
use Rattle.tx_region.specs.Calls.{Counts}
use Rattle.tx_region.proofs.Basics.{key_test, cond_true, cond_false}

-- ---- one key

module _ (before after : Content) (s t : Key → ℕ) (key : Key) (x : OnKey) (past number : ℕ)
    (only : OnlyOn key x before after) where
  -- it has other cells, and the number
  notes_one : cells_of (before key) ≢ cells_of (after key)
      → ((k : Key) → t k ≡ noted s key number k) → past < number
      → NotesAll past number (cells_in before) s (cells_in after) t
  notes_one differs note more k =
      elim (key_test key k) [
        | inl e ↦ inr (
          subst (λ q. cells_of (before q) ≢ cells_of (after q)) e.1 differs,
          note k
              ∙ cond_true _ _ _ e.0,
          more,
        )
        | inr e ↦ inl (ap cells_of (sym (only.others k (λ same. e.1 (sym same)))), sym (note k ∙ cond_false _ _ _ e.0))
      ]

  -- it has the same cells, and its number
  notes_none : cells_of (before key) ≡ cells_of (after key) → ((k : Key) → t k ≡ s k)
      → NotesAll past number (cells_in before) s (cells_in after) t
  notes_none same note k =
      elim (key_test key k) [
        | inl e ↦ inl (subst (λ q. cells_of (before q) ≡ cells_of (after q)) e.1 same, sym (note k))
        | inr e ↦ inl (ap cells_of (sym (only.others k (λ is. e.1 (sym is)))), sym (note k))
      ]

  pub notes_change : (c : KeyChange) → cells_of (after key) ≡ changed (cells_of (before key)) c
      → Applies (cells_of (before key)) c → Makes (cells_of (before key)) c
      → ((k : Key) → t k ≡ noted_by c s key number k) → past < number
      → NotesAll past number (cells_in before) s (cells_in after) t
  notes_change change.Nothing put may makes note more = notes_none (sym put) note
  notes_change (change.Lock new) put may makes note more = absurd may
  notes_change (change.Ttl n) put may makes note more =
      notes_one (λ same. makes_other (cells_of (before key)) (change.Ttl n) may makes (λ e. cc e) (same ∙ put)) note
      more
  notes_change (change.Minimum n) put may makes note more =
      notes_one (λ same. makes_other (cells_of (before key)) (change.Minimum n) may makes (λ e. cc e) (same ∙ put)) note
      more
  notes_change (change.Commit n o) put may makes note more =
      notes_one (λ same. makes_other (cells_of (before key)) (change.Commit n o) may makes (λ e. cc e) (same ∙ put))
      note more
  notes_change (change.RollBack n r l) put may makes note more =
      notes_one (λ same. makes_other (cells_of (before key)) (change.RollBack n r l) may makes (λ e. cc e) (same ∙ put))
      note more

  pub notes_put : (b : Prewrite) (new : NewLock) → cells_of (after key) ≡ after_put
      (cells_of (before key)) b (Some new) → CanPut (cells_of (before key)) b new
      → ((k : Key) → t k ≡ noted s key number k) → past < number
      → NotesAll past number (cells_in before) s (cells_in after) t
  notes_put b new put can note more =
      notes_one (λ same. puts_other (cells_of (before key)) b new can (same ∙ put)) note more

-- nothing was changed
pub notes_still : (past number : ℕ) (cells : Key → Cells) (s : Key → ℕ) → NotesAll past number cells s cells s
notes_still past number cells s k = inl (refl, refl)

pub counts_one : {T E : Type 0} (r : Result T E) (b : Body) (taken after_it : ℕ) (before after : Key → Cells)
    (s t : Key → ℕ) → turn_of b ≡ 1 → OnOk r (after_it ≡ taken + 1) → OnOk r (NotesAll taken after_it before s after t)
    → IfOk r (λ x. Counts b taken before s after_it after t)
counts_one (Ok x) b taken after_it before after s t one turn notes =
    record { turn = omega (arith, one, turn); notes = inl notes }
counts_one (Err e) b taken after_it before after s t one turn notes = tt

-- ---- collection

none_or_some : (o : Option Write) → (o ≡ None) ⊎ (o ≢ None)
none_or_some None = inl refl
none_or_some (Some w) = inr (λ e. cc e)

-- where nothing is dropped each key stays
pub none_dropped : (cells : Key → Cells) (safe : ℕ) (indexes : List (Key × ℕ)) → AllDropped cells safe indexes
    → length indexes ≡ 0 → (k : Key) → cells k ≡ kept (cells k) safe
none_dropped cells safe indexes all none k = λ i. record { lock = (cells k).lock; write = λ q. at q i }
  where
    empty : (ps : List (Key × ℕ)) → length ps ≡ 0 → (p : Key × ℕ) → Contains ps p → ⊥
    empty [] e p there = omega (arith, there.1)
    empty (x ∷ ps) e p there = absurd (omega (arith, e))

    at : (q : ℕ) → (cells k).write q ≡ cond (keeps (cells k).write safe q) ((cells k).write q) None
    at q = elim (cases_Bool (keeps (cells k).write safe q)) [
      | inl e ↦ sym (cond_true _ _ _ e)
      | inr e ↦ elim (none_or_some ((cells k).write q)) [
        | inl gone ↦ gone ∙ sym (cond_false _ _ _ e)
        | inr some ↦ absurd (empty indexes none (k, q) ((all.each (k, q)).1 (some, e)))
      ]
    ]

-- where something is dropped some key does not
pub some_dropped : (cells : Key → Cells) (safe : ℕ) (indexes : List (Key × ℕ)) → AllDropped cells safe indexes
    → length indexes ≢ 0 → ((k : Key) → cells k ≡ kept (cells k) safe) → ⊥
some_dropped cells safe [] all some same = some refl
some_dropped cells safe (p ∷ ps) all some same =
    let gone : IsDropped cells safe p = (all.each p).0 (first p ps) in
    let here : (cells p.0).write p.1 ≡ cond (keeps (cells p.0).write safe p.1) ((cells p.0).write p.1) None =
    ap (λ (c : Cells). c.write p.1) (same p.0) in
    gone.0 (here ∙ cond_false _ _ _ gone.1)
  where
    first : (p : Key × ℕ) (ps : List (Key × ℕ)) → Contains (p ∷ ps) p
    first p ps = (0, omega arith, refl)
