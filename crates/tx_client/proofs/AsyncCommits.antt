-- Where each key of a buffer has an async lock, its transaction is committed at the greatest
-- of their minimums.
use Rattle.std.proofs.Common.{◌≡◌, ◌≢◌, ℕ, zero, suc, max, false, cond, List, [], ◌∷◌, Option, Some, None, bytes_eq, inl, inr, refl, sym, ap, subst, ◌∙◌, arith}
use Rattle.tx_types.specs.declared.key.Key.{Key}
use Rattle.tx_machine.specs.Keys.{mutation_at, IsDistinct}
use Rattle.tx_core.specs.Histories.{History, declared, set_of, set_at}
use Rattle.tx_core.specs.Decisions.{accepted, greatest}
use Rattle.tx_core.specs.Worlds.{IsWorldRun}
use Rattle.tx_core.specs.Laws.{HadAsyncLock, greatest_of}
use Rattle.tx_core.proofs.Basics.{key_test, key_same, is_some}
use Rattle.tx_core.proofs.locks.AllAsync.{all_async}
use Rattle.tx_transaction.specs.declared.state.BufferEntry.{BufferEntry}
use Rattle.tx_transaction.specs.declared.state.Terms.{Terms}
use Rattle.tx_transaction.specs.Buffers.{Entries, changes_of, async_minimum, promised_from, promised}
use Rattle.tx_client.specs.Facts.{standing, Mark, Marks}
use Rattle.tx_client.proofs.Due.{standing_some}

-- each entry has an async lock with a minimum above 0
abbrev Each : Entries → Type 0
Each [] = Unit {0}
Each (e ∷ es) = ((m : ℕ) × (e.1.progress.accepted ≡ Some (suc m))) × Each es

-- the minimum of a key
abbrev value : Option ℕ → ℕ
value None = 0
value (Some m) = m

abbrev min_of : Entries → Key → ℕ
min_of [] k = 0
min_of (e ∷ es) k = cond (bytes_eq e.0 k) (value e.1.progress.accepted) (min_of es k)

-- ---- what a promise says of the buffer

each_by : (n c : ℕ) (o : Option ℕ) (es : Entries) → elim (async_minimum o) [
  | None ↦
      None
  | Some m ↦ promised_from (max n m) es
] ≡ Some c → (m : ℕ) × (o ≡ Some (suc m))
    × (promised_from (max n (suc m)) es ≡ Some c)
each_by n c None es e = absurd (cc (e))
each_by n c (Some zero) es e = absurd (cc (e))
each_by n c (Some (suc m)) es e = (m, refl, e)

each_of : (n c : ℕ) (es : Entries) → promised_from n es ≡ Some c → Each es
each_of n c [] e = tt
each_of n c (x ∷ es) e =
    (let r = each_by n c x.1.progress.accepted es e in ((r.0, r.1), each_of (max n (suc r.0)) c es r.2))

-- ---- the greatest minimum

-- f gives each key its minimum
abbrev Fits : (Key → ℕ) → Entries → Type 0
Fits f [] = Unit {0}
Fits f (e ∷ es) = (f e.0 ≡ value e.1.progress.accepted) × Fits f es

fits_more : (e : Key × BufferEntry) (es fs : Entries) → mutation_at (changes_of es) e.0 ≡ None → Fits (min_of fs) es
    → Fits (min_of (e ∷ fs)) es
fits_more e [] fs none fits = tt
fits_more e (x ∷ es) fs none fits =
    elim (key_test x.0 e.0) [
      | inl y ↦ (let there : Some x.1.mutation ≡ None = rw y.0 at none in absurd (cc (there)))
      | inr y ↦ elim (key_test e.0 x.0) [
        | inl z ↦ absurd (y.1 (sym z.1))
        | inr z ↦ (let rest : mutation_at (changes_of es) e.0 ≡ None =
            rw y.0 at none in (rw z.0 fits.0, fits_more e es fs rest fits.1))
      ]
    ]

fits_own : (es : Entries) → IsDistinct (changes_of es) → Fits (min_of es) es
fits_own [] d = tt
fits_own (e ∷ es) d = (rw (key_same e.0) refl, fits_more e es es d.0 (fits_own es d.1))

max_assoc : (a b c : ℕ) → max (max a b) c ≡ max a (max b c)
max_assoc a b c = omega arith

max_zero : (n : ℕ) → max 0 n ≡ n
max_zero n = omega arith

max_none : (n : ℕ) → max n 0 ≡ n
max_none n = omega arith

greatest_by : (f : Key → ℕ) (n c : ℕ) (e : Key × BufferEntry) (es : Entries)
    → Fits f (e ∷ es) → Each (e ∷ es) → promised_from n (e ∷ es) ≡ Some c
    → c ≡ max n (greatest_of f (changes_of (e ∷ es)))
greatest_by f n c e [] fits each is =
    let r = each_by n c e.1.progress.accepted [] is in
    let this : f e.0 ≡ suc r.0 = fits.0 ∙ ap value r.1 in
    let at : max n (suc r.0) ≡ c = cc (r.2) in
    sym at ∙ ap (max n) (sym this) ∙ ap (max n) (sym (max_none (f e.0)))
greatest_by f n c e (x ∷ es) fits each is =
    let r = each_by n c e.1.progress.accepted (x ∷ es) is in
    let this : f e.0 ≡ suc r.0 = fits.0 ∙ ap value r.1 in
    greatest_by f (max n (suc r.0)) c x es fits.1 each.1 r.2 ∙ max_assoc n (suc r.0)
    (greatest_of f (changes_of (x ∷ es))) ∙ ap (λ m. max n (max m (greatest_of f (changes_of (x ∷ es))))) (sym this)

-- ---- marks

had : (h : History) (t : ℕ) (es : Entries) → Marks h t es → Each es → (k : Key) → mutation_at (changes_of es) k ≢ None
    → HadAsyncLock h t k (min_of es k)
had h t [] marks each k some = absurd (some refl)
had h t (e ∷ es) marks each k some =
    elim (key_test e.0 k) [
      | inl y ↦ (let this : Mark h t e.0 (Some (suc each.0.0)) = subst (Mark h t e.0) each.0.1 marks.0 in
          let at : min_of (e ∷ es) k ≡ suc each.0.0 = rw y.0 (ap value each.0.1) in
          subst (λ (p : Key × ℕ). HadAsyncLock h t p.0 p.1) (λ j. (y.1 j, sym at j)) this)
      | inr y ↦ (let more : mutation_at (changes_of es) k ≢ None = rw y.0 at some in
          subst (HadAsyncLock h t k) (sym (cond_not e es k y.0)) (had h t es marks.1 each.1 k more))
    ]
  where
    cond_not : (e : Key × BufferEntry) (es : Entries) (k : Key) → bytes_eq e.0 k ≡ false
        → min_of (e ∷ es) k ≡ min_of es k
    cond_not e es k other = rw other refl

-- who has an async lock is declared
had_declared : (h : History) (t : ℕ) (k : Key) (m : ℕ) → HadAsyncLock h t k m → declared h t ≢ None
had_declared h t k m a =
    subst (λ u. declared h u ≢ None) a.own (is_some (declared h a.info.start) a.is.of a.is.declares)

-- so the session may answer that it is committed there
pub promised_greatest : (bounds : List Key) (h : History) → IsWorldRun bounds h
    → (t placed : ℕ) (es : Entries) (o : Option Terms) (c : ℕ)
    → declared h t ≡ standing t placed es o → IsDistinct (changes_of es) → Marks h t es → promised es ≡ Some c
    → greatest (accepted h t) (set_at h t) ≡ Some c
promised_greatest bounds h run t placed [] o c stands d marks e = absurd (cc (e))
promised_greatest bounds h run t placed (x ∷ es) o c stands d marks e =
    let each = each_of 0 c (x ∷ es) e in
    let first : HadAsyncLock h t x.0 (suc each.0.0) = subst (Mark h t x.0) each.0.1 marks.0 in
    let r = standing_some t placed (x ∷ es) o (λ none. had_declared h t x.0 (suc each.0.0) first (stands ∙ none)) in
    let set : set_at h t ≡ changes_of (x ∷ es) = ap set_of (stands ∙ r.2) in
    let some : set_at h t ≢ [] = λ none. (let empty : changes_of (x ∷ es) ≡ [] = sym set ∙ none in cc (empty)) in
    let most = all_async bounds h t
    (min_of (x ∷ es)) run some
    (λ k within. had h t (x ∷ es) marks each k (subst (λ s. mutation_at s k ≢ None) set within)) in
    let greatest_is : c ≡ greatest_of (min_of (x ∷ es)) (changes_of (x ∷ es)) =
    greatest_by (min_of (x ∷ es)) 0 c x es (fits_own (x ∷ es) d) each e
    ∙ max_zero (greatest_of (min_of (x ∷ es)) (changes_of (x ∷ es))) in
    most ∙ ap (λ s. Some (greatest_of (min_of (x ∷ es)) s)) set ∙ ap Some (sym greatest_is)
