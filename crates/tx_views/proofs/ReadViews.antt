-- What a list that was read says.
use Rattle.std.proofs.Common.{◌≡◌, ◌⊎◌, ◌↔◌, ℕ, ◌+◌, ◌-◌, ◌<◌, ◌≤◌, cond, List, [], ◌∷◌, ◌++◌, length, take, drop, get_or, Contains, arith, inl, inr, refl, sym, ap, ◌∙◌, subst, true, false, IfOk, Result, Ok, Err, Option, None, IfNone}
use Rattle.std.proofs.lemmas.Bool.{cases_eq}
use Rattle.std.proofs.lemmas.List.{take-append-drop, length-take-le, length-append, append_cancel_right, length-take, drop_at, take-take, length-drop, get_or_read}
use Rattle.std.proofs.lemmas.List.Elements.{Contains-push_cases, Contains-push, Contains-append_left}
use Rattle.tx_recording.specs.declared.recording.RecordedOutcome.TheVariants.{Ok as Committed}
use Rattle.tx_recording.specs.declared.recording.Span.{Span}
use Rattle.tx_recording.specs.declared.recording.RecordedOp.{RecordedOp}
use Rattle.tx_recording.specs.declared.recording.Act.TheVariants.{Read}
use Rattle.tx_recording.specs.declared.recording.RecordedTransaction.{RecordedTransaction}
use Rattle.tx_recording.specs.declared.recording.Recording.{Recording}
use Rattle.tx_recording.specs.Recordings.{list_of, ops_of, txns_of, transaction_at, no_op, no_transaction}
use Rattle.tx_recording.specs.Explanations.{after, op_at}
use Rattle.tx_views.specs.declared.effect.Effect.{Effect}
use Rattle.tx_views.specs.declared.view.RecordedView.{RecordedView}
use Rattle.tx_views.specs.declared.view.Seen.{Seen}
use Rattle.tx_views.specs.declared.view.Seen.TheVariants.{Base, Own, Wrong}
use Rattle.tx_views.specs.Views.{IsEffect, left_by, IsSeen, IsViewOf, IsAnswered, IsReadAt}

pub appended : (e : Effect) (xs : List ℕ) → e.clears ≡ false → left_by e xs ≡ xs ++ e.values.items
appended e xs is = ap (λ b. cond b e.values.items (xs ++ e.values.items)) is

pub cleared : (e : Effect) (xs : List ℕ) → e.clears ≡ true → left_by e xs ≡ e.values.items
cleared e xs is = ap (λ b. cond b e.values.items (xs ++ e.values.items)) is

-- the first values of a span
pub front : (r : Recording) (s : Span) (n : ℕ) → n ≤ s.count → s.first + s.count ≤ length r.elements.items
    → list_of r record { first = s.first; count = n } ≡ take n (list_of r s)
front r s n le within =
    let a : s.first + n - s.first ≡ n = omega arith in
    let b : s.first + s.count - s.first ≡ s.count = omega arith in
    ap (λ q. take q (drop s.first r.elements.items)) a ∙ sym (take-take n s.count (drop s.first r.elements.items) le)
    ∙ ap (λ q. take n (take q (drop s.first r.elements.items))) (sym b)

pub long : (r : Recording) (s : Span) → s.first + s.count ≤ length r.elements.items → length (list_of r s) ≡ s.count
long r s within =
    let n = length-take (s.first + s.count - s.first) (drop s.first r.elements.items) in
    let m = length-drop s.first r.elements.items in
    omega (arith, n, m, within)

-- it ends in what was put, behind what was there
pub base_is : (r : Recording) (s : Span) (own : List ℕ) (cut : ℕ) (list : List ℕ) → list ≡ list_of r s
    → s.first + s.count ≤ length r.elements.items
    → length own ≤ length list → cut ≡ length list - length own → drop cut list ≡ own
    → (xs : List ℕ) → (list_of r s ≡ xs ++ own) ↔ (xs ≡ list_of r record { first = s.first; count = cut })
base_is r s own cut list is within le at ends xs =
    let n = long r s within in
    let m = ap length is in
    let small : cut ≤ s.count = omega (arith, at, n, m) in
    let f = front r s cut small within in
    let whole : list_of r s ≡ take cut (list_of r s) ++ own =
    sym (take-append-drop cut (list_of r s)) ∙ ap (λ q. take cut (list_of r s) ++ q) (ap (λ q. drop cut q) (sym is)
    ∙ ends) in (
      λ e. append_cancel_right xs (take cut (list_of r s)) own (sym e ∙ whole) ∙ sym f,
      λ e. whole ∙ ap (λ q. q ++ own) (sym f ∙ sym e),
    )

-- it does not end in what was put
pub not_behind : (own list xs : List ℕ) (cut : ℕ) → cut ≡ length list - length own → (drop cut list ≡ own → ⊥)
    → list ≡ xs ++ own → ⊥
not_behind own list xs cut at ne e =
    let n = ap length e in
    let m = length-append xs own in
    let k : length xs ≡ cut = omega (arith, n, m, at) in
    ne (ap (λ q. drop cut q) e ∙ drop_at xs own cut k)

pub too_long : (own list xs : List ℕ) → length list < length own → list ≡ xs ++ own → ⊥
too_long own list xs lt e = (let n = ap length e in let m = length-append xs own in omega (arith, n, m, lt))

-- what is said of operations that leave the same
pub seen_same : (r : Recording) (os more : List RecordedOp) (k : ℕ) (s : Span) (seen : Seen)
    → ((xs : List ℕ) → after more k xs ≡ after os k xs) → IsSeen r os k s seen → IsSeen r more k s seen
seen_same r os more k s (Base b) same is = (
  is.0,
  λ xs. (λ e. (is.1 xs).0 (e ∙ same xs), λ e. (is.1 xs).1 e ∙ sym (same xs)),
)
seen_same r os more k s Own same is = λ xs. is xs ∙ sym (same xs)
seen_same r os more k s Wrong same is = λ xs e. is xs (e ∙ same xs)

-- answered by more views
pub answered_more : (r : Recording) (views more : List RecordedView) (t p : ℕ)
    → ((v : RecordedView) → Contains views v → Contains more v)
    → IsAnswered r views t p → IsAnswered r more t p
answered_more r views more t p kept answered s is = elim (answered s is) [
  | inl own ↦ inl own
  | inr (v, there, of_t, of_key, same) ↦ inr (v, kept v there, of_t, of_key, same)
]

same_span : (s q : Span) → Read s ≡ Read q → s ≡ q
same_span s q e = grind (arith, e)

pub answered_by : (r : Recording) (views : List RecordedView) (t p : ℕ) (span base : Span)
    → (op_at r t p).act ≡ Read span
    → ((xs : List ℕ) → (list_of r span ≡ after (take p (ops_of r t)) (op_at r t p).key xs) ↔ (xs ≡ list_of r base))
    → Contains views record { txn = t; key = (op_at r t p).key; span = base } → IsAnswered r views t p
answered_by r views t p span base at iff there s is =
    let e : span ≡ s = same_span span s (sym at ∙ is) in
    let P : Span → Type 0 = λ q. list_of r q ≡ after (take p (ops_of r t)) (op_at r t p).key (list_of r base) in
    inr (
      record { txn = t; key = (op_at r t p).key; span = base },
      there,
      refl,
      refl,
      subst P e ((iff (list_of r base)).1 refl),
    )

pub answered_own : (r : Recording) (views : List RecordedView) (t p : ℕ) (span : Span) → (op_at r t p).act ≡ Read span
    → ((xs : List ℕ) → list_of r span ≡ after (take p (ops_of r t)) (op_at r t p).key xs) → IsAnswered r views t p
answered_own r views t p span at own s is =
    let e : span ≡ s = same_span span s (sym at ∙ is) in
    let P : Span → Type 0 = λ q. (xs : List ℕ) → list_of r q ≡ after (take p (ops_of r t)) (op_at r t p).key xs in
    inl (subst P e own)

pub view_by : (r : Recording) (t p : ℕ) (span base : Span) → IsReadAt r t p span
    → base.first + base.count ≤ length r.elements.items
    → ((xs : List ℕ) → (list_of r span ≡ after (take p (ops_of r t)) (op_at r t p).key xs) ↔ (xs ≡ list_of r base))
    → IsViewOf r record { txn = t; key = (op_at r t p).key; span = base }
view_by r t p span base at within iff = (within, (p, span, at, refl, iff))

-- each of the old views and one more
pub only_push : (r : Recording) (views : List RecordedView) (v : RecordedView) → IsViewOf r v
    → ((w : RecordedView) → Contains views w → IsViewOf r w)
    → (w : RecordedView) → Contains (views ++ v ∷ []) w → IsViewOf r w
only_push r views v is only w c = elim (Contains-push_cases views v w c) [
  | inl old ↦ only w old
  | inr same ↦ subst (λ (q : RecordedView). IsViewOf r q) same is
]

-- each of the first n + 1
pub below_next : (P : ℕ → Type 0) (n : ℕ) → ((i : ℕ) → i < n → P i) → P n → (i : ℕ) → i < n + 1 → P i
below_next P n below last i lt = elim (cases_eq i n) [
  | inl same ↦ subst P (sym same) last
  | inr ne ↦ below i (omega (arith, lt, ne))
]

pub if_ok : {A E : Type 0} (P Q : A → Type 0) (q : Result A E) → ((a : A) → P a → Q a) → IfOk q P → IfOk q Q
if_ok P Q (Ok a) f h = f a h
if_ok P Q (Err e) f h = h

pub wrong_end : (r : Recording) (os : List RecordedOp) (k : ℕ) (s : Span) (e : Effect) (own list : List ℕ) (cut : ℕ)
    → IsEffect os k e → e.clears ≡ false → own ≡ e.values.items → list ≡ list_of r s → cut ≡ length list - length own
    → (drop cut list ≡ own → ⊥) → (xs : List ℕ) → list_of r s ≡ after os k xs → ⊥
wrong_end r os k s e own list cut effect clears own_is is at ne xs q =
    not_behind own list xs cut at ne (is ∙ q ∙ effect xs ∙ appended e xs clears ∙ ap (λ z. xs ++ z) (sym own_is))

pub base_so : (r : Recording) (os : List RecordedOp) (k : ℕ) (s : Span) (e : Effect) (own list : List ℕ) (cut : ℕ)
    → IsEffect os k e → e.clears ≡ false → own ≡ e.values.items → list ≡ list_of r s
    → s.first + s.count ≤ length r.elements.items → length own ≤ length list → cut ≡ length list - length own
    → drop cut list ≡ own → IsSeen r os k s (Base record { first = s.first; count = cut })
base_so r os k s e own list cut effect clears own_is is within le at ends =
    let n = long r s within in
    let m = ap length is in
    let same : (xs : List ℕ) → after os k xs ≡ xs ++ own =
    λ xs. effect xs ∙ appended e xs clears ∙ ap (λ z. xs ++ z) (sym own_is) in (
      omega (arith, within, at, n, m),
      λ xs. (let both = base_is r s own cut list is within le at ends xs in (
        λ q. both.0 (q ∙ same xs),
        λ q. both.1 q
            ∙ sym (same xs),
      )),
    )

-- one view more, by a read
pub pushed : (r : Recording) (t p : ℕ) (span base : Span) (s : Seen) (ops : List RecordedOp)
    (views new : List RecordedView)
    → ops ≡ ops_of r t → (transaction_at r t).outcome ≡ Committed → (get_or ops p no_op).act ≡ Read span
    → IsSeen r (take p ops) (get_or ops p no_op).key span s → s ≡ Base base
    → new ≡ views ++ record { txn = t; key = (get_or ops p no_op).key; span = base } ∷ []
    → ((v : RecordedView) → Contains views v → IsViewOf r v)
    → ((v : RecordedView) → Contains new v → IsViewOf r v) × IsAnswered r new t p
pushed r t p span base s ops views new are ok is seen based new_is only =
    let read = ap (λ q. (get_or q p no_op).act) (sym are) ∙ is in
    let S : List RecordedOp → Type 0 = λ q. IsSeen r (take p q) (get_or q p no_op).key span s in
    let at = subst (λ z. IsSeen r (take p (ops_of r t)) (op_at r t p).key span z) based (subst S are seen) in
    let v : RecordedView = record { txn = t; key = (op_at r t p).key; span = base } in
    let N : List RecordedOp → Type 0 =
    λ q. new ≡ views ++ record { txn = t; key = (get_or q p no_op).key; span = base } ∷ [] in
    let added : new ≡ views ++ v ∷ [] = subst N are new_is in (
      subst (λ q. (w : RecordedView) → Contains q w → IsViewOf r w) (sym added)
          (only_push r views v (view_by r t p span base (ok, read) at.0 at.1) only),
      answered_by r new t p span base read at.1 (subst (λ q. Contains q v) (sym added) (Contains-push views v)),
    )

pub none_at : {A : Type 0} (o : Option A) (P : Type 0) → o ≡ None → IfNone o P → P
none_at o P is h = subst (λ q. IfNone q P) is h

-- the operations of a transaction that is not known to have committed are asked nothing
pub not_ok : (r : Recording) (views : List RecordedView) (n : ℕ) (t : RecordedTransaction)
    → n < length r.transactions.items
    → t ≡ get_or r.transactions.items n t → (t.outcome ≡ Committed → ⊥)
    → (p : ℕ) → (transaction_at r n).outcome ≡ Committed → p < length (ops_of r n) → IsAnswered r views n p
not_ok r views n t lt read other p ok in_ops =
    absurd (other (ap (λ (q : RecordedTransaction). q.outcome)
    (get_or_read r.transactions.items n t lt read no_transaction) ∙ ok))
