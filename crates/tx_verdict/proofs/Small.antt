-- Small steps of the functions.
use Rattle.std.proofs.Common.{◌≡◌, ◌⊎◌, ℕ, ◌<◌, Bool, true, false, List, length, drop, get_or, Contains, inl, inr, sym, ap, ◌∙◌, subst, IsTrue, Result, Ok, Err, IfOk}
use Rattle.std.proofs.lemmas.Bool.{cases_Bool}
use Rattle.std.proofs.lemmas.List.{get_or_read, get_or_default}
use Rattle.std.proofs.lemmas.List.Elements.{Contains-get_or}
use Rattle.tx_recording.specs.declared.recording.RecordedOutcome.{RecordedOutcome}
use Rattle.tx_recording.specs.declared.recording.Span.{Span}
use Rattle.tx_recording.specs.declared.recording.RecordedOp.{RecordedOp}
use Rattle.tx_recording.specs.declared.recording.RecordedTransaction.{RecordedTransaction}
use Rattle.tx_recording.specs.declared.recording.Recording.{Recording}
use Rattle.tx_recording.specs.Recordings.{txns_of, transaction_at, no_transaction, no_op}
use Rattle.tx_recording.specs.Explanations.{Puts, PutsIn}
use Rattle.tx_views.specs.declared.effect.Effect.{Effect}
use Rattle.tx_views.specs.Views.{left_by}
use Rattle.tx_verdict.specs.declared.versions.Versions.{Versions}
use Rattle.tx_verdict.specs.Versions.{text_in, live_of, IsPlaced}
use Rattle.tx_verdict.proofs.Texts.{left_cleared, left_first}

pub puts_at : (ops : List RecordedOp) (i k v : ℕ) → i < length ops → (get_or ops i no_op).key ≡ k
    → Puts (get_or ops i no_op).act v
    → (w : ℕ) × PutsIn ops k w
puts_at ops i k v lt e p = (v, (get_or ops i no_op, Contains-get_or ops i no_op lt, e, p))

pub outcome_is : (r : Recording) (n : ℕ) (t : RecordedTransaction) (o : RecordedOutcome) → n < txns_of r
    → t ≡ get_or r.transactions.items n t
    → t.outcome ≡ o → (transaction_at r n).outcome ≡ o
outcome_is r n t o lt read is =
    sym (ap (λ (q : RecordedTransaction). q.outcome) (get_or_read r.transactions.items n t lt read no_transaction)) ∙ is

pub live_is : (v : Versions) (n : ℕ) (b c : Bool) → n < length v.live.items → b ≡ get_or v.live.items n b → b ≡ c
    → live_of v n ≡ c
live_is v n b c lt read is = sym (get_or_read v.live.items n b lt read false) ∙ is

pub left_anew : (texts text : List ℕ) (before span : Span) (e : Effect) (own : List ℕ) → text ≡ text_in texts span
    → (e.clears ≡ true) ⊎ (before.count ≡ 0) → drop 0 text ≡ own → own ≡ e.values.items
    → text_in texts span ≡ left_by e (text_in texts before)
left_anew texts text before span e own is (inl clears) ends same =
    left_cleared texts text before span e is clears (ends ∙ same)
left_anew texts text before span e own is (inr none) ends same = elim (cases_Bool e.clears) [
  | inl clears ↦ left_cleared texts text before span e is clears (ends ∙ same)
  | inr keeps ↦ left_first texts text before span e is keeps none (ends ∙ same)
]

-- what each operation puts is part of a version
pub placed_all : (v : Versions) (t : ℕ) (ops : List RecordedOp)
    → ((i w : ℕ) → i < length ops → Puts (get_or ops i no_op).act w → IsPlaced v t (get_or ops i no_op).key)
    → (k w : ℕ) → PutsIn ops k w → IsPlaced v t k
placed_all v t ops all k w (o, (i, lt, is), of_key, put) =
    let at : get_or ops i no_op ≡ o = get_or_default ops i no_op o lt ∙ is in
    let P : RecordedOp → Type 0 = λ q. Puts q.act w in
    let Q : RecordedOp → Type 0 = λ q. IsPlaced v t q.key in
    subst (λ z. IsPlaced v t z) of_key (subst Q at (all i w lt (subst P (sym at) put)))

-- each element, by its place
pub by_place : {X : Type 0} (P : X → Type 0) (xs : List X) (d : X) → ((i : ℕ) → i < length xs → P (get_or xs i d))
    → (x : X) → Contains xs x → P x
by_place P xs d all x (i, lt, is) = subst P (get_or_default xs i d x lt ∙ is) (all i lt)

-- a test that holds says more
pub if_fits : {E : Type 0} (P Q : Type 0) (q : Result Bool E) → (P → Q) → IfOk q (λ b. IsTrue b → P)
    → IfOk q (λ b. IsTrue b → Q)
if_fits P Q (Ok b) f h = λ is. f (h is)
if_fits P Q (Err e) f h = h
