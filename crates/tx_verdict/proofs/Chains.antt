-- One version more of a chain.
use Rattle.std.proofs.Common.{◌≡◌, ◌⊎◌, ◌≢◌, ℕ, ◌+◌, ◌-◌, ◌<◌, ◌≤◌, Bool, ◌&&◌, List, [], length, get_or, arith, inl, inr, refl, sym, ap, ◌∙◌, subst, zero, suc, IsTrue, Option, Some, slice_index}
use Rattle.std.proofs.lemmas.Bool.{cases_eq, and_parts}
use Rattle.tx_recording.specs.declared.recording.Recording.{Recording}
use Rattle.tx_recording.specs.Recordings.{txns_of, ops_of}
use Rattle.tx_views.specs.declared.owner.Owner.{Owner}
use Rattle.tx_views.specs.Owners.{AreOwners, owner_at}
use Rattle.tx_views.specs.Views.{Saw}
use Rattle.tx_history.specs.declared.recorded.Read.{Read}
use Rattle.tx_history.specs.Records.{writers_of}
use Rattle.tx_verdict.specs.declared.versions.Versions.{Versions}
use Rattle.tx_verdict.specs.Facts.{IsPutBy}
use Rattle.tx_verdict.specs.Reasons.{SawOf, AddsFirst, IsNext, IsBased, IsBehind}
use Rattle.tx_verdict.specs.Forced.{IsLinked, AreWriters, IsReadForced, IsChain, key_of}
use Rattle.tx_history.proofs.Graphs.{no_versions_next, key_within}
use Rattle.tx_verdict.proofs.Views.{owner_puts}

-- the last of the first i + 1 versions is linked to the one before
last_link : (r : Recording) (k : ℕ) (ws : List ℕ) (i j : ℕ) (known based : Bool) → j + 1 ≡ i → i < length ws
    → AreWriters r k ws
    → (IsTrue known → (q : ℕ) → q < i → IsBased r k ws q) → (IsTrue based → IsBased r k ws i)
    → ((i ≡ 0) ⊎ IsTrue based) ⊎ (IsTrue known × ((q : ℕ) → q < i → slice_index ws q ≢ slice_index ws i))
    → IsLinked r k ws j
last_link r k ws i j known based at lt writers all one (inl (inl none)) = absurd (omega (arith, at, none))
last_link r k ws i j known based at lt writers all one (inl (inr is)) =
    let P : ℕ → Type 0 = λ q. IsNext r k (slice_index ws j) (slice_index ws q) in
    let same : suc j ≡ j + 1 = omega arith in
    let Q : ℕ → Type 0 = λ q. IsBased r k ws q in
    let next : IsBased r k ws (suc j) = subst Q (sym at ∙ sym same) (one is) in
    inl (subst P same next)
last_link r k ws i j known based at lt writers all one (inr (is, other)) =
    let P : ℕ → Type 0 = λ q. IsBehind r k (slice_index ws j) (slice_index ws q) in
    subst P (sym at) (inr (
      ws,
      j,
      (refl, λ q upto. (writers q (omega (arith, upto, at, lt)), all is q (omega (arith, upto, at)))),
      λ q upto. other q (omega (arith, upto, at)),
    ))

pub link_more : (r : Recording) (k : ℕ) (ws : List ℕ) (i : ℕ) (known based : Bool) → i < length ws → AreWriters r k ws
    → ((j : ℕ) → j + 1 < i → IsLinked r k ws j) → (IsTrue known → (q : ℕ) → q < i → IsBased r k ws q)
    → (IsTrue based → IsBased r k ws i)
    → ((i ≡ 0) ⊎ IsTrue based) ⊎ (IsTrue known × ((q : ℕ) → q < i → slice_index ws q ≢ slice_index ws i))
    → (j : ℕ) → j + 1 < i + 1 → IsLinked r k ws j
link_more r k ws i known based lt writers links all one next j below = elim (cases_eq (j + 1) i) [
  | inl same ↦ last_link r k ws i j known based same lt writers all one next
  | inr ne ↦ links j (omega (arith, below, ne))
]

pub based_more : (r : Recording) (k : ℕ) (ws : List ℕ) (i : ℕ) (known based : Bool)
    → (IsTrue known → (q : ℕ) → q < i → IsBased r k ws q) → (IsTrue based → IsBased r k ws i)
    → IsTrue (known && based) → (q : ℕ) → q < i + 1 → IsBased r k ws q
based_more r k ws i known based all one both q lt =
    let (is, also) = and_parts known based both in
    elim (cases_eq q i) [
      | inl same ↦ subst (λ z. IsBased r k ws z) (sym same) (one also)
      | inr ne ↦ all is q (omega (arith, lt, ne))
    ]

-- the first value of the writer stands in front
pub within_first : (r : Recording) (k : ℕ) (ws : List ℕ) (i : ℕ) (list : List ℕ) (t p : ℕ) → i ≡ 0 → p ≡ 0
    → Saw r t k list
    → p < length list → AddsFirst (ops_of r (slice_index ws i)) k (slice_index list p) → IsBased r k ws i
within_first r k ws i list t p none at saw within adds =
    let P : ℕ → Type 0 = λ q. IsBased r k ws q in
    let Q : ℕ → Type 0 = λ q. AddsFirst (ops_of r (slice_index ws q)) k (slice_index list p) in
    let R : ℕ → Type 0 = λ q. AddsFirst (ops_of r (slice_index ws 0)) k (slice_index list q) in
    subst P (sym none) (inr (t, list, saw, omega (arith, within, at), subst R at (subst Q none adds)))

-- it stands right behind a value of the one before
pub within_next : (r : Recording) (table : List (Option Owner)) → AreOwners r table → (k : ℕ) (ws : List ℕ) (i : ℕ)
    (list : List ℕ) (t p : ℕ)
    → (i ≡ 0 → ⊥) → (p ≡ 0 → ⊥) → Saw r t k list → p < length list
    → AddsFirst (ops_of r (slice_index ws i)) k (slice_index list p)
    → ((o : Owner) × (owner_at table (get_or list (p - 1) 0) ≡ Some o) × (o.txn ≡ slice_index ws (i - 1)))
    → IsBased r k ws i
within_next r table owners k ws zero list t p ne_i ne_p saw within adds last = absurd (ne_i refl)
within_next r table owners k ws (suc i) list t p ne_i ne_p saw within adds (o, at, by) =
    let q : p - 1 + 1 ≡ p = omega (arith, ne_p) in
    let before : suc i - 1 ≡ i = omega arith in
    let R : ℕ → Type 0 = λ z. AddsFirst (ops_of r (slice_index ws (suc i))) k (slice_index list z) in
    let same = by ∙ ap (slice_index ws) before in
    inr (
      t,
      list,
      p - 1,
      saw,
      omega (arith, within, ne_p),
      subst (λ z. IsPutBy r z (get_or list (p - 1) 0)) same (owner_puts r table owners (get_or list (p - 1) 0) o at),
      subst R (sym q) adds,
    )

pub based_first : (r : Recording) (k : ℕ) (ws : List ℕ) (i : ℕ) → i ≡ 0 → Saw r (slice_index ws 0) k []
    → IsBased r k ws i
based_first r k ws i none saw = (let P : ℕ → Type 0 = λ q. IsBased r k ws q in subst P (sym none) (inl saw))

pub based_next : (r : Recording) (k : ℕ) (ws : List ℕ) (i : ℕ) → (i ≡ 0 → ⊥)
    → SawOf r (slice_index ws i) k (slice_index ws (i - 1)) → IsBased r k ws i
based_next r k ws zero some saw = absurd (some refl)
based_next r k ws (suc i) some saw =
    let P : ℕ → Type 0 = λ q. SawOf r (slice_index ws (suc i)) k (slice_index ws q) in
    let at : suc i - 1 ≡ i = omega arith in
    inl (subst P at saw)

-- a read of no version, and of one
pub read_none : (r : Recording) (v : Versions) (p : Read) (k : ℕ) → p.txn < txns_of r → k ≡ key_of v p.key
    → p.version ≡ 0
    → Saw r p.txn k []
    → IsReadForced r v p
read_none r v p k lt is none saw = (
  lt,
  λ has. absurd (let low = has.0 in omega (arith, low, none)),
  λ _. (let P : ℕ → Type 0 = λ q. Saw r p.txn q [] in subst P is saw),
)

pub read_some : (r : Recording) (v : Versions) (p : Read) (k : ℕ) → p.txn < txns_of r → k ≡ key_of v p.key
    → (ws : List ℕ)
    → ws ≡ writers_of v.recorded p.key → (p.version ≡ 0 → ⊥)
    → SawOf r p.txn k (slice_index ws (p.version - 1))
    → IsReadForced r v p
read_some r v p k lt is ws same some saw = (
  lt,
  λ has. (let P : ℕ → Type 0 = λ q. SawOf r p.txn q (slice_index ws (p.version - 1)) in
      let Q : List ℕ → Type 0 = λ q. SawOf r p.txn (key_of v p.key) (slice_index q (p.version - 1)) in
      subst Q same (subst P is saw)),
  λ none. absurd (some none),
)

-- one version more, by the writers as they are at hand
pub more_links : (r : Recording) (k : ℕ) (own ws : List ℕ) (i : ℕ) (known based next : Bool) → ws ≡ own → i < length ws
    → AreWriters r k own → ((j : ℕ) → j + 1 < i → IsLinked r k own j)
    → (IsTrue known → (q : ℕ) → q < i → IsBased r k own q)
    → (IsTrue based → IsBased r k ws i)
    → ((i ≡ 0) ⊎ IsTrue based) ⊎ (IsTrue known × ((q : ℕ) → q < i → slice_index ws q ≢ slice_index ws i))
    → next ≡ (known && based)
    → ((j : ℕ) → j + 1 < i + 1 → IsLinked r k own j) × (IsTrue next → (q : ℕ) → q < i + 1 → IsBased r k own q)
more_links r k own ws i known based next is lt writers links all one more at =
    let n = ap length is in
    let now = λ (b : IsTrue based). subst (λ z. IsBased r k z i) is (one b) in
    let R : List ℕ → Type 0 = λ z. ((i ≡ 0) ⊎ IsTrue based)
    ⊎ (IsTrue known × ((q : ℕ) → q < i → slice_index z q ≢ slice_index z i)) in (
      link_more r k own i known based (omega (arith, n, lt)) writers links all now (subst R is more),
      λ both. based_more r k own i known based all now (sym at ∙ both),
    )

pub chain_of : (r : Recording) (v : Versions) (q k : ℕ) → k ≡ key_of v q → AreWriters r k (writers_of v.recorded q)
    → ((i : ℕ) → i + 1 < length (writers_of v.recorded q) → IsLinked r k (writers_of v.recorded q) i) → IsChain r v q
chain_of r v q k is writers links =
    let P : ℕ → Type 0 = λ z. AreWriters r z (writers_of v.recorded q)
    × ((i : ℕ) → i + 1 < length (writers_of v.recorded q) → IsLinked r z (writers_of v.recorded q) i) in
    subst P is (writers, links)

-- past the last chain there are no versions
pub no_chain : (r : Recording) (v : Versions) (q : ℕ) → length v.recorded.heads.items ≤ q + 1 → IsChain r v q
no_chain r v q past =
    let none : length (writers_of v.recorded q) ≡ 0 = elim (cases_eq (q + 1) (length v.recorded.heads.items)) [
      | inl last ↦ no_versions_next v.recorded q last
      | inr ne ↦ elim (cases_eq (length (writers_of v.recorded q)) 0) [
        | inl is ↦ is
        | inr some ↦ absurd (let lt = key_within v.recorded q (omega (arith, some)) in omega (arith, lt, past, ne))
      ]
    ] in (
      λ i lt. absurd (omega (arith, lt, none)),
      λ i lt. absurd (omega (arith, lt, none)),
    )
