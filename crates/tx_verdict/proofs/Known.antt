-- An order that is settled holds under each explanation, and where all are settled the last round
-- refutes each.
use Rattle.std.proofs.Common.{◌≡◌, ℕ, ◌+◌, ◌<◌, ◌≤◌, List, [], ◌∷◌, ◌++◌, Contains, arith, inl, inr, refl, sym, subst, zero, suc, IsTrue, Option, Some, None, slice_get, slice_index}
use Rattle.std.proofs.lemmas.Bool.{cases_lt}
use Rattle.std.proofs.lemmas.Option.{slice_get_within, get_or_from_slice_get}
use Rattle.std.proofs.lemmas.List.Elements.{Contains-push_cases}
use Rattle.tx_recording.specs.declared.recording.Recording.{Recording}
use Rattle.tx_recording.specs.Explanations.{Explanation, IsWriter, Explains}
use Rattle.tx_views.specs.declared.owner.Owner.{Owner}
use Rattle.tx_views.specs.Owners.{AreOwners}
use Rattle.tx_clock.proofs.ClockOrder.{is_one}
use Rattle.tx_verdict.specs.declared.question.Level.TheVariants.{Serializable}
use Rattle.tx_verdict.specs.declared.question.Question.{Question}
use Rattle.tx_verdict.specs.declared.verdict.EdgeKind.{EdgeKind}
use Rattle.tx_verdict.specs.declared.verdict.EdgeKind.TheVariants.{Ww, Wr, Rw, So, Rt}
use Rattle.tx_verdict.specs.declared.verdict.CycleStep.{CycleStep}
use Rattle.tx_verdict.specs.declared.refutation.WriteOrder.{WriteOrder}
use Rattle.tx_verdict.specs.declared.refutation.Settled.{Settled}
use Rattle.tx_verdict.specs.declared.refutation.Hint.{Hint}
use Rattle.tx_verdict.specs.declared.refutation.Lemma.{Lemma}
use Rattle.tx_verdict.specs.declared.refutation.Refutation.{Refutation}
use Rattle.tx_verdict.specs.Reasons.{SawOf, IsNext}
use Rattle.tx_verdict.specs.Refutations.{IsOrder, opposite, IsTrain, IsOrdered, IsByOrder, IsStepBy, IsRoundBy, IsSettledBy, IsUnit, ClosesBy, IsClauseBy, AreLemmasBy, IsRefutationBy, IsRefutation}
use Rattle.tx_verdict.specs.Questions.{IsSerial}
use Rattle.tx_verdict.specs.Verdicts.{IsRefused}
use Rattle.tx_verdict.proofs.Reasons.{newest_of, writer_of, next_of}
use Rattle.tx_verdict.proofs.Rounds.{IsHeld, Leads, step_held, none_goes_round}

-- under the explanation the first had committed when the second started
abbrev pub Holds : Explanation → WriteOrder → Type 0
Holds x o = x.commit o.first ≤ x.start o.second

abbrev pub AllHold : Explanation → List WriteOrder → Type 0
AllHold x known = (o : WriteOrder) → Contains known o → Holds x o

none_known : (x : Explanation) → AllHold x []
none_known x o (i, lt, is) = omega (arith, lt)

more_hold : (x : Explanation) (o : WriteOrder) (known : List WriteOrder) → Holds x o → AllHold x known
    → AllHold x (known ++ o ∷ [])
more_hold x o known one all p there = elim (Contains-push_cases known o p there) [
  | inl old ↦ all p old
  | inr new ↦ subst (λ q. Holds x q) new one
]

-- one of the clause's orders holds
abbrev pub OneHolds : Recording → Explanation → List WriteOrder → Type 0
OneHolds r x clause = (o : WriteOrder) × Contains clause o × IsOrder r o × Holds x o

-- of each lemma's clause one does
abbrev pub AllSound : Recording → Explanation → List Lemma → Type 0
AllSound r x lemmas = (l : Lemma) → Contains lemmas l → OneHolds r x l.clause.items

none_sound : (r : Recording) (x : Explanation) → AllSound r x []
none_sound r x l (i, lt, is) = absurd (none_below i lt)
  where
    none_below : (i : ℕ) → i < 0 → ⊥
    none_below i lt = omega (arith, lt)

first_of : {X : Type 0} (x : X) (xs : List X) → Contains (x ∷ xs) x
first_of x xs = (0, omega arith, refl)

behind_first : {X : Type 0} (x : X) (xs : List X) (y : X) → Contains xs y → Contains (x ∷ xs) y
behind_first x xs y (i, lt, is) = (suc i, omega (arith, lt), is)

there_by : {X : Type 0} (xs : List X) (n : ℕ) (x : X) → slice_get xs n ≡ Some x → Contains xs x
there_by xs n x at = (n, slice_get_within xs n x at, get_or_from_slice_get xs n x x at)

module _ (r : Recording) (table : List (Option Owner)) (owners : AreOwners r table) (asked : Question) (x : Explanation)
    (e : Explains r asked.orders x) (serial : asked.level ≡ Serializable → IsSerial x) where
  -- who wrote before b lets the next one do so
  forth : (k t u b : ℕ) → IsWriter r x u k → IsWriter r x b k → (u ≡ b → ⊥) → IsNext r k t u
      → x.commit t ≤ x.start b → x.commit u ≤ x.start b
  forth k t u b writer also other next before =
      let newest = next_of r table owners asked.orders x e k t u next in
      elim (e.apart k u b writer also other) [
        | inl so ↦ so
        | inr upto ↦ absurd (
            let least = newest.2 b also upto in
            let up = e.above b also.0 in
            omega (arith, least, before, up)
            )
      ]

  -- who wrote behind a lets the one before it do so
  back : (k t u a : ℕ) → IsWriter r x t k → IsWriter r x a k → (t ≡ a → ⊥) → IsNext r k t u
      → x.commit a ≤ x.start u → x.commit a ≤ x.start t
  back k t u a writer also other next before =
      let newest = next_of r table owners asked.orders x e k t u next in
      elim (e.apart k t a writer also other) [
        | inl upto ↦ absurd (
            let least = newest.2 a also before in
            let up = e.above a also.0 in
            omega (arith, least, upto, up)
            )
        | inr so ↦ so
      ]

  train_forth : (k : ℕ) (ws : List ℕ) (n t u b : ℕ) → IsTrain r k ws n t u b → IsWriter r x b k
      → x.commit t ≤ x.start b → (i : ℕ) → i ≤ n → x.commit (slice_index ws i) ≤ x.start b
  train_forth k ws n t u b (from, to, each, links) also before zero le =
      subst (λ q. x.commit q ≤ x.start b) (sym from) before
  train_forth k ws n t u b (from, to, each, links) also before (suc i) le =
      let P : ℕ → Type 0 = λ z. x.commit (slice_index ws z) ≤ x.start b in
      let upto : i + 1 ≤ n = omega (arith, le) in
      let same : i + 1 ≡ suc i = omega arith in
      let one = each (i + 1) upto in
      subst P same (forth k (slice_index ws i) (slice_index ws (i + 1)) b
      (writer_of r table owners asked.orders x e (slice_index ws (i + 1)) k one.0) also one.1
      (links i (omega (arith, upto)))
      (train_forth k ws n t u b (from, to, each, links) also before i (omega (arith, upto))))

  train_back : (k : ℕ) (ws : List ℕ) (n t u a : ℕ) → IsTrain r k ws n t u a → IsWriter r x a k
      → (i j : ℕ) → i + j ≡ n → x.commit a ≤ x.start u → x.commit a ≤ x.start (slice_index ws i)
  train_back k ws n t u a (from, to, each, links) also i zero is before =
      let same : n ≡ i = omega (arith, is) in
      let P : ℕ → Type 0 = λ q. x.commit a ≤ x.start (slice_index ws q) in
      subst P same (subst (λ q. x.commit a ≤ x.start q) (sym to) before)
  train_back k ws n t u a (from, to, each, links) also i (suc j) is before =
      let one = each i (omega (arith, is)) in
      back k (slice_index ws i) (slice_index ws (i + 1)) a
      (writer_of r table owners asked.orders x e (slice_index ws i) k one.0) also one.1
      (links i (omega (arith, is)))
      (train_back k ws n t u a (from, to, each, links) also (i + 1) j (omega (arith, is)) before)

  -- both ends of a train wrote
  train_from : (k : ℕ) (ws : List ℕ) (n t u b : ℕ) → IsTrain r k ws n t u b → IsWriter r x t k
  train_from k ws n t u b (from, to, each, links) =
      subst (λ q. IsWriter r x q k) from
      (writer_of r table owners asked.orders x e (slice_index ws 0) k (each 0 (omega arith)).0)

  train_to : (k : ℕ) (ws : List ℕ) (n t u b : ℕ) → IsTrain r k ws n t u b → IsWriter r x u k
  train_to k ws n t u b (from, to, each, links) =
      subst (λ q. IsWriter r x q k) to
      (writer_of r table owners asked.orders x e (slice_index ws n) k (each n (omega arith)).0)

  reader_of : (t k w : ℕ) → SawOf r t k w → IsTrue (x.committed t)
  reader_of t k w (xs, (p, span, (ok, act), of_key, iff), some, put) = e.ok t (is_one r t ok) ok

  module _ (known : List WriteOrder) (hold : AllHold x known) where
    ordered_of : (k t u : ℕ) → IsOrdered r known k t u
        → IsWriter r x t k × IsWriter r x u k × (x.commit t ≤ x.start u)
    ordered_of k t u (o, there, of_key, (ws, n, one), (vs, m, two)) =
        let second = train_to k vs m u o.second t two in
        let first = train_to k ws n o.first t o.second one in
        let before = train_forth k ws n o.first t o.second one second (hold o there) n (omega arith) in
        let upto : x.commit t ≤ x.start o.second =
        subst (λ q. x.commit q ≤ x.start o.second) one.1 before in
        let behind = train_back k vs m u o.second t two first 0 m (omega arith) upto in
        (first, train_from k vs m u o.second t two, subst (λ q. x.commit t ≤ x.start q) two.0 behind)

    by_order : (edge : EdgeKind) (t u : ℕ) (key : Option ℕ) → IsByOrder r known edge t u key
        → IsTrue (x.committed t) × (IsTrue (x.committed u) → Leads x edge t u)
    by_order Ww t u (Some k) is =
        let so = ordered_of k t u is in
        (so.0.0, λ also. so.2)
    by_order Rw t u (Some k) (w, saw, is) =
        let so = ordered_of k w u is in
        let newest = newest_of r table owners asked.orders x e t k w saw in (
          reader_of t k w saw,
          λ also. elim (cases_lt (x.start t) (x.commit u)) [
            | inl lt ↦ lt
            | inr upto ↦ absurd (
                let least = newest.2 u so.1 upto in
                let up = e.above u so.1.0 in
                let before = so.2 in
                omega (arith, least, before, up)
                )
          ],
        )
    by_order Ww t u None is = absurd is
    by_order Rw t u None is = absurd is
    by_order Wr t u key is = absurd is
    by_order So t u key is = absurd is
    by_order Rt t u key is = absurd is

    held_of : (s : CycleStep) → IsStepBy r asked.orders known s → IsHeld x s
    held_of s (inl is) = step_held r table owners asked.orders x e s is
    held_of s (inr is) = by_order s.edge s.from s.to s.key is

    -- such a round never closes
    none_closes : (steps : List CycleStep) → IsRoundBy r asked known steps → ⊥
    none_closes steps (round, forbids, all) = none_goes_round r table owners asked.orders x e asked.level serial steps
        (λ s there. held_of s (all s there)) round forbids

  settled_holds : (known : List WriteOrder) → AllHold x known → (f : Settled) → IsSettledBy r asked known f
      → Holds x f.order
  settled_holds known hold f ((first, second, other), round) =
      elim (e.apart f.order.key f.order.first f.order.second
      (writer_of r table owners asked.orders x e f.order.first f.order.key first)
      (writer_of r table owners asked.orders x e f.order.second f.order.key second) other) [
        | inl so ↦ so
        | inr not ↦ absurd (none_closes (known ++ opposite f.order ∷ [])
            (more_hold x (opposite f.order) known not hold) f.round.items round)
      ]

  -- an order and its opposite do not both hold
  never_both : (o : WriteOrder) → IsOrder r o → Holds x o → Holds x (opposite o) → ⊥
  never_both o (first, second, other) so not =
      let a = e.above o.first (writer_of r table owners asked.orders x e o.first o.key first).0 in
      let b = e.above o.second (writer_of r table owners asked.orders x e o.second o.key second).0 in
      omega (arith, so, not, a, b)

  unit_holds : (known clause : List WriteOrder) (o : WriteOrder) → AllHold x known → OneHolds r x clause
      → IsUnit known clause o
      → Holds x o
  unit_holds known clause o hold (p, there, order, so) unit = elim (unit p there) [
    | inl same ↦ subst (λ q. Holds x q) same so
    | inr other ↦ absurd (never_both p order so (hold (opposite p) other))
  ]

  none_with : (lemmas : List Lemma) → AllSound r x lemmas → (known : List WriteOrder) → AllHold x known
      → (hints : List Hint)
      (round : List CycleStep) → ClosesBy r asked lemmas known hints round → ⊥
  none_with lemmas sound known hold [] round closes = none_closes known hold round closes
  none_with lemmas sound known hold (h ∷ hs) round ((l, at, unit), closes) =
      let so = unit_holds known l.clause.items h.order hold (sound l (there_by lemmas h.lemma l at)) unit in
      none_with lemmas sound (known ++ h.order ∷ []) (more_hold x h.order known so hold) hs round closes

  clause_holds : (lemmas : List Lemma) → AllSound r x lemmas → (known : List WriteOrder) → AllHold x known
      → (clause : List WriteOrder) (hints : List Hint) (round : List CycleStep)
      → IsClauseBy r asked lemmas known clause hints round → OneHolds r x clause
  clause_holds lemmas sound known hold [] hints round closes =
      absurd (none_with lemmas sound known hold hints round closes)
  clause_holds lemmas sound known hold (o ∷ os) hints round ((first, second, other), rest) =
      elim (e.apart o.key o.first o.second (writer_of r table owners asked.orders x e o.first o.key first)
      (writer_of r table owners asked.orders x e o.second o.key second) other) [
        | inl so ↦ (o, first_of o os, (first, second, other), so)
        | inr not ↦ (
            let (p, there, order, so) = clause_holds lemmas sound (known ++ opposite o ∷ [])
            (more_hold x (opposite o) known not hold) os hints round rest in
            (p, behind_first o os p there, order, so)
            )
      ]

  more_sound : (l : Lemma) (lemmas : List Lemma) → OneHolds r x l.clause.items → AllSound r x lemmas
      → AllSound r x (lemmas ++ l ∷ [])
  more_sound l lemmas one all m there = elim (Contains-push_cases lemmas l m there) [
    | inl old ↦ all m old
    | inr new ↦ subst (λ (q : Lemma). OneHolds r x q.clause.items) new one
  ]

  none_follows : (known : List WriteOrder) → AllHold x known → (before : List Lemma) → AllSound r x before
      → (lemmas : List Lemma) (hints : List Hint) (last : List CycleStep)
      → AreLemmasBy r asked known before lemmas hints last → ⊥
  none_follows known hold before sound [] hints last closes = none_with before sound known hold hints last closes
  none_follows known hold before sound (l ∷ ls) hints last (is, rest) =
      none_follows known hold (before ++ l ∷ [])
      (more_sound l before (clause_holds before sound known hold l.clause.items l.hints.items l.round.items is) sound)
      ls hints last rest

  none_explains : (known : List WriteOrder) → AllHold x known → (facts : List Settled) (all : Refutation)
      → IsRefutationBy r asked known facts all → ⊥
  none_explains known hold [] all rest =
      none_follows known hold [] (none_sound r x) all.lemmas.items all.hints.items all.last.items rest
  none_explains known hold (f ∷ fs) all (settled, rest) =
      none_explains (known ++ f.order ∷ [])
      (more_hold x f.order known (settled_holds known hold f settled) hold) fs all rest

-- a refutation refuses each explanation
pub refuted_by : (r : Recording) (table : List (Option Owner)) → AreOwners r table → (asked : Question)
    (all : Refutation) → IsRefutation r asked all → IsRefused r asked
refuted_by r table owners asked all is x (e, serial) =
    none_explains r table owners asked x e serial [] (none_known x) all.facts.items all is
