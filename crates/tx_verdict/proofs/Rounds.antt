-- Steps that go round, as the level that is asked for forbids, refuse each explanation by
-- themselves.
use Rattle.std.proofs.Common.{◌≡◌, ◌≢◌, ◌⊎◌, ℕ, ◌+◌, ◌-◌, ◌<◌, ◌≤◌, List, length, Contains, arith, inl, inr, refl, subst, zero, suc, IsTrue, Option, Some, None}
use Rattle.std.proofs.lemmas.Bool.{cases_eq}
use Rattle.std.proofs.lemmas.List.Elements.{Contains-get_or}
use Rattle.tx_verdict.specs.declared.question.Level.{Level}
use Rattle.tx_verdict.specs.declared.question.Level.TheVariants.{Snapshot, Serializable}
use Rattle.tx_recording.specs.declared.recording.Orders.{Orders}
use Rattle.tx_recording.specs.declared.recording.Recording.{Recording}
use Rattle.tx_recording.specs.Explanations.{Explanation, Explains}
use Rattle.tx_views.specs.declared.owner.Owner.{Owner}
use Rattle.tx_views.specs.Owners.{AreOwners}
use Rattle.tx_clock.proofs.ClockOrder.{is_one}
use Rattle.tx_verdict.specs.declared.question.Question.{Question}
use Rattle.tx_verdict.specs.declared.verdict.EdgeKind.{EdgeKind}
use Rattle.tx_verdict.specs.declared.verdict.EdgeKind.TheVariants.{Ww, Wr, Rw, So, Rt}
use Rattle.tx_verdict.specs.declared.verdict.CycleStep.{CycleStep}
use Rattle.tx_verdict.specs.Steps.{IsEdgeOf, IsStep, AreSteps, AreRound, AreApart, AreOfTwo, Forbids, step_at}
use Rattle.tx_verdict.specs.Questions.{IsSerial}
use Rattle.tx_verdict.specs.Verdicts.{IsRefused}
use Rattle.tx_verdict.proofs.Reasons.{newest_of, writer_of, committed_of, behind_of, missed_of}

-- by the edge: it starts before the other commits, or commits when that starts
abbrev pub Leads : Explanation → EdgeKind → ℕ → ℕ → Type 0
Leads x Rw t u = x.start t < x.commit u
Leads x _ t u = x.commit t ≤ x.start u

-- by the edge: what lies at or below m lies at or below where the edge begins
abbrev pub Reaches : Explanation → EdgeKind → ℕ → ℕ → Type 0
Reaches x Rw t m = m ≤ x.start t
Reaches x _ t m = m ≤ x.commit t

-- the step holds: it begins at one that committed
abbrev pub IsHeld : Explanation → CycleStep → Type 0
IsHeld x s = IsTrue (x.committed s.from) × (IsTrue (x.committed s.to) → Leads x s.edge s.from s.to)

module _ (r : Recording) (table : List (Option Owner)) (owners : AreOwners r table) (orders : Orders) (x : Explanation)
    (e : Explains r orders x) where
  from_commits : (edge : EdgeKind) (t u : ℕ) (key : Option ℕ) → IsEdgeOf r orders edge t u key → IsTrue (x.committed t)
  from_commits Ww t u (Some k) (from, to, behind) = committed_of r table owners orders x e t from.0
  from_commits Wr t u (Some k) saw = (newest_of r table owners orders x e u k t saw).0.0
  from_commits Rw t u (Some k) (to, inl (p, span, (ok, act), of_key, iff)) = e.ok t (is_one r t ok) ok
  from_commits Rw t u (Some k) (to, inr (w, (xs, (p, span, (ok, act), of_key, iff), some, put), behind)) = e.ok
      t (is_one r t ok) ok
  from_commits So t u None (asked, (process, lt, within, of_one, of_other, ok)) = e.ok t (is_one r t ok) ok
  from_commits Rt t u None (asked, (end, begin, lt, ended, began, ok), other) = e.ok t (is_one r t ok) ok
  from_commits Ww t u None is = absurd is
  from_commits Wr t u None is = absurd is
  from_commits Rw t u None is = absurd is
  from_commits So t u (Some k) is = absurd is
  from_commits Rt t u (Some k) is = absurd is

  leads : (edge : EdgeKind) (t u : ℕ) (key : Option ℕ) → IsEdgeOf r orders edge t u key → IsTrue (x.committed t)
      → IsTrue (x.committed u) → Leads x edge t u
  leads Ww t u (Some k) (from, to, behind) a b =
      behind_of r table owners orders x e k t u (writer_of r table owners orders x e u k to) behind
  leads Wr t u (Some k) saw a b = (newest_of r table owners orders x e u k t saw).1
  leads Rw t u (Some k) (to, missed) a b =
      missed_of r table owners orders x e k t u (writer_of r table owners orders x e u k to) missed
  leads So t u None is a b = e.precedes t u (inl is) a b
  leads Rt t u None (asked, earlier, other) a b = e.precedes t u (inr (asked, earlier)) a b
  leads Ww t u None is a b = absurd is
  leads Wr t u None is a b = absurd is
  leads Rw t u None is a b = absurd is
  leads So t u (Some k) is a b = absurd is
  leads Rt t u (Some k) is a b = absurd is

  both : (next : EdgeKind) (u m : ℕ) → x.start u < x.commit u → m ≤ x.start u → Reaches x next u m
  both Rw u m above le = le
  both Ww u m above le = omega (arith, above, le)
  both Wr u m above le = omega (arith, above, le)
  both So u m above le = omega (arith, above, le)
  both Rt u m above le = omega (arith, above, le)

  -- over an edge
  over : (edge next : EdgeKind) (t u m : ℕ) → (edge ≡ Rw → next ≡ Rw → ⊥) → x.start u < x.commit u → Leads x edge t u
      → Reaches x edge t m → Reaches x next u m
  over Rw Rw t u m apart above lead reach = absurd (apart refl refl)
  over Rw Ww t u m apart above lead reach = omega (arith, lead, reach)
  over Rw Wr t u m apart above lead reach = omega (arith, lead, reach)
  over Rw So t u m apart above lead reach = omega (arith, lead, reach)
  over Rw Rt t u m apart above lead reach = omega (arith, lead, reach)
  over Ww next t u m apart above lead reach = both next u m above (omega (arith, lead, reach))
  over Wr next t u m apart above lead reach = both next u m above (omega (arith, lead, reach))
  over So next t u m apart above lead reach = both next u m above (omega (arith, lead, reach))
  over Rt next t u m apart above lead reach = both next u m above (omega (arith, lead, reach))

  -- none but rw begins at a commit
  other : (edge : EdgeKind) → (edge ≡ Rw) ⊎ ((t m : ℕ) → m ≤ x.commit t → Reaches x edge t m)
  other Rw = inl refl
  other Ww = inr (λ t m le. le)
  other Wr = inr (λ t m le. le)
  other So = inr (λ t m le. le)
  other Rt = inr (λ t m le. le)

  close_commit : (edge : EdgeKind) (t u : ℕ) → x.start u < x.commit u → Leads x edge t u
      → Reaches x edge t (x.commit u) → ⊥
  close_commit Rw t u above lead reach = omega (arith, above, lead, reach)
  close_commit Ww t u above lead reach = omega (arith, above, lead, reach)
  close_commit Wr t u above lead reach = omega (arith, above, lead, reach)
  close_commit So t u above lead reach = omega (arith, above, lead, reach)
  close_commit Rt t u above lead reach = omega (arith, above, lead, reach)

  close_start : (edge : EdgeKind) (t u : ℕ) → (edge ≡ Rw → ⊥) → Leads x edge t u → Reaches x edge t (x.start u + 1) → ⊥
  close_start Rw t u not lead reach = not refl
  close_start Ww t u not lead reach = omega (arith, lead, reach)
  close_start Wr t u not lead reach = omega (arith, lead, reach)
  close_start So t u not lead reach = omega (arith, lead, reach)
  close_start Rt t u not lead reach = omega (arith, lead, reach)

  module _ (steps : List CycleStep) (all : (s : CycleStep) → Contains steps s → IsHeld x s) (round : AreRound steps)
      (apart : AreApart steps) where
    step_in : (i : ℕ) → i < length steps → IsHeld x (step_at steps i)
    step_in i lt = all (step_at steps i)
        (Contains-get_or steps i record { from = 0; edge = Ww; key = None; to = 0 } lt)

    commits : (i : ℕ) → i < length steps → IsTrue (x.committed (step_at steps i).from)
    commits i lt = (step_in i lt).0

    lead_to : (i u : ℕ) → i < length steps → (step_at steps i).to ≡ u → IsTrue (x.committed u)
        → Leads x (step_at steps i).edge (step_at steps i).from u
    lead_to i u lt to is =
        let P : ℕ → Type 0 = λ q. IsTrue (x.committed q)
        → Leads x (step_at steps i).edge (step_at steps i).from q in
        subst P to (step_in i lt).1 is

    lead_at : (i : ℕ) → i + 1 < length steps
        → Leads x (step_at steps i).edge (step_at steps i).from (step_at steps (i + 1)).from
    lead_at i lt = lead_to i (step_at steps (i + 1)).from (omega (arith, lt)) (round.1 i lt) (commits (i + 1) lt)

    walk : (m i j : ℕ) → i + j < length steps → Reaches x (step_at steps i).edge (step_at steps i).from m
        → Reaches x (step_at steps (i + j)).edge (step_at steps (i + j)).from m
    walk m i zero lt reach =
        let P : ℕ → Type 0 = λ z. Reaches x (step_at steps z).edge (step_at steps z).from m in
        let same : i ≡ i + zero = omega arith in
        subst P same reach
    walk m i (suc j) lt reach =
        let P : ℕ → Type 0 = λ z. Reaches x (step_at steps z).edge (step_at steps z).from m in
        let more : i + j + 1 < length steps = omega (arith, lt) in
        let same : i + j + 1 ≡ i + suc j = omega arith in
        let before = walk m i j (omega (arith, lt)) reach in
        subst P same (over (step_at steps (i + j)).edge (step_at steps (i + j + 1)).edge (step_at steps (i + j)).from
        (step_at steps (i + j + 1)).from m (apart.0 (i + j) more)
        (e.above (step_at steps (i + j + 1)).from (commits (i + j + 1) more)) (lead_at (i + j) more) before)

    -- from the step at i on to the last
    to_last : (m i : ℕ) → i < length steps → Reaches x (step_at steps i).edge (step_at steps i).from m
        → Reaches x (step_at steps (length steps - 1)).edge (step_at steps (length steps - 1)).from m
    to_last m i lt reach =
        let P : ℕ → Type 0 = λ z. Reaches x (step_at steps z).edge (step_at steps z).from m in
        let same : i + (length steps - 1 - i) ≡ length steps - 1 = omega (arith, lt) in
        subst P same (walk m i (length steps - 1 - i) (omega (arith, lt)) reach)

    last_leads : Leads x (step_at steps (length steps - 1)).edge (step_at steps (length steps - 1)).from
        (step_at steps 0).from
    last_leads =
        let some = round.0 in
        lead_to (length steps - 1) (step_at steps 0).from (omega (arith, some)) round.2
        (commits 0 (omega (arith, some)))

    by_second : (step_at steps 0).edge ≡ Rw → ⊥
    by_second rw = elim (cases_eq (length steps) 1) [
      | inl one ↦ (
          let P : ℕ → Type 0 = λ z. (step_at steps z).edge ≡ Rw in
          let same : 0 ≡ length steps - 1 = omega (arith, one) in
          apart.1 (subst P same rw) rw
          )
      | inr ne ↦ (
          let some = round.0 in
          let more : 0 + 1 < length steps = omega (arith, some, ne) in
          let P : EdgeKind → Type 0 = λ z. Leads x z (step_at steps 0).from (step_at steps (0 + 1)).from in
          let lead = subst P rw (lead_at 0 more) in
          let m = x.start (step_at steps 0).from + 1 in
          elim (other (step_at steps (0 + 1)).edge) [
            | inl also ↦ apart.0 0 more rw also
            | inr upto ↦ close_start (step_at steps (length steps - 1)).edge (step_at steps (length steps - 1)).from
                (step_at steps 0).from (λ last. apart.1 last rw) last_leads
                (to_last m (0 + 1) more (upto (step_at steps (0 + 1)).from m (omega (arith, lead))))
          ]
          )
    ]

    apart_never : ⊥
    apart_never = elim (other (step_at steps 0).edge) [
      | inl rw ↦ by_second rw
      | inr upto ↦ (
          let some = round.0 in
          let first : 0 < length steps = omega (arith, some) in
          let m = x.commit (step_at steps 0).from in
          close_commit (step_at steps (length steps - 1)).edge (step_at steps (length steps - 1)).from
          (step_at steps 0).from (e.above (step_at steps 0).from (commits 0 first)) last_leads
          (to_last m 0 first (upto (step_at steps 0).from m (omega arith)))
          )
    ]

  module _ (serial : IsSerial x) (steps : List CycleStep) (all : (s : CycleStep) → Contains steps s → IsHeld x s)
      (round : AreRound steps) (two : AreOfTwo steps) where
    there : (i : ℕ) → i < length steps → Contains steps (step_at steps i)
    there i lt = Contains-get_or steps i record { from = 0; edge = Ww; key = None; to = 0 } lt

    -- what lies at or below the start of one that commits lies below that of the other
    over_serial : (edge : EdgeKind) (t u : ℕ) → t ≢ u → IsTrue (x.committed t) → IsTrue (x.committed u)
        → Leads x edge t u → x.start t < x.start u
    over_serial Rw t u differ a b lead =
        let above = e.above t a in
        elim (serial t u a b differ) [
          | inl le ↦ omega (arith, above, le)
          | inr le ↦ absurd (omega (arith, lead, le))
        ]
    over_serial Ww t u differ a b lead = (let above = e.above t a in omega (arith, above, lead))
    over_serial Wr t u differ a b lead = (let above = e.above t a in omega (arith, above, lead))
    over_serial So t u differ a b lead = (let above = e.above t a in omega (arith, above, lead))
    over_serial Rt t u differ a b lead = (let above = e.above t a in omega (arith, above, lead))

    -- the step at i leads to a later start
    later : (i u : ℕ) → i < length steps → (step_at steps i).to ≡ u → IsTrue (x.committed u)
        → x.start (step_at steps i).from < x.start u
    later i u lt to is =
        let s = step_at steps i in
        let P : ℕ → Type 0 = λ q. IsTrue (x.committed q) → x.start s.from < x.start q in
        subst P to (λ live. over_serial s.edge s.from s.to (two s (there i lt)) (all s (there i lt)).0 live
        ((all s (there i lt)).1 live)) is

    climbs : (j : ℕ) → j < length steps → x.start (step_at steps 0).from ≤ x.start (step_at steps j).from
    climbs zero lt = omega arith
    climbs (suc j) lt =
        let P : ℕ → Type 0 = λ z. x.start (step_at steps 0).from ≤ x.start (step_at steps z).from in
        let same : j + 1 ≡ suc j = omega arith in
        let more : j + 1 < length steps = omega (arith, lt) in
        let before = climbs j (omega (arith, lt)) in
        let next = later j (step_at steps (j + 1)).from (omega (arith, lt)) (round.1 j more)
        (all (step_at steps (j + 1)) (there (j + 1) more)).0 in
        subst P same (omega (arith, before, next))

    serial_never : ⊥
    serial_never =
        let some = round.0 in
        let end : length steps - 1 < length steps = omega (arith, some) in
        let first : 0 < length steps = omega (arith, some) in
        let up = climbs (length steps - 1) end in
        let back = later (length steps - 1) (step_at steps 0).from end round.2
        (all (step_at steps 0) (there 0 first)).0 in
        omega (arith, up, back)

  pub none_goes_round : (level : Level) → (level ≡ Serializable → IsSerial x) → (steps : List CycleStep)
      → ((s : CycleStep) → Contains steps s → IsHeld x s) → AreRound steps → Forbids level steps → ⊥
  none_goes_round Snapshot serial steps all round apart = apart_never steps all round apart
  none_goes_round Serializable serial steps all round two = serial_never (serial refl) steps all round two

-- a step that is so by the recording is held
pub step_held : (r : Recording) (table : List (Option Owner)) → AreOwners r table → (orders : Orders)
    (x : Explanation) → Explains r orders x → (s : CycleStep) → IsStep r orders s → IsHeld x s
step_held r table owners orders x e s is =
    let from = from_commits r table owners orders x e s.edge s.from s.to s.key is in
    (from, leads r table owners orders x e s.edge s.from s.to s.key is from)

-- such steps refuse each explanation
pub refused_by : (r : Recording) (table : List (Option Owner)) → AreOwners r table → (asked : Question)
    (steps : List CycleStep)
    → AreSteps r asked.orders steps → AreRound steps → Forbids asked.level steps → IsRefused r asked
refused_by r table owners asked steps all round forbids x (e, serial) =
    none_goes_round r table owners asked.orders x e asked.level serial steps
    (λ s there. step_held r table owners asked.orders x e s (all s there)) round forbids
