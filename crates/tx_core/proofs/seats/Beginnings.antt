-- Beginnings of a history, and histories that extend one with no event of a seat.
use Rattle.std.proofs.Common.{◌≡◌, ◌≢◌, ◌≤◌, ◌⊎◌, ℕ, ◌++◌, inl, inr, List, [], ◌∷◌, length, Some, refl, sym, ap, subst, ◌∙◌, arith}
use Rattle.tx_types.specs.declared.key.Key.{Key}
use Rattle.tx_core.specs.declared.event.Event.{Event}
use Rattle.tx_core.specs.Histories.{History, Begins}
use Rattle.tx_core.specs.Recording.{owner, Extends}
use Rattle.tx_core.specs.Worlds.{MayCome, IsWorldRun}

-- ---- beginnings

pub begins_all : (h : History) → Begins h h
begins_all [] = refl
begins_all (e ∷ h) = inl refl

pub begins_none : (h : History) → Begins [] h
begins_none [] = refl
begins_none (e ∷ h) = inr (begins_none h)

pub begins_more : (a b c : History) → Begins a b → Begins b c → Begins a c
begins_more a b [] p q = subst (λ x. Begins a x) q p
begins_more a b (e ∷ c) p q =
    elim q [ inl same ↦ subst (λ x. Begins a x) same p | inr more ↦ inr (begins_more a b c p more) ]

-- a beginning is a tail
pub begins_append : (more l : History) → Begins l (more ++ l)
begins_append [] l = begins_all l
begins_append (e ∷ more) l = inr (begins_append more l)

pub begins_rest : (l h : History) → Begins l h → (more : History) × (h ≡ more ++ l)
begins_rest l [] b = ([], sym b)
begins_rest l (e ∷ h) b =
    elim b [
      | inl same ↦ ([], sym same)
      | inr more ↦ (let rest = begins_rest l h more in (e ∷ rest.0, ap (λ x. e ∷ x) rest.1))
    ]

pub begins_length : (l h : History) → Begins l h → length l ≤ length h
begins_length l [] b = omega (arith, ap length b)
begins_length l (e ∷ h) b =
    elim b [ inl same ↦ omega (arith, ap length same) | inr more ↦ omega (arith, begins_length l h more) ]

-- of two beginnings of one history the shorter begins the longer
pub begins_shorter : (a b h : History) → Begins a h → Begins b h → length a ≤ length b → Begins a b
begins_shorter a b [] p q le = subst (λ x. Begins a x) (p ∙ sym q) (begins_all a)
begins_shorter a b (e ∷ h) p q le =
    elim p [
      | inl all ↦ elim q [
        | inl same ↦ subst (λ x. Begins a x) (all ∙ sym same) (begins_all a)
        | inr more ↦ absurd (omega (arith, le, ap length all, begins_length b h more))
      ]
      | inr less ↦ elim q [
        | inl same ↦ subst (λ x. Begins a x) (sym same) (inr less)
        | inr more ↦ begins_shorter a b h less more le
      ]
    ]

-- of two beginnings of one history one begins the other
pub begins_either : (a b h : History) → Begins a h → Begins b h → Begins a b ⊎ Begins b a
begins_either a b [] p q = inl (subst (λ x. Begins a x) (p ∙ sym q) (begins_all a))
begins_either a b (e ∷ h) p q =
    elim p [
      | inl all ↦ inr (subst (λ x. Begins b x) (sym all) q)
      | inr less ↦ elim q [
        | inl same ↦ inl (subst (λ x. Begins a x) (sym same) (inr less))
        | inr more ↦ begins_either a b h less more
      ]
    ]

-- a beginning that is no shorter is the whole
pub begins_whole : (l h : History) → Begins l h → length h ≤ length l → l ≡ h
begins_whole l [] b le = b
begins_whole l (e ∷ h) b le = elim b [ inl same ↦ same | inr more ↦ absurd (omega (arith, le, begins_length l h more)) ]

-- ---- facts that events keep

-- a fact that each event keeps
pub kept_on : (P : History → Type 0) → ((h : History) (e : Event) → P h → P (e ∷ h)) → (l h : History) → Begins l h
    → P l → P h
kept_on P step l [] b p = subst P b p
kept_on P step l (e ∷ h) b p = elim b [ inl same ↦ subst P same p | inr more ↦ step h e (kept_on P step l h more p) ]

-- a fact that each event of a world run keeps
pub run_on : (bounds : List Key) (P : History → Type 0)
    → ((h : History) (e : Event) → IsWorldRun bounds h → MayCome bounds h e → P h → P (e ∷ h)) → (l h : History)
    → IsWorldRun bounds h → Begins l h → P l → P h
run_on bounds P step l [] run b p = subst P b p
run_on bounds P step l (e ∷ h) run b p =
    elim b [ inl same ↦ subst P same p | inr more ↦ step h e run.0 run.1 (run_on bounds P step l h run.0 more p) ]

-- a fact that each event of another seat keeps
pub other_on : (i : ℕ) (P : History → Type 0) → ((h : History) (e : Event) → owner h e ≢ Some i → P h → P (e ∷ h))
    → (l h : History) → Extends i l h → P l → P h
other_on i P step l [] g p = subst P g p
other_on i P step l (e ∷ h) g p =
    elim g [ inl same ↦ subst P same p | inr more ↦ step h e more.1 (other_on i P step l h more.0 p) ]

-- a fact that each event of another seat keeps in a world run
pub other_run_on : (bounds : List Key) (i : ℕ) (P : History → Type 0)
    → ((h : History) (e : Event) → IsWorldRun bounds h → MayCome bounds h e → owner h e ≢ Some i → P h → P (e ∷ h))
    → (l h : History) → IsWorldRun bounds h → Extends i l h → P l → P h
other_run_on bounds i P step l [] run g p = subst P g p
other_run_on bounds i P step l (e ∷ h) run g p =
    elim g [
      | inl same ↦ subst P same p
      | inr more ↦ step h e run.0 run.1 more.1 (other_run_on bounds i P step l h run.0 more.0 p)
    ]

-- a beginning of a world run is a world run
pub run_beginning : (bounds : List Key) (l h : History) → IsWorldRun bounds h → Begins l h → IsWorldRun bounds l
run_beginning bounds l [] run b = subst (IsWorldRun bounds) (sym b) run
run_beginning bounds l (e ∷ h) run b =
    elim b [ inl same ↦ subst (IsWorldRun bounds) (sym same) run | inr more ↦ run_beginning bounds l h run.0 more ]

-- ---- histories that extend one

pub extends_all : (i : ℕ) (h : History) → Extends i h h
extends_all i [] = refl
extends_all i (e ∷ h) = inl refl

pub extends_begins : (i : ℕ) (l h : History) → Extends i l h → Begins l h
extends_begins i l [] g = g
extends_begins i l (e ∷ h) g = elim g [ inl same ↦ inl same | inr more ↦ inr (extends_begins i l h more.0) ]

pub extends_more : (i : ℕ) (l m h : History) → Extends i l m → Extends i m h → Extends i l h
extends_more i l m [] p q = subst (λ x. Extends i l x) q p
extends_more i l m (e ∷ h) p q =
    elim q [ inl same ↦ subst (λ x. Extends i l x) same p | inr more ↦ inr (extends_more i l m h p more.0, more.1) ]

-- an event of another seat
pub extends_next : (i : ℕ) (l h : History) (e : Event) → Extends i l h → owner h e ≢ Some i → Extends i l (e ∷ h)
extends_next i l h e g other = inr (g, other)

-- what extends l, and a longer beginning m, had no event of the seat between them
pub extends_between : (i : ℕ) (l m h : History) → Extends i l h → Begins l m → Begins m h
    → Extends i l m × Extends i m h
extends_between i l m [] g p q = (subst (λ x. Extends i l x) (sym q) g, q)
extends_between i l m (e ∷ h) g p q =
    elim q [
      | inl same ↦ (subst (λ x. Extends i l x) (sym same) g, inl same)
      | inr more ↦
          elim g [
            | inl all ↦ absurd (omega (arith, ap length all, begins_length l m p, begins_length m h more))
            | inr less ↦ (let both = extends_between i l m h less.0 p more in (both.0, inr (both.1, less.1)))
          ]
    ]
