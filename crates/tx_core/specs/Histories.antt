-- What stands in a history: a list of events, newest first, so that `e ∷ h` is the history h and
-- then e. A beginning of a history is a tail of it.
use Rattle.std.specs.Prelude.{◌≡◌, ◌⊎◌, ℕ, ◌==◌, Bool, true, false, cond, List, [], ◌∷◌, Option, Some, None, bytes_eq}
use Rattle.tx_types.specs.declared.key.Key.{Key}
use Rattle.tx_types.specs.declared.mutation.Change.{Change}
use Rattle.tx_plan.specs.Cells.{Region, new_region}
use Rattle.tx_plan.specs.Answers.{leaves}
use Rattle.tx_core.specs.declared.event.Declaration.{Declaration}
use Rattle.tx_core.specs.declared.event.Event.{Event}
use Rattle.tx_core.specs.declared.event.Event.TheVariants.{Drawn, Began, Declared, Answered, Took}

abbrev pub History : Type 0
History = List Event

-- ---- what was drawn, begun, declared and answered

-- the last number drawn, at first 0
abbrev pub last : History → ℕ
last [] = 0
last (Drawn seat n ∷ h) = n
last (_ ∷ h) = last h

-- the seat that drew n
abbrev pub drawer : History → ℕ → Option ℕ
drawer [] n = None
drawer (Drawn seat m ∷ h) n = cond (m == n) (Some seat) (drawer h n)
drawer (_ ∷ h) n = drawer h n

-- whether the transaction that starts at t began
abbrev pub began : History → ℕ → Bool
began [] t = false
began (Began u ∷ h) t = cond (u == t) true (began h t)
began (_ ∷ h) t = began h t

-- what it declared
abbrev pub declared : History → ℕ → Option Declaration
declared [] t = None
declared (Declared d ∷ h) t = cond (d.start == t) (Some d) (declared h t)
declared (_ ∷ h) t = declared h t

-- whether its outcome was answered
abbrev pub answered : History → ℕ → Bool
answered [] t = false
answered (Answered u outcome ∷ h) t = cond (u == t) true (answered h t)
answered (_ ∷ h) t = answered h t

-- the seat that drew t drew p after the transaction began there
abbrev pub DrewSince : History → ℕ → ℕ → Type 0
DrewSince [] t p = ⊥
DrewSince (Drawn seat n ∷ h) t p = ((n ≡ p) × (began h t ≡ true) × (drawer h t ≡ Some seat)) ⊎ DrewSince h t p
DrewSince (_ ∷ h) t p = DrewSince h t p

-- ---- write sets

abbrev pub set_of : Option Declaration → List Change
set_of None = []
set_of (Some d) = d.changes

-- the write set of t, empty where none is declared
abbrev pub set_at : History → ℕ → List Change
set_at h t = set_of (declared h t)

-- whether the key is the first of the set: the primary
abbrev pub is_first : List Change → Key → Bool
is_first [] k = false
is_first (c ∷ cs) k = bytes_eq c.key k

-- ---- regions

-- what a region's own events left of it
abbrev pub left : History → ℕ → Region
left [] n = new_region
left (Took x ∷ h) n = cond (x.region == n) (leaves (left h n) x.body x.answer) (left h n)
left (_ ∷ h) n = left h n

-- ---- beginnings

-- an event stands in a history
abbrev pub Among : History → Event → Type 0
Among [] e = ⊥
Among (x ∷ h) e = (x ≡ e) ⊎ Among h e

-- h begins with l: l is a beginning of h
abbrev pub Begins : History → History → Type 0
Begins l [] = l ≡ []
Begins l (e ∷ h) = (l ≡ e ∷ h) ⊎ Begins l h

-- l was the last number drawn at some beginning
abbrev pub WasLast : History → ℕ → Type 0
WasLast h l = (b : History) × Begins b h × (l ≡ last b)
