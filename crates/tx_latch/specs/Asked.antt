-- The commands that were asked, in asking order, and which of them are granted.
use Rattle.std.specs.Prelude.{◌≡◌, ℕ, Bool, false, cond, not, List, [], ◌∷◌, ◌++◌, map, nat_eq}
use Rattle.std.specs.List.{list_any, filter}

-- a command that was asked: its number, and its slots, in which repeats count once
pub record Command : Type 0 where
  pub cid : ℕ
  pub slots : List ℕ

-- whether a number stands in a list
abbrev pub contains : ℕ → List ℕ → Bool
contains x xs = list_any (λ y. nat_eq x y) xs

-- whether two sets of slots have one in common
abbrev pub meets : List ℕ → List ℕ → Bool
meets xs ys = list_any (λ s. contains s ys) xs

-- whether one of these commands shares a slot with another
abbrev pub blocked : List Command → Command → Bool
blocked earlier c = list_any (λ e. meets e.slots c.slots) earlier

-- the granted ones of the commands that stand behind the earlier ones: each that shares a slot
-- with no earlier one
abbrev pub granted_behind : List Command → List Command → List Command
granted_behind earlier [] = []
granted_behind earlier (c ∷ later) =
    cond (list_any (λ e. meets e.slots c.slots) earlier)
    (granted_behind (earlier ++ c ∷ []) later)
    (c ∷ granted_behind (earlier ++ c ∷ []) later)

-- the granted commands, in asking order
abbrev pub granted : List Command → List Command
granted asked = granted_behind [] asked

-- the numbers of commands
abbrev pub cids : List Command → List ℕ
cids asked = map (λ c. c.cid) asked

-- whether a command of this number was asked
abbrev pub is_asked : List Command → ℕ → Bool
is_asked asked cid = contains cid (cids asked)

-- whether a command of this number is granted
abbrev pub is_granted : List Command → ℕ → Bool
is_granted asked cid = contains cid (cids (granted asked))

-- the numbers of those that are granted after and were not before, in asking order
abbrev pub newly_granted : List Command → List Command → List ℕ
newly_granted before after = cids (filter (λ c. not (is_granted before c.cid)) (granted after))

-- the list without the command of this number
abbrev pub without : ℕ → List Command → List Command
without cid asked = filter (λ c. not (nat_eq cid c.cid)) asked

-- no command of this number
abbrev pub Lacks : ℕ → List Command → Type 0
Lacks x cs = contains x (cids cs) ≡ false

-- no two commands of one number
abbrev pub Distinct : List Command → Type 0
Distinct [] = Unit {0}
Distinct (c ∷ cs) = Lacks c.cid cs × Distinct cs

-- each of the later commands shares no slot with one before it
abbrev pub AreFree : List Command → List Command → Type 0
AreFree earlier [] = Unit {0}
AreFree earlier (c ∷ later) = (blocked earlier c ≡ false) × AreFree (earlier ++ c ∷ []) later
