-- What is appended to bytes part by part.
use Rattle.std.proofs.Common.{◌≡◌, List, ℕ, ◌++◌, ap, ◌∙◌, append_assoc}

-- one, two, three, four or five parts before the last
module _ {x : List ℕ} (old a rest : List ℕ) (first : x ≡ old ++ a) where
  pub join_one : x ++ rest ≡ old ++ (a ++ rest)
  join_one = ap (λ t. t ++ rest) first ∙ append_assoc old a rest

module _ {x y : List ℕ} (old a b rest : List ℕ) (first : x ≡ old ++ a) (second : y ≡ x ++ b) where
  pub join_two : y ++ rest ≡ old ++ (a ++ (b ++ rest))
  join_two = join_one x b rest second ∙ join_one old a (b ++ rest) first

module _ {x y z : List ℕ} (old a b c rest : List ℕ) (first : x ≡ old ++ a) (second : y ≡ x ++ b) (third : z ≡ y
    ++ c) where
  pub join_three : z ++ rest ≡ old ++ (a ++ (b ++ (c ++ rest)))
  join_three = join_one y c rest third ∙ join_two old a b (c ++ rest) first second

module _ {w x y z : List ℕ} (old a b c d rest : List ℕ) (first : x ≡ old ++ a) (second : y ≡ x ++ b) (third : z ≡ y
    ++ c) (fourth : w ≡ z ++ d) where
  pub join_four : w ++ rest ≡ old ++ (a ++ (b ++ (c ++ (d ++ rest))))
  join_four = join_one z d rest fourth ∙ join_three old a b c (d ++ rest) first second third

module _ {v w x y z : List ℕ} (old a b c d e rest : List ℕ) (first : x ≡ old ++ a) (second : y ≡ x ++ b) (third : z ≡ y
    ++ c) (fourth : w ≡ z ++ d) (fifth : v ≡ w ++ e) where
  pub join_five : v ++ rest ≡ old ++ (a ++ (b ++ (c ++ (d ++ (e ++ rest)))))
  join_five = join_one w e rest fifth ∙ join_four old a b c d (e ++ rest) first second third fourth
