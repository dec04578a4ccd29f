-- The answers of the seeds, in the order of their lines.
use Rattle.std.proofs.Common.{◌≡◌, ℕ, ◌+◌, ◌<◌, List, [], ◌∷◌, ◌++◌, map, take, length, get_or, Option, refl, sym, ap, subst, ◌∙◌, append_assoc, append-nil}
use Rattle.std.proofs.lemmas.List.{map_more, map_push}
use Rattle.tx_types.specs.declared.key.Key.{Key}
use Rattle.tx_journal.specs.Known.{Known}
use Rattle.tx_workload.specs.PlayedSeeds.{AddsSeeds, PlaysSeed, PlaysSeeds}
use Rattle.tx_workload.specs.declared.reply.LineReply.{LineReply}
use Rattle.tx_workload.specs.Answers.{numbers_of}

-- one more is answered
pub one_more : {A : Type 0} (number : A → ℕ) (before : List ℕ) (seeds : List A) (i : ℕ) (line : A)
    (old new : List LineReply) (x : LineReply) → i < length seeds → line ≡ get_or seeds i line → new ≡ old ++ x ∷ []
    → x.number ≡ number line → numbers_of old ≡ before ++ map number (take i seeds)
    → numbers_of new ≡ before ++ map number (take (i + 1) seeds)
one_more number before seeds i line old new x within there is named each =
    ap numbers_of is ∙ map_push (λ (s : LineReply). s.number) old x ∙ ap (λ (n : ℕ). numbers_of old ++ n ∷ []) named
    ∙ ap (λ (l : List ℕ). l ++ number line ∷ []) each
    ∙ append_assoc before (map number (take i seeds)) (number line ∷ [])
    ∙ ap (λ (l : List ℕ). before ++ l) (sym (map_more number seeds i line within
    ∙ ap (λ a. map number (take i seeds) ++ number a ∷ []) (sym there)))

-- one more seed is played
pub seeds_more : (bounds : List Key) (source : Option (List ℕ)) (old mid new : Known) (seeds : List LineReply)
    (x : LineReply) → PlaysSeeds bounds source old seeds mid → PlaysSeed bounds source mid x new
    → PlaysSeeds bounds source old (seeds ++ x ∷ []) new
seeds_more bounds source old mid new [] x is one =
    (new, subst (λ (k : Known). PlaysSeed bounds source k x new) is one, refl)
seeds_more bounds source old mid new (s ∷ seeds) x (next, first, rest) one =
    (next, first, seeds_more bounds source next mid new seeds x rest one)

pub adds_none : (bounds : List Key) (source : Option (List ℕ)) (k : Known) (before : List LineReply)
    → AddsSeeds bounds source k before k before
adds_none bounds source k before = record { seeds = []; plays = refl; all = sym (append-nil before) }

pub adds_more : (bounds : List Key) (source : Option (List ℕ)) (old mid new : Known) (before now after : List LineReply)
    (x : LineReply) → AddsSeeds bounds source old before mid now → after ≡ now ++ x ∷ []
    → PlaysSeed bounds source mid x new → AddsSeeds bounds source old before new after
adds_more bounds source old mid new before now after x adds is one = record {
  seeds = adds.seeds ++ x ∷ [];
  plays = seeds_more bounds source old mid new adds.seeds x adds.plays one;
  all = is ∙ ap (λ (l : List LineReply). l ++ x ∷ []) adds.all ∙ append_assoc before adds.seeds (x ∷ []);
}
