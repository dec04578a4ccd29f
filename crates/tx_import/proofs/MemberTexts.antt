-- What a line has twice, by the names of its members.
use Rattle.std.proofs.Common.{◌≡◌, ℕ, List, Bool, true, false, not, IsTrue, true≢false, ◌↔◌, Option, Some, None, option_and_then, refl, sym, ap, subst, ◌∙◌}
use Rattle.std.specs.Bool.{MatchBool}
use Rattle.std.specs.Prelude.{IsSome}
use Rattle.json.specs.Token.{Token}
use Rattle.json.specs.Json.{Json, Members, object, document}
use Rattle.json.specs.Find.{BeginsWith, InMembers, as_object}
use Rattle.json.specs.Strict.{keys, AreDistinct}
use Rattle.json.proofs.Found.{Some_inj}
use Rattle.json.proofs.Unique.Keys.{Key, texts}
use Rattle.tx_import.specs.MemberNames.{IsObjectOf, HasOneTwice, HasNoneTwice}

some_of : {A : Type 0} (o : Option A) → IsSome o → (a : A) × (o ≡ Some a)
some_of None h = absurd (true≢false (sym h))
some_of (Some a) h = (a, refl)

-- a line is the object of no other members
one_object : (line : List ℕ) (ms ns : Members) → IsObjectOf line ms → IsObjectOf line ns → ms ≡ ns
one_object line ms ns one other = Some_inj ms ns (ap (option_and_then as_object) (sym one ∙ other))

decided : (line : List ℕ) (ms : Members) (b : Bool) → IsObjectOf line ms → (IsTrue b ↔ AreDistinct (keys ms))
    → MatchBool (not b) (HasOneTwice line) (HasNoneTwice line)
decided line ms true is d = λ ns other. subst (λ l. AreDistinct (keys l)) (one_object line ms ns is other) (d.0 refl)
decided line ms false is d = (ms, is, λ distinct. true≢false (sym (d.1 distinct)))

-- a line whose members were named
pub told_by_names : (line : List ℕ) (root rest : List Token) (names : List Key) (b : Bool) → IsSome (document line)
    → ((j : Json) → document line ≡ Some j → BeginsWith root j)
    → ((j : Json) → BeginsWith root j → (ms : Members) × (j ≡ object ms) × InMembers rest ms)
    → ((ms : Members) → InMembers rest ms → texts names ≡ keys ms) → (IsTrue b ↔ AreDistinct (texts names))
    → MatchBool (not b) (HasOneTwice line) (HasNoneTwice line)
told_by_names line root rest names b some begins members named distinct =
    let (j, is) = some_of (document line) some in
    let (ms, object_is, inside) = members j (begins j is) in
    decided line ms b (is ∙ ap Some object_is)
    (subst (λ ks. IsTrue b ↔ AreDistinct ks) (named ms inside) distinct)
