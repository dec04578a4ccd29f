-- The keys between regions that line 1 says rise, and are not too many.
use Rattle.std.proofs.Common.{◌≡◌, ◌<◌, ◌&&◌, ℕ, Bool, true, false, cond, List, [], ◌∷◌, length, Option, Some, None, option_map, option_and_then, refl, sym, ap, subst, ◌∙◌, arith}
use Rattle.std.specs.Prelude.{bytes_eq, codes, nat_lt, suc}
use Rattle.std.proofs.lemmas.Bool.{and_parts, ltb-true}
use Rattle.std.proofs.lemmas.Option.{option_and_then_some, none-some, same_Some}
use Rattle.serde_json.specs.Data.{Data, Items, no_items, item}
use Rattle.serde_json.specs.Find.{as_array}
use Rattle.tx_types.specs.declared.key.Key.{Key}
use Rattle.tx_types.specs.declared.limits.TheConstants.{MAX_REGIONS}
use Rattle.tx_types.specs.Keys.{key_lt, AreRising}
use Rattle.tx_text.specs.Parts.{count}
use Rattle.tx_steps.specs.Steps.{text_in, none_left}
use Rattle.tx_steps.specs.Bounds.{all_keys, key_in, are_rising, is_count, after_regions, list_said, bounds_said}
use Rattle.tx_steps.specs.Lines.{bounds_in}

-- where a test lets something through, it holds
passes : {X : Type 0} (b : Bool) (x y : X) → cond b (Some x) None ≡ Some y → (b ≡ true) × (x ≡ y)
passes true x y is = (refl, same_Some x y is)
passes false x y is = absurd (none-some y is)

passes_on : {X : Type 0} (b : Bool) (o : Option X) (y : X) → cond b o None ≡ Some y → o ≡ Some y
passes_on true o y is = is
passes_on false o y is = absurd (none-some y is)

-- one more key
one_more : (n : ℕ) (k : Key) (ks : List Key) (o : Option (List Key)) → ((l : List Key) → o ≡ Some l → length l ≡ n)
    → option_map (λ l. k ∷ l) o ≡ Some ks → length ks ≡ suc n
one_more n k ks None each is = absurd (none-some ks is)
one_more n k ks (Some l) each is = ap length (sym (same_Some (k ∷ l) ks is)) ∙ ap suc (each l refl)

-- each value gave a key
all_count : (items : Items) (ks : List Key) → all_keys items ≡ Some ks → length ks ≡ count items
all_count no_items ks is = ap length (sym (same_Some [] ks is))
all_count (item d ds) ks is =
    option_and_then_some (λ k. option_map (λ l. k ∷ l) (all_keys ds)) (key_in d) ks is
    (λ k here rest. one_more (count ds) k ks (all_keys ds) (all_count ds) rest)

-- the list has not too many
listed : (ds : Items) (items : Items) → after_regions ds ≡ Some items → count items < MAX_REGIONS
listed no_items items is = absurd (none-some items is)
listed (item d ds) items is =
    option_and_then_some (λ ks. cond (none_left ds && is_count (count ks)) (Some ks) None) (as_array d) items is
    (λ ks here tested.
    (let (both, same) = passes (none_left ds && is_count (count ks)) ks items tested in
    let (some, few) = and_parts (nat_lt 0 (count ks)) (nat_lt (count ks) MAX_REGIONS)
    (and_parts (none_left ds) (is_count (count ks)) both).1 in
    subst (λ l. count l < MAX_REGIONS) same (ltb-true (count ks) MAX_REGIONS few)))

-- a list whose test says that it rises does
pub rises : (ks : List Key) → are_rising ks ≡ true → AreRising ks
rises [] is = tt
rises (k ∷ []) is = tt
rises (j ∷ k ∷ ks) is = let (first, rest) = and_parts (key_lt j k) (are_rising (k ∷ ks)) is in
    (first, rises (k ∷ ks) rest)

-- what members say of the regions rises, and is not too long
pub said_fits : (ds : Items) (ks : List Key) → bounds_said ds ≡ Some ks → AreRising ks × (length ks < MAX_REGIONS)
said_fits ds ks is =
    option_and_then_some (λ items. option_and_then (λ l. cond (are_rising l) (Some l) None) (all_keys items))
    (list_said ds) ks is (λ items said from.
    option_and_then_some (λ l. cond (are_rising l) (Some l) None) (all_keys items) ks from (λ l keys tested.
    (let (rising, same) = passes (are_rising l) l ks tested in
    let few : count items < MAX_REGIONS =
    option_and_then_some (λ w. cond (bytes_eq w.0 (codes "regions")) (after_regions w.1) None) (text_in ds) items
    said (λ w text after. listed w.1 items
    (passes_on (bytes_eq w.0 (codes "regions")) (after_regions w.1) items after)) in (
      rises ks (subst (λ m. are_rising m ≡ true) same rising),
      omega (arith, few, all_count items ks (keys ∙ ap Some same)),
    ))))

-- what a value says of them
pub fits : (d : Data) (ks : List Key) → bounds_in d ≡ Some ks → AreRising ks × (length ks < MAX_REGIONS)
fits d ks is = option_and_then_some bounds_said (as_array d) ks is (λ ds here said. said_fits ds ks said)
