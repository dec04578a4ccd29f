-- The keys between regions, as line 1 says them: `["regions",[key,..]]`.
use Rattle.std.specs.Prelude.{ℕ, ◌&&◌, List, [], ◌∷◌, Bool, true, nat_lt, Option, Some, None, option_map, option_and_then, if◌then◌else◌, bytes_eq, codes}
use Rattle.serde_json.specs.Data.{Data, Items, no_items, item}
use Rattle.serde_json.specs.Find.{as_array, as_str}
use Rattle.tx_types.specs.declared.limits.TheConstants.{MAX_REGIONS}
use Rattle.tx_types.specs.declared.key.Key.{Key}
use Rattle.tx_types.specs.Keys.{key_lt}
use Rattle.tx_types.specs.Lengths.{is_key}
use Rattle.tx_text.specs.Parts.{count}
use Rattle.tx_steps.specs.Steps.{text_in, none_left}

-- a text of 1 to 512 bytes
abbrev pub key_in : Data → Option Key
key_in d = option_and_then (λ text. if is_key text then Some text else None) (as_str d)

-- all of them, where each is a key
abbrev pub all_keys : Items → Option (List Key)
all_keys no_items = Some []
all_keys (item d ds) = option_and_then (λ k. option_map (λ ks. k ∷ ks) (all_keys ds)) (key_in d)

-- each key is below the one after it
abbrev pub are_rising : List Key → Bool
are_rising [] = true
are_rising (k ∷ []) = true
are_rising (j ∷ k ∷ ks) = key_lt j k && are_rising (k ∷ ks)

-- there are at most 64 regions, and so 1 to 63 keys between them
abbrev pub is_count : ℕ → Bool
is_count n = nat_lt 0 n && nat_lt n MAX_REGIONS

-- the list after the word, and nothing more
abbrev pub after_regions : Items → Option Items
after_regions no_items = None
after_regions (item d ds) = option_and_then (λ ks. if none_left ds && is_count (count ks) then Some ks
    else None) (as_array d)

abbrev pub list_said : Items → Option Items
list_said ds = option_and_then (λ w. if bytes_eq w.0 (codes "regions") then after_regions w.1 else None) (text_in ds)

-- the keys between the regions
abbrev pub bounds_said : Items → Option (List Key)
bounds_said ds = option_and_then (λ items. option_and_then (λ ks. if are_rising ks then Some ks
    else None) (all_keys items)) (list_said ds)
