-- Requests that are held under names.
use Rattle.std.proofs.Common.{◌≡◌, ℕ, suc, cond, Bool, true, false, List, [], ◌∷◌, length, Option, Some, None, is_some, bytes_eq, string_bytes, String, Global, refl, sym, ap, subst, ◌∙◌}
use Rattle.std.proofs.Common.{◌+◌}
use Rattle.std.specs.Prelude.{IfNone, IfSome}
use Rattle.std.specs.Map.{lookup, update}
use Rattle.std.specs.BTreeMap.{BTreeMap, is_at, get_by_text}
use Rattle.std.specs.Ordering.{nat_cmp}
use Rattle.std.specs.Cmp.Lexicographic.{slice_cmp}
use Rattle.std.proofs.lemmas.Map.Text.{is_eq-slice_cmp}
use Rattle.tx_types.specs.declared.key.Key.{Key}
use Rattle.tx_core.proofs.Basics.{some_same}
use Rattle.tx_journal.specs.Replies.{Asked}
use Rattle.tx_journal.specs.Senders.{IsHeld}
use Rattle.tx_network.specs.Networks.{requests, request_at, body_at, AllFit}
use Rattle.tx_network.proofs.Stages.{some_body}

request_in : (entries : List (String Global × Asked)) (q : List ℕ)
    → request_at (requests entries) q ≡ lookup (is_at (λ k. slice_cmp nat_cmp q (string_bytes k))) entries
request_in [] q = refl
request_in (e ∷ es) q =
    ap (λ b. cond b (Some e.1) (request_at (requests es) q)) (sym (is_eq-slice_cmp q (string_bytes e.0)))
    ∙ ap (λ o. cond (is_at (λ k. slice_cmp nat_cmp q (string_bytes k)) e.0) (Some e.1) o) (request_in es q)

-- a held request in the map and in what contracts see of it
pub request_of : (m : BTreeMap (String Global) Asked) (q : List ℕ) → request_at (requests m.entries) q ≡ get_by_text m q
request_of m q = request_in m.entries q

-- another request is held
pub requests_set : (old new : BTreeMap (String Global) Asked) (name : List ℕ) (a : Asked)
    → ((q : List ℕ) → get_by_text new q ≡ update bytes_eq (get_by_text old) name (Some a) q)
    → (q : List ℕ) → request_at (requests new.entries) q
    ≡ update bytes_eq (request_at (requests old.entries)) name (Some a) q
requests_set old new name a sets q =
    request_of new q ∙ (sets q ∙ ap (λ o. cond (bytes_eq name q) (Some a) o) (sym (request_of old q)))

either_fits : (bounds : List Key) (b : Bool) (a r : Asked) (o : Option Asked) → IsHeld bounds a.body
    → ((x : Asked) → o ≡ Some x → IsHeld bounds x.body) → cond b (Some a) o ≡ Some r → IsHeld bounds r.body
either_fits bounds true a r o fits rest is = subst (λ (x : Asked). IsHeld bounds x.body) (some_same a r is) fits
either_fits bounds false a r o fits rest is = rest r is

pub fit_set : (bounds : List Key) (old new : BTreeMap (String Global) Asked) (name : List ℕ) (a : Asked)
    → ((q : List ℕ) → get_by_text new q ≡ update bytes_eq (get_by_text old) name (Some a) q)
    → IsHeld bounds a.body → AllFit bounds (requests old.entries) → AllFit bounds (requests new.entries)
fit_set bounds old new name a sets fits all q r is =
    either_fits bounds (bytes_eq name q) a r (request_at (requests old.entries) q) fits (all q)
    (sym (requests_set old new name a sets q) ∙ is)

-- whether a name is in use
pub in_use : (m : BTreeMap (String Global) Asked) (q : List ℕ)
    → is_some (body_at (requests m.entries) q) ≡ is_some (get_by_text m q)
in_use m q = some_body (request_at (requests m.entries) q) ∙ ap is_some (request_of m q)

-- as many are seen as are in the map
pub length_requests : (entries : List (String Global × Asked)) → length (requests entries) ≡ length entries
length_requests [] = refl
length_requests (e ∷ es) = ap suc (length_requests es)

-- how many are held
pub many_set : (old new : BTreeMap (String Global) Asked) (name : List ℕ)
    → length new.entries ≡ length old.entries + cond (is_some (get_by_text old name)) 0 1
    → length (requests new.entries)
    ≡ length (requests old.entries) + cond (is_some (request_at (requests old.entries) name)) 0 1
many_set old new name is =
    length_requests new.entries
    ∙ (is ∙ (λ i. sym (length_requests old.entries) i + cond (is_some (sym (request_of old name) i)) 0 1))

-- ---- by what a look-up gave

pub none_held : {X : Type 0} (o : Option X) (m : BTreeMap (String Global) Asked) (name : List ℕ)
    → IfNone o (get_by_text m name ≡ None) → IfNone o (request_at (requests m.entries) name ≡ None)
none_held None m name is = request_of m name ∙ is
none_held (Some x) m name is = tt

pub some_held : {X : Type 0} (bounds : List Key) (P : X → Asked
    → Type 0) (o : Option X) (m : BTreeMap (String Global) Asked) (name : List ℕ) → AllFit bounds (requests m.entries)
    → IfSome o (λ x. (q : Asked) × (get_by_text m name ≡ Some q) × P x q)
    → IfSome o (λ x. (q : Asked) × (request_at (requests m.entries) name ≡ Some q) × IsHeld bounds q.body × P x q)
some_held bounds P None m name fits is = tt
some_held bounds P (Some x) m name fits (q, there, holds) =
    (let at : request_at (requests m.entries) name ≡ Some q = request_of m name ∙ there in
    (q, at, fits name q at, holds))
