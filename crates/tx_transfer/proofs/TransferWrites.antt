-- A transfer's session writes its two keys.
use Rattle.std.proofs.Common.{◌≡◌, ◌≢◌, ◌⊎◌, inl, inr, ℕ, true, false, List, [], ◌∷◌, map, Option, Some, None, Result, Ok, Err, OnOk, OnErr, refl, sym, ap, subst, ◌∙◌}
use Rattle.std.specs.Prelude.{bytes_eq, is_some}
use Rattle.tx_types.specs.declared.key.Key.{Key}
use Rattle.tx_types.specs.declared.mutation.Change.{Change}
use Rattle.tx_types.specs.declared.mutation.Mutation.{Mutation}
use Rattle.tx_types.specs.declared.mutation.Fate.TheVariants as fate
use Rattle.tx_core.specs.declared.event.Outcome.{Outcome}
use Rattle.tx_core.specs.declared.event.Outcome.TheVariants.{Committed, Aborted, Unknown, ReadOnly}
use Rattle.tx_core.specs.Histories.{History, Begins, declared}
use Rattle.tx_plan.proofs.KeyOrder.{key_same, other_key}
use Rattle.tx_transaction.specs.declared.state.BufferEntry.{BufferEntry}
use Rattle.tx_core.specs.Worlds.{IsWorldRun}
use Rattle.tx_core.proofs.runs.Consequences.{decided_declared}
use Rattle.tx_core.proofs.seats.Stays.{declared_on}
use Rattle.tx_transaction.specs.declared.state.Terms.{Terms}
use Rattle.tx_transaction.specs.Buffers.{Entries, keys_of, changes_of, touched}
use Rattle.tx_transaction.specs.Sessions.{SessionState, is_declared, declaration_of}
use Rattle.tx_client.specs.Facts.{standing}
use Rattle.tx_client.specs.Calls.{IsDecidedSo, Seated}
use Rattle.tx_client.specs.Calls.{KeepsSet}
use Rattle.tx_transfer.specs.Transfers.{DeclaresJust, IsBetween, Moves, MovesSome, HasEntered}

-- ---- what a session keeps

pub moves_on : (from to : Key) (s t : SessionState) → KeepsSet s t → Moves from to s → Moves from to t
moves_on from to s t keeps (inl both) = inl (keeps.keys ∙ both)
moves_on from to s t keeps (inr (none, inl start)) = inr (keeps.declared ∙ none, inl (keeps.keys ∙ start))
moves_on from to s t keeps (inr (none, inr first)) = inr (keeps.declared ∙ none, inr (keeps.keys ∙ first))

-- ---- what stands declared

keys_are : (es : Entries) → map (λ (c : Change). c.key) (changes_of es) ≡ keys_of es
keys_are [] = refl
keys_are (e ∷ es) = ap (λ (l : List Key). e.0 ∷ l) (keys_are es)

stands_just : (h : History) (t placed : ℕ) (es : Entries) (terms : Option Terms) (from to : Key)
    → declared h t ≡ standing t placed es terms → declared h t ≢ None
    → (keys_of es ≡ from ∷ to ∷ []) ⊎ ((terms ≡ None) × ((keys_of es ≡ []) ⊎ (keys_of es ≡ from ∷ [])))
    → DeclaresJust h t from to
stands_just h t placed es None from to is some moves = absurd (some is)
stands_just h t placed [] (Some terms) from to is some moves = absurd (some is)
stands_just h t placed (e ∷ es) (Some terms) from to is some (inl keys) =
    (declaration_of t placed (e ∷ es) terms, is, keys_are (e ∷ es) ∙ keys)
stands_just h t placed (e ∷ es) (Some terms) from to is some (inr (none, rest)) = absurd (cc (none))

pub ends_between : (bounds : List Key) (h : History) (s : SessionState) (o : Outcome) (keys : Option (Key × Key))
    → IsWorldRun bounds h → declared h s.start ≡ standing s.start s.placed s.buffer s.declared → IsDecidedSo h s.start o
    → MovesSome keys s → IsBetween h s.start o keys
ends_between bounds h s (Committed c) (Some keys) run stands is moves =
    stands_just h s.start s.placed s.buffer s.declared keys.0 keys.1 stands
    (decided_declared bounds h run s.start (fate.Committed c) is) moves
ends_between bounds h s Aborted (Some keys) run stands is moves =
    stands_just h s.start s.placed s.buffer s.declared keys.0 keys.1 stands
    (decided_declared bounds h run s.start fate.Aborted is) moves
ends_between bounds h s (Committed c) None run stands is moves = tt
ends_between bounds h s Aborted None run stands is moves = tt
ends_between bounds h s (Unknown why) keys run stands is moves = tt
ends_between bounds h s ReadOnly keys run stands is moves = tt

-- more is known
pub between_on : (bounds : List Key) (h n : History)
    → IsWorldRun bounds n → Begins h n → (t : ℕ) (o : Outcome) (keys : Option (Key × Key)) → IsBetween h t o keys
    → IsBetween n t o keys
between_on bounds h n run more t (Committed c) (Some keys) is =
    (is.0, declared_on bounds h n run more t is.0 is.1, is.2)
between_on bounds h n run more t Aborted (Some keys) is = (is.0, declared_on bounds h n run more t is.0 is.1, is.2)
between_on bounds h n run more t (Committed c) None is = tt
between_on bounds h n run more t Aborted None is = tt
between_on bounds h n run more t (Unknown why) keys is = tt
between_on bounds h n run more t ReadOnly keys is = tt

-- ---- what enters the buffer

-- it has the first key, or both
abbrev HasFirst : Key → Key → Entries → Type 0
HasFirst from to es = (keys_of es ≡ from ∷ to ∷ []) ⊎ (keys_of es ≡ from ∷ [])

put_same : (k : Key) (m : Mutation) (e : Key × BufferEntry) (es : Entries) → bytes_eq k e.0 ≡ true
    → keys_of (touched (e ∷ es) k m) ≡ keys_of (e ∷ es)
put_same k m e es same = rw same refl

put_other : (k : Key) (m : Mutation) (e : Key × BufferEntry) (es : Entries) → bytes_eq k e.0 ≡ false
    → keys_of (touched (e ∷ es) k m) ≡ e.0 ∷ keys_of (touched es k m)
put_other k m e es other = rw other refl

test_same : (j k : Key) → j ≡ k → bytes_eq k j ≡ true
test_same j k is = subst (λ (l : Key). bytes_eq l j ≡ true) is (key_same j)

first_in : (from to : Key) (m : Mutation) (es : Entries)
    → (keys_of es ≡ from ∷ to ∷ []) ⊎ ((keys_of es ≡ []) ⊎ (keys_of es ≡ from ∷ []))
    → HasFirst from to (touched es from m)
first_in from to m [] is = inr refl
first_in from to m (e ∷ es) (inl both) =
    (let is : e.0 ≡ from = cc in inl (put_same from m e es (test_same e.0 from is) ∙ both))
first_in from to m (e ∷ es) (inr (inl none)) = absurd (cc (none))
first_in from to m (e ∷ es) (inr (inr one)) =
    (let is : e.0 ≡ from = cc in inr (put_same from m e es (test_same e.0 from is) ∙ one))

other_test : (from to k : Key) → from ≢ to → k ≡ from → bytes_eq to k ≡ false
other_test from to k apart is = other_key to k (λ same. apart (sym is ∙ sym same))

second_in : (from to : Key) (m : Mutation) (es : Entries) → from ≢ to → HasFirst from to es
    → keys_of (touched es to m) ≡ from ∷ to ∷ []
second_in from to m [] apart (inl both) = absurd (cc (both))
second_in from to m [] apart (inr one) = absurd (cc (one))
second_in from to m (e ∷ []) apart (inl both) = absurd (cc (both))
second_in from to m (e ∷ []) apart (inr one) =
    (let is : e.0 ≡ from = cc in put_other to m e [] (other_test from to e.0 apart is)
    ∙ ap (λ (k : Key). k ∷ to ∷ []) is)
second_in from to m (e ∷ f ∷ fs) apart (inl both) =
    let is : e.0 ≡ from = cc in
    let at : f.0 ≡ to = cc in
    put_other to m e (f ∷ fs) (other_test from to e.0 apart is)
    ∙ ap (λ (l : List Key). e.0 ∷ l) (put_same to m f fs (test_same f.0 to at)) ∙ both
second_in from to m (e ∷ f ∷ fs) apart (inr one) = absurd (cc (one))

open_none : (o : Option Terms) → is_some o ≡ false → o ≡ None
open_none None is = refl
open_none (Some terms) is = absurd (cc (is))

pub still_open : (old new : SessionState) (k : Key) → HasEntered old k new → is_declared old ≡ false
    → is_declared new ≡ false
still_open old new k (m, is) none = ap (λ (s : SessionState). is_declared s) is ∙ none

module _ (from to : Key) (old one : SessionState) (none : is_declared old ≡ false) (moves : Moves from to old)
    (first : HasEntered old from one) where
  begun_keys : (keys_of old.buffer ≡ from ∷ to ∷ []) ⊎ ((keys_of old.buffer ≡ []) ⊎ (keys_of old.buffer ≡ from ∷ []))
  begun_keys = elim moves [ inl both ↦ inl both | inr rest ↦ inr rest.1 ]

  has_first : HasFirst from to one.buffer
  has_first = subst (λ (s : SessionState). HasFirst from to s.buffer) (sym first.1)
      (first_in from to first.0 old.buffer begun_keys)

  pub entered_once : Moves from to one
  entered_once = elim has_first [
    | inl both ↦ inl both
    | inr alone ↦ inr (ap (λ (s : SessionState). s.declared) first.1 ∙ open_none old.declared none, inr alone)
  ]

  pub entered_twice : (two : SessionState) → from ≢ to → HasEntered one to two → keys_of two.buffer ≡ from ∷ to ∷ []
  entered_twice two apart (m, is) = ap (λ (s : SessionState). keys_of s.buffer) is
      ∙ second_in from to m one.buffer apart has_first

-- whatever a declaration came to, the buffer stays
pub declared_both : {E : Type 0} (F G : Type 0) (r : Result (Unit {0}) E) (from to : Key) (terms : Terms)
    (old new : Seated) → OnOk r (F × (new.state ≡ record old.state { declared = Some terms; placed = new.state.placed })
    × G) → OnErr r (new ≡ old) → keys_of old.state.buffer ≡ from ∷ to ∷ [] → Moves from to new.state
declared_both F G (Ok u) from to terms old new ok same both =
    inl (ap (λ (s : SessionState). keys_of s.buffer) ok.1 ∙ both)
declared_both F G (Err e) from to terms old new ok same both =
    inl (ap (λ (s : Seated). keys_of s.state.buffer) same ∙ both)
