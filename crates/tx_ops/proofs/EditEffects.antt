-- What an edit says, and what becomes of a session.
use Rattle.std.proofs.Common.{◌≡◌, ℕ, cond, Bool, true, false, not, List, [], ◌∷◌, ◌++◌, Option, Some, None, is_some, Result, Ok, Err, inl, inr, refl, sym, ap, subst, ◌∙◌}
use Rattle.std.specs.Prelude.{OnOk, OnErr}
use Rattle.tx_types.specs.declared.fault.Cause.TheVariants as cause
use Rattle.tx_types.specs.declared.fault.Fault.{Fault}
use Rattle.tx_types.specs.declared.mutation.Mutation.TheVariants as mutation
use Rattle.tx_types.specs.declared.value.Value.{Value}
use Rattle.tx_transaction.specs.Buffers.{Entries, touched, put_over, inserted, buffered, locked}
use Rattle.tx_transaction.specs.Sessions.{SessionState}
use Rattle.tx_client.specs.Calls.{Seated, seated}
use Rattle.tx_reply.specs.declared.reply.ScriptReply.{ScriptReply}
use Rattle.tx_reply.specs.declared.reply.ScriptReply.TheVariants as reply
use Rattle.tx_ops.specs.Edits.{Edit, stops, says, is_value, grown, changes, puts, inserts_by, inserts, deletes, locks, Edited}
use Rattle.tx_ops.specs.Refusals.{Refuses}

-- ---- what enters

-- what became of a call that enters a buffer
abbrev pub Enters : Seated → Seated → Entries → Result (Unit {0}) Fault → Type 0
Enters old new buffer r = OnOk r (new ≡ seated (record old.state { buffer = buffer }) old.seat) × OnErr r (new ≡ old)

-- what is said of it
abbrev pub Says : Result (Unit {0}) Fault → ScriptReply → Type 0
Says r said = OnOk r (said ≡ reply.Fine) × OnErr r (said ≡ reply.OutOfMemory)

module _ (old : Seated) (edit : List Bool → SessionState → Edit) where
  -- an edit that enters a buffer
  entered : (buffer : Entries) → ((refused : List Bool) → edit refused old.state ≡ grown refused buffer)
      → (new : Seated) (r : Result (Unit {0}) Fault) → Enters old new buffer r → (said : ScriptReply) → Says r said
      → Edited edit (Ok said) old new
  entered buffer is new (Ok x) (now, same) said (fine, short) =
      subst (λ (z : Seated). Edited edit (Ok said) old z) (sym now)
      (false ∷ [], inr (fine, refl, λ later. is (false ∷ later)))
  entered buffer is new (Err e) (now, same) said (fine, short) =
      subst (λ (z : ScriptReply). Edited edit (Ok z) old new) (sym short)
      (true ∷ [], inl (same, λ later. is (true ∷ later)))

  module _ (key : List ℕ) (fits : Bool) (more : List Bool → Edit)
      (is : (refused : List Bool) → edit refused old.state ≡ changes refused old.state key fits (more refused)) where
    -- one of which something is refused
    told : (o : Option ScriptReply) → Refuses old.state key fits (Ok o) → (said : ScriptReply) → o ≡ Some said
        → Edited edit (Ok said) old old
    told o bad said some =
        let so = subst (λ z. Refuses old.state key fits (Ok z)) some bad in
        ([], inl (refl, λ later. is later ∙ so later (more later)))

    -- one of which nothing is refused is what it would be without the tests
    may : Refuses old.state key fits (Ok None) → (refused : List Bool) → edit refused old.state ≡ more refused
    may (free, keyed, valued, room) refused = is refused ∙ (λ i. cond (free i) (stops cause.Order)
        (cond (not (keyed i)) (says reply.KeyLength refused) (cond (not (valued i)) (says reply.ValueLength refused)
        (cond (room i) (says reply.TooManyKeys refused) (more refused)))))

    free : (o : Option ScriptReply) → Refuses old.state key fits (Ok o) → o ≡ None → (refused : List Bool)
        → edit refused old.state ≡ more refused
    free o good none = may (subst (λ z. Refuses old.state key fits (Ok z)) none good)

-- ---- inserts

module _ (es : Entries) (bytes key : List ℕ) (same : bytes ≡ key) where
  pub is_free : (b : Bool) (value : Value) → ((v : Value) → b ≡ is_some (inserted es bytes v))
      → is_some (inserted es key value) ≡ b
  is_free b value is = sym (is value ∙ ap (λ q. is_some (inserted es q value)) same)

-- what became of a call that inserts
abbrev pub Inserts : Seated → Seated → Option Entries → Result (Unit {0}) Fault → Type 0
Inserts old new o r = OnOk r ((o ≡ Some new.state.buffer)
    × (new ≡ seated (record old.state { buffer = new.state.buffer }) old.seat)) × OnErr r (new ≡ old)

-- an insert by what its buffer is with it
abbrev pub inserting : List ℕ → List ℕ → List Bool → SessionState → Edit
inserting key value refused s = inserts_by refused s (inserted s.buffer key value)

module _ (old : Seated) (key value : List ℕ) where
  pub taken : is_some (inserted old.state.buffer key value) ≡ false
      → Edited (inserting key value) (Ok reply.AlreadyExists) old old
  taken there = go (inserted old.state.buffer key value) (λ refused. refl) there
    where
      go : (o : Option Entries) → ((refused : List Bool) → inserting key value refused old.state
          ≡ inserts_by refused old.state o) → is_some o ≡ false
          → Edited (inserting key value) (Ok reply.AlreadyExists) old old
      go None is there = ([], inl (refl, is))
      go (Some buffer) is there = absurd (cc there)

  pub inserted_so : is_some (inserted old.state.buffer key value) ≡ true → (new : Seated)
      (r : Result (Unit {0}) Fault) → Inserts old new (inserted old.state.buffer key value) r → (said : ScriptReply)
      → Says r said → Edited (inserting key value) (Ok said) old new
  inserted_so free new r enters said also =
      go (inserted old.state.buffer key value) (λ refused. refl) free r enters also
    where
      go : (o : Option Entries) → ((refused : List Bool) → inserting key value refused old.state
          ≡ inserts_by refused old.state o) → is_some o ≡ true → (r : Result (Unit {0}) Fault) → Inserts old new o r
          → Says r said → Edited (inserting key value) (Ok said) old new
      go None is free r enters also = absurd (cc free)
      go (Some buffer) is free (Ok x) (ok, same) also =
          entered old (inserting key value) new.state.buffer (λ refused.
          is refused ∙ ap (inserts_by refused old.state) ok.0) new (Ok x) (ok.1, same) said also
      go (Some buffer) is free (Err e) (ok, same) also =
          entered old (inserting key value) buffer is new (Err e) (ok, same) said also

-- what one edit comes to is what another does that is the same of this state
rejoined : (old new : Seated) (one two : List Bool → SessionState → Edit)
    → ((refused : List Bool) → one refused old.state ≡ two refused old.state) → (said : ScriptReply)
    → Edited two (Ok said) old new → Edited one (Ok said) old new
rejoined old new one two is said (refused, inl (same, comes)) =
    (refused, inl (same, λ later. is (refused ++ later) ∙ comes later))
rejoined old new one two is said (refused, inr (fine, now, comes)) =
    (refused, inr (fine, now, λ later. is (refused ++ later) ∙ comes later))

-- ---- the edits, each by what was refused of it

module _ (old new : Seated) (key : List ℕ) (said : ScriptReply) (o : Option ScriptReply) where
  module _ (value : List ℕ) (fits : Bool) (is : fits
      ≡ is_value value) (refuses : Refuses old.state key fits (Ok o)) where
    abbrev put_more : List Bool → Edit
    put_more refused = grown refused (touched old.state.buffer key (put_over (buffered old.state.buffer key) value))

    put_is : (refused : List Bool) → puts refused old.state key value
        ≡ changes refused old.state key fits (put_more refused)
    put_is refused = ap (λ b. changes refused old.state key b (put_more refused)) (sym is)

    pub put_told : o ≡ Some said → Edited (λ refused s. puts refused s key value) (Ok said) old old
    put_told = told old (λ refused s. puts refused s key value) key fits put_more put_is o refuses said

    pub put_entered : o ≡ None → (r : Result (Unit {0}) Fault)
        → Enters old new (touched old.state.buffer key (put_over (buffered old.state.buffer key) value)) r
        → Says r said → Edited (λ refused s. puts refused s key value) (Ok said) old new
    put_entered none r enters =
        entered old (λ refused s. puts refused s key value) _
        (free old (λ refused s. puts refused s key value) key fits put_more put_is o refuses none) new r enters said

    abbrev insert_more : List Bool → Edit
    insert_more refused = inserting key value refused old.state

    insert_is : (refused : List Bool) → inserts refused old.state key value
        ≡ changes refused old.state key fits (insert_more refused)
    insert_is refused = ap (λ b. changes refused old.state key b (insert_more refused)) (sym is)

    pub insert_told : o ≡ Some said → Edited (λ refused s. inserts refused s key value) (Ok said) old old
    insert_told = told old (λ refused s. inserts refused s key value) key fits insert_more insert_is o refuses said

    pub insert_entered : o ≡ None → Edited (inserting key value) (Ok said) old new
        → Edited (λ refused s. inserts refused s key value) (Ok said) old new
    insert_entered none =
        rejoined old new (λ refused s. inserts refused s key value) (inserting key value)
        (free old (λ refused s. inserts refused s key value) key fits insert_more insert_is o refuses none) said

  module _ (refuses : Refuses old.state key true (Ok o)) where
    pub delete_told : o ≡ Some said → Edited (λ refused s. deletes refused s key) (Ok said) old old
    delete_told = told old (λ refused s. deletes refused s key) key true (λ refused.
        grown refused (touched old.state.buffer key mutation.Delete)) (λ refused. refl) o refuses said

    pub delete_entered : o ≡ None → (r : Result (Unit {0}) Fault)
        → Enters old new (touched old.state.buffer key mutation.Delete) r → Says r said
        → Edited (λ refused s. deletes refused s key) (Ok said) old new
    delete_entered none r enters =
        entered old (λ refused s. deletes refused s key) _
        (free old (λ refused s. deletes refused s key) key true (λ refused.
        grown refused (touched old.state.buffer key mutation.Delete)) (λ refused. refl) o refuses none) new r enters
        said

    pub lock_told : o ≡ Some said → Edited (λ refused s. locks refused s key) (Ok said) old old
    lock_told = told old (λ refused s. locks refused s key) key true (λ refused.
        grown refused (locked old.state.buffer key)) (λ refused. refl) o refuses said

    pub lock_entered : o ≡ None → (r : Result (Unit {0}) Fault) → Enters old new (locked old.state.buffer key) r
        → Says r said → Edited (λ refused s. locks refused s key) (Ok said) old new
    lock_entered none r enters =
        entered old (λ refused s. locks refused s key) _
        (free old (λ refused s. locks refused s key) key true (λ refused.
        grown refused (locked old.state.buffer key)) (λ refused. refl) o refuses none) new r enters said
