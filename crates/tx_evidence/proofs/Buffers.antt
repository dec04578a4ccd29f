-- What was entered for the keys of a session's buffer, and what edits enter.
use Rattle.std.proofs.Common.{◌≡◌, ℕ, zero, suc, not, Bool, true, false, cond, List, [], ◌∷◌, Option, Some, None, option_map, is_some, bytes_eq, refl, subst}
use Rattle.tx_types.specs.declared.key.Key.{Key}
use Rattle.tx_types.specs.declared.value.Value.{Value}
use Rattle.tx_types.specs.declared.fault.Cause.TheVariants.{Order}
use Rattle.tx_types.specs.declared.mutation.Mutation.{Mutation}
use Rattle.tx_types.specs.declared.mutation.Mutation.TheVariants as mutation
use Rattle.tx_types.specs.Lengths.{is_key}
use Rattle.tx_core.proofs.Basics.{key_true}
use Rattle.tx_transaction.specs.declared.state.Progress.{Progress}
use Rattle.tx_transaction.specs.Buffers.{Entries, fresh, touched, put_over, insert_over, buffered, with_progress, is_full}
use Rattle.tx_transaction.specs.Sessions.{SessionState, is_declared}
use Rattle.tx_evidence.specs.Buffers.{ByMutation, AllBy}
use Rattle.tx_ops.specs.Edits.{Edit, is_refused, is_value, grown, changes, puts, inserts, inserts_by, deletes, locks, stops, says, enters}
use Rattle.tx_reply.specs.declared.reply.ScriptReply.{ScriptReply}
use Rattle.tx_reply.specs.declared.reply.ScriptReply.TheVariants as reply

-- what an edit says where it enters nothing
abbrev pub IsRefusal : ScriptReply → Type 0
IsRefusal reply.OutOfMemory = Unit {0}
IsRefusal reply.KeyLength = Unit {0}
IsRefusal reply.ValueLength = Unit {0}
IsRefusal reply.TooManyKeys = Unit {0}
IsRefusal reply.AlreadyExists = Unit {0}
IsRefusal _ = ⊥

-- ---- one buffer

-- what is there of a key, if anything is
abbrev pub ByOption : (Key → Option Value → Type 0) → Key → Option Mutation → Type 0
ByOption P k None = Unit {0}
ByOption P k (Some m) = ByMutation P k m

module _ (P Q : Key → Option Value → Type 0) (f : (k : Key) (o : Option Value) → P k o → Q k o) where
  by_more : (k : Key) (m : Mutation) → ByMutation P k m → ByMutation Q k m
  by_more k (mutation.Put v) by = f k (Some v) by
  by_more k (mutation.Insert v) by = f k (Some v) by
  by_more k mutation.Delete by = f k None by
  by_more k mutation.Lock by = tt

  pub all_more : (es : Entries) → AllBy P es → AllBy Q es
  all_more [] all = tt
  all_more (e ∷ es) all = (by_more e.0 e.1.mutation all.0, all_more es all.1)

module _ (P : Key → Option Value → Type 0) where
  -- progress changes no mutation
  pub all_with : (es : Entries) (i : ℕ) (p : Progress) → AllBy P es → AllBy P (with_progress es i p)
  all_with [] i p all = tt
  all_with (e ∷ es) zero p all = all
  all_with (e ∷ es) (suc i) p all = (all.0, all_with es i p all.1)

  -- what is there of a key
  pub by_buffered : (es : Entries) (k : Key) → AllBy P es → ByOption P k (buffered es k)
  by_buffered [] k all = tt
  by_buffered (e ∷ es) k all = go (bytes_eq e.0 k) refl (by_buffered es k all.1)
    where
      go : (b : Bool) → bytes_eq e.0 k ≡ b → ByOption P k (buffered es k)
          → ByOption P k (cond b (Some e.1.mutation) (buffered es k))
      go true is rest = subst (λ q. ByMutation P q e.1.mutation) (key_true e.0 k is) all.0
      go false is rest = rest

  -- a key is touched
  pub all_touched : (es : Entries) (k : Key) (m : Mutation) → ByMutation P k m → AllBy P es → AllBy P (touched es k m)
  all_touched [] k m by all = (by, tt)
  all_touched (e ∷ es) k m by all = go (bytes_eq k e.0) refl (all_touched es k m by all.1)
    where
      go : (b : Bool) → bytes_eq k e.0 ≡ b → AllBy P (touched es k m)
          → AllBy P (cond b ((e.0, fresh m) ∷ es) (e ∷ touched es k m))
      go true is rest = (subst (λ q. ByMutation P q m) (key_true k e.0 is) by, all.1)
      go false is rest = (all.0, rest)

  -- ---- edits

  -- where a buffer is entered, this holds of it; what is said is a refusal
  abbrev pub EntersBy : Edit → Type 0
  EntersBy (stops cause) = Unit {0}
  EntersBy (says said left) = IsRefusal said
  EntersBy (enters buffer left) = AllBy P buffer

  either_by : (b : Bool) (x y : Edit) → EntersBy x → EntersBy y → EntersBy (cond b x y)
  either_by true x y p q = p
  either_by false x y p q = q

  grown_by : (refused : List Bool) (buffer : Entries) → AllBy P buffer → EntersBy (grown refused buffer)
  grown_by refused buffer all = either_by (is_refused refused) _ _ tt all

  put_by : (o : Option Mutation) (k : Key) (v : Value) → P k (Some v) → ByMutation P k (put_over o v)
  put_by None k v p = p
  put_by (Some (mutation.Put w)) k v p = p
  put_by (Some (mutation.Insert w)) k v p = p
  put_by (Some mutation.Delete) k v p = p
  put_by (Some mutation.Lock) k v p = p

  insert_by : (o : Option Mutation) (k : Key) (v : Value) → P k (Some v) → ByOption P k (insert_over o v)
  insert_by None k v p = p
  insert_by (Some (mutation.Put w)) k v p = tt
  insert_by (Some (mutation.Insert w)) k v p = tt
  insert_by (Some mutation.Delete) k v p = p
  insert_by (Some mutation.Lock) k v p = p

  module _ (refused : List Bool) (s : SessionState) (all : AllBy P s.buffer) where
    changes_by : (key : List ℕ) (fits : Bool) (more : Edit) → EntersBy more
        → EntersBy (changes refused s key fits more)
    changes_by key fits more by =
        either_by (is_declared s) (stops Order) _ tt
        (either_by (not (is_key key)) (says reply.KeyLength refused) _ tt
        (either_by (not fits) (says reply.ValueLength refused) _ tt
        (either_by (is_full s.buffer key) (says reply.TooManyKeys refused) more tt by)))

    pub puts_by : (key value : List ℕ) → P key (Some value) → EntersBy (puts refused s key value)
    puts_by key value p = changes_by key (is_value value) _
        (grown_by refused _ (all_touched s.buffer key _ (put_by (buffered s.buffer key) key value p) all))

    inserted_by : (key : Key) (o : Option Mutation) → ByOption P key o
        → EntersBy (inserts_by refused s (option_map (touched s.buffer key) o))
    inserted_by key None by = tt
    inserted_by key (Some m) by = grown_by refused _ (all_touched s.buffer key m by all)

    pub inserts_so : (key value : List ℕ) → P key (Some value) → EntersBy (inserts refused s key value)
    inserts_so key value p = changes_by key (is_value value) _
        (inserted_by key (insert_over (buffered s.buffer key) value) (insert_by (buffered s.buffer key) key value p))

    pub deletes_by : (key : List ℕ) → P key None → EntersBy (deletes refused s key)
    deletes_by key p = changes_by key true _ (grown_by refused _ (all_touched s.buffer key mutation.Delete p all))

    locked_by : (key : Key) (b : Bool) → AllBy P (cond b s.buffer (touched s.buffer key mutation.Lock))
    locked_by key true = all
    locked_by key false = all_touched s.buffer key mutation.Lock tt all

    pub locks_by : (key : List ℕ) → EntersBy (locks refused s key)
    locks_by key = changes_by key true _ (grown_by refused _ (locked_by key (is_some (buffered s.buffer key))))
