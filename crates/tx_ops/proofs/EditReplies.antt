-- Which replies an edit says, and what else a session does by itself.
use Rattle.std.proofs.Common.{ℕ, cond, Bool, true, false, not, List, [], ◌++◌, Option, Some, None, Result, Ok, Err, inl, inr, sym, subst}
use Rattle.std.specs.Prelude.{IfOk}
use Rattle.tx_types.specs.declared.fault.Cause.{Cause}
use Rattle.tx_types.specs.declared.key.Key.{Key}
use Rattle.tx_types.specs.declared.mutation.Mutation.TheVariants as mutation
use Rattle.tx_types.specs.Lengths.{is_key}
use Rattle.tx_transaction.specs.Buffers.{Entries, is_full, touched, put_over, inserted, buffered, locked}
use Rattle.tx_transaction.specs.declared.state.Terms.{Terms}
use Rattle.tx_transaction.specs.Sessions.{SessionState, is_declared, can_draw}
use Rattle.tx_client.specs.Calls.{Seated}
use Rattle.tx_steps.specs.Steps.{Text}
use Rattle.tx_steps.specs.declared.op.Op.{Op}
use Rattle.tx_steps.specs.declared.op.Op.TheVariants as op
use Rattle.tx_reply.specs.declared.reply.ScriptReply.{ScriptReply}
use Rattle.tx_reply.specs.declared.reply.ScriptReply.TheVariants as reply
use Rattle.tx_ops.specs.Acts.{Declares, DrawsIf, Does}
use Rattle.tx_ops.specs.Calls.{Said}
use Rattle.tx_ops.specs.Edits.{Edit, stops, says, enters, is_refused, later_of, is_value, grown, changes, puts, inserts_by, inserts, deletes, locks, Edited}

-- what is so of the six replies of an edit is so of what it says
module _ (P : ScriptReply → Type 0) (fine : P reply.Fine) (short : P reply.OutOfMemory) (keys : P reply.KeyLength)
    (values : P reply.ValueLength) (many : P reply.TooManyKeys) (there : P reply.AlreadyExists) where
  abbrev Only : Edit → Type 0
  Only (stops cause) = Unit {0}
  Only (says said left) = P said
  Only (enters buffer left) = Unit {0}

  either : (b : Bool) (x y : Edit) → Only x → Only y → Only (cond b x y)
  either true x y p q = p
  either false x y p q = q

  grown_only : (refused : List Bool) (buffer : Entries) → Only (grown refused buffer)
  grown_only refused buffer = either (is_refused refused) (says reply.OutOfMemory (later_of refused))
      (enters buffer (later_of refused)) short tt

  inserts_only : (refused : List Bool) (s : SessionState) (o : Option Entries) → Only (inserts_by refused s o)
  inserts_only refused s None = there
  inserts_only refused s (Some buffer) = grown_only refused buffer

  changes_only : (refused : List Bool) (s : SessionState) (key : List ℕ) (fits : Bool) (more : Edit) → Only more
      → Only (changes refused s key fits more)
  changes_only refused s key fits more only =
      either (is_declared s) _ _ tt (either (not (is_key key)) _ _ keys
      (either (not fits) _ _ values (either (is_full s.buffer key) _ _ many only)))

  said_only : (edit : List Bool → SessionState → Edit)
      → ((refused : List Bool) (s : SessionState) → Only (edit refused s)) → (old new : Seated)
      (r : Result ScriptReply Cause) → Edited edit r old new → IfOk r P
  said_only edit only old new (Ok said) (refused, inl (same, comes)) =
      subst Only (comes []) (only (refused ++ []) old.state)
  said_only edit only old new (Ok said) (refused, inr (is, now, comes)) = subst P (sym is) fine
  said_only edit only old new (Err cause) stopped = tt

  pub put_says : (key value : List ℕ) (old new : Seated) (r : Result ScriptReply Cause)
      → Edited (λ refused s. puts refused s key value) r old new → IfOk r P
  put_says key value = said_only (λ refused s. puts refused s key value) (λ refused s.
      changes_only refused s key (is_value value) _
      (grown_only refused (touched s.buffer key (put_over (buffered s.buffer key) value))))

  pub insert_says : (key value : List ℕ) (old new : Seated) (r : Result ScriptReply Cause)
      → Edited (λ refused s. inserts refused s key value) r old new → IfOk r P
  insert_says key value = said_only (λ refused s. inserts refused s key value) (λ refused s.
      changes_only refused s key (is_value value) _ (inserts_only refused s (inserted s.buffer key value)))

  pub delete_says : (key : List ℕ) (old new : Seated) (r : Result ScriptReply Cause)
      → Edited (λ refused s. deletes refused s key) r old new → IfOk r P
  delete_says key = said_only (λ refused s. deletes refused s key) (λ refused s.
      changes_only refused s key true _ (grown_only refused (touched s.buffer key mutation.Delete)))

  pub lock_says : (key : List ℕ) (old new : Seated) (r : Result ScriptReply Cause)
      → Edited (λ refused s. locks refused s key) r old new → IfOk r P
  lock_says key = said_only (λ refused s. locks refused s key) (λ refused s.
      changes_only refused s key true _ (grown_only refused (locked s.buffer key)))

  -- what is so of the eight replies of what a session does by itself is so of what it says
  module _ (drawn : (c : ℕ) → P (reply.Drawn c)) (spent : P reply.OracleSpent) (bounds : List Key) (old new : Seated)
    where
      declare_says : (b : Bool) (terms : Terms) (said : Said) → Declares bounds b old terms said new → IfOk said P
      declare_says true terms said (is, same) = subst (λ r. IfOk r P) (sym is) tt
      declare_says false terms said (inl done) = subst (λ r. IfOk r P) (sym done.0) fine
      declare_says false terms said (inr (inl refused)) = subst (λ r. IfOk r P) (sym refused.0) many
      declare_says false terms said (inr (inr refused)) = subst (λ r. IfOk r P) (sym refused.0) spent

      draw_says : (b : Bool) (said : Said) → DrawsIf bounds b old said new → IfOk said P
      draw_says false said (is, same) = subst (λ r. IfOk r P) (sym is) tt
      draw_says true said (inl done) = subst (λ r. IfOk r P) (sym done.1) (drawn done.0)
      draw_says true said (inr refused) = subst (λ r. IfOk r P) (sym refused.0) spent

      pub does_says : (what : Op Text) (said : Said) → Does bounds what old said new → IfOk said P
      does_says (op.Put key value) said does = put_says key value old new said does
      does_says (op.Insert key value) said does = insert_says key value old new said does
      does_says (op.Delete key) said does = delete_says key old new said does
      does_says (op.Lock key) said does = lock_says key old new said does
      does_says (op.Declare mode ttl max_commit) said does = declare_says (is_declared old.state) _ said does
      does_says op.Draw said does = draw_says (can_draw old.state) said does
      does_says op.Finish said (is, same) = subst (λ r. IfOk r P) (sym is) tt
      does_says op.Stop said (is, same) = subst (λ r. IfOk r P) (sym is) tt
      does_says (op.Resolve now) said (is, same) = subst (λ r. IfOk r P) (sym is) tt
