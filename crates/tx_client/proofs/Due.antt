-- What is due of a session is allowed.
use Rattle.std.proofs.Common.{◌≡◌, ◌≢◌, ℕ, ◌<◌, ◌&&◌, inl, inr, Bool, true, false, length, List, [], ◌∷◌, Option, Some, None, is_some, refl, sym, ap, subst, ◌∙◌, arith}
use Rattle.tx_types.specs.declared.key.Key.{Key}
use Rattle.tx_types.specs.declared.mutation.Fate.{Fate}
use Rattle.tx_types.specs.declared.mutation.Fate.TheVariants as fate
use Rattle.tx_types.specs.declared.mutation.Mode.{Mode}
use Rattle.tx_types.specs.declared.mutation.Mode.TheVariants.{TwoPhase, Async}
use Rattle.tx_machine.specs.Machine.{Done}
use Rattle.tx_plan.specs.Answers.{start_in}
use Rattle.tx_core.specs.Histories.{History, declared, set_of, is_first}
use Rattle.tx_core.specs.Decisions.{decided}
use Rattle.tx_core.specs.Allowed.{Allowed}
use Rattle.tx_core.specs.Worlds.{MayAnswer, IsWorldRun}
use Rattle.tx_core.proofs.Basics.{some_same}
use Rattle.tx_core.proofs.runs.AllRuns.{run_told}
use Rattle.tx_core.proofs.runs.Consequences.{told_fate, decided_declared}
use Rattle.tx_transaction.specs.declared.state.Terms.{Terms}
use Rattle.tx_transaction.specs.declared.state.Phase.{Phase}
use Rattle.tx_transaction.specs.declared.state.Phase.TheVariants as phase
use Rattle.tx_transaction.specs.declared.state.Due.{Due}
use Rattle.tx_transaction.specs.Buffers.{Entries, key_at, not_empty, first_index}
use Rattle.tx_transaction.specs.Sessions.{SessionState, has_primary, declaration_of, prewrite_of, prewrite_at, due_prewrite, commit_of, commit_at, commit_drawn, commit_by, commit_if, due_commit, rollback_of, rollback_at, check_of, check_at, abort_of, abort_open, abort_by, due_abort, heartbeat_of, outcome_of}
use Rattle.tx_transaction.specs.Next.{due as next_of}
use Rattle.tx_client.specs.Facts.{standing, IsSession, IsFor}
use Rattle.tx_transaction.proofs.Places.{some_entries}
use Rattle.tx_transaction.proofs.Entries.{first_within, mutation_there, first_there, others_listed}

-- ---- what a request of a phase names

-- it names the session's transaction
pub names_start : (s : SessionState) (x : Phase) (due : Due) → IsFor s x due → start_in due.body ≡ Some s.start
names_start s phase.Prewrite due is = ap (λ (d : Due). start_in d.body) is.2
names_start s phase.Commit due is = ap (λ (d : Due). start_in d.body) is.2
names_start s phase.Abort due (inl is) = ap (λ (d : Due). start_in d.body) is.1
names_start s phase.Abort due (inr is) = ap (λ (d : Due). start_in d.body) is.1

-- ---- what stands declared

-- of a buffer that is not empty
declared_is : (t placed : ℕ) (es : Entries) (terms : Terms) → 0 < length es
    → standing t placed es (Some terms) ≡ Some (declaration_of t placed es terms)
declared_is t placed [] terms lt = absurd (omega (arith, lt))
declared_is t placed (e ∷ es) terms lt = refl

-- where something stands, it is the buffer, under some terms
pub standing_some : (t placed : ℕ) (es : Entries) (o : Option Terms) → standing t placed es o ≢ None
    → (terms : Terms) × (o ≡ Some terms) × (standing t placed es o ≡ Some (declaration_of t placed es terms))
    × (0 < length es)
standing_some t placed es None some = absurd (some refl)
standing_some t placed [] (Some terms) some = absurd (some refl)
standing_some t placed (e ∷ es) (Some terms) some = (terms, refl, refl, omega arith)

module _ (bounds : List Key) (h : History) (run : IsWorldRun bounds h) (i : ℕ) (s : SessionState)
    (is : IsSession h i s) where
  -- what is known of a fate is decided
  pub known_decided : (end : Fate) → s.decision ≡ Some end → decided h s.start ≡ Done end
  known_decided end e = go end (is.settled end e)
    where
      go : (end : Fate) → MayAnswer h s.start (outcome_of end) → decided h s.start ≡ Done end
      go (fate.Committed c) (inl told) = told_fate bounds h run s.start (fate.Committed c) told
      go (fate.Committed c) (inr most) = (run_told bounds h run).0.ends.all_async s.start c most
      go fate.Aborted told = told_fate bounds h run s.start fate.Aborted told

  declared_so : (terms : Terms)
      → s.declared ≡ Some terms → 0 < length s.buffer
      → declared h s.start ≡ Some (declaration_of s.start s.placed s.buffer terms)
  declared_so terms was some = is.stands ∙ ap (standing s.start s.placed s.buffer) was
      ∙ declared_is s.start s.placed s.buffer terms some

  -- where something stands declared, it is the buffer
  pub stands_some : declared h s.start ≢ None → (terms : Terms)
      × (s.declared ≡ Some terms) × (declared h s.start ≡ Some (declaration_of s.start s.placed s.buffer terms))
      × (0 < length s.buffer)
  stands_some some =
      let r = standing_some s.start s.placed s.buffer s.declared (λ none. some (is.stands ∙ none)) in
      (r.0, r.1, is.stands ∙ r.2, r.3)

  decided_some : (end : Fate) → s.decision ≡ Some end → (terms : Terms)
      × (s.declared ≡ Some terms) × (declared h s.start ≡ Some (declaration_of s.start s.placed s.buffer terms))
      × (0 < length s.buffer)
  decided_some end e = stands_some (decided_declared bounds h run s.start end (known_decided end e))

  abbrev Is : Phase → Due → Type 0
  Is x due = Allowed h due.body × IsFor s x due

  -- ---- prewrites

  may_prewrite : (terms : Terms) (n : ℕ) → s.declared ≡ Some terms → n < length s.buffer
      → Allowed h (prewrite_of s terms n).body
  may_prewrite terms n was lt =
      let some : 0 < length s.buffer = omega (arith, lt) in
      record {
        of = declaration_of s.start s.placed s.buffer terms;
        stands = declared_so terms was some;
        mutation = mutation_there s.buffer n lt is.distinct;
        primary = first_there s.buffer some;
        mode = refl;
        max_commit = refl;
        floor = refl;
        ttl = refl;
        others = others_listed terms.mode s.buffer n lt is.distinct;
      }

  -- the prewrite that is due is allowed
  prewrite_allowed : (due : Due) → due_prewrite s ≡ Some due → Is phase.Prewrite due
  prewrite_allowed due e = go s.declared (first_index phase.Prewrite s.buffer) refl refl e
    where
      go : (o : Option Terms) (index : Option ℕ)
          → s.declared ≡ o → first_index phase.Prewrite s.buffer ≡ index → prewrite_at s o index ≡ Some due
          → Is phase.Prewrite due
      go None index was at e = absurd (cc (e))
      go (Some terms) None was at e = absurd (cc (e))
      go (Some terms) (Some n) was at e =
          let same : prewrite_of s terms n ≡ due = some_same (prewrite_of s terms n) due e in (
            subst (λ (d : Due). Allowed h d.body) same
                (may_prewrite terms n was (first_within phase.Prewrite s.buffer n at)),
            (terms, n, sym same),
          )

  -- ---- commits

  may_commit_decided : (c n : ℕ) → s.decision ≡ Some (fate.Committed c) → Allowed h (commit_of s c n).body
  may_commit_decided c n e = inl (known_decided (fate.Committed c) e)

  may_commit_drawn : (c : ℕ) → s.drawn ≡ Some c → Allowed h (commit_of s c 0).body
  may_commit_drawn c e =
      let y = is.ready c e in
      let r = stands_some y.stands in
      inr (record {
        primary = ap (λ o. is_first (set_of o) (key_at s.buffer 0)) r.2
            ∙ first_there s.buffer r.3;
        accepted = y.all;
        two_phase = y.two_phase;
        drawn = y.drew;
      })

  -- the commit that is due is allowed
  commit_allowed : (due : Due) → due_commit s ≡ Some due → Is phase.Commit due
  commit_allowed due e = by_primary (has_primary s) e
    where
      this : (c n : ℕ) → Allowed h (commit_of s c n).body → commit_of s c n ≡ due → Is phase.Commit due
      this c n may same = (subst (λ (d : Due). Allowed h d.body) same may, (c, n, sym same))

      by_drawn : (o : Option ℕ) → s.drawn ≡ o → commit_drawn s o ≡ Some due → Is phase.Commit due
      by_drawn None was e = absurd (cc (e))
      by_drawn (Some c) was e = this c 0 (may_commit_drawn c was) (some_same (commit_of s c 0) due e)

      by_place : (c : ℕ) (index : Option ℕ) → s.decision ≡ Some (fate.Committed c) → commit_at s c index ≡ Some due
          → Is phase.Commit due
      by_place c None was e = absurd (cc (e))
      by_place c (Some n) was e = this c n (may_commit_decided c n was) (some_same (commit_of s c n) due e)

      by_decision : (o : Option Fate) → s.decision ≡ o → commit_by s o ≡ Some due → Is phase.Commit due
      by_decision None was e = by_drawn s.drawn refl e
      by_decision (Some (fate.Committed c)) was e = by_place c (first_index phase.Commit s.buffer) was e
      by_decision (Some fate.Aborted) was e = absurd (cc (e))

      by_primary : (b : Bool) → commit_if s b ≡ Some due → Is phase.Commit due
      by_primary false e = absurd (cc (e))
      by_primary true e = by_decision s.decision refl e

  -- ---- aborts

  may_roll_back : (n : ℕ) → s.decision ≡ Some fate.Aborted → Allowed h (rollback_of s n).body
  may_roll_back n e =
      let r = decided_some fate.Aborted e in
      record {
        of = declaration_of s.start s.placed s.buffer r.0;
        stands = r.2;
        may = inl (known_decided fate.Aborted e);
      }

  may_roll_back_first : (terms : Terms) → s.declared ≡ Some terms → terms.mode ≡ TwoPhase → 0 < length s.buffer
      → Allowed h (rollback_of s 0).body
  may_roll_back_first terms was mode some =
      record {
        of = declaration_of s.start s.placed s.buffer terms;
        stands = declared_so terms was some;
        may = inr (mode, first_there s.buffer some);
      }

  may_check : (terms : Terms) (n : ℕ) → s.declared ≡ Some terms → terms.mode ≡ Async → n < length s.buffer
      → Allowed h (check_of s n).body
  may_check terms n was mode lt =
      let there = mutation_there s.buffer n lt is.distinct in
      record {
        of = declaration_of s.start s.placed s.buffer terms;
        stands = declared_so terms was (omega (arith, lt));
        async = mode;
        within = λ none. cc (there, none);
      }

  -- the request of an abort that is due is allowed
  abort_allowed : (due : Due) → due_abort s ≡ Some due → Is phase.Abort due
  abort_allowed due e = by_decision s.decision refl e
    where
      roll : (n : ℕ) → Allowed h (rollback_of s n).body → rollback_of s n ≡ due → Is phase.Abort due
      roll n may same = (subst (λ (d : Due). Allowed h d.body) same may, inl (n, sym same))

      check : (n : ℕ) → Allowed h (check_of s n).body → check_of s n ≡ due → Is phase.Abort due
      check n may same = (subst (λ (d : Due). Allowed h d.body) same may, inr (n, sym same))

      by_check : (terms : Terms) (index : Option ℕ) → s.declared ≡ Some terms
          → terms.mode ≡ Async → first_index phase.Prewrite s.buffer ≡ index → check_at s index ≡ Some due
          → Is phase.Abort due
      by_check terms None was mode at e = absurd (cc (e))
      by_check terms (Some n) was mode at e =
          check n (may_check terms n was mode (first_within phase.Prewrite s.buffer n at))
          (some_same (check_of s n) due e)

      by_mode : (terms : Terms) (m : Mode)
          → s.declared ≡ Some terms → terms.mode ≡ m → 0 < length s.buffer → abort_of s m ≡ Some due
          → Is phase.Abort due
      by_mode terms TwoPhase was mode some e =
          roll 0 (may_roll_back_first terms was mode some) (some_same (rollback_of s 0) due e)
      by_mode terms Async was mode some e = by_check terms (first_index phase.Prewrite s.buffer) was mode refl e

      by_terms : (o : Option Terms) (b : Bool) → s.declared ≡ o → not_empty s.buffer ≡ b → abort_open s o b ≡ Some due
          → Is phase.Abort due
      by_terms None b was some e = absurd (cc (e))
      by_terms (Some terms) false was some e = absurd (cc (e))
      by_terms (Some terms) true was some e = by_mode terms terms.mode was refl (some_entries s.buffer some) e

      by_place : (index : Option ℕ) → s.decision ≡ Some fate.Aborted → rollback_at s index ≡ Some due
          → Is phase.Abort due
      by_place None was e = absurd (cc (e))
      by_place (Some n) was e = roll n (may_roll_back n was) (some_same (rollback_of s n) due e)

      by_decision : (o : Option Fate) → s.decision ≡ o → abort_by s o ≡ Some due → Is phase.Abort due
      by_decision None was e = by_terms s.declared (not_empty s.buffer) refl refl e
      by_decision (Some (fate.Committed c)) was e = absurd (cc (e))
      by_decision (Some fate.Aborted) was e = by_place (first_index phase.Abort s.buffer) was e

  -- ---- by phase

  -- the request of a phase that is due is allowed, and is for its phase
  pub next_allowed : (x : Phase) (due : Due) → next_of s x ≡ Some due → Is x due
  next_allowed phase.Prewrite due e = prewrite_allowed due e
  next_allowed phase.Commit due e = commit_allowed due e
  next_allowed phase.Abort due e = abort_allowed due e

  -- ---- heartbeats

  -- a heartbeat is allowed to a session with a primary
  pub heartbeat_allowed : has_primary s ≡ true → (ttl : ℕ) → Allowed h (heartbeat_of s ttl)
  heartbeat_allowed has ttl = go s.declared refl has
    where
      go : (o : Option Terms) → s.declared ≡ o → (is_some o && not_empty s.buffer) ≡ true → declared h s.start ≢ None
      go None was e = absurd (cc (e))
      go (Some terms) was e =
          let stands = declared_so terms was (some_entries s.buffer e) in
          λ none. cc (stands, none)
