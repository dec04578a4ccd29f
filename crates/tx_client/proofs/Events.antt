-- A session's own events may come, and keep what holds of its state: its begin, its puts, its
-- declaration, its draw, and its end.
use Rattle.std.proofs.Common.{◌≡◌, ◌≢◌, ℕ, ◌+◌, ◌++◌, ◌==◌, nat_eq, ◌&&◌, ◌||◌, inl, inr, zero, suc, not, Bool, true, false, cond, List, [], ◌∷◌, Option, Some, None, option_map, is_some as some_test, bytes_eq, refl, sym, ap, subst, ◌∙◌, arith}
use Rattle.std.specs.List.{list_any}
use Rattle.std.proofs.lemmas.Bool.{and_parts}
use Rattle.std.proofs.lemmas.List.Elements.{Contains-push_cases}
use Rattle.tx_types.specs.declared.key.Key.{Key}
use Rattle.tx_types.specs.declared.value.Value.{Value}
use Rattle.tx_types.specs.declared.mutation.Mutation.{Mutation}
use Rattle.tx_types.specs.declared.mutation.Mutation.TheVariants as mutation
use Rattle.tx_types.specs.declared.mutation.Fate.{Fate}
use Rattle.tx_machine.specs.Keys.{mutation_at, IsDistinct}
use Rattle.tx_core.specs.declared.event.Declaration.{Declaration}
use Rattle.tx_core.specs.declared.event.Outcome.{Outcome}
use Rattle.tx_core.specs.declared.event.Outcome.TheVariants as outcome
use Rattle.tx_core.specs.declared.event.UnknownCause.{UnknownCause}
use Rattle.tx_core.specs.declared.event.Event.TheVariants.{Drawn, Began, Declared, Answered}
use Rattle.tx_core.specs.Histories.{History, drawer, began, declared, answered, DrewSince, set_of, Begins}
use Rattle.tx_core.specs.Decisions.{accepted, HasTwoPhaseLock}
use Rattle.tx_core.specs.Allowed.{MayPass}
use Rattle.tx_core.specs.Worlds.{MayAnswer, IsWorldRun}
use Rattle.tx_core.specs.Recording.{MayRecord, Extends}
use Rattle.tx_core.proofs.Basics.{nat_same, key_test, is_some}
use Rattle.tx_core.proofs.seats.Beginnings.{begins_all, extends_begins}
use Rattle.tx_core.proofs.seats.Stays.{drawer_on, drawer_new, began_new, began_drawn}
use Rattle.tx_core.proofs.seats.Recording.{unbegun_on, may_declare, may_answer}
use Rattle.tx_core.proofs.runs.Consequences.{undeclared, unanswered, accepted_upto}
use Rattle.tx_journal.specs.Known.{HasRecorded, HasDrawn}
use Rattle.tx_transaction.specs.declared.state.Terms.{Terms}
use Rattle.tx_transaction.specs.declared.state.Phase.TheVariants as phase
use Rattle.tx_transaction.specs.Buffers.{Entries, fresh, buffered, touched, insert_over, inserted, locked, not_empty, changes_of, index_from, first_index, is_zero, has_two_phase_lock}
use Rattle.tx_transaction.specs.Sessions.{SessionState, begun, is_declared, has_primary, declaration_of, declaration, is_open, can_draw, with_passed, outcome_of, unknown_by, undecided, finish_by, finish_of}
use Rattle.tx_client.specs.Facts.{standing, Mark, Marks, IsReady, IsSession}
use Rattle.tx_transaction.proofs.Entries.{distinct_touched}
use Rattle.tx_client.proofs.Kept.{marks_on, ready_on, read_on, settled_on, met_on, others_act}

-- ---- it begins

begun_ok : (bounds : List Key) (h : History) (i t : ℕ) → IsWorldRun bounds h → drawer h t ≡ Some i → began h t ≡ false
    → IsSession (Began t ∷ h) i (begun t)
begun_ok bounds h i t run by new =
    record {
      drew_start = by;
      begun = began_new t h;
      unanswered = unanswered bounds h run t new;
      stands = undeclared bounds h run t new;
      distinct = tt;
      marks = tt;
      passes = λ u named. absurd (omega (arith, named.1));
      met = λ info e. absurd (cc (e));
      ready = λ c e. absurd (cc (e));
      settled = λ end e. absurd (cc (e));
    }

-- a seat that drew a start and recorded that it began there
pub began_ok : (bounds : List Key) (i t : ℕ) (old mid new : History) → HasDrawn bounds i old 1 t mid
    → HasRecorded bounds i mid (Began t) new → IsSession new i (begun t)
began_ok bounds i t old mid new drew r =
    let first : IsWorldRun bounds (Drawn i t ∷ drew.before) = subst (IsWorldRun bounds) drew.is drew.run in
    let goes : Extends i (Drawn i t ∷ drew.before) r.before = subst (λ x. Extends i x r.before) drew.is r.extends in
    let run : IsWorldRun bounds (Began t ∷ r.before) = subst (IsWorldRun bounds) r.is r.run in
    let by : drawer (Drawn i t ∷ drew.before) t ≡ Some i = drawer_new i t drew.before in
    subst (λ x. IsSession x i (begun t)) (sym r.is)
    (begun_ok bounds r.before i t run.0 (drawer_on bounds (Drawn i t ∷ drew.before) r.before run.0
    (extends_begins i (Drawn i t ∷ drew.before) r.before goes) t i by)
    (unbegun_on bounds i t (Drawn i t ∷ drew.before) r.before run.0 goes by (began_drawn bounds i t drew.before first)))

-- ---- a key is put into its buffer

undeclared_yet : (o : Option Terms) → some_test o ≡ false → o ≡ None
undeclared_yet None e = refl
undeclared_yet (Some terms) e = absurd (cc (e))

marks_touched : (h : History) (t : ℕ) (es : Entries) (k : Key) (m : Mutation) → Marks h t es
    → Marks h t (touched es k m)
marks_touched h t [] k m w = (tt, tt)
marks_touched h t (e ∷ es) k m w = go (bytes_eq k e.0) (marks_touched h t es k m w.1)
  where
    go : (b : Bool) → Marks h t (touched es k m) → Marks h t (cond b ((e.0, fresh m) ∷ es) (e ∷ touched es k m))
    go true rest = (tt, w.1)
    go false rest = (w.0, rest)

module _ (h : History) (i : ℕ) (s : SessionState) (is : IsSession h i s) where
  -- another buffer of distinct keys
  rebuffered : (es : Entries) → is_declared s ≡ false → IsDistinct (changes_of es) → Marks h s.start es
      → IsSession h i (record s { buffer = es })
  rebuffered es not_yet distinct marks =
      let none = undeclared_yet s.declared not_yet in
      record {
        drew_start = is.drew_start;
        begun = is.begun;
        unanswered = is.unanswered;
        stands = is.stands ∙ ap (standing s.start s.placed s.buffer) none
            ∙ sym (ap (standing s.start s.placed es) none);
        distinct = distinct;
        marks = marks;
        passes = is.passes;
        met = is.met;
        ready = is.ready;
        settled = is.settled;
      }

  pub touched_ok : (k : Key) (m : Mutation) → is_declared s ≡ false
      → IsSession h i (record s { buffer = touched s.buffer k m })
  touched_ok k m not_yet = rebuffered (touched s.buffer k m) not_yet (distinct_touched s.buffer k m is.distinct)
      (marks_touched h s.start s.buffer k m is.marks)

  -- an insert touches the key
  pub inserted_ok : (k : Key) (v : Value) (es : Entries) → inserted s.buffer k v ≡ Some es → is_declared s ≡ false
      → IsSession h i (record s { buffer = es })
  inserted_ok k v es is_so not_yet = go (insert_over (buffered s.buffer k) v) is_so
    where
      go : (m : Option Mutation) → option_map (touched s.buffer k) m ≡ Some es
          → IsSession h i (record s { buffer = es })
      go None e = absurd (cc (e))
      go (Some m) e = (let same : touched s.buffer k m
          ≡ es = cc (e) in subst (λ x. IsSession h i (record s { buffer = x })) same (touched_ok k m not_yet))

  pub locked_ok : (k : Key) → is_declared s ≡ false → IsSession h i (record s { buffer = locked s.buffer k })
  locked_ok k not_yet = go (some_test (buffered s.buffer k))
    where
      go : (b : Bool) → IsSession h i (record s { buffer = cond b s.buffer (touched s.buffer k mutation.Lock) })
      go true = is
      go false = touched_ok k mutation.Lock not_yet

  -- it may pass by one more transaction
  pub passed_ok : (t : ℕ) (b : Bool) → (b ≡ true → MayPass h s.start t) → IsSession h i (with_passed s t b)
  passed_ok t false may = is
  passed_ok t true may = go (list_any (λ start. nat_eq start t) s.bypass)
    where
      go : (b : Bool) → IsSession h i (record s { bypass = cond b s.bypass (s.bypass ++ t ∷ []) })
      go true = is
      go false =
          record {
            drew_start = is.drew_start;
            begun = is.begun;
            unanswered = is.unanswered;
            stands = is.stands;
            distinct = is.distinct;
            marks = is.marks;
            passes = λ u named. elim (Contains-push_cases s.bypass t u named) [
              | inl old ↦ is.passes u old
              | inr new ↦
                  subst (MayPass h s.start) new (may refl)
            ];
            met = is.met;
            ready = is.ready;
            settled = is.settled;
          }

-- ---- it declares

-- an empty buffer is no event
pub declared_none : (h : History) (i : ℕ) (s : SessionState) (p : ℕ) (terms : Terms) → IsSession h i s → is_declared s
    ≡ false → declaration s.start p s.buffer terms ≡ None
    → IsSession h i (record s { declared = Some terms; placed = p })
declared_none h i s p terms is not_yet empty =
    record {
      drew_start = is.drew_start;
      begun = is.begun;
      unanswered = is.unanswered;
      stands = is.stands ∙ ap (standing s.start s.placed s.buffer) (undeclared_yet s.declared not_yet) ∙ sym empty;
      distinct = is.distinct;
      marks = is.marks;
      passes = is.passes;
      met = is.met;
      ready = is.ready;
      settled = is.settled;
    }

-- what a buffer declares is of this start and is its write set, which is not empty,
-- with this number
declaration_is : (t p : ℕ) (es : Entries) (terms : Terms) (d : Declaration) → declaration t p es terms ≡ Some d
    → (d.start ≡ t) × (d.changes ≡ changes_of es) × (d.changes ≢ []) × (d.drawn ≡ p)
declaration_is t p [] terms d e = absurd (cc (e))
declaration_is t p (x ∷ es) terms d e =
    let same : declaration_of t p (x ∷ es) terms ≡ d = cc (e) in (
      sym (ap (λ (z : Declaration). z.start) same),
      sym (ap (λ (z : Declaration). z.changes) same),
      λ none. (let empty : changes_of (x ∷ es) ≡ [] = ap (λ (z : Declaration). z.changes) same ∙ none in cc (empty)),
      sym (ap (λ (z : Declaration). z.drawn) same),
    )

pub drawn_is : (t p : ℕ) (es : Entries) (terms : Terms) (d : Declaration) → declaration t p es terms ≡ Some d
    → d.drawn ≡ p
drawn_is t p es terms d e = (declaration_is t p es terms d e).3

-- its seat drew a number
drew_number : (bounds : List Key) (h : History) (i : ℕ) (s : SessionState) (p : ℕ) → IsWorldRun bounds (Drawn i p ∷ h)
    → IsSession h i s → IsSession (Drawn i p ∷ h) i s
drew_number bounds h i s p run is =
    let later : Begins h (Drawn i p ∷ h) = inr (begins_all h) in
    record {
      drew_start = drawer_on bounds h (Drawn i p ∷ h) run later s.start i is.drew_start;
      begun = is.begun;
      unanswered = is.unanswered;
      stands = is.stands;
      distinct = is.distinct;
      marks = marks_on bounds h (Drawn i p ∷ h) run later s.start s.buffer is.marks;
      passes = read_on bounds h (Drawn i p ∷ h) run later s.start s.bypass is.passes;
      met = λ info q. met_on bounds h (Drawn i p ∷ h) run later info (is.met info q);
      ready = λ c e. ready_on bounds h (Drawn i p ∷ h) run later s.start c (is.ready c e);
      settled = λ end e. settled_on bounds h (Drawn i p ∷ h) run later s.start end (is.settled end e);
    }

-- then it drew it since it began
placed_ok : (bounds : List Key) (i : ℕ) (s : SessionState) (p : ℕ) (old new : History) → IsSession old i s
    → HasDrawn bounds i old 1 p new → IsSession new i s × DrewSince new s.start p
placed_ok bounds i s p old new is d =
    let run : IsWorldRun bounds (Drawn i p ∷ d.before) = subst (IsWorldRun bounds) d.is d.run in
    let before : IsSession d.before i s = others_act bounds old d.before run.0 i s d.extends is in (
      subst (λ x. IsSession x i s) (sym d.is) (drew_number bounds d.before i s p run before),
      subst
          (λ x. DrewSince x s.start p) (sym d.is) (inl (refl, before.begun, before.drew_start)),
    )

pub may_declare_buffer : (bounds : List Key) (old mid : History) (i : ℕ) (s : SessionState) (p : ℕ) (terms : Terms)
    (d : Declaration) → IsSession old i s → is_declared s ≡ false → HasDrawn bounds i old 1 p mid
    → declaration s.start p s.buffer terms ≡ Some d → MayRecord bounds i mid (Declared d)
may_declare_buffer bounds old mid i s p terms d was not_yet drew e =
    let r = declaration_is s.start p s.buffer terms d e in
    let now = placed_ok bounds i s p old mid was drew in
    let is : IsSession mid i s = now.0 in
    let since : DrewSince mid d.start d.drawn = subst (λ t. DrewSince mid t d.drawn) (sym r.0)
    (subst (DrewSince mid s.start) (sym r.3) now.1) in
    may_declare bounds i mid d (ap (drawer mid) r.0 ∙ is.drew_start) (ap (began mid) r.0
    ∙ is.begun) (ap (answered mid) r.0 ∙ is.unanswered) (ap (declared mid) r.0 ∙ is.stands
    ∙ ap (standing s.start s.placed s.buffer) (undeclared_yet s.declared not_yet)) r.2
    (subst IsDistinct (sym r.1) is.distinct) since

declared_next : (bounds : List Key) (h : History) (i : ℕ) (s : SessionState) (p : ℕ) (terms : Terms) (d : Declaration)
    → IsWorldRun bounds (Declared d ∷ h) → IsSession h i s → declaration s.start p s.buffer terms ≡ Some d
    → IsSession (Declared d ∷ h) i (record s { declared = Some terms; placed = p })
declared_next bounds h i s p terms d run is e =
    let r = declaration_is s.start p s.buffer terms d e in
    let later : Begins h (Declared d ∷ h) = inr (begins_all h) in
    record {
      drew_start = is.drew_start;
      begun = is.begun;
      unanswered = is.unanswered;
      stands = ap (λ t. cond (t == s.start) (Some d) (declared h s.start)) r.0 ∙ rw (nat_same s.start) (sym e);
      distinct = is.distinct;
      marks = marks_on bounds h (Declared d ∷ h) run later s.start s.buffer is.marks;
      passes = read_on bounds h (Declared d ∷ h) run later s.start s.bypass is.passes;
      met = λ info q. met_on bounds h (Declared d ∷ h) run later info (is.met info q);
      ready = λ c q. ready_on bounds h (Declared d ∷ h) run later s.start c (is.ready c q);
      settled = λ end q. settled_on bounds h (Declared d ∷ h) run later s.start end (is.settled end q);
    }

-- its seat drew a number, and recorded what it declared with it
pub declared_ok : (bounds : List Key) (i : ℕ) (s : SessionState) (p : ℕ) (terms : Terms) (d : Declaration)
    (old mid new : History) → IsSession old i s → HasDrawn bounds i old 1 p mid → declaration s.start p s.buffer terms
    ≡ Some d → HasRecorded bounds i mid (Declared d) new
    → IsSession new i (record s { declared = Some terms; placed = p })
declared_ok bounds i s p terms d old mid new was drew e r =
    let run : IsWorldRun bounds (Declared d ∷ r.before) = subst (IsWorldRun bounds) r.is r.run in
    let is : IsSession mid i s = (placed_ok bounds i s p old mid was drew).0 in
    subst (λ x. IsSession x i (record s { declared = Some terms; placed = p })) (sym r.is)
    (declared_next bounds r.before i s p terms d run (others_act bounds mid r.before run.0 i s r.extends is) e)

-- ---- it draws a commit timestamp

none_there : (o : Option ℕ) → not (some_test o) ≡ true → o ≡ None
none_there None e = refl
none_there (Some i) e = absurd (cc (e))

-- a key that is marked is accepted
mark_accepted : (h : History) (t : ℕ) (k : Key) (o : Option ℕ) → not (some_test o) ≡ false → Mark h t k o
    → accepted h t k ≢ None
mark_accepted h t k None not_so m = absurd (cc (not_so))
mark_accepted h t k (Some zero) not_so m = m.accepted
mark_accepted h t k (Some (suc n)) not_so m = subst (λ (p : ℕ × Key). accepted h p.0 p.1
    ≢ None) (λ j. (m.own j, m.key j)) (is_some (accepted h m.info.start m.info.key) m.is.by m.is.accepted)

-- where each entry is marked accepted, each key of the write set is
all_marked : (n : ℕ) (h : History) (t : ℕ) (es : Entries) → Marks h t es → index_from n phase.Prewrite es ≡ None
    → (k : Key) → mutation_at (changes_of es) k ≢ None → accepted h t k ≢ None
all_marked n h t [] m none k some = absurd (some refl)
all_marked n h t (e ∷ es) m none k some = go (not (some_test e.1.progress.accepted)) refl
    (all_marked (n + 1) h t es m.1)
  where
    go : (b : Bool) → not (some_test e.1.progress.accepted) ≡ b
        → (index_from (n + 1) phase.Prewrite es ≡ None → (k : Key) → mutation_at (changes_of es) k ≢ None
        → accepted h t k ≢ None) → accepted h t k ≢ None
    go true is rest = (let now : Some n ≡ None = rw is at none in absurd (cc (now)))
    go false is rest =
        let old : index_from (n + 1) phase.Prewrite es ≡ None = rw is at none in
        elim (key_test e.0 k) [
          | inl y ↦ subst (λ q. accepted h t q ≢ None) y.1 (mark_accepted h t e.0 e.1.progress.accepted is m.0)
          | inr y ↦ (let more : mutation_at (changes_of es) k ≢ None = rw y.0 at some in rest old k more)
        ]

-- some key has a two-phase lock
two_phase_marked : (h : History) (t : ℕ) (es : Entries) → Marks h t es → has_two_phase_lock es ≡ true
    → HasTwoPhaseLock h t
two_phase_marked h t [] m e = absurd (cc (e))
two_phase_marked h t (x ∷ es) m e = go x.1.progress.accepted m.0 (two_phase_marked h t es m.1) e
  where
    go : (o : Option ℕ) → Mark h t x.0 o → (has_two_phase_lock es ≡ true → HasTwoPhaseLock h t)
        → (is_zero o || has_two_phase_lock es) ≡ true → HasTwoPhaseLock h t
    go None mark rest e = rest e
    go (Some zero) mark rest e = mark.two_phase
    go (Some (suc n)) mark rest e = rest e

-- what a session with a primary declared
primary_stands : (t placed : ℕ) (es : Entries) (o : Option Terms) → (some_test o && not_empty es) ≡ true
    → (terms : Terms) × (standing t placed es o ≡ Some (declaration_of t placed es terms))
primary_stands t placed es None e = absurd (cc (e))
primary_stands t placed [] (Some terms) e = absurd (cc (e))
primary_stands t placed (x ∷ es) (Some terms) e = (terms, refl)

module _ (bounds : List Key) (h : History) (i : ℕ) (s : SessionState) (is : IsSession h i s) (can : can_draw s
    ≡ true) (c : ℕ) (run : IsWorldRun bounds (Drawn i c ∷ h)) where
  abbrev accepted_all : Bool
  accepted_all = not (some_test (first_index phase.Prewrite s.buffer))

  rest : (has_primary s && (accepted_all && has_two_phase_lock s.buffer)) ≡ true
  rest = (and_parts (is_open s.decision s.drawn) (has_primary s && (accepted_all && has_two_phase_lock s.buffer)) can).1

  all_two_phase : (accepted_all ≡ true) × (has_two_phase_lock s.buffer ≡ true)
  all_two_phase = and_parts accepted_all (has_two_phase_lock s.buffer)
      (and_parts (has_primary s) (accepted_all && has_two_phase_lock s.buffer) rest).1

  stands_so : (terms : Terms) × (declared h s.start ≡ Some (declaration_of s.start s.placed s.buffer terms))
  stands_so = (let r = primary_stands s.start s.placed s.buffer s.declared
      (and_parts (has_primary s) (accepted_all && has_two_phase_lock s.buffer) rest).0 in (r.0, is.stands ∙ r.1))

  accepted_by_mark : (k : Key) → mutation_at (changes_of s.buffer) k ≢ None → accepted h s.start k ≢ None
  accepted_by_mark = all_marked 0 h s.start s.buffer is.marks
      (none_there (first_index phase.Prewrite s.buffer) all_two_phase.0)

  -- it drew after each key was accepted
  ready_now : IsReady (Drawn i c ∷ h) s.start c
  ready_now =
      let two = two_phase_marked h s.start s.buffer is.marks all_two_phase.1 in
      record {
        stands = is_some (declared h s.start) (declaration_of s.start s.placed s.buffer stands_so.0) stands_so.1;
        all = λ k within. accepted_by_mark k (subst (λ o. mutation_at (set_of o) k ≢ None) stands_so.1 within);
        two_phase = record { key = two.key; by = two.by; stands = two.stands; two_phase = two.two_phase };
        drew = record {
          seat = i;
          of_start = drawer_on bounds h (Drawn i c ∷ h) run (inr (begins_all h)) s.start i is.drew_start;
          of_commit = drawer_new i c h;
          after = λ k by within e. omega (arith, run.1, accepted_upto bounds h run.0 s.start k by e);
        };
      }

  drawn_next : IsSession (Drawn i c ∷ h) i (record s { drawn = Some c })
  drawn_next =
      let later : Begins h (Drawn i c ∷ h) = inr (begins_all h) in
      record {
        drew_start = drawer_on bounds h (Drawn i c ∷ h) run later s.start i is.drew_start;
        begun = is.begun;
        unanswered = is.unanswered;
        stands = is.stands;
        distinct = is.distinct;
        marks = marks_on bounds h (Drawn i c ∷ h) run later s.start s.buffer is.marks;
        passes = read_on bounds h (Drawn i c ∷ h) run later s.start s.bypass is.passes;
        met = λ info q. met_on bounds h (Drawn i c ∷ h) run later info (is.met info q);
        ready = λ n e. (let same : c ≡ n = cc (e) in subst (IsReady (Drawn i c ∷ h) s.start) same ready_now);
        settled = λ end e. settled_on bounds h (Drawn i c ∷ h) run later s.start end (is.settled end e);
      }

-- its seat drew
pub drew_ok : (bounds : List Key) (i : ℕ) (s : SessionState) (c : ℕ) (old new : History) → IsSession old i s
    → can_draw s ≡ true → HasDrawn bounds i old 1 c new → IsSession new i (record s { drawn = Some c })
drew_ok bounds i s c old new is can d =
    let run : IsWorldRun bounds (Drawn i c ∷ d.before) = subst (IsWorldRun bounds) d.is d.run in
    subst (λ x. IsSession x i (record s { drawn = Some c })) (sym d.is)
    (drawn_next bounds d.before i s (others_act bounds old d.before run.0 i s d.extends is) can c run)

-- ---- it ends

-- without a primary nothing stands declared
none_stands : (start placed : ℕ) (es : Entries) (o : Option Terms) → some_test o && not_empty es ≡ false
    → standing start placed es o ≡ None
none_stands start placed es None none = refl
none_stands start placed [] (Some terms) none = refl
none_stands start placed (e ∷ es) (Some terms) none = absurd (cc (none))

-- an outcome that it gives it may answer
module _ (h : History) (i : ℕ) (s : SessionState) (is : IsSession h i s) where
  unknown : (b : Bool) → has_primary s ≡ b → (o : Outcome) → undecided s b ≡ Some o → MayAnswer h s.start o
  unknown false none o e = (let same : outcome.ReadOnly ≡ o = cc (e) in
      subst (MayAnswer h s.start) same (is.stands ∙ none_stands s.start s.placed s.buffer s.declared none))
  unknown true some o e = by_cause s.cause e
    where
      by_cause : (c : Option UnknownCause) → unknown_by c ≡ Some o → MayAnswer h s.start o
      by_cause None e = absurd (cc (e))
      by_cause (Some c) e = (let same : outcome.Unknown c ≡ o = cc (e) in subst (MayAnswer h s.start) same tt)

  outcome_may : (o : Outcome) → finish_of s ≡ Some o → MayAnswer h s.start o
  outcome_may o e = go s.decision refl e
    where
      go : (d : Option Fate) → s.decision ≡ d → finish_by s d ≡ Some o → MayAnswer h s.start o
      go None was e = unknown (has_primary s) refl o e
      go (Some end) was e = (let same : outcome_of end
          ≡ o = cc (e) in subst (MayAnswer h s.start) same (is.settled end was))

  pub may_finish : (bounds : List Key) (o : Outcome) → finish_of s ≡ Some o → MayRecord bounds i h (Answered s.start o)
  may_finish bounds o e = may_answer bounds i h s.start o is.drew_start is.begun is.unanswered (outcome_may o e)
