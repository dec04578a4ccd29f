-- The transaction of a transfer that was committed or aborted declared changes of just its keys.
use Rattle.std.proofs.Common.{◌≡◌, ◌≢◌, ◌⊎◌, inl, inr, ℕ, Bool, true, false, List, [], ◌∷◌, map, Option, Some, None, Result, Ok, Err, refl, sym, ap, subst, ◌∙◌}
use Rattle.std.specs.Prelude.{bytes_eq, decimal}
use Rattle.tx_types.specs.declared.key.Key.{Key}
use Rattle.tx_types.specs.declared.fault.Fault.{Fault}
use Rattle.tx_types.specs.declared.lock.LockInfo.{LockInfo}
use Rattle.tx_types.specs.declared.mutation.Change.{Change}
use Rattle.tx_types.specs.declared.mutation.Fate.TheVariants as fate
use Rattle.tx_types.specs.declared.mutation.Mutation.{Mutation}
use Rattle.tx_types.specs.declared.value.Value.{Value}
use Rattle.tx_plan.proofs.KeyOrder.{key_same, other_key}
use Rattle.tx_core.specs.declared.event.Declaration.{Declaration}
use Rattle.tx_core.specs.declared.event.Event.TheVariants.{Answered, Began, Declared, Drawn}
use Rattle.tx_core.specs.declared.event.Outcome.{Outcome}
use Rattle.tx_core.specs.declared.event.Outcome.TheVariants as outcome
use Rattle.tx_core.specs.Histories.{History, Begins, began, declared, drawer}
use Rattle.tx_core.specs.Recording.{Extends}
use Rattle.tx_core.specs.Worlds.{IsWorldRun, MayAnswer}
use Rattle.tx_core.proofs.Basics.{nat_same}
use Rattle.tx_core.proofs.runs.AllRuns.{run_told}
use Rattle.tx_core.proofs.runs.Consequences.{decided_declared, told_fate, undeclared}
use Rattle.tx_core.proofs.seats.Beginnings.{extends_all, extends_begins, extends_more}
use Rattle.tx_core.proofs.seats.Recording.{undeclared_on}
use Rattle.tx_core.proofs.seats.Stays.{declared_on, drawer_on}
use Rattle.tx_journal.specs.Known.{Known}
use Rattle.tx_transaction.specs.declared.state.BufferEntry.{BufferEntry}
use Rattle.tx_transaction.specs.declared.state.Terms.{Terms}
use Rattle.tx_transaction.specs.Buffers.{Entries, buffered, changes_of, keys_of, put_over, touched}
use Rattle.tx_transaction.specs.Sessions.{SessionState, begun, can_draw, declaration, declaration_of}
use Rattle.tx_client.specs.declared.resolved.Status.{Status}
use Rattle.tx_client.specs.Statuses.{lies_above}
use Rattle.tx_client.specs.Calls.{HasHeard, RecordsDeclared, Records, Seated}
use Rattle.tx_client.specs.Walks.{ends, due_walk, get_walk}
use Rattle.tx_client.proofs.WriteSets.{keeps_due, keeps_get}
use Rattle.tx_steps.specs.Steps.{Text}
use Rattle.tx_steps.specs.declared.transfer.Transfer.{Transfer}
use Rattle.tx_store.specs.Stores.{Replies}
use Rattle.tx_transfer.specs.Resolutions.{ResolvesMet}
use Rattle.tx_transfer.specs.Steps.{Begun, Came, DeclaresOr, DrawsOr, DrewIf, Enters}
use Rattle.tx_transfer.specs.TransferSteps.{PutsBoth, ResolvesOr, terms_of}
use Rattle.tx_transfer.specs.Transfers.{DeclaresJust, IsBetween}
use Rattle.tx_run.specs.Transfers.{HearsMore}
use Rattle.tx_run_laws.proofs.Seats.{declared_follows, draws_follows}
use Rattle.tx_run_laws.proofs.SeedReplies.{due_start}
use Rattle.tx_run_laws.proofs.TransferRequests.{IsKept}
use Rattle.tx_run_laws.proofs.SeatHistories.{Hears, by_start, heard_hears, passed_keeps, walk_hears}

module _ (bounds : List Key) where
  -- ---- what a transfer's session declared

  module _ (what : Transfer Text) (apart : what.from ≢ what.to) where
    -- it has none of its keys, the first, or both
    abbrev pub HasSome : Entries → Type 0
    HasSome es = (keys_of es ≡ what.from ∷ what.to ∷ [])
        ⊎ ((keys_of es ≡ []) ⊎ (keys_of es ≡ what.from ∷ []))

    -- its transaction declared nothing yet, or just its two keys
    abbrev pub DeclaredSo : History → ℕ → Entries → Type 0
    DeclaredSo h start es = ((declared h start ≡ None) × HasSome es) ⊎ DeclaresJust h start what.from what.to

    pub record IsSo (s : Seated) : Type 0 where
      pub run : IsWorldRun bounds s.seat.events
      pub drew : drawer s.seat.events s.state.start ≡ Some s.seat.seat
      pub so : DeclaredSo s.seat.events s.state.start s.state.buffer

    abbrev pub StaysSo : Seated → Seated → Type 0
    StaysSo s t = IsSo s → IsSo t

    -- more was seen, with no event of this seat
    so_on : (l h : History) (seat start : ℕ) (es fs : Entries) → IsWorldRun bounds h → Extends seat l h
        → drawer l start ≡ Some seat → keys_of fs ≡ keys_of es → DeclaredSo l start es → DeclaredSo h start fs
    so_on l h seat start es fs run goes drew same (inl (none, inl both)) =
        inl (undeclared_on bounds seat start l h run goes drew none, inl (same ∙ both))
    so_on l h seat start es fs run goes drew same (inl (none, inr (inl empty))) =
        inl (undeclared_on bounds seat start l h run goes drew none, inr (inl (same ∙ empty)))
    so_on l h seat start es fs run goes drew same (inl (none, inr (inr first))) =
        inl (undeclared_on bounds seat start l h run goes drew none, inr (inr (same ∙ first)))
    so_on l h seat start es fs run goes drew same (inr (d, is, keys)) =
        inr (d, declared_on bounds l h run (extends_begins seat l h goes) start d is, keys)

    hears_so : (s t : Seated) → Hears bounds s.seat t.seat → t.state.start ≡ s.state.start
        → keys_of t.state.buffer ≡ keys_of s.state.buffer → StaysSo s t
    hears_so s t hears start keys is =
        let run = hears.run is.run in
        let begins = extends_begins s.seat.seat s.seat.events t.seat.events hears.extends in
        record {
          run = run;
          drew = ap (drawer t.seat.events) start
              ∙ drawer_on bounds s.seat.events t.seat.events run begins s.state.start s.seat.seat is.drew
              ∙ ap Some (sym hears.number);
          so = subst (λ (n : ℕ). DeclaredSo t.seat.events n t.state.buffer) (sym start)
              (so_on s.seat.events t.seat.events s.seat.seat s.state.start s.state.buffer t.state.buffer run
              hears.extends is.drew keys is.so);
        }

    same_so : (s t : Seated) → t ≡ s → StaysSo s t
    same_so s t same is = subst IsSo (sym same) is

    -- ---- what enters its buffer

    put_same : (k : Key) (m : Mutation) (e : Key × BufferEntry) (es : Entries) → bytes_eq k e.0 ≡ true
        → keys_of (touched (e ∷ es) k m) ≡ keys_of (e ∷ es)
    put_same k m e es same = rw same refl

    put_other : (k : Key) (m : Mutation) (e : Key × BufferEntry) (es : Entries) → bytes_eq k e.0 ≡ false
        → keys_of (touched (e ∷ es) k m) ≡ e.0 ∷ keys_of (touched es k m)
    put_other k m e es other = rw other refl

    test_same : (j k : Key) → j ≡ k → bytes_eq k j ≡ true
    test_same j k is = subst (λ (l : Key). bytes_eq l j ≡ true) is (key_same j)

    other_test : (k : Key) → k ≡ what.from → bytes_eq what.to k ≡ false
    other_test k is = other_key what.to k (λ same. apart (sym is ∙ sym same))

    abbrev HasFirst : Entries → Type 0
    HasFirst es = (keys_of es ≡ what.from ∷ what.to ∷ []) ⊎ (keys_of es ≡ what.from ∷ [])

    first_in : (m : Mutation) (es : Entries) → HasSome es → HasFirst (touched es what.from m)
    first_in m [] is = inr refl
    first_in m (e ∷ es) (inl both) =
        (let is : e.0 ≡ what.from = cc in
        inl (put_same what.from m e es (test_same e.0 what.from is) ∙ both))
    first_in m (e ∷ es) (inr (inl none)) = absurd (cc (none))
    first_in m (e ∷ es) (inr (inr one)) =
        (let is : e.0 ≡ what.from = cc in
        inr (put_same what.from m e es (test_same e.0 what.from is) ∙ one))

    second_in : (m : Mutation) (es : Entries) → HasFirst es
        → keys_of (touched es what.to m) ≡ what.from ∷ what.to ∷ []
    second_in m [] (inl both) = absurd (cc (both))
    second_in m [] (inr one) = absurd (cc (one))
    second_in m (e ∷ []) (inl both) = absurd (cc (both))
    second_in m (e ∷ []) (inr one) =
        (let is : e.0 ≡ what.from = cc in put_other what.to m e [] (other_test e.0 is)
        ∙ ap (λ (k : Key). k ∷ what.to ∷ []) is)
    second_in m (e ∷ f ∷ fs) (inl both) =
        let is : e.0 ≡ what.from = cc in
        let at : f.0 ≡ what.to = cc in
        put_other what.to m e (f ∷ fs) (other_test e.0 is)
        ∙ ap (λ (l : List Key). e.0 ∷ l) (put_same what.to m f fs (test_same f.0 what.to at)) ∙ both
    second_in m (e ∷ f ∷ fs) (inr one) = absurd (cc (one))

    -- its keys, where it declared nothing yet
    abbrev With : (Entries → Type 0) → Seated → Type 0
    With P s = IsSo s × ((declared s.seat.events s.state.start ≡ None) → P s.state.buffer)

    has_some : (s : Seated) → IsSo s → With HasSome s
    has_some s is = (is, λ none. by none is.so)
      where
        by : declared s.seat.events s.state.start ≡ None → DeclaredSo s.seat.events s.state.start s.state.buffer
            → HasSome s.state.buffer
        by none (inl so) = so.1
        by none (inr (d, is, keys)) = absurd (cc (none, is))

    -- another buffer
    rebuffered : (P Q : Entries → Type 0) (s t : Seated) (es : Entries)
        → t.state ≡ record s.state { buffer = es } → t.seat ≡ s.seat → ((fs : Entries) → Q fs → HasSome fs)
        → (P s.state.buffer → Q es) → With P s → With Q t
    rebuffered P Q s t es state seat some enters (is, has) =
        let start : t.state.start ≡ s.state.start = ap (λ (x : SessionState). x.start) state in
        let buffer : t.state.buffer ≡ es = ap (λ (x : SessionState). x.buffer) state in
        let next : declared s.seat.events s.state.start ≡ None → Q t.state.buffer =
        λ none. subst Q (sym buffer) (enters (has none)) in
        let at : (P : History → ℕ → Type 0) → P s.seat.events s.state.start → P t.seat.events t.state.start =
        λ P p. subst (λ (k : Known). P k.events t.state.start) (sym seat)
        (subst (λ (n : ℕ). P s.seat.events n) (sym start) p) in (
          record {
            run = subst (λ (k : Known). IsWorldRun bounds k.events) (sym seat) is.run;
            drew = at (λ h n. drawer h n ≡ Some s.seat.seat) is.drew ∙ ap (λ (k : Known). Some k.seat) (sym seat);
            so = at (λ h n. DeclaredSo h n t.state.buffer) (by is.so next);
          },
          at (λ h n. declared h n ≡ None → Q t.state.buffer) next,
        )
      where
        by : DeclaredSo s.seat.events s.state.start s.state.buffer
            → (declared s.seat.events s.state.start ≡ None → Q t.state.buffer)
            → DeclaredSo s.seat.events s.state.start t.state.buffer
        by (inl (none, keys)) next = inl (none, some t.state.buffer (next none))
        by (inr just) next = inr just

    -- ---- what it declares

    keys_are : (es : Entries) → map (λ (c : Change). c.key) (changes_of es) ≡ keys_of es
    keys_are [] = refl
    keys_are (e ∷ es) = ap (λ (l : List Key). e.0 ∷ l) (keys_are es)

    newly : (h : History) (d : Declaration) → declared (Declared d ∷ h) d.start ≡ Some d
    newly h d = rw (nat_same d.start) refl

    -- both keys are declared
    declares_both : (k l : Known) (start placed : ℕ) (es : Entries) (terms : Terms)
        → keys_of es ≡ what.from ∷ what.to ∷ [] → RecordsDeclared bounds k (declaration start placed es terms) l
        → DeclaresJust l.events start what.from what.to
    declares_both k l start placed [] terms both records = absurd (cc (both))
    declares_both k l start placed (e ∷ es) terms both records = (
      declaration_of start placed (e ∷ es) terms,
      ap (λ (h : History). declared h start) records.recorded.is
          ∙ newly records.recorded.before (declaration_of start placed (e ∷ es) terms),
      keys_are (e ∷ es) ∙ both,
    )

    -- what it declared before stays so
    declares_again : (k l : Known) (o : Option Declaration) → IsWorldRun bounds k.events → RecordsDeclared bounds k o l
        → IsWorldRun bounds l.events × Begins k.events l.events × (l.seat ≡ k.seat)
    declares_again k l None run same = (
      subst (λ (x : Known). IsWorldRun bounds x.events) (sym same) run,
      subst (λ (x : Known). Begins k.events x.events) (sym same) (extends_begins k.seat k.events k.events
          (extends_all k.seat k.events)),
      ap (λ (x : Known). x.seat) same,
    )
    declares_again k l (Some d) run records =
        let follows = declared_follows bounds k l (Some d) records in (follows.run run, follows.begins, follows.number)

    abbrev HasBoth : Entries → Type 0
    HasBoth es = keys_of es ≡ what.from ∷ what.to ∷ []

    declares_so : (s t : Seated) (came : Came) → With HasBoth s → DeclaresOr bounds (terms_of what) s came t → IsSo t
    declares_so s t (Err e) with_both (same, why) = same_so s t same with_both.0
    declares_so s t (Ok u) (is, has) (fits, state, records) =
        let start : t.state.start ≡ s.state.start = ap (λ (x : SessionState). x.start) state in
        let went = declares_again s.seat t.seat
        (declaration s.state.start t.state.placed s.state.buffer (terms_of what)) is.run records in
        record {
          run = went.0;
          drew = ap (drawer t.seat.events) start
              ∙ drawer_on bounds s.seat.events t.seat.events went.0 went.1 s.state.start s.seat.seat is.drew
              ∙ ap Some (sym went.2);
          so = subst (λ (n : ℕ). DeclaredSo t.seat.events n t.state.buffer) (sym start) (inr (by is.so));
        }
      where
        by : DeclaredSo s.seat.events s.state.start s.state.buffer
            → DeclaresJust t.seat.events s.state.start what.from what.to
        by (inl (none, some)) = declares_both s.seat t.seat s.state.start t.state.placed s.state.buffer (terms_of what)
            (has none) records
        by (inr (d, there, keys)) =
            let went = declares_again s.seat t.seat
            (declaration s.state.start t.state.placed s.state.buffer (terms_of what)) is.run records in
            (d, declared_on bounds s.seat.events t.seat.events went.0 went.1 s.state.start d there, keys)

    first_some : (fs : Entries) → HasFirst fs → HasSome fs
    first_some fs (inl both) = inl both
    first_some fs (inr one) = inr (inr one)

    enters_so : (P Q : Entries → Type 0) (key : Key) (value : Value) (s t : Seated)
        → ((fs : Entries) → Q fs → HasSome fs) → ((m : Mutation) → P s.state.buffer → Q (touched s.state.buffer key m))
        → With P s → Enters key value s (Ok tt) t → With Q t
    enters_so P Q key value s t some enters with_it entered =
        let m = put_over (buffered s.state.buffer key) value in
        rebuffered P Q s t (touched s.state.buffer key m) (ap (λ (x : Seated). x.state) entered)
        (ap (λ (x : Seated). x.seat) entered) some (enters m) with_it

    writes_so : (s t : Seated) (left : ℕ × ℕ) (came : Came) → PutsBoth bounds what left s came t → StaysSo s t
    writes_so s t left came (inl (e, is, (same, why))) so = same_so s t same so
    writes_so s t left came (inr (one, first, inl (e, is, (same, why)))) so =
        same_so one t same (enters_so HasSome HasFirst what.from (decimal left.0) s one first_some
        (λ m has. first_in m s.state.buffer has) (has_some s so) first).0
    writes_so s t left came (inr (one, first, inr (two, second, declares))) so =
        let with_one = enters_so HasSome HasFirst what.from (decimal left.0) s one first_some
        (λ m has. first_in m s.state.buffer has) (has_some s so) first in
        let with_two = enters_so HasFirst HasBoth what.to (decimal left.1) one two (λ fs both. inl both)
        (λ m has. second_in m one.state.buffer has) with_one second in
        declares_so two t came with_two declares

    -- ---- its requests

    drew_so : (may : Bool) (s t : Seated) → DrewIf bounds may s t → StaysSo s t
    drew_so false s t same is = same_so s t same is
    drew_so true s t (c, state, draws) is =
        let start : t.state.start ≡ s.state.start = ap (λ (x : SessionState). x.start) state in
        let buffer = ap (λ (x : SessionState). keys_of x.buffer) state in
        let before = draws.drawn.before in
        let run : IsWorldRun bounds (Drawn s.seat.seat c ∷ before) =
        subst (IsWorldRun bounds) draws.drawn.is draws.drawn.run in
        let begins = (draws_follows bounds s.seat t.seat c draws).begins in
        let so : DeclaredSo (Drawn s.seat.seat c ∷ before) s.state.start t.state.buffer =
        drawn s.seat.seat c before s.state.start t.state.buffer
        (so_on s.seat.events before s.seat.seat s.state.start s.state.buffer t.state.buffer run.0 draws.drawn.extends
        is.drew buffer is.so) in
        record {
          run = draws.drawn.run;
          drew = ap (drawer t.seat.events) start
              ∙ drawer_on bounds s.seat.events t.seat.events draws.drawn.run begins s.state.start s.seat.seat is.drew
              ∙ ap Some (sym draws.number);
          so = subst (λ (n : ℕ). DeclaredSo t.seat.events n t.state.buffer) (sym start)
              (subst (λ (h : History). DeclaredSo h s.state.start t.state.buffer) (sym draws.drawn.is) so);
        }
      where
        drawn : (seat c : ℕ) (h : History) (start : ℕ) (es : Entries) → DeclaredSo h start es
            → DeclaredSo (Drawn seat c ∷ h) start es
        drawn seat c h start es (inl none) = inl none
        drawn seat c h start es (inr just) = inr just

    draws_so : (s t : Seated) (came : Came) → DrawsOr bounds s came t → StaysSo s t
    draws_so s t (Ok u) drew = drew_so (can_draw s.state) s t drew
    draws_so s t (Err e) (spent, may, ticks, same) = same_so s t same

    met_so : (s t : Seated) (resolver after : Known) (met : Option LockInfo) (now : Option ℕ) (found : Option Status)
        → ResolvesMet bounds s resolver met now found t after → StaysSo s t
    met_so s t resolver after None now found (none, same, stays) = same_so s t same
    met_so s t resolver after (Some lock) now found (status, some, resolves, state, heard) =
        let kept = passed_keeps s.state lock.start (lies_above status s.state.start) in
        hears_so s t (heard_hears bounds s.seat t.seat after.events heard)
        (ap (λ (x : SessionState). x.start) state ∙ kept.0)
        (ap (λ (x : SessionState). keys_of x.buffer) state ∙ ap keys_of kept.1)

    resolves_so : (s t : Seated) (came : Result (Option Status) Fault) → ResolvesOr bounds came s t → StaysSo s t
    resolves_so s t (Ok found) (resolver, after, met) = met_so s t resolver after s.state.met None found met
    resolves_so s t (Err e) same = same_so s t same

    pub declares_kept : IsKept bounds what StaysSo
    declares_kept = record {
      itself = λ s is. is;
      more = λ r s t first then is. then (first is);
      got = λ s t key came sent. hears_so s t
          (walk_hears bounds (Replies {S = Unit {0}}) (get_walk s.state key) s.seat t.seat tt tt (t.state, came) sent)
          (by_start (Replies {S = Unit {0}}) bounds s.seat t.seat tt tt s.state key (buffered s.state.buffer key)
          (t.state, came) sent)
          (keeps_get (Replies {S = Unit {0}}) bounds s.seat t.seat tt tt s.state key (t.state, came) sent).keys;
      sent = λ s t x due came sent. hears_so s t
          (walk_hears bounds (Replies {S = Unit {0}}) (due_walk s.state x due) s.seat t.seat tt tt (t.state, came) sent)
          (due_start (Replies {S = Unit {0}}) bounds s.seat t.seat tt tt s.state x due (t.state, came) sent)
          (keeps_due (Replies {S = Unit {0}}) bounds s.seat t.seat tt tt s.state x due (t.state, came) sent).keys;
      wrote = writes_so;
      drew = draws_so;
      resolved = resolves_so;
    }

    -- ---- from its start to its end

    begun_so : (k : Known) (s : Seated) → Begun bounds k s → IsSo s
    begun_so k s (state, began_at) =
        let t = s.state.start in
        let before = began_at.began.before in
        let run : IsWorldRun bounds (Began t ∷ before) =
        subst (IsWorldRun bounds) began_at.began.is began_at.began.run in
        let none : declared before t ≡ None = undeclared bounds before run.0 t run.1.1 in
        let keys : keys_of s.state.buffer ≡ [] = ap (λ (x : SessionState). keys_of x.buffer) state in
        record {
          run = began_at.began.run;
          drew = ap (λ (h : History). drawer h t) began_at.began.is ∙ began_at.began.own
              ∙ ap Some (sym began_at.number);
          so = inl (ap (λ (h : History). declared h t) began_at.began.is ∙ none, inr (inl keys));
        }

    pub started_so : (k : Known) (s t : Seated) → Begun bounds k s → HearsMore bounds s t → IsSo t
    started_so k s t begun (state, told, heard) =
        hears_so s t (heard_hears bounds s.seat t.seat told heard) (ap (λ (x : SessionState). x.start) state)
        (ap (λ (x : SessionState). keys_of x.buffer) state) (begun_so k s begun)

    just_between : (h : History) (t : ℕ) (o : Outcome) → DeclaresJust h t what.from what.to
        → IsBetween h t o (Some (what.from, what.to))
    just_between h t (outcome.Committed c) just = just
    just_between h t outcome.Aborted just = just
    just_between h t (outcome.Unknown why) just = tt
    just_between h t outcome.ReadOnly just = tt

    -- one that was answered is between its two keys
    pub ended_between : (s : Seated) (mid l : Known) (told : History) (o : Outcome) → IsSo s
        → HasHeard bounds s.seat told mid → Records bounds mid (Answered s.state.start o) l
        → IsBetween l.events s.state.start o (Some (what.from, what.to))
    ended_between s mid l told o is heard records =
        let t = s.state.start in
        let before = records.recorded.before in
        let run : IsWorldRun bounds (Answered t o ∷ before) =
        subst (IsWorldRun bounds) records.recorded.is records.recorded.run in
        let extends : Extends s.seat.seat s.seat.events before =
        extends_more s.seat.seat s.seat.events mid.events before heard.seen.extends
        (subst (λ (i : ℕ). Extends i mid.events before) heard.number records.recorded.extends) in
        subst (λ (h : History). IsBetween h t o (Some (what.from, what.to))) (sym records.recorded.is)
        (by t before run
        (so_on s.seat.events before s.seat.seat t s.state.buffer s.state.buffer run.0 extends is.drew refl is.so))
      where
        answered : (t : ℕ) (before : History) → DeclaresJust before t what.from what.to
            → DeclaresJust (Answered t o ∷ before) t what.from what.to
        answered t before just = just

        undecided : (t : ℕ) (before : History) → IsWorldRun bounds before → (p : Outcome) → MayAnswer before t p
            → declared before t ≡ None → IsBetween (Answered t o ∷ before) t p (Some (what.from, what.to))
        undecided t before run (outcome.Committed c) (inl told) none =
            absurd (decided_declared bounds before run t (fate.Committed c)
            (told_fate bounds before run t (fate.Committed c) told) none)
        undecided t before run (outcome.Committed c) (inr most) none =
            absurd (decided_declared bounds before run t (fate.Committed c)
            ((run_told bounds before run).0.ends.all_async t c most) none)
        undecided t before run outcome.Aborted told none =
            absurd (decided_declared bounds before run t fate.Aborted
            (told_fate bounds before run t fate.Aborted told) none)
        undecided t before run (outcome.Unknown why) may none = tt
        undecided t before run outcome.ReadOnly may none = tt

        by : (t : ℕ) (before : History) → IsWorldRun bounds (Answered t o ∷ before)
            → DeclaredSo before t s.state.buffer → IsBetween (Answered t o ∷ before) t o (Some (what.from, what.to))
        by t before run (inl (none, some)) = undecided t before run.0 o run.1.2 none
        by t before run (inr just) = just_between (Answered t o ∷ before) t o (answered t before just)
