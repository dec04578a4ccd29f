-- A seed is written by a transaction of its own.
use Rattle.std.proofs.Common.{◌≡◌, inl, inr, ℕ, zero, suc, Bool, true, false, List, [], ◌∷◌, Option, Some, None, Result, Ok, Err, OnOk, is_some, refl, sym, ap, subst, ◌∙◌}
use Rattle.std.proofs.lemmas.Bool.{eqb-true}
use Rattle.tx_types.specs.declared.key.Key.{Key}
use Rattle.tx_types.specs.declared.mutation.Change.{Change}
use Rattle.tx_types.specs.declared.mutation.Mutation.TheVariants.{Put}
use Rattle.tx_plan.specs.declared.answer.Answer.{Answer}
use Rattle.tx_core.specs.declared.event.Declaration.{Declaration}
use Rattle.tx_core.specs.declared.event.Event.TheVariants.{Drawn, Began, Declared, Answered, Stopped, Took}
use Rattle.tx_core.specs.declared.event.Outcome.{Outcome}
use Rattle.tx_core.specs.declared.event.Outcome.TheVariants as outcome
use Rattle.tx_core.specs.Histories.{History, declared, Among, Begins}
use Rattle.tx_core.proofs.Basics.{chosen, some_same}
use Rattle.tx_core.proofs.seats.Beginnings.{extends_begins}
use Rattle.tx_core.proofs.seats.Stays.{among_on}
use Rattle.tx_journal.specs.Known.{Known, HasSeen}
use Rattle.tx_journal.specs.Replies.{Asked}
use Rattle.tx_journal.specs.Senders.{Reached}
use Rattle.tx_transaction.specs.declared.state.Miss.{Miss}
use Rattle.tx_transaction.specs.declared.state.Phase.{Phase}
use Rattle.tx_transaction.specs.declared.state.Due.{Due}
use Rattle.tx_transaction.specs.declared.state.Progress.{Progress}
use Rattle.tx_transaction.specs.Returns.{Response}
use Rattle.tx_transaction.specs.declared.state.Terms.{Terms}
use Rattle.tx_transaction.specs.Buffers.{Entries, buffered, changes_of, put_over, touched, with_progress}
use Rattle.tx_transaction.specs.Sessions.{SessionState, after_response, begun, declaration}
use Rattle.tx_client.specs.Calls.{Records}
use Rattle.tx_client.specs.Facts.{standing}
use Rattle.tx_client.specs.Learns.{response_of}
use Rattle.tx_client.specs.Walks.{Sends, due_walk}
use Rattle.tx_transfer.specs.SeedLines.{is_committed}
use Rattle.tx_transfer.specs.Seeds.{KeepsPut, PutsJust, WasSeeded}

-- ---- what is declared stays

changes_with : (es : Entries) (i : ℕ) (p : Progress) → changes_of (with_progress es i p) ≡ changes_of es
changes_with [] i p = refl
changes_with (e ∷ es) zero p = refl
changes_with (e ∷ es) (suc i) p =
    ap (λ (l : List Change). record { key = e.0; mutation = e.1.mutation } ∷ l) (changes_with es i p)

pub keeps_same : (s next : SessionState) → next ≡ s → KeepsPut s next
keeps_same s next is key value just = subst (λ (t : SessionState). PutsJust key value t) (sym is) just

keeps_response : (s : SessionState) (x : Phase) (i : ℕ) (c : Response) → KeepsPut s (after_response s x i c)
keeps_response s x i (Err why) key value just = (just.0, changes_with s.buffer i _ ∙ just.1)
keeps_response s x i (Ok a) key value just = (just.0, changes_with s.buffer i _ ∙ just.1)

-- as a request that is due is sent, whichever way
module _ {S : Type 0} (sends : S → Asked → Reached → S → Type 0) (bounds : List Key) where
  pub puts_due : (old new : Known) (from to : S) (s : SessionState) (x : Phase) (due : Option Due)
      (r : SessionState × Result (Option Answer) Miss) → Sends sends bounds old from (due_walk s x due) r to new
      → KeepsPut s r.0
  puts_due old new from to s x None r sent = keeps_same s r.0 (ap (λ y. y.0) sent.0)
  puts_due old new from to s x (Some due) r (inl sent) = keeps_same s r.0 (ap (λ y. y.0) sent.0)
  puts_due old new from to s x (Some due) r (inr (reached, mid, then, did, learns, ends)) =
      let c = response_of reached in
      λ key value just. keeps_same (after_response s x due.index c) r.0 (ap (λ y. y.0) ends.0) key value
      (keeps_response s x due.index c key value just)

-- ---- what was put

-- a session that has just begun put the value on the key, and declared that
pub put_just : (key value : List ℕ) (old put new : SessionState) (terms : Terms) → old ≡ begun old.start
    → put ≡ record old { buffer = touched old.buffer key (put_over (buffered old.buffer key) value) }
    → new ≡ record put { declared = Some terms; placed = new.placed } → PutsJust key value new
put_just key value old put new terms is puts declares =
    let entered : SessionState → SessionState =
    λ s. record s { buffer = touched s.buffer key (put_over (buffered s.buffer key) value) } in
    let state = declares ∙ ap (λ (s : SessionState). record s { declared = Some terms; placed = new.placed })
    (puts ∙ ap entered is) in
    subst (λ (s : SessionState). PutsJust key value s) (sym state) (refl, refl)

-- ---- what was declared

declared_among : (h : History) (t : ℕ) (d : Declaration) → declared h t ≡ Some d → Among h (Declared d) × (d.start ≡ t)
declared_among [] t d is = absurd (cc (is))
declared_among (Declared x ∷ h) t d is = elim (chosen _ (Some x) (declared h t) (Some d) is) [
  | inl now ↦
      let same : x ≡ d = some_same x d now.1 in
      let start : x.start ≡ t = eqb-true x.start t now.0 in
      (inl (ap Declared same), ap (λ (y : Declaration). y.start) (sym same) ∙ start)
  | inr before ↦ (let more = declared_among h t d before.1 in (inr more.0, more.1))
]
declared_among (Drawn s n ∷ h) t d is = (let more = declared_among h t d is in (inr more.0, more.1))
declared_among (Began u ∷ h) t d is = (let more = declared_among h t d is in (inr more.0, more.1))
declared_among (Answered u o ∷ h) t d is = (let more = declared_among h t d is in (inr more.0, more.1))
declared_among (Stopped s ∷ h) t d is = (let more = declared_among h t d is in (inr more.0, more.1))
declared_among (Took x ∷ h) t d is = (let more = declared_among h t d is in (inr more.0, more.1))

-- a buffer of one change under some terms is declared as just that
stands : (key value : List ℕ) (start placed : ℕ) (es : Entries) (terms : Option Terms) → is_some terms ≡ true
    → changes_of es ≡ record { key = key; mutation = Put value } ∷ []
    → (d : Declaration) × (standing start placed es terms ≡ Some d)
    × (d.changes ≡ record { key = key; mutation = Put value } ∷ [])
stands key value start placed es None some is = absurd (cc (some))
stands key value start placed [] (Some terms) some is = absurd (cc (is))
stands key value start placed (e ∷ es) (Some terms) some is = (_, refl, is)

-- a session that declared just that was answered that it is committed
pub was_seeded : (bounds : List Key) (key value : List ℕ) (s : SessionState) (k new : Known) (c : ℕ)
    → PutsJust key value s → declared k.events s.start ≡ standing s.start s.placed s.buffer s.declared
    → Records bounds k (Answered s.start (outcome.Committed c)) new → WasSeeded new.events key value
was_seeded bounds key value s k new c just shows records =
    let (d, stood, puts) = stands key value s.start s.placed s.buffer s.declared just.0 just.1 in
    let there = declared_among k.events s.start d (shows ∙ stood) in
    let before = records.recorded.before in
    let went = extends_begins k.seat k.events before records.recorded.extends in
    let e = Answered s.start (outcome.Committed c) in
    subst (λ (h : History). WasSeeded h key value) (sym records.recorded.is) (record {
      set = d;
      at = c;
      declared = inr (among_on k.events before went (Declared d) there.0);
      puts = puts;
      committed = inl (ap (λ (t : ℕ). Answered t (outcome.Committed c)) (sym there.1));
    })

-- so did one whose outcome is a commit
pub committed_seeds : (bounds : List Key) (key value : List ℕ) (s : SessionState) (k new : Known) (o : Outcome)
    → is_committed (Some o) ≡ true → PutsJust key value s
    → declared k.events s.start ≡ standing s.start s.placed s.buffer s.declared
    → Records bounds k (Answered s.start o) new → WasSeeded new.events key value
committed_seeds bounds key value s k new (outcome.Committed c) is just shows records =
    was_seeded bounds key value s k new c just shows records
committed_seeds bounds key value s k new outcome.Aborted is just shows records = absurd (cc (is))
committed_seeds bounds key value s k new (outcome.Unknown why) is just shows records = absurd (cc (is))
committed_seeds bounds key value s k new outcome.ReadOnly is just shows records = absurd (cc (is))

-- what was written stays so
pub seeded_on : (l h : History) → Begins l h → (key value : List ℕ) → WasSeeded l key value → WasSeeded h key value
seeded_on l h begins key value was = record {
  set = was.set;
  at = was.at;
  declared = among_on l h begins (Declared was.set) was.declared;
  puts = was.puts;
  committed = among_on l h begins (Answered was.set.start (outcome.Committed was.at)) was.committed;
}

pub seeded_seen : {T E : Type 0} (bounds : List Key) (seat : ℕ) (l h : History) → HasSeen bounds seat l h
    → (key value : List ℕ) (r : Result T E) → OnOk r (WasSeeded l key value) → OnOk r (WasSeeded h key value)
seeded_seen bounds seat l h seen key value (Ok u) was =
    seeded_on l h (extends_begins seat l h seen.extends) key value was
seeded_seen bounds seat l h seen key value (Err e) was = tt

-- what is so where it was written and committed
pub on_seeded : {P Q E : Type 0} (r w : Result (Unit {0}) E) (b : Bool) → OnOk r ((w ≡ Ok tt) × (b ≡ true)) → OnOk w P
    → (b ≡ true → P → Q) → OnOk r Q
on_seeded {P} {Q} {E} (Ok u) w b is p both = both is.1 (subst (λ (x : Result (Unit {0}) E). OnOk x P) is.0 p)
on_seeded (Err e) w b is p both = tt
