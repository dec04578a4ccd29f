-- Whose each line is, and what lines of a session entered before one of them.
use Rattle.std.proofs.Common.{◌≡◌, ℕ, zero, suc, ◌+◌, ◌-◌, ◌<◌, ◌≤◌, List, [], ◌∷◌, All, map, filter, length, get_or, Bool, true, false, if◌then◌else◌, Option, Some, None, option_map, option_and_then, Result, Ok, Err, refl, sym, ap, subst, ◌∙◌, arith}
use Rattle.std.specs.Prelude.{slice_get, unwrap_or, IfSome}
use Rattle.std.specs.List.{AllPairs, enumerate_from}
use Rattle.std.proofs.lemmas.List.Elements.{All-nil, All-cons}
use Rattle.std.proofs.lemmas.List.Kept.{AllPairs-cons}
use Rattle.std.proofs.lemmas.Option.{same_Some, slice_get-map}
use Rattle.serde_json.specs.Data.{Data}
use Rattle.tx_types.specs.declared.fault.Cause.{Cause}
use Rattle.tx_types.specs.declared.key.Key.{Key}
use Rattle.tx_types.specs.declared.value.Value.{Value}
use Rattle.tx_core.proofs.Basics.{key_true}
use Rattle.tx_transaction.specs.Buffers.{Entries}
use Rattle.tx_journal.specs.Known.{Known}
use Rattle.tx_text.specs.Lines.{lines_of}
use Rattle.tx_steps.specs.declared.program.Program.TheVariants.{Run}
use Rattle.tx_steps.specs.declared.call.Call.{Call}
use Rattle.tx_steps.specs.declared.delivery.Delivery.{Delivery}
use Rattle.tx_steps.specs.declared.op.Op.{Op}
use Rattle.tx_steps.specs.declared.step.Step.{Step}
use Rattle.tx_steps.specs.declared.step.Step.TheVariants as step
use Rattle.tx_steps.specs.Steps.{Text}
use Rattle.tx_steps.specs.Lines.{data_said, step_in}
use Rattle.tx_evidence.specs.Buffers.{AllBy}
use Rattle.tx_evidence.specs.Lines.{step_by}
use Rattle.tx_evidence.specs.Tells.{Enters}
use Rattle.tx_evidence.proofs.Buffers.{all_more}
use Rattle.tx_client.specs.Calls.{Seated}
use Rattle.tx_transfer.specs.Acts.{Acts}
use Rattle.tx_ops.specs.Calls.{Said, call_walk}
use Rattle.tx_transfer.specs.Sends.{SendsOver}
use Rattle.tx_workload.specs.Faults.{opens}
use Rattle.tx_workload.specs.Readers.{HasSession}
use Rattle.tx_workload.specs.ScriptLines.{KeepsText, is_named, lines_of_session, name_in, numbered, session_names, session_of, step_for}
use Rattle.tx_workload.specs.Tells.{AreEntered, AreOf, AreOwn, ComeLater, EnteredBy, EnteredBefore, SaidTells, SaysOwn, session_name}
use Rattle.tx_workload.proofs.StepReplies.{act_tells, send_tells}

-- ---- whose a line is

module _ (number : ℕ) (what : Step Text) (name other : Text) (is : name_in what ≡ Some name) where
  by_opens : (b : Bool) (o : Option (Step Text)) → o ≡ Some what
      → option_and_then name_in (if b then None else o) ≡ Some other → name ≡ other
  by_opens true o says named = absurd (cc (named))
  by_opens false o says named =
      same_Some name other (sym is ∙ sym (ap (option_and_then name_in) says) ∙ named)

  by_data : (said : Result Data Cause) → step_by Run said ≡ Some what
      → option_and_then name_in (step_for number said) ≡ Some other → name ≡ other
  by_data (Err cause) says named = absurd (cc (says))
  by_data (Ok d) says named = by_opens (opens number d) (step_in Run d) says named

  by_line : (o : Option (List ℕ)) → option_and_then (λ line. step_by Run (data_said number line)) o ≡ Some what
      → option_and_then (session_of number) o ≡ Some other → name ≡ other
  by_line None says named = absurd (cc (says))
  by_line (Some line) says named = by_data (data_said number line) says named

module _ (source : Option (List ℕ)) (job number line : ℕ) (what : Step Text) (name : Text) (is : name_in what
    ≡ Some name)
    (own : SaysOwn source job number what) where
  -- what a session entered was entered under the name that its line says, and the other way round
  to_name : (k : Key) (o : Option Value) → EnteredBy source job line k o → EnteredBefore source line name k o
  to_name = by source own
    where
      by : (source : Option (List ℕ)) → SaysOwn source job number what → (k : Key) (o : Option Value)
          → EnteredBy source job line k o → EnteredBefore source line name k o
      by None own k o entered = tt
      by (Some text) own k o entered =
          let same : name ≡ session_name (Some text) job =
          by_line number what name (session_name (Some text) job) is (slice_get (lines_of text) (number - 1))
          own.says own.named in
          subst (λ (n : Text). EnteredBefore (Some text) line n k o) (sym same) entered

  from_name : (k : Key) (o : Option Value) → EnteredBefore source line name k o → EnteredBy source job line k o
  from_name = by source own
    where
      by : (source : Option (List ℕ)) → SaysOwn source job number what → (k : Key) (o : Option Value)
          → EnteredBefore source line name k o → EnteredBy source job line k o
      by None own k o entered = tt
      by (Some text) own k o entered =
          let same : name ≡ session_name (Some text) job =
          by_line number what name (session_name (Some text) job) is (slice_get (lines_of text) (number - 1))
          own.says own.named in
          subst (λ (n : Text). EnteredBefore (Some text) line n k o) same entered

  pub own_name : (es : Entries) → AllBy (EnteredBy source job line) es → AllBy (EnteredBefore source line name) es
  own_name es all = all_more (EnteredBy source job line) (EnteredBefore source line name) to_name es all

  pub name_own : (es : Entries) → AllBy (EnteredBefore source line name) es → AllBy (EnteredBy source job line) es
  name_own es all = all_more (EnteredBefore source line name) (EnteredBy source job line) from_name es all

-- what lines before one entered, lines before a later one did
entered_later : (source : Option (List ℕ)) (n m : ℕ) → IfSome source (λ text. n ≤ m) → (name : Text) (k : Key)
    (o : Option Value) → EnteredBefore source n name k o → EnteredBefore source m name k o
entered_later None n m later name k o entered = tt
entered_later (Some text) n m later name k o e = (e.0, omega (arith, e.1, later), e.2, e.3, e.4)

pub next_entered : (source : Option (List ℕ)) (job number : ℕ) (es : Entries) → AllBy (EnteredBy source job number) es
    → AllBy (EnteredBy source job (number + 1)) es
next_entered source job number es all = all_more (EnteredBy source job number) (EnteredBy source job (number + 1))
    (entered_later source number (number + 1) (later source) (session_name source job)) es all
  where
    later : (source : Option (List ℕ)) → IfSome source (λ text. number ≤ number + 1)
    later None = tt
    later (Some text) = omega arith

-- the line itself entered it
line_enters : (source : Option (List ℕ)) (job number : ℕ) (what : Step Text) (name : Text)
    → SaysOwn source job number what → (k : Key) (o : Option Value) → Enters what name k o
    → EnteredBefore source (number + 1) name k o
line_enters None job number what name own k o enters = tt
line_enters (Some text) job number what name own k o enters = (number, omega arith, what, own.says, enters)

-- what a session is told that did this by a line of its own, or sent it
module _ (source : Option (List ℕ)) (bounds : List Key) (job number : ℕ) (name : Text) (old new : Seated) (said : Said)
    (entered : AllBy (EnteredBy source job number) old.state.buffer) where
  abbrev Tells : Step Text → Type 0
  Tells what = AllBy (EnteredBy source job (number + 1)) new.state.buffer
      × SaidTells bounds (EnteredBefore source number) new.seat.events what said

  pub act_own : (resolver after : Known) (o : Op Text) → SaysOwn source job number (step.Act name o)
      → Acts bounds o old resolver said new after → Tells (step.Act name o)
  act_own resolver after o own acts =
      let what : Step Text = step.Act name o in
      let line = number + 1 in
      let tells = act_tells bounds (EnteredBefore source line) name (EnteredBefore source number) old new resolver
      after o
      said (own_name source job number line what name refl own old.state.buffer
      (next_entered source job number old.state.buffer entered))
      (line_enters source job number what name own) acts in
      (name_own source job number line what name refl own new.state.buffer tells.0, tells.1)

  pub send_own : (c : Call Text) (d : Delivery Text) → SaysOwn source job number (step.Send name c d)
      → SendsOver bounds old.seat (call_walk bounds old.state c) (new.state, said) new.seat → Tells (step.Send name c d)
  send_own c d own sends =
      let what : Step Text = step.Send name c d in
      let tells = send_tells bounds (EnteredBefore source number) name old new c d said
      (own_name source job number number what name refl own old.state.buffer entered) sends in (
        next_entered source job number new.state.buffer
            (name_own source job number number what name refl own new.state.buffer tells.0),
        tells.1,
      )

-- what lines up to this one entered, lines before each later one did
pub later_entered : (source : Option (List ℕ)) (job number : ℕ) (left : List ℕ) (es : Entries)
    → ComeLater source number left → AllBy (EnteredBy source job (number + 1)) es → AreEntered source job left es
later_entered source job number left es later all =
    all_more (EnteredBy source job (number + 1)) (λ k o. All (λ n. EnteredBy source job n k o) left)
    (λ k o e i d lt. entered_later source (number + 1) (get_or left i d) (by source later i d lt)
    (session_name source job) k o e) es all
  where
    by : (source : Option (List ℕ)) → ComeLater source number left → (i d : ℕ) → i < length left
        → IfSome source (λ text. number + 1 ≤ get_or left i d)
    by None later i d lt = tt
    by (Some text) later i d lt = omega (arith, later i d lt)

-- ---- each session has lines of its own

is_named_so : (name : Text) (s : Option Text) → is_named name s ≡ true → s ≡ Some name
is_named_so name None is = absurd (cc (is))
is_named_so name (Some other) is = ap Some (sym (key_true name other is))

module _ (P : ℕ → Type 0) where
  all_first : (b : Bool) (e : ℕ × List ℕ) (es : List (ℕ × List ℕ)) → (b ≡ true → P e.0) → All P (map (λ l. l.0) es)
      → All P (map (λ l. l.0) (if b then e ∷ es else es))
  all_first true e es here rest = All-cons P e.0 (map (λ l. l.0) es) (here refl) rest
  all_first false e es here rest = rest

  pub all_filtered : (test : ℕ × List ℕ → Bool) (es : List (ℕ × List ℕ))
      → ((i : ℕ) (e : ℕ × List ℕ) → slice_get es i ≡ Some e → test e ≡ true → P e.0)
      → All P (map (λ l. l.0) (filter test es))
  all_filtered test [] each = All-nil P
  all_filtered test (e ∷ es) each = all_first (test e) e (filter test es) (λ is. each 0 e refl is)
      (all_filtered test es (λ i f there is. each (suc i) f there is))

pub numbered_at : (n : ℕ) (lines : List (List ℕ)) (i : ℕ) (e : ℕ × List ℕ)
    → slice_get (enumerate_from n lines) i ≡ Some e → (e.0 ≡ n + i) × (slice_get lines i ≡ Some e.1)
numbered_at n [] i e is = absurd (cc (is))
numbered_at n (line ∷ lines) zero e is =
    let same : (n, line) ≡ e = same_Some (n, line) e is in
    (sym (ap (λ (x : ℕ × List ℕ). x.0) same) ∙ omega arith, ap (λ (x : ℕ × List ℕ). Some x.1) same)
numbered_at n (line ∷ lines) (suc i) e is =
    let more = numbered_at (n + 1) lines i e is in
    (omega (arith, more.0), more.1)

of_session : (text : List ℕ) (name : Text) → All (λ n. HasSession (Some text) n name)
    (lines_of_session name (lines_of text))
of_session text name = all_filtered (λ n. HasSession (Some text) n name) (λ l. is_named name (session_of l.0 l.1))
    (numbered (lines_of text)) each
  where
    each : (i : ℕ) (e : ℕ × List ℕ) → slice_get (numbered (lines_of text)) i ≡ Some e
        → is_named name (session_of e.0 e.1) ≡ true → HasSession (Some text) e.0 name
    each i e there is =
        let at = numbered_at 1 (lines_of text) i e there in
        let same : e.0 - 1 ≡ i = omega (arith, at.0) in
        ap (option_and_then (session_of e.0)) (ap (slice_get (lines_of text)) same ∙ at.1)
        ∙ is_named_so name (session_of e.0 e.1) is

-- and their numbers rise
module _ (test : ℕ × List ℕ → Bool) where
  abbrev numbers_from : ℕ → List (List ℕ) → List ℕ
  numbers_from n lines = map (λ l. l.0) (filter test (enumerate_from n lines))

  abbrev Rise : List ℕ → Type 0
  Rise numbers = AllPairs (λ m n. m < n) numbers

  all_from : (n : ℕ) (lines : List (List ℕ)) → All (λ m. n < m) (numbers_from (n + 1) lines)
  all_from n lines = all_filtered (λ m. n < m) test (enumerate_from (n + 1) lines)
      (λ i e there passes. (let at = numbered_at (n + 1) lines i e there in omega (arith, at.0)))

  rise_if : (b : Bool) (n : ℕ) (line : List ℕ) (more : List (ℕ × List ℕ)) → All (λ m. n < m) (map (λ l. l.0) more)
      → Rise (map (λ l. l.0) more) → Rise (map (λ l. l.0) (if b then (n, line) ∷ more else more))
  rise_if true n line more above rise = AllPairs-cons (λ m n. m < n) n (map (λ l. l.0) more) above rise
  rise_if false n line more above rise = rise

  numbers_rise : (n : ℕ) (lines : List (List ℕ)) → Rise (numbers_from n lines)
  numbers_rise n [] = λ i j d before within. absurd (omega (arith, within))
  numbers_rise n (line ∷ lines) = rise_if (test (n, line)) n line (filter test (enumerate_from (n + 1) lines))
      (all_from n lines) (numbers_rise (n + 1) lines)

pub own_lines : (source : Option (List ℕ)) (kept : List (List ℕ)) (others : List ℕ) (between : List Key)
    → KeepsText source kept others between → AreOwn source kept
own_lines None kept others between keeps k numbers there = record { named = λ i d lt. tt; rise = tt }
own_lines (Some text) kept others between keeps k numbers there =
    by (slice_get (session_names (lines_of text)) k) refl
  where
    lines : List (List ℕ)
    lines = lines_of text

    by : (o : Option Text) → slice_get (session_names lines) k ≡ o → AreOf (Some text) k numbers
    by None is =
        let none : None ≡ Some numbers = sym (ap (option_map (λ name. lines_of_session name lines)) is)
        ∙ sym (slice_get-map (λ name. lines_of_session name lines) (session_names lines) k)
        ∙ sym (ap (λ (l : List (List ℕ)). slice_get l k) keeps.sessions) ∙ there in
        absurd (cc (none))
    by (Some name) is =
        let some : Some (lines_of_session name lines) ≡ Some numbers =
        sym (ap (option_map (λ name. lines_of_session name lines)) is)
        ∙ sym (slice_get-map (λ name. lines_of_session name lines) (session_names lines) k)
        ∙ sym (ap (λ (l : List (List ℕ)). slice_get l k) keeps.sessions) ∙ there in
        let same : lines_of_session name lines ≡ numbers = same_Some (lines_of_session name lines) numbers some in
        let named : name ≡ session_name (Some text) k = sym (ap (λ (o : Option Text). unwrap_or o []) is) in
        subst (λ (l : List ℕ). AreOf (Some text) k l) same (record {
          named = subst (λ (m : Text). All (λ n. HasSession (Some text) n m) (lines_of_session name lines)) named
              (of_session text name);
          rise = numbers_rise (λ l. is_named name (session_of l.0 l.1)) 1 lines;
        })
