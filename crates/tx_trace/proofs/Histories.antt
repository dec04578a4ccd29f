-- A trace is of the histories that its log is of.
use Rattle.std.proofs.Common.{◌≡◌, ℕ, List, [], ◌∷◌, map, Option, Some, None, Result, Ok, Err, false, refl, sym, ap, subst, ◌∙◌, inl, inr}
use Rattle.std.specs.Result.{OnOk, OnErr}
use Rattle.std.specs.Prelude.{IfSome, is_err}
use Rattle.std.specs.BTreeMap as tree
use Rattle.std.specs.Map.{lookup}
use Rattle.std.specs.Ordering.{nat_cmp}
use Rattle.std.proofs.lemmas.Bool.{cases_Bool}
use Rattle.tx_plan.specs.declared.body.Body.{Body}
use Rattle.tx_plan.specs.declared.answer.Answer.{Answer}
use Rattle.tx_core.specs.declared.event.Event.{Event}
use Rattle.tx_core.specs.declared.event.Event.TheVariants.{Drawn, Stopped, Took}
use Rattle.tx_core.specs.declared.event.Taken.{Taken}
use Rattle.tx_core.specs.Histories.{History}
use Rattle.tx_core.specs.Decisions.{accepted, decided}
use Rattle.tx_trace.specs.declared.pending.Pending.{Pending}
use Rattle.tx_trace.specs.declared.pending.Pending.TheVariants as pending
use Rattle.tx_trace.specs.declared.log.TraceLog.{TraceLog}
use Rattle.tx_trace.specs.Logs.{Stands, IsLogOf, LogGoesOn, kept_in, Stays as Remains}
use Rattle.tx_trace.specs.declared.taken_log.TakenLog.{TakenLog}
use Rattle.tx_trace.specs.Takings.{takings, AreTakings, MayGoOn}
use Rattle.tx_trace.specs.Traces.{Noted, waits_of, pending_of, noted, kept_of, Traces, Adds, Stays}
use Rattle.tx_trace.proofs.Requests.{on_ok}

there_and_back : (p : Pending) → pending_of (waits_of p) ≡ p
there_and_back pending.Primary = refl
there_and_back (pending.Locks locks) = refl

seen : (t : ℕ) (entries : List (ℕ × Pending))
    → kept_of (map (λ e. (e.0, waits_of e.1)) entries) t ≡ lookup (tree.is_at (nat_cmp t)) entries
seen t [] = refl
seen t (e ∷ es) = elim (cases_Bool (tree.is_at (nat_cmp t) e.0)) [
  | inl x ↦ rw x (ap Some (there_and_back e.1))
  | inr x ↦ rw x (seen t es)
]

kept_is : (log : TraceLog) (taken : Option TakenLog) (t : ℕ) → kept_of (noted log taken).waits t ≡ kept_in log t
kept_is log taken t = seen t log.pending.entries

pub outward : (h : History) (log : TraceLog) (taken : Option TakenLog) → IsLogOf h log → IfSome taken (AreTakings h)
    → Traces h (noted log taken)
outward h log taken k has = (
  record {
    shadows = k.0.shadows;
    pending =
        λ t d is. subst (Stands (decided h t) d (accepted h t)) (sym (kept_is log taken t)) (k.0.pending t d is);
  },
  k.1,
  has,
)

pub inward : (h : History) (log : TraceLog) (taken : Option TakenLog) → Traces h (noted log taken) → IsLogOf h log
inward h log taken k = (
  record {
    shadows = k.0.shadows;
    pending =
        λ t d is. subst (Stands (decided h t) d (accepted h t)) (kept_is log taken t) (k.0.pending t d is);
  },
  k.1,
)

-- what is said of a log and of what was taken is said of their trace
pub adds_out : (old new : TraceLog) (from to : Option TakenLog) (e : Event) → LogGoesOn old e new → MayGoOn from e to
    → Adds (noted old from) e (noted new to)
adds_out old new from to e goes turns bounds h run t =
    outward (e ∷ h) new to (goes bounds h run (inward h old from t)) (turns h t.2)

pub stays_out : (old new : TraceLog) (taken : Option TakenLog) → Remains old new
    → Stays (noted old taken) (noted new taken)
stays_out old new taken same h t = outward h new taken (same h (inward h old taken t)) t.2

pub on_err : {T E : Type 0} (r : Result T E) (A B : Type 0) → (A → B) → OnErr r A → OnErr r B
on_err (Ok x) A B f a = tt
on_err (Err e) A B f a = f a

-- an event that is no taking leaves what was taken as it is
pub same_taken : (taken : Option TakenLog) (e : Event) → ((h : History) → takings (e ∷ h) ≡ takings h)
    → MayGoOn taken e taken
same_taken None e same h has = tt
same_taken (Some p) e same h has = same h ∙ has

-- ---- by what a call gave

module _ {E : Type 0} (r : Result (Unit {0}) E) (old new : TraceLog) (taken : Option TakenLog) (o : Noted)
    (is : noted old taken ≡ o) where
  pub adds_view : (e : Event) → ((h : History) → takings (e ∷ h) ≡ takings h) → OnOk r (LogGoesOn old e new)
      → OnOk r (Adds o e (noted new taken))
  adds_view e same ok = subst (λ (n : Noted). OnOk r (Adds n e (noted new taken))) is
      (on_ok r (LogGoesOn old e new) (Adds (noted old taken) e (noted new taken)) (λ goes. adds_out old new taken
      taken e goes (same_taken taken e same)) ok)

  pub drawn_view : (t : ℕ) → OnOk r ((seat : ℕ) → LogGoesOn old (Drawn seat t) new)
      → OnOk r ((seat : ℕ) → Adds o (Drawn seat t) (noted new taken))
  drawn_view t ok = subst (λ (n : Noted). OnOk r ((seat : ℕ) → Adds n (Drawn seat t) (noted new taken))) is
      (on_ok r ((seat : ℕ) → LogGoesOn old (Drawn seat t) new) ((seat : ℕ)
      → Adds (noted old taken) (Drawn seat t) (noted new taken)) (λ f seat. adds_out old new taken taken (Drawn seat t)
      (f seat) (same_taken taken (Drawn seat t) (λ h. refl))) ok)

  pub taken_view : (to : Option TakenLog) (body : Body) (a : Answer)
      → ((x : Taken) → x.body ≡ body → x.answer ≡ a → LogGoesOn old (Took x) new)
      → ((x : Taken) → x.body ≡ body → x.answer ≡ a → MayGoOn taken (Took x) to)
      → (x : Taken) → x.body ≡ body → x.answer ≡ a → Adds o (Took x) (noted new to)
  taken_view to body a f turns x e g = subst (λ (n : Noted). Adds n (Took x) (noted new to)) is
      (adds_out old new taken to (Took x) (f x e g) (turns x e g))

  pub stays_view : OnErr r (Remains old new) → OnErr r (Stays o (noted new taken))
  stays_view err = subst (λ (n : Noted). OnErr r (Stays n (noted new taken))) is
      (on_err r (Remains old new) (Stays (noted old taken) (noted new taken)) (stays_out old new taken) err)

-- ---- a session that stops

pub stopped_adds : (n : Noted) (seat : ℕ) → Adds n (Stopped seat) n
stopped_adds n seat bounds h run t = (
  record { shadows = t.0.shadows; pending = t.0.pending },
  record { accepts = t.1.accepts; inserts = t.1.inserts },
  same_taken n.taken (Stopped seat) (λ h. refl) h t.2,
)

-- what came of a step that went well
pub went_well : {T E : Type 0} (r : Result T E) (P : Type 0) → OnOk r P → is_err r ≡ false → P
went_well (Ok x) P told well = told
went_well (Err e) P told well = absurd (cc (well))

-- what holds holds where a call failed
pub also_err : {T E : Type 0} (r : Result T E) (A : Type 0) → A → OnErr r A
also_err (Ok x) A a = tt
also_err (Err e) A a = a
