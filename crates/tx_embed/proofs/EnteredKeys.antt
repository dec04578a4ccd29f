-- The keys of a session that commits stay, and the key of a prewrite that is due is one of them.
use Rattle.std.proofs.Common.{◌≡◌, ◌≤◌, ◌+◌, ◌-◌, inl, inr, ℕ, zero, suc, Bool, true, false, cond, List, [], ◌∷◌, Option, Some, None, Result, Ok, Err, is_some, option_map, bytes_eq, arith, refl, sym, ap, subst, ◌∙◌}
use Rattle.tx_types.specs.declared.key.Key.{Key}
use Rattle.tx_types.specs.declared.fault.Fault.{Fault}
use Rattle.tx_plan.specs.declared.answer.Answer.{Answer}
use Rattle.tx_plan.proofs.KeyOrder.{key_same}
use Rattle.tx_journal.specs.Known.{Known}
use Rattle.tx_journal.specs.Replies.{Asked}
use Rattle.tx_journal.specs.Senders.{Reached}
use Rattle.tx_transaction.specs.declared.state.Due.{Due}
use Rattle.tx_transaction.specs.declared.state.Miss.{Miss}
use Rattle.tx_transaction.specs.declared.state.Miss.TheVariants as miss
use Rattle.tx_transaction.specs.declared.state.Phase.{Phase}
use Rattle.tx_transaction.specs.declared.state.Phase.TheVariants as phase
use Rattle.tx_transaction.specs.declared.state.Progress.{Progress}
use Rattle.tx_transaction.specs.declared.state.Terms.{Terms}
use Rattle.tx_transaction.specs.Buffers.{Entries, buffered, first_index, index_from, key_at, progress_at, wants, with_progress}
use Rattle.tx_transaction.specs.Next.{due_key}
use Rattle.tx_transaction.specs.Returns.{Response}
use Rattle.tx_transaction.specs.Sessions.{SessionState, after_response, marked_by, prewrite_at, sent_by}
use Rattle.tx_client.specs.Calls.{Seated}
use Rattle.tx_client.specs.Learns.{response_of}
use Rattle.tx_client.specs.Walks.{Walk, asks, grows, ends, Sends, due_walk}
use Rattle.tx_update.specs.declared.stops.Stop.{Stop}
use Rattle.tx_update.specs.declared.stops.Stop.TheVariants as stop
use Rattle.tx_update.specs.Stops.{stop_of_miss}
use Rattle.tx_embed.specs.Transactions.{IsEntered, KeepsKeys, NamesEntered}

-- ---- what stays

pub keeps_same : (old new : Entries) → new ≡ old → KeepsKeys old new
keeps_same old new same key = ap (λ (es : Entries). is_some (buffered es key)) same

pub keeps_more : (a b c : Entries) → KeepsKeys a b → KeepsKeys b c → KeepsKeys a c
keeps_more a b c p q key = q key ∙ p key

progress_keeps : (es : Entries) (i : ℕ) (p : Progress) → KeepsKeys es (with_progress es i p)
progress_keeps [] i p key = refl
progress_keeps (e ∷ es) zero p key = by (bytes_eq e.0 key) refl
  where
    by : (b : Bool) → bytes_eq e.0 key ≡ b
        → is_some (buffered (with_progress (e ∷ es) zero p) key) ≡ is_some (buffered (e ∷ es) key)
    by true is = rw is refl
    by false is = rw is refl
progress_keeps (e ∷ es) (suc i) p key = by (progress_keeps es i p key) (bytes_eq e.0 key) refl
  where
    by : is_some (buffered (with_progress es i p) key) ≡ is_some (buffered es key) → (b : Bool) → bytes_eq e.0 key ≡ b
        → is_some (buffered (with_progress (e ∷ es) (suc i) p) key) ≡ is_some (buffered (e ∷ es) key)
    by rest true is = rw is refl
    by rest false is = rw is rest

response_keeps : (s : SessionState) (x : Phase) (i : ℕ) (c : Response)
    → KeepsKeys s.buffer (after_response s x i c).buffer
response_keeps s x i (Err why) = progress_keeps s.buffer i (sent_by x (progress_at s.buffer i))
response_keeps s x i (Ok a) = progress_keeps s.buffer i (marked_by x a (sent_by x (progress_at s.buffer i)))

-- each end of a walk is so
abbrev EndsIn : {R : Type 0} → (R → Type 0) → Walk R → Type 0
EndsIn P (asks body more) = (c : Response) → EndsIn P (more c)
EndsIn P (grows more short) = EndsIn P more × EndsIn P short
EndsIn P (ends r) = P r

abbrev Keeps : SessionState → SessionState × Result (Option Answer) Miss → Type 0
Keeps s r = KeepsKeys s.buffer r.0.buffer

due_keeps : (s : SessionState) (x : Phase) (due : Option Due) → EndsIn (Keeps s) (due_walk s x due)
due_keeps s x None = keeps_same s.buffer s.buffer refl
due_keeps s x (Some due) = ((λ c. response_keeps s x due.index c), keeps_same s.buffer s.buffer refl)

module _ {S : Type 0} (sends : S → Asked → Reached → S → Type 0) (bounds : List Key) where
  sent_ends : {R : Type 0} (P : R → Type 0) (w : Walk R) (k new : Known) (from to : S) (r : R) → EndsIn P w
      → Sends sends bounds k from w r to new → P r
  sent_ends P (ends x) k new from to r all (is, same, at) = subst P (sym is) all
  sent_ends P (grows more short) k new from to r all (inl sent) = sent_ends P short k new from to r all.1 sent
  sent_ends P (grows more short) k new from to r all (inr sent) = sent_ends P more k new from to r all.0 sent
  sent_ends P (asks body more) k new from to r all (reached, mid, now, sent, learns, rest) =
      sent_ends P (more (response_of reached)) now new mid to r (all (response_of reached)) rest

  -- the request of a phase is sent
  pub keeps_due : (old new : Seated) (from to : S) (x : Phase) (due : Option Due) (r : Result (Option Answer) Miss)
      → Sends sends bounds old.seat from (due_walk old.state x due) (new.state, r) to new.seat
      → KeepsKeys old.state.buffer new.state.buffer
  keeps_due old new from to x due r sent =
      sent_ends (Keeps old.state) (due_walk old.state x due) old.seat new.seat from to (new.state, r)
      (due_keeps old.state x due) sent

-- ---- the key of a prewrite that is due

-- the first key of which something is left to do is one of the keys
index_entered : (n : ℕ) (x : Phase) (es : Entries) (i : ℕ) → index_from n x es ≡ Some i
    → (n ≤ i) × IsEntered es (key_at es (i - n))
index_entered n x [] i is = absurd (cc (is))
index_entered n x (e ∷ es) i is = by (λ more. index_entered (n + 1) x es i more) (wants x e.1.progress) is
  where
    here : is_some (buffered (e ∷ es) e.0) ≡ true
    here = rw (key_same e.0) refl

    behind : (k : Key) → IsEntered es k → (b : Bool) → bytes_eq e.0 k ≡ b → is_some (buffered (e ∷ es) k) ≡ true
    behind k entered true is = rw is refl
    behind k entered false is = rw is entered

    by : (index_from (n + 1) x es ≡ Some i → (n + 1 ≤ i) × IsEntered es (key_at es (i - (n + 1)))) → (b : Bool)
        → cond b (Some n) (index_from (n + 1) x es) ≡ Some i
        → (n ≤ i) × IsEntered (e ∷ es) (key_at (e ∷ es) (i - n))
    by later true is =
        let same : n ≡ i = cc (is) in
        let none : i - n ≡ 0 = omega (arith, same) in
        (omega (arith, same), subst (λ j. IsEntered (e ∷ es) (key_at (e ∷ es) j)) (sym none) here)
    by later false is =
        let rest = later is in
        let above = rest.0 in
        let more : i - n ≡ suc (i - (n + 1)) = omega (arith, above) in
        let k = key_at es (i - (n + 1)) in (
          omega (arith, above),
          subst (λ j. IsEntered (e ∷ es) (key_at (e ∷ es) j)) (sym more)
              (behind k rest.1 (bytes_eq e.0 k) refl),
        )

at_entered : (s : SessionState) (declared : Option Terms) (o : Option ℕ) → first_index phase.Prewrite s.buffer ≡ o
    → (key : Key)
    → option_map (key_at s.buffer) (option_map (λ (d : Due). d.index) (prewrite_at s declared o)) ≡ Some key
    → IsEntered s.buffer key
at_entered s None o first key is = absurd (cc (is))
at_entered s (Some terms) None first key is = absurd (cc (is))
at_entered s (Some terms) (Some i) first key is =
    let same : key_at s.buffer i ≡ key = cc (is) in
    let none : i - 0 ≡ i = omega arith in
    subst (IsEntered s.buffer) same
    (subst (λ j. IsEntered s.buffer (key_at s.buffer j)) none (index_entered 0 phase.Prewrite s.buffer i first).1)

-- the key that a prewrite is due of
pub due_entered : (first : Entries) (s : SessionState) → KeepsKeys first s.buffer → (key : Key)
    → due_key s phase.Prewrite ≡ Some key → IsEntered first key
due_entered first s keeps key is =
    sym (keeps key) ∙ at_entered s s.declared (first_index phase.Prewrite s.buffer) refl key is

-- ---- stops that name no key

pub miss_names : (entered : Entries) (m : Miss) (s : Stop) → s ≡ stop_of_miss m → NamesEntered entered s
miss_names entered miss.Lost s is = subst (NamesEntered entered) (sym is) tt
miss_names entered miss.Fault s is = subst (NamesEntered entered) (sym is) tt

pub fault_names : (entered : Entries) (f : Fault) (s : Stop) → s ≡ stop.Refused f → NamesEntered entered s
fault_names entered f s is = subst (NamesEntered entered) (sym is) tt
