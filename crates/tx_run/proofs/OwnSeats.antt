-- Each session has a seat of its own.
use Rattle.std.proofs.Common.{◌≡◌, inl, inr, map, false, None, Option, option_map, ℕ, ◌+◌, ◌*◌, ◌<◌, List, [], ◌∷◌, ◌++◌, length, get_or, Some, Result, Ok, Err, IfOk, refl, sym, ap, subst, ◌∙◌, arith, length-append}
use Rattle.std.specs.List.{slice_get}
use Rattle.std.proofs.lemmas.Bool.{cases_lt}
use Rattle.std.proofs.lemmas.List.{get_or_append_left, get_or_push}
use Rattle.std.proofs.lemmas.Option.{slice_get_within, get_or_from_slice_get, slice_get_read, slice_get-get_or, slice_get-map, same_Some}
use Rattle.std.proofs.lemmas.List.{length-map, map-append}
use Rattle.tx_journal.specs.Known.{Known}
use Rattle.tx_run.specs.Jobs.{Working, Output, HaveOwnSeats, AreAnswered, AreFalling, AreFrom, ArePlayed, IsFresh, Promises, WillPlay, job_lines}
use Rattle.tx_types.specs.declared.key.Key.{Key}
use Rattle.tx_run.specs.Played.{SessionPlays, fresh}
use Rattle.tx_run.proofs.Leads.{fresh_plays}
use Rattle.tx_workload.specs.Answers.{Answers}

-- one more job, of a seat two below the last
pub own_push : (last : ℕ) (jobs : List Working) (job : Working) → HaveOwnSeats last jobs → job.number ≡ length jobs
    → job.log.seat + 2 * length jobs ≡ last → IsFresh job → HaveOwnSeats last (jobs ++ job ∷ [])
own_push last jobs job have number seat fresh k j e =
    let within = slice_get_within (jobs ++ job ∷ []) k j e in
    let at : get_or (jobs ++ job ∷ []) k j ≡ j = get_or_from_slice_get (jobs ++ job ∷ []) k j j e in
    elim (cases_lt k (length jobs)) [
      | inl lt ↦ have k j (slice_get_read jobs (length jobs) k j refl lt (sym at
          ∙ get_or_append_left jobs (job ∷ []) j k lt))
      | inr ge ↦
          let is : length jobs ≡ k = omega (arith, within, length-append jobs (job ∷ [])) in
          let same : job ≡ j = sym (get_or_push jobs job j k is) ∙ at in
          subst (λ (x : Working). (x.number ≡ k) × (x.log.seat + 2 * k ≡ last) × IsFresh x) same (
            number ∙ is,
            subst (λ n. job.log.seat + 2 * n ≡ last) is seat,
            fresh,
          )
    ]

-- no two jobs have one number
pub own_distinct : (last : ℕ) (jobs : List Working) → HaveOwnSeats last jobs → (i j : ℕ) (a b : Working)
    → slice_get jobs i ≡ Some a → slice_get jobs j ≡ Some b → a.number ≡ b.number → i ≡ j
own_distinct last jobs own i j a b p q e = sym (own i a p).0 ∙ e ∙ (own j b q).0

-- two lists that are read alike, and one more of each
pub map_push : {A B C : Type 0} (f : A → C) (g : B → C) (xs : List A) (ys : List B) (x : A) (y : B)
    → map f xs ≡ map g ys → f x ≡ g y → map f (xs ++ x ∷ []) ≡ map g (ys ++ y ∷ [])
map_push {A} {B} {C} f g xs ys x y same one =
    map-append f xs (x ∷ []) ∙ ap (λ (l : List C). l ++ f x ∷ []) same ∙ ap (λ (c : C). map g ys ++ c ∷ []) one
    ∙ sym (map-append g ys (y ∷ []))

-- within the list there is an element
there : (jobs : List Working) (n : ℕ) → n < length jobs → slice_get jobs n ≡ None → ⊥
there [] n b e = absurd (omega (arith, b))
there (job ∷ jobs) n b e =
    let is : Some (get_or (job ∷ jobs) n job) ≡ None = sym (slice_get-get_or (job ∷ jobs) n job b) ∙ e in
    absurd (cc)

-- each result is of a lower seat than those before it
pub falling : (last : ℕ) (jobs : List Working) (outputs : List Output) → HaveOwnSeats last jobs
    → length outputs ≡ length jobs
    → ((index : ℕ) (job : Working) (output : Output) → slice_get jobs index ≡ Some job
    → slice_get outputs index ≡ Some output → output.log.seat ≡ job.log.seat) → AreFalling outputs
falling last jobs outputs own len kept i j d lt bound =
    let si = seat_at i (omega arith) in
    let sj = seat_at j bound in
    omega (arith, si, sj)
  where
    seat_of : (n : ℕ) (o : Option Working) → slice_get jobs n ≡ o → n < length jobs → (out : Output)
        → slice_get outputs n ≡ Some out → out.log.seat + 2 * n ≡ last
    seat_of n (Some job) of_job b out of_out = ap (λ m. m + 2 * n) (kept n job out of_job of_out) ∙ (own n job of_job).1
    seat_of n None of_job b out of_out = absurd (there jobs n b of_job)

    seat_at : (n : ℕ) → n < length outputs → (get_or outputs n d).log.seat + 2 * n ≡ last
    seat_at n b = seat_of n (slice_get jobs n) refl (omega (arith, len, b)) (get_or outputs n d)
        (slice_get-get_or outputs n d b)

-- each result answers the lines that its job had
pub answered_lines : (lines : List (List ℕ)) (jobs : List Working) (outputs : List Output) → map job_lines jobs ≡ lines
    → length outputs ≡ length jobs
    → ((index : ℕ) (job : Working) (output : Output) → slice_get jobs index ≡ Some job
    → slice_get outputs index ≡ Some output → Promises job output) → AreAnswered lines outputs
answered_lines lines jobs outputs are len kept = (
  len ∙ sym (length-map jobs job_lines) ∙ ap length are,
  λ k numbers output of_lines of_out unlost.
      from_job k (slice_get jobs k) numbers output refl (sym (slice_get-map job_lines jobs k)
      ∙ ap (λ (l : List (List ℕ)). slice_get l k) are ∙ of_lines) of_out unlost,
)
  where
    from_job : (k : ℕ) (o : Option Working) (numbers : List ℕ) (output : Output) → slice_get jobs k ≡ o
        → option_map job_lines (slice_get jobs k) ≡ Some numbers → slice_get outputs k ≡ Some output
        → output.log.lost ≡ false → Answers numbers output.faulted output.log.replies
    from_job k (Some job) numbers output of_job said of_out unlost =
        let is : job_lines job ≡ numbers =
        same_Some (job_lines job) numbers (sym (ap (option_map job_lines) of_job) ∙ said) in
        subst (λ (l : List ℕ). Answers l output.faulted output.log.replies) is
        ((kept k job output of_job of_out).answers unlost)
    from_job k None numbers output of_job said of_out unlost =
        let none : None ≡ Some numbers = sym (ap (option_map job_lines) of_job) ∙ said in
        absurd (cc)

-- ---- seats in their order

at_end : (xs : List Known) (x : Known) → slice_get (xs ++ x ∷ []) (length xs) ≡ Some x
at_end xs x = slice_get-get_or (xs ++ x ∷ []) (length xs) x (omega (arith, length-append xs (x ∷ [])))
    ∙ ap Some (get_or_push xs x x (length xs) refl)

front_from : (first : ℕ) (all front : List Known) (x : Known) → all ≡ front ++ x ∷ [] → AreFrom first all
    → AreFrom first front
front_from first all front x is from k s e =
    let within = slice_get_within front k s e in
    let there : slice_get (front ++ x ∷ []) k ≡ Some s =
    slice_get-get_or (front ++ x ∷ []) k s (omega (arith, within, length-append front (x ∷ [])))
    ∙ ap Some (get_or_append_left front (x ∷ []) s k within ∙ get_or_from_slice_get front k s s e) in
    from k s (subst (λ l. slice_get l k ≡ Some s) (sym is) there)

module _ (first : ℕ) (all mid rest : List Known) (seat resolver : Known) (one : all ≡ mid ++ seat ∷ []) (two : mid
    ≡ rest ++ resolver ∷ []) (from : AreFrom first all) where
  pub two_rest : AreFrom first rest
  two_rest = front_from first mid rest resolver two (front_from first all mid seat one from)

  last_is : seat ≡ fresh (first + length mid)
  last_is = from (length mid) seat (subst (λ l. slice_get l (length mid) ≡ Some seat) (sym one) (at_end mid seat))

  pub two_fresh : seat ≡ fresh seat.seat
  two_fresh = last_is ∙ ap fresh (sym (ap (λ (x : Known). x.seat) last_is))

  pub two_seat : (seat.seat + 1 ≡ first + length all) × (length rest + 2 ≡ length all)
  two_seat =
      let number : seat.seat ≡ first + length mid = ap (λ (x : Known). x.seat) last_is in
      let a : length all ≡ length mid + 1 = ap length one ∙ length-append mid (seat ∷ []) in
      let b : length mid ≡ length rest + 1 = ap length two ∙ length-append rest (resolver ∷ []) in
      (omega (arith, number, a), omega (arith, a, b))

-- what follows of a value follows of what may be one
pub if_ok : {T E : Type 0} {P Q : T → Type 0} (r : Result T E) → ((x : T) → P x → Q x) → IfOk r P → IfOk r Q
if_ok (Ok x) then_so p = then_so x p
if_ok (Err e) then_so p = tt

-- what follows of two things that hold of a value, where there is one
pub both_ok : {T E : Type 0} (P Q : T → Type 0) (r : Result T E) → IfOk r P → IfOk r Q → IfOk r (λ x. P x × Q x)
both_ok P Q (Ok x) p q = (p, q)
both_ok P Q (Err e) p q = tt

-- seats that were dealt in their order have the numbers from the first one's on, and know nothing
pub from_dealt : (first : ℕ) (seats : List Known)
    → ((k : ℕ) → k < length seats → slice_get seats k ≡ Some (fresh (first + k))) → AreFrom first seats
from_dealt first seats dealt k s e =
    let d = dealt k (slice_get_within seats k s e) in
    sym (get_or_from_slice_get seats k s s e)
    ∙ get_or_from_slice_get seats k (fresh (first + k)) s d

-- each result is of a play from its job's fresh seat
pub played_outputs : (bounds : List Key) (source : Option (List ℕ)) (last : ℕ) (jobs : List Working)
    (outputs : List Output) → HaveOwnSeats last jobs → length outputs ≡ length jobs
    → ((index : ℕ) (job : Working) (output : Output) → slice_get jobs index ≡ Some job
    → slice_get outputs index ≡ Some output → Promises job output × WillPlay bounds source job output)
    → ArePlayed bounds source outputs
played_outputs bounds source last jobs outputs own len kept k output of_out is_known unlost =
    from_job (slice_get jobs k) refl
  where
    from_job : (o : Option Working) → slice_get jobs k ≡ o
        → SessionPlays bounds source output.log.seat output.log.replies output.stage output.last
    from_job (Some job) of_job =
        let both = kept k job output of_job of_out in
        fresh_plays bounds source job output (own k job of_job).2 both.0.seat (both.1.plays is_known)
        unlost
    from_job None of_job =
        absurd (there jobs k (subst (λ (n : ℕ). k < n) len (slice_get_within outputs k output of_out)) of_job)
