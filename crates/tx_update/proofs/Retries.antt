-- How a try ends after tries that came to nothing, so the whole ends.
use Rattle.std.proofs.Common.{◌≡◌, ◌⊎◌, inl, inr, ◌≤◌, ◌+◌, arith, ℕ, zero, suc, true, List, Option, Result, Ok, Err, IfOk, IfErr, refl, sym, ap, subst, ◌∙◌}
use Rattle.tx_types.specs.declared.key.Key.{Key}
use Rattle.tx_core.specs.declared.event.Event.TheVariants.{Answered}
use Rattle.tx_core.specs.Histories.{Begins}
use Rattle.tx_core.proofs.seats.Beginnings.{begins_all, begins_more}
use Rattle.tx_journal.specs.Known.{Known}
use Rattle.tx_transaction.specs.declared.state.Terms.{Terms}
use Rattle.tx_transaction.specs.Buffers.{Entries}
use Rattle.tx_client.specs.Calls.{Seated, BeganAt}
use Rattle.tx_update.specs.declared.failure.Failure.{Failure}
use Rattle.tx_update.specs.declared.ended.Seats.{Seats}
use Rattle.tx_update.specs.declared.ended.Ended.{Ended}
use Rattle.tx_update.specs.declared.ended.Unended.{Unended}
use Rattle.tx_update.specs.declared.ended.Unended.TheVariants.{Spent, Open}
use Rattle.tx_update.specs.declared.stops.Stop.{Stop}
use Rattle.tx_update.specs.Failures.{EndsAt, IsOpenStop, may_go_further}
use Rattle.tx_update.specs.Updates.{HasOutcome, IsWithoutEffect, SeatGoesOn, MayHaveDeclared, Works, ComesToNothing, TriesInVain}
use Rattle.tx_update.specs.Endings.{EndsFrom, EndsOver, IsLastTry, IsOpen, StaysOpen, IsUnended}
use Rattle.tx_update.proofs.CallSequences.{goes_itself, goes_more, goes_begins, began_begins, recorded_begins}
use Rattle.tx_update.proofs.CommitOrder.{known_on}

-- ---- tries in vain

module _ {W O E : Type 0} (does : W → Entries → Result O (Failure E) → Entries → W → Type 0) (bounds : List Key)
    (terms : Terms) where
  one_begins : (old new : Known) (v w : W) → ComesToNothing does bounds terms old new v w → Begins old.events new.events
  one_begins old new v w t =
      let session = t.ends.session in
      begins_more old.events t.begun.seat.events new.events
      (began_begins bounds old t.begun.seat t.begun.state.start t.began)
      (begins_more t.begun.seat.events session.seat.events new.events
      (goes_begins t.begun.seat session.seat t.ends.seat)
      (recorded_begins bounds session.seat.seat session.seat.events new.events (Answered t.start t.end)
      t.ends.recorded.recorded))

  vain_begins : (n : ℕ) (old new : Known) (v w : W) → TriesInVain does bounds terms n old new v w
      → Begins old.events new.events
  vain_begins zero old new v w same =
      subst (λ (k : Known). Begins old.events k.events) (sym same.0) (begins_all old.events)
  vain_begins (suc n) old new v w (mid, x, vain, one) =
      begins_more old.events mid.events new.events (vain_begins n old mid v x vain)
      (one_begins mid new x w one)

  -- from where they left off
  vain_to : (n : ℕ) (old a b : Known) (v w x : W) → (b ≡ a) × (x ≡ w) → TriesInVain does bounds terms n old a v w
      → TriesInVain does bounds terms n old b v x
  vain_to n old a b v w x same vain =
      subst (λ (k : Known). TriesInVain does bounds terms n old k v x) (sym same.0)
      (subst (λ (y : W). TriesInVain does bounds terms n old a v y) (sym same.1) vain)

module _ {J W O E : Type 0} (does : W → Entries → Result O (Failure E) → Entries → W → Type 0) (bounds : List Key)
    (terms : Terms) where
  -- the seats, and the work, after so many tries in vain
  abbrev pub InVain : ℕ → Seats J → W → Seats J → W → Type 0
  InVain n old v new w = TriesInVain does bounds terms n old.begins new.begins v w
      × SeatGoesOn old.resolves new.resolves

  pub vain_itself : (seats : Seats J) (w : W) → InVain 0 seats w seats w
  vain_itself seats w = ((refl, refl), goes_itself seats.resolves)

  -- a session began over the seats, and has no outcome
  pub unended_in : (old : Seats J) (begun session : Seated) (resolves : Known) (value : Option O)
      (stop : Option (Failure E)) (r :
      Result (Ended J O E) (Unended J E)) (v w : W) → BeganAt bounds old.begins begun.state.start begun.seat
      → MayHaveDeclared begun session → Works does bounds terms begun session value stop v w
      → SeatGoesOn old.resolves resolves → IsOpenStop stop ⊎ HasOutcome session → IfErr r (IsOpen session resolves stop)
      → IfErr r (λ (u : Unended J E). IsUnended does bounds terms old v 0 u w)
  unended_in old begun session resolves value stop (Ok e) v w began writes works goes ended is = tt
  unended_in old begun session resolves value stop (Err (Spent s)) v w began writes works goes ended is = absurd is
  unended_in old begun session resolves value stop (Err (Open again same why)) v w began writes works goes ended is = (
    old.begins,
    v,
    (refl, refl),
    subst (λ (s : Seated). StaysOpen does bounds terms old.begins s why v w) (sym is.1)
        (record {
          begun = begun;
          began = began;
          seat = writes.seat;
          start = writes.start;
          value = value;
          works = subst (λ (o : Option (Failure E)). Works does bounds terms begun session value o v w) (sym is.3)
              works;
          none = is.0;
          stopped = elim ended [
            | inl refused ↦ subst (λ (o : Option (Failure E)). IsOpenStop o) (sym is.3) refused
            | inr outcome ↦ absurd (outcome is.0)
          ];
        }),
    subst (λ (k : Known). SeatGoesOn old.resolves k) (sym is.2) goes,
  )

  pub unended_after : (n again : ℕ) → n ≤ again → (old mid : Seats J) (u : Unended J E) (v x w : W)
      → InVain n old v mid x → IsUnended does bounds terms mid x 0 u w → (m : ℕ) × (m ≤ again)
      × IsUnended does bounds terms old v m u w
  unended_after n again le old mid (Spent s) v x w (vain, goes) is = (
    n,
    le,
    (
      vain_to does bounds terms n old.begins mid.begins s.begins v x w is.0 vain,
      goes_more old.resolves mid.resolves s.resolves goes is.1,
      is.2,
    ),
  )
  unended_after n again le old mid (Open session resolves stop) v x w (vain, goes)
      (last, between, same, stays, on) = (
        n,
        le,
        (
          last,
          between,
          vain_to does bounds terms n old.begins mid.begins last v x between same vain,
          stays,
          goes_more old.resolves mid.resolves resolves goes on,
        ),
      )

  pub if_unended_after : (n again : ℕ) → n ≤ again
      → (old mid : Seats J) (r : Result (Ended J O E) (Unended J E)) (v x w : W)
      → InVain n old v mid x
      → IfErr r (λ (u : Unended J E). IsUnended does bounds terms mid x 0 u w)
      → IfErr r (λ (u : Unended J E). (m : ℕ) × (m ≤ again) × IsUnended does bounds terms old v m u w)
  if_unended_after n again le old mid (Ok e) v x w vain is = tt
  if_unended_after n again le old mid (Err u) v x w vain is = unended_after n again le old mid u v x w vain is

  -- a session began over the seats, and finished
  pub ended_over : (old : Seats J) (begun session : Seated) (resolves : Known) (value : Option O)
      (stop : Option (Failure E)) (r :
      Result (Ended J O E) (Unended J E)) (v w : W) → BeganAt bounds old.begins begun.state.start begun.seat
      → MayHaveDeclared begun session → Works does bounds terms begun session value stop v w
      → SeatGoesOn old.resolves resolves
      → IfOk r (EndsFrom bounds begun.seat session resolves value stop)
      → IfOk r (λ (e : Ended J O E). EndsOver does bounds terms old v 0 e w)
  ended_over old begun session resolves value stop (Err u) v w began writes works goes is = tt
  ended_over old begun session resolves value stop (Ok e) v w began writes works goes (ends, is, at, same, why) =
      record {
        last = old.begins;
        between = v;
        vain = (refl, refl);
        begun = begun;
        began = began;
        ends = ends;
        start = sym ends.start ∙ (ap (λ (s : Seated). s.state.start) is ∙ writes.start);
        works = subst (λ (s : Seated). Works does bounds terms begun s e.value e.stop v w) (sym is)
            (subst (λ (o : Option (Failure E)). Works does bounds terms begun session e.value o v w) (sym why)
            (subst (λ (o : Option O). Works does bounds terms begun session o stop v w) (sym same) works));
        above = known_on old.begins.events begun.seat.events
            (began_begins bounds old.begins begun.seat begun.state.start began) e.outcome ends.above;
        resolves = subst (λ (k : Known). SeatGoesOn old.resolves k) (sym at) goes;
      }

  -- tries before it were in vain
  pub over_after : (n again : ℕ) → n ≤ again → (old mid : Seats J) (e : Ended J O E) (v x w : W)
      → InVain n old v mid x → EndsOver does bounds terms mid x 0 e w → e.retries ≡ n
      → (e.retries ≤ again) × EndsOver does bounds terms old v e.retries e w
  over_after n again le old mid e v x w (vain, goes) over count = subst
      (λ (m : ℕ). (m ≤ again) × EndsOver does bounds terms old v m e w) (sym count) (
        le,
        record {
          last = over.last;
          between = over.between;
          vain = vain_to does bounds terms n old.begins mid.begins over.last v x over.between over.vain vain;
          begun = over.begun;
          began = over.began;
          ends = over.ends;
          start = over.start;
          works = over.works;
          above = known_on old.begins.events mid.begins.events
              (vain_begins does bounds terms n old.begins mid.begins v x vain) e.outcome over.above;
          resolves = goes_more old.resolves mid.resolves e.seats.resolves goes over.resolves;
        },
      )

  pub if_over_after : (n again : ℕ) → n ≤ again → (old mid : Seats J) (r : Result (Ended J O E) (Unended J E))
      (v x w : W)
      → InVain n old v mid x
      → IfOk r (λ (e : Ended J O E). EndsOver does bounds terms mid x 0 e w)
      → IfOk r (λ (e : Ended J O E). e.retries ≡ n)
      → IfOk r (λ (e : Ended J O E). (e.retries ≤ again) × EndsOver does bounds terms old v e.retries e w)
  if_over_after n again le old mid (Ok e) v x w vain over count =
      over_after n again le old mid e v x w vain over count
  if_over_after n again le old mid (Err u) v x w vain over count = tt

  -- one more in vain
  pub vain_again : (n : ℕ) (old mid : Seats J) (e : Ended J O E) (v x w : W) → InVain n old v mid x
      → EndsOver does bounds terms mid x 0 e w → IsWithoutEffect e.outcome → may_go_further e.outcome e.stop ≡ true
      → InVain (n + 1) old v e.seats w
  vain_again n old mid e v x w (vain, goes) over none passes =
      let up : suc n ≡ n + 1 = omega arith in
      subst (λ (m : ℕ). InVain m old v e.seats w) up (
        (
          over.last,
          over.between,
          vain_to does bounds terms n old.begins mid.begins over.last v x over.between over.vain vain,
          record {
            begun = over.begun;
            began = over.began;
            start = e.start;
            end = e.outcome;
            ends = over.ends;
            same = over.start;
            nothing = over.ends.nothing none;
            value = e.value;
            stop = e.stop;
            passes = passes;
            works = over.works;
          },
        ),
        goes_more old.resolves mid.resolves e.seats.resolves goes over.resolves,
      )

-- ---- the last try

module _ {J W O E : Type 0} (stops_at : W → ℕ → Stop → Type 0) (again : ℕ) where
  -- the work is not to be tried again
  pub last_says : (n : ℕ) (e : Ended J O E) (w : W) → e.retries ≡ n → EndsAt stops_at w (n + 1) e.stop
      → IsLastTry stops_at again e.retries e w
  last_says n e w count says =
      inr (inr (subst (λ (m : ℕ). EndsAt stops_at w (m + 1) e.stop) (sym count) says))

  -- no other may be made
  pub if_last_all : (r : Result (Ended J O E) (Unended J E)) (w : W) → IfOk r (λ (e : Ended J O E). e.retries ≡ again)
      → IfOk r (λ (e : Ended J O E). IsLastTry stops_at again e.retries e w)
  if_last_all (Ok e) w count = inl count
  if_last_all (Err u) w count = tt
