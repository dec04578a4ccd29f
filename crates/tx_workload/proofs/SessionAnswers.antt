-- The answers of one session, as its seat goes on.
use Rattle.std.proofs.Common.{◌≡◌, ◌≢◌, inl, inr, ℕ, Bool, true, false, Result, if◌then◌else◌, List, [], ◌∷◌, ◌++◌, All, get_or, Option, Some, refl, sym, ap, subst, ◌∙◌}
use Rattle.std.specs.Prelude.{◌||◌, not}
use Rattle.std.proofs.lemmas.List.Elements.{All-push}
use Rattle.std.proofs.lemmas.List.Quantifiers.{all_pairs_push}
use Rattle.tx_types.specs.declared.key.Key.{Key}
use Rattle.tx_types.specs.declared.fault.Cause.{Cause}
use Rattle.tx_core.specs.declared.event.Outcome.{Outcome}
use Rattle.tx_core.specs.declared.event.Event.TheVariants.{Answered}
use Rattle.tx_core.specs.Histories.{History, Among, Begins, answered}
use Rattle.tx_core.specs.Worlds.{IsWorldRun}
use Rattle.tx_core.proofs.Basics.{nat_same}
use Rattle.tx_core.proofs.seats.Beginnings.{begins_more, begins_all, extends_begins}
use Rattle.tx_core.proofs.seats.Stays.{drawer_on, answered_on, among_on}
use Rattle.tx_journal.specs.Known.{Known}
use Rattle.tx_client.specs.Calls.{Records}
use Rattle.tx_transfer.specs.declared.plain_reply.PlainReply.{PlainReply}
use Rattle.tx_workload.specs.declared.reply.LineAnswer.{LineAnswer}
use Rattle.tx_workload.specs.declared.reply.LineAnswer.TheVariants.{Plain, Ended}
use Rattle.tx_workload.specs.declared.reply.LineReply.{LineReply}
use Rattle.tx_transfer.specs.Transfers.{IsBetween}
use Rattle.tx_workload.specs.Outcomes.{start_of, AreApart}
use Rattle.tx_transfer.proofs.TransferWrites.{between_on}
use Rattle.tx_workload.specs.Logs.{CanTell, IsAnswered, StandsBy, TellsBy, TellsNone, Logged}

-- ---- more is known

pub stands_on : (bounds : List Key) (h n : History) → IsWorldRun bounds n → Begins h n → (seat : ℕ) (r : LineAnswer)
    → StandsBy h seat r → StandsBy n seat r
stands_on bounds h n run more seat (Ended start o keys) is =
    record {
      drew = drawer_on bounds h n run more start seat is.drew;
      among =
          among_on h n more (Answered start o) is.among;
      between = between_on bounds h n run more start o keys is.between;
    }
stands_on bounds h n run more seat (Plain plain) is = tt

pub tells_on : (bounds : List Key) (h n : History) → IsWorldRun bounds n → Begins h n → (seat : ℕ) (xs : List LineReply)
    → TellsBy h seat xs → TellsBy n seat xs
tells_on bounds h n run more seat xs is =
    record { told = λ k d lt. stands_on bounds h n run more seat _ (is.told k d lt); apart = is.apart }

-- ---- one more is told

pub told_more : (h : History) (seat : ℕ) (xs : List LineReply) (x : LineReply) → TellsBy h seat xs
    → StandsBy h seat x.answer → All (λ s. AreApart s x) xs → TellsBy h seat (xs ++ x ∷ [])
told_more h seat xs x is stands apart = record {
  told = All-push (λ s. StandsBy h seat s.answer) xs x is.told stands;
  apart = all_pairs_push AreApart xs x is.apart apart;
}

-- an answer was added where there was room
pub told_if : (h : History) (seat : ℕ) (xs ys : List LineReply) (x : LineReply) (added : Bool)
    → ys ≡ (if added then xs ++ x ∷ [] else xs) → TellsBy h seat xs → StandsBy h seat x.answer
    → All (λ s. AreApart s x) xs → TellsBy h seat ys
told_if h seat xs ys x true is tells stands apart =
    subst (λ (l : List LineReply). TellsBy h seat l) (sym is) (told_more h seat xs x tells stands apart)
told_if h seat xs ys x false is tells stands apart = subst (λ (l : List LineReply). TellsBy h seat l) (sym is) tells

pub plain_apart : (plain : Result PlainReply Cause) (number : ℕ) (xs : List LineReply)
    → All (λ s. AreApart s (record { number = number; answer = Plain plain })) xs
plain_apart plain number xs k d lt t a b = absurd (cc (b))

pub none_apart : (start : ℕ) (o : Outcome) (keys : Option (Key × Key)) (number : ℕ) (xs : List LineReply)
    → TellsNone start xs → All (λ s. AreApart s (record { number = number; answer = Ended start o keys })) xs
none_apart start o keys number xs none k d lt t a b = none k d lt (a ∙ sym b)

-- ---- a transaction is answered once

pub answered_of : (h : History) (t : ℕ) (o : Outcome) → Among h (Answered t o) → answered h t ≡ true
answered_of [] t o is = absurd is
answered_of (x ∷ h) t o is = elim is [
  | inl same ↦ subst (λ e. answered (e ∷ h) t ≡ true) (sym same) (rw (nat_same t) refl)
  | inr more ↦ answered_on h (x ∷ h) (inr (begins_all h)) t (answered_of h t o more)
]

pub fresh : (bounds : List Key) (h n : History) (seat t : ℕ) (o : Outcome) (xs : List LineReply)
    → IsWorldRun bounds (Answered t o ∷ n) → Begins h n → TellsBy h seat xs → TellsNone t xs
fresh bounds h n seat t o xs run more is k d lt = not_this (get_or xs k d).answer (is.told k d lt)
  where
    not_this : (r : LineAnswer) → StandsBy h seat r → start_of r ≢ Some t
    not_this (Ended u p keys) stands e =
        let is_u : u ≡ t = cc in
        let before : answered n t ≡ true =
        subst (λ v. answered n v ≡ true) is_u (answered_on h n more u (answered_of h u p stands.among)) in
        let first : answered n t ≡ false = run.1.1 in
        absurd (cc)
    not_this (Plain plain) stands e = absurd (cc)

-- ---- an outcome is told

-- a session that had heard what its log was told was answered so, and its seat is the log's
pub can_tell : (bounds : List Key) (l : Logged) (k : Known) (t : ℕ) (o : Outcome) (keys : Option (Key × Key)) (n :
    Known) → Begins l.told k.events → Records bounds k (Answered t o) n → n.seat ≡ l.seat → IsBetween k.events t o keys
    → TellsBy l.told l.seat l.replies → CanTell l t o keys n
can_tell bounds l k t o keys n knew r same between tells =
    let before : Begins l.told r.recorded.before =
    begins_more l.told k.events r.recorded.before knew
    (extends_begins k.seat k.events r.recorded.before r.recorded.extends) in
    let seat : k.seat ≡ l.seat = sym r.number ∙ same in
    let run : IsWorldRun bounds (Answered t o ∷ r.recorded.before) =
    subst (λ h. IsWorldRun bounds h) r.recorded.is r.recorded.run in
    record {
      knows = subst (λ h. Begins l.told h) (sym r.recorded.is) (inr before);
      answered = subst (λ h. IsAnswered h l.seat t o keys) (sym r.recorded.is)
          (record {
            drew = r.recorded.own ∙ ap Some seat;
            among = inl refl;
            between =
                between_on bounds k.events (Answered t o
                ∷ r.recorded.before) run (inr (extends_begins k.seat k.events r.recorded.before r.recorded.extends)) t o
                keys
                between;
          });
      fresh = fresh bounds l.told r.recorded.before l.seat t o l.replies run before tells;
    }

-- ---- an answer is kept, or lost

pub kept_if : (lost : Bool) (xs ys : List LineReply) (x : LineReply) (added : Bool)
    → ys ≡ (if added then xs ++ x ∷ [] else xs) → (lost || not added) ≡ false → (lost ≡ false) × (ys ≡ xs ++ x ∷ [])
kept_if false xs ys x true is e = (refl, is)
kept_if false xs ys x false is e = absurd (cc)
kept_if true xs ys x added is e = absurd (cc)
