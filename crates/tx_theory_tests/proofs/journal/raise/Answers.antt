use Rattle.std.proofs.Common.{◌≡◌, ℕ, inr, List, [], ◌∷◌, Some, None, refl, sym, ap, subst, ◌∙◌, arith}
use Rattle.tx_types.specs.declared.key.Key.{Key}
use Rattle.tx_plan.specs.declared.body.Body.{Body}
use Rattle.tx_plan.specs.declared.body.Body.TheVariants.{RaiseSafe}
use Rattle.tx_plan.specs.declared.answer.Answer.{Answer}
use Rattle.tx_plan.specs.declared.answer.Answer.TheVariants.{Raised}
use Rattle.tx_core.specs.declared.event.Event.TheVariants.{Took}
use Rattle.tx_core.specs.Histories.{History, last, WasLast, Begins}
use Rattle.tx_core.specs.ReadMarks.{max_ts}
use Rattle.tx_core.specs.Recording.{Extends, MayRecord}
use Rattle.tx_core.proofs.seats.Replies.{left_on}
use Rattle.tx_core.proofs.seats.ReadMarks.{taken_raises}
use Rattle.tx_core.proofs.seats.Recording.{may_take}
use Rattle.tx_core.proofs.seats.Stays.{last_was}
use Rattle.tx_journal.specs.Known.{HasSeen, HasRecorded}
use Rattle.tx_journal.specs.Replies.{IsGiven}
use Rattle.tx_journal.proofs.Calls.{seen_more}
use Rattle.tx_journal.proofs.Replies.{tells_of, given_of}
use Rattle.tx_theory_tests.proofs.journal.raise.Goals as goal

-- a region that has taken nothing may raise its safe point to 0
may_raise : (bounds : List Key) (l : History) (n : ℕ) → Extends 0 [] l → n ≡ last l
    → MayRecord bounds 0 l (Took record {
      region = 0;
      body = RaiseSafe record { region = 0; safe = 0 };
      loaded = n;
      answer = Raised;
    })
may_raise bounds l n g e =
    let none = ap (λ r. r.safe) (left_on 0 [] l g) in
    may_take bounds 0 l record {
      region = 0;
      body = RaiseSafe record { region = 0; safe = 0 };
      loaded = n;
      answer = Raised;
    } refl (omega arith) tt refl
    (subst (WasLast l) (sym e) (last_was l))
    (inr ((λ h. omega arith), inr ((λ h. omega arith), refl)))

pub record-requires-clause-right : goal.record-requires-clause-right
record-requires-clause-right g c =
    let bounds = g.J.JournalId.bounds in
    let m = c.learn.new.self.events in
    let l = c.last-loaded.new.self.events in
    let first : HasSeen bounds 0 [] m =
    subst (λ (p : ℕ × History). HasSeen bounds p.0 p.1 m) (λ i. (c.requires.region.0 i, c.requires.region.1 i))
    c.learn.ensures.seen in
    let then : HasSeen bounds 0 m l =
    subst (λ n. HasSeen bounds n m l) (c.learn.ensures.same.0 ∙ c.requires.region.0) c.last-loaded.ensures.seen in
    let here = seen_more bounds 0 [] m l first then in
    let seat = c.last-loaded.ensures.same.0 ∙ (c.learn.ensures.same.0 ∙ c.requires.region.0) in
    let region = c.new-number.ensures in
    let body : c.into_parts-by.result.1 ≡ RaiseSafe record { region = 0; safe = 0 } = c.into_parts-by.ensures.parts.1
    ∙ (ap (λ r. r.body) c.requires.copy ∙ c.requires.body) in
    subst (λ (p : ℕ × ℕ × Body). MayRecord bounds p.0 l
    (Took record { region = p.1; body = p.2; loaded = c.last-loaded.result; answer = Raised }))
    (λ i. (sym seat i, sym region i, sym body i))
    (may_raise bounds l c.last-loaded.result here.extends c.last-loaded.ensures.last.0)

-- it reads nothing
unread : (l : History) (n : ℕ)
    → max_ts (Took record { region = 0; body = RaiseSafe record { region = 0; safe = 0 }; loaded = n; answer = Raised }
    ∷ l) ≡ max_ts l
unread l n = taken_raises l record {
  region = 0;
  body = RaiseSafe record { region = 0; safe = 0 };
  loaded = n;
  answer = Raised;
} None refl

pub record-requires-clause-unread : goal.record-requires-clause-unread
record-requires-clause-unread g c =
    let l = c.last-loaded.new.self.events in
    let region = c.new-number.ensures in
    let body : c.into_parts-by.result.1 ≡ RaiseSafe record { region = 0; safe = 0 } = c.into_parts-by.ensures.parts.1
    ∙ (ap (λ r. r.body) c.requires.copy ∙ c.requires.body) in
    subst (λ (p : ℕ × Body). max_ts (Took record {
      region = p.0;
      body = p.1;
      loaded = c.last-loaded.result;
      answer = Raised;
    } ∷ l) ≡ max_ts l) (λ i. (sym region i, sym body i))
    (unread l c.last-loaded.result)

pub new-requires : goal.new-requires
new-requires g c =
    let bounds = g.J.JournalId.bounds in
    let m = c.learn.new.self.events in
    let l = c.last-loaded.new.self.events in
    let asked = c.args.request in
    let first : HasSeen bounds 0 [] m =
    subst (λ (p : ℕ × History). HasSeen bounds p.0 p.1 m) (λ i. (c.requires.region.0 i, c.requires.region.1 i))
    c.learn.ensures.seen in
    let then : HasSeen bounds 0 m l =
    subst (λ n. HasSeen bounds n m l) (c.learn.ensures.same.0 ∙ c.requires.region.0) c.last-loaded.ensures.seen in
    let seat = c.last-loaded.ensures.same.0 ∙ (c.learn.ensures.same.0 ∙ c.requires.region.0) in
    let copied = c.requires.copy in
    let by = c.into_parts-by.ensures.parts.0 ∙ ap (λ r. r.by) copied in
    let body = c.into_parts-by.ensures.parts.1 ∙ ap (λ r. r.body) copied in
    let sender = subst (λ (x : History). Begins x m) by c.learn.ensures.told in
    let added : HasRecorded bounds 0 l (Took record { region = 0; body = asked.body; loaded = last l; answer = Raised })
    c.tell.result = subst (λ (p : ℕ × ℕ × Body × ℕ
    × History). HasRecorded bounds p.0 l (Took record { region = p.1; body = p.2; loaded = p.3; answer = Raised })
    p.4)
    (λ i. (seat i, c.new-number.ensures i, body i, c.last-loaded.ensures.last.0 i, sym c.tell.ensures.told i))
    c.record.ensures.added in
    subst (λ (a : Answer). IsGiven bounds record { request = asked; answer = Some a; events = c.tell.result })
    (sym c.unlocked-answer.ensures)
    (given_of bounds 0 [] asked Raised c.tell.result
    (tells_of bounds 0 [] m l record { request = asked; answer = Some Raised; events = c.tell.result } Raised first
    sender then added))
