use Rattle.std.proofs.Common.{◌≡◌, ℕ, max, inr, List, [], ◌∷◌, Some, None, refl, sym, subst, ◌∙◌, arith}
use Rattle.tx_types.specs.declared.key.Key.{Key}
use Rattle.tx_plan.specs.declared.body.Body.{Body}
use Rattle.tx_plan.specs.declared.body.Body.TheVariants.{Get}
use Rattle.tx_plan.specs.declared.answer.Answer.TheVariants.{Nothing}
use Rattle.tx_plan.specs.Cells.{Region}
use Rattle.tx_plan.specs.cases.Get.{AnswersGet}
use Rattle.tx_core.specs.declared.event.Event.TheVariants.{Took}
use Rattle.tx_core.specs.Histories.{History, last, WasLast}
use Rattle.tx_core.specs.ReadMarks.{max_ts}
use Rattle.tx_core.specs.Recording.{Extends, MayRecord}
use Rattle.tx_core.proofs.seats.Replies.{left_on}
use Rattle.tx_core.proofs.seats.ReadMarks.{taken_raises}
use Rattle.tx_core.proofs.seats.Recording.{may_take}
use Rattle.tx_core.proofs.seats.Stays.{last_was}
use Rattle.tx_journal.specs.Known.{HasSeen}
use Rattle.tx_theory_tests.proofs.journal.read.Goals as goal

-- the read of a key at the last number drawn
abbrev reads : Key → ℕ → Body
reads k n = Get record { key = k; at = n; bypass = [] }

-- a region that has taken nothing finds nothing there
may_read : (l : History) (k : Key) (n : ℕ)
    → Extends 0 [] l → n ≡ last l
    → MayRecord [] 0 l (Took record { region = 0; body = reads k n; loaded = n; answer = Nothing })
may_read l k n g e =
    let none = left_on 0 [] l g in
    may_take [] 0 l record {
      region = 0;
      body = reads k n;
      loaded = n;
      answer = Nothing;
    } refl (omega arith) (λ t h. absurd (omega (arith, h.1))) refl
    (subst (WasLast l) (sym e) (last_was l))
    (subst (λ (r : Region). AnswersGet (r.cells k) r.safe n record { key = k; at = n; bypass = [] } Nothing) (sym none)
    (inr (
      (λ h. omega arith),
      inr ((λ h. omega arith), inr ((λ lock h. cc (h.stands)), (None, refl, λ v h. cc (h.stands)))),
    )))

-- it reads at the last number drawn
reads_at : (l : History) (k : Key) (n : ℕ)
    → max_ts (Took record { region = 0; body = reads k n; loaded = n; answer = Nothing } ∷ l) ≡ max (max_ts l) n
reads_at l k n = taken_raises l record { region = 0; body = reads k n; loaded = n; answer = Nothing } (Some n) refl

pub raise_read-requires-clause-right : goal.raise_read-requires-clause-right
raise_read-requires-clause-right g c =
    let l = c.last-loaded.new.self.events in
    let n = c.last-loaded.result in
    let seen : HasSeen [] 0 [] l =
    subst (λ (p : List Key × ℕ × History). HasSeen p.0 p.1 p.2 l)
    (λ i. (c.requires.one i, c.requires.region.0 i, c.requires.region.1 i)) c.last-loaded.ensures.seen in
    let seat = c.last-loaded.ensures.same.0 ∙ c.requires.region.0 in
    let body : Body = Get record { key = c.args.key; at = n; bypass = c.new.result } in
    subst (λ (p : List Key × ℕ × ℕ × Body). MayRecord p.0 p.1 l (Took record {
      region = p.2;
      body = p.3;
      loaded = n;
      answer = Nothing;
    })) (λ i. (
      sym c.requires.one i,
      sym seat i,
      sym c.new-number.ensures i,
      Get record { key = c.args.key; at = n; bypass = sym c.new.ensures i },
    ))
    (may_read l c.args.key n seen.extends c.last-loaded.ensures.last.0)

pub raise_read-requires-clause-read : goal.raise_read-requires-clause-read
raise_read-requires-clause-read g c =
    let l = c.last-loaded.new.self.events in
    let n = c.last-loaded.result in
    subst (λ (p : ℕ × Body). max_ts (Took record { region = p.0; body = p.1; loaded = n; answer = Nothing } ∷ l) ≡ max
    (max_ts l) n) (λ i. (
      sym c.new-number.ensures i,
      Get record { key = c.args.key; at = n; bypass = sym c.new.ensures i },
    ))
    (reads_at l c.args.key n)
