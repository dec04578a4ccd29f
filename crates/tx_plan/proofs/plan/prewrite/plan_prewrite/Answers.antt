use Rattle.std.proofs.Common.{◌<◌, Option, Some, None, IfSome, inl, inr, refl, sym, ap, ◌∙◌}
use Rattle.tx_plan.specs.declared.answer.Answer.TheVariants.{Prewritten}
use Rattle.tx_plan.specs.declared.key_change.NewLock.{NewLock}
use Rattle.tx_plan.specs.Changes.{new_lock, CanPut}
use Rattle.tx_plan.specs.cases.Prewrite.{read_by_prewrite}
use Rattle.tx_plan.specs.declared.view.LockHead.{LockHead}
use Rattle.tx_types.specs.Locks.{async_min}
use Rattle.tx_plan.specs.Views.{info_on}
use Rattle.tx_plan.proofs.Orders.{not_below, not_true}
use Rattle.tx_plan.proofs.Seen.{own_commit, no_commit, newest, none_above, no_lock}
use Rattle.tx_plan.proofs.plan.prewrite.plan_prewrite.Goals as goal

pub returns-in-Some-clause-answers : goal.returns-in-Some-clause-answers
returns-in-Some-clause-answers c cells commit shows knows =
    let b = c.args.body.now in
    let own = c.in-Some.ensures cells commit shows in
    rw (
      c.given-in-Some.ensures,
      c.async_min.ensures,
    ) (inr (
      not_below b.start c.args.safe c.if-lt.ensures,
      inr (
        not_below c.args.loaded b.start c.if-lt-2.ensures,
        inl (own.lock, own.stands, ap Prewritten (ap (λ (x : LockHead). async_min x.mode x.min) own.shown)),
      ),
    ))

pub returns-in-Some-own_commit-clause-answers : goal.returns-in-Some-own_commit-clause-answers
returns-in-Some-own_commit-clause-answers c cells commit shows knows =
    let b = c.args.body.now in
    rw c.given-in-Some-own_commit.ensures (inr (
      not_below b.start c.args.safe c.if-lt.ensures,
      inr (
        not_below c.args.loaded b.start c.if-lt-2.ensures,
        inr (
          c.in_default.ensures cells commit shows,
          inr (
            λ own. not_true c.is_rolled_back.result c.if-is_rolled_back.false
                ((c.is_rolled_back.ensures cells commit shows).1 own),
            inl (
              c.in-Some-own_commit.commit,
              own_commit cells b.start commit c.args.view.now shows c.in-Some-own_commit.commit
                  c.in-Some-own_commit.is,
              refl,
            ),
          ),
        ),
      ),
    ))

pub returns-in-Some-newest_above-clause-answers : goal.returns-in-Some-newest_above-clause-answers
returns-in-Some-newest_above-clause-answers c cells commit shows knows =
    let b = c.args.body.now in
    let view = c.args.view.now in
    let at = c.in-Some-newest_above.newest in
    let found = newest cells b.start commit view shows at c.in-Some-newest_above.is in
    let free = no_lock cells b.start commit view shows (sym c.is_some.ensures ∙ c.if-is_some.false) in
    rw c.given-in-Some-newest_above.ensures (inr (
      not_below b.start c.args.safe c.if-lt.ensures,
      inr (
        not_below c.args.loaded b.start c.if-lt-2.ensures,
        inr (
          c.in_default.ensures cells commit shows,
          inr (
            λ own. not_true c.is_rolled_back.result c.if-is_rolled_back.false
                ((c.is_rolled_back.ensures cells commit shows).1 own),
            inr (
              no_commit cells b.start commit view shows c.in_default-own_commit.is,
              inr (
                λ lock stands. (cc (free, stands)),
                inl (
                  record { at = at.commit; rec = found.rec; stands = found.stands; above = found.above },
                  (at.start, at.commit, found, refl),
                ),
              ),
            ),
          ),
        ),
      ),
    ))

pub returns-then-finds_value-clause-answers : goal.returns-then-finds_value-clause-answers
returns-then-finds_value-clause-answers c cells commit shows knows =
    let b = c.args.body.now in
    let view = c.args.view.now in
    let free = no_lock cells b.start commit view shows (sym c.is_some.ensures ∙ c.if-is_some.false) in
    let found = c.finds_value.ensures.0 c.if-finds_value.true in
    inr (
      not_below b.start c.args.safe c.if-lt.ensures,
      inr (
        not_below c.args.loaded b.start c.if-lt-2.ensures,
        inr (
          c.in_default.ensures cells commit shows,
          inr (
            λ own. not_true c.is_rolled_back.result c.if-is_rolled_back.false
                ((c.is_rolled_back.ensures cells commit shows).1 own),
            inr (
              no_commit cells b.start commit view shows c.in_default-own_commit.is,
              inr (
                λ lock stands. (cc (free, stands)),
                inr (
                  none_above cells b.start commit view shows c.in_default-newest_above.is,
                  inl ((found.0, (knows found.0).0 found.1), refl),
                ),
              ),
            ),
          ),
        ),
      ),
    )

pub returns-in-Some-clause-read : goal.returns-in-Some-clause-read
returns-in-Some-clause-read c cells commit shows =
    let own = c.in-Some.ensures cells commit shows in
    rw c.given-in-Some.ensures
    (sym (ap (λ o. read_by_prewrite (Prewritten c.async_min.result) o c.args.body.now) own.stands.stands))

pub returns-clause-read : goal.returns-clause-read
returns-clause-read c cells commit shows =
    c.lock_key.ensures.read cells
    (no_lock cells c.args.body.now.start commit c.args.view.now shows (sym c.is_some.ensures ∙ c.if-is_some.false))

pub returns-clause-answers : goal.returns-clause-answers
returns-clause-answers c cells commit shows knows =
    let b = c.args.body.now in
    let view = c.args.view.now in
    let free = no_lock cells b.start commit view shows (sym c.is_some.ensures ∙ c.if-is_some.false) in
    inr (
      not_below b.start c.args.safe c.if-lt.ensures,
      inr (
        not_below c.args.loaded b.start c.if-lt-2.ensures,
        inr (
          c.in_default.ensures cells commit shows,
          inr (
            λ own. not_true c.is_rolled_back.result c.if-is_rolled_back.false
                ((c.is_rolled_back.ensures cells commit shows).1 own),
            inr (
              no_commit cells b.start commit view shows c.in_default-own_commit.is,
              inr (
                λ lock stands. (cc (free, stands)),
                inr (
                  none_above cells b.start commit view shows c.in_default-newest_above.is,
                  inr (
                    λ x. not_true c.finds_value.result c.if-finds_value.false
                        (c.finds_value.ensures.1 (x.0, (knows x.0).1 x.1)),
                    c.lock_key.ensures.answers (info_on cells b.key),
                  ),
                ),
              ),
            ),
          ),
        ),
      ),
    )

pub returns-clause-applies : goal.returns-clause-applies
returns-clause-applies c cells commit shows = by_lock (new_lock c.lock_key.result.change) c.lock_key.ensures.minimum
  where
    by_lock : (o : Option NewLock) → IfSome o (λ new. c.args.body.now.start < new.min)
        → IfSome o (λ new. CanPut cells c.args.body.now new)
    by_lock None e = tt
    by_lock (Some new) e =
        (let b = c.args.body.now in
        let view = c.args.view.now in
        record {
          free = no_lock cells b.start commit view shows (sym c.is_some.ensures ∙ c.if-is_some.false);
          uncommitted = no_commit cells b.start commit view shows c.in_default-own_commit.is;
          not_rolled_back = λ own. not_true c.is_rolled_back.result c.if-is_rolled_back.false
              ((c.is_rolled_back.ensures cells commit shows).1 own);
          above = e;
        })
