-- What a reply tells of the request that it answers.
use Rattle.std.proofs.Common.{◌≡◌, List, ◌∷◌, Option, Some, None, ◌∙◌, ap, subst}
use Rattle.std.specs.Prelude.{IfSome}
use Rattle.tx_types.specs.declared.key.Key.{Key}
use Rattle.tx_plan.specs.declared.answer.Answer.{Answer}
use Rattle.tx_core.specs.declared.event.Event.TheVariants.{Took}
use Rattle.tx_core.specs.Histories.{last, Begins}
use Rattle.tx_core.specs.Worlds.{Holds, IsWorldRun}
use Rattle.tx_core.proofs.seats.Beginnings.{begins_more}
use Rattle.tx_journal.specs.Replies.{Asked, Given, IsTold, IsGiven}
use Rattle.tx_store.specs.Stores.{IsAnswered}

pub is_answered : (bounds : List Key) (q : Asked) (g : Given) → g.request ≡ q → IsGiven bounds g
    → IfSome g.answer (IsAnswered bounds q g.events)
is_answered bounds q g same given = go g.answer given.told
  where
    go : (o : Option Answer) → IfSome o (IsTold bounds g) → IfSome o (IsAnswered bounds q g.events)
    go None told = tt
    go (Some a) told =
        let x = told.tells in record {
          region = told.region;
          holds = subst (λ (r : Asked). Holds bounds told.region r.body) same
              (subst (IsWorldRun bounds) x.ends x.run).1.holds;
          loaded = last x.point;
          before = x.before;
          ends = x.ends
              ∙ ap (λ (r : Asked). Took
              (record { region = told.region; body = r.body; loaded = last x.point; answer = a }) ∷ x.before) same;
          after = subst (λ (r : Asked). Begins r.by x.before) same
              (begins_more g.request.by x.point x.before x.sender x.since);
        }
