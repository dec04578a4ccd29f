-- What may come of a collector's requests.
use Rattle.std.proofs.Common.{◌≡◌, ℕ, List, Option, Some, None, Ok, Err, IfOk, inl, inr, refl, sym, subst, ap, ◌∙◌}
use Rattle.std.specs.Prelude.{Contains}
use Rattle.tx_types.specs.declared.key.Key.{Key}
use Rattle.tx_types.specs.declared.lock.LockInfo.{LockInfo}
use Rattle.tx_plan.specs.declared.body.Body.{Body}
use Rattle.tx_plan.specs.declared.body.Body.TheVariants as request
use Rattle.tx_plan.specs.declared.body.RaiseSafe.{RaiseSafe}
use Rattle.tx_plan.specs.declared.body.LocksBelow.{LocksBelow}
use Rattle.tx_plan.specs.declared.body.Collect.{Collect}
use Rattle.tx_plan.specs.declared.answer.Answer.{Answer}
use Rattle.tx_plan.specs.declared.answer.Answer.TheVariants as answer
use Rattle.tx_plan.specs.Cells.{Region}
use Rattle.tx_plan.specs.Answers.{Answers}
use Rattle.tx_core.specs.Histories.{History}
use Rattle.tx_core.specs.Decisions.{infos_in}
use Rattle.tx_core.specs.Worlds.{IsWorldRun}
use Rattle.tx_core.specs.Laws.{WasToldOf}
use Rattle.tx_journal.specs.Known.{Known}
use Rattle.tx_journal.specs.Replies.{Asked}
use Rattle.tx_transaction.specs.Returns.{Response}
use Rattle.tx_transaction.specs.declared.state.Miss.TheVariants as miss
use Rattle.tx_journal.specs.Senders.{Reached, LosesNothing}
use Rattle.tx_client.specs.Learns.{response_by, response_of}
use Rattle.tx_client.specs.Facts.{WasAnswered, RespondsSo}
use Rattle.tx_client.specs.Calls.{Asks}
use Rattle.tx_resolve.specs.Collection.{listed_by}
use Rattle.tx_resolve.specs.Facts.{IsToRaise, IsToList, IsToCollect}
use Rattle.tx_resolve.proofs.ResolverAnswers.{gave}

-- ---- what the case tables have

raises : (r : Region) (l top : ℕ) (b : RaiseSafe) (a : Answer) → Answers r l top (request.RaiseSafe b) a
    → IsToRaise (Ok a)
raises r l top b a (inl x) = subst (λ (z : Answer). IsToRaise (Ok z)) (sym x.1) tt
raises r l top b a (inr (no0, inl x)) = subst (λ (z : Answer). IsToRaise (Ok z)) (sym x.1) tt
raises r l top b a (inr (no0, inr (no1, is))) = subst (λ (z : Answer). IsToRaise (Ok z)) (sym is) tt

lists : (r : Region) (l top : ℕ) (b : LocksBelow) (a : Answer) → Answers r l top (request.LocksBelow b) a
    → IsToList (Ok a)
lists r l top b a (infos, all, is) = subst (λ (z : Answer). IsToList (Ok z)) (sym is) tt

collects : (r : Region) (l top : ℕ) (b : Collect) (a : Answer) → Answers r l top (request.Collect b) a
    → IsToCollect (Ok a)
collects r l top b a (inl x) = subst (λ (z : Answer). IsToCollect (Ok z)) (sym x.1) tt
collects r l top b a (inr (no0, inl (some, (info, first, is)))) =
    subst (λ (z : Answer). IsToCollect (Ok z)) (sym is) tt
collects r l top b a (inr (no0, inr (no1, (places, all, is)))) =
    subst (λ (z : Answer). IsToCollect (Ok z)) (sym is) tt

-- ---- what comes

-- nothing is lost
pub not_lost : {S : Type 0} (sends : S → Asked → Reached → S → Type 0) → LosesNothing sends
    → (bounds : List Key) (k new : Known) (from to : S) (body : Body) (c : Response)
    → Asks sends bounds k body from to c new → c ≡ Err miss.Lost → ⊥
not_lost sends lossless bounds k new from to body c a lost = go a.reached a.sent (sym a.is ∙ lost)
  where
    said : (o : Option Answer) → response_by o ≡ Err miss.Lost → ⊥
    said None e = cc (e)
    said (Some x) e = cc (e)

    go : (r : Reached) → sends from (record { by = k.events; body = body }) r to → response_of r ≡ Err miss.Lost → ⊥
    go (Err l) sent e = lossless from to (record { by = k.events; body = body }) l sent
    go (Ok g) sent e = said g.answer e

module _ (bounds : List Key) (h : History) (run : IsWorldRun bounds h) where
  pub to_raise : (b : RaiseSafe) (c : Response) → (c ≡ Err miss.Lost → ⊥) → RespondsSo h (request.RaiseSafe b) c
      → IsToRaise c
  to_raise b (Err miss.Lost) not so = not refl
  to_raise b (Err miss.Fault) not so = tt
  to_raise b (Ok a) not so =
      (let g = gave bounds h run (request.RaiseSafe b) a so in raises g.0 g.1 g.2 b a g.3)

  pub to_list : (b : LocksBelow) (c : Response) → (c ≡ Err miss.Lost → ⊥) → RespondsSo h (request.LocksBelow b) c
      → IsToList c
  to_list b (Err miss.Lost) not so = not refl
  to_list b (Err miss.Fault) not so = tt
  to_list b (Ok a) not so =
      (let g = gave bounds h run (request.LocksBelow b) a so in lists g.0 g.1 g.2 b a g.3)

  pub to_collect : (b : Collect) (c : Response) → (c ≡ Err miss.Lost → ⊥) → RespondsSo h (request.Collect b) c
      → IsToCollect c
  to_collect b (Err miss.Lost) not so = not refl
  to_collect b (Err miss.Fault) not so = tt
  to_collect b (Ok a) not so =
      (let g = gave bounds h run (request.Collect b) a so in collects g.0 g.1 g.2 b a g.3)

-- the locks of an answer were told of
pub listed_told : (h : History) (b : Body) (infos : List LockInfo) → WasAnswered h b (answer.Locks infos)
    → (info : LockInfo) → Contains infos info → WasToldOf h info
listed_told h b infos was info has =
    record {
      by = was.by;
      among = was.among;
      told =
          subst (λ (xs : List LockInfo). Contains xs info) (ap infos_in (sym was.told)) has;
    }

pub listed_ok : (h : History) (b : LocksBelow) (c : Response) → RespondsSo h (request.LocksBelow b) c
    → IfOk (listed_by c) (λ infos. (info : LockInfo) → Contains infos info → WasToldOf h info)
listed_ok h b (Ok (answer.Locks infos)) was = listed_told h (request.LocksBelow b) infos was
listed_ok h b _ was = tt
