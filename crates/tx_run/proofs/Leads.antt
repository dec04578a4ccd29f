-- What a job's answers are, as it goes on, is what a play of its lines comes to.
use Rattle.std.proofs.Common.{◌≡◌, inl, inr, ℕ, ◌-◌, List, [], ◌∷◌, ◌++◌, true, false, Option, Some, None, Result, Ok, Err, option_map, option_and_then, refl, sym, ap, subst, ◌∙◌, append_assoc, append-nil}
use Rattle.std.specs.Prelude.{is_some, slice_get}
use Rattle.std.proofs.lemmas.Option.{same_Some}
use Rattle.serde_json.specs.Data.{Data}
use Rattle.tx_types.specs.declared.fault.Cause.{Cause}
use Rattle.tx_types.specs.declared.fault.Cause.TheVariants.{Order}
use Rattle.tx_types.specs.declared.key.Key.{Key}
use Rattle.tx_core.specs.Histories.{History}
use Rattle.tx_client.specs.Calls.{Seated}
use Rattle.tx_run.proofs.Played.{kept_told}
use Rattle.tx_ops.specs.declared.stage.SessionStage.{SessionStage}
use Rattle.tx_journal.specs.Known.{Known}
use Rattle.tx_steps.specs.declared.program.Program.TheVariants.{Run}
use Rattle.tx_steps.specs.declared.step.Step.{Step}
use Rattle.tx_steps.specs.declared.step.Step.TheVariants as step
use Rattle.tx_steps.specs.declared.transfer.Transfer.{Transfer}
use Rattle.tx_steps.specs.Steps.{Text}
use Rattle.tx_steps.specs.Lines.{data_said, step_in}
use Rattle.tx_text.specs.Lines.{lines_of}
use Rattle.tx_evidence.specs.Lines.{step_by}
use Rattle.tx_transfer.specs.Sources.{HasTransfer, transfer_in, transfer_of}
use Rattle.tx_transfer.specs.TransferSteps.{Moving, Steps, starting}
use Rattle.tx_transfer.specs.Steps.{Begun}
use Rattle.tx_transfer.specs.declared.progress.TransferProgress.{TransferProgress}
use Rattle.tx_transfer.specs.declared.progress.TransferProgress.TheVariants as progress
use Rattle.tx_transfer.proofs.TransferSteps.{steps_more}
use Rattle.tx_transfer.proofs.SaidTransfers.{from_step}
use Rattle.tx_workload.specs.declared.reply.LineAnswer.{LineAnswer}
use Rattle.tx_workload.specs.declared.reply.LineAnswer.TheVariants.{Plain}
use Rattle.tx_workload.specs.declared.reply.LineReply.{LineReply}
use Rattle.tx_workload.specs.Logs.{KeepsAnswer, Logged, answer_to}
use Rattle.tx_workload.specs.Steps.{Says}
use Rattle.tx_transfer.specs.declared.plain_reply.PlainReply.{PlainReply}
use Rattle.tx_run.specs.Jobs.{AdvancesSo, IsFresh, Output, Working}
use Rattle.tx_run.specs.Transfers.{HearsMore, IsGivenUp, Transfers}
use Rattle.tx_run.specs.Played.{EndsTransfer, IsPlayed, IsStageOf, Leads, LinePlays, PlayedFrom, Plays, PlaysOne, PlaysOut, SaysTransfer, SessionPlays, Standing, StopsSo, Where, at, away, free, fresh, is_away, is_moving, known_at, live, moving}

-- ---- a line that says a transfer

from_data : (d : Result Data Cause) (what : Transfer Text) → transfer_in d ≡ Some what
    → (name : Text) × (step_by Run d ≡ Some (step.Transfer name what))
from_data (Ok d) what e = from_step (step_in Run d) what e
from_data (Err c) what e = absurd (cc (e))

from_line : (number : ℕ) (o : Option (List ℕ)) (what : Transfer Text)
    → option_map (λ line. transfer_in (data_said number line)) o ≡ Some (Some what)
    → (name : Text)
    × (option_and_then (λ line. step_by Run (data_said number line)) o ≡ Some (step.Transfer name what))
from_line number None what e = absurd (cc (e))
from_line number (Some line) what e =
    from_data (data_said number line) what (same_Some (transfer_in (data_said number line)) (Some what) e)

-- a line of a known text that says what is moved says a step
pub says_transfer : (source : Option (List ℕ)) (number : ℕ) (what : Transfer Text)
    → HasTransfer source number (Some what) → is_some source ≡ true → SaysTransfer source number what
says_transfer None number what has known = absurd (cc (known))
says_transfer (Some text) number what has known = from_line number (slice_get (lines_of text) (number - 1)) what has

said_in : (said : Result Data Cause) (what : Step Text) → step_by Run said ≡ Some what
    → transfer_in said ≡ transfer_of what
said_in (Ok d) what e = ap (option_and_then transfer_of) e
said_in (Err c) what e = absurd (cc (e))

-- and the other way
pub has_transfer : (source : Option (List ℕ)) (number : ℕ) (what : Step Text) → Says source number (Some what)
    → HasTransfer source number (transfer_of what)
has_transfer None number what says = tt
has_transfer (Some text) number what says = by (slice_get (lines_of text) (number - 1)) says
  where
    by : (o : Option (List ℕ)) → option_and_then (λ line. step_by Run (data_said number line)) o ≡ Some what
        → option_map (λ line. transfer_in (data_said number line)) o ≡ Some (transfer_of what)
    by None e = absurd (cc (e))
    by (Some line) e = ap Some (said_in (data_said number line) what e)

-- a transfer was left as it is
pub ends_stopped : (bounds : List Key) (m : Moving) (p : TransferProgress) (s : Seated) (plain : PlainReply)
    (old mid new : Logged) (stands : Where) → StopsSo bounds s m.number plain mid new stands
    → HearsMore bounds m.session s → IsGivenUp m p plain.reply → mid.lost ≡ old.lost → mid.replies ≡ old.replies
    → EndsTransfer bounds m p old new stands
ends_stopped bounds m p s plain old mid new stands stopped heard given lost same = record {
  answer = Plain (Ok plain);
  seat = stopped.seat;
  there = stopped.there;
  kept = kept_told old mid new m.number (Plain (Ok plain)) lost same stopped.kept;
  ends = (given, (s, heard, stopped.left));
}

moving_at : Moving → Where → Moving
moving_at else (at s) = else
moving_at else (moving m) = m
moving_at else away = else

-- one place is one transfer
same_moving : (a b : Moving) → moving a ≡ moving b → a ≡ b
unfolding moving_at
same_moving a b is = ap (moving_at a) is

-- a transfer went on no more from where the job stood, as its state was taken
pub ended_at : (bounds : List Key) (a b m : Moving) (p q : TransferProgress) (old mid new : Logged) (stands : Where)
    → moving a ≡ moving m → b ≡ a → p ≡ q → mid ≡ old → EndsTransfer bounds b q mid new stands
    → EndsTransfer bounds m p old new stands
ended_at bounds a b m p q old mid new stands there inner is same ends =
    subst (λ (l : Logged). EndsTransfer bounds m p l new stands) same
    (subst (λ (r : TransferProgress). EndsTransfer bounds m r mid new stands) (sym is)
    (subst (λ (n : Moving). EndsTransfer bounds n q mid new stands) (inner ∙ same_moving a m there) ends))

module _ (bounds : List Key) (source : Option (List ℕ)) where
  -- ---- step after step

  pub leads_same : (from to : Where) (old new : Logged) → is_away from ≡ false → to ≡ from → new ≡ old
      → Leads bounds source from old new to
  leads_same from to old new here same is = record {
    stands = ap is_away same ∙ here;
    leads = λ e. record {
      kept = ap (λ (l : Logged). l.lost) (sym is) ∙ e;
      more = [];
      all = ap (λ (l : Logged). l.replies) is ∙ sym (append-nil old.replies);
      leads = λ rest last played. subst (λ (w : Where). PlayedFrom bounds source w rest last) same played;
    };
  }

  pub leads_trans : (a b c : Where) (x y z : Logged) → Leads bounds source a x y b → Leads bounds source b y z c
      → Leads bounds source a x z c
  leads_trans a b c x y z first then = record {
    stands = then.stands;
    leads = λ e.
        let v = then.leads e in
        let u = first.leads v.kept in
        record {
          kept = u.kept;
          more = u.more ++ v.more;
          all = v.all ∙ ap (λ (l : List LineReply). l ++ v.more) u.all ∙ append_assoc x.replies u.more v.more;
          leads = λ rest last played.
              subst (λ (l : List LineReply). PlayedFrom bounds source a l last)
              (sym (append_assoc u.more v.more rest))
              (u.leads (v.more ++ rest) last (v.leads rest last played));
        };
  }

  -- a line is answered
  pub leads_one : (from : Standing) (number : ℕ) (old new : Logged) (stands : Where)
      → PlaysOne bounds source from number old new stands → Leads bounds source (at from) old new stands
  leads_one from number old new stands one = record {
    stands = ap is_away one.there;
    leads = λ e. record {
      kept = (one.kept e).0;
      more = answer_to number one.answer ∷ [];
      all = (one.kept e).1;
      leads = λ rest last played. (
        one.to,
        one.plays,
        subst (λ (w : Where). PlayedFrom bounds source w rest last) one.there played,
      );
    };
  }

  pub played_leads : (from : Standing) (number : ℕ) (old new : Logged) (stands : Where)
      → IsPlayed bounds source from number old new stands → Leads bounds source (at from) old new stands
  played_leads from number old new stands (inl one) = leads_one from number old new stands one
  played_leads from number old new stands (inr leads) = leads

  -- ---- transfers

  -- where one begins, the first line that is played from there is its own
  begins_moving : (k : Known) (what : Transfer Text) (number : ℕ) (b t : Seated) → SaysTransfer source number what
      → Begun bounds k b → HearsMore bounds b t → (rest : List LineReply) (last : Standing)
      → PlayedFrom bounds source (moving (starting number what t)) rest last → Plays bounds source (free k) rest last
  begins_moving k what number b t says begun hears [] last played = absurd played
  begins_moving k what number b t says begun hears (s ∷ rest) last (seat, is, ends, plays) = (
    free seat,
    record {
      what = step.Transfer says.0 what;
      says = subst (λ (n : ℕ). Says source n (Some (step.Transfer says.0 what))) (sym is) says.1;
      here = free k;
      hears = inl refl;
      there = free seat;
      turns = inl (inl (inr (b, t, number, begun, hears, inr ends)));
      heard = inl refl;
    },
    plays,
  )

  -- one begins
  pub leads_moving : (k : Known) (what : Transfer Text) (number : ℕ) (b t : Seated) (old new : Logged) (stands : Where)
      → SaysTransfer source number what → Begun bounds k b → HearsMore bounds b t
      → stands ≡ moving (starting number what t) → new.lost ≡ old.lost → new.replies ≡ old.replies
      → Leads bounds source (at (free k)) old new stands
  leads_moving k what number b t old new stands says begun hears there lost same = record {
    stands = ap is_away there;
    leads = λ e. record {
      kept = sym lost ∙ e;
      more = [];
      all = same ∙ sym (append-nil old.replies);
      leads = λ rest last played. begins_moving k what number b t says begun hears rest last
          (subst (λ (w : Where). PlayedFrom bounds source w rest last) there played);
    };
  }

  -- one is answered as it begins
  pub leads_told : (k : Known) (what : Transfer Text) (number : ℕ) (answer : LineAnswer) (seat : Known)
      (old new : Logged) (stands : Where) → SaysTransfer source number what → stands ≡ at (free seat)
      → KeepsAnswer old number answer new → Transfers bounds what k answer seat
      → Leads bounds source (at (free k)) old new stands
  leads_told k what number answer seat old new stands says there kept told = leads_one (free k) number old new stands
      (record {
        answer = answer;
        to = free seat;
        there = there;
        kept = kept;
        plays = record {
          what = step.Transfer says.0 what;
          says = says.1;
          here = free k;
          hears = inl refl;
          there = free seat;
          turns = inl (inl told);
          heard = inl refl;
        };
      })

  -- there is no memory to keep it in
  pub leads_over : (k : Known) (what : Transfer Text) (number : ℕ) (b t : Seated) (old mid new : Logged)
      (stands : Where) → SaysTransfer source number what → Begun bounds k b → HearsMore bounds b t
      → mid.lost ≡ old.lost → mid.replies ≡ old.replies
      → EndsTransfer bounds (starting number what t) progress.OutOfMemory mid new stands
      → Leads bounds source (at (free k)) old new stands
  leads_over k what number b t old mid new stands says begun hears lost same ends =
      leads_told k what number ends.answer ends.seat old new stands says ends.there
      (kept_told old mid new number ends.answer lost same ends.kept)
      (inr (b, t, number, begun, hears, inl ends.ends))

  -- one is out of order
  pub leads_order : (from : Standing) (what : Transfer Text) (number : ℕ) (old new : Logged) (stands : Where)
      → SaysTransfer source number what → (s : Seated) → from ≡ live s → stands ≡ at from
      → KeepsAnswer old number (Plain (Err Order)) new
      → Leads bounds source (at from) old new stands
  leads_order from what number old new stands says s is there kept =
      leads_one from number old new stands (record {
        answer = Plain (Err Order);
        to = from;
        there = there;
        kept = kept;
        plays = subst (λ (f : Standing). LinePlays bounds source f (answer_to number (Plain (Err Order))) f) (sym is)
            (record {
              what = step.Transfer says.0 what;
              says = says.1;
              here = live s;
              hears = inl refl;
              there = live s;
              turns = inl (refl, (refl, refl));
              heard = inl refl;
            });
      })

  -- one that is on its way goes on
  steps_played : (m n : Moving) → Steps bounds m progress.More n → n.number ≡ m.number → (rest : List LineReply)
      (last : Standing) → PlayedFrom bounds source (moving n) rest last → PlayedFrom bounds source (moving m) rest last
  steps_played m n steps same [] last played = absurd played
  steps_played m n steps same (s ∷ rest) last (seat, is, (o, p, more, ends), plays) =
      (seat, is ∙ same, (o, p, steps_more bounds m n o p steps more, ends), plays)

  pub leads_steps : (m n : Moving) (old new : Logged) → Steps bounds m progress.More n → n.number ≡ m.number
      → new ≡ old → Leads bounds source (moving m) old new (moving n)
  leads_steps m n old new steps same is = record {
    stands = refl;
    leads = λ e. record {
      kept = ap (λ (l : Logged). l.lost) (sym is) ∙ e;
      more = [];
      all = ap (λ (l : Logged). l.replies) is ∙ sym (append-nil old.replies);
      leads = λ rest last played. steps_played m n steps same rest last played;
    };
  }

  -- it goes on no more
  pub leads_ended : (m n : Moving) (p : TransferProgress) (old mid new : Logged) (stands : Where)
      → Steps bounds m p n → n.number ≡ m.number → mid ≡ old → EndsTransfer bounds n p mid new stands
      → Leads bounds source (moving m) old new stands
  leads_ended m n p old mid new stands steps same is ends = record {
    stands = ap is_away ends.there;
    leads = λ e.
        let kept = kept_told old mid new n.number ends.answer (ap (λ (l : Logged). l.lost) is)
        (ap (λ (l : Logged). l.replies) is) ends.kept e in
        record {
          kept = kept.0;
          more = answer_to n.number ends.answer ∷ [];
          all = kept.1;
          leads = λ rest last played. (
            ends.seat,
            same,
            (n, p, steps, ends.ends),
            subst (λ (w : Where). PlayedFrom bounds source w rest last) ends.there played,
          );
        };
  }

  -- what comes of the transfer that is on its way, if one is: it goes on
  pub advance_leads : (p : TransferProgress) (old mid : Working) → AdvancesSo bounds old p mid → p ≡ progress.More
      → is_away old.stands ≡ false → Leads bounds source old.stands old.log mid.log mid.stands
  advance_leads p old mid (inl (none, more, same)) is here =
      leads_same old.stands mid.stands old.log mid.log here (ap (λ (w : Working). w.stands) same)
      (ap (λ (w : Working). w.log) same)
  advance_leads p old mid (inr (m, n, there, steps, number, same)) is here =
      subst (λ (w : Where). Leads bounds source w old.log mid.log mid.stands) (sym there)
      (subst (λ (w : Where). Leads bounds source (moving m) old.log mid.log w)
      (sym (ap (λ (w : Working). w.stands) same))
      (leads_steps m n old.log mid.log (subst (λ (q : TransferProgress). Steps bounds m q n) is steps) number
      (ap (λ (w : Working). w.log) same)))

  -- or it goes on no more
  pub advance_ends : (p : TransferProgress) (old mid new : Working) → AdvancesSo bounds old p mid
      → (p ≡ progress.More → ⊥)
      → ((m : Moving) → mid.stands ≡ moving m → (p ≡ progress.More → ⊥)
      → EndsTransfer bounds m p mid.log new.log new.stands)
      → Leads bounds source old.stands old.log new.log new.stands
  advance_ends p old mid new (inl (none, is, same)) over ends = absurd (over is)
  advance_ends p old mid new (inr (m, n, there, steps, number, same)) over ends =
      subst (λ (w : Where). Leads bounds source w old.log new.log new.stands) (sym there)
      (leads_ended m n p old.log mid.log new.log new.stands steps number (ap (λ (w : Working). w.log) same)
      (ends n (ap (λ (w : Working). w.stands) same) over))

  -- from where the job stood, as its state was taken
  pub leads_taken : (a b : Standing) (old mid new : Logged) (stands : Where) → a ≡ b → mid ≡ old
      → Leads bounds source (at a) mid new stands → Leads bounds source (at b) old new stands
  leads_taken a b old mid new stands here same leads =
      subst (λ (s : Standing). Leads bounds source (at s) old new stands) here
      (subst (λ (l : Logged). Leads bounds source (at a) l new stands) same leads)

  -- ---- where a job stands

  -- a job whose state is there, and that has no transfer on its way, has a session that stands
  pub stands_so : (w : Where) → is_away w ≡ false → is_moving w ≡ false → (s : Standing) × (w ≡ at s)
  stands_so (at s) here still = (s, refl)
  stands_so (moving number) here still = absurd (cc (still))
  stands_so away here still = absurd (cc (here))

  pub leads_from : (w : Where) (old new : Logged) (stands : Where)
      → ((from : Standing) → w ≡ at from → Leads bounds source (at from) old new stands)
      → is_away w ≡ false → is_moving w ≡ false → Leads bounds source w old new stands
  leads_from w old new stands leads here still =
      let s = stands_so w here still in
      subst (λ (f : Where). Leads bounds source f old new stands) (sym s.1) (leads s.0 s.1)

  -- ---- what a job comes to

  pub leads_out : (a b : Where) (x y o : Logged) (stage : Option (ℕ × SessionStage)) (known : Option History)
      → y.lost ≡ false → Leads bounds source a x y b → PlaysOut bounds source b y o stage known
      → PlaysOut bounds source a x o stage known
  leads_out a b x y o stage known unlost leads out =
      let u = leads.leads unlost in
      record {
        more = u.more ++ out.more;
        all = out.all ∙ ap (λ (l : List LineReply). l ++ out.more) u.all ∙ append_assoc x.replies u.more out.more;
        last = out.last;
        plays = u.leads out.more out.last out.plays;
        far = out.far;
        knew = out.knew;
      }

  -- nothing more is played
  pub ends_out : (w : Where) (s : Standing) (old new : Logged) (stage : Option (ℕ × SessionStage))
      (known : Option History) → w ≡ at s → new ≡ old → IsStageOf s old.replies stage
      → known ≡ Some (known_at s).events → PlaysOut bounds source w old new stage known
  ends_out w s old new stage known there same is_stage knew = record {
    more = [];
    all = ap (λ (l : Logged). l.replies) same ∙ sym (append-nil old.replies);
    last = s;
    plays = subst (λ (f : Where). PlayedFrom bounds source f [] s) (sym there) refl;
    far = subst (λ (l : Logged). IsStageOf s l.replies stage) (sym same) is_stage;
    knew = knew;
  }

  -- a job that was fresh
  pub fresh_plays : (job : Working) (output : Output) → IsFresh job → output.log.seat ≡ job.log.seat
      → (is_away job.stands ≡ false → output.log.lost ≡ false
      → PlaysOut bounds source job.stands job.log output.log output.stage output.last)
      → output.log.lost ≡ false
      → SessionPlays bounds source output.log.seat output.log.replies output.stage output.last
  fresh_plays job output is_fresh seat plays unlost =
      let out = plays (ap is_away is_fresh.0) unlost in
      let from = subst (λ (w : Where). PlayedFrom bounds source w out.more out.last) is_fresh.0 out.plays
      in
      let all = out.all ∙ ap (λ (l : List LineReply). l ++ out.more) is_fresh.1 in
      record {
        last = out.last;
        plays = subst (λ (n : ℕ). Plays bounds source (free (fresh n)) output.log.replies out.last) (sym seat)
            (subst (λ (l : List LineReply). Plays bounds source (free (fresh job.log.seat)) l out.last) (sym all) from);
        far = out.far;
        knew = out.knew;
      }
