-- Each line of a session is answered, in order and once, up to a fault of the script.
use Rattle.std.proofs.Common.{◌≡◌, inl, inr, ℕ, Bool, true, false, List, [], ◌∷◌, ◌++◌, Option, Some, None, refl, sym, ap, subst, ◌∙◌, append_assoc, append-nil}
use Rattle.std.specs.Prelude.{is_some, Result, Ok, Err, OnOk, OnErr}
use Rattle.tx_types.specs.declared.key.Key.{Key}
use Rattle.std.specs.Option.{option_to_list}
use Rattle.std.proofs.lemmas.List.{map-append}
use Rattle.std.proofs.lemmas.List.Folds.{list_any-append}
use Rattle.tx_types.specs.declared.fault.Cause.{Cause}
use Rattle.tx_core.specs.Histories.{History}
use Rattle.tx_ops.specs.declared.stage.SessionStage.{SessionStage}
use Rattle.tx_run.specs.Played.{Leads, Where, away, is_away, is_moving, moving}
use Rattle.tx_workload.specs.declared.reply.LineAnswer.{LineAnswer}
use Rattle.tx_workload.specs.declared.reply.LineAnswer.TheVariants.{Plain, Ended}
use Rattle.tx_workload.specs.declared.reply.LineReply.{LineReply}
use Rattle.tx_run.specs.declared.state.JobState.{JobState}
use Rattle.tx_run.specs.declared.state.JobState.TheVariants.{Free, Live, Transfer, Taken}
use Rattle.tx_run.specs.States.{going_of, is_transfer, where_of}
use Rattle.tx_client.specs.Calls.{Seated}
use Rattle.tx_journal.specs.Known.{Known}
use Rattle.tx_transfer.specs.TransferSteps.{Moving}
use Rattle.tx_transfer.specs.declared.progress.TransferProgress.{TransferProgress}
use Rattle.tx_workload.specs.Answers.{Answers, EndsSo, has_fault, is_fault, numbers_of}
use Rattle.tx_workload.specs.Logs.{KeepsAnswer, KeepsOutcome, Logged, answer_to}
use Rattle.tx_run.specs.Jobs.{AdvancesSo, JobGoesOn, IsSound, MayAnswer, Output, Promises, WillPlay, Working, job_lines, with_line}
use Rattle.tx_run.proofs.Leads.{leads_out}

-- ---- step after step

unfaulted : (b c : Bool) → (b ≡ true → c ≡ true) → c ≡ false → b ≡ false
unfaulted false c up e = refl
unfaulted true c up e = let t : c ≡ true = up refl in absurd (cc)

pub goes_refl : (j : Working) → JobGoesOn j j
goes_refl j = record {
  number = refl;
  seat = refl;
  kept = λ e. e;
  faulted = λ e. e;
  lines = λ e. ([], sym (append-nil (job_lines j)), λ f. refl);
}

pub goes_same : (j new : Working) → new ≡ j → JobGoesOn j new
goes_same j new is = subst (λ (w : Working). JobGoesOn j w) (sym is) (goes_refl j)

none_behind : (front behind : List ℕ) → front ≡ [] → behind ≡ [] → front ++ behind ≡ []
none_behind front behind a b = ap (λ (l : List ℕ). l ++ behind) a ∙ b

parted : (a b c front behind : List ℕ) → a ≡ b ++ behind → b ≡ c ++ front → a ≡ c ++ (front ++ behind)
parted a b c front behind x y = x ∙ ap (λ (l : List ℕ). l ++ behind) y ∙ append_assoc c front behind

pub goes_trans : (a b c : Working) → JobGoesOn a b → JobGoesOn b c → JobGoesOn a c
goes_trans a b c x y = record {
  number = y.number ∙ x.number;
  seat = y.seat ∙ x.seat;
  kept = λ e. x.kept (y.kept e);
  faulted = λ e. y.faulted (x.faulted e);
  lines = λ e.
      let p = x.lines (y.kept e) in
      let q = y.lines e in (
        q.0 ++ p.0,
        parted (job_lines a) (job_lines b) (job_lines c) q.0 p.0 p.1 q.1,
        λ f. none_behind q.0 p.0 (q.2 f) (p.2 (unfaulted b.faulted c.faulted y.faulted f)),
      );
}

-- ---- a line is answered

one_answered : (xs ys : List LineReply) (number : ℕ) (answer : LineAnswer) (going : Option ℕ) (left : List ℕ)
    → ys ≡ xs ++ answer_to number answer ∷ [] → going ≡ None
    → numbers_of xs ++ (number ∷ left) ≡ (numbers_of ys ++ (option_to_list going ++ left)) ++ []
one_answered xs ys number answer going left is none =
    let named : numbers_of ys ≡ numbers_of xs ++ number ∷ [] =
    ap numbers_of is ∙ map-append (λ (s : LineReply). s.number) xs (answer_to number answer ∷ []) in
    let rest : option_to_list going ++ left ≡ left = ap (λ (o : Option ℕ). option_to_list o ++ left) none in
    sym (append-nil (numbers_of ys ++ (option_to_list going ++ left))
    ∙ ap (λ (l : List ℕ). l ++ (option_to_list going ++ left)) named
    ∙ ap (λ (l : List ℕ). (numbers_of xs ++ number ∷ []) ++ l) rest
    ∙ append_assoc (numbers_of xs) (number ∷ []) left)

last_answered : (xs ys : List LineReply) (number : ℕ) (answer : LineAnswer) (going : Option ℕ) (left over : List ℕ)
    → ys ≡ xs ++ answer_to number answer ∷ [] → going ≡ None → over ≡ []
    → numbers_of xs ++ (number ∷ left) ≡ (numbers_of ys ++ (option_to_list going ++ over)) ++ left
last_answered xs ys number answer going left over is none cleared =
    let named : numbers_of ys ≡ numbers_of xs ++ number ∷ [] =
    ap numbers_of is ∙ map-append (λ (s : LineReply). s.number) xs (answer_to number answer ∷ []) in
    let rest : option_to_list going ++ over ≡ [] = ap (λ (o : Option ℕ). option_to_list o ++ over) none ∙ cleared in
    sym (ap (λ (l : List ℕ). (numbers_of ys ++ l) ++ left) rest
    ∙ ap (λ (l : List ℕ). l ++ left) (append-nil (numbers_of ys) ∙ named)
    ∙ append_assoc (numbers_of xs) (number ∷ []) left)

pub answered : (j : Working) (log : Logged) (number : ℕ) (answer : LineAnswer) → MayAnswer j → log.seat ≡ j.log.seat
    → KeepsAnswer j.log number answer log → JobGoesOn (with_line number j) (record j { log = log })
answered j log number answer may seat keeps = record {
  number = refl;
  seat = seat;
  kept = λ e. (keeps e).0;
  faulted = λ e. e;
  lines = λ e. ([], one_answered j.log.replies log.replies number answer j.going j.left (keeps e).1 may.0, λ f. refl);
}

no_fault_more : (xs ys : List LineReply) (x : LineReply) → ys ≡ xs ++ x ∷ [] → has_fault xs ≡ false
    → is_fault x.answer ≡ false → has_fault ys ≡ false
no_fault_more xs ys x is none not =
    ap has_fault is ∙ list_any-append (λ (s : LineReply). is_fault s.answer) xs (x ∷ []) ∙ rw (none, not) refl

ends_unfaulted : (faulted : Bool) (xs : List LineReply) → faulted ≡ false → EndsSo faulted xs → has_fault xs ≡ false
ends_unfaulted faulted xs not ends = subst (λ (b : Bool). EndsSo b xs) not ends

pub sound_answered : (j : Working) (log : Logged) (number : ℕ) (answer : LineAnswer) → IsSound j → MayAnswer j
    → KeepsAnswer j.log number answer log → is_fault answer ≡ false → IsSound (record j { log = log })
sound_answered j log number answer sound may keeps not = record {
  over = sound.over;
  ends = λ e.
      let before : has_fault j.log.replies ≡ false =
      ends_unfaulted j.faulted j.log.replies may.1 (sound.ends (keeps e).0) in
      subst (λ (b : Bool). EndsSo b log.replies) (sym may.1)
      (no_fault_more j.log.replies log.replies (answer_to number answer) (keeps e).1 before not);
}

-- a transaction ends, or its session comes back
pub sound_concluded : {A B : Type 0} (j : Working) (log : Logged) (number : ℕ) (keys : Option (Key × Key))
    (r : Result A B) → IsSound j → MayAnswer j → OnOk r (KeepsOutcome j.log number keys log) → OnErr r (log ≡ j.log)
    → IsSound (record j { log = log })
sound_concluded j log number keys (Ok x) sound may kept none =
    sound_answered j log number (Ended kept.0 kept.1 keys) sound may kept.2 refl
sound_concluded j log number keys (Err e) sound may kept none =
    subst (λ (l : Logged). IsSound (record j { log = l })) (sym none) sound

-- ---- a fault ends it

pub failed : (j : Working) (log : Logged) (number : ℕ) (cause : Cause) (left : List ℕ) → MayAnswer j
    → log.seat ≡ j.log.seat → KeepsAnswer j.log number (Plain (Err cause)) log → left ≡ []
    → JobGoesOn (with_line number j) (record j { log = log; left = left; faulted = true })
failed j log number cause left may seat keeps cleared = record {
  number = refl;
  seat = seat;
  kept = λ e. (keeps e).0;
  faulted = λ e. refl;
  lines = λ e. (
    j.left,
    last_answered j.log.replies log.replies number (Plain (Err cause)) j.going j.left left (keeps e).1 may.0 cleared,
    λ f. absurd (cc),
  );
}

pub sound_failed : (j : Working) (log : Logged) (number : ℕ) (cause : Cause) (left : List ℕ) → IsSound j → MayAnswer j
    → KeepsAnswer j.log number (Plain (Err cause)) log → left ≡ []
    → IsSound (record j { log = log; left = left; faulted = true })
sound_failed j log number cause left sound may keeps cleared = record {
  over = λ e. (cleared, may.0);
  ends = λ e. (
    j.log.replies,
    answer_to number (Plain (Err cause)),
    (keeps e).1,
    ends_unfaulted j.faulted j.log.replies may.1 (sound.ends (keeps e).0),
    refl,
  );
}

-- ---- what is on its way changes

-- what its session has entered counts for nothing
pub goes_entered : (a j : Working) (es : Where) → JobGoesOn a j → JobGoesOn a (record j { stands = es })
goes_entered a j es goes = record {
  number = goes.number;
  seat = goes.seat;
  kept = goes.kept;
  faulted = goes.faulted;
  lines = goes.lines;
}

pub may_still : (j mid : Working) (es : Where) → mid ≡ record j { going = None; stands = es } → j.faulted ≡ false
    → MayAnswer mid
may_still j mid es is not = (ap (λ (w : Working). w.going) is, ap (λ (w : Working). w.faulted) is ∙ not)

pub from_state : (j mid new : Working) (number : ℕ) (es : Where) → mid ≡ record j { going = None; stands = es }
    → JobGoesOn (with_line number mid) new → JobGoesOn (with_line number j) new
from_state j mid new number es is goes = subst (λ (w : Working). JobGoesOn (with_line number w) new) is goes

pub to_state : (a mid new : Working) (es : Where) → JobGoesOn a mid → MayAnswer mid
    → new ≡ record mid { going = None; stands = es } → JobGoesOn a new
to_state a mid new es goes may is =
    let same : record mid { going = None; stands = es } ≡ record mid { stands = es } =
    ap (λ (g : Option ℕ). record mid { going = g; stands = es }) (sym may.0) in
    subst (λ (w : Working). JobGoesOn a w) (sym (is ∙ same)) (goes_entered a mid es goes)

-- its log was told more
module _ (j heard : Working) (told : History) (number : ℕ)
    (hears : heard ≡ record j { log = record j.log { told = told } }) where
  pub heard_goes : (new : Working) → JobGoesOn (with_line number heard) new → JobGoesOn (with_line number j) new
  heard_goes new goes =
      let more = subst (λ (w : Working). JobGoesOn (with_line number w) new) hears goes in
      record {
        number = more.number;
        seat = more.seat;
        kept = more.kept;
        faulted = more.faulted;
        lines = more.lines;
      }

  pub from_heard : (mid new : Working) (es : Where) → mid ≡ record heard { going = None; stands = es }
      → JobGoesOn (with_line number mid) new → JobGoesOn (with_line number j) new
  from_heard mid new es is goes = heard_goes new (from_state heard mid new number es is goes)

  pub may_heard : MayAnswer j → MayAnswer heard
  may_heard may =
      (ap (λ (w : Working). w.going) hears ∙ may.0, ap (λ (w : Working). w.faulted) hears ∙ may.1)

-- a transfer is on its way
pub began : (j new : Working) (number : ℕ) (m : Moving) → m.number ≡ number
    → new ≡ record j { going = Some m.number; stands = moving m } → JobGoesOn (with_line number j) new
began j new number m same is =
    subst (λ (w : Working). JobGoesOn (with_line number j) w)
    (sym (is ∙ ap (λ (n : ℕ). record j { going = Some n; stands = moving m }) same))
    (record {
      number = refl;
      seat = refl;
      kept = λ e. e;
      faulted = λ e. e;
      lines = λ e. ([], sym (append-nil (numbers_of j.log.replies ++ (number ∷ j.left))), λ f. refl);
    })

-- it was, and its line is answered
pub ended : (j mid new : Working) (number : ℕ) → mid ≡ record j { going = None; stands = away }
    → Some number ≡ j.going → JobGoesOn (with_line number mid) new → JobGoesOn j new
ended j mid new number is going goes =
    let same : record j { going = Some number } ≡ j = ap (λ (g : Option ℕ). record j { going = g }) going in
    let more = from_state j mid new number away is goes in
    subst (λ (w : Working). JobGoesOn w new) same
    (record {
      number = more.number;
      seat = more.seat;
      kept = more.kept;
      faulted = more.faulted;
      lines =
          more.lines;
    })

-- it makes steps
pub advanced : (bounds : List Key) (j new : Working) (p : TransferProgress) → AdvancesSo bounds j p new
    → JobGoesOn j new
advanced bounds j new p (inl (none, is, same)) = goes_same j new same
advanced bounds j new p (inr (m, n, there, steps, number, same)) =
    subst (λ (w : Working). JobGoesOn j w) (sym same) (goes_entered j j (moving n) (goes_refl j))

pub sound_moves : (j : Working) (m n : Moving) → n.number ≡ m.number
    → IsSound (record j { going = Some m.number; stands = moving m })
    → IsSound (record j { going = Some n.number; stands = moving n })
sound_moves j m n same sound = record {
  over = λ e. ((sound.over e).0, ap Some same ∙ (sound.over e).1);
  ends = sound.ends;
}

-- it goes on
pub put_back : (j mid new : Working) (going : Option ℕ) (es : Where) → mid ≡ record j { going = None; stands = away }
    → going ≡ j.going → new ≡ record mid { going = going; stands = es } → JobGoesOn j new
put_back j mid new going es is same new_is =
    subst (λ (w : Working). JobGoesOn j w) (sym (new_is
    ∙ ap (λ (w : Working). record w { going = going; stands = es }) is
    ∙ ap (λ (g : Option ℕ). record j { going = g; stands = es }) same)) (goes_entered j j es (goes_refl j))

-- ---- a line is taken

pub taken : (j mid new : Working) (number : ℕ) → j ≡ record mid { left = number ∷ mid.left } → mid.going ≡ None
    → JobGoesOn (with_line number mid) new → JobGoesOn j new
taken j mid new number is none goes =
    let same : with_line number mid ≡ record mid { left = number ∷ mid.left; stands = away } =
    ap (λ (g : Option ℕ). record mid { going = g; left = number ∷ mid.left; stands = away }) (sym none) in
    let more = subst (λ (w : Working). JobGoesOn w new) same goes in
    subst (λ (w : Working). JobGoesOn w new) (sym is) (record {
      number = more.number;
      seat = more.seat;
      kept = more.kept;
      faulted = more.faulted;
      lines = more.lines;
    })

-- ---- what it comes to

pub leads : (a b : Working) (o : Output) → JobGoesOn a b → Promises b o → Promises a o
leads a b o goes promises = record {
  seat = promises.seat ∙ goes.seat;
  kept = λ e. goes.kept (promises.kept e);
  faulted = λ e. promises.faulted (goes.faulted e);
  answers = λ e.
      let p = goes.lines (promises.kept e) in
      let q = promises.answers e in
      record {
        behind = q.behind ++ p.0;
        order = parted (job_lines a) (job_lines b) (numbers_of o.log.replies) q.behind p.0 p.1 q.order;
        whole = λ f. none_behind q.behind p.0 (q.whole f) (p.2 (unfaulted b.faulted o.faulted promises.faulted f));
        ends = q.ends;
      };
}

pub promised : (j : Working) (stage : Option (ℕ × SessionStage)) (last : Option History) → IsSound j → j.left ≡ []
    → j.going ≡ None
    → Promises j (record { number = j.number; log = j.log; faulted = j.faulted; stage = stage; last = last })
promised j stage last sound left going = record {
  seat = refl;
  kept = λ e. e;
  faulted = λ e. e;
  answers = λ e. record {
    behind = [];
    order = ap (λ (l : List ℕ). numbers_of j.log.replies ++ (option_to_list j.going ++ l)) left
        ∙ ap (λ (o : Option ℕ). numbers_of j.log.replies ++ (option_to_list o ++ [])) going;
    whole = λ f. refl;
    ends = sound.ends e;
  };
}

-- its session is over
pub promised_on : (j mid : Working) (o : Output) → mid ≡ record j { going = None; stands = away } → j.going ≡ None
    → Promises mid o → Promises j o
promised_on j mid o is none promises =
    let p = subst (λ (w : Working). Promises w o) is promises in
    record {
      seat = p.seat;
      kept = p.kept;
      faulted = p.faulted;
      answers = λ e. subst (λ (g : Option ℕ). Answers (numbers_of j.log.replies ++ (option_to_list g ++ j.left))
          o.faulted o.log.replies) (sym none) (p.answers e);
    }

-- what it promises, step after step
pub both_lead : (bounds : List Key) (source : Option (List ℕ)) (a b : Working) (o : Output) → JobGoesOn a b
    → (is_some source ≡ true → is_away a.stands ≡ false → Leads bounds source a.stands a.log b.log b.stands)
    → Promises b o × WillPlay bounds source b o → Promises a o × WillPlay bounds source a o
both_lead bounds source a b o goes on (promises, plays) = (
  leads a b o goes promises,
  record {
    plays = λ known here unlost.
        let l = on known here in
        leads_out bounds source a.stands b.stands a.log b.log o.log o.stage o.last (promises.kept unlost) l
        (plays.plays known l.stands unlost);
  },
)

-- whether a transfer is on its way
pub transferring : {F L M : Type 0} (state : JobState F L M) (number : M → ℕ)
    → is_transfer state ≡ is_some (going_of state number)
transferring (Free seat) number = refl
transferring (Live session) number = refl
transferring (Transfer transfer) number = refl
transferring Taken number = refl

pub transfer_stands : {L M : Type 0} (state : JobState Known L M) (session : L → Seated) (moves : M → Moving)
    → is_transfer state ≡ is_moving (where_of state session moves)
transfer_stands (Free seat) session moves = refl
transfer_stands (Live s) session moves = refl
transfer_stands (Transfer transfer) session moves = refl
transfer_stands Taken session moves = refl

-- where no transfer is, none is on its way
pub none_moves : {L M : Type 0} (state : JobState Known L M) (session : L → Seated) (moves : M → Moving) (m : Moving)
    → ((transfer : M) → state ≡ Transfer transfer → ⊥) → moving m ≡ where_of state session moves → ⊥
none_moves {L} {M} state session moves m none is = by state none (ap is_moving is)
  where
    by : (s : JobState Known L M) → ((transfer : M) → s ≡ Transfer transfer → ⊥)
        → true ≡ is_moving (where_of s session moves) → ⊥
    by (Free seat) none e = cc (e)
    by (Live session) none e = cc (e)
    by (Transfer transfer) none e = none transfer refl
    by Taken none e = cc (e)
