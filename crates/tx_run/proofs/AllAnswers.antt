-- The answers of several sessions in one list.
use Rattle.std.proofs.Common.{◌≡◌, inl, inr, ℕ, suc, [], ◌∷◌, ◌+◌, ◌-◌, ◌<◌, ◌≤◌, List, ◌++◌, All, length-append, None, length, get_or, Bool, true, false, Option, Some, refl, sym, ap, subst, ◌∙◌, append_assoc, append-nil, arith}
use Rattle.std.specs.Prelude.{◌||◌, IfSome}
use Rattle.std.specs.List.{AllPairs, flat_map, list_any}
use Rattle.std.proofs.lemmas.List.Elements.{All-append, All-push, All-tail}
use Rattle.std.proofs.lemmas.List.Folds.{list_any-append, list_any_none}
use Rattle.std.proofs.lemmas.Option.{slice_get-get_or}
use Rattle.std.proofs.Math.Bool.{or-false}
use Rattle.std.proofs.lemmas.List.{get_or_append_left, get_or-append-add, flat_map_more}
use Rattle.std.proofs.lemmas.Bool.{cases_lt}
use Rattle.tx_types.specs.declared.key.Key.{Key}
use Rattle.tx_core.specs.Histories.{History, Begins, drawer}
use Rattle.tx_core.specs.declared.event.Event.TheVariants.{Answered}
use Rattle.tx_core.specs.Worlds.{IsWorldRun}
use Rattle.tx_core.proofs.seats.Beginnings.{begins_more}
use Rattle.tx_core.proofs.seats.Stays.{drawer_on, among_on}
use Rattle.tx_workload.specs.declared.reply.LineAnswer.{LineAnswer}
use Rattle.tx_workload.specs.declared.reply.LineAnswer.TheVariants.{Plain, Ended}
use Rattle.tx_workload.specs.declared.reply.LineReply.{LineReply}
use Rattle.tx_workload.specs.Outcomes.{IsTold, start_of, AreApart, TellsOutcomes}
use Rattle.tx_workload.specs.Pairs.{TellsPair}
use Rattle.tx_workload.specs.Tells.{TellsLine}
use Rattle.tx_transfer.proofs.TransferWrites.{between_on}
use Rattle.tx_workload.specs.Logs.{StandsBy, TellsBy}
use Rattle.tx_workload.specs.Answers.{EndsSo, IsReply, has_fault, is_fault}
use Rattle.tx_run.specs.Jobs.{IsAbove, AreAnswered, AreFalling, AreGathered, IsOpened, Output, IsLearnt, Joins, AreJoined}

pairs_append : {X : Type 0} (R : X → X → Type 0) (xs ys : List X) → AllPairs R xs → AllPairs R ys
    → ((i j : ℕ) (d : X) → i < length xs → j < length ys → R (get_or xs i d) (get_or ys j d)) → AllPairs R (xs ++ ys)
pairs_append R xs ys a b cross i j d lt bound =
    elim (cases_lt j (length xs)) [
      | inl left ↦
          let li : i < length xs = omega arith in
          rw (get_or_append_left xs ys d i li, get_or_append_left xs ys d j left) (a i j d lt left)
      | inr right ↦
          let n = j - length xs in
          let e : j ≡ length xs + n = omega arith in
          let gj : get_or (xs ++ ys) j d ≡ get_or ys n d =
          ap (λ m. get_or (xs ++ ys) m d) e ∙ get_or-append-add xs ys n d in
          let bn : n < length ys = omega (arith, length-append xs ys) in
          elim (cases_lt i (length xs)) [
            | inl li ↦ rw (get_or_append_left xs ys d i li, gj) (cross i n d li bn)
            | inr ri ↦
                let m = i - length xs in
                let f : i ≡ length xs + m = omega arith in
                let gi : get_or (xs ++ ys) i d ≡ get_or ys m d =
                ap (λ k. get_or (xs ++ ys) k d) f ∙ get_or-append-add xs ys m d in
                let less : m < n = omega arith in
                rw (gi, gj) (b m n d less bn)
          ]
    ]

-- ---- as more is known

told_on : (bounds : List Key) (h n : History) → IsWorldRun bounds n → Begins h n → (r : LineAnswer) → IsTold h r
    → IsTold n r
told_on bounds h n run more (Ended t o keys) is =
    (among_on h n more (Answered t o) is.0, between_on bounds h n run more t o keys is.1)
told_on bounds h n run more (Plain plain) is = tt

above_on : (bounds : List Key) (h n : History) → IsWorldRun bounds n → Begins h n → (k : ℕ) (r : LineAnswer)
    → IsAbove h k r → IsAbove n k r
above_on bounds h n run more k (Ended t o keys) is = (is.0, drawer_on bounds h n run more t is.0 is.1, is.2)
above_on bounds h n run more k (Plain plain) is = tt

pub outcomes_on : (bounds : List Key) (h n : History) → IsWorldRun bounds n → Begins h n → (xs : List LineReply)
    → TellsOutcomes h xs → TellsOutcomes n xs
outcomes_on bounds h n run more xs is =
    record { told = λ k d lt. told_on bounds h n run more _ (is.told k d lt); apart = is.apart }

pub all_above_on : (bounds : List Key) (h n : History) → IsWorldRun bounds n → Begins h n
    → (k : ℕ) (xs : List LineReply) → All (λ s. IsAbove h k s.answer) xs → All (λ s. IsAbove n k s.answer) xs
all_above_on bounds h n run more k xs is i d lt = above_on bounds h n run more k _ (is i d lt)

-- ---- the answers of one more session, whose seat is below those before

stands_above : (h : History) (seat : ℕ) (r : LineAnswer) → StandsBy h seat r → IsAbove h seat r
stands_above h seat (Ended t o keys) is = (seat, is.drew, omega arith)
stands_above h seat (Plain plain) is = tt

lower : (h : History) (seat : ℕ) (r : LineAnswer) → IsAbove h (seat + 1) r → IsAbove h seat r
lower h seat (Ended t o keys) is = (is.0, is.1, omega (arith, is.2))
lower h seat (Plain plain) is = tt

stands_told : (h : History) (seat : ℕ) (r : LineAnswer) → StandsBy h seat r → IsTold h r
stands_told h seat (Ended t o keys) is = (is.among, is.between)
stands_told h seat (Plain plain) is = tt

other : (h : History) (seat : ℕ) (x y : LineAnswer) → IsAbove h (seat + 1) x → StandsBy h seat y → (t : ℕ)
    → start_of x ≡ Some t → start_of y ≡ Some t → ⊥
other h seat (Ended u o keys) (Ended v p more) a b t e f =
    let q = a.0 in
    let du : drawer h u ≡ Some q = a.1 in
    let dv : drawer h v ≡ Some seat = b.drew in
    let ut : u ≡ t = cc in
    let vt : v ≡ t = cc in
    let same : q ≡ seat = cc in
    absurd (omega (arith, same, a.2))
other h seat (Plain plain) y a b t e f = absurd (cc)
other h seat (Ended u o keys) (Plain plain) a b t e f = absurd (cc)

module _ (h : History) (seat : ℕ) (xs ys : List LineReply) where
  pub joined : TellsOutcomes h xs → All (λ s. IsAbove h (seat + 1) s.answer) xs → TellsBy h seat ys
      → TellsOutcomes h (xs ++ ys)
  joined is above more = record {
    told = All-append (λ s. IsTold h s.answer) xs ys is.told (λ k d lt. stands_told h seat _ (more.told k d lt));
    apart = pairs_append AreApart xs ys is.apart more.apart
        (λ i j d li lj. other h seat _ _ (above i d li) (more.told j d lj));
  }

  pub joined_above : All (λ s. IsAbove h (seat + 1) s.answer) xs → TellsBy h seat ys
      → All (λ s. IsAbove h seat s.answer) (xs ++ ys)
  joined_above above more =
      All-append (λ s. IsAbove h seat s.answer) xs ys (λ k d lt. lower h seat _ (above k d lt))
      (λ k d lt. stands_above h seat _ (more.told k d lt))

-- ---- before any session

pub none_started : (xs : List LineReply) → All (λ s. IsReply s.answer) xs → All (λ s. start_of s.answer ≡ None) xs
none_started xs are k d lt = (are k d lt).0

none_faulted : (xs : List LineReply) → All (λ s. IsReply s.answer) xs → All (λ s. is_fault s.answer ≡ false) xs
none_faulted xs are k d lt = (are k d lt).1

module _ (xs : List LineReply) (none : All (λ s. start_of s.answer ≡ None) xs) where
  no_told : (h : History) (r : LineAnswer) → start_of r ≡ None → IsTold h r
  no_told h (Ended t o keys) e = absurd (cc)
  no_told h (Plain plain) e = tt

  no_above : (h : History) (k : ℕ) (r : LineAnswer) → start_of r ≡ None → IsAbove h k r
  no_above h k (Ended t o keys) e = absurd (cc)
  no_above h k (Plain plain) e = tt

  clash : (t : ℕ) (o : Option ℕ) → o ≡ None → o ≡ Some t → ⊥
  clash t o e f = absurd (cc)

  pub none_told : (h : History) → TellsOutcomes h xs
  none_told h = record {
    told = λ k d lt. no_told h _ (none k d lt);
    apart =
        λ i j d lt bound t e f. clash t _ (none j d bound) f;
  }

  pub none_above : (h : History) (n : ℕ) → All (λ s. IsAbove h n s.answer) xs
  none_above h n k d lt = no_above h n _ (none k d lt)

-- ---- one session after another

length-cons : (x : Output) (xs : List Output) → length (x ∷ xs) ≡ suc (length xs)
length-cons x xs = refl

weaker : (h : History) (m n : ℕ) (r : LineAnswer) → m ≤ n → IsAbove h n r → IsAbove h m r
weaker h m n (Ended t o keys) le is = (is.0, is.1, omega (arith, le, is.2))
weaker h m n (Plain plain) le is = tt

-- what is told so far lies above the results that are left, of which each is of a lower seat
-- than those before it
pub record AreLeft (source : Option (List ℕ)) (bounds : List Key) (h : History) (replies : List LineReply)
    (rest : List Output) : Type 0 where
  pub falling : AreFalling rest
  pub told : TellsOutcomes h replies
  pub pairs : All (TellsPair source) replies
  pub tells : All (TellsLine source bounds h) replies
  pub above : All (λ o. All (λ s. IsAbove h (o.log.seat + 1) s.answer) replies) rest

module _ (source : Option (List ℕ)) (bounds : List Key) (h : History) (replies : List LineReply) (output : Output)
    (rest : List Output) where
  pub first_above : AreLeft source bounds h replies (output ∷ rest)
      → All (λ s. IsAbove h (output.log.seat + 1) s.answer) replies
  first_above left = left.above 0 output (omega (arith, length-cons output rest))

  pub left_next : (all : List Output) → all ≡ output ∷ rest → AreFalling all → TellsOutcomes h replies
      → All (TellsPair source) replies → All (TellsLine source bounds h) replies
      → All (λ s. IsAbove h output.log.seat s.answer) replies
      → AreLeft source bounds h replies rest
  left_next all is falling told pairs tells above =
      let fall : AreFalling (output ∷ rest) = subst (λ l. AreFalling l) is falling in
      record {
        falling = λ i j d lt bound. fall (suc i) (suc j) d (omega arith) (omega (arith, length-cons output rest));
        told = told;
        pairs = pairs;
        tells = tells;
        above = λ k d lt i e in_list. weaker h ((get_or rest k d).log.seat + 1) output.log.seat _
            (lower_than fall k d lt) (above i e in_list);
      }
    where
      lower_than : AreFalling (output ∷ rest) → (k : ℕ) (d : Output) → k < length rest
          → (get_or rest k d).log.seat + 1 ≤ output.log.seat
      lower_than fall k d lt = let less : (get_or rest k d).log.seat < output.log.seat =
          fall 0 (suc k) d (omega arith) (omega (arith, length-cons output rest)) in omega arith

-- ---- what was learnt of sessions

-- what a seat knew at last begins more
pub some_more : (l h : History) → Begins l h → (last : Option History) → IfSome last (λ told. Begins told l)
    → IfSome last (λ told. Begins told h)
some_more l h begins None knew = tt
some_more l h begins (Some told) knew = begins_more told l h knew begins

pub joined_none : (before : List LineReply) (h : History) → AreJoined before h before []
joined_none before h = record { learnt = λ k d lt. absurd (omega (arith, lt)); all = sym (append-nil before) }

pub joined_more : (before : List LineReply) (old new : History) (replies after : List LineReply) (jobs :
    List Output) (output : Output) → AreJoined before old replies jobs → Joins old replies output new after
    → AreJoined before new after (jobs ++ output ∷ [])
joined_more before old new replies after jobs output are joins = record {
  learnt = All-push (IsLearnt new) jobs output (λ k d lt. let was = are.learnt k d lt in
      record {
        kept = was.kept;
        tells = was.tells;
        knows =
            begins_more (get_or jobs k d).log.told old new was.knows joins.grew;
        knew = some_more old new joins.grew (get_or jobs k d).last was.knew;
      }) joins.learnt;
  all = joins.all ∙ ap (λ (l : List LineReply). l ++ output.log.replies) are.all
      ∙ flat_map_more (λ (c : Output). c.log.replies) before jobs output;
}

-- what was gathered stays so as more is known
pub opened_on : (bounds : List Key) (source : Option (List ℕ)) (l h : History) → Begins l h
    → (before : List LineReply) → IsOpened bounds source l before → IsOpened bounds source h before
opened_on bounds source l h begins before opened = record {
  first = opened.first;
  opening = opened.opening;
  seeds = opened.seeds;
  all = opened.all;
  seat = opened.seat;
  last = opened.last;
  plays = opened.plays;
  knew = begins_more opened.last.events l h opened.knew begins;
}

pub gathered_on : (bounds : List Key) (source : Option (List ℕ)) (l h : History) → Begins l h → (firsts : List ℕ)
    (replies : List LineReply) (jobs : List Output) → AreGathered bounds source firsts l replies jobs
    → AreGathered bounds source firsts h replies jobs
gathered_on bounds source l h begins firsts replies jobs (before, named, quiet, joined, opened) = (
  before,
  named,
  quiet,
  record {
    learnt = λ k d lt. let was = joined.learnt k d lt in
        record {
          kept = was.kept;
          tells = was.tells;
          knows = begins_more (get_or jobs k d).log.told l h was.knows begins;
          knew = some_more l h begins (get_or jobs k d).last was.knew;
        };
    all = joined.all;
  },
  opened_on bounds source l h begins before opened,
)

-- the first of those that are left goes behind those that went
pub one_goes : {T : Type 0} (all went left rest : List T) (output : T) → all ≡ went ++ left → left ≡ output ∷ rest
    → all ≡ (went ++ output ∷ []) ++ rest
one_goes {T} all went left rest output split is =
    split ∙ ap (λ (l : List T). went ++ l) is ∙ sym (append_assoc went (output ∷ []) rest)

pub all_went : {T : Type 0} (all went left : List T) (n : ℕ) → all ≡ went ++ left → n ≡ length left → n ≡ 0 → went ≡ all
all_went all went [] n split count none = sym (split ∙ append-nil went)
all_went all went (x ∷ left) n split count none = absurd (omega (arith, count, none))

-- ---- faults among their answers

shows_fault : (faulted : Bool) (replies : List LineReply) → EndsSo faulted replies → has_fault replies ≡ faulted
shows_fault false replies ends = ends
shows_fault true replies ends =
    ap has_fault ends.2 ∙ list_any-append (λ (s : LineReply). is_fault s.answer) ends.0 (ends.1 ∷ [])
    ∙ rw (ends.3, ends.4) refl

-- one that lost no answer shows whether a fault ended it
answered_shows : (lines : List (List ℕ)) (outputs : List Output) (h : History) → AreAnswered lines outputs
    → All (IsLearnt h) outputs → All (λ o. has_fault o.log.replies ≡ o.faulted) outputs
answered_shows lines outputs h are learnt k d lt =
    let o = get_or outputs k d in
    let said = slice_get-get_or lines k [] (omega (arith, lt, are.0)) in
    shows_fault o.faulted o.log.replies
    (are.1 k (get_or lines k []) o said (slice_get-get_or outputs k d lt) (learnt k d lt).kept).ends

flat_faults : (outputs : List Output) → All (λ o. has_fault o.log.replies ≡ o.faulted) outputs
    → has_fault (flat_map (λ o. o.log.replies) outputs) ≡ list_any (λ o. o.faulted) outputs
flat_faults [] are = refl
flat_faults (o ∷ outputs) are =
    let here : has_fault o.log.replies ≡ o.faulted = are 0 o (omega (arith, length-cons o outputs)) in
    let more = flat_faults outputs (All-tail (λ (c : Output). has_fault c.log.replies ≡ c.faulted) o outputs are) in
    list_any-append (λ (s : LineReply). is_fault s.answer) o.log.replies (flat_map (λ c. c.log.replies) outputs)
    ∙ rw (here, more) refl

-- an answer that is handed back is a fault just where one ended a session
pub faults : (before : List LineReply) (h : History) (replies : List LineReply) (outputs : List Output) (lines :
    List (List ℕ)) → All (λ s. IsReply s.answer) before → AreJoined before h replies outputs → AreAnswered lines outputs
    → has_fault replies ≡ list_any (λ o. o.faulted) outputs
faults before h replies outputs lines none joined are =
    let first : has_fault before ≡ false =
    list_any_none (λ (s : LineReply). is_fault s.answer) before (none_faulted before none) in
    let more = flat_faults outputs (answered_shows lines outputs h are joined.learnt) in
    ap has_fault joined.all
    ∙ list_any-append (λ (s : LineReply). is_fault s.answer) before
    (flat_map (λ (o : Output). o.log.replies) outputs) ∙ rw (first, more) refl

pub faulted_more : (before fault : Bool) (went : List Output) (output : Output)
    → before ≡ list_any (λ o. o.faulted) went → fault ≡ output.faulted
    → (before || fault) ≡ list_any (λ o. o.faulted) (went ++ output ∷ [])
faulted_more before fault went output is one =
    sym (list_any-append (λ (o : Output). o.faulted) went (output ∷ [])
    ∙ rw (sym is, sym one) (ap (λ (b : Bool). before || b) (or-false fault)))
