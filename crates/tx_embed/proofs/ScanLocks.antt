-- A lock of which a session's scan is told is of a key of its range.
use Rattle.std.proofs.Common.{◌≡◌, inl, inr, ℕ, ◌-◌, ◌&&◌, Bool, true, false, cond, List, [], ◌∷◌, ◌++◌, length, nat_lt, Option, Some, None, Result, Ok, Err, IfOk, IfSome, IsTrue, refl, sym, subst}
use Rattle.tx_types.specs.declared.key.Key.{Key}
use Rattle.tx_types.specs.declared.mutation.KeyValue.{KeyValue}
use Rattle.tx_types.specs.Keys.{is_between, key_le, key_lt}
use Rattle.tx_plan.specs.declared.body.Body.{Body}
use Rattle.tx_plan.specs.declared.body.Body.TheVariants as body
use Rattle.tx_plan.specs.declared.body.Scan.{Scan}
use Rattle.tx_plan.specs.declared.answer.Answer.{Answer}
use Rattle.tx_plan.specs.declared.answer.Answer.TheVariants as answer
use Rattle.tx_plan.specs.Answers.{Answers}
use Rattle.tx_plan.specs.Cells.{Cells, Region}
use Rattle.tx_plan.specs.cases.Scan.{AnswersScan}
use Rattle.tx_plan.proofs.KeyOrder.{lt_le, lt_then_le, lt_trans}
use Rattle.tx_core.specs.declared.event.Taken.{Taken}
use Rattle.tx_core.specs.declared.event.Event.TheVariants.{Took}
use Rattle.tx_core.specs.Histories.{last, left}
use Rattle.tx_core.specs.Worlds.{IsWorldRun}
use Rattle.tx_journal.specs.Known.{Known}
use Rattle.tx_journal.specs.Replies.{Asked, Given, IsTold}
use Rattle.tx_journal.specs.Senders.{Reached, IsSender}
use Rattle.tx_transaction.specs.declared.state.Miss.{Miss}
use Rattle.tx_transaction.specs.Sessions.{SessionState, scan_of, after_read}
use Rattle.tx_transaction.specs.Returns.{Response}
use Rattle.tx_client.specs.Calls.{Seated}
use Rattle.tx_client.specs.Learns.{response_by, response_of, Learns}
use Rattle.tx_client.specs.Walks.{Walk, asks, grows, ends, then_walk, Sends, part_by, part_walk, enough, scan_after, scan_from, scan_walk, greater, lesser}
use Rattle.tx_embed.specs.Reads.{LocksWithin}

-- ---- what a region answers

abbrev Inside : Body → Answer → Type 0
Inside (body.Scan b) a = LocksWithin b.from b.to a
Inside _ a = Unit {0}

scan_inside : (cells : Key → Cells) (safe loaded : ℕ) (b : Scan) (a : Answer) → AnswersScan cells safe loaded b a
    → LocksWithin b.from b.to a
scan_inside cells safe loaded b a (inl x) = subst (LocksWithin b.from b.to) (sym x.1) tt
scan_inside cells safe loaded b a (inr (kept, inl x)) = subst (LocksWithin b.from b.to) (sym x.1) tt
scan_inside cells safe loaded b a (inr (kept, inr (drawn, inl x))) =
    subst (LocksWithin b.from b.to) (sym x.answer) x.inside
scan_inside cells safe loaded b a (inr (kept, inr (drawn, inr x))) = subst (LocksWithin b.from b.to) (sym x.answer) tt

said : (r : Region) (loaded top : ℕ) (b : Body) (a : Answer) → Answers r loaded top b a → Inside b a
said r loaded top (body.Scan b) a is = scan_inside r.cells r.safe loaded b a is
said r loaded top b a is = tt

told : (bounds : List Key) (g : Given) (a : Answer) → IsTold bounds g a → Inside g.request.body a
told bounds g a t =
    let x : Taken = record { region = t.region; body = g.request.body; loaded = last t.tells.point; answer = a } in
    let run : IsWorldRun bounds (Took x ∷ t.tells.before) = subst (IsWorldRun bounds) t.tells.ends t.tells.run in
    said (left t.tells.before t.region) (last t.tells.point) (last t.tells.before) g.request.body a run.1.answers

-- ---- walks

-- what comes of a request: an answer that it may have, or none
abbrev Heard : Body → Response → Type 0
Heard b (Ok a) = Inside b a
Heard b (Err why) = Unit {0}

-- each end of a walk is so
abbrev EndsBy : {R : Type 0} → (R → Type 0) → Walk R → Type 0
EndsBy P (asks b more) = (c : Response) → Heard b c → EndsBy P (more c)
EndsBy P (grows more short) = EndsBy P more × EndsBy P short
EndsBy P (ends r) = P r

module _ {S : Type 0} (bounds : List Key) (fits : S → Asked → Type 0) (sends : S → Asked → Reached → S → Type 0)
    (keys_between : S → List Key) (way : IsSender bounds fits sends keys_between) where
  responds : (k now : Known) (from mid : S) (b : Body) (reached : Reached)
      → sends from (record { by = k.events; body = b }) reached mid → Learns bounds k reached now
      → Heard b (response_of reached)
  responds k now from mid b (Err l) sent learns = tt
  responds k now from mid b (Ok g) sent learns = by g.answer learns.4.told
    where
      is : g.request ≡ record { by = k.events; body = b }
      is = way.answers from mid (record { by = k.events; body = b }) g sent

      by : (o : Option Answer) → IfSome o (IsTold bounds g) → Heard b (response_by o)
      by None t = tt
      by (Some a) t = subst (λ (q : Asked). Inside q.body a) is (told bounds g a t)

  sent_by : {R : Type 0} (P : R → Type 0) (w : Walk R) (k new : Known) (from to : S) (r : R) → EndsBy P w
      → Sends sends bounds k from w r to new → P r
  sent_by P (ends x) k new from to r all (is, same, at) = subst P (sym is) all
  sent_by P (grows more short) k new from to r all (inl sent) = sent_by P short k new from to r all.1 sent
  sent_by P (grows more short) k new from to r all (inr sent) = sent_by P more k new from to r all.0 sent
  sent_by P (asks b more) k new from to r all (reached, mid, now, sent, learns, rest) =
      sent_by P (more (response_of reached)) now new mid to r
      (all (response_of reached) (responds k now from mid b reached sent learns)) rest

-- ---- the parts of a range

both_of : (b c : Bool) → (b && c) ≡ true → (b ≡ true) × (c ≡ true)
both_of true c is = (refl, is)
both_of false c is = absurd (cc (is))

of_both : (b c : Bool) → b ≡ true → c ≡ true → (b && c) ≡ true
of_both b c is also = rw (is, also) refl

from_greater : (from low x : Key) → IsTrue (key_le (greater from low) x) → IsTrue (key_le from x)
from_greater from low x = by (key_lt from low) refl
  where
    by : (b : Bool) → key_lt from low ≡ b → IsTrue (key_le (cond b low from) x) → IsTrue (key_le from x)
    by true lt le = lt_le from x (lt_then_le from low x lt le)
    by false lt le = le

to_lesser : (to bound x : Key) → IsTrue (key_lt x (lesser to bound)) → IsTrue (key_lt x to)
to_lesser to bound x = by (key_lt bound to) refl
  where
    by : (b : Bool) → key_lt bound to ≡ b → IsTrue (key_lt x (cond b bound to)) → IsTrue (key_lt x to)
    by true lt below = lt_trans x bound to below lt
    by false lt below = below

module _ (from to : Key) where
  -- the keys of a part are keys of the range
  abbrev Narrow : Key → Key → Type 0
  Narrow low high = (k : Key) → IsTrue (is_between low high k) → IsTrue (is_between from to k)

  narrow : (low high k : Key) → (IsTrue (key_lt k high) → IsTrue (key_lt k to))
      → IsTrue (is_between (greater from low) high k) → IsTrue (is_between from to k)
  narrow low high k below inside =
      let both = both_of (key_le (greater from low) k) (key_lt k high) inside in
      of_both (key_le from k) (key_lt k to) (from_greater from low k both.0) (below both.1)

  abbrev Came : Type 0
  Came = SessionState × Result Answer Miss

  abbrev Within : Came → Type 0
  Within r = IfOk r.1 (LocksWithin from to)

  -- who goes on from a state with the rows so far
  abbrev OnRows : Type 0
  OnRows = SessionState → List KeyValue → Walk Came

  abbrev ScansOn : OnRows → Type 0
  ScansOn on = (t : SessionState) (rows : List KeyValue) → EndsBy Within (on t rows)

  heard_within : (t u : SessionState) (low high : Key) (limit : ℕ) → Narrow low high → (c : Response)
      → Heard (scan_of t low high limit) c → Within (u, c)
  heard_within t u low high limit inside (Err why) heard = tt
  heard_within t u low high limit inside (Ok (answer.KeyIsLocked info)) heard = inside info.key heard
  heard_within t u low high limit inside (Ok a) heard = tt

  scans_after : (t : SessionState) (limit : ℕ) (rows : List KeyValue) (r : Result Answer Miss) (on : OnRows)
      → ScansOn on → Within (t, r) → EndsBy Within (scan_after t (part_by limit rows r) on)
  scans_after t limit rows (Ok (answer.Rows found)) on keeps is = by (nat_lt (length (rows ++ found)) limit) refl
    where
      by : (b : Bool) → nat_lt (length (rows ++ found)) limit ≡ b
          → EndsBy Within (scan_after t (enough limit (rows ++ found)) on)
      by true e = rw e (keeps t (rows ++ found))
      by false e = rw e tt
  scans_after t limit rows (Ok a) on keeps is = is
  scans_after t limit rows (Err why) on keeps is = is

  scans_part : (t : SessionState) (low high : Key) → Narrow low high → (limit : ℕ) (rows : List KeyValue) (on : OnRows)
      → ScansOn on → EndsBy Within (then_walk (part_walk t low high limit rows) (λ x. scan_after x.0 x.1 on))
  scans_part t low high inside limit rows on keeps = by (key_lt low high) refl
    where
      by : (b : Bool) → key_lt low high ≡ b
          → EndsBy Within (then_walk (part_walk t low high limit rows) (λ x. scan_after x.0 x.1 on))
      by true e = rw e (
        (λ c heard. scans_after (after_read t c) limit rows c on keeps
            (heard_within t (after_read t c) low high (limit - length rows) inside c heard)),
        tt,
      )
      by false e = rw e (keeps t rows, tt)

  scans_from : (limit : ℕ) (low : Key) (bounds : List Key) → ScansOn (scan_from from to limit low bounds)
  scans_from limit low [] t rows =
      scans_part t (greater from low) to (λ k inside. narrow low to k (λ below. below) inside) limit rows
      (λ u all. ends (u, Ok (answer.Rows all))) (λ u all. tt)
  scans_from limit low (bound ∷ bounds) t rows =
      scans_part t (greater from low) (lesser to bound)
      (λ k inside. narrow low (lesser to bound) k (to_lesser to bound k) inside) limit rows
      (scan_from from to limit bound bounds) (scans_from limit bound bounds)

-- a lock of which a scan is told is of a key of its range
pub scan_within : {S : Type 0} (bounds : List Key) (fits : S → Asked → Type 0)
    (sends : S → Asked → Reached → S → Type 0) (keys_between : S → List Key)
    (way : IsSender bounds fits sends keys_between) (old new : Seated) (a b : S) (from to : Key) (limit : ℕ)
    (r : Result Answer Miss)
    → Sends sends bounds old.seat a (scan_walk old.state bounds from to limit) (new.state, r) b new.seat
    → IfOk r (LocksWithin from to)
scan_within bounds fits sends keys_between way old new a b from to limit r sent =
    sent_by bounds fits sends keys_between way (Within from to) (scan_walk old.state bounds from to limit) old.seat
    new.seat a b (new.state, r) (scans_from from to limit from bounds old.state []) sent
