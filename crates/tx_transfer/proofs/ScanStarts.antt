-- A session's scan keeps its start.
use Rattle.std.proofs.Common.{◌≡◌, inl, inr, ℕ, Bool, true, false, List, [], ◌∷◌, ◌++◌, length, nat_lt, Result, Ok, Err, refl, sym, subst, ◌∙◌}
use Rattle.tx_types.specs.declared.key.Key.{Key}
use Rattle.tx_types.specs.declared.mutation.KeyValue.{KeyValue}
use Rattle.tx_types.specs.Keys.{key_lt}
use Rattle.tx_plan.specs.declared.answer.Answer.{Answer}
use Rattle.tx_plan.specs.declared.answer.Answer.TheVariants.{Rows}
use Rattle.tx_journal.specs.Known.{Known}
use Rattle.tx_journal.specs.Replies.{Asked}
use Rattle.tx_journal.specs.Senders.{Reached}
use Rattle.tx_transaction.specs.declared.state.Miss.{Miss}
use Rattle.tx_transaction.specs.Returns.{Response}
use Rattle.tx_transaction.specs.Sessions.{SessionState, after_read, with_passed}
use Rattle.tx_client.specs.Learns.{response_of}
use Rattle.tx_client.specs.Walks.{Walk, asks, grows, ends, then_walk, Sends, part_by, part_walk, enough, scan_after, scan_from, scan_walk, greater, lesser}

-- each end of a walk is of a session that started there
abbrev EndsAt : {R : Type 0} → ℕ → Walk (SessionState × R) → Type 0
EndsAt at (asks body more) = (c : Response) → EndsAt at (more c)
EndsAt at (grows more short) = EndsAt at more × EndsAt at short
EndsAt at (ends r) = r.0.start ≡ at

module _ {S : Type 0} (sends : S → Asked → Reached → S → Type 0) (bounds : List Key) where
  sent_ends : {R : Type 0} (at : ℕ) (w : Walk (SessionState × R)) (k new : Known) (from to : S) (r : SessionState × R)
      → EndsAt at w → Sends sends bounds k from w r to new → r.0.start ≡ at
  sent_ends {R} at (ends x) k new from to r all (is, same, there) =
      subst (λ (y : SessionState × R). y.0.start ≡ at) (sym is) all
  sent_ends at (grows more short) k new from to r all (inl sent) = sent_ends at short k new from to r all.1 sent
  sent_ends at (grows more short) k new from to r all (inr sent) = sent_ends at more k new from to r all.0 sent
  sent_ends at (asks body more) k new from to r all (reached, mid, now, sent, learns, rest) =
      sent_ends at (more (response_of reached)) now new mid to r (all (response_of reached)) rest

read_start : (s : SessionState) (c : Response) → (after_read s c).start ≡ s.start
read_start s (Err why) = refl
read_start s (Ok a) = refl

pub passed_start : (s : SessionState) (t : ℕ) (may : Bool) → (with_passed s t may).start ≡ s.start
passed_start s t false = refl
passed_start s t true = refl

-- who goes on from a state with the rows so far
abbrev OnRows : Type 0
OnRows = SessionState → List KeyValue → Walk (SessionState × Result Answer Miss)

abbrev KeepsAt : ℕ → OnRows → Type 0
KeepsAt at on = (t : SessionState) (rows : List KeyValue) → t.start ≡ at → EndsAt at (on t rows)

module _ (at : ℕ) where
  start_after : (t : SessionState) (limit : ℕ) (rows : List KeyValue) (r : Result Answer Miss) (on : OnRows)
      → KeepsAt at on → t.start ≡ at → EndsAt at (scan_after t (part_by limit rows r) on)
  start_after t limit rows (Ok (Rows found)) on keeps is = by (nat_lt (length (rows ++ found)) limit) refl
    where
      by : (b : Bool) → nat_lt (length (rows ++ found)) limit ≡ b
          → EndsAt at (scan_after t (enough limit (rows ++ found)) on)
      by true e = rw e (keeps t (rows ++ found) is)
      by false e = rw e is
  start_after t limit rows (Ok _) on keeps is = is
  start_after t limit rows (Err why) on keeps is = is

  start_part : (t : SessionState) (low high : Key) (limit : ℕ) (rows : List KeyValue) (on : OnRows) → KeepsAt at on
      → t.start ≡ at → EndsAt at (then_walk (part_walk t low high limit rows) (λ x. scan_after x.0 x.1 on))
  start_part t low high limit rows on keeps is = by (key_lt low high) refl
    where
      by : (b : Bool) → key_lt low high ≡ b
          → EndsAt at (then_walk (part_walk t low high limit rows) (λ x. scan_after x.0 x.1 on))
      by true e = rw e (
        (λ c. start_after (after_read t c) limit rows c on keeps (read_start t c ∙ is)),
        is,
      )
      by false e = rw e (keeps t rows is, is)

  start_scan : (from to : Key) (limit : ℕ) (low : Key) (bounds : List Key)
      → KeepsAt at (scan_from from to limit low bounds)
  start_scan from to limit low [] t rows is =
      start_part t (greater from low) to limit rows (λ u all. ends (u, Ok (Rows all))) (λ u all keeps. keeps) is
  start_scan from to limit low (bound ∷ bounds) t rows is =
      start_part t (greater from low) (lesser to bound) limit rows (scan_from from to limit bound bounds)
      (start_scan from to limit bound bounds) is

-- where a scan was sent
pub scan_start : {S : Type 0} (sends : S → Asked → Reached → S → Type 0) (bounds : List Key) (k new : Known) (a b : S)
    (s : SessionState) (from to : Key) (limit : ℕ) (r : SessionState × Result Answer Miss)
    → Sends sends bounds k a (scan_walk s bounds from to limit) r b new → r.0.start ≡ s.start
scan_start sends bounds k new a b s from to limit r sent =
    sent_ends sends bounds s.start (scan_walk s bounds from to limit) k new a b r
    (start_scan s.start from to limit from bounds s [] refl) sent
