-- A scan is its regions' parts in order.
use Rattle.std.proofs.Common.{◌≡◌, ◌≤◌, ◌<◌, ◌-◌, ◌+◌, ℕ, zero, suc, Bool, true, false, cond, inl, inr, List, [], ◌∷◌, length, Some, None, Ok, Err, Result, refl, sym, ap, subst, ◌∙◌, arith}
use Rattle.tx_types.specs.declared.key.Key.{Key}
use Rattle.tx_types.specs.declared.mutation.KeyValue.{KeyValue}
use Rattle.tx_plan.specs.declared.body.Body.{Body}
use Rattle.tx_plan.specs.declared.answer.Answer.{Answer}
use Rattle.tx_plan.specs.declared.answer.Answer.TheVariants.{Rows}
use Rattle.tx_types.specs.Keys.{key_lt}
use Rattle.tx_journal.specs.Known.{Known}
use Rattle.tx_journal.specs.Replies.{Asked}
use Rattle.tx_client.specs.declared.part.ScanPart.{ScanPart}
use Rattle.tx_client.specs.declared.part.ScanPart.TheVariants.{More, Done}
use Rattle.tx_transaction.specs.declared.state.Miss.{Miss}
use Rattle.tx_transaction.specs.Sessions.{SessionState, scan_of}
use Rattle.tx_transaction.specs.declared.state.Miss.TheVariants as miss
use Rattle.tx_journal.specs.Senders.{Reached}
use Rattle.tx_client.specs.Calls.{Seated, seated}
use Rattle.tx_client.specs.Walks.{Walk, ends, then_walk, Sends, Continues, look_walk, look_part, part_by, part_of, part_walk, scan_after, scan_from, low_of, high_of, greater}
use Rattle.tx_client.proofs.Sends.{sent_then}

-- the body of a part that is not empty
pub part_body : (s : SessionState) (low high : Key) (n : ℕ) (body : Body) → part_of s low high n ≡ Some body
    → body ≡ scan_of s low high n
part_body s low high n body = go (key_lt low high)
  where
    go : (b : Bool) → cond b (Some (scan_of s low high n)) None ≡ Some body → body ≡ scan_of s low high n
    go true e = sym (cc (e))
    go false e = absurd (cc (e))

-- what is left of a scan, from the region n on
abbrev pub scan_left : Key → Key → ℕ → Key → List Key → ℕ → SessionState → List KeyValue
    → Walk (SessionState × Result Answer Miss)
scan_left from to limit low bounds zero s rows = scan_from from to limit low bounds s rows
scan_left from to limit low [] (suc n) s rows = ends (s, Ok (Rows rows))
scan_left from to limit low (bound ∷ bounds) (suc n) s rows = scan_left from to limit bound bounds n s rows

scan_step : (from to : Key) (limit : ℕ) (low : Key) (bounds : List Key) (n : ℕ) (s : SessionState)
    (rows : List KeyValue) → n ≤ length bounds
    → scan_left from to limit low bounds n s rows ≡ then_walk
    (part_walk s (greater from (low_of low bounds n)) (high_of to bounds n) limit rows)
    (λ x. scan_after x.0 x.1 (scan_left from to limit low bounds (suc n)))
scan_step from to limit low [] zero s rows le = refl
scan_step from to limit low (b ∷ bs) zero s rows le = refl
scan_step from to limit low [] (suc n) s rows le = absurd (omega (arith, le))
scan_step from to limit low (b ∷ bs) (suc n) s rows le = scan_step from to limit b bs n s rows (omega (arith, le))

scan_past : (from to : Key) (limit : ℕ) (low : Key) (bounds : List Key) (n : ℕ)
    (s : SessionState) (rows : List KeyValue) → length bounds < n
    → scan_left from to limit low bounds n s rows ≡ ends (s, Ok (Rows rows))
scan_past from to limit low bounds zero s rows lt = absurd (omega (arith, lt))
scan_past from to limit low [] (suc n) s rows lt = refl
scan_past from to limit low (b ∷ bs) (suc n) s rows lt = scan_past from to limit b bs n s rows (omega (arith, lt))

module _ {S : Type 0} (sends : S → Asked → Reached → S → Type 0) (bounds : List Key) where
  -- what a read answered makes a part
  pub part_looked : (k new : Known) (from to : S) (s after : SessionState) (body : Body) (limit : ℕ)
      (rows : List KeyValue) (r : Result Answer Miss) (p : ScanPart) → Sends sends bounds k from (look_walk s body)
      (after, r) to new → p ≡ part_by limit rows r
      → Sends sends bounds k from (look_part s body limit rows) (after, p) to new
  part_looked k new from to s after body limit rows r p looked is = sent_then sends bounds (look_walk s body)
      (λ x. ends (x.0, part_by limit rows x.1)) k new new from to to (after, r) (after, p) looked
      (λ j. (after, is j), refl, refl)

  -- a part for whose rows there is no room
  pub part_short : (k : Known) (from to : S) (s : SessionState) (low high : Key) (limit : ℕ) (rows : List KeyValue)
      (p : ScanPart) (new : Seated) → p ≡ Done (Err miss.Fault)
      → new ≡ seated s k → to ≡ from
      → Sends sends bounds k from (part_walk s low high limit rows) (new.state, p) to new.seat
  part_short k from to s low high limit rows p new e same way =
      inl ((λ j. ((same j).state, e j)), way, ap (λ (x : Seated). x.seat) same)

  -- a part that is not empty
  pub part_some : (k new : Known) (from to : S) (s after : SessionState) (low high : Key) (n limit : ℕ)
      (rows : List KeyValue) (body : Body) (p : ScanPart) → n ≡ limit - length rows → part_of s low high n ≡ Some body
      → Sends sends bounds k from (look_part s body limit rows) (after, p) to new
      → Sends sends bounds k from (part_walk s low high limit rows) (after, p) to new
  part_some k new from to s after low high n limit rows body p left e sent = inr (go (key_lt low high) e)
    where
      go : (b : Bool) → cond b (Some (scan_of s low high n)) None ≡ Some body
          → Sends sends bounds k from
          (cond b (look_part s (scan_of s low high (limit - length rows)) limit rows) (ends (s, More rows)))
          (after, p) to new
      go true e =
          let same : scan_of s low high (limit - length rows) ≡ body = ap (scan_of s low high) (sym left) ∙ cc (e) in
          subst (λ b. Sends sends bounds k from (look_part s b limit rows) (after, p) to new) (sym same) sent
      go false e = absurd (cc (e))

  -- an empty part
  pub part_none : (k : Known) (from : S) (s : SessionState) (low high : Key) (n limit : ℕ)
      (rows : List KeyValue) → part_of s low high n ≡ None
      → Sends sends bounds k from (part_walk s low high limit rows) (s, More rows) from k
  part_none k from s low high n limit rows e = inr (go (key_lt low high) e)
    where
      go : (b : Bool) → cond b (Some (scan_of s low high n)) None ≡ None
          → Sends sends bounds k from
          (cond b (look_part s (scan_of s low high (limit - length rows)) limit rows) (ends (s, More rows)))
          (s, More rows) from k
      go true e = absurd (cc (e))
      go false e = (refl, refl, refl)

  module _ (k0 : Known) (s0 : S) (w : Walk (SessionState × Result Answer Miss)) (from to : Key)
      (limit n : ℕ) (k new : Known) (at next : S) (s after : SessionState) (rows : List KeyValue)
      (le : n ≤ length bounds) where
    -- one more part was read
    pub more_read : Continues sends bounds k0 s0 w k at (scan_left from to limit from bounds n s rows)
        → (more : List KeyValue) → Sends sends bounds k at (part_walk s (greater from (low_of from bounds n))
        (high_of to bounds n) limit rows) (after, More more) next new
        → Continues sends bounds k0 s0 w new next (scan_left from to limit from bounds (n + 1) after more)
    more_read goes more sent result end then_known rest =
        let one : suc n ≡ n + 1 = omega arith in
        let on = subst (λ m. Sends sends bounds new next (scan_left from to limit from bounds m after more) result end
        then_known) (sym one) rest in
        goes result end then_known
        (subst (λ x. Sends sends bounds k at x result end then_known)
        (sym (scan_step from to limit from bounds n s rows le))
        (sent_then sends bounds (part_walk s (greater from (low_of from bounds n)) (high_of to bounds n) limit rows)
        (λ x. scan_after x.0 x.1 (scan_left from to limit from bounds (suc n))) k new then_known at next end
        (after, More more) result sent on))

    -- the last one was
    pub done_read : Continues sends bounds k0 s0 w k at (scan_left from to limit from bounds n s rows)
        → (r : Result Answer Miss)
        → Sends sends bounds k at (part_walk s (greater from (low_of from bounds n)) (high_of to bounds n) limit rows)
        (after, Done r) next new → Sends sends bounds k0 s0 w (after, r) next new
    done_read goes r sent =
        goes (after, r) next new
        (subst (λ x. Sends sends bounds k at x (after, r) next new)
        (sym (scan_step from to limit from bounds n s rows le))
        (sent_then sends bounds (part_walk s (greater from (low_of from bounds n)) (high_of to bounds n) limit rows)
        (λ x. scan_after x.0 x.1 (scan_left from to limit from bounds (suc n))) k new new at next next
        (after, Done r) (after, r) sent (refl, refl, refl)))

  -- no region is left
  pub all_read : (k0 : Known) (s0 : S) (w : Walk (SessionState × Result Answer Miss)) (from to : Key) (limit n : ℕ)
      (k : Known) (at : S) (s : SessionState) (rows : List KeyValue) → length bounds < n
      → Continues sends bounds k0 s0 w k at (scan_left from to limit from bounds n s rows)
      → Sends sends bounds k0 s0 w (s, Ok (Rows rows)) at k
  all_read k0 s0 w from to limit n k at s rows lt goes = goes (s, Ok (Rows rows)) at k
      (subst (λ x. Sends sends bounds k at x (s, Ok (Rows rows)) at k)
      (sym (scan_past from to limit from bounds n s rows lt)) (refl, refl, refl))
