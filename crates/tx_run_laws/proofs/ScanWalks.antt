-- A scan is answered by what was read at its session's start.
use Rattle.std.proofs.Common.{◌≡◌, ℕ, ◌-◌, Bool, true, false, cond, List, [], ◌∷◌, ◌++◌, length, Result, Ok, Err, refl, sym, ap, ◌∙◌, append_assoc, append-nil}
use Rattle.std.specs.Prelude.{nat_lt}
use Rattle.tx_types.specs.declared.key.Key.{Key}
use Rattle.tx_types.specs.declared.mutation.KeyValue.{KeyValue}
use Rattle.tx_types.specs.Keys.{key_lt}
use Rattle.tx_plan.specs.declared.answer.Answer.{Answer}
use Rattle.tx_plan.specs.declared.answer.Answer.TheVariants as answer
use Rattle.tx_core.specs.Histories.{History, Begins}
use Rattle.tx_transaction.specs.declared.state.Miss.{Miss}
use Rattle.tx_transaction.specs.Returns.{Response}
use Rattle.tx_transaction.specs.Sessions.{SessionState, after_read, scan_of}
use Rattle.tx_client.specs.Facts.{RespondsSo}
use Rattle.tx_client.specs.Walks.{Walk, enough, greater, lesser, part_by, part_walk, scan_after, scan_from, scan_walk}
use Rattle.tx_evidence.specs.Tells.{AllScanned, joined}
use Rattle.tx_evidence.proofs.Results.{Comes, all_scanned_on, comes_then}
use Rattle.tx_run_laws.specs.Acts.{IsScanned}

-- what a read is answered, where something is
abbrev pub Reads : (History → Answer → Type 0) → History → SessionState × Result Answer Miss → Type 0
Reads A h (s, Ok a) = A h a
Reads A h (s, Err m) = Unit {0}

either_comes : {R : Type 0} (Q : History → R → Type 0) (h : History) (b : Bool) (x y : Walk R) → Comes Q h x
    → Comes Q h y → Comes Q h (cond b x y)
either_comes Q h true x y p q = p
either_comes Q h false x y p q = q

-- rows of scans at this timestamp
abbrev Scanned : History → ℕ → List KeyValue → Type 0
Scanned h at rows = (parts : List (List KeyValue)) × (rows ≡ joined parts) × AllScanned h at parts

scanned_push : (h : History) (at : ℕ) (parts : List (List KeyValue)) (rows : List KeyValue) → AllScanned h at parts
    → AllScanned h at (rows ∷ []) → AllScanned h at (parts ++ rows ∷ [])
scanned_push h at [] rows all one = one
scanned_push h at (first ∷ parts) rows all one = (all.0, scanned_push h at parts rows all.1 one)

joined_push : (parts : List (List KeyValue)) (rows : List KeyValue) → joined (parts ++ rows ∷ []) ≡ joined parts ++ rows
joined_push [] rows = append-nil rows
joined_push (first ∷ parts) rows = ap (λ rs. first ++ rs) (joined_push parts rows)
    ∙ sym (append_assoc first (joined parts) rows)

scanned_more : (l h : History) → Begins l h → (at : ℕ) (rows found : List KeyValue) → Scanned l at rows
    → AllScanned h at (found ∷ []) → Scanned h at (rows ++ found)
scanned_more l h begins at rows found x one = (
  x.0 ++ found ∷ [],
  ap (λ rs. rs ++ found) x.1 ∙ sym (joined_push x.0 found),
  scanned_push h at x.0 found (all_scanned_on l h begins at x.0 x.2) one,
)

module _ (from to : Key) (limit at : ℕ) where
  abbrev Scans : History → SessionState × Result Answer Miss → Type 0
  Scans h x = Reads (λ l a. IsScanned l at a) h x

  -- what goes on by more rows
  abbrev GoesOn : History → (SessionState → List KeyValue → Walk (SessionState × Result Answer Miss)) → Type 0
  GoesOn h on = (s : SessionState) → s.start ≡ at → (rows : List KeyValue) → Scanned h at rows
      → Comes Scans h (on s rows)

  -- whatever goes on by a part's rows, the scan does by that part
  abbrev PartOf : {A : Type 0} → (A → (SessionState → List KeyValue → Walk (SessionState × Result Answer Miss))
      → Walk (SessionState × Result Answer Miss)) → History → A → Type 0
  PartOf after h x = (on : SessionState → List KeyValue → Walk (SessionState × Result Answer Miss)) → GoesOn h on
      → Comes Scans h (after x on)

  module _ (h : History) (s : SessionState) (start : s.start ≡ at) (rows : List KeyValue)
      (before : Scanned h at rows) where
    enough_rows : (l : History) (all_rows : List KeyValue) → Scanned l at all_rows
        → (on : SessionState → List KeyValue → Walk (SessionState × Result Answer Miss)) → GoesOn l on
        → (t : SessionState) → t.start ≡ at → Comes Scans l (scan_after t (enough limit all_rows) on)
    enough_rows l all_rows x on more t from_there = go (nat_lt (length all_rows) limit) refl
      where
        go : (b : Bool) → nat_lt (length all_rows) limit ≡ b
            → Comes Scans l (scan_after t (enough limit all_rows) on)
        go true is = rw is (more t from_there all_rows x)
        go false is = rw is (x.0, x.1, x.2)

    looked : (low high : Key) (n : ℕ) (l : History) → Begins h l → (c : Response)
        → RespondsSo l (scan_of s low high n) c
        → (on : SessionState → List KeyValue → Walk (SessionState × Result Answer Miss)) → GoesOn l on
        → Comes Scans l (scan_after (after_read s c) (part_by limit rows c) on)
    looked low high n l begins (Err why) was on more = tt
    looked low high n l begins (Ok (answer.Rows found)) was on more =
        enough_rows l (rows ++ found) (scanned_more h l begins at rows found before
        ((record { from = low; to = high; at = s.start; limit = n; bypass = s.bypass }, start, was), tt))
        on more (after_read s (Ok (answer.Rows found))) start
    looked low high n l begins (Ok a) was on more =
        (record { from = low; to = high; at = s.start; limit = n; bypass = s.bypass }, start, was)

    part_comes : (low high : Key)
        → Comes (PartOf (λ x on. scan_after x.0 x.1 on)) h (part_walk s low high limit rows)
    part_comes low high = (
      either_comes (PartOf (λ x on. scan_after x.0 x.1 on)) h (key_lt low high) _ _
          (λ c l begins was. looked low high (limit - length rows) l begins c was)
          (λ on more. more s start rows before),
      (λ on more. tt),
    )

  from_comes : (low : Key) (between : List Key) (h : History) (s : SessionState) → s.start ≡ at
      → (rows : List KeyValue) → Scanned h at rows → Comes Scans h (scan_from from to limit low between s rows)
  from_comes low [] h s start rows before =
      comes_then (PartOf (λ x on. scan_after x.0 x.1 on)) Scans (part_walk s (greater from low) to limit rows) _ h
      (part_comes h s start rows before (greater from low) to)
      (λ l x begins p. p _ (λ t from_there more found. (found.0, found.1, found.2)))
  from_comes low (bound ∷ between) h s start rows before =
      comes_then (PartOf (λ x on. scan_after x.0 x.1 on)) Scans
      (part_walk s (greater from low) (lesser to bound) limit rows) _ h
      (part_comes h s start rows before (greater from low) (lesser to bound))
      (λ l x begins p. p (scan_from from to limit bound between)
      (λ t from_there more found. from_comes bound between l t from_there more found))

pub scan_comes : (bounds : List Key) (from to : Key) (limit : ℕ) (h : History) (s : SessionState)
    → Comes (Reads (λ l a. IsScanned l s.start a)) h (scan_walk s bounds from to limit)
scan_comes bounds from to limit h s = from_comes from to limit s.start from bounds h s refl [] ([], refl, tt)
