-- Requests that are sent one after another, by what came of those before.
use Rattle.std.specs.Prelude.{◌≡◌, ◌⊎◌, cond, ℕ, zero, suc, ◌-◌, List, [], ◌∷◌, ◌++◌, length, nat_lt, Option, Some, None, Result, Ok, Err}
use Rattle.tx_types.specs.declared.key.Key.{Key}
use Rattle.tx_types.specs.declared.mutation.KeyValue.{KeyValue}
use Rattle.tx_types.specs.declared.mutation.Mutation.{Mutation}
use Rattle.tx_types.specs.declared.mutation.Mutation.TheVariants as mutation
use Rattle.tx_plan.specs.declared.body.Body.{Body}
use Rattle.tx_plan.specs.declared.answer.Answer.{Answer}
use Rattle.tx_plan.specs.declared.answer.Answer.TheVariants as answer
use Rattle.tx_types.specs.Keys.{key_lt}
use Rattle.tx_journal.specs.Known.{Known}
use Rattle.tx_journal.specs.Replies.{Asked}
use Rattle.tx_transaction.specs.declared.state.Phase.{Phase}
use Rattle.tx_client.specs.declared.part.ScanPart.{ScanPart}
use Rattle.tx_client.specs.declared.part.ScanPart.TheVariants as part
use Rattle.tx_transaction.specs.declared.state.Miss.{Miss}
use Rattle.tx_transaction.specs.declared.state.Miss.TheVariants as miss
use Rattle.tx_transaction.specs.declared.state.Due.{Due}
use Rattle.tx_transaction.specs.Buffers.{buffered}
use Rattle.tx_transaction.specs.Sessions.{SessionState, heartbeat_of, read_of, scan_of, after_response, after_read}
use Rattle.tx_transaction.specs.Returns.{Response, returned}
use Rattle.tx_journal.specs.Senders.{Reached}
use Rattle.tx_client.specs.Learns.{response_of, Learns}

-- What a caller sends next by what came so far: a request, and what follows by what comes of it; a
-- growth of its own, and what follows where that is refused; or the end.
pub data Walk (R : Type 0) : Type 0 where
  asks : (body : Body) (more : Response → Walk R) → Walk R
  grows : (more short : Walk R) → Walk R
  ends : (result : R) → Walk R

-- one walk after another, by what the first came to
abbrev pub then_walk : {A B : Type 0} → Walk A → (A → Walk B) → Walk B
then_walk (asks body more) next = asks body (λ c. then_walk (more c) next)
then_walk (grows more short) next = grows (then_walk more next) (then_walk short next)
then_walk (ends r) next = next r

module _ {S R : Type 0} (sends : S → Asked → Reached → S → Type 0) (bounds : List Key) where
  -- The Sender's values are joined by just these sends, each by one who had seen what the seat then
  -- knew, and the seat learns what is told.
  abbrev pub Sends : Known → S → Walk R → R → S → Known → Type 0
  Sends k from (ends r) result to new = (result ≡ r) × (to ≡ from) × (new ≡ k)
  Sends k from (grows more short) result to new = Sends k from short result to new ⊎ Sends k from more result to new
  Sends k from (asks body more) result to new = (reached : Reached) × (mid : S) × (then_known : Known)
      × sends from (record { by = k.events; body = body }) reached mid × Learns bounds k reached then_known
      × Sends then_known mid (more (response_of reached)) result to new

  -- What is left of a walk: whatever it comes to, the whole comes to.
  abbrev pub Continues : Known → S → Walk R → Known → S → Walk R → Type 0
  Continues k from w now at left = (result : R) (to : S) (new : Known) → Sends now at left result to new
      → Sends k from w result to new

-- ---- the calls of a session: each comes to the session's state and to what the call answers. What
-- it takes of memory for a request it takes before that: where it is refused, nothing more is sent.

-- memory is refused
abbrev pub short : {R : Type 0} → SessionState → Walk (SessionState × Result R Miss)
short s = ends (s, Err miss.Fault)

-- the request of a phase that is due, if there is one
abbrev pub due_walk : SessionState → Phase → Option Due → Walk (SessionState × Result (Option Answer) Miss)
due_walk s x None = ends (s, Ok None)
due_walk s x (Some due) = grows (asks due.body (λ c. ends (after_response s x due.index c, returned c))) (short s)

-- a heartbeat changes nothing
abbrev pub heartbeat_walk : SessionState → ℕ → Walk (SessionState × Result (Option Answer) Miss)
heartbeat_walk s ttl = grows (asks (heartbeat_of s ttl) (λ c. ends (s, returned c))) (short s)

-- a read
abbrev pub look_walk : SessionState → Body → Walk (SessionState × Result Answer Miss)
look_walk s body = asks body (λ c. ends (after_read s c, c))

-- the read of a key: what the buffer puts, inserts or deletes is answered from there
abbrev pub get_by : SessionState → Key → Option Mutation → Walk (SessionState × Result Answer Miss)
get_by s k (Some (mutation.Put v)) = grows (ends (s, Ok (answer.Found v))) (short s)
get_by s k (Some (mutation.Insert v)) = grows (ends (s, Ok (answer.Found v))) (short s)
get_by s k (Some mutation.Delete) = ends (s, Ok answer.Nothing)
get_by s k _ = grows (look_walk s (read_of s k)) (short s)

abbrev pub get_walk : SessionState → Key → Walk (SessionState × Result Answer Miss)
get_walk s k = get_by s k (buffered s.buffer k)

-- ---- a scan

abbrev pub lesser : Key → Key → Key
lesser j k = cond (key_lt k j) k j

abbrev pub greater : Key → Key → Key
greater j k = cond (key_lt j k) k j

-- where the region n begins, where a range that begins at `from` begins in the region 0, and
-- where it ends at most
abbrev pub low_of : Key → List Key → ℕ → Key
low_of from bounds zero = from
low_of from [] (suc n) = from
low_of from (bound ∷ bounds) (suc n) = low_of bound bounds n

abbrev pub high_of : Key → List Key → ℕ → Key
high_of to [] n = to
high_of to (bound ∷ bounds) zero = lesser to bound
high_of to (bound ∷ bounds) (suc n) = high_of to bounds n

-- the read of a range that is not empty
abbrev pub part_of : SessionState → Key → Key → ℕ → Option Body
part_of s from to limit = cond (key_lt from to) (Some (scan_of s from to limit)) None

-- rows are enough, or more are read
abbrev pub enough : ℕ → List KeyValue → ScanPart
enough limit rows = cond (nat_lt (length rows) limit) (part.More rows) (part.Done (Ok (answer.Rows rows)))

-- what a part comes to by what its read answered: a region's rows come after those before it, any
-- other answer is the scan's
abbrev pub part_by : ℕ → List KeyValue → Result Answer Miss → ScanPart
part_by limit rows (Ok (answer.Rows found)) = enough limit (rows ++ found)
part_by limit rows r = part.Done r

abbrev pub look_part : SessionState → Body → ℕ → List KeyValue → Walk (SessionState × ScanPart)
look_part s body limit rows = then_walk (look_walk s body) (λ x. ends (x.0, part_by limit rows x.1))

-- the part of a range that lies in one region, where it is not empty, with the limit
-- less the rows so far
abbrev pub part_walk : SessionState → Key → Key → ℕ → List KeyValue → Walk (SessionState × ScanPart)
part_walk s from to limit rows =
    grows
    (cond (key_lt from to) (look_part s (scan_of s from to (limit - length rows)) limit rows) (ends (
      s,
      part.More rows,
    )))
    (ends (s, part.Done (Err miss.Fault)))

-- what a scan comes to by its next part
abbrev pub scan_after : SessionState → ScanPart → (SessionState → List KeyValue
    → Walk (SessionState × Result Answer Miss)) → Walk (SessionState × Result Answer Miss)
scan_after s (part.More rows) on = on s rows
scan_after s (part.Done r) on = ends (s, r)

-- the regions' parts of a range in order, from the region that lies at or above `low` on, with the
-- bounds above that
abbrev pub scan_from : Key → Key → ℕ → Key → List Key → SessionState → List KeyValue
    → Walk (SessionState × Result Answer Miss)
scan_from from to limit low [] s rows = then_walk (part_walk s (greater from low) to limit rows)
    (λ x. scan_after x.0 x.1 (λ t all. ends (t, Ok (answer.Rows all))))
scan_from from to limit low (bound ∷ bounds) s rows =
    then_walk (part_walk s (greater from low) (lesser to bound) limit rows)
    (λ x. scan_after x.0 x.1 (scan_from from to limit bound bounds))

-- The rows of a range: the regions' parts are read in order, until the rows are enough or one is
-- not answered by rows.
abbrev pub scan_walk : SessionState → List Key → Key → Key → ℕ → Walk (SessionState × Result Answer Miss)
scan_walk s bounds from to limit = scan_from from to limit from bounds s []
