-- The recording of a draft.
use Rattle.std.proofs.Common.{◌≡◌, ℕ, ◌+◌, ◌^◌, ◌<◌, ◌≤◌, List, [], ◌∷◌, ◌++◌, length, All, sym, ap, subst, ◌∙◌, length-append, arith}
use Rattle.std.specs.List.{AllZip}
use Rattle.std.proofs.lemmas.List.Elements.{All-weaker, All-push}
use Rattle.std.proofs.lemmas.Option.{slice_get_within}
use Rattle.tx_recording.specs.declared.recording.Act.{Act}
use Rattle.tx_recording.specs.declared.recording.Act.TheVariants as act
use Rattle.tx_recording.specs.declared.recording.RecordedOp.{RecordedOp}
use Rattle.tx_recording.specs.declared.recording.RecordedTransaction.{RecordedTransaction}
use Rattle.tx_recording.specs.declared.recording.Recording.{Recording}
use Rattle.tx_recording.specs.Recordings.{IsRecording, IsTransactionOf, IsActOf, IsOpOf}
use Rattle.tx_import.specs.declared.names.KeyedValue.{KeyedValue}
use Rattle.tx_import.specs.declared.line_content.SaidAct.{SaidAct}
use Rattle.tx_import.specs.declared.line_content.SaidAct.TheVariants as said
use Rattle.tx_import.specs.declared.line_content.SaidOp.{SaidOp}
use Rattle.tx_import.specs.declared.line_content.SaidTransaction.{SaidTransaction}
use Rattle.tx_import.specs.declared.draft.Tables.{Tables}
use Rattle.tx_import.specs.declared.draft.Draft.{Draft}
use Rattle.tx_import.specs.Numbers.{IsActSaid, IsOpSaid, IsTransactionSaid}
use Rattle.tx_import.specs.Drafts.{GrowsDraft, AddsTransaction, IsActIn, IsOpIn, FitsDraft, IsDraftOf}
use Rattle.tx_import.proofs.Extensions.{length_grows, zip_to, zip_push, transaction_grows}

-- ---- what is named is there

-- it stays there
act_stays : (v w e f : ℕ) (a : Act) → v ≤ w → e ≤ f → IsActIn v e a → IsActIn w f a
act_stays v w e f (act.Append n) more longer h = omega (arith, more, h)
act_stays v w e f (act.Write n) more longer h = omega (arith, more, h)
act_stays v w e f (act.Read span) more longer h = omega (arith, longer, h)

pub ops_stay : (k l v w e f : ℕ) (os : List RecordedOp) → k ≤ l → v ≤ w → e ≤ f → All (IsOpIn k v e) os
    → All (IsOpIn l w f) os
ops_stay k l v w e f os keys values longer h =
    All-weaker (IsOpIn k v e) (IsOpIn l w f)
    (λ o is. (omega (arith, keys, is.0), act_stays v w e f o.act values longer is.1)) os h

-- what was said is there
act_there : (values : List KeyedValue) (xs : List ℕ) (key : ℕ) (a : Act) (s : SaidAct) → IsActSaid values xs key a s
    → IsActIn (length values) (length xs) a
act_there values xs key (act.Append v) (said.Append name) h = slice_get_within values v _ h
act_there values xs key (act.Write v) (said.Write name) h = slice_get_within values v _ h
act_there values xs key (act.Read span) (said.Read names) h = h.0
act_there values xs key (act.Read span) (said.ReadList names) h = h.0
act_there values xs key (act.Append v) (said.ReadList names) h = absurd h
act_there values xs key (act.Write v) (said.ReadList names) h = absurd h
act_there values xs key (act.Append v) (said.Write name) h = absurd h
act_there values xs key (act.Append v) (said.Read names) h = absurd h
act_there values xs key (act.Write v) (said.Append name) h = absurd h
act_there values xs key (act.Write v) (said.Read names) h = absurd h
act_there values xs key (act.Read span) (said.Append name) h = absurd h
act_there values xs key (act.Read span) (said.Write name) h = absurd h

pub op_there : (tables : Tables) (xs : List ℕ) (o : RecordedOp) (s : SaidOp) → IsOpSaid tables xs o s
    → IsOpIn (length tables.keys) (length tables.values) (length xs) o
op_there tables xs o s h =
    (slice_get_within tables.keys o.key s.key h.0, act_there tables.values xs o.key o.act s.act h.1)

-- ---- the recording

act_of : (r : Recording) (a : Act) → IsActIn r.values (length r.elements.items) a → IsActOf r a
act_of r (act.Append v) h = h
act_of r (act.Write v) h = h
act_of r (act.Read span) h = h

ops_of : (r : Recording) (os : List RecordedOp) → All (IsOpIn r.keys r.values (length r.elements.items)) os
    → All (IsOpOf r) os
ops_of r os h =
    All-weaker (IsOpIn r.keys r.values (length r.elements.items)) (IsOpOf r) (λ o is. (is.0, act_of r o.act is.1)) os h

pub recorded : (d : Draft) (r : Recording) → FitsDraft d → length d.transactions.items < 2 ^ 30
    → r.transactions ≡ d.transactions → r.ops ≡ d.ops → r.elements ≡ d.elements → r.keys ≡ length d.tables.keys
    → r.values ≡ length d.tables.values → IsRecording r
recorded d r fits few ts os es keys values =
    let ops : All (IsOpIn r.keys r.values (length r.elements.items)) r.ops.items =
    rw (keys, values, es, os) fits.fits.ops in
    let elements : All (λ v. v < r.values) r.elements.items = rw (values, es) fits.fits.elements in
    let all : All (IsTransactionOf (length r.ops.items)) r.transactions.items = rw (ts, os) fits.ranges in
    let short : length d.ops.items < 2 ^ 32 = omega (arith, fits.fits.few) in
    record {
      few = rw ts few;
      short = rw os short;
      transactions = all;
      ops = ops_of r r.ops.items ops;
      elements = elements;
    }

-- ---- one more transaction

pub draft_adds : (old new : Draft) (said : List SaidTransaction) (s : SaidTransaction) → GrowsDraft old new
    → AddsTransaction old new s → IsDraftOf old said → IsDraftOf new (said ++ s ∷ [])
draft_adds old new said s grows (t, is, one) before =
    let P = IsTransactionSaid new.tables new.elements.items new.ops.items in
    let all : AllZip P old.transactions.items said =
    zip_to (IsTransactionSaid old.tables old.elements.items old.ops.items) P
    (λ t s h. transaction_grows old new t s grows h) old.transactions.items said before in
    let Q : List RecordedTransaction → Type 0 = λ ts. AllZip P ts (said ++ s ∷ []) in
    subst Q (sym is) (zip_push P old.transactions.items said t s all one)

pub counts_one : (old new : Draft) (s : SaidTransaction) → AddsTransaction old new s
    → length new.transactions.items ≤ length old.transactions.items + 1
counts_one old new s (t, is, one) =
    let count = ap length is ∙ length-append old.transactions.items (t ∷ []) in omega (arith, count)

-- the operations of each transaction are there
pub ranges_stay : (old new : Draft) (s : SaidTransaction) → GrowsDraft old new → AddsTransaction old new s
    → All (IsTransactionOf (length old.ops.items)) old.transactions.items
    → All (IsTransactionOf (length new.ops.items)) new.transactions.items
ranges_stay old new s grows (t, is, one) all =
    let longer = length_grows old.ops.items new.ops.items grows.ops in
    let P = IsTransactionOf (length new.ops.items) in
    let before : All P old.transactions.items =
    All-weaker (IsTransactionOf (length old.ops.items)) P (λ t h. (h.0, omega (arith, longer, h.1)))
    old.transactions.items all in
    let Q : List RecordedTransaction → Type 0 = λ ts. All P ts in
    subst Q (sym is) (All-push P old.transactions.items t before one.range)
