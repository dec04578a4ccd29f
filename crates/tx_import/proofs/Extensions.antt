-- What was said of a part of a recording holds as more is added behind it.
use Rattle.std.proofs.Common.{◌≡◌, ℕ, ◌+◌, ◌-◌, ◌<◌, ◌≤◌, Bool, List, [], ◌∷◌, ◌++◌, length, take, drop, get_or, Option, Some, None, slice_get, slice_range, refl, sym, ap, subst, ◌∙◌, append_assoc, append-nil, length-append, length-drop, arith, All}
use Rattle.std.specs.List.{AllZip}
use Rattle.std.proofs.lemmas.Option.{slice_get_within, slice_get-get_or, get_or_from_slice_get}
use Rattle.std.proofs.lemmas.List.{drop-append-le, map_push, take-append-le, take_more}
use Rattle.std.proofs.lemmas.List.Elements.{All-weaker, All-push}
use Rattle.std.proofs.Math.ListN.{get_or-append}
use Rattle.std.proofs.Math.Seq.{drop-append_seam, take-length}
use Rattle.tx_recording.specs.declared.recording.Act.{Act}
use Rattle.tx_recording.specs.declared.recording.Act.TheVariants as act
use Rattle.tx_recording.specs.declared.recording.RecordedOp.{RecordedOp}
use Rattle.tx_recording.specs.declared.recording.RecordedTransaction.{RecordedTransaction}
use Rattle.tx_import.specs.declared.name.Name.{Name}
use Rattle.tx_import.specs.declared.name.Scalar.{Scalar}
use Rattle.tx_import.specs.declared.names.KeyedValue.{KeyedValue}
use Rattle.tx_import.specs.declared.line_content.SaidAct.{SaidAct}
use Rattle.tx_import.specs.declared.line_content.SaidAct.TheVariants as said
use Rattle.tx_import.specs.declared.line_content.SaidOp.{SaidOp}
use Rattle.tx_import.specs.declared.line_content.SaidTransaction.{SaidTransaction}
use Rattle.tx_import.specs.declared.draft.Tables.{Tables}
use Rattle.tx_import.specs.declared.draft.Draft.{Draft}
use Rattle.tx_import.specs.Numbers.{Grows, IsValueOf, AreValuesOf, IsActSaid, IsOpSaid, AreOpsSaid, IsProcessSaid, IsTransactionSaid, reads_list, are_lists}
use Rattle.tx_import.specs.Drafts.{GrowsTables, GrowsDraft, AddsOps}

-- ---- growing

pub grows_none : {A : Type 0} (xs : List A) → Grows xs xs
grows_none xs = ([], sym (append-nil xs))

pub grows_then : {A : Type 0} (xs ys zs : List A) → Grows xs ys → Grows ys zs → Grows xs zs
grows_then xs ys zs (a, e) (b, f) = (a ++ b, f ∙ ap (λ l. l ++ b) e ∙ append_assoc xs a b)

pub tables_none : (t : Tables) → GrowsTables t t
tables_none t = record {
  keys = grows_none t.keys;
  values = grows_none t.values;
  lists = grows_none t.lists.items;
  processes = grows_none t.processes;
}

pub tables_then : (a b c : Tables) → GrowsTables a b → GrowsTables b c → GrowsTables a c
tables_then a b c f g = record {
  keys = grows_then a.keys b.keys c.keys f.keys g.keys;
  values = grows_then a.values b.values c.values f.values g.values;
  lists = grows_then a.lists.items b.lists.items c.lists.items f.lists g.lists;
  processes = grows_then a.processes b.processes c.processes f.processes g.processes;
}

pub draft_none : (d : Draft) → GrowsDraft d d
draft_none d = record {
  tables = tables_none d.tables;
  ops = grows_none d.ops.items;
  elements = grows_none d.elements.items;
}

pub draft_then : (a b c : Draft) → GrowsDraft a b → GrowsDraft b c → GrowsDraft a c
draft_then a b c f g = record {
  tables = tables_then a.tables b.tables c.tables f.tables g.tables;
  ops = grows_then a.ops.items b.ops.items c.ops.items f.ops g.ops;
  elements = grows_then a.elements.items b.elements.items c.elements.items f.elements g.elements;
}

-- ---- lists

pub get_grows : {A : Type 0} (xs ys : List A) (n : ℕ) (x : A) → Grows xs ys → slice_get xs n ≡ Some x
    → slice_get ys n ≡ Some x
get_grows xs ys n x (more, e) h =
    let within : n < length xs = slice_get_within xs n x h in
    let count = length-append xs more in
    let longer : n < length (xs ++ more) = omega (arith, within, count) in
    ap (λ l. slice_get l n) e ∙ slice_get-get_or (xs ++ more) n x longer
    ∙ ap Some (get_or-append xs more x n within ∙ get_or_from_slice_get xs n x x h)

-- a part stays as it is
pub range_grows : {A : Type 0} (xs ys : List A) (a b : ℕ) → Grows xs ys → a ≤ b → b ≤ length xs
    → slice_range ys a b ≡ slice_range xs a b
range_grows xs ys a b (more, e) le within =
    let first : a ≤ length xs = omega (arith, le, within) in
    let rest = length-drop a xs in
    let short : b - a ≤ length (drop a xs) = omega (arith, rest, le, within) in
    ap (λ l. slice_range l a b) e ∙ ap (take (b - a)) (drop-append-le a xs more first)
    ∙ take-append-le (b - a) (drop a xs) more short

pub length_grows : {A : Type 0} (xs ys : List A) → Grows xs ys → length xs ≤ length ys
length_grows xs ys (more, e) =
    let count = ap length e ∙ length-append xs more in omega (arith, count)

pub zip_to : {A B : Type 0} (P Q : A → B → Type 0) → ((x : A) (y : B) → P x y → Q x y) → (xs : List A) (ys : List B)
    → AllZip P xs ys → AllZip Q xs ys
zip_to P Q f [] [] h = tt
zip_to P Q f [] (y ∷ ys) h = absurd h
zip_to P Q f (x ∷ xs) [] h = absurd h
zip_to P Q f (x ∷ xs) (y ∷ ys) h = (f x y h.0, zip_to P Q f xs ys h.1)

pub zip_push : {A B : Type 0} (P : A → B → Type 0) (xs : List A) (ys : List B) (x : A) (y : B) → AllZip P xs ys
    → P x y → AllZip P (xs ++ x ∷ []) (ys ++ y ∷ [])
zip_push P [] [] x y h p = (p, tt)
zip_push P [] (z ∷ ys) x y h p = absurd h
zip_push P (z ∷ xs) [] x y h p = absurd h
zip_push P (a ∷ xs) (b ∷ ys) x y h p = (h.0, zip_push P xs ys x y h.1 p)

pub zip_long : {A B : Type 0} (P : A → B → Type 0) (xs : List A) (ys : List B) → AllZip P xs ys
    → length xs ≡ length ys
zip_long P [] [] h = refl
zip_long P [] (y ∷ ys) h = absurd h
zip_long P (x ∷ xs) [] h = absurd h
zip_long P (x ∷ xs) (y ∷ ys) h = omega (arith, zip_long P xs ys h.1)

-- ---- what was said

pub values_grow : (old new : List KeyedValue) (key : ℕ) (ns : List ℕ) (found : List Scalar) → Grows old new
    → AreValuesOf old key ns found → AreValuesOf new key ns found
values_grow old new key ns found g h =
    zip_to (IsValueOf old key) (IsValueOf new key) (λ n value is. get_grows old new n _ g is) ns found h

pub act_grows : (old new : List KeyedValue) (xs ys : List ℕ) (key : ℕ) (a : Act) (s : SaidAct) → Grows old new
    → Grows xs ys → IsActSaid old xs key a s → IsActSaid new ys key a s
act_grows old new xs ys key (act.Append v) (said.Append name) g e h = get_grows old new v _ g h
act_grows old new xs ys key (act.Write v) (said.Write name) g e h = get_grows old new v _ g h
act_grows old new xs ys key (act.Read span) (said.Read names) g e h =
    let upto = span.first + span.count in
    let same : slice_range ys span.first upto ≡ slice_range xs span.first upto =
    range_grows xs ys span.first upto e (omega arith) h.0 in
    let longer = length_grows xs ys e in
    let P : List ℕ → Type 0 = λ l. AreValuesOf new key l names in
    (omega (arith, longer, h.0), subst P (sym same) (values_grow old new key _ names g h.1))
act_grows old new xs ys key (act.Read span) (said.ReadList names) g e h =
    let upto = span.first + span.count in
    let same : slice_range ys span.first upto ≡ slice_range xs span.first upto =
    range_grows xs ys span.first upto e (omega arith) h.0 in
    let longer = length_grows xs ys e in
    let P : List ℕ → Type 0 = λ l. AreValuesOf new key l names in
    (omega (arith, longer, h.0), subst P (sym same) (values_grow old new key _ names g h.1))
act_grows old new xs ys key (act.Append v) (said.ReadList names) g e h = absurd h
act_grows old new xs ys key (act.Write v) (said.ReadList names) g e h = absurd h
act_grows old new xs ys key (act.Append v) (said.Write name) g e h = absurd h
act_grows old new xs ys key (act.Append v) (said.Read names) g e h = absurd h
act_grows old new xs ys key (act.Write v) (said.Append name) g e h = absurd h
act_grows old new xs ys key (act.Write v) (said.Read names) g e h = absurd h
act_grows old new xs ys key (act.Read span) (said.Append name) g e h = absurd h
act_grows old new xs ys key (act.Read span) (said.Write name) g e h = absurd h

pub op_grows : (old new : Tables) (xs ys : List ℕ) (o : RecordedOp) (s : SaidOp) → GrowsTables old new → Grows xs ys
    → IsOpSaid old xs o s → IsOpSaid new ys o s
op_grows old new xs ys o s g e h = (
  get_grows old.keys new.keys o.key s.key g.keys h.0,
  act_grows old.values new.values xs ys o.key o.act s.act g.values e h.1,
)

pub ops_grow : (old new : Tables) (xs ys : List ℕ) (os : List RecordedOp) (ss : List SaidOp) → GrowsTables old new
    → Grows xs ys → AreOpsSaid old xs os ss → AreOpsSaid new ys os ss
ops_grow old new xs ys os ss g e h =
    zip_to (IsOpSaid old xs) (IsOpSaid new ys) (λ o s is. op_grows old new xs ys o s g e is) os ss h

pub process_grows : (old new : List Name) (p : Option ℕ) (s : Option Name) → Grows old new → IsProcessSaid old p s
    → IsProcessSaid new p s
process_grows old new None None g h = tt
process_grows old new (Some n) (Some name) g h = get_grows old new n name g h
process_grows old new None (Some name) g h = absurd h
process_grows old new (Some n) None g h = absurd h

pub transaction_grows : (old new : Draft) (t : RecordedTransaction) (s : SaidTransaction) → GrowsDraft old new
    → IsTransactionSaid old.tables old.elements.items old.ops.items t s
    → IsTransactionSaid new.tables new.elements.items new.ops.items t s
transaction_grows old new t s g h =
    let longer = length_grows old.ops.items new.ops.items g.ops in
    let same : slice_range new.ops.items t.first t.upto ≡ slice_range old.ops.items t.first t.upto =
    range_grows old.ops.items new.ops.items t.first t.upto g.ops h.range.0 h.range.1 in
    let P : List RecordedOp → Type 0 = λ l. AreOpsSaid new.tables new.elements.items l s.ops in
    let lists = length_grows old.tables.lists.items new.tables.lists.items g.tables.lists in
    record {
      id = h.id;
      outcome = h.outcome;
      process = process_grows old.tables.processes new.tables.processes t.process s.process g.tables.processes
          h.process;
      began = h.began;
      ended = h.ended;
      range = (h.range.0, omega (arith, longer, h.range.1));
      ops_said = subst P (sym same)
          (ops_grow old.tables new.tables old.elements.items new.elements.items _ s.ops g.tables g.elements h.ops_said);
      lists = omega (arith, lists, h.lists);
      lists_said = range_grows old.tables.lists.items new.tables.lists.items t.first t.upto g.tables.lists h.range.0
          h.lists ∙ h.lists_said;
    }

-- ---- one more

pub zip_append : {A B : Type 0} (P : A → B → Type 0) (xs us : List A) (ys vs : List B) → AllZip P xs ys
    → AllZip P us vs → AllZip P (xs ++ us) (ys ++ vs)
zip_append P [] us [] vs h k = k
zip_append P [] us (y ∷ ys) vs h k = absurd h
zip_append P (x ∷ xs) us [] vs h k = absurd h
zip_append P (x ∷ xs) us (y ∷ ys) vs h k = (h.0, zip_append P xs us ys vs h.1 k)

-- one more than the first few
pub next_of : {A : Type 0} (xs : List A) (i : ℕ) (x : A) → i < length xs → x ≡ get_or xs i x
    → take (i + 1) xs ≡ take i xs ++ x ∷ []
next_of xs i x within is = take_more xs i x within ∙ ap (λ y. take i xs ++ y ∷ []) (sym is)

-- one more value
pub values_more : (mid new : List KeyedValue) (key : ℕ) (start xs ys : List ℕ) (found : List Scalar) (i n : ℕ)
    (value : Scalar) → i < length found → value ≡ get_or found i value → Grows mid new → IsValueOf new key n value
    → ys ≡ xs ++ n ∷ [] → ((ns : List ℕ) × (xs ≡ start ++ ns) × AreValuesOf mid key ns (take i found))
    → ((ns : List ℕ) × (ys ≡ start ++ ns) × AreValuesOf new key ns (take (i + 1) found))
values_more mid new key start xs ys found i n value within is g one more (ns, e, vals) =
    let all = zip_push (IsValueOf new key) ns (take i found) n value (values_grow mid new key ns (take i found) g vals)
    one in
    let P : List Scalar → Type 0 = λ l. AreValuesOf new key (ns ++ n ∷ []) l in (
      ns ++ n ∷ [],
      more ∙ ap (λ l. l ++ n ∷ []) e ∙ append_assoc start ns (n ∷ []),
      subst P (sym (next_of found i value within is)) all,
    )

pub within_more : (mid new : List KeyedValue) (key : ℕ) (xs ys : List ℕ) (n : ℕ) (value : Scalar) → Grows mid new
    → IsValueOf new key n value → ys ≡ xs ++ n ∷ [] → All (λ v. v < length mid) xs → All (λ v. v < length new) ys
within_more mid new key xs ys n value g one more all =
    let longer = length_grows mid new g in
    let before : All (λ v. v < length new) xs =
    All-weaker (λ v. v < length mid) (λ v. v < length new) (λ v lt. omega (arith, lt, longer)) xs all in
    let P : List ℕ → Type 0 = λ l. All (λ v. v < length new) l in
    subst P (sym more) (All-push (λ v. v < length new) xs n before (slice_get_within new n _ one))

-- the part that was added
pub part_is : (xs start ns : List ℕ) (first count : ℕ) → xs ≡ start ++ ns → first ≡ length start → count ≡ length ns
    → slice_range xs first (first + count) ≡ ns
part_is xs start ns first count e at many =
    let n : (first + count) - first ≡ length ns = omega (arith, many) in
    ap (λ l. slice_range l first (first + count)) e ∙ ap (λ k. take k (drop first (start ++ ns))) n
    ∙ ap (λ k. take (length ns) (drop k (start ++ ns))) at ∙ ap (take (length ns)) (drop-append_seam start ns)
    ∙ take-length ns

-- one more operation
pub ops_more : (start mid new : Draft) (saids : List SaidOp) (i : ℕ) (s : SaidOp) → i < length saids
    → s ≡ get_or saids i s → GrowsDraft mid new → AddsOps start mid (take i saids) → AddsOps mid new (s ∷ [])
    → AddsOps start new (take (i + 1) saids)
ops_more start mid new saids i s within is g (os, e, before) (ps, f, one) =
    let old = ops_grow mid.tables new.tables mid.elements.items new.elements.items os (take i saids) g.tables g.elements
    before in
    let all = zip_append (IsOpSaid new.tables new.elements.items) os ps (take i saids) (s ∷ []) old one in
    let P : List SaidOp → Type 0 = λ l. AreOpsSaid new.tables new.elements.items (os ++ ps) l in (
      os ++ ps,
      f ∙ ap (λ l. l ++ ps) e ∙ append_assoc start.ops.items os ps,
      subst P (sym (next_of saids i s within is)) all,
    )

-- whether one more is a read of a list
pub lists_more : (start mid new : List Bool) (saids : List SaidOp) (i : ℕ) (s : SaidOp) → i < length saids
    → s ≡ get_or saids i s → mid ≡ start ++ are_lists (take i saids) → new ≡ mid ++ reads_list s.act ∷ []
    → new ≡ start ++ are_lists (take (i + 1) saids)
lists_more start mid new saids i s within is before more =
    let one = ap are_lists (next_of saids i s within is) ∙ map_push (λ o. reads_list o.act) (take i saids) s in
    more ∙ ap (λ l. l ++ reads_list s.act ∷ []) before
    ∙ append_assoc start (are_lists (take i saids)) (reads_list s.act ∷ []) ∙ ap (λ l. start ++ l) (sym one)
