-- What collection asks of a record, as it is kept and in the cells.
use Rattle.std.proofs.Common.{◌≡◌, ℕ, ◌<◌, ◌≤◌, Bool, true, false, length, Option, Some, None, refl, sym, ap, subst, ◌∙◌, arith}
use Rattle.std.specs.Prelude.{IsSome, IfSome, IfNone, MatchOption, is_some}
use Rattle.std.proofs.lemmas.Bool.{lt-ltb, le-ltb}
use Rattle.tx_types.specs.declared.limits.TheConstants.{MAX_INLINE_BYTES}
use Rattle.tx_types.specs.declared.value.Value.{Value}
use Rattle.tx_types.specs.declared.value.StoredValue.TheVariants.{Inline, InDefault}
use Rattle.tx_types.specs.declared.mutation.StoredMutation.{StoredMutation}
use Rattle.tx_types.specs.declared.mutation.StoredMutation.TheVariants as stored
use Rattle.tx_types.specs.declared.write.WriteRec.{WriteRec}
use Rattle.tx_types.specs.declared.write.CommitRec.{CommitRec}
use Rattle.tx_types.specs.declared.write.WriteRec.TheVariants.{Commit, Rollback}
use Rattle.tx_plan.specs.Cells.{is_long}
use Rattle.tx_plan.specs.Collection.{IsKind, IsNext, NoneUpto}
use Rattle.tx_types.specs.Keys.{is_visible}
use Rattle.tx_plan.specs.cases.Collect.{commit_is, is_put}
use Rattle.std.specs.Prelude.{option_map, ◌<◌, ◌≤◌}
use Rattle.tx_types.specs.declared.mutation.LockKind.{LockKind}
use Rattle.tx_types.specs.declared.mutation.LockKind.TheVariants as kind
use Rattle.tx_types.specs.Kinds.{stored_kind}
use Rattle.tx_plan.specs.declared.key_records.RecordKind.{RecordKind}
use Rattle.tx_cells.specs.Heads.{record_kind, is_rollback, keeps_apart, write_keeps_apart}
use Rattle.tx_cells.specs.Contents.{OnKey, cells_of, write_of, whole, IsKept, IsWhole}
use Rattle.tx_cells.proofs.Facts.{write_kept}

puts_same : (apart : Option Value) (m : StoredMutation)
    → (record_kind (Commit (record { mutation = m; start = 0; overlapped_rollback = false }))).puts ≡ is_put
    (whole apart m)
puts_same apart (stored.Put (Inline v)) = refl
puts_same None (stored.Put InDefault) = refl
puts_same (Some v) (stored.Put InDefault) = refl
puts_same apart stored.Delete = refl
puts_same apart stored.Lock = refl

seen_same : (apart : Option Value) (m : StoredMutation)
    → (record_kind (Commit (record { mutation = m; start = 0; overlapped_rollback = false }))).is_seen ≡ is_visible
    (whole apart m)
seen_same apart (stored.Put (Inline v)) = refl
seen_same None (stored.Put InDefault) = refl
seen_same (Some v) (stored.Put InDefault) = refl
seen_same apart stored.Delete = refl
seen_same apart stored.Lock = refl

long_same : (apart : Option Value) (m : StoredMutation) → IsKept apart m
    → (record_kind (Commit (record { mutation = m; start = 0; overlapped_rollback = false }))).has_long_value ≡ is_long
    (whole apart m)
long_same apart (stored.Put (Inline v)) k = sym (le-ltb MAX_INLINE_BYTES (length v) k)
long_same None (stored.Put InDefault) k = absurd k
long_same (Some v) (stored.Put InDefault) k = sym (lt-ltb MAX_INLINE_BYTES (length v) k)
long_same apart stored.Delete k = refl
long_same apart stored.Lock k = refl

-- whether a record puts, and whether reads see it
pub kind_puts : (write : ℕ → Option WriteRec) (value : ℕ → Option Value) (c : ℕ)
    (rec : WriteRec) → write c ≡ Some rec
    → (record_kind rec).puts ≡ commit_is is_put (option_map (write_of value) (write c))
kind_puts write value c (Rollback start) e =
    sym (ap (λ (o : Option WriteRec). commit_is is_put (option_map (write_of value) o)) e)
kind_puts write value c (Commit rec) e =
    puts_same (value rec.start) rec.mutation
    ∙ sym (ap (λ (o : Option WriteRec). commit_is is_put (option_map (write_of value) o)) e)

pub kind_seen : (write : ℕ → Option WriteRec) (value : ℕ → Option Value) (c : ℕ)
    (rec : WriteRec) → write c ≡ Some rec
    → (record_kind rec).is_seen ≡ commit_is is_visible (option_map (write_of value) (write c))
kind_seen write value c (Rollback start) e =
    sym (ap (λ (o : Option WriteRec). commit_is is_visible (option_map (write_of value) o)) e)
kind_seen write value c (Commit rec) e =
    seen_same (value rec.start) rec.mutation
    ∙ sym (ap (λ (o : Option WriteRec). commit_is is_visible (option_map (write_of value) o)) e)

-- what is visible is a record, which reads see
pub seen_there : (write : ℕ → Option WriteRec) (value : ℕ → Option Value) (q : ℕ)
    → commit_is is_visible (option_map (write_of value) (write q)) ≡ true → (rec : WriteRec) × (write q ≡ Some rec)
    × ((record_kind rec).is_seen ≡ true)
seen_there write value q e = go (write q) refl
  where
    go : (o : Option WriteRec) → write q ≡ o → (rec : WriteRec) × (write q ≡ Some rec)
        × ((record_kind rec).is_seen ≡ true)
    go None f = (let none = ap (λ (o : Option WriteRec). commit_is is_visible (option_map (write_of value) o))
        f in absurd (cc (none, e)))
    go (Some rec) f = (rec, f, kind_seen write value q rec f ∙ e)

pub kind_is : (x : OnKey) → ∥ IsWhole x ∥₁ → (c : ℕ) (rec : WriteRec) → x.write c ≡ Some rec
    → IsKind ((cells_of x).write c) (record_kind rec)
kind_is x t c (Rollback start) e = (
    let here = ap (option_map (write_of x.value)) e in
    record {
      puts = sym (ap (commit_is is_put) here);
      is_seen = sym (ap (commit_is is_visible) here);
      has_long_value = sym (ap (commit_is is_long) here);
    })
kind_is x t c (Commit rec) e = (
    let here = ap (option_map (write_of x.value)) e in
    record {
      puts = puts_same (x.value rec.start) rec.mutation ∙ sym (ap (commit_is is_put) here);
      is_seen = seen_same (x.value rec.start) rec.mutation ∙ sym (ap (commit_is is_visible) here);
      has_long_value = long_same (x.value rec.start) rec.mutation (write_kept x t c rec e)
          ∙ sym (ap (commit_is is_long) here);
    })

-- the newest record at a bound or below
pub is_next : (x : OnKey) → ∥ IsWhole x ∥₁ → (bound c : ℕ) (rec : WriteRec) → x.write c ≡ Some rec
    → c ≤ bound → ((q : ℕ) → c < q → q ≤ bound → x.write q ≡ None) → IsNext (cells_of x).write bound c (record_kind rec)
is_next x t bound c rec e upto newest = record {
  upto = upto;
  there = λ none. (let here : (cells_of x).write c ≡ Some (write_of x.value rec) =
      ap (option_map (write_of x.value)) e in cc (here, none));
  newest = λ q lt le. ap (option_map (write_of x.value)) (newest q lt le);
  is = kind_is x t c rec e;
}

-- nothing stands between the nearest record and the bound
pub past_nearest : (write : ℕ → Option WriteRec) (bound c : ℕ) → ((q : ℕ) → q ≤ bound → IsSome (write q) → q ≤ c)
    → (q : ℕ) → c < q → q ≤ bound → write q ≡ None
past_nearest write bound c near q lt le = go (write q) refl
  where
    go : (o : Option WriteRec) → write q ≡ o → write q ≡ None
    go None e = e
    go (Some rec) e = absurd (let n = near q le (ap is_some e) in omega (arith, n, lt))

-- a record that is found so is the newest at the bound or below, and where none is
-- found there is none
pub next_found : (x : OnKey) → ∥ IsWhole x ∥₁ → (bound : ℕ) (o : Option (ℕ × RecordKind))
    → IfSome o (λ p. (p.0 ≤ bound) × (option_map record_kind (x.write p.0) ≡ Some p.1))
    → IfSome o (λ p. (q : ℕ) → q ≤ bound → IsSome (x.write q) → q ≤ p.0)
    → IfNone o ((q : ℕ) → q ≤ bound → x.write q ≡ None)
    → MatchOption o (NoneUpto (cells_of x).write bound) (λ p. IsNext (cells_of x).write bound p.0 p.1)
next_found x t bound None found near none = λ q le. ap (option_map (write_of x.value)) (none q le)
next_found x t bound (Some (c, kind)) found near none = go (x.write c) refl found.1
  where
    go : (w : Option WriteRec) → x.write c ≡ w → option_map record_kind w ≡ Some kind
        → IsNext (cells_of x).write bound c kind
    go None e is = absurd (cc is)
    go (Some rec) e is = subst
        (IsNext (cells_of x).write bound c) (cc is)
        (is_next x t bound c rec e found.0 (past_nearest x.write bound c near))

-- ---- of a commit record, by its kind

abbrev pub kind_by : LockKind → Bool → RecordKind
kind_by kind.Put apart = record { puts = true; is_seen = true; has_long_value = apart }
kind_by kind.Delete apart = record { puts = false; is_seen = true; has_long_value = false }
kind_by kind.Lock apart = record { puts = false; is_seen = false; has_long_value = false }

kind_by_stored : (m : StoredMutation)
    → kind_by (stored_kind m) (keeps_apart m) ≡ record_kind
    (Commit (record { mutation = m; start = 0; overlapped_rollback = false }))
kind_by_stored (stored.Put v) = refl
kind_by_stored stored.Delete = refl
kind_by_stored stored.Lock = refl

pub kind_by_is : (w : WriteRec) (k : LockKind) → is_rollback w ≡ false
    → ((rec : CommitRec) → w ≡ Commit rec → k ≡ stored_kind rec.mutation)
    → kind_by k (write_keeps_apart w) ≡ record_kind w
kind_by_is (Commit rec) k n h = ap (λ (k : LockKind). kind_by k (keeps_apart rec.mutation)) (h rec refl)
    ∙ kind_by_stored rec.mutation
kind_by_is (Rollback start) k n h = absurd (cc n)

pub apart_is : (w : WriteRec) → write_keeps_apart w ≡ (record_kind w).has_long_value
apart_is (Rollback start) = refl
apart_is (Commit rec) = by_mutation rec.mutation
  where
    by_mutation : (m : StoredMutation)
        → keeps_apart m ≡ (record_kind
        (Commit (record { mutation = m; start = 0; overlapped_rollback = false }))).has_long_value
    by_mutation (stored.Put v) = refl
    by_mutation stored.Delete = refl
    by_mutation stored.Lock = refl
