-- Reads: what the versions show is what the table sees.
use Rattle.std.proofs.Common.{zero, suc, length, get_or, ◌&&◌, ◌||◌, nat_lt, ◌≡◌, ℕ, ◌<◌, inl, inr, Bool, true, false, List, [], ◌∷◌, Option, Some, None, bytes_eq, refl, sym, ap, subst, ◌∙◌, arith}
use Rattle.std.specs.Ordering.{nat_cmp}
use Rattle.std.specs.BTreeMap as tree
use Rattle.tx_types.specs.declared.key.Key.{Key}
use Rattle.tx_types.specs.declared.value.Value.{Value}
use Rattle.tx_types.specs.declared.mutation.KeyValue.{KeyValue}
use Rattle.tx_types.specs.declared.mutation.Mutation.{Mutation}
use Rattle.tx_machine.specs.declared.machine.TxnStage.{TxnStage}
use Rattle.tx_machine.specs.declared.reads.Reads.{Reads}
use Rattle.tx_machine.specs.declared.step.ScanRead.{ScanRead}
use Rattle.tx_types.specs.Keys.{key_lt, key_le, value_in, reaches}
use Rattle.tx_machine.specs.Machine.{Table, Commits, Newest, Sees, SeesRows, with_read}
use Rattle.tx_machine.specs.Versions.{Versions, Fates, Listed, NewestIn, SeenIn}
use Rattle.tx_machine.specs.Noted.{Grows, AddsRead, SameReads, EndsWithin}
use Rattle.tx_machine.specs.Shown.{Index, versions_of, SeenOf, Shows, ShowsRows}
use Rattle.tx_machine.specs.Representation.{version_of, IsKept, TellsTable, ListedOn}
use Rattle.tx_machine.proofs.Basics.{cond_true, cond_false, key_test, key_same}
use Rattle.tx_machine.proofs.Steps.{keeps_more}
use Rattle.tx_machine.proofs.CommitSteps.{on_commit, commit_on}

module _ (last : ℕ) (stages : ℕ → Option TxnStage) (fates : Fates) (index : Index) (reads : Reads) (table : Table)
    (tells : TellsTable last stages (tree.get nat_cmp fates) (version_of index) (IsKept index reads) table) where
  -- ---- what is seen

  module _ (k : Key) (versions : Versions) (here : versions_of index k ≡ Some versions) where
    to_commit : (u c : ℕ) (m : Mutation) → Listed versions fates u c m → Commits table.row k u c m
    to_commit u c m x = on_commit last stages fates index reads table tells k u c m
        (subst (λ (o : Option Versions). ListedOn o fates u c m) (sym here) x)

    to_listed : (u c : ℕ) (m : Mutation) → Commits table.row k u c m → Listed versions fates u c m
    to_listed u c m x = subst (λ (o : Option Versions). ListedOn o fates u c m) here
        (commit_on last stages fates index reads table tells k u c m x)

    to_newest : (r : ℕ) (m : Mutation) → NewestIn versions fates r m → Newest table.row k r m
    to_newest r m x = record {
      start = x.start;
      at = x.at;
      commits = to_commit x.start x.at m x.listed;
      upto = x.upto;
      newest = λ u c n y seen low high. x.newest u c n (to_listed u c n y) seen low high;
    }

    from_newest : (r : ℕ) (m : Mutation) → Newest table.row k r m → NewestIn versions fates r m
    from_newest r m x = record {
      start = x.start;
      at = x.at;
      listed = to_listed x.start x.at m x.commits;
      upto = x.upto;
      newest = λ u c n y seen low high. x.newest u c n (to_commit u c n y) seen low high;
    }

    seen_sees : (r : ℕ) (found : Option Value) → SeenIn versions fates r found → Sees table.row k r found
    seen_sees r None x = λ m v y puts. x m v (from_newest r m y) puts
    seen_sees r (Some v) (m, x, puts) = (m, to_newest r m x, puts)

    sees_seen : (r : ℕ) (found : Option Value) → Sees table.row k r found → SeenIn versions fates r found
    sees_seen r None x = λ m v y puts. x m v (to_newest r m y) puts
    sees_seen r (Some v) (m, x, puts) = (m, from_newest r m x, puts)

  no_commit : (k : Key) → versions_of index k ≡ None → (u c : ℕ) (m : Mutation) → Commits table.row k u c m → ⊥
  no_commit k none u c m x =
      subst (λ (o : Option Versions). ListedOn o fates u c m) none
      (commit_on last stages fates index reads table tells k u c m x)

  shows_by : (k : Key) (r : ℕ) (found : Option Value) (o : Option Versions) → versions_of index k ≡ o
      → SeenOf o fates r found → Sees table.row k r found
  shows_by k r None None e x = λ m v y puts. no_commit k e y.start y.at m y.commits
  shows_by k r (Some w) None e x = absurd (cc x)
  shows_by k r found (Some versions) e x = seen_sees k versions e r found x

  sees_by : (k : Key) (r : ℕ) (found : Option Value) (o : Option Versions) → versions_of index k ≡ o
      → Sees table.row k r found → SeenOf o fates r found
  sees_by k r None None e x = refl
  sees_by k r (Some w) None e (m, x, puts) = absurd (no_commit k e x.start x.at m x.commits)
  sees_by k r found (Some versions) e x = sees_seen k versions e r found x

  pub shows_sees : (k : Key) (r : ℕ) (found : Option Value) → Shows index fates k r found → Sees table.row k r found
  shows_sees k r found x = shows_by k r found (versions_of index k) refl x

  pub sees_shows : (k : Key) (r : ℕ) (found : Option Value) → Sees table.row k r found → Shows index fates k r found
  sees_shows k r found x = sees_by k r found (versions_of index k) refl x

  pub shows_rows : (s : ScanRead) → ShowsRows index fates s → SeesRows table.row s
  shows_rows s x = record {
    rising = x.rising;
    within = x.within;
    upto = x.upto;
    each =
        λ k e. shows_sees k s.at (value_in s.rows k) (x.each k e);
  }

  pub sees_rows_shown : (s : ScanRead) → SeesRows table.row s → ShowsRows index fates s
  sees_rows_shown s x =
      record {
        rising = x.rising;
        within = x.within;
        upto = x.upto;
        each =
            λ k e. sees_shows k s.at (value_in s.rows k) (x.each k e);
      }

  -- ---- what is noted

  noted_more : (covers : Key → Bool) (r : ℕ) (new : Reads) → AddsRead reads new covers r
      → Grows (IsKept index reads) (IsKept index new) covers r
  noted_more covers r new grows = record {
    kept = λ k s x. elim x [
      | inl old ↦ let h = grows.kept k s old in (h.0, h.1, inl h.2)
      | inr old ↦ (s, (omega arith), inr old)
    ];
    added = λ k e. let h = grows.added k e in (h.0, h.1, inl h.2);
    only = λ k s x. elim x [
      | inl new ↦ elim (grows.only k s new) [ inl old ↦ inl (inl old) | inr own ↦ inr own ]
      | inr old ↦ inl (inr old)
    ];
  }

  -- one read more is kept
  pub reads_more : (covers : Key → Bool) (r : ℕ) (new : Reads) → AddsRead reads new covers r
      → TellsTable last stages (tree.get nat_cmp fates) (version_of index) (IsKept index new) (with_read table covers r)
  reads_more covers r new grows = record {
    last_is = tells.last_is;
    drawn = tells.drawn;
    range = tells.range;
    row = tells.row;
    ended = tells.ended;
    distinct = tells.distinct;
    commits = tells.commits;
    reads =
        keeps_more table.reads (IsKept index reads) (IsKept index new) covers r tells.reads
        (noted_more covers r new grows);
  }

  -- the same reads are kept
  pub reads_same : (new : Reads) → SameReads reads new
      → TellsTable last stages (tree.get nat_cmp fates) (version_of index) (IsKept index new) table
  reads_same new same = record {
    last_is = tells.last_is;
    drawn = tells.drawn;
    range = tells.range;
    row = tells.row;
    ended = tells.ended;
    distinct = tells.distinct;
    commits = tells.commits;
    reads = record {
      made = λ k r x. tells.reads.made k r (elim x [ inl y ↦ inl (same.only k r y) | inr y ↦ inr y ]);
      kept = λ k r x. let h = tells.reads.kept k r x in
          (h.0, h.1, elim h.2 [ inl y ↦ inl (same.kept k h.0 y) | inr y ↦ inr y ]);
    };
  }

-- a read of the same keys
pub covers_same : (old new : Reads) (covers other : Key → Bool) (r : ℕ) → ((k : Key) → covers k ≡ other k)
    → AddsRead old new covers r → AddsRead old new other r
covers_same old new covers other r same grows = record {
  kept = grows.kept;
  added = λ k e. grows.added k (same k ∙ e);
  only = λ k s x. elim (grows.only k s x) [ inl a ↦ inl a | inr a ↦ inr (sym (same k) ∙ a.0, a.1) ];
}

-- a read of no key
pub covers_nothing : (old : Reads) (covers : Key → Bool) (r : ℕ) → ((k : Key) → false ≡ covers k)
    → AddsRead old old covers r
covers_nothing old covers r none = record {
  kept = λ k s x. (s, (omega arith), x);
  added = λ k e. absurd (cc (none k, e));
  only = λ k s x. inl x;
}

and_left : (a b : Bool) → (a && b) ≡ true → a ≡ true
and_left true b e = refl
and_left false b e = absurd (cc e)

and_right : (a b : Bool) → (a && b) ≡ true → b ≡ true
and_right true b e = e
and_right false b e = absurd (cc e)

value_of_row : (rows : List KeyValue) (i : ℕ) (row : KeyValue) → i < length rows → get_or rows i row ≡ row
    → (v : Value) × (value_in rows row.key ≡ Some v)
value_of_row [] i row h e = absurd (omega arith)
value_of_row (x ∷ xs) zero row h e =
    (x.value, cond_true _ _ _ (ap (λ (y : KeyValue). bytes_eq y.key row.key) e ∙ key_same row.key))
value_of_row (x ∷ xs) (suc i) row h e = elim (key_test x.key row.key) [
  | inl t ↦ (x.value, cond_true _ _ _ t.0)
  | inr t ↦ let r = value_of_row xs i row (omega arith) e in (r.0, cond_false _ _ _ t.0 ∙ r.1)
]

-- each row of what a scan sees lies below its end
pub ends_within : (index : Index) (fates : Fates) (s : ScanRead) → ShowsRows index fates s → EndsWithin s
ends_within index fates s shown row in_rows =
    let v = value_of_row s.rows in_rows.0 row in_rows.1 in_rows.2 in
    and_right (key_le s.from row.key) (key_lt row.key s.to)
    (and_left (key_le s.from row.key && key_lt row.key s.to) (nat_lt (length s.rows) s.limit
    || reaches s.rows row.key) (shown.within row.key v.0 v.1))
