-- How a commit ends: refused in the middle it leaves what the table says, done it leaves
-- the table after.
use Rattle.std.proofs.Common.{◌≡◌, inl, inr, ℕ, ◌+◌, ◌<◌, ◌≤◌, cond, List, take, Option, Some, None, sym, ap, subst, ◌∙◌}
use Rattle.std.specs.Ordering.{nat_cmp, is_eq}
use Rattle.std.specs.BTreeMap as tree
use Rattle.std.specs.Map.{lookup}
use Rattle.tx_types.specs.declared.key.Key.{Key}
use Rattle.tx_types.specs.declared.mutation.Change.{Change}
use Rattle.tx_types.specs.declared.mutation.Mutation.{Mutation}
use Rattle.tx_types.specs.declared.mutation.Fate.{Fate}
use Rattle.tx_types.specs.declared.mutation.Fate.TheVariants.{Committed}
use Rattle.tx_machine.specs.declared.machine.TxnStage.{TxnStage}
use Rattle.tx_machine.specs.declared.machine.TxnStage.TheVariants.{Declared}
use Rattle.tx_machine.specs.declared.reads.Reads.{Reads}
use Rattle.tx_machine.specs.declared.step.Step.TheVariants.{Commit}
use Rattle.tx_machine.specs.Keys.{mutation_at, inserted, IsDistinct}
use Rattle.tx_machine.specs.Machine.{Table, MayCommit, after}
use Rattle.tx_machine.specs.Versions.{Versions, Fates}
use Rattle.tx_machine.specs.Noted.{Grows}
use Rattle.tx_machine.specs.Shown.{Index, history_of, versions_of, insert_read_in}
use Rattle.tx_machine.specs.Representation.{version_in, version_of, puts, TellsTable, IsFree, InOrder, IsKept, HasVersions, AddsInserts}
use Rattle.tx_machine.proofs.Basics.{nat_same, cond_true}
use Rattle.tx_machine.proofs.Distinct.{distinct_take, contained}
use Rattle.tx_machine.proofs.InsertReads.{same_kept, kept_grows}
use Rattle.tx_machine.proofs.CommitSteps.{puts_is, may_commit, tells_stale, distinct_set, mutation_front, committed, in_order}

-- the same entries give the same look-ups
pub same_fates : (old new : Fates) → new.entries ≡ old.entries → tree.get nat_cmp new ≡ tree.get nat_cmp old
same_fates old new e = λ i q. lookup (tree.is_at (nat_cmp q)) (e i)

module _ (last : ℕ)
    (stages : ℕ → Option TxnStage) (fates : Fates) (index : Index) (reads : Reads) (t c : ℕ) (set xs : List Change)
    (same : xs ≡ set) (stage : stages t ≡ Some (Declared set))
    (none : tree.get nat_cmp fates t ≡ None) (above : t < c) (upto : c ≤ last + 1)
    (free : InOrder index fates → (k : Key) (m : Mutation) → mutation_at xs k ≡ Some m
    → IsFree index fates reads t c record { key = k; mutation = m })
    (table : Table) (tells : TellsTable last stages (tree.get nat_cmp fates) (version_of index)
    (IsKept index reads) table) where
  pub may : MayCommit table t c
  may = may_commit last stages fates index reads table tells t c set stage none above upto
      (λ k m e. free (in_order last stages fates index reads table tells) k m
      (ap (λ (ys : List Change). mutation_at ys k) same ∙ e))

  module _ (new : Index)
      (read : (k : Key) → insert_read_in (history_of new k) ≡ insert_read_in (history_of index k)) where
    -- the reads that the inserts of a key left are as they were
    same_reads : (some_fates : ℕ → Option Fate)
        → TellsTable last stages some_fates (version_of new) (IsKept index reads) table
        → TellsTable last stages some_fates (version_of new) (IsKept new reads) table
    same_reads some_fates was = record {
      last_is = was.last_is;
      drawn = was.drawn;
      range = was.range;
      row = was.row;
      ended = was.ended;
      distinct = was.distinct;
      commits = was.commits;
      reads = same_kept index new reads read table.reads was.reads;
    }

    pub kept_some :
        ((n : ℕ) × ((k : Key) (q : ℕ) → version_of new k q ≡ puts t c (take n xs) (version_of index) k q))
        → TellsTable last stages (tree.get nat_cmp fates) (version_of new) (IsKept new reads) table
    kept_some s =
        same_reads (tree.get nat_cmp fates)
        (tells_stale last stages fates index reads table tells t c set stage none may (take s.0 set)
        (distinct_take set s.0 (distinct_set last stages fates index reads table tells t c set stage none may))
        (λ k m e. mutation_front set s.0 k m e)
        (version_of new)
        (λ k q. s.1 k q ∙ ap (λ (ys : List Change). puts t c (take s.0 ys) (version_of index) k q) same))

    module _ (all : (k : Key) (q : ℕ) → version_of new k q ≡ puts t c xs (version_of index) k q) where
      put : (k : Key) (q : ℕ) → version_of new k q ≡ puts t c set (version_of index) k q
      put k q = all k q ∙ ap (λ (ys : List Change). puts t c ys (version_of index) k q) same

      distinct : IsDistinct set
      distinct = distinct_set last stages fates index reads table tells t c set stage none may

      pub kept_all : (new_fates : Fates) → new_fates.entries ≡ fates.entries
          → TellsTable last stages (tree.get nat_cmp new_fates) (version_of new) (IsKept new reads) table
      kept_all new_fates e =
          subst (λ (f : ℕ → Option Fate). TellsTable last stages f (version_of new) (IsKept new reads) table)
          (sym (same_fates fates new_fates e))
          (same_reads (tree.get nat_cmp fates)
          (tells_stale last stages fates index reads table tells t c set stage none may set distinct (λ k m x. x)
          (version_of new) put))

      -- each key of the set has a version
      has_versions : HasVersions new set
      has_versions x among bare = elim (puts_is t c set (version_of index) x.key c distinct) [
        | inl h ↦ cc (sym (h.0) ∙ contained set x distinct among)
        | inr h ↦ cc (ap (λ (o : Option Versions). version_in o c) (sym bare)
            ∙ (put x.key c ∙ (h.2 ∙ cond_true _ _ _ (nat_same c))))
      ]

      -- and the reads of the inserts are noted
      module _ (noted : Index) (versions : (k : Key) → versions_of noted k ≡ versions_of new k)
          (adds : IsDistinct xs → HasVersions new xs → AddsInserts new noted xs t) where
        grows : Grows (IsKept index reads) (IsKept noted reads) (inserted (Some set)) t
        grows = kept_grows index new reads read noted (inserted (Some set)) t
            (subst (λ (ys : List Change). IsDistinct ys → HasVersions new ys → AddsInserts new noted ys t) same adds
            distinct has_versions)

        pub done : (new_fates : ℕ → Option Fate)
            → ((q : ℕ) → new_fates q ≡ cond (is_eq (nat_cmp t q)) (Some (Committed c)) (tree.get nat_cmp fates q))
            → MayCommit table t c
            × TellsTable last stages new_fates (version_of noted) (IsKept noted reads) (after table (Commit t c))
        done new_fates was = (
          may,
          committed last stages fates index reads table tells t c set stage none may (version_of noted)
              (λ k q. ap (λ (o : Option Versions). version_in o q) (versions k) ∙ put k q) new_fates was
              (IsKept noted reads) grows,
        )
