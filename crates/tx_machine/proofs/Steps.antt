-- What a step makes of the maps is what it makes of the table.
use Rattle.std.proofs.Common.{◌≡◌, ◌≢◌, ℕ, ◌≤◌, ◌==◌, inl, inr, Bool, false, cond, List, [], ◌∷◌, Option, Some, None, refl, sym, ap, subst, ◌∙◌, is_some, arith}
use Rattle.std.specs.Cmp.{unsigned_ties}
use Rattle.std.specs.Ordering.{nat_cmp, is_eq}
use Rattle.tx_types.specs.declared.key.Key.{Key}
use Rattle.tx_types.specs.declared.mutation.Change.{Change}
use Rattle.tx_types.specs.declared.mutation.Mutation.{Mutation}
use Rattle.tx_types.specs.declared.mutation.Fate.{Fate}
use Rattle.tx_types.specs.declared.mutation.Fate.TheVariants.{Committed, Aborted}
use Rattle.tx_machine.specs.declared.versions.Version.{Version}
use Rattle.tx_machine.specs.declared.machine.TxnStage.{TxnStage}
use Rattle.tx_machine.specs.declared.machine.TxnStage.TheVariants.{Drawn, Begun, Declared}
use Rattle.tx_machine.specs.declared.step.Step.TheVariants.{Begin, Declare, Abort}
use Rattle.tx_machine.specs.Keys.{IsDistinct}
use Rattle.tx_machine.specs.Machine.{State, Open, Done, Row, Rows, Reading, Table, Commits, IsRead, Admits, after, empty, changes_in, with_row}
use Rattle.tx_machine.specs.Representation.{row_of, ListsCommits, KeepsReads, TellsTable}
use Rattle.tx_machine.specs.Noted.{Grows}
use Rattle.tx_machine.proofs.Basics.{nat_test, cond_true, cond_false, some_same, nat_same, none_is}

-- ---- rows

pub at : {X : Type 0} (new old : ℕ → Option X) (t : ℕ) (x : X)
    → ((q : ℕ) → new q ≡ cond (is_eq (nat_cmp t q)) (Some x) (old q)) → (q : ℕ) → new q ≡ cond (t == q) (Some x) (old q)
at new old t x is q = is q ∙ ap (λ (b : Bool). cond b (Some x) (old q)) (sym (unsigned_ties t q))

-- the changes of a row
abbrev pub some_changes : Option Row → Option (Option (List Change))
some_changes None = None
some_changes (Some row) = Some row.changes

-- the state of a row
abbrev pub state_in : Option Row → Option State
state_in None = None
state_in (Some row) = Some row.state

-- what a row that ended says of the maps
pub row_done : (stage : Option TxnStage) (fate : Option Fate) (set : List Change) (f : Fate)
    → row_of stage fate ≡ Some record { changes = Some set; state = Done f }
    → (stage ≡ Some (Declared set)) × (fate ≡ Some f)
row_done None fate set f e = absurd (cc e)
row_done (Some Drawn) fate set f e = absurd (cc e)
row_done (Some Begun) fate set f e = absurd (cc (ap changes_in e))
row_done (Some (Declared s)) None set f e = absurd (cc (ap state_in e))
row_done (Some (Declared s)) (Some g) set f e = (cc (ap changes_in e), cc (ap state_in e))

-- the state of a row whose transaction ended
pub row_ended : (stage : Option TxnStage) (f : Fate) (changes : Option (List Change)) (state : State)
    → row_of stage (Some f) ≡ Some record { changes = changes; state = state } → state ≡ Done f
row_ended None f changes state e = absurd (cc e)
row_ended (Some Drawn) f changes state e = absurd (cc e)
row_ended (Some Begun) f changes state e = cc (ap state_in e)
row_ended (Some (Declared s)) f changes state e = cc (ap state_in e)

-- ---- commits that stay

-- rows that say the same of who is committed, and keep what was declared
pub record SameCommits (old new : Rows) : Type 0 where
  pub back : (u c : ℕ) (set : List Change) → new u ≡ Some record { changes = Some set; state = Done (Committed c) }
      → old u ≡ Some record { changes = Some set; state = Done (Committed c) }
  pub declared : (u : ℕ) (set : List Change) (state : State) → old u ≡ Some record { changes = Some set; state = state }
      → (s : State) × (new u ≡ Some record { changes = Some set; state = s })

commits_back : (old new : Rows) → SameCommits old new → (k : Key) (u c : ℕ) (m : Mutation) → Commits new k u c m
    → Commits old k u c m
commits_back old new same k u c m x = record { set = x.set; row_is = same.back u c x.set x.row_is; does = x.does }

pub same_commits : (old new : Rows) (versions : Key → ℕ → Option Version) → SameCommits old new
    → ListsCommits old versions → ListsCommits new versions
same_commits old new versions same lists = record {
  listed = λ k u c m x. lists.listed k u c m (commits_back old new same k u c m x);
  declared = λ k c v e. let d = lists.declared k c v e in let s = same.declared v.start d.0 d.1 d.2 in
      (d.0, s.0, s.1, d.3);
  above = λ k u c m x. lists.above k u c m (commits_back old new same k u c m x);
  apart = λ k u c v d m n x y. lists.apart k u c v d m n (commits_back old new same k u c m x)
      (commits_back old new same k v d n y);
}

-- ---- one row more, or another

module _ (last : ℕ) (stages : ℕ → Option TxnStage) (fates : ℕ → Option Fate)
    (versions : Key → ℕ → Option Version) (noted : Key → ℕ → Type 0) (table : Table)
    (tells : TellsTable last stages fates versions noted table) where
  pub not_ended : (t : ℕ) → table.row t ≡ None → fates t ≡ None
  not_ended t none = none_is (fates t) (λ f e. tells.ended t f e none)

  module _ (t : ℕ) (changes : Option (List Change)) (state : State) where
    abbrev pub rows : Rows
    rows = (with_row table t changes state).row

    pub row_here : (q : ℕ) → t ≡ q → rows q ≡ Some record { changes = changes; state = state }
    row_here q e = cond_true _ _ _ (ap (λ (x : ℕ). t == x) (sym e) ∙ nat_same t)

    pub row_other : (q : ℕ) → (t == q) ≡ false → rows q ≡ table.row q
    row_other q e = cond_false _ _ _ e

    -- where the row says what the maps say of it, and nothing else of them changes
    module _ (new_stages : ℕ → Option TxnStage) (new_fates : ℕ → Option Fate) (new_versions : Key → ℕ → Option Version)
        (here : row_of (new_stages t) (new_fates t) ≡ Some record { changes = changes; state = state })
        (other_stages : (q : ℕ) → (t == q) ≡ false → new_stages q ≡ stages q)
        (other_fates : (q : ℕ) → (t == q) ≡ false → new_fates q ≡ fates q)
        (drawn_here : is_some (new_stages t) ≡ is_some (stages t))
        (distinct_here : (set : List Change) → changes ≡ Some set → IsDistinct set)
        (lists : ListsCommits rows new_versions)
        (list : List Reading) (new_noted : Key → ℕ → Type 0) (keeps : KeepsReads list new_noted) where
      row_drawn : (q : ℕ) → table.drawn q ≡ is_some (new_stages q)
      row_drawn q = elim (nat_test t q) [
        | inl x ↦ tells.drawn q
            ∙ (ap (λ (y : ℕ). is_some (stages y)) (sym (x.1))
            ∙ (sym drawn_here ∙ ap (λ (y : ℕ). is_some (new_stages y)) x.1))
        | inr x ↦ tells.drawn q ∙ ap (is_some {T = TxnStage}) (sym (other_stages q x.0))
      ]

      row_is : (q : ℕ) → rows q ≡ row_of (new_stages q) (new_fates q)
      row_is q = elim (nat_test t q) [
        | inl x ↦ row_here q x.1 ∙ (sym here ∙ ap (λ (y : ℕ). row_of (new_stages y) (new_fates y)) x.1)
        | inr x ↦
            row_other q x.0
            ∙ (tells.row q ∙ (ap (λ (y : Option TxnStage). row_of y (fates q)) (sym (other_stages q x.0))
            ∙ ap (λ (y : Option Fate). row_of (new_stages q) y) (sym (other_fates q x.0))))
      ]

      row_ends : (q : ℕ) (f : Fate) → new_fates q ≡ Some f → rows q ≢ None
      row_ends q f e none = elim (nat_test t q) [
        | inl x ↦ cc (sym (row_here q x.1) ∙ none)
        | inr x ↦ tells.ended q f (sym (other_fates q x.0) ∙ e) (sym (row_other q x.0) ∙ none)
      ]

      row_distinct : (q : ℕ) (set : List Change) (s : State) → rows q ≡ Some record { changes = Some set; state = s }
          → IsDistinct set
      row_distinct q set s e = elim (nat_test t q) [
        | inl x ↦ distinct_here set (some_same _ _ (ap some_changes (sym (row_here q x.1) ∙ e)))
        | inr x ↦ tells.distinct q set s (sym (row_other q x.0) ∙ e)
      ]

      pub one_row : TellsTable last new_stages new_fates new_versions new_noted
          (record (with_row table t changes state) { reads = list })
      one_row = record {
        last_is = tells.last_is;
        drawn = row_drawn;
        range = tells.range;
        row = row_is;
        ended = row_ends;
        distinct = row_distinct;
        commits = lists;
        reads = keeps;
      }

  -- a row that was not committed and is not now
  module _ (t : ℕ) (changes : Option (List Change)) (state : State) (never : (c : ℕ) → state ≡ Done (Committed c) → ⊥)
      (stays : (set : List Change) (s : State) → table.row t ≡ Some record { changes = Some set; state = s }
      → changes ≡ Some set) where
    row_back : (u c : ℕ) (set : List Change)
        → rows t changes state u ≡ Some record { changes = Some set; state = Done (Committed c) }
        → table.row u ≡ Some record { changes = Some set; state = Done (Committed c) }
    row_back u c set e = elim (nat_test t u) [
      | inl x ↦ absurd (never c (some_same _ _ (ap state_in (sym (row_here t changes state u x.1) ∙ e))))
      | inr x ↦ sym (row_other t changes state u x.0) ∙ e
    ]

    row_stays : (u : ℕ) (set : List Change) (s : State) → table.row u ≡ Some record { changes = Some set; state = s }
        → (r : State) × (rows t changes state u ≡ Some record { changes = Some set; state = r })
    row_stays u set s e = elim (nat_test t u) [
      | inl x ↦ (
        state,
        row_here t changes state u x.1
            ∙ ap (λ (cs : Option (List Change)). Some record { changes = cs; state = state })
            (stays set s (ap table.row x.1 ∙ e)),
      )
      | inr x ↦ (s, row_other t changes state u x.0 ∙ e)
    ]

    pub lists_still : ListsCommits (rows t changes state) versions
    lists_still = same_commits table.row (rows t changes state) versions
        (record { back = row_back; declared = row_stays }) tells.commits

  -- ---- begin, declare, abort

  module _ (t : ℕ) (stage : stages t ≡ Some Drawn) (new : ℕ → Option TxnStage) (was : (q : ℕ)
      → new q ≡ cond (is_eq (nat_cmp t q)) (Some Begun) (stages q)) where
    no_row : table.row t ≡ None
    no_row = tells.row t ∙ ap (λ (s : Option TxnStage). row_of s (fates t)) stage

    now_begun : new t ≡ Some Begun
    now_begun = at new stages t Begun was t ∙ cond_true _ _ _ (nat_same t)

    pub begins : Admits table (Begin t) × TellsTable last new fates versions noted (after table (Begin t))
    begins = (
      (tells.drawn t ∙ ap (is_some {T = TxnStage}) stage, no_row),
      one_row t None Open new fates versions
          (ap (λ (s : Option TxnStage). row_of s (fates t)) now_begun ∙ ap (row_of (Some Begun)) (not_ended t no_row))
          (λ q e. at new stages t Begun was q ∙ cond_false _ _ _ e)
          (λ q e. refl)
          (ap (is_some {T = TxnStage}) (now_begun ∙ refl) ∙ sym (ap (is_some {T = TxnStage}) stage))
          (λ set e. absurd (cc e))
          (lists_still t None Open (λ c e. cc e) (λ set s e. absurd (cc (sym no_row ∙ e))))
          table.reads noted tells.reads,
    )

  module _ (t : ℕ) (set : List Change) (stage : stages t ≡ Some Begun)
      (open_ : fates t ≡ None) (some : set ≢ []) (distinct : IsDistinct set)
      (new : ℕ → Option TxnStage) (put : TxnStage) (same : put ≡ Declared set) (was : (q : ℕ)
      → new q ≡ cond (is_eq (nat_cmp t q)) (Some put) (stages q)) where
    begun_row : table.row t ≡ Some record { changes = None; state = Open }
    begun_row = tells.row t ∙ (ap (λ (s : Option TxnStage). row_of s (fates t)) stage ∙ ap (row_of (Some Begun)) open_)

    now_declared : new t ≡ Some (Declared set)
    now_declared = at new stages t put was t ∙ (cond_true _ _ _ (nat_same t) ∙ ap (λ (s : TxnStage). Some s) same)

    pub declares : Admits table (Declare t set) × TellsTable last new fates versions noted (after table (Declare t set))
    declares = (
      (begun_row, some, distinct),
      one_row t (Some set) Open new fates versions
          (ap (λ (s : Option TxnStage). row_of s (fates t)) now_declared ∙ ap (row_of (Some (Declared set))) open_)
          (λ q e. at new stages t put was q ∙ cond_false _ _ _ e)
          (λ q e. refl)
          (ap (is_some {T = TxnStage}) now_declared ∙ sym (ap (is_some {T = TxnStage}) stage))
          (λ xs e. subst (λ (ys : List Change). IsDistinct ys) (some_same _ _ e) distinct)
          (lists_still t (Some set) Open (λ c e. cc e) (λ xs s e. absurd (cc (ap changes_in (sym begun_row ∙ e)))))
          table.reads noted tells.reads,
    )

  module _ (t : ℕ) (changes : Option (List Change))
      (open_row : table.row t ≡ Some record { changes = changes; state = Open })
      (new : ℕ → Option Fate) (was : (q : ℕ) → new q ≡ cond (is_eq (nat_cmp t q)) (Some Aborted) (fates q))
      (here : row_of (stages t) (Some Aborted) ≡ Some record { changes = changes; state = Done Aborted }) where
    now_aborted : new t ≡ Some Aborted
    now_aborted = at new fates t Aborted was t ∙ cond_true _ _ _ (nat_same t)

    pub aborts : Admits table (Abort t)
        × TellsTable last stages new versions noted (with_row table t changes (Done Aborted))
    aborts = (
      (changes, open_row),
      one_row t changes (Done Aborted) stages new versions
          (ap (row_of (stages t)) now_aborted ∙ here)
          (λ q e. refl)
          (λ q e. at new fates t Aborted was q ∙ cond_false _ _ _ e)
          refl
          (λ xs e. tells.distinct t xs Open (open_row
          ∙ ap (λ (cs : Option (List Change)). Some record { changes = cs; state = Open }) e))
          (lists_still t changes (Done Aborted) (λ c e. cc e)
          (λ xs s e. some_same _ _ (ap some_changes (sym open_row ∙ e))))
          table.reads noted tells.reads,
    )

-- ---- one read more

pub keeps_more : (reads : List Reading) (old new : Key → ℕ → Type 0) (covers : Key → Bool) (r : ℕ)
    → KeepsReads reads old → Grows old new covers r → KeepsReads (record { covers = covers; at = r } ∷ reads) new
keeps_more reads old new covers r keeps grows = record { made = made; kept = kept }
  where
    made : (k : Key) (s : ℕ) → new k s → IsRead (record { covers = covers; at = r } ∷ reads) k s
    made k s x = elim (grows.only k s x) [
      | inl old ↦ inr (keeps.made k s old)
      | inr own ↦ inl (own.0, sym (own.1))
    ]

    kept : (k : Key) (s : ℕ) → IsRead (record { covers = covers; at = r } ∷ reads) k s → (u : ℕ) × (s ≤ u) × new k u
    kept k s (inl own) = let h = grows.added k own.0 in (h.0, (omega (arith, h.1, own.1)), h.2)
    kept k s (inr was) =
        let h = keeps.kept k s was in
        let g = grows.kept k h.0 h.2 in
        (g.0, (omega (arith, h.1, g.1)), g.2)

-- ---- before the first step

pub tells_empty : (stages : ℕ → Option TxnStage) (fates : ℕ → Option Fate)
    (versions : Key → ℕ → Option Version) (noted : Key → ℕ → Type 0)
    → ((t : ℕ) → stages t ≡ None) → ((t : ℕ) → fates t ≡ None) → ((k : Key) (q : ℕ) → versions k q ≡ None)
    → ((k : Key) (r : ℕ) → noted k r → ⊥)
    → TellsTable 0 stages fates versions noted empty
tells_empty stages fates versions noted no_stage no_fate no_version no_read = record {
  last_is = refl;
  drawn = λ t. sym (ap (is_some {T = TxnStage}) (no_stage t));
  range = λ t e. absurd (cc e);
  row = λ t. sym (ap (λ (s : Option TxnStage). row_of s (fates t)) (no_stage t));
  ended = λ t f e none. cc (sym (no_fate t) ∙ e);
  distinct = λ t set state e. absurd (cc e);
  commits = record {
    listed = λ k u c m x. absurd (cc x.row_is);
    declared = λ k c v e. absurd (cc (sym (no_version k c) ∙ e));
    above = λ k u c m x. absurd (cc x.row_is);
    apart = λ k u c v d m n x y other o. absurd (cc x.row_is);
  };
  reads = record {
    made = λ k r x. absurd (no_read k r x);
    kept = λ k r x. absurd x;
  };
}
