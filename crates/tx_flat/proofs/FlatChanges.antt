-- What each change makes of flat maps, from what is known of the look-ups of the changed maps.
use Rattle.std.proofs.Common.{◌≡◌, ◌≢◌, ℕ, ◌==◌, inl, inr, Bool, true, false, cond, List, Option, Some, None, Result, Ok, Err, bytes_eq, refl, sym, ap, subst, ◌∙◌}
use Rattle.std.specs.Prelude.{OnOk, OnErr}
use mathlib.Core.Logic.{∥∥₁_elim}
use Rattle.std.proofs.lemmas.Slice.Eq.{bytes_eq-Decides}
use Rattle.std.proofs.lemmas.Bool.{cases_Bool, eqb-true}
use Rattle.std.specs.Cmp.Lexicographic.{slice_cmp}
use Rattle.std.specs.Ordering.{nat_cmp, is_eq}
use Rattle.tx_types.specs.declared.key.Key.{Key}
use Rattle.tx_types.specs.declared.value.Value.{Value}
use Rattle.tx_types.specs.declared.mutation.Mutation.{Mutation}
use Rattle.tx_types.specs.declared.lock.LockRec.{LockRec}
use Rattle.tx_types.specs.declared.write.WriteRec.{WriteRec}
use Rattle.tx_types.specs.declared.write.WriteRec.TheVariants.{Commit}
use Rattle.tx_plan.specs.declared.body.Prewrite.{Prewrite}
use Rattle.tx_plan.specs.declared.key_change.KeyChange.TheVariants as change
use Rattle.tx_plan.specs.declared.key_change.Left.{Left}
use Rattle.tx_plan.specs.declared.key_change.NewLock.{NewLock}
use Rattle.tx_plan.specs.declared.key_change.KeyChange.{KeyChange}
use Rattle.tx_plan.specs.Changes.{CanPut, Applies, changed}
use Rattle.tx_cells.specs.Contents.{OnKey, Content, IsWhole, cells_of}
use Rattle.tx_cells.specs.Afterwards.{OnlyOn, after, after_left, put_on, lock_put, with_lock, with_value, apart_of, with_record, commit_of, on_lock}
use Rattle.tx_spelling.specs.Spelt.{version_cmp}
use Rattle.tx_cells.proofs.Facts.{whole_at, lock_alone}
use Rattle.tx_cells.proofs.CellsAfter.{cells_after}
use Rattle.tx_cells.proofs.WholeAfter.{no_value, on_same}
use Rattle.tx_flat.proofs.FlatMaps.{Locks, Writes, Values, AllWhole, content_by, only_on, on_key, off_key, on_version, off_version}

-- a fact that follows from success and from failure
pub either : {T E : Type 0} (r : Result T E) (A B P : Type 0) → (A → P) → (B → P) → OnOk r A → OnErr r B → P
either (Ok x) A B P f g a b = f a
either (Err e) A B P f g a b = g b

-- what holds anyway holds after a failure
pub anyway : {T E : Type 0} (r : Result T E) (P : Type 0) → P → OnErr r P
anyway (Ok x) P p = tt
anyway (Err e) P p = p

-- a map was changed at one key, or at one version
abbrev pub KeyChanged : {X : Type 0} → (List ℕ → Option X) → (List ℕ → Option X) → List ℕ → Option X → Type 0
KeyChanged old new key o = (k : List ℕ) → new k ≡ cond (is_eq (slice_cmp nat_cmp key k)) o (old k)

abbrev pub VersionChanged : {X : Type 0} → (List ℕ × ℕ → Option X) → (List ℕ × ℕ → Option X) → List ℕ × ℕ → Option X
    → Type 0
VersionChanged old new version o = (v : List ℕ × ℕ) → new v ≡ cond (is_eq (version_cmp version v)) o (old v)

module _ (locks new_locks : Locks) (writes : Writes) (values : Values) (key spelt : List ℕ) (spelt_is : spelt
    ≡ key) where
  abbrev Before : Content
  Before = content_by locks writes values

  at_key : (o : Option LockRec) → KeyChanged locks new_locks spelt o → KeyChanged locks new_locks key o
  at_key o is = subst (λ j. KeyChanged locks new_locks j o) spelt_is is

  -- the lock has another record
  pub relocked : (rec new : LockRec) (f : LockRec → LockRec) → Some rec ≡ locks spelt → new ≡ f rec
      → KeyChanged locks new_locks spelt (Some new)
      → OnlyOn key (on_lock (Before key) (λ r. with_lock (Before key) (Some (f r)))) Before
      (content_by new_locks writes values)
  relocked rec new f there made is =
      subst (λ y. OnlyOn key y Before (content_by new_locks writes values))
      (sym (on_same (Before key) rec (λ r. with_lock (Before key) (Some (f r))) (ap locks (sym spelt_is) ∙ sym there)))
      (only_on locks new_locks writes writes values values key (with_lock (Before key) (Some (f rec)))
      (on_key locks new_locks key (Some new) (at_key (Some new) is)
      ∙ ap (λ (r : LockRec). Some r) made) (λ q. refl) (λ q. refl)
      (off_key locks new_locks key (Some new) (at_key (Some new) is)) (λ k other q. refl) (λ k other q. refl))

  -- a lock is put
  pub lock_only : (new_values : Values) (b : Prewrite) (new : NewLock) (rec : LockRec) → rec ≡ lock_put b new
      → KeyChanged locks new_locks spelt (Some rec)
      → ((q : ℕ) → new_values (key, q) ≡ with_value (λ t. values (key, t)) b.start (apart_of b.mutation) q)
      → ((k : List ℕ) → k ≢ key → (q : ℕ) → new_values (k, q) ≡ values (k, q))
      → OnlyOn key (put_on (Before key) b new) Before (content_by new_locks writes new_values)
  lock_only new_values b new rec made is here there =
      only_on locks new_locks writes writes values new_values key (put_on (Before key) b new)
      (on_key locks new_locks key (Some rec) (at_key (Some rec) is)
      ∙ ap (λ (r : LockRec). Some r) made) (λ q. refl) here
      (off_key locks new_locks key (Some rec) (at_key (Some rec) is)) (λ k other q. refl) there

  module _ (new_writes : Writes) where
    -- a lock becomes its commit record
    pub committed : (version : List ℕ × ℕ) (c : ℕ) (o : Bool) (rec : LockRec) (w : WriteRec) → version ≡ (key, c)
        → Some rec ≡ locks spelt → w ≡ Commit (commit_of rec o)
        → VersionChanged writes new_writes version (Some w) → KeyChanged locks new_locks spelt None
        → OnlyOn key (after (Before key) (change.Commit c o)) Before (content_by new_locks new_writes values)
    committed version c o rec w version_is there made put gone =
        let at : VersionChanged writes new_writes (key, c) (Some w) =
        subst (λ v. VersionChanged writes new_writes v (Some w)) version_is put in
        let y : LockRec → OnKey =
        λ r. record {
          lock = None;
          write = with_record (Before key).write c (Commit (commit_of r o));
          value =
              (Before key).value;
        } in
        subst (λ z. OnlyOn key z Before (content_by new_locks new_writes values))
        (sym (on_same (Before key) rec y (ap locks (sym spelt_is) ∙ sym there)))
        (only_on locks new_locks writes new_writes values values key (y rec)
        (on_key locks new_locks key None (at_key None gone))
        (λ q. on_version writes new_writes key c (Some w) at q
        ∙ ap (λ r. with_record (Before key).write c r q) made) (λ q. refl)
        (off_key locks new_locks key None (at_key None gone)) (off_version writes new_writes key c (Some w) at)
        (λ k other q. refl))

    -- a rollback is left, and the lock goes with its value
    pub rolled_back : (new_values : Values) (version : List ℕ × ℕ) (t : ℕ) (left : Left) → version ≡ (key, t)
        → ((q : ℕ) → new_writes (key, q) ≡ after_left (λ c. writes (key, c)) t left q)
        → ((k : List ℕ) → k ≢ key → (q : ℕ) → new_writes (k, q) ≡ writes (k, q))
        → KeyChanged locks new_locks spelt None → VersionChanged values new_values version None
        → OnlyOn key (after (Before key) (change.RollBack t true left)) Before
        (content_by new_locks new_writes new_values)
    rolled_back new_values version t left version_is here there gone dropped =
        let at : VersionChanged values new_values (key, t) None =
        subst (λ v. VersionChanged values new_values v None) version_is dropped in
        only_on locks new_locks writes new_writes values new_values key
        (after (Before key) (change.RollBack t true left))
        (on_key locks new_locks key None (at_key None gone)) here (on_version values new_values key t None at)
        (off_key locks new_locks key None (at_key None gone)) there (off_version values new_values key t None at)

-- a rollback is left
pub left_only : (locks : Locks) (writes new_writes : Writes) (values : Values) (key : List ℕ) (t : ℕ) (left : Left)
    → ((q : ℕ) → new_writes (key, q) ≡ after_left (λ c. writes (key, c)) t left q)
    → ((k : List ℕ) → k ≢ key → (q : ℕ) → new_writes (k, q) ≡ writes (k, q))
    → OnlyOn key (after (content_by locks writes values key) (change.RollBack t false left))
    (content_by locks writes values) (content_by locks new_writes values)
left_only locks writes new_writes values key t left here there =
    only_on locks locks writes new_writes values values key
    (after (content_by locks writes values key) (change.RollBack t false left))
    refl here (λ q. refl) (λ k other. refl) there (λ k other q. refl)

-- ---- values that are kept apart

module _ (values new_values : Values) (version : List ℕ × ℕ) (key : List ℕ) (t : ℕ) (is : version ≡ (key, t)) where
  at_version : (o : Option Value) → VersionChanged values new_values version o
      → VersionChanged values new_values (key, t) o
  at_version o put = subst (λ v. VersionChanged values new_values v o) is put

  pub value_here : (m : Mutation) (v : Value) → apart_of m ≡ Some v → VersionChanged values new_values version (Some v)
      → (q : ℕ) → new_values (key, q) ≡ with_value (λ s. values (key, s)) t (apart_of m) q
  value_here m v e put q =
      on_version values new_values key t (Some v) (at_version (Some v) put) q
      ∙ ap (λ (o : Option Value). with_value (λ s. values (key, s)) t o q) (sym e)

  pub value_there : (v : Value) → VersionChanged values new_values version (Some v) → (k : List ℕ) → k ≢ key → (q : ℕ)
      → new_values (k, q) ≡ values (k, q)
  value_there v put = off_version values new_values key t (Some v) (at_version (Some v) put)

  -- a value that was put where there was none is taken out again
  pub value_back : (back : Values) (same : List ℕ × ℕ) (v : Value) → same ≡ (key, t) → values (key, t) ≡ None
      → VersionChanged values new_values version (Some v) → VersionChanged new_values back same None → (w : List ℕ × ℕ)
      → back w ≡ values w
  value_back back same v same_is none put dropped w = elim (cases_Bool (bytes_eq w.0 key)) [
    | inl one ↦ (
        let k = (bytes_eq-Decides w.0 key).0 one in
        let there : (w.0, w.1) ≡ (key, w.1) = ap (λ (j : List ℕ). (j, w.1)) k in
        ap back there ∙ here w.1 ∙ ap values (sym there)
        )
    | inr unlike ↦ (
        let other : w.0 ≢ key = λ one. (let alike = (bytes_eq-Decides w.0 key).1 one in cc (unlike, alike)) in
        off_version new_values back key t None taken w.0 other w.1 ∙ value_there v put w.0 other w.1
        )
  ]
    where
      taken : VersionChanged new_values back (key, t) None
      taken = subst (λ u. VersionChanged new_values back u None) same_is dropped

      here : (q : ℕ) → back (key, q) ≡ values (key, q)
      here q = elim (cases_Bool (t == q)) [
        | inl one ↦ on_version new_values back key t None taken q ∙ ap (λ b. cond b None (new_values (key, q))) one
            ∙ sym none ∙ ap (λ s. values (key, s)) (eqb-true t q one)
        | inr unlike ↦ (
            on_version new_values back key t None taken q ∙ ap (λ b. cond b None (new_values (key, q))) unlike
            ∙ on_version values new_values key t (Some v) (at_version (Some v) put) q
            ∙ ap (λ b. cond b (Some v) (values (key, q))) unlike
            )
      ]

pub nothing_put : (value : ℕ → Option Value) (t : ℕ) (m : Mutation) → apart_of m ≡ None → (q : ℕ)
    → value q ≡ with_value value t (apart_of m) q
nothing_put value t m e q = ap (λ (o : Option Value). with_value value t o q) (sym e)

-- no value is kept apart for a transaction that can put a lock
pub none_apart : (x : OnKey) (b : Prewrite) (new : NewLock) → ∥ IsWhole x ∥₁ → CanPut (cells_of x) b new
    → x.value b.start ≡ None
none_apart x b new t can = go (x.value b.start) refl
  where
    go : (o : Option Value) → x.value b.start ≡ o → o ≡ None
    go None e = refl
    go (Some v) e = absurd (∥∥₁_elim t (λ p q. absurd p) (λ w. (let none = no_value x b new w can in cc (e, none))))

-- contents of which all look-ups are the same
pub same_content : (locks new_locks : Locks) (writes new_writes : Writes) (values new_values : Values)
    → new_locks ≡ locks → new_writes ≡ writes → ((v : List ℕ × ℕ) → new_values v ≡ values v)
    → content_by new_locks new_writes new_values ≡ content_by locks writes values
same_content locks new_locks writes new_writes values new_values l w v = λ i. content_by (l i) (w i) (λ u. v u i)

-- the cells of a key after a change
pub changed_cells : (old new : Content) (key : Key) (k made : KeyChange) → AllWhole old → Applies (cells_of (old key)) k
    → k ≡ made → OnlyOn key (after (old key) made) old new → cells_of (new key) ≡ changed (cells_of (old key)) k
changed_cells old new key k made t applies is only =
    ap cells_of only.here ∙ ap (λ (m : KeyChange). cells_of (after (old key) m)) (sym is)
    ∙ cells_after (old key) k (lock_alone (old key) (whole_at old t key)) applies
