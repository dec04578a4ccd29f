-- Records of a key that go, with the values that they keep apart.
use Rattle.std.proofs.Common.{◌≡◌, ◌≢◌, ◌⊎◌, ℕ, inl, inr, Bool, true, false, cond, Option, Some, None, refl, sym, ap, subst, ◌∙◌}
use Rattle.std.specs.Prelude.{option_map}
use Rattle.std.proofs.lemmas.Bool.{cases_Bool, cases_eq, eq-eqb}
use mathlib.Core.Logic.{∥∥₁_elim}
use Rattle.std.specs.Coded.{Coded-set, coded_option, coded_list, coded_ℕ}
use Rattle.tx_types.specs.declared.value.Value.{Value}
use Rattle.tx_types.specs.declared.value.StoredValue.TheVariants.{Inline, InDefault}
use Rattle.tx_types.specs.declared.mutation.StoredMutation.{StoredMutation}
use Rattle.tx_types.specs.declared.mutation.StoredMutation.TheVariants as stored
use Rattle.tx_types.specs.declared.lock.LockRec.{LockRec}
use Rattle.tx_types.specs.declared.write.CommitRec.{CommitRec}
use Rattle.tx_types.specs.declared.write.WriteRec.{WriteRec}
use Rattle.tx_types.specs.declared.write.WriteRec.TheVariants.{Commit, Rollback}
use Rattle.tx_plan.specs.Whole.{whole_lock, whole_write}
use Rattle.tx_plan.specs.cases.Collect.{keeps, kept}
use Rattle.tx_plan.proofs.Sound.{sound_kept}
use Rattle.tx_plan.specs.Sound.{IsSound}
use Rattle.tx_cells.specs.Heads.{keeps_apart}
use Rattle.tx_cells.specs.Contents.{OnKey, cells_of, lock_of, write_of, whole, IsWhole, IsKept, LockKeeps, WriteKeeps}
use Rattle.tx_cells.specs.Afterwards.{Collected, without_value}
use Rattle.tx_cells.specs.Drops.{Records, GoneApart, ValuesGo}
use Rattle.tx_cells.proofs.RecordCells.{stands_commit}
use Rattle.tx_cells.proofs.CellsAfter.{cells_same, without_apart}

-- ---- one record after the other

pub none_gone : (write : Records) (goes : ℕ → Bool) (value : ℕ → Option Value) → ((q : ℕ) → goes q ≡ false)
    → ValuesGo write goes value value
none_gone write goes value none = record {
  gone = λ t g. (let n = none g.at in let w = g.went in cc (n, w));
  stayed = λ t n. refl;
  fewer = λ t n. refl;
}

-- where the same records go
pub same_gone : (write : Records) (goes more : ℕ → Bool) (before after : ℕ → Option Value)
    → ((q : ℕ) (r : WriteRec) → write q ≡ Some r → goes q ≡ more q) → ValuesGo write goes before after
    → ValuesGo write more before after
same_gone write goes more before after same so = record {
  gone = λ t g. so.gone t (record {
    at = g.at;
    rec = g.rec;
    found = g.found;
    went = same g.at (Commit g.rec) g.found
        ∙ g.went;
    of = g.of;
    apart = g.apart;
  });
  stayed = λ t n. so.stayed t
      (λ g. n (record {
        at = g.at;
        rec = g.rec;
        found = g.found;
        went = sym (same g.at (Commit g.rec) g.found)
            ∙ g.went;
        of = g.of;
        apart = g.apart;
      }));
  fewer = so.fewer;
}

-- where values are the same
pub same_after : (write : Records) (goes : ℕ → Bool)
    (before after other : ℕ → Option Value) → ((t : ℕ) → other t ≡ after t) → ValuesGo write goes before after
    → ValuesGo write goes before other
same_after write goes before after other same so = record {
  gone = λ t g. same t ∙ so.gone t g;
  stayed = λ t n. same t ∙ so.stayed t n;
  fewer = λ t n. same t ∙ so.fewer t (λ none. n (same t ∙ none));
}

-- one record more goes
module _ (write : Records) (goes more : ℕ → Bool) (c : ℕ)
    (before after : ℕ → Option Value) (so : ValuesGo write goes before after)
    (there : (q : ℕ) → goes q ≡ true → more q ≡ true)
    (only : (q : ℕ) (r : WriteRec) → write q ≡ Some r → more q ≡ true → (goes q ≡ true) ⊎ (q ≡ c))
    (here : more c ≡ true) where
  old_gone : (t : ℕ) → GoneApart write goes t → GoneApart write more t
  old_gone t g = record {
    at = g.at;
    rec = g.rec;
    found = g.found;
    went = there g.at g.went;
    of = g.of;
    apart = g.apart;
  }

  -- it keeps no value apart
  pub gone_bare : ((rec : CommitRec) → write c ≡ Some (Commit rec) → keeps_apart rec.mutation ≡ true → ⊥)
      → ValuesGo write more before after
  gone_bare bare = record {
    gone = λ t g. elim (only g.at (Commit g.rec) g.found g.went) [
      | inl w ↦ so.gone t (record { at = g.at; rec = g.rec; found = g.found; went = w; of = g.of; apart = g.apart })
      | inr e ↦ absurd (bare g.rec (ap write (sym e) ∙ g.found) g.apart)
    ];
    stayed = λ t n. so.stayed t (λ g. n (old_gone t g));
    fewer = so.fewer;
  }

  -- it keeps a value apart, which goes too
  pub gone_apart : (rec : CommitRec)
      → write c ≡ Some (Commit rec) → keeps_apart rec.mutation ≡ true
      → ValuesGo write more before (without_value after rec.start)
  gone_apart rec e apart = record {
    gone = λ t g. elim (cases_eq t rec.start) [
      | inl same ↦ gone_here t same
      | inr other ↦ without_apart after rec.start t other ∙ elim (only g.at (Commit g.rec) g.found g.went) [
        | inl w ↦ so.gone t (record { at = g.at; rec = g.rec; found = g.found; went = w; of = g.of; apart = g.apart })
        | inr at ↦ (
            let both : Some (Commit g.rec) ≡ Some (Commit rec) = sym g.found ∙ ap write at ∙ e in
            let one : g.rec ≡ rec = cc both in
            absurd (other (sym g.of ∙ ap (λ (r : CommitRec). r.start) one))
            )
      ]
    ];
    stayed = λ t n. (
        let other : t ≡ rec.start
        → ⊥ = λ same. n (record { at = c; rec = rec; found = e; went = here; of = sym same; apart = apart }) in
        without_apart after rec.start t other ∙ so.stayed t (λ g. n (old_gone t g)));
    fewer = λ t n. elim (cases_eq t rec.start) [
      | inl same ↦ absurd (n (gone_here t same))
      | inr other ↦ (let is = without_apart after rec.start t other in is ∙ so.fewer t (λ none. n (is ∙ none)))
    ];
  }
    where
      gone_here : (t : ℕ) → t ≡ rec.start → without_value after rec.start t ≡ None
      gone_here t same = ap (λ b. cond b None (after t)) (eq-eqb rec.start t (sym same))

-- ---- what is left of a key

module _ (x : OnKey) (goes : ℕ → Bool) (value : ℕ → Option Value) where
  abbrev pub Left : OnKey
  Left = record { lock = x.lock; write = λ q. cond (goes q) None (x.write q); value = value }

  -- a value stays where its lock or commit record is left
  abbrev pub Stays : Type 0
  Stays = (t : ℕ) → LockKeeps x.lock t ⊎ WriteKeeps Left.write t → value t ≡ x.value t

  left_is : (q : ℕ) (r : WriteRec) → Left.write q ≡ Some r → (goes q ≡ false) × (x.write q ≡ Some r)
  left_is q r e = elim (cases_Bool (goes q)) [
    | inl go ↦ (let f : None ≡ Some r = sym (ap (λ b. cond b None (x.write q)) go) ∙ e in absurd (cc f))
    | inr stay ↦ (stay, sym (ap (λ b. cond b None (x.write q)) stay) ∙ e)
  ]

  left_there : (q : ℕ) → goes q ≡ false → Left.write q ≡ x.write q
  left_there q stay = ap (λ b. cond b None (x.write q)) stay

  -- a mutation is put together from the same
  whole_same : (t : ℕ) (m : StoredMutation) → (keeps_apart m ≡ true → value t ≡ x.value t)
      → whole (value t) m ≡ whole (x.value t) m
  whole_same t (stored.Put (Inline v)) same = refl
  whole_same t (stored.Put InDefault) same = ap (λ (o : Option Value). whole o (stored.Put InDefault)) (same refl)
  whole_same t stored.Delete same = refl
  whole_same t stored.Lock same = refl

  kept_same : (t : ℕ) (m : StoredMutation) → (keeps_apart m ≡ true → value t ≡ x.value t) → IsKept (x.value t) m
      → IsKept (value t) m
  kept_same t (stored.Put (Inline v)) same k = k
  kept_same t (stored.Put InDefault) same k =
      subst (λ (o : Option Value). IsKept o (stored.Put InDefault)) (sym (same refl)) k
  kept_same t stored.Delete same k = tt
  kept_same t stored.Lock same k = tt

  module _ (keep : Stays) where
    lock_value : (rec : LockRec) → x.lock ≡ Some rec → keeps_apart rec.mutation ≡ true
        → value rec.start ≡ x.value rec.start
    lock_value rec e apart = keep rec.start (inl (record { rec = rec; found = e; of = refl; apart = apart }))

    write_value : (q : ℕ) (rec : CommitRec) → Left.write q ≡ Some (Commit rec) → keeps_apart rec.mutation ≡ true
        → value rec.start ≡ x.value rec.start
    write_value q rec e apart = keep rec.start (inr (record { at = q; rec = rec; found = e; of = refl; apart = apart }))

    lock_cells : option_map (lock_of value) x.lock ≡ option_map (lock_of x.value) x.lock
    lock_cells = go x.lock refl
      where
        go : (o : Option LockRec) → x.lock ≡ o → option_map (lock_of value) o ≡ option_map (lock_of x.value) o
        go None e = refl
        go (Some rec) e = ap (λ m. Some (whole_lock rec m)) (whole_same rec.start rec.mutation (lock_value rec e))

    write_cells : (q : ℕ) → option_map (write_of value) (Left.write q) ≡ cond (goes q) None
        (option_map (write_of x.value) (x.write q))
    write_cells q = elim (cases_Bool (goes q)) [
      | inl go ↦ ap (λ b. option_map (write_of value) (cond b None (x.write q))) go
          ∙ sym (ap (λ b. cond b None (option_map (write_of x.value) (x.write q))) go)
      | inr stay ↦ ap (λ b. option_map (write_of value) (cond b None (x.write q)))
          stay ∙ same stay (x.write q) refl
          ∙ sym (ap (λ b. cond b None (option_map (write_of x.value) (x.write q))) stay)
    ]
      where
        same : goes q ≡ false → (o : Option WriteRec) → x.write q ≡ o
            → option_map (write_of value) o ≡ option_map (write_of x.value) o
        same stay None e = refl
        same stay (Some (Rollback s)) e = refl
        same stay (Some (Commit rec)) e =
            ap (λ m. Some (whole_write (Commit rec) m))
            (whole_same rec.start rec.mutation (write_value q rec (left_there q stay ∙ e)))

    -- the cells that are left
    pub cells_left : (safe : ℕ) → ((q : ℕ) → cond (keeps (cells_of x).write safe q) (x.write q) None ≡ Left.write q)
        → cells_of Left ≡ kept (cells_of x) safe
    cells_left safe tells = cells_same (option_map (lock_of value) x.lock)
        (option_map (lock_of x.value) x.lock) (λ q. option_map (write_of value) (Left.write q))
        (kept (cells_of x) safe).write lock_cells (λ q.
        write_cells q ∙ push_back (goes q) (x.write q) ∙ ap (option_map (write_of x.value)) (sym (tells q))
        ∙ push (keeps (cells_of x).write safe q) (x.write q))
      where
        push_back : (b : Bool) (o : Option WriteRec)
            → cond b None (option_map (write_of x.value) o) ≡ option_map (write_of x.value) (cond b None o)
        push_back true o = refl
        push_back false o = refl

        push : (b : Bool) (o : Option WriteRec)
            → option_map (write_of x.value) (cond b o None) ≡ cond b (option_map (write_of x.value) o) None
        push true o = refl
        push false o = refl

  module _ (w : IsWhole x) (so : ValuesGo x.write goes x.value value) where
    lock_stays : (t : ℕ) → LockKeeps x.lock t → value t ≡ x.value t
    lock_stays t k = so.stayed t
        (λ g. w.sound.uncommitted (lock_of x.value k.rec) g.at (ap (option_map (lock_of x.value)) k.found)
        (record { rec = _; stands = stands_commit x g.at g.rec g.found; own = g.of ∙ sym k.of }))

    write_stays : (t : ℕ) → WriteKeeps Left.write t → value t ≡ x.value t
    write_stays t k = so.stayed t (λ g. (
        let there = left_is k.at (Commit k.rec) k.found in
        let one = w.sound.once t g.at k.at
        (record { rec = _; stands = stands_commit x g.at g.rec g.found; own = g.of })
        (record { rec = _; stands = stands_commit x k.at k.rec there.1; own = k.of }) in
        let went = sym (ap goes one) ∙ g.went in
        let stay = there.0 in
        cc (went, stay)))

    stays_in : Stays
    stays_in t (inl k) = lock_stays t k
    stays_in t (inr k) = write_stays t k

    -- each value that is left is kept
    value_left : (t : ℕ) → value t ≢ None → LockKeeps x.lock t ⊎ WriteKeeps Left.write t
    value_left t n = elim (w.value_kept t (λ none. n (so.fewer t n ∙ none))) [
      | inl k ↦ inl k
      | inr k ↦ elim (cases_Bool (goes k.at)) [
        | inl go ↦ absurd (n (so.gone t
            (record { at = k.at; rec = k.rec; found = k.found; went = go; of = k.of; apart = k.apart })))
        | inr stay ↦ inr (record {
          at = k.at;
          rec = k.rec;
          found = left_there k.at stay
              ∙ k.found;
          of = k.of;
          apart = k.apart;
        })
      ]
    ]

    gone_in : (t : ℕ) → (LockKeeps x.lock t ⊎ WriteKeeps Left.write t → ⊥) → value t ≡ None
    gone_in t n = go (value t) refl
      where
        go : (o : Option Value) → value t ≡ o → value t ≡ None
        go None e = e
        go (Some v) e = absurd (n (value_left t (λ f. cc (e, f))))

    pub whole_left : (safe : ℕ) → ((q : ℕ) → cond (keeps (cells_of x).write safe q) (x.write q) None ≡ Left.write q)
        → IsWhole Left
    whole_left safe tells = record {
      lock_kept = λ rec e. kept_same rec.start rec.mutation (lock_value stays_in rec e) (w.lock_kept rec e);
      write_kept = λ q rec e. kept_same rec.start rec.mutation (write_value stays_in q rec e)
          (w.write_kept q rec (left_is q (Commit rec) e).1);
      value_kept = value_left;
      write_fits = λ q r e. w.write_fits q r (left_is q r e).1;
      sound = subst IsSound (sym (cells_left stays_in safe tells)) (sound_kept (cells_of x) safe w.sound);
    }

  value-set : (a b : Option Value) → IsProp (a ≡ b)
  value-set a b = Coded-set (coded_option (coded_list coded_ℕ)) a b

  pub stays_of : ∥ IsWhole x ∥₁ → ValuesGo x.write goes x.value value → Stays
  stays_of whole so t k = ∥∥₁_elim whole (value-set (value t) (x.value t)) (λ w. stays_in w so t k)

  pub gone_of : ∥ IsWhole x ∥₁
      → ValuesGo x.write goes x.value value → (t : ℕ) → (LockKeeps x.lock t ⊎ WriteKeeps Left.write t → ⊥)
      → value t ≡ None
  gone_of whole so t n = ∥∥₁_elim whole (value-set (value t) None) (λ w. gone_in w so t n)

  pub collected_left : ∥ IsWhole x ∥₁ → ValuesGo x.write goes x.value value
      → (safe : ℕ) → ((q : ℕ) → cond (keeps (cells_of x).write safe q) (x.write q) None ≡ Left.write q)
      → Collected safe x Left
  collected_left whole so safe tells = record {
    lock = refl;
    write = λ q. sym (tells q);
    kept = stays_of whole so;
    gone = gone_of whole so;
  }
