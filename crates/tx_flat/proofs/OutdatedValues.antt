-- A walk from the start of a value up its key's records finds whether the value is outdated.
use Rattle.std.proofs.Common.{◌≡◌, ℕ, ◌==◌, ◌<◌, ◌≤◌, ◌&&◌, not, inl, inr, Bool, true, false, Option, Some, None, refl, sym, ap, ◌∙◌, arith}
use Rattle.std.proofs.lemmas.Bool.{cases_lt, cases_eq, eq-eqb, eqb-true}
use Rattle.tx_types.specs.declared.write.CommitRec.{CommitRec}
use Rattle.tx_types.specs.declared.write.WriteRec.{WriteRec}
use Rattle.tx_types.specs.declared.write.WriteRec.TheVariants.{Commit, Rollback}
use Rattle.tx_cells.specs.Heads.{record_kind, is_rollback, start_in}
use Rattle.tx_flat.specs.Sieves.{Outdated}

module _ (write : ℕ → Option WriteRec) (t : ℕ) where
  -- the transaction that started at t has a commit record above t, at `last` or below
  pub record Committed (last : ℕ) : Type 0 where
    pub at : ℕ
    pub rec : CommitRec
    pub found : write at ≡ Some (Commit rec)
    pub of : rec.start ≡ t
    pub above : t < at
    pub upto : at ≤ last

  -- what is known of the records up to `last`
  pub record Climb (last : ℕ) (committed : Bool) : Type 0 where
    pub from : t ≤ last
    pub yes : committed ≡ true → Committed last
    pub all : Committed last → committed ≡ true
    pub none : (safe : ℕ) (o : Outdated write safe t) → o.follows ≤ last → ⊥

  pub climb_starts : Climb t false
  climb_starts = record {
    from = omega arith;
    yes = λ e. absurd (cc e);
    all = λ k. absurd (let a = k.above in let u = k.upto in omega (arith, a, u));
    none = λ safe o le. (let a = o.above in let l = o.later in omega (arith, a, l, le));
  }

  module _ (last : ℕ) (committed : Bool) (so : Climb last committed) where
    -- nothing is above
    pub climb_ends : ((q : ℕ) → last < q → write q ≡ None) → (safe : ℕ) → Outdated write safe t → ⊥
    climb_ends none safe o = elim (cases_lt last o.follows) [
      | inl lt ↦ (let gone = none o.follows lt in let there = o.stands in cc (gone, there))
      | inr le ↦ so.none safe o le
    ]

    module _ (a : ℕ) (rec : WriteRec) (lt : last < a) (is : write a ≡ Some rec) (near : (q : ℕ) → last < q → q < a
        → write q ≡ None) where
      -- the next is above the safe point
      pub climb_passes : (safe : ℕ) → safe < a → Outdated write safe t → ⊥
      climb_passes safe up o = elim (cases_lt last o.follows) [
        | inl l ↦ (let u = o.upto in let gone = near o.follows l (omega (arith, u, up)) in let there = o.stands in
            cc (gone, there))
        | inr le ↦ so.none safe o le
      ]

      pub climb_found : (safe : ℕ) → a ≤ safe → committed ≡ true → (record_kind rec).is_seen ≡ true
          → Outdated write safe t
      climb_found safe le y seen =
          let k = so.yes y in
          record {
            at = k.at;
            rec = k.rec;
            found = k.found;
            of = k.of;
            above = k.above;
            follows = a;
            later =
                (let u = k.upto in omega (arith, u, lt));
            upto = le;
            other = rec;
            stands = is;
            seen = seen;
          }

      -- a commit record of the transaction
      own_is : (r : CommitRec) → write a ≡ Some (Commit r) → r.start ≡ t
          → (not (is_rollback rec) && (start_in rec == t)) ≡ true
      own_is r e of = go rec is
        where
          go : (w : WriteRec) → write a ≡ Some w → (not (is_rollback w) && (start_in w == t)) ≡ true
          go (Commit x) f = (let both : Some (Commit x) ≡ Some (Commit r) = sym f ∙ e in let one : x ≡ r = cc both in
              eq-eqb x.start t (ap (λ (c : CommitRec). c.start) one ∙ of))
          go (Rollback s) f = (let both : Some (Rollback s) ≡ Some (Commit r) = sym f ∙ e in absurd (cc both))

      is_own : (not (is_rollback rec) && (start_in rec == t)) ≡ true → Committed a
      is_own own = go rec is own
        where
          go : (w : WriteRec) → write a ≡ Some w → (not (is_rollback w) && (start_in w == t)) ≡ true → Committed a
          go (Commit x) f o = record {
            at = a;
            rec = x;
            found = f;
            of = eqb-true x.start t o;
            above =
                (let from = so.from in omega (arith, from, lt));
            upto = omega arith;
          }
          go (Rollback s) f o = absurd (cc o)

      higher : Committed last → Committed a
      higher k = record {
        at = k.at;
        rec = k.rec;
        found = k.found;
        of = k.of;
        above = k.above;
        upto =
            (let u = k.upto in omega (arith, u, lt));
      }

      -- a commit record at most at a is at most at last, or is this one
      lower : (k : Committed a) → (k.at ≡ a → ⊥) → Committed last
      lower k other = record {
        at = k.at;
        rec = k.rec;
        found = k.found;
        of = k.of;
        above = k.above;
        upto = elim (cases_lt last k.at) [
          | inl l ↦ (let u = k.upto in let gone = near k.at l (omega (arith, u, other)) in let there = k.found in
              absurd (cc (gone, there)))
          | inr le ↦ le
        ];
      }

      -- on to the next
      none_yet : (committed ≡ true → (record_kind rec).is_seen ≡ true → ⊥) → (safe : ℕ) (o : Outdated write safe t)
          → o.follows ≤ a → ⊥
      none_yet unseen safe o le = elim (cases_eq o.follows a) [
        | inl same ↦ (
            let later = o.later in
            let k : Committed a =
            record {
              at = o.at;
              rec = o.rec;
              found = o.found;
              of = o.of;
              above = o.above;
              upto =
                  omega (arith, later, le);
            } in
            let both : Some o.other ≡ Some rec = sym o.stands ∙ ap write same ∙ is in
            let one : o.other ≡ rec = cc both in
            unseen (so.all (lower k (λ e. omega (arith, e, later, same))))
            (ap (λ (w : WriteRec). (record_kind w).is_seen) (sym one) ∙ o.seen)
            )
        | inr other ↦ elim (cases_lt last o.follows) [
          | inl l ↦ (let gone = near o.follows l (omega (arith, le, other)) in let there = o.stands in cc (gone, there))
          | inr below ↦ so.none safe o below
        ]
      ]

      pub climb_commit : (committed ≡ true → (record_kind rec).is_seen ≡ true → ⊥)
          → (not (is_rollback rec) && (start_in rec == t)) ≡ true → Climb a true
      climb_commit unseen own = record {
        from = (let from = so.from in omega (arith, from, lt));
        yes = λ e. is_own own;
        all = λ k. refl;
        none = none_yet unseen;
      }

      pub climb_other : (committed ≡ true → (record_kind rec).is_seen ≡ true → ⊥)
          → (not (is_rollback rec) && (start_in rec == t)) ≡ false → Climb a committed
      climb_other unseen other = record {
        from = (let from = so.from in omega (arith, from, lt));
        yes = λ e. higher (so.yes e);
        all = λ k. so.all (lower k
            (λ e. (let own = own_is k.rec (ap write (sym e) ∙ k.found) k.of in cc (own, other))));
        none = none_yet unseen;
      }
