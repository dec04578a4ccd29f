-- Later cells are an order: no state comes back.
use Rattle.std.proofs.Common.{◌≡◌, ◌≢◌, ◌⊎◌, ℕ, inl, inr, true, Option, Some, None, refl, sym, ap, subst, ◌∙◌, arith}
use Rattle.tx_plan.specs.Cells.{Lock, CommitRecord, Write, CommitOf, Rollback, Writes, Cells}
use Rattle.tx_plan.specs.Own.{marked}
use Rattle.tx_core.specs.Later.{IsLengthened, LockLater, WriteLater, IsLater}

-- ---- records

pub write_same : (o : Option Write) → WriteLater o o
write_same None = tt
write_same (Some Rollback) = tt
write_same (Some (CommitOf a)) = inl refl

mark_stays : (a b : CommitRecord) → (b ≡ a) ⊎ (b ≡ marked a) → a.overlapped_rollback ≡ true
    → b.overlapped_rollback ≡ true
mark_stays a b (inl e) m = ap (λ (r : CommitRecord). r.overlapped_rollback) e ∙ m
mark_stays a b (inr e) m = ap (λ (r : CommitRecord). r.overlapped_rollback) e

mark_twice : (a b c : CommitRecord) → (b ≡ a) ⊎ (b ≡ marked a) → (c ≡ b) ⊎ (c ≡ marked b) → (c ≡ a) ⊎ (c ≡ marked a)
mark_twice a b c (inl e) (inl f) = inl (f ∙ e)
mark_twice a b c (inl e) (inr f) = inr (f ∙ ap marked e)
mark_twice a b c (inr e) (inl f) = inr (f ∙ e)
mark_twice a b c (inr e) (inr f) = inr (f ∙ ap marked e)

pub write_more : (o p q : Option Write) → WriteLater o p → WriteLater p q → WriteLater o q
write_more None p q x y = tt
write_more (Some Rollback) None q x y = absurd x
write_more (Some Rollback) (Some Rollback) q x y = y
write_more (Some Rollback) (Some (CommitOf b)) None x y = absurd y
write_more (Some Rollback) (Some (CommitOf b)) (Some Rollback) x y = absurd y
write_more (Some Rollback) (Some (CommitOf b)) (Some (CommitOf c)) x y = mark_stays b c y x
write_more (Some (CommitOf a)) None q x y = absurd x
write_more (Some (CommitOf a)) (Some Rollback) q x y = absurd x
write_more (Some (CommitOf a)) (Some (CommitOf b)) None x y = absurd y
write_more (Some (CommitOf a)) (Some (CommitOf b)) (Some Rollback) x y = absurd y
write_more (Some (CommitOf a)) (Some (CommitOf b)) (Some (CommitOf c)) x y = mark_twice a b c x y

-- a record with the mark is as it would be with the mark
marked_same : (a : CommitRecord) → a.overlapped_rollback ≡ true → marked a ≡ a
marked_same a m = λ i. record { mutation = a.mutation; start = a.start; overlapped_rollback = sym m i }

both_marked : (a b : CommitRecord) → (b ≡ a) ⊎ (b ≡ marked a) → (a ≡ b) ⊎ (a ≡ marked b) → a ≡ b
both_marked a b (inl e) y = sym e
both_marked a b (inr e) (inl f) = f
both_marked a b (inr e) (inr f) = sym (e ∙ marked_same a (ap (λ (r : CommitRecord). r.overlapped_rollback) f))

pub write_back : (o p : Option Write) → WriteLater o p → WriteLater p o → o ≡ p
write_back None None x y = refl
write_back None (Some Rollback) x y = absurd y
write_back None (Some (CommitOf b)) x y = absurd y
write_back (Some Rollback) None x y = absurd x
write_back (Some Rollback) (Some Rollback) x y = refl
write_back (Some Rollback) (Some (CommitOf b)) x y = absurd y
write_back (Some (CommitOf a)) None x y = absurd x
write_back (Some (CommitOf a)) (Some Rollback) x y = absurd x
write_back (Some (CommitOf a)) (Some (CommitOf b)) x y =
    ap (λ (r : CommitRecord). Some (CommitOf r)) (both_marked a b x y)

writes_back : (v w : Writes) → ((c : ℕ) → WriteLater (v c) (w c)) → ((c : ℕ) → WriteLater (w c) (v c)) → v ≡ w
writes_back v w x y = λ i c. write_back (v c) (w c) (x c) (y c) i

-- ---- locks

pub lock_same : (o : Option Lock) → LockLater o o
lock_same None = tt
lock_same (Some a) = record {
  mutation = refl;
  mode = refl;
  secondaries = refl;
  start = refl;
  min = omega arith;
  ttl =
      omega arith;
  primary = refl;
}

lengthened_more : (a b c : Lock) → IsLengthened a b → IsLengthened b c → IsLengthened a c
lengthened_more a b c x y = record {
  mutation = x.mutation ∙ y.mutation;
  mode = x.mode ∙ y.mode;
  secondaries = x.secondaries ∙ y.secondaries;
  start = x.start ∙ y.start;
  min = omega (arith, x.min, y.min);
  ttl = omega (arith, x.ttl, y.ttl);
  primary = x.primary ∙ y.primary;
}

pub lock_more : (o p q : Option Lock) → LockLater o p → LockLater p q → LockLater o q
lock_more None p q x y = tt
lock_more (Some a) None q x y = absurd x
lock_more (Some a) (Some b) None x y = absurd y
lock_more (Some a) (Some b) (Some c) x y = lengthened_more a b c x y

lengthened_back : (a b : Lock) → IsLengthened a b → IsLengthened b a → a ≡ b
lengthened_back a b x y =
    let min : a.min ≡ b.min = omega (arith, x.min, y.min) in
    let ttl : a.ttl ≡ b.ttl = omega (arith, x.ttl, y.ttl) in
    λ i. record {
      mutation = x.mutation i;
      mode = x.mode i;
      secondaries = x.secondaries i;
      start = x.start i;
      min =
          min i;
      ttl = ttl i;
      primary = x.primary i;
    }

pub lock_back : (o p : Option Lock) → LockLater o p → LockLater p o → o ≡ p
lock_back None None x y = refl
lock_back None (Some b) x y = absurd y
lock_back (Some a) None x y = absurd x
lock_back (Some a) (Some b) x y = ap (λ (l : Lock). Some l) (lengthened_back a b x y)

-- ---- cells

pub later_same : (a : Cells) → IsLater a a
later_same a = record { write = λ c. write_same (a.write c); lock = λ e. lock_same a.lock }

pub later_more : (a b c : Cells) → IsLater a b → IsLater b c → IsLater a c
later_more a b c x y = record {
  write = λ q. write_more (a.write q) (b.write q) (c.write q) (x.write q) (y.write q);
  lock = λ e.
      let back : (q : ℕ) → WriteLater (b.write q) (a.write q) =
      λ q. subst (λ o. WriteLater (b.write q) o) (sym (ap (λ (w : Writes). w q) e)) (y.write q) in
      let same : a.write ≡ b.write = writes_back a.write b.write x.write back in
      lock_more a.lock b.lock c.lock (x.lock same) (y.lock (sym same ∙ e));
}

pub later_back : (a b : Cells) → IsLater a b → IsLater b a → a ≡ b
later_back a b x y =
    let write : a.write ≡ b.write = writes_back a.write b.write x.write y.write in
    let lock : a.lock ≡ b.lock = lock_back a.lock b.lock (x.lock write) (y.lock (sym write)) in
    λ i. record { lock = lock i; write = write i }

-- no state comes back: where cells change on the way from a, they are not a's again
pub never_back : (a b c : Cells) → IsLater a b → IsLater b c → b ≢ c → a ≢ c
never_back a b c x y changed same = changed (later_back b c y (subst (λ (z : Cells). IsLater z b) same x))
