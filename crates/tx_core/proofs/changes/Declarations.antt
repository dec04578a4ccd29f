-- A transaction declares its write set.
use Rattle.std.proofs.Common.{◌≡◌, ◌≢◌, ℕ, ◌==◌, ◌⊎◌, inl, inr, Bool, true, false, cond, Some, None, refl, sym, ap, subst, ◌∙◌, arith}
use Rattle.tx_types.specs.declared.key.Key.{Key}
use Rattle.tx_types.specs.declared.value.Value.{Value}
use Rattle.tx_types.specs.declared.mutation.Mutation.{Mutation}
use Rattle.tx_types.specs.declared.mutation.Mutation.TheVariants.{Put, Insert}
use Rattle.tx_machine.specs.Keys.{mutation_at}
use Rattle.tx_core.specs.declared.event.Declaration.{Declaration}
use Rattle.tx_core.specs.Histories.{set_of, is_first}
use Rattle.tx_core.proofs.Basics.{nat_test, cond_true, cond_false}
use Rattle.tx_plan.specs.Cells.{Lock}
use Rattle.tx_core.proofs.view.View.{View, Inv, IsLock, does_at, Does, Inserts, IsCommitted, Written, Held, Gone, does_declared, later_by, gone_by}

-- the transaction declares this
abbrev pub declaring : View → Declaration → View
declaring w d = record w { declared = λ q. cond (d.start == q) (Some d) (w.declared q) }

module _ (w : View) (d : Declaration) (none : w.declared d.start ≡ None) where
  -- what was declared is declared still
  kept_set : (t : ℕ) → w.declared t ≢ None → cond (d.start == t) (Some d) (w.declared t) ≡ w.declared t
  kept_set t some =
      elim (nat_test d.start t) as (λ _. cond (d.start == t) (Some d) (w.declared t) ≡ w.declared t) [
        | inl e ↦ absurd (some (subst (λ n. w.declared n ≡ None) e.1 none))
        | inr e ↦ rw e.0 refl
      ]

  kept_does : (t : ℕ) (k : Key) (m : Mutation) → w.declared t ≢ None → Does (declaring w d).declared t k m
      → Does w.declared t k m
  kept_does t k m some e = subst (λ o. does_at (set_of o) k ≡ Some m) (kept_set t some) e

  kept_inserts : (t : ℕ) (k : Key) (v : Value) → w.declared t ≢ None → Inserts (declaring w d).declared t k v
      → Inserts w.declared t k v
  kept_inserts t k v some e = subst (λ o. mutation_at (set_of o) k ≡ Some (Insert v)) (kept_set t some) e

  more_does : (t : ℕ) (k : Key) (m : Mutation) → Does w.declared t k m → Does (declaring w d).declared t k m
  more_does t k m e = subst (λ o. does_at (set_of o) k ≡ Some m) (sym (kept_set t (does_declared w.declared t k m e))) e

  kept_first : (t : ℕ) (k : Key) (b : Bool) → w.declared t ≢ None → is_first (set_of ((declaring w d).declared t)) k ≡ b
      → is_first (set_of (w.declared t)) k ≡ b
  kept_first t k b some f = subst (λ o. is_first (set_of o) k ≡ b) (kept_set t some) f

  still_declared : (t : ℕ) → w.declared t ≢ None → (declaring w d).declared t ≢ None
  still_declared t some e = some (sym (kept_set t some) ∙ e)

  ended : (t c : ℕ) → Inv w → IsCommitted w.decided t c → w.declared t ≢ None
  ended t c i end = i.clock.decides t (λ o. (cc (o, end)))

  -- it began, and declares once
  pub inv_declare : Inv w → w.began d.start ≡ true → Inv (declaring w d)
  inv_declare i begun =
      record {
        clock = record {
          drawn = i.clock.drawn;
          begun = i.clock.begun;
          declares = λ q some. elim (nat_test d.start q) [
            | inl e ↦ subst (λ n. w.began n ≡ true) e.1 begun
            | inr e ↦ i.clock.declares q (λ x. some (rw e.0 x))
          ];
          decides = λ t e. still_declared t (i.clock.decides t e);
        };
        marks = i.marks;
        acceptances = λ t k by e. (let x = i.acceptances t k by e in record {
          does = more_does t k by.lock.mutation x.does;
          above = x.above;
          bounded = x.bounded;
          upto = x.upto;
          at = x.at;
          mode = λ y at. x.mode y (sym (kept_set t (does_declared w.declared t k by.lock.mutation x.does)) ∙ at);
        });
        keys = λ k. record {
          lock = λ lock e. locked k lock ((i.keys k).lock lock e);
          alone = λ lock e. (let x = (i.keys k).alone lock e in
              record {
                above = λ u c m end does. x.above u c m end (kept_does u k m (ended u c i end) does);
                unwritten =
                    x.unwritten;
                fresh = x.fresh;
                unseen =
                    λ v ins u c y end does low. later_by w.decided w.decided w.declared (declaring w d).declared k c
                    lock.start (λ q at e. e) (λ q n does. more_does q k n does)
                    (x.unseen v (kept_inserts lock.start k v
                    (does_declared w.declared lock.start k lock.mutation ((i.keys k).lock lock e).does) ins) u c y end
                    (kept_does u k (Put y) (ended u c i end) does) low);
              });
          records = (let x = (i.keys k).records in record {
            committed = x.committed;
            does = λ c rec e. more_does rec.start k rec.mutation (x.does c rec e);
            rolled = x.rolled;
            newest = λ q rec e s low u c m end does. x.newest q rec e s low u c m end
                (kept_does u k m (ended u c i end) does);
          });
          kept = record { complete = complete k; held = (i.keys k).kept.held; cleared = (i.keys k).kept.cleared };
        };
        commits = λ t c end. (let x = i.commits t c end in record {
          range = x.range;
          accepts = λ k some. x.accepts k
              (λ e. some (ap (λ o. mutation_at (set_of o) k) (kept_set t (ended t c i end)) ∙ e));
          bounds = x.bounds;
          shows = x.shows;
        });
        checks = λ t k by e v ins. i.checks t k by e v
            (kept_inserts t k v (does_declared w.declared t k by.lock.mutation (i.acceptances t k by e).does) ins);
        unread = λ t k by e o m does. i.unread t k by e o m
            (kept_does t k m (does_declared w.declared t k by.lock.mutation (i.acceptances t k by e).does) does);
        shown = record {
          undeclared = λ t e. elim (nat_test d.start t) [
            | inl x ↦
                absurd (cc (sym (cond_true (d.start == t) (Some d) (w.declared t) x.0) ∙ e))
            | inr x ↦ i.shown.undeclared t (sym (cond_false (d.start == t) (Some d) (w.declared t) x.0) ∙ e)
          ];
          none = λ t k f a. elim (nat_test d.start t) [
            | inl x ↦
                i.shown.undeclared t (subst (λ n. w.declared n ≡ None) x.1 none)
            | inr x ↦ i.shown.none t k
                (subst (λ o. is_first (set_of o) k ≡ true) (cond_false (d.start == t) (Some d) (w.declared t) x.0) f) a
          ];
          first = λ t k by f e. i.shown.first t k by
              (kept_first t k true (does_declared w.declared t k by.lock.mutation (i.acceptances t k by e).does) f) e;
        };
      }
    where
      locked : (k : Key) (lock : Lock) → IsLock w.declared w.accepted w.shown k lock
          → IsLock (declaring w d).declared w.accepted w.shown k lock
      locked k lock x =
          let some = does_declared w.declared lock.start k lock.mutation x.does in
          record {
            accepts = x.accepts;
            does = more_does lock.start k lock.mutation x.does;
            mode = x.mode;
            min =
                λ f. x.min (kept_first lock.start k false some f);
            shows =
                λ f. x.shows (kept_first lock.start k true some f);
          }

      complete : (k : Key) (u c : ℕ) (m : Mutation) → IsCommitted w.decided u c → Does (declaring w d).declared u k m
          → Written (w.cells k) u c ⊎ Held (w.cells k) u ⊎ Gone w.decided (declaring w d).declared k c (w.collected k) m
      complete k u c m end does =
          elim ((i.keys k).kept.complete u c m end (kept_does u k m (ended u c i end) does)) [
            | inl x ↦ inl x
            | inr x ↦ elim x [
              | inl y ↦ inr (inl y)
              | inr y ↦ inr (inr (gone_by w.decided w.decided w.declared (declaring w d).declared k c (w.collected k)
                  (w.collected k) m (λ q at e. e) (λ q n does. more_does q k n does) (omega arith) y))
            ]
          ]
