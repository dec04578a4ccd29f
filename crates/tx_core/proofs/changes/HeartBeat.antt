-- A lock lives longer, or is replaced by one that differs in nothing that the invariants speak of.
use Rattle.std.proofs.Common.{◌≡◌, ◌≢◌, ℕ, inl, inr, Some, None, refl, sym, ap, subst, ◌∙◌, arith}
use Rattle.tx_types.specs.declared.key.Key.{Key}
use Rattle.tx_machine.specs.Keys.{mutation_at}
use Rattle.tx_plan.specs.Cells.{Lock, Cells, with_lock}
use Rattle.tx_plan.specs.Own.{on_own_lock}
use Rattle.tx_core.specs.Histories.{set_of, is_first}
use Rattle.tx_core.proofs.Basics.{some_same}
use Rattle.tx_core.proofs.view.View.{View, does_at, HasNoValue, IsLock, IsAlone, Inv, Held}
use Rattle.tx_plan.specs.cases.TxnHeartBeat.{with_ttl}
use Rattle.tx_core.proofs.changes.Keyed.{keyed, keyed_same, keyed_to, own_cases, inv_keyed}

-- a lock for a lock with the same transaction, mutation, mode and minimum
pub inv_relock : (w : View) (k : Key) (old new : Lock) → Inv w → (w.cells k).lock ≡ Some old → new.start ≡ old.start
    → new.mutation ≡ old.mutation → new.mode ≡ old.mode → new.min ≡ old.min
    → Inv (keyed w k (with_lock (w.cells k) (Some new)))
inv_relock w k old new i stands start does mode min =
    inv_keyed w k (with_lock (w.cells k) (Some new)) i record {
      lock = λ lock e. by lock e (IsLock w.declared w.accepted w.shown k) (let x = (i.keys k).lock old stands in
          record {
            accepts = subst (λ n. w.accepted n k ≢ None) (sym start) x.accepts;
            does = ap (λ n. does_at (set_of (w.declared n)) k) start ∙ x.does ∙ ap (λ m. Some m) (sym does);
            mode = λ b y. mode ∙ x.mode b (ap (λ n. w.accepted n k) (sym start) ∙ y);
            min = λ f b y. min ∙ x.min (ap (λ n. is_first (set_of (w.declared n)) k) (sym start)
                ∙ f) b (ap (λ n. w.accepted n k) (sym start) ∙ y);
            shows = λ f. min ∙ x.shows (ap (λ n. is_first (set_of (w.declared n)) k) (sym start) ∙ f)
                ∙ ap w.shown (sym start);
          });
      alone = λ lock e. by lock e (IsAlone w.declared w.decided k (w.collected k) (w.cells k).write) (let x =
          (i.keys k).alone old stands in record {
            above = λ u d m end y other. omega (arith, x.above u d m end y (λ same. other (same ∙ sym start)), start);
            unwritten = λ c rec y same. x.unwritten c rec y (same ∙ start);
            fresh = omega (arith, x.fresh, start);
            unseen = λ v ins. subst (HasNoValue w.declared w.decided k) (sym start)
                (x.unseen v (ap (λ n. mutation_at (set_of (w.declared n)) k) (sym start) ∙ ins));
          });
      records = (i.keys k).records;
      kept = (let x = (i.keys k).kept in record {
        complete = λ u d m end does. elim (x.complete u d m end does) [
          | inl y ↦
              inl (record { rec = y.rec; stands = y.stands; own = y.own })
          | inr rest ↦ elim rest [ inl y ↦ inr (inl (moved u y)) | inr gone ↦ inr (inr gone) ]
        ];
        held = λ t y o. moved t (x.held t y o);
        cleared = λ t y gone. elim (x.cleared t y gone) [ inl z ↦ inl (moved t z) | inr rest ↦ inr rest ];
      });
    }
  where
    by : (lock : Lock) → Some new ≡ Some lock → (P : Lock → Type 0) → P new → P lock
    by lock e P x = subst P (some_same new lock e) x

    moved : (t : ℕ) → Held (w.cells k) t → Held (with_lock (w.cells k) (Some new)) t
    moved t y = record {
      lock = new;
      stands = refl;
      own =
          start ∙ ap (λ (l : Lock). l.start) (some_same old y.lock (sym stands ∙ y.stands)) ∙ y.own;
    }

-- the cells where the lock of the transaction that started at t gets this time to live
abbrev pub lengthened : Cells → ℕ → ℕ → Cells
lengthened cells t ttl = on_own_lock cells t (λ lock. with_lock cells (Some (with_ttl lock ttl)))

-- the transaction's lock on k gets this time to live, where it stands
abbrev pub lengthening : View → Key → ℕ → ℕ → View
lengthening w k t ttl = keyed w k (lengthened (w.cells k) t ttl)

-- a time to live matters to no fact
pub inv_lengthen : (w : View) (k : Key) (t ttl : ℕ) → Inv w → Inv (lengthening w k t ttl)
inv_lengthen w k t ttl i =
    elim (own_cases (w.cells k) t (λ lock. with_lock (w.cells k) (Some (with_ttl lock ttl)))) [
      | inl x ↦ keyed_to w k (with_lock (w.cells k) (Some (with_ttl x.0 ttl))) (lengthened (w.cells k) t ttl) Inv
          (sym x.3) (inv_relock w k x.0 (with_ttl x.0 ttl) i x.1 refl refl refl refl)
      | inr x ↦ keyed_to w k (w.cells k) (lengthened (w.cells k) t ttl) Inv (sym x.1)
          (subst Inv (sym (keyed_same w k)) i)
    ]
