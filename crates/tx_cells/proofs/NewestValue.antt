-- What a read finds by the newest put or delete among the write records.
use Rattle.std.proofs.Common.{◌≡◌, ℕ, ◌⊎◌, inl, inr, true, false, Option, Some, None, sym, ap, subst, ◌∙◌, arith}
use Rattle.std.proofs.lemmas.Bool.{cases_lt}
use Rattle.tx_types.specs.Kinds.{stored_kind}
use Rattle.tx_types.specs.declared.value.Value.{Value}
use Rattle.tx_types.specs.declared.value.StoredValue.{StoredValue}
use Rattle.tx_types.specs.declared.value.StoredValue.TheVariants.{Inline, InDefault}
use Rattle.tx_types.specs.declared.mutation.LockKind.{LockKind}
use Rattle.tx_types.specs.declared.mutation.Mutation.{Mutation}
use Rattle.tx_types.specs.declared.mutation.Mutation.TheVariants as mutation
use Rattle.tx_types.specs.declared.mutation.StoredMutation.{StoredMutation}
use Rattle.tx_types.specs.declared.mutation.StoredMutation.TheVariants as stored
use Rattle.tx_types.specs.declared.write.CommitRec.{CommitRec}
use Rattle.tx_types.specs.declared.write.WriteRec.TheVariants.{Commit}
use Rattle.tx_types.specs.Keys.{IsVisible}
use Rattle.tx_plan.specs.Cells.{CommitRecord, CommitOf}
use Rattle.tx_plan.specs.Reads.{NoneWritten, Finds, Reads}
use Rattle.tx_cells.specs.Heads.{keeps_apart, inline_of}
use Rattle.tx_cells.specs.Contents.{OnKey, cells_of, whole, put_whole, IsKept}
use Rattle.tx_cells.specs.Histories.{IsSeenKind, NoneSeenAbove, NoneSeen, IsSeen, value_kept}
use Rattle.tx_cells.proofs.RecordCells.{kept_commit, stands_commit}

seen_of : (apart : Option Value) (m : StoredMutation) → IsVisible (whole apart m) → IsSeenKind (stored_kind m)
seen_of apart (stored.Put v) h = tt
seen_of apart stored.Delete h = tt
seen_of apart stored.Lock h = h

put_visible : (v : Option Value) → IsVisible (put_whole v)
put_visible None = tt
put_visible (Some v) = tt

pub visible_of : (apart : Option Value) (m : StoredMutation) → IsSeenKind (stored_kind m) → IsVisible (whole apart m)
visible_of apart (stored.Put (Inline v)) h = tt
visible_of apart (stored.Put InDefault) h = put_visible apart
visible_of apart stored.Delete h = tt
visible_of apart stored.Lock h = h

module _ (x : OnKey) (r : ℕ) where
  -- a put or delete among the cells is seen among the records
  seen_at : (c : ℕ) (rec : CommitRecord) → (cells_of x).write c ≡ Some (CommitOf rec) → IsVisible rec.mutation
      → (of : CommitRec) × (x.write c ≡ Some (Commit of)) × IsSeenKind (stored_kind of.mutation)
      × (rec.mutation ≡ whole (x.value of.start) of.mutation)
  seen_at c rec e visible =
      let k = kept_commit x c rec e in
      let same = ap (λ (y : CommitRecord). y.mutation) k.2 in
      (k.0, k.1, seen_of (x.value k.0.start) k.0.mutation (subst IsVisible same visible), same)

  none_above : (low : ℕ) → NoneSeenAbove x.write low r → NoneWritten (cells_of x).write low r
  none_above low none c rec e visible lt le = (let s = seen_at c rec e visible in none c s.0 s.1 s.2 lt le)

  visible_put : (m : Mutation) (v : Value) → m ≡ mutation.Put v → IsVisible m
  visible_put m v e = subst IsVisible (sym e) tt

  pub none_found : NoneSeen x.write r → (v : Value) → Finds (cells_of x).write r v → ⊥
  none_found none v f = (let s =
      seen_at f.at f.rec f.stands (visible_put f.rec.mutation v f.puts) in none f.at s.0 s.1 s.2 f.upto)

  module _ (c start : ℕ) (k : LockKind) (seen : IsSeen x.write r c start k) (of : CommitRec)
      (e : x.write c ≡ Some (Commit of)) where
    pub finds : (v : Value) → whole (x.value of.start) of.mutation ≡ mutation.Put v → Finds (cells_of x).write r v
    finds v puts = record {
      at = c;
      rec = _;
      stands = stands_commit x c of e;
      puts = puts;
      upto = seen.upto;
      newest = none_above c seen.newest;
    }

    seen_here : IsSeenKind (stored_kind of.mutation)
    seen_here =
        let same : Some (Commit seen.rec) ≡ Some (Commit of) = sym seen.stands ∙ e in
        let one : seen.rec ≡ of = cc same in
        subst IsSeenKind (sym seen.is ∙ ap (λ (y : CommitRec). stored_kind y.mutation) one) seen.seen

    -- what is found elsewhere
    pub finds_none : ((v : Value) → whole (x.value of.start) of.mutation ≡ mutation.Put v → ⊥) → (v : Value)
        → Finds (cells_of x).write r v → ⊥
    finds_none never v f =
        let visible = visible_put f.rec.mutation v f.puts in
        let s = seen_at f.at f.rec f.stands visible in
        elim (cases_lt c f.at) [
          | inl lt ↦ seen.newest f.at s.0 s.1 s.2 lt f.upto
          | inr le ↦ elim (cases_lt f.at c) [
            | inl lt ↦ f.newest c _ (stands_commit x c of e) (visible_of (x.value of.start) of.mutation seen_here) lt
                seen.upto
            | inr ge ↦ (
                let same : f.at ≡ c = omega (arith, le, ge) in
                let both : Some (Commit s.0) ≡ Some (Commit of) = sym s.1 ∙ ap x.write same ∙ e in
                let one : s.0 ≡ of = cc both in
                never v (ap (λ (y : CommitRec). whole (x.value y.start) y.mutation) (sym one) ∙ sym s.3 ∙ f.puts)
                )
          ]
        ]

    never_put : (o : Option Value) (m : StoredMutation) → (m ≡ stored.Delete) ⊎ (m ≡ stored.Lock) → (v : Value)
        → whole o m ≡ mutation.Put v → ⊥
    never_put o m (inl d) v e = (let other : whole o m ≡ mutation.Delete = ap (whole o) d in cc (e, other))
    never_put o m (inr l) v e = (let other : whole o m ≡ mutation.Lock = ap (whole o) l in cc (e, other))

    -- where it puts nothing, nothing is found
    pub no_put : (of.mutation ≡ stored.Delete) ⊎ (of.mutation ≡ stored.Lock) → (v : Value)
        → Finds (cells_of x).write r v → ⊥
    no_put m = finds_none (never_put (x.value of.start) of.mutation m)

    -- where it puts, the value that it keeps is found
    pub value_found : (value : StoredValue) → of.mutation ≡ stored.Put value
        → IsKept (x.value of.start) of.mutation → (found : Option Value) → found ≡ value_kept (x.value of.start) value
        → Reads (cells_of x).write r found
    value_found (Inline w) m kept None is = absurd (cc is)
    value_found (Inline w) m kept (Some v) is = finds v (ap (whole (x.value of.start)) m ∙ ap mutation.Put (cc is))
    value_found InDefault m kept None is =
        absurd (apart (x.value of.start) (sym is) (subst (IsKept (x.value of.start)) m kept))
      where
        apart : (o : Option Value) → o ≡ None → IsKept o (stored.Put InDefault) → ⊥
        apart None e h = h
        apart (Some w) e h = cc e
    value_found InDefault m kept (Some v) is = finds v (ap (whole (x.value of.start)) m ∙ ap put_whole (sym is))

    -- where the value that it puts stands inline
    pub inline_found : (m : StoredMutation) → of.mutation ≡ m → keeps_apart m ≡ false
        → IsKept (x.value of.start) of.mutation → (found : Option Value) → found ≡ inline_of m
        → Reads (cells_of x).write r found
    inline_found (stored.Put (Inline v)) is apart kept found f = value_found (Inline v) is kept found f
    inline_found (stored.Put InDefault) is apart kept found f = absurd (cc apart)
    inline_found stored.Delete is apart kept found f = subst (Reads (cells_of x).write r) (sym f) (no_put (inl is))
    inline_found stored.Lock is apart kept found f = subst (Reads (cells_of x).write r) (sym f) (no_put (inr is))

    -- where it stands apart
    pub apart_found : (m : StoredMutation) → of.mutation ≡ m → keeps_apart m ≡ true
        → IsKept (x.value of.start) of.mutation → (found : Option Value) → found ≡ x.value of.start
        → Reads (cells_of x).write r found
    apart_found (stored.Put (Inline v)) is apart kept found f = absurd (cc apart)
    apart_found (stored.Put InDefault) is apart kept found f = value_found InDefault is kept found f
    apart_found stored.Delete is apart kept found f = absurd (cc apart)
    apart_found stored.Lock is apart kept found f = absurd (cc apart)
