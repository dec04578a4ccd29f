-- What nothing explains.
use Rattle.std.proofs.Common.{◌≡◌, ℕ, ◌<◌, ◌≤◌, List, length, get_or, Contains, arith, inl, inr, refl, sym, ap, ◌∙◌, subst, false, IsTrue, Option, Some, None}
use Rattle.std.proofs.lemmas.Bool.{false≢true}
use Rattle.std.proofs.lemmas.List.Elements.{Contains-get_or}
use Rattle.tx_recording.specs.declared.recording.RecordedOutcome.TheVariants.{Fail as Failed}
use Rattle.tx_recording.specs.declared.recording.Orders.{Orders}
use Rattle.tx_recording.specs.declared.recording.Recording.{Recording}
use Rattle.tx_recording.specs.Recordings.{list_of, transaction_at, ops_of}
use Rattle.tx_recording.specs.Explanations.{op_at, IsPut, ArePutOnce, PutsIn, Explanation, IsWriter, Sees, Explains}
use Rattle.tx_recording.proofs.Puts.{IsLast, last_unique, none_last}
use Rattle.tx_recording.proofs.Seen.{seen_put, sees_unique, writer_last}
use Rattle.tx_views.specs.declared.owner.Owner.{Owner}
use Rattle.tx_views.specs.declared.view.RecordedView.{RecordedView}
use Rattle.tx_views.specs.Owners.{AreOwners, owner_at}
use Rattle.tx_views.specs.Views.{Saw, IsViewOf, IsInternal}
use Rattle.tx_views.proofs.ValueOwners.{put_by_owner}
use Rattle.tx_verdict.specs.declared.verdict.Fact.{Fact}
use Rattle.tx_verdict.specs.declared.verdict.Rule.TheVariants.{G1a, Internal, Unrepeatable, Unwritten, LostUpdate}
use Rattle.tx_verdict.specs.Facts.{IsPutBy}
use Rattle.tx_verdict.specs.Verdicts.{IsNever, IsWrong}
use Rattle.tx_clock.proofs.ClockOrder.{is_one}
use Rattle.tx_verdict.proofs.Views.{view_sees, owner_is, saw_value, owner_puts, nobody_puts}

module _ (r : Recording) (table : List (Option Owner)) (owners : AreOwners r table) (v : RecordedView)
    (view : IsViewOf r v)
    (list : List ℕ)
    (is : list ≡ list_of r v.span) where
  -- who put a value that was seen
  by : (orders : Orders) (x : Explanation) → Explains r orders x → (i : ℕ) → i < length list
      → (u : ℕ) × IsWriter r x u v.key × IsPut r u v.key (get_or list i 0) × (x.commit u ≤ x.start v.txn)
  by orders x e i lt = seen_put r orders x e v.key (x.start v.txn) (list_of r v.span) (get_or list i 0)
      (view_sees r orders x e v view)
      (subst (λ q. Contains q (get_or list i 0)) is (Contains-get_or list i 0 lt))

  pub unwritten : (i : ℕ) → i < length list → ((o : Owner) → owner_at table (get_or list i 0) ≡ Some o → ⊥) → IsNever r
  unwritten i lt none orders x e =
      let (u, writer, put, before) = by orders x e i lt in
      let (p, at) = put_by_owner r table u v.key (get_or list i 0) owners put in
      none record { txn = u; place = p } at

  pub aborted : (i : ℕ) (o : Owner) → i < length list → owner_at table (get_or list i 0) ≡ Some o
      → (transaction_at r o.txn).outcome ≡ Failed → IsNever r
  aborted i o lt at failed orders x e =
      let (u, writer, put, before) = by orders x e i lt in
      let same : o.txn ≡ u = owner_is r table u v.key (get_or list i 0) o owners put at in
      let never : x.committed u ≡ false = ap x.committed (sym same) ∙ e.fail o.txn failed in
      false≢true (sym never ∙ writer.0)

  pub itself : (i : ℕ) (o : Owner) → i < length list → owner_at table (get_or list i 0) ≡ Some o → o.txn ≡ v.txn
      → IsNever r
  itself i o lt at same orders x e =
      let (u, writer, put, before) = by orders x e i lt in
      let own : o.txn ≡ u = owner_is r table u v.key (get_or list i 0) o owners put at in
      let up = e.above u writer.0 in
      let s = ap x.start (sym own ∙ same) in
      omega (arith, before, up, s)

-- who has a view has committed
pub ok_committed : (r : Recording) (orders : Orders) (x : Explanation) → Explains r orders x → (v : RecordedView)
    → IsViewOf r v
    → IsTrue (x.committed v.txn)
ok_committed r orders x e v (within, (p, span, (ok, act), of_key, iff)) = e.ok v.txn (is_one r v.txn ok) ok

-- two views of one transaction and key differ
pub unrepeatable : (r : Recording) (v w : RecordedView) → IsViewOf r v → IsViewOf r w → v.txn ≡ w.txn → v.key ≡ w.key
    → (list_of r w.span ≡ list_of r v.span → ⊥) → IsNever r
unrepeatable r v w a b same_txn same_key ne orders x e =
    let P : ℕ → Type 0 = λ k. Sees r x k (x.start v.txn) (list_of r v.span) in
    let Q : ℕ → Type 0 = λ t. Sees r x w.key (x.start t) (list_of r v.span) in
    let moved = subst Q same_txn (subst P same_key (view_sees r orders x e v a)) in
    ne (sees_unique r orders x e w.key (x.start w.txn) (list_of r w.span) (list_of r v.span)
    (view_sees r orders x e w b) moved)

-- of two writers of a key that saw the same, neither started when the other had committed
late : (r : Recording) (orders : Orders) (x : Explanation) → Explains r orders x → ArePutOnce r
    → (k t u : ℕ) (xs ys : List ℕ)
    → IsWriter r x t k → Sees r x k (x.start t) xs → Sees r x k (x.start u) ys → xs ≡ ys → x.commit t ≤ x.start u → ⊥
late r orders x e once k t u xs ys a (inl (p, newest_p, is_p)) (inl (q, newest_q, is_q)) same le =
    let (v, put_p, end_p) = writer_last r orders x e k p newest_p.0 in
    let (w, put_q, end_q) = writer_last r orders x e k q newest_q.0 in
    let lists : x.left p k ≡ x.left q k = sym is_p ∙ same ∙ is_q in
    let value : v ≡ w = last_unique (x.left q k) v w (subst (λ z. IsLast z v) lists end_p) end_q in
    let one : p ≡ q = once p q k k w (subst (λ z. IsPut r p k z) value put_p) put_q in
    let c = ap x.commit one in
    let lower = newest_p.1 in
    let top = newest_q.2 t a le in
    let up = e.above t a.0 in
    omega (arith, c, lower, top, up)
late r orders x e once k t u xs ys a (inl (p, newest_p, is_p)) (inr none) same le =
    (let lt = none.0 t a in omega (arith, lt, le))
late r orders x e once k t u xs ys a (inr none) (inl (q, newest_q, is_q)) same le =
    let (w, put_q, end_q) = writer_last r orders x e k q newest_q.0 in
    none_last (x.left q k) w (sym is_q ∙ sym same ∙ none.1) end_q
late r orders x e once k t u xs ys a (inr none) (inr also) same le = (let lt = also.0 t a in omega (arith, lt, le))

-- two transactions that put into a key saw the same there
pub lost_update : (r : Recording) (v w : RecordedView) → ArePutOnce r → IsViewOf r v → IsViewOf r w
    → (v.txn ≡ w.txn → ⊥)
    → v.key ≡ w.key
    → list_of r v.span ≡ list_of r w.span → ((a : ℕ) × PutsIn (ops_of r v.txn) v.key a)
    → ((a : ℕ) × PutsIn (ops_of r w.txn) w.key a) → IsNever r
lost_update r v w once a b ne same_key same puts_v puts_w orders x e =
    let P : ℕ → Type 0 = λ k. Sees r x k (x.start v.txn) (list_of r v.span) in
    let sees_v = subst P same_key (view_sees r orders x e v a) in
    let sees_w = view_sees r orders x e w b in
    let Q : ℕ → Type 0 = λ k. (q : ℕ) × PutsIn (ops_of r v.txn) k q in
    let writer_v : IsWriter r x v.txn w.key = (ok_committed r orders x e v a, subst Q same_key puts_v) in
    let writer_w : IsWriter r x w.txn w.key = (ok_committed r orders x e w b, puts_w) in
    elim (e.apart w.key v.txn w.txn writer_v writer_w ne) [
      | inl le ↦ late r orders x e once w.key v.txn w.txn (list_of r v.span) (list_of r w.span) writer_v sees_v sees_w
          same le
      | inr le ↦ late r orders x e once w.key w.txn v.txn (list_of r w.span) (list_of r v.span) writer_w sees_w sees_v
          (sym same) le
    ]

internal_so : (r : Recording) (t p : ℕ) → IsInternal r t p → IsNever r
internal_so r t p (span, (ok, act), none) orders x e = (let (xs, sees, is) = e.reads t p span ok act in none xs is)

-- the facts of a value that was seen
module _ (r : Recording) (table : List (Option Owner)) (owners : AreOwners r table) (v : RecordedView)
    (view : IsViewOf r v)
    (list : List ℕ)
    (is : list ≡ list_of r v.span) (i : ℕ) (lt : i < length list) (fact : Fact) where
  pub fact_unwritten : fact ≡ record {
    rule = Unwritten;
    txn = v.txn;
    key = v.key;
    value = Some (get_or list i 0);
    by = None;
  }
      → ((o : Owner) → owner_at table (get_or list i 0) ≡ Some o → ⊥) → IsWrong r fact
  fact_unwritten at none = subst (λ (f : Fact). IsWrong r f) (sym at) (
    (saw_value r v view list is i lt, nobody_puts r table owners (get_or list i 0) none),
    unwritten r table owners v view list is i lt none,
  )

  pub fact_aborted : (o : Owner)
      → fact ≡ record { rule = G1a; txn = v.txn; key = v.key; value = Some (get_or list i 0); by = Some o.txn }
      → owner_at table (get_or list i 0) ≡ Some o → (transaction_at r o.txn).outcome ≡ Failed → IsWrong r fact
  fact_aborted o at by failed = subst (λ (f : Fact). IsWrong r f) (sym at) (
    (saw_value r v view list is i lt, owner_puts r table owners (get_or list i 0) o by, failed),
    aborted r table owners v view list is i o lt by failed,
  )

  pub fact_itself : (o : Owner)
      → fact ≡ record { rule = Internal; txn = v.txn; key = v.key; value = Some (get_or list i 0); by = None }
      → owner_at table (get_or list i 0) ≡ Some o → o.txn ≡ v.txn → IsWrong r fact
  fact_itself o at by same = subst (λ (f : Fact). IsWrong r f) (sym at) (
    (
      saw_value r v view list is i lt,
      subst (λ q. IsPutBy r q (get_or list i 0)) same
          (owner_puts r table owners (get_or list i 0) o by),
    ),
    itself r table owners v view list is i o lt by same,
  )

pub fact_unrepeatable : (r : Recording) (v w : RecordedView) → IsViewOf r v → IsViewOf r w → v.txn ≡ w.txn
    → v.key ≡ w.key
    → (list_of r w.span ≡ list_of r v.span → ⊥)
    → IsWrong r record { rule = Unrepeatable; txn = w.txn; key = w.key; value = None; by = None }
fact_unrepeatable r v w a b same_txn same_key ne =
    let P : ℕ → Type 0 = λ t. Saw r t w.key (list_of r v.span) in
    let Q : ℕ → Type 0 = λ k. Saw r v.txn k (list_of r v.span) in (
      (list_of r w.span, list_of r v.span, b.1, subst P same_txn (subst Q same_key a.1), ne),
      unrepeatable r v w a b same_txn same_key ne,
    )

pub fact_lost_update : (r : Recording) (v w : RecordedView) → ArePutOnce r → IsViewOf r v → IsViewOf r w
    → (v.txn ≡ w.txn → ⊥)
    → v.key ≡ w.key
    → list_of r v.span ≡ list_of r w.span → ((a : ℕ) × PutsIn (ops_of r v.txn) v.key a)
    → ((a : ℕ) × PutsIn (ops_of r w.txn) w.key a)
    → IsWrong r record { rule = LostUpdate; txn = w.txn; key = w.key; value = None; by = Some v.txn }
fact_lost_update r v w once a b ne same_key same puts_v puts_w =
    let P : List ℕ → Type 0 = λ q. Saw r v.txn w.key q in
    let Q : ℕ → Type 0 = λ k. Saw r v.txn k (list_of r v.span) in
    let R : ℕ → Type 0 = λ k. (q : ℕ) × PutsIn (ops_of r v.txn) k q in (
      (list_of r w.span, b.1, subst P same (subst Q same_key a.1), λ q. ne (sym q), puts_w, subst R same_key puts_v),
      lost_update r v w once a b ne same_key same puts_v puts_w,
    )

-- a read that no state explains
pub fact_internal : (r : Recording) (t p : ℕ) → IsInternal r t p
    → IsWrong r record { rule = Internal; txn = t; key = (op_at r t p).key; value = None; by = None }
fact_internal r t p is = ((p, is, refl), λ orders x e. internal_so r t p is orders x e)
