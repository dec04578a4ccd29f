-- What views say of who committed when.
use Rattle.std.proofs.Common.{◌≡◌, ℕ, ◌+◌, ◌-◌, ◌<◌, List, [], length, take, drop, get_or, Contains, arith, inr, refl, sym, ap, ◌∙◌, subst, Option, Some}
use Rattle.std.proofs.lemmas.List.Elements.{Contains-get_or}
use Rattle.tx_recording.specs.declared.recording.Orders.{Orders}
use Rattle.tx_recording.specs.declared.recording.Recording.{Recording}
use Rattle.tx_recording.specs.Recordings.{list_of, ops_of, no_op}
use Rattle.tx_recording.specs.Explanations.{after, op_at, IsPut, Explanation, Sees, Explains}
use Rattle.tx_views.specs.declared.owner.Owner.{Owner}
use Rattle.tx_views.specs.declared.view.RecordedView.{RecordedView}
use Rattle.tx_views.specs.Owners.{AreOwners, owner_at}
use Rattle.tx_views.specs.Views.{Saw, IsViewOf}
use Rattle.tx_views.proofs.ValueOwners.{put_by_owner}
use Rattle.tx_verdict.specs.Facts.{SawValue, IsPutBy}
use Rattle.tx_verdict.specs.Reasons.{SawOf, HasCommitted}

-- what a view says its transaction saw, it saw
pub view_sees : (r : Recording) (orders : Orders) (x : Explanation) → Explains r orders x → (v : RecordedView)
    → IsViewOf r v
    → Sees r x v.key (x.start v.txn) (list_of r v.span)
view_sees r orders x e v (within, (p, span, (ok, act), of_key, iff)) =
    let (xs, sees, is) = e.reads v.txn p span ok act in
    let P : ℕ → Type 0 = λ k. (ys : List ℕ) × Sees r x k (x.start v.txn) ys
    × (list_of r span ≡ after (take p (ops_of r v.txn)) k ys) in
    let (ys, at, same) = subst P of_key (xs, sees, is) in
    subst (λ q. Sees r x v.key (x.start v.txn) q) ((iff ys).0 same) at

-- who put a value, by the table
pub owner_is : (r : Recording) (table : List (Option Owner)) (t k v : ℕ) (o : Owner) → AreOwners r table → IsPut r t k v
    → owner_at table v ≡ Some o → o.txn ≡ t
owner_is r table t k v o owners put at =
    let (p, also) = put_by_owner r table t k v owners put in
    let e : Some o ≡ Some record { txn = t; place = p } = sym at ∙ also in
    let same : o ≡ record { txn = t; place = p } = grind (arith, e) in
    ap (λ (q : Owner). q.txn) same

-- a value of a view was seen
pub saw_value : (r : Recording) (v : RecordedView) → IsViewOf r v → (list : List ℕ) → list ≡ list_of r v.span → (i : ℕ)
    → i < length list
    → SawValue r v.txn v.key (get_or list i 0)
saw_value r v view list is i lt =
    (list_of r v.span, view.1, subst (λ q. Contains q (get_or list i 0)) is (Contains-get_or list i 0 lt))

-- whom the table has for a value puts it
pub owner_puts : (r : Recording) (table : List (Option Owner)) → AreOwners r table → (v : ℕ) (o : Owner)
    → owner_at table v ≡ Some o
    → IsPutBy r o.txn v
owner_puts r table owners v o at =
    let (lt, puts) = owners.only v o at in (
      (op_at r o.txn o.place).key,
      (
        op_at r o.txn o.place,
        Contains-get_or (ops_of r o.txn) o.place no_op lt,
        refl,
        puts,
      ),
    )

-- what a view says was seen
pub view_saw : (r : Recording) (v : RecordedView) (list : List ℕ) (txn k : ℕ) → IsViewOf r v → v.txn ≡ txn → v.key ≡ k
    → list ≡ list_of r v.span
    → Saw r txn k list
view_saw r v list txn k view of_txn of_key is =
    let P : ℕ → Type 0 = λ q. Saw r q v.key (list_of r v.span) in
    let Q : ℕ → Type 0 = λ q. Saw r txn q (list_of r v.span) in
    let R : List ℕ → Type 0 = λ q. Saw r txn k q in
    subst R (sym is) (subst Q of_key (subst P of_txn view.1))

-- the view ends in a value of the writer
pub saw_of : (r : Recording) (table : List (Option Owner)) (v : RecordedView) (list : List ℕ) (txn k writer : ℕ)
    → AreOwners r table
    → IsViewOf r v → v.txn ≡ txn → v.key ≡ k → list ≡ list_of r v.span → (length list ≡ 0 → ⊥)
    → ((o : Owner) × (owner_at table (get_or list (length list - 1) 0) ≡ Some o) × (o.txn ≡ writer))
    → SawOf r txn k writer
saw_of r table v list txn k writer owners view of_txn of_key is some (o, at, by) = (
  list,
  view_saw r v list txn k view of_txn of_key is,
  omega (arith, some),
  subst (λ q. IsPutBy r q (get_or list (length list - 1) 0)) by
      (owner_puts r table owners (get_or list (length list - 1) 0) o at),
)

-- the view is empty
pub saw_nothing : (r : Recording) (v : RecordedView) (txn k : ℕ) → IsViewOf r v → v.txn ≡ txn → v.key ≡ k
    → v.span.count ≡ 0
    → Saw r txn k []
saw_nothing r v txn k view of_txn of_key none =
    let n : v.span.first + v.span.count - v.span.first ≡ 0 = omega (arith, none) in
    let empty : list_of r v.span ≡ [] = ap (λ q. take q (drop v.span.first r.elements.items)) n in
    view_saw r v [] txn k view of_txn of_key (sym empty)

-- who put a value that was seen has committed
pub shown_by : (r : Recording) (table : List (Option Owner)) (v : RecordedView) (list : List ℕ) (i txn : ℕ)
    → AreOwners r table
    → IsViewOf r v → list ≡ list_of r v.span → i < length list
    → ((o : Owner) × (owner_at table (get_or list i 0) ≡ Some o) × (o.txn ≡ txn))
    → HasCommitted r txn
shown_by r table v list i txn owners view is lt (o, at, by) = inr (
  v.txn,
  v.key,
  get_or list i 0,
  saw_value r v view list is i lt,
  subst (λ q. IsPutBy r q (get_or list i 0)) by (owner_puts r table owners (get_or list i 0) o at),
)

-- whom the table has for nobody nobody puts
pub nobody_puts : (r : Recording) (table : List (Option Owner)) → AreOwners r table → (v : ℕ)
    → ((o : Owner) → owner_at table v ≡ Some o → ⊥) → (u : ℕ) → IsPutBy r u v → ⊥
nobody_puts r table owners v none u (l, put) =
    let (p, at) = put_by_owner r table u l v owners put in
    none record { txn = u; place = p } at
