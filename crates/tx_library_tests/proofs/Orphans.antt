-- A transaction of no session may declare two keys.
use Rattle.std.proofs.Common.{◌≡◌, ℕ, true, false, inl, inr, cond, List, ◌∷◌, Some, None, bytes_eq, refl, sym, ap, subst}
use Rattle.tx_types.specs.declared.key.Key.{Key}
use Rattle.tx_types.specs.declared.mutation.Mutation.TheVariants.{Delete}
use Rattle.tx_machine.specs.Keys.{IsDistinct}
use Rattle.tx_core.specs.declared.event.Event.TheVariants.{Drawn, Began, Declared}
use Rattle.tx_core.specs.Histories.{History, drawer, began, declared, answered, Begins}
use Rattle.tx_core.specs.Recording.{MayRecord}
use Rattle.tx_core.specs.Worlds.{IsWorldRun}
use Rattle.tx_core.proofs.seats.Beginnings.{begins_all, extends_begins}
use Rattle.tx_core.proofs.seats.Recording.{undeclared_on, unanswered_on, may_declare}
use Rattle.tx_core.proofs.seats.Stays.{began_on, drawer_on}
use Rattle.tx_journal.specs.Known.{HasRecorded, HasDrawn}
use Rattle.tx_client.proofs.Events.{began_ok}
use Rattle.tx_library_tests.specs.Orphan.{both_of}

module _ (bounds : List Key) (i t p : ℕ) (first second : Key) where
  distinct : bytes_eq second first ≡ false → IsDistinct (both_of t p first second).changes
  distinct differ = (ap (λ b. cond b (Some Delete) None) differ, (refl, tt))

  pub may_declare_both : bytes_eq second first ≡ false → (old mid new newer : History) → HasDrawn bounds i old 1 t mid
      → HasRecorded bounds i mid (Began t) new → HasDrawn bounds i new 1 p newer
      → MayRecord bounds i newer (Declared (both_of t p first second))
  may_declare_both differ old mid new newer drew recorded placed =
      let is = began_ok bounds i t old mid new drew recorded in
      let run : IsWorldRun bounds (Drawn i p ∷ placed.before) = subst (IsWorldRun bounds) placed.is placed.run in
      let on : Begins new placed.before = extends_begins i new placed.before placed.extends in
      let by : drawer placed.before t ≡ Some i = drawer_on bounds new placed.before run.0 on t i is.drew_start in
      let begun : began placed.before t ≡ true = began_on new placed.before on t is.begun in
      let fresh : answered placed.before t ≡ false =
      unanswered_on bounds i t new placed.before run.0 placed.extends is.drew_start is.unanswered in
      let still : declared placed.before t ≡ None =
      undeclared_on bounds i t new placed.before run.0 placed.extends is.drew_start is.stands in
      subst (λ h. MayRecord bounds i h (Declared (both_of t p first second))) (sym placed.is)
      (may_declare bounds i (Drawn i p ∷ placed.before) (both_of t p first second) (drawer_on bounds placed.before
      (Drawn i p ∷ placed.before) run (inr (begins_all placed.before)) t i by) begun fresh still (λ none. cc (none))
      (distinct differ) (inl (refl, begun, by)))
