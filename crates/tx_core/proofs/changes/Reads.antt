-- Some keys are read at a timestamp.
use Rattle.std.proofs.Common.{◌≡◌, ℕ, ◌<◌, ◌≤◌, ◌⊎◌, inl, inr, Bool, ◌∷◌, Option, Some, IsTrue, sym, ap, subst, ◌∙◌, arith}
use Rattle.std.proofs.lemmas.Bool.{cases_Bool}
use Rattle.tx_types.specs.declared.key.Key.{Key}
use Rattle.tx_types.specs.declared.mutation.Mutation.{Mutation}
use Rattle.tx_types.specs.Keys.{IsVisible}
use Rattle.tx_machine.specs.Machine.{State, Open}
use Rattle.tx_plan.specs.Cells.{Lock}
use Rattle.tx_core.specs.Histories.{set_of, is_first}
use Rattle.tx_core.specs.Decisions.{Acceptance}
use Rattle.tx_core.proofs.Basics.{is_some}
use Rattle.tx_core.proofs.view.View.{View, Inv, Does, IsCommitted, IsAborted, LiesBelow, one_does}

-- the keys that pass the test are read at r
abbrev pub reading : View → (Key → Bool) → ℕ → View
reading w covers r = record w { reads = record { covers = covers; at = r } ∷ w.reads }

-- a read at r may pass by the locks of t: it is aborted, or committed above r, or may commit only
-- above r
abbrev pub Passes : (ℕ → State) → (ℕ → Key → Option Acceptance) → (ℕ → ℕ) → ℕ → ℕ → Type 0
Passes decided accepted shown r t = IsAborted decided t ⊎ ((c : ℕ) × IsCommitted decided t c × (r < c))
    ⊎ LiesBelow accepted shown t r

-- a read at r of these keys meets no lock that stops it
abbrev pub Unblocked : View → (Key → Bool) → ℕ → Type 0
Unblocked w covers r = (k : Key) (lock : Lock) → IsTrue (covers k) → (w.cells k).lock ≡ Some lock
    → IsVisible lock.mutation → (r < lock.min) ⊎ Passes w.decided w.accepted w.shown r lock.start

-- a read at most at the last number, that the region knows of, and that meets no lock
pub inv_read : (w : View) (covers : Key → Bool) (r : ℕ) → Inv w → r ≤ w.last
    → ((k : Key) → IsTrue (covers k) → r ≤ w.floor k) → Unblocked w covers r → Inv (reading w covers r)
inv_read w covers r i upto here free =
    record {
      clock = i.clock;
      marks = record {
        upto = λ k s read. elim read [ inl now ↦ omega (arith, now.1, upto) | inr before ↦ i.marks.upto k s before ];
        known = λ k s read. elim read [
          | inl now ↦ omega (arith, now.1, here k now.0)
          | inr before ↦ i.marks.known k s before
        ];
        low = i.marks.low;
      };
      acceptances = i.acceptances;
      keys = i.keys;
      commits = i.commits;
      checks = λ t k by e v ins. inr (i.checks t k by e v ins);
      unread = λ t k by e o m does v s read. elim read [
        | inl now ↦
            subst (λ n. LiesBelow w.accepted w.shown t n) now.1 (new t k by e o m does v now.0)
        | inr before ↦ i.unread t k by e o m does v s before
      ];
      shown = i.shown;
    }
  where
    new : (t : ℕ) (k : Key) (by : Acceptance) → w.accepted t k ≡ Some by → w.decided t ≡ Open → (m : Mutation)
        → Does w.declared t k m → IsVisible m → IsTrue (covers k) → LiesBelow w.accepted w.shown t r
    new t k by e o m does v inside =
        let own = (i.keys k).kept.held t (is_some (w.accepted t k) by e) o in
        let same : m ≡ own.lock.mutation =
        one_does w.declared t own.lock.start k m own.lock.mutation (sym own.own) does
        ((i.keys k).lock own.lock own.stands).does in
        let was : w.accepted own.lock.start k ≡ Some by = ap (λ n. w.accepted n k) own.own ∙ e in
        elim (free k own.lock inside own.stands (subst IsVisible same v)) [
          | inl below ↦ elim (cases_Bool (is_first (set_of (w.declared own.lock.start)) k)) [
            | inl f ↦ inr (omega (arith, below, ((i.keys k).lock own.lock own.stands).shows f, ap w.shown own.own))
            | inr f ↦ inl (
              k,
              by,
              e,
              omega (
                arith,
                below,
                ((i.keys k).lock own.lock own.stands).min f by was,
                (i.acceptances t k by e).bounded,
              ),
            )
          ]
          | inr pass ↦ elim pass [
            | inl gone ↦ absurd (cc (gone, o, own.own))
            | inr rest ↦ elim rest [
              | inl done ↦ absurd (cc (done.1, o, own.own))
              | inr low ↦ subst (λ n. LiesBelow w.accepted w.shown n r) own.own low
            ]
          ]
        ]
