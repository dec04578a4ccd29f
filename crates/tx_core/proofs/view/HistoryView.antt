-- What a history says, as a view.
use Rattle.std.proofs.Common.{◌≡◌, ℕ, ◌==◌, ◌&&◌, inl, inr, cond, List, [], ◌∷◌, Option, Some, None, bytes_eq, refl, arith}
use Rattle.tx_types.specs.declared.key.Key.{Key}
use Rattle.tx_types.specs.declared.mutation.Change.{Change}
use Rattle.tx_machine.specs.Machine.{Reading}
use Rattle.tx_core.specs.declared.event.Declaration.{Declaration}
use Rattle.tx_core.specs.Histories.{is_first}
use Rattle.tx_core.specs.Decisions.{Puts}
use Rattle.tx_core.proofs.view.View.{View, Inv}
use Rattle.tx_plan.specs.declared.body.Body.{Body}
use Rattle.tx_plan.specs.declared.body.Body.TheVariants as body
use Rattle.tx_plan.specs.declared.answer.Answer.{Answer}
use Rattle.tx_plan.specs.declared.answer.Answer.TheVariants.{Found, Nothing, Rows, Locked}
use Rattle.tx_core.specs.declared.event.Event.TheVariants.{Drawn, Began, Declared, Took}
use Rattle.tx_core.specs.Histories.{History, last, drawer, began, declared, set_at, left}
use Rattle.tx_core.specs.Decisions.{Effect, Settles, RollsBack, NoEffect, effect_in, accepted, decided}
use Rattle.tx_core.specs.Worlds.{route}
use Rattle.tx_plan.specs.cases.Prewrite.{check_by}
use Rattle.tx_core.specs.Truth.{scan_read}
use Rattle.tx_machine.specs.Keys.{covered}
use Rattle.tx_core.proofs.changes.Draws.{drawing}
use Rattle.tx_core.proofs.changes.Begins.{beginning}
use Rattle.tx_core.proofs.changes.Declarations.{declaring}
use Rattle.tx_core.proofs.view.Tables.{Sound}
use Rattle.tx_core.proofs.view.Ends.{Ends}

-- the reads that were answered
abbrev pub reads_by : Body → Answer → List Reading → List Reading
reads_by (body.Get b) (Found v) before = record { covers = bytes_eq b.key; at = b.at } ∷ before
reads_by (body.Get b) Nothing before = record { covers = bytes_eq b.key; at = b.at } ∷ before
reads_by (body.Scan b) (Rows rows) before = record { covers = covered (scan_read b rows); at = b.at } ∷ before
reads_by _ _ before = before

-- and those of inserts whose check passed
abbrev pub noted : Key → Option ℕ → List Reading → List Reading
noted k None before = before
noted k (Some at) before = record { covers = bytes_eq k; at = at } ∷ before

abbrev pub checks_by : Body → Effect → List Reading → List Reading
checks_by (body.Prewrite b) (Puts key lock) before = noted b.key (check_by b.mutation b.start) before
checks_by _ _ before = before

-- all of them, newest first
abbrev pub reads_in : History → List Reading
reads_in [] = []
reads_in (Took x ∷ h) = checks_by x.body (effect_in h x) (reads_by x.body x.answer (reads_in h))
reads_in (_ ∷ h) = reads_in h

-- the greatest minimum that the lock of a transaction on its primary has had: the one that it was
-- put with, or that it was pushed to
abbrev pub shown_put : List Change → Effect → ℕ → ℕ → ℕ
shown_put set (Puts key lock) t before = cond ((lock.start == t) && is_first set key) lock.min before
shown_put set (Settles key u c) t before = before
shown_put set (RollsBack u) t before = before
shown_put set NoEffect t before = before

-- a check of a transaction's status tells of its lock on its primary, with the minimum
-- that it has then
abbrev pub shown_told : Body → Answer → ℕ → ℕ → ℕ
shown_told (body.CheckTxnStatus b) (Locked info) t before = cond (b.start == t) info.min before
shown_told _ _ t before = before

-- the greatest minimum of each transaction
abbrev pub shown_in : History → ℕ → ℕ
shown_in [] t = 0
shown_in (Took x ∷ h) t = shown_told x.body x.answer t (shown_put (set_at h t) (effect_in h x) t (shown_in h t))
shown_in (_ ∷ h) t = shown_in h t

-- what stands on a key: in the region that it lies in
abbrev pub view : List Key → History → View
view bounds h =
    record {
      last = last h;
      drawer = drawer h;
      began = began h;
      declared = declared h;
      decided = decided h;
      accepted = accepted h;
      reads = reads_in h;
      shown = shown_in h;
      floor = λ k. (left h (route bounds k)).max_read;
      safe = λ k. (left h (route bounds k)).safe;
      collected = λ k. (left h (route bounds k)).collected;
      cells = λ k. (left h (route bounds k)).cells k;
    }

-- ---- events that no region takes change the view as the changes say

pub view_drawn : (bounds : List Key) (h : History) (seat n : ℕ)
    → ◌≡◌ {A = View} (view bounds (Drawn seat n ∷ h)) (drawing (view bounds h) seat n)
view_drawn bounds h seat n = refl

pub view_began : (bounds : List Key) (h : History) (t : ℕ)
    → ◌≡◌ {A = View} (view bounds (Began t ∷ h)) (beginning (view bounds h) t)
view_began bounds h t = refl

pub view_declared : (bounds : List Key) (h : History) (d : Declaration)
    → ◌≡◌ {A = View} (view bounds (Declared d ∷ h)) (declaring (view bounds h) d)
view_declared bounds h d = refl

-- ---- at first

-- nothing is said, so all holds
pub inv_first : (bounds : List Key) → Inv (view bounds [])
inv_first bounds =
    record {
      clock = record {
        drawn = λ t some. absurd (some refl);
        begun = λ t e. absurd (cc (e));
        declares =
            λ t some. absurd (some refl);
        decides = λ t some. absurd (some refl);
      };
      marks = record { upto = λ k r e. absurd e; known = λ k r e. absurd e; low = λ k. omega arith };
      acceptances = λ t k by e. absurd (cc (e));
      keys = λ k. record {
        lock = λ lock e. absurd (cc (e));
        alone = λ lock e. absurd (cc (e));
        records = record {
          committed = λ c rec e. absurd (cc (e));
          does = λ c rec e. absurd (cc (e));
          rolled = λ t own. elim own [ inl e ↦ absurd (cc (e)) | inr x ↦ absurd (cc (x.1.stands)) ];
          newest = λ q rec e. absurd (cc (e));
        };
        kept = record {
          complete = λ u d m e. absurd (cc (e));
          held = λ t some. absurd (some refl);
          cleared =
              λ t some. absurd (some refl);
        };
      };
      commits = λ t c e. absurd (cc (e));
      unread = λ t k by e. absurd (cc (e));
      checks = λ t k by e. absurd (cc (e));
      shown = record { undeclared = λ t e. refl; none = λ t k f e. refl; first = λ t k by f e. absurd (cc (e)) };
    }

pub sound_first : (bounds : List Key) → Sound [] (view bounds [])
sound_first bounds =
    record {
      inv = inv_first bounds;
      shows = record { row = λ t. refl; last = refl; drawn = λ t some. absurd (some refl); reads = λ k r e. absurd e };
      run = tt;
    }

pub ends_first : (bounds : List Key) → Ends (view bounds [])
ends_first bounds =
    record {
      all_async = λ t c e. absurd (cc (e));
      first_settled = λ t c k lock e. absurd (cc (e));
      aborted = λ t e. absurd (cc (e));
    }
