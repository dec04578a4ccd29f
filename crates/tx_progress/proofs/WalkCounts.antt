-- How walks that follow one another add up.
use Rattle.std.proofs.Common.{◌≤◌, ◌+◌, ◌-◌, ℕ, arith}
use Rattle.tx_transaction.specs.Returns.{Response}
use Rattle.tx_client.specs.Walks.{Walk, asks, grows, ends, then_walk}
use Rattle.tx_progress.specs.Requests.{AtMost}

-- at most m are at most n
pub at_most : {R : Type 0} (Comes : Response → Type 0) (m n : ℕ) (w : Walk R) → m ≤ n → AtMost Comes m w
    → AtMost Comes n w
at_most Comes m n (ends r) le few = tt
at_most Comes m n (grows more short) le few =
    (at_most Comes m n more le few.0, at_most Comes m n short le few.1)
at_most Comes m n (asks body more) le few =
    (omega (arith, le, few.0), λ c so. at_most Comes (m - 1) (n - 1) (more c) (omega (arith, le)) (few.1 c so))

-- one walk after another
pub few_then : {A B : Type 0} (Comes : Response → Type 0) (m n : ℕ) (w : Walk A) (next : A → Walk B)
    → AtMost Comes m w → ((r : A) → AtMost Comes n (next r)) → AtMost Comes (m + n) (then_walk w next)
few_then Comes m n (ends r) next few after = at_most Comes n (m + n) (next r) (omega arith) (after r)
few_then Comes m n (grows more short) next few after =
    (few_then Comes m n more next few.0 after, few_then Comes m n short next few.1 after)
few_then Comes m n (asks body more) next few after = (
  omega (arith, few.0),
  λ c so. at_most Comes ((m - 1) + n) ((m + n) - 1) (then_walk (more c) next) (omega (arith, few.0))
      (few_then Comes (m - 1) n (more c) next (few.1 c so) after),
)
