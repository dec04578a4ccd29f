-- The words of the histories: two keys, a value, what transactions declare, and what is asked.
use Rattle.std.proofs.Common.{ℕ, true, Bool, List, [], ◌∷◌, None}
use Rattle.tx_types.specs.declared.key.Key.{Key}
use Rattle.tx_types.specs.declared.value.Value.{Value}
use Rattle.tx_types.specs.declared.mutation.Change.{Change}
use Rattle.tx_types.specs.declared.mutation.Mutation.{Mutation}
use Rattle.tx_types.specs.declared.mutation.Mutation.TheVariants.{Put}
use Rattle.tx_types.specs.declared.mutation.Mode.TheVariants as mode
use Rattle.tx_types.specs.declared.mutation.Fate.{Fate}
use Rattle.tx_plan.specs.declared.body.Body.{Body}
use Rattle.tx_plan.specs.declared.body.Body.TheVariants as body
use Rattle.tx_plan.specs.declared.body.Prewrite.{Prewrite}
use Rattle.tx_plan.specs.declared.answer.Answer.{Answer}
use Rattle.tx_core.specs.declared.event.Declaration.{Declaration}
use Rattle.tx_core.specs.declared.event.Taken.{Taken}
use Rattle.tx_core.specs.declared.event.Event.TheVariants.{Drawn, Began, Declared, Took}
use Rattle.tx_core.specs.Histories.{History, last}
use Rattle.tx_core.specs.Allowed.{listed_on, floor_of}

abbrev pub a : Key
a = 97 ∷ []

abbrev pub b : Key
b = 98 ∷ []

abbrev pub x : Value
x = 120 ∷ []

-- ---- what transactions declare

-- the set of one key, and of two that are put
abbrev pub only : Key → Mutation → List Change
only k m = record { key = k; mutation = m } ∷ []

abbrev pub both : List Change
both = record { key = a; mutation = Put x } ∷ record { key = b; mutation = Put x } ∷ []

-- a transaction that starts at t, and drew p for its declaration
abbrev pub async : ℕ → ℕ → List Change → Declaration
async t p set = record { start = t; changes = set; mode = mode.Async; ttl = 10; max_commit = None; drawn = p }

abbrev pub two_phase : ℕ → ℕ → List Change → Declaration
two_phase t p set = record { start = t; changes = set; mode = mode.TwoPhase; ttl = 10; max_commit = None; drawn = p }

-- a seat begins it
abbrev pub starts : ℕ → ℕ → History → History
starts seat t h = Began t ∷ Drawn seat t ∷ h

-- a seat begins and declares it
abbrev pub begins : ℕ → Declaration → History → History
begins seat d h = Declared d ∷ Drawn seat d.drawn ∷ starts seat d.start h

-- the first transaction puts a, in either mode; or it puts both keys
abbrev pub async_a : Declaration
async_a = async 1 2 (only a (Put x))

abbrev pub two_phase_a : Declaration
two_phase_a = two_phase 1 2 (only a (Put x))

-- ---- what is asked

-- the only region takes a request of a seat that has loaded the last number
abbrev pub asks : History → Body → Answer → Taken
asks h q answer = record { region = 0; body = q; loaded = last h; answer = answer }

abbrev pub took : Body → Answer → History → History
took q answer h = Took (asks h q answer) ∷ h

abbrev pub primary_of : List Change → Key
primary_of [] = []
primary_of (c ∷ cs) = c.key

-- a prewrite that says what was declared
abbrev pub says : Declaration → Key → Mutation → Prewrite
says d k m = record {
  key = k;
  mutation = m;
  start = d.start;
  primary = primary_of d.changes;
  mode = d.mode;
  max_commit = d.max_commit;
  floor = floor_of d;
  ttl = d.ttl;
  others = listed_on d k;
}

abbrev pub prewrites : Declaration → Key → Body
prewrites d k = body.Prewrite (says d k (Put x))

abbrev pub commits : Key → ℕ → ℕ → Body
commits k t c = body.Commit record { key = k; start = t; commit = c }

abbrev pub rolls_back : Key → ℕ → Body
rolls_back k t = body.BatchRollback record { key = k; start = t }

-- a check of a primary by a reader at `caller`, with a clock at which locks are over or are not
abbrev pub checks : Key → ℕ → ℕ → ℕ → Bool → Body
checks k t caller current forced = body.CheckTxnStatus record {
  key = k;
  start = t;
  caller = caller;
  current = current;
  rollback_if_not_exist = true;
  force_sync_commit = forced;
}

abbrev pub checks_secondary : Key → ℕ → Body
checks_secondary k t = body.CheckSecondaryLocks record { key = k; start = t }

abbrev pub resolves : Key → ℕ → Fate → Body
resolves k t fate = body.ResolveLock record { key = k; start = t; fate = fate }

abbrev pub gets : Key → ℕ → List ℕ → Body
gets k r bypass = body.Get record { key = k; at = r; bypass = bypass }

-- a scan from a up to b, which covers a
abbrev pub scans : ℕ → Body
scans r = body.Scan record { from = a; to = b; at = r; limit = 2; bypass = [] }

abbrev pub raises : ℕ → Body
raises n = body.RaiseSafe record { region = 0; safe = n }

abbrev pub collects : ℕ → Body
collects n = body.Collect record { region = 0; safe = n }
