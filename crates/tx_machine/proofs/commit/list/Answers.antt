use Rattle.std.proofs.Common.{◌≡◌, ℕ, sym, ap, ◌∙◌, refl, Some, None, List, Option, cond}
use Rattle.std.specs.Ordering.{nat_cmp}
use Rattle.std.specs.BTreeMap as tree
use Rattle.std.specs.Map.{lookup}
use Rattle.tx_types.specs.declared.key.Key.{Key}
use Rattle.tx_machine.specs.declared.versions.Version.{Version}
use Rattle.tx_machine.specs.declared.versions.KeyHistory.{KeyHistory}
use Rattle.tx_machine.specs.Shown.{Index, history_of, versions_in, versions_of, insert_read_in}
use Rattle.tx_machine.specs.Representation.{version_in, version_of}
use Rattle.tx_machine.proofs.Commits.{taken_at, taken_same, put_at, on_err, put_first}
use Rattle.tx_machine.proofs.commit.list.Goals as goal

pub returns-in_err-insert-clause-same : goal.returns-in_err-insert-clause-same
returns-in_err-insert-clause-same c =
    let there : history_of c.args.index.now c.args.key.now ≡ Some c.in-Some.history.now =
    sym c.in-Some.ensures.value in
    let put : KeyHistory = record { versions = c.insert.new.self; insert_read = c.in-Some.history.now.insert_read } in
    let kept : (k : Key) (q : ℕ) → version_of (c.get_mut.follows.lender put) k q ≡ version_of c.args.index.now k q =
    λ k q. taken_same (λ (o : Option KeyHistory). version_in (versions_in o) q) (history_of c.args.index.now)
    (history_of (c.get_mut.follows.lender put)) c.args.key.now c.args.key.now (Some put) refl
    ((c.get_mut.follows.holds put).3 (rw there refl)).0
    (ap (λ (es : List (ℕ × Version)). lookup (tree.is_at (nat_cmp q)) es) c.in_err-insert.ensures.err
    ∙ sym (ap (λ (o : Option KeyHistory). version_in (versions_in o) q) there)) k in
    on_err _ _ kept

pub returns-in_err-insert-clause-reads : goal.returns-in_err-insert-clause-reads
returns-in_err-insert-clause-reads c =
    let there : history_of c.args.index.now c.args.key.now ≡ Some c.in-Some.history.now =
    sym c.in-Some.ensures.value in
    let put : KeyHistory = record { versions = c.insert.new.self; insert_read = c.in-Some.history.now.insert_read } in
    taken_same insert_read_in (history_of c.args.index.now) (history_of (c.get_mut.follows.lender put)) c.args.key.now
    c.args.key.now (Some put) refl ((c.get_mut.follows.holds put).3 (rw there refl)).0 (sym (ap insert_read_in there))

pub returns-in-Some-clause-ok : goal.returns-in-Some-clause-ok
returns-in-Some-clause-ok c =
    let there : history_of c.args.index.now c.args.key.now ≡ Some c.in-Some.history.now =
    sym c.in-Some.ensures.value in
    let put : KeyHistory = record { versions = c.insert.new.self; insert_read = c.in-Some.history.now.insert_read } in
    put_at (versions_of c.args.index.now) (versions_of (c.get_mut.follows.lender put)) c.args.key.now
    c.args.key.now (Some c.insert.new.self) c.args.c c.args.version refl
    (taken_at versions_in (history_of c.args.index.now) (history_of (c.get_mut.follows.lender put)) c.args.key.now
    (Some put) ((c.get_mut.follows.holds put).3 (rw there refl)).0)
    (λ q. c.in_ok-insert.ensures.updates.0 q
    ∙ ap (λ (o : Option KeyHistory). cond (tree.is_at (nat_cmp c.args.c) q) (Some c.args.version)
    (version_in (versions_in o) q)) (sym there))

pub returns-in-Some-clause-reads : goal.returns-in-Some-clause-reads
returns-in-Some-clause-reads c =
    let there : history_of c.args.index.now c.args.key.now ≡ Some c.in-Some.history.now =
    sym c.in-Some.ensures.value in
    let put : KeyHistory = record { versions = c.insert.new.self; insert_read = c.in-Some.history.now.insert_read } in
    taken_same insert_read_in (history_of c.args.index.now) (history_of (c.get_mut.follows.lender put)) c.args.key.now
    c.args.key.now (Some put) refl ((c.get_mut.follows.holds put).3 (rw there refl)).0 (sym (ap insert_read_in there))

pub returns-clause-ok : goal.returns-clause-ok
returns-clause-ok c =
    put_first (versions_of c.args.index.now) (versions_of c.get_mut.follows.lender-at-none)
    (versions_of c.insert-3.new.self) c.in_ok-clone.field-0 c.args.key.now (Some c.insert-2.new.self) c.args.c
    c.args.version
    (ap versions_of c.get_mut.follows.holds-at-none) c.in_ok-clone.ensures.ok
    (ap versions_in (sym c.in_default.ensures.value))
    (taken_at versions_in (history_of c.get_mut.follows.lender-at-none) (history_of c.insert-3.new.self)
    c.in_ok-clone.field-0 (Some record { versions = c.insert-2.new.self; insert_read = None })
    c.in_ok-insert-3.ensures.updates.0)
    (λ q. c.in_ok-insert-2.ensures.updates.0 q
    ∙ ap (λ (es : List (ℕ × Version)). cond (tree.is_at (nat_cmp c.args.c) q) (Some c.args.version)
    (lookup (tree.is_at (nat_cmp q)) es)) c.new-versions.ensures.empty)

pub returns-clause-reads : goal.returns-clause-reads
returns-clause-reads c k =
    taken_same insert_read_in (history_of c.get_mut.follows.lender-at-none) (history_of c.insert-3.new.self)
    c.in_ok-clone.field-0 c.args.key.now (Some record { versions = c.insert-2.new.self; insert_read = None })
    c.in_ok-clone.ensures.ok c.in_ok-insert-3.ensures.updates.0
    (sym (ap (λ (index : Index). insert_read_in (history_of index c.args.key.now)) c.get_mut.follows.holds-at-none
    ∙ ap insert_read_in (sym c.in_default.ensures.value))) k
    ∙ ap (λ (index : Index). insert_read_in (history_of index k)) c.get_mut.follows.holds-at-none
