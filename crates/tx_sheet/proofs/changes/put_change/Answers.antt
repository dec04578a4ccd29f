use Rattle.std.proofs.Common.{◌≡◌, ◌<◌, Bor, length, map, option_map, Option, sym, subst, inl, inr, arith}
use Rattle.std.specs.Prelude.{Any}
use Rattle.std.proofs.lemmas.List.{length-map}
use Rattle.tx_cells.specs.declared.copies.KeyVersions.{KeyVersions}
use Rattle.tx_sheet.specs.declared.row.Change.{Change}
use Rattle.tx_sheet.specs.Changes.{IsChange, IsTold, last_of}
use Rattle.tx_sheet.proofs.MoreChanges.{quiet_same, silent, told_more}
use Rattle.tx_sheet.proofs.changes.put_change.Goals as goal

abbrev now : Option (Bor KeyVersions) → Option KeyVersions
now s = option_map (λ (s : Bor KeyVersions). s.now) s

pub returns-then-said-last : goal.returns-then-said-last
returns-then-said-last c all these among h =
    silent (map now c.args.last.now) all these c.args.said.now c.args.changes.now.items h
    (λ lt. absurd (omega (arith, lt, c.if-said-last.true, length-map c.args.last.now now)))

pub returns-then-is_told : goal.returns-then-is_told
returns-then-is_told c all these among h =
    let there = rw c.as_slice.ensures.value at (c.is_told.ensures.0 c.if-is_told.true) in
    silent (map now c.args.last.now) all these c.args.said.now c.args.changes.now.items h (λ lt. inr there)

pub returns-then-is_none : goal.returns-then-is_none
returns-then-is_none c all these among h =
    let last = map now c.args.last.now in
    let is = rw (c.last_of.ensures, c.copy.ensures) at c.in_ok-change.ensures.is in
    silent last all these c.args.said.now c.args.changes.now.items h
    (λ lt. inl (quiet_same (last_of last c.args.said.now.key) c.args.said.now.shown c.in_ok-change.change is
    (c.is_none.ensures.0 c.if-is_none.true)))

pub returns : goal.returns
returns c all these among h =
    let last = map now c.args.last.now in
    let said = c.args.said.now in
    let old = c.args.changes.now.items in
    let found = c.in_ok-change.change in
    let change : Change = record found { value = c.in_ok-value.value } in
    let key : found.key ≡ said.key = c.in_ok-change.ensures.key in
    let is = rw (c.last_of.ensures, c.copy.ensures) at c.in_ok-change.ensures.is in
    let here = subst (λ k. IsChange (last_of last k) said.shown found) (sym key) is in
    let within : said.key < length last = omega (arith, c.if-said-last.false, length-map c.args.last.now now) in
    let told : IsTold last all change = record {
      shown = said;
      among = among;
      key = sym key;
      within = omega (arith, within, key);
      is = record { old_lock = here.old_lock; lock = here.lock; came = here.came; went = here.went };
      some = λ q. cc (c.is_none.ensures.1 q, c.if-is_none.false);
    } in
    let none : Any (λ (d : Change). d.key ≡ said.key) old → ⊥ =
    λ w. cc (c.is_told.ensures.1 (rw (← c.as_slice.ensures.value) at w), c.if-is_told.false) in
    rw c.in_ok-push.ensures.items (told_more last all these said old h change told key none)
