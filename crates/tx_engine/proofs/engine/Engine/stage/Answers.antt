use Rattle.std.proofs.Common.{◌≡◌, ◌≤◌, ℕ, nat_lt, true, List, length, slice_get, slice_index_or, Some, None, option_map, sym, ap, subst, ◌∙◌}
use Rattle.std.proofs.lemmas.Bool.{ltb-false, ltb-true}
use Rattle.std.proofs.lemmas.Option.{slice_get-get_or}
use Rattle.tx_transaction.specs.Sessions.{SessionState}
use Rattle.tx_engine.specs.declared.slots.SessionSlot.TheVariants.{Free, Live, Lent}
use Rattle.tx_engine.specs.Semantics.{live_at}
use Rattle.tx_engine.specs.Slots.{Held, SlotContent, texts, name_at, engine_state, AllSeated}
use Rattle.tx_engine.specs.Stages.{stage_at}
use Rattle.tx_ops.specs.Stages.{stage_of}
use Rattle.tx_engine.proofs.Engines.{named, no_name, no_place, is_free, is_live}
use Rattle.tx_engine.proofs.engine.Engine.stage.Goals as goal

no_stage : (e : Held) (name : List ℕ) → live_at (engine_state e) name ≡ None → stage_at (engine_state e) name ≡ None
no_stage e name none = ap (option_map (λ (x : ℕ × SessionState). stage_of x.1)) none

stage_is : (e : Held) (name : List ℕ) (k : ℕ) (s : SessionState) → live_at (engine_state e) name ≡ Some (k, s)
    → stage_at (engine_state e) name ≡ Some (stage_of s)
stage_is e name k s live = ap (option_map (λ (x : ℕ × SessionState). stage_of x.1)) live

-- what is at a place of the slots
found : (ps : List SlotContent) (k : ℕ) (x : SlotContent) → nat_lt k (length ps) ≡ true → x ≡ slice_index_or ps k x
    → slice_get ps k ≡ Some x
found ps k x lt is = slice_get-get_or ps k x (ltb-true k (length ps) lt) ∙ ap Some (sym is)

pub returns-in_err-k : goal.returns-in_err-k
returns-in_err-k g c =
    let s = c.self.inside in
    let name = c.args.name.now in
    let old : Held = record {
      network = s.direct.network;
      system_seat = s.system_seat;
      names = texts s.names.entries;
      slots = s.slots.items;
    } in
    let none : live_at (engine_state c.args.self.now) name ≡ None =
    subst (λ (e : Held). live_at (engine_state e) name ≡ None) c.self.view_is
    (no_name g.J.JournalId.bounds old name (named s.names name ∙ sym c.in_err-k.ensures.value)) in
    c.from_residual.ensures ∙ sym (no_stage c.args.self.now name none)

pub returns-in_err-session : goal.returns-in_err-session
returns-in_err-session g c =
    let s = c.self.inside in
    let name = c.args.name.now in
    let k = c.in_ok-k.field-0.now in
    let old : Held = record {
      network = s.direct.network;
      system_seat = s.system_seat;
      names = texts s.names.entries;
      slots = s.slots.items;
    } in
    let at : name_at old.names name ≡ Some k = named s.names name ∙ sym c.in_ok-k.ensures.value in
    let le : length old.slots ≤ k = subst (λ (ps : List SlotContent). length ps ≤ k) c.deref.ensures.value
    (ltb-false k (length c.deref.result.now) (sym c.in_err-session.ensures.lookup.0)) in
    let none : live_at (engine_state c.args.self.now) name ≡ None =
    subst (λ (e : Held). live_at (engine_state e) name ≡ None) c.self.view_is
    (no_place g.J.JournalId.bounds old name k at le) in
    c.from_residual-in_err-session.ensures ∙ sym (no_stage c.args.self.now name none)

pub returns-in-Live : goal.returns-in-Live
returns-in-Live g c =
    let s = c.self.inside in
    let name = c.args.name.now in
    let k = c.in_ok-k.field-0.now in
    let old : Held = record {
      network = s.direct.network;
      system_seat = s.system_seat;
      names = texts s.names.entries;
      slots = s.slots.items;
    } in
    let at : name_at old.names name ≡ Some k = named s.names name ∙ sym c.in_ok-k.ensures.value in
    let there : slice_get old.slots k ≡ Some (Live c.in-Live.session) = subst (λ (ps : List SlotContent). slice_get ps k
    ≡ Some (Live c.in-Live.session)) c.deref.ensures.value (found c.deref.result.now k c.in_ok-session.field-0.now
    (sym c.in_ok-session.ensures.lookup.0) c.in_ok-session.ensures.lookup.1 ∙ ap Some c.in-Live.is) in
    let live : live_at (engine_state c.args.self.now) name ≡ Some (k, c.in-Live.session.state) =
    subst (λ (e : Held). live_at (engine_state e) name ≡ Some (k, c.in-Live.session.state)) c.self.view_is
    (is_live g.J.JournalId.bounds old name k at c.in-Live.session there) in
    ap Some (c.of.ensures.stage ∙ ap stage_of c.transaction.ensures)
    ∙ sym (stage_is c.args.self.now name k c.in-Live.session.state live)

pub returns-in-Free : goal.returns-in-Free
returns-in-Free g c =
    let s = c.self.inside in
    let name = c.args.name.now in
    let k = c.in_ok-k.field-0.now in
    let old : Held = record {
      network = s.direct.network;
      system_seat = s.system_seat;
      names = texts s.names.entries;
      slots = s.slots.items;
    } in
    let at : name_at old.names name ≡ Some k = named s.names name ∙ sym c.in_ok-k.ensures.value in
    let there : slice_get old.slots k ≡ Some (Free c.in-Free.field-0) = subst (λ (ps : List SlotContent). slice_get ps k
    ≡ Some (Free c.in-Free.field-0)) c.deref.ensures.value (found c.deref.result.now k c.in_ok-session.field-0.now
    (sym c.in_ok-session.ensures.lookup.0) c.in_ok-session.ensures.lookup.1 ∙ ap Some c.in-Free.is) in
    let ready : AllSeated g.J.JournalId.bounds 0 old = subst (AllSeated g.J.JournalId.bounds 0) (sym c.self.view_is)
    c.requires.ready in
    let none : live_at (engine_state c.args.self.now) name ≡ None =
    subst (λ (e : Held). live_at (engine_state e) name ≡ None) c.self.view_is
    (is_free g.J.JournalId.bounds old name k at 0 (Free c.in-Free.field-0) there (λ live is. cc (is)) ready) in
    sym (no_stage c.args.self.now name none)

pub returns-in-Lent : goal.returns-in-Lent
returns-in-Lent g c =
    let s = c.self.inside in
    let name = c.args.name.now in
    let k = c.in_ok-k.field-0.now in
    let old : Held = record {
      network = s.direct.network;
      system_seat = s.system_seat;
      names = texts s.names.entries;
      slots = s.slots.items;
    } in
    let at : name_at old.names name ≡ Some k = named s.names name ∙ sym c.in_ok-k.ensures.value in
    let there : slice_get old.slots k ≡ Some (Lent) = subst (λ (ps : List SlotContent). slice_get ps k
    ≡ Some (Lent)) c.deref.ensures.value (found c.deref.result.now k c.in_ok-session.field-0.now
    (sym c.in_ok-session.ensures.lookup.0) c.in_ok-session.ensures.lookup.1 ∙ ap Some c.in-Lent.is) in
    let ready : AllSeated g.J.JournalId.bounds 0 old = subst (AllSeated g.J.JournalId.bounds 0) (sym c.self.view_is)
    c.requires.ready in
    let none : live_at (engine_state c.args.self.now) name ≡ None =
    subst (λ (e : Held). live_at (engine_state e) name ≡ None) c.self.view_is
    (is_free g.J.JournalId.bounds old name k at 0 (Lent) there (λ live is. cc (is)) ready) in
    sym (no_stage c.args.self.now name none)
