use Rattle.std.proofs.Common.{◌≡◌, ◌+◌, ◌-◌, ◌<◌, ◌≤◌, inr, ℕ, suc, List, [], ◌∷◌, ◌++◌, length, refl, sym, subst, arith}
use Rattle.serde_json.specs.Data.{Items}
use Rattle.tx_reply.specs.Replies.{reply_words}
use Rattle.tx_engine.specs.Slots.{own, engine_state}
use Rattle.tx_script.specs.Players.{PlayerState, HasPlayed, IsPlayer, IsFault, IsReplied, Traced}
use Rattle.tx_script.proofs.Players.{ready, goes_on, replies, faults, as_before, stays, rests, plays_on, stays_on, rests_on, on_err_any, traced_on, traced_still}
use Rattle.tx_script.proofs.player.Player.play.Goals as goal

pub play_line-requires : goal.play_line-requires
play_line-requires g c =
    let s = c.self.inside in
    let bounds = g.J.JournalId.bounds in
    let old : PlayerState = record { engine = s.engine; number = s.number; left = s.left } in
    let is : IsPlayer bounds old = subst (IsPlayer bounds) (sym c.self.view_is) c.requires in
    let some : 0 < s.left = omega (arith, c.if-self-eq0.false) in
    record { ready = ready bounds old is some }

-- want of memory: the engine is as it was
pub returns-in_err-reply-clause-player : goal.returns-in_err-reply-clause-player
returns-in_err-reply-clause-player g c =
    let s = c.self.inside in
    let bounds = g.J.JournalId.bounds in
    let old : PlayerState = record { engine = s.engine; number = s.number; left = s.left } in
    let new : PlayerState = record { engine = c.play_line.new.engine; number = s.number; left = s.left - 1 } in
    let is : IsPlayer bounds old = subst (IsPlayer bounds) (sym c.self.view_is) c.requires in
    rests_on bounds old new c.in_err-reply.ensures.same refl (omega arith) is

pub returns-in_err-reply-clause-breaks : goal.returns-in_err-reply-clause-breaks
returns-in_err-reply-clause-breaks g c =
    let s = c.self.inside in
    let bounds = g.J.JournalId.bounds in
    let old : PlayerState = record { engine = s.engine; number = s.number; left = s.left } in
    let new : PlayerState = record { engine = c.play_line.new.engine; number = s.number; left = s.left - 1 } in
    on_err_any _ c.from_residual.result (subst (λ (p : PlayerState). (lines : List (List ℕ)) (done : List (ℕ × Items))
    → HasPlayed bounds lines done p → HasPlayed bounds lines done new) c.self.view_is
    (rests bounds old new c.in_err-reply.ensures.same refl (omega arith)))

pub returns-in-Ok-clause-player : goal.returns-in-Ok-clause-player
returns-in-Ok-clause-player g c =
    let s = c.self.inside in
    let bounds = g.J.JournalId.bounds in
    let line = c.args.line.now in
    let reply = c.in-Ok.reply in
    let old : PlayerState = record { engine = s.engine; number = s.number; left = s.left } in
    let new : PlayerState = record { engine = c.play_line.new.engine; number = s.number + 1; left = s.left - 1 } in
    let tried : s.left ≡ suc (s.left - 1) = omega (arith, c.if-self-eq0.false) in
    let is : IsPlayer bounds old = subst (IsPlayer bounds) (sym c.self.view_is) c.requires in
    let turned = rw c.in-Ok.is at c.in_ok-reply.ensures.goes in
    let early = rw c.in-Ok.is at c.in_ok-reply.ensures.early in
    plays_on bounds line old new tried is reply refl early turned

pub returns-in-Ok-clause-plays : goal.returns-in-Ok-clause-plays
returns-in-Ok-clause-plays g c =
    let s = c.self.inside in
    let bounds = g.J.JournalId.bounds in
    let line = c.args.line.now in
    let reply = c.in-Ok.reply in
    let old : PlayerState = record { engine = s.engine; number = s.number; left = s.left } in
    let new : PlayerState = record { engine = c.play_line.new.engine; number = s.number + 1; left = s.left - 1 } in
    let tried : s.left ≡ suc (s.left - 1) = omega (arith, c.if-self-eq0.false) in
    let turned = rw c.in-Ok.is at c.in_ok-reply.ensures.goes in
    let early = rw c.in-Ok.is at c.in_ok-reply.ensures.early in
    subst (λ (p : PlayerState). (lines : List (List ℕ)) (done : List (ℕ × Items)) → HasPlayed bounds lines done p
    → HasPlayed bounds (lines ++ line ∷ []) (done ++ (s.number + 1, reply_words reply) ∷ []) new) c.self.view_is
    (λ lines done has. goes_on bounds line old new tried lines done has reply refl early turned)

pub returns-in-Ok-clause-replies : goal.returns-in-Ok-clause-replies
returns-in-Ok-clause-replies g c =
    let s = c.self.inside in
    let bounds = g.J.JournalId.bounds in
    let line = c.args.line.now in
    let old : PlayerState = record { engine = s.engine; number = s.number; left = s.left } in
    let new : PlayerState = record { engine = c.play_line.new.engine; number = s.number + 1; left = s.left - 1 } in
    let tried : s.left ≡ suc (s.left - 1) = omega (arith, c.if-self-eq0.false) in
    let is : IsPlayer bounds old = subst (IsPlayer bounds) (sym c.self.view_is) c.requires in
    let turned = rw c.in-Ok.is at c.in_ok-reply.ensures.goes in
    subst (λ (p : PlayerState). length new.engine.network.newest ≤ own new.engine
    → IsReplied bounds p line c.in-Ok.reply new) c.self.view_is
    (replies bounds line old new tried is c.in-Ok.reply turned)

pub returns-in-Err-clause-player : goal.returns-in-Err-clause-player
returns-in-Err-clause-player g c =
    let s = c.self.inside in
    let bounds = g.J.JournalId.bounds in
    let line = c.args.line.now in
    let old : PlayerState = record { engine = s.engine; number = s.number; left = s.left } in
    let new : PlayerState = record { engine = c.play_line.new.engine; number = s.number; left = s.left - 1 } in
    let tried : s.left ≡ suc (s.left - 1) = omega (arith, c.if-self-eq0.false) in
    let is : IsPlayer bounds old = subst (IsPlayer bounds) (sym c.self.view_is) c.requires in
    let turned = rw c.in-Err.is at c.in_ok-reply.ensures.goes in
    stays_on bounds line old new tried is c.in-Err.cause refl turned

pub returns-in-Err-clause-stays : goal.returns-in-Err-clause-stays
returns-in-Err-clause-stays g c =
    let s = c.self.inside in
    let bounds = g.J.JournalId.bounds in
    let line = c.args.line.now in
    let old : PlayerState = record { engine = s.engine; number = s.number; left = s.left } in
    let new : PlayerState = record { engine = c.play_line.new.engine; number = s.number; left = s.left - 1 } in
    let tried : s.left ≡ suc (s.left - 1) = omega (arith, c.if-self-eq0.false) in
    let turned = rw c.in-Err.is at c.in_ok-reply.ensures.goes in
    subst (λ (p : PlayerState). (lines : List (List ℕ)) (done : List (ℕ × Items)) → HasPlayed bounds lines done p
    → HasPlayed bounds lines done new) c.self.view_is
    (λ lines done has. stays bounds line old new tried lines done has c.in-Err.cause refl turned)

pub returns-in-Err-clause-as_before : goal.returns-in-Err-clause-as_before
returns-in-Err-clause-as_before g c =
    let s = c.self.inside in
    let bounds = g.J.JournalId.bounds in
    let line = c.args.line.now in
    let old : PlayerState = record { engine = s.engine; number = s.number; left = s.left } in
    let new : PlayerState = record { engine = c.play_line.new.engine; number = s.number; left = s.left - 1 } in
    let tried : s.left ≡ suc (s.left - 1) = omega (arith, c.if-self-eq0.false) in
    let is : IsPlayer bounds old = subst (IsPlayer bounds) (sym c.self.view_is) c.requires in
    let turned = rw c.in-Err.is at c.in_ok-reply.ensures.goes in
    subst (λ (p : PlayerState). (new.number ≡ p.number) × (length new.engine.network.newest ≤ own new.engine
    → engine_state new.engine ≡ engine_state p.engine)) c.self.view_is
    (refl, as_before bounds line old new tried is c.in-Err.cause turned)

pub returns-in-Err-clause-faults : goal.returns-in-Err-clause-faults
returns-in-Err-clause-faults g c =
    let s = c.self.inside in
    let bounds = g.J.JournalId.bounds in
    let line = c.args.line.now in
    let old : PlayerState = record { engine = s.engine; number = s.number; left = s.left } in
    let new : PlayerState = record { engine = c.play_line.new.engine; number = s.number; left = s.left - 1 } in
    let tried : s.left ≡ suc (s.left - 1) = omega (arith, c.if-self-eq0.false) in
    let is : IsPlayer bounds old = subst (IsPlayer bounds) (sym c.self.view_is) c.requires in
    let turned = rw c.in-Err.is at c.in_ok-reply.ensures.goes in
    inr (subst (λ (p : PlayerState). length new.engine.network.newest ≤ own new.engine
    → IsFault bounds p line c.in-Err.cause) c.self.view_is
    (faults bounds line old new tried is c.in-Err.cause turned))

pub returns-in-Ok-clause-traced : goal.returns-in-Ok-clause-traced
returns-in-Ok-clause-traced g c =
    let s = c.self.inside in
    let bounds = g.J.JournalId.bounds in
    let line = c.args.line.now in
    let old : PlayerState = record { engine = s.engine; number = s.number; left = s.left } in
    let new : PlayerState = record { engine = c.play_line.new.engine; number = s.number + 1; left = s.left - 1 } in
    let tried : s.left ≡ suc (s.left - 1) = omega (arith, c.if-self-eq0.false) in
    let is : IsPlayer bounds old = subst (IsPlayer bounds) (sym c.self.view_is) c.requires in
    subst (λ (p : PlayerState). Traced bounds p new) c.self.view_is
    (traced_on bounds line old new tried is _ c.in_ok-reply.ensures.goes)

pub returns-in-Err-clause-traced : goal.returns-in-Err-clause-traced
returns-in-Err-clause-traced g c =
    let s = c.self.inside in
    let bounds = g.J.JournalId.bounds in
    let line = c.args.line.now in
    let old : PlayerState = record { engine = s.engine; number = s.number; left = s.left } in
    let new : PlayerState = record { engine = c.play_line.new.engine; number = s.number; left = s.left - 1 } in
    let tried : s.left ≡ suc (s.left - 1) = omega (arith, c.if-self-eq0.false) in
    let is : IsPlayer bounds old = subst (IsPlayer bounds) (sym c.self.view_is) c.requires in
    subst (λ (p : PlayerState). Traced bounds p new) c.self.view_is
    (traced_on bounds line old new tried is _ c.in_ok-reply.ensures.goes)

pub returns-in_err-reply-clause-traced : goal.returns-in_err-reply-clause-traced
returns-in_err-reply-clause-traced g c =
    let s = c.self.inside in
    let bounds = g.J.JournalId.bounds in
    let old : PlayerState = record { engine = s.engine; number = s.number; left = s.left } in
    let new : PlayerState = record { engine = c.play_line.new.engine; number = s.number; left = s.left - 1 } in
    subst (λ (p : PlayerState). Traced bounds p new) c.self.view_is
    (traced_still bounds old new c.in_err-reply.ensures.same)
