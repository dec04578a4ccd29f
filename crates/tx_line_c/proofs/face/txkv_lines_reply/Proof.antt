-- `txkv_lines_reply` lends the place behind the pointer for one call, at the name that its ghost
-- data has, hands on where the reply is to be written, and has the place back.
use Rattle.std.proofs.Common.{◌≡◌, ◌⊎◌, ℕ, List, [], ◌∷◌, ◌++◌, refl, sym, ap, ◌∙◌, subst, w64, MutBor, length}
use mir.Syntax.{dnil, impl, tnil, named}
use mir.Raw.{raw as bare}
use mir.Val.{Val, vptr}
use base.Fraction.{full_share}
use base.Logic.{SProp, ent, emp, id⊢, fst∗, never}
use base.Fml.{ftrue, flft, flent}
use prog.Wp.{WpFn}
use types.Logic.{sem}
use types.SemTy.{Body}
use types.Kit.{‵, raw, ◌⊛◌, some, later, ◌$◌, ◌∵◌, !, qed, by, move, keep, drop, split, split3, join, fsplit, fjoin, pick, suffices, feq_l, use0, use1, use2, use3, await, rewrite}
use types.Tokens.{lft_new, lft_end}
use types.Run.{of_opd, addr, from, fld, hop, stop, no_more, and_then, returns, enter}
use types.ByLocal.{alloc_all, pass_all, free_all, look_at, look_in_at, get, get_in, through, sets, lands_as}
use contract.Monad.{fact, fact_i}
use contract.Running.{tables}
use denote.Exit.{yes, no}
use denote.Signature.{types_at, plain}
use denote.Builtin.{u8, u64}
use denote.Plain.{uint_Lawful}
use denote.RawPtr.{Ptr, RawPtr, ptr_val, null_ptr, in_a_block}
use denote.Ref.{MutRef}
use denote.Lend.{lends_ref, ref_back}
use denote.Memory.{mem, part_at}
use denote.Slice.{slice_val, mut_slice_vals, MutSlice}
use types.Part.{agg, whole, sub}
use denote.Laws.{Is, shows}
use denote.Steps.{nothing, heard, peeks}
use denote.Triple.Clauses.{Lasts, lasts}
use denote.Triple.Spec.{triple_of}
use denote.Triple.Call.{calls_at}
use denote.Triple.Table.{framed}
use denote.Triple.Walked.{Stays, stay_dropped, gave_slice, walk_of, Goes-dropped, Goes-gave_slice}
use Rattle.std.proofs.alloc.Calls.{Al, handle_tells}
use Rattle.std.proofs.raw_atomic.Walks.{proved_at, leaves}
use Rattle.std_heap.specs.contracts.Global as heap
use Rattle.std_heap.proofs.Global.TheLaws as heap_laws
use Rattle.std_heap.specs.contracts.GlobalAllocator.TheImpl.{ghosts, dict}
use Rattle.tx_line_c.specs.Handles.{owns_store, named as at_name, Held}
use Rattle.tx_line_store.specs.Lines.{said_text, laid_over}
use Rattle.tx_line_store.specs.contracts.store.LineStore as store
use Rattle.std.specs.contracts.marker.Brand as brand
use Rattle.std.proofs.marker.Brand.TheLaws as brand_laws
use contract.BorrowLft.{◌⊑◌, ⊑_static}
use denote.Param.{arg, layout}
use denote.Param.Laws.{arg_laws}
use denote.RattleType.{RattleType, owns}
use Rattle.tx_line_c.specs.contracts.store_calls.reply as g
use Rattle.tx_line_c.proofs.store_calls.reply.Met.{met}
use Rattle.tx_line_c.specs.contracts.face.txkv_lines_reply as f
use Rattle.tx_line_c.proofs.face.txkv_lines_reply.Statement.{statement}
use Rattle.tx_line_c.proofs.face.txkv_lines_reply.Code as code

abbrev stayed : Stays f.ended.signature.params f.ended.kept
stayed = (
  stay_dropped (plain (λ _. heap.the_row)) yes,
  (
    stay_dropped (plain (λ _. RawPtr)) yes,
    (
      gave_slice (0 ∷
          []) tt (plain (λ _. u8)),
      tt,
    ),
  ),
)

pub txkv_lines_reply_spec : {M : Type 1} → statement M
txkv_lines_reply_spec {M} 𝓤 𝓛 𝓜 𝓡 wired =
    let H = 𝓛.H in let 𝓣 = tables 𝓤 H 𝓜 𝓡 𝓡.env in let c = f.clauses 𝓛 𝓜.mem 𝓡.returns in
    let J = arg (bare (layout brand.the_row)) no brand.the_row in
    let LJ = arg_laws (bare (layout brand.the_row)) no brand.the_row brand_laws.the_row_laws refl in
    let jd = impl [] tnil dnil in
    let Z : Al = record {
      row = heap.the_row;
      laws = heap_laws.the_row_laws;
      g = ghosts;
      d = dict;
      drops = impl []
          tnil dnil;
    } in
    proved_at 𝓛 f.ended stayed c 𝓜 𝓡 (
      Goes-dropped 𝓛 1 (plain (λ _. heap.the_row)) yes (λ κs x w. refl),
      (Goes-dropped 𝓛 1 (plain (λ _. RawPtr)) yes (λ κs x w. refl), (Goes-gave_slice 𝓛 1 0 tt (plain (λ _. u8)), tt)),
    )
    f.Key.name code.function (code.unfolded 𝓤 H 𝓜 𝓡 wired) (λ z are.
    let κs = z.0.0 in let qs = z.0.1 in let a = z.0.3.0 in let p : Ptr = z.0.3.1.0 in let out = z.0.3.1.1.0 in
    let h₀ : Held = z.1 in let m = at_name h₀.name in let R : RattleType = store.the_row brand.the_row m in
    let G = triple_of 𝓛 (g.signature J m jd) (g.spec J m jd 𝓛 𝓜.mem 𝓡.returns) in let En = g.ended J m jd in
    let known = met 𝓤 𝓛 𝓜 𝓡 (code.calls-tx_line_c::store_calls::reply 𝓡.env wired) J LJ m jd (record {}) in
    let Post : Val → SProp 𝓤 = (walk_of 𝓛 f.ended stayed c).post z in
    let Run : List Val → SProp 𝓤 = λ ws. WpFn 𝓤 H 𝓣.C 𝓣.Λ code.function ws Post in
    qed 𝓛 (((‵ (flft κs.0 qs.0) ⊛ ‵ ftrue) ⊛ ‵ (owns (types_at f.ended.signature.params κs) z.0.3 z.0.4)) ∷
    ‵ (owns_store a p h₀) ∷ []) ∵
    split ! $ split ! $ move ! (2 ∷ []) $ fsplit ! $
    handle_tells Z ! a z.0.4.0 (λ hv eh fa. drop ! $ fsplit ! $ drop ! $ fsplit ! $ move ! (1 ∷ []) $ drop ! $
    move ! (3 ∷ []) $
    -- [the handle; out; its token; nothing]
    in_a_block {𝓤 = 𝓤} {𝓛 = 𝓛} ! p (λ q. owns_store a q h₀) (fst∗ 𝓤 (never 𝓤) (sem 𝓛 (ghosts.dealloc_token a (bare
    (layout R)) null_ptr))) (λ b o e. fsplit ! $
    -- [the store in its block; the right to free the block; out; its token; nothing]
    rewrite ! 2 (λ (vs : List Val). ‵ ((MutSlice (named 0) κs.0 u8).own_val out vs)) are.1.1.0.0.0 refl $
    let us = hv ∷ vptr b o ∷ slice_val out.ref_ptr (length out.now) ∷ [] in
    suffices ! (Run us) (subst (λ (ws : List Val). ent 𝓤 (Run us) (Run ws)) (sym (λ i. eh i ++ ((are.1.0 ∙ ap (λ (q :
    Ptr). ptr_val q ∷ []) e) i ++ (are.1.1.0.0.0 i ++ [])))) (id⊢ 𝓤 (Run us))) $
    enter ! 𝓣.C 𝓣.Λ code.function us Post $ alloc_all ! (λ l. pass_all ! refl (
      fa,
      (
        (tt, tt),
        (
          (
            tt,
            (
              tt,
              (record { fits = are.1.1.0.0.1.0 }, tt),
            ),
          ),
          tt,
        ),
      ),
    ) $
    sets ! (of_opd ! (get ! refl)) refl (tt, tt) $ sets ! (addr ! (through ! refl (stop !))) refl (tt, tt) $
    sets ! (addr ! (from ! (fld ! refl (hop ! (look_in_at ! 3 (sub ! 0 refl (whole !))) (stop !))))) refl (tt, tt) $
    sets ! (agg ! (and_then ! (get ! refl) (and_then ! (get_in ! (fld ! refl (stop !)) (sub ! 1 refl (whole !)))
    (no_more !)))) refl (tt, (tt, (record { fits = are.1.1.0.0.1.0 }, tt))) $
    lft_new ! tt (λ α. let κ = α ∷ [] in move ! (1 ∷ []) $
    use1 𝓛 (later (some (λ (γ : ℕ). ‵ ((MutRef (named 0) κ R).own_val (record {
      ref_ptr = (
        b,
        o,
      );
      ghost_name = γ;
      now = h₀.state;
    }) (vptr b o ∷ [])) ⊛ ‵ (flent κ (Body (mem R) b o γ)))))
    (lends_ref 𝓛 R (named 0) κ h₀.state b o) $ await ! tt $ pick ! (λ γ. split ! $
    -- [the loan; the way back; its token; the right to free the block; out; its token; nothing]
    let x : MutBor R.Denot = record { ref_ptr = (b, o); ghost_name = γ; now = h₀.state } in
    let y : G.Ghost = (
      (
        (κ, (κs.0, ([], tt))),
        (full_share, (qs.0, (full_share, tt))),
        (⊑_static κ, tt),
        (
          x,
          (
            out,
            tt,
          ),
        ),
        (vptr b o ∷ [], (mut_slice_vals out, tt)),
      ),
      tt,
    ) in
    nothing ! $ move ! (5 ∷ 0 ∷ []) $ fjoin ! $ move ! (1 ∷ 0 ∷ []) $ fjoin ! $
    nothing ! $ use0 𝓛 (‵ (flft [] full_share)) (𝓛.lfts.lft-nil full_share) $ join ! $ move ! (5 ∷ 0 ∷ []) $ join ! $
    move ! (3 ∷ 0 ∷ []) $ join ! $ join ! $
    nothing ! $ use0 𝓛 (raw (fact 𝓤 ([] ⊑ J.lives))) (fact_i 𝓤 ([] ⊑ J.lives) (emp 𝓤) (⊑_static [])) $ join ! $
    move ! (1 ∷ 0 ∷ []) $ use2 𝓛 (raw (G.pre y)) (id⊢ 𝓤 _) $
    calls_at ! (framed 𝓤 H 𝓜 𝓣) G known y (and_then ! (get ! refl) (and_then ! (get ! refl) (no_more !))) (λ v.
    let Told : List ℕ → ℕ → Type 0 = λ new r. ((r ≡ length (said_text h₀.state)) × (new ≡ laid_over (said_text
    h₀.state) out.now)) ⊎ ((r ≡ 0) × (new ≡ out.now)) in
    use1 𝓛 (later (some (λ (r : ℕ). ((‵ (flft κ full_share) ⊛ ‵ (flft κs.0 qs.0) ⊛ ‵ (flft [] full_share) ⊛
    ‵ ftrue) ⊛ ‵ (u64.own_val r (v ∷ []))) ⊛
    some (λ (ws : Lasts En y.0.0 y.0.3). ‵ (lasts En y.0.0 y.0.3 ws) ⊛ (raw (fact 𝓤 (ws.0 ≡ h₀.state)) ⊛
    raw (fact 𝓤 (Told ws.1.0 r))))))) (id⊢ 𝓤 (G.post y v)) $
    await ! tt $ pick ! (λ r. split ! $ split ! $ split3 ! $ move ! (2 ∷ []) $ split ! $
    -- [that of the name; nothing; the loan's token; out's token; the result; what holds; the way
    -- back; the right to free the block; nothing]
    move ! (2 ∷ []) $ lft_end ! tt $ move ! (5 ∷ []) $ pick ! (λ ws. split ! $ move ! (1 ∷ []) $ split ! $
    heard ! _ (λ same. heard ! _ (λ told.
    fsplit ! $ move ! (1 ∷ []) $ fsplit ! $ fsplit ! $ fsplit ! $ move ! (1 ∷ []) $ feq_l ! (λ as_long. fjoin ! $
    move ! (2 ∷ []) $ fsplit ! $
    -- [the loan's last value; its borrow; what out leaves; nothing; the lifetime is over; that of
    -- the name; nothing; out's token; the result; the way back; the right to free]
    move ! (4 ∷ 9 ∷ 0 ∷ []) $ use3 𝓛 (later (‵ (part_at R full_share ws.0 b o))) (ref_back 𝓛 R κ γ ws.0 b o) $
    await ! tt $
    move ! (7 ∷ []) $ peeks ! u64 (Is u64) (shows 𝓛 u64) r (v ∷
    []) (λ is. lands_as ! refl refl ((uint_Lawful 𝓛 w64).typed r (v ∷ []) is).0 $
    returns ! (look_at ! 0 refl) $ free_all ! refl $ keep ! (1 ∷ 8 ∷ 0 ∷ 3 ∷ 7 ∷ []) $
    -- [the store in its block; the right to free it; the result; what out leaves; its token]
    rewrite ! 0 (λ (s : R.Denot). ‵ (part_at R full_share s b o)) same refl $ fjoin ! $
    rewrite ! 0 (λ (q : Ptr). ‵ (owns_store a q h₀)) (sym e) refl $
    use0 𝓛 (raw (fact 𝓤 (Told ws.1.0 r))) (fact_i 𝓤 (Told ws.1.0 r) (emp 𝓤) told) $ move ! (1 ∷ 0 ∷ []) $ join ! $
    nothing ! $ move ! (3 ∷ 0 ∷ []) $ fjoin ! $ nothing ! $ fjoin ! $ nothing ! $ fjoin ! $
    nothing ! $ move ! (4 ∷ 0 ∷ []) $ join ! $ keep ! (0 ∷ 1 ∷ 3 ∷ 2 ∷ []) $
    by ! (leaves 𝓛 f.ended stayed c z v r (tt, (tt, (ws.1.0, tt))) (tt, (tt, (as_long, tt)))))))))))))))))
