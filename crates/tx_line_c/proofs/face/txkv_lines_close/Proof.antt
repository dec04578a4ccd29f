-- `txkv_lines_close` takes the box back from the pointer, at the name that its ghost data has, and
-- ends the store in it.
use Rattle.std.proofs.Common.{◌≡◌, ◌+◌, ℕ, length, List, [], ◌∷◌, ◌++◌, refl, sym, ap, subst}
use mir.Syntax.{impl, tcons, tnil, dnil}
use mir.Val.{Val, vunit}
use mir.Raw.{raw as bare}
use base.Fraction.{full_share}
use base.Logic.{SProp, ent, emp, id⊢}
use base.Fml.{Lft, ftrue, flft}
use prog.Wp.{WpFn}
use types.Kit.{‵, raw, ◌⊛◌, some, later, ◌$◌, ◌∵◌, !, qed, by, move, drop, split, split3, join, fsplit, fjoin, fjoin3, pick, suffices, use0, use1, use2, await, feq_i, feq_l}
use types.Run.{of_opd, unit_lit, no_more, and_then, returns, enter}
use types.ByLocal.{alloc_all, pass_all, free_all, look_at, get, sets, lands_as}
use contract.Monad.{fact, fact_i}
use contract.BorrowLft.{◌⊑◌, ⊑_static}
use contract.Running.{tables}
use denote.Exit.{yes, no}
use denote.RattleType.{RattleType, owns}
use denote.Signature.{types_at, plain}
use denote.Builtin.{unit}
use denote.RawPtr.{Ptr, RawPtr, ptr_val, rawptr_Lawful}
use denote.Laws.{Is, shows}
use denote.Steps.{nothing, only, peeks, heard}
use denote.Param.{arg, layout}
use denote.Param.Laws.{arg_laws}
use denote.Param.NoDrop.{glues}
use denote.Triple.Clauses.{Lasts, lasts}
use denote.Triple.Spec.{triple_of}
use denote.Triple.Call.{calls_at}
use denote.Triple.Walked.{Stays, stay_dropped, walk_of, Goes-dropped}
use Rattle.std.proofs.alloc.Calls.{handle_tells}
use denote.Triple.Table.{framed}
use Rattle.std.proofs.raw_atomic.Walks.{proved_at, leaves}
use Rattle.std_alloc.proofs.BoxSteps.Form as box
use Rattle.std_alloc.proofs.boxed.Box.TheLaws as box_laws
use Rattle.std_alloc.specs.contracts.boxed.Box.from_raw as take
use Rattle.std_alloc.proofs.boxed.Box.from_raw.Met as take_met
use Rattle.std_heap.specs.contracts.Global as heap
use Rattle.std_heap.proofs.Global.TheLaws as heap_laws
use Rattle.std_heap.specs.contracts.GlobalAllocator.TheImpl.{ghosts, dict}
use Rattle.std_heap.proofs.GlobalAllocator.TheImpl.Met.{passed}
use Rattle.std.specs.contracts.marker.Brand as brand
use Rattle.std.proofs.marker.Brand.TheLaws as brand_laws
use Rattle.tx_line_c.specs.Handles.{named as at_name, Held, owns_store, IsHeld}
use Rattle.serde_json.specs.Data.{Items}
use Rattle.tx_script.specs.Players.{IsPlayer, HasPlayed, EndWellWith}
use Rattle.tx_types.specs.declared.limits.TheConstants.{MAX_LIVE_SESSIONS}
use Rattle.tx_line_store.specs.contracts.store.LineStore as store
use Rattle.tx_line_store.proofs.store.LineStore.TheLaws as store_laws
use Rattle.tx_line_c.specs.contracts.store_calls.end as end
use Rattle.tx_line_c.proofs.store_calls.end.Met as end_met
use Rattle.tx_line_c.specs.contracts.face.txkv_lines_close as f
use Rattle.tx_line_c.proofs.face.txkv_lines_close.Statement.{statement}
use Rattle.tx_line_c.proofs.face.txkv_lines_close.Code as code

abbrev stayed : Stays f.ended.signature.params f.ended.kept
stayed = (stay_dropped (plain (λ _. heap.the_row)) yes, (stay_dropped (plain (λ _. RawPtr)) yes, tt))

-- the types as the call of `from_raw` passes them: their layouts without names
abbrev Z : RattleType
Z = arg (bare (layout heap.the_row)) no heap.the_row

pub txkv_lines_close_spec : {M : Type 1} → statement M
unfolding Rattle.tx_line_c.proofs.Destruct++none.drop.Code.code
txkv_lines_close_spec {M} 𝓤 𝓛 𝓜 𝓡 wired =
    let H = 𝓛.H in let 𝓣 = tables 𝓤 H 𝓜 𝓡 𝓡.env in let c = f.clauses 𝓛 𝓜.mem 𝓡.returns in
    proved_at 𝓛 f.ended stayed c 𝓜 𝓡 (
      Goes-dropped 𝓛 0 (plain (λ _. heap.the_row)) yes (λ κs x w. refl),
      (Goes-dropped 𝓛 0 (plain (λ _. RawPtr)) yes (λ κs x w. refl), tt),
    )
    f.Key.name code.function (code.unfolded 𝓤 H 𝓜 𝓡 wired) (λ z are.
    let J = arg (bare (layout brand.the_row)) no brand.the_row in
    let LJ = arg_laws (bare (layout brand.the_row)) no brand.the_row brand_laws.the_row_laws refl in
    let jd = impl [] tnil dnil in
    let h₀ : Held = z.1 in let m = at_name h₀.name in let K : RattleType = store.the_row brand.the_row m in
    let X : RattleType = arg (bare (layout K)) no K in
    let LX = arg_laws (bare (layout K)) no K (store_laws.the_row_laws brand.the_row m brand_laws.the_row_laws) refl
    in let LZ = arg_laws (bare (layout heap.the_row)) no heap.the_row heap_laws.the_row_laws refl in
    let dd = impl ("tx_line_c::Destruct++none::drop" ∷ []) (tcons (layout Z) tnil) dnil in
    let E : box.Bx = record {
      row = X;
      laws = LX;
      al = record {
        row = Z;
        laws = LZ;
        g = ghosts;
        d = dict;
        drops = dd;
      };
    } in let B : RattleType = box.B E in
    let k₁ = triple_of 𝓛 (take.signature X Z ghosts dict dd) (take.spec X Z ghosts dict dd 𝓛 𝓜.mem 𝓡.returns) in
    let known₁ = take_met.met 𝓤 𝓛 𝓜 𝓡 (code.calls-std_alloc::boxed::Box::from_raw 𝓡.env wired) X Z LX LZ ghosts dict
    dd
    (passed 𝓡.env (code.calls-std_heap::GlobalAllocator::allocate 𝓡.env wired)
    (code.calls-std_heap::GlobalAllocator::deallocate 𝓡.env wired) (code.calls-std_heap::GlobalAllocator::grow 𝓡.env
    wired) (code.calls-std_heap::GlobalAllocator::shrink 𝓡.env wired) M 𝓤 𝓛 𝓜 𝓡)
    (glues "tx_line_c::Destruct++none::drop" 𝓡.env (code.calls-tx_line_c::Destruct++none::drop 𝓡.env wired) Z
    LZ M 𝓤 𝓛 𝓜 𝓡) in
    let k₂ = triple_of 𝓛 (end.signature J m jd) (end.spec J m jd 𝓛 𝓜.mem 𝓡.returns) in
    let known₂ = end_met.met 𝓤 𝓛 𝓜 𝓡 (code.calls-tx_line_c::store_calls::end 𝓡.env wired) J LJ m jd (record {}) in
    let En = end.ended J m jd in
    let a = z.0.3.0 in let p : Ptr = z.0.3.1.0 in let g = h₀.state in let R : RattleType = K in
    let Post : Val → SProp 𝓤 = (walk_of 𝓛 f.ended stayed c).post z in
    let Run : List Val → SProp 𝓤 = λ ws. WpFn 𝓤 H 𝓣.C 𝓣.Λ code.function ws Post in
    qed 𝓛 ((‵ ftrue ⊛ ‵ (owns (types_at f.ended.signature.params tt) z.0.3 z.0.4)) ∷
    (‵ (owns_store a p h₀) ⊛ raw (fact 𝓤 (IsHeld h₀))) ∷ []) ∵ split ! $ drop ! $ move ! (1 ∷ []) $ split ! $
    move ! (1 ∷ []) $ heard ! _ (λ stands. move ! (1 ∷ []) $ fsplit ! $
    handle_tells E.al ! a z.0.4.0 (λ hv eh fa. move ! (1 ∷ []) $ fsplit ! $ feq_l ! (λ ev. drop ! $ move ! (1 ∷ []) $
    -- [what C hands over; the handle]
    let us = hv ∷ ptr_val p ∷ [] in let κs : Lft × (Lft × Unit {0}) = ([], ([], tt)) in
    let y : k₁.Ghost = ((κs, (full_share, (full_share, tt)), tt, (a, (p, tt)), (hv ∷ [], (ptr_val p ∷ [], tt))), g) in
    suffices ! (Run us) (subst (λ (ws : List Val). ent 𝓤 (Run us) (Run ws)) (sym (λ i. eh i ++ (ev i ++ []))) (id⊢ 𝓤
    (Run us))) $
    use0 𝓛 (raw (fact 𝓤 ([] ⊑ Z.lives))) (fact_i 𝓤 ([] ⊑ Z.lives) (emp 𝓤) (⊑_static [])) $ join ! $
    use0 𝓛 (raw (fact 𝓤 ([] ⊑ X.lives))) (fact_i 𝓤 ([] ⊑ X.lives) (emp 𝓤) (⊑_static [])) $ join ! $
    nothing ! $ feq_i ! (List Val) (ptr_val p ∷ []) (ptr_val p ∷ []) refl $ move ! (3 ∷ 0 ∷ 1 ∷ []) $ fjoin3 ! $
    nothing ! $ use0 𝓛 (‵ (flft [] full_share)) (𝓛.lfts.lft-nil full_share) $ join ! $
    use0 𝓛 (‵ (flft [] full_share)) (𝓛.lfts.lft-nil full_share) $ join ! $ join ! $ join ! $
    use1 𝓛 (raw (k₁.pre y)) (id⊢ 𝓤 _) $
    -- [what `from_raw` asks for]
    enter ! 𝓣.C 𝓣.Λ code.function us Post $ alloc_all ! (λ l. pass_all ! refl (
      fa,
      (((rawptr_Lawful 𝓛).typed p _ refl).0, tt),
    ) $
    sets ! (of_opd ! (get ! refl)) refl ((rawptr_Lawful 𝓛).typed p _ refl).0 $
    calls_at ! (framed 𝓤 H 𝓜 𝓣) k₁ known₁ y (and_then ! (get ! refl) (and_then ! (get ! refl) (no_more !))) (λ u.
    use1 𝓛 (later (some (λ (r : B.Denot). ((‵ (flft [] full_share) ⊛ ‵ (flft [] full_share) ⊛ ‵ ftrue) ⊛
    ‵ (B.own_val r (u ∷ []))) ⊛ some (λ (ls : Lasts (take.ended X Z ghosts dict dd) κs (
      a,
      (
        p,
        tt,
      ),
    )). ‵ (lasts (take.ended X Z ghosts dict dd) κs (
      a,
      (
        p,
        tt,
      ),
    ) ls) ⊛ (raw (fact 𝓤 (r.value ≡ g)) ⊛ raw (fact 𝓤 (r.alloc ≡ a))))))) (id⊢ 𝓤 (k₁.post y u)) $
    await ! tt $ pick ! (λ r. split ! $ move ! (1 ∷ []) $ pick ! (λ _. split3 ! $ drop ! $
    heard ! _ (λ is_g. drop ! $ split ! $ drop ! $
    peeks ! B (Is B) (shows 𝓛 B) r (u ∷ []) (λ is. lands_as ! refl refl (((box_laws.the_field_loose X Z ghosts LX
    LZ).lawful 𝓛).typed r (u ∷ []) is).0 $
    -- [the box]
    let y₂ : k₂.Ghost = ((([], tt), (full_share, tt), tt, (r, tt), (u ∷ [], tt)), tt) in
    nothing ! $ move ! (1 ∷ 0 ∷ []) $ fjoin ! $ nothing ! $
    use0 𝓛 (‵ (flft [] full_share)) (𝓛.lfts.lft-nil full_share) $ join ! $ join ! $
    use0 𝓛 (raw (fact 𝓤 (h₀.name.seats ≡ length h₀.name.bounds + 2 + MAX_LIVE_SESSIONS))) (fact_i 𝓤 (h₀.name.seats ≡
    length h₀.name.bounds + 2 + MAX_LIVE_SESSIONS) (emp 𝓤) stands.1) $
    use0 𝓛 (raw (fact 𝓤 (IsPlayer h₀.name.bounds r.value.player))) (fact_i 𝓤 (IsPlayer h₀.name.bounds r.value.player)
    (emp 𝓤) (subst (λ (s : R.Denot). (IsPlayer h₀.name.bounds s.player)) (sym is_g) stands.0)) $ join ! $
    use0 𝓛 (raw (fact 𝓤 ([] ⊑ J.lives))) (fact_i 𝓤 ([] ⊑ J.lives) (emp 𝓤) (⊑_static [])) $ join ! $
    move ! (1 ∷ 0 ∷ []) $ use2 𝓛 (raw (k₂.pre y₂)) (id⊢ 𝓤 _) $
    calls_at ! (framed 𝓤 H 𝓜 𝓣) k₂ known₂ y₂ (and_then ! (get ! refl) (no_more !)) (λ v.
    use1 𝓛 (later (some (λ (u′ : Unit {0}). ((‵ (flft [] full_share) ⊛ ‵ ftrue) ⊛ ‵ (unit.own_val u′ (v ∷
    []))) ⊛ some (λ (ws : Lasts En ([], tt) (r, tt)). ‵ (lasts En ([], tt) (
      r,
      tt,
    ) ws) ⊛ raw (fact 𝓤 ((lines : List (List ℕ)) (done : List (ℕ × Items)) → HasPlayed h₀.name.bounds lines done
    r.value.player → EndWellWith h₀.name.bounds lines done)))))) (id⊢ 𝓤 (k₂.post y₂ v)) $
    await ! tt $ pick ! (λ u′. split ! $ split ! $ split ! $ drop ! $ drop ! $
    feq_l ! (λ is_unit. pick ! (λ _. split ! $ drop ! $ heard ! _ (λ ends.
    lands_as ! (ap only is_unit) refl (tt, tt) $ sets ! (of_opd ! (unit_lit !)) refl (tt, tt) $
    returns ! (look_at ! 0 refl) $ free_all ! refl $
    use0 𝓛 (raw (fact 𝓤 ((lines : List (List ℕ)) (done : List (ℕ × Items)) → HasPlayed h₀.name.bounds lines done
    g.player → EndWellWith h₀.name.bounds lines done))) (fact_i 𝓤 ((lines : List (List ℕ)) (done : List (ℕ × Items))
    → HasPlayed h₀.name.bounds lines done g.player → EndWellWith h₀.name.bounds lines done) (emp 𝓤) (subst (λ (s :
    R.Denot). (lines : List (List ℕ)) (done : List (ℕ × Items)) → HasPlayed h₀.name.bounds lines done s.player →
    EndWellWith h₀.name.bounds lines done) is_g ends)) $ feq_i ! (List Val) (vunit ∷ []) (vunit ∷ []) refl $
    nothing ! $ nothing ! $ fjoin ! $ nothing ! $ fjoin ! $ nothing ! $
    by ! (leaves 𝓛 f.ended stayed c z vunit tt (tt, (tt, tt)) (tt, (tt, tt))))))))))))))))))
