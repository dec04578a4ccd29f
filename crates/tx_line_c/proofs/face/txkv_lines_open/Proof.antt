-- `txkv_lines_open` lays the box of a store that was made behind the pointer that it writes, at the
-- name of the journal that was opened for it.
use Rattle.std.proofs.Common.{◌≡◌, ◌⊎◌, inl, inr, ℕ, ◌+◌, List, All, [], ◌∷◌, ◌++◌, refl, sym, ap, ◌∙◌, subst, w8, w32, length, lit<, Option, Some, None, IfSome, IfNone, vec_len, Ok, Err, IfOk, IfErr, IsOk}
use mir.Syntax.{Body, named}
use mir.Val.{Val, vint, vptr, of_list}
use base.Fraction.{full_share}
use base.Logic.{SProp, ent, sep, emp, id⊢, ex_i}
use base.Fml.{ftrue, flft}
use prog.Wp.{WpFn, Wp, after_seq, at_return}
use contract.Running.{tables}
use types.Logic.{sem}
use types.Kit.{‵, raw, ◌⊛◌, some, later, at_ret, any_q, ◌$◌, ◌∵◌, !, qed, by, move, keep, drop, split, split3, join, fsplit, fsplit3, fjoin, fjoin3, fpick, pick, suffices, use0, use1, use2, await, rewrite, feq_i, feq_l}
use types.Kit as kit
use types.Run.{of_opd, lit, fld, stop, store, no_more, and_then, first, switches_on, exec, assigns, returns, enter}
use types.ByLocal.{alloc_all, pass_all, free_all, look_at, get, get_in, get_tag, through, sets, sets_last, lands_as, env}
use types.Part.{whole}
use types.Match.{live, vrt, in_variant}
use contract.Monad.{fact, fact_i}
use contract.BorrowLft.{◌⊑◌, ⊑_static}
use denote.Exit.{yes}
use denote.RattleType.{RattleType, owns}
use denote.Signature.{types_at, type_at, plain}
use denote.Builtin.{u8, u32, SliceRefOf}
use denote.Plain.{uint_Makes, uint_row_laws}
use denote.RawPtr.{Ptr, RawPtr, ptr_val, rawptr_Lawful}
use denote.Ref.{MutRef}
use denote.Slice.{ShrSlice, slice_val, shr_slice_vals, shr_slice_copy}
use denote.Memory.{cell_at}
use denote.Laws.{Is, Lawful, shows}
use denote.Struct.Laws.{copy as struct_copied}
use denote.Enum.Loose.{loose_lawful}
use denote.Steps.{nothing, only, owned, heard, peeks, opens, closes}
use denote.Param.NoDrop.{glues}
use denote.Triple.Clauses.{Lasts, lasts}
use denote.Triple.Spec.{triple_of}
use denote.Triple.Call.{calls_at}
use denote.Triple.Table.{framed}
use denote.Triple.Walked.{Stays, stay_dropped, stay_ref, walk_of, Goes-dropped, Goes-ref}
use Rattle.std.proofs.alloc.Shapes.{after, head, arm_body}
use Rattle.std.proofs.alloc.Calls.{handle_tells}
use Rattle.std.proofs.raw_atomic.Walks.{proved_at, leaves}
use Rattle.std_alloc.proofs.ResultValues.{and_tt}
use Rattle.std_alloc.specs.Box.Ownership.{box_owns}
use Rattle.std_alloc.proofs.BoxSteps.Form as box
use Rattle.std_alloc.proofs.BoxSteps.Steps.{box_out, box_in}
use Rattle.std_alloc.specs.contracts.boxed.Box.into_raw as into
use Rattle.std_alloc.proofs.boxed.Box.into_raw.Met as into_met
use Rattle.std_heap.specs.contracts.Global as heap
use Rattle.std_heap.proofs.Global.TheLaws as heap_laws
use Rattle.std_heap.specs.contracts.GlobalAllocator.TheImpl.{ghosts, dict}
use Rattle.std_heap.proofs.GlobalAllocator.TheImpl.Met.{passed}
use Rattle.std.specs.contracts.option.Option as option
use Rattle.std.proofs.option.Option.TheLaws as option_laws
use Rattle.tx_line_c.specs.Handles.{named as at_name, Held, owns_made, IsHeld, HasBegun}
use Rattle.tx_types.specs.declared.limits.TheConstants.{MAX_LIVE_SESSIONS}
use Rattle.tx_journal.specs.Known.{Opening}
use Rattle.tx_journal.specs.Rules.{no_table}
use Rattle.tx_cells.specs.Contents.{nothing_held}
use Rattle.tx_flat.specs.Flats.{flat_content}
use Rattle.tx_evidence.specs.Lines.{bounds_of}
use Rattle.tx_reply.specs.Replies.{reply_words}
use Rattle.tx_script.specs.Players.{IsPlayer, HasPlayed}
use Rattle.tx_line_store.specs.Lines.{LinesState}
use Rattle.tx_line_c.specs.declared.store_calls.Parts.{Parts}
use Rattle.tx_line_c.specs.contracts.store_calls.Parts as parts
use Rattle.tx_line_c.proofs.store_calls.Parts.TheLaws as parts_laws
use Rattle.tx_line_c.proofs.Rows.{Z, LZ, J, LJ, jd, dd, dk, X, LX, lets_go}
use Rattle.tx_line_c.specs.contracts.store_calls.found as find
use Rattle.tx_line_c.proofs.store_calls.found.Met as find_met
use Rattle.tx_line_c.specs.contracts.store_calls.made as make
use Rattle.tx_line_c.proofs.store_calls.made.Met as make_met
use Rattle.tx_line_c.specs.contracts.face.txkv_lines_open as f
use Rattle.tx_line_c.proofs.face.txkv_lines_open.Statement.{statement}
use Rattle.tx_line_c.proofs.face.txkv_lines_open.Code as code

-- the journal that a store is made over
abbrev name_of : Option Parts → Opening
name_of None = record { table = no_table; bounds = []; seats = 0 }
name_of (Some p) = p.opened

-- what its parts have
abbrev HasName : Opening → Option Parts → Type 0
HasName o r = IfSome r (λ p. (p.opened.table ≡ o.table) × (p.opened.bounds ≡ o.bounds) × (p.opened.seats ≡ o.seats))

abbrev HasBounds : List ℕ → Option Parts → Type 0
HasBounds line r = IfSome r (λ p. p.opened.bounds ≡ bounds_of (line ∷ []))

abbrev HasFamilies : Option Parts → Type 0
HasFamilies r = IfSome r (λ p. vec_len p.families ≡ length p.opened.bounds + 1)

abbrev HasSeats : Option Parts → Type 0
HasSeats r = IfSome r (λ p. p.opened.seats ≡ length p.opened.bounds + 2 + MAX_LIVE_SESSIONS)

abbrev HoldsNothing : Option Parts → Type 0
HoldsNothing r = IfSome r (λ p. All (λ f. flat_content f ≡ (λ k. nothing_held)) p.families.items)

is_named : (r : Option Parts) → HasName (name_of r) r
is_named None = tt
is_named (Some p) = (refl, refl, refl)

-- what is said of a store that was made
abbrev HasReplied : Opening → List ℕ → LinesState → Type 0
HasReplied o line s = IfOk s.said (λ reply. HasPlayed o.bounds (line ∷ []) ((1, reply_words reply) ∷ []) s.player)

-- what an open ensures beside the store: of the address, and of how it went
abbrev Keeps : ℕ → Ptr → Ptr → Type 0
Keeps code old new = (code ≡ 1) ⊎ (new ≡ old)

abbrev Opens : List ℕ → ℕ → Option Held → Type 0
Opens line code made = IfSome made (λ h. (code ≡ 1) × IsHeld h × HasBegun line h) × IfNone made
    ((code ≡ 0) ⊎ (code ≡ 2))

abbrev stayed : Stays f.ended.signature.params f.ended.kept
stayed = (
  stay_dropped (plain (λ _. heap.the_row)) yes,
  (
    stay_dropped
        (SliceRefOf (0 ∷ []) tt (plain (λ _. u8)) (λ _. tt)) yes,
    (stay_ref (1 ∷ []) tt (plain (λ _. RawPtr)), tt),
  ),
)

pub txkv_lines_open_spec : {M : Type 1} → statement M
unfolding Rattle.tx_line_c.proofs.Destruct++none.drop.Code.code
txkv_lines_open_spec {M} 𝓤 𝓛 𝓜 𝓡 wired =
    let H = 𝓛.H in let 𝓣 = tables 𝓤 H 𝓜 𝓡 𝓡.env in let c = f.clauses 𝓛 𝓜.mem 𝓡.returns in let fn = code.function in
    let Found : RattleType = option.the_row parts.the_row in
    let found : Lawful 𝓛 Found = loose_lawful (option.the_type parts.the_row)
    (option_laws.the_loose parts.the_row parts_laws.the_row_laws) tt 𝓛 in
    proved_at 𝓛 f.ended stayed c 𝓜 𝓡 (
      Goes-dropped 𝓛 2 (plain (λ _. heap.the_row)) yes (λ κs x w. refl),
      (
        Goes-dropped 𝓛 2 (SliceRefOf (0 ∷ []) tt (plain (λ _. u8)) (λ _. tt)) yes (λ κs x w. refl),
        (Goes-ref 𝓛 2 1 tt (plain (λ _. RawPtr)), tt),
      ),
    )
    f.Key.name fn (code.unfolded 𝓤 H 𝓜 𝓡 wired) (λ z are.
    let κs = z.0.0 in let qs = z.0.1 in let a = z.0.3.0 in let line = z.0.3.1.0 in let at = z.0.3.1.1.0 in
    let b₀ = at.ref_ptr.0 in let o₀ = at.ref_ptr.1 in
    let Post : Val → SProp 𝓤 = (walk_of 𝓛 f.ended stayed c).post z in
    let Run : List Val → SProp 𝓤 = λ ws. WpFn 𝓤 H 𝓣.C 𝓣.Λ fn ws Post in
    let Line : RattleType = ShrSlice (named 0) κs.0 u8 in let Out : RattleType = MutRef (named 1) κs.1.0 RawPtr in
    let k₁ = triple_of 𝓛 find.signature (find.spec 𝓛 𝓜.mem 𝓡.returns) in
    qed 𝓛 (((‵ (flft κs.0 qs.0) ⊛ ‵ (flft κs.1.0 qs.1.0) ⊛ ‵ ftrue) ⊛
    ‵ (owns (types_at f.ended.signature.params κs) z.0.3 z.0.4)) ∷ ‵ ftrue ∷ []) ∵
    split ! $ split3 ! $ move ! (3 ∷ []) $ fsplit ! $ handle_tells
    (record { row = Z; laws = LZ; g = ghosts; d = dict; drops = dd }) ! a z.0.4.0 (λ hv eh fa.
    let y₁ : k₁.Ghost = (((κs.0, tt), (qs.0, tt), tt, (a, (line, tt)), (hv ∷ [], (shr_slice_vals line, tt))), tt) in
    use1 𝓛 (‵ (Z.own_val a (hv ∷ [])) ⊛ ‵ (Z.own_val a (hv ∷ [])))
    ((struct_copied heap.the_type heap_laws.the_copy 𝓛).twice a (hv ∷ [])) $ split ! $
    move ! (2 ∷ []) $ fsplit ! $ rewrite ! 0 (λ (vs : List Val). ‵ (Line.own_val line vs)) are.1.0.0.0 refl $
    use1 𝓛 (‵ (Line.own_val line (shr_slice_vals line)) ⊛ ‵ (Line.own_val line (shr_slice_vals line)))
    ((shr_slice_copy 𝓛 (named 0) κs.0 u8 (uint_row_laws w8)).twice line (shr_slice_vals line)) $ split ! $
    move ! (2 ∷ []) $ fsplit ! $ rewrite ! 0 (λ (vs : List Val). ‵ (Out.own_val at vs)) are.1.1.0.0 refl $
    keep ! (2 ∷ 4 ∷ 6 ∷ 0 ∷ 3 ∷ 5 ∷ 7 ∷ []) $
    -- [line; the handle; line's token; at; line; the handle; at's token]
    nothing ! $ move ! (1 ∷ 0 ∷ []) $ fjoin ! $ move ! (1 ∷ 0 ∷ []) $ fjoin ! $ nothing ! $ move ! (2 ∷ 0 ∷ []) $
    join ! $ join ! $ nothing ! $ move ! (1 ∷ 0 ∷ []) $ use2 𝓛 (raw (k₁.pre y₁)) (id⊢ 𝓤 _) $
    let us = hv ∷ slice_val line.ref_ptr (length line.now) ∷ vptr b₀ o₀ ∷ [] in
    suffices ! (Run us) (subst (λ (ws : List Val). ent 𝓤 (Run us) (Run ws))
    (sym (λ i. eh i ++ (are.1.0.0.0 i ++ (are.1.1.0.0 i ++ [])))) (id⊢ 𝓤 (Run us))) $
    enter ! 𝓣.C 𝓣.Λ fn us Post $ alloc_all ! (λ l. pass_all ! refl
    (fa, ((tt, (tt, (record { fits = are.1.0.0.1.0 }, tt))), ((tt, tt), tt))) $ let Ev = env fn.locals l in
    calls_at ! (framed 𝓤 H 𝓜 𝓣) k₁ (find_met.met 𝓤 𝓛 𝓜 𝓡 (code.calls-tx_line_c::store_calls::found 𝓡.env wired)) y₁
    (and_then ! (get ! refl) (and_then ! (get ! refl) (no_more !))) (λ v₁.
    use1 𝓛 (later (some (λ (r : Option Parts). ((‵ (flft κs.0 qs.0) ⊛ ‵ ftrue) ⊛ ‵ (Found.own_val r (v₁ ∷ []))) ⊛
    some (λ (ws : Lasts find.ended y₁.0.0 y₁.0.3). ‵ (lasts find.ended y₁.0.0 y₁.0.3 ws) ⊛
    (raw (fact 𝓤 (HasBounds line.now r)) ⊛ raw (fact 𝓤 (HasFamilies r)) ⊛ raw (fact 𝓤 (HasSeats r)) ⊛
    raw (fact 𝓤 (HoldsNothing r))))))) (id⊢ 𝓤 (k₁.post y₁ v₁)) $
    await ! tt $ pick ! (λ r₁. split ! $ split ! $ split ! $ move ! (3 ∷ []) $
    pick ! (λ _. split ! $ drop ! $ split3 ! $
    heard ! _ (λ bounds. heard ! _ (λ few. split ! $ heard ! _ (λ seats. heard ! _ (λ empty. move ! (2 ∷ []) $
    peeks ! Found (Is Found) (shows 𝓛 Found) r₁ (v₁ ∷ []) (λ is₁. lands_as ! refl refl
    (found.typed r₁ (v₁ ∷ []) is₁).0 $
    -- [what was found; line's token; nothing; at; line; the handle; at's token]
    nothing ! $ move ! (5 ∷ 0 ∷ []) $ fjoin ! $ move ! (1 ∷ 0 ∷ []) $ fjoin ! $ move ! (4 ∷ 0 ∷ []) $ fjoin ! $
    move ! (2 ∷ []) $ use0 𝓛 (‵ (flft [] full_share)) (𝓛.lfts.lft-nil full_share) $ join ! $ move ! (2 ∷ 0 ∷ []) $
    join ! $ join ! $
    let n = name_of r₁ in let m = at_name n in let E : box.Bx = record
    { row = X n; laws = LX n; al = record { row = Z; laws = LZ; g = ghosts; d = dict; drops = dd } } in
    let k₂ = triple_of 𝓛 (make.signature J m jd) (make.spec J m jd 𝓛 𝓜.mem 𝓡.returns) in
    let En₂ = make.ended J m jd in
    let y₂ : k₂.Ghost = (
      (
        (κs.0, ([], tt)),
        (qs.0, (full_share, tt)),
        tt,
        (a, (r₁, (line, tt))),
        (hv ∷ [], (v₁ ∷ [], (shr_slice_vals line, tt))),
      ),
      tt,
    ) in
    let Made : RattleType = type_at (make.signature J m jd).result y₂.0.0 in
    let k₃ = triple_of 𝓛 (into.signature (X n) Z ghosts dict dd dk)
    (into.spec (X n) Z ghosts dict dd dk 𝓛 𝓜.mem 𝓡.returns) in let En₃ = into.ended (X n) Z ghosts dict dd dk in
    let known₃ = into_met.met 𝓤 𝓛 𝓜 𝓡 (code.calls-std_alloc::boxed::Box::into_raw 𝓡.env wired) (X n) Z
    (LX n) LZ ghosts dict dd dk
    (passed 𝓡.env (code.calls-std_heap::GlobalAllocator::allocate 𝓡.env wired)
    (code.calls-std_heap::GlobalAllocator::deallocate 𝓡.env wired)
    (code.calls-std_heap::GlobalAllocator::grow 𝓡.env wired)
    (code.calls-std_heap::GlobalAllocator::shrink 𝓡.env wired) M 𝓤 𝓛 𝓜 𝓡)
    (glues "tx_line_c::Destruct++none::drop" 𝓡.env (code.calls-tx_line_c::Destruct++none::drop 𝓡.env wired) Z
    LZ M 𝓤 𝓛 𝓜 𝓡) (lets_go 𝓤 𝓛 𝓜 𝓡 (code.calls-tx_line_c::tx_line_store++store++LineStore+Destruct::drop 𝓡.env
    wired) (code.calls-tx_line_c::Destruct++none::drop 𝓡.env wired) n) in
    let arms : Body = head (after 2 fn.body) in let Then : kit.Post 𝓤 H = any_q
    (after_seq 𝓤 H (Wp 𝓤 H 𝓣.C 𝓣.Λ Ev (after 3 fn.body) (at_return 𝓤 H Ev Post)) (at_return 𝓤 H Ev Post)) in
    use0 𝓛 (raw (fact 𝓤 (HoldsNothing r₁))) (fact_i 𝓤 (HoldsNothing r₁) (emp 𝓤) empty) $
    use0 𝓛 (raw (fact 𝓤 (HasSeats r₁))) (fact_i 𝓤 (HasSeats r₁) (emp 𝓤) seats) $ join ! $
    use0 𝓛 (raw (fact 𝓤 (HasFamilies r₁))) (fact_i 𝓤 (HasFamilies r₁) (emp 𝓤) few) $ join ! $
    use0 𝓛 (raw (fact 𝓤 (HasBounds line.now r₁))) (fact_i 𝓤 (HasBounds line.now r₁) (emp 𝓤) bounds) $ join ! $
    use0 𝓛 (raw (fact 𝓤 (HasName n r₁))) (fact_i 𝓤 (HasName n r₁) (emp 𝓤) (is_named r₁)) $ join ! $
    use0 𝓛 (raw (fact 𝓤 ([] ⊑ J.lives))) (fact_i 𝓤 ([] ⊑ J.lives) (emp 𝓤) (⊑_static [])) $ join ! $
    move ! (1 ∷ 0 ∷ []) $ use2 𝓛 (raw (k₂.pre y₂)) (id⊢ 𝓤 _) $
    -- [what `made` asks for; at; its token]
    calls_at ! (framed 𝓤 H 𝓜 𝓣) k₂ (make_met.met 𝓤 𝓛 𝓜 𝓡 (code.calls-tx_line_c::store_calls::made 𝓡.env wired) J LJ m jd
    (record {})) y₂ (and_then ! (get ! refl) (and_then ! (get ! refl) (and_then ! (get ! refl) (no_more !)))) (λ v₂.
    use1 𝓛 (later (some (λ (r : Made.Denot). ((‵ (flft κs.0 qs.0) ⊛ ‵ (flft [] full_share) ⊛ ‵ ftrue) ⊛
    ‵ (Made.own_val r (v₂ ∷ []))) ⊛ some (λ (ws : Lasts En₂ y₂.0.0 y₂.0.3). ‵ (lasts En₂ y₂.0.0 y₂.0.3 ws) ⊛
    (raw (fact 𝓤 (IfOk r (λ d. d.alloc ≡ a))) ⊛ raw (fact 𝓤 (IfOk r (λ d. IsPlayer n.bounds d.value.player))) ⊛
    raw (fact 𝓤 (IfOk r (λ _. n.seats ≡ length n.bounds + 2 + MAX_LIVE_SESSIONS))) ⊛
    raw (fact 𝓤 (IfOk r (λ _. n.bounds ≡ bounds_of (line.now ∷ [])))) ⊛
    raw (fact 𝓤 (IfOk r (λ d. d.value.number ≡ 1))) ⊛ raw (fact 𝓤 (IfOk r (λ d. IsOk d.value.said))) ⊛
    raw (fact 𝓤 (IfOk r (λ d. HasReplied n line.now d.value))) ⊛ raw (fact 𝓤 (IfErr r (λ x. (x ≡ 0) ⊎ (x ≡ 2)))))))))
    (id⊢ 𝓤 (k₂.post y₂ v₂)) $
    await ! tt $ pick ! (elim [
      | Ok d ↦ split ! $ split ! $ split3 ! $ move ! (4 ∷ []) $ pick !
          (λ _. split ! $ drop ! $ split3 ! $ heard ! _ (λ same. heard ! _ (λ player.
          split3 ! $ heard ! _ (λ its_seats. heard ! _ (λ its_bounds. split3 ! $
          heard ! _ (λ number. heard ! _ (λ well. split ! $ heard ! _ (λ plays. drop ! $ move ! (3 ∷ []) $
          fpick ! (λ ws. fsplit ! $ feq_l ! (λ e. fpick ! (λ vss. fsplit ! $
          feq_l ! (λ e′. fsplit ! $ box_out E ! d vss.0 (λ b o h′ ep ew fits.
          let w : Val = box.word E h′ b o in let good = box.box_typed E h′ b o fits in
          lands_as ! (ap only (e ∙ ap (λ (us : List Val). live 0 (of_list us) ∷ [])
          (e′ ∙ ap (λ (us : List Val). us ++ []) ew))) refl (and_tt _ good.0, (record { fits = lit< tt }, (good.1, tt)))
          $
          first ! $ switches_on ! (get_tag ! (vrt ! refl (fld ! refl (stop !))) (whole !)) $
          exec ! 𝓣.C 𝓣.Λ Ev (arm_body 0 arms) Then $
          sets ! (of_opd ! (get_in ! (vrt ! refl (fld ! refl (stop !))) (in_variant ! 0 0 refl refl (whole !)))) refl
          good $ sets ! (of_opd ! (get ! refl)) refl good $ box_in E ! d b o d.value ep refl $
          -- [the box; nothing; line's token; that of the name; nothing; at; its token]
          let y₃ : k₃.Ghost = ((([], ([], tt)), (full_share, (full_share, tt)), tt, (d, tt), (w ∷ [], tt)), tt) in
          nothing ! $ move ! (1 ∷ 0 ∷ []) $ fjoin ! $ nothing ! $
          use0 𝓛 (‵ (flft [] full_share)) (𝓛.lfts.lft-nil full_share) $ join ! $
          use0 𝓛 (‵ (flft [] full_share)) (𝓛.lfts.lft-nil full_share) $ join ! $ join ! $
          nothing ! $ use0 𝓛 (raw (fact 𝓤 ([] ⊑ Z.lives))) (fact_i 𝓤 ([] ⊑ Z.lives) (emp 𝓤) (⊑_static [])) $ join ! $
          use0 𝓛 (raw (fact 𝓤 ([] ⊑ (X n).lives))) (fact_i 𝓤 ([] ⊑ (X n).lives) (emp 𝓤) (⊑_static [])) $ join ! $
          move ! (1 ∷ 0 ∷ []) $ use2 𝓛 (raw (k₃.pre y₃)) (id⊢ 𝓤 _) $
          calls_at ! (framed 𝓤 H 𝓜 𝓣) k₃ known₃ y₃ (and_then ! (get ! refl) (no_more !)) (λ v₃.
          use1 𝓛 (later (some (λ (p : Ptr). ((‵ (flft [] full_share) ⊛ ‵ (flft [] full_share) ⊛ ‵ ftrue) ⊛
          ‵ (RawPtr.own_val p (v₃ ∷ []))) ⊛ some (λ (ls : Lasts En₃ y₃.0.0 y₃.0.3). ‵ (lasts En₃ y₃.0.0 y₃.0.3 ls) ⊛
          ‵ (box_owns (ghosts.dealloc_token d.alloc) (X n) p d.value))))) (id⊢ 𝓤 (k₃.post y₃ v₃)) $
          await ! tt $ pick ! (λ p. split ! $ split ! $ drop ! $
          feq_l ! (λ ev. pick ! (λ _. split ! $ drop ! $ rewrite ! 0
          (λ (α : heap.the_row.Denot). ‵ (box_owns (ghosts.dealloc_token α) (X n) p d.value)) same refl $
          let typed = ((rawptr_Lawful 𝓛).typed p _ refl).0 in
          lands_as ! (ap only ev) refl typed $ sets ! (of_opd ! (get ! refl)) refl typed $
          -- [the block; nothing; line's token; that of the name; nothing; at; its token]
          move ! (5 ∷ []) $ fsplit3 ! $ drop ! $ move ! (0 ∷ 1 ∷ 7 ∷ []) $
          opens ! tt RawPtr b₀ o₀ (λ olds. move ! (1 ∷ []) $ feq_l !
          (λ was. rewrite ! 0 (λ (vs : List Val). ‵ (cell_at full_share RawPtr.mir vs b₀ o₀)) was refl $
          assigns ! (of_opd ! (get ! refl)) (through ! refl (stop !)) (store ! 0 refl typed) $
          feq_i ! (List Val) (ptr_val p ∷ []) (ptr_val p ∷ []) refl $ move ! (1 ∷ []) $
          closes ! tt RawPtr p (ptr_val p ∷ []) b₀ o₀ $
          feq_i ! (List Val) z.0.4.1.1.0 (vptr b₀ o₀ ∷ []) are.1.1.0.0 $ fjoin3 ! $
          -- [at; its token; the block; nothing; line's token; that of the name; nothing]
          sets_last ! (of_opd ! (lit ! tt)) refl (tt, record { fits = lit< tt }) $
          exec ! 𝓣.C 𝓣.Λ Ev (after 3 fn.body) (at_ret Ev Post) $
          sets ! (of_opd ! (get ! refl)) refl (tt, record { fits = lit< tt }) $
          returns ! (look_at ! 0 refl) $ free_all ! refl $ keep ! (2 ∷ 0 ∷ 1 ∷ 4 ∷ []) $
          -- [the block; at; its token; line's token]
          let h : Held = record { name = n; state = d.value } in
          use0 𝓛 (raw (fact 𝓤 (Opens line.now 1 (Some h)))) (fact_i 𝓤 (Opens line.now 1 (Some h)) (emp 𝓤)
          ((refl, (player, its_seats), (its_bounds, number, well, plays)), tt)) $ move ! (1 ∷ 0 ∷ []) $ join ! $
          use1 𝓛 (some (λ (g : Option Held). ‵ (owns_made a p g) ⊛ raw (fact 𝓤 (Opens line.now 1 g))))
          (ex_i 𝓤 (λ (g : Option Held). sep 𝓤 (sem 𝓛 (owns_made a p g)) (fact 𝓤 (Opens line.now 1 g))) (Some h)) $
          use0 𝓛 (raw (fact 𝓤 (Keeps 1 at.now p))) (fact_i 𝓤 (Keeps 1 at.now p) (emp 𝓤) (inl refl)) $ join ! $
          nothing ! $ move ! (2 ∷ 0 ∷ []) $ fjoin ! $ nothing ! $ fjoin ! $ nothing ! $ fjoin ! $ nothing ! $
          move ! (3 ∷ 0 ∷ []) $ join ! $ move ! (3 ∷ 0 ∷ []) $ join ! $
          owned ! u32 (Is u32) (uint_Makes 𝓛 w32) 1 (vint w32 1 ∷ []) (refl, lit< tt) $ keep ! (1 ∷ 2 ∷ 0 ∷ 3 ∷ []) $
          by ! (leaves 𝓛 f.ended stayed c z (vint w32 1) 1 (tt, (tt, (p, tt))) (tt, (tt, (tt, tt)))))))))))))))))))))))
      | Err x ↦ split ! $ split ! $ split3 ! $ move ! (4 ∷ []) $
          pick ! (λ _. split ! $ drop ! $ split3 ! $ drop ! $ drop ! $ split3 ! $ drop ! $ drop ! $ split3 ! $ drop ! $
          drop ! $ split ! $ drop ! $ heard ! _ (λ told. move ! (3 ∷ []) $
          fpick ! (λ ws. fsplit ! $ feq_l ! (λ e. fpick ! (λ vss. fsplit ! $
          feq_l ! (λ e′. fsplit ! $ peeks ! u32 (Is u32) (shows 𝓛 u32) x vss.0 (λ is.
          lands_as ! (ap only (e ∙ ap (λ (us : List Val). live 1 (of_list us) ∷ [])
          (e′ ∙ ap (λ (us : List Val). us ++ []) is.0))) refl (
            tt,
            (record { fits = lit< tt }, (record { fits = is.1 }, tt)),
          ) $
          first ! $ switches_on ! (get_tag ! (vrt ! refl (fld ! refl (stop !))) (whole !)) $
          exec ! 𝓣.C 𝓣.Λ Ev (arm_body 1 arms) Then $
          sets ! (of_opd ! (get_in ! (vrt ! refl (fld ! refl (stop !))) (in_variant ! 1 0 refl refl (whole !)))) refl
          (tt, record { fits = is.1 }) $
          sets_last ! (of_opd ! (get ! refl)) refl (tt, record { fits = is.1 }) $
          exec ! 𝓣.C 𝓣.Λ Ev (after 3 fn.body) (at_ret Ev Post) $
          sets ! (of_opd ! (get ! refl)) refl (tt, record { fits = is.1 }) $
          returns ! (look_at ! 0 refl) $ free_all ! refl $ keep ! (5 ∷ 6 ∷ 2 ∷ 0 ∷ []) $
          -- [at; its token; line's token; the result]
          rewrite ! 0 (λ (vs : List Val). ‵ (Out.own_val at vs)) (sym are.1.1.0.0) refl $
          rewrite ! 3 (λ (vs : List Val). ‵ (u32.own_val x vs)) is.0 refl $
          nothing ! $ move ! (1 ∷ 0 ∷ []) $ fjoin ! $ nothing ! $ fjoin ! $ nothing ! $ fjoin ! $ nothing ! $
          move ! (2 ∷ 0 ∷ []) $ join ! $ move ! (2 ∷ 0 ∷ []) $ join ! $
          use0 𝓛 (raw (fact 𝓤 (Opens line.now x None))) (fact_i 𝓤 (Opens line.now x None) (emp 𝓤) (tt, told)) $
          nothing ! $ join ! $
          use1 𝓛 (some (λ (g : Option Held). ‵ (owns_made a at.now g) ⊛ raw (fact 𝓤 (Opens line.now x g))))
          (ex_i 𝓤 (λ (g : Option Held). sep 𝓤 (sem 𝓛 (owns_made a at.now g)) (fact 𝓤 (Opens line.now x g))) None) $
          use0 𝓛 (raw (fact 𝓤 (Keeps x at.now at.now))) (fact_i 𝓤 (Keeps x at.now at.now) (emp 𝓤) (inr refl)) $ join ! $
          keep ! (1 ∷ 2 ∷ 3 ∷ 0 ∷ []) $ by ! (leaves 𝓛 f.ended stayed c z (vint w32 x) x (tt, (tt, (at.now, tt)))
          (tt, (tt, (tt, tt)))))))))))
    ])))))))))))))
