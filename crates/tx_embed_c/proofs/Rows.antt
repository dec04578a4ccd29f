-- The types as the walk of `txkv_store_open` passes them to what it calls, by their layouts without
-- names, and how a store is let go there.
use Rattle.std.proofs.Common.{[], ◌∷◌, refl}
use mir.Syntax.{Dict, a_type, impl, tcons, tnil, dcons, dnil, method, no_args}
use mir.Raw.{raw as bare}
use seplogic.Ra.Ura.{Ura}
use base.Fraction.{full_share}
use base.Logic.{SProp, sep, emp, id⊢, ex_i, via, mono_l}
use base.Fml.{Lft, ftrue, fsep, flft}
use prog.Model.{Model}
use prog.Wired.{Wired}
use contract.Running.{Running}
use types.Logic.{Logic, sem}
use types.Kit.{‵, raw, ◌⊛◌, some, later, ◌$◌, ◌∵◌, !, qed, done, show, move, keep, drop, split, join, fjoin, pick, use0, use1, use2, await, updating, now as at_once}
use contract.Monad.{fact, fact_i}
use contract.BorrowLft.{◌⊑◌, ⊑_static}
use denote.Exit.{no}
use denote.RattleType.{RattleType, owns}
use denote.Signature.{types_at}
use denote.Builtin.{unit}
use denote.Steps.{nothing}
use denote.Param.{arg, layout, bounded}
use denote.Param.Laws.{Laws, arg_laws}
use denote.Param.Glue as glue
use denote.Param.NoDrop.{glues}
use denote.Triple.Clauses.{Lasts, lasts}
use denote.Triple.Spec.{Back, triple_of}
use denote.Triple.Statement.{Triple}
use denote.Triple.Table.{run_framed, widened}
use Rattle.std_heap.specs.contracts.Global as heap
use Rattle.std_heap.proofs.Global.TheLaws as heap_laws
use Rattle.std.specs.contracts.marker.Brand as brand
use Rattle.std.proofs.marker.Brand.TheLaws as brand_laws
use Rattle.tx_embed_c.specs.Handles.{named as at_name}
use Rattle.tx_journal.specs.Known.{Opening}
use Rattle.tx_embed.specs.contracts.store.EmbeddedStore as store
use Rattle.tx_embed.proofs.store.EmbeddedStore.TheLaws as store_laws
use Rattle.tx_embed_c.specs.contracts.tx_embed++store++EmbeddedStore+Destruct.drop as let_go
use Rattle.tx_embed_c.proofs.tx_embed++store++EmbeddedStore+Destruct.drop.Met as let_go_met
use Rattle.tx_embed_c.proofs.tx_embed++store++EmbeddedStore+Destruct.drop.Symbol as let_go_code
use Rattle.tx_embed_c.proofs.Destruct++none.drop.Symbol as none_code

-- the allocator
abbrev pub Z : RattleType
Z = arg (bare (layout heap.the_row)) no heap.the_row

abbrev pub LZ : Laws Z
LZ = arg_laws (bare (layout heap.the_row)) no heap.the_row heap_laws.the_row_laws refl

-- what stands in for a journal's name
abbrev pub J : RattleType
J = arg (bare (layout brand.the_row)) no brand.the_row

abbrev pub LJ : Laws J
LJ = arg_laws (bare (layout brand.the_row)) no brand.the_row brand_laws.the_row_laws refl

-- its bounds, and how it and the allocator are let go
abbrev pub jd : Dict
jd = impl [] tnil dnil

abbrev pub jdd : Dict
jdd = impl ("tx_embed_c::Destruct++none::drop" ∷ []) (tcons (layout J) tnil) dnil

abbrev pub dd : Dict
dd = impl ("tx_embed_c::Destruct++none::drop" ∷ []) (tcons (layout Z) tnil) dnil

-- how a store is let go
abbrev pub dk : Dict
dk = impl ("tx_embed_c::tx_embed++store++EmbeddedStore+Destruct::drop" ∷ []) (tcons (layout J) tnil)
    (dcons jd (dcons jdd dnil))

-- a store at a name
module _ (n : Opening) where
  abbrev pub K : RattleType
  K = store.the_row brand.the_row (at_name n)

  abbrev pub X : RattleType
  X = arg (bare (layout K)) no K

  abbrev pub LX : Laws X
  LX = arg_laws (bare (layout K)) no K (store_laws.the_row_laws brand.the_row (at_name n) brand_laws.the_row_laws)
      refl

pub lets_go : {M : Type 1} (𝓤 : Ura M) (𝓛 : Logic 𝓤) (𝓜 : Model 𝓤 𝓛.H)
    (𝓡 : Running 𝓤 𝓛.H 𝓜) → Wired 𝓡.env let_go_code.code → Wired 𝓡.env none_code.code →
    (n : Opening) → glue.Met 𝓛 𝓜 𝓡 𝓡.env (X n) dk
unfolding Rattle.tx_embed_c.proofs.Destruct++none.drop.Code.code
lets_go {M} 𝓤 𝓛 𝓜 𝓡 wired bare_wired n x =
    let H = 𝓛.H in let m = at_name n in let r = 𝓡.env (method dk 0 no_args) in
    let k = triple_of 𝓛 (let_go.signature J m jd jdd) (let_go.spec J m jd jdd 𝓛 𝓜.mem 𝓡.returns) in
    let k′ = triple_of 𝓛 (glue.signature (X n)) (glue.spent 𝓛 (X n)) in
    let met : Triple 𝓤 (𝓡.run r) k = widened 𝓤 H k 𝓜 𝓡 𝓡.env (𝓡.env
    (let_go_code.name (bounded (a_type ∷ []) (J, tt) (dcons jd (dcons jdd dnil))))) r
    (let_go_code.as_method 𝓡.env wired (method dk 0 no_args) refl)
    (let_go_met.met 𝓤 𝓛 𝓜 𝓡 wired J LJ m jd jdd (record {})
    (glues "tx_embed_c::Destruct++none::drop" 𝓡.env bare_wired J LJ M 𝓤 𝓛 𝓜 𝓡)) in
    let κ : Lft = x.0.0.0 in let q = x.0.1.0 in
    let y : k.Ghost = ((([], tt), (full_share, tt), tt, x.0.3, x.0.4), tt) in let Tok : SProp 𝓤 = sem 𝓛 (flft κ q) in
    via 𝓤 (sep 𝓤 (k.pre y) Tok)
    (qed 𝓛 (((‵ (flft κ q) ⊛ ‵ ftrue) ⊛ ‵ (owns (types_at (glue.signature (X n)).params x.0.0) x.0.3 x.0.4)) ∷
    (raw (fact 𝓤 (κ ⊑ (X n).lives)) ⊛ ‵ ftrue) ∷ []) ∵ split ! $ split ! $ keep ! (2 ∷ 0 ∷ []) $
    nothing ! $ use0 𝓛 (‵ (flft [] full_share)) (𝓛.lfts.lft-nil full_share) $ join ! $ join ! $
    nothing ! $ use0 𝓛 (raw (fact 𝓤 ([] ⊑ J.lives))) (fact_i 𝓤 ([] ⊑ J.lives) (emp 𝓤) (⊑_static [])) $ join ! $
    move ! (1 ∷ 0 ∷ []) $ use2 𝓛 (raw (k.pre y)) (id⊢ 𝓤 _) $ done !)
    (via 𝓤 (sep 𝓤 (𝓡.run r (k.args y) (k.post y)) Tok) (mono_l 𝓤 Tok (met y))
    (run_framed 𝓤 H 𝓜 𝓡 r (k.args y) (k.post y) (k′.post x) Tok (λ v.
    qed 𝓛 (raw (k.post y v) ∷ ‵ (flft κ q) ∷ []) ∵ updating ! $
    use1 𝓛 (later (some (λ (u : Unit {0}). ((‵ (flft [] full_share) ⊛ ‵ ftrue) ⊛ ‵ (unit.own_val u (v ∷ []))) ⊛
    some (λ (ws : Lasts (let_go.ended J m jd jdd) y.0.0 y.0.3). ‵ (lasts (let_go.ended J m jd jdd) y.0.0 y.0.3 ws) ⊛
    ‵ ftrue)))) (id⊢ 𝓤 (k.post y v)) $
    await ! tt $ pick ! (λ u. split ! $ split ! $ drop ! $ move ! (1 ∷ []) $ drop ! $ at_once ! $
    nothing ! $ move ! (2 ∷ 0 ∷ []) $ join ! $ join ! $ nothing ! $ nothing ! $ fjoin ! $ nothing ! $
    move ! (1 ∷ 0 ∷ []) $ join ! $
    use1 𝓛 (raw ((glue.spent 𝓛 (X n) x.0.0 x.0.3).ensures x.1 tt))
    (ex_i 𝓤 (λ (ws : Unit {0} × Unit {0}). sep 𝓤 (sem 𝓛 (fsep ftrue ftrue)) (emp 𝓤)) (tt, tt)) $ move ! (1 ∷ 0 ∷ []) $
    show ! (λ (r : Unit {0}). sep 𝓤 (Back 𝓛 (glue.signature (X n)) x.0 v r)
    ((glue.spent 𝓛 (X n) x.0.0 x.0.3).ensures x.1 r)) tt $ done !))))
