use Rattle.std.proofs.Common.{◌≡◌, ◌↔◌, ℕ, not, sym, ap, subst, refl, ◌∙◌}
use Rattle.std.specs.Prelude.{IsTrue}
use Rattle.std.specs.BTreeMap as tree
use Rattle.std.specs.BTreeMap.{BTreeMap}
use Rattle.tx_types.specs.declared.write.WriteRec.{WriteRec}
use Rattle.tx_flat.specs.Sieves.{Outdated}
use Rattle.tx_spelling.specs.Spelt.{version_cmp}
use Rattle.tx_flat.proofs.KeptEntries.{Sifted, sifts}
use Rattle.tx_flat.proofs.Sieves.{Version}
use Rattle.tx_flat.proofs.drop_below.drop_values.Goals as goal

abbrev Out : BTreeMap Version WriteRec → ℕ → Version → Type 0
Out writes safe u = Outdated (λ q. tree.get version_cmp writes (u.0, q)) safe u.1

each : (c : goal.After-retain) (u : Version)
    → Sifted (Out c.args.writes.now c.args.safe) c.args.values.now.entries c.retain.new.self.entries u
each c = sifts _ (λ f es. (f.0.now ≡ c.args.writes.now) × (f.1.now ≡ c.args.safe)) (Out c.args.writes.now c.args.safe)
    (λ f e es b w g i t.
    let m = t.called.met in
    let at : IsTrue (not b) ↔ Out c.args.writes.now c.args.safe e.0 =
    subst (λ (u : Version). IsTrue (not b) ↔ Out c.args.writes.now c.args.safe u) t.shows.0
    (subst (λ (n : ℕ). IsTrue (not b) ↔ Out c.args.writes.now n t.key.now) i.1
    (subst (λ (x : BTreeMap Version WriteRec). IsTrue (not b) ↔ Out x f.1.now t.key.now) i.0 m.1.0)) in (
      λ off. at.0 (ap not off),
      λ on out. (let yes = at.1 out in let no = ap not on in cc (yes, no)),
      sym t.leaves ∙ m.1.1 ∙ t.shows.1,
      (ap (λ x. x.now) m.0.0 ∙ i.0, ap (λ x. x.now) m.0.1 ∙ i.1),
    ))
    _ c.args.values.now.entries c.retain.new.self.entries (
      refl,
      refl,
    ) c.retain.ensures.was_ordered c.retain.ensures.filtered

pub returns-clause-gone : goal.returns-clause-gone
returns-clause-gone c = λ k t d. (each c (k, t)).gone d

pub returns-clause-stayed : goal.returns-clause-stayed
returns-clause-stayed c = λ k t n. (each c (k, t)).stayed n

pub returns-clause-fewer : goal.returns-clause-fewer
returns-clause-fewer c = λ k t n. (each c (k, t)).fewer n
