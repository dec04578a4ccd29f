use Rattle.std.proofs.Common.{◌≡◌, ℕ, false, not, cond, List, ◌&&◌, Some, None, refl, sym, ap, ◌∙◌, inl, inr}
use Rattle.std.specs.Prelude.{◌||◌, nat_lt}
use Rattle.std.proofs.lemmas.Bool.{cases_Bool}
use Rattle.tx_codec.specs.Keys.{encoded_key}
use Rattle.tx_cells.specs.Heads.{record_kind}
use Rattle.tx_flat.specs.Sieves.{is_followed, is_kept}
use Rattle.std.specs.BTreeMap as tree
use Rattle.tx_spelling.specs.Spelt.{version_cmp}
use Rattle.tx_flat.proofs.KeptEntries.{Sifted, sifts}
use Rattle.tx_flat.proofs.Sieves.{Version, Place, AreLeft, Knows, Goes, keeps_at, says, knows_on, left_rest, left_all, knows_none}
use Rattle.tx_flat.proofs.drop_below.drop_records.Goals as goal

pub returns : goal.returns
returns c = λ value k q.
    let W = tree.get version_cmp c.args.writes.now in
    let V = λ (j : List ℕ). value in
    let all : Sifted (λ v. keeps_at W V c.args.safe v ≡ false) c.args.writes.now.entries c.retain.new.self.entries (
      k,
      q,
    ) =
    sifts _ (λ f es. (slot : Place) × Knows W V c.args.safe f.0.now slot × AreLeft W slot es)
    (λ v. keeps_at W V c.args.safe v ≡ false)
    (λ f e es b w g i t.
    let m = t.called.met in
    let b_is : b ≡ keeps_at W V c.args.safe e.0 =
    m.1.0 ∙ (λ j. is_kept f.0.now (t.shows.0 j) (t.shows.1 j))
    ∙ says W V c.args.safe f.0.now i.0 e.0 e.1 es i.1 i.2 in
    let goes : Goes W V c.args.safe f.0.now g.0.now e.0 e.1 = record {
      followed = m.1.1.0 ∙ (λ j. is_followed f.0.now (t.shows.0 j) || (record_kind (t.shows.1 j)).is_seen
          && not (nat_lt f.0.now.safe (t.shows.0 j).1));
      key = m.1.1.1.0 ∙ ap (λ (u : Version). encoded_key u.0) t.shows.0;
      same = m.1.1.1.1.0;
    } in (
      λ off. sym b_is ∙ off,
      λ on gone. cc (on, gone, b_is),
      sym t.leaves ∙ m.1.1.1.1.1 ∙ t.shows.1,
      (Some e.0, knows_on W V c.args.safe f.0.now i.0 e.0 e.1 es i.1 i.2 g.0.now goes, left_rest W i.0 e.0 e.1 es i.2),
    ))
    _ c.args.writes.now.entries c.retain.new.self.entries (
      None,
      knows_none W V c.args.safe c.new-sieve.result c.new-sieve.ensures.0 c.new-sieve.ensures.2,
      left_all W c.args.writes.now.entries c.retain.ensures.was_ordered (λ u. refl),
    ) c.retain.ensures.was_ordered
    c.retain.ensures.filtered (k, q) in
    elim (cases_Bool (keeps_at W V c.args.safe (k, q))) [
      | inl stay ↦ all.stayed (λ gone. cc (stay, gone)) ∙ sym (ap (λ b. cond b (W (k, q)) None) stay)
      | inr gone ↦ all.gone gone ∙ sym (ap (λ b. cond b (W (k, q)) None) gone)
    ]
