use Rattle.std.proofs.Common.{◌++◌, codes}
use Rattle.serde_json.specs.Written.{compact_text}
use Rattle.tx_verdict_text.specs.Words.{key_data}
use Rattle.tx_text.proofs.Texts.{if_ok}
use Rattle.tx_ring.proofs.Pieces.{after}
use Rattle.tx_acts.proofs.ops.put_did.Goals as goal

pub returns : goal.returns
returns c =
    let word = c.args.word.now in
    let key = compact_text (key_data c.args.history.now c.args.key) in
    let colon = codes ":" in
    if_ok c.extend_from_slice-2.result _ _ _ c.extend_from_slice-2.ensures.items (λ e.
    after c.args.out.now.items word (key ++ colon) c.in_ok-extend_from_slice.ensures.items
    (after c.extend_from_slice.new.self.items key colon c.in_ok-put_key.ensures e))
