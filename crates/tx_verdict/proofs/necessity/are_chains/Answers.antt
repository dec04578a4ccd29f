-- One chain more, and past the last there are no versions.
use Rattle.std.proofs.Common.{◌<◌, length, arith, inl, inr}
use Rattle.std.proofs.lemmas.Grind.{common_steps}
use Rattle.std.proofs.lemmas.Bool.{cases_lt}
use Rattle.std.proofs.lemmas.List.{get_or_read}
use Rattle.tx_views.proofs.ReadViews.{below_next}
use Rattle.tx_verdict.specs.Forced.{IsChain}
use Rattle.tx_verdict.proofs.Chains.{chain_of, no_chain}
use Rattle.tx_verdict.proofs.necessity.are_chains.Goals as goal

pub loop-chain-preserved : goal.loop-chain-preserved
loop-chain-preserved c =
    let r = c.args.case.now.recording.now in
    let v = c.args.versions.now in
    let lt : c.loop-chain.chain < length v.names.items =
    grind (arith, common_steps, c.loop-chain-test.true, c.len-chains.ensures) in
    below_next (IsChain r v) c.loop-chain.chain c.loop-chain.invariant
    (chain_of r v c.loop-chain.chain c.index-key.result.now
    (get_or_read v.names.items c.loop-chain.chain c.index-key.result.now lt c.index-key.ensures 0)
    (c.are_writers.ensures c.if-not-are_writers.false) (c.in_ok-is_chain.ensures c.if-not-branch.false))

pub returns : goal.returns
returns c _ q = elim (cases_lt q c.loop-chain.chain) [
  | inl lt ↦ c.loop-chain.invariant q lt
  | inr past ↦ no_chain c.args.case.now.recording.now c.args.versions.now q
      (grind (arith, common_steps, past, c.loop-chain-test.false, c.len-chains.ensures, c.if-chains-len.false))
]
