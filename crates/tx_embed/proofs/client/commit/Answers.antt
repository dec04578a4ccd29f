use Rattle.std.proofs.Common.{◌≡◌, rules, refl, sym, subst}
use Rattle.tx_transaction.specs.declared.state.Terms.{Terms}
use Rattle.tx_update.proofs.CallSequences.{goes_itself}
use Rattle.tx_embed.specs.declared.answer.Said.{Said}
use Rattle.tx_embed.specs.declared.client.Slot.TheVariants.{Idle, Open as Opened}
use Rattle.tx_embed.specs.declared.request.ClientAct.TheVariants as acts
use Rattle.tx_embed.specs.Transactions.{Commits}
use Rattle.tx_embed.specs.Acts.{SlotContent, Acts, commit_terms}
use Rattle.tx_embed.proofs.ClientActs.{commit_acts}
use Rattle.tx_embed.proofs.client.commit.Goals as goal

pub returns-in-Open-clause-acts : goal.returns-in-Open-clause-acts
returns-in-Open-clause-acts g c =
    let bounds = g.J.JournalId.bounds in
    let s = c.in-Open.transaction in
    let e = c.commit-ending.result.0 in
    let k = c.commit-ending.result.1 in
    let is : c.args.slot.now ≡ Opened s = search rules in
    let commits : Commits bounds commit_terms s e k =
    subst (λ (t : Terms). Commits bounds t s e k) c.terms.ensures c.commit-ending.ensures.commits in
    subst (λ (a : SlotContent). Acts bounds acts.Commit a c.told_ending.result (Idle k)) (sym is)
    (subst (λ (r : Said). Acts bounds acts.Commit (Opened s) r (Idle k)) (sym c.told_ending.ensures)
    (k, refl, commit_acts bounds s e k commits))

pub returns-in_default : goal.returns-in_default
returns-in_default g c = record { acts = search rules; resolver = goes_itself c.args.resolver }
