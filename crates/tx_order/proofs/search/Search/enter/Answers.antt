-- The search after a step to a new node.
use Rattle.std.proofs.Common.{arith}
use Rattle.std.proofs.lemmas.Grind.{common_steps}
use Rattle.tx_order.proofs.NodeEntries.{Enters, entered, entered-met, entered-smaller}
use Rattle.tx_order.proofs.search.Search.enter.Goals as goal

pub returns-clause-search : goal.returns-clause-search
returns-clause-search c =
    let q = c.args.self.now in
    let all : Enters c.args.edges.now q.marks.items q.path.items q.done c.args.node c.first_edge-next.result = record {
      search = c.requires.search;
      within = c.requires.within;
      is_unseen = c.requires.unseen;
      linked = c.requires.linked;
      before = c.first_edge-next.ensures.before;
      upto = c.first_edge-next.ensures.within;
      ahead = c.first_edge-next.ensures.ahead;
    } in
    let new = entered _ _ _ _ _ _ all in
    grind (arith, common_steps, c.push.ensures.items, c.len.ensures, new)

pub returns-clause-met : goal.returns-clause-met
returns-clause-met c = entered-met _ _ _ c.requires.unseen

pub returns-clause-smaller : goal.returns-clause-smaller
returns-clause-smaller c =
    let q = c.args.self.now in
    let all : Enters c.args.edges.now q.marks.items q.path.items q.done c.args.node c.first_edge-next.result = record {
      search = c.requires.search;
      within = c.requires.within;
      is_unseen = c.requires.unseen;
      linked = c.requires.linked;
      before = c.first_edge-next.ensures.before;
      upto = c.first_edge-next.ensures.within;
      ahead = c.first_edge-next.ensures.ahead;
    } in
    let new = entered-smaller _ _ _ _ _ _ all in
    grind (arith, common_steps, c.push.ensures.items, c.len.ensures, new)
