use Rattle.std.proofs.Common.{◌≡◌, sym, ap, ◌∙◌, rules, None, slice_index_or}
use Rattle.std.specs.Option.{is_some}
use Rattle.std.specs.List.{filter}
use Rattle.std.proofs.lemmas.Fn.{filter_same}
use Rattle.tx_latch.specs.Queues.{BetweenCalls, asked_of, links, position_of, last_of, replaced}
use Rattle.tx_latch.proofs.Compact.{compacts}
use Rattle.tx_latch.proofs.queues.Queues.compact.Goals as goal

facts : (c : goal.After-number_all)
    → BetweenCalls c.number_all.new.self × (asked_of c.number_all.new.self ≡ asked_of c.args.self.now)
facts c =
    let kept : c.retain.new.self.items ≡ filter is_some c.args.self.now.asked.items =
    filter_same _ is_some _ (λ x b f' k. search rules) _ _ c.retain.ensures.filtered in
    let items : c.number_all.new.self.asked.items ≡ filter is_some c.args.self.now.asked.items =
    ap (λ v. v.items) c.number_all.ensures.asked ∙ kept in
    compacts c.args.self.now.asked.items c.number_all.new.self.asked.items (position_of c.args.self.now)
    (position_of c.number_all.new.self) (last_of c.args.self.now) (last_of c.number_all.new.self) c.requires.0
    c.requires.1 items
    (λ k. c.number_all.ensures.placed k
    ∙ ap (λ v. replaced (links v.items) 0 k (position_of c.args.self.now k)) (sym c.number_all.ensures.asked))
    (λ s. ap (λ t. slice_index_or t s None) c.number_all.ensures.last)

pub returns-clause-kept : goal.returns-clause-kept
returns-clause-kept c = (facts c).0

pub returns-clause-same : goal.returns-clause-same
returns-clause-same c = (facts c).1
