use Rattle.std.proofs.Common.{◌≡◌, slice_get, Some, sym, ap, ◌∙◌}
use Rattle.std.proofs.lemmas.Option.{slice_get-get_or}
use Rattle.tx_engine.specs.Slots.{name_at}
use Rattle.tx_engine.proofs.Engines.{named, not_live}
use Rattle.tx_engine.proofs.slots.live_slot.Goals as goal

pub returns-in_default : goal.returns-in_default
returns-in_default g c =
    let name = c.args.name.now in
    let k = c.in_ok-k.k in
    record {
      named = tt;
      live = tt;
      none = λ e names slots ready. not_live g.J.JournalId.bounds e name k
          (ap (λ ns. name_at ns name) names ∙ (named c.args.names.now name ∙ c.in_ok-k.ensures.some.0)) _
          (ap (λ ps. slice_get ps k) slots ∙ slice_get-get_or c.args.slots.now k _ c.in_ok-k.ensures.some.1)
          c.in_default.not-Live ready;
    }
