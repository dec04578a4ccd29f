-- The views are all that the reads say; a read that cannot be.
use Rattle.std.proofs.Common.{sym, subst}
use Rattle.tx_views.specs.Views.{AreViews, IsViewed}
use Rattle.tx_judge.proofs.verdict.judge_viewed.Goals as goal

pub judge_views-requires : goal.judge_views-requires
judge_views-requires c =
    let views : AreViews c.args.recording.now c.as_slice.result.now =
    subst (AreViews c.args.recording.now) (sym c.as_slice.ensures.value)
    (subst (IsViewed c.args.recording.now) c.in-Views.is c.requires.viewed) in
    record {
      case = record {
        case = record { recording = c.requires.recording; owners = c.requires.owners; views = views.only };
        views = views;
      };
    }

pub internal-requires-clause-internal : goal.internal-requires-clause-internal
internal-requires-clause-internal c = subst (IsViewed c.args.recording.now) c.in-Internal.is c.requires.viewed

pub returns-in-Internal : goal.returns-in-Internal
returns-in-Internal c = c.internal.ensures
