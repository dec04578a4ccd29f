-- What a verdict is about.
use Rattle.std.specs.Prelude.{Contains}
use Rattle.tx_recording.specs.Recordings.{IsRecording}
use Rattle.tx_views.specs.declared.view.RecordedView.{RecordedView}
use Rattle.tx_views.specs.Owners.{AreOwners}
use Rattle.tx_views.specs.Views.{AreViews, IsViewOf}
use Rattle.tx_verdict.specs.declared.case.Case.{Case}

-- the recording is one; the owners are those of its values; each view is what one of its reads says
pub record IsCase (c : Case) : Type 0 where
  pub recording : IsRecording c.recording.now
  pub owners : AreOwners c.recording.now c.owners.now
  pub views : (v : RecordedView) → Contains c.views.now v → IsViewOf c.recording.now v

-- and its views are all that its reads say
pub record IsWhole (c : Case) : Type 0 where
  pub case : IsCase c
  pub views : AreViews c.recording.now c.views.now
