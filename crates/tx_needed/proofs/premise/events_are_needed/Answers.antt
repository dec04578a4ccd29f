use Rattle.tx_needed.proofs.cases.Sessions as sessions
use Rattle.tx_needed.proofs.cases.Taken as taken
use Rattle.tx_needed.proofs.premise.events_are_needed.Goals as goal

pub returns : goal.returns
returns c = record {
  draw = sessions.draws;
  begin_drawn = sessions.begins_undrawn;
  begin_once = sessions.begins_again;
  declare_begun = sessions.declares_unbegun;
  declare_once = sessions.declares_again;
  declare_some = sessions.declares_nothing;
  declare_distinct = sessions.declares_twice;
  answer_committed = sessions.answers_committed;
  answer_aborted = sessions.answers_aborted;
  answer_read_only = sessions.answers_read_only;
  answer_begun = sessions.answers_unbegun;
  taken_loaded = taken.loaded;
  taken_holds = taken.misrouted;
}
