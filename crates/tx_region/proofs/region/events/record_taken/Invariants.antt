use Rattle.tx_core.specs.declared.event.Event.TheVariants.{Took}
use Rattle.tx_region.proofs.region.events.record_taken.Given as goal

-- the event is what the region took
abbrev pub ghosts-record_event : goal.ghosts-record_event
ghosts-record_event g a =
    record {
      event = Took record {
        region = a.seat.now.seat;
        body = a.body.now;
        loaded = a.loaded;
        answer = a.answer.now;
      };
    }
