-- A judge as plain data.
use Rattle.vdcp_auto.specs.declared.notes.Notes.{Notes}
use Rattle.vdcp_auto.specs.Judging.{View}

-- the judge of a source that knows this
abbrev pub view_of : {S : Type 0} → S → Notes → View S
view_of source notes =
    record {
      source = source;
      mode = notes.mode;
      settled = notes.settled;
      has_open_play = notes.has_open_play;
      may_have_aired = notes.may_have_aired;
      stopped = notes.stopped;
      closed = notes.closed;
      granted = notes.granted;
      last_cue = notes.last_cue;
    }
