-- Events and replies, seen without the owners of what they carry.
use Rattle.std.specs.Arc.{arc_value}
use Rattle.overlay_set.specs.declared.events.Event.{Event as OwnedEvent}
use Rattle.overlay_set.specs.declared.events.Event.TheVariants as event
use Rattle.overlay_set.specs.declared.events.Reply.{Reply as OwnedReply}
use Rattle.overlay_set.specs.declared.events.Reply.TheVariants as reply
use Rattle.overlay_set.specs.Machines.{Event, Publish, Plan, Commit, Take, Ask, Drop, Tell, Shrink, Reply, Accepted, Late, HistoryFull, FilesFull, Rows, Planned, Folded, Overtaken, NothingPlanned, NotTaken, Done}

-- what happens
abbrev pub event_of : OwnedEvent → Event
event_of (event.Publish pass stamp tag lines) = Publish pass stamp tag (arc_value lines)
event_of (event.Plan worker) = Plan worker
event_of (event.Commit worker) = Commit worker
event_of (event.Take pass) = Take pass
event_of (event.Ask pass query) = Ask pass query
event_of (event.Drop pass) = Drop pass
event_of (event.Tell from to) = Tell from to
event_of event.Shrink = Shrink

-- what is answered
abbrev pub reply_of : OwnedReply → Reply
reply_of (reply.Accepted front) = Accepted front
reply_of (reply.Late front last) = Late front last
reply_of (reply.HistoryFull front) = HistoryFull front
reply_of (reply.FilesFull front) = FilesFull front
reply_of (reply.Rows front rows) = Rows front rows
reply_of (reply.Planned found) = Planned found
reply_of reply.Folded = Folded
reply_of (reply.Overtaken file) = Overtaken file
reply_of reply.NothingPlanned = NothingPlanned
reply_of reply.NotTaken = NotTaken
reply_of reply.Done = Done
