use Rattle.addr_read.proofs.view.View.at.Goals as goal

pub of-requires-clause-sound : goal.of-requires-clause-sound
of-requires-clause-sound c =
    let s = c.requires in
    record { address = s.address; holds = c.read_fields.ensures.read s.fields s.at s.address s.read s.is; sound = s.sound }
