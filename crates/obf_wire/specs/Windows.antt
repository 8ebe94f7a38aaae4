-- A window as the code holds it.
use Rattle.obf_wire.specs.declared.window.Window.{Window as Held}
use Rattle.obf_wire.specs.Fields.{Window, part_of}

-- the part of the bytes that a window of the code is
abbrev pub range_of : Held → Window
range_of held = part_of held.bytes.now held.from held.to
