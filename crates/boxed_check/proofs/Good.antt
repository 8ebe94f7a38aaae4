-- What is kept of a section has no break.
use Rattle.std.proofs.Common.{◌≡◌, None, Result, Ok, Err, refl, ap, ◌∙◌}
use Rattle.obf_wire.specs.declared.file.FileBreak.{FileBreak}
use Rattle.obf_wire.specs.Fields.{Window}
use Rattle.file_grammar.specs.declared.parts.Boxed.{Boxed}
use Rattle.file_grammar.specs.declared.parts.Part.TheVariants.{Boxes}
use Rattle.file_grammar.specs.BoxRules.{Beside, Boxing, section_facts}
use Rattle.file_grammar.specs.Facts.{AllHold}
use Rattle.file_grammar.specs.Messages.{Fields}
use Rattle.file_grammar.specs.Readings.{message_at}
use Rattle.file_grammar.specs.Sections.{section_in}
use Rattle.file_grammar.proofs.Earlier.{one_first_break_law}
use Rattle.boxed_exact.specs.Breaks.{form_then, rules_break, section_break}
use Rattle.boxed_check.specs.declared.kept.Kept.{Kept}
use Rattle.boxed_check.specs.Keeping.{IsKept}

pub kept_good : (class : Boxed) (boxing : Boxing) (beside : Beside) (w : Window) (kept : Kept) → IsKept class boxing beside w kept → section_break class boxing beside w ≡ None
kept_good class boxing beside w kept k =
    let none : rules_break boxing beside k.fields ≡ None = (one_first_break_law (section_facts boxing beside (section_in k.fields))).none.1 k.sound in
    ap (form_then (rules_break boxing beside)) k.read ∙ none

-- a section without a break was read, and every rule holds of it
pub record IsUnbroken (class : Boxed) (boxing : Boxing) (beside : Beside) (w : Window) : Type 0 where
  pub fields : Fields
  pub read : message_at (Boxes class) w ≡ Ok fields
  pub sound : AllHold (section_facts boxing beside (section_in fields))

pub unbroken : (class : Boxed) (boxing : Boxing) (beside : Beside) (w : Window) → section_break class boxing beside w ≡ None → IsUnbroken class boxing beside w
unbroken class boxing beside w none = by (message_at (Boxes class) w) refl none where
  by : (r : Result Fields FileBreak) → message_at (Boxes class) w ≡ r → form_then (rules_break boxing beside) r ≡ None → IsUnbroken class boxing beside w
  by (Ok fields) e h = record { fields = fields; read = e; sound = (one_first_break_law (section_facts boxing beside (section_in fields))).none.0 h }
  by (Err b) e h = absurd cc
