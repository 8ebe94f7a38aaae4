-- Small scripts: what they spell, and where they break.
use Rattle.std.proofs.Common.{◌≡◌, ℕ, List, [], ◌∷◌, refl, Some, None}
use Rattle.std.specs.Prelude.{codes, ◌++◌}
use Rattle.std.specs.Str.{is_utf8, chars}
use Rattle.std.proofs.Math.Utf8.{encode}
use Rattle.text_pieces.specs.Lines.{lines_from, fields_from}
use Rattle.text_pieces.specs.Numbers.{number_of}
use Rattle.text_pieces.specs.Coordinates.{magnitude_of, degrees_of}
use Rattle.text_pieces.specs.Escapes.{character_of, unescaped, text_of}
use Rattle.live_model.specs.declared.queries.Query.TheVariants.{View, Prefix}
use Rattle.live_model.specs.OplTexts.{object_lines}
use Rattle.live_model.specs.Points.{rect_of}
use Rattle.live_model.specs.Rules.{zoom_of}
use Rattle.stamp_core.specs.Hours.{civil_hour}
use Rattle.hour_words.specs.HourWords.{hour_of}
use Rattle.line_texts.specs.Forms.{break_after, spelled_by, text_break}
use Rattle.script_text.specs.declared.breaks.ScriptKind.{ScriptKind}
use Rattle.script_text.specs.declared.breaks.ScriptKind.TheVariants.{NotUtf8, BadLane, BadVerb, BadStamp, BadName, BadQuery, OverLimit}
use Rattle.script_text.specs.declared.steps.Step.{Step}
use Rattle.script_text.specs.declared.steps.What.{What}
use Rattle.script_text.specs.declared.steps.What.TheVariants.{Publish, Ask}
use Rattle.script_text.specs.Scripts.{lane_of, script_form, step_break, step_of, verb_of}

opened : Unit {0}
unfolding lines_from fields_from number_of magnitude_of degrees_of character_of unescaped text_of rect_of zoom_of lane_of verb_of step_of step_break is_utf8 chars encode
opened = tt

abbrev step : ℕ → What → Step
step lane what = record { lane = lane; what = what }

-- A script.

abbrev session : List ℕ
session = codes "0 P 2024-02-29-23 c%20%1.opl" ++ 10 ∷ codes "# a note" ++ 10 ∷ 9 ∷ codes " 1  Q A x " ++ 13 ∷ 10 ∷ []

-- a line that begins with `#` is skipped, blanks stand before, between and after fields, an escape stands for its character
session_steps : spelled_by script_form (object_lines session) ≡ Some (step 0 (Publish (civil_hour 2024 2 29 23) (codes "c 1.opl")) ∷ step 1 (Ask (Prefix (codes "x"))) ∷ [])
unfolding opened
session_steps = refl

session_unbroken : text_break script_form session ≡ None
unfolding opened
session_unbroken = refl

a_view : step_of (codes "0 Q V 13.49 52.59 13.51 52.61 15")
    ≡ Some (step 0 (Ask (View (record { left = 1934900000; top = 373900000; right = 1935100000; bottom = 374100000 }) 15)))
unfolding opened
a_view = refl

-- Breaks.

abbrev Breaks : List ℕ → ℕ → ScriptKind → Type 0
Breaks text at kind = text_break script_form text ≡ Some (at, kind)

lane_of_nine : Breaks (codes "9 Q A x") 0 BadLane
unfolding opened
lane_of_nine = refl

lane_of_two_digits : Breaks (codes "00 Q A x") 0 BadLane
unfolding opened
lane_of_two_digits = refl

lane_after_blanks : Breaks (codes "  8 Q A x") 2 BadLane
unfolding opened
lane_after_blanks = refl

-- a missing verb stands at the line's end, before a carriage return
no_verb : Breaks (codes "0 " ++ 13 ∷ 10 ∷ []) 2 BadVerb
unfolding opened
no_verb = refl

other_verb : Breaks (codes "0 p 2024-01-01-00 c") 2 BadVerb
unfolding opened
other_verb = refl

no_such_day : Breaks (codes "0 P 2023-02-29-00 c") 4 BadStamp
unfolding opened
no_such_day = refl

short_stamp : Breaks (codes "0 P 2024-2-29-00 c") 4 BadStamp
unfolding opened
short_stamp = refl

no_stamp : Breaks (codes "0 P") 3 BadStamp
unfolding opened
no_stamp = refl

no_name : Breaks (codes "0 P 2024-01-01-00 ") 18 BadName
unfolding opened
no_name = refl

bad_name : Breaks (codes "0 P 2024-01-01-00 a=b") 18 BadName
unfolding opened
bad_name = refl

-- a bad name comes before a field that is too many
bad_name_first : Breaks (codes "0 P 2024-01-01-00 a=b c") 18 BadName
unfolding opened
bad_name_first = refl

field_after_name : Breaks (codes "0 P 2024-01-01-00 a b") 20 BadName
unfolding opened
field_after_name = refl

no_query : Breaks (codes "7 Q") 3 BadQuery
unfolding opened
no_query = refl

bad_query : Breaks (codes "7 Q  W x") 5 BadQuery
unfolding opened
bad_query = refl

-- bytes that are no UTF-8 break at the line's first byte
no_utf8 : Breaks (codes "0 Q A x" ++ 10 ∷ codes "0 Q A " ++ 255 ∷ []) 8 NotUtf8
unfolding opened
no_utf8 = refl

-- the first test decides: the stamp comes before the name
stamp_before_name : Breaks (codes "0 P x a=b") 4 BadStamp
unfolding opened
stamp_before_name = refl

-- the 100,001st line is over the limit, whatever it is
too_many : break_after script_form 100000 (codes "9") ≡ Some (0, OverLimit)
too_many = refl

year_zero : hour_of (codes "0000-02-29-00") ≡ Some (civil_hour 0 2 29 0)
year_zero = refl
