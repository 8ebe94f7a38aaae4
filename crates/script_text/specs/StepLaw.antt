-- A script line spells a step exactly where none of its tests fails.
use Rattle.std.proofs.Common.{◌≡◌, ℕ, List, [], ◌∷◌, Bool, true, false, cond, length, Option, Some, None, refl}
use Rattle.std.specs.Prelude.{is_some, is_none}
use Rattle.std.specs.Option.{option_map}
use Rattle.std.specs.Str.{is_utf8}
use Rattle.text_pieces.specs.Lines.{fields_from}
use Rattle.live_model.specs.declared.queries.Query.{Query}
use Rattle.live_model.specs.QueryTexts.{query_from}
use Rattle.stamp_core.specs.Hours.{CivilHour}
use Rattle.hour_words.specs.HourWords.{hour_of}
use Rattle.line_texts.specs.Forms.{IsForm}
use Rattle.script_text.specs.declared.steps.What.{What}
use Rattle.script_text.specs.declared.steps.What.TheVariants.{Publish, Ask}
use Rattle.script_text.specs.declared.breaks.ScriptKind.TheVariants.{NotUtf8, BadLane, BadVerb, BadStamp, BadName, BadQuery}
use Rattle.script_text.specs.declared.fields.Verb.{Verb}
use Rattle.script_text.specs.declared.fields.Verb.TheVariants.{Publishing, Asking}
use Rattle.script_text.specs.Scripts.{StepTest, field_tests, first_failure, first_place, first_text, lane_of, name_of, none_left, others, publication_from, script_form, step_break, step_from, step_in, step_of, step_test, tests_after, verb_of, what_in}

-- after a verb
after_law : (verb : Verb) (end : ℕ) (fields : List (ℕ × List ℕ)) → is_none (first_failure (tests_after (Some verb) end fields)) ≡ is_some (what_in (Some verb) fields)
after_law Publishing end fields = one (hour_of (first_text fields)) (name_of (first_text (others fields))) (none_left (others (others fields)))
  where
    one : (stamp : Option CivilHour) (file : Option (List ℕ)) (alone : Bool)
        → is_none (first_failure (step_test (first_place end fields) BadStamp (is_some stamp) ∷ step_test (first_place end (others fields)) BadName (is_some file) ∷ step_test (first_place end (others (others fields))) BadName alone ∷ []))
        ≡ is_some (publication_from stamp file alone)
    one None file alone = refl
    one (Some stamp) None alone = refl
    one (Some stamp) (Some file) true = refl
    one (Some stamp) (Some file) false = refl
after_law Asking end fields = one (query_from fields)
  where
    one : (q : Option Query) → is_none (first_failure (step_test (first_place end fields) BadQuery (is_some q) ∷ [])) ≡ is_some (option_map Ask q)
    one None = refl
    one (Some q) = refl

-- of the fields of a line
fields_law : (end : ℕ) (fields : List (ℕ × List ℕ)) → is_none (first_failure (field_tests end fields)) ≡ is_some (step_in fields)
fields_law end fields = one (lane_of (first_text fields)) (verb_of (first_text (others fields)))
  where
    given : (lane : ℕ) (what : Option What) (tests : List StepTest) → is_none (first_failure tests) ≡ is_some what → is_none (first_failure tests) ≡ is_some (step_from (Some lane) what)
    given lane None tests e = e
    given lane (Some what) tests e = e

    one : (lane : Option ℕ) (verb : Option Verb)
        → is_none (first_failure (step_test (first_place end fields) BadLane (is_some lane) ∷ step_test (first_place end (others fields)) BadVerb (is_some verb) ∷ tests_after verb end (others (others fields))))
        ≡ is_some (step_from lane (what_in verb (others (others fields))))
    one None verb = refl
    one (Some lane) None = refl
    one (Some lane) (Some verb) = given lane (what_in (Some verb) (others (others fields))) (tests_after (Some verb) end (others (others fields))) (after_law verb end (others (others fields)))

-- A line has no break exactly where it spells a step.
pub steps_are_exact : IsForm script_form
unfolding step_break step_of
steps_are_exact row = one (is_utf8 row)
  where
    one : (utf8 : Bool) → is_none (first_failure (step_test 0 NotUtf8 utf8 ∷ field_tests (length row) (fields_from 0 row))) ≡ is_some (cond utf8 (step_in (fields_from 0 row)) None)
    one false = refl
    one true = fields_law (length row) (fields_from 0 row)
