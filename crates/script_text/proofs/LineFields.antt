-- The fields of a script line: that they are UTF-8, and how the line breaks at one that spells nothing.
use Rattle.std.proofs.Common.{◌≡◌, ◌≤◌, ◌<◌, ℕ, List, [], ◌∷◌, Option, Some, None, length, refl, sym, ap, ◌∙◌, subst, arith, IsTrue}
use Rattle.std.specs.Str.{is_utf8}
use Rattle.text_pieces.specs.Escapes.{text_of}
use Rattle.text_pieces.specs.Numbers.{number_of}
use Rattle.query_text.specs.Reading.{AreTexts}
use Rattle.stamp_core.specs.Hours.{CivilHour}
use Rattle.hour_words.specs.HourWords.{hour_of}
use Rattle.line_texts.specs.declared.errors.LineError.{LineError}
use Rattle.line_texts.specs.declared.errors.LineError.TheVariants.{NoMemory, Broken}
use Rattle.script_text.specs.declared.breaks.ScriptKind.{ScriptKind}
use Rattle.script_text.specs.declared.breaks.ScriptKind.TheVariants.{BadLane, BadVerb, BadName}
use Rattle.script_text.specs.declared.fields.Verb.TheVariants.{Publishing}
use Rattle.script_text.specs.Names.{IsUnnamed}
use Rattle.script_text.specs.Readings.{IsFailure}
use Rattle.script_text.specs.Scripts.{field_tests, first_failure, lane_of, name_of, tests_after, verb_of}

-- those after the first are UTF-8
pub texts_after : (all : List (ℕ × List ℕ)) (first : ℕ × List ℕ) (fields : List (ℕ × List ℕ)) → AreTexts all → all ≡ first ∷ fields → AreTexts fields
texts_after all first fields texts e = (subst AreTexts e texts).1

-- the first is
pub text_first : (all : List (ℕ × List ℕ)) (first : ℕ × List ℕ) (fields : List (ℕ × List ℕ)) → AreTexts all → all ≡ first ∷ fields → IsTrue (is_utf8 first.1)
text_first all first fields texts e = (subst AreTexts e texts).0

-- a field that is there names what it spells
pub named_by : (field : List ℕ) → 0 < length field → name_of field ≡ text_of field
named_by [] some = absurd (omega arith)
named_by (c ∷ cs) some = refl

-- no field, no lane
no_lane : lane_of [] ≡ None
unfolding lane_of number_of
no_lane = refl

-- no field, no verb
no_verb : verb_of [] ≡ None
unfolding verb_of
no_verb = refl

-- where the line breaks
broken_there : (tests : _) (end at : ℕ) (kind : ScriptKind) (e : LineError ScriptKind) → e ≡ Broken (record { at = at; kind = kind }) → first_failure tests ≡ Some (at, kind) → at ≤ end → IsFailure tests end e
broken_there tests end at kind e is first within = subst (IsFailure tests end) (sym is) (first, within)

-- a line of blanks has no lane
pub without_lane : (end : ℕ) (fields : List (ℕ × List ℕ)) (e : LineError ScriptKind) → fields ≡ [] → e ≡ Broken (record { at = end; kind = BadLane }) → IsFailure (field_tests end fields) end e
without_lane end fields e none is =
    subst (λ (fs : List (ℕ × List ℕ)). IsFailure (field_tests end fs) end e) (sym none)
    (broken_there (field_tests end []) end end BadLane e is (rw no_lane refl) (omega arith))

-- a lane alone has no verb
pub without_verb : (end : ℕ) (fields : List (ℕ × List ℕ)) (first : ℕ × List ℕ) (rest : List (ℕ × List ℕ)) (lane : ℕ) (e : LineError ScriptKind) → fields ≡ first ∷ rest → rest ≡ [] → lane_of first.1 ≡ Some lane
    → e ≡ Broken (record { at = end; kind = BadVerb }) → IsFailure (field_tests end fields) end e
without_verb end fields first rest lane e are none reads is =
    subst (λ (fs : List (ℕ × List ℕ)). IsFailure (field_tests end fs) end e) (sym (are ∙ ap (λ r. first ∷ r) none))
    (broken_there (field_tests end (first ∷ [])) end end BadVerb e is (rw (reads, no_verb) refl) (omega arith))

-- a publication of a file without a name
pub without_name : (end : ℕ) (fields : List (ℕ × List ℕ)) (hour : ℕ × List ℕ) (rest : List (ℕ × List ℕ)) (name : ℕ × List ℕ) (left : List (ℕ × List ℕ)) (stamp : CivilHour) (e : LineError ScriptKind)
    → fields ≡ hour ∷ rest → rest ≡ name ∷ left → hour_of hour.1 ≡ Some stamp → name.0 ≤ end → IsUnnamed name.0 name.1 e → IsFailure (tests_after (Some Publishing) end fields) end e
without_name end fields hour rest name left stamp NoMemory are more reads within unnamed = tt
without_name end fields hour rest name left stamp (Broken b) are more reads within unnamed =
    subst (λ (fs : List (ℕ × List ℕ)). IsFailure (tests_after (Some Publishing) end fs) end (Broken b)) (sym (are ∙ ap (λ r. hour ∷ r) more))
    (broken_there (tests_after (Some Publishing) end (hour ∷ name ∷ left)) end name.0 BadName (Broken b) (ap Broken unnamed.0) (rw (reads, unnamed.1) refl) within)
