-- What scripts hold, as their bytes tell, and the files that they name.
use Rattle.std.specs.Prelude.{ℕ, List, [], filter_map, Option, Some, None, unwrap_or}
use Rattle.live_model.specs.OplTexts.{object_lines}
use Rattle.line_texts.specs.Forms.{spelled_by}
use Rattle.script_text.specs.declared.steps.Step.{Step}
use Rattle.script_text.specs.declared.steps.What.{What}
use Rattle.script_text.specs.declared.steps.What.TheVariants.{Publish, Ask}
use Rattle.script_text.specs.Scripts.{script_form}

-- the steps that the lines of a script spell; a script without a break always spells some list
abbrev pub steps_in : List ℕ → List Step
steps_in bytes = unwrap_or (spelled_by script_form (object_lines bytes)) []

-- the file of a publication; a question names none
abbrev pub file_of : What → Option (List ℕ)
file_of (Publish stamp file) = Some file
file_of (Ask query) = None

-- the files of their publications, in the order of the lines; one that is named twice comes twice
abbrev pub changes_named : List Step → List (List ℕ)
changes_named steps = filter_map (λ s. file_of s.what) steps
