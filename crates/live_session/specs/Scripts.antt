-- Publications of a script.
use Rattle.std.specs.Prelude.{ℕ, List, length, filter, Bool, true, false}
use Rattle.script_text.specs.declared.steps.Step.{Step}
use Rattle.script_text.specs.declared.steps.What.{What}
use Rattle.script_text.specs.declared.steps.What.TheVariants.{Publish, Ask}

-- the line publishes
abbrev pub publishes : What → Bool
publishes (Publish stamp file) = true
publishes (Ask query) = false

-- how many lines do
abbrev pub publications : List Step → ℕ
publications steps = length (filter (λ s. publishes s.what) steps)

-- those of what lines do that are publications
abbrev pub publishing : List What → List What
publishing whats = filter publishes whats
