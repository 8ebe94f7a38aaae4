-- What a reader of a list, or of an item of one, owes where it refuses it.
use Rattle.std.specs.Prelude.{◌≡◌, List, [], ◌∷◌, ◌++◌, Bool, Option, Some, None, if◌then◌else◌}
use Rattle.live_model.specs.declared.opl.OplKind.TheVariants.{BadList, LocatedRef}
use Rattle.opl_reader.specs.declared.value_error.ValueError.{ValueError}
use Rattle.opl_reader.specs.declared.value_error.ValueError.TheVariants.{NoMemory, Bad}

-- memory was refused, or the form is bad and this holds
abbrev pub OnBadList : Type 0 → ValueError → Type 0
OnBadList P NoMemory = Unit {0}
OnBadList P (Bad kind) = (kind ≡ BadList) × P

-- the same of references, where a located one is refused as such
abbrev pub OnBadRef : Type 0 → Bool → ValueError → Type 0
OnBadRef P located NoMemory = Unit {0}
OnBadRef P located (Bad kind) = (kind ≡ (if located then LocatedRef else BadList)) × P

-- an item that spells something, which stands behind what was there
abbrev pub Adds : {A : Type 0} → Option A → List A → List A → Type 0
Adds None before after = ⊥
Adds (Some x) before after = after ≡ before ++ x ∷ []
