-- A trace has no bytes and owns no memory, so one that tells any list is had for nothing.
use Rattle.std.specs.Prelude.{[], ◌∷◌, refl}
use Rattle.outside.specs.Readings.{Noted}
use Rattle.outside.specs.contracts.trace.Trace.{the_row}
use base.Logic.{ent, emp}
use mir.Val.{Val, vstruct, vnil}
use seplogic.Ra.Ura.{Ura}
use types.Logic.{Logic, sem}
use denote.Shadow.{makes_shadow}

-- how the machine has a struct without bytes
abbrev pub no_bytes : Val
no_bytes = vstruct vnil

-- the fields' part is one equation, and the part beside it says nothing
pub for_nothing : {M : Type 1} {𝓤 : Ura M} (𝓛 : Logic 𝓤) (told : Noted) → ent 𝓤 (emp 𝓤) (sem 𝓛 (the_row.own_val (record { noted = told }) (no_bytes ∷ [])))
for_nothing 𝓛 told = makes_shadow 𝓛 (the_row.own_val (record { noted = told }) (no_bytes ∷ [])) (λ fields. (tt, tt), tt) ((tt, (refl, tt)), tt)
