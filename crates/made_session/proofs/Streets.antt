-- What a street has.
use Rattle.std.proofs.Common.{◌≡◌, ℕ, refl}
use Rattle.live_model.specs.Objects.{AreTags}
use Rattle.made_session.specs.Loads.{way_tags}

-- its keys rise
pub keys_rise : (number : ℕ) → AreTags (way_tags number)
keys_rise number = ((refl, tt), (tt, tt))
