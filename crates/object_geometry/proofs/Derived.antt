-- What is made of an object of a store.
use Rattle.std.proofs.Common.{◌≡◌, List, [], Option, Some, None, map, sym, ap}
use Rattle.std.specs.Prelude.{unwrap_or}
use Rattle.std.specs.Option.{option_map}
use Rattle.live_model.specs.declared.objects.Entity.{Entity}
use Rattle.live_model.specs.Ids.{Id}
use Rattle.live_model.specs.Closures.{entity_at, referred, looked_up, closure}
use Rattle.live_model.specs.Records.{of_first}
use Rattle.object_geometry.specs.Referred.{referred_in}

module _ {A : Type 0} (make : Entity → List (Id × Option Entity) → List A) (store : List Entity) (id : Id) where
  made_of : Option Entity → List A
  made_of o = unwrap_or (option_map (λ e. make e (map (looked_up store) (referred o))) o) []

  pub made_of_object : (e : Entity) → Some e ≡ entity_at store id → of_first make (closure store id) ≡ make e (referred_in store e)
  unfolding made_of
  made_of_object e found = ap made_of (sym found)

  pub made_of_nothing : None ≡ entity_at store id → of_first make (closure store id) ≡ []
  unfolding made_of
  made_of_nothing missing = ap made_of (sym missing)
