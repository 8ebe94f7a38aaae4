-- How turn restrictions are packed.
use Rattle.std.specs.Prelude.{ℕ, List, [], ◌∷◌, ◌++◌}
use Rattle.live_model.specs.declared.records.BanRec.{BanRec}
use Rattle.live_model.specs.Ids.{IsId, ordinal}
use Rattle.live_model.specs.Geometry.{box_of_point}
use Rattle.live_model.specs.Records.{restriction_cmp}
use Rattle.obf_wire.specs.Zigzag.{zigzag}
use Rattle.obf_wire.specs.Fields.{number_field, short_field}
use Rattle.coord_delta.specs.Steps.{point_list}
use Rattle.boxed_write.specs.Packed.{Packing, text_number, packed}

-- the way that is left, the node and the way that is entered
abbrev pub turn_fields : BanRec → List ℕ
turn_fields ban = number_field 3 (zigzag ban.from) ++ number_field 4 (zigzag ban.via) ++ number_field 5 (zigzag ban.to)

-- the number of the value, the turn, and the point of the node
abbrev pub ban_fields : List (List ℕ) → BanRec → List ℕ
ban_fields texts ban = number_field 2 (text_number texts ban.value) ++ turn_fields ban ++ short_field 6 (point_list (ban.point ∷ []))

abbrev pub ban_packing : Packing BanRec
ban_packing = record { cmp = restriction_cmp; ordinal = λ ban. ordinal ban.id; box = λ ban. box_of_point ban.point; texts = λ ban. ban.value ∷ []; fields = ban_fields }

-- the bytes of the section of these restrictions
abbrev pub packed_bans : List BanRec → List ℕ
packed_bans bans = packed ban_packing bans

-- the number of the object has magnitude at most 2^48
abbrev pub IsNumbered : BanRec → Type 0
IsNumbered ban = IsId ban.id
