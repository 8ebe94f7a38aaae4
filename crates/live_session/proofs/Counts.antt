-- An image counts the records that it holds.
use Rattle.std.proofs.Common.{◌≡◌, suc, List, [], ◌∷◌, length, refl, sym, ap, ◌∙◌, inl, inr}
use Rattle.std.specs.Ordering.{is_le}
use Rattle.std.proofs.lemmas.Bool.{cases_Bool}
use Rattle.live_model.specs.declared.records.Rec.{Rec}
use Rattle.live_model.specs.Maps.{in_order, placed}
use Rattle.live_model.specs.Records.{record_cmp}
use Rattle.file_grammar.specs.Files.{section_records}
use Rattle.obf_reader.specs.Images.{IsImage, Seen}
use Rattle.obf_reader.specs.Overlays.{overlay_of}
use Rattle.obf_reader.proofs.Overlays.{records_are}

one_placed : (x : Rec) (xs : List Rec) → length (placed x xs) ≡ suc (length xs)
one_placed x [] = refl
one_placed x (y ∷ ys) =
    elim (cases_Bool (is_le (record_cmp x y))) [
      | inl first ↦ rw first refl
      | inr later ↦ rw later (ap suc (one_placed x ys))
    ]

-- records in order are as many as before
as_many : (xs : List Rec) → length (in_order xs) ≡ length xs
as_many [] = refl
as_many (x ∷ xs) = one_placed x (in_order xs) ∙ ap suc (as_many xs)

pub counted : (image : Seen) → IsImage image → image.records ≡ length (overlay_of image).records
counted image i = i.holds.records ∙ sym (as_many (section_records i.holds.parts)) ∙ sym (ap length (records_are image i))
