-- The image of a packed file is that of its parts.
use Rattle.std.proofs.Common.{◌≡◌, ℕ, List, [], ◌∷◌, length, map, refl, sym, ap, ap₂, subst, ◌∙◌}
use Rattle.std.specs.Prelude.{IfSome, None, Some}
use Rattle.std.specs.List.{AllByRecursion}
use Rattle.live_model.specs.declared.records.Rec.{Rec}
use Rattle.live_model.specs.declared.rules.Rule.{Rule}
use Rattle.live_model.specs.Ids.{Id, IsId, ordinal}
use Rattle.stamp_core.specs.Hours.{IsCivilHour}
use Rattle.stamp_core.specs.declared.head.Head.{Head}
use Rattle.file_grammar.specs.Files.{IsSomeFile, file_break, file_records, head_numbers, whole}
use Rattle.file_grammar.specs.Readings.{IsInMemory}
use Rattle.file_grammar.specs.Sections.{object_of}
use Rattle.file_grammar.specs.declared.parts.Version.TheVariants.{Two}
use Rattle.file_grammar.proofs.FileLaws.{file_law, one_parts_law}
use Rattle.obf_wire.specs.declared.file.FileBreak.{FileBreak}
use Rattle.obf_wire.specs.declared.file.FileError.TheVariants.{Broken}
use Rattle.boxed_exact.specs.Breaks.{Breaks}
use Rattle.boxed_laws.proofs.ObjectNumbers.{object_again}
use Rattle.obf_reader.specs.Images.{IsImage, IsImageFile, Seen}
use Rattle.obf_reader.specs.Overlays.{records_in}
use Rattle.obf_reader.proofs.Overlays.{records_are}
use Rattle.obf_writer.specs.PackedFile.{IsPackedFile}
use Rattle.packed_image.specs.Packed.{IsImageOfParts}
use Rattle.packed_image.proofs.HeldParts.{file_there}
use Rattle.packed_image.proofs.SameHeads.{same_head}

-- the hours of a head, where it has any, are hours of the calendar
abbrev pub AreCivil : Head → Type 0
AreCivil head = IfSome head.first IsCivilHour × IfSome head.last IsCivilHour

-- ids are the objects of their ordinals
ids_again : (ids : List Id) → AllByRecursion IsId ids → map object_of (map ordinal ids) ≡ ids
ids_again [] all = refl
ids_again (o ∷ os) all = ap₂ (λ (p : Id) (ps : List Id). p ∷ ps) (object_again o all.0) (ids_again os all.1)

-- packed bytes are a file
pub some_file : (bytes : List ℕ) (head : Head) (rules : List Rule) (marks : List Id) (records : List Rec) → IsPackedFile bytes (head_numbers head) rules (map ordinal marks) records → IsSomeFile bytes
some_file bytes head rules marks records packed =
    record { version = Two; head = head_numbers head; rules = rules; marks = map ordinal marks; records = records; file = packed.file }

pub image_of_parts : (image : Seen) (bytes : List ℕ) (head : Head) (rules : List Rule) (marks : List Id) (records : List Rec) → image.bytes ≡ bytes → IsPackedFile bytes (head_numbers head) rules (map ordinal marks) records
    → IsImage image → IsImageFile image → IsInMemory (whole image.bytes) → AreCivil image.head → AreCivil head → AllByRecursion IsId marks → IsImageOfParts image head rules marks records
image_of_parts image bytes head rules marks records is given i f memory own civil ids =
    let packed : IsPackedFile image.bytes (head_numbers head) rules (map ordinal marks) records = subst (λ (b : List ℕ). IsPackedFile b (head_numbers head) rules (map ordinal marks) records) (sym is) given in
    let same = one_parts_law image.bytes image.version Two (head_numbers image.head) (head_numbers head) image.rules rules image.marks (map ordinal marks) (file_records i.holds.parts) records memory (file_there image i memory) packed.file in
    let counted = one_parts_law image.bytes image.version Two (head_numbers image.head) (head_numbers head) image.rules rules image.marks (map ordinal marks) f.records records memory f.file packed.file in
    let marks_are : map object_of image.marks ≡ marks = ap (map object_of) same.3 ∙ ids_again marks ids in
    let records_are_these : records_in image.bytes ≡ records = records_are image i ∙ same.4 in
    record {
      packed = packed;
      version = same.0;
      head_is = same_head image.head head own civil same.1;
      rules_are = same.2;
      overlay_is = λ k. record { marks = marks_are k; records = records_are_these k };
      count = f.count ∙ ap length counted.4;
    }

-- bytes that are a file do not break
pub never_broken : (bytes : List ℕ) (b : FileBreak) → IsInMemory (whole bytes) → IsSomeFile bytes → Breaks (Broken b) (file_break bytes) → ⊥
never_broken bytes b memory some breaks = let none : file_break bytes ≡ None = (file_law bytes memory).1 some in let same : None ≡ Some b = sym none ∙ breaks in absurd cc
