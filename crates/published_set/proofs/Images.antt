-- What an image stands for is what its file holds.
use Rattle.std.proofs.Common.{◌≡◌, ℕ, true, List, [], ◌∷◌, map, None, Ok, refl, sym, ap, ap₂, subst, ◌∙◌}
use Rattle.std.specs.List.{list_all}
use Rattle.std.proofs.lemmas.Bool.{and_parts}
use Rattle.live_model.specs.declared.records.Rec.{Rec}
use Rattle.live_model.specs.declared.rules.Rule.{Rule}
use Rattle.live_model.specs.Ids.{ordinal}
use Rattle.file_grammar.specs.BoxRules.{is_ordinal}
use Rattle.file_grammar.specs.Sections.{object_of}
use Rattle.file_grammar.specs.Files.{HeadNumbers, IsFile, head_numbers, version_of, whole}
use Rattle.file_grammar.specs.declared.parts.Version.{Version}
use Rattle.file_grammar.specs.declared.parts.Part.TheVariants.{File}
use Rattle.file_grammar.proofs.SpelledIsRead.{spelled_is_read}
use Rattle.file_grammar.specs.Readings.{IsInMemory, message_at}
use Rattle.obf_reader.specs.Images.{IsImage, Seen}
use Rattle.obf_reader.specs.Overlays.{records_in, records_of, records_read}
use Rattle.obf_reader.specs.Spread.{read_file}
use Rattle.obf_reader.proofs.Images.{file_of}
use Rattle.boxed_laws.proofs.ObjectNumbers.{ordinal_again}
use Rattle.published_set.specs.Images.{IsItsFile, image_of}

ordinals_at : (marks : List ℕ) → list_all is_ordinal marks ≡ true → map ordinal (map object_of marks) ≡ marks
ordinals_at [] all = refl
ordinals_at (n ∷ ns) all =
    let both = and_parts (is_ordinal n) (list_all is_ordinal ns) all in
    ap₂ (λ (m : ℕ) (ms : List ℕ). m ∷ ms) (ordinal_again n both.0) (ordinals_at ns both.1)

-- the records are those that are found by reading the bytes
records_are : (bytes : List ℕ) (version : Version) (head : HeadNumbers) (rules : List Rule) (marks : List ℕ) (records : List Rec) → IsInMemory (whole bytes) → version ≡ version_of bytes
    → IsFile bytes version head rules marks records → records ≡ records_in bytes
unfolding records_in
records_are bytes version head rules marks records memory own f =
    let read : read_file bytes ≡ Ok f.fields =
    ap (λ (v : Version). message_at (File v) (whole bytes)) (sym own) ∙ spelled_is_read f.fields (File version) None (whole bytes) memory f.form.form f.form.spelled in
    f.records_are ∙ sym (ap records_read read ∙ ap records_of f.parts_are)

pub its_file : (image : Seen) → IsImage image → IsInMemory (whole image.bytes) → IsItsFile image (image_of image)
its_file image i memory =
    let f = file_of image i memory in
    subst (λ (marks : List ℕ). IsFile image.bytes image.version (head_numbers image.head) image.rules marks (records_in image.bytes)) (sym (ordinals_at image.marks i.marks.0))
    (subst (λ (records : List Rec). IsFile image.bytes image.version (head_numbers image.head) image.rules image.marks records)
    (records_are image.bytes image.version (head_numbers image.head) image.rules image.marks f.records memory i.holds.version f.file) f.file)
