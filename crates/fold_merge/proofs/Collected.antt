-- What is collected of images and then sorted are the records of their fold.
use Rattle.std.proofs.Common.{◌≡◌, List, [], ◌∷◌, ◌++◌, Option, Some, None, refl, sym, ap, ◌∙◌}
use Rattle.std.specs.Prelude.{filter, map, Result, Ok, Err}
use Rattle.std.specs.List.{AllByRecursion}
use Rattle.std.proofs.lemmas.List.Elements.{filter-append}
use Rattle.live_model.specs.declared.records.Rec.{Rec}
use Rattle.live_model.specs.Maps.{Overlay, folded, in_order}
use Rattle.live_model.specs.MapLaws.{MarksItsRecords}
use Rattle.obf_wire.specs.declared.file.FileBreak.{FileBreak}
use Rattle.file_grammar.specs.Files.{FileParts, file_in}
use Rattle.file_grammar.specs.Messages.{Fields}
use Rattle.obf_reader.specs.Images.{Seen}
use Rattle.obf_reader.specs.Spread.{read_file}
use Rattle.ordered_lists.proofs.StableSort.{filter_swap}
use Rattle.map_laws.specs.Laws.{later_records, untouched_by}
use Rattle.map_laws.proofs.InOrder.{alike, keeps, ranked}
use Rattle.map_laws.proofs.MoreLaws.{merged_is}
use Rattle.obf_reader.specs.Overlays.{overlay_of, records_in, records_of, records_read}
use Rattle.fold_merge.specs.Collecting.{collected, sections_in, sections_of, sections_read}
use Rattle.fold_merge.specs.Folds.{overlays_of}

-- the records of a file are those of its sections, in order
pub sections_sorted : (bytes : List _) → records_in bytes ≡ in_order (sections_in bytes)
unfolding records_in sections_in
sections_sorted bytes = of_read (read_file bytes)
  where
    of_parts : (parts : Option FileParts) → records_of parts ≡ in_order (sections_of parts)
    of_parts None = refl
    of_parts (Some parts) = refl

    of_read : (read : Result Fields FileBreak) → records_read read ≡ in_order (sections_read read)
    of_read (Err b) = refl
    of_read (Ok fields) = of_parts (file_in fields)

-- of each rank the same records are collected as no later image decides on
same_collected : (images : List Seen) (z : Rec) → filter (ranked z) (collected images) ≡ filter (ranked z) (later_records (overlays_of images))
same_collected [] z = refl
same_collected (i ∷ is) z =
    let test : Rec → _ = untouched_by (overlays_of is) in
    let there : List Rec = sections_in i.bytes in
    filter-append (ranked z) (filter test there) (collected is)
    ∙ ap (λ (rs : List Rec). rs ++ filter (ranked z) (collected is))
    (filter_swap (ranked z) test there
    ∙ ap (filter test) (sym (keeps there z) ∙ ap (filter (ranked z)) (sym (sections_sorted i.bytes)))
    ∙ sym (filter_swap (ranked z) test (overlay_of i).records))
    ∙ ap (λ (rs : List Rec). filter (ranked z) (filter test (overlay_of i).records) ++ rs) (same_collected is z)
    ∙ sym (filter-append (ranked z) (filter test (overlay_of i).records) (later_records (overlays_of is)))

-- sorted, they are those of the fold
pub collected_fold : (images : List Seen) → AllByRecursion MarksItsRecords (overlays_of images) → in_order (collected images) ≡ (folded (overlays_of images)).records
collected_fold images marked =
    alike (collected images) (later_records (overlays_of images)) (same_collected images) ∙ sym (ap (λ (o : Overlay). o.records) (merged_is (overlays_of images) marked))
