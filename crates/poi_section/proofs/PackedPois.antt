-- The laws of packed sections, of points of interest.
use Rattle.std.proofs.Common.{◌≡◌, ℕ, zero, suc, List, [], ◌∷◌, ◌++◌, length, take, drop, ◌≤◌, refl, sym, ap, subst, ◌∙◌, arith}
use Rattle.std.specs.Prelude.{flat_map, pos}
use Rattle.std.specs.List.Sorted.{IsPermutation}
use Rattle.std.specs.Cmp.{IsTotalOrder}
use Rattle.std.proofs.lemmas.Cmp.{nat_list_cmp_total, on_total}
use Rattle.std.proofs.lemmas.List.{take-append-drop}
use Rattle.std.proofs.lemmas.List.Sorted.{IsPermutation-refl, IsPermutation-trans, IsPermutation-append}
use Rattle.live_model.specs.declared.ids.Kind.TheVariants.{Node}
use Rattle.live_model.specs.declared.records.PoiRec.{PoiRec}
use Rattle.ordered_lists.proofs.StableSort.{permuted, sort_by, stable, up_sorted}
use Rattle.boxed_write.proofs.Sorting.{AreUp}
use Rattle.boxed_laws.specs.Laws.{in_blocks}
use Rattle.boxed_laws.proofs.BareSections as B
use Rattle.boxed_laws.proofs.FittingRecords as F
use Rattle.boxed_laws.proofs.KeptItems as K
use Rattle.boxed_laws.proofs.PackedReadings as R
use Rattle.poi_section.specs.Packed.{IsPlaced, categories_of, category_cmp, of_category, poi_packing, run_of}
use Rattle.poi_section.specs.PoiOrder.{poi_laws}
use Rattle.poi_section.specs.PoiLawful.{FitsCategory, poi_class, poi_lawful}
use Rattle.poi_section.specs.Laws.{AnyOrderLaw, FittingLaw, KeptLaw, PackedLaw, PackedReadLaw, in_groups}
use Rattle.poi_section.proofs.Groups.{alike_groups, behind_fewer, by_groups, first_made, up_behind}

pub packed_law : PackedLaw
packed_law category named = B.packed_law (poi_class category) (FitsCategory category) (poi_lawful category named) poi_laws

pub packed_read : PackedReadLaw
packed_read category named = R.packed_read (poi_class category) (FitsCategory category) (poi_lawful category named) poi_laws

pub fitting : FittingLaw
fitting category named = F.fitting (poi_class category) (FitsCategory category) (poi_lawful category named)

pub any_order : AnyOrderLaw
any_order = R.any_order poi_packing IsPlaced poi_laws

-- ---- each record stands in one group

-- the records category by category
abbrev gathered : List PoiRec → List PoiRec
gathered ps = by_groups (λ c qs. qs) ps

-- records in the order of their categories stand so category by category
gathered_within : (n : ℕ) (ps : List PoiRec) → length ps ≤ n → AreUp category_cmp ps → gathered ps ≡ ps
gathered_within n [] few up = refl
gathered_within zero (p ∷ ps) few up = absurd (omega arith)
gathered_within (suc n) (p ∷ ps) few up =
    let all : List PoiRec = p ∷ ps in
    let count : ℕ = run_of p.category all in
    first_made (λ c qs. qs) p ps up
    ∙ ap (λ (rest : List PoiRec). take count all ++ rest) (gathered_within n (drop count all) (behind_fewer n p ps few) (up_behind count all up))
    ∙ take-append-drop count all

total : IsTotalOrder category_cmp
total = on_total (λ (p : PoiRec). p.category) nat_list_cmp_total

-- a record of a category, and nothing else of note
abbrev some_poi : List ℕ → PoiRec
some_poi z = record { id = record { kind = Node; number = pos 0 }; category = z; name = []; point = record { x = 0; y = 0 } }

gathered_moves : (ps : List PoiRec) → IsPermutation ps (gathered ps)
gathered_moves ps =
    let order : List PoiRec = sort_by category_cmp ps in
    subst (IsPermutation ps)
    (sym (gathered_within (length order) order (omega arith) (up_sorted category_cmp total ps)) ∙ alike_groups (λ c qs. qs) order ps (λ z. stable category_cmp total ps (some_poi z)))
    (permuted category_cmp total ps)

in_groups_moves : (ps : List PoiRec) (cs : List (List ℕ)) → IsPermutation (flat_map (λ c. of_category c ps) cs) (flat_map (λ c. in_blocks poi_packing (of_category c ps)) cs)
in_groups_moves ps [] = IsPermutation-refl []
in_groups_moves ps (c ∷ cs) =
    IsPermutation-append (of_category c ps) (in_blocks poi_packing (of_category c ps)) (flat_map (λ d. of_category d ps) cs) (flat_map (λ d. in_blocks poi_packing (of_category d ps)) cs)
    (K.kept poi_packing (of_category c ps)) (in_groups_moves ps cs)

pub kept : KeptLaw
kept ps = IsPermutation-trans ps (gathered ps) (in_groups ps) (gathered_moves ps) (in_groups_moves ps (categories_of ps))
