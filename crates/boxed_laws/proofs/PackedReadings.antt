-- What is packed is read again, and no rule fails; and the order in which records are given does not matter.
use Rattle.std.proofs.Common.{◌≡◌, List, [], ◌∷◌, None, refl, sym, ap, ◌∙◌, map}
use Rattle.std.specs.Prelude.{if◌then◌else◌, Bool, Some}
use Rattle.std.proofs.lemmas.List.Sorted.{IsPermutation-trans}
use Rattle.live_model.specs.declared.rules.Rule.{Rule}
use Rattle.file_grammar.specs.Facts.{Fact, AllHold, earlier, break_of, first_failing}
use Rattle.file_grammar.specs.declared.parts.Part.TheVariants.{Boxes}
use Rattle.file_grammar.proofs.SpelledIsRead.{spelled_is_read}
use Rattle.boxed_write.specs.Classes.{IsPackedBy}
use Rattle.boxed_write.specs.Packed.{Packing, cuts, sorted_by, packing_cmp, packed_blocks, packed}
use Rattle.boxed_write.proofs.Sorting.{sorted_is}
use Rattle.boxed_write.proofs.Orders.{packing_total, same_packed}
use Rattle.boxed_laws.specs.Classes.{BoxedClass, IsLawful}
use Rattle.boxed_laws.specs.Laws.{PackedReadLaw, AnyOrderLaw}
use Rattle.boxed_laws.proofs.KeptItems.{moved_sorted, up_in_order}
use Rattle.boxed_laws.proofs.BareSections.{packed_law}

none_fails : (facts : List Fact) → AllHold facts → first_failing facts ≡ None
none_fails [] all = refl
none_fails (f ∷ fs) all =
    ap (λ (holds : Bool). earlier (if holds then None else Some (break_of f)) (first_failing fs)) all.0 ∙ none_fails fs all.1

pub packed_read : {A : Type 0} (c : BoxedClass A) (suits : List Rule → A → Type 0) → IsLawful c suits → {fits : A → Type 0} → IsPackedBy c.packing fits → PackedReadLaw c suits
packed_read c suits laws packs rules records w few suit memory bytes =
    let s = packed_law c suits laws packs rules records w few suit memory.window memory.few bytes in record {
      fields = s.fields;
      read = spelled_is_read s.fields (Boxes c.class) None w memory s.form.form s.form.spelled;
      sound = none_fails _ s.sound;
      records_are = sym s.records_are;
    }

pub any_order : {A : Type 0} (packing : Packing A) (fits : A → Type 0) → IsPackedBy packing fits → AnyOrderLaw packing fits
unfolding packed
any_order {A} packing fits packs a b all moved =
    let order : List A = sorted_by (packing_cmp packing) b in
    let same = sorted_is (packing_cmp packing) (packing_total packs) fits (same_packed packs) a order all
    (IsPermutation-trans a b order moved (moved_sorted (packing_cmp packing) b)) (up_in_order (packing_cmp packing) (packing_total packs) b) in
    ap (λ (records : List A). packed_blocks packing (map (sorted_by packing.cmp) (cuts 64 records))) (sym same)
