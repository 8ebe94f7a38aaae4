-- Steps of walks along lists.
use denote.Ref.{Bor}
use Rattle.std.proofs.Common.{◌≡◌, ◌≢◌, ◌+◌, ◌<◌, ℕ, suc, zero, Bool, true, false, not, List, [], ◌∷◌, ◌++◌, append_assoc, drop, length, map, Option, Some, None, refl, sym, ap, subst, ◌∙◌, arith}
use Rattle.std.specs.Prelude.{filter, flat_map, slice_get}
use Rattle.std.specs.Option.{option_map}
use Rattle.std.proofs.lemmas.List.{map-append}
use Rattle.std.proofs.lemmas.List.Elements.{filter-append}
use Rattle.live_model.specs.declared.records.PoiRec.{PoiRec}
use Rattle.live_model.specs.declared.records.Rec.{Rec}
use Rattle.live_model.specs.declared.records.Rec.TheVariants.{Poi}
use Rattle.live_model.specs.Ids.{Id, IsId, ordinal}
use Rattle.file_order.specs.Runs.{Placed}
use Rattle.file_grammar.specs.Sections.{object_of}
use Rattle.boxed_read.specs.Meeting.{InBoxes}
use Rattle.boxed_read.specs.Steps.{joined}
use Rattle.boxed_write.specs.Classes.{held}
use Rattle.boxed_laws.proofs.ObjectNumbers.{object_again}
use Rattle.poi_section.specs.PoiSections.{GroupRead}
use Rattle.obf_reader.specs.Images.{Seen}
use Rattle.fold_merge.specs.Collecting.{records_of_group}
use Rattle.fold_merge.specs.Folds.{placed_of}

module _ {A : Type 0} where
  -- an item at an index is the first of those from there on
  pub drop_some : (xs : List A) (i : ℕ) (x : A) → slice_get xs i ≡ Some x → drop i xs ≡ x ∷ drop (i + 1) xs
  drop_some [] i x e = absurd cc
  drop_some (y ∷ ys) zero x e = let same : y ≡ x = cc in ap (λ (z : A). z ∷ ys) same
  drop_some (y ∷ ys) (suc i) x e =
      let more : suc i + 1 ≡ suc (i + 1) = omega arith in
      rw more (drop_some ys i x e)

  -- after the last there is nothing
  pub drop_none : (xs : List A) (i : ℕ) → slice_get xs i ≡ None → drop i xs ≡ drop (i + 1) xs
  drop_none [] zero e = refl
  drop_none [] (suc i) e =
      let more : suc i + 1 ≡ suc (i + 1) = omega arith in
      rw more refl
  drop_none (y ∷ ys) zero e = absurd cc
  drop_none (y ∷ ys) (suc i) e =
      let more : suc i + 1 ≡ suc (i + 1) = omega arith in
      rw more (drop_none ys i e)

-- a mark of an image is put
pub mark_put : (old : List Id) (marks : List ℕ) (i : ℕ) (mark : Id) → IsId mark → slice_get marks i ≡ Some (ordinal mark) → (old ++ mark ∷ []) ++ map object_of (drop (i + 1) marks) ≡ old ++ map object_of (drop i marks)
mark_put old marks i mark is at =
    append_assoc old (mark ∷ []) (map object_of (drop (i + 1) marks))
    ∙ ap (λ (m : Id). old ++ m ∷ map object_of (drop (i + 1) marks)) (sym (object_again mark is))
    ∙ sym (ap (λ (ns : List ℕ). old ++ map object_of ns) (drop_some marks i (ordinal mark) at))

-- there is none at an index
pub mark_none : (old : List Id) (marks : List ℕ) (i : ℕ) → slice_get marks i ≡ None → old ++ map object_of (drop (i + 1) marks) ≡ old ++ map object_of (drop i marks)
mark_none old marks i none = sym (ap (λ (ns : List ℕ). old ++ map object_of ns) (drop_none marks i none))

-- what is kept of a group of points of interest is put
pub group_put : (test : Rec → Bool) (old new : List Rec) (pois : List GroupRead) (i : ℕ) (section : InBoxes PoiRec) → option_map (λ g. g.section) (slice_get pois i) ≡ Some section
    → new ≡ old ++ filter test (map Poi (joined section.blocks)) → new ++ filter test (map Poi (flat_map records_of_group (drop (i + 1) pois))) ≡ old ++ filter test (map Poi (flat_map records_of_group (drop i pois)))
group_put test old new pois i section at put = there (slice_get pois i) refl at
  where
    there : (found : Option GroupRead) → slice_get pois i ≡ found → option_map (λ g. g.section) found ≡ Some section
        → new ++ filter test (map Poi (flat_map records_of_group (drop (i + 1) pois))) ≡ old ++ filter test (map Poi (flat_map records_of_group (drop i pois)))
    there None is at = absurd cc
    there (Some g) is at =
        let same : g.section ≡ section = cc in
        let here : List PoiRec = joined section.blocks in
        let rest : List PoiRec = flat_map records_of_group (drop (i + 1) pois) in
        ap (λ (rs : List Rec). rs ++ filter test (map Poi rest)) put
        ∙ append_assoc old (filter test (map Poi here)) (filter test (map Poi rest))
        ∙ ap (λ (rs : List Rec). old ++ rs) (sym (filter-append test (map Poi here) (map Poi rest)) ∙ ap (filter test) (sym (map-append Poi here rest)))
        ∙ ap (λ (s : InBoxes PoiRec). old ++ filter test (map Poi (joined s.blocks ++ rest))) (sym same)
        ∙ sym (ap (λ (gs : List GroupRead). old ++ filter test (map Poi (flat_map records_of_group gs))) (drop_some pois i g is))

-- there is none at an index
pub group_none : (test : Rec → Bool) (old : List Rec) (pois : List GroupRead) (i : ℕ) → slice_get pois i ≡ None
    → old ++ filter test (map Poi (flat_map records_of_group (drop (i + 1) pois))) ≡ old ++ filter test (map Poi (flat_map records_of_group (drop i pois)))
group_none test old pois i none = sym (ap (λ (gs : List GroupRead). old ++ filter test (map Poi (flat_map records_of_group gs))) (drop_none pois i none))

-- some images are borrowed
pub some_held : {A : Type 0} (images : List (Bor A)) → images ≢ [] → held images ≢ []
some_held [] some e = some refl
some_held (i ∷ is) some e = absurd cc

-- where images stand among others does not depend on who borrows them
pub placed_held : (images : List (Bor Seen)) → map (λ f. record { head = f.now.head; rules = f.now.rules }) images ≡ map placed_of (held images)
placed_held [] = refl
placed_held (i ∷ is) = ap (λ (ps : List Placed). placed_of i.now ∷ ps) (placed_held is)
