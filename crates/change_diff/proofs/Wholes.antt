-- The records of a store, object by object.
use Rattle.std.proofs.Common.{◌≡◌, List, [], ◌∷◌, ◌++◌, sym, subst, ◌∙◌, ap, append_assoc}
use Rattle.std.specs.List.{AllByRecursion, flat_map}
use Rattle.std.specs.List.Sorted.{IsSorted}
use Rattle.std.proofs.lemmas.List.{append-nil}
use Rattle.live_model.specs.declared.objects.Entity.{Entity}
use Rattle.live_model.specs.declared.rules.Rule.{Rule}
use Rattle.live_model.specs.declared.records.Rec.{Rec}
use Rattle.live_model.specs.CanonicalLines.{HasTexts}
use Rattle.live_model.specs.Fits.{FitsRules}
use Rattle.live_model.specs.Maps.{map_of}
use Rattle.live_model.specs.Records.{record_cmp, records}
use Rattle.live_model.specs.Rules.{IsRule}
use Rattle.live_model.specs.Stores.{IsStore}
use Rattle.map_laws.proofs.FitsProof.{fits_law}
use Rattle.map_laws.proofs.InOrder.{sorted_of_order}
use Rattle.map_laws.proofs.StoreMaps.{order_law}

module _ (rules : List Rule) (store : List Entity) where
  -- the records of objects in turn
  abbrev in_turn : List Entity → List Rec
  in_turn es = flat_map (λ e. records rules store e.id) es

  -- the records of all objects are there, where no object is left
  pub whole : (left : List Entity) (made : List Rec) → left ≡ [] → made ++ in_turn left ≡ map_of rules store → made ≡ map_of rules store
  whole left made none are = sym (append-nil made) ∙ sym (ap (λ es. made ++ in_turn es) none) ∙ are

  -- the records of one object more
  pub one_more : (look left rest : List Entity) (e : Entity) (before after : List Rec) → look ≡ store → left ≡ e ∷ rest → after ≡ before ++ records rules look e.id
      → before ++ in_turn left ≡ map_of rules store → after ++ in_turn rest ≡ map_of rules store
  one_more look left rest e before after same first is are =
      ap (λ rs. rs ++ in_turn rest) (is ∙ ap (λ s. before ++ records rules s e.id) same)
      ∙ append_assoc before (records rules store e.id) (in_turn rest)
      ∙ sym (ap (λ es. before ++ in_turn es) first) ∙ are

  -- the records of a good store stand in order
  pub sorted : (made : List Rec) → made ≡ map_of rules store → IsStore store → IsSorted record_cmp made
  sorted made are good = subst (IsSorted record_cmp) (sym are) (sorted_of_order (map_of rules store) (order_law rules store good))

  -- they fit the rules, where the texts of all objects are UTF-8
  pub fit : (made : List Rec) → made ≡ map_of rules store → AllByRecursion IsRule rules → AllByRecursion HasTexts store → IsStore store → FitsRules rules made
  fit made are each texts good = subst (FitsRules rules) (sym are) (fits_law rules store each good texts)
