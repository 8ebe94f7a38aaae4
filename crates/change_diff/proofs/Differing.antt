-- The objects that differ, and their records, object by object.
use Rattle.std.proofs.Common.{◌≡◌, ◌∙◌, List, [], ◌∷◌, ◌++◌, Bool, true, false, cond, filter, flat_map, refl, sym, ap, append_assoc}
use Rattle.std.proofs.lemmas.List.{append-nil}
use Rattle.std.specs.List.{AllByRecursion}
use Rattle.live_model.specs.declared.objects.Entity.{Entity}
use Rattle.live_model.specs.declared.objects.Line.{Line}
use Rattle.live_model.specs.declared.records.Rec.{Rec}
use Rattle.live_model.specs.declared.rules.Rule.{Rule}
use Rattle.live_model.specs.Ids.{Id}
use Rattle.live_model.specs.Maps.{changed, differs}
use Rattle.live_model.specs.Objects.{IsGoodLine}
use Rattle.live_model.specs.Stores.{IsStore, apply}
use Rattle.live_model.specs.Users.{touched}
use Rattle.change_laws.proofs.TouchedProof.{touched_marks}

module _ (p : Id → Bool) (made : Id → List Rec) where
  one_apart : (id : Id) (rest : List Id) → filter p (id ∷ []) ++ filter p rest ≡ filter p (id ∷ rest)
  one_apart id rest = one (p id)
    where
      one : (b : Bool) → cond b (id ∷ []) [] ++ filter p rest ≡ cond b (id ∷ filter p rest) (filter p rest)
      one true = refl
      one false = refl

  records_apart : (id : Id) (rest : List Id) → flat_map made (filter p (id ∷ [])) ++ flat_map made (filter p rest) ≡ flat_map made (filter p (id ∷ rest))
  records_apart id rest = one (p id)
    where
      one : (b : Bool) → flat_map made (cond b (id ∷ []) []) ++ flat_map made (filter p rest) ≡ flat_map made (cond b (id ∷ filter p rest) (filter p rest))
      one true = ap (λ rs. rs ++ flat_map made (filter p rest)) (append-nil (made id))
      one false = refl

  -- the marks of one object more
  pub one_more_mark : (whole before after : List Id) (id : Id) (left rest : List Id) → left ≡ id ∷ rest → after ≡ before ++ filter p (id ∷ []) → before ++ filter p left ≡ whole → after ++ filter p rest ≡ whole
  one_more_mark whole before after id left rest first is are =
      ap (λ ms. ms ++ filter p rest) is
      ∙ append_assoc before (filter p (id ∷ [])) (filter p rest)
      ∙ ap (λ ms. before ++ ms) (one_apart id rest ∙ ap (filter p) (sym first))
      ∙ are

  -- their records
  pub one_more_records : (whole before after : List Rec) (id : Id) (left rest : List Id) → left ≡ id ∷ rest → after ≡ before ++ flat_map made (filter p (id ∷ [])) → before ++ flat_map made (filter p left) ≡ whole
      → after ++ flat_map made (filter p rest) ≡ whole
  one_more_records whole before after id left rest first is are =
      ap (λ rs. rs ++ flat_map made (filter p rest)) is
      ∙ append_assoc before (flat_map made (filter p (id ∷ []))) (flat_map made (filter p rest))
      ∙ ap (λ rs. before ++ rs) (records_apart id rest ∙ ap (λ ids. flat_map made (filter p ids)) (sym first))
      ∙ are

-- the touched objects that differ are the changed ones
pub all_changed : (rules : List Rule) (store before after : List Entity) (lines : List Line) (ids : List Id) → before ≡ store → after ≡ apply store lines → ids ≡ touched store lines → IsStore store → AllByRecursion IsGoodLine lines
    → filter (differs rules before after) ids ≡ changed rules store (apply store lines)
all_changed rules store before after lines ids is_before is_after are good lines_good =
    (λ i. filter (differs rules (is_before i) (is_after i)) (are i)) ∙ sym (touched_marks rules store lines good lines_good)
