-- The marks of an image as objects.
use Rattle.std.proofs.Common.{◌≡◌, ◌==◌, ℕ, true, List, [], ◌∷◌, map, refl, sym}
use Rattle.std.specs.Prelude.{◌||◌}
use Rattle.std.specs.List.{list_all, list_any}
use Rattle.std.proofs.lemmas.Bool.{and_parts}
use Rattle.live_model.specs.Ids.{Id, ordinal}
use Rattle.live_model.specs.Closures.{same_id}
use Rattle.file_grammar.specs.BoxRules.{is_ordinal}
use Rattle.file_grammar.specs.Sections.{object_of}
use Rattle.boxed_laws.proofs.ObjectNumbers.{ordinal_again}

-- an object is among them where its ordinal is among the ordinals
pub marks_alike : (marks : List ℕ) (id : Id) → list_all is_ordinal marks ≡ true → list_any (λ mark. mark == ordinal id) marks ≡ list_any (λ mark. same_id mark id) (map object_of marks)
marks_alike [] id all = refl
marks_alike (n ∷ ns) id all =
    let both = and_parts (is_ordinal n) (list_all is_ordinal ns) all in λ i. (sym (ordinal_again n both.0) i == ordinal id) || marks_alike ns id both.1 i
