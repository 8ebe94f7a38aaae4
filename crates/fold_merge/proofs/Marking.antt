-- Marks of images and of their fold.
use Rattle.std.proofs.Common.{◌≡◌, ◌+◌, ◌<◌, ◌≤◌, ℕ, suc, zero, Bool, true, false, List, [], ◌∷◌, ◌++◌, length, map, Option, Some, None, refl, sym, ap, ap₂, subst, ◌∙◌, arith}
use Rattle.std.specs.Prelude.{◌||◌, ◌==◌, Contains, IsTrue, slice_get}
use Rattle.std.specs.List.{AllByRecursion, list_all, list_any}
use Rattle.std.proofs.lemmas.Bool.{and_parts, eqb-true}
use Rattle.std.proofs.lemmas.List.Elements.{Contains-append_right}
use Rattle.boxed_laws.proofs.ObjectNumbers.{ordinal_again}
use Rattle.file_grammar.specs.BoxRules.{is_ordinal}
use Rattle.file_grammar.specs.Sections.{object_of}
use Rattle.live_model.specs.declared.records.Rec.{Rec}
use Rattle.live_model.specs.Closures.{same_id}
use Rattle.live_model.specs.Ids.{Id, IsId, ordinal}
use Rattle.live_model.specs.Maps.{Overlay, is_mark}
use Rattle.live_model.specs.Records.{record_id}
use Rattle.map_laws.proofs.RecordOrder.{one_id}

-- an object is among marks where its ordinal is among theirs
pub marks_alike : (marks : List ℕ) (id : Id) → list_all is_ordinal marks ≡ true → list_any (λ mark. mark == ordinal id) marks ≡ list_any (λ mark. same_id mark id) (map object_of marks)
marks_alike [] id all = refl
marks_alike (n ∷ ns) id all =
    let both = and_parts (is_ordinal n) (list_all is_ordinal ns) all in λ i. (sym (ordinal_again n both.0) i == ordinal id) || marks_alike ns id both.1 i

-- an id with the ordinal of one of good ids is this one
among : (ids : List Id) (id : Id) → AllByRecursion IsId ids → IsId id → list_any (λ m. same_id m id) ids ≡ true → Contains ids id
among [] id good is some = absurd (cc)
among (m ∷ ids) id good is some = one (same_id m id) refl some (among ids id good.1 is)
  where
    one : (b : Bool) → same_id m id ≡ b → (b || list_any (λ m. same_id m id) ids) ≡ true → (list_any (λ m. same_id m id) ids ≡ true → Contains ids id) → Contains (m ∷ ids) id
    one true same some later = (0, omega arith, one_id m id good.0 is (eqb-true (ordinal m) (ordinal id) same))
    one false same some later = Contains-append_right (m ∷ []) ids id (later some)

-- records of marked objects are of objects among the marks
pub all_among : (o : Overlay) (rs : List Rec) → AllByRecursion IsId o.marks → AllByRecursion (λ r. IsId (record_id r)) rs → AllByRecursion (λ r. IsTrue (is_mark o (record_id r))) rs → AllByRecursion (λ r. Contains o.marks (record_id r)) rs
all_among o [] good are marked = tt
all_among o (r ∷ rs) good are marked = (among o.marks (record_id r) good are.0 marked.0, all_among o rs good are.1 marked.1)
