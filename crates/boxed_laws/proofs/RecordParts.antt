-- What classes show of the parts of a record: its ordinal, its place in a table, its texts and its points.
use Rattle.std.proofs.Common.{◌≡◌, ℕ, zero, suc, ◌/◌, ◌^◌, ◌<◌, ◌≤◌, true, List, [], ◌∷◌, length, map, Some, refl, ap, arith}
use Rattle.std.specs.Prelude.{◌&&◌, slice_get, unwrap_or, pos, negsuc, ℤ, int_le, unsigned_abs, IsUtf8}
use Rattle.std.specs.List.{AllByRecursion, list_all}
use Rattle.std.specs.Option.{option_map}
use Rattle.std.proofs.lemmas.Bool.{and_parts, leb-true}
use Rattle.std.proofs.lemmas.Str.{IsUtf8-from_is_utf8, IsUtf8-nil}
use Rattle.live_model.specs.declared.points.Point.{Point}
use Rattle.live_model.specs.Ids.{Id, IsId, ordinal, rank}
use Rattle.live_model.specs.Points.{IsInGrid}
use Rattle.coord_delta.specs.Steps.{Place, place_of}
use Rattle.file_grammar.specs.Sections.{Placed, text_of}
use Rattle.file_grammar.specs.BoxRules.{is_on_grid}
use Rattle.file_grammar.specs.MapRules.{point_from}
use Rattle.boxed_laws.specs.Classes.{PassUtf8}
use Rattle.boxed_laws.proofs.BoxesAround.{grid_test}
use Rattle.boxed_laws.proofs.ObjectNumbers.{least_rank, kind_of_ordinal}

-- ---- ordinals and places

-- an ordinal has 64 bits
pub small_ordinal : (o : Id) → IsId o → ordinal o < 2 ^ 64
small_ordinal o good = let kind = kind_of_ordinal o good in let least = (least_rank o.kind).0 in small (ordinal o) (rank o.kind) kind least
  where
    small : (n r : ℕ) → n / 2 ^ 50 ≡ r → r ≤ 2 → n < 2 ^ 64
    small n r e le = omega arith

module _ {A : Type 0} where
  -- what stands at an index of a list stands below its length
  pub found_below : (xs : List A) (k : ℕ) (x : A) → slice_get xs k ≡ Some x → k < length xs
  found_below [] k x e = absurd (cc)
  found_below (y ∷ ys) zero x e = omega arith
  found_below (y ∷ ys) (suc k) x e = let rest = found_below ys k x e in omega arith

-- ---- texts

text_utf8 : (texts : List (Placed (List ℕ))) (k : ℕ) → PassUtf8 texts → IsUtf8 (unwrap_or (option_map (λ t. t.value) (slice_get texts k)) [])
text_utf8 [] k all = IsUtf8-nil
text_utf8 (t ∷ ts) zero all = IsUtf8-from_is_utf8 t.value all.0
text_utf8 (t ∷ ts) (suc k) all = text_utf8 ts k all.1

-- the text of a number is UTF-8, since all texts are
pub name_utf8 : (texts : List (Placed (List ℕ))) (n : ℕ) → PassUtf8 texts → IsUtf8 (text_of texts n)
name_utf8 texts zero all = IsUtf8-nil
name_utf8 texts (suc k) all = text_utf8 texts k all

-- ---- points

pub grid_tests : (ps : List Point) → AllByRecursion IsInGrid ps → AllByRecursion (λ p. is_on_grid (place_of p) ≡ true) ps
grid_tests [] all = tt
grid_tests (p ∷ ps) all = (grid_test p all.0, grid_tests ps all.1)

pub points_again : (ps : List Point) → map point_from (map place_of ps) ≡ ps
points_again [] = refl
points_again (p ∷ ps) = ap (λ (qs : List Point). p ∷ qs) (points_again ps)

edge_of : (most : ℕ) (z : ℤ) → (int_le (pos 0) z && int_le z (pos most)) ≡ true → unsigned_abs z ≤ most
edge_of most (pos n) e = leb-true n most (and_parts (int_le (pos 0) (pos n)) (int_le (pos n) (pos most)) e).1
edge_of most (negsuc n) e = absurd (cc)

pub point_in_grid : (p : Place) → is_on_grid p ≡ true → IsInGrid (point_from p)
point_in_grid (x, y) e =
    let parts = and_parts (int_le (pos 0) x && int_le x (pos 3600000000)) (int_le (pos 0) y && int_le y (pos 1800000000)) e in
    (edge_of 3600000000 x parts.0, edge_of 1800000000 y parts.1)

pub points_in_grid : (ps : List Place) → list_all is_on_grid ps ≡ true → AllByRecursion IsInGrid (map point_from ps)
points_in_grid [] e = tt
points_in_grid (p ∷ ps) e =
    let parts = and_parts (is_on_grid p) (list_all is_on_grid ps) e in
    (point_in_grid p parts.0, points_in_grid ps parts.1)
