-- The addresses of an object by what it is called and by its points.
use Rattle.std.proofs.Common.{◌≡◌, ℕ, List, [], ◌∷◌, ◌++◌, Bool, true, false, cond, ◌||◌, not, refl, sym, ◌∙◌, ap, Option, Some, None, filter, map}
use Rattle.std.specs.Prelude.{codes}
use Rattle.std.specs.Option.{option_map, option_to_list}
use Rattle.std.specs.List.{list_any, enumerate_from}
use Rattle.std.proofs.lemmas.Bool.{false≢true}
use Rattle.live_model.specs.declared.objects.Entity.{Entity}
use Rattle.live_model.specs.declared.points.Point.{Point}
use Rattle.live_model.specs.declared.rules.Rule.{Rule}
use Rattle.live_model.specs.declared.addresses.AddrKind.TheVariants.{Place as PlaceKind, Street}
use Rattle.live_model.specs.declared.addresses.AddrRec.{AddrRec}
use Rattle.live_model.specs.Ids.{Id}
use Rattle.live_model.specs.Rules.{matches}
use Rattle.live_model.specs.Geometry.{kind_shapes, one_point, points_of, shapes_with}
use Rattle.live_model.specs.Records.{address_records, house, house_at, is_place, is_road, named_address, named_at, names_of, tag_or_empty, wanted}
use Rattle.object_geometry.specs.declared.matches.Wanted.{Wanted}
use Rattle.object_geometry.specs.declared.matches.Wanted.TheVariants.{Place, Road}
use Rattle.object_geometry.specs.Matching.{of_class, rules_for, wants}
use Rattle.derive_addr.specs.Addresses.{addresses, house_of, is_called, is_house}

-- a rule of a class is there exactly where the rules of the class are some
none_of : (w : Wanted) (rs : List (ℕ × Rule)) → of_class w rs ≡ [] → false ≡ list_any (λ r. wants w r.1.class) rs
none_of w [] e = refl
none_of w (r ∷ rs) e = one (wants w r.1.class) e (none_of w rs)
  where
    one : (b : Bool) → cond b (r ∷ of_class w rs) (of_class w rs) ≡ [] → (of_class w rs ≡ [] → false ≡ list_any (λ r. wants w r.1.class) rs) → false ≡ (b || list_any (λ r. wants w r.1.class) rs)
    one true e again = absurd (cc)
    one false e again = again e

some_of : (w : Wanted) (rs : List (ℕ × Rule)) (x : ℕ × Rule) (xs : List (ℕ × Rule)) → of_class w rs ≡ x ∷ xs → true ≡ list_any (λ r. wants w r.1.class) rs
some_of w [] x xs e = absurd (cc)
some_of w (r ∷ rs) x xs e = one (wants w r.1.class) e (some_of w rs x xs)
  where
    one : (b : Bool) → cond b (r ∷ of_class w rs) (of_class w rs) ≡ x ∷ xs → (of_class w rs ≡ x ∷ xs → true ≡ list_any (λ r. wants w r.1.class) rs) → true ≡ (b || list_any (λ r. wants w r.1.class) rs)
    one true e again = refl
    one false e again = again e

pub not_called : (w : Wanted) (rules : List Rule) (e : Entity) (rs : List (ℕ × Rule)) → rs ≡ rules_for rules e → of_class w rs ≡ [] → false ≡ is_called w rules e
not_called w rules e rs are none = none_of w (rules_for rules e) (sym (ap (of_class w) are) ∙ none)

pub is_called_by : (w : Wanted) (rules : List Rule) (e : Entity) (rs : List (ℕ × Rule)) → rs ≡ rules_for rules e → (x : ℕ × Rule) (xs : List (ℕ × Rule)) → of_class w rs ≡ x ∷ xs → true ≡ is_called w rules e
is_called_by w rules e rs are x xs some = some_of w (rules_for rules e) x xs (sym (ap (of_class w) are) ∙ some)

module _ (rules : List Rule) (e : Entity) (referred : List (Id × Option Entity)) where
  abbrev matching_with : List Point → List (ℕ × Rule)
  matching_with points = filter (λ r. list_any (λ shape. matches r.1 shape e.tags) (shapes_with points (kind_shapes e.id.kind e.refs))) (enumerate_from 0 rules)

  -- the addresses, were these the points
  with_points : List Point → List AddrRec
  with_points points =
      cond (list_any (λ r. is_place r.1.class) (matching_with points)) (named_at (one_point points) e.id PlaceKind (names_of e)) []
      ++ cond (list_any (λ r. is_road r.1.class) (matching_with points)) (named_at (one_point points) e.id Street (names_of e)) []
      ++ house_at e (tag_or_empty (codes "addr:street") e.tags) (tag_or_empty (codes "addr:housenumber") e.tags) (one_point points)

  nothing_twice : (b c d : Bool) (s n : List ℕ)
      → [] ≡ (cond b (named_at None e.id PlaceKind (names_of e)) [] ++ cond c (named_at None e.id Street (names_of e)) [] ++ option_to_list (wanted d (option_map (house e.id s n) None)))
  nothing_twice true true true s n = refl
  nothing_twice true true false s n = refl
  nothing_twice true false true s n = refl
  nothing_twice true false false s n = refl
  nothing_twice false true true s n = refl
  nothing_twice false true false s n = refl
  nothing_twice false false true s n = refl
  nothing_twice false false false s n = refl

  empty : [] ≡ with_points []
  unfolding with_points
  empty = nothing_twice _ _ _ (tag_or_empty (codes "addr:street") e.tags) (tag_or_empty (codes "addr:housenumber") e.tags)

  no_point : (points : List Point) → None ≡ one_point points → [] ≡ with_points points
  no_point [] none = empty
  no_point (p ∷ []) none = absurd (cc)
  no_point (p ∷ q ∷ ps) none = absurd (cc)

  -- an object without a point has no addresses
  pub pointless : (points : List Point) → points ≡ points_of e referred → None ≡ one_point points → [] ≡ address_records rules e referred
  unfolding with_points
  pointless points are none = no_point points none ∙ ap with_points are

  nothing_at : (b c d : Bool) (places streets : List AddrRec) (o : Option AddrRec) → not (b || (c || d)) ≡ true → [] ≡ (cond b places [] ++ cond c streets [] ++ option_to_list (wanted d o))
  nothing_at true c d places streets o h = absurd (false≢true h)
  nothing_at false true d places streets o h = absurd (false≢true h)
  nothing_at false false true places streets o h = absurd (false≢true h)
  nothing_at false false false places streets o h = refl

  nothing_with : not (is_called Place rules e || (is_called Road rules e || is_house e)) ≡ true → (points : List Point) → [] ≡ with_points points
  unfolding with_points
  nothing_with h [] = empty
  nothing_with h (p ∷ ps) = nothing_at (is_called Place rules e) (is_called Road rules e) (is_house e) _ _ _ h

  -- an object that is called nothing has no addresses
  pub nothing : (b c d : Bool) → b ≡ is_called Place rules e → c ≡ is_called Road rules e → d ≡ is_house e → not (b || (c || d)) ≡ true → [] ≡ address_records rules e referred
  unfolding with_points
  nothing b c d place street house h = nothing_with (sym (ap (λ x. not (x || (c || d))) place ∙ ap (λ x. not (is_called Place rules e || (x || d))) street ∙ ap (λ x. not (is_called Place rules e || (is_called Road rules e || x))) house) ∙ h) (points_of e referred)

  one_house : (d : Bool) (x : AddrRec) → cond d (x ∷ []) [] ≡ option_to_list (wanted d (Some x))
  one_house true x = refl
  one_house false x = refl

  abbrev at : Option Point → List AddrRec
  at o =
      cond (is_called Place rules e) (named_at o e.id PlaceKind (names_of e)) [] ++ cond (is_called Road rules e) (named_at o e.id Street (names_of e)) []
      ++ house_at e (tag_or_empty (codes "addr:street") e.tags) (tag_or_empty (codes "addr:housenumber") e.tags) o

  at_one : (point : Point) → addresses (is_called Place rules e) (is_called Road rules e) (is_house e) e point ≡ at (Some point)
  at_one point =
      ap (λ houses. cond (is_called Place rules e) (map (named_address e.id PlaceKind point) (names_of e)) [] ++ cond (is_called Road rules e) (map (named_address e.id Street point) (names_of e)) [] ++ houses)
      (one_house (is_house e) (house_of e point))

  called_at : (points : List Point) (point : Point) → Some point ≡ one_point points → addresses (is_called Place rules e) (is_called Road rules e) (is_house e) e point ≡ with_points points
  unfolding with_points
  called_at [] point one = absurd (cc)
  called_at (p ∷ ps) point one = at_one point ∙ ap at one

  -- the addresses of an object with a point, by what it is called
  pub called : (b c d : Bool) → b ≡ is_called Place rules e → c ≡ is_called Road rules e → d ≡ is_house e
      → (points : List Point) (point : Point) → points ≡ points_of e referred → Some point ≡ one_point points → addresses b c d e point ≡ address_records rules e referred
  unfolding with_points
  called b c d place street house points point are one =
      ap (λ x. addresses x c d e point) place ∙ ap (λ x. addresses (is_called Place rules e) x d e point) street ∙ ap (λ x. addresses (is_called Place rules e) (is_called Road rules e) x e point) house
      ∙ called_at points point one ∙ ap with_points are
