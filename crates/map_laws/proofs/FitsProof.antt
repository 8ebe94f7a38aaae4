-- The records that rules make of a good store whose texts are UTF-8 fit these rules.
use Rattle.std.proofs.Common.{◌≡◌, ◌≢◌, ◌==◌, ℕ, ◌+◌, ◌≤◌, List, [], ◌∷◌, ◌++◌, Bool, true, false, ◌&&◌, ◌||◌, not, cond, length, Option, Some, None, refl, sym, ap, ◌∙◌, subst, arith, map, find, slice_get, append_assoc, length-append}
use Rattle.std.specs.Prelude.{codes, IsUtf8, IsTrue, bytes_eq, unwrap_or, ℤ, filter, filter_map, flat_map, take}
use Rattle.std.specs.Option.{IfSome, option_map, option_and_then, option_to_list}
use Rattle.std.specs.List.{AllByRecursion, cons_option, enumerate_from, list_any}
use Rattle.std.specs.Ordering.{nat_cmp}
use Rattle.std.specs.Cmp.Lexicographic.{slice_cmp}
use Rattle.std.specs.declared.cmp.Ordering.TheVariants.{Less, Equal}
use Rattle.std.proofs.lemmas.Bool.{false≢true}
use Rattle.std.proofs.lemmas.Cmp.{nat_list_cmp_total, tied_itself}
use Rattle.std.proofs.lemmas.Str.{IsUtf8-nil}
use Rattle.live_model.specs.declared.ids.Kind.{Kind}
use Rattle.live_model.specs.declared.ids.Kind.TheVariants.{Node, Way, Relation}
use Rattle.live_model.specs.declared.points.Point.{Point}
use Rattle.live_model.specs.declared.points.Rect.{Rect}
use Rattle.live_model.specs.declared.objects.Tag.{Tag}
use Rattle.live_model.specs.declared.objects.Member.{Member}
use Rattle.live_model.specs.declared.objects.Entity.{Entity}
use Rattle.live_model.specs.declared.shapes.Shape.{Shape}
use Rattle.live_model.specs.declared.shapes.Shape.TheVariants.{Point as PointShape, Line as LineShape, Area as AreaShape}
use Rattle.live_model.specs.declared.classes.Class.{Class}
use Rattle.live_model.specs.declared.classes.Class.TheVariants.{Map as MapClass, Poi as PoiClass, Road as RoadClass, Place as PlaceClass}
use Rattle.live_model.specs.declared.rules.Rule.{Rule}
use Rattle.live_model.specs.declared.addresses.AddrKind.{AddrKind}
use Rattle.live_model.specs.declared.addresses.AddrKind.TheVariants.{Place, Street}
use Rattle.live_model.specs.declared.addresses.AddrRec.{AddrRec}
use Rattle.live_model.specs.declared.records.RoadNode.{RoadNode}
use Rattle.live_model.specs.declared.records.Rec.{Rec}
use Rattle.live_model.specs.declared.records.Rec.TheVariants.{Map, Poi, Addr, Road, Ban}
use Rattle.live_model.specs.Ids.{Id, IsId, ordinal, rank}
use Rattle.live_model.specs.Points.{IsInGrid}
use Rattle.live_model.specs.Objects.{AreTags, HasParts, IsGood}
use Rattle.live_model.specs.Stores.{key}
use Rattle.live_model.specs.CanonicalLines.{HasTexts}
use Rattle.live_model.specs.Rules.{IsClass, IsRule, is_category, same_shape, admits, admits_tag}
use Rattle.live_model.specs.Closures.{same_id, node_id, entity_at, looked_up, refers_to, referred}
use Rattle.live_model.specs.Geometry.{box_around, box_of, box_with, is_closed, kind_points, kind_shapes, located, located_nodes, middle, node_at, one_point, point_of, points_of, shapes_with}
use Rattle.live_model.specs.Records.{records, records_with, applies, wanted, is_empty, has_class, is_map, is_place, is_road, map_record, map_records, matching, matching_class, tag_or_empty, tagged, category_of, categories, pois_at, poi_record, poi_records, named_address, named_at, names_of, house, address_records, place_records, street_records, house_records, road_record, road_records, the_only, target_as, located_among, restriction_from, restriction_of, restriction_records}
use Rattle.live_model.specs.Fits.{Fits, FitsAddress, FitsLaw, FitsMap, FitsPoi, FitsRoad, IsCount, IsRoadNode, drawn_kind}
use Rattle.ordered_lists.proofs.PutAll.{all_append, all_filter}
use Rattle.map_laws.proofs.Names.{IsNamed, both_true, not_empty, same_text, names_fit}
use Rattle.map_laws.proofs.Turns.{all_put, all_mapped, all_weaker}
use Rattle.map_laws.proofs.Untouched.{records_from, records_are}

-- ---- lists

all_join : {A : Type 0} (P Q : A → Type 0) (xs : List A) → AllByRecursion P xs → AllByRecursion Q xs → AllByRecursion (λ x. P x × Q x) xs
all_join P Q [] all also = tt
all_join P Q (x ∷ xs) all also = ((all.0, also.0), all_join P Q xs all.1 also.1)

all_pass : {A : Type 0} (p : A → Bool) (xs : List A) → AllByRecursion (λ x. p x ≡ true) (filter p xs)
all_pass p [] = tt
all_pass p (x ∷ xs) =
    elim (p x) as (λ b. p x ≡ b → AllByRecursion (λ y. p y ≡ true) (cond b (x ∷ filter p xs) (filter p xs))) [ true ↦ λ e. (e, all_pass p xs) | false ↦ λ e. all_pass p xs ] refl

found : {A : Type 0} (P : A → Type 0) (p : A → Bool) (xs : List A) → AllByRecursion P xs → IfSome (find p xs) P
found P p [] all = tt
found P p (x ∷ xs) all = elim (p x) as (λ b. IfSome (cond b (Some x) (find p xs)) P) [ true ↦ all.0 | false ↦ found P p xs all.1 ]

-- where some item passes, what follows of each that does follows
some_of : {A : Type 0} (G : Type 0) (P : A → Type 0) (p : A → Bool) (xs : List A) → AllByRecursion P xs → ((x : A) → P x → p x ≡ true → G) → list_any p xs ≡ true → G
some_of G P p [] all h some = absurd (cc)
some_of G P p (x ∷ xs) all h some = one (p x) refl some (some_of G P p xs all.1 h)
  where
    one : (b : Bool) → p x ≡ b → (b || list_any p xs) ≡ true → (list_any p xs ≡ true → G) → G
    one true e some again = h x all.0 e
    one false e some again = again some

all_first : {A : Type 0} (P : A → Type 0) (xs : List A) → AllByRecursion P xs → AllByRecursion P (take 1 xs)
all_first P [] all = tt
all_first P (x ∷ xs) all = (all.0, tt)

slice_get-behind : {A : Type 0} (front : List A) (x : A) (xs : List A) → slice_get (front ++ x ∷ xs) (length front) ≡ Some x
slice_get-behind [] x xs = refl
slice_get-behind (y ∷ front) x xs = slice_get-behind front x xs

numbered_from : {A : Type 0} (all front xs : List A) (n : ℕ) → length front ≡ n → front ++ xs ≡ all → AllByRecursion (λ r. slice_get all r.0 ≡ Some r.1) (enumerate_from n xs)
numbered_from all front [] n at whole = tt
numbered_from all front (x ∷ xs) n at whole =
    let here : slice_get all n ≡ Some x = subst (λ k. slice_get all k ≡ Some x) at (subst (λ ys. slice_get ys (length front) ≡ Some x) whole (slice_get-behind front x xs)) in
    (here, numbered_from all (front ++ x ∷ []) xs (n + 1) (length-append front (x ∷ []) ∙ ap (λ k. k + 1) at) (append_assoc front (x ∷ []) xs ∙ whole))

all_numbered : {A : Type 0} (P : A → Type 0) (n : ℕ) (xs : List A) → AllByRecursion P xs → AllByRecursion (λ (r : ℕ × A). P r.1) (enumerate_from n xs)
all_numbered P n [] all = tt
all_numbered P n (x ∷ xs) all = (all.0, all_numbered P (n + 1) xs all.1)

-- ---- points and nodes

one_node : (id : Id) (o : Option Entity) → IsId id → IfSome o IsGood → (rest : List RoadNode) → AllByRecursion IsRoadNode rest → AllByRecursion IsRoadNode (cons_option (located (id, o)) rest)
one_node id None is good rest all = all
one_node id (Some e) is good rest all = placed e.place good.place
  where
    placed : (place : Option Point) → IfSome place IsInGrid → AllByRecursion IsRoadNode (cons_option (option_map (node_at id.number) place) rest)
    placed None in_grid = all
    placed (Some p) in_grid = ((is, in_grid), all)

located_fits : (id : Id) (o : Option Entity) → IsId id → IfSome o IsGood → IfSome (located (id, o)) IsRoadNode
located_fits id None is good = tt
located_fits id (Some e) is good = placed e.place good.place
  where
    placed : (place : Option Point) → IfSome place IsInGrid → IfSome (option_map (node_at id.number) place) IsRoadNode
    placed None in_grid = tt
    placed (Some p) in_grid = (is, in_grid)

-- a good id, and a good object, if there is one
abbrev IsFound : Id × Option Entity → Type 0
IsFound object = IsId object.0 × IfSome object.1 IsGood

nodes_fit : (refs : List (Id × Option Entity)) → AllByRecursion IsFound refs → AllByRecursion IsRoadNode (located_nodes refs)
nodes_fit [] fine = tt
nodes_fit (o ∷ refs) fine = one_node o.0 o.1 fine.0.0 fine.0.1 (located_nodes refs) (nodes_fit refs fine.1)

looked_fine : (store : List Entity) → AllByRecursion IsGood store → (ids : List Id) → AllByRecursion IsId ids → AllByRecursion IsFound (map (looked_up store) ids)
looked_fine store good [] all = tt
looked_fine store good (id ∷ ids) all = ((all.0, found IsGood (λ e. key e == ordinal id) store good), looked_fine store good ids all.1)

refers_good : (e : Entity) → IsGood e → AllByRecursion IsId (refers_to e)
refers_good e is = all_append IsId (map node_id e.refs) (map (λ m. m.target) e.members) (all_mapped IsId node_id e.refs is.refs) (all_mapped IsId (λ m. m.target) e.members is.members)

points_in_grid : (kind : Kind) (place : Option Point) (nodes : List RoadNode) → IfSome place IsInGrid → AllByRecursion IsRoadNode nodes → AllByRecursion IsInGrid (kind_points kind place nodes)
points_in_grid Node None nodes placed all = tt
points_in_grid Node (Some p) nodes placed all = (placed, tt)
points_in_grid Way place [] placed all = tt
points_in_grid Way place (m ∷ []) placed all = tt
points_in_grid Way place (m ∷ n ∷ nodes) placed all = all_mapped IsInGrid (λ n. n.point) (m ∷ n ∷ nodes) (all_weaker IsRoadNode (λ n. IsInGrid n.point) (λ n h. h.1) (m ∷ n ∷ nodes) all)
points_in_grid Relation place nodes placed all = tt

abbrev InGrid : Rect → Type 0
InGrid r = (r.left ≤ 3600000000) × (r.top ≤ 1800000000) × (r.right ≤ 3600000000) × (r.bottom ≤ 1800000000)

with_in : (r : Rect) (p : Point) → InGrid r → IsInGrid p → InGrid (box_with r p)
with_in r p a b = omega arith

around_in : (r : Rect) (ps : List Point) → InGrid r → AllByRecursion IsInGrid ps → InGrid (box_around r ps)
around_in r [] a all = a
around_in r (p ∷ ps) a all = around_in (box_with r p) ps (with_in r p a all.0) all.1

middle_in : (r : Rect) → InGrid r → IsInGrid (middle r)
middle_in r a = omega arith

one_in : (ps : List Point) → AllByRecursion IsInGrid ps → IfSome (one_point ps) IsInGrid
one_in [] all = tt
one_in (p ∷ []) all = all.0
one_in (p ∷ q ∷ ps) all = middle_in (box_of p (q ∷ ps)) (around_in _ (q ∷ ps) (let h = all.0 in (h.0, h.1, h.0, h.1)) all.1)

placed_as : (kind : Kind) (o : Option Point) → (kind ≢ Relation) → IfSome o IsInGrid → IfSome o (λ p. (kind ≢ Relation) × IsInGrid p)
placed_as kind None other in_grid = tt
placed_as kind (Some p) other in_grid = (other, in_grid)

-- an object with a point is a node or a way
kind_in : (kind : Kind) (place : Option Point) (nodes : List RoadNode) → IfSome (one_point (kind_points kind place nodes)) IsInGrid → IfSome (one_point (kind_points kind place nodes)) (λ p. (kind ≢ Relation) × IsInGrid p)
kind_in Node place nodes in_grid = placed_as Node (one_point (kind_points Node place nodes)) (λ (e : Node ≡ Relation). absurd (cc)) in_grid
kind_in Way place nodes in_grid = placed_as Way (one_point (kind_points Way place nodes)) (λ (e : Way ≡ Relation). absurd (cc)) in_grid
kind_in Relation place nodes in_grid = tt

-- ---- shapes

no_point : (closed t : Bool) → list_any (λ shape. same_shape PointShape shape && t) (cond closed (LineShape ∷ AreaShape ∷ []) (LineShape ∷ [])) ≡ false
no_point true t = refl
no_point false t = refl

-- the shape that is drawn is one of the kind, and has as many points
drawn_as : (shape : Shape) (t : Bool) (kind : Kind) (place : Option Point) (refs : List ℤ) (nodes : List RoadNode)
    → list_any (λ s. same_shape shape s && t) (shapes_with (kind_points kind place nodes) (kind_shapes kind refs)) ≡ true
    → (kind ≡ drawn_kind shape) × IsCount shape (length (kind_points kind place nodes))
drawn_as shape t Node None refs nodes drawn = absurd (false≢true drawn)
drawn_as PointShape t Node (Some p) refs nodes drawn = (refl, refl)
drawn_as LineShape t Node (Some p) refs nodes drawn = absurd (false≢true drawn)
drawn_as AreaShape t Node (Some p) refs nodes drawn = absurd (false≢true drawn)
drawn_as shape t Way place refs [] drawn = absurd (false≢true drawn)
drawn_as shape t Way place refs (m ∷ []) drawn = absurd (false≢true drawn)
drawn_as PointShape t Way place refs (m ∷ n ∷ nodes) drawn = absurd (false≢true (sym (no_point (is_closed refs) t) ∙ drawn))
drawn_as LineShape t Way place refs (m ∷ n ∷ nodes) drawn = (refl, omega arith)
drawn_as AreaShape t Way place refs (m ∷ n ∷ nodes) drawn = (refl, omega arith)
drawn_as shape t Relation place refs nodes drawn = absurd (false≢true drawn)

-- a way with a line has two nodes
two_nodes : (kind : Kind) (place : Option Point) (nodes : List RoadNode) → kind ≡ Way → 2 ≤ length (kind_points kind place nodes) → 2 ≤ length nodes
two_nodes Node place nodes e two = absurd (cc)
two_nodes Relation place nodes e two = absurd (cc)
two_nodes Way place [] e two = absurd (omega arith)
two_nodes Way place (m ∷ []) e two = absurd (omega arith)
two_nodes Way place (m ∷ n ∷ nodes) e two = omega arith

-- where a tag matches, passing rule and values, all is in the shape and a tag
drawn_tag : (r : Shape) (t : Bool) (shapes : List Shape) → list_any (λ s. same_shape r s && t) shapes ≡ true → t ≡ true
drawn_tag r t [] e = absurd (cc)
drawn_tag r t (s ∷ shapes) e = one (same_shape r s) t refl e (drawn_tag r t shapes)
  where
    one : (b c : Bool) → t ≡ c → ((b && c) || list_any (λ s. same_shape r s && t) shapes) ≡ true → (list_any (λ s. same_shape r s && t) shapes ≡ true → t ≡ true) → t ≡ true
    one b true f e again = f
    one true false f e again = again e
    one false false f e again = again e

-- ---- classes

map_class : (class : Class) → is_map class ≡ true → class ≡ MapClass
map_class MapClass e = refl
map_class class e = absurd (false≢true e)

road_class : (shape : Shape) (class : Class) → IsClass shape class → is_road class ≡ true → (class ≡ RoadClass) × (shape ≡ LineShape)
road_class LineShape RoadClass is e = (refl, refl)
road_class PointShape RoadClass is e = absurd (false≢true is)
road_class AreaShape RoadClass is e = absurd (false≢true is)
road_class shape class is e = absurd (false≢true e)

category_fits : (shape : Shape) (class : Class) (rest : List (List ℕ)) → IsClass shape class → AllByRecursion (λ c. IsTrue (is_category c)) rest → AllByRecursion (λ c. IsTrue (is_category c)) (cons_option (category_of class) rest)
category_fits shape MapClass rest is all = all
category_fits shape (PoiClass c) rest is all = (is, all)
category_fits shape RoadClass rest is all = all
category_fits shape PlaceClass rest is all = all

categories_fit : (rs : List (ℕ × Rule)) → AllByRecursion (λ r. IsRule r.1) rs → AllByRecursion (λ c. IsTrue (is_category c)) (filter_map (λ r. category_of r.1.class) rs)
categories_fit [] are = tt
categories_fit (r ∷ rs) are = category_fits r.1.shape r.1.class _ are.0.class (categories_fit rs are.1)

-- ---- tags

tag_fits : (k : List ℕ) (tags : List Tag) → AllByRecursion (λ t. IsUtf8 t.key × IsUtf8 t.value) tags → IfSome (tagged k tags) IsUtf8
tag_fits k tags texts = one (find (λ t. bytes_eq t.key k) tags) (found (λ t. IsUtf8 t.key × IsUtf8 t.value) (λ t. bytes_eq t.key k) tags texts)
  where
    one : (o : Option Tag) → IfSome o (λ t. IsUtf8 t.key × IsUtf8 t.value) → IfSome (option_map (λ t. t.value) o) IsUtf8
    one None h = tt
    one (Some t) h = h.1

empty_fits : (o : Option (List ℕ)) → IfSome o IsUtf8 → IsUtf8 (unwrap_or o [])
empty_fits None h = IsUtf8-nil
empty_fits (Some v) h = h

-- of tags with keys that rise, the one that passes is the one that is found
admitted : (k : List ℕ) (q : List ℕ → Bool) (tags : List Tag) → AreTags tags → list_any (λ t. bytes_eq t.key k && q t.value) tags ≡ true → q (tag_or_empty k tags) ≡ true
admitted k q [] rising some = absurd (cc)
admitted k q (t ∷ ts) rising some = one (bytes_eq t.key k) (q t.value) refl refl some (admitted k q ts rising.1)
  where
    none : (us : List Tag) → bytes_eq t.key k ≡ true → AllByRecursion (λ u. slice_cmp nat_cmp t.key u.key ≡ Less) us → list_any (λ u. bytes_eq u.key k && q u.value) us ≡ false
    none [] e all = refl
    none (u ∷ us) e all = two (bytes_eq u.key k) refl (none us e all.1)
      where
        two : (b : Bool) → bytes_eq u.key k ≡ b → list_any (λ w. bytes_eq w.key k && q w.value) us ≡ false → ((b && q u.value) || list_any (λ w. bytes_eq w.key k && q w.value) us) ≡ false
        two false f again = again
        two true f again =
            let less : slice_cmp nat_cmp t.key u.key ≡ Less = all.0 in
            let same : t.key ≡ u.key = same_text t.key k e ∙ sym (same_text u.key k f) in
            let tie : slice_cmp nat_cmp t.key u.key ≡ Equal = ap (λ w. slice_cmp nat_cmp w u.key) same ∙ tied_itself nat_list_cmp_total u.key in
            absurd (cc)

    one : (b c : Bool) → bytes_eq t.key k ≡ b → q t.value ≡ c → ((b && c) || list_any (λ u. bytes_eq u.key k && q u.value) ts) ≡ true
        → (list_any (λ u. bytes_eq u.key k && q u.value) ts ≡ true → q (tag_or_empty k ts) ≡ true) → q (unwrap_or (option_map (λ u. u.value) (cond b (Some t) (find (λ u. bytes_eq u.key k) ts))) []) ≡ true
    one true true e f some again = f
    one true false e f some again = absurd (false≢true (sym (none ts e rising.0) ∙ some))
    one false true e f some again = again some
    one false false e f some again = again some

-- ---- members

only_of_all : (P : Id → Type 0) (ids : List Id) → AllByRecursion P ids → IfSome (the_only ids) P
only_of_all P [] all = tt
only_of_all P (id ∷ []) all = all.0
only_of_all P (id ∷ other ∷ ids) all = tt

-- only a relation has members
of_relation : (kind : Kind) (place : Option Point) (refs : List ℤ) (members : List Member) → HasParts kind place refs members → AllByRecursion (λ m. IsId m.target) members → AllByRecursion (λ m. IsId m.target × (kind ≡ Relation)) members
of_relation kind place refs [] parts all = tt
of_relation Node place refs (m ∷ ms) parts all = let e = parts.1 in absurd (cc)
of_relation Way place refs (m ∷ ms) parts all = let e = parts.1 in absurd (cc)
of_relation Relation place refs (m ∷ ms) parts all = all_weaker (λ m. IsId m.target) (λ m. IsId m.target × (Relation ≡ Relation)) (λ m h. (h, refl)) (m ∷ ms) all

-- ---- the records of an object

module _ (rules : List Rule) (are : AllByRecursion IsRule rules) (e : Entity) (is : IsGood e) (texts : HasTexts e) (refs : List (Id × Option Entity)) (fine : AllByRecursion IsFound refs) where
  abbrev Matched : ℕ × Rule → Type 0
  Matched r = ((slice_get rules r.0 ≡ Some r.1) × IsRule r.1) × (applies e refs r.1 ≡ true)

  matched : AllByRecursion Matched (matching rules e refs)
  matched =
      let There : ℕ × Rule → Type 0 = λ r. (slice_get rules r.0 ≡ Some r.1) × IsRule r.1 in
      all_join There (λ r. applies e refs r.1 ≡ true) (matching rules e refs)
      (all_filter There (λ r. applies e refs r.1) (enumerate_from 0 rules) (all_join (λ r. slice_get rules r.0 ≡ Some r.1) (λ r. IsRule r.1) (enumerate_from 0 rules) (numbered_from rules [] rules 0 refl refl) (all_numbered IsRule 0 rules are)))
      (all_pass (λ r. applies e refs r.1) (enumerate_from 0 rules))

  chosen : (wants : Class → Bool) → AllByRecursion (λ r. Matched r × (wants r.1.class ≡ true)) (matching_class wants rules e refs)
  chosen wants = all_join Matched (λ r. wants r.1.class ≡ true) (matching_class wants rules e refs) (all_filter Matched (λ r. wants r.1.class) (matching rules e refs) matched) (all_pass (λ r. wants r.1.class) (matching rules e refs))

  text_fits : (k : List ℕ) → IsUtf8 (tag_or_empty k e.tags)
  text_fits k = empty_fits (tagged k e.tags) (tag_fits k e.tags texts.tags)

  nodes : AllByRecursion IsRoadNode (located_nodes refs)
  nodes = nodes_fit refs fine

  points : AllByRecursion IsInGrid (points_of e refs)
  points = points_in_grid e.id.kind e.place (located_nodes refs) is.place nodes

  abbrev IsPlaced : Point → Type 0
  IsPlaced p = (e.id.kind ≢ Relation) × IsInGrid p

  point : IfSome (point_of e refs) IsPlaced
  point = kind_in e.id.kind e.place (located_nodes refs) (one_in (points_of e refs) points)

  drawn : (r : Rule) → applies e refs r ≡ true → (e.id.kind ≡ drawn_kind r.shape) × IsCount r.shape (length (points_of e refs))
  drawn r matches = drawn_as r.shape (list_any (admits_tag r) e.tags) e.id.kind e.place e.refs (located_nodes refs) matches

  maps_fit : AllByRecursion (Fits rules) (map Map (map_records rules e refs))
  maps_fit =
      all_mapped (Fits rules) Map (map_records rules e refs) (all_mapped (FitsMap rules) (map_record e refs) (matching_class is_map rules e refs)
      (all_weaker (λ r. Matched r × (is_map r.1.class ≡ true)) (λ r. FitsMap rules (map_record e refs r)) (λ r h. record {
        rule = r.1;
        in_table = h.0.0.0;
        class = map_class r.1.class h.1;
        shape = refl;
        id = is.id;
        kind = (drawn r.1 h.0.1).0;
        name = text_fits (codes "name");
        count = (drawn r.1 h.0.1).1;
        grid = points;
      }) (matching_class is_map rules e refs) (chosen is_map)))

  pois_fit : (o : Option Point) → IfSome o IsPlaced → AllByRecursion (Fits rules) (map Poi (pois_at o e (categories rules e refs)))
  pois_fit None placed = tt
  pois_fit (Some p) placed =
      all_mapped (Fits rules) Poi (map (poi_record e p) (categories rules e refs)) (all_mapped FitsPoi (poi_record e p) (categories rules e refs)
      (all_weaker (λ c. IsTrue (is_category c)) (λ c. FitsPoi (poi_record e p c)) (λ c h. record { id = is.id; kind = placed.0; category = h; name = text_fits (codes "name"); grid = placed.1 }) (categories rules e refs)
      (all_put (λ c. IsTrue (is_category c)) (slice_cmp nat_cmp) (λ c. c) (filter_map (λ r. category_of r.1.class) (matching rules e refs)) [] tt
      (categories_fit (matching rules e refs) (all_weaker Matched (λ r. IsRule r.1) (λ r h. h.0.1) (matching rules e refs) matched)))))

  -- ---- addresses

  named_fits : (kind : AddrKind) (names : List (List ℕ × List ℕ)) → AllByRecursion IsNamed names → (o : Option Point) → IfSome o IsPlaced
      → ((p : Point) → IsPlaced p → (n : List ℕ × List ℕ) → IsNamed n → FitsAddress (named_address e.id kind p n)) → AllByRecursion FitsAddress (named_at o e.id kind names)
  named_fits kind names named None placed h = tt
  named_fits kind names named (Some p) placed h =
      all_mapped FitsAddress (named_address e.id kind p) names (all_weaker IsNamed (λ n. FitsAddress (named_address e.id kind p n)) (h p placed) names named)

  fits_if : (b : Bool) (found : List AddrRec) → (b ≡ true → AllByRecursion FitsAddress found) → AllByRecursion FitsAddress (cond b found [])
  fits_if true found h = h refl
  fits_if false found h = tt

  wanted_fits : (b : Bool) (make : Point → AddrRec) (o : Option Point) → IfSome o IsPlaced → (b ≡ true → (p : Point) → IsPlaced p → FitsAddress (make p)) → AllByRecursion FitsAddress (option_to_list (wanted b (option_map make o)))
  wanted_fits false make o placed h = tt
  wanted_fits true make None placed h = tt
  wanted_fits true make (Some p) placed h = (h refl p placed, tt)

  is_way : has_class is_road rules e refs ≡ true → e.id.kind ≡ Way
  is_way some =
      some_of (e.id.kind ≡ Way) Matched (λ r. is_road r.1.class) (matching rules e refs) matched
      (λ r h road. (drawn r.1 h.1).0 ∙ ap drawn_kind (road_class r.1.shape r.1.class h.0.1.class road).1) some

  places_fit : AllByRecursion FitsAddress (place_records rules e refs)
  places_fit = fits_if (has_class is_place rules e refs) (named_at (point_of e refs) e.id Place (names_of e)) (λ b.
      named_fits Place (names_of e) (names_fit e.tags texts.tags) (point_of e refs) point (λ p placed n named.
      record { id = is.id; kind = placed.0; lang = named.0; name = named.1; number = (IsUtf8-nil, refl); grid = placed.1 }))

  streets_fit : AllByRecursion FitsAddress (street_records rules e refs)
  streets_fit = fits_if (has_class is_road rules e refs) (named_at (point_of e refs) e.id Street (names_of e)) (λ b.
      named_fits Street (names_of e) (names_fit e.tags texts.tags) (point_of e refs) point (λ p placed n named.
      record { id = is.id; kind = is_way b; lang = named.0; name = named.1; number = (IsUtf8-nil, refl); grid = placed.1 }))

  house_fits : (street number : List ℕ) → IsUtf8 street → IsUtf8 number → AllByRecursion FitsAddress (option_to_list (wanted (not (is_empty street) && not (is_empty number)) (option_map (house e.id street number) (point_of e refs))))
  house_fits street number utf8_street utf8_number = wanted_fits (not (is_empty street) && not (is_empty number)) (house e.id street number) (point_of e refs) point (λ b p placed.
      let parts = both_true (not (is_empty street)) (not (is_empty number)) b in
      record {
        id = is.id;
        kind = placed.0;
        lang = refl;
        name = (utf8_street, not_empty street parts.0);
        number = (utf8_number, not_empty number parts.1);
        grid = placed.1;
      })

  addresses_fit : AllByRecursion (Fits rules) (map Addr (address_records rules e refs))
  addresses_fit =
      all_mapped (Fits rules) Addr (address_records rules e refs)
      (all_append FitsAddress (place_records rules e refs ++ street_records rules e refs) (house_records e refs)
      (all_append FitsAddress (place_records rules e refs) (street_records rules e refs) places_fit streets_fit)
      (house_fits (tag_or_empty (codes "addr:street") e.tags) (tag_or_empty (codes "addr:housenumber") e.tags) (text_fits (codes "addr:street")) (text_fits (codes "addr:housenumber"))))

  -- ---- roads

  road_fits : (r : ℕ × Rule) → Matched r × (is_road r.1.class ≡ true) → FitsRoad rules (road_record e refs r)
  road_fits r h =
      let class = road_class r.1.shape r.1.class h.0.0.1.class h.1 in
      let shaped = drawn r.1 h.0.1 in
      let way : e.id.kind ≡ Way = shaped.0 ∙ ap drawn_kind class.1 in
      record {
        rule = r.1;
        in_table = h.0.0.0;
        class = class.0;
        shape = class.1;
        id = is.id;
        kind = way;
        value = (text_fits r.1.key, admitted r.1.key (admits r.1.value) e.tags is.tags (drawn_tag r.1.shape (list_any (admits_tag r.1) e.tags) _ h.0.1));
        count = two_nodes e.id.kind e.place (located_nodes refs) way (subst (λ s. IsCount s (length (points_of e refs))) class.1 shaped.1);
        grid = nodes;
      }

  roads_fit : AllByRecursion (Fits rules) (map Road (road_records rules e refs))
  roads_fit =
      all_mapped (Fits rules) Road (road_records rules e refs) (all_mapped (FitsRoad rules) (road_record e refs) (take 1 (matching_class is_road rules e refs))
      (all_first (λ r. FitsRoad rules (road_record e refs r)) (matching_class is_road rules e refs) (all_weaker (λ r. Matched r × (is_road r.1.class ≡ true)) (λ r. FitsRoad rules (road_record e refs r)) road_fits (matching_class is_road rules e refs) (chosen is_road))))

  -- ---- restrictions

  restriction_fits : (value : Option (List ℕ)) (from : Option Id) (via : Option RoadNode) (to : Option Id) → IfSome value IsUtf8 → IfSome from (λ f. IsId f × (e.id.kind ≡ Relation)) → IfSome via IsRoadNode → IfSome to (λ t. IsId t × (e.id.kind ≡ Relation))
      → AllByRecursion (Fits rules) (map Ban (restriction_from e.id value from via to))
  restriction_fits (Some value) (Some from) (Some via) (Some to) v f n t = (record { id = is.id; kind = f.1; value = v; from = f.0; via = n.0; to = t.0; grid = n.1 }, tt)
  restriction_fits value from via to v f n t = tt

  target_fits : (kind : Kind) (role : List ℕ) → IfSome (target_as kind role e) (λ t. IsId t × (e.id.kind ≡ Relation))
  target_fits kind role =
      let test : Member → Bool = λ m. (rank m.target.kind == rank kind) && bytes_eq m.role role in
      only_of_all (λ t. IsId t × (e.id.kind ≡ Relation)) (map (λ m. m.target) (filter test e.members))
      (all_mapped (λ t. IsId t × (e.id.kind ≡ Relation)) (λ m. m.target) (filter test e.members)
      (all_filter (λ m. IsId m.target × (e.id.kind ≡ Relation)) test e.members (of_relation e.id.kind e.place e.refs e.members is.parts is.members)))

  via_fits : (o : Option Id) → IfSome o IsId → IfSome (option_and_then (located_among refs) o) IsRoadNode
  via_fits None is_id = tt
  via_fits (Some id) is_id = one (find (λ object. same_id object.0 id) refs) (found IsFound (λ object. same_id object.0 id) refs fine)
    where
      one : (o : Option (Id × Option Entity)) → IfSome o IsFound → IfSome (option_and_then (λ object. located (id, object.1)) o) IsRoadNode
      one None h = tt
      one (Some object) h = located_fits id object.1 is_id h.1

  id_of : (o : Option Id) → IfSome o (λ t. IsId t × (e.id.kind ≡ Relation)) → IfSome o IsId
  id_of None h = tt
  id_of (Some t) h = h.0

  bans_fit : (b : Bool) → AllByRecursion (Fits rules) (map Ban (cond b (restriction_of e refs) []))
  bans_fit false = tt
  bans_fit true =
      restriction_fits (tagged (codes "restriction") e.tags) (target_as Way (codes "from") e) (option_and_then (located_among refs) (target_as Node (codes "via") e)) (target_as Way (codes "to") e)
      (tag_fits (codes "restriction") e.tags texts.tags) (target_fits Way (codes "from")) (via_fits (target_as Node (codes "via") e) (id_of (target_as Node (codes "via") e) (target_fits Node (codes "via")))) (target_fits Way (codes "to"))

  records_fit : AllByRecursion (Fits rules) (records_with rules e refs)
  records_fit =
      let maps : List Rec = map Map (map_records rules e refs) in
      let pois : List Rec = map Poi (poi_records rules e refs) in
      let addresses : List Rec = map Addr (address_records rules e refs) in
      let roads : List Rec = map Road (road_records rules e refs) in
      let bans : List Rec = map Ban (restriction_records e refs) in
      all_append (Fits rules) (maps ++ pois ++ addresses ++ roads) bans
      (all_append (Fits rules) (maps ++ pois ++ addresses) roads
      (all_append (Fits rules) (maps ++ pois) addresses
      (all_append (Fits rules) maps pois maps_fit (pois_fit (point_of e refs) point)) addresses_fit) roads_fit)
      (bans_fit (bytes_eq (tag_or_empty (codes "type") e.tags) (codes "restriction")))

-- ---- of a store

-- the records of one object of good objects fit, where the texts of this one are UTF-8
pub object_fits : (rules : List Rule) → AllByRecursion IsRule rules → (store : List Entity) → AllByRecursion IsGood store → (id : Id) → IfSome (entity_at store id) HasTexts → AllByRecursion (Fits rules) (records rules store id)
object_fits rules are store good id texts =
    subst (AllByRecursion (Fits rules)) (sym (records_are rules store id)) (one (entity_at store id) (found IsGood (λ e. key e == ordinal id) store good) texts)
  where
    one : (o : Option Entity) → IfSome o IsGood → IfSome o HasTexts → AllByRecursion (Fits rules) (records_from rules o (map (looked_up store) (referred o)))
    one None is texts = tt
    one (Some e) is texts = records_fit rules are e is texts (map (looked_up store) (refers_to e)) (looked_fine store good (refers_to e) (refers_good e is))

found_fit : (rules : List Rule) → AllByRecursion IsRule rules → (store : List Entity) → AllByRecursion IsGood store → AllByRecursion HasTexts store → (id : Id) → AllByRecursion (Fits rules) (records rules store id)
found_fit rules are store good texts id = object_fits rules are store good id (found HasTexts (λ e. key e == ordinal id) store texts)

pub fits_law : FitsLaw
fits_law rules store are is texts = go store
  where
    go : (es : List Entity) → AllByRecursion (Fits rules) (flat_map (λ e. records rules store e.id) es)
    go [] = tt
    go (e ∷ es) = all_append (Fits rules) (records rules store e.id) (flat_map (λ e. records rules store e.id) es) (found_fit rules are store is.good texts e.id) (go es)
