-- The records of one object: each is of the object, and they stand in order.
use Rattle.std.proofs.Common.{◌≡◌, ℕ, ◌+◌, ◌<◌, ◌≤◌, List, [], ◌∷◌, ◌++◌, Bool, true, false, cond, Option, Some, None, refl, sym, ap, ◌∙◌, arith}
use Rattle.std.specs.Prelude.{map, take, filter_map, codes, bytes_eq}
use Rattle.std.specs.Option.{option_map, option_and_then, option_to_list}
use Rattle.std.specs.List.{AllByRecursion, enumerate_from}
use Rattle.std.specs.Ordering.{nat_cmp, ordering_then, is_gt}
use Rattle.std.specs.Cmp.Lexicographic.{slice_cmp}
use Rattle.std.specs.declared.cmp.Ordering.{Ordering}
use Rattle.std.specs.declared.cmp.Ordering.TheVariants.{Less, Equal}
use Rattle.std.proofs.lemmas.Bool.Decides.{nat_tests}
use Rattle.std.proofs.lemmas.Cmp.{nat_cmp_total, nat_list_cmp_total}
use Rattle.live_model.specs.declared.objects.Entity.{Entity}
use Rattle.live_model.specs.declared.points.Point.{Point}
use Rattle.live_model.specs.declared.rules.Rule.{Rule}
use Rattle.live_model.specs.declared.addresses.AddrKind.{AddrKind}
use Rattle.live_model.specs.declared.addresses.AddrKind.TheVariants.{Place, Street}
use Rattle.live_model.specs.declared.addresses.AddrRec.{AddrRec}
use Rattle.live_model.specs.declared.ids.Kind.TheVariants.{Node, Way}
use Rattle.live_model.specs.declared.records.RoadNode.{RoadNode}
use Rattle.live_model.specs.declared.records.BanRec.{BanRec}
use Rattle.live_model.specs.declared.records.Rec.{Rec}
use Rattle.live_model.specs.declared.records.Rec.TheVariants.{Map, Poi, Addr, Road, Ban}
use Rattle.live_model.specs.Ids.{Id, ordinal}
use Rattle.ordered_lists.specs.Ordered.{IsRisingBy}
use Rattle.live_model.specs.Geometry.{point_of}
use Rattle.live_model.specs.Records.{applies, wanted, matching, matching_class, is_map, is_road, category_of, map_record, map_records, categories, poi_record, pois_at, poi_records, named_address, named_at, names_of, house, address_records, road_record, road_records, restriction_from, restriction_of, restriction_records, tag_or_empty, tagged, target_as, located_among, records_with, address_rank, class_rank, record_id, class_cmp, record_cmp}
use Rattle.live_model.specs.Objects.{AreTags}
use Rattle.ordered_lists.proofs.PutAll.{all_append, rising_filter, rising-put_all}
use Rattle.ordered_lists.proofs.StableSort.{InTurn}
use Rattle.map_laws.proofs.RecordOrder.{class_is}
use Rattle.map_laws.proofs.Names.{names_rising}
use Rattle.map_laws.proofs.Turns.{all_each, all_mapped, all_weaker, turn_map, turn_rising, turn_first, At, Part, first_part, joined}

-- the one does not come behind the other
abbrev pub Le : Rec → Rec → Type 0
Le a b = is_gt (record_cmp a b) ≡ false

pub below_is : (m n : ℕ) → m < n → nat_cmp m n ≡ Less
below_is m n lt = grind (arith, nat_tests)

level : (n : ℕ) → nat_cmp n n ≡ Equal
level n = grind (arith, nat_tests)

pub level_ids : (a b : Id) → a ≡ b → nat_cmp (ordinal a) (ordinal b) ≡ Equal
level_ids a b e = ap (λ o. nat_cmp (ordinal a) (ordinal o)) (sym e) ∙ level (ordinal a)

first_less : (o p : Ordering) → o ≡ Less → is_gt (ordering_then o p) ≡ false
first_less Less p e = refl
first_less o p e = absurd (cc)

second_less : (o p q : Ordering) → o ≡ Equal → p ≡ Less → is_gt (ordering_then o (ordering_then p q)) ≡ false
second_less Equal Less q e f = refl
second_less o p q e f = absurd (cc)

fifth_less : (o p q r : Ordering) → o ≡ Equal → p ≡ Equal → q ≡ Less → is_gt (ordering_then o (ordering_then o (ordering_then p (ordering_then q r)))) ≡ false
fifth_less Equal Equal Less r e f g = refl
fifth_less o p q r e f g = absurd (cc)

fourth_less : (o p q : Ordering) → o ≡ Equal → p ≡ Less → is_gt (ordering_then o (ordering_then o (ordering_then p q))) ≡ false
fourth_less Equal Less q e f = refl
fourth_less o p q e f = absurd (cc)

-- of two objects
pub lower_object : (a b : Rec) → ordinal (record_id a) < ordinal (record_id b) → Le a b
lower_object a b lt = first_less (nat_cmp (ordinal (record_id a)) (ordinal (record_id b))) (class_cmp a b) (below_is (ordinal (record_id a)) (ordinal (record_id b)) lt)

module _ (e : Entity) where
  abbrev pub Own : Rec → Type 0
  Own r = record_id r ≡ e.id

  abbrev OwnAddress : AddrRec → Type 0
  OwnAddress a = a.id ≡ e.id

  -- of two classes
  pub class_turn : (a b : Rec) → Own a → Own b → class_rank a < class_rank b → Le a b
  class_turn a b own_a own_b lt =
      ap (λ o. is_gt (ordering_then (nat_cmp (ordinal (record_id a)) (ordinal (record_id b))) o)) (class_is a b)
      ∙ second_less (nat_cmp (ordinal (record_id a)) (ordinal (record_id b))) (nat_cmp (class_rank a) (class_rank b)) _ (level_ids (record_id a) (record_id b) (own_a ∙ sym own_b)) (below_is (class_rank a) (class_rank b) lt)

  abbrev In : ℕ → List Rec → Type 0
  In k rs = At Le class_rank Own class_turn k rs

  -- ---- map records

  later : {A : Type 0} (m n : ℕ) (xs : List A) → m < n → AllByRecursion (λ x. nat_cmp m x.0 ≡ Less) (enumerate_from n xs)
  later m n [] lt = tt
  later m n (x ∷ xs) lt = (below_is m n lt, later m (n + 1) xs (omega arith))

  rising_numbers : {A : Type 0} (n : ℕ) (xs : List A) → IsRisingBy nat_cmp (λ (x : ℕ × A). x.0) (enumerate_from n xs)
  rising_numbers n [] = tt
  rising_numbers n (x ∷ xs) = (later n (n + 1) xs (omega arith), rising_numbers (n + 1) xs)

  module _ (rules : List Rule) (referred : List (Id × Option Entity)) where
    maps_turn : InTurn Le (map Map (map_records rules e referred))
    maps_turn =
        turn_map (λ m n. Le (Map m) (Map n)) Le Map (λ m n le. le) (map_records rules e referred)
        (turn_map (λ r s. nat_cmp r.0 s.0 ≡ Less) (λ m n. Le (Map m) (Map n)) (map_record e referred) (λ r s less. fourth_less (nat_cmp (ordinal e.id) (ordinal e.id)) (nat_cmp r.0 s.0) _ (level (ordinal e.id)) less)
        (matching_class is_map rules e referred)
        (turn_rising nat_cmp (λ r. r.0) (matching_class is_map rules e referred)
        (rising_filter nat_cmp (λ r. r.0) nat_cmp_total (λ r. is_map r.1.class) (matching rules e referred)
        (rising_filter nat_cmp (λ r. r.0) nat_cmp_total (λ r. applies e referred r.1) (enumerate_from 0 rules) (rising_numbers 0 rules)))))

    maps_in : In 0 (map Map (map_records rules e referred))
    maps_in =
        all_mapped (λ r. Own r × (class_rank r ≡ 0)) Map (map_records rules e referred) (all_mapped (λ m. Own (Map m) × (class_rank (Map m) ≡ 0)) (map_record e referred) (matching_class is_map rules e referred)
        (all_each (λ r. Own (Map (map_record e referred r)) × (class_rank (Map (map_record e referred r)) ≡ 0)) (λ r. (refl, refl)) (matching_class is_map rules e referred)))

    roads_turn : InTurn Le (map Road (road_records rules e referred))
    roads_turn = turn_map (λ m n. Le (Road m) (Road n)) Le Road (λ m n le. le) (road_records rules e referred) (turn_first (λ m n. Le (Road m) (Road n)) (road_record e referred) (matching_class is_road rules e referred))

    roads_in : In 3 (map Road (road_records rules e referred))
    roads_in =
        all_mapped (λ r. Own r × (class_rank r ≡ 3)) Road (road_records rules e referred) (all_mapped (λ m. Own (Road m) × (class_rank (Road m) ≡ 3)) (road_record e referred) (take 1 (matching_class is_road rules e referred))
        (all_each (λ r. Own (Road (road_record e referred r)) × (class_rank (Road (road_record e referred r)) ≡ 3)) (λ r. (refl, refl)) (take 1 (matching_class is_road rules e referred))))

  -- ---- points of interest

  pois_turn : (o : Option Point) (found : List (List ℕ)) → IsRisingBy (slice_cmp nat_cmp) (λ c. c) found → InTurn Le (map Poi (pois_at o e found))
  pois_turn None found rising = tt
  pois_turn (Some p) found rising =
      turn_map (λ m n. Le (Poi m) (Poi n)) Le Poi (λ m n le. le) (map (poi_record e p) found)
      (turn_map (λ c d. slice_cmp nat_cmp c d ≡ Less) (λ m n. Le (Poi m) (Poi n)) (poi_record e p) (λ c d less. fourth_less (nat_cmp (ordinal e.id) (ordinal e.id)) (slice_cmp nat_cmp c d) _ (level (ordinal e.id)) less)
      found (turn_rising (slice_cmp nat_cmp) (λ c. c) found rising))

  pois_in : (o : Option Point) (found : List (List ℕ)) → In 1 (map Poi (pois_at o e found))
  pois_in None found = tt
  pois_in (Some p) found =
      all_mapped (λ r. Own r × (class_rank r ≡ 1)) Poi (map (poi_record e p) found) (all_mapped (λ m. Own (Poi m) × (class_rank (Poi m) ≡ 1)) (poi_record e p) found
      (all_each (λ c. Own (Poi (poi_record e p c)) × (class_rank (Poi (poi_record e p c)) ≡ 1)) (λ c. (refl, refl)) found))

  -- ---- addresses

  by_kind : (a b : AddrRec) → OwnAddress a → OwnAddress b → address_rank a.kind < address_rank b.kind → Le (Addr a) (Addr b)
  by_kind a b own_a own_b lt =
      fourth_less (nat_cmp (ordinal a.id) (ordinal b.id)) (nat_cmp (address_rank a.kind) (address_rank b.kind)) _ (level_ids a.id b.id (own_a ∙ sym own_b)) (below_is (address_rank a.kind) (address_rank b.kind) lt)

  abbrev Kinded : ℕ → List AddrRec → Type 0
  Kinded k found = At (λ a b. Le (Addr a) (Addr b)) (λ a. address_rank a.kind) OwnAddress by_kind k found

  abbrev InKinds : ℕ → List AddrRec → Type 0
  InKinds k found = Part (λ a b. Le (Addr a) (Addr b)) (λ a. address_rank a.kind) OwnAddress by_kind k found

  -- in turn, and of one kind
  abbrev Kind_in_turn : ℕ → List AddrRec → Type 0
  Kind_in_turn k found = InTurn (λ a b. Le (Addr a) (Addr b)) found × Kinded k found

  -- the names of a place or a street, by languages that rise
  named_in : (kind : AddrKind) (names : List (List ℕ × List ℕ)) → IsRisingBy (slice_cmp nat_cmp) (λ (n : List ℕ × List ℕ). n.0) names → (o : Option Point) → Kind_in_turn (address_rank kind) (named_at o e.id kind names)
  named_in kind names rising None = (tt, tt)
  named_in kind names rising (Some p) = (
    turn_map (λ (m : List ℕ × List ℕ) (n : List ℕ × List ℕ). slice_cmp nat_cmp m.0 n.0 ≡ Less) (λ a b. Le (Addr a) (Addr b)) (named_address e.id kind p) (λ m n less.
        fifth_less (nat_cmp (ordinal e.id) (ordinal e.id)) (nat_cmp (address_rank kind) (address_rank kind)) (slice_cmp nat_cmp m.0 n.0) _ (level (ordinal e.id)) (level (address_rank kind)) less)
        names (turn_rising (slice_cmp nat_cmp) (λ n. n.0) names rising),
    all_mapped (λ a. OwnAddress a × (address_rank a.kind ≡ address_rank kind)) (named_address e.id kind p) names
        (all_each (λ n. OwnAddress (named_address e.id kind p n) × (address_rank (named_address e.id kind p n).kind ≡ address_rank kind)) (λ n. (refl, refl)) names),
  )

  where_wanted : (k : ℕ) (b : Bool) (found : List AddrRec) → Kind_in_turn k found → Kind_in_turn k (cond b found [])
  where_wanted k true found h = h
  where_wanted k false found h = (tt, tt)

  house_in : (b : Bool) (street number : List ℕ) (o : Option Point) → Kind_in_turn 2 (option_to_list (wanted b (option_map (house e.id street number) o)))
  house_in true street number None = (tt, tt)
  house_in true street number (Some p) = ((tt, tt), ((refl, refl), tt))
  house_in false street number o = (tt, tt)

  addresses_part : (b c : Bool) (names : List (List ℕ × List ℕ)) → IsRisingBy (slice_cmp nat_cmp) (λ (n : List ℕ × List ℕ). n.0) names → (d : Bool) (street number : List ℕ) (o : Option Point)
      → InKinds 2 (cond b (named_at o e.id Place names) [] ++ cond c (named_at o e.id Street names) [] ++ option_to_list (wanted d (option_map (house e.id street number) o)))
  addresses_part b c names rising d street number o =
      let places : List AddrRec = cond b (named_at o e.id Place names) [] in
      let streets : List AddrRec = cond c (named_at o e.id Street names) [] in
      let houses : List AddrRec = option_to_list (wanted d (option_map (house e.id street number) o)) in
      let placed : Kind_in_turn 0 places = where_wanted 0 b (named_at o e.id Place names) (named_in Place names rising o) in
      more 1 2 (omega arith) (places ++ streets) houses
      (more 0 1 (omega arith) places streets
      (first_part (λ a b. Le (Addr a) (Addr b)) (λ a. address_rank a.kind) OwnAddress by_kind 0 places placed.1 placed.0)
      (where_wanted 1 c (named_at o e.id Street names) (named_in Street names rising o)))
      (house_in d street number o)
    where
      more : (k j : ℕ) → k < j → (xs ys : List AddrRec) → InKinds k xs → Kind_in_turn j ys → InKinds j (xs ++ ys)
      more k j lt xs ys part h = joined (λ a b. Le (Addr a) (Addr b)) (λ a. address_rank a.kind) OwnAddress by_kind k j lt xs ys part h.1 h.0

  addresses_from : (found : List AddrRec) → InKinds 2 found → InTurn Le (map Addr found) × In 2 (map Addr found)
  addresses_from found part = (
    turn_map (λ a b. Le (Addr a) (Addr b)) Le Addr (λ a b le. le) found part.0,
    all_mapped (λ r. Own r × (class_rank r ≡ 2)) Addr found (all_weaker (λ a. OwnAddress a × (address_rank a.kind ≤ 2)) (λ a. Own (Addr a) × (class_rank (Addr a) ≡ 2)) (λ a h. (h.0, refl)) found part.1),
  )

  -- ---- restrictions

  bans_part : (value : Option (List ℕ)) (from : Option Id) (via : Option RoadNode) (to : Option Id)
      → InTurn Le (map Ban (restriction_from e.id value from via to)) × In 4 (map Ban (restriction_from e.id value from via to))
  bans_part (Some value) (Some from) (Some via) (Some to) = ((tt, tt), ((refl, refl), tt))
  bans_part value from via to = (tt, tt)

  bans_if : (b : Bool) (bans : List BanRec) → InTurn Le (map Ban bans) × In 4 (map Ban bans) → InTurn Le (map Ban (cond b bans [])) × In 4 (map Ban (cond b bans []))
  bans_if true bans h = h
  bans_if false bans h = (tt, tt)

  bans_of : (referred : List (Id × Option Entity)) → InTurn Le (map Ban (restriction_records e referred)) × In 4 (map Ban (restriction_records e referred))
  bans_of referred =
      bans_if (bytes_eq (tag_or_empty (codes "type") e.tags) (codes "restriction")) (restriction_of e referred)
      (bans_part (tagged (codes "restriction") e.tags) (target_as Way (codes "from") e) (option_and_then (located_among referred) (target_as Node (codes "via") e)) (target_as Way (codes "to") e))

  -- ---- all

  pub records_part : (rules : List Rule) (referred : List (Id × Option Entity)) → AreTags e.tags → Part Le class_rank Own class_turn 4 (records_with rules e referred)
  records_part rules referred tags =
      let maps : List Rec = map Map (map_records rules e referred) in
      let pois : List Rec = map Poi (poi_records rules e referred) in
      let addresses : List Rec = map Addr (address_records rules e referred) in
      let roads : List Rec = map Road (road_records rules e referred) in
      let bans : List Rec = map Ban (restriction_records e referred) in
      let a = addresses_from (address_records rules e referred) (addresses_part _ _ (names_of e) (names_rising e.tags tags) _ _ _ (point_of e referred)) in
      let r = bans_of referred in
      joined Le class_rank Own class_turn 3 4 (omega arith) (maps ++ pois ++ addresses ++ roads) bans
      (joined Le class_rank Own class_turn 2 3 (omega arith) (maps ++ pois ++ addresses) roads
      (joined Le class_rank Own class_turn 1 2 (omega arith) (maps ++ pois) addresses
      (joined Le class_rank Own class_turn 0 1 (omega arith) maps pois
      (first_part Le class_rank Own class_turn 0 maps (maps_in rules referred) (maps_turn rules referred))
      (pois_in (point_of e referred) (categories rules e referred))
      (pois_turn (point_of e referred) (categories rules e referred) (rising-put_all (slice_cmp nat_cmp) (λ c. c) nat_list_cmp_total [] (filter_map (λ r. category_of r.1.class) (matching rules e referred)) tt)))
      a.1 a.0)
      (roads_in rules referred) (roads_turn rules referred))
      r.1 r.0

  pub records_turn : (rules : List Rule) (referred : List (Id × Option Entity)) → AreTags e.tags → InTurn Le (records_with rules e referred)
  records_turn rules referred tags = (records_part rules referred tags).0

  -- ---- of this object, whatever its tags are

  named_own : (kind : AddrKind) (names : List (List ℕ × List ℕ)) (o : Option Point) → AllByRecursion OwnAddress (named_at o e.id kind names)
  named_own kind names None = tt
  named_own kind names (Some p) = all_mapped OwnAddress (named_address e.id kind p) names (all_each (λ n. OwnAddress (named_address e.id kind p n)) (λ n. refl) names)

  own_if : (b : Bool) (found : List AddrRec) → AllByRecursion OwnAddress found → AllByRecursion OwnAddress (cond b found [])
  own_if true found all = all
  own_if false found all = tt

  addresses_own : (b c : Bool) (names : List (List ℕ × List ℕ)) (d : Bool) (street number : List ℕ) (o : Option Point)
      → AllByRecursion OwnAddress (cond b (named_at o e.id Place names) [] ++ cond c (named_at o e.id Street names) [] ++ option_to_list (wanted d (option_map (house e.id street number) o)))
  addresses_own b c names d street number o =
      let places : List AddrRec = cond b (named_at o e.id Place names) [] in
      let streets : List AddrRec = cond c (named_at o e.id Street names) [] in
      let houses : List AddrRec = option_to_list (wanted d (option_map (house e.id street number) o)) in
      all_append OwnAddress (places ++ streets) houses
      (all_append OwnAddress places streets (own_if b (named_at o e.id Place names) (named_own Place names o)) (own_if c (named_at o e.id Street names) (named_own Street names o)))
      (all_weaker (λ a. OwnAddress a × (address_rank a.kind ≡ 2)) OwnAddress (λ a h. h.0) houses (house_in d street number o).1)

  own_in : (k : ℕ) (rs : List Rec) → In k rs → AllByRecursion Own rs
  own_in k rs all = all_weaker (λ r. Own r × (class_rank r ≡ k)) Own (λ r h. h.0) rs all

  pub records_own : (rules : List Rule) (referred : List (Id × Option Entity)) → AllByRecursion (λ r. record_id r ≡ e.id) (records_with rules e referred)
  records_own rules referred =
      let maps : List Rec = map Map (map_records rules e referred) in
      let pois : List Rec = map Poi (poi_records rules e referred) in
      let addresses : List Rec = map Addr (address_records rules e referred) in
      let roads : List Rec = map Road (road_records rules e referred) in
      let bans : List Rec = map Ban (restriction_records e referred) in
      all_append Own (maps ++ pois ++ addresses ++ roads) bans
      (all_append Own (maps ++ pois ++ addresses) roads
      (all_append Own (maps ++ pois) addresses
      (all_append Own maps pois (own_in 0 maps (maps_in rules referred)) (own_in 1 pois (pois_in (point_of e referred) (categories rules e referred))))
      (all_mapped Own Addr (address_records rules e referred) (addresses_own _ _ (names_of e) _ _ _ (point_of e referred))))
      (own_in 3 roads (roads_in rules referred)))
      (own_in 4 bans (bans_of referred).1)
