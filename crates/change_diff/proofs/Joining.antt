-- All records of an object, class by class.
use Rattle.std.proofs.Common.{◌≡◌, List, [], ◌∷◌, ◌++◌, Option, Some, None, map, refl, sym, ◌∙◌, ap, append_assoc}
use Rattle.live_model.specs.declared.objects.Entity.{Entity}
use Rattle.live_model.specs.declared.rules.Rule.{Rule}
use Rattle.live_model.specs.declared.addresses.AddrRec.{AddrRec}
use Rattle.live_model.specs.declared.records.MapRec.{MapRec}
use Rattle.live_model.specs.declared.records.PoiRec.{PoiRec}
use Rattle.live_model.specs.declared.records.Rec.{Rec}
use Rattle.live_model.specs.declared.records.Rec.TheVariants.{Map, Poi, Addr, Road, Ban}
use Rattle.live_model.specs.Ids.{Id}
use Rattle.live_model.specs.Closures.{closure}
use Rattle.live_model.specs.Records.{of_first, records, records_with, map_records, map_records_of, poi_records, poi_records_of, address_records, address_records_of, road_records, road_records_of, restriction_records, restriction_records_of}

-- what is made of the first object of all classes is what is made of it of each class in turn
of_each : (rules : List Rule) (objects : List (Id × Option Entity))
    → of_first (records_with rules) objects
    ≡ map Map (of_first (map_records rules) objects) ++ map Poi (of_first (poi_records rules) objects) ++ map Addr (of_first (address_records rules) objects) ++ map Road (of_first (road_records rules) objects) ++ map Ban (of_first restriction_records objects)
of_each rules [] = refl
of_each rules ((id, None) ∷ referred) = refl
of_each rules ((id, Some e) ∷ referred) = refl

module _ (rules : List Rule) (store : List Entity) (id : Id) where
  records_are : records rules store id ≡ map Map (map_records_of rules store id) ++ map Poi (poi_records_of rules store id) ++ map Addr (address_records_of rules store id) ++ map Road (road_records_of rules store id) ++ map Ban (restriction_records_of store id)
  unfolding records map_records_of poi_records_of address_records_of road_records_of restriction_records_of
  records_are = of_each rules (closure store id)

  all_put : (before : List Rec) → before ++ map Map (map_records_of rules store id) ++ map Poi (poi_records_of rules store id) ++ map Addr (address_records_of rules store id) ++ (map Road (road_records_of rules store id) ++ map Ban (restriction_records_of store id)) ≡ before ++ records rules store id
  all_put before =
      let maps = map Map (map_records_of rules store id) in
      let pois = map Poi (poi_records_of rules store id) in
      let addresses = map Addr (address_records_of rules store id) in
      let roads = map Road (road_records_of rules store id) in
      let bans = map Ban (restriction_records_of store id) in
      ap (λ rs. rs ++ addresses ++ (roads ++ bans)) (append_assoc before maps pois)
      ∙ ap (λ rs. rs ++ (roads ++ bans)) (append_assoc before (maps ++ pois) addresses)
      ∙ append_assoc before (maps ++ pois ++ addresses) (roads ++ bans)
      ∙ ap (λ rs. before ++ rs) (sym (append_assoc (maps ++ pois ++ addresses) roads bans) ∙ sym records_are)

  -- after the records of each class in turn were put at the end, all are there
  pub put_in_turn : (before one two three four rest : List Rec) (maps : List MapRec) (pois : List PoiRec) (addresses : List AddrRec)
      → maps ≡ map_records_of rules store id → pois ≡ poi_records_of rules store id → addresses ≡ address_records_of rules store id → rest ≡ map Road (road_records_of rules store id) ++ map Ban (restriction_records_of store id)
      → one ≡ before ++ map Map maps → two ≡ one ++ map Poi pois → three ≡ two ++ map Addr addresses → four ≡ three ++ rest
      → four ≡ before ++ records rules store id
  put_in_turn before one two three four rest maps pois addresses are_maps are_pois are_addresses are_rest first second third last =
      last
      ∙ (λ i. third i ++ are_rest i)
      ∙ (λ i. (second i ++ map Addr (are_addresses i)) ++ (map Road (road_records_of rules store id) ++ map Ban (restriction_records_of store id)))
      ∙ (λ i. ((first i ++ map Poi (are_pois i)) ++ map Addr (address_records_of rules store id)) ++ (map Road (road_records_of rules store id) ++ map Ban (restriction_records_of store id)))
      ∙ (λ i. (((before ++ map Map (are_maps i)) ++ map Poi (poi_records_of rules store id)) ++ map Addr (address_records_of rules store id)) ++ (map Road (road_records_of rules store id) ++ map Ban (restriction_records_of store id)))
      ∙ all_put before
