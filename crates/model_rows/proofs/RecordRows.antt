-- Rows as they are printed, and records that fit a table of two rules.
use Rattle.std.proofs.Common.{◌≡◌, ℕ, List, [], ◌∷◌, refl, Some, None, arith}
use Rattle.std.specs.Prelude.{codes, ◌++◌, pos, negsuc}
use Rattle.std.specs.Fmt.{digits}
use Rattle.std.proofs.Math.Utf8.{encode}
use Rattle.text_pieces.specs.Coordinates.{magnitude_text, degrees_text}
use Rattle.text_pieces.specs.Escapes.{escaped}
use Rattle.live_model.specs.declared.ids.Kind.{Kind}
use Rattle.live_model.specs.declared.ids.Kind.TheVariants.{Node, Way, Relation}
use Rattle.live_model.specs.declared.points.Point.{Point}
use Rattle.live_model.specs.declared.shapes.Shape.TheVariants.{Point as PointShape, Line as LineShape, Area as AreaShape}
use Rattle.live_model.specs.declared.classes.Class.TheVariants.{Map as MapClass, Road as RoadClass}
use Rattle.live_model.specs.declared.rules.Rule.{Rule}
use Rattle.live_model.specs.declared.directions.Dir.TheVariants.{Both, Forward, Backward}
use Rattle.live_model.specs.declared.addresses.AddrKind.TheVariants.{Place, Street, House}
use Rattle.live_model.specs.declared.records.RoadNode.{RoadNode}
use Rattle.live_model.specs.declared.records.Rec.TheVariants.{Map, Ban}
use Rattle.live_model.specs.declared.rows.Row.TheVariants.{Map as MapRow, Poi as PoiRow, Addr as AddrRow, Seg as SegmentRow, Ban as BanRow}
use Rattle.live_model.specs.Ids.{Id}
use Rattle.live_model.specs.CanonicalLines.{id_text}
use Rattle.live_model.specs.Fits.{FitsMap, FitsPoi, FitsAddress, FitsRoad, FitsRestriction, FitsRules}
use Rattle.live_model.specs.RowTexts.{printed_row, rows_text}

-- all that the rows compute with
opened : Unit {0}
unfolding printed_row id_text escaped degrees_text magnitude_text digits encode
opened = tt

abbrev point : ℕ → ℕ → Point
point x y = record { x = x; y = y }

abbrev id : Kind → ℕ → Id
id kind number = record { kind = kind; number = pos number }

abbrev road_node : ℕ → Point → RoadNode
road_node number p = record { id = pos number; point = p }

abbrev p2 : Point
p2 = point 1931001000 375999000

abbrev p3 : Point
p3 = point 1931000000 375998000

abbrev p4 : Point
p4 = point 1931010000 375998000

abbrev p5 : Point
p5 = point 1931020000 375998000

abbrev sharp : List ℕ
sharp = codes "Stra" ++ 195 ∷ 159 ∷ codes "e"

-- Printed rows.

map_row : printed_row (MapRow (record { id = id Way 20; rule = 3; shape = LineShape; name = sharp; points = p3 ∷ p4 ∷ p5 ∷ [] }))
    ≡ codes "M w20 3 line =Stra" ++ 195 ∷ 159 ∷ codes "e x13.1y52.4002,x13.101y52.4002,x13.102y52.4002"
unfolding opened
map_row = refl

-- without a name
nameless_row : printed_row (MapRow (record { id = id Way 21; rule = 7; shape = AreaShape; name = []; points = point 1931004000 375996000 ∷ [] }))
    ≡ codes "M w21 7 area = x13.1004y52.4004"
unfolding opened
nameless_row = refl

poi_row : printed_row (PoiRow (record { id = id Node 2; category = codes "cafe"; name = codes "Bo Bar"; point = p2 })) ≡ codes "P n2 cafe x13.1001y52.4001 =Bo%20%Bar"
unfolding opened
poi_row = refl

place_row : printed_row (AddrRow (record { id = record { kind = Node; number = negsuc 0 }; kind = Place; lang = []; name = codes "Ort"; number = []; point = point 0 1800000000 }))
    ≡ codes "A n-1 place x-180y-90 =Ort"
unfolding opened
place_row = refl

street_row : printed_row (AddrRow (record { id = id Way 20; kind = Street; lang = []; name = sharp; number = []; point = p4 }))
    ≡ codes "A w20 street x13.101y52.4002 =Stra" ++ 195 ∷ 159 ∷ codes "e"
unfolding opened
street_row = refl

-- a name in a language, and the language behind it
place_in_language_row : printed_row (AddrRow (record { id = id Node 1; kind = Place; lang = codes "en"; name = codes "Cologne"; number = []; point = point 1800000000 900000000 }))
    ≡ codes "A n1 place x0y0 =Cologne en"
unfolding opened
place_in_language_row = refl

-- the number before the street
house_row : printed_row (AddrRow (record { id = id Way 21; kind = House; lang = []; name = sharp; number = codes "3"; point = point 1931005000 375995000 }))
    ≡ codes "H w21 x13.1005y52.4005 =3 =Stra" ++ 195 ∷ 159 ∷ codes "e"
unfolding opened
house_row = refl

segment_row : printed_row (SegmentRow (record { id = id Way 20; index = 1; a = road_node 4 p4; b = road_node 5 p5; dir = Both; value = codes "residential" }))
    ≡ codes "R w20 1 n4 n5 b x13.101y52.4002 x13.102y52.4002 =residential"
unfolding opened
segment_row = refl

-- two rows, of ways forward and backward and without a value
two_segments : rows_text
    (SegmentRow (record { id = id Way 20; index = 0; a = road_node 3 p3; b = road_node 4 p4; dir = Forward; value = [] })
    ∷ SegmentRow (record { id = id Way 22; index = 0; a = road_node 4 p4; b = road_node 3 p3; dir = Backward; value = [] }) ∷ [])
    ≡ codes "R w20 0 n3 n4 f x13.1y52.4002 x13.101y52.4002 =" ++ 10 ∷ codes "R w22 0 n4 n3 r x13.101y52.4002 x13.1y52.4002 =" ++ 10 ∷ []
unfolding opened
two_segments = refl

turn_row : printed_row (BanRow (record { id = id Relation 30; value = codes "no_left_turn"; from = pos 20; via = pos 5; to = pos 22; point = p5 }))
    ≡ codes "X r30 w20 n5 w22 x13.102y52.4002 =no_left_turn"
unfolding opened
turn_row = refl

-- Records that fit.

abbrev rules : List Rule
rules =
    record { shape = PointShape; key = codes "a"; value = None; zoom = 0; class = MapClass }
    ∷ record { shape = LineShape; key = codes "h"; value = Some (codes "x"); zoom = 0; class = RoadClass } ∷ []

fits_map : FitsMap rules (record { id = id Node 2; rule = 0; shape = PointShape; name = []; points = p2 ∷ [] })
fits_map = record {
  rule = record { shape = PointShape; key = codes "a"; value = None; zoom = 0; class = MapClass };
  in_table = refl;
  class = refl;
  shape = refl;
  id = omega arith;
  kind = refl;
  name = ([], (refl, refl));
  count = refl;
  grid = ((omega arith, omega arith), tt);
}

fits_poi : FitsPoi (record { id = id Way 21; category = codes "park"; name = []; point = p2 })
unfolding opened
fits_poi = record {
  id = omega arith;
  kind = λ e. absurd (cc);
  category = refl;
  name = ([], (refl, refl));
  grid = (omega arith, omega arith);
}

fits_house : FitsAddress (record { id = id Way 21; kind = House; lang = []; name = codes "x"; number = codes "3"; point = p2 })
unfolding opened
fits_house = record {
  id = omega arith;
  kind = λ e. absurd (cc);
  lang = refl;
  name = ((120 ∷ [], (refl, refl)), (λ e. absurd (cc)));
  number = ((51 ∷ [], (refl, refl)), (λ e. absurd (cc)));
  grid = (omega arith, omega arith);
}

fits_road : FitsRoad rules (record { id = id Way 20; rule = 1; value = codes "x"; dir = Both; nodes = road_node 3 p3 ∷ road_node 4 p4 ∷ [] })
unfolding opened
fits_road = record {
  rule = record { shape = LineShape; key = codes "h"; value = Some (codes "x"); zoom = 0; class = RoadClass };
  in_table = refl;
  class = refl;
  shape = refl;
  id = omega arith;
  kind = refl;
  value = ((120 ∷ [], (refl, refl)), refl);
  count = omega arith;
  grid = ((omega arith, (omega arith, omega arith)), ((omega arith, (omega arith, omega arith)), tt));
}

fits_turn : FitsRestriction (record { id = id Relation 30; value = []; from = pos 20; via = pos 5; to = pos 22; point = p5 })
fits_turn = record { id = omega arith; kind = refl; value = ([], (refl, refl)); from = omega arith; via = omega arith; to = omega arith; grid = (omega arith, omega arith) }

-- records of two classes together
fit_together : FitsRules rules
    (Map (record { id = id Node 2; rule = 0; shape = PointShape; name = []; points = p2 ∷ [] })
    ∷ Ban (record { id = id Relation 30; value = []; from = pos 20; via = pos 5; to = pos 22; point = p5 }) ∷ [])
fit_together = (fits_map, (fits_turn, tt))
