-- The nodes of a road as they are seen, one step after another.
use Rattle.std.specs.Prelude.{◌≡◌, ◌+◌, ◌&&◌, ◌%◌, ◌==◌, ℤ, ◌+ℤ◌, pos, ℕ, List, [], ◌∷◌, length, Bool, true, Option, Some, None, Ok, ◌<◌}
use Rattle.std.specs.List.{list_all}
use Rattle.live_model.specs.declared.points.Rect.{Rect}
use Rattle.coord_delta.specs.Steps.{moved}
use Rattle.obf_wire.specs.Fields.{Window}
use Rattle.obf_wire.specs.Varint.{varint_at}
use Rattle.obf_wire.specs.Zigzag.{unzigzag}
use Rattle.file_grammar.specs.BoxRules.{holds_place, is_on_grid}
use Rattle.file_grammar.specs.Readings.{numbers_at}
use Rattle.file_grammar.specs.RecordRules.{is_object_number}
use Rattle.file_grammar.specs.RoadRules.{Stop, stops, stops_from}
use Rattle.boxed_exact.specs.Numbers.{IsReached}
use Rattle.boxed_check.specs.Points.{IsMoved}
use Rattle.road_section.specs.declared.stops.NodesSeen.{NodesSeen}
use Rattle.road_section.specs.declared.stops.StopSeen.{StopSeen}
use Rattle.road_section.specs.declared.stops.Triple.{Triple}
use Rattle.road_section.specs.declared.good_nodes.NodeAt.{NodeAt}

-- a node where steps have led
abbrev pub stop_at : StopSeen → Stop
stop_at seen = record { number = seen.number; location = (seen.spot.x, seen.spot.y) }

-- the node that three numbers lead to from another
abbrev pub next_stop : Stop → ℕ → ℕ → ℕ → Stop
next_stop stop n x y = record { number = stop.number +ℤ unzigzag n; location = moved stop.location (unzigzag x) (unzigzag y) }

-- the node that a step leads to
abbrev pub stop_behind : Stop → Triple → Stop
stop_behind stop triple = record { number = stop.number +ℤ triple.number; location = moved stop.location triple.step.east triple.step.south }

-- the nodes behind another
abbrev pub behind : Stop → List ℕ → List Stop
behind stop numbers = stops_from stop.number stop.location numbers

-- its number is one of an object
abbrev pub is_numbered : Stop → Bool
is_numbered stop = is_object_number stop.number

-- it is on the grid
abbrev pub is_placed : Stop → Bool
is_placed stop = is_on_grid stop.location

-- it is in the box
abbrev pub is_held : Rect → Stop → Bool
is_held box stop = holds_place box stop.location

-- what was seen, with one node more
abbrev pub seen_with : Rect → NodesSeen → Stop → NodesSeen
seen_with holder seen stop = record {
  count = seen.count + 1;
  numbered = seen.numbered && is_numbered stop;
  on_grid = seen.on_grid && is_placed stop;
  in_box = seen.in_box && is_held holder stop;
}

-- the nodes that these numbers lead to were seen so
pub record AreNodesSeen (holder : Rect) (numbers : List ℕ) (seen : NodesSeen) : Type 0 where
  pub count : seen.count ≡ length (stops numbers)
  pub numbered : seen.numbered ≡ list_all is_numbered (stops numbers)
  pub on_grid : seen.on_grid ≡ list_all is_placed (stops numbers)
  pub in_box : seen.in_box ≡ list_all (is_held holder) (stops numbers)

-- so many steps of 64 bits lead as far as this
pub record IsReachedBy (steps : ℕ) (stop : StopSeen) : Type 0 where
  pub number : IsReached steps stop.number
  pub x : IsReached steps stop.spot.x
  pub y : IsReached steps stop.spot.y

-- of these numbers the first three are a step, and the others stand behind it
pub record LeadsOn (w : Window) (numbers : List ℕ) (triple : Triple) : Type 0 where
  pub n : ℕ
  pub x : ℕ
  pub y : ℕ
  pub rest : List ℕ
  pub is : numbers ≡ n ∷ x ∷ y ∷ rest
  pub number : triple.number ≡ unzigzag n
  pub east : triple.step.east ≡ unzigzag x
  pub south : triple.step.south ≡ unzigzag y
  pub others : numbers_at (record w { place = triple.step.next }) ≡ Ok rest

-- less than three
abbrev pub AreFew : List ℕ → Type 0
AreFew [] = Unit {0}
AreFew (a ∷ []) = Unit {0}
AreFew (a ∷ b ∷ []) = Unit {0}
AreFew (a ∷ b ∷ c ∷ numbers) = ⊥

-- the first three numbers are this step, or there are less than three
abbrev pub IsTriple : Window → List ℕ → Option Triple → Type 0
IsTriple w numbers None = AreFew numbers
IsTriple w numbers (Some triple) = LeadsOn w numbers triple

-- Nodes that are all good.

-- a node of a number and a location that were read
abbrev pub stop_read : NodeAt → Stop
stop_read node = record { number = node.number; location = (pos node.spot.x, pos node.spot.y) }

-- a number was read that leads to that of an object
pub record IsNumberOn (from : ℤ) (n : ℕ) (to : ℤ) : Type 0 where
  pub is : to ≡ from +ℤ unzigzag n
  pub good : is_object_number to ≡ true

-- a step was read, and leads to a node that is good and in the box
pub record IsNodeRead (w : Window) (holder : Rect) (from to : NodeAt) : Type 0 where
  pub n : ℕ
  pub between : ℕ
  pub first : varint_at w.bytes w.place w.end ≡ Ok (n, between)
  pub again : between < w.end
  pub number : IsNumberOn from.number n to.number
  pub spot : IsMoved (record w { place = between }) holder from.spot.x from.spot.y to.spot

-- numbers are left that lead from a node to good ones in the box, so that there are so many in all
pub record NodesLeft (w : Window) (holder : Rect) (from : Stop) (count total : ℕ) : Type 0 where
  pub numbers : List ℕ
  pub read : numbers_at w ≡ Ok numbers
  pub triples : (length numbers % 3 == 0) ≡ true
  pub numbered : list_all is_numbered (behind from numbers) ≡ true
  pub on_grid : list_all is_placed (behind from numbers) ≡ true
  pub in_box : list_all (is_held holder) (behind from numbers) ≡ true
  pub count_is : count + length (behind from numbers) ≡ total

-- so many nodes stand there, all good and in the box
abbrev pub AreNodesIn : Window → Rect → ℕ → Type 0
AreNodesIn w holder total = NodesLeft w holder (record { number = pos 0; location = (pos 0, pos 0) }) 0 total
