-- A session made from a number, as long as one likes: a rule table, a base, and a script with the changes that it publishes.
use Rattle.std.specs.Prelude.{◌≡◌, ℕ, zero, suc, ◌+◌, ◌*◌, ◌%◌, ◌==◌, List, [], ◌∷◌, ◌++◌, map, codes, Some, None, if◌then◌else◌, ℤ, pos}
use Rattle.std.specs.Fmt.{decimal}
use Rattle.std.specs.List.{AllByRecursion, range_with_len}
use Rattle.live_model.specs.Objects.{IsGoodLine}
use Rattle.live_model.specs.Points.{point_at}
use Rattle.live_model.specs.declared.ids.Kind.TheVariants.{Node, Way}
use Rattle.live_model.specs.declared.points.Point.{Point}
use Rattle.live_model.specs.declared.points.Rect.{Rect}
use Rattle.live_model.specs.declared.objects.Tag.{Tag}
use Rattle.live_model.specs.declared.objects.Line.{Line}
use Rattle.live_model.specs.declared.objects.Line.TheVariants.{Live}
use Rattle.live_model.specs.declared.queries.Query.{Query}
use Rattle.live_model.specs.declared.queries.Query.TheVariants.{View}
use Rattle.stamp_core.specs.Hours.{CivilHour, civil_hour, IsNextHour}
use Rattle.script_text.specs.declared.steps.Step.{Step}
use Rattle.script_text.specs.declared.steps.What.TheVariants.{Publish, Ask}
use Rattle.made_session.specs.Draws.{drawn, state_after}

-- A state `s` in what follows is that before the first draw for what is made.

abbrev tag : List ℕ → List ℕ → Tag
tag key value = record { key = key; value = value }

-- from 13 to 13.1 degrees to the east and from 52 to 52.1 to the north, by two draws
abbrev pub drawn_point : ℕ → Point
drawn_point s = point_at (pos (130000000 + drawn s 0 1000000)) (pos (520000000 + drawn s 1 1000000))

-- each tenth node is a café
abbrev pub node_tags : ℕ → List Tag
node_tags number = if number % 10 == 0 then tag (codes "amenity") (codes "cafe") ∷ [] else []

-- a node with a number and a version, by two draws for where it is
abbrev pub drawn_node : ℕ → ℕ → ℕ → Line
drawn_node s number version =
    Live (record { id = record { kind = Node; number = pos number }; version = version; tags = node_tags number; place = Some (drawn_point s); refs = []; members = [] })

-- The base: 2,000 nodes, then 200 ways.

-- this many nodes, by two draws each
unfoldable pub base_nodes : ℕ → ℕ → List Line
base_nodes s count = map (λ i. drawn_node (state_after s (2 * i)) (i + 1) 1) (range_with_len 0 count)

-- this many of 2,000 nodes, by a draw each
unfoldable pub drawn_refs : ℕ → ℕ → List ℤ
drawn_refs s count = map (λ i. pos (1 + drawn s i 2000)) (range_with_len 0 count)

-- a street with its number in its name
abbrev pub way_tags : ℕ → List Tag
way_tags number = tag (codes "highway") (codes "residential") ∷ tag (codes "name") (codes "S" ++ decimal number) ∷ []

-- a way with a number, by five draws
abbrev pub drawn_way : ℕ → ℕ → Line
drawn_way s number =
    Live (record { id = record { kind = Way; number = pos number }; version = 1; tags = way_tags number; place = None; refs = drawn_refs s 5; members = [] })

-- this many ways
unfoldable pub base_ways : ℕ → ℕ → List Line
base_ways s count = map (λ i. drawn_way (state_after s (5 * i)) (i + 1)) (range_with_len 0 count)

-- the base of a seed
abbrev pub made_base : ℕ → List Line
made_base seed = base_nodes seed 2000 ++ base_ways (state_after seed 4000) 200

-- An hour: ten nodes that move, then a question.

-- one of the nodes goes elsewhere, by three draws
abbrev pub moved_node : ℕ → ℕ → Line
moved_node s version = drawn_node (state_after s 1) (1 + drawn s 0 2000) version

-- this many nodes do; hour 1 gives them version 2, and so on
unfoldable pub moved_nodes : ℕ → ℕ → ℕ → List Line
moved_nodes s hour count = map (λ i. moved_node (state_after s (3 * i)) (hour + 1)) (range_with_len 0 count)

-- the change of an hour
abbrev pub made_change : ℕ → ℕ → List Line
made_change s hour = moved_nodes s hour 10

-- a hundredth of a degree from edge to edge, by two draws for its west and its south
abbrev pub drawn_rect : ℕ → Rect
drawn_rect s =
    let west = 130000000 + drawn s 0 900000 in
    let south = 520000000 + drawn s 1 900000 in
    let low = point_at (pos west) (pos south) in
    let high = point_at (pos (west + 100000)) (pos (south + 100000)) in
    record { left = low.x; top = high.y; right = high.x; bottom = low.y }

-- what is drawn there at zoom 15
abbrev pub drawn_question : ℕ → Query
drawn_question s = View (drawn_rect s) 15

-- The script, by draws after those for the base.

-- the state after the base
abbrev pub after_base : ℕ → ℕ
after_base seed = state_after seed 5000

-- the name of the file of an hour
abbrev pub file_name : ℕ → List ℕ
file_name hour = codes "h" ++ decimal hour

-- the change of an hour is published under a stamp
abbrev pub publication_of : ℕ → CivilHour → Step
publication_of hour stamp = record { lane = 0; what = Publish stamp (file_name hour) }

-- a question is asked
abbrev pub asking_of : Query → Step
asking_of query = record { lane = 0; what = Ask query }

-- what is done in the hour with this index, counted from 0: its change is published, and then its question is asked
abbrev pub hour_steps : ℕ → ℕ → CivilHour → List Step
hour_steps s i stamp = publication_of (i + 1) stamp ∷ asking_of (drawn_question (state_after s 30)) ∷ []

-- the first hour
abbrev pub first : CivilHour
first = civil_hour 2024 1 1 0

-- what is done in this many hours, one after another from the first one on, by 32 draws each; after them the given hour comes next
abbrev pub IsDoneBefore : ℕ → CivilHour → ℕ → List Step → Type 0
IsDoneBefore s next zero steps = (next ≡ first) × (steps ≡ [])
IsDoneBefore s next (suc i) steps =
    (stamp : CivilHour) × (earlier : List Step) × IsDoneBefore s stamp i earlier × (steps ≡ earlier ++ hour_steps (state_after s (32 * i)) i stamp) × IsNextHour stamp next

-- the script of this many hours
abbrev pub IsScript : ℕ → ℕ → List Step → Type 0
IsScript s hours steps = (next : CivilHour) × IsDoneBefore s next hours steps

-- the changes of as many hours
unfoldable pub made_changes : ℕ → ℕ → List (List Line)
made_changes s hours = map (λ i. made_change (state_after s (32 * i)) (i + 1)) (range_with_len 0 hours)

-- the lines of each of these are good
abbrev pub AreGood : List (List Line) → Type 0
AreGood changes = AllByRecursion (AllByRecursion IsGoodLine) changes

-- The rules: cafés are points of interest, and streets are lines and roads.
abbrev pub rule_lines : List ℕ
rule_lines = codes "point amenity cafe 15 poi.cafe\nline highway * 12 map\nline highway * 12 road\n"
