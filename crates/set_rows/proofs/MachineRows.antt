-- Lists of events on small machines: what is answered, and which files are there then.
use Rattle.std.proofs.Common.{◌≡◌, ℕ, List, [], ◌∷◌, refl, Some, None, true, false, map, pos}
use Rattle.std.specs.Prelude.{codes}
use Rattle.live_model.specs.declared.ids.Kind.TheVariants.{Node}
use Rattle.live_model.specs.declared.levels.Level.{Level}
use Rattle.live_model.specs.declared.levels.Level.TheVariants.{Base, Hour, Day, Month}
use Rattle.live_model.specs.declared.points.Point.{Point}
use Rattle.live_model.specs.declared.objects.Line.{Line}
use Rattle.live_model.specs.declared.objects.Line.TheVariants.{Live, Gone}
use Rattle.live_model.specs.declared.rules.Rule.{Rule}
use Rattle.live_model.specs.declared.shapes.Shape.TheVariants.{Point as PointShape}
use Rattle.live_model.specs.declared.classes.Class.TheVariants.{Map as MapClass}
use Rattle.live_model.specs.declared.queries.Query.{Query}
use Rattle.live_model.specs.declared.queries.Query.TheVariants.{View}
use Rattle.live_model.specs.declared.rows.Row.{Row}
use Rattle.live_model.specs.declared.rows.Row.TheVariants.{Map as MapRow}
use Rattle.live_model.specs.Records.{records, map_records_of, poi_records_of, address_records_of, road_records_of, restriction_records_of}
use Rattle.stamp_core.specs.Hours.{CivilHour, civil_hour}
use Rattle.overlay_set.specs.Sets.{MapFile, numbers_of}
use Rattle.overlay_set.specs.Periods.{foldable, shrinkable, places_of}
use Rattle.overlay_set.specs.Machines.{Event, Publish, Plan, Commit, Take, Ask, Drop, Tell, Shrink, Reply, Accepted, Late, HistoryFull, FilesFull, Rows, Planned, Folded, Overtaken, NothingPlanned, NotTaken, Done, Limits, limits_of_a_board, Machine, opened, machine_after, replies}

abbrev at : ℕ → ℕ → ℕ → CivilHour
at month day hour = civil_hour 2024 month day hour

-- a publication that changes nothing
abbrev hour : CivilHour → Event
hour stamp = Publish 0 stamp 0 []

abbrev start : Machine
start = opened [] [] 2 2

abbrev told : List Event → List Reply
told events = replies limits_of_a_board [] [] start events

abbrev then_ : List Event → Machine
then_ events = machine_after limits_of_a_board [] [] start events

abbrev levels : List MapFile → List Level
levels files = map (λ f. f.image.head.level) files

-- two workers plan one day; the second comes too late
abbrev two_plans : List Event
two_plans = hour (at 1 1 0) ∷ hour (at 1 1 5) ∷ hour (at 1 2 0) ∷ Plan 0 ∷ Plan 1 ∷ hour (at 1 2 1) ∷ Commit 0 ∷ Commit 1 ∷ []

overtaken : told two_plans
    ≡ Accepted 1 ∷ Accepted 2 ∷ Accepted 3 ∷ Planned true ∷ Planned true ∷ Accepted 4 ∷ Folded ∷ Overtaken 1 ∷ []
overtaken = refl

overtaken-numbers : numbers_of (then_ two_plans).now.files ≡ 0 ∷ 5 ∷ 3 ∷ 4 ∷ []
overtaken-numbers = refl

-- a month that is one hour file can be folded, and not shrunk
abbrev four_hours : List Event
four_hours = hour (at 1 1 0) ∷ hour (at 2 1 0) ∷ hour (at 2 1 1) ∷ hour (at 3 1 0) ∷ []

january_foldable : foldable (then_ four_hours).now ≡ Some (record { level = Month; hour = at 1 1 0 })
january_foldable = refl

february_shrinkable : shrinkable (then_ four_hours).now ≡ Some (record { level = Month; hour = at 2 1 0 })
february_shrinkable = refl

february_places : places_of (record { level = Month; hour = at 2 1 0 }) (then_ four_hours).now.files ≡ (2, 4)
february_places = refl

abbrev shrunk : List Event
shrunk = Shrink ∷ Shrink ∷ Plan 0 ∷ Commit 0 ∷ []

shrinks : replies limits_of_a_board [] [] (then_ four_hours) shrunk ≡ Folded ∷ Planned false ∷ Planned true ∷ Folded ∷ []
shrinks = refl

shrinks-levels : levels (machine_after limits_of_a_board [] [] (then_ four_hours) shrunk).now.files ≡ Base ∷ Month ∷ Month ∷ Hour ∷ []
shrinks-levels = refl

-- What passes are answered, over a map of one point.

-- all that the rows compute with
opened_records : Unit {0}
unfolding records map_records_of poi_records_of address_records_of road_records_of restriction_records_of
opened_records = tt

abbrev here : Point
here = record { x = 10; y = 10 }

abbrev there : Point
there = record { x = 20; y = 20 }

abbrev node : ℕ → Point → Line
node number place =
    Live (record { id = record { kind = Node; number = pos number }; version = 0; tags = record { key = codes "a"; value = codes "b" } ∷ []; place = Some place; refs = []; members = [] })

abbrev table : List Rule
table = record { shape = PointShape; key = codes "a"; value = None; zoom = 0; class = MapClass } ∷ []

abbrev everywhere : Query
everywhere = View (record { left = 0; top = 0; right = 100; bottom = 100 }) 0

abbrev row : ℕ → Point → Row
row number place = MapRow (record { id = record { kind = Node; number = pos number }; rule = 0; shape = PointShape; name = []; points = place ∷ [] })

abbrev map_start : Machine
map_start = opened table (node 1 here ∷ []) 2 1

-- a pass that took the map before a publication is answered from before it, also after that; a pass that was told is answered from after it
abbrev before_and_after : List Event
before_and_after =
    Take 0 ∷ Publish 1 (at 1 1 0) 1 (node 1 there ∷ []) ∷ Ask 0 everywhere ∷ Drop 0 ∷ Ask 0 everywhere ∷ Tell 1 0 ∷ Take 0 ∷ Ask 0 everywhere ∷ Commit 0 ∷ []

answers : replies limits_of_a_board table (node 1 here ∷ []) map_start before_and_after
    ≡ Done ∷ Accepted 1 ∷ Rows 0 (row 1 here ∷ []) ∷ Done ∷ NotTaken ∷ Done ∷ Done ∷ Rows 1 (row 1 there ∷ []) ∷ NothingPlanned ∷ []
unfolding opened_records
answers = refl

-- a fold changes no answer
abbrev fold_between : List Event
fold_between =
    Publish 0 (at 1 1 0) 1 (node 1 there ∷ []) ∷ Publish 0 (at 1 1 1) 2 (node 2 here ∷ []) ∷ Publish 0 (at 1 2 0) 3 (Gone (record { kind = Node; number = pos 1 }) 0 ∷ [])
    ∷ Take 0 ∷ Ask 0 everywhere ∷ Plan 0 ∷ Commit 0 ∷ Take 0 ∷ Ask 0 everywhere ∷ []

fold_keeps_answers : replies limits_of_a_board table (node 1 here ∷ []) map_start fold_between
    ≡ Accepted 1 ∷ Accepted 2 ∷ Accepted 3 ∷ Done ∷ Rows 3 (row 2 here ∷ []) ∷ Planned true ∷ Folded ∷ Done ∷ Rows 3 (row 2 here ∷ []) ∷ []
unfolding opened_records
fold_keeps_answers = refl

-- Full sets, with room for three files and five publications.

abbrev small : Limits
small = record { entries = 5; files = 3 }

abbrev told_small : List Event → List Reply
told_small events = replies small [] [] start events

-- months of one hour each leave nothing to shrink
files_full : told_small (hour (at 1 1 0) ∷ hour (at 2 1 0) ∷ hour (at 3 1 0) ∷ []) ≡ Accepted 1 ∷ Accepted 2 ∷ FilesFull 2 ∷ []
files_full = refl

-- late comes before full
late_first : told_small (hour (at 1 1 0) ∷ hour (at 2 1 0) ∷ hour (at 1 5 0) ∷ hour (at 2 1 0) ∷ [])
    ≡ Accepted 1 ∷ Accepted 2 ∷ Late 2 (at 2 1 0) ∷ Late 2 (at 2 1 0) ∷ []
late_first = refl

-- a full set of which a day is closed makes room by itself, but not for the hour that closes that day
not_yet_closed : told_small (hour (at 1 1 0) ∷ hour (at 1 1 1) ∷ hour (at 1 2 0) ∷ []) ≡ Accepted 1 ∷ Accepted 2 ∷ FilesFull 2 ∷ []
not_yet_closed = refl

abbrev room_for_four : Limits
room_for_four = record { entries = 5; files = 4 }

abbrev to_the_end : List Event
to_the_end = hour (at 1 1 0) ∷ hour (at 1 1 1) ∷ hour (at 1 2 0) ∷ hour (at 1 3 0) ∷ hour (at 2 1 0) ∷ hour (at 2 2 0) ∷ []

history_full : replies room_for_four [] [] start to_the_end
    ≡ Accepted 1 ∷ Accepted 2 ∷ Accepted 3 ∷ Accepted 4 ∷ FilesFull 4 ∷ FilesFull 4 ∷ []
history_full = refl

abbrev room_for_two : Limits
room_for_two = record { entries = 2; files = 3 }

-- late, then the history, then the files
history_full_first : replies room_for_two [] [] start (hour (at 1 1 0) ∷ hour (at 1 1 1) ∷ hour (at 1 1 1) ∷ hour (at 1 1 2) ∷ [])
    ≡ Accepted 1 ∷ Accepted 2 ∷ Late 2 (at 1 1 1) ∷ HistoryFull 2 ∷ []
history_full_first = refl

-- two plans of one day; the pass that comes second finds the first hour file gone, and the day is answered as before
abbrev plans_of_two : List Event
plans_of_two = hour (at 1 1 0) ∷ hour (at 1 1 1) ∷ hour (at 1 2 0) ∷ Plan 0 ∷ Plan 1 ∷ Commit 1 ∷ Commit 0 ∷ Commit 0 ∷ Plan 0 ∷ []

second_commit : told plans_of_two ≡ Accepted 1 ∷ Accepted 2 ∷ Accepted 3 ∷ Planned true ∷ Planned true ∷ Folded ∷ Overtaken 1 ∷ NothingPlanned ∷ Planned false ∷ []
second_commit = refl

-- a day's plan may be committed after its month is closed; then the month is folded
abbrev late_day : List Event
late_day = hour (at 1 1 0) ∷ hour (at 1 2 0) ∷ Plan 0 ∷ hour (at 2 1 0) ∷ Commit 0 ∷ []

late_day-levels : levels (then_ late_day).now.files ≡ Base ∷ Day ∷ Hour ∷ Hour ∷ []
late_day-levels = refl

late_day-next : foldable (then_ late_day).now ≡ Some (record { level = Month; hour = at 1 1 0 })
late_day-next = refl
