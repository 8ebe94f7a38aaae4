-- The segments of a sound road, one node after another.
use Rattle.std.proofs.Common.{◌≡◌, ℕ, Bool, true, false, List, [], ◌∷◌, map, Option, Some, None, Ok, refl, sym, ap, ◌∙◌}
use Rattle.std.specs.Prelude.{◌||◌}
use Rattle.live_model.specs.declared.points.Rect.{Rect}
use Rattle.live_model.specs.declared.records.RoadNode.{RoadNode}
use Rattle.obf_wire.specs.Fields.{Window}
use Rattle.file_grammar.specs.Readings.{numbers_at}
use Rattle.file_grammar.specs.RoadRules.{Stop, road_node_of, stops}
use Rattle.road_section.specs.declared.stops.Triple.{Triple}
use Rattle.road_section.specs.RoadLawful.{stop_of}
use Rattle.road_section.specs.RoadNear.{meets_segment}
use Rattle.road_section.specs.Roads.{start}
use Rattle.road_section.specs.Segments.{after_node, touches}
use Rattle.road_section.specs.Stops.{AreFew, LeadsOn, behind, stop_behind}
use Rattle.road_section.proofs.StopRead.{step_is}
use Rattle.road_section.proofs.StopWalk.{at_place, none_behind}

-- behind some of the nodes, none of whose segments meets the rectangle
pub record SegmentsRead (rect : Rect) (numbers : List ℕ) (node : RoadNode) (before : Option RoadNode) (w : Window) : Type 0 where
  pub rest : List ℕ
  pub left : numbers_at w ≡ Ok rest
  pub read : meets_segment rect (map road_node_of (stops numbers)) ≡ meets_segment rect (after_node before (map road_node_of (behind (stop_of node) rest)))

pub segments_begin : (rect : Rect) (numbers : List ℕ) (w : Window) → numbers_at w ≡ Ok numbers → SegmentsRead rect numbers start None w
segments_begin rect numbers w e = record { rest = numbers; left = e; read = refl }

one_segment : (rect : Rect) (before : Option RoadNode) (to : RoadNode) (nodes : List RoadNode) → meets_segment rect (after_node before (to ∷ nodes)) ≡ (touches rect before to || meets_segment rect (to ∷ nodes))
one_segment rect None to nodes = refl
one_segment rect (Some before) to nodes = refl

-- the next node, and whether the segment to it meets the rectangle
pub record SegmentsOn (rect : Rect) (numbers : List ℕ) (before : Option RoadNode) (to : RoadNode) (w : Window) : Type 0 where
  pub rest : List ℕ
  pub left : numbers_at w ≡ Ok rest
  pub read : meets_segment rect (map road_node_of (stops numbers)) ≡ (touches rect before to || meets_segment rect (to ∷ map road_node_of (behind (stop_of to) rest)))

pub segments_on : (rect : Rect) (numbers : List ℕ) (node to : RoadNode) (before : Option RoadNode) (w : Window) (triple : Triple) → SegmentsRead rect numbers node before w → ((numbers : List ℕ) → numbers_at w ≡ Ok numbers → LeadsOn w numbers triple)
    → stop_behind (stop_of node) triple ≡ stop_of to → SegmentsOn rect numbers before to (at_place w triple.step.next)
segments_on rect numbers node to before w triple l next is =
    let s = next l.rest l.left in
    let there : Stop → List RoadNode = λ stop. road_node_of stop ∷ map road_node_of (behind stop s.rest) in
    record {
      rest = s.rest;
      left = s.others;
      read =
          l.read ∙ ap (λ (ns : List ℕ). meets_segment rect (after_node before (map road_node_of (behind (stop_of node) ns)))) s.is
          ∙ ap (λ (stop : Stop). meets_segment rect (after_node before (there stop))) (step_is (stop_of node) w l.rest triple s ∙ is)
          ∙ one_segment rect before to (map road_node_of (behind (stop_of to) s.rest));
    }

-- it meets the rectangle
pub segment_found : (rect : Rect) (numbers : List ℕ) (before : Option RoadNode) (to : RoadNode) (w : Window) → SegmentsOn rect numbers before to w → touches rect before to ≡ true → true ≡ meets_segment rect (map road_node_of (stops numbers))
segment_found rect numbers before to w s passes = sym (s.read ∙ (rw passes refl))

-- or not
pub segment_passed : (rect : Rect) (numbers : List ℕ) (before : Option RoadNode) (to : RoadNode) (w : Window) → SegmentsOn rect numbers before to w → touches rect before to ≡ false → SegmentsRead rect numbers to (Some to) w
segment_passed rect numbers before to w s fails = record { rest = s.rest; left = s.left; read = s.read ∙ (rw fails refl) }

alone : (rect : Rect) (before : Option RoadNode) → meets_segment rect (after_node before []) ≡ false
alone rect None = refl
alone rect (Some before) = refl

pub segments_all : (rect : Rect) (numbers : List ℕ) (node : RoadNode) (before : Option RoadNode) (w : Window) → SegmentsRead rect numbers node before w → ((numbers : List ℕ) → numbers_at w ≡ Ok numbers → AreFew numbers)
    → false ≡ meets_segment rect (map road_node_of (stops numbers))
segments_all rect numbers node before w l last =
    sym (l.read ∙ ap (λ (ss : List Stop). meets_segment rect (after_node before (map road_node_of ss))) (none_behind (stop_of node) l.rest (last l.rest l.left)) ∙ alone rect before)
