-- The nodes of a sound road as they are read, one after another.
use Rattle.std.proofs.Common.{◌≡◌, ℕ, true, List, [], ◌∷◌, ◌++◌, map, Ok, refl, sym, ap, subst, ◌∙◌, append_assoc}
use Rattle.std.specs.Prelude.{ℤ, pos, ◌+ℤ◌}
use Rattle.std.specs.List.{list_all}
use Rattle.std.proofs.lemmas.Bool.{and_parts}
use Rattle.std.proofs.lemmas.List.{append-nil}
use Rattle.live_model.specs.declared.records.RoadNode.{RoadNode}
use Rattle.coord_delta.specs.Steps.{moved}
use Rattle.obf_wire.specs.Fields.{Window}
use Rattle.obf_wire.specs.Zigzag.{unzigzag}
use Rattle.file_grammar.specs.Readings.{numbers_at}
use Rattle.file_grammar.specs.RoadRules.{Stop, road_node_of, stops}
use Rattle.road_section.specs.declared.stops.Triple.{Triple}
use Rattle.road_section.specs.Readings.{HoldsStops}
use Rattle.road_section.specs.RoadLawful.{stop_of}
use Rattle.road_section.specs.Roads.{start}
use Rattle.road_section.specs.Stops.{AreFew, LeadsOn, behind, is_numbered, is_placed, next_stop, stop_behind}
use Rattle.road_section.proofs.StopWalk.{at_place, none_behind}

-- the node of three numbers is that of the step that they are
pub step_is : (from : Stop) (w : Window) (numbers : List ℕ) (triple : Triple) (s : LeadsOn w numbers triple) → next_stop from s.n s.x s.y ≡ stop_behind from triple
step_is from w numbers triple s =
    ap (λ (z : ℤ). record { number = from.number +ℤ z; location = moved from.location (unzigzag s.x) (unzigzag s.y) }) (sym s.number)
    ∙ ap (λ (z : ℤ). record { number = from.number +ℤ triple.number; location = moved from.location z (unzigzag s.y) }) (sym s.east)
    ∙ ap (λ (z : ℤ). record { number = from.number +ℤ triple.number; location = moved from.location triple.step.east z }) (sym s.south)

-- the node to which a step led
pub led_is : (node to : RoadNode) (triple : Triple) → to.id ≡ node.id +ℤ triple.number → pos to.point.x ≡ pos node.point.x +ℤ triple.step.east → pos to.point.y ≡ pos node.point.y +ℤ triple.step.south
    → stop_behind (stop_of node) triple ≡ stop_of to
led_is node to triple id x y =
    ap (λ (z : ℤ). record { number = z; location = moved (pos node.point.x, pos node.point.y) triple.step.east triple.step.south }) (sym id)
    ∙ ap (λ (z : ℤ). record { number = to.id; location = (z, pos node.point.y +ℤ triple.step.south) }) (sym x)
    ∙ ap (λ (z : ℤ). record { number = to.id; location = (pos to.point.x, z) }) (sym y)

-- the next of steps that lead to good nodes
pub record NextStop (from : Stop) (w : Window) (triple : Triple) : Type 0 where
  pub numbered : is_numbered (stop_behind from triple) ≡ true
  pub on_grid : is_placed (stop_behind from triple) ≡ true
  pub others : HoldsStops (stop_behind from triple) (at_place w triple.step.next)

pub next_good : (from : Stop) (w : Window) (triple : Triple) → HoldsStops from w → ((numbers : List ℕ) → numbers_at w ≡ Ok numbers → LeadsOn w numbers triple) → NextStop from w triple
next_good from w triple h next =
    let s = next h.numbers h.read in
    let same = step_is from w h.numbers triple s in
    let here : Stop = next_stop from s.n s.x s.y in
    let one = and_parts (is_numbered here) (list_all is_numbered (behind here s.rest)) (subst (λ (ns : List ℕ). list_all is_numbered (behind from ns) ≡ true) s.is h.numbered) in
    let two = and_parts (is_placed here) (list_all is_placed (behind here s.rest)) (subst (λ (ns : List ℕ). list_all is_placed (behind from ns) ≡ true) s.is h.on_grid) in
    record {
      numbered = subst (λ (x : Stop). is_numbered x ≡ true) same one.0;
      on_grid = subst (λ (x : Stop). is_placed x ≡ true) same two.0;
      others = record {
        numbers = s.rest;
        read = s.others;
        numbered = subst (λ (x : Stop). list_all is_numbered (behind x s.rest) ≡ true) same one.1;
        on_grid = subst (λ (x : Stop). list_all is_placed (behind x s.rest) ≡ true) same two.1;
      };
    }

-- behind some of the nodes
pub record NodesRead (numbers : List ℕ) (node : RoadNode) (now : List RoadNode) (w : Window) : Type 0 where
  pub rest : List ℕ
  pub left : numbers_at w ≡ Ok rest
  pub read : map road_node_of (stops numbers) ≡ now ++ map road_node_of (behind (stop_of node) rest)

pub nodes_begin : (numbers : List ℕ) (w : Window) → numbers_at w ≡ Ok numbers → NodesRead numbers start [] w
nodes_begin numbers w e = record { rest = numbers; left = e; read = refl }

pub nodes_on : (numbers : List ℕ) (node to : RoadNode) (now new : List RoadNode) (w : Window) (triple : Triple) → NodesRead numbers node now w → ((numbers : List ℕ) → numbers_at w ≡ Ok numbers → LeadsOn w numbers triple)
    → stop_behind (stop_of node) triple ≡ stop_of to → new ≡ now ++ to ∷ [] → NodesRead numbers to new (at_place w triple.step.next)
nodes_on numbers node to now new w triple l next is more =
    let s = next l.rest l.left in
    let there : Stop → List RoadNode = λ stop. road_node_of stop ∷ map road_node_of (behind stop s.rest) in
    record {
      rest = s.rest;
      left = s.others;
      read =
          l.read ∙ ap (λ (ns : List ℕ). now ++ map road_node_of (behind (stop_of node) ns)) s.is
          ∙ ap (λ (stop : Stop). now ++ there stop) (step_is (stop_of node) w l.rest triple s ∙ is)
          ∙ sym (append_assoc now (to ∷ []) (map road_node_of (behind (stop_of to) s.rest)))
          ∙ ap (λ (ns : List RoadNode). ns ++ map road_node_of (behind (stop_of to) s.rest)) (sym more);
    }

pub nodes_all : (numbers : List ℕ) (node : RoadNode) (now : List RoadNode) (w : Window) → NodesRead numbers node now w → ((numbers : List ℕ) → numbers_at w ≡ Ok numbers → AreFew numbers) → now ≡ map road_node_of (stops numbers)
nodes_all numbers node now w l last =
    sym (l.read ∙ ap (λ (ss : List Stop). now ++ map road_node_of ss) (none_behind (stop_of node) l.rest (last l.rest l.left)) ∙ append-nil now)
