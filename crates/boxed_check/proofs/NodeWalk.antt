-- A node and those below it.
use Rattle.std.proofs.Common.{◌≡◌, ℕ, zero, suc, ◌+◌, ◌<◌, ◌≤◌, Bool, true, List, [], ◌∷◌, ◌++◌, length, map, flat_map, Option, Some, None, Result, Ok, refl, sym, ap, subst, ◌∙◌, append_assoc, append-nil, arith}
use Rattle.std.specs.Prelude.{◌&&◌, filter_map, nat_le}
use Rattle.std.specs.List.{list_all, cons_option}
use Rattle.std.proofs.lemmas.Bool.{le-leb}
use Rattle.live_model.specs.declared.points.Rect.{Rect}
use Rattle.obf_wire.specs.declared.field.Field.{Field}
use Rattle.obf_wire.specs.declared.file.FileBreak.{FileBreak}
use Rattle.obf_wire.specs.Fields.{Window, IsWindow, is_among}
use Rattle.file_grammar.specs.declared.parts.Content.{Content}
use Rattle.file_grammar.specs.declared.parts.Content.TheVariants.{Number}
use Rattle.file_grammar.specs.declared.parts.Part.{Part}
use Rattle.file_grammar.specs.declared.parts.Part.TheVariants.{Tree, Node}
use Rattle.file_grammar.specs.BoxRules.{holds_box, is_box, node_facts}
use Rattle.file_grammar.specs.Facts.{AllHold, Fact}
use Rattle.file_grammar.specs.Messages.{Fields, ends, has_number, has_message}
use Rattle.file_grammar.specs.Readings.{message_from}
use Rattle.file_grammar.specs.Sections.{BoxNode, Placed, placed, messages_in, leaf_with, leaves_in, messages_within, node_in, nodes_in}
use Rattle.file_grammar.specs.Sections.{Leaf as LeafOf}
use Rattle.file_grammar.specs.Tables.{next_keys, may_end, content_of}
use Rattle.boxed_exact.specs.Nodes.{IsBelowPart, IsTreePart, nodes_below, nodes_within, shown}
use Rattle.boxed_exact.specs.declared.edges.Edges.{Edges}
use Rattle.boxed_check.specs.declared.nodes.Front.{Front}
use Rattle.boxed_exact.specs.declared.nodes.LeafSeen.{LeafSeen}
use Rattle.obf_wire.specs.KnownKeys.{IsInside, StandsFirst}
use Rattle.boxed_check.specs.Nodes.{AreNodesSeen, IsFront, IsGoodNode, NodesLeft, last_of, node_message}
use Rattle.boxed_exact.specs.Boxes.{box_of}
use Rattle.boxed_check.proofs.BlockWalk.{all_append}
use Rattle.file_grammar.proofs.Built.{ends_there, message_before, number_before}

abbrev at_place : Window → ℕ → Window
at_place w next = record w { place = next }

abbrev fields_ok : Fields → Result Fields FileBreak
fields_ok x = Ok x

abbrev holds : Content → Option Content
holds x = Some x

-- after a field of a window
pub window_behind : (w : Window) (f : Field) → IsWindow w → IsInside w f → IsWindow (at_place w f.to)
window_behind w f window i = record { ordered = i.ends; within = window.within }

-- ---- the keys of a node

pub record IsNodePart (part : Part) : Type 0 where
  pub k8 : is_among (next_keys part None) 8 ≡ true
  pub c8 : content_of part 8 ≡ holds Number
  pub k16 : is_among (next_keys part (Some 8)) 16 ≡ true
  pub c16 : content_of part 16 ≡ holds Number
  pub k24 : is_among (next_keys part (Some 16)) 24 ≡ true
  pub c24 : content_of part 24 ≡ holds Number
  pub k32 : is_among (next_keys part (Some 24)) 32 ≡ true
  pub c32 : content_of part 32 ≡ holds Number
  pub k40 : is_among (next_keys part (Some 32)) 40 ≡ true
  pub c40 : content_of part 40 ≡ holds Number
  pub e40 : may_end part (Some 40) ≡ true

node_part : (part : Part) → IsTreePart part → IsNodePart part
node_part Tree t = record { k8 = refl; c8 = refl; k16 = refl; c16 = refl; k24 = refl; c24 = refl; k32 = refl; c32 = refl; k40 = refl; c40 = refl; e40 = refl }
node_part (Node zero) t = record { k8 = refl; c8 = refl; k16 = refl; c16 = refl; k24 = refl; c24 = refl; k32 = refl; c32 = refl; k40 = refl; c40 = refl; e40 = refl }
node_part (Node (suc levels)) t = record { k8 = refl; c8 = refl; k16 = refl; c16 = refl; k24 = refl; c24 = refl; k32 = refl; c32 = refl; k40 = refl; c40 = refl; e40 = refl }
node_part part t = absurd t

-- ---- edges

pub front_is : (w : Window) (one two three four : Field) → IsWindow w → StandsFirst w 8 one → StandsFirst (at_place w one.to) 16 two → StandsFirst (at_place w two.to) 24 three → StandsFirst (at_place w three.to) 32 four
    → is_box (record { left = one.value; top = two.value; right = three.value; bottom = four.value }) ≡ true
    → IsFront w (record { at = one.at; edges = record { left = one.value; top = two.value; right = three.value; bottom = four.value }; next = four.to })
front_is w one two three four window r1 r2 r3 r4 box =
    let w1 = window_behind w one window r1.inside in
    let w2 = window_behind (at_place w one.to) two w1 r2.inside in
    let w3 = window_behind (at_place w two.to) three w2 r3.inside in
    record {
      b = two.at;
      c = three.at;
      d = four.at;
      read = λ part rest t s4.
          let p = node_part part t in
          let s3 = number_before part (Some 24) (at_place w three.to) 32 four rest w3 p.k32 p.c32 r4 s4 in
          let s2 = number_before part (Some 16) (at_place w two.to) 24 three _ w2 p.k24 p.c24 r3 s3 in
          let s1 = number_before part (Some 8) (at_place w one.to) 16 two _ w1 p.k16 p.c16 r2 s2 in
          number_before part None w 8 one _ window p.k8 p.c8 r1 s1;
      box = box;
    }

-- ---- lists

cons_append : {B : Type 0} (o : Option B) (all one two : List B) → all ≡ one ++ two → cons_option o all ≡ cons_option o one ++ two
cons_append None all one two e = e
cons_append {B} (Some y) all one two e = ap (λ (l : List B). y ∷ l) e

kept_append : {A B : Type 0} (f : A → Option B) (xs ys : List A) → filter_map f (xs ++ ys) ≡ filter_map f xs ++ filter_map f ys
kept_append f [] ys = refl
kept_append f (x ∷ xs) ys = cons_append (f x) (filter_map f (xs ++ ys)) (filter_map f xs) (filter_map f ys) (kept_append f xs ys)

map_joined : {A B : Type 0} (f : A → B) (xs ys : List A) → map f (xs ++ ys) ≡ map f xs ++ map f ys
map_joined f [] ys = refl
map_joined {A} {B} f (x ∷ xs) ys = ap (λ (l : List B). f x ∷ l) (map_joined f xs ys)

all_facts : (xs ys : List BoxNode) → AllHold (flat_map node_facts xs) → AllHold (flat_map node_facts ys) → AllHold (flat_map node_facts (xs ++ ys))
all_facts [] ys p q = q
all_facts (x ∷ xs) ys p q =
    let parts = all_parts (node_facts x) (flat_map node_facts xs) p in
    all_append (node_facts x) (flat_map node_facts (xs ++ ys)) parts.0 (all_facts xs ys parts.1 q) where
      all_parts : (a b : List Fact) → AllHold (a ++ b) → AllHold a × AllHold b
      all_parts [] b p = (tt, p)
      all_parts (f ∷ a) b p = let rest = all_parts a b p.1 in ((p.0, rest.0), rest.1)

-- ---- nodes one after another

-- the leaves of nodes
abbrev leaves_of : List BoxNode → List LeafSeen
leaves_of nodes = map shown (leaves_in nodes)

leaves_joined : (xs ys : List BoxNode) → leaves_of (xs ++ ys) ≡ leaves_of xs ++ leaves_of ys
leaves_joined xs ys = ap (λ (ls : List LeafOf). map shown ls) (kept_append (λ (node : BoxNode). leaf_with node node.below) xs ys) ∙ map_joined shown (leaves_in xs) (leaves_in ys)

last_more : (n : ℕ) → last_of (n + 1) ≡ 54
last_more n = let e : suc n ≡ n + 1 = omega arith in subst (λ (k : ℕ). last_of k ≡ 54) e refl

last_some : (n : ℕ) → 0 < n → last_of n ≡ 54
last_some zero h = absurd (omega (arith, h))
last_some (suc n) h = refl

last_key : (part sub : Part) (n : ℕ) → IsBelowPart part sub → is_among (next_keys part (Some (last_of n))) 54 ≡ true
last_key part sub zero b = b.first
last_key part sub (suc n) b = b.again

pub nodes_end : (sub : Part) (w : Window) (holder : Rect) (leaves : List LeafSeen) (count : ℕ) → IsWindow w → w.end ≤ w.place → 0 < count → NodesLeft sub w holder leaves leaves count count
nodes_end sub w holder leaves count window none some = record {
  fields = ends;
  read = λ part b. subst (λ (k : ℕ). message_from part (Some k) w ≡ fields_ok ends) (sym (last_some count some)) (ends_there part (Some 54) w window none b.end);
  facts = tt;
  held = refl;
  leaves = sym (append-nil leaves);
  none = λ node. refl;
  count_is = omega arith;
}

both : (a b : Bool) → a ≡ true → b ≡ true → (a && b) ≡ true
both a b p q = rw (p, q) refl

kept_one : {A B : Type 0} (f : A → Option B) (x : A) (xs : List A) (y : B) → f x ≡ Some y → filter_map f (x ∷ xs) ≡ y ∷ filter_map f xs
kept_one f x xs y e = rw e refl

pub nodes_on : (sub : Part) (w : Window) (holder : Rect) (f : Field) (edges : Edges) (before between after : List LeafSeen) (count total : ℕ) → IsWindow w → StandsFirst w 54 f
    → IsGoodNode sub (record { bytes = w.bytes; place = f.from; end = f.to }) edges before between → holds_box holder (box_of edges) ≡ true
    → NodesLeft sub (at_place w f.to) holder between after (count + 1) total → NodesLeft sub w holder before after count total
nodes_on sub w holder f edges before between after count total window read g inside l =
    let below : nodes_below (has_message f.at 54 g.fields l.fields) ≡ g.node ∷ nodes_below l.fields = kept_one (λ (m : Placed Fields). node_in m.value) (placed f.at g.fields) (messages_in l.fields) g.node g.is in
    let within : nodes_within (has_message f.at 54 g.fields l.fields) ≡ nodes_in g.fields ++ nodes_within l.fields = kept_append node_in (g.fields ∷ messages_within g.fields) (messages_within l.fields) in
    record {
      fields = has_message f.at 54 g.fields l.fields;
      read = λ part b. message_before part (Some (last_of count)) w 54 sub f g.fields l.fields window (last_key part sub count b) b.content read g.read (subst (λ (k : ℕ). message_from part (Some k) (at_place w f.to) ≡ fields_ok l.fields) (last_more count) (l.read part b));
      facts = subst (λ (ns : List BoxNode). AllHold (flat_map node_facts ns)) (sym within) (all_facts (nodes_in g.fields) (nodes_within l.fields) g.facts l.facts);
      held = subst (λ (ns : List BoxNode). list_all (λ node. holds_box holder node.box) ns ≡ true) (sym below) (both (holds_box holder g.node.box) (list_all (λ node. holds_box holder node.box) (nodes_below l.fields)) (subst (λ (box : Rect). holds_box holder box ≡ true) (sym g.box) inside) l.held);
      leaves =
          l.leaves ∙ ap (λ (ls : List LeafSeen). ls ++ leaves_of (nodes_within l.fields)) g.leaves ∙ append_assoc before (leaves_of (nodes_in g.fields)) (leaves_of (nodes_within l.fields))
          ∙ ap (λ (ls : List LeafSeen). before ++ ls) (sym (leaves_joined (nodes_in g.fields) (nodes_within l.fields)) ∙ ap leaves_of (sym within));
      none = λ node. refl;
      count_is = (let n : length (nodes_below (has_message f.at 54 g.fields l.fields)) ≡ suc (length (nodes_below l.fields)) = ap (λ (ns : List BoxNode). length ns) below in omega (arith, n, l.count_is));
    }

-- ---- a whole node

pub node_of_leaf : (part : Part) (w : Window) (front : Front) (place : Field) (before : List LeafSeen) → IsTreePart part → IsFront w front → IsWindow (at_place w front.next) → StandsFirst (at_place w front.next) 40 place → place.to ≡ w.end
    → IsGoodNode part w front.edges before (before ++ record { at = front.at; edges = front.edges; place = record { at = place.at; value = place.value } } ∷ [])
node_of_leaf part w front place before t f window r all =
    let p = node_part part t in
    let s : message_from part (Some 40) (at_place w place.to) ≡ fields_ok ends = ends_there part (Some 40) (at_place w place.to) (window_behind (at_place w front.next) place window r.inside) (omega (arith, all)) p.e40 in
    let rest : Fields = has_number place.at 40 place.value ends in
    record {
      fields = node_message front.at front.edges f.b f.c f.d rest;
      read = f.read part rest t (number_before part (Some 32) (at_place w front.next) 40 place ends window p.k40 p.c40 r s);
      node = record { at = front.at; box = box_of front.edges; below = rest };
      is = refl;
      box = refl;
      facts = (both _ _ f.box refl, (refl, tt));
      leaves = refl;
    }

pub node_of_nodes : (part sub : Part) (w : Window) (front : Front) (before after : List LeafSeen) → IsTreePart part → IsBelowPart part sub → IsFront w front → AreNodesSeen sub (at_place w front.next) (box_of front.edges) before after → IsGoodNode part w front.edges before after
node_of_nodes part sub w front before after t b f seen =
    let l = seen.nodes in
    let node : BoxNode = record { at = front.at; box = box_of front.edges; below = l.fields } in
    let few : nat_le (length (nodes_below l.fields)) 8 ≡ true = le-leb (length (nodes_below l.fields)) 8 (omega (arith, l.count_is, seen.few)) in
    let leaf : leaves_in (node ∷ nodes_within l.fields) ≡ leaves_in (nodes_within l.fields) = ap (λ (o : Option LeafOf). cons_option o (leaves_in (nodes_within l.fields))) (l.none node) in
    record {
      fields = node_message front.at front.edges f.b f.c f.d l.fields;
      read = f.read part l.fields t (l.read part b);
      node = node;
      is = refl;
      box = refl;
      facts = (both _ _ f.box l.held, (few, l.facts));
      leaves = l.leaves ∙ ap (λ (ls : List LeafOf). before ++ map shown ls) (sym leaf);
    }
