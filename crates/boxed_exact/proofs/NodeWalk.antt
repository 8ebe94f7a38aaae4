-- Nodes below a node, one after another.
use Rattle.std.proofs.Common.{◌≡◌, ◌≢◌, ℕ, ◌+◌, Bool, true, false, List, [], ◌∷◌, ◌++◌, length, map, filter_map, flat_map, Option, Some, None, Result, Ok, refl, sym, ap, subst, ◌∙◌, append_assoc, length-append, arith}
use Rattle.std.specs.Prelude.{◌&&◌, nat_le}
use Rattle.std.specs.List.{list_all}
use Rattle.std.specs.Option.{option_map}
use Rattle.obf_wire.specs.declared.file.FileBreak.{FileBreak}
use Rattle.obf_wire.specs.declared.file.FileKind.TheVariants.{BadBox, BadCount}
use Rattle.file_grammar.specs.declared.parts.Content.{Content}
use Rattle.file_grammar.specs.declared.parts.Content.TheVariants.{Message}
use Rattle.file_grammar.specs.declared.parts.Part.{Part}
use Rattle.file_grammar.specs.Tables.{content_of}
use Rattle.file_grammar.specs.Readings.{message_at, payload_of}
use Rattle.file_grammar.specs.BoxRules.{holds_box, is_box, node_facts}
use Rattle.file_grammar.specs.Facts.{Fact, fact, earlier, first_failing}
use Rattle.file_grammar.specs.Messages.{Fields, ends, has_number, has_bytes, has_numbers, has_message}
use Rattle.file_grammar.specs.Sections.{BoxNode, Placed, Leaf, leaf_with, leaves_in, messages_in, messages_within, node_in, nodes_in}
use Rattle.file_grammar.specs.Walks.{IsNext, HoldsMessage, Standing, left_in}
use Rattle.obf_wire.specs.declared.field.Field.{Field}
use Rattle.file_grammar.proofs.Earlier.{and_before, earlier_joined, first_joined}
use Rattle.boxed_exact.proofs.NodeShape.{IsTreeShape}
use Rattle.boxed_exact.specs.declared.edges.Edges.{Edges}
use Rattle.boxed_exact.specs.declared.nodes.BelowSeen.{BelowSeen}
use Rattle.boxed_exact.specs.declared.nodes.LeafSeen.{LeafSeen}
use Rattle.boxed_exact.specs.Boxes.{box_of, edges_of}
use Rattle.boxed_exact.specs.Nodes.{AreNodes, IsBelow, IsPartBelow, IsBelowChecked, AreNodesChecked, leaf_seen, nodes_below, nodes_within, shown}

abbrev facts_within : Fields → List Fact
facts_within fields = flat_map node_facts (nodes_within fields)

abbrev leaves_of : ℕ → Edges → Fields → List LeafSeen
leaves_of at edges fields = leaf_seen at edges fields ++ map shown (leaves_in (nodes_within fields))

abbrev all_held : Edges → Fields → Bool
all_held edges fields = list_all (λ node. holds_box (box_of edges) node.box) (nodes_below fields)

-- behind some of what stands below
pub record BelowLeft (at : ℕ) (edges : Edges) (all : Fields) (start now : Option FileBreak) (before after : List LeafSeen) (seen : BelowSeen) (s : Standing) : Type 0 where
  pub rest : Fields
  pub left : left_in s ≡ Ok rest
  pub are : IsBelow rest
  pub asked : earlier start (first_failing (facts_within all)) ≡ earlier now (first_failing (facts_within rest))
  pub listed : before ++ leaves_of at edges all ≡ after ++ leaves_of at edges rest
  pub count : length (nodes_below all) ≡ seen.count + length (nodes_below rest)
  pub held : all_held edges all ≡ (seen.held && all_held edges rest)

-- ---- lists

abbrev opt_list : {A : Type 0} → Option A → List A
opt_list None = []
opt_list (Some x) = x ∷ []

kept_first : {A B : Type 0} (f : A → Option B) (x : A) (xs : List A) (o : Option B) → f x ≡ o → filter_map f (x ∷ xs) ≡ opt_list o ++ filter_map f xs
kept_first f x xs None e = rw e refl
kept_first f x xs (Some y) e = rw e refl

kept_joined : {A B : Type 0} (f : A → Option B) (xs ys : List A) → filter_map f (xs ++ ys) ≡ filter_map f xs ++ filter_map f ys
kept_joined f [] ys = refl
kept_joined f (x ∷ xs) ys =
    kept_first f x (xs ++ ys) (f x) refl ∙ ap (λ (zs : List _). opt_list (f x) ++ zs) (kept_joined f xs ys) ∙ sym (append_assoc (opt_list (f x)) (filter_map f xs) (filter_map f ys))
    ∙ ap (λ (zs : List _). zs ++ filter_map f ys) (sym (kept_first f x xs (f x) refl))

all_facts_joined : (xs ys : List BoxNode) → flat_map node_facts (xs ++ ys) ≡ flat_map node_facts xs ++ flat_map node_facts ys
all_facts_joined [] ys = refl
all_facts_joined (x ∷ xs) ys = ap (λ (fs : List Fact). node_facts x ++ fs) (all_facts_joined xs ys) ∙ sym (append_assoc (node_facts x) (flat_map node_facts xs) (flat_map node_facts ys))

shown_joined : (xs ys : List Leaf) → map shown (xs ++ ys) ≡ map shown xs ++ map shown ys
shown_joined [] ys = refl
shown_joined (x ∷ xs) ys = ap (λ (zs : List LeafSeen). shown x ∷ zs) (shown_joined xs ys)

shown_leaves : (xs ys : List BoxNode) → map shown (leaves_in (xs ++ ys)) ≡ map shown (leaves_in xs) ++ map shown (leaves_in ys)
shown_leaves xs ys = ap (map shown) (kept_joined (λ node. leaf_with node node.below) xs ys) ∙ shown_joined (leaves_in xs) (leaves_in ys)

and_joined : (a b c : Bool) → (a && (b && c)) ≡ ((a && b) && c)
and_joined true b c = refl
and_joined false b c = refl

all_joined : (p : BoxNode → Bool) (xs ys : List BoxNode) → list_all p (xs ++ ys) ≡ (list_all p xs && list_all p ys)
all_joined p [] ys = refl
all_joined p (x ∷ xs) ys = ap (λ (b : Bool). p x && b) (all_joined p xs ys) ∙ and_joined (p x) (list_all p xs) (list_all p ys)

and_all : (b : Bool) → (b && true) ≡ b
and_all true = refl
and_all false = refl

abbrev fields_ok : Fields → Result Fields FileBreak
fields_ok fields = Ok fields

-- ---- one thing below after another

pub below_begin : (at : ℕ) (edges : Edges) (all : Fields) (start : Option FileBreak) (before : List LeafSeen) (s : Standing) → left_in s ≡ Ok all → IsBelow all
    → BelowLeft at edges all start start before before (record { count = 0; held = true }) s
below_begin at edges all start before s left are = record { rest = all; left = left; are = are; asked = refl; listed = refl; count = omega arith; held = refl }

leaf_step : (at : ℕ) (edges : Edges) (all : Fields) (start now : Option FileBreak) (before after : List LeafSeen) (seen : BelowSeen) (s behind : Standing) (f : Field) (rest : Fields) → IsBelow rest
    → earlier start (first_failing (facts_within all)) ≡ earlier now (first_failing (facts_within rest))
    → before ++ leaves_of at edges all ≡ after ++ leaves_of at edges rest → length (nodes_below all) ≡ seen.count + length (nodes_below rest) → all_held edges all ≡ (seen.held && all_held edges rest)
    → IsNext s behind f rest → f.key ≡ 40
    → BelowLeft at edges all start now before (after ++ record { at = at; edges = edges; place = record { at = f.at; value = f.value } } ∷ []) seen behind
leaf_step at edges all start now before after seen s behind f ends are asked listed count held n is = absurd n
leaf_step at edges all start now before after seen s behind f (has_bytes a k v r) are asked listed count held n is = absurd are
leaf_step at edges all start now before after seen s behind f (has_numbers a k v r) are asked listed count held n is = absurd are
leaf_step at edges all start now before after seen s behind f (has_message a k v r) are asked listed count held n is = absurd (omega (arith, are.0, n.1, is))
leaf_step at edges all start now before after seen s behind f (has_number p key place rest) are asked listed count held n is =
    let made : ℕ → ℕ → LeafSeen = λ p place. record { at = at; edges = edges; place = record { at = p; value = place } } in
    let one : made f.at f.value ≡ made p place = ap (λ (x : ℕ). made x f.value) n.0 ∙ ap (λ (x : ℕ). made p x) n.2 in
    let last : ends ≡ rest = sym are.1 in
    record {
      rest = ends;
      left = n.3 ∙ ap (λ (r : Fields). fields_ok r) are.1;
      are = tt;
      asked = asked ∙ ap (λ (r : Fields). earlier now (first_failing (facts_within r))) are.1;
      listed =
          listed ∙ ap (λ (r : Fields). after ++ ((made p place ∷ []) ++ map shown (leaves_in (nodes_within r)))) are.1
          ∙ ap (λ (x : LeafSeen). after ++ ((x ∷ []) ++ [])) (sym one) ∙ sym (append_assoc after (made f.at f.value ∷ []) []);
      count = count;
      held = held;
    }

told_one : (edges : Edges) (o : Option BoxNode) (told : Option Edges) (seen new : BelowSeen) → told ≡ option_map (λ node. edges_of node.box) o → (told ≡ None → new ≡ seen)
    → ((below : Edges) → told ≡ Some below → new ≡ record { count = seen.count + 1; held = seen.held && holds_box (box_of edges) (box_of below) })
    → (new.count ≡ seen.count + length (opt_list o)) × (new.held ≡ (seen.held && list_all (λ node. holds_box (box_of edges) node.box) (opt_list o)))
told_one edges None told seen new e none some =
    let same = none e in
    let c : new.count ≡ seen.count = ap (λ (s : BelowSeen). s.count) same in
    (omega (arith, c), ap (λ (s : BelowSeen). s.held) same ∙ sym (and_all seen.held))
told_one edges (Some node) told seen new e none some =
    let same = some (edges_of node.box) e in
    (ap (λ (s : BelowSeen). s.count) same, ap (λ (s : BelowSeen). s.held) same ∙ ap (λ (b : Bool). seen.held && b) (sym (and_all (holds_box (box_of edges) node.box))))

no_leaf : (at : ℕ) (edges : Edges) (rest : Fields) → AreNodes rest → leaf_seen at edges rest ≡ []
no_leaf at edges ends a = refl
no_leaf at edges (has_number p k v r) a = absurd a
no_leaf at edges (has_bytes p k v r) a = refl
no_leaf at edges (has_numbers p k v r) a = refl
no_leaf at edges (has_message p k v r) a = refl

below_nodes : (rest : Fields) → AreNodes rest → IsBelow rest
below_nodes ends a = a
below_nodes (has_number p k v r) a = absurd a
below_nodes (has_bytes p k v r) a = a
below_nodes (has_numbers p k v r) a = a
below_nodes (has_message p k v r) a = a

-- a node below was asked
node_step : (at : ℕ) (edges : Edges) (all : Fields) (start now new : Option FileBreak) (before after more : List LeafSeen) (seen new_seen : BelowSeen) (behind : Standing) (inner rest : Fields) (told : Option Edges) → AreNodes rest
    → earlier start (first_failing (facts_within all)) ≡ earlier now (first_failing (flat_map node_facts (nodes_in inner ++ nodes_within rest)))
    → before ++ leaves_of at edges all ≡ after ++ map shown (leaves_in (nodes_in inner ++ nodes_within rest))
    → length (nodes_below all) ≡ seen.count + length (opt_list (node_in inner) ++ nodes_below rest)
    → all_held edges all ≡ (seen.held && list_all (λ node. holds_box (box_of edges) node.box) (opt_list (node_in inner) ++ nodes_below rest))
    → left_in behind ≡ Ok rest → AreNodesChecked inner now new after more told → (told ≡ None → new_seen ≡ seen)
    → ((below : Edges) → told ≡ Some below → new_seen ≡ record { count = seen.count + 1; held = seen.held && holds_box (box_of edges) (box_of below) })
    → BelowLeft at edges all start new before more new_seen behind
node_step at edges all start now new before after more seen new_seen behind inner rest told are asked listed count held left n none some =
    let t = told_one edges (node_in inner) told seen new_seen n.found none some in
    let mine : List Fact = flat_map node_facts (nodes_in inner) in
    let others : List Fact = facts_within rest in
    let test : BoxNode → Bool = λ node. holds_box (box_of edges) node.box in
    record {
      rest = rest;
      left = left;
      are = below_nodes rest are;
      asked =
          asked ∙ ap (λ (fs : List Fact). earlier now (first_failing fs)) (all_facts_joined (nodes_in inner) (nodes_within rest)) ∙ ap (earlier now) (first_joined mine others)
          ∙ sym (earlier_joined now (first_failing mine) (first_failing others)) ∙ ap (λ (x : Option FileBreak). earlier x (first_failing others)) (sym n.asked);
      listed =
          listed ∙ ap (λ (ls : List LeafSeen). after ++ ls) (shown_leaves (nodes_in inner) (nodes_within rest))
          ∙ sym (append_assoc after (map shown (leaves_in (nodes_in inner))) (map shown (leaves_in (nodes_within rest))))
          ∙ ap (λ (ls : List LeafSeen). ls ++ map shown (leaves_in (nodes_within rest))) (sym n.listed)
          ∙ ap (λ (ls : List LeafSeen). more ++ (ls ++ map shown (leaves_in (nodes_within rest)))) (sym (no_leaf at edges rest are));
      count = let l = length-append (opt_list (node_in inner)) (nodes_below rest) in omega (arith, count, l, t.0);
      held =
          held ∙ ap (λ (b : Bool). seen.held && b) (all_joined test (opt_list (node_in inner)) (nodes_below rest)) ∙ and_joined seen.held (list_all test (opt_list (node_in inner))) (all_held edges rest)
          ∙ ap (λ (b : Bool). b && all_held edges rest) (sym t.1);
    }

pub leaf_on : (at : ℕ) (edges : Edges) (all : Fields) (start now : Option FileBreak) (before after : List LeafSeen) (seen : BelowSeen) (s behind : Standing) (f : Field) → BelowLeft at edges all start now before after seen s
    → ((fields : Fields) → left_in s ≡ Ok fields → IsNext s behind f fields) → f.key ≡ 40
    → BelowLeft at edges all start now before (after ++ record { at = at; edges = edges; place = record { at = f.at; value = f.value } } ∷ []) seen behind
leaf_on at edges all start now before after seen s behind f l next is = leaf_step at edges all start now before after seen s behind f l.rest l.are l.asked l.listed l.count l.held (next l.rest l.left) is

abbrev holds_part : Part → Option Content
holds_part part = Some (Message part)

abbrev some_part : Part → Option Part
some_part part = Some part

same_part : (a b : Part) → some_part a ≡ some_part b → a ≡ b
same_part a b e = cc

no_part : (a : Part) → None ≡ some_part a → ⊥
no_part a e = absurd cc

held_content : (s : Standing) (f : Field) (inner : Fields) (part : Part) (key : ℕ) → s.part ≡ part → f.key ≡ key → key ≡ 54 → (h : HoldsMessage s f inner) → content_of part 54 ≡ holds_part h.part
held_content s f inner part key is same is_key h =
    subst (λ (p : Part). content_of p 54 ≡ holds_part h.part) is (subst (λ (k : ℕ). content_of s.part k ≡ holds_part h.part) (same ∙ is_key) h.content)

node_next : (at : ℕ) (edges : Edges) (all : Fields) (start now new : Option FileBreak) (before after more : List LeafSeen) (seen new_seen : BelowSeen) (s behind : Standing) (f : Field) (part sub : Part) (told : Option Edges) (rest : Fields) → IsBelow rest
    → earlier start (first_failing (facts_within all)) ≡ earlier now (first_failing (facts_within rest))
    → before ++ leaves_of at edges all ≡ after ++ leaves_of at edges rest → length (nodes_below all) ≡ seen.count + length (nodes_below rest) → all_held edges all ≡ (seen.held && all_held edges rest)
    → IsNext s behind f rest → f.key ≢ 40 → s.part ≡ part → IsPartBelow part (Some sub)
    → ((inner : Fields) → message_at sub (payload_of s.window.bytes f) ≡ Ok inner → AreNodesChecked inner now new after more told) → (told ≡ None → new_seen ≡ seen)
    → ((below : Edges) → told ≡ Some below → new_seen ≡ record { count = seen.count + 1; held = seen.held && holds_box (box_of edges) (box_of below) })
    → BelowLeft at edges all start new before more new_seen behind
node_next at edges all start now new before after more seen new_seen s behind f part sub told ends are asked listed count held n other is below node none some = absurd n
node_next at edges all start now new before after more seen new_seen s behind f part sub told (has_bytes a k v r) are asked listed count held n other is below node none some = absurd are
node_next at edges all start now new before after more seen new_seen s behind f part sub told (has_numbers a k v r) are asked listed count held n other is below node none some = absurd are
node_next at edges all start now new before after more seen new_seen s behind f part sub told (has_number a k v r) are asked listed count held n other is below node none some = absurd (other (n.1 ∙ are.0))
node_next at edges all start now new before after more seen new_seen s behind f part sub told (has_message p key inner rest) are asked listed count held n other is below node none some =
    let same : sub ≡ n.2.part = same_part sub n.2.part (below n.2.part (held_content s f inner part key is n.1 are.0 n.2)) in
    let read = subst (λ (p : Part). message_at p (payload_of s.window.bytes f) ≡ Ok inner) (sym same) n.2.read in
    let split : nodes_within (has_message p key inner rest) ≡ nodes_in inner ++ nodes_within rest = kept_joined node_in (inner ∷ messages_within inner) (messages_within rest) in
    let first : nodes_below (has_message p key inner rest) ≡ opt_list (node_in inner) ++ nodes_below rest = kept_first (λ (m : Placed Fields). node_in m.value) (record { at = p; value = inner }) (messages_in rest) (node_in inner) refl in
    node_step at edges all start now new before after more seen new_seen behind inner rest told are.1
    (asked ∙ ap (λ (ns : List BoxNode). earlier now (first_failing (flat_map node_facts ns))) split)
    (listed ∙ ap (λ (ns : List BoxNode). after ++ map shown (leaves_in ns)) split)
    (count ∙ ap (λ (ns : List BoxNode). seen.count + length ns) first)
    (held ∙ ap (λ (ns : List BoxNode). seen.held && list_all (λ node. holds_box (box_of edges) node.box) ns) first)
    n.3 (node inner read) none some

pub node_on : (at : ℕ) (edges : Edges) (all : Fields) (start now new : Option FileBreak) (before after more : List LeafSeen) (seen new_seen : BelowSeen) (s behind : Standing) (f : Field) (part sub : Part) (told : Option Edges)
    → BelowLeft at edges all start now before after seen s → ((fields : Fields) → left_in s ≡ Ok fields → IsNext s behind f fields) → f.key ≢ 40 → s.part ≡ part → IsPartBelow part (Some sub)
    → ((inner : Fields) → message_at sub (payload_of s.window.bytes f) ≡ Ok inner → AreNodesChecked inner now new after more told) → (told ≡ None → new_seen ≡ seen)
    → ((below : Edges) → told ≡ Some below → new_seen ≡ record { count = seen.count + 1; held = seen.held && holds_box (box_of edges) (box_of below) })
    → BelowLeft at edges all start new before more new_seen behind
node_on at edges all start now new before after more seen new_seen s behind f part sub told l next other is below node none some =
    node_next at edges all start now new before after more seen new_seen s behind f part sub told l.rest l.are l.asked l.listed l.count l.held (next l.rest l.left) other is below node none some

none_next : (s behind : Standing) (f : Field) (part : Part) (rest : Fields) → IsBelow rest → IsNext s behind f rest → f.key ≢ 40 → s.part ≡ part → IsPartBelow part None → ⊥
none_next s behind f part ends are n other is below = n
none_next s behind f part (has_bytes a k v r) are n other is below = are
none_next s behind f part (has_numbers a k v r) are n other is below = are
none_next s behind f part (has_number a k v r) are n other is below = other (n.1 ∙ are.0)
none_next s behind f part (has_message p key inner rest) are n other is below = no_part n.2.part (below n.2.part (held_content s f inner part key is n.1 are.0 n.2))

pub none_on : (at : ℕ) (edges : Edges) (all : Fields) (start now : Option FileBreak) (before after : List LeafSeen) (seen : BelowSeen) (s behind : Standing) (f : Field) (part : Part)
    → BelowLeft at edges all start now before after seen s → ((fields : Fields) → left_in s ≡ Ok fields → IsNext s behind f fields) → f.key ≢ 40 → s.part ≡ part → IsPartBelow part None → ⊥
none_on at edges all start now before after seen s behind f part l next other is below = none_next s behind f part l.rest l.are (next l.rest l.left) other is below

-- ---- a whole node

leaf_of_node : (node : BoxNode) (below : Fields) → map shown (opt_list (leaf_with node below)) ≡ leaf_seen node.at (edges_of node.box) below
leaf_of_node node ends = refl
leaf_of_node node (has_number p k v r) = refl
leaf_of_node node (has_bytes p k v r) = refl
leaf_of_node node (has_numbers p k v r) = refl
leaf_of_node node (has_message p k v r) = refl

abbrev node_of : ℕ → Edges → Fields → BoxNode
node_of at edges below = record { at = at; box = box_of edges; below = below }

node_done : (at : ℕ) (edges : Edges) (b c d : ℕ) (below : Fields) (old mid new : Option FileBreak) (before after : List LeafSeen) (seen : BelowSeen) → IsBelowChecked at edges below old mid before after seen
    → new ≡ earlier mid (first_failing (fact at BadBox (is_box (box_of edges) && seen.held) ∷ fact at BadCount (nat_le seen.count 8) ∷ []))
    → AreNodesChecked (has_number at 8 edges.left (has_number b 16 edges.top (has_number c 24 edges.right (has_number d 32 edges.bottom below)))) old new before after (Some edges)
node_done at edges b c d below old mid new before after seen asked e =
    let node = node_of at edges below in
    let own : Bool → ℕ → List Fact = λ held count. fact at BadBox (is_box (box_of edges) && held) ∷ fact at BadCount (nat_le count 8) ∷ [] in
    let same = ap (λ (x : Bool). own x seen.count) asked.held ∙ ap (λ (x : ℕ). own (all_held edges below) x) asked.count in
    record {
      asked = and_before old mid new (own (all_held edges below) (length (nodes_below below))) (facts_within below) asked.asked (e ∙ ap (λ (fs : List Fact). earlier mid (first_failing fs)) same);
      listed =
          asked.listed ∙ ap (λ (ls : List LeafSeen). before ++ (ls ++ map shown (leaves_in (nodes_within below)))) (sym (leaf_of_node node below))
          ∙ ap (λ (ls : List LeafSeen). before ++ ls)
          (sym (shown_joined (opt_list (leaf_with node below)) (leaves_in (nodes_within below)))
          ∙ ap (map shown) (sym (kept_first (λ (node : BoxNode). leaf_with node node.below) node (nodes_within below) (leaf_with node below) refl)));
      found = refl;
    }

pub node_asked : (fields : Fields) (f : Field) (top right bottom : ℕ × ℕ) (s1 s2 s3 s4 s0 : Standing) (old mid new : Option FileBreak) (before after : List LeafSeen) (seen : BelowSeen) → IsTreeShape fields → IsNext s0 s1 f fields
    → ((at key value : ℕ) (rest : Fields) → left_in s1 ≡ Ok (has_number at key value rest) → (top.0 ≡ at) × (top.1 ≡ value) × (left_in s2 ≡ Ok rest))
    → ((at key value : ℕ) (rest : Fields) → left_in s2 ≡ Ok (has_number at key value rest) → (right.0 ≡ at) × (right.1 ≡ value) × (left_in s3 ≡ Ok rest))
    → ((at key value : ℕ) (rest : Fields) → left_in s3 ≡ Ok (has_number at key value rest) → (bottom.0 ≡ at) × (bottom.1 ≡ value) × (left_in s4 ≡ Ok rest))
    → ((below : Fields) → left_in s4 ≡ Ok below → IsBelow below → IsBelowChecked f.at (record { left = f.value; top = top.1; right = right.1; bottom = bottom.1 }) below old mid before after seen)
    → new ≡ earlier mid (first_failing (fact f.at BadBox (is_box (record { left = f.value; top = top.1; right = right.1; bottom = bottom.1 }) && seen.held) ∷ fact f.at BadCount (nat_le seen.count 8) ∷ []))
    → AreNodesChecked fields old new before after (Some (record { left = f.value; top = top.1; right = right.1; bottom = bottom.1 }))
node_asked ends f top right bottom s1 s2 s3 s4 s0 old mid new before after seen shape n one two three below e = absurd n
node_asked (has_bytes a k v r) f top right bottom s1 s2 s3 s4 s0 old mid new before after seen shape n one two three below e = absurd shape
node_asked (has_numbers a k v r) f top right bottom s1 s2 s3 s4 s0 old mid new before after seen shape n one two three below e = absurd shape
node_asked (has_message a k v r) f top right bottom s1 s2 s3 s4 s0 old mid new before after seen shape n one two three below e = absurd shape
node_asked (has_number at key left rest) f top right bottom s1 s2 s3 s4 s0 old mid new before after seen shape n one two three below e =
    let b = shape.1 in
    let edges : Edges = record { left = f.value; top = top.1; right = right.1; bottom = bottom.1 } in
    let behind : left_in s1 ≡ fields_ok (has_number b.b 16 b.top (has_number b.c 24 b.right (has_number b.d 32 b.bottom b.below))) = n.3 ∙ ap fields_ok b.is in
    let t = one b.b 16 b.top (has_number b.c 24 b.right (has_number b.d 32 b.bottom b.below)) behind in
    let r = two b.c 24 b.right (has_number b.d 32 b.bottom b.below) t.2 in
    let m = three b.d 32 b.bottom b.below r.2 in
    let done = node_done f.at edges b.b b.c b.d b.below old mid new before after seen (below b.below m.2 b.are) e in
    let whole : has_number f.at 8 f.value (has_number b.b 16 top.1 (has_number b.c 24 right.1 (has_number b.d 32 bottom.1 b.below))) ≡ has_number at key left rest =
    ap (λ (x : ℕ). has_number x 8 f.value (has_number b.b 16 top.1 (has_number b.c 24 right.1 (has_number b.d 32 bottom.1 b.below)))) n.0
    ∙ ap (λ (x : ℕ). has_number at x f.value (has_number b.b 16 top.1 (has_number b.c 24 right.1 (has_number b.d 32 bottom.1 b.below)))) (sym shape.0)
    ∙ ap (λ (x : ℕ). has_number at key x (has_number b.b 16 top.1 (has_number b.c 24 right.1 (has_number b.d 32 bottom.1 b.below)))) n.2
    ∙ ap (λ (x : ℕ). has_number at key left (has_number b.b 16 x (has_number b.c 24 right.1 (has_number b.d 32 bottom.1 b.below)))) t.1
    ∙ ap (λ (x : ℕ). has_number at key left (has_number b.b 16 b.top (has_number b.c 24 x (has_number b.d 32 bottom.1 b.below)))) r.1
    ∙ ap (λ (x : ℕ). has_number at key left (has_number b.b 16 b.top (has_number b.c 24 b.right (has_number b.d 32 x b.below)))) m.1
    ∙ ap (has_number at key left) (sym b.is) in
    subst (λ (fields : Fields). AreNodesChecked fields old new before after (Some edges)) whole done
