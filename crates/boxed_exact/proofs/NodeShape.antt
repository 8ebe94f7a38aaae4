-- The fields of a node: four edges, and then a place or other nodes.
use Rattle.std.proofs.Common.{◌≡◌, ℕ, zero, suc, true, false, List, [], ◌∷◌, Option, Some, None, Ok, refl, sym, ap, subst, ◌∙◌, ◌⊎◌, inl, inr}
use Rattle.std.specs.Prelude.{◌==◌, ◌||◌}
use Rattle.std.proofs.lemmas.Bool.{both_ways, eqb-true, or_cases}
use Rattle.obf_wire.specs.Fields.{Window, is_among}
use Rattle.file_grammar.specs.declared.parts.Content.{Content}
use Rattle.file_grammar.specs.declared.parts.Content.TheVariants.{Number, Message}
use Rattle.file_grammar.specs.declared.parts.Part.{Part}
use Rattle.file_grammar.specs.declared.parts.Part.TheVariants.{Tree, Node}
use Rattle.file_grammar.specs.Messages.{Fields, ends, has_number, has_bytes, has_numbers, has_message}
use Rattle.file_grammar.specs.Readings.{message_at}
use Rattle.file_grammar.specs.Tables.{next_keys, may_end, content_of}
use Rattle.file_grammar.proofs.Shaped.{AreMessages, BeginsNumber, HoldsNumber, HoldsNumbers, IsShaped, are_messages, begins_number, only_key, shaped}
use Rattle.boxed_exact.specs.Nodes.{AreNodes, IsBelow, IsTreePart}

abbrev holds : Content → Option Content
holds content = Some content

-- the keys of a node
pub record IsNodePart (part : Part) : Type 0 where
  pub left_key : next_keys part None ≡ 8 ∷ []
  pub left : content_of part 8 ≡ holds Number
  pub top_key : next_keys part (Some 8) ≡ 16 ∷ []
  pub top_end : may_end part (Some 8) ≡ false
  pub top : content_of part 16 ≡ holds Number
  pub right_key : next_keys part (Some 16) ≡ 24 ∷ []
  pub right_end : may_end part (Some 16) ≡ false
  pub right : content_of part 24 ≡ holds Number
  pub bottom_key : next_keys part (Some 24) ≡ 32 ∷ []
  pub bottom_end : may_end part (Some 24) ≡ false
  pub bottom : content_of part 32 ≡ holds Number
  pub below : (fields : Fields) → IsShaped part (Some 32) fields → IsBelow fields

only_end : (part : Part) (last : Option ℕ) (fields : Fields) → next_keys part last ≡ [] → IsShaped part last fields → fields ≡ ends
unfolding IsShaped
only_end part last ends none s = refl
only_end part last (has_number at key value rest) none s = absurd (both_ways false refl (subst (λ (keys : List ℕ). is_among keys key ≡ true) none s.0))
only_end part last (has_bytes at key text rest) none s = absurd (both_ways false refl (subst (λ (keys : List ℕ). is_among keys key ≡ true) none s.0))
only_end part last (has_numbers at key values rest) none s = absurd (both_ways false refl (subst (λ (keys : List ℕ). is_among keys key ≡ true) none s.0))
only_end part last (has_message at key inner rest) none s = absurd (both_ways false refl (subst (λ (keys : List ℕ). is_among keys key ≡ true) none s.0))

leaf_below : (part : Part) (fields : Fields) → next_keys part (Some 32) ≡ 40 ∷ [] → may_end part (Some 32) ≡ false → content_of part 40 ≡ holds Number → next_keys part (Some 40) ≡ [] → IsShaped part (Some 32) fields → IsBelow fields
leaf_below part fields only more is last s =
    let n : BeginsNumber part 40 fields = begins_number part (Some 32) 40 fields only more is s in
    subst IsBelow (sym n.is) (refl, only_end part (Some 40) n.rest last n.shaped)

are_nodes : (sub : Part) (fields : Fields) → AreMessages 54 sub fields → AreNodes fields
are_nodes sub ends a = tt
are_nodes sub (has_number at key value rest) a = a
are_nodes sub (has_bytes at key text rest) a = a
are_nodes sub (has_numbers at key values rest) a = a
are_nodes sub (has_message at key inner rest) a = (a.0, are_nodes sub rest a.2)

-- of two keys one
either_key : (key : ℕ) → is_among (40 ∷ 54 ∷ []) key ≡ true → (40 ≡ key) ⊎ (54 ≡ key)
either_key key e =
    elim (or_cases (40 == key) ((54 == key) || false) e) [
      | inl h ↦ inl (eqb-true 40 key h)
      | inr h ↦ elim (or_cases (54 == key) false h) [ inl i ↦ inr (eqb-true 54 key i) | inr i ↦ absurd (both_ways false refl i) ]
    ]

content_clash : (part : Part) (key : ℕ) (a b : Content) → content_of part key ≡ holds a → content_of part key ≡ holds b → holds a ≡ holds b
content_clash part key a b x y = sym x ∙ y

no_number : (content : Option Content) (sub : Part) → content ≡ holds (Message sub) → HoldsNumber content → ⊥
no_number content sub e h = subst HoldsNumber e h

no_numbers : (content : Option Content) (sub : Part) → content ≡ holds (Message sub) → HoldsNumbers content → ⊥
no_numbers content sub e h = subst HoldsNumbers e h

no_numbers_there : (content : Option Content) → content ≡ holds Number → HoldsNumbers content → ⊥
no_numbers_there content e h = subst HoldsNumbers e h

node_below : (part sub : Part) (fields : Fields) → next_keys part (Some 32) ≡ 40 ∷ 54 ∷ [] → may_end part (Some 32) ≡ false → content_of part 40 ≡ holds Number → content_of part 54 ≡ holds (Message sub)
    → next_keys part (Some 40) ≡ [] → next_keys part (Some 54) ≡ 54 ∷ [] → IsShaped part (Some 32) fields → IsBelow fields
unfolding IsShaped
node_below part sub ends two more place node last again s = absurd (both_ways (may_end part (Some 32)) more s)
node_below part sub (has_number at key value rest) two more place node last again s =
    elim (either_key key (subst (λ (keys : List ℕ). is_among keys key ≡ true) two s.0)) [
      | inl e ↦ (sym e, only_end part (Some 40) rest last (subst (λ (k : ℕ). IsShaped part (Some k) rest) (sym e) s.2))
      | inr e ↦ absurd (no_number (content_of part key) sub (ap (content_of part) (sym e) ∙ node) s.1)
    ]
node_below part sub (has_bytes at key text rest) two more place node last again s =
    elim (either_key key (subst (λ (keys : List ℕ). is_among keys key ≡ true) two s.0)) [
      | inl e ↦ (let x = sym s.1 ∙ ap (content_of part) (sym e) ∙ place in absurd cc)
      | inr e ↦ (let x = sym s.1 ∙ ap (content_of part) (sym e) ∙ node in absurd cc)
    ]
node_below part sub (has_numbers at key values rest) two more place node last again s =
    elim (either_key key (subst (λ (keys : List ℕ). is_among keys key ≡ true) two s.0)) [
      | inl e ↦ absurd (no_numbers_there (content_of part key) (ap (content_of part) (sym e) ∙ place) s.1)
      | inr e ↦ absurd (no_numbers (content_of part key) sub (ap (content_of part) (sym e) ∙ node) s.1)
    ]
node_below part sub (has_message at key inner rest) two more place node last again s =
    elim (either_key key (subst (λ (keys : List ℕ). is_among keys key ≡ true) two s.0)) [
      | inl e ↦ (let x : holds (Message s.1.0) ≡ holds Number = sym s.1.1 ∙ ap (content_of part) (sym e) ∙ place in absurd cc)
      | inr e ↦ (sym e, are_nodes sub rest (are_messages part (Some 54) 54 sub rest again again node (subst (λ (k : ℕ). IsShaped part (Some k) rest) (sym e) s.2)))
    ]

node_part : (part : Part) → IsTreePart part → IsNodePart part
node_part Tree t = record {
  left_key = refl;
  left = refl;
  top_key = refl;
  top_end = refl;
  top = refl;
  right_key = refl;
  right_end = refl;
  right = refl;
  bottom_key = refl;
  bottom_end = refl;
  bottom = refl;
  below = λ fields s. node_below Tree (Node 22) fields refl refl refl refl refl refl s;
}
node_part (Node zero) t = record {
  left_key = refl;
  left = refl;
  top_key = refl;
  top_end = refl;
  top = refl;
  right_key = refl;
  right_end = refl;
  right = refl;
  bottom_key = refl;
  bottom_end = refl;
  bottom = refl;
  below = λ fields s. leaf_below (Node zero) fields refl refl refl refl s;
}
node_part (Node (suc levels)) t = record {
  left_key = refl;
  left = refl;
  top_key = refl;
  top_end = refl;
  top = refl;
  right_key = refl;
  right_end = refl;
  right = refl;
  bottom_key = refl;
  bottom_end = refl;
  bottom = refl;
  below = λ fields s. node_below (Node (suc levels)) (Node levels) fields refl refl refl refl refl refl s;
}
node_part part t = absurd t

-- behind the left edge the other edges stand, and what is below them
pub record IsNodeBehind (at left : ℕ) (rest : Fields) : Type 0 where
  pub b : ℕ
  pub top : ℕ
  pub c : ℕ
  pub right : ℕ
  pub d : ℕ
  pub bottom : ℕ
  pub below : Fields
  pub is : rest ≡ has_number b 16 top (has_number c 24 right (has_number d 32 bottom below))
  pub are : IsBelow below

-- a tree has no field, or begins with a left edge
abbrev pub IsTreeShape : Fields → Type 0
IsTreeShape ends = Unit {0}
IsTreeShape (has_number at key left rest) = (key ≡ 8) × IsNodeBehind at left rest
IsTreeShape fields = ⊥

behind_left : (part : Part) (at left : ℕ) (rest : Fields) → IsNodePart part → IsShaped part (Some 8) rest → IsNodeBehind at left rest
behind_left part at left rest p s =
    let two : BeginsNumber part 16 rest = begins_number part (Some 8) 16 rest p.top_key p.top_end p.top s in
    let three : BeginsNumber part 24 two.rest = begins_number part (Some 16) 24 two.rest p.right_key p.right_end p.right two.shaped in
    let four : BeginsNumber part 32 three.rest = begins_number part (Some 24) 32 three.rest p.bottom_key p.bottom_end p.bottom three.shaped in
    record {
      b = two.at;
      top = two.value;
      c = three.at;
      right = three.value;
      d = four.at;
      bottom = four.value;
      below = four.rest;
      is = two.is ∙ ap (has_number two.at 16 two.value) (three.is ∙ ap (has_number three.at 24 three.value) four.is);
      are = p.below four.rest four.shaped;
    }

tree_shaped : (part : Part) (fields : Fields) → IsNodePart part → IsShaped part None fields → IsTreeShape fields
unfolding IsShaped
tree_shaped part ends p s = tt
tree_shaped part (has_number at key left rest) p s =
    let same = only_key part None 8 key p.left_key s.0 in
    (sym same, behind_left part at left rest p (subst (λ (k : ℕ). IsShaped part (Some k) rest) (sym same) s.2))
tree_shaped part (has_bytes at key text rest) p s =
    let same = only_key part None 8 key p.left_key s.0 in
    let x = sym s.1 ∙ ap (content_of part) (sym same) ∙ p.left in absurd cc
tree_shaped part (has_numbers at key values rest) p s =
    let same = only_key part None 8 key p.left_key s.0 in absurd (no_numbers_there (content_of part key) (ap (content_of part) (sym same) ∙ p.left) s.1)
tree_shaped part (has_message at key inner rest) p s =
    let same = only_key part None 8 key p.left_key s.0 in
    let x : holds (Message s.1.0) ≡ holds Number = sym s.1.1 ∙ ap (content_of part) (sym same) ∙ p.left in absurd cc

pub tree_shape : (part : Part) → IsTreePart part → (w : Window) (fields : Fields) → message_at part w ≡ Ok fields → IsTreeShape fields
tree_shape part t w fields e = tree_shaped part fields (node_part part t) (shaped part w fields e)
