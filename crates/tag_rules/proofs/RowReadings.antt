-- One rule line, by its five fields.
use Rattle.std.proofs.Common.{◌≡◌, ℕ, ◌≤◌, List, [], ◌∷◌, Bool, true, false, cond, length, take, drop, Option, Some, None, Result, Ok, Err, IfOk, IfErr, bytes_eq, ◌&&◌, refl, sym, ap, ◌∙◌, subst, arith}
use Rattle.std.specs.Prelude.{codes}
use Rattle.std.specs.Str.{is_utf8}
use Rattle.text_pieces.specs.Lines.{fields_from}
use Rattle.text_pieces.specs.Escapes.{text_of}
use Rattle.live_model.specs.declared.shapes.Shape.{Shape}
use Rattle.live_model.specs.declared.classes.Class.{Class}
use Rattle.live_model.specs.declared.rules.Rule.{Rule}
use Rattle.live_model.specs.declared.rules.RuleBreak.{RuleBreak}
use Rattle.live_model.specs.declared.rules.RuleKind.{RuleKind}
use Rattle.live_model.specs.declared.rules.RuleKind.TheVariants.{NotUtf8, FieldCount, BadShape, BadEscape, BadZoom, BadClass}
use Rattle.live_model.specs.declared.classes.Class.TheVariants.{Map, Poi, Road, Place}
use Rattle.live_model.specs.Rules.{RuleFields, five_from, rule_fields, shape_of, admitted_of, zoom_of, named_class, class_with, rule_in, rule_of, rule_tests, rule_break, IsRule, IsClass, stands_with, poi_of, is_category}
use Rattle.tag_rules.specs.declared.errors.RuleError.{RuleError}
use Rattle.tag_rules.specs.declared.errors.RuleError.TheVariants.{NoMemory, Broken}
use Rattle.tag_rules.specs.Readings.{fields_break, IsFieldsCause, IsRowCause, IsRead, OnBroken}

abbrev Fields : Type 0
Fields = List (ℕ × List ℕ)

-- The fields of a line.

pub five_found : (row : List ℕ) (a b c d e : ℕ × List ℕ) → fields_from 0 row ≡ a ∷ b ∷ c ∷ d ∷ e ∷ [] → rule_fields row ≡ Some (record { shape = a; key = b; value = c; zoom = d; class = e })
unfolding rule_fields
five_found row a b c d e are = ap five_from are

-- one field behind another, and what is left behind them

pub one_left : (all left : Fields) (a : ℕ × List ℕ) (r : Fields) → all ≡ a ∷ r → r ≡ left → all ≡ a ∷ left
one_left all left a r h1 h2 = h1 ∙ ap (λ x. a ∷ x) h2

pub two_left : (all left : Fields) (a b : ℕ × List ℕ) (r s : Fields) → all ≡ a ∷ r → r ≡ b ∷ s → s ≡ left → all ≡ a ∷ b ∷ left
two_left all left a b r s h1 h2 h3 = h1 ∙ ap (λ x. a ∷ x) (one_left r left b s h2 h3)

pub three_left : (all left : Fields) (a b c : ℕ × List ℕ) (r s t : Fields) → all ≡ a ∷ r → r ≡ b ∷ s → s ≡ c ∷ t → t ≡ left → all ≡ a ∷ b ∷ c ∷ left
three_left all left a b c r s t h1 h2 h3 h4 = h1 ∙ ap (λ x. a ∷ x) (two_left r left b c s t h2 h3 h4)

pub four_left : (all left : Fields) (a b c d : ℕ × List ℕ) (r s t u : Fields) → all ≡ a ∷ r → r ≡ b ∷ s → s ≡ c ∷ t → t ≡ d ∷ u → u ≡ left → all ≡ a ∷ b ∷ c ∷ d ∷ left
four_left all left a b c d r s t u h1 h2 h3 h4 h5 = h1 ∙ ap (λ x. a ∷ x) (three_left r left b c d s t u h2 h3 h4 h5)

pub five_left : (all left : Fields) (a b c d e : ℕ × List ℕ) (r s t u v : Fields) → all ≡ a ∷ r → r ≡ b ∷ s → s ≡ c ∷ t → t ≡ d ∷ u → u ≡ e ∷ v → v ≡ left → all ≡ a ∷ b ∷ c ∷ d ∷ e ∷ left
five_left all left a b c d e r s t u v h1 h2 h3 h4 h5 h6 = h1 ∙ ap (λ x. a ∷ x) (four_left r left b c d e s t u v h2 h3 h4 h5 h6)

pub not_five : (row : List ℕ) (fs : Fields) → fields_from 0 row ≡ fs → five_from fs ≡ None → rule_fields row ≡ None
unfolding rule_fields
not_five row fs are none = ap five_from are ∙ none

-- The tests of the fields.

pub bad_shape : (f : RuleFields) → shape_of f.shape.1 ≡ None → fields_break f ≡ Some (f.shape.0, BadShape)
bad_shape f a = rw a refl

pub bad_key : (f : RuleFields) (s : Shape) → shape_of f.shape.1 ≡ Some s → text_of f.key.1 ≡ None → fields_break f ≡ Some (f.key.0, BadEscape)
bad_key f s a b = rw (a, b) refl

pub bad_value : (f : RuleFields) (s : Shape) (k : List ℕ) → shape_of f.shape.1 ≡ Some s → text_of f.key.1 ≡ Some k → admitted_of f.value.1 ≡ None → fields_break f ≡ Some (f.value.0, BadEscape)
bad_value f s k a b c = rw (a, b, c) refl

pub bad_zoom : (f : RuleFields) (s : Shape) (k : List ℕ) (v : Option (List ℕ)) → shape_of f.shape.1 ≡ Some s → text_of f.key.1 ≡ Some k → admitted_of f.value.1 ≡ Some v → zoom_of f.zoom.1 ≡ None
    → fields_break f ≡ Some (f.zoom.0, BadZoom)
bad_zoom f s k v a b c d = rw (a, b, c, d) refl

pub bad_class : (f : RuleFields) (s : Shape) (k : List ℕ) (v : Option (List ℕ)) (z : ℕ) → shape_of f.shape.1 ≡ Some s → text_of f.key.1 ≡ Some k → admitted_of f.value.1 ≡ Some v → zoom_of f.zoom.1 ≡ Some z
    → class_with (Some s) (named_class f.class.1) ≡ None → fields_break f ≡ Some (f.class.0, BadClass)
bad_class f s k v z a b c d e = rw (a, b, c, d, e) refl

pub good_fields : (f : RuleFields) (s : Shape) (k : List ℕ) (v : Option (List ℕ)) (z : ℕ) (c : Class) → shape_of f.shape.1 ≡ Some s → text_of f.key.1 ≡ Some k → admitted_of f.value.1 ≡ Some v → zoom_of f.zoom.1 ≡ Some z
    → class_with (Some s) (named_class f.class.1) ≡ Some c → rule_in f ≡ Some (record { shape = s; key = k; value = v; zoom = z; class = c })
good_fields f s k v z cl a b c d e = rw (a, b, c, d, e) refl

-- the cause of a field is the cause of the fields
pub cause_by : (f : RuleFields) (end at : ℕ) (kind : RuleKind) (P : Type 0) (e : RuleError) → (P → fields_break f ≡ Some (at, kind)) → at ≤ end → OnBroken at kind P e → IsFieldsCause f end e
cause_by f end at kind P NoMemory by within h = tt
cause_by f end at kind P (Broken b) by within h =
    let place : b.at ≡ at = ap (λ x. x.at) h.0 in
    (by h.1 ∙ ap (λ (x : RuleBreak). Some (x.at, x.kind)) (sym h.0), omega arith)

-- the fields break so
pub cause_of : (f : RuleFields) (end at : ℕ) (kind : RuleKind) (e : RuleError) → e ≡ Broken (record { at = at; kind = kind }) → fields_break f ≡ Some (at, kind) → at ≤ end → IsFieldsCause f end e
cause_of f end at kind e is breaks within = subst (IsFieldsCause f end) (sym is) (breaks, within)

-- The line.

pub not_text : (row : List ℕ) → is_utf8 row ≡ false → rule_break row ≡ Some (0, NotUtf8)
unfolding rule_break rule_tests
not_text row utf8 = rw utf8 refl

pub no_fields : (row : List ℕ) → is_utf8 row ≡ true → rule_fields row ≡ None → rule_break row ≡ Some (0, FieldCount)
unfolding rule_break rule_tests
no_fields row utf8 none = rw (utf8, none) refl

break_in : (row : List ℕ) (f : RuleFields) → is_utf8 row ≡ true → rule_fields row ≡ Some f → rule_break row ≡ fields_break f
unfolding rule_break rule_tests
break_in row f utf8 are = rw (utf8, are) refl

pub good_row : (row : List ℕ) (f : RuleFields) → is_utf8 row ≡ true → rule_fields row ≡ Some f → rule_of row ≡ rule_in f
unfolding rule_of
good_row row f utf8 are = rw (utf8, are) refl

-- the fields of a line break it
pub bad_row : (row : List ℕ) (f : RuleFields) (e : RuleError) → is_utf8 row ≡ true → rule_fields row ≡ Some f → IsFieldsCause f (length row) e → IsRowCause row e
bad_row row f NoMemory utf8 are h = tt
bad_row row f (Broken b) utf8 are h = (break_in row f utf8 are ∙ h.0, h.1)

-- the line breaks at its first byte
pub row_cause : (row : List ℕ) (kind : RuleKind) (e : RuleError) → e ≡ Broken (record { at = 0; kind = kind }) → rule_break row ≡ Some (0, kind) → IsRowCause row e
row_cause row kind e is breaks = subst (IsRowCause row) (sym is) (breaks, omega arith)

-- what a reader of the fields answers is the answer for the line
pub row_read : (row : List ℕ) (f : RuleFields) (r : Result Rule RuleError) → is_utf8 row ≡ true → rule_fields row ≡ Some f → IfOk r (λ rule. rule_in f ≡ Some rule) → IfOk r IsRule → IfOk r (IsRead row)
row_read row f (Ok rule) utf8 are spelled good = record { spelled = good_row row f utf8 are ∙ spelled; good = good }
row_read row f (Err e) utf8 are spelled good = tt

pub row_refused : (row : List ℕ) (f : RuleFields) (r : Result Rule RuleError) → is_utf8 row ≡ true → rule_fields row ≡ Some f → IfErr r (IsFieldsCause f (length row)) → IfErr r (IsRowCause row)
row_refused row f (Ok rule) utf8 are h = tt
row_refused row f (Err e) utf8 are h = bad_row row f e utf8 are h

-- Fields.

pub on_broken : (at : ℕ) (kind : RuleKind) (P : Type 0) (e : RuleError) → e ≡ Broken (record { at = at; kind = kind }) → P → OnBroken at kind P e
on_broken at kind P e is h = subst (OnBroken at kind P) (sym is) (refl, h)

poi_good : (bytes category : List ℕ) → poi_of bytes ≡ Some (Poi category) → is_category category ≡ true
unfolding poi_of
poi_good bytes category e = one (bytes_eq (take 4 bytes) (codes "poi.")) (is_category (drop 4 bytes)) refl e
  where
    one : (a b : Bool) → is_category (drop 4 bytes) ≡ b → cond (a && b) (Some (Poi (drop 4 bytes))) None ≡ Some (Poi category) → is_category category ≡ true
    one false b f e = absurd (cc)
    one true false f e = absurd (cc)
    one true true f e = let same : drop 4 bytes ≡ category = cc in sym (ap is_category same) ∙ f

-- a class that a field names is one
pub class_good : (bytes : List ℕ) (shape : Shape) (class : Class) → named_class bytes ≡ Some class → stands_with shape class ≡ true → IsClass shape class
unfolding named_class
class_good bytes shape Map e s = s
class_good bytes shape Road e s = s
class_good bytes shape Place e s = s
class_good bytes shape (Poi category) e s = poi_good bytes category (named (bytes_eq bytes (codes "map")) (bytes_eq bytes (codes "road")) (bytes_eq bytes (codes "place")) (poi_of bytes) (opened e))
  where
    opened : named_class bytes ≡ Some (Poi category)
        → cond (bytes_eq bytes (codes "map")) (Some Map) (cond (bytes_eq bytes (codes "road")) (Some Road) (cond (bytes_eq bytes (codes "place")) (Some Place) (poi_of bytes))) ≡ Some (Poi category)
    opened e = e

    named : (a b d : Bool) (o : Option Class) → cond a (Some Map) (cond b (Some Road) (cond d (Some Place) o)) ≡ Some (Poi category) → o ≡ Some (Poi category)
    named true b d o e = absurd (cc)
    named false true d o e = absurd (cc)
    named false false true o e = absurd (cc)
    named false false false o e = e
