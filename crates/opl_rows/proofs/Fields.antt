-- Fields of a line, and the line.
use Rattle.std.proofs.Common.{◌≡◌, Option, Some, None, ℕ, ◌+◌, ◌<◌, Bool, true, false, cond, eqb, List, [], ◌∷◌, length, length-append, refl, sym, ap, ◌∙◌, subst, arith}
use Rattle.std.specs.Str.{is_utf8}
use Rattle.std.proofs.lemmas.Bool.{eqb-true}
use Rattle.text_pieces.specs.Lines.{is_blank, fields_from}
use Rattle.text_pieces.specs.Numbers.{id_of}
use Rattle.text_pieces.proofs.FieldSteps.{fields_none}
use Rattle.live_model.specs.declared.ids.Kind.{Kind}
use Rattle.live_model.specs.declared.ids.Kind.TheVariants.{Node, Way, Relation}
use Rattle.live_model.specs.declared.opl.Letter.{Letter}
use Rattle.live_model.specs.declared.opl.Letter.TheVariants.{Tags}
use Rattle.text_pieces.specs.Escapes.{unescaped}
use Rattle.live_model.specs.Ids.{Id}
use Rattle.live_model.specs.FieldValues.{kind_of, object_of, id_from, pairs_of, tags_from}
use Rattle.live_model.specs.ObjectLines.{letter_of, line_of}
use Rattle.live_model.specs.LineTests.{fields_tests, failure_in, value_tests, failure_kind}
use Rattle.std.specs.Option.{option_map}
use Rattle.opl_reader.specs.Readings.{AreTexts}
use Rattle.opl_reader.specs.FoundFields.{has, found_in, line_of_found}
use Rattle.opl_reader.proofs.Texts.{fields_are_texts}
use Rattle.opl_reader.proofs.FieldsFound.{Goes, begins, goes_on, all_good, all_found}
use Rattle.opl_reader.proofs.RowReadings.{good_row}
use Rattle.opl_rows.specs.Fronts.{front, back, is_end}
use Rattle.opl_rows.specs.Rows.{Found, ValueRead, FieldRead, AreRead}
use Rattle.opl_rows.proofs.Ends.{fields_front, fields_blank_first, front_back}

-- a letter and its value
pub field_is : (kind : Kind) (letter : Letter) (c : ℕ) (cs rest : List ℕ) (old new : Found) → is_blank c ≡ false → letter_of kind c ≡ Some letter → has letter old ≡ false
    → ValueRead letter cs rest old new → FieldRead kind (c ∷ cs) rest old new
field_is kind letter c cs rest old new solid l none v = record {
  some = rw solid (omega arith);
  rest_is = v.rest_is ∙ sym (ap (λ b. cond b (c ∷ cs) (back cs)) solid);
  good = rw (solid, l, none) v.good;
  found = rw (solid, l) v.found;
}

-- what is known of all fields where these bytes are left
abbrev pub GoesOn : Kind → Found → List ℕ → List ℕ → Type 0
GoesOn kind found rest bytes = (at : ℕ) → AreTexts (fields_from at bytes) → (here : ℕ) × Goes kind found (fields_from here rest) (fields_from at bytes)

-- nothing is read yet
pub starts : (kind : Kind) (found : Found) (bytes : List ℕ) → found ≡ found_in [] → GoesOn kind found bytes bytes
starts kind found bytes none at texts = (at, begins kind (fields_from at bytes) found none texts)

-- a blank is passed by
pub skips : (kind : Kind) (found : Found) (c : ℕ) (more bytes : List ℕ) → is_blank c ≡ true → GoesOn kind found (c ∷ more) bytes → GoesOn kind found more bytes
skips kind found c more bytes blank g at texts =
    let h = g at texts in
    (h.0 + 1, subst (λ fs. Goes kind found fs (fields_from at bytes)) (fields_blank_first h.0 c more blank) h.1)

-- one field more is read
pub reads : (kind : Kind) (found new : Found) (more behind bytes : List ℕ) → FieldRead kind more behind found new → GoesOn kind found more bytes → GoesOn kind new behind bytes
reads kind found new more behind bytes f g at texts =
    let h = g at texts in (
      h.0 + length (front more),
      subst (λ r. Goes kind new (fields_from (h.0 + length (front more)) r) (fields_from at bytes)) (sym f.rest_is)
          (goes_on kind found new (h.0, front more) (fields_from (h.0 + length (front more)) (back more)) (fields_from at bytes) (fields_from h.0 more) h.1 (fields_front h.0 more f.some) f.good f.found),
    )

-- no byte is left: all fields are read
pub ends : (kind : Kind) (found : Found) (rest bytes : List ℕ) → length rest ≡ 0 → GoesOn kind found rest bytes → (at : ℕ) → AreTexts (fields_from at bytes) → AreRead kind (fields_from at bytes) found
ends kind found rest bytes none g at texts =
    let h = g at texts in
    record {
      good = all_good kind found (fields_from at bytes) (fields_from h.0 rest) h.1 (fields_none h.0 rest none);
      found_is = all_found kind found (fields_from at bytes) (fields_from h.0 rest) h.1 (fields_none h.0 rest none);
    }

-- something is left out
pub shorter : (bytes : List ℕ) → 0 < length (front bytes) → length (back bytes) < length bytes
shorter bytes some = let long : length (front bytes) + length (back bytes) ≡ length bytes = sym (length-append (front bytes) (back bytes)) ∙ ap length (front_back bytes) in omega arith

-- no letter of a kind is a blank
pub kind_solid : (c : ℕ) (kind : Kind) → kind_of c ≡ Some kind → is_blank c ≡ false
kind_solid c kind e = one (eqb c 110) (eqb c 119) (eqb c 114) refl refl refl e
  where
    nothing : Option Kind
    nothing = None

    one : (a b d : Bool) → eqb c 110 ≡ a → eqb c 119 ≡ b → eqb c 114 ≡ d → cond a (Some Node) (cond b (Some Way) (cond d (Some Relation) None)) ≡ Some kind → is_blank c ≡ false
    one true b d p q r e = ap is_blank (eqb-true c 110 p)
    one false true d p q r e = ap is_blank (eqb-true c 119 q)
    one false false true p q r e = ap is_blank (eqb-true c 114 r)
    one false false false p q r e = absurd (cc)

-- The line.
pub row_is : (c : ℕ) (cs rest : List ℕ) (kind : Kind) (o : Id) (found : Found) → is_utf8 (c ∷ cs) ≡ true → kind_of c ≡ Some kind → o.kind ≡ kind → id_of (front cs) ≡ Some o.number → rest ≡ back cs
    → ((at : ℕ) → AreTexts (fields_from at rest) → AreRead kind (fields_from at rest) found) → line_of (c ∷ cs) ≡ Some (line_of_found o found)
unfolding object_of
row_is c cs rest kind o found utf8 k is n r read =
    let solid : is_blank c ≡ false = kind_solid c kind k in
    let w : front (c ∷ cs) ≡ c ∷ front cs = ap (λ b. cond b [] (c ∷ front cs)) solid in
    let b : back (c ∷ cs) ≡ rest = ap (λ b. cond b (c ∷ cs) (back cs)) solid ∙ sym r in
    let some : 0 < length (front (c ∷ cs)) = rw solid (omega arith) in
    let fields : fields_from 0 (c ∷ cs) ≡ (0, c ∷ front cs) ∷ fields_from (0 + length (c ∷ front cs)) rest =
    fields_front 0 (c ∷ cs) some
    ∙ ap (λ v. (0, v) ∷ fields_from (0 + length v) (back (c ∷ cs))) w
    ∙ ap (λ r. (0, c ∷ front cs) ∷ fields_from (0 + length (c ∷ front cs)) r) b
    in
    let texts : AreTexts ((0, c ∷ front cs) ∷ fields_from (0 + length (c ∷ front cs)) rest) = subst AreTexts fields (fields_are_texts 0 (c ∷ cs) utf8) in
    let all = read (0 + length (c ∷ front cs)) texts.1 in
    good_row (c ∷ cs) (0, c ∷ front cs) (fields_from (0 + length (c ∷ front cs)) rest) o found utf8 fields refl
    (ap (λ x. id_from x (id_of (front cs))) k ∙ ap (id_from (Some kind)) n ∙ ap (λ x. Some (record { kind = x; number = o.number })) (sym is))
    (ap (λ x. failure_in (fields_tests x [] (fields_from (0 + length (c ∷ front cs)) rest))) is ∙ all.good) all.found_is

-- no tags
pub end_front : (bytes : List ℕ) → is_end bytes ≡ true → front bytes ≡ []
end_front [] e = refl
end_front (c ∷ cs) e = rw e refl

-- and all of it stands behind it
pub end_back : (bytes : List ℕ) → is_end bytes ≡ true → back bytes ≡ bytes
end_back [] e = refl
end_back (c ∷ cs) e = rw e refl

-- they pass every test
pub tags_good : (bytes : List ℕ) → is_end bytes ≡ true → failure_kind (value_tests Tags (front bytes)) ≡ None
unfolding pairs_of unescaped
tags_good bytes e = ap (λ v. failure_kind (value_tests Tags v)) (end_front bytes e)

-- and spell no tag
pub tags_none : (bytes : List ℕ) → is_end bytes ≡ true → option_map tags_from (pairs_of (front bytes)) ≡ Some []
unfolding pairs_of
tags_none bytes e = ap (λ v. option_map tags_from (pairs_of v)) (end_front bytes e)
