-- An object line spells a line exactly where none of its tests fails.
use Rattle.std.proofs.Common.{◌≡◌, ℕ, List, [], ◌∷◌, ◌++◌, refl, sym, ap, ◌∙◌, Some, None, Option, Bool, true, false, cond, drop, not}
use Rattle.std.specs.Prelude.{◌&&◌, is_some, is_none, find}
use Rattle.std.specs.List.{list_all}
use Rattle.std.specs.Option.{option_map, option_or, unwrap_or}
use Rattle.std.specs.Str.{is_utf8}
use Rattle.std.proofs.lemmas.List.Folds.{list_all-append}
use Rattle.live_model.specs.declared.ids.Kind.{Kind}
use Rattle.live_model.specs.declared.opl.OplKind.{OplKind}
use Rattle.live_model.specs.declared.opl.Letter.{Letter}
use Rattle.live_model.specs.declared.opl.Letter.TheVariants.{Version, State, Change, Time, UserId, UserName, Tags, Lon, Lat, Refs, Members}
use Rattle.live_model.specs.Ids.{Id}
use Rattle.text_pieces.specs.Lines.{fields_from}
use Rattle.text_pieces.specs.Escapes.{text_of, unescaped, is_text_byte}
use Rattle.live_model.specs.FieldValues.{items_of, is_few, pairs_of, refs_of, members_of, breaks_located, ref_of, each_of, prepended, is_located}
use Rattle.live_model.specs.ObjectLines.{letter_of, first_of, comes_in, head_of, is_value, is_field, are_fields, line_with, line_from, line_of}
use Rattle.live_model.specs.LineTests.{Test, value_tests, tests_at, letter_tests, field_tests, fields_tests, tests_with, tests_of, break_of, place_and_kind, failure_in, failure_kind}

abbrev all_pass : List Test → Bool
all_pass ts = list_all (λ t. t.passes) ts

and_true : (b : Bool) → (b && true) ≡ b
and_true true = refl
and_true false = refl

and_false : (b : Bool) → (b && false) ≡ false
and_false true = refl
and_false false = refl

and_comm : (a b : Bool) → (a && b) ≡ (b && a)
and_comm true b = sym (and_true b)
and_comm false b = sym (and_false b)

and_assoc : (a b c : Bool) → ((a && b) && c) ≡ (a && (b && c))
and_assoc true b c = refl
and_assoc false b c = refl

-- a text is one without bad escapes
text_implies : (value : List ℕ) → (is_some (unescaped value) && is_some (text_of value)) ≡ is_some (text_of value)
unfolding text_of
text_implies value = both (list_all is_text_byte value) (unescaped value)
  where
    both : (b : Bool) (o : Option (List ℕ)) → (is_some o && is_some (cond b o None)) ≡ is_some (cond b o None)
    both true None = refl
    both true (Some x) = refl
    both false o = and_false (is_some o)

-- where each item is a reference, none is located
refs_from : (items : List (List ℕ)) → (not (breaks_located items) && is_some (each_of ref_of items)) ≡ is_some (each_of ref_of items)
refs_from [] = refl
refs_from (item ∷ items) = one (ref_of item) (breaks_located items) (each_of ref_of items) (is_located item) (refs_from items)
  where
    one : {A : Type 0} (o : Option A) (b : Bool) (xs : Option (List A)) (l : Bool) → (not b && is_some xs) ≡ is_some xs → (not (cond (is_some o) b l) && is_some (prepended o xs)) ≡ is_some (prepended o xs)
    one (Some x) b (Some xs) l e = e
    one (Some x) b None l e = e
    one None b xs l e = and_false (not l)

refs_imply : (value : List ℕ) → (not (breaks_located (items_of value)) && is_some (refs_of value)) ≡ is_some (refs_of value)
unfolding refs_of
refs_imply value = refs_from (items_of value)

-- a value is one of its letter exactly where its tests pass
value_law : (at : ℕ) (letter : Letter) (value : List ℕ) → all_pass (tests_at at (value_tests letter value)) ≡ is_value letter value
value_law at Version value = and_true _
value_law at State value = and_true _
value_law at Change value = and_true _
value_law at UserId value = and_true _
value_law at Time value = and_true _
value_law at UserName value = ap (λ b. is_some (unescaped value) && b) (and_true _) ∙ text_implies value
value_law at Tags value = ap (λ b. is_some (unescaped value) && (is_some (pairs_of value) && b)) (and_true _)
value_law at Lon value = and_true _
value_law at Lat value = and_true _
value_law at Refs value =
    ap (λ b. not (breaks_located (items_of value)) && (is_some (refs_of value) && b)) (and_true (is_few value))
    ∙ sym (and_assoc (not (breaks_located (items_of value))) (is_some (refs_of value)) (is_few value))
    ∙ ap (λ b. b && is_few value) (refs_imply value)
value_law at Members value = ap (λ b. is_some (unescaped value) && (is_some (members_of value) && b)) (and_true _)

-- a value none of whose tests fails is one of its letter
pub good_value : (letter : Letter) (value : List ℕ) → failure_kind (value_tests letter value) ≡ None → is_value letter value ≡ true
good_value letter value none = sym (value_law 0 letter value) ∙ pass (value_tests letter value) none
  where
    pass : (ts : List (OplKind × Bool)) → failure_kind ts ≡ None → all_pass (tests_at 0 ts) ≡ true
    pass [] none = refl
    pass (t ∷ ts) none = one t.1 none (pass ts)
      where
        one : (b : Bool) → cond b (failure_kind ts) (Some t.0) ≡ None → (failure_kind ts ≡ None → all_pass (tests_at 0 ts) ≡ true) → (b && all_pass (tests_at 0 ts)) ≡ true
        one true none again = again none
        one false none again = absurd (cc)

field_law : (at : ℕ) (kind : Kind) (before : List ℕ) (field : List ℕ)
    → all_pass (tests_at at (field_tests kind before field)) ≡ (is_field kind field && not (comes_in before (first_of field)))
field_law at kind before field = one (letter_of kind (first_of field))
  where
    one : (o : Option Letter)
        → (is_some o && (not (comes_in before (first_of field)) && all_pass (tests_at at (letter_tests o (drop 1 field)))))
        ≡ (unwrap_or (option_map (λ letter. is_value letter (drop 1 field)) o) false && not (comes_in before (first_of field)))
    one None = refl
    one (Some letter) = ap (λ b. not (comes_in before (first_of field)) && b) (value_law at letter (drop 1 field)) ∙ and_comm (not (comes_in before (first_of field))) (is_value letter (drop 1 field))

-- the fields are fields exactly where none of their tests fails
fields_law : (kind : Kind) (before : List ℕ) (fs : List (ℕ × List ℕ)) → all_pass (fields_tests kind before fs) ≡ are_fields kind before fs
fields_law kind before [] = refl
fields_law kind before (f ∷ fs) =
    list_all-append (λ t. t.passes) (tests_at f.0 (field_tests kind before f.1)) (fields_tests kind (before ++ first_of f.1 ∷ []) fs)
    ∙ ap (λ b. b && all_pass (fields_tests kind (before ++ first_of f.1 ∷ []) fs)) (field_law f.0 kind before f.1)
    ∙ ap (λ b. (is_field kind f.1 && not (comes_in before (first_of f.1))) && b) (fields_law kind (before ++ first_of f.1 ∷ []) fs)

is_some_if : {A : Type 0} (b : Bool) (x : A) → is_some (cond b (Some x) None) ≡ b
is_some_if true x = refl
is_some_if false x = refl

with_law : (o : Option Id) (fs : List (ℕ × List ℕ)) → (is_some o && all_pass (tests_with o fs)) ≡ is_some (line_with o fs)
with_law None fs = refl
with_law (Some o) fs = fields_law o.kind [] fs ∙ sym (is_some_if (are_fields o.kind [] fs) (line_from o fs))

-- A line spells a line exactly where all its tests pass.
pub line_law : (row : List ℕ) → is_some (line_of row) ≡ list_all (λ t. t.passes) (tests_of row)
unfolding line_of tests_of
line_law row = one (is_utf8 row) (head_of (fields_from 0 row)) (drop 1 (fields_from 0 row))
  where
    one : (b : Bool) (o : Option Id) (fs : List (ℕ × List ℕ)) → is_some (cond b (line_with o fs) None) ≡ (b && (is_some o && all_pass (tests_with o fs)))
    one true o fs = sym (with_law o fs)
    one false o fs = refl

none_fails : (ts : List Test) → is_none (option_map place_and_kind (find (λ t. not t.passes) ts)) ≡ all_pass ts
none_fails [] = refl
none_fails (t ∷ ts) = one t.passes (none_fails ts)
  where
    one : (b : Bool) → is_none (option_map place_and_kind (find (λ s. not s.passes) ts)) ≡ all_pass ts
        → is_none (option_map place_and_kind (cond (not b) (Some t) (find (λ s. not s.passes) ts))) ≡ (b && all_pass ts)
    one true e = e
    one false e = refl

-- fields none of whose tests fails are fields
pub good_fields : (kind : Kind) (fs : List (ℕ × List ℕ)) → failure_in (fields_tests kind [] fs) ≡ None → are_fields kind [] fs ≡ true
good_fields kind fs none = sym (fields_law kind [] fs) ∙ sym (none_fails (fields_tests kind [] fs)) ∙ ap is_none none

-- A line has a break exactly where it spells no line.
pub break_law : (row : List ℕ) → is_none (break_of row) ≡ is_some (line_of row)
unfolding break_of
break_law row = none_fails (tests_of row) ∙ sym (line_law row)

-- the tests of one field, as kinds
at_kind : (at : ℕ) (ts : List (OplKind × Bool)) (rest : List Test)
    → failure_in (tests_at at ts ++ rest) ≡ option_or (option_map (λ kind. (at, kind)) (failure_kind ts)) (failure_in rest)
at_kind at [] rest = refl
at_kind at (t ∷ ts) rest = one t.1 (at_kind at ts rest)
  where
    one : (b : Bool) → failure_in (tests_at at ts ++ rest) ≡ option_or (option_map (λ kind. (at, kind)) (failure_kind ts)) (failure_in rest)
        → option_map place_and_kind (cond (not b) (Some (record { at = at; kind = t.0; passes = t.1 })) (find (λ s. not s.passes) (tests_at at ts ++ rest)))
        ≡ option_or (option_map (λ kind. (at, kind)) (cond b (failure_kind ts) (Some t.0))) (failure_in rest)
    one true e = e
    one false e = refl

-- The first field breaks, or the others do.
pub field_step : (kind : Kind) (before : List ℕ) (f : ℕ × List ℕ) (fs : List (ℕ × List ℕ))
    → failure_in (fields_tests kind before (f ∷ fs))
    ≡ option_or (option_map (λ broken. (f.0, broken)) (failure_kind (field_tests kind before f.1))) (failure_in (fields_tests kind (before ++ first_of f.1 ∷ []) fs))
field_step kind before f fs = at_kind f.0 (field_tests kind before f.1) (fields_tests kind (before ++ first_of f.1 ∷ []) fs)
