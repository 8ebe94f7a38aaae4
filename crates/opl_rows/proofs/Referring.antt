-- References, read one after another.
use Rattle.std.proofs.Common.{◌≡◌, ℕ, ◌≤◌, ◌<◌, List, [], ◌∷◌, ◌++◌, true, false, cond, Option, Some, None, length, drop, refl, sym, ap, ◌∙◌, arith, append-nil, length-drop, ℤ}
use Rattle.std.specs.Prelude.{is_some}
use Rattle.std.specs.Option.{option_map}
use Rattle.std.proofs.lemmas.Bool.{ne_eqb, le-leb}
use Rattle.text_pieces.specs.Numbers.{is_digit, has_minus, id_of}
use Rattle.live_model.specs.declared.opl.Letter.TheVariants.{Refs}
use Rattle.live_model.specs.FieldValues.{ref_of, refs_of, items_of, each_of, prepended, is_located, breaks_located}
use Rattle.live_model.specs.LineTests.{value_tests, failure_kind}
use Rattle.opl_rows.specs.Fronts.{front, back, is_end, digits_of, behind_digits, id_text, behind_id}
use Rattle.opl_rows.specs.Refs.{ref_text, RefRead, RefAdded, RefsRead}
use Rattle.opl_rows.proofs.Ends.{digit_solid, minus_first}
use Rattle.opl_rows.proofs.Fields.{end_front, end_back}
use Rattle.opl_rows.proofs.Items.{NoComma}
use Rattle.opl_rows.proofs.Listing.{listed, listed_more, listed_last, listed_first, listed_length}

-- what stands at the front, behind digits
front_digits : (bytes : List ℕ) → front bytes ≡ digits_of bytes ++ front (behind_digits bytes)
front_digits [] = refl
front_digits (c ∷ cs) =
    elim (is_digit c) as (λ b. is_digit c ≡ b → front (c ∷ cs) ≡ cond b (c ∷ digits_of cs) [] ++ front (cond b (behind_digits cs) (c ∷ cs))) [
      | true ↦ λ h. ap (λ b. cond b [] (c ∷ front cs)) (digit_solid c h) ∙ ap (λ x. c ∷ x) (front_digits cs)
      | false ↦ λ h. refl
    ] refl

back_digits : (bytes : List ℕ) → back bytes ≡ back (behind_digits bytes)
back_digits [] = refl
back_digits (c ∷ cs) =
    elim (is_digit c) as (λ b. is_digit c ≡ b → back (c ∷ cs) ≡ back (cond b (behind_digits cs) (c ∷ cs))) [
      | true ↦ λ h. ap (λ b. cond b (c ∷ cs) (back cs)) (digit_solid c h) ∙ back_digits cs
      | false ↦ λ h. refl
    ] refl

-- and behind an id
pub front_id : (bytes : List ℕ) → front bytes ≡ id_text bytes ++ front (behind_id bytes)
front_id bytes =
    elim (has_minus bytes) as (λ m. has_minus bytes ≡ m → front bytes ≡ cond m (45 ∷ digits_of (drop 1 bytes)) (digits_of bytes) ++ front (behind_digits (cond m (drop 1 bytes) bytes))) [
      | true ↦ λ m. ap front (minus_first bytes m) ∙ ap (λ x. 45 ∷ x) (front_digits (drop 1 bytes))
      | false ↦ λ m. front_digits bytes
    ] refl

-- what stands behind the value, behind an id
pub back_id : (bytes : List ℕ) → back bytes ≡ back (behind_id bytes)
back_id bytes =
    elim (has_minus bytes) as (λ m. has_minus bytes ≡ m → back bytes ≡ back (behind_digits (cond m (drop 1 bytes) bytes))) [
      | true ↦ λ m. ap back (minus_first bytes m) ∙ back_digits (drop 1 bytes)
      | false ↦ λ m. back_digits bytes
    ] refl

-- no digit is a comma
digits_plain : (bytes : List ℕ) → NoComma (digits_of bytes)
digits_plain [] = tt
digits_plain (c ∷ cs) =
    elim (is_digit c) as (λ b. is_digit c ≡ b → NoComma (cond b (c ∷ digits_of cs) [])) [
      | true ↦ λ h. (ne_eqb c 44 (λ is. no c h is), digits_plain cs)
      | false ↦ λ h. tt
    ] refl
  where
    no : (c : ℕ) → is_digit c ≡ true → c ≡ 44 → ⊥
    no c h e = grind arith

-- no byte of an id is a comma
pub id_plain : (bytes : List ℕ) → NoComma (id_text bytes)
id_plain bytes =
    elim (has_minus bytes) as (λ m. NoComma (cond m (45 ∷ digits_of (drop 1 bytes)) (digits_of bytes))) [
      | true ↦ (refl, digits_plain (drop 1 bytes))
      | false ↦ digits_plain bytes
    ]

ref_plain : (bytes : List ℕ) → NoComma (ref_text bytes)
ref_plain bytes = (refl, id_plain (drop 1 bytes))

-- a reference
pub ref_is : (bytes more rest : List ℕ) (number : ℤ) → bytes ≡ 110 ∷ more → id_of (id_text more) ≡ Some number → rest ≡ behind_id more → RefRead bytes rest number
unfolding ref_of
ref_is bytes more rest number is id behind =
    let same : more ≡ drop 1 bytes = sym (ap (drop 1) is) in
    record {
      rest_is = behind ∙ ap behind_id same;
      first = is ∙ ap (λ x. 110 ∷ x) same;
      item = ap (λ x. id_of (id_text x)) (sym same) ∙ id;
    }

front_ref : (bytes rest : List ℕ) (number : ℤ) → RefRead bytes rest number → front bytes ≡ ref_text bytes ++ front rest
front_ref bytes rest number r = ap front r.first ∙ ap (λ x. 110 ∷ x) (front_id (drop 1 bytes)) ∙ ap (λ x. ref_text bytes ++ front x) (sym r.rest_is)

back_ref : (bytes rest : List ℕ) (number : ℤ) → RefRead bytes rest number → back bytes ≡ back rest
back_ref bytes rest number r = ap back r.first ∙ back_id (drop 1 bytes) ∙ ap back (sym r.rest_is)

-- what is known of a value of references behind one of them
pub record RefsGo (now : List ℤ) (bytes rest : List ℕ) : Type 0 where
  pub more : (xs : List ℕ) → front rest ≡ 44 ∷ xs → option_map (λ ns. now ++ ns) (listed ref_of xs) ≡ listed ref_of (front bytes)
  pub whole : front rest ≡ [] → listed ref_of (front bytes) ≡ Some now
  pub behind : back rest ≡ back bytes
  pub some : 0 < length (front bytes)

ref_more : (bytes rest xs : List ℕ) (old new : List ℤ) → RefAdded bytes rest old new → front rest ≡ 44 ∷ xs → option_map (λ ns. new ++ ns) (listed ref_of xs) ≡ option_map (λ ns. old ++ ns) (listed ref_of (front bytes))
ref_more bytes rest xs old new r e =
    listed_more ref_of (ref_text bytes) xs r.number old new (ref_plain bytes) r.read.item r.behind
    ∙ ap (λ x. option_map (λ ns. old ++ ns) (listed ref_of x)) (sym (front_ref bytes rest r.number r.read ∙ ap (λ x. ref_text bytes ++ x) e))

ref_last : (bytes rest : List ℕ) (old new : List ℤ) → RefAdded bytes rest old new → front rest ≡ [] → option_map (λ ns. old ++ ns) (listed ref_of (front bytes)) ≡ Some new
ref_last bytes rest old new r e =
    ap (λ x. option_map (λ ns. old ++ ns) (listed ref_of x)) (front_ref bytes rest r.number r.read ∙ ap (λ x. ref_text bytes ++ x) e ∙ append-nil (ref_text bytes))
    ∙ listed_last ref_of (ref_text bytes) r.number old new (ref_plain bytes) r.read.item r.behind

ref_some : (bytes rest : List ℕ) (number : ℤ) → RefRead bytes rest number → 0 < length (front bytes)
ref_some bytes rest number r = let long = ap length (front_ref bytes rest number r) in omega arith

-- the first reference is read
pub refs_start : (bytes rest : List ℕ) (old now : List ℤ) → old ≡ [] → RefAdded bytes rest old now → RefsGo now bytes rest
refs_start bytes rest old now none r =
    let first : option_map (λ ns. old ++ ns) (listed ref_of (front bytes)) ≡ listed ref_of (front bytes) =
    ap (λ ys. option_map (λ ns. ys ++ ns) (listed ref_of (front bytes))) none ∙ listed_first (listed ref_of (front bytes))
    in record {
      more = λ xs e. ref_more bytes rest xs old now r e ∙ first;
      whole = λ e. sym first ∙ ref_last bytes rest old now r e;
      behind = sym (back_ref bytes rest r.number r.read);
      some = ref_some bytes rest r.number r.read;
    }

-- one reference more is read
pub refs_go : (bytes rest more next : List ℕ) (now new : List ℤ) → rest ≡ 44 ∷ more → RefAdded more next now new → RefsGo now bytes rest → RefsGo new bytes next
refs_go bytes rest more next now new is r g =
    let f : front rest ≡ 44 ∷ front more = ap front is in
    record {
      more = λ xs e. ref_more more next xs now new r e ∙ g.more (front more) f;
      whole = λ e. sym (g.more (front more) f) ∙ ref_last more next now new r e;
      behind = sym (back_ref more next r.number r.read) ∙ sym (ap back is) ∙ g.behind;
      some = g.some;
    }

digits_short : (bytes : List ℕ) → length (behind_digits bytes) ≤ length bytes
digits_short [] = omega arith
digits_short (c ∷ cs) =
    elim (is_digit c) as (λ b. length (cond b (behind_digits cs) (c ∷ cs)) ≤ length (c ∷ cs)) [
      | true ↦ let more = digits_short cs in omega arith
      | false ↦ omega arith
    ]

-- what stands behind an id is no longer than all
pub id_short : (bytes : List ℕ) → length (behind_id bytes) ≤ length bytes
id_short bytes =
    elim (has_minus bytes) as (λ m. length (behind_digits (cond m (drop 1 bytes) bytes)) ≤ length bytes) [
      | true ↦ let more = digits_short (drop 1 bytes) in let less = length-drop 1 bytes in omega arith
      | false ↦ digits_short bytes
    ]

-- a reference more is read, so less is left
pub refs_shorter : (rest more next : List ℕ) (now new : List ℤ) → rest ≡ 44 ∷ more → RefAdded more next now new → length next < length rest
refs_shorter rest more next now new is r =
    let a = ap length is in
    let b = ap length r.read.rest_is in
    let p = id_short (drop 1 more) in
    let d = length-drop 1 more in
    omega arith

-- where each item is a reference, none breaks the list as a located one
none_located : (items : List (List ℕ)) (ns : List ℤ) → each_of ref_of items ≡ Some ns → breaks_located items ≡ false
none_located [] ns e = refl
none_located (item ∷ items) ns e = one (ref_of item) (each_of ref_of items) e (none_located items)
  where
    one : (o : Option ℤ) (r : Option (List ℤ)) → prepended o r ≡ Some ns → ((ms : List ℤ) → r ≡ Some ms → breaks_located items ≡ false) → cond (is_some o) (breaks_located items) (is_located item) ≡ false
    one None r e again = absurd (cc)
    one (Some n) None e again = absurd (cc)
    one (Some n) (Some ms) e again = again ms refl

-- the items of a value of some bytes
refs_good : (value : List ℕ) (ns : List ℤ) → 0 < length value → length ns ≤ 65535 → listed ref_of value ≡ Some ns → (failure_kind (value_tests Refs value) ≡ None) × (refs_of value ≡ Some ns)
unfolding refs_of
refs_good [] ns some few e = absurd (omega arith)
refs_good (c ∷ cs) ns some few e =
    let long = listed_length ref_of (items_of (c ∷ cs)) ns e in
    (rw (none_located (items_of (c ∷ cs)) ns e, e, le-leb (length (items_of (c ∷ cs))) 65535 (omega arith)) refl, e)

-- all references are read
pub refs_read : (bytes rest : List ℕ) (now : List ℤ) → is_end rest ≡ true → length now ≤ 65535 → RefsGo now bytes rest → RefsRead bytes rest now
refs_read bytes rest now e few g =
    let both = refs_good (front bytes) now g.some few (g.whole (end_front rest e)) in
    record { rest_is = sym (end_back rest e) ∙ g.behind; good = both.0; refs = both.1 }

-- no references
pub refs_none_read : (bytes : List ℕ) (now : List ℤ) → is_end bytes ≡ true → now ≡ [] → RefsRead bytes bytes now
unfolding refs_of
refs_none_read bytes now e none = record {
  rest_is = sym (end_back bytes e);
  good = ap (λ v. failure_kind (value_tests Refs v)) (end_front bytes e);
  refs = ap refs_of (end_front bytes e) ∙ ap Some (sym none);
}
