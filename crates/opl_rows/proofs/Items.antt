-- The items of a value of tags.
use Rattle.std.proofs.Common.{◌≡◌, ◌≤◌, ◌<◌, ℕ, ◌+◌, Option, Some, None, Bool, true, false, cond, not, ◌&&◌, ◌||◌, eqb, List, [], ◌∷◌, ◌++◌, length, take, drop, refl, sym, ap, ◌∙◌, arith, append-nil, append_assoc, length-append, length-drop, subst}
use Rattle.std.specs.Prelude.{◌==◌, is_some}
use Rattle.std.specs.Option.{option_map}
use Rattle.std.specs.List.{AllByRecursion, slice_split, position_or_len, after_first}
use Rattle.std.proofs.lemmas.Bool.{ne_eqb, le-leb}
use Rattle.std.proofs.lemmas.List.Splits.{slice_split_first}
use Rattle.text_pieces.proofs.FieldSteps.{split_none}
use Rattle.text_pieces.specs.Lines.{is_blank}
use Rattle.text_pieces.specs.Escapes.{is_text_byte, text_of, unescaped}
use Rattle.live_model.specs.declared.objects.Tag.{Tag}
use Rattle.live_model.specs.declared.opl.Letter.TheVariants.{Tags, UserName}
use Rattle.live_model.specs.Objects.{AreTags}
use Rattle.live_model.specs.LineTests.{value_tests, failure_kind}
use Rattle.live_model.specs.FieldValues.{tag_of, tags_from, pairs_of, each_of, prepended, is_few}
use Rattle.live_model.proofs.CanonicalParts.{position_or_len_at, before_first_at, after_first_at}
use Rattle.opl_reader.proofs.TagSteps.{tags_from_rising, rising_cons}
use Rattle.opl_reader.specs.TagOrder.{ComesFirst}
use Rattle.std.proofs.lemmas.List.{drop-drop}
use Rattle.opl_rows.specs.declared.held.Span.{Span}
use Rattle.opl_rows.specs.Fronts.{front, back, is_end}
use Rattle.opl_rows.proofs.Fields.{end_back, end_front, tags_none, tags_good as no_tags_good}
use Rattle.opl_rows.specs.Runs.{text_front, text_back, item_of, behind_item}
use Rattle.opl_rows.specs.Held.{HeldTags, TextRead, TagRead, TagsRead, tags_in, tag_at, total}
use Rattle.opl_rows.proofs.Plain.{name_good}
use Rattle.opl_rows.proofs.Runs.{behind_of}
use Rattle.opl_rows.proofs.Unescaping.{unescaped_joined}

abbrev is_comma : ℕ → Bool
is_comma b = b == 44

text_solid : (c : ℕ) → is_text_byte c ≡ true → is_blank c ≡ false
text_solid c e = one (eqb c 32) (eqb c 9) (eqb c 10) (eqb c 44) (eqb c 61) e
  where
    one : (a b d f g : Bool) → (not a && (not b && (not d && (not f && not g)))) ≡ true → (a || b) ≡ false
    one false false d f g e = refl
    one true b d f g e = absurd (cc)
    one false true d f g e = absurd (cc)

-- what stands at the front, behind text bytes
pub front_text : (bytes : List ℕ) → front bytes ≡ text_front bytes ++ front (text_back bytes)
front_text [] = refl
front_text (c ∷ cs) =
    elim (is_text_byte c) as (λ b. is_text_byte c ≡ b → front (c ∷ cs) ≡ cond b (c ∷ text_front cs) [] ++ front (cond b (text_back cs) (c ∷ cs))) [
      | true ↦ λ h. ap (λ b. cond b [] (c ∷ front cs)) (text_solid c h) ∙ ap (λ x. c ∷ x) (front_text cs)
      | false ↦ λ h. refl
    ] refl

-- what stands behind the value, behind text bytes
pub back_text : (bytes : List ℕ) → back bytes ≡ back (text_back bytes)
back_text [] = refl
back_text (c ∷ cs) =
    elim (is_text_byte c) as (λ b. is_text_byte c ≡ b → back (c ∷ cs) ≡ back (cond b (text_back cs) (c ∷ cs))) [
      | true ↦ λ h. ap (λ b. cond b (c ∷ cs) (back cs)) (text_solid c h) ∙ back_text cs
      | false ↦ λ h. refl
    ] refl

front_item : (bytes : List ℕ) → text_back bytes ≡ 61 ∷ drop 1 (text_back bytes) → front bytes ≡ item_of bytes ++ front (behind_item bytes)
front_item bytes e =
    front_text bytes ∙ ap (λ x. text_front bytes ++ x) (ap front e ∙ ap (λ x. 61 ∷ x) (front_text (drop 1 (text_back bytes))))
    ∙ sym (append_assoc (text_front bytes) (61 ∷ text_front (drop 1 (text_back bytes))) (front (behind_item bytes)))

back_item : (bytes : List ℕ) → text_back bytes ≡ 61 ∷ drop 1 (text_back bytes) → back bytes ≡ back (behind_item bytes)
back_item bytes e = back_text bytes ∙ ap back e ∙ back_text (drop 1 (text_back bytes))

-- no byte is a comma
abbrev pub NoComma : List ℕ → Type 0
NoComma xs = AllByRecursion (λ b. is_comma b ≡ false) xs

-- no text byte is a comma
pub no_comma : (bytes : List ℕ) → NoComma (text_front bytes)
no_comma [] = tt
no_comma (c ∷ cs) =
    elim (is_text_byte c) as (λ b. is_text_byte c ≡ b → NoComma (cond b (c ∷ text_front cs) [])) [
      | true ↦ λ h. (ne_eqb c 44 (λ is. let clash : true ≡ false = sym h ∙ ap is_text_byte is in cc), no_comma cs)
      | false ↦ λ h. tt
    ] refl

-- nor is one of two parts without commas
pub both_no_comma : (xs ys : List ℕ) → NoComma xs → NoComma ys → NoComma (xs ++ ys)
both_no_comma [] ys a b = b
both_no_comma (x ∷ xs) ys a b = (a.0, both_no_comma xs ys a.1 b)

item_no_comma : (bytes : List ℕ) → NoComma (item_of bytes)
item_no_comma bytes = both_no_comma (text_front bytes) (61 ∷ text_front (drop 1 (text_back bytes))) (no_comma bytes) (refl, no_comma (drop 1 (text_back bytes)))

whole_place : (xs : List ℕ) → NoComma xs → position_or_len is_comma xs ≡ length xs
whole_place [] a = refl
whole_place (x ∷ xs) a = let more = whole_place xs a.1 in rw a.0 (omega arith)

-- an item without a comma is the last
pub split_last : (item : List ℕ) → NoComma item → slice_split is_comma item ≡ item ∷ []
split_last item a = split_none is_comma item (whole_place item a)

-- an item before a comma, and those behind it
pub split_more : (item xs : List ℕ) → NoComma item → slice_split is_comma (item ++ 44 ∷ xs) ≡ item ∷ slice_split is_comma xs
split_more item xs a =
    let place = position_or_len_at is_comma item xs 44 a refl in
    let long = length-append item (44 ∷ xs) in
    slice_split_first is_comma (item ++ 44 ∷ xs) 0 (omega arith)
    ∙ ap (λ w. w ∷ slice_split is_comma (after_first is_comma (item ++ 44 ∷ xs))) (before_first_at is_comma item xs 44 a refl)
    ∙ ap (λ r. item ∷ slice_split is_comma r) (after_first_at is_comma item xs 44 a refl)

-- what the items of a value spell
abbrev spelled : List ℕ → Option (List Tag)
spelled xs = each_of tag_of (slice_split is_comma xs)

put_more : (old : List Tag) (t : Tag) (r : Option (List Tag)) → option_map (λ ts. old ++ ts) (prepended (Some t) r) ≡ option_map (λ ts. (old ++ t ∷ []) ++ ts) r
put_more old t None = refl
put_more old t (Some ts) = ap Some (sym (append_assoc old (t ∷ []) ts))

item_more : (b r xs : List ℕ) (old new : HeldTags) → TagRead b r old new → front r ≡ 44 ∷ xs → option_map (λ ts. new.tags ++ ts) (spelled xs) ≡ option_map (λ ts. old.tags ++ ts) (spelled (front b))
item_more b r xs old new t e =
    let whole : front b ≡ item_of b ++ 44 ∷ xs = front_item b t.first ∙ ap (λ x. item_of b ++ x) (ap front (sym t.rest_is) ∙ e) in
    sym (ap (λ x. option_map (λ ts. old.tags ++ ts) (spelled x)) whole
    ∙ ap (λ items. option_map (λ ts. old.tags ++ ts) (each_of tag_of items)) (split_more (item_of b) xs (item_no_comma b))
    ∙ ap (λ o. option_map (λ ts. old.tags ++ ts) (prepended o (spelled xs))) t.item
    ∙ put_more old.tags t.tag (spelled xs)
    ∙ ap (λ ys. option_map (λ ts. ys ++ ts) (spelled xs)) (sym t.tags))

item_last : (b r : List ℕ) (old new : HeldTags) → TagRead b r old new → front r ≡ [] → option_map (λ ts. old.tags ++ ts) (spelled (front b)) ≡ Some new.tags
item_last b r old new t e =
    let whole : front b ≡ item_of b = front_item b t.first ∙ ap (λ x. item_of b ++ x) (ap front (sym t.rest_is) ∙ e) ∙ append-nil (item_of b) in
    ap (λ x. option_map (λ ts. old.tags ++ ts) (spelled x)) whole
    ∙ ap (λ items. option_map (λ ts. old.tags ++ ts) (each_of tag_of items)) (split_last (item_of b) (item_no_comma b))
    ∙ ap (λ o. option_map (λ ts. old.tags ++ ts) (prepended o (Some []))) t.item
    ∙ ap Some (sym t.tags)

comma_alone : unescaped (44 ∷ []) ≡ Some (44 ∷ [])
unfolding unescaped
comma_alone = refl

some_mapped : (p : List ℕ) (o : Option (List ℕ)) → is_some (option_map (λ t. p ++ t) o) ≡ is_some o
some_mapped p None = refl
some_mapped p (Some t) = refl

-- a value spells where its first item and the rest do
pub spells_more : (item xs : List ℕ) (o : Option (List ℕ)) → unescaped item ≡ o → is_some o ≡ true → is_some (unescaped (item ++ 44 ∷ xs)) ≡ is_some (unescaped xs)
spells_more item xs None e some = absurd (cc)
spells_more item xs (Some t) e some =
    ap is_some (unescaped_joined item (44 ∷ xs) t e) ∙ some_mapped t (unescaped (44 ∷ xs)) ∙ ap is_some (unescaped_joined (44 ∷ []) xs (44 ∷ []) comma_alone) ∙ some_mapped (44 ∷ []) (unescaped xs)

good_more : (b r xs : List ℕ) (old new : HeldTags) → TagRead b r old new → front r ≡ 44 ∷ xs → is_some (unescaped xs) ≡ is_some (unescaped (front b))
good_more b r xs old new t e =
    let whole : front b ≡ item_of b ++ 44 ∷ xs = front_item b t.first ∙ ap (λ x. item_of b ++ x) (ap front (sym t.rest_is) ∙ e) in
    sym (ap (λ x. is_some (unescaped x)) whole ∙ spells_more (item_of b) xs (unescaped (item_of b)) refl t.spells)

good_last : (b r : List ℕ) (old new : HeldTags) → TagRead b r old new → front r ≡ [] → is_some (unescaped (front b)) ≡ true
good_last b r old new t e =
    let whole : front b ≡ item_of b = front_item b t.first ∙ ap (λ x. item_of b ++ x) (ap front (sym t.rest_is) ∙ e) ∙ append-nil (item_of b) in
    ap (λ x. is_some (unescaped x)) whole ∙ t.spells

-- what is known of a value of tags behind an item
pub record TagsGoes (now : HeldTags) (bytes rest : List ℕ) : Type 0 where
  pub more : (xs : List ℕ) → front rest ≡ 44 ∷ xs → option_map (λ ts. now.tags ++ ts) (spelled xs) ≡ spelled (front bytes)
  pub whole : front rest ≡ [] → spelled (front bytes) ≡ Some now.tags
  pub good : (xs : List ℕ) → front rest ≡ 44 ∷ xs → is_some (unescaped xs) ≡ is_some (unescaped (front bytes))
  pub all_good : front rest ≡ [] → is_some (unescaped (front bytes)) ≡ true
  pub behind : back rest ≡ back bytes
  pub last : now.last ≡ []

nothing_before : (o : Option (List Tag)) → option_map (λ ts. [] ++ ts) o ≡ o
nothing_before None = refl
nothing_before (Some ts) = refl

-- the first tag is read
pub tags_start : (bytes rest : List ℕ) (old now : HeldTags) → old.tags ≡ [] → TagRead bytes rest old now → TagsGoes now bytes rest
tags_start bytes rest old now none t =
    let first : option_map (λ ts. old.tags ++ ts) (spelled (front bytes)) ≡ spelled (front bytes) = ap (λ ys. option_map (λ ts. ys ++ ts) (spelled (front bytes))) none ∙ nothing_before (spelled (front bytes)) in
    record {
      more = λ xs e. item_more bytes rest xs old now t e ∙ first;
      whole = λ e. sym first ∙ item_last bytes rest old now t e;
      good = λ xs e. good_more bytes rest xs old now t e;
      all_good = λ e. good_last bytes rest old now t e;
      behind = ap back t.rest_is ∙ sym (back_item bytes t.first);
      last = t.last;
    }

-- one tag more is read
pub tags_go : (bytes rest more next : List ℕ) (now new : HeldTags) → rest ≡ 44 ∷ more → TagRead more next now new → TagsGoes now bytes rest → TagsGoes new bytes next
tags_go bytes rest more next now new r t g =
    let f : front rest ≡ 44 ∷ front more = ap front r in
    record {
      more = λ xs e. item_more more next xs now new t e ∙ g.more (front more) f;
      whole = λ e. sym (g.more (front more) f) ∙ item_last more next now new t e;
      good = λ xs e. good_more more next xs now new t e ∙ g.good (front more) f;
      all_good = λ e. sym (g.good (front more) f) ∙ good_last more next now new t e;
      behind = ap back t.rest_is ∙ sym (back_item more t.first) ∙ sym (ap back r) ∙ g.behind;
      last = t.last;
    }

each_length : (items : List (List ℕ)) (ts : List Tag) → each_of tag_of items ≡ Some ts → length ts ≡ length items
each_length [] ts e = let none : [] ≡ ts = cc in ap length (sym none)
each_length (item ∷ items) ts e = one (tag_of item) (each_of tag_of items) e (each_length items)
  where
    one : (o : Option Tag) (r : Option (List Tag)) → prepended o r ≡ Some ts → ((us : List Tag) → r ≡ Some us → length us ≡ length items) → length ts ≡ length (item ∷ items)
    one None r e again = absurd (cc)
    one (Some t) None e again = absurd (cc)
    one (Some t) (Some us) e again = let same : t ∷ us ≡ ts = cc in let long = ap length same in let more = again us refl in omega arith

tags_good : (value : List ℕ) (ts : List Tag) → is_some (unescaped value) ≡ true → pairs_of value ≡ Some ts → is_few value ≡ true → failure_kind (value_tests Tags value) ≡ None
tags_good value ts u p f = rw (u, p, f) refl

as_items : (value : List ℕ) (ts : List Tag) → length ts ≤ 65535 → spelled value ≡ Some ts → (pairs_of value ≡ Some ts) × (is_few value ≡ true)
unfolding pairs_of tag_of
as_items [] ts few e = absurd (none e)
  where
    none : each_of tag_of ([] ∷ []) ≡ Some ts → ⊥
    none e = cc
as_items (c ∷ cs) ts few e = (e, (let long = each_length (slice_split is_comma (c ∷ cs)) ts e in le-leb (length (slice_split is_comma (c ∷ cs))) 65535 (omega arith)))

-- all tags are read, and rise
pub tags_read : (bytes rest : List ℕ) (now : HeldTags) → is_end rest ≡ true → length now.tags ≤ 65535 → AreTags now.tags → TagsGoes now bytes rest → TagsRead bytes rest now
tags_read bytes rest now e few rising g =
    let none : front rest ≡ [] = end_front rest e in
    let both = as_items (front bytes) now.tags few (g.whole none) in
    record {
      rest_is = sym (end_back rest e) ∙ g.behind;
      good = tags_good (front bytes) now.tags (g.all_good none) both.0 both.1;
      tags = ap (option_map tags_from) both.0 ∙ ap Some (tags_from_rising now.tags rising);
    }

-- Tags that rise.

-- the keys rise from one tag to the next
pub rises_step : (rest after : List Span) (first : Span) (bytes behind : List ℕ) (Z : Type 0) → rest ≡ first ∷ after → behind ≡ drop first.value (drop first.key bytes) → total rest ≤ length bytes
    → ComesFirst (take first.key bytes) (tags_in after behind) → (AreTags (tags_in rest bytes) → Z) → AreTags (tags_in after behind) → Z
rises_step rest after first bytes behind Z r b within comes all rising =
    let one : drop first.value (drop first.key bytes) ≡ drop (first.key + first.value) bytes = drop-drop first.value first.key bytes in
    let same : tags_in rest bytes ≡ tag_at first bytes ∷ tags_in after behind = ap (λ ss. tags_in ss bytes) r ∙ ap (λ x. tag_at first bytes ∷ tags_in after x) (sym (b ∙ one)) in
    all (subst AreTags (sym same) (rising_cons (tag_at first bytes) (tags_in after behind) comes rising))

-- the spans that are left lie in the text that is left
pub rises_within : (rest after : List Span) (first : Span) (bytes behind : List ℕ) → rest ≡ first ∷ after → behind ≡ drop first.value (drop first.key bytes) → total rest ≤ length bytes → total after ≤ length behind
rises_within rest after first bytes behind r b within =
    let t : total rest ≡ (first.key + first.value) + total after = ap total r in
    let l = ap length b in
    let m = length-drop first.value (drop first.key bytes) in
    let n = length-drop first.key bytes in
    omega arith

-- what stands behind text bytes is no longer than all
pub back_short : (bytes : List ℕ) → length (text_back bytes) ≤ length bytes
back_short [] = omega arith
back_short (c ∷ cs) =
    elim (is_text_byte c) as (λ b. length (cond b (text_back cs) (c ∷ cs)) ≤ length (c ∷ cs)) [
      | true ↦ let more = back_short cs in omega arith
      | false ↦ omega arith
    ]

-- a tag more is read, so less is left
pub tags_shorter : (rest more next : List ℕ) (now new : HeldTags) → rest ≡ 44 ∷ more → TagRead more next now new → length next < length rest
tags_shorter rest more next now new r t =
    let a = ap length r in
    let b = ap length t.rest_is in
    let p = back_short (drop 1 (text_back more)) in
    let q = back_short more in
    let d = length-drop 1 (text_back more) in
    omega arith

-- the empty value is read as no tags
pub tags_none_read : (bytes : List ℕ) (now : HeldTags) → is_end bytes ≡ true → now.tags ≡ [] → TagsRead bytes bytes now
tags_none_read bytes now e none = record {
  rest_is = sym (end_back bytes e);
  good = no_tags_good bytes e;
  tags = tags_none bytes e ∙ ap Some (sym none);
}

-- Names.

-- a text that ends its value is a good name
pub name_text : (bytes rest : List ℕ) (old new : HeldTags) → is_end rest ≡ true → TextRead bytes rest old new → failure_kind (value_tests UserName (front bytes)) ≡ None
name_text bytes rest old new e t =
    let whole : front bytes ≡ text_front bytes = front_text bytes ∙ ap (λ x. text_front bytes ++ x) (ap front (sym t.rest_is) ∙ end_front rest e) ∙ append-nil (text_front bytes) in
    let b = behind_of old.last new.last (text_of (text_front bytes)) t.text in
    ap (λ v. failure_kind (value_tests UserName v)) whole ∙ name_good (text_front bytes) b.text b.spelled

-- what stands behind a name
pub name_back : (bytes rest : List ℕ) (old new : HeldTags) → is_end rest ≡ true → TextRead bytes rest old new → rest ≡ back bytes
name_back bytes rest old new e t = sym (back_text bytes ∙ ap back (sym t.rest_is) ∙ end_back rest e)
