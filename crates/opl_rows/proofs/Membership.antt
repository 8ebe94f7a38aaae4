-- Members, read one after another.
use Rattle.std.proofs.Common.{◌≡◌, ◌≢◌, ℕ, ◌≤◌, ◌<◌, List, [], ◌∷◌, ◌++◌, Bool, true, false, cond, Option, Some, None, length, drop, refl, sym, ap, ◌∙◌, arith, append-nil, append_assoc, length-drop}
use Rattle.std.specs.Prelude.{is_some, ◌==◌}
use Rattle.std.specs.Option.{option_map, option_and_then}
use Rattle.std.specs.List.{AllByRecursion, position_or_len, list_all}
use Rattle.std.proofs.lemmas.Bool.{ne_eqb, le-leb}
use Rattle.text_pieces.specs.Numbers.{is_digit, has_minus, id_of}
use Rattle.text_pieces.specs.Escapes.{is_text_byte, text_of, unescaped}
use Rattle.text_pieces.proofs.EscapeSteps.{unescaped_none}
use Rattle.live_model.specs.declared.ids.Kind.{Kind}
use Rattle.live_model.specs.declared.objects.Member.{Member}
use Rattle.live_model.specs.declared.opl.Letter.TheVariants.{Members}
use Rattle.live_model.specs.Ids.{Id}
use Rattle.live_model.specs.FieldValues.{kind_of, object_of, id_from, member_of, member_from, members_of, items_of}
use Rattle.live_model.specs.ObjectLines.{first_of}
use Rattle.live_model.specs.LineTests.{value_tests, failure_kind}
use Rattle.live_model.proofs.CanonicalParts.{parted_at-first}
use Rattle.opl_rows.specs.Fronts.{front, back, is_end, digits_of, id_text, behind_id}
use Rattle.opl_rows.specs.Runs.{text_front, text_back}
use Rattle.opl_rows.specs.Held.{HeldTags, TextRead}
use Rattle.opl_rows.specs.Members.{target_text, behind_target, member_text, behind_member, TargetRead, MemberAdded, MembersRead}
use Rattle.opl_rows.proofs.Fields.{end_front, end_back, kind_solid}
use Rattle.opl_rows.proofs.Items.{NoComma, no_comma, both_no_comma, front_text, back_text, spells_more, back_short}
use Rattle.opl_rows.proofs.Runs.{behind_of}
use Rattle.opl_rows.proofs.Unescaping.{is_percent, unescaped_joined}
use Rattle.opl_rows.proofs.Listing.{listed, listed_more, listed_last, listed_first, listed_length}
use Rattle.opl_rows.proofs.Referring.{front_id, back_id, id_short}

-- what holds of digits and a minus holds of the bytes of an id
id_all : (P : ℕ → Type 0) → ((c : ℕ) → is_digit c ≡ true → P c) → P 45 → (bytes : List ℕ) → AllByRecursion P (id_text bytes)
id_all P digit minus bytes =
    elim (has_minus bytes) as (λ m. AllByRecursion P (cond m (45 ∷ digits_of (drop 1 bytes)) (digits_of bytes))) [
      | true ↦ (minus, digits_all P digit (drop 1 bytes))
      | false ↦ digits_all P digit bytes
    ]
  where
    digits_all : (P : ℕ → Type 0) → ((c : ℕ) → is_digit c ≡ true → P c) → (bytes : List ℕ) → AllByRecursion P (digits_of bytes)
    digits_all P digit [] = tt
    digits_all P digit (c ∷ cs) =
        elim (is_digit c) as (λ b. is_digit c ≡ b → AllByRecursion P (cond b (c ∷ digits_of cs) [])) [
          | true ↦ λ h. (digit c h, digits_all P digit cs)
          | false ↦ λ h. tt
        ] refl

-- a letter of a kind is no other byte
kind_other : (c x : ℕ) (kind : Kind) → kind_of c ≡ Some kind → kind_of x ≡ None → c ≢ x
kind_other c x kind e none = λ is. let clash : Some kind ≡ None = sym e ∙ ap kind_of is ∙ none in absurd (cc)

digit_other : (c x : ℕ) → is_digit c ≡ true → is_digit x ≡ false → c ≢ x
digit_other c x e none = λ is. let clash : true ≡ false = sym e ∙ ap is_digit is ∙ none in absurd (cc)

-- a target has no byte that is no letter, no digit and no minus
target_other : (x : ℕ) (bytes : List ℕ) (kind : Kind) → kind_of (first_of bytes) ≡ Some kind → kind_of x ≡ None → is_digit x ≡ false → 45 ≢ x → AllByRecursion (λ b. b ≢ x) (target_text bytes)
target_other x bytes kind letter none digit minus = (kind_other (first_of bytes) x kind letter none, id_all (λ b. b ≢ x) (λ c h. digit_other c x h digit) minus (drop 1 bytes))

no_byte : (x : ℕ) (xs : List ℕ) → AllByRecursion (λ b. b ≢ x) xs → AllByRecursion (λ b. (b == x) ≡ false) xs
no_byte x [] all = tt
no_byte x (y ∷ ys) all = (ne_eqb y x all.0, no_byte x ys all.1)

-- the target of a member
pub target_is : (bytes more rest : List ℕ) (c : ℕ) (kind : Kind) (object : Id) → bytes ≡ c ∷ more → kind_of c ≡ Some kind → object.kind ≡ kind → id_of (id_text more) ≡ Some object.number → rest ≡ behind_id more
    → TargetRead bytes rest object
unfolding object_of
target_is bytes more rest c kind object is letter same number behind =
    let left : more ≡ drop 1 bytes = sym (ap (drop 1) is) in
    let first : c ≡ first_of bytes = sym (ap first_of is) in
    record {
      rest_is = behind ∙ ap behind_id left;
      first = is ∙ ap (λ x. x ∷ more) first ∙ ap (λ x. first_of bytes ∷ x) left;
      kind = sym (ap kind_of first) ∙ letter ∙ ap Some (sym same);
      object_is =
          ap (λ k. id_from k (id_of (id_text (drop 1 bytes)))) (sym (ap kind_of first) ∙ letter)
          ∙ ap (λ ds. id_from (Some kind) (id_of (id_text ds))) (sym left)
          ∙ ap (id_from (Some kind)) number
          ∙ ap (λ k. Some (record { kind = k; number = object.number })) (sym same);
    }

-- bytes without a percent sign
whole_place : (xs : List ℕ) → AllByRecursion (λ b. (b == 37) ≡ false) xs → position_or_len is_percent xs ≡ length xs
whole_place [] a = refl
whole_place (x ∷ xs) a = let more = whole_place xs a.1 in rw a.0 (omega arith)

all_joined : (P : ℕ → Type 0) (xs ys : List ℕ) → AllByRecursion P xs → AllByRecursion P ys → AllByRecursion P (xs ++ ys)
all_joined P [] ys a b = b
all_joined P (x ∷ xs) ys a b = (a.0, all_joined P xs ys a.1 b)

-- a member and its role spell something
member_spells : (bytes role : List ℕ) (kind : Kind) → kind_of (first_of bytes) ≡ Some kind → unescaped (text_front (drop 1 (behind_target bytes))) ≡ Some role → is_some (unescaped (member_text bytes)) ≡ true
member_spells bytes role kind letter e =
    let plain = no_byte 37 (target_text bytes) (target_other 37 bytes kind letter refl refl (λ is. absurd (omega arith))) in
    let front : unescaped (target_text bytes ++ 64 ∷ []) ≡ Some (target_text bytes ++ 64 ∷ []) =
    unescaped_none (target_text bytes ++ 64 ∷ []) (whole_place (target_text bytes ++ 64 ∷ []) (all_joined (λ b. (b == 37) ≡ false) (target_text bytes) (64 ∷ []) plain (refl, tt)))
    in
    ap is_some
    (ap unescaped (sym (append_assoc (target_text bytes) (64 ∷ []) (text_front (drop 1 (behind_target bytes)))))
    ∙ unescaped_joined (target_text bytes ++ 64 ∷ []) (text_front (drop 1 (behind_target bytes))) (target_text bytes ++ 64 ∷ []) front
    ∙ ap (option_map (λ t. (target_text bytes ++ 64 ∷ []) ++ t)) e)

member_item : (bytes role : List ℕ) (object : Id) (kind : Kind) → kind_of (first_of bytes) ≡ Some kind → object_of (target_text bytes) ≡ Some object → text_of (text_front (drop 1 (behind_target bytes))) ≡ Some role
    → member_of (member_text bytes) ≡ Some (record { target = object; role = role })
unfolding member_of
member_item bytes role object kind letter o t =
    ap (option_and_then (λ parts. member_from (object_of parts.0) (text_of parts.1)))
    (parted_at-first 64 (target_text bytes) (text_front (drop 1 (behind_target bytes))) refl (target_other 64 bytes kind letter refl refl (λ is. absurd (omega arith))))
    ∙ ap (λ x. member_from x (text_of (text_front (drop 1 (behind_target bytes))))) o ∙ ap (member_from (Some object)) t

-- a text spells without its test too
text_spells : (v t : List ℕ) → text_of v ≡ Some t → unescaped v ≡ Some t
unfolding text_of
text_spells v t e = one (list_all is_text_byte v) e
  where
    nothing : Option (List ℕ)
    nothing = None

    one : (b : Bool) → cond b (unescaped v) nothing ≡ Some t → unescaped v ≡ Some t
    one true e = e
    one false e = absurd (cc)

-- a member, by its target and its role
pub member_is : (bytes after front rest role : List ℕ) (object : Id) (mid next : HeldTags) (old new : List Member) → TargetRead bytes after object → after ≡ 64 ∷ front → mid.last ≡ [] → TextRead front rest mid next → role ≡ next.last
    → new ≡ old ++ record { target = object; role = role } ∷ [] → MemberAdded bytes rest old new
member_is bytes after front rest role object mid next old new t a none u same g =
    let spelled = behind_of mid.last next.last (text_of (text_front front)) u.text in
    let cut : behind_target bytes ≡ 64 ∷ front = sym t.rest_is ∙ a in
    let left : drop 1 (behind_target bytes) ≡ front = ap (drop 1) cut in
    let whole : role ≡ spelled.text = same ∙ spelled.whole ∙ ap (λ o. o ++ spelled.text) none in
    let text : text_of (text_front (drop 1 (behind_target bytes))) ≡ Some role = ap (λ x. text_of (text_front x)) left ∙ spelled.spelled ∙ ap Some (sym whole) in
    record {
      member = record { target = object; role = role };
      kind = object.kind;
      rest_is = u.rest_is ∙ sym (ap text_back left);
      first = t.first;
      letter = t.kind;
      cut = cut ∙ ap (λ x. 64 ∷ x) (sym left);
      item = member_item bytes role object object.kind t.kind t.object_is text;
      spells = member_spells bytes role object.kind t.kind (text_spells (text_front (drop 1 (behind_target bytes))) role text);
      behind = g;
    }

-- what stands at the front is the member, and what stands behind it
front_member : (bytes rest : List ℕ) (old new : List Member) → MemberAdded bytes rest old new → front bytes ≡ member_text bytes ++ front rest
front_member bytes rest old new m =
    ap front m.first ∙ ap (λ b. cond b [] (first_of bytes ∷ front (drop 1 bytes))) (kind_solid (first_of bytes) m.kind m.letter)
    ∙ ap (λ x. first_of bytes ∷ x) (front_id (drop 1 bytes) ∙ ap (λ x. id_text (drop 1 bytes) ++ x) (ap front m.cut ∙ ap (λ x. 64 ∷ x) (front_text (drop 1 (behind_target bytes)))))
    ∙ sym (append_assoc (target_text bytes) (64 ∷ text_front (drop 1 (behind_target bytes))) (front (behind_member bytes)))
    ∙ ap (λ x. member_text bytes ++ front x) (sym m.rest_is)

back_member : (bytes rest : List ℕ) (old new : List Member) → MemberAdded bytes rest old new → back bytes ≡ back rest
back_member bytes rest old new m =
    ap back m.first ∙ ap (λ b. cond b (first_of bytes ∷ drop 1 bytes) (back (drop 1 bytes))) (kind_solid (first_of bytes) m.kind m.letter)
    ∙ back_id (drop 1 bytes) ∙ ap back m.cut ∙ back_text (drop 1 (behind_target bytes)) ∙ ap back (sym m.rest_is)

member_plain : (bytes rest : List ℕ) (old new : List Member) → MemberAdded bytes rest old new → NoComma (member_text bytes)
member_plain bytes rest old new m =
    both_no_comma (target_text bytes) (64 ∷ text_front (drop 1 (behind_target bytes)))
    (no_byte 44 (target_text bytes) (target_other 44 bytes m.kind m.letter refl refl (λ is. absurd (omega arith)))) (refl, no_comma (drop 1 (behind_target bytes)))

-- what is known of a value of members behind one of them
pub record MembersGo (now : List Member) (bytes rest : List ℕ) : Type 0 where
  pub more : (xs : List ℕ) → front rest ≡ 44 ∷ xs → option_map (λ ms. now ++ ms) (listed member_of xs) ≡ listed member_of (front bytes)
  pub whole : front rest ≡ [] → listed member_of (front bytes) ≡ Some now
  pub good : (xs : List ℕ) → front rest ≡ 44 ∷ xs → is_some (unescaped xs) ≡ is_some (unescaped (front bytes))
  pub all_good : front rest ≡ [] → is_some (unescaped (front bytes)) ≡ true
  pub behind : back rest ≡ back bytes
  pub some : 0 < length (front bytes)

member_more : (bytes rest xs : List ℕ) (old new : List Member) → MemberAdded bytes rest old new → front rest ≡ 44 ∷ xs
    → option_map (λ ms. new ++ ms) (listed member_of xs) ≡ option_map (λ ms. old ++ ms) (listed member_of (front bytes))
member_more bytes rest xs old new m e =
    listed_more member_of (member_text bytes) xs m.member old new (member_plain bytes rest old new m) m.item m.behind
    ∙ ap (λ x. option_map (λ ms. old ++ ms) (listed member_of x)) (sym (front_member bytes rest old new m ∙ ap (λ x. member_text bytes ++ x) e))

member_last : (bytes rest : List ℕ) (old new : List Member) → MemberAdded bytes rest old new → front rest ≡ [] → option_map (λ ms. old ++ ms) (listed member_of (front bytes)) ≡ Some new
member_last bytes rest old new m e =
    ap (λ x. option_map (λ ms. old ++ ms) (listed member_of x)) (front_member bytes rest old new m ∙ ap (λ x. member_text bytes ++ x) e ∙ append-nil (member_text bytes))
    ∙ listed_last member_of (member_text bytes) m.member old new (member_plain bytes rest old new m) m.item m.behind

good_more : (bytes rest xs : List ℕ) (old new : List Member) → MemberAdded bytes rest old new → front rest ≡ 44 ∷ xs → is_some (unescaped xs) ≡ is_some (unescaped (front bytes))
good_more bytes rest xs old new m e =
    sym (ap (λ x. is_some (unescaped x)) (front_member bytes rest old new m ∙ ap (λ x. member_text bytes ++ x) e) ∙ spells_more (member_text bytes) xs (unescaped (member_text bytes)) refl m.spells)

good_last : (bytes rest : List ℕ) (old new : List Member) → MemberAdded bytes rest old new → front rest ≡ [] → is_some (unescaped (front bytes)) ≡ true
good_last bytes rest old new m e =
    ap (λ x. is_some (unescaped x)) (front_member bytes rest old new m ∙ ap (λ x. member_text bytes ++ x) e ∙ append-nil (member_text bytes)) ∙ m.spells

member_some : (bytes rest : List ℕ) (old new : List Member) → MemberAdded bytes rest old new → 0 < length (front bytes)
member_some bytes rest old new m = let long = ap length (front_member bytes rest old new m) in omega arith

-- the first member is read
pub members_start : (bytes rest : List ℕ) (old now : List Member) → old ≡ [] → MemberAdded bytes rest old now → MembersGo now bytes rest
members_start bytes rest old now none m =
    let first : option_map (λ ms. old ++ ms) (listed member_of (front bytes)) ≡ listed member_of (front bytes) =
    ap (λ ys. option_map (λ ms. ys ++ ms) (listed member_of (front bytes))) none ∙ listed_first (listed member_of (front bytes))
    in record {
      more = λ xs e. member_more bytes rest xs old now m e ∙ first;
      whole = λ e. sym first ∙ member_last bytes rest old now m e;
      good = λ xs e. good_more bytes rest xs old now m e;
      all_good = λ e. good_last bytes rest old now m e;
      behind = sym (back_member bytes rest old now m);
      some = member_some bytes rest old now m;
    }

-- one member more is read
pub members_go : (bytes rest more next : List ℕ) (now new : List Member) → rest ≡ 44 ∷ more → MemberAdded more next now new → MembersGo now bytes rest → MembersGo new bytes next
members_go bytes rest more next now new is m g =
    let f : front rest ≡ 44 ∷ front more = ap front is in
    record {
      more = λ xs e. member_more more next xs now new m e ∙ g.more (front more) f;
      whole = λ e. sym (g.more (front more) f) ∙ member_last more next now new m e;
      good = λ xs e. good_more more next xs now new m e ∙ g.good (front more) f;
      all_good = λ e. sym (g.good (front more) f) ∙ good_last more next now new m e;
      behind = sym (back_member more next now new m) ∙ sym (ap back is) ∙ g.behind;
      some = g.some;
    }

-- a member more is read, so less is left
pub members_shorter : (rest more next : List ℕ) (now new : List Member) → rest ≡ 44 ∷ more → MemberAdded more next now new → length next < length rest
members_shorter rest more next now new is m =
    let a = ap length is in
    let b = ap length m.rest_is in
    let p = back_short (drop 1 (behind_target more)) in
    let q = length-drop 1 (behind_target more) in
    let r = id_short (drop 1 more) in
    let s = length-drop 1 more in
    omega arith

-- the items of a value of some bytes
members_good : (value : List ℕ) (ms : List Member) → 0 < length value → length ms ≤ 65535 → is_some (unescaped value) ≡ true → listed member_of value ≡ Some ms
    → (failure_kind (value_tests Members value) ≡ None) × (members_of value ≡ Some ms)
unfolding members_of
members_good [] ms some few u e = absurd (omega arith)
members_good (c ∷ cs) ms some few u e =
    let long = listed_length member_of (items_of (c ∷ cs)) ms e in
    (rw (u, e, le-leb (length (items_of (c ∷ cs))) 65535 (omega arith)) refl, e)

-- all members are read
pub members_read : (bytes rest : List ℕ) (now : List Member) → is_end rest ≡ true → length now ≤ 65535 → MembersGo now bytes rest → MembersRead bytes rest now
members_read bytes rest now e few g =
    let none : front rest ≡ [] = end_front rest e in
    let both = members_good (front bytes) now g.some few (g.all_good none) (g.whole none) in
    record { rest_is = sym (end_back rest e) ∙ g.behind; good = both.0; members = both.1 }

-- no members
pub members_none_read : (bytes : List ℕ) (now : List Member) → is_end bytes ≡ true → now ≡ [] → MembersRead bytes bytes now
unfolding members_of unescaped
members_none_read bytes now e none = record {
  rest_is = sym (end_back bytes e);
  good = ap (λ v. failure_kind (value_tests Members v)) (end_front bytes e);
  members = ap members_of (end_front bytes e) ∙ ap Some (sym none);
}
