-- Runs of bytes.
use Rattle.std.proofs.Common.{◌≡◌, ◌≢◌, ◌≤◌, ◌<◌, ℕ, ◌+◌, ◌-◌, Option, Some, None, Bool, true, false, cond, eqb, List, [], ◌∷◌, ◌++◌, length, take, drop, refl, sym, ap, ◌∙◌, arith, append-nil, append_assoc, length-append}
use Rattle.std.proofs.Math.Seq.{take-append_seam, drop-append_seam}
use Rattle.std.specs.Prelude.{encode_utf8, is_some}
use Rattle.std.proofs.lemmas.Bool.{ne_eqb}
use Rattle.std.specs.Option.{option_map, option_and_then}
use Rattle.std.specs.List.{AllByRecursion, list_all, slice_split, onto_first}
use Rattle.text_pieces.specs.Escapes.{is_text_byte, is_hexadecimal, character_of, text_of, joined, unescaped_from, unescaped}
use Rattle.opl_rows.specs.Fronts.{is_plain, plain_of, behind_plain}
use Rattle.opl_rows.proofs.Plain.{plain_text, plain_unescaped}
use Rattle.opl_rows.specs.Runs.{begins, text_front, text_back, code_of, behind_code, item_of}
use Rattle.opl_rows.specs.Held.{HeldTags, Grows, EscapeRead, TextRead, TagRead}
use Rattle.opl_rows.proofs.Holding.{made}
use Rattle.live_model.specs.FieldValues.{tag_of, tag_from}
use Rattle.live_model.proofs.CanonicalParts.{parted_at-first}
use Rattle.opl_rows.proofs.Unescaping.{is_percent, unescaped_joined}

plain_whole : (bytes : List ℕ) → plain_of bytes ++ behind_plain bytes ≡ bytes
plain_whole [] = refl
plain_whole (c ∷ cs) =
    elim (is_plain c) as (λ b. cond b (c ∷ plain_of cs) [] ++ cond b (behind_plain cs) (c ∷ cs) ≡ c ∷ cs) [
      | true ↦ ap (λ x. c ∷ x) (plain_whole cs)
      | false ↦ refl
    ]

code_whole : (bytes : List ℕ) → code_of bytes ++ behind_code bytes ≡ bytes
code_whole [] = refl
code_whole (c ∷ cs) =
    elim (is_hexadecimal c) as (λ b. cond b (c ∷ code_of cs) [] ++ cond b (behind_code cs) (c ∷ cs) ≡ c ∷ cs) [
      | true ↦ ap (λ x. c ∷ x) (code_whole cs)
      | false ↦ refl
    ]

taken : (all first rest : List ℕ) → first ++ rest ≡ all → take (length all - length rest) all ≡ first
taken all first rest e =
    let long : length first + length rest ≡ length all = sym (length-append first rest) ∙ ap length e in
    let n : length all - length rest ≡ length first = omega arith in
    ap (λ k. take k all) n ∙ ap (take (length first)) (sym e) ∙ take-append_seam first rest

-- the plain bytes at the front, by how many are left
pub plain_taken : (bytes rest : List ℕ) → rest ≡ behind_plain bytes → take (length bytes - length rest) bytes ≡ plain_of bytes
plain_taken bytes rest is = ap (λ r. take (length bytes - length r) bytes) is ∙ taken bytes (plain_of bytes) (behind_plain bytes) (plain_whole bytes)

-- the same of hexadecimal digits
pub code_taken : (bytes rest : List ℕ) → rest ≡ behind_code bytes → take (length bytes - length rest) bytes ≡ code_of bytes
code_taken bytes rest is = ap (λ r. take (length bytes - length r) bytes) is ∙ taken bytes (code_of bytes) (behind_code bytes) (code_whole bytes)

-- Spelling.

grown : (o p : List ℕ) (r : Option (List ℕ)) → option_map (λ t. (o ++ p) ++ t) r ≡ option_map (λ t. o ++ t) (option_map (λ t. p ++ t) r)
grown o p None = refl
grown o p (Some t) = ap Some (append_assoc o p t)

front_plain : (bytes : List ℕ) → text_front bytes ≡ plain_of bytes ++ text_front (behind_plain bytes)
front_plain [] = refl
front_plain (c ∷ cs) =
    elim (is_plain c) as (λ b. is_plain c ≡ b → text_front (c ∷ cs) ≡ cond b (c ∷ plain_of cs) [] ++ text_front (cond b (behind_plain cs) (c ∷ cs))) [
      | true ↦ λ h. ap (λ b. cond b (c ∷ text_front cs) []) (plain_text c h) ∙ ap (λ x. c ∷ x) (front_plain cs)
      | false ↦ λ h. refl
    ] refl

back_plain : (bytes : List ℕ) → text_back bytes ≡ text_back (behind_plain bytes)
back_plain [] = refl
back_plain (c ∷ cs) =
    elim (is_plain c) as (λ b. is_plain c ≡ b → text_back (c ∷ cs) ≡ text_back (cond b (behind_plain cs) (c ∷ cs))) [
      | true ↦ λ h. ap (λ b. cond b (text_back cs) (c ∷ cs)) (plain_text c h) ∙ back_plain cs
      | false ↦ λ h. refl
    ] refl

-- what is spelled, where bytes are left
abbrev pub spells : List ℕ → List ℕ → Option (List ℕ)
spells o bytes = option_map (λ t. o ++ t) (unescaped (text_front bytes))

run_step : (o bytes : List ℕ) → spells (o ++ plain_of bytes) (behind_plain bytes) ≡ spells o bytes
run_step o bytes =
    grown o (plain_of bytes) (unescaped (text_front (behind_plain bytes)))
    ∙ ap (option_map (λ t. o ++ t)) (sym (unescaped_joined (plain_of bytes) (text_front (behind_plain bytes)) (plain_of bytes) (plain_unescaped bytes)))
    ∙ ap (λ x. option_map (λ t. o ++ t) (unescaped x)) (sym (front_plain bytes))

not_code : (c k : ℕ) → is_hexadecimal k ≡ false → is_hexadecimal c ≡ true → eqb c k ≡ false
not_code c k n e = ne_eqb c k (λ is. let clash : true ≡ false = sym e ∙ ap is_hexadecimal is ∙ n in absurd (cc))

hexadecimal_text : (c : ℕ) → is_hexadecimal c ≡ true → is_text_byte c ≡ true
hexadecimal_text c e = rw (not_code c 32 refl e, not_code c 9 refl e, not_code c 10 refl e, not_code c 44 refl e, not_code c 61 refl e) refl

hexadecimal_no_percent : (c : ℕ) → is_hexadecimal c ≡ true → eqb c 37 ≡ false
hexadecimal_no_percent c e = not_code c 37 refl e

front_code : (bytes : List ℕ) → text_front bytes ≡ code_of bytes ++ text_front (behind_code bytes)
front_code [] = refl
front_code (c ∷ cs) =
    elim (is_hexadecimal c) as (λ b. is_hexadecimal c ≡ b → text_front (c ∷ cs) ≡ cond b (c ∷ code_of cs) [] ++ text_front (cond b (behind_code cs) (c ∷ cs))) [
      | true ↦ λ h. ap (λ b. cond b (c ∷ text_front cs) []) (hexadecimal_text c h) ∙ ap (λ x. c ∷ x) (front_code cs)
      | false ↦ λ h. refl
    ] refl

back_code : (bytes : List ℕ) → text_back bytes ≡ text_back (behind_code bytes)
back_code [] = refl
back_code (c ∷ cs) =
    elim (is_hexadecimal c) as (λ b. is_hexadecimal c ≡ b → text_back (c ∷ cs) ≡ text_back (cond b (behind_code cs) (c ∷ cs))) [
      | true ↦ λ h. ap (λ b. cond b (text_back cs) (c ∷ cs)) (hexadecimal_text c h) ∙ back_code cs
      | false ↦ λ h. refl
    ] refl

split_code : (bytes : List ℕ) → slice_split is_percent (code_of bytes ++ 37 ∷ []) ≡ code_of bytes ∷ [] ∷ []
split_code [] = refl
split_code (c ∷ cs) =
    elim (is_hexadecimal c) as (λ b. is_hexadecimal c ≡ b → slice_split is_percent (cond b (c ∷ code_of cs) [] ++ 37 ∷ []) ≡ cond b (c ∷ code_of cs) [] ∷ [] ∷ []) [
      | true ↦ λ h. ap (λ b. cond b ([] ∷ slice_split is_percent (code_of cs ++ 37 ∷ [])) (onto_first c (slice_split is_percent (code_of cs ++ 37 ∷ [])))) (hexadecimal_no_percent c h) ∙ ap (onto_first c) (split_code cs)
      | false ↦ λ h. refl
    ] refl

code_spells : (bytes : List ℕ) (c : ℕ) → character_of (code_of bytes) ≡ Some c → unescaped (37 ∷ code_of bytes ++ 37 ∷ []) ≡ Some (encode_utf8 c)
unfolding unescaped
code_spells bytes c e =
    ap (λ ps. unescaped_from ([] ∷ ps)) (split_code bytes) ∙ ap (λ o. joined [] o (Some [])) e ∙ ap Some (append-nil (encode_utf8 c))

escape_step : (o code rest : List ℕ) (c : ℕ) → behind_code code ≡ 37 ∷ rest → character_of (code_of code) ≡ Some c → spells (o ++ encode_utf8 c) rest ≡ spells o (37 ∷ code)
escape_step o code rest c behind is =
    let whole : text_front (37 ∷ code) ≡ (37 ∷ code_of code ++ 37 ∷ []) ++ text_front rest =
    ap (λ x. 37 ∷ x) (front_code code ∙ ap (λ x. code_of code ++ text_front x) behind ∙ sym (append_assoc (code_of code) (37 ∷ []) (text_front rest)))
    in
    grown o (encode_utf8 c) (unescaped (text_front rest))
    ∙ ap (option_map (λ t. o ++ t)) (sym (unescaped_joined (37 ∷ code_of code ++ 37 ∷ []) (text_front rest) (encode_utf8 c) (code_spells code c is)))
    ∙ ap (λ x. option_map (λ t. o ++ t) (unescaped x)) (sym whole)

-- what is known of a text where bytes are left
pub record TextGoes (old now : HeldTags) (bytes rest : List ℕ) : Type 0 where
  pub spelled : spells now.last rest ≡ spells old.last bytes
  pub behind : text_back rest ≡ text_back bytes
  pub stops : behind_plain rest ≡ rest
  pub same : now.tags ≡ old.tags

twice : (bytes : List ℕ) → behind_plain (behind_plain bytes) ≡ behind_plain bytes
twice [] = refl
twice (c ∷ cs) =
    elim (is_plain c) as (λ b. is_plain c ≡ b → behind_plain (cond b (behind_plain cs) (c ∷ cs)) ≡ cond b (behind_plain cs) (c ∷ cs)) [
      | true ↦ λ h. twice cs
      | false ↦ λ h. ap (λ b. cond b (behind_plain cs) (c ∷ cs)) h
    ] refl

-- the plain bytes at the front are read
pub text_starts : (old now : HeldTags) (bytes rest : List ℕ) → rest ≡ behind_plain bytes → Grows old now (plain_of bytes) → TextGoes old now bytes rest
text_starts old now bytes rest r g = record {
  spelled = ap (λ o. spells o rest) g.last ∙ ap (spells (old.last ++ plain_of bytes)) r ∙ run_step old.last bytes;
  behind = ap text_back r ∙ sym (back_plain bytes);
  stops = ap behind_plain r ∙ twice bytes ∙ sym r;
  same = g.tags;
}

-- an escape and plain bytes more are read
pub text_goes : (old now mid new : HeldTags) (bytes rest code behind next : List ℕ) → rest ≡ 37 ∷ code → EscapeRead code behind now mid → next ≡ behind_plain behind → Grows mid new (plain_of behind)
    → TextGoes old now bytes rest → TextGoes old new bytes next
text_goes old now mid new bytes rest code behind next r e n g t = record {
  spelled =
      ap (λ o. spells o next) g.last ∙ ap (spells (mid.last ++ plain_of behind)) n ∙ run_step mid.last behind ∙ ap (λ o. spells o behind) e.grows.last
      ∙ escape_step now.last code behind e.character e.behind e.code ∙ ap (spells now.last) (sym r) ∙ t.spelled;
  behind = ap text_back n ∙ sym (back_plain behind) ∙ sym (ap text_back e.behind) ∙ sym (back_code code) ∙ ap text_back (sym r) ∙ t.behind;
  stops = ap behind_plain n ∙ twice behind ∙ sym n;
  same = g.tags ∙ e.grows.tags ∙ t.same;
}

-- an escape, by its code
pub escape_is : (bytes after rest : List ℕ) (n code c : ℕ) (old new : HeldTags) → after ≡ behind_code bytes → after ≡ 37 ∷ rest → n ≡ length bytes - length after → Some code ≡ character_of (take n bytes) → c ≡ code
    → Grows old new (encode_utf8 c) → EscapeRead bytes rest old new
escape_is bytes after rest n code c old new a r m k is g = record {
  character = c;
  behind = sym a ∙ r;
  code = ap character_of (sym (code_taken bytes after a) ∙ ap (λ k. take k bytes) (sym m)) ∙ sym k ∙ ap Some (sym is);
  grows = g;
}

plain_short : (bytes : List ℕ) → length (behind_plain bytes) ≤ length bytes
plain_short bytes = let e = sym (length-append (plain_of bytes) (behind_plain bytes)) ∙ ap length (plain_whole bytes) in omega arith

code_short : (bytes : List ℕ) → length (behind_code bytes) ≤ length bytes
code_short bytes = let e = sym (length-append (code_of bytes) (behind_code bytes)) ∙ ap length (code_whole bytes) in omega arith

-- an escape more is read, so less is left
pub shorter : (rest code behind next : List ℕ) (now mid : HeldTags) → rest ≡ 37 ∷ code → EscapeRead code behind now mid → next ≡ behind_plain behind → length next < length rest
shorter rest code behind next now mid r e n =
    let a = ap length r in
    let b = ap length e.behind in
    let d = ap length n in
    let p = plain_short behind in
    let q = code_short code in
    omega arith

-- no text byte is at the front
stopped : (rest : List ℕ) → behind_plain rest ≡ rest → begins 37 rest ≡ false → (text_front rest ≡ []) × (text_back rest ≡ rest)
stopped [] s p = (refl, refl)
stopped (c ∷ cs) s p = one (is_text_byte c) refl (eqb c 37) refl
  where
    one : (a : Bool) → is_text_byte c ≡ a → (b : Bool) → eqb c 37 ≡ b → (text_front (c ∷ cs) ≡ []) × (text_back (c ∷ cs) ≡ c ∷ cs)
    one false e b f = (rw e refl, rw e refl)
    one true e true f = absurd (let clash : true ≡ false = sym f ∙ p in cc)
    one true e false f =
        let plain : is_plain c ≡ true = rw (e, f) refl in
        let moved : behind_plain cs ≡ c ∷ cs = sym (ap (λ b. cond b (behind_plain cs) (c ∷ cs)) plain) ∙ s in
        let long = ap length moved in
        let short = plain_short cs in
        absurd (omega arith)

texts_in : (bytes : List ℕ) → list_all is_text_byte (text_front bytes) ≡ true
texts_in [] = refl
texts_in (c ∷ cs) =
    elim (is_text_byte c) as (λ b. is_text_byte c ≡ b → list_all is_text_byte (cond b (c ∷ text_front cs) []) ≡ true) [
      | true ↦ λ h. rw h (texts_in cs)
      | false ↦ λ h. refl
    ] refl

text_unescaped : (bytes : List ℕ) → text_of (text_front bytes) ≡ unescaped (text_front bytes)
unfolding text_of
text_unescaped bytes = rw (texts_in bytes) refl

spells_nothing : (o : List ℕ) → option_map (λ t. o ++ t) (unescaped []) ≡ Some o
unfolding unescaped
spells_nothing o = ap Some (append-nil o)

-- all of a text is read
pub text_is : (old now : HeldTags) (bytes rest : List ℕ) → begins 37 rest ≡ false → TextGoes old now bytes rest → TextRead bytes rest old now
text_is old now bytes rest p t =
    let s = stopped rest t.stops p in
    record {
      rest_is = sym s.1 ∙ t.behind;
      text = ap (option_map (λ t. old.last ++ t)) (text_unescaped bytes) ∙ sym t.spelled ∙ ap (λ x. option_map (λ t. now.last ++ t) (unescaped x)) s.0 ∙ spells_nothing now.last;
      tags = t.same;
    }

-- Tags.

no_equals : (bytes : List ℕ) → AllByRecursion (λ b. b ≢ 61) (text_front bytes)
no_equals [] = tt
no_equals (c ∷ cs) =
    elim (is_text_byte c) as (λ b. is_text_byte c ≡ b → AllByRecursion (λ b. b ≢ 61) (cond b (c ∷ text_front cs) [])) [
      | true ↦ λ h. ((λ is. let clash : true ≡ false = sym h ∙ ap is_text_byte is in cc), no_equals cs)
      | false ↦ λ h. tt
    ] refl

item_is : (bytes key value : List ℕ) → text_of (text_front bytes) ≡ Some key → text_of (text_front (drop 1 (text_back bytes))) ≡ Some value → tag_of (item_of bytes) ≡ Some (record { key = key; value = value })
unfolding tag_of
item_is bytes key value k v =
    ap (option_and_then (λ parts. tag_from (text_of parts.0) (text_of parts.1))) (parted_at-first 61 (text_front bytes) (text_front (drop 1 (text_back bytes))) refl (no_equals bytes))
    ∙ ap (λ o. tag_from o (text_of (text_front (drop 1 (text_back bytes))))) k ∙ ap (tag_from (Some key)) v

-- what an open text grew by
pub record Behind (o : List ℕ) (r : Option (List ℕ)) (all : List ℕ) : Type 0 where
  pub text : List ℕ
  pub spelled : r ≡ Some text
  pub whole : all ≡ o ++ text

-- an open text grew by what is spelled
pub behind_of : (o all : List ℕ) (r : Option (List ℕ)) → option_map (λ t. o ++ t) r ≡ Some all → Behind o r all
behind_of o all None e = absurd (cc)
behind_of o all (Some t) e = record { text = t; spelled = refl; whole = cc }

one_byte : unescaped (61 ∷ []) ≡ Some (61 ∷ [])
unfolding unescaped
one_byte = refl

item_spells : (bytes key value : List ℕ) → text_of (text_front bytes) ≡ Some key → text_of (text_front (drop 1 (text_back bytes))) ≡ Some value → is_some (unescaped (item_of bytes)) ≡ true
item_spells bytes key value k v =
    ap is_some
    (unescaped_joined (text_front bytes) (61 ∷ text_front (drop 1 (text_back bytes))) key (sym (text_unescaped bytes) ∙ k)
    ∙ ap (option_map (λ t. key ++ t)) (unescaped_joined (61 ∷ []) (text_front (drop 1 (text_back bytes))) (61 ∷ []) one_byte ∙ ap (option_map (λ t. 61 ∷ t)) (sym (text_unescaped (drop 1 (text_back bytes))) ∙ v)))

-- a tag, by its key and its value
pub tag_is : (bytes after front rest : List ℕ) (key : ℕ) (old mid next new : HeldTags) → old.last ≡ [] → TextRead bytes after old mid → after ≡ 61 ∷ front → key ≡ length mid.last → TextRead front rest mid next
    → new.tags ≡ next.tags ++ record { key = take key next.last; value = drop key next.last } ∷ [] → new.last ≡ [] → TagRead bytes rest old new
tag_is bytes after front rest key old mid next new none t a k u g l =
    let first = behind_of old.last mid.last (text_of (text_front bytes)) t.text in
    let second = behind_of mid.last next.last (text_of (text_front front)) u.text in
    let back : text_back bytes ≡ 61 ∷ front = sym t.rest_is ∙ a in
    let behind : drop 1 (text_back bytes) ≡ front = ap (drop 1) back in
    let key_is : first.text ≡ mid.last = sym (first.whole ∙ ap (λ o. o ++ first.text) none) in
    let taken : take key next.last ≡ mid.last = ap (take key) second.whole ∙ ap (λ n. take n (mid.last ++ second.text)) k ∙ take-append_seam mid.last second.text in
    let left : drop key next.last ≡ second.text = ap (drop key) second.whole ∙ ap (λ n. drop n (mid.last ++ second.text)) k ∙ drop-append_seam mid.last second.text in
    record {
      tag = record { key = mid.last; value = second.text };
      rest_is = u.rest_is ∙ sym (ap text_back behind);
      first = back ∙ ap (λ x. 61 ∷ x) (sym behind);
      item = item_is bytes mid.last second.text (first.spelled ∙ ap Some key_is) (ap (λ x. text_of (text_front x)) behind ∙ second.spelled);
      spells = item_spells bytes mid.last second.text (first.spelled ∙ ap Some key_is) (ap (λ x. text_of (text_front x)) behind ∙ second.spelled);
      tags = g ∙ ap (λ x. next.tags ++ made x (drop key next.last) ∷ []) taken ∙ ap (λ x. next.tags ++ made mid.last x ∷ []) left ∙ ap (λ ts. ts ++ made mid.last second.text ∷ []) (u.tags ∙ t.tags);
      last = l;
    }
