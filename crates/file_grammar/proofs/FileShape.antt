-- The fields of a whole file: each once, in order; the version comes first.
use Rattle.std.proofs.Common.{◌≡◌, ℕ, ◌-◌, false, List, [], ◌∷◌, ◌++◌, length, Option, Some, None, Ok, refl, sym, ap, subst, ◌∙◌, arith}
use Rattle.std.specs.Prelude.{IsTrue, is_some}
use Rattle.std.proofs.lemmas.Bool.{both_ways}
use Rattle.std.proofs.lemmas.List.{take_all}
use Rattle.obf_wire.specs.Varint as X
use Rattle.obf_wire.specs.Fields.{field_spelling, left_of}
use Rattle.file_grammar.specs.declared.parts.Boxed.TheVariants.{Map}
use Rattle.file_grammar.specs.declared.parts.Version.{Version as VersionOf}
use Rattle.file_grammar.specs.declared.parts.Version.TheVariants.{One, Two}
use Rattle.file_grammar.specs.declared.parts.Part.{Part}
use Rattle.file_grammar.specs.declared.parts.Part.TheVariants.{File, Head, Boxes, Addresses, Pois, Routing, Marks}
use Rattle.file_grammar.specs.declared.parts.Content.{Content}
use Rattle.file_grammar.specs.declared.parts.Content.TheVariants.{Version, Bytes, Message}
use Rattle.file_grammar.specs.Tables.{version_number, next_keys, may_end, content_of}
use Rattle.file_grammar.specs.Messages.{Fields, ends, has_number, has_bytes, has_numbers, has_message, spelling, inside, IsNumberFor, AreNumbersFor, IsMessageFor, HaveForm, IsMessage}
use Rattle.file_grammar.specs.Readings.{message_at}
use Rattle.file_grammar.specs.Files.{file_in, version_of, whole}
use Rattle.file_grammar.proofs.Shaped.{HoldsNumber, HoldsNumbers, IsShaped, BeginsNumber, BeginsMessage, begins_number, begins_message, only_key, shaped}

abbrev holds : Content → Option Content
holds content = Some content

pub begins_version : (version : VersionOf) (part : Part) (last : Option ℕ) (k : ℕ) (fields : Fields) → next_keys part last ≡ k ∷ [] → may_end part last ≡ false → content_of part k ≡ holds (Version version)
    → IsShaped part last fields → BeginsNumber part k fields
unfolding IsShaped
begins_version version part last k ends only more is s = absurd (both_ways (may_end part last) more s)
begins_version version part last k (has_number at key value rest) only more is s =
    let same = only_key part last k key only s.0 in
    record { at = at; value = value; rest = rest; is = ap (λ (key : ℕ). has_number at key value rest) (sym same); shaped = subst (λ (key : ℕ). IsShaped part (Some key) rest) (sym same) s.2 }
begins_version version part last k (has_bytes at key text rest) only more is s =
    let same = only_key part last k key only s.0 in
    let a : holds (Version version) ≡ holds Bytes = sym is ∙ ap (content_of part) same ∙ s.1 in absurd cc
begins_version version part last k (has_numbers at key values rest) only more is s =
    let same = only_key part last k key only s.0 in absurd (subst HoldsNumbers (ap (content_of part) (sym same) ∙ is) s.1)
begins_version version part last k (has_message at key inner rest) only more is s =
    let same = only_key part last k key only s.0 in
    let a : holds (Version version) ≡ holds (Message s.1.0) = sym is ∙ ap (content_of part) same ∙ s.1.1 in absurd cc

pub record BeginsBytes (part : Part) (k : ℕ) (fields : Fields) : Type 0 where
  pub at : ℕ
  pub text : List ℕ
  pub rest : Fields
  pub is : fields ≡ has_bytes at k text rest
  pub shaped : IsShaped part (Some k) rest

pub begins_bytes : (part : Part) (last : Option ℕ) (k : ℕ) (fields : Fields) → next_keys part last ≡ k ∷ [] → may_end part last ≡ false → content_of part k ≡ holds Bytes
    → IsShaped part last fields → BeginsBytes part k fields
unfolding IsShaped
begins_bytes part last k ends only more is s = absurd (both_ways (may_end part last) more s)
begins_bytes part last k (has_bytes at key text rest) only more is s =
    let same = only_key part last k key only s.0 in
    record { at = at; text = text; rest = rest; is = ap (λ (key : ℕ). has_bytes at key text rest) (sym same); shaped = subst (λ (key : ℕ). IsShaped part (Some key) rest) (sym same) s.2 }
begins_bytes part last k (has_number at key value rest) only more is s =
    let same = only_key part last k key only s.0 in absurd (subst HoldsNumber (ap (content_of part) (sym same) ∙ is) s.1)
begins_bytes part last k (has_numbers at key values rest) only more is s =
    let same = only_key part last k key only s.0 in absurd (subst HoldsNumbers (ap (content_of part) (sym same) ∙ is) s.1)
begins_bytes part last k (has_message at key inner rest) only more is s =
    let same = only_key part last k key only s.0 in
    let a : holds Bytes ≡ holds (Message s.1.0) = sym is ∙ ap (content_of part) same ∙ s.1.1 in absurd cc

-- a file of good form has its parts
pub has_parts : (version : VersionOf) (fields : Fields) → IsShaped (File version) None fields → IsTrue (is_some (file_in fields))
has_parts version fields s =
    let file = File version in
    let number : BeginsNumber file 8 fields = begins_version version file None 8 fields refl refl refl s in
    let head : BeginsMessage file 18 Head number.rest = begins_message file (Some 8) 18 Head number.rest refl refl refl number.shaped in
    let rules : BeginsBytes file 26 head.rest = begins_bytes file (Some 18) 26 head.rest refl refl refl head.shaped in
    let boxed : BeginsMessage file 54 (Boxes Map) rules.rest = begins_message file (Some 26) 54 (Boxes Map) rules.rest refl refl refl rules.shaped in
    let addresses : BeginsMessage file 62 (Addresses version) boxed.rest = begins_message file (Some 54) 62 (Addresses version) boxed.rest refl refl refl boxed.shaped in
    let pois : BeginsMessage file 70 Pois addresses.rest = begins_message file (Some 62) 70 Pois addresses.rest refl refl refl addresses.shaped in
    let roads : BeginsMessage file 78 Routing pois.rest = begins_message file (Some 70) 78 Routing pois.rest refl refl refl pois.shaped in
    let marks : BeginsMessage file 134 Marks roads.rest = begins_message file (Some 78) 134 Marks roads.rest refl refl refl roads.shaped in
    let again : BeginsNumber file 256 marks.rest = begins_number file (Some 134) 256 marks.rest refl refl refl marks.shaped in
    let is : fields ≡ has_number number.at 8 number.value (has_message head.at 18 head.inner (has_bytes rules.at 26 rules.text (has_message boxed.at 54 boxed.inner (has_message addresses.at 62 addresses.inner
    (has_message pois.at 70 pois.inner (has_message roads.at 78 roads.inner (has_message marks.at 134 marks.inner (has_number again.at 256 again.value again.rest)))))))) =
    number.is ∙ ap (has_number number.at 8 number.value) (head.is ∙ ap (has_message head.at 18 head.inner) (rules.is ∙ ap (has_bytes rules.at 26 rules.text)
    (boxed.is ∙ ap (has_message boxed.at 54 boxed.inner) (addresses.is ∙ ap (has_message addresses.at 62 addresses.inner) (pois.is ∙ ap (has_message pois.at 70 pois.inner)
    (roads.is ∙ ap (has_message roads.at 78 roads.inner) (marks.is ∙ ap (has_message marks.at 134 marks.inner) again.is))))))) in
    subst (λ (f : Fields). IsTrue (is_some (file_in f))) (sym is) refl

-- and so have bytes that were read
pub read_has_parts : (version : VersionOf) (bytes : List ℕ) (fields : Fields) → message_at (File version) (whole bytes) ≡ Ok fields → IsTrue (is_some (file_in fields))
read_has_parts version bytes fields e = has_parts version fields (shaped (File version) (whole bytes) fields e)

-- ---- the version that the bytes of a file begin with

-- the bytes of the field of a version, and what stands behind it
version_begins : (version : VersionOf) (rest : List ℕ) → version_of (field_spelling 8 (version_number version) [] ++ rest) ≡ version
unfolding X.varint X.groups
version_begins One rest = refl
version_begins Two rest = refl

all_bytes : (bytes : List ℕ) → left_of (whole bytes) ≡ bytes
all_bytes bytes = take_all (length bytes - 0) bytes (omega arith)

-- the fields of a file begin with its version
spelled_version : (version : VersionOf) (place : ℕ) (fields : Fields) → HaveForm (File version) None place fields → version_of (spelling fields) ≡ version
unfolding HaveForm spelling
spelled_version version place ends f = absurd (both_ways (may_end (File version) None) refl f)
spelled_version version place (has_number at key value rest) f =
    let same = only_key (File version) None 8 key refl f.1 in
    let number : IsNumberFor (holds (Version version)) value = subst (λ (k : ℕ). IsNumberFor (content_of (File version) k) value) (sym same) f.2 in
    ap (λ (k : ℕ). version_of (field_spelling k value [] ++ spelling rest)) (sym same) ∙ ap (λ (n : ℕ). version_of (field_spelling 8 n [] ++ spelling rest)) number
    ∙ version_begins version (spelling rest)
spelled_version version place (has_bytes at key text rest) f =
    let same = only_key (File version) None 8 key refl f.1 in
    let a : holds (Version version) ≡ holds Bytes = ap (content_of (File version)) same ∙ f.2 in absurd cc
spelled_version version place (has_numbers at key values rest) f =
    let same = only_key (File version) None 8 key refl f.1 in absurd (subst (λ (k : ℕ). AreNumbersFor (content_of (File version) k) values) (sym same) f.2)
spelled_version version place (has_message at key inner rest) f =
    let same = only_key (File version) None 8 key refl f.1 in absurd (subst (λ (k : ℕ). IsMessageFor (λ sub. HaveForm sub None (inside at key (length (spelling inner))) inner) (content_of (File version) k)) (sym same) f.2)

-- bytes are a file of no other version than the one that they begin with
pub file_version : (version : VersionOf) (bytes : List ℕ) (fields : Fields) → IsMessage (File version) (whole bytes) fields → version_of bytes ≡ version
file_version version bytes fields m = ap version_of (sym (all_bytes bytes) ∙ m.spelled) ∙ spelled_version version 0 fields m.form
