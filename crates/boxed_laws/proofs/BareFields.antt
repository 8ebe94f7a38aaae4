-- Fields at an offset spell what they spell without it, and are of the form that they have without it.
use Rattle.std.proofs.Common.{◌≡◌, ℕ, List, [], ◌++◌, length, Option, Some, None, refl, sym, ap, subst, ◌∙◌}
use Rattle.std.specs.Prelude.{flat_map}
use Rattle.obf_wire.specs.Varint.{varint}
use Rattle.obf_wire.specs.Fields.{field_spelling}
use Rattle.file_grammar.specs.declared.parts.Part.{Part}
use Rattle.file_grammar.specs.declared.parts.Content.{Content}
use Rattle.file_grammar.specs.declared.parts.Content.TheVariants.{Number, Version, Bytes, Numbers, Message}
use Rattle.file_grammar.specs.Tables.{content_of}
use Rattle.file_grammar.specs.Messages.{spelling, inside, beyond, IsMessageFor, HaveForm}
use Rattle.boxed_laws.specs.Bare.{Bare, no_more, a_number, a_text, some_numbers, a_message, bytes_of, stood, AreFormed}

pub spelled : (at : ℕ) (b : Bare) → spelling (stood at b) ≡ bytes_of b
unfolding spelling
spelled at no_more = refl
spelled at (a_number key value rest) = ap (λ (t : List ℕ). field_spelling key value [] ++ t) (spelled (inside at key value) rest)
spelled at (a_text key payload rest) = ap (λ (t : List ℕ). field_spelling key (length payload) payload ++ t) (spelled (beyond at key (length payload)) rest)
spelled at (some_numbers key values rest) =
    ap (λ (t : List ℕ). field_spelling key (length (flat_map varint values)) (flat_map varint values) ++ t) (spelled (beyond at key (length (flat_map varint values))) rest)
spelled at (a_message key inner rest) =
    ap (λ (t : List ℕ). field_spelling key (length t) t ++ spelling (stood (beyond at key (length (bytes_of inner))) rest)) (spelled (inside at key (length (bytes_of inner))) inner)
    ∙ ap (λ (t : List ℕ). field_spelling key (length (bytes_of inner)) (bytes_of inner) ++ t) (spelled (beyond at key (length (bytes_of inner))) rest)

message_for : (P Q : Part → Type 0) (c : Option Content) → ((sub : Part) → P sub → Q sub) → IsMessageFor P c → IsMessageFor Q c
message_for P Q None f m = m
message_for P Q (Some Number) f m = m
message_for P Q (Some (Version version)) f m = m
message_for P Q (Some Bytes) f m = m
message_for P Q (Some (Numbers group)) f m = m
message_for P Q (Some (Message sub)) f m = f sub m

pub formed : (b : Bare) (part : Part) (last : Option ℕ) (at : ℕ) → AreFormed part last b → HaveForm part last at (stood at b)
unfolding HaveForm
formed no_more part last at f = f
formed (a_number key value rest) part last at f = (refl, f.0, f.1, formed rest part (Some key) (inside at key value) f.2)
formed (a_text key payload rest) part last at f = (refl, f.0, f.1, formed rest part (Some key) (beyond at key (length payload)) f.2)
formed (some_numbers key values rest) part last at f = (refl, f.0, f.1, formed rest part (Some key) (beyond at key (length (flat_map varint values))) f.2)
formed (a_message key inner rest) part last at f =
    let n : ℕ = length (bytes_of inner) in
    let same : n ≡ length (spelling (stood (inside at key n) inner)) = ap length (sym (spelled (inside at key n) inner)) in (
      refl,
      f.0,
      subst (λ (k : ℕ). IsMessageFor (λ sub. HaveForm sub None (inside at key k) (stood (inside at key n) inner)) (content_of part key)) same
          (message_for (λ sub. AreFormed sub None inner) (λ sub. HaveForm sub None (inside at key n) (stood (inside at key n) inner)) (content_of part key)
          (λ sub g. formed inner sub None (inside at key n) g) f.1),
      subst (λ (k : ℕ). HaveForm part (Some key) (beyond at key k) (stood (beyond at key n) rest)) same (formed rest part (Some key) (beyond at key n) f.2),
    )
