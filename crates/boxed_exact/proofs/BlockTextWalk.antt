-- The text of an index, behind those before it.
use Rattle.std.proofs.Common.{◌≡◌, ◌≢◌, ℕ, suc, ◌+◌, ◌-◌, List, [], Option, None, Ok, refl, sym, ap, subst, ◌∙◌, arith}
use Rattle.std.specs.Prelude.{slice_range, slice_get, unwrap_or}
use Rattle.std.specs.Option.{option_map}
use Rattle.obf_wire.specs.declared.field.Field.{Field}
use Rattle.obf_wire.specs.Fields.{Window}
use Rattle.file_grammar.specs.declared.parts.Part.TheVariants.{Texts}
use Rattle.file_grammar.specs.Messages.{Fields, ends, has_number, has_bytes, has_numbers, has_message}
use Rattle.file_grammar.specs.Readings.{message_at}
use Rattle.file_grammar.specs.Sections.{Placed, text_of, texts_in}
use Rattle.file_grammar.specs.Walks.{Standing, left_in, IsNext}
use Rattle.file_grammar.proofs.Shaped.{AreTexts, shaped, are_texts}

-- what stands at an index among all texts stands so many further on
pub record TextsAfter (all : Fields) (index more : ℕ) (s : Standing) : Type 0 where
  pub rest : Fields
  pub left : left_in s ≡ Ok rest
  pub are : AreTexts 10 rest
  pub same : slice_get (texts_in all) index ≡ slice_get (texts_in rest) more

pub texts_begin : (all : Fields) (index : ℕ) (w : Window) (s : Standing) → s ≡ record { part = Texts; last = None; window = w } → message_at Texts w ≡ Ok all → TextsAfter all index index s
texts_begin all index w s is e = record {
  rest = all;
  left = subst (λ (s : Standing). left_in s ≡ Ok all) (sym is) e;
  are = are_texts Texts None 10 all refl refl refl (shaped Texts w all e);
  same = refl;
}

-- the value, or no bytes
abbrev value_or_none : Option (Placed (List ℕ)) → List ℕ
value_or_none text = unwrap_or (option_map (λ t. t.value) text) []

text_is : (there : List (Placed (List ℕ))) (index : ℕ) → text_of there (index + 1) ≡ value_or_none (slice_get there index)
text_is there index = let next : index + 1 ≡ suc index = omega arith in ap (text_of there) next

-- the text of a number above 0 is that of the index before it
pub text_before : (there : List (Placed (List ℕ))) (number : ℕ) → number ≢ 0 → text_of there (number - 1 + 1) ≡ text_of there number
text_before there number more = let next : number - 1 + 1 ≡ number = omega (arith, more) in ap (text_of there) next

pub text_here : (all rest : Fields) (index : ℕ) (s behind : Standing) (f : Field) → AreTexts 10 rest → slice_get (texts_in all) index ≡ slice_get (texts_in rest) 0 → IsNext s behind f rest
    → slice_range s.window.bytes f.from f.to ≡ text_of (texts_in all) (index + 1)
text_here all ends index s behind f are same n = absurd n
text_here all (has_number at key value rest) index s behind f are same n = absurd are
text_here all (has_numbers at key values rest) index s behind f are same n = absurd are
text_here all (has_message at key inner rest) index s behind f are same n = absurd are
text_here all (has_bytes at key text rest) index s behind f are same n = n.2 ∙ sym (text_is (texts_in all) index ∙ ap value_or_none same)

text_on : (all rest : Fields) (index more : ℕ) (s behind : Standing) (f : Field) → AreTexts 10 rest → slice_get (texts_in all) index ≡ slice_get (texts_in rest) (suc more) → IsNext s behind f rest → TextsAfter all index more behind
text_on all ends index more s behind f are same n = absurd n
text_on all (has_number at key value rest) index more s behind f are same n = absurd are
text_on all (has_numbers at key values rest) index more s behind f are same n = absurd are
text_on all (has_message at key inner rest) index more s behind f are same n = absurd are
text_on all (has_bytes at key text rest) index more s behind f are same n = record { rest = rest; left = n.3; are = are.1; same = same }

-- the next text is the one that is wanted
pub text_now : (all : Fields) (index more : ℕ) (s behind : Standing) (f : Field) → more ≡ 0 → TextsAfter all index more s → ((fields : Fields) → left_in s ≡ Ok fields → IsNext s behind f fields)
    → slice_range s.window.bytes f.from f.to ≡ text_of (texts_in all) (index + 1)
text_now all index more s behind f none l next = text_here all l.rest index s behind f l.are (l.same ∙ ap (slice_get (texts_in l.rest)) none) (next l.rest l.left)

-- or one behind it
pub text_later : (all : Fields) (index more : ℕ) (s behind : Standing) (f : Field) → more ≢ 0 → TextsAfter all index more s → ((fields : Fields) → left_in s ≡ Ok fields → IsNext s behind f fields) → TextsAfter all index (more - 1) behind
text_later all index more s behind f some l next =
    let one : more ≡ suc (more - 1) = omega (arith, some) in
    text_on all l.rest index (more - 1) s behind f l.are (l.same ∙ ap (slice_get (texts_in l.rest)) one) (next l.rest l.left)

-- no text is left
pub no_text : (all : Fields) (index more : ℕ) (s : Standing) → TextsAfter all index more s → ((fields : Fields) → left_in s ≡ Ok fields → fields ≡ ends) → [] ≡ text_of (texts_in all) (index + 1)
no_text all index more s l last = sym (text_is (texts_in all) index ∙ ap value_or_none (l.same ∙ ap (λ (r : Fields). slice_get (texts_in r) more) (last l.rest l.left)))
