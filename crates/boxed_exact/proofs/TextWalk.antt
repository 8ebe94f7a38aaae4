-- Texts, one after another.
use Rattle.std.proofs.Common.{◌≡◌, ℕ, ◌+◌, Bool, true, false, List, [], ◌∷◌, length, map, Option, Some, None, Ok, refl, sym, ap, subst, ◌∙◌, arith}
use Rattle.std.specs.Prelude.{slice_range, nat_lt, not, ◌&&◌}
use Rattle.std.specs.Str.{is_utf8}
use Rattle.obf_wire.specs.declared.field.Field.{Field}
use Rattle.obf_wire.specs.declared.file.FileBreak.{FileBreak}
use Rattle.obf_wire.specs.declared.file.FileKind.TheVariants.{BadText}
use Rattle.obf_wire.specs.Fields.{Window}
use Rattle.file_grammar.specs.declared.parts.Part.TheVariants.{Texts}
use Rattle.file_grammar.specs.BoxRules.{text_fact, with_before}
use Rattle.file_grammar.specs.Facts.{Fact, fact, earlier, failing, first_failing}
use Rattle.file_grammar.specs.Messages.{Fields, ends, has_number, has_bytes, has_numbers, has_message}
use Rattle.file_grammar.specs.Readings.{message_at}
use Rattle.file_grammar.specs.Sections.{Placed, placed, texts_in}
use Rattle.file_grammar.specs.Walks.{Standing, left_in, IsNext}
use Rattle.file_grammar.proofs.Earlier.{earlier_joined, earlier_none}
use Rattle.file_grammar.proofs.Shaped.{AreTexts, shaped, are_texts}
use Rattle.boxed_exact.specs.Fields.{is_text_behind}

-- the text before, or the empty one
abbrev seen : Option (Placed (List ℕ)) → List ℕ
seen None = []
seen (Some text) = text.value

abbrev pub facts_behind : Option (Placed (List ℕ)) → Fields → List Fact
facts_behind before fields = map text_fact (with_before before (texts_in fields))

-- behind some of the texts
pub record TextsLeft (all : Fields) (start now : Option FileBreak) (count : ℕ) (text : List ℕ) (s : Standing) : Type 0 where
  pub before : Option (Placed (List ℕ))
  pub rest : Fields
  pub left : left_in s ≡ Ok rest
  pub are : AreTexts 10 rest
  pub seen : seen before ≡ text
  pub asked : earlier start (first_failing (facts_behind None all)) ≡ earlier now (first_failing (facts_behind before rest))
  pub counted : length (texts_in all) ≡ count + length (texts_in rest)

pub texts_begin : (all : Fields) (start : Option FileBreak) (w : Window) (s : Standing) → s ≡ record { part = Texts; last = None; window = w } → message_at Texts w ≡ Ok all → TextsLeft all start start 0 [] s
texts_begin all start w s is e =
    record {
      before = None;
      rest = all;
      left = subst (λ (s : Standing). left_in s ≡ Ok all) (sym is) e;
      are = are_texts Texts None 10 all refl refl refl (shaped Texts w all e);
      seen = refl;
      asked = refl;
      counted = omega arith;
    }

no_text : (a b : Bool) → ((a && false) && b) ≡ ((a && false) && true)
no_text true b = refl
no_text false b = refl

-- the empty text may stand before the first
empty_before : (text : List ℕ) → is_text_behind [] text ≡ ((is_utf8 text && nat_lt 0 (length text)) && true)
empty_before [] = no_text (is_utf8 []) (not (is_utf8 [] && is_utf8 []))
empty_before (c ∷ cs) = refl

same_fact : (before : Option (Placed (List ℕ))) (text : Placed (List ℕ)) → text_fact (before, text) ≡ fact text.at BadText (is_text_behind (seen before) text.value)
same_fact None text = ap (fact text.at BadText) (sym (empty_before text.value))
same_fact (Some before) text = refl

texts_step : (all : Fields) (start now : Option FileBreak) (count : ℕ) (before : Option (Placed (List ℕ))) (rest : Fields) (s behind : Standing) (f : Field) → AreTexts 10 rest
    → earlier start (first_failing (facts_behind None all)) ≡ earlier now (first_failing (facts_behind before rest)) → length (texts_in all) ≡ count + length (texts_in rest)
    → IsNext s behind f rest
    → TextsLeft all start (earlier now (failing (fact f.at BadText (is_text_behind (seen before) (slice_range s.window.bytes f.from f.to))))) (count + 1) (slice_range s.window.bytes f.from f.to) behind
texts_step all start now count before ends s behind f are asked counted n = absurd n
texts_step all start now count before (has_number at key value rest) s behind f are asked counted n = absurd are
texts_step all start now count before (has_numbers at key values rest) s behind f are asked counted n = absurd are
texts_step all start now count before (has_message at key inner rest) s behind f are asked counted n = absurd are
texts_step all start now count before (has_bytes at key text rest) s behind f are asked counted n =
    let one : text_fact (before, placed at text) ≡ fact f.at BadText (is_text_behind (seen before) (slice_range s.window.bytes f.from f.to)) =
    same_fact before (placed at text) ∙ ap (λ (p : ℕ). fact p BadText (is_text_behind (seen before) text)) (sym n.0)
    ∙ ap (λ (t : List ℕ). fact f.at BadText (is_text_behind (seen before) t)) (sym n.2) in
    record {
      before = Some (placed at text);
      rest = rest;
      left = n.3;
      are = are.1;
      seen = sym n.2;
      asked =
          asked ∙ sym (earlier_joined now (failing (text_fact (before, placed at text))) (first_failing (facts_behind (Some (placed at text)) rest)))
          ∙ ap (λ (x : Fact). earlier (earlier now (failing x)) (first_failing (facts_behind (Some (placed at text)) rest))) one;
      counted = omega (arith, counted);
    }

pub texts_on : (all : Fields) (start now : Option FileBreak) (count : ℕ) (text : List ℕ) (s behind : Standing) (f : Field) → TextsLeft all start now count text s
    → ((fields : Fields) → left_in s ≡ Ok fields → IsNext s behind f fields)
    → TextsLeft all start (earlier now (failing (fact f.at BadText (is_text_behind text (slice_range s.window.bytes f.from f.to))))) (count + 1) (slice_range s.window.bytes f.from f.to) behind
texts_on all start now count text s behind f l next =
    subst (λ (t : List ℕ). TextsLeft all start (earlier now (failing (fact f.at BadText (is_text_behind t (slice_range s.window.bytes f.from f.to))))) (count + 1) (slice_range s.window.bytes f.from f.to) behind) l.seen
    (texts_step all start now count l.before l.rest s behind f l.are l.asked l.counted (next l.rest l.left))

pub texts_all : (all : Fields) (start now : Option FileBreak) (count : ℕ) (text : List ℕ) (s : Standing) → TextsLeft all start now count text s
    → ((fields : Fields) → left_in s ≡ Ok fields → fields ≡ ends) → (now ≡ earlier start (first_failing (facts_behind None all))) × (count ≡ length (texts_in all))
texts_all all start now count text s l last =
    let none : l.rest ≡ ends = last l.rest l.left in
    let nothing : length (texts_in l.rest) ≡ 0 = ap (λ (r : Fields). length (texts_in r)) none in
    (sym (l.asked ∙ ap (λ (r : Fields). earlier now (first_failing (facts_behind l.before r))) none ∙ earlier_none now), omega (arith, l.counted, nothing))
