-- One record of a block, and those after it.
use Rattle.std.proofs.Common.{◌≡◌, ℕ, ◌+◌, ◌/◌, ◌%◌, ◌^◌, ◌<◌, true, List, [], ◌∷◌, map, Some, None, Result, Ok, refl, sym, ap, subst, ◌∙◌, arith}
use Rattle.std.specs.Prelude.{flat_map, nat_le}
use Rattle.std.proofs.lemmas.Bool.{and_parts, leb-true}
use Rattle.live_model.specs.Ids.{Id}
use Rattle.obf_wire.specs.declared.field.Field.{Field}
use Rattle.obf_wire.specs.declared.file.FileBreak.{FileBreak}
use Rattle.obf_wire.specs.Fields.{IsWindow, Window, part_of}
use Rattle.file_grammar.specs.declared.parts.Boxed.{Boxed}
use Rattle.file_grammar.specs.declared.parts.Boxed.TheVariants.{Map, Poi, Road, Restriction}
use Rattle.file_grammar.specs.declared.parts.Part.TheVariants.{Record}
use Rattle.file_grammar.specs.BoxRules.{Boxing, is_ordinal, with_before}
use Rattle.file_grammar.specs.Facts.{AllHold, Fact}
use Rattle.file_grammar.specs.Listed.{Reading}
use Rattle.file_grammar.specs.Messages.{Fields, ends, has_number, has_bytes, has_numbers, has_message}
use Rattle.file_grammar.specs.Readings.{message_at}
use Rattle.file_grammar.specs.Sections.{Entry, entries_from, messages_in, step_of}
use Rattle.file_grammar.specs.Walks.{IsNext, Standing, left_in}
use Rattle.file_grammar.proofs.Shaped.{BeginsNumber, IsShaped, begins_number}
use Rattle.boxed_exact.specs.Records.{AreRecords}
use Rattle.boxed_exact.proofs.RecordWalk.{held_record}
use Rattle.boxed_laws.proofs.FittingRecords.{Holds, all_before, all_behind}
use Rattle.boxed_read.specs.Records.{IsReading, fields_read, only_fields, only_texts, record_at, records_left, texts_at}
use Rattle.boxed_read.specs.Sound.{AreSoundLeft, IsSoundRecord}

-- every record begins with a number
pub first_number : (class : Boxed) (fields : Fields) → IsShaped (Record class) None fields → BeginsNumber (Record class) 8 fields
first_number Map fields s = begins_number (Record Map) None 8 fields refl refl refl s
first_number Poi fields s = begins_number (Record Poi) None 8 fields refl refl refl s
first_number Road fields s = begins_number (Record Road) None 8 fields refl refl refl s
first_number Restriction fields s = begins_number (Record Restriction) None 8 fields refl refl refl s

-- an ordinal has 64 bits
pub small_ordinal : (n : ℕ) → is_ordinal n ≡ true → n < 2 ^ 64
small_ordinal n good =
    let kind = leb-true (n / 2 ^ 50) 2 (and_parts (nat_le (n / 2 ^ 50) 2) (nat_le (n % 2 ^ 50) (2 ^ 49)) good).0 in
    omega arith

module _ {A : Type 0} (class : Boxed) (boxing : Boxing) (reads : List ℕ → Reading A) (id_of : A → Id) (law : IsReading boxing reads id_of) (group : List ℕ) where
  -- a record of this step came, and the others are left
  pub record Stepped (texts w : Window) (before step : ℕ) (s behind : Standing) (f : Field) : Type 0 where
    pub fits : before + step < 2 ^ 64
    pub sound : IsSoundRecord class boxing texts w (before + step)
    pub later : AreSoundLeft class boxing texts (before + step) behind
    pub first : records_left class (reads group) texts before s ≡ record_at class (reads group) texts w (before + step) ∷ records_left class (reads group) texts (before + step) behind

  module _ (texts w : Window) (before step : ℕ) (s behind : Standing) (f : Field) (l : AreSoundLeft class boxing texts before s) (there : w ≡ part_of s.window.bytes f.from f.to)
      (step_is : (fields : Fields) → message_at (Record class) w ≡ Ok fields → step ≡ step_of fields)
      (part : behind.part ≡ s.part) (window : IsWindow behind.window) where
    stepped_by : (fields : Fields) → left_in s ≡ Ok fields → AreRecords fields → AllHold (flat_map (boxing.facts l.amid.beside l.amid.block) (with_before l.prev (entries_from before (messages_in fields)))) → IsNext s behind f fields
        → Stepped texts w before step s behind f
    stepped_by ends e are facts n = absurd n
    stepped_by (has_number a key value rest) e are facts n = absurd are
    stepped_by (has_bytes a key text rest) e are facts n = absurd are
    stepped_by (has_numbers a key values rest) e are facts n = absurd are
    stepped_by (has_message a key inner rest) e are facts n =
        let read : message_at (Record class) w ≡ Ok inner =
        subst (λ (w : Window). message_at (Record class) w ≡ Ok inner) (sym there) (held_record class s f inner l.part (n.1 ∙ are.0) n.2) in
        let ordinal : before + step ≡ before + step_of inner = ap (λ (k : ℕ). before + k) (step_is inner read) in
        let entry : Entry = record { at = a; ordinal = before + step_of inner; fields = inner } in
        let others : ℕ → List Entry = λ k. entries_from k (messages_in rest) in
        let more : ℕ → List Fact = λ k. flat_map (boxing.facts l.amid.beside l.amid.block) (with_before (Some entry) (others k)) in
        let here : List Fact = boxing.facts l.amid.beside l.amid.block (l.prev, entry) in
        let holds : AllHold here = all_before Holds here (more (before + step_of inner)) facts in
        let object : is_ordinal (before + step) ≡ true = subst (λ (k : ℕ). is_ordinal k ≡ true) (sym ordinal) (law.object l.amid.beside l.amid.block l.prev entry holds) in
        let shown : Entry → A = reads group (only_texts (texts_at texts)) in
        let stood : Result Fields FileBreak → List A = λ r. map shown (entries_from before (messages_in (fields_read r))) in
        let after : ℕ → Result Fields FileBreak → List A = λ k r. map shown (entries_from k (messages_in (fields_read r))) in
        let shown_as : ℕ → Result Fields FileBreak → A = λ k r. shown (only_fields k (fields_read r)) in
        record {
          fits = small_ordinal (before + step) object;
          sound = record { amid = l.amid; prev = l.prev; entry = entry; ordinal_is = sym ordinal; read = read; facts = holds };
          later = record {
            part = part ∙ l.part;
            window = window;
            amid = l.amid;
            prev = Some entry;
            fields = rest;
            left = n.3;
            are = are.1;
            facts = subst (λ (k : ℕ). AllHold (more k)) (sym ordinal) (all_behind Holds here (more (before + step_of inner)) facts);
          };
          first =
              ap stood e ∙ ap (λ (x : A). x ∷ map shown (others (before + step_of inner))) (law.plain group (only_texts (texts_at texts)) entry)
              ∙ ap (λ (k : ℕ). shown (only_fields k inner) ∷ map shown (others k)) (sym ordinal)
              ∙ ap (λ (r : Result Fields FileBreak). shown_as (before + step) r ∷ map shown (others (before + step))) (sym read)
              ∙ ap (λ (r : Result Fields FileBreak). record_at class (reads group) texts w (before + step) ∷ after (before + step) r) (sym n.3);
        }

    pub stepped : ((fields : Fields) → left_in s ≡ Ok fields → IsNext s behind f fields) → Stepped texts w before step s behind f
    stepped next = stepped_by l.fields l.left l.are l.facts (next l.fields l.left)

  -- where no field comes, no record is left
  pub none_left : (texts : Window) (before : ℕ) (s : Standing) → AreSoundLeft class boxing texts before s → ((fields : Fields) → left_in s ≡ Ok fields → fields ≡ ends) → records_left class (reads group) texts before s ≡ []
  none_left texts before s l none =
      let stood : Result Fields FileBreak → List A = λ r. map (reads group (only_texts (texts_at texts))) (entries_from before (messages_in (fields_read r))) in
      ap stood l.left ∙ ap (λ (fields : Fields). map (reads group (only_texts (texts_at texts))) (entries_from before (messages_in fields))) (none l.fields l.left)
