-- Records of a block, one after another.
use Rattle.std.proofs.Common.{◌≡◌, ℕ, ◌+◌, Bool, true, false, List, [], ◌∷◌, ◌++◌, length, flat_map, Option, Some, None, Ok, refl, sym, ap, subst, ◌∙◌, arith}
use Rattle.std.specs.Prelude.{◌&&◌}
use Rattle.std.specs.List.{list_all}
use Rattle.std.specs.Option.{option_map}
use Rattle.live_model.specs.declared.points.Rect.{Rect}
use Rattle.obf_wire.specs.declared.field.Field.{Field}
use Rattle.obf_wire.specs.declared.file.FileBreak.{FileBreak}
use Rattle.obf_wire.specs.declared.file.FileKind.{FileKind}
use Rattle.obf_wire.specs.Fields.{Window}
use Rattle.coord_delta.specs.Steps.{Place}
use Rattle.file_grammar.specs.declared.parts.Boxed.{Boxed}
use Rattle.file_grammar.specs.declared.parts.Content.{Content}
use Rattle.file_grammar.specs.declared.parts.Content.TheVariants.{Message}
use Rattle.file_grammar.specs.declared.parts.Part.{Part}
use Rattle.file_grammar.specs.declared.parts.Part.TheVariants.{Block as BlockPart, Record, Texts}
use Rattle.file_grammar.specs.BoxRules.{Beside, Boxing, holds_place, with_before}
use Rattle.file_grammar.specs.Facts.{Fact, fact, earlier, failing, first_failing}
use Rattle.file_grammar.specs.Messages.{Fields, ends, has_number, has_bytes, has_numbers, has_message}
use Rattle.file_grammar.specs.Readings.{message_at, payload_of}
use Rattle.file_grammar.specs.Sections.{Block, Entry, entries_from, messages_in, step_of}
use Rattle.file_grammar.specs.Tables.{content_of}
use Rattle.file_grammar.specs.Walks.{Standing, left_in, IsNext, HoldsMessage}
use Rattle.file_grammar.proofs.Earlier.{and_before, and_last, and_more, earlier_joined, earlier_none, first_joined}
use Rattle.file_grammar.proofs.Shaped.{AreMessages, BeginsMessage, are_messages, begins_message, shaped}
use Rattle.boxed_exact.specs.declared.block_texts.BlockTexts.{BlockTexts}
use Rattle.boxed_exact.specs.declared.blocks.BlockSeen.{BlockSeen}
use Rattle.boxed_exact.specs.Texts.{AreTexts}
use Rattle.boxed_exact.specs.Fields.{HoldsInner}
use Rattle.boxed_exact.specs.Records.{AreRecords, AreRecordsChecked, IsRecordChecked}

pub asked_is : (start new : Option FileBreak) (at : ℕ) (kind : FileKind) (a b : Bool) → new ≡ earlier start (failing (fact at kind a)) → a ≡ b → new ≡ earlier start (failing (fact at kind b))
asked_is start new at kind a b e same = e ∙ ap (λ (holds : Bool). earlier start (failing (fact at kind holds))) same

and_joined : (a b c : Bool) → (a && (b && c)) ≡ ((a && b) && c)
and_joined true b c = refl
and_joined false b c = refl

and_all : (b : Bool) → (b && true) ≡ b
and_all true = refl
and_all false = refl

all_joined : (p : Place → Bool) (xs ys : List Place) → list_all p (xs ++ ys) ≡ (list_all p xs && list_all p ys)
all_joined p [] ys = refl
all_joined p (x ∷ xs) ys = ap (λ (b : Bool). p x && b) (all_joined p xs ys) ∙ and_joined (p x) (list_all p xs) (list_all p ys)

abbrev holds : Content → Option Content
holds content = Some content

record_part : (class : Boxed) (part : Part) → content_of (BlockPart class) 18 ≡ holds (Message part) → Record class ≡ part
record_part class part e = cc

-- the message of a record, where one is held
pub held_record : (class : Boxed) (s : Standing) (f : Field) (inner : Fields) → s.part ≡ BlockPart class → f.key ≡ 18 → HoldsMessage s f inner → message_at (Record class) (payload_of s.window.bytes f) ≡ Ok inner
held_record class s f inner is key h =
    let c : content_of (BlockPart class) 18 ≡ holds (Message h.part) = subst (λ (p : Part). content_of p 18 ≡ holds (Message h.part)) is (subst (λ (k : ℕ). content_of s.part k ≡ holds (Message h.part)) key h.content) in
    subst (λ (p : Part). message_at p (payload_of s.window.bytes f) ≡ Ok inner) (sym (record_part class h.part c)) h.read

module _ {K : Type 0} (class : Boxed) (boxing : Boxing) (key_of : Entry → K) (beside : Beside) (holder : Rect) (block : Block) where
  abbrev facts_behind : Option Entry → List Entry → List Fact
  facts_behind prev entries = flat_map (boxing.facts beside block) (with_before prev entries)

  abbrev all_in : List Entry → Bool
  all_in entries = list_all (holds_place holder) (flat_map boxing.points entries)

  -- behind some of the records
  pub record RecordsLeft (all : Fields) (start now : Option FileBreak) (ordinal : ℕ) (before : Option K) (seen : BlockSeen) (s : Standing) : Type 0 where
    pub prev : Option Entry
    pub rest : Fields
    pub left : left_in s ≡ Ok rest
    pub are : AreRecords rest
    pub key : option_map key_of prev ≡ before
    pub asked : earlier start (first_failing (facts_behind None (entries_from 0 (messages_in all)))) ≡ earlier now (first_failing (facts_behind prev (entries_from ordinal (messages_in rest))))
    pub count : length (entries_from 0 (messages_in all)) ≡ seen.count + length (entries_from ordinal (messages_in rest))
    pub in_box : all_in (entries_from 0 (messages_in all)) ≡ (seen.in_box && all_in (entries_from ordinal (messages_in rest)))

  pub records_begin : (all : Fields) (start : Option FileBreak) (s : Standing) → left_in s ≡ Ok all → AreRecords all → RecordsLeft all start start 0 None (record { count = 0; in_box = true }) s
  records_begin all start s left are = record { prev = None; rest = all; left = left; are = are; key = refl; asked = refl; count = omega arith; in_box = refl }

  -- a record was checked, and the others are left
  records_step : (all : Fields) (start now new : Option FileBreak) (ordinal next : ℕ) (key : K) (seen : BlockSeen) (more : Bool) (s behind : Standing) (f : Field)
      (prev : Option Entry) (rest : Fields) → AreRecords rest
      → earlier start (first_failing (facts_behind None (entries_from 0 (messages_in all)))) ≡ earlier now (first_failing (facts_behind prev (entries_from ordinal (messages_in rest))))
      → length (entries_from 0 (messages_in all)) ≡ seen.count + length (entries_from ordinal (messages_in rest))
      → all_in (entries_from 0 (messages_in all)) ≡ (seen.in_box && all_in (entries_from ordinal (messages_in rest)))
      → s.part ≡ BlockPart class → IsNext s behind f rest
      → ((fields : Fields) → message_at (Record class) (payload_of s.window.bytes f) ≡ Ok fields → IsRecordChecked boxing key_of beside holder block prev (record { at = f.at; ordinal = ordinal + step_of fields; fields = fields }) now new next key more)
      → RecordsLeft all start new next (Some key) (record { count = seen.count + 1; in_box = seen.in_box && more }) behind
  records_step all start now new ordinal next key seen more s behind f prev ends are asked count boxed is n see = absurd n
  records_step all start now new ordinal next key seen more s behind f prev (has_number a k v rest) are asked count boxed is n see = absurd are
  records_step all start now new ordinal next key seen more s behind f prev (has_bytes a k v rest) are asked count boxed is n see = absurd are
  records_step all start now new ordinal next key seen more s behind f prev (has_numbers a k v rest) are asked count boxed is n see = absurd are
  records_step all start now new ordinal next key seen more s behind f prev (has_message at k inner rest) are asked count boxed is n see =
      let made : ℕ → Entry = λ at. record { at = at; ordinal = ordinal + step_of inner; fields = inner } in
      let here : Entry = made at in
      let at_field = see inner (held_record class s f inner is (n.1 ∙ are.0) n.2) in
      let a : IsRecordChecked boxing key_of beside holder block prev here now new next key more = subst (λ (p : ℕ). IsRecordChecked boxing key_of beside holder block prev (made p) now new next key more) n.0 at_field in
      let others : ℕ → List Entry = λ ordinal. entries_from ordinal (messages_in rest) in
      let same : here.ordinal ≡ next = sym a.ordinal_is in
      let later : List Fact = facts_behind (Some here) (others here.ordinal) in
      record {
        prev = Some here;
        rest = rest;
        left = n.3;
        are = are.1;
        key = ap (λ (k : K). Some k) (sym a.key_is);
        asked =
            asked ∙ ap (earlier now) (first_joined (boxing.facts beside block (prev, here)) later)
            ∙ sym (earlier_joined now (first_failing (boxing.facts beside block (prev, here))) (first_failing later))
            ∙ ap (λ (x : Option FileBreak). earlier x (first_failing later)) (sym a.asked)
            ∙ ap (λ (o : ℕ). earlier new (first_failing (facts_behind (Some here) (others o)))) same;
        count = let c : length (others here.ordinal) ≡ length (others next) = ap (λ (o : ℕ). length (others o)) same in omega (arith, count, c);
        in_box =
            boxed ∙ ap (λ (b : Bool). seen.in_box && b) (all_joined (holds_place holder) (boxing.points here) (flat_map boxing.points (others here.ordinal)))
            ∙ and_joined seen.in_box (list_all (holds_place holder) (boxing.points here)) (all_in (others here.ordinal))
            ∙ ap (λ (b : Bool). (seen.in_box && b) && all_in (others here.ordinal)) (sym a.in_box_is)
            ∙ ap (λ (o : ℕ). (seen.in_box && more) && all_in (others o)) same;
      }

  pub records_on : (all : Fields) (start now new : Option FileBreak) (ordinal next : ℕ) (texts : BlockTexts) (before : Option K) (key : K) (seen : BlockSeen) (more : Bool) (s behind : Standing) (f : Field)
      → RecordsLeft all start now ordinal before seen s → s.part ≡ BlockPart class → ((fields : Fields) → left_in s ≡ Ok fields → IsNext s behind f fields) → AreTexts texts block.texts
      → ((fields : Fields) (block : Block) (prev : Option Entry) → message_at (Record class) (payload_of s.window.bytes f) ≡ Ok fields → AreTexts texts block.texts → option_map key_of prev ≡ before
      → IsRecordChecked boxing key_of beside holder block prev (record { at = f.at; ordinal = ordinal + step_of fields; fields = fields }) now new next key more)
      → RecordsLeft all start new next (Some key) (record { count = seen.count + 1; in_box = seen.in_box && more }) behind
  records_on all start now new ordinal next texts before key seen more s behind f l is next_is is_texts see =
      records_step all start now new ordinal next key seen more s behind f l.prev l.rest l.are l.asked l.count l.in_box is (next_is l.rest l.left) (λ fields e. see fields block l.prev e is_texts l.key)

  pub records_all : (all : Fields) (start now : Option FileBreak) (ordinal : ℕ) (before : Option K) (seen : BlockSeen) (s : Standing)
      → RecordsLeft all start now ordinal before seen s → ((fields : Fields) → left_in s ≡ Ok fields → fields ≡ ends) → AreRecordsChecked boxing beside holder block all start now seen
  records_all all start now ordinal before seen s l last =
      let none : l.rest ≡ ends = last l.rest l.left in
      let left : Fields → List Entry = λ rest. entries_from ordinal (messages_in rest) in
      record {
        asked = sym (l.asked ∙ ap (λ (r : Fields). earlier now (first_failing (facts_behind l.prev (left r)))) none ∙ earlier_none now);
        count = let c : length (left l.rest) ≡ 0 = ap (λ (r : Fields). length (left r)) none in omega (arith, c, l.count);
        in_box = sym (l.in_box ∙ ap (λ (r : Fields). seen.in_box && all_in (left r)) none ∙ and_all seen.in_box);
      }

-- ---- a whole block

are_records : (class : Boxed) (fields : Fields) → AreMessages 18 (Record class) fields → AreRecords fields
are_records class ends a = tt
are_records class (has_number at key value rest) a = a
are_records class (has_bytes at key text rest) a = a
are_records class (has_numbers at key values rest) a = a
are_records class (has_message at key inner rest) a = (a.0, are_records class rest a.2)

pub record IsBlockOf (fields : Fields) : Type 0 where
  pub at : ℕ
  pub texts : Fields
  pub records : Fields
  pub is : fields ≡ has_message at 14 texts records
  pub are : AreRecords records

pub block_of : (class : Boxed) (w : Window) (fields : Fields) → message_at (BlockPart class) w ≡ Ok fields → IsBlockOf fields
block_of class w fields e =
    let b : BeginsMessage (BlockPart class) 14 Texts fields = begins_message (BlockPart class) None 14 Texts fields refl refl refl (shaped (BlockPart class) w fields e) in
    record { at = b.at; texts = b.inner; records = b.rest; is = b.is; are = are_records class b.rest (are_messages (BlockPart class) (Some 14) 18 (Record class) b.rest refl refl refl b.shaped) }

texts_part : (class : Boxed) (part : Part) → content_of (BlockPart class) 14 ≡ holds (Message part) → Texts ≡ part
texts_part class part e = cc

pub held_texts : (class : Boxed) (s : Standing) (from to : ℕ) (inner : Fields) → s.part ≡ BlockPart class → HoldsInner s from to 14 inner → message_at Texts (record { bytes = s.window.bytes; place = from; end = to }) ≡ Ok inner
held_texts class s from to inner is h =
    let c : content_of (BlockPart class) 14 ≡ holds (Message h.part) = subst (λ (p : Part). content_of p 14 ≡ holds (Message h.part)) is h.content in
    subst (λ (p : Part). message_at p (record { bytes = s.window.bytes; place = from; end = to }) ≡ Ok inner) (sym (texts_part class h.part c)) h.read

pub block_asked : (old x r new : Option FileBreak) (count : Fact) (texts entries : List Fact) → x ≡ earlier old (first_failing texts) → r ≡ earlier x (first_failing entries) → new ≡ earlier r (failing count)
    → new ≡ earlier old (first_failing ((count ∷ texts) ++ entries))
block_asked old x r new count texts entries one two three =
    and_before old r new (count ∷ []) (texts ++ entries) (and_more old x r texts entries one two) (and_last r new count three)
