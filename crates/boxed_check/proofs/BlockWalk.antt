-- A block, its texts one after another, and its records.
use Rattle.std.proofs.Common.{◌≡◌, ℕ, ◌+◌, ◌≤◌, Bool, true, false, List, [], ◌∷◌, ◌++◌, length, map, flat_map, Option, Some, None, Result, Ok, refl, sym, ap, subst, arith}
use Rattle.std.specs.Prelude.{◌&&◌, ◌||◌, not, nat_le, nat_lt, slice_range}
use Rattle.std.specs.List.{list_all}
use Rattle.std.specs.Ordering.{is_lt}
use Rattle.std.specs.Str.{is_utf8}
use Rattle.std.proofs.lemmas.Bool.{le-leb, lt-ltb}
use Rattle.live_model.specs.declared.points.Rect.{Rect}
use Rattle.coord_delta.specs.Steps.{Place}
use Rattle.text_table.specs.Tables.{text_cmp}
use Rattle.obf_wire.specs.declared.field.Field.{Field}
use Rattle.obf_wire.specs.declared.file.FileBreak.{FileBreak}
use Rattle.obf_wire.specs.Fields.{Window, IsWindow}
use Rattle.file_grammar.specs.declared.parts.Boxed.{Boxed}
use Rattle.file_grammar.specs.declared.parts.Part.TheVariants.{Block as BlockPart, Record, Texts}
use Rattle.file_grammar.specs.BoxRules.{Beside, Boxing, follows, holds_place, text_fact, texts_rise, with_before}
use Rattle.file_grammar.specs.Facts.{AllHold, Fact}
use Rattle.file_grammar.specs.Messages.{Fields, ends, has_bytes, has_message}
use Rattle.file_grammar.specs.Readings.{message_at, message_from}
use Rattle.file_grammar.specs.Sections.{Block, Entry, Placed, placed, texts_in}
use Rattle.boxed_check.specs.Blocks.{AreRecordsSeen, AreTextsSeen, IsGoodBlock, IsTextBehind, RecordsLeft, TextsLeft, entries_left, text_before}
use Rattle.obf_wire.specs.KnownKeys.{StandsFirst}
use Rattle.obf_wire.specs.Windows.{range_of}
use Rattle.boxed_exact.specs.declared.block_texts.BlockTexts.{BlockTexts}
use Rattle.boxed_exact.specs.Texts.{AreTexts}
use Rattle.boxed_exact.specs.Records.{IsGoodRecord, entry_of}
use Rattle.file_grammar.proofs.Built.{bytes_before, ends_there, message_before}

abbrev at_place : Window → ℕ → Window
at_place w next = record w { place = next }

abbrev fields_ok : Fields → Result Fields FileBreak
fields_ok x = Ok x

-- ---- lists of facts

pub all_append : (a b : List Fact) → AllHold a → AllHold b → AllHold (a ++ b)
all_append [] b p q = q
all_append (f ∷ a) b p q = (p.0, all_append a b p.1 q)

pub places_append : (p : Place → Bool) (a b : List Place) → list_all p a ≡ true → list_all p b ≡ true → list_all p (a ++ b) ≡ true
places_append p [] b h k = k
places_append p (x ∷ a) b h k = head_tail (p x) (list_all p a) (list_all p (a ++ b)) h (λ rest. places_append p a b rest k) where
  head_tail : (x y z : Bool) → (x && y) ≡ true → (y ≡ true → z ≡ true) → (x && z) ≡ true
  head_tail true y z h f = f h
  head_tail false y z h f = absurd cc

-- ---- texts

texts_again : (w : Window) (fields : Fields) → message_from Texts (Some 10) w ≡ fields_ok fields → message_at Texts w ≡ fields_ok fields
unfolding message_from
texts_again w fields e = e

pub texts_end : (w : Window) (before : List ℕ) (count : ℕ) → IsWindow w → w.end ≤ w.place → TextsLeft w before count count
texts_end w before count window none = record { fields = ends; read = ends_there Texts (Some 10) w window none refl; facts = λ prev is. tt; count_is = omega arith }

not_empty : (a t : List ℕ) → is_lt (text_cmp a t) ≡ true → nat_lt 0 (length t) ≡ true
not_empty [] [] h = absurd cc
not_empty (x ∷ a) [] h = absurd cc
not_empty [] (x ∷ t) h = lt-ltb 0 (length (x ∷ t)) (omega arith)
not_empty (y ∷ a) (x ∷ t) h = lt-ltb 0 (length (x ∷ t)) (omega arith)

either : (a b : Bool) → a ≡ true → (a || b) ≡ true
either a b p = rw p refl

both : (a b : Bool) → a ≡ true → b ≡ true → (a && b) ≡ true
both a b p q = rw (p, q) refl

text_follows : (prev : Option (Placed (List ℕ))) (t : Placed (List ℕ)) → is_lt (text_cmp (text_before prev) t.value) ≡ true → follows texts_rise (prev, t) ≡ true
text_follows None t h = refl
text_follows (Some a) t h = either (is_lt (text_cmp a.value t.value)) (not (is_utf8 a.value && is_utf8 t.value)) h

pub texts_on : (w : Window) (before : List ℕ) (f : Field) (count total : ℕ) → IsWindow w → StandsFirst w 10 f → IsTextBehind before (slice_range w.bytes f.from f.to)
    → TextsLeft (at_place w f.to) (slice_range w.bytes f.from f.to) (count + 1) total → TextsLeft w before count total
texts_on w before f count total window read behind l =
    let text : List ℕ = slice_range w.bytes f.from f.to in
    record {
      fields = has_bytes f.at 10 text l.fields;
      read = bytes_before Texts (Some 10) w 10 f l.fields window refl refl read l.read;
      facts = λ prev is. (
        both _ _ (both _ _ behind.utf8 (not_empty before text behind.rises)) (text_follows prev (placed f.at text) (subst (λ (b : List ℕ). is_lt (text_cmp b text) ≡ true) (sym is) behind.rises)),
        l.facts (Some (placed f.at text)) refl,
      );
      count_is = omega (arith, l.count_is);
    }

-- ---- records

module _ {K : Type 0} (class : Boxed) (boxing : Boxing) (key_of : Entry → K) (beside : Beside) (holder : Rect) where
  pub records_end : (w : Window) (texts : BlockTexts) (ordinal : ℕ) (before : Option K) (count : ℕ) → IsWindow w → w.end ≤ w.place → RecordsLeft class boxing key_of beside holder w texts ordinal before count count
  records_end w texts ordinal before count window none = record { fields = ends; read = ends_there (BlockPart class) (Some 18) w window none refl; facts = λ block prev is_texts is. tt; points = refl; count_is = omega arith }

  pub records_on : (w : Window) (texts : BlockTexts) (ordinal : ℕ) (before : Option K) (f : Field) (next : ℕ) (key : K) (count total : ℕ) → IsWindow w → StandsFirst w 18 f
      → IsGoodRecord class boxing key_of beside holder before texts ordinal f.at (record { bytes = w.bytes; place = f.from; end = f.to }) next key
      → RecordsLeft class boxing key_of beside holder (at_place w f.to) texts next (Some key) (count + 1) total → RecordsLeft class boxing key_of beside holder w texts ordinal before count total
  records_on w texts ordinal before f next key count total window read g left =
      let here : Entry = entry_of ordinal f.at g.fields in
      let l = subst (λ (o : ℕ). RecordsLeft class boxing key_of beside holder (at_place w f.to) texts o (Some key) (count + 1) total) g.ordinal_is left in
      record {
        fields = has_message f.at 18 g.fields l.fields;
        read = message_before (BlockPart class) (Some 18) w 18 (Record class) f g.fields l.fields window refl refl read g.read l.read;
        facts = λ block prev is_texts is.
            all_append (boxing.facts beside block (prev, here)) (flat_map (boxing.facts beside block) (with_before (Some here) (entries_left here.ordinal l.fields)))
            (g.facts block prev is_texts is) (l.facts block (Some here) is_texts (ap (λ (k : K). Some k) (sym g.key_is)));
        points = places_append (holds_place holder) (boxing.points here) (flat_map boxing.points (entries_left here.ordinal l.fields)) g.points l.points;
        count_is = omega (arith, l.count_is);
      }

  records_again : (w : Window) (fields : Fields) → message_from (BlockPart class) (Some 18) w ≡ fields_ok fields → message_from (BlockPart class) (Some 14) w ≡ fields_ok fields
  unfolding message_from
  records_again w fields e = e

  pub block_is : (w : Window) (at : ℕ) (f : Field) (texts : BlockTexts) (count : ℕ) → IsWindow w → StandsFirst w 14 f → range_of texts.window ≡ record { bytes = w.bytes; place = f.from; end = f.to } → AreTextsSeen (range_of texts.window) texts.count
      → AreRecordsSeen class boxing key_of beside holder (at_place w f.to) texts count → 1 ≤ count → count ≤ 64 → IsGoodBlock class boxing beside holder w at count
  block_is w at f texts count window read is t r some few =
      let block : Block = record { at = at; texts = texts_in t.fields; entries = entries_left 0 r.fields } in
      let counted : length block.entries ≡ count = omega (arith, r.count_is) in
      let there = texts_again (range_of texts.window) t.fields t.read in
      let held : AreTexts texts block.texts = record { fields = t.fields; read = there; are = refl; count = omega (arith, t.count_is) } in
      record {
        fields = has_message f.at 14 t.fields r.fields;
        read = message_before (BlockPart class) None w 14 Texts f t.fields r.fields window refl refl read (subst (λ (v : Window). message_at Texts v ≡ fields_ok t.fields) is there) (records_again (at_place w f.to) r.fields r.read);
        block = block;
        is = refl;
        at_is = refl;
        facts = (
          both (nat_le 1 (length block.entries)) (nat_le (length block.entries) 64) (le-leb 1 (length block.entries) (omega (arith, counted, some))) (le-leb (length block.entries) 64 (omega (arith, counted, few))),
          all_append (map text_fact (with_before None block.texts)) (flat_map (boxing.facts beside block) (with_before None block.entries)) (t.facts None refl) (r.facts block None held refl),
        );
        points = r.points;
        count_is = counted;
      }
