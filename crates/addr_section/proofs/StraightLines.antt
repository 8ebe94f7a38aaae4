-- Addresses and entries, field by field in a straight line.
use Rattle.std.proofs.Common.{◌≡◌, ℕ, true, List, Option, Some, None, Result, Ok, refl, sym, ap, subst, ◌∙◌, arith}
use Rattle.std.specs.Prelude.{slice_range}
use Rattle.live_model.specs.declared.points.Rect.{Rect}
use Rattle.obf_wire.specs.declared.field.Field.{Field}
use Rattle.obf_wire.specs.declared.file.FileBreak.{FileBreak}
use Rattle.obf_wire.specs.Fields.{Window, IsWindow, part_of}
use Rattle.obf_wire.specs.KnownKeys.{IsInside, StandsFirst}
use Rattle.file_grammar.specs.declared.parts.Group.TheVariants.{Pair}
use Rattle.file_grammar.specs.declared.parts.Part.TheVariants.{Address as AddressPart, KeyEntry as EntryPart}
use Rattle.file_grammar.specs.declared.parts.Version.{Version}
use Rattle.file_grammar.specs.declared.parts.Version.TheVariants.{One, Two}
use Rattle.file_grammar.specs.AddressRules.{KeyEntry}
use Rattle.file_grammar.specs.Messages.{Fields, ends, has_bytes, has_number, has_numbers}
use Rattle.file_grammar.specs.Readings.{message_at, message_from}
use Rattle.file_grammar.specs.Sections.{Placed, placed}
use Rattle.file_grammar.proofs.Built.{bytes_before, ends_there, number_before, numbers_before}
use Rattle.boxed_check.specs.Points.{ArePointsSeen}
use Rattle.addr_section.specs.declared.addresses.AddressSeen.{AddressSeen}
use Rattle.addr_section.specs.declared.addresses.TextSeen.{TextSeen}
use Rattle.addr_section.specs.declared.kept.EntryKept.{EntryKept}
use Rattle.addr_section.specs.Kept.{IsEntryKept}
use Rattle.addr_section.specs.Straight.{IsAddressRead, IsEntryRead, IsLangRead}
use Rattle.addr_section.proofs.AddressShape.{IsAddressMessage, address_read}

abbrev pub at_place : Window → ℕ → Window
at_place w next = record w { place = next }

abbrev fields_ok : Fields → Result Fields FileBreak
fields_ok x = Ok x

pub window_behind : (w : Window) (f : Field) → IsWindow w → IsInside w f → IsWindow (at_place w f.to)
window_behind w f window i = record { ordered = i.ends; within = window.within }

payload_is : (w : Window) (f : Field) → IsWindow w → IsInside w f → IsWindow (part_of w.bytes f.from f.to)
payload_is w f window i = record { ordered = i.ordered; within = omega (arith, i.ends, window.within) }

-- ---- the language

pub no_lang_read : (w : Window) → IsWindow w → w.place ≡ w.end → IsLangRead One w None
no_lang_read w window none = record { rest = ends; read = ends_there (AddressPart One) (Some 50) w window (omega (arith, none)) refl; is = refl; may = tt }

abbrev a_lang : ℕ → List ℕ → Option (Placed (List ℕ))
a_lang at text = Some (placed at text)

pub lang_read : (w : Window) (f : Field) (lang : TextSeen) → IsWindow w → StandsFirst w 58 f → f.to ≡ w.end → lang.at ≡ f.at → lang.text.now ≡ slice_range w.bytes f.from f.to → IsLangRead Two w (Some lang)
lang_read w f lang window stands end at text = record {
  rest = has_bytes f.at 58 (slice_range w.bytes f.from f.to) ends;
  read = bytes_before (AddressPart Two) (Some 50) w 58 f ends window refl refl stands (ends_there (AddressPart Two) (Some 58) (at_place w f.to) (window_behind w f window stands.inside) (omega (arith, end)) refl);
  is = ap (λ (a : ℕ). a_lang a lang.text.now) at ∙ ap (a_lang f.at) text;
  may = tt;
}

-- ---- an address

abbrev message : Field → Field → Field → Field → Field → Field → Window → List ℕ → Fields → Fields
message a b c d e f w points rest =
    has_number a.at 8 a.value (has_number b.at 16 b.value (has_bytes c.at 26 (slice_range w.bytes c.from c.to) (has_bytes d.at 34 (slice_range w.bytes d.from d.to) (has_bytes e.at 42 (slice_range w.bytes e.from e.to) (has_numbers f.at 50 points rest)))))

first_read : (w : Window) (a b c d e f : Field) (points : List ℕ) (rest : Fields) → IsWindow w → StandsFirst w 8 a → StandsFirst (at_place w a.to) 16 b → StandsFirst (at_place w b.to) 26 c → StandsFirst (at_place w c.to) 34 d → StandsFirst (at_place w d.to) 42 e → StandsFirst (at_place w e.to) 50 f
    → ((v : Window) → v ≡ at_place w e.to → message_from (AddressPart One) (Some 42) v ≡ fields_ok (has_numbers f.at 50 points rest)) → message_at (AddressPart One) w ≡ fields_ok (message a b c d e f w points rest)
first_read w a b c d e f points rest window sa sb sc sd se sf tail =
    let wa = window_behind w a window sa.inside in
    let wb = window_behind (at_place w a.to) b wa sb.inside in
    let wc = window_behind (at_place w b.to) c wb sc.inside in
    let wd = window_behind (at_place w c.to) d wc sd.inside in
    number_before (AddressPart One) None w 8 a _ window refl refl sa (number_before (AddressPart One) (Some 8) (at_place w a.to) 16 b _ wa refl refl sb
    (bytes_before (AddressPart One) (Some 16) (at_place w b.to) 26 c _ wb refl refl sc (bytes_before (AddressPart One) (Some 26) (at_place w c.to) 34 d _ wc refl refl sd
    (bytes_before (AddressPart One) (Some 34) (at_place w d.to) 42 e _ wd refl refl se (tail (at_place w e.to) refl)))))

second_read : (w : Window) (a b c d e f : Field) (points : List ℕ) (rest : Fields) → IsWindow w → StandsFirst w 8 a → StandsFirst (at_place w a.to) 16 b → StandsFirst (at_place w b.to) 26 c → StandsFirst (at_place w c.to) 34 d → StandsFirst (at_place w d.to) 42 e → StandsFirst (at_place w e.to) 50 f
    → ((v : Window) → v ≡ at_place w e.to → message_from (AddressPart Two) (Some 42) v ≡ fields_ok (has_numbers f.at 50 points rest)) → message_at (AddressPart Two) w ≡ fields_ok (message a b c d e f w points rest)
second_read w a b c d e f points rest window sa sb sc sd se sf tail =
    let wa = window_behind w a window sa.inside in
    let wb = window_behind (at_place w a.to) b wa sb.inside in
    let wc = window_behind (at_place w b.to) c wb sc.inside in
    let wd = window_behind (at_place w c.to) d wc sd.inside in
    number_before (AddressPart Two) None w 8 a _ window refl refl sa (number_before (AddressPart Two) (Some 8) (at_place w a.to) 16 b _ wa refl refl sb
    (bytes_before (AddressPart Two) (Some 16) (at_place w b.to) 26 c _ wb refl refl sc (bytes_before (AddressPart Two) (Some 26) (at_place w c.to) 34 d _ wc refl refl sd
    (bytes_before (AddressPart Two) (Some 34) (at_place w d.to) 42 e _ wd refl refl se (tail (at_place w e.to) refl)))))

-- the points, and what is left
points_then : (version : Version) (w : Window) (e f : Field) (holder : Rect) (count : ℕ) (rest : Fields) → IsWindow (at_place w e.to) → StandsFirst (at_place w e.to) 50 f → (p : ArePointsSeen (part_of w.bytes f.from f.to) holder count)
    → message_from (AddressPart version) (Some 50) (at_place w f.to) ≡ fields_ok rest → message_from (AddressPart version) (Some 42) (at_place w e.to) ≡ fields_ok (has_numbers f.at 50 p.numbers rest)
points_then One w e f holder count rest window sf p others = numbers_before (AddressPart One) (Some 42) (at_place w e.to) 50 Pair f p.numbers rest window refl refl sf p.read p.pairs others
points_then Two w e f holder count rest window sf p others = numbers_before (AddressPart Two) (Some 42) (at_place w e.to) 50 Pair f p.numbers rest window refl refl sf p.read p.pairs others

whole_read : (version : Version) (w : Window) (a b c d e f : Field) (points : List ℕ) (rest : Fields) → IsWindow w → StandsFirst w 8 a → StandsFirst (at_place w a.to) 16 b → StandsFirst (at_place w b.to) 26 c → StandsFirst (at_place w c.to) 34 d → StandsFirst (at_place w d.to) 42 e → StandsFirst (at_place w e.to) 50 f
    → message_from (AddressPart version) (Some 42) (at_place w e.to) ≡ fields_ok (has_numbers f.at 50 points rest) → message_at (AddressPart version) w ≡ fields_ok (message a b c d e f w points rest)
whole_read One w a b c d e f points rest window sa sb sc sd se sf tail = first_read w a b c d e f points rest window sa sb sc sd se sf (λ v is. ap (message_from (AddressPart One) (Some 42)) is ∙ tail)
whole_read Two w a b c d e f points rest window sa sb sc sd se sf tail = second_read w a b c d e f points rest window sa sb sc sd se sf (λ v is. ap (message_from (AddressPart Two) (Some 42)) is ∙ tail)

-- a text as it was seen
abbrev IsText : Window → TextSeen → Field → Type 0
IsText w t f = (t.at ≡ f.at) × (t.text.now ≡ slice_range w.bytes f.from f.to)

pub address_is : (version : Version) (w : Window) (a b c d e f : Field) (holder : Rect) (count at : ℕ) (s : AddressSeen) → IsWindow w → StandsFirst w 8 a → StandsFirst (at_place w a.to) 16 b → StandsFirst (at_place w b.to) 26 c → StandsFirst (at_place w c.to) 34 d → StandsFirst (at_place w d.to) 42 e → StandsFirst (at_place w e.to) 50 f
    → ArePointsSeen (part_of w.bytes f.from f.to) holder count → IsLangRead version (at_place w f.to) s.lang → s.at ≡ at → (s.ordinal.at ≡ a.at) × (s.ordinal.value ≡ a.value) → (s.kind.at ≡ b.at) × (s.kind.value ≡ b.value)
    → IsText w s.key c → IsText w s.name d → IsText w s.number e → s.points_at ≡ f.at → s.points.count ≡ count → s.points.on_grid ≡ true → IsAddressRead version w at s
address_is version w a b c d e f holder count at s window sa sb sc sd se sf p l at_is o k y n u place counted grid =
    let wa = window_behind w a window sa.inside in
    let wb = window_behind (at_place w a.to) b wa sb.inside in
    let wc = window_behind (at_place w b.to) c wb sc.inside in
    let wd = window_behind (at_place w c.to) d wc sd.inside in
    let we = window_behind (at_place w d.to) e wd se.inside in
    let fields : Fields = message a b c d e f w p.numbers l.rest in
    let m : IsAddressMessage fields = record {
      a = a.at;
      ordinal = a.value;
      b = b.at;
      kind = b.value;
      c = c.at;
      key = slice_range w.bytes c.from c.to;
      d = d.at;
      name = slice_range w.bytes d.from d.to;
      e = e.at;
      number = slice_range w.bytes e.from e.to;
      f = f.at;
      points = p.numbers;
      rest = l.rest;
      is = refl;
      lang = l.may;
    } in
    record {
      fields = fields;
      read = whole_read version w a b c d e f p.numbers l.rest window sa sb sc sd se sf (points_then version w e f holder count l.rest we sf p l.read);
      seen_is = address_read at fields m s at_is o k y n u place l.is (omega (arith, counted, p.count_is)) (grid ∙ sym p.on_grid);
    }

-- ---- an entry

pub entry_is : (w : Window) (a b c : Field) (at : ℕ) (kept : EntryKept) → IsWindow w → StandsFirst w 10 a → StandsFirst (at_place w a.to) 18 b → StandsFirst (at_place w b.to) 24 c → c.to ≡ w.end
    → kept ≡ record { at = at; first = record { at = a.at; from = a.from; to = a.to }; last = record { at = b.at; from = b.from; to = b.to }; place = record { at = c.at; value = c.value } } → IsEntryRead w at kept
entry_is w a b c at kept window sa sb sc end same =
    let wa = window_behind w a window sa.inside in
    let wb = window_behind (at_place w a.to) b wa sb.inside in
    let wc = window_behind (at_place w b.to) c wb sc.inside in
    let one = slice_range w.bytes a.from a.to in
    let two = slice_range w.bytes b.from b.to in
    let it : KeyEntry = record { at = at; first = placed a.at one; last = placed b.at two; place = placed c.at c.value } in
    record {
      fields = has_bytes a.at 10 one (has_bytes b.at 18 two (has_number c.at 24 c.value ends));
      entry = it;
      read = bytes_before EntryPart None w 10 a _ window refl refl sa (bytes_before EntryPart (Some 10) (at_place w a.to) 18 b _ wa refl refl sb
          (number_before EntryPart (Some 18) (at_place w b.to) 24 c ends wb refl refl sc (ends_there EntryPart (Some 24) (at_place w c.to) wc (omega (arith, end)) refl)));
      is = refl;
      kept_is = subst (λ (k : EntryKept). IsEntryKept w.bytes k it) (sym same)
          (record {
            at_is = refl;
            first = record { inside = payload_is w a window sa.inside; at_is = refl; is = refl };
            last = record { inside = payload_is (at_place w a.to) b wa sb.inside; at_is = refl; is = refl };
            place = record { at_is = refl; is = refl };
          });
    }
