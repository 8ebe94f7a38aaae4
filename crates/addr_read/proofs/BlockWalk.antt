-- The addresses of a block, one after another.
use Rattle.std.proofs.Common.{◌≡◌, ℕ, List, [], ◌∷◌, map, Option, Some, None, Result, Ok, refl, sym, ap, subst, ◌∙◌}
use Rattle.std.specs.List.{AllByRecursion}
use Rattle.live_model.specs.declared.addresses.AddrRec.{AddrRec}
use Rattle.obf_wire.specs.declared.field.Field.{Field}
use Rattle.obf_wire.specs.declared.file.FileBreak.{FileBreak}
use Rattle.obf_wire.specs.Fields.{IsWindow, Window, part_of}
use Rattle.file_grammar.specs.declared.parts.Content.{Content}
use Rattle.file_grammar.specs.declared.parts.Content.TheVariants.{Message}
use Rattle.file_grammar.specs.declared.parts.Part.{Part}
use Rattle.file_grammar.specs.declared.parts.Part.TheVariants.{Address as AddressPart, KeyedBlock as BlockPart}
use Rattle.file_grammar.specs.declared.parts.Version.{Version}
use Rattle.file_grammar.specs.AddressRules.{Address, address_record_of, address_with}
use Rattle.file_grammar.specs.Messages.{Fields, ends, has_number, has_bytes, has_numbers, has_message}
use Rattle.file_grammar.specs.Readings.{message_at, payload_of}
use Rattle.file_grammar.specs.Tables.{content_of}
use Rattle.file_grammar.specs.Walks.{HoldsMessage, IsNext, Standing, left_in}
use Rattle.file_grammar.proofs.Shaped.{AreMessages, are_messages, shaped}
use Rattle.boxed_read.specs.Records.{fields_read}
use Rattle.addr_section.specs.Kept.{addresses_within}
use Rattle.addr_section.proofs.AddressShape.{address_message}
use Rattle.addr_read.specs.Records.{records_in, records_left}
use Rattle.addr_read.specs.Sound.{AreListed, AreSoundLeft, HoldsBlock, IsSoundAddress, IsSoundAt}
use Rattle.addr_read.proofs.AddressRead.{address_by}

listed : (version : Version) (fields : Fields) → AreMessages 10 (AddressPart version) fields → AreListed fields
listed version ends m = tt
listed version (has_message at key inner rest) m = (m.0, listed version rest m.2)
listed version (has_number at key value rest) m = absurd m
listed version (has_bytes at key text rest) m = absurd m
listed version (has_numbers at key values rest) m = absurd m

-- at the beginning of a sound block all its addresses are left
pub begun : (version : Version) (w : Window) (s : Standing) → HoldsBlock version w → s ≡ record { part = BlockPart version; last = None; window = w } → AreSoundLeft version s
begun version w s h is =
    subst (AreSoundLeft version) (sym is)
    (record {
      part = refl;
      window = h.inside;
      fields = h.fields;
      left = h.read;
      listed = listed version h.fields (are_messages (BlockPart version) None 10 (AddressPart version) h.fields refl refl refl (shaped (BlockPart version) w h.fields h.read));
      sound = h.sound;
    })

abbrev holds_part : Part → Option Content
holds_part part = Some (Message part)

address_part : (version : Version) (part : Part) → content_of (BlockPart version) 10 ≡ holds_part part → AddressPart version ≡ part
address_part version part e = cc

-- the address that a field holds
held : (version : Version) (s : Standing) (f : Field) (inner : Fields) → s.part ≡ BlockPart version → f.key ≡ 10 → HoldsMessage s f inner → message_at (AddressPart version) (payload_of s.window.bytes f) ≡ Ok inner
held version s f inner is key h =
    let c : content_of (BlockPart version) 10 ≡ holds_part h.part = subst (λ (p : Part). content_of p 10 ≡ holds_part h.part) is (subst (λ (k : ℕ). content_of s.part k ≡ holds_part h.part) key h.content) in
    subst (λ (p : Part). message_at p (payload_of s.window.bytes f) ≡ Ok inner) (sym (address_part version h.part c)) h.read

-- a message of good form is an address
made : (version : Version) (at : ℕ) (w : Window) (inner : Fields) → message_at (AddressPart version) w ≡ Ok inner → (a : Address) × (address_with at inner ≡ Some a)
made version at w inner e =
    let m = address_message version inner (shaped (AddressPart version) w inner e) in
    (address_by at inner m, ap (address_with at) m.is)

first_kept : (at key : ℕ) (inner rest : Fields) (a : Address) → address_with at inner ≡ Some a → addresses_within (has_message at key inner rest) ≡ a ∷ addresses_within rest
first_kept at key inner rest a e = rw e refl

-- the record of the address in a window
abbrev pub IsRecordAt : Version → Window → AddrRec → Type 0
IsRecordAt version w r = (fields : Fields) (at : ℕ) (a : Address) → message_at (AddressPart version) w ≡ Ok fields → address_with at fields ≡ Some a → r ≡ address_record_of a

-- an address came, and the others are left
pub record Stepped (version : Version) (w : Window) (s behind : Standing) : Type 0 where
  pub sound : IsSoundAt version w
  pub later : AreSoundLeft version behind
  pub first : (r : AddrRec) → IsRecordAt version w r → records_left s ≡ r ∷ records_left behind

module _ (version : Version) (w : Window) (s behind : Standing) (f : Field) (l : AreSoundLeft version s) (there : w ≡ part_of s.window.bytes f.from f.to) (part : behind.part ≡ s.part) (window : IsWindow behind.window) where
  stepped_by : (fields : Fields) → left_in s ≡ Ok fields → AreListed fields → AllByRecursion IsSoundAddress (addresses_within fields) → IsNext s behind f fields → Stepped version w s behind
  stepped_by ends e are all n = absurd n
  stepped_by (has_number a k value rest) e are all n = absurd are
  stepped_by (has_bytes a k text rest) e are all n = absurd are
  stepped_by (has_numbers a k values rest) e are all n = absurd are
  stepped_by (has_message at k inner rest) e are all n =
      let read : message_at (AddressPart version) w ≡ Ok inner = subst (λ (w : Window). message_at (AddressPart version) w ≡ Ok inner) (sym there) (held version s f inner l.part (n.1 ∙ are.0) n.2) in
      let a = made version at w inner read in
      let first : addresses_within (has_message at k inner rest) ≡ a.0 ∷ addresses_within rest = first_kept at k inner rest a.0 a.1 in
      let sounds : AllByRecursion IsSoundAddress (a.0 ∷ addresses_within rest) = subst (AllByRecursion IsSoundAddress) first all in
      let left : Result Fields FileBreak → List AddrRec = λ r. records_in (fields_read r) in
      record {
        sound = record { fields = inner; read = read; at = at; address = a.0; is = a.1; sound = sounds.0 };
        later = record { part = part ∙ l.part; window = window; fields = rest; left = n.3; listed = are.1; sound = sounds.1 };
        first = λ r is.
            ap left e ∙ ap (λ (xs : List Address). map address_record_of xs) first
            ∙ ap (λ (x : AddrRec). x ∷ records_in rest) (sym (is inner at a.0 read a.1))
            ∙ ap (λ (x : Result Fields FileBreak). r ∷ left x) (sym n.3);
      }

  pub stepped : ((fields : Fields) → left_in s ≡ Ok fields → IsNext s behind f fields) → Stepped version w s behind
  stepped next = stepped_by l.fields l.left l.listed l.sound (next l.fields l.left)

-- where no field comes, no address is left
pub none_left : (version : Version) (s : Standing) → AreSoundLeft version s → ((fields : Fields) → left_in s ≡ Ok fields → fields ≡ ends) → records_left s ≡ []
none_left version s l none =
    let left : Result Fields FileBreak → List AddrRec = λ r. records_in (fields_read r) in
    ap left l.left ∙ ap records_in (none l.fields l.left)
