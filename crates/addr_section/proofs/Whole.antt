-- The two lists of a section.
use Rattle.std.proofs.Common.{◌≡◌, ℕ, ◌+◌, false, true, length, Option, Some, None, Result, Ok, Err, refl, sym, ap, subst, ◌∙◌, arith, length-append}
use Rattle.std.proofs.lemmas.List.{length-map}
use Rattle.obf_wire.specs.declared.file.FileBreak.{FileBreak}
use Rattle.obf_wire.specs.Fields.{Window, part_of}
use Rattle.file_grammar.specs.declared.parts.Content.{Content}
use Rattle.file_grammar.specs.declared.parts.Content.TheVariants.{Message}
use Rattle.file_grammar.specs.declared.parts.Part.{Part}
use Rattle.file_grammar.specs.declared.parts.Part.TheVariants.{Addresses as AddressesPart, Keyed as ListPart}
use Rattle.file_grammar.specs.declared.parts.Version.{Version}
use Rattle.file_grammar.specs.AddressRules.{address_record_of, addresses_facts, addresses_in, addresses_of, keyed_facts, list_records}
use Rattle.file_grammar.specs.BoxRules.{Beside}
use Rattle.file_grammar.specs.Facts.{earlier, first_failing}
use Rattle.file_grammar.specs.Messages.{Fields, has_message}
use Rattle.file_grammar.specs.Readings.{break_in, message_at}
use Rattle.file_grammar.specs.Tables.{content_of}
use Rattle.file_grammar.specs.Walks.{Standing}
use Rattle.file_grammar.proofs.Earlier.{and_more, one_first_break_law}
use Rattle.file_grammar.proofs.Shaped.{BeginsMessage, IsShaped, begins_message}
use Rattle.boxed_exact.specs.Breaks.{form_then}
use Rattle.boxed_exact.specs.Fields.{HoldsInner}
use Rattle.addr_section.specs.declared.kept.AddressesKept.{AddressesKept}
use Rattle.addr_section.specs.Breaks.{addresses_break, rules_break}
use Rattle.addr_section.specs.Kept.{AreAddressesKept, AreListsKept}

-- ---- the shape

pub record IsWhole (fields : Fields) : Type 0 where
  pub a : ℕ
  pub names : Fields
  pub b : ℕ
  pub houses : Fields
  pub rest : Fields
  pub is : fields ≡ has_message a 14 names (has_message b 22 houses rest)

pub whole : (version : Version) (fields : Fields) → IsShaped (AddressesPart version) None fields → IsWhole fields
whole version fields s =
    let one : BeginsMessage (AddressesPart version) 14 (ListPart version) fields = begins_message (AddressesPart version) None 14 (ListPart version) fields refl refl refl s in
    let two : BeginsMessage (AddressesPart version) 22 (ListPart version) one.rest = begins_message (AddressesPart version) (Some 14) 22 (ListPart version) one.rest refl refl refl one.shaped in
    record { a = one.at; names = one.inner; b = two.at; houses = two.inner; rest = two.rest; is = one.is ∙ ap (has_message one.at 14 one.inner) two.is }

abbrev holds_part : Part → Option Content
holds_part part = Some (Message part)

same_part : (p q : Part) → holds_part p ≡ holds_part q → p ≡ q
same_part p q e = cc

-- the list that a field holds
pub held_list : (version : Version) (k : ℕ) (s : Standing) (from to : ℕ) (inner : Fields) → content_of (AddressesPart version) k ≡ holds_part (ListPart version) → s.part ≡ AddressesPart version → HoldsInner s from to k inner
    → message_at (ListPart version) (part_of s.window.bytes from to) ≡ Ok inner
held_list version k s from to inner row is h =
    let c : content_of (AddressesPart version) k ≡ holds_part h.part = subst (λ (p : Part). content_of p k ≡ holds_part h.part) is h.content in
    subst (λ (p : Part). message_at p (part_of s.window.bytes from to) ≡ Ok inner) (sym (same_part (ListPart version) h.part (sym row ∙ c))) h.read

-- ---- the form

-- without a break of form there are fields
pub form_is : (version : Version) (w : Window) → None ≡ break_in (message_at (AddressesPart version) w) → (fields : Fields) × (message_at (AddressesPart version) w ≡ Ok fields)
form_is version w e = one (message_at (AddressesPart version) w) refl e
  where
    one : (r : Result Fields FileBreak) → message_at (AddressesPart version) w ≡ r → None ≡ break_in r → (fields : Fields) × (message_at (AddressesPart version) w ≡ Ok fields)
    one (Ok fields) is e = (fields, is)
    one (Err found) is e = absurd cc

-- ---- the rules

module _ (version : Version) (beside : Beside) (w : Window) (fields : Fields) (read : message_at (AddressesPart version) w ≡ Ok fields) where
  -- the rules of both lists
  pub rules_asked : (mid new : Option FileBreak) → mid ≡ earlier None (first_failing (keyed_facts false beside (addresses_of fields).names)) → new ≡ earlier mid (first_failing (keyed_facts true beside (addresses_of fields).houses))
      → new ≡ rules_break beside fields
  rules_asked mid new one two = and_more None mid new (keyed_facts false beside (addresses_of fields).names) (keyed_facts true beside (addresses_of fields).houses) one two

  -- of good form, the first break is that of the rules
  pub rules_broken : rules_break beside fields ≡ addresses_break version beside w
  rules_broken = sym (ap (form_then (rules_break beside)) read)

  -- every rule holds, and both lists stand so
  pub all_kept : (kept : AddressesKept) (named housed : ℕ) → None ≡ rules_break beside fields → AreListsKept version w.bytes kept.names kept.houses (addresses_of fields)
      → named ≡ length (addresses_in (addresses_of fields).names.blocks) → housed ≡ length (addresses_in (addresses_of fields).houses.blocks) → kept.records ≡ named + housed → AreAddressesKept version beside w kept
  all_kept kept named housed none lists first second sum =
      let names = (addresses_of fields).names in
      let houses = (addresses_of fields).houses in
      let joined = length-append (list_records names) (list_records houses) in
      let one = length-map (addresses_in names.blocks) address_record_of in
      let two = length-map (addresses_in houses.blocks) address_record_of in
      record {
        fields = fields;
        read = read;
        sound = (one_first_break_law (addresses_facts beside (addresses_of fields))).none.0 (sym none);
        names = lists.names_are;
        houses = lists.houses_are;
        records = omega (arith, joined, one, two, first, second, sum);
      }
