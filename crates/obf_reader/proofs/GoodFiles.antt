-- A file that was read and found good.
use Rattle.std.proofs.Common.{◌≡◌, ℕ, List, Option, None, Ok, sym, ap, subst, ◌∙◌}
use Rattle.std.specs.Ordering.{nat_cmp}
use Rattle.ordered_lists.specs.Ordered.{IsRisingBy}
use Rattle.obf_wire.specs.declared.field.Field.{Field}
use Rattle.obf_wire.specs.declared.file.FileBreak.{FileBreak}
use Rattle.obf_wire.specs.Fields.{Window}
use Rattle.file_grammar.specs.declared.parts.Boxed.TheVariants.{Map}
use Rattle.file_grammar.specs.declared.parts.Part.{Part}
use Rattle.file_grammar.specs.declared.parts.Part.TheVariants.{Addresses, Boxes, Pois, Routing}
use Rattle.file_grammar.specs.BoxRules.{Beside}
use Rattle.file_grammar.specs.Facts.{earlier, first_failing}
use Rattle.file_grammar.specs.Files.{FileParts, beside, break_in_file, facts_in, file_break, sections_facts, version_of}
use Rattle.file_grammar.specs.Messages.{Fields}
use Rattle.file_grammar.specs.Readings.{message_at, payload_of}
use Rattle.boxed_exact.specs.declared.fields.Payload.{Payload}
use Rattle.road_section.specs.Routing.{routing_message}
use Rattle.obf_reader.specs.declared.parts.PartsRead.{PartsRead}
use Rattle.obf_reader.specs.declared.sections.KeptSections.{KeptSections}
use Rattle.obf_reader.specs.declared.spans.Sections.{Sections}
use Rattle.obf_reader.specs.declared.top.TopFields.{TopFields}
use Rattle.obf_reader.specs.Kept.{AreKept, sections_break}
use Rattle.obf_reader.specs.Parts.{AreParts, IsReadOf, beside_of, own_facts}
use Rattle.obf_reader.specs.Spread.{AreInBytes, read_file, window_of}
use Rattle.obf_reader.specs.Reads.{IsGoodRead, StandAlike}
use Rattle.obf_reader.specs.Tops.{HasForm, IsTop}
use Rattle.obf_reader.proofs.Asked.{beside_are, first_of_both}
use Rattle.obf_reader.proofs.Checked.{neither, sections_formed, sections_good}
use Rattle.obf_reader.proofs.Images.{IsSoundFile, sound_file}

-- the break of sections that were read, by the parts of the file
pub sections_of_parts : (bytes : List ℕ) (read : PartsRead) (fields : Fields) → (r : IsReadOf bytes read fields) → sections_break (beside_of read) bytes read.sections ≡ first_failing (sections_facts (beside r.parts) r.parts)
sections_of_parts bytes read fields r =
    sections_formed (beside_of read) bytes read.sections r.parts r.sections ∙ ap (λ (b : Beside). first_failing (sections_facts b r.parts)) (beside_are read r.parts r.read_are)

-- the break of a file whose form is good: of its own parts, or of its sections
pub file_breaks : (bytes : List ℕ) (read : PartsRead) (fields : Fields) → read_file bytes ≡ Ok fields → (r : IsReadOf bytes read fields)
    → file_break bytes ≡ earlier (first_failing (own_facts r.parts)) (sections_break (beside_of read) bytes read.sections)
file_breaks bytes read fields e r =
    ap break_in_file e ∙ ap (λ (o : Option FileParts). first_failing (facts_in o)) r.are ∙ first_of_both r.parts
    ∙ ap (λ (o : Option FileBreak). earlier (first_failing (own_facts r.parts)) o) (sym (sections_of_parts bytes read fields r))

-- neither the parts nor the sections break a rule
unbroken_file : (bytes : List ℕ) (read : PartsRead) (fields : Fields) → read_file bytes ≡ Ok fields → (r : IsReadOf bytes read fields) → first_failing (own_facts r.parts) ≡ None
    → sections_break (beside_of read) bytes read.sections ≡ None → file_break bytes ≡ None
unbroken_file bytes read fields e r own sections =
    file_breaks bytes read fields e r ∙ ap (λ (o : Option FileBreak). earlier o (sections_break (beside_of read) bytes read.sections)) own ∙ sections

-- the form of a file whose sections were kept
file_formed : (bytes : List ℕ) (top : TopFields) (read : PartsRead) (kept : KeptSections) → IsTop bytes top → StandAlike read.sections top → AreKept (beside_of read) bytes read.sections kept
    → (fields : Fields) × (read_file bytes ≡ Ok fields)
file_formed bytes top read kept is alike k =
    let s : Sections = read.sections in
    let h : HasForm bytes k.map.fields k.addresses.fields k.pois.fields (routing_message kept.roads.spans k.roads.roads.fields k.roads.bans.fields k.roads.rest) =
    is k.map.fields k.addresses.fields k.pois.fields (routing_message kept.roads.spans k.roads.roads.fields k.roads.bans.fields k.roads.rest)
    (moved (Boxes Map) s.map top.map k.map.fields alike.map.0 alike.map.1 k.map.read)
    (moved (Addresses (version_of bytes)) s.addresses top.addresses k.addresses.fields alike.addresses.0 alike.addresses.1 k.addresses.read)
    (moved Pois s.pois top.pois k.pois.fields alike.pois.0 alike.pois.1 k.pois.read)
    (moved Routing s.roads top.roads (routing_message kept.roads.spans k.roads.roads.fields k.roads.bans.fields k.roads.rest) alike.roads.0 alike.roads.1 k.roads.read) in
    (h.fields, h.read)
  where
    -- what stands in a payload stands in the field that is there
    moved : (part : Part) (p : Payload) (f : Field) (inner : Fields) → p.from ≡ f.from → p.to ≡ f.to → message_at part (window_of bytes p) ≡ Ok inner → message_at part (payload_of bytes f) ≡ Ok inner
    moved part p f inner from to e =
        let made : ℕ → ℕ → Window = λ a b. record { bytes = bytes; place = a; end = b } in
        subst (λ (w : Window). message_at part w ≡ Ok inner) (ap (λ (a : ℕ). made a p.to) from ∙ ap (made f.from) to) e

-- a file whose parts and sections are good
pub good_read : (bytes : List ℕ) (top : TopFields) (read : PartsRead) (kept : KeptSections) → IsRisingBy nat_cmp (λ n. n) read.marks.marks.items → AreInBytes bytes read.sections
    → ((fields : Fields) → read_file bytes ≡ Ok fields → IsReadOf bytes read fields) → IsTop bytes top → StandAlike read.sections top
    → ((own : FileParts) → AreParts read own → first_failing (own_facts own) ≡ None) → AreKept (beside_of read) bytes read.sections kept → IsGoodRead bytes read kept
good_read bytes top read kept rising inside parts is alike own k =
    let f = file_formed bytes top read kept is alike k in
    let r = parts f.0 f.1 in
    record {
      unbroken = unbroken_file bytes read f.0 f.1 r (own r.parts r.read_are) (sections_good (beside_of read) bytes read.sections kept k);
      rising = rising;
      inside = inside;
      parts_are = parts;
      kept_is = k;
    }

-- a file that breaks no rule has no section that breaks one
pub sections_unbroken : (bytes : List ℕ) (read : PartsRead) → ((fields : Fields) → read_file bytes ≡ Ok fields → IsReadOf bytes read fields) → file_break bytes ≡ None
    → sections_break (beside_of read) bytes read.sections ≡ None
sections_unbroken bytes read parts none =
    let f : IsSoundFile bytes = sound_file bytes none in
    let r = parts f.fields f.form in
    (neither (first_failing (own_facts r.parts)) (sections_break (beside_of read) bytes read.sections) (sym (file_breaks bytes read f.fields f.form r) ∙ none)).1
