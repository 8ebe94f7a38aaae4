-- What an image holds can be packed.
use Rattle.std.proofs.Common.{◌≡◌, ◌≢◌, ◌≤◌, ℕ, Bool, true, false, List, [], ◌∷◌, map, length, Option, Some, None, refl, sym, ap, subst, ◌∙◌, ap₂, arith}
use Rattle.std.specs.Prelude.{◌||◌, ◌==◌, not, if◌then◌else◌, unwrap_or, IsTrue}
use Rattle.std.specs.List.{AllByRecursion, list_all, list_any}
use Rattle.std.specs.Ordering.{nat_cmp}
use Rattle.std.specs.declared.cmp.Ordering.TheVariants.{Less}
use Rattle.std.proofs.lemmas.Bool.{and_from, and_parts, eqb-true}
use Rattle.live_model.specs.declared.levels.Level.{Level}
use Rattle.live_model.specs.declared.levels.Level.TheVariants.{Base, Hour, Day, Month}
use Rattle.live_model.specs.declared.rules.Rule.{Rule}
use Rattle.live_model.specs.Fits.{Fits, FitsAddress, FitsRules}
use Rattle.live_model.specs.Ids.{Id, IsId, ordinal}
use Rattle.live_model.specs.Levels.{level_number}
use Rattle.live_model.specs.Maps.{in_order, is_mark}
use Rattle.live_model.specs.Records.{record_id}
use Rattle.live_model.specs.Rules.{IsRule}
use Rattle.ordered_lists.specs.Ordered.{IsRisingBy}
use Rattle.ordered_lists.proofs.PutAll.{all_map}
use Rattle.map_laws.proofs.InOrder.{all_ordered, ordered_twice}
use Rattle.file_grammar.specs.AddressRules.{address_records_in, addresses_of}
use Rattle.file_grammar.specs.BoxRules.{is_ordinal}
use Rattle.file_grammar.specs.Facts.{AllHold, first_failing}
use Rattle.file_grammar.specs.Files.{FileParts, HeadNumbers, IsFile, beside, break_in_file, facts_in, file_facts, file_in, file_records, head_numbers, marks_beside, rise_strictly, section_records, version_of, whole}
use Rattle.file_grammar.specs.Messages.{Fields, IsMessage}
use Rattle.file_grammar.specs.declared.parts.Version.{Version}
use Rattle.file_grammar.specs.Readings.{IsInMemory}
use Rattle.file_grammar.specs.Sections.{object_of}
use Rattle.file_grammar.specs.declared.parts.Part.TheVariants.{Addresses, File}
use Rattle.file_grammar.proofs.ReadIsSpelled.{read_is_spelled}
use Rattle.boxed_laws.proofs.ObjectNumbers.{object_good, ordinal_again}
use Rattle.addr_section.proofs.Fitting.{fitting as addresses_fit}
use Rattle.obf_reader.specs.Images.{IsImage, Seen, addresses_window}
use Rattle.obf_reader.specs.Overlays.{overlay_of, records_in}
use Rattle.obf_reader.proofs.Overlays.{records_are}
use Rattle.file_grammar.proofs.Earlier.{one_first_break_law}
use Rattle.packed_image.specs.Overlays.{HoldsParts}
use Rattle.packed_image.proofs.SoundSections.{HasMark, IsSound, sections_sound}

-- ---- marks

-- marks are the ordinals of their objects
pub ordinals_at : (marks : List ℕ) → list_all is_ordinal marks ≡ true → map ordinal (map object_of marks) ≡ marks
ordinals_at [] all = refl
ordinals_at (n ∷ ns) all =
    let both = and_parts (is_ordinal n) (list_all is_ordinal ns) all in
    ap₂ (λ (m : ℕ) (ms : List ℕ). m ∷ ms) (ordinal_again n both.0) (ordinals_at ns both.1)

objects_good : (marks : List ℕ) → list_all is_ordinal marks ≡ true → AllByRecursion IsId (map object_of marks)
objects_good [] all = tt
objects_good (n ∷ ns) all = let both = and_parts (is_ordinal n) (list_all is_ordinal ns) all in (object_good n both.0, objects_good ns both.1)

-- what rises by its numbers rises
risen : (ids : List Id) → IsRisingBy nat_cmp (λ n. n) (map ordinal ids) → IsRisingBy nat_cmp ordinal ids
risen [] rise = tt
risen (o ∷ os) rise = (from os rise.0, risen os rise.1)
  where
    from : (os : List Id) → AllByRecursion (λ n. nat_cmp (ordinal o) n ≡ Less) (map ordinal os) → AllByRecursion (λ p. nat_cmp (ordinal o) (ordinal p) ≡ Less) os
    from [] all = tt
    from (p ∷ ps) all = (all.0, from ps all.1)

-- a mark is one by its number
marked_by : (id : Id) (marks : List ℕ) → list_all is_ordinal marks ≡ true → list_any (λ (mark : Id). ordinal mark == ordinal id) (map object_of marks) ≡ list_any (λ mark. mark == ordinal id) marks
marked_by id [] all = refl
marked_by id (n ∷ ns) all =
    let both = and_parts (is_ordinal n) (list_all is_ordinal ns) all in
    ap₂ (λ (k : ℕ) (b : Bool). (k == ordinal id) || b) (ordinal_again n both.0) (marked_by id ns both.1)

no_marks : (level : ℕ) (marks : List ℕ) → level ≡ 0 → (not (level == 0) || (length marks == 0)) ≡ true → marks ≡ []
no_marks level [] e fact = refl
no_marks level (m ∷ ms) e fact =
    let none : (length (m ∷ ms) == 0) ≡ true = subst (λ (n : ℕ). (not (n == 0) || (length (m ∷ ms) == 0)) ≡ true) e fact in
    let zero : length (m ∷ ms) ≡ 0 = eqb-true (length (m ∷ ms)) 0 none in
    absurd (omega (arith, zero))

above_base : (level : Level) → level ≢ Base → level_number level ≢ 0
above_base Base above e = above refl
above_base Hour above e = absurd cc
above_base Day above e = absurd cc
above_base Month above e = absurd cc

marks_asked : (level : ℕ) (marks : List ℕ) → level ≢ 0 → rise_strictly marks ≡ true → list_all is_ordinal marks ≡ true → marks_beside level marks ≡ Some marks
marks_asked level marks above rise ordinals =
    let good = and_from (rise_strictly marks) (list_all is_ordinal marks) rise ordinals in
    ap₂ (λ (a b : Bool). if a || not b then None else Some marks) (eqb-false' level above) good
  where
    eqb-false' : (n : ℕ) → n ≢ 0 → (n == 0) ≡ false
    eqb-false' n other = elim (n == 0) as (λ b. (n == 0) ≡ b → b ≡ false) [
      | true ↦ λ e. absurd (other (eqb-true n 0 e))
      | false ↦ λ e. refl
    ] refl

-- ---- an image

module _ (image : Seen) (i : IsImage image) (memory : IsInMemory (whole image.bytes)) where
  abbrev parts : FileParts
  parts = i.holds.parts

  all_facts : AllHold (file_facts parts)
  all_facts =
      let none : first_failing (facts_in (file_in i.holds.fields)) ≡ None = ap break_in_file (sym i.holds.form) ∙ i.unbroken in
      (one_first_break_law (file_facts i.holds.parts)).none.0 (ap (λ (o : Option FileParts). first_failing (facts_in o)) (sym i.holds.are) ∙ none)

  -- the bytes are a file of these parts
  pub file_there : IsFile image.bytes image.version (head_numbers image.head) image.rules image.marks (file_records i.holds.parts)
  file_there =
      let h = i.holds in
      let s = read_is_spelled (File (version_of image.bytes)) None (whole image.bytes) h.fields memory h.form in
      record {
        fields = h.fields;
        parts = h.parts;
        form = subst (λ (v : Version). IsMessage (File v) (whole image.bytes) h.fields) (sym h.version) (record { form = s.form; spelled = s.spelled });
        parts_are = h.are;
        sound = all_facts;
        head_is = h.head.0;
        rules_are = h.rules;
        marks_are = h.marks;
        records_are = refl;
      }

  its_records : records_in image.bytes ≡ file_records i.holds.parts
  its_records = records_are image i

  its_rules : (beside parts).rules ≡ image.rules
  its_rules = ap (λ (o : Option (List Rule)). unwrap_or o []) i.holds.rules

  its_level : parts.head.value.level ≡ level_number image.head.level
  its_level = sym (ap (λ (h : HeadNumbers). h.level) i.holds.head.0)

  its_addresses : AllByRecursion FitsAddress (address_records_in (addresses_of parts.addresses))
  its_addresses =
      let w = addresses_window image in
      let there : IsInMemory w = record { window = record { ordered = i.holds.inside.addresses.0; within = i.holds.inside.addresses.1 }; bytes = memory.bytes; few = memory.few } in
      let own = i.holds.kept.addresses in
      let s = read_is_spelled (Addresses (version_of image.bytes)) None w own.fields there own.read in
      let same : own.fields ≡ parts.addresses = let e = sym own.read ∙ i.holds.sections.addresses in cc in
      subst (λ (fields : Fields). AllByRecursion FitsAddress (address_records_in (addresses_of fields))) same
      (addresses_fit (version_of image.bytes) (beside parts) w (address_records_in (addresses_of own.fields))
      (record { fields = own.fields; form = record { form = s.form; spelled = s.spelled }; sound = own.sound; records_are = refl }))

  all_sound : AllByRecursion (IsSound (beside parts)) (section_records parts)
  unfolding file_facts
  all_sound = sections_sound (beside parts) parts its_addresses all_facts.1.1.1.1.1.1

  its_sound : AllByRecursion (IsSound (beside parts)) (records_in image.bytes)
  its_sound = subst (AllByRecursion (IsSound (beside parts))) (sym its_records) (all_ordered (IsSound (beside parts)) (section_records parts) all_sound)

  its_fit : FitsRules image.rules (records_in image.bytes)
  its_fit = subst (λ (rules : List Rule). FitsRules rules (records_in image.bytes)) its_rules (all_map (IsSound (beside parts)) (Fits (beside parts).rules) (records_in image.bytes) (λ r s. s.0) its_sound)

  its_base : image.head.level ≡ Base → image.marks ≡ []
  unfolding file_facts
  its_base base = i.holds.marks ∙ no_marks parts.head.value.level parts.marks.value (its_level ∙ ap level_number base) all_facts.1.1.1.1.1.0

  its_marks : image.head.level ≢ Base → (beside parts).marks ≡ Some image.marks
  unfolding file_facts
  its_marks above =
      marks_asked parts.head.value.level parts.marks.value (λ e. above_base image.head.level above (sym its_level ∙ e)) all_facts.1.1.1.0 all_facts.1.1.1.1.0
      ∙ ap (λ (ms : List ℕ). Some ms) (sym i.holds.marks)

  its_marked : image.head.level ≢ Base → AllByRecursion (λ r. IsTrue (is_mark (overlay_of image) (record_id r))) (records_in image.bytes)
  its_marked above =
      all_map (IsSound (beside parts)) (λ r. IsTrue (is_mark (overlay_of image) (record_id r))) (records_in image.bytes)
      (λ r s. marked_by (record_id r) image.marks i.marks.0 ∙ subst (λ (marks : Option (List ℕ)). HasMark marks (record_id r)) (its_marks above) s.1) its_sound

  pub holds_parts : AllByRecursion IsRule image.rules × (length image.rules ≤ 100000) → HoldsParts image
  holds_parts spelled = record {
    head = i.holds.head.1;
    marks = ordinals_at image.marks i.marks.0;
    base = its_base;
    above = λ above. record {
      ids = objects_good image.marks i.marks.0;
      rising = risen (map object_of image.marks) (subst (IsRisingBy nat_cmp (λ n. n)) (sym (ordinals_at image.marks i.marks.0)) i.marks.1);
      ordered = ap in_order its_records ∙ ordered_twice (section_records parts) ∙ sym its_records;
      marked = its_marked above;
    };
    fit = its_fit;
    spelled = spelled;
  }
