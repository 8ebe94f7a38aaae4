-- The fields of a packed file: each stands at its place, and their spelling is the bytes that are packed.
use Rattle.std.proofs.Common.{◌≡◌, ℕ, ◌+◌, ◌-◌, ◌%◌, ◌^◌, ◌<◌, List, [], ◌++◌, length, Option, Some, None, refl, sym, ap, subst, ◌∙◌, arith, append_assoc}
use Rattle.std.specs.List.{AllByRecursion}
use Rattle.std.proofs.lemmas.List.{append-nil, take_all}
use Rattle.live_model.specs.declared.records.Rec.{Rec}
use Rattle.live_model.specs.declared.rules.Rule.{Rule}
use Rattle.live_model.specs.Rules.{rules_text}
use Rattle.obf_wire.specs.Varint.{varint}
use Rattle.obf_wire.specs.Fields.{Window, IsWindow, content, field_spelling, left_of, number_field, part_of, section, short_field}
use Rattle.file_grammar.specs.declared.parts.Boxed.TheVariants.{Map}
use Rattle.file_grammar.specs.declared.parts.Version.TheVariants.{Two}
use Rattle.file_grammar.specs.declared.parts.Part.{Part}
use Rattle.file_grammar.specs.declared.parts.Part.TheVariants.{Addresses, Boxes, File, Head, Pois, Routing}
use Rattle.file_grammar.specs.Tables.{content_of}
use Rattle.file_grammar.specs.Messages.{Fields, has_number, has_bytes, has_message, spelling, inside, beyond, IsMessageFor, MayCome, HaveForm}
use Rattle.file_grammar.specs.Files.{HeadNumbers, whole}
use Rattle.file_grammar.proofs.HeadsByNumbers.{HasSmallNumbers}
use Rattle.file_grammar.proofs.Ranges.{range-parts}
use Rattle.boxed_laws.specs.Bare.{Bare, no_more, a_number, some_numbers, a_message, bytes_of, stood, AreFormed}
use Rattle.boxed_laws.proofs.BareFields.{spelled, formed}
use Rattle.addr_section.specs.Packed.{packed_addresses}
use Rattle.map_section.specs.Packed.{packed_map}
use Rattle.poi_section.specs.Packed.{packed_pois}
use Rattle.road_section.specs.Routing.{packed_routing}
use Rattle.obf_writer.specs.Classes.{addresses_in, bans_in, maps_in, pois_in, roads_in}
use Rattle.obf_writer.specs.PackedFile.{head_bytes, marks_bytes, packed_file, steps_from}

-- ---- the fields besides the sections of records

abbrev bare_head : HeadNumbers → Bare
bare_head head = a_number 8 head.level (a_number 16 head.first (a_number 24 head.last no_more))

abbrev bare_marks : List ℕ → Bare
bare_marks marks = some_numbers 10 (steps_from 0 marks) no_more

-- what stands behind the sections
abbrev bare_end : List ℕ → Bare
bare_end marks = a_message 134 (bare_marks marks) (a_number 256 2 no_more)

head_is : (head : HeadNumbers) → bytes_of (bare_head head) ≡ head_bytes head
head_is head =
    ap (λ (t : List ℕ). number_field 1 head.level ++ (number_field 2 head.first ++ t)) (append-nil (number_field 3 head.last))
    ∙ sym (append_assoc (number_field 1 head.level) (number_field 2 head.first) (number_field 3 head.last))

abbrev end_bytes : List ℕ → List ℕ
end_bytes marks = section 16 (marks_bytes marks) ++ number_field 32 2

end_is : (marks : List ℕ) → bytes_of (bare_end marks) ≡ end_bytes marks
end_is marks =
    ap (λ (t : List ℕ). section 16 t ++ (number_field 32 2 ++ [])) (append-nil (marks_bytes marks))
    ∙ ap (λ (t : List ℕ). section 16 (marks_bytes marks) ++ t) (append-nil (number_field 32 2))

-- ---- a message among fields

-- a message of so many bytes, and the fields behind it
message_formed : (part : Part) (last : Option ℕ) (at key : ℕ) (inner rest : Fields) (size : ℕ) → size ≡ length (spelling inner) → MayCome part last key → IsMessageFor (λ sub. HaveForm sub None (inside at key size) inner) (content_of part key)
    → HaveForm part (Some key) (beyond at key size) rest → HaveForm part last at (has_message at key inner rest)
unfolding HaveForm
message_formed part last at key inner rest size e come form others = (
  refl,
  come,
  subst (λ (k : ℕ). IsMessageFor (λ sub. HaveForm sub None (inside at key k) inner) (content_of part key)) e form,
  subst (λ (k : ℕ). HaveForm part (Some key) (beyond at key k) rest) e others,
)

message_spelled : (at key : ℕ) (inner rest : Fields) (payload others : List ℕ) → spelling inner ≡ payload → spelling rest ≡ others → spelling (has_message at key inner rest) ≡ field_spelling key (length payload) payload ++ others
unfolding spelling
message_spelled at key inner rest payload others is after =
    ap (λ (t : List ℕ). field_spelling key (length t) t ++ spelling rest) is ∙ ap (λ (t : List ℕ). field_spelling key (length payload) payload ++ t) after

-- ---- where a payload stands

-- the payload of a field and the fields behind it, where they stand
pub record Stands (w : Window) (key : ℕ) (payload rest : List ℕ) : Type 0 where
  pub window : IsWindow (part_of w.bytes (inside w.place key (length payload)) (beyond w.place key (length payload)))
  pub left : left_of (part_of w.bytes (inside w.place key (length payload)) (beyond w.place key (length payload))) ≡ payload
  pub others : IsWindow (part_of w.bytes (beyond w.place key (length payload)) w.end)
  pub behind : left_of (part_of w.bytes (beyond w.place key (length payload)) w.end) ≡ rest

stands : (w : Window) (key : ℕ) (payload rest : List ℕ) → IsWindow w → left_of w ≡ field_spelling key (length payload) payload ++ rest → Stands w key payload rest
stands w key payload rest window left =
    let head : List ℕ = varint key ++ content key (length payload) in
    let first = range-parts w.bytes w.place w.end head (payload ++ rest) window.ordered window.within (left ∙ append_assoc head payload rest) in
    let second = range-parts w.bytes (w.place + length head) w.end payload rest first.0 window.within first.2 in
    record {
      window = record { ordered = omega arith; within = omega (arith, second.0, window.within) };
      left = second.1;
      others = record { ordered = second.0; within = window.within };
      behind = second.2;
    }

pub all_bytes : (bytes : List ℕ) → left_of (whole bytes) ≡ bytes
all_bytes bytes = take_all (length bytes - 0) bytes (omega arith)

-- behind the version
behind_version : (bytes rest : List ℕ) → bytes ≡ number_field 1 2 ++ rest
    → IsWindow (part_of bytes (inside 0 8 2) (length bytes)) × (left_of (part_of bytes (inside 0 8 2) (length bytes)) ≡ rest)
behind_version bytes rest is =
    let first = range-parts bytes 0 (length bytes) (varint 8 ++ content 8 2) rest (omega arith) (omega arith)
    (all_bytes bytes ∙ is ∙ ap (λ (t : List ℕ). t ++ rest) (append-nil (varint 8 ++ content 8 2))) in
    (record { ordered = first.0; within = omega arith }, first.2)

-- ---- the sections of records, where they stand

-- how long the parts of a file are
module _ (head text map addresses pois roads : List ℕ) where
  abbrev at_head : ℕ
  at_head = inside 0 8 2

  abbrev at_rules : ℕ
  at_rules = beyond at_head 18 (length head)

  abbrev at_map : ℕ
  at_map = beyond at_rules 26 (length text)

  abbrev at_addresses : ℕ
  at_addresses = beyond at_map 54 (length map)

  abbrev at_pois : ℕ
  at_pois = beyond at_addresses 62 (length addresses)

  abbrev at_roads : ℕ
  at_roads = beyond at_pois 70 (length pois)

  abbrev at_marks : ℕ
  at_marks = beyond at_roads 78 (length roads)

module _ (head text map addresses pois roads last : List ℕ) where
  -- the bytes by what they spell, one field behind another
  abbrev all_parts : List ℕ
  all_parts =
      number_field 1 2
      ++ (short_field 2 head ++ (short_field 3 text ++ (section 6 map ++ (section 7 addresses ++ (section 8 pois ++ (section 9 roads ++ last))))))

  -- each section stands so among the bytes
  pub record SectionsStand (bytes : List ℕ) : Type 0 where
    pub map_there : Stands (part_of bytes (at_map head text map addresses pois roads) (length bytes)) 54 map (section 7 addresses ++ (section 8 pois ++ (section 9 roads ++ last)))
    pub addresses_there : Stands (part_of bytes (at_addresses head text map addresses pois roads) (length bytes)) 62 addresses (section 8 pois ++ (section 9 roads ++ last))
    pub pois_there : Stands (part_of bytes (at_pois head text map addresses pois roads) (length bytes)) 70 pois (section 9 roads ++ last)
    pub roads_there : Stands (part_of bytes (at_roads head text map addresses pois roads) (length bytes)) 78 roads last

  sections_stand : (bytes : List ℕ) → bytes ≡ all_parts → SectionsStand bytes
  sections_stand bytes is =
      let v0 = behind_version bytes (short_field 2 head ++ (short_field 3 text ++ (section 6 map ++ (section 7 addresses ++ (section 8 pois ++ (section 9 roads ++ last)))))) is in
      let v1 = stands (part_of bytes (at_head head text map addresses pois roads) (length bytes)) 18 head (short_field 3 text ++ (section 6 map ++ (section 7 addresses ++ (section 8 pois ++ (section 9 roads ++ last))))) v0.0 v0.1 in
      let v2 = stands (part_of bytes (at_rules head text map addresses pois roads) (length bytes)) 26 text (section 6 map ++ (section 7 addresses ++ (section 8 pois ++ (section 9 roads ++ last)))) v1.others v1.behind in
      let v3 = stands (part_of bytes (at_map head text map addresses pois roads) (length bytes)) 54 map (section 7 addresses ++ (section 8 pois ++ (section 9 roads ++ last))) v2.others v2.behind in
      let v4 = stands (part_of bytes (at_addresses head text map addresses pois roads) (length bytes)) 62 addresses (section 8 pois ++ (section 9 roads ++ last)) v3.others v3.behind in
      let v5 = stands (part_of bytes (at_pois head text map addresses pois roads) (length bytes)) 70 pois (section 9 roads ++ last) v4.others v4.behind in
      let v6 = stands (part_of bytes (at_roads head text map addresses pois roads) (length bytes)) 78 roads last v5.others v5.behind in
      record { map_there = v3; addresses_there = v4; pois_there = v5; roads_there = v6 }

-- ---- a packed file

module _ (head : HeadNumbers) (rules : List Rule) (marks : List ℕ) (records : List Rec) where
  abbrev text_part : List ℕ
  text_part = rules_text rules

  abbrev pub map_part : List ℕ
  map_part = packed_map (maps_in records)

  abbrev pub addresses_part : List ℕ
  addresses_part = packed_addresses (addresses_in records)

  abbrev pub pois_part : List ℕ
  pois_part = packed_pois (pois_in records)

  abbrev pub roads_part : List ℕ
  roads_part = packed_routing (roads_in records) (bans_in records)

  -- the bytes by what they spell, one field behind another
  file_parts : packed_file head rules marks records ≡ all_parts (head_bytes head) text_part map_part addresses_part pois_part roads_part (end_bytes marks)
  unfolding packed_file
  file_parts =
      nine (number_field 1 2) (short_field 2 (head_bytes head)) (short_field 3 text_part) (section 6 map_part) (section 7 addresses_part) (section 8 pois_part) (section 9 roads_part)
      (section 16 (marks_bytes marks)) (number_field 32 2)
    where
      nine : (a b c d e f g h i : List ℕ) → a ++ b ++ c ++ (d ++ e ++ f ++ g) ++ h ++ i ≡ a ++ (b ++ (c ++ (d ++ (e ++ (f ++ (g ++ (h ++ i)))))))
      nine a b c d e f g h i = simp append_assoc refl

  -- where each section begins, and where it ends
  abbrev map_at : ℕ
  map_at = at_map (head_bytes head) text_part map_part addresses_part pois_part roads_part

  abbrev addresses_at : ℕ
  addresses_at = at_addresses (head_bytes head) text_part map_part addresses_part pois_part roads_part

  abbrev pois_at : ℕ
  pois_at = at_pois (head_bytes head) text_part map_part addresses_part pois_part roads_part

  abbrev roads_at : ℕ
  roads_at = at_roads (head_bytes head) text_part map_part addresses_part pois_part roads_part

  abbrev pub map_window : Window
  map_window = part_of (packed_file head rules marks records) (inside map_at 54 (length map_part)) (beyond map_at 54 (length map_part))

  abbrev pub addresses_window : Window
  addresses_window = part_of (packed_file head rules marks records) (inside addresses_at 62 (length addresses_part)) (beyond addresses_at 62 (length addresses_part))

  abbrev pub pois_window : Window
  pois_window = part_of (packed_file head rules marks records) (inside pois_at 70 (length pois_part)) (beyond pois_at 70 (length pois_part))

  abbrev pub roads_window : Window
  roads_window = part_of (packed_file head rules marks records) (inside roads_at 78 (length roads_part)) (beyond roads_at 78 (length roads_part))

  pub sections_there : SectionsStand (head_bytes head) text_part map_part addresses_part pois_part roads_part (end_bytes marks) (packed_file head rules marks records)
  sections_there = sections_stand (head_bytes head) text_part map_part addresses_part pois_part roads_part (end_bytes marks) (packed_file head rules marks records) file_parts

  module _ (map addresses pois roads : Fields) where
    abbrev head_fields : Fields
    head_fields = stood (inside (inside 0 8 2) 18 (length (bytes_of (bare_head head)))) (bare_head head)

    abbrev end_fields : Fields
    end_fields = stood (at_marks (head_bytes head) text_part map_part addresses_part pois_part roads_part) (bare_end marks)

    -- the sections and what stands behind them
    abbrev behind_map : Fields
    behind_map = has_message addresses_at 62 addresses (has_message pois_at 70 pois (has_message roads_at 78 roads end_fields))

    -- all fields, with those of the sections
    abbrev pub fields_with : Fields
    fields_with =
        has_number 0 8 2 (has_message (inside 0 8 2) 18 head_fields (has_bytes (at_rules (head_bytes head) text_part map_part addresses_part pois_part roads_part) 26 text_part
        (has_message map_at 54 map behind_map)))

    module _ (map_is : spelling map ≡ map_part) (addresses_are : spelling addresses ≡ addresses_part) (pois_are : spelling pois ≡ pois_part) (roads_are : spelling roads ≡ roads_part) where
      pub fields_spelled : spelling fields_with ≡ packed_file head rules marks records
      unfolding spelling
      fields_spelled =
          let text : List ℕ = text_part in
          let last : spelling end_fields ≡ end_bytes marks = spelled (at_marks (head_bytes head) text_part map_part addresses_part pois_part roads_part) (bare_end marks) ∙ end_is marks in
          let roads_there = message_spelled roads_at 78 roads end_fields roads_part (end_bytes marks) roads_are last in
          let behind_pois : Fields = has_message roads_at 78 roads end_fields in
          let pois_there = message_spelled pois_at 70 pois behind_pois pois_part (section 9 roads_part ++ end_bytes marks) pois_are roads_there in
          let addresses_there = message_spelled addresses_at 62 addresses (has_message pois_at 70 pois behind_pois) addresses_part (section 8 pois_part ++ (section 9 roads_part ++ end_bytes marks)) addresses_are pois_there in
          let map_there = message_spelled map_at 54 map behind_map map_part (section 7 addresses_part ++ (section 8 pois_part ++ (section 9 roads_part ++ end_bytes marks))) map_is addresses_there in
          let head_there = spelled (inside (inside 0 8 2) 18 (length (bytes_of (bare_head head)))) (bare_head head) ∙ head_is head in
          ap (λ (t : List ℕ). number_field 1 2 ++ (short_field 2 t ++ (short_field 3 text ++ spelling (has_message map_at 54 map behind_map)))) head_there
          ∙ ap (λ (t : List ℕ). number_field 1 2 ++ (short_field 2 (head_bytes head) ++ (short_field 3 text ++ t))) map_there
          ∙ sym file_parts

      module _ (small : HasSmallNumbers head) (steps : AllByRecursion (λ n. n < 2 ^ 64) (steps_from 0 marks)) where
        head_formed : AreFormed Head None (bare_head head)
        head_formed = (refl, small.level, (refl, small.first, (refl, small.last, refl)))

        end_formed : AreFormed (File Two) (Some 78) (bare_end marks)
        end_formed = (refl, (refl, (no_rest (length (steps_from 0 marks)), steps), refl), (refl, small_two, refl))
          where
            no_rest : (n : ℕ) → n % 1 ≡ 0
            no_rest n = omega arith

            small_two : 2 < 2 ^ 64
            small_two = omega arith

        pub fields_formed : HaveForm (Boxes Map) None (inside map_at 54 (length map_part)) map → HaveForm (Addresses Two) None (inside addresses_at 62 (length addresses_part)) addresses
            → HaveForm Pois None (inside pois_at 70 (length pois_part)) pois → HaveForm Routing None (inside roads_at 78 (length roads_part)) roads → HaveForm (File Two) None 0 fields_with
        unfolding HaveForm
        fields_formed of_map of_addresses of_pois of_roads =
            let file : Part = File Two in
            let here : ℕ = inside (inside 0 8 2) 18 (length (bytes_of (bare_head head))) in
            let last = formed (bare_end marks) file (Some 78) (at_marks (head_bytes head) text_part map_part addresses_part pois_part roads_part) end_formed in
            let roads_there = message_formed file (Some 70) roads_at 78 roads end_fields (length roads_part) (ap length (sym roads_are)) refl of_roads last in
            let pois_there = message_formed file (Some 62) pois_at 70 pois (has_message roads_at 78 roads end_fields) (length pois_part) (ap length (sym pois_are)) refl of_pois roads_there in
            let addresses_there = message_formed file (Some 54) addresses_at 62 addresses (has_message pois_at 70 pois (has_message roads_at 78 roads end_fields)) (length addresses_part) (ap length (sym addresses_are)) refl of_addresses pois_there in
            let map_there = message_formed file (Some 26) map_at 54 map behind_map (length map_part) (ap length (sym map_is)) refl of_map addresses_there in
            let rules_at : ℕ = at_rules (head_bytes head) text_part map_part addresses_part pois_part roads_part in
            let rules_there : HaveForm file (Some 18) rules_at (has_bytes rules_at 26 text_part (has_message map_at 54 map behind_map)) = (refl, refl, refl, map_there) in
            let long : length (head_bytes head) ≡ length (spelling head_fields) = ap length (sym (spelled here (bare_head head) ∙ head_is head)) in
            let head_there : HaveForm Head None (inside (inside 0 8 2) 18 (length (head_bytes head))) head_fields =
            subst (λ (n : ℕ). HaveForm Head None (inside (inside 0 8 2) 18 n) head_fields) (ap length (head_is head)) (formed (bare_head head) Head None here head_formed) in
            (refl, refl, refl, message_formed file (Some 8) (inside 0 8 2) 18 head_fields (has_bytes rules_at 26 text_part (has_message map_at 54 map behind_map)) (length (head_bytes head)) long refl head_there rules_there)
