-- The sections of records as they are checked: what is found, and what is kept.
use Rattle.std.proofs.Common.{◌≡◌, ℕ, ◌+◌, List, [], ◌∷◌, ◌++◌, length, map, flat_map, Option, Some, None, Result, Ok, Err, refl, sym, ap, ◌∙◌, length-append, arith}
use Rattle.std.specs.Prelude.{IfErr, IfOk, Bool, true, false, if◌then◌else◌}
use Rattle.std.proofs.lemmas.List.{length-map}
use Rattle.live_model.specs.declared.records.Rec.{Rec}
use Rattle.live_model.specs.declared.records.Rec.TheVariants.{Map, Poi, Addr, Road, Ban}
use Rattle.obf_wire.specs.declared.file.FileBreak.{FileBreak}
use Rattle.obf_wire.specs.declared.file.FileError.{FileError}
use Rattle.obf_wire.specs.declared.file.FileError.TheVariants.{NoMemory, Broken}
use Rattle.obf_wire.specs.Fields.{Window}
use Rattle.file_grammar.specs.declared.parts.Boxed.{Boxed}
use Rattle.file_grammar.specs.declared.parts.Boxed.TheVariants as classes
use Rattle.file_grammar.specs.declared.parts.Part.{Part}
use Rattle.file_grammar.specs.declared.parts.Part.TheVariants.{Addresses, Boxes, Pois, Routing}
use Rattle.file_grammar.specs.AddressRules.{address_records_in, addresses_facts, addresses_of}
use Rattle.file_grammar.specs.BoxRules.{Beside, Boxing, section_facts}
use Rattle.file_grammar.specs.Facts.{Fact, comes_first, earlier, first_failing}
use Rattle.file_grammar.specs.Files.{FileParts, section_records, sections_facts, version_of}
use Rattle.file_grammar.specs.Listed.{Reading, block_records, records_in}
use Rattle.file_grammar.specs.MapRules.{map_boxing, map_read, map_records_in}
use Rattle.file_grammar.specs.Messages.{Fields}
use Rattle.file_grammar.specs.PoiRules.{groups_facts, poi_records_in}
use Rattle.file_grammar.specs.Readings.{message_at}
use Rattle.file_grammar.specs.RoadRules.{ban_boxing, ban_read, bans_in, road_boxing, road_read, roads_in, routing_facts, routing_in}
use Rattle.file_grammar.specs.Sections.{Block, section_in}
use Rattle.file_grammar.proofs.Earlier.{earlier_joined, first_joined}
use Rattle.boxed_exact.specs.Breaks.{Breaks, form_then, rules_break, section_break}
use Rattle.boxed_check.specs.declared.kept.Kept.{Kept}
use Rattle.boxed_check.specs.Keeping.{IsKept, entries_of}
use Rattle.boxed_check.proofs.Good as boxed_good
use Rattle.addr_section.specs.Breaks as addr
use Rattle.addr_section.specs.Breaks.{addresses_break}
use Rattle.addr_section.proofs.Good as addr_good
use Rattle.poi_section.specs.Groups as poi
use Rattle.poi_section.specs.Groups.{pois_break}
use Rattle.poi_section.proofs.GroupWalk as poi_good
use Rattle.road_section.specs.Routing as road
use Rattle.road_section.specs.Routing.{routing_break, routing_message}
use Rattle.road_section.proofs.Parts as road_good
use Rattle.obf_reader.specs.declared.sections.KeptSections.{KeptSections}
use Rattle.obf_reader.specs.declared.spans.Sections.{Sections}
use Rattle.obf_reader.specs.Kept.{AreKept, IsFound, TellsNone, sections_break}
use Rattle.obf_reader.specs.Spread.{AreSectionsOf, window_of}

-- ---- what a check finds

-- what was found is the break that the check tells
pub found_is : {A : Type 0} (checked : Result A FileError) (found broken : Option FileBreak) → IfOk checked (λ _. broken ≡ None) → IfErr checked (λ e. Breaks e broken) → IsFound checked found → found ≡ broken
found_is (Ok x) found broken good bad is = is ∙ sym good
found_is (Err (Broken b)) found broken good bad is = is ∙ sym bad
found_is (Err NoMemory) found broken good bad is = absurd is

-- an error where there is no break tells none
pub tells_none : (error : FileError) (broken : Option FileBreak) → Breaks error broken → broken ≡ None → TellsNone error
tells_none NoMemory broken is none = λ _. tt
tells_none (Broken b) broken is none = absurd (some (sym is ∙ none))
  where
    some : (Some b) ≡ None → ⊥
    some e = cc

-- four breaks among those that were found before
pub four_asked : (old a b c d one two three new : Option FileBreak) → one ≡ earlier old a → two ≡ earlier one b → three ≡ earlier two c → new ≡ earlier three d
    → new ≡ earlier old (earlier (earlier (earlier a b) c) d)
four_asked old a b c d one two three new e f g h =
    h ∙ ap (λ (o : Option FileBreak). earlier o d) (g ∙ ap (λ (o : Option FileBreak). earlier o c) (f ∙ ap (λ (o : Option FileBreak). earlier o b) e ∙ earlier_joined old a b) ∙ earlier_joined old (earlier a b) c)
    ∙ earlier_joined old (earlier (earlier a b) c) d

-- ---- the break of all sections

-- where the form of the sections is good, their break is that of their rules
pub sections_formed : (beside : Beside) (bytes : List ℕ) (s : Sections) (parts : FileParts) → AreSectionsOf bytes s parts → sections_break beside bytes s ≡ first_failing (sections_facts beside parts)
sections_formed beside bytes s parts a =
    let maps : List Fact = section_facts map_boxing beside (section_in parts.map) in
    let addresses : List Fact = addresses_facts beside (addresses_of parts.addresses) in
    let pois : List Fact = groups_facts beside parts.pois in
    let roads : List Fact = routing_facts beside (routing_in parts.roads) in
    let of_maps : section_break classes.Map map_boxing beside (window_of bytes s.map) ≡ first_failing maps = ap (form_then (rules_break map_boxing beside)) a.map in
    let of_addresses : addresses_break (version_of bytes) beside (window_of bytes s.addresses) ≡ first_failing addresses = ap (form_then (addr.rules_break beside)) a.addresses in
    let of_pois : pois_break beside (window_of bytes s.pois) ≡ first_failing pois = ap (form_then (poi.rules_break beside)) a.pois in
    let of_roads : routing_break beside (window_of bytes s.roads) ≡ first_failing roads = ap (form_then (road.rules_break beside)) a.roads in
    four_alike of_maps of_addresses of_pois of_roads
    ∙ ap (λ (o : Option FileBreak). earlier (earlier o (first_failing pois)) (first_failing roads)) (sym (first_joined maps addresses))
    ∙ ap (λ (o : Option FileBreak). earlier o (first_failing roads)) (sym (first_joined (maps ++ addresses) pois))
    ∙ sym (first_joined (maps ++ addresses ++ pois) roads)
  where
    four_alike : {a b c d e f g h : Option FileBreak} → a ≡ e → b ≡ f → c ≡ g → d ≡ h → earlier (earlier (earlier a b) c) d ≡ earlier (earlier (earlier e f) g) h
    four_alike p q r s = rw (p, q, r, s) refl

-- sections that were kept break no rule
pub sections_good : (beside : Beside) (bytes : List ℕ) (s : Sections) (kept : KeptSections) → AreKept beside bytes s kept → sections_break beside bytes s ≡ None
sections_good beside bytes s kept k =
    four_none (boxed_good.kept_good classes.Map map_boxing beside (window_of bytes s.map) kept.map k.map)
    (addr_good.kept_good (version_of bytes) beside (window_of bytes s.addresses) kept.addresses k.addresses)
    (poi_good.kept_good beside (window_of bytes s.pois) kept.pois k.pois)
    (road_good.kept_good beside (window_of bytes s.roads) kept.roads k.roads)
  where
    four_none : {a b c d : Option FileBreak} → a ≡ None → b ≡ None → c ≡ None → d ≡ None → earlier (earlier (earlier a b) c) d ≡ None
    four_none p q r s = rw (p, q, r, s) refl

-- where all sections together have no break, none has
pub record NoneBreaks (beside : Beside) (bytes : List ℕ) (s : Sections) : Type 0 where
  pub map : section_break classes.Map map_boxing beside (window_of bytes s.map) ≡ None
  pub addresses : addresses_break (version_of bytes) beside (window_of bytes s.addresses) ≡ None
  pub pois : pois_break beside (window_of bytes s.pois) ≡ None
  pub roads : routing_break beside (window_of bytes s.roads) ≡ None

-- neither of two breaks, where the earlier is none
pub neither : (a b : Option FileBreak) → earlier a b ≡ None → (a ≡ None) × (b ≡ None)
neither None b e = (refl, e)
neither (Some x) None e = absurd cc
neither (Some x) (Some y) e = absurd (some_one (comes_first x y) e)
  where
    some_one : (first : Bool) → (if first then Some x else Some y) ≡ None → ⊥
    some_one true e = cc
    some_one false e = cc

pub none_breaks : (beside : Beside) (bytes : List ℕ) (s : Sections) → sections_break beside bytes s ≡ None → NoneBreaks beside bytes s
none_breaks beside bytes s e =
    let three = neither _ (routing_break beside (window_of bytes s.roads)) e in
    let two = neither _ (pois_break beside (window_of bytes s.pois)) three.0 in
    let one = neither (section_break classes.Map map_boxing beside (window_of bytes s.map)) (addresses_break (version_of bytes) beside (window_of bytes s.addresses)) two.0 in
    record { map = one.0; addresses = one.1; pois = two.1; roads = three.1 }

-- ---- how many records there are

abbrev stands : Fields → Result Fields FileBreak
stands fields = Ok fields

-- a window is read to one message
one_reading : (part : Part) (w : Window) (a b : Fields) → message_at part w ≡ stands a → message_at part w ≡ stands b → a ≡ b
one_reading part w a b e f =
    let inner : Result Fields FileBreak → Fields = λ r. elim r [ Ok x ↦ x | Err x ↦ a ] in
    ap inner (sym e ∙ f)

module _ {A : Type 0} (reads : Reading A) where
  as_many_in : (blocks : List Block) → length (flat_map (block_records reads) blocks) ≡ length (entries_of blocks)
  as_many_in [] = refl
  as_many_in (block ∷ blocks) =
      let others : List A = flat_map (block_records reads) blocks in
      let one : length (map (reads block) block.entries ++ others) ≡ length (map (reads block) block.entries) + length others = length-append (map (reads block) block.entries) others in
      let two : length (block.entries ++ entries_of blocks) ≡ length block.entries + length (entries_of blocks) = length-append block.entries (entries_of blocks) in
      omega (arith, one, two, length-map block.entries (reads block), as_many_in blocks)

  -- a section has as many records as were counted
  records_kept : (class : Boxed) (boxing : Boxing) (beside : Beside) (w : Window) (kept : Kept) (fields : Fields) → (k : IsKept class boxing beside w kept) → k.fields ≡ fields → kept.records ≡ length (records_in reads (section_in fields))
  records_kept class boxing beside w kept fields k same =
      k.records ∙ ap (λ (f : Fields). length (entries_of (section_in f).blocks)) same ∙ sym (as_many_in (section_in fields).blocks)

-- the records of all sections are so many
five_long : (maps addresses pois roads bans : List Rec) → length (maps ++ addresses ++ pois ++ roads ++ bans) ≡ length maps + (length addresses + length pois) + (length roads + length bans)
five_long maps addresses pois roads bans =
    let one = length-append maps addresses in
    let two = length-append (maps ++ addresses) pois in
    let three = length-append (maps ++ addresses ++ pois) roads in
    let four = length-append (maps ++ addresses ++ pois ++ roads) bans in
    omega (arith, one, two, three, four)

-- the sections have as many records as were counted
pub all_records_kept : (beside : Beside) (bytes : List ℕ) (s : Sections) (kept : KeptSections) (parts : FileParts) → AreKept beside bytes s kept → AreSectionsOf bytes s parts → kept.records ≡ length (section_records parts)
all_records_kept beside bytes s kept parts k a =
    let of_map = records_kept map_read classes.Map map_boxing beside (window_of bytes s.map) kept.map parts.map k.map (one_reading (Boxes classes.Map) (window_of bytes s.map) k.map.fields parts.map k.map.read a.map) in
    let of_addresses : kept.addresses.records ≡ length (address_records_in (addresses_of parts.addresses)) =
    k.addresses.records
    ∙ ap (λ (f : Fields). length (address_records_in (addresses_of f))) (one_reading (Addresses (version_of bytes)) (window_of bytes s.addresses) k.addresses.fields parts.addresses k.addresses.read a.addresses) in
    let of_pois : kept.pois.records ≡ length (poi_records_in parts.pois) =
    k.pois.records ∙ ap (λ (f : Fields). length (poi_records_in f)) (one_reading Pois (window_of bytes s.pois) k.pois.fields parts.pois k.pois.read a.pois) in
    let routing : routing_message kept.roads.spans k.roads.roads.fields k.roads.bans.fields k.roads.rest ≡ parts.roads =
    one_reading Routing (window_of bytes s.roads) (routing_message kept.roads.spans k.roads.roads.fields k.roads.bans.fields k.roads.rest) parts.roads k.roads.read a.roads in
    let of_roads : kept.roads.roads.records ≡ length (roads_in (routing_in parts.roads).roads) =
    records_kept road_read classes.Road road_boxing beside _ kept.roads.roads k.roads.roads.fields k.roads.roads refl ∙ ap (λ (f : Fields). length (roads_in (routing_in f).roads)) routing in
    let of_bans : kept.roads.bans.records ≡ length (bans_in (routing_in parts.roads).bans) =
    records_kept ban_read classes.Restriction ban_boxing beside _ kept.roads.bans k.roads.bans.fields k.roads.bans refl ∙ ap (λ (f : Fields). length (bans_in (routing_in f).bans)) routing in
    let m = length-map (map_records_in (section_in parts.map)) Map in
    let n = length-map (address_records_in (addresses_of parts.addresses)) Addr in
    let p = length-map (poi_records_in parts.pois) Poi in
    let r = length-map (roads_in (routing_in parts.roads).roads) Road in
    let b = length-map (bans_in (routing_in parts.roads).bans) Ban in
    let all = five_long (map Map (map_records_in (section_in parts.map))) (map Addr (address_records_in (addresses_of parts.addresses))) (map Poi (poi_records_in parts.pois))
    (map Road (roads_in (routing_in parts.roads).roads)) (map Ban (bans_in (routing_in parts.roads).bans)) in
    let sum = k.records in
    omega (arith, of_map, of_addresses, of_pois, of_roads, of_bans, m, n, p, r, b, all, sum)
