-- A file that breaks no rule, and what its parts then are.
use Rattle.std.proofs.Common.{◌≡◌, ◌≢◌, ◌<◌, ◌≤◌, length, get_or, ◌/◌, ◌%◌, ◌^◌, ◌*◌, ◌+◌, ◌-◌, ℕ, zero, suc, Bool, true, false, List, [], ◌∷◌, ◌++◌, map, Option, Some, None, Result, Ok, refl, sym, ap, subst, ◌∙◌, inl, inr, arith}
use Rattle.std.specs.Prelude.{ℤ, pos, negsuc, ◌&&◌, bytes_eq, if◌then◌else◌, unsigned_abs, is_some, nat_le, unwrap_or, slice_get, MatchOption}
use Rattle.std.specs.List.{list_all}
use Rattle.std.specs.Option.{option_and_then}
use Rattle.std.specs.Ordering.{is_le}
use Rattle.std.proofs.lemmas.Bool.{and_parts, cases_Bool, cases_lt, leb-true}
use Rattle.live_model.specs.declared.ids.Kind.{Kind}
use Rattle.live_model.specs.declared.ids.Kind.TheVariants.{Node, Way, Relation}
use Rattle.live_model.specs.declared.rules.Rule.{Rule}
use Rattle.live_model.specs.Ids.{Id, IsId, ordinal, rank}
use Rattle.file_grammar.specs.BoxRules.{is_ordinal}
use Rattle.file_grammar.specs.Facts.{AllHold, first_failing}
use Rattle.file_grammar.specs.Files.{FileParts, beside, break_in_file, facts_in, file_break, file_facts, file_in, file_records, is_head, rise_strictly, rules_in, section_records, version_of, whole}
use Rattle.file_grammar.specs.declared.parts.Version.{Version}
use Rattle.file_grammar.specs.declared.parts.Part.TheVariants.{Boxes, File, Pois, Routing}
use Rattle.file_grammar.specs.Messages.{Fields, IsMessage}
use Rattle.file_grammar.specs.Readings.{IsInMemory, message_at}
use Rattle.file_grammar.specs.RoadRules.{ban_boxing, ban_read, road_boxing, road_read, routing_in}
use Rattle.file_grammar.specs.MapRules.{map_boxing}
use Rattle.file_grammar.specs.PoiRules.{groups_in}
use Rattle.file_grammar.specs.Sections.{section_in}
use Rattle.file_grammar.proofs.ReadIsSpelled.{read_is_spelled}
use Rattle.live_model.specs.declared.records.BanRec.{BanRec}
use Rattle.live_model.specs.declared.records.MapRec.{MapRec}
use Rattle.live_model.specs.declared.records.Rec.{Rec}
use Rattle.live_model.specs.declared.records.RoadRec.{RoadRec}
use Rattle.live_model.specs.Maps.{in_order, placed}
use Rattle.live_model.specs.Records.{record_cmp}
use Rattle.live_model.specs.Rules.{rule_lines, rules_text, spelled_rules}
use Rattle.file_grammar.specs.declared.parts.Boxed.TheVariants.{Map as MapPart, Restriction, Road as RoadPart}
use Rattle.obf_wire.specs.declared.file.FileBreak.{FileBreak}
use Rattle.boxed_read.specs.Meeting.{InBoxes, in_boxes}
use Rattle.boxed_read.specs.Records.{fields_read}
use Rattle.boxed_read.specs.Sound.{IsChecked}
use Rattle.map_section.specs.MapLawful.{map_reads}
use Rattle.poi_section.specs.PoiSections.{ArePoisChecked, GroupRead, group_read}
use Rattle.road_section.specs.Routing.{AreInside as AreRoutingInside, bans_window, roads_window, routing_message}
use Rattle.addr_read.specs.Sound.{AreChecked as AreAddressesChecked}
use Rattle.obf_reader.specs.Images.{IsImage, IsImageFile, Seen, addresses_window, bans_of, groups_of, map_window, maps_of, pois_window, roads_of, routing_window}
use Rattle.obf_reader.specs.Spread.{read_file}
use Rattle.file_grammar.proofs.Earlier.{one_first_break_law}
use Rattle.file_grammar.proofs.FileLaws.{read_of}

-- ---- files

-- what has to hold of a file outside its sections of records
pub record AreSound (parts : FileParts) : Type 0 where
  pub head : is_head parts.head.value ≡ true
  pub rules : is_some (rules_in parts.rules.value) ≡ true
  pub rise : rise_strictly parts.marks.value ≡ true
  pub ordinals : list_all is_ordinal parts.marks.value ≡ true

sound_of : (parts : FileParts) → AllHold (file_facts parts) → AreSound parts
unfolding file_facts
sound_of parts all = record { head = all.0; rules = all.1.0; rise = all.1.1.1.0; ordinals = all.1.1.1.1.0 }

-- what has to hold of a file that breaks no rule
all_hold : (fields : Fields) (parts : FileParts) → first_failing (facts_in (file_in fields)) ≡ None → file_in fields ≡ Some parts → AllHold (file_facts parts)
all_hold fields parts none are =
    (one_first_break_law (file_facts parts)).none.0 (ap (λ (o : Option FileParts). first_failing (facts_in o)) (sym are) ∙ none)

-- the bytes are of good form, and their parts are sound
pub record IsSoundFile (bytes : List ℕ) : Type 0 where
  pub fields : Fields
  pub form : read_file bytes ≡ Ok fields
  pub sound : (parts : FileParts) → file_in fields ≡ Some parts → AreSound parts

pub sound_file : (bytes : List ℕ) → file_break bytes ≡ None → IsSoundFile bytes
sound_file bytes e =
    let r = read_of (read_file bytes) e in
    let none : first_failing (facts_in (file_in r.0)) ≡ None = ap break_in_file (sym r.1) ∙ e in
    record {
      fields = r.0;
      form = r.1;
      sound = λ parts are.
          sound_of parts (all_hold r.0 parts none are);
    }

as_many_placed : (x : Rec) (xs : List Rec) → length (placed x xs) ≡ suc (length xs)
as_many_placed x [] = refl
as_many_placed x (y ∷ ys) =
    elim (cases_Bool (is_le (record_cmp x y))) [
      | inl first ↦ rw first refl
      | inr later ↦ rw later (ap suc (as_many_placed x ys))
    ]

-- records in order are as many as before
as_many : (xs : List Rec) → length (in_order xs) ≡ length xs
as_many [] = refl
as_many (x ∷ xs) = as_many_placed x (in_order xs) ∙ ap suc (as_many xs)

-- an image is that of a file
pub file_of : (image : Seen) → IsImage image → IsInMemory (whole image.bytes) → IsImageFile image
file_of image i memory =
    let h = i.holds in
    let s = read_is_spelled (File (version_of image.bytes)) None (whole image.bytes) h.fields memory h.form in
    let none : first_failing (facts_in (file_in h.fields)) ≡ None = ap break_in_file (sym h.form) ∙ i.unbroken in
    record {
      records = file_records h.parts;
      file = record {
        fields = h.fields;
        parts = h.parts;
        form = subst (λ (v : Version). IsMessage (File v) (whole image.bytes) h.fields) (sym h.version) (record { form = s.form; spelled = s.spelled });
        parts_are = h.are;
        sound = all_hold h.fields h.parts none h.are;
        head_is = h.head.0;
        rules_are = h.rules;
        marks_are = h.marks;
        records_are = refl;
      };
      count = h.records ∙ sym (as_many (section_records h.parts));
    }

kept_rules : (keep : Bool) (rules kept : List Rule) → (if keep then Some rules else None) ≡ Some kept → (keep ≡ true) × (rules ≡ kept)
kept_rules true rules kept e = (refl, cc)
kept_rules false rules kept e = absurd cc

few_of : (text : List ℕ) (spelled : Option (List Rule)) (rules : List Rule)
    → option_and_then (λ rules. if nat_le (length rules) 100000 && bytes_eq text (rules_text rules) then Some rules else None) spelled ≡ Some rules → length rules ≤ 100000
few_of text None rules e = absurd cc
few_of text (Some spelled) rules e =
    let kept = kept_rules (nat_le (length spelled) 100000 && bytes_eq text (rules_text spelled)) spelled rules e in
    let few = leb-true (length spelled) 100000 (and_parts (nat_le (length spelled) 100000) (bytes_eq text (rules_text spelled)) kept.0).0 in
    subst (λ (rules : List Rule). length rules ≤ 100000) kept.1 few

-- the table of rules of an image is no larger than one may be
few_rules : (image : Seen) (i : IsImage image) → length (beside i.holds.parts).rules ≤ 100000
few_rules image i =
    let h = i.holds in
    let rules : unwrap_or (rules_in h.parts.rules.value) [] ≡ image.rules = ap (λ (o : Option (List Rule)). unwrap_or o []) h.rules in
    subst (λ (rules : List Rule). length rules ≤ 100000) (sym rules) (few_of h.parts.rules.value (spelled_rules (rule_lines h.parts.rules.value)) image.rules h.rules)

-- each section of an image was checked
pub section_checked : (image : Seen) → IsImage image → IsChecked MapPart map_boxing (map_window image) image.kept.map
section_checked image i = record { beside = beside i.holds.parts; few = few_rules image i; is = i.holds.kept.map }

pub pois_checked : (image : Seen) → IsImage image → ArePoisChecked (pois_window image) image.kept.pois
pois_checked image i = record { beside = beside i.holds.parts; few = few_rules image i; are = i.holds.kept.pois }

pub addresses_checked : (image : Seen) → IsImage image → AreAddressesChecked image.version (addresses_window image) image.kept.addresses
addresses_checked image i =
    subst (λ (v : Version). AreAddressesChecked v (addresses_window image) image.kept.addresses) (sym i.holds.version) (record { beside = beside i.holds.parts; are = i.holds.kept.addresses })

pub roads_checked : (image : Seen) → IsImage image → IsChecked RoadPart road_boxing (roads_window image.bytes image.kept.roads.spans) image.kept.roads.roads
roads_checked image i = record { beside = beside i.holds.parts; few = few_rules image i; is = i.holds.kept.roads.roads }

pub bans_checked : (image : Seen) → IsImage image → IsChecked Restriction ban_boxing (bans_window image.bytes image.kept.roads.spans) image.kept.roads.bans
bans_checked image i = record { beside = beside i.holds.parts; few = few_rules image i; is = i.holds.kept.roads.bans }

-- where the roads and the restrictions of an image stand
pub routing_inside : (image : Seen) → IsImage image → AreRoutingInside image.bytes image.kept.roads.spans
routing_inside image i = i.holds.kept.roads.inside

-- what is so for the fields that are read is so for the fields that are there
read_so : {X : Type 0} (of : Fields → X) (x : X) (r : Result Fields FileBreak) (fields : Fields) → r ≡ Ok fields → x ≡ of fields → x ≡ of (fields_read r)
read_so of x r fields e is = is ∙ ap (λ (r : Result Fields FileBreak). of (fields_read r)) (sym e)

-- each section of an image is read as it stands
pub maps_read : (image : Seen) → IsImage image → (section : InBoxes MapRec) → ((fields : Fields) → message_at (Boxes MapPart) (map_window image) ≡ Ok fields → section ≡ in_boxes map_reads (section_in fields)) → section ≡ in_boxes map_reads (maps_of image)
maps_read image i section read =
    let k = i.holds.kept.map in
    read_so (λ (fields : Fields). in_boxes map_reads (section_in fields)) section (message_at (Boxes MapPart) (map_window image)) k.fields k.read (read k.fields k.read)

pub groups_read : (image : Seen) → IsImage image → (groups : List GroupRead) → ((fields : Fields) → message_at Pois (pois_window image) ≡ Ok fields → groups ≡ map group_read (groups_in fields)) → groups ≡ map group_read (groups_of image)
groups_read image i groups read =
    let k = i.holds.kept.pois in
    read_so (λ (fields : Fields). map group_read (groups_in fields)) groups (message_at Pois (pois_window image)) k.fields k.read (read k.fields k.read)

pub roads_of_section : (image : Seen) → IsImage image → (section : InBoxes RoadRec) → ((part : Fields) → message_at (Boxes RoadPart) (roads_window image.bytes image.kept.roads.spans) ≡ Ok part → section ≡ in_boxes road_read (section_in part)) → section ≡ in_boxes road_read (roads_of image)
roads_of_section image i section read =
    let k = i.holds.kept.roads in
    read_so (λ (fields : Fields). in_boxes road_read (routing_in fields).roads) section (message_at Routing (routing_window image)) (routing_message image.kept.roads.spans k.roads.fields k.bans.fields k.rest) k.read
    (read k.roads.fields k.roads.read)

pub bans_of_section : (image : Seen) → IsImage image → (section : InBoxes BanRec) → ((part : Fields) → message_at (Boxes Restriction) (bans_window image.bytes image.kept.roads.spans) ≡ Ok part → section ≡ in_boxes ban_read (section_in part)) → section ≡ in_boxes ban_read (bans_of image)
bans_of_section image i section read =
    let k = i.holds.kept.roads in
    read_so (λ (fields : Fields). in_boxes ban_read (routing_in fields).bans) section (message_at Routing (routing_window image)) (routing_message image.kept.roads.spans k.roads.fields k.bans.fields k.rest) k.read
    (read k.bans.fields k.bans.read)

pub some_rules : (r : Option (List Rule)) (rules : List Rule) → is_some r ≡ true → rules ≡ unwrap_or r [] → r ≡ Some rules
some_rules (Some x) rules e f = ap (λ (rules : List Rule). Some rules) (sym f)
some_rules None rules e f = absurd cc

-- ---- marks

-- the number of an object whose ordinal lies that far behind the first of its kind
number_at : (low : ℕ) → low ≤ 2 ^ 49 → (z : ℤ) × (unsigned_abs z ≤ 2 ^ 48) × ((kind : Kind) → ordinal (record { kind = kind; number = z }) ≡ rank kind * 2 ^ 50 + low)
number_at low most =
    elim (cases_lt low (2 ^ 48)) [
      | inl less ↦ (negsuc (2 ^ 48 - low - 1), omega arith, λ kind. omega arith)
      | inr more ↦ (pos (low - 2 ^ 48), omega arith, λ kind. omega arith)
    ]

kind_at : (n : ℕ) → n ≤ 2 → (kind : Kind) × (rank kind ≡ n)
kind_at zero e = (Node, refl)
kind_at (suc zero) e = (Way, refl)
kind_at (suc (suc zero)) e = (Relation, refl)
kind_at (suc (suc (suc n))) e = absurd (omega arith)

-- an ordinal is that of an object
object_at : (n : ℕ) → is_ordinal n ≡ true → (o : Id) × IsId o × (ordinal o ≡ n)
object_at n e =
    let p = and_parts (nat_le (n / 2 ^ 50) 2) (nat_le (n % 2 ^ 50) (2 ^ 49)) e in
    let kind = kind_at (n / 2 ^ 50) (leb-true (n / 2 ^ 50) 2 p.0) in
    let number = number_at (n % 2 ^ 50) (leb-true (n % 2 ^ 50) (2 ^ 49) p.1) in
    let is : rank kind.0 * 2 ^ 50 + n % 2 ^ 50 ≡ n = omega (arith, kind.1) in
    (record { kind = kind.0; number = number.0 }, number.1, number.2 kind.0 ∙ is)

each_at : (marks : List ℕ) (index mark : ℕ) → list_all is_ordinal marks ≡ true → slice_get marks index ≡ Some mark → is_ordinal mark ≡ true
each_at [] index mark all e = absurd cc
each_at (m ∷ ms) zero mark all e = let same : m ≡ mark = cc in subst (λ (n : ℕ). is_ordinal n ≡ true) same (and_parts (is_ordinal m) (list_all is_ordinal ms) all).0
each_at (m ∷ ms) (suc index) mark all e = each_at ms index mark (and_parts (is_ordinal m) (list_all is_ordinal ms) all).1 e

-- the mark at a place is the ordinal of the object that was found
pub mark_found : (marks : List ℕ) (index mark : ℕ) (r : Option Id) → list_all is_ordinal marks ≡ true → slice_get marks index ≡ Some mark
    → MatchOption r ((o : Id) → IsId o → ordinal o ≢ mark) (λ o. IsId o × (ordinal o ≡ mark)) → MatchOption r (slice_get marks index ≡ None) (λ id. slice_get marks index ≡ Some (ordinal id))
mark_found marks index mark (Some o) all e found = e ∙ ap (λ (n : ℕ). Some n) (sym found.1)
mark_found marks index mark None all e none = let o = object_at mark (each_at marks index mark all e) in absurd (none o.0 o.1 o.2)

pub some_at : (xs : List ℕ) (i m : ℕ) → i < length xs → m ≡ get_or xs i m → slice_get xs i ≡ Some m
some_at [] i m inside e = absurd (omega arith)
some_at (x ∷ xs) zero m inside e = ap (λ (n : ℕ). Some n) (sym e)
some_at (x ∷ xs) (suc i) m inside e = some_at xs i m (omega arith) e

pub none_at : (xs : List ℕ) (i : ℕ) → length xs ≤ i → slice_get xs i ≡ None
none_at [] i behind = refl
none_at (x ∷ xs) zero behind = absurd (omega arith)
none_at (x ∷ xs) (suc i) behind = none_at xs i (omega arith)
