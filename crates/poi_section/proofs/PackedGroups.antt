-- What is packed of points of interest is one section of them, and the records of a sound section fit.
use Rattle.std.proofs.Common.{◌≡◌, ◌≢◌, ℕ, ◌+◌, ◌<◌, ◌≤◌, ◌^◌, Bool, true, false, cond, List, [], ◌∷◌, ◌++◌, length, map, Option, Some, None, refl, sym, ap, subst, ◌∙◌, append_assoc, arith}
use Rattle.std.specs.Prelude.{◌&&◌, not, flat_map, nat_lt, slice_range, IsTrue}
use Rattle.std.specs.List.{AllByRecursion}
use Rattle.std.specs.Ordering.{is_eq, is_le}
use Rattle.std.specs.Str.{is_utf8}
use Rattle.std.specs.declared.cmp.Ordering.TheVariants.{Less}
use Rattle.std.proofs.lemmas.Bool.{or_left}
use Rattle.std.proofs.lemmas.List.{append-nil}
use Rattle.std.proofs.lemmas.List.Sorted.{length_permutation}
use Rattle.live_model.specs.declared.records.PoiRec.{PoiRec}
use Rattle.live_model.specs.declared.rules.Rule.{Rule}
use Rattle.live_model.specs.Fits.{FitsPoi}
use Rattle.live_model.specs.Rules.{is_category}
use Rattle.obf_wire.specs.Varint.{varint}
use Rattle.obf_wire.specs.Fields.{Window, IsWindow, content, field_spelling, left_of, part_of, section, short_field}
use Rattle.ordered_lists.specs.Ordered.{IsRisingBy}
use Rattle.ordered_lists.proofs.PutAll.{all_map}
use Rattle.text_table.specs.Tables.{text_cmp}
use Rattle.text_table.proofs.Rising.{equal_is, itself}
use Rattle.file_grammar.specs.declared.parts.Part.{Part}
use Rattle.file_grammar.specs.declared.parts.Content.TheVariants.{Bytes}
use Rattle.file_grammar.specs.declared.parts.Part.TheVariants.{Group as GroupPart, Pois}
use Rattle.file_grammar.specs.BoxRules.{Beside, block_facts, section_facts, text_fact, with_before}
use Rattle.file_grammar.specs.Facts.{AllHold, Fact}
use Rattle.file_grammar.specs.Messages.{Fields, HaveForm, IsMessageFor, MayCome, beyond, ends, has_bytes, has_message, inside, spelling}
use Rattle.file_grammar.specs.PoiRules.{Group, group_facts, group_records, groups_facts, groups_in, poi_boxing, poi_facts, poi_read}
use Rattle.file_grammar.specs.Sections.{Block, Entry, placed, section_in}
use Rattle.file_grammar.specs.Tables.{content_of, may_end}
use Rattle.file_grammar.proofs.Earlier.{one_first_break_law}
use Rattle.file_grammar.proofs.Ranges.{range-parts}
use Rattle.file_grammar.proofs.SpelledIsRead.{spelled_is_read}
use Rattle.boxed_check.proofs.BlockWalk.{all_append}
use Rattle.boxed_write.specs.Packed.{packed}
use Rattle.boxed_laws.specs.Classes.{PassUtf8, without_marks}
use Rattle.boxed_laws.specs.Laws.{IsSection, in_blocks}
use Rattle.boxed_laws.proofs.BlockTexts.{all_join}
use Rattle.boxed_laws.proofs.FittingRecords.{Holds, all_before, all_behind, texts_utf8}
use Rattle.boxed_laws.proofs.KeptItems as K
use Rattle.poi_section.specs.Groups.{category_before, may_rise}
use Rattle.poi_section.specs.Laws.{FittingGroupsLaw, PackedGroupsLaw, PackedGroupsReadLaw}
use Rattle.poi_section.specs.Packed.{categories_of, group, of_category, packed_pois, poi_packing}
use Rattle.poi_section.specs.PoiLawful.{FitsCategory, poi_class, poi_lawful}
use Rattle.poi_section.proofs.Groups.{all_put, categories_rise, eq_is}
use Rattle.poi_section.proofs.GroupWalk.{category_follows, some_blocks}
use Rattle.poi_section.proofs.PackedPois.{packed_law}

-- ---- the categories of records that fit

cons_some : (p : PoiRec) (ps : List PoiRec) → (p ∷ ps) ≢ []
cons_some p ps = λ e. absurd cc

has_own : (p : PoiRec) (ps : List PoiRec) → of_category p.category (p ∷ ps) ≢ []
has_own p ps = rw (itself p.category) (cons_some p (of_category p.category ps))

has_more : (c : List ℕ) (p : PoiRec) (ps : List PoiRec) → of_category c ps ≢ [] → of_category c (p ∷ ps) ≢ []
has_more c p ps some = one (is_eq (text_cmp c p.category))
  where
    one : (b : Bool) → cond b (p ∷ of_category c ps) (of_category c ps) ≢ []
    one true = cons_some p (of_category c ps)
    one false = some

-- each of the categories is that of a record
have_some : (ps : List PoiRec) → AllByRecursion (λ c. of_category c ps ≢ []) (map (λ (p : PoiRec). p.category) ps)
have_some [] = tt
have_some (p ∷ ps) = (has_own p ps, all_map (λ c. of_category c ps ≢ []) (λ c. of_category c (p ∷ ps) ≢ []) (map (λ (q : PoiRec). q.category) ps) (λ c some. has_more c p ps some) (have_some ps))

are_named : (ps : List PoiRec) → AllByRecursion FitsPoi ps → AllByRecursion (λ c. IsTrue (is_category c)) (map (λ (p : PoiRec). p.category) ps)
are_named [] fit = tt
are_named (p ∷ ps) fit = (fit.0.category, are_named ps fit.1)

-- the records of a category fit it
fit_category : (c : List ℕ) (rules : List Rule) (ps : List PoiRec) → AllByRecursion FitsPoi ps → AllByRecursion (FitsCategory c rules) (of_category c ps)
fit_category c rules [] fit = tt
fit_category c rules (p ∷ ps) fit = one (is_eq (text_cmp c p.category)) refl (fit_category c rules ps fit.1)
  where
    one : (b : Bool) → is_eq (text_cmp c p.category) ≡ b → AllByRecursion (FitsCategory c rules) (of_category c ps) → AllByRecursion (FitsCategory c rules) (cond b (p ∷ of_category c ps) (of_category c ps))
    one true e rest = (record { fits = fit.0; is = sym (equal_is c p.category (eq_is (text_cmp c p.category) e)) }, rest)
    one false e rest = rest

rises : (a b : List ℕ) → text_cmp a b ≡ Less → may_rise a b ≡ true
rises a b e = or_left (is_le (text_cmp a b)) (not (is_utf8 a && is_utf8 b)) (ap is_le e)

-- every category may stand first
first_rises : (cs : List (List ℕ)) → AllByRecursion (λ c. may_rise [] c ≡ true) cs
first_rises [] = tt
first_rises ([] ∷ cs) = (refl, first_rises cs)
first_rises ((x ∷ xs) ∷ cs) = (refl, first_rises cs)

-- ---- a message behind its key and its length

-- the key and the length of a payload
abbrev head : ℕ → List ℕ → List ℕ
head key payload = varint key ++ content key (length payload)

-- a payload stands behind its key and its length, and others behind it
pub record Stands (w : Window) (key : ℕ) (payload rest : List ℕ) : Type 0 where
  pub from : w.place + length (head key payload) ≤ w.end
  pub to : w.place + length (head key payload) + length payload ≤ w.end
  pub left : slice_range w.bytes (w.place + length (head key payload)) (w.place + length (head key payload) + length payload) ≡ payload
  pub behind : slice_range w.bytes (w.place + length (head key payload) + length payload) w.end ≡ rest

stands : (w : Window) (key : ℕ) (payload rest : List ℕ) → IsWindow w → left_of w ≡ head key payload ++ (payload ++ rest) → Stands w key payload rest
stands w key payload rest window left =
    let first = range-parts w.bytes w.place w.end (head key payload) (payload ++ rest) window.ordered window.within left in
    let second = range-parts w.bytes (w.place + length (head key payload)) w.end payload rest first.0 window.within first.2 in
    record { from = first.0; to = second.0; left = second.1; behind = second.2 }

-- a message of so many bytes, and the fields behind it
message_formed : (part : Part) (last : Option ℕ) (at key : ℕ) (inner rest : Fields) (size : ℕ) → size ≡ length (spelling inner) → MayCome part last key → IsMessageFor (λ sub. HaveForm sub None (inside at key size) inner) (content_of part key)
    → HaveForm part (Some key) (beyond at key size) rest → HaveForm part last at (has_message at key inner rest)
unfolding HaveForm
message_formed part last at key inner rest size e come form others = (
  refl,
  come,
  subst (λ (k : ℕ). IsMessageFor (λ sub. HaveForm sub None (inside at key k) inner) (content_of part key)) e form,
  subst (λ (k : ℕ). HaveForm part (Some key) (beyond at key k) rest) e others,
)

bytes_formed : (part : Part) (last : Option ℕ) (at key : ℕ) (payload : List ℕ) (rest : Fields) → MayCome part last key → content_of part key ≡ Some Bytes → HaveForm part (Some key) (beyond at key (length payload)) rest
    → HaveForm part last at (has_bytes at key payload rest)
unfolding HaveForm
bytes_formed part last at key payload rest come is others = (refl, come, is, others)

nothing_behind : (part : Part) (last : Option ℕ) (at : ℕ) → IsTrue (may_end part last) → HaveForm part last at ends
unfolding HaveForm
nothing_behind part last at end = end

message_spelled : (at key : ℕ) (inner rest : Fields) (a b : List ℕ) → a ≡ spelling inner → b ≡ spelling rest → field_spelling key (length a) a ++ b ≡ spelling (has_message at key inner rest)
unfolding spelling
message_spelled at key inner rest a b is_a is_b =
    ap (λ (t : List ℕ). field_spelling key (length a) a ++ t) is_b ∙ ap (λ (t : List ℕ). field_spelling key (length t) t ++ spelling rest) is_a

nothing_spelled : [] ≡ spelling ends
unfolding spelling
nothing_spelled = refl

-- ---- one group

-- the payload of a group
abbrev payload_for : List ℕ → List PoiRec → List ℕ
payload_for category ps = short_field 1 category ++ section 2 (packed poi_packing ps)

-- the fields of a group
abbrev group_message : ℕ → List ℕ → ℕ → Fields → Fields
group_message at category place boxed = has_bytes at 10 category (has_message place 22 boxed ends)

group_spelled : (at place : ℕ) (category : List ℕ) (boxed : Fields) (b : List ℕ) → b ≡ spelling boxed → field_spelling 10 (length category) category ++ field_spelling 22 (length b) b ≡ spelling (group_message at category place boxed)
unfolding spelling
group_spelled at place category boxed b is =
    ap (λ (t : List ℕ). field_spelling 10 (length category) category ++ t) (sym (append-nil (field_spelling 22 (length b) b)))
    ∙ ap (λ (t : List ℕ). field_spelling 10 (length category) category ++ (field_spelling 22 (length t) t ++ [])) is

-- the payload of a packed group, from this place on, is a message of these records in which every rule holds
pub record IsGroupOf (rules : List Rule) (category : List ℕ) (ps : List PoiRec) (at : ℕ) : Type 0 where
  pub place : ℕ
  pub boxed : Fields
  pub form : HaveForm GroupPart None at (group_message at category place boxed)
  pub spelled : payload_for category ps ≡ spelling (group_message at category place boxed)
  pub sound : AllHold (section_facts poi_boxing (without_marks rules) (section_in boxed))
  pub records_are : in_blocks poi_packing ps ≡ flat_map (λ block. map (poi_read category block) block.entries) (section_in boxed).blocks

group_formed : (rules : List Rule) (category : List ℕ) (ps : List PoiRec) (w : Window) → length rules < 2 ^ 64 → IsTrue (is_category category) → AllByRecursion (FitsCategory category rules) ps → IsWindow w → length w.bytes < 2 ^ 64
    → left_of w ≡ payload_for category ps → IsGroupOf rules category ps w.place
group_formed rules category ps w few named fit window short left =
    let b : List ℕ = packed poi_packing ps in
    let one = stands w 10 category (head 22 b ++ b) window (left ∙ append_assoc (head 10 category) category (head 22 b ++ b)) in
    let place : ℕ = w.place + length (head 10 category) + length category in
    let v : Window = part_of w.bytes place w.end in
    let two = stands v 22 b [] (record { ordered = one.to; within = window.within }) (one.behind ∙ ap (λ (t : List ℕ). head 22 b ++ t) (sym (append-nil b))) in
    let start : ℕ = place + length (head 22 b) in
    let boxes : Window = part_of w.bytes start (start + length b) in
    let r : IsSection (poi_class category) (without_marks rules) boxes (in_blocks poi_packing ps) = packed_law category named rules ps boxes few fit (record { ordered = omega arith; within = omega (arith, two.to, window.within) }) short two.left in
    let spelled : b ≡ spelling r.fields = sym two.left ∙ r.form.spelled in
    record {
      place = place;
      boxed = r.fields;
      form = bytes_formed GroupPart None w.place 10 category (has_message place 22 r.fields ends) refl refl
          (message_formed GroupPart (Some 10) place 22 r.fields ends (length b) (ap length spelled) refl r.form.form (nothing_behind GroupPart (Some 22) (beyond place 22 (length b)) refl));
      spelled = group_spelled w.place place category r.fields b spelled;
      sound = r.sound;
      records_are = r.records_are;
    }

no_record : (ps : List PoiRec) → ps ≢ [] → length ps ≡ 0 → ⊥
no_record [] some e = some refl
no_record (p ∷ ps) some e = omega (arith, e)

-- some records stand in a block
some_block : (category : List ℕ) (ps : List PoiRec) (blocks : List Block) → ps ≢ [] → in_blocks poi_packing ps ≡ flat_map (λ (block : Block). map (poi_read category block) block.entries) blocks → nat_lt 0 (length blocks) ≡ true
some_block category ps [] some e =
    let same = length_permutation ps (in_blocks poi_packing ps) (K.kept poi_packing ps) in
    absurd (no_record ps some (sym same ∙ ap length e))
some_block category ps (block ∷ blocks) some e = some_blocks block blocks

-- ---- all groups

-- the groups of these categories, from the window's place on, are of these records, and every rule holds of them
pub record AreGroups (rules : List Rule) (records : List PoiRec) (categories : List (List ℕ)) (last : Option ℕ) (w : Window) : Type 0 where
  pub fields : Fields
  pub form : HaveForm Pois last w.place fields
  pub spelled : left_of w ≡ spelling fields
  pub sound : (prev : Option Group) → AllByRecursion (λ c. may_rise (category_before prev) c ≡ true) categories → AllHold (flat_map (group_facts (without_marks rules)) (with_before prev (groups_in fields)))
  pub records_are : flat_map (λ c. in_blocks poi_packing (of_category c records)) categories ≡ flat_map group_records (groups_in fields)

groups_formed : (rules : List Rule) (records : List PoiRec) (categories : List (List ℕ)) (last : Option ℕ) (w : Window) → length rules < 2 ^ 64 → AllByRecursion FitsPoi records → IsTrue (may_end Pois last) → MayCome Pois last 14
    → IsRisingBy text_cmp (λ c. c) categories → AllByRecursion (λ c. IsTrue (is_category c)) categories → AllByRecursion (λ c. of_category c records ≢ []) categories
    → IsWindow w → length w.bytes < 2 ^ 64 → left_of w ≡ flat_map (λ c. group c (of_category c records)) categories → AreGroups rules records categories last w
groups_formed rules records [] last w few fit end come rising named some window short left = record {
  fields = ends;
  form = nothing_behind Pois last w.place end;
  spelled = left ∙ nothing_spelled;
  sound = λ prev up. tt;
  records_are = refl;
}
groups_formed rules records (c ∷ cs) last w few fit end come rising named some window short left =
    let ps : List PoiRec = of_category c records in
    let a : List ℕ = payload_for c ps in
    let rest : List ℕ = flat_map (λ (d : List ℕ). group d (of_category d records)) cs in
    let side : Beside = without_marks rules in
    let one = stands w 14 a rest window (left ∙ append_assoc (head 14 a) a rest) in
    let from : ℕ = w.place + length (head 14 a) in
    let to : ℕ = from + length a in
    let g = group_formed rules c ps (part_of w.bytes from to) few named.0 (fit_category c rules records fit) (record { ordered = omega arith; within = omega (arith, one.to, window.within) }) short one.left in
    let inner : Fields = group_message from c g.place g.boxed in
    let it : Group = record { at = w.place; category = placed from c; section = section_in g.boxed } in
    let more = groups_formed rules records cs (Some 14) (part_of w.bytes to w.end) few fit refl refl rising.1 named.1 some.1 (record { ordered = one.to; within = window.within }) short one.behind in
    record {
      fields = has_message w.place 14 inner more.fields;
      form = message_formed Pois last w.place 14 inner more.fields (length a) (ap length g.spelled) come g.form more.form;
      spelled = left ∙ message_spelled w.place 14 inner more.fields a rest g.spelled (sym one.behind ∙ more.spelled);
      sound = λ prev up.
          all_append (group_facts side (prev, it)) (flat_map (group_facts side) (with_before (Some it) (groups_in more.fields)))
          (category_follows prev it up.0, (named.0, (some_block c ps (section_in g.boxed).blocks some.0 g.records_are, g.sound)))
          (more.sound (Some it) (all_map (λ d. text_cmp c d ≡ Less) (λ d. may_rise c d ≡ true) cs (rises c) rising.0));
      records_are =
          ap (λ (rs : List PoiRec). rs ++ flat_map (λ (d : List ℕ). in_blocks poi_packing (of_category d records)) cs) g.records_are
          ∙ ap (λ (rs : List PoiRec). group_records it ++ rs) more.records_are;
    }

pub packed_groups : PackedGroupsLaw
unfolding packed_pois groups_facts
packed_groups rules records w few fit window short left =
    let own : List (List ℕ) = map (λ (p : PoiRec). p.category) records in
    let l = groups_formed rules records (categories_of records) None w few fit refl refl (categories_rise records) (all_put (λ c. IsTrue (is_category c)) [] own tt (are_named records fit))
    (all_put (λ c. of_category c records ≢ []) [] own tt (have_some records)) window short left in
    record { fields = l.fields; form = record { form = l.form; spelled = l.spelled }; sound = l.sound None (first_rises (categories_of records)); records_are = l.records_are }

pub packed_groups_read : PackedGroupsReadLaw
packed_groups_read rules records w few fit memory left =
    let s = packed_groups rules records w few fit memory.window memory.few left in record {
      fields = s.fields;
      read = spelled_is_read s.fields Pois None w memory s.form.form s.form.spelled;
      sound = (one_first_break_law (groups_facts (without_marks rules) s.fields)).none.1 s.sound;
      records_are = sym s.records_are;
    }

-- ---- what a sound section holds

entries_fit : (category : List ℕ) → IsTrue (is_category category) → (beside : Beside) (block : Block) (entries : List Entry) (prev : Option Entry) → PassUtf8 block.texts → AllHold (flat_map (poi_facts beside block) (with_before prev entries))
    → AllByRecursion FitsPoi (map (poi_read category block) entries)
entries_fit category named beside block [] prev utf8 all = tt
entries_fit category named beside block (e ∷ es) prev utf8 all =
    let rest : List Fact = flat_map (poi_facts beside block) (with_before (Some e) es) in
    let suits = (poi_lawful category named).sound beside block prev e utf8 (all_before Holds (poi_facts beside block (prev, e)) rest all) in
    (suits.fits, entries_fit category named beside block es (Some e) utf8 (all_behind Holds (poi_facts beside block (prev, e)) rest all))

blocks_fit : (category : List ℕ) → IsTrue (is_category category) → (beside : Beside) (blocks : List Block) → AllHold (flat_map (block_facts poi_boxing beside) blocks)
    → AllByRecursion FitsPoi (flat_map (λ (block : Block). map (poi_read category block) block.entries) blocks)
blocks_fit category named beside [] all = tt
blocks_fit category named beside (b ∷ bs) all =
    let rest : List Fact = flat_map (block_facts poi_boxing beside) bs in
    let own = all_before Holds (block_facts poi_boxing beside b) rest all in
    let texts : List Fact = map text_fact (with_before None b.texts) in
    let entries : List Fact = flat_map (poi_facts beside b) (with_before None b.entries) in
    let utf8 = texts_utf8 b.texts None (all_before Holds texts entries own.1) in
    all_join FitsPoi (map (poi_read category b) b.entries) (flat_map (λ (block : Block). map (poi_read category block) block.entries) bs)
    (entries_fit category named beside b b.entries None utf8 (all_behind Holds texts entries own.1)) (blocks_fit category named beside bs (all_behind Holds (block_facts poi_boxing beside b) rest all))

group_fits : (beside : Beside) (pair : Option Group × Group) → AllHold (group_facts beside pair) → AllByRecursion FitsPoi (group_records pair.1)
unfolding section_facts
group_fits beside pair all =
    let g : Group = pair.1 in
    blocks_fit g.category.value all.1.0 beside g.section.blocks (all_behind Holds _ (flat_map (block_facts poi_boxing beside) g.section.blocks) all.1.1.1)

groups_fit : (beside : Beside) (groups : List Group) (prev : Option Group) → AllHold (flat_map (group_facts beside) (with_before prev groups)) → AllByRecursion FitsPoi (flat_map group_records groups)
groups_fit beside [] prev all = tt
groups_fit beside (g ∷ gs) prev all =
    let front : List Fact = group_facts beside (prev, g) in
    let rest : List Fact = flat_map (group_facts beside) (with_before (Some g) gs) in
    all_join FitsPoi (group_records g) (flat_map group_records gs) (group_fits beside (prev, g) (all_before Holds front rest all)) (groups_fit beside gs (Some g) (all_behind Holds front rest all))

pub fitting_groups : FittingGroupsLaw
unfolding groups_facts
fitting_groups beside w records s = subst (AllByRecursion FitsPoi) (sym s.records_are) (groups_fit beside (groups_in s.fields) None s.sound)
