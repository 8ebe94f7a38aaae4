-- Groups that are asked, one after another.
use Rattle.std.proofs.Common.{◌≡◌, ◌≢◌, ℕ, ◌+◌, Bool, true, false, cond, List, [], ◌∷◌, ◌++◌, length, flat_map, Option, Some, None, Result, Ok, Err, refl, sym, ap, subst, ◌∙◌, arith, append_assoc, length-append}
use Rattle.std.specs.Prelude.{filter_map, nat_lt, slice_range, MatchOption}
use Rattle.std.proofs.lemmas.List.{append-nil}
use Rattle.live_model.specs.Rules.{is_category}
use Rattle.obf_wire.specs.declared.field.Field.{Field}
use Rattle.obf_wire.specs.declared.file.FileBreak.{FileBreak}
use Rattle.obf_wire.specs.declared.file.FileKind.TheVariants.{BadCount, BadOrder, BadText}
use Rattle.obf_wire.specs.Fields.{Window, IsWindow, part_of}
use Rattle.file_grammar.specs.declared.parts.Boxed.TheVariants.{Poi}
use Rattle.file_grammar.specs.declared.parts.Content.{Content}
use Rattle.file_grammar.specs.declared.parts.Content.TheVariants.{Message}
use Rattle.file_grammar.specs.declared.parts.Part.{Part}
use Rattle.file_grammar.specs.declared.parts.Part.TheVariants.{Boxes, Group as GroupPart, Pois}
use Rattle.file_grammar.specs.BoxRules.{Beside, follows, section_facts, with_before}
use Rattle.file_grammar.specs.Facts.{Fact, earlier, fact, failing, first_failing}
use Rattle.file_grammar.specs.Messages.{Fields, ends, has_number, has_bytes, has_numbers, has_message}
use Rattle.file_grammar.specs.PoiRules.{Group, categories_rise, group_facts, group_records, group_with, groups_facts, groups_in, poi_boxing}
use Rattle.file_grammar.specs.Readings.{break_in, message_at, payload_of}
use Rattle.file_grammar.specs.Sections.{Placed, blocks_in, entries_from, messages_in, placed, section_in, texts_in}
use Rattle.file_grammar.specs.Tables.{content_of}
use Rattle.file_grammar.specs.Walks.{HoldsMessage, IsNext, Standing, left_in}
use Rattle.file_grammar.proofs.Earlier.{and_more, and_one, earlier_none, one_first_break_law}
use Rattle.file_grammar.proofs.FileShape.{BeginsBytes, begins_bytes}
use Rattle.file_grammar.proofs.Shaped.{AreMessages, BeginsMessage, IsShaped, are_messages, begins_message, shaped}
use Rattle.boxed_exact.specs.Breaks.{rules_break as boxed_break, section_break, form_then}
use Rattle.boxed_exact.specs.declared.fields.Payload.{Payload}
use Rattle.boxed_exact.specs.Fields.{HoldsInner}
use Rattle.boxed_exact.specs.Pairs.{AreBlocks}
use Rattle.boxed_exact.proofs.BlockWalk.{held_block}
use Rattle.boxed_exact.proofs.RecordWalk.{IsBlockOf, block_of}
use Rattle.boxed_check.specs.Keeping.{IsKept, entries_of}
use Rattle.boxed_check.specs.declared.kept.Kept.{Kept}
use Rattle.poi_section.specs.declared.group_rules.GroupAsked.{GroupAsked}
use Rattle.poi_section.specs.declared.kept.GroupKept.{GroupKept}
use Rattle.poi_section.specs.declared.kept.PoisKept.{PoisKept}
use Rattle.poi_section.specs.Groups.{AreGroupsKept, ArePoisKept, IsGroupAsked, IsGroupKept, IsPut, category_before, may_rise, pois_break, rules_break}
use Rattle.poi_section.proofs.GroupWalk.{count_records, some_blocks}

-- ---- the shape of a group

pub record IsGroupMessage (fields : Fields) : Type 0 where
  pub a : ℕ
  pub category : List ℕ
  pub b : ℕ
  pub boxed : Fields
  pub rest : Fields
  pub is : fields ≡ has_bytes a 10 category (has_message b 22 boxed rest)

pub group_message : (fields : Fields) → IsShaped GroupPart None fields → IsGroupMessage fields
group_message fields s =
    let one : BeginsBytes GroupPart 10 fields = begins_bytes GroupPart None 10 fields refl refl refl s in
    let two : BeginsMessage GroupPart 22 (Boxes Poi) one.rest = begins_message GroupPart (Some 10) 22 (Boxes Poi) one.rest refl refl refl one.shaped in
    record { a = one.at; category = one.text; b = two.at; boxed = two.inner; rest = two.rest; is = one.is ∙ ap (has_bytes one.at 10 one.text) two.is }

abbrev holds_part : Part → Option Content
holds_part part = Some (Message part)

boxes_part : (part : Part) → content_of GroupPart 22 ≡ holds_part part → Boxes Poi ≡ part
boxes_part part e = cc

-- the section that a group holds
pub held_boxes : (s : Standing) (from to : ℕ) (inner : Fields) → s.part ≡ GroupPart → HoldsInner s from to 22 inner → message_at (Boxes Poi) (part_of s.window.bytes from to) ≡ Ok inner
held_boxes s from to inner is h =
    let c : content_of GroupPart 22 ≡ holds_part h.part = subst (λ (p : Part). content_of p 22 ≡ holds_part h.part) is h.content in
    subst (λ (p : Part). message_at p (part_of s.window.bytes from to) ≡ Ok inner) (sym (boxes_part h.part c)) h.read

group_part : (part : Part) → content_of Pois 14 ≡ holds_part part → GroupPart ≡ part
group_part part e = cc

-- the group that a field holds
held_group : (s : Standing) (f : Field) (inner : Fields) → s.part ≡ Pois → f.key ≡ 14 → HoldsMessage s f inner → message_at GroupPart (payload_of s.window.bytes f) ≡ Ok inner
held_group s f inner is key h =
    let c : content_of Pois 14 ≡ holds_part h.part = subst (λ (p : Part). content_of p 14 ≡ holds_part h.part) is (subst (λ (k : ℕ). content_of s.part k ≡ holds_part h.part) key h.content) in
    subst (λ (p : Part). message_at p (payload_of s.window.bytes f) ≡ Ok inner) (sym (group_part h.part c)) h.read

-- ---- whether a section has a block

-- a block stands first among these
pub some_block : (s behind : Standing) (f : Field) (blocks : Fields) → s.part ≡ Boxes Poi → AreBlocks blocks → IsNext s behind f blocks → nat_lt 0 (length (blocks_in (messages_in blocks))) ≡ true
some_block s behind f ends part are n = absurd n
some_block s behind f (has_number at key value rest) part are n = absurd are
some_block s behind f (has_bytes at key value rest) part are n = absurd are
some_block s behind f (has_numbers at key value rest) part are n = absurd are
some_block s behind f (has_message at key inner rest) part are n =
    let read = held_block Poi poi_boxing s f inner part (n.1 ∙ are.0) n.2 in
    let b : IsBlockOf inner = block_of Poi (payload_of s.window.bytes f) inner read in
    ap (λ (fields : Fields). nat_lt 0 (length (blocks_in (placed at fields ∷ messages_in rest)))) b.is ∙ some_blocks (record { at = at; texts = texts_in b.texts; entries = entries_from 0 (messages_in b.records) }) (blocks_in (messages_in rest))

-- ---- one group

not_none : (a : Option FileBreak) (b : FileBreak) → earlier a (Some b) ≢ None
not_none None b = λ e. absurd cc
not_none (Some a) b = λ e. absurd (two _ e)
  where
    two : (c : Bool) → cond {A = Option FileBreak} c (Some a) (Some b) ≡ None → ⊥
    two true e = absurd cc
    two false e = absurd cc

-- four rules of a group, one after another
pub asked_group : (beside : Beside) (prev : Option Group) (group : Group) (start a b c new : Option FileBreak) → a ≡ earlier start (failing (fact group.at BadOrder (follows categories_rise (prev, group))))
    → b ≡ earlier a (failing (fact group.category.at BadText (is_category group.category.value))) → c ≡ earlier b (failing (fact group.at BadCount (nat_lt 0 (length group.section.blocks))))
    → new ≡ earlier c (first_failing (section_facts poi_boxing beside group.section)) → new ≡ earlier start (first_failing (group_facts beside (prev, group)))
asked_group beside prev group start a b c new pa pb pc pd =
    let rest : List Fact = section_facts poi_boxing beside group.section in
    let two : Fact = fact group.category.at BadText (is_category group.category.value) in
    let three : Fact = fact group.at BadCount (nat_lt 0 (length group.section.blocks)) in
    and_one start a new (fact group.at BadOrder (follows categories_rise (prev, group))) (two ∷ three ∷ rest) pa (and_one a b new two (three ∷ rest) pb (and_one b c new three rest pc pd))

-- the order, by the category before
pub rises_is : (prev : Option Group) (group : Group) → may_rise (category_before prev) group.category.value ≡ follows categories_rise (prev, group)
rises_is None group = empty_first group.category.value
  where
    empty_first : (text : List ℕ) → may_rise [] text ≡ true
    empty_first [] = refl
    empty_first (x ∷ xs) = refl
rises_is (Some before) group = refl

some_is : (a b : Group) → Some a ≡ Some b → a ≡ b
some_is a b e = cc

abbrev fields_ok : Fields → Result Fields FileBreak
fields_ok x = Ok x

same_fields : (a b : Fields) → fields_ok a ≡ fields_ok b → a ≡ b
same_fields a b e = cc

-- where the section is good, the group stands so
kept_there : (beside : Beside) (bytes : List ℕ) (category records : Payload) (boxed : Fields) (group : Group) (new : Option FileBreak) (kept : Option Kept) → group.section ≡ section_in boxed → slice_range bytes category.from category.to ≡ group.category.value
    → IsWindow (part_of bytes category.from category.to) → IsWindow (part_of bytes records.from records.to) → message_at (Boxes Poi) (part_of bytes records.from records.to) ≡ Ok boxed → MatchOption kept (new ≢ None) (IsKept Poi poi_boxing beside (part_of bytes records.from records.to))
    → MatchOption kept (new ≢ None) (λ kept. IsGroupKept beside bytes (record { category = category; records = records; kept = kept }) group)
kept_there beside bytes category records boxed group new None section slice inside within read bad = bad
kept_there beside bytes category records boxed group new (Some kept) section slice inside within read is = record { inside = inside; within = within; category = slice; section = is; is = ap section_in (same_fields is.fields boxed (sym is.read ∙ read)) ∙ sym section }

-- a group whose category and section stand there, asked rule by rule
pub group_asked : (beside : Beside) (bytes : List ℕ) (prev : Option Group) (at : ℕ) (before : List ℕ) (fields : Fields) (group : Group) (m : IsGroupMessage fields) (text : List ℕ) (category records : Payload) (w : Window) (rise named some : Bool)
    (start a b c new : Option FileBreak) (kept : Option Kept) → group_with at fields ≡ Some group → category_before prev ≡ before → slice_range bytes category.from category.to ≡ m.category → text ≡ slice_range bytes category.from category.to → category.at ≡ m.a
    → w ≡ part_of bytes records.from records.to → message_at (Boxes Poi) (part_of bytes records.from records.to) ≡ Ok m.boxed → rise ≡ may_rise before text → named ≡ is_category text → some ≡ nat_lt 0 (length (section_in m.boxed).blocks)
    → a ≡ earlier start (failing (fact at BadOrder rise)) → b ≡ earlier a (failing (fact category.at BadText named)) → c ≡ earlier b (failing (fact at BadCount some)) → new ≡ earlier c (section_break Poi poi_boxing beside w)
    → MatchOption kept (new ≢ None) (IsKept Poi poi_boxing beside w) → IsWindow (part_of bytes category.from category.to) → IsWindow (part_of bytes records.from records.to) → IsGroupAsked beside bytes prev group start new (record { category = category; records = records; kept = kept })
group_asked beside bytes prev at before fields group m text category records w rise named some start a b c new kept is seen slice text_is at_is there read rise_is named_is some_are one two three four stands inside within =
    let it : Group = record { at = at; category = placed m.a m.category; section = section_in m.boxed } in
    let same : it ≡ group = some_is it group (sym (ap (group_with at) m.is) ∙ is) in
    let value : text ≡ m.category = text_is ∙ slice in
    let rises : rise ≡ follows categories_rise (prev, it) = rise_is ∙ ap (λ (t : List ℕ). may_rise t text) (sym seen) ∙ ap (may_rise (category_before prev)) value ∙ rises_is prev it in
    let pa = one ∙ ap (λ (holds : Bool). earlier start (failing (fact at BadOrder holds))) rises in
    let pb =
    two ∙ ap (λ (holds : Bool). earlier a (failing (fact category.at BadText holds))) (named_is ∙ ap is_category value)
    ∙ ap (λ (place : ℕ). earlier a (failing (fact place BadText (is_category m.category)))) at_is in
    let pc = three ∙ ap (λ (holds : Bool). earlier b (failing (fact at BadCount holds))) some_are in
    let pd = four ∙ ap (λ (v : Window). earlier c (section_break Poi poi_boxing beside v)) there ∙ ap (λ (r : Result Fields FileBreak). earlier c (form_then (boxed_break poi_boxing beside) r)) read in
    subst (λ (g : Group). IsGroupAsked beside bytes prev g start new (record { category = category; records = records; kept = kept })) same
    (record {
      broken = asked_group beside prev it start a b c new pa pb pc pd;
      category = slice;
      kept = kept_there beside bytes category records m.boxed it new kept refl slice inside within read (subst (λ (v : Window). MatchOption kept (new ≢ None) (IsKept Poi poi_boxing beside v)) there stands);
    })

-- ---- groups that were asked

abbrev facts_behind : Beside → Option Group → Fields → List Fact
facts_behind beside before fields = flat_map (group_facts beside) (with_before before (groups_in fields))

-- those that were passed stand so, and have so many records
pub record ArePassed (beside : Beside) (bytes : List ℕ) (all rest : Fields) (kept : List GroupKept) (count : ℕ) : Type 0 where
  pub groups : List Group
  pub are_all : groups_in all ≡ groups ++ groups_in rest
  pub stand : AreGroupsKept beside bytes kept groups
  pub counted : count ≡ length (flat_map group_records groups)

-- behind some of the groups, after this category
pub record GroupsAsked (beside : Beside) (bytes : List ℕ) (all : Fields) (start now : Option FileBreak) (kept : List GroupKept) (count : ℕ) (text : List ℕ) (s : Standing) : Type 0 where
  pub before : Option Group
  pub rest : Fields
  pub left : left_in s ≡ Ok rest
  pub are : AreMessages 14 GroupPart rest
  pub seen : category_before before ≡ text
  pub asked : earlier start (first_failing (facts_behind beside None all)) ≡ earlier now (first_failing (facts_behind beside before rest))
  pub passed : now ≡ None → ArePassed beside bytes all rest kept count

pub groups_begin : (beside : Beside) (bytes : List ℕ) (all : Fields) (start : Option FileBreak) (w : Window) (s : Standing) → s ≡ record { part = Pois; last = None; window = w } → message_at Pois w ≡ Ok all → GroupsAsked beside bytes all start start [] 0 [] s
groups_begin beside bytes all start w s is e = record {
  before = None;
  rest = all;
  left = subst (λ (s : Standing). left_in s ≡ Ok all) (sym is) e;
  are = are_messages Pois None 14 GroupPart all refl refl refl (shaped Pois w all e);
  seen = refl;
  asked = refl;
  passed = λ none. record { groups = []; are_all = refl; stand = tt; counted = refl };
}

kept_one : {A B : Type 0} (f : A → Option B) (x : A) (xs : List A) (y : B) → f x ≡ Some y → filter_map f (x ∷ xs) ≡ y ∷ filter_map f xs
kept_one f x xs y e = rw e refl

none_before : (a b : Option FileBreak) → earlier a b ≡ None → a ≡ None
none_before None b e = refl
none_before (Some a) None e = absurd cc
none_before (Some a) (Some b) e = absurd (not_none (Some a) b e)

stand_more : (beside : Beside) (bytes : List ℕ) (kept : List GroupKept) (groups : List Group) (one : GroupKept) (group : Group) → AreGroupsKept beside bytes kept groups → IsGroupKept beside bytes one group → AreGroupsKept beside bytes (kept ++ one ∷ []) (groups ++ group ∷ [])
stand_more beside bytes [] [] one group are is = (is, tt)
stand_more beside bytes [] (g ∷ gs) one group are is = absurd are
stand_more beside bytes (k ∷ ks) [] one group are is = absurd are
stand_more beside bytes (k ∷ ks) (g ∷ gs) one group are is = (are.0, stand_more beside bytes ks gs one group are.1 is)

records_join : (groups : List Group) (group : Group) → length (flat_map group_records (groups ++ group ∷ [])) ≡ length (flat_map group_records groups) + length (group_records group)
records_join [] group = let e = length-append (group_records group) [] in omega (arith, e)
records_join (g ∷ gs) group =
    let ih = records_join gs group in
    let l = length-append (group_records g) (flat_map group_records (gs ++ group ∷ [])) in
    let r = length-append (group_records g) (flat_map group_records gs) in
    omega (arith, ih, l, r)

-- a group of which every rule holds is passed
pass_one : (beside : Beside) (bytes : List ℕ) (all rest behind : Fields) (kept new : List GroupKept) (count sum : ℕ) (prev : Option Group) (group : Group) (old now : Option FileBreak) (asked : GroupAsked) → groups_in rest ≡ group ∷ groups_in behind → ArePassed beside bytes all rest kept count
    → IsGroupAsked beside bytes prev group old now asked → IsPut asked count kept new sum → now ≡ None → ArePassed beside bytes all behind new sum
pass_one beside bytes all rest behind kept new count sum prev group old now asked first p a put none = one asked.kept a.kept put.put put.sum_is
  where
    one : (k : Option Kept) → MatchOption k (now ≢ None) (λ kept. IsGroupKept beside bytes (record { category = asked.category; records = asked.records; kept = kept }) group)
        → MatchOption k (new ≡ kept) (λ k. new ≡ kept ++ record { category = asked.category; records = asked.records; kept = k } ∷ []) → MatchOption k (sum ≡ count) (λ k. sum ≡ count + k.records) → ArePassed beside bytes all behind new sum
    one None bad added counted = absurd (bad none)
    one (Some k) is added counted =
        let own = count_records group.category.value group.section.blocks in
        let entries : length (entries_of (section_in is.section.fields).blocks) ≡ length (entries_of group.section.blocks) = ap (λ s. length (entries_of s.blocks)) is.is in
        let joined = records_join p.groups group in
        record {
          groups = p.groups ++ group ∷ [];
          are_all = p.are_all ∙ ap (λ (gs : List Group). p.groups ++ gs) first ∙ sym (append_assoc p.groups (group ∷ []) (groups_in behind));
          stand = subst (λ (ks : List GroupKept). AreGroupsKept beside bytes ks (p.groups ++ group ∷ [])) (sym added) (stand_more beside bytes kept p.groups _ group p.stand is);
          counted = omega (arith, counted, p.counted, joined, own, entries, is.section.records);
        }

groups_step : (beside : Beside) (bytes : List ℕ) (all : Fields) (start now new : Option FileBreak) (kept more : List GroupKept) (count sum : ℕ) (before : Option Group) (rest : Fields) (s behind : Standing) (f : Field) (asked : GroupAsked) → s.part ≡ Pois → AreMessages 14 GroupPart rest
    → earlier start (first_failing (facts_behind beside None all)) ≡ earlier now (first_failing (facts_behind beside before rest)) → (now ≡ None → ArePassed beside bytes all rest kept count) → IsNext s behind f rest
    → ((fields : Fields) (group : Group) → message_at GroupPart (payload_of s.window.bytes f) ≡ Ok fields → group_with f.at fields ≡ Some group → IsGroupAsked beside bytes before group now new asked) → IsPut asked count kept more sum
    → GroupsAsked beside bytes all start new more sum (slice_range bytes asked.category.from asked.category.to) behind
groups_step beside bytes all start now new kept more count sum before ends s behind f asked part are told passed n one put = absurd n
groups_step beside bytes all start now new kept more count sum before (has_number at key value rest) s behind f asked part are told passed n one put = absurd are
groups_step beside bytes all start now new kept more count sum before (has_bytes at key value rest) s behind f asked part are told passed n one put = absurd are
groups_step beside bytes all start now new kept more count sum before (has_numbers at key value rest) s behind f asked part are told passed n one put = absurd are
groups_step beside bytes all start now new kept more count sum before (has_message at key inner rest) s behind f asked part are told passed n one put =
    let read = held_group s f inner part (n.1 ∙ are.0) n.2 in
    let m : IsGroupMessage inner = group_message inner are.1 in
    let group : Group = record { at = at; category = placed m.a m.category; section = section_in m.boxed } in
    let is : group_with at inner ≡ Some group = ap (group_with at) m.is in
    let a = one inner group read (subst (λ (p : ℕ). group_with p inner ≡ Some group) (sym n.0) is) in
    let first : groups_in (has_message at key inner rest) ≡ group ∷ groups_in rest = kept_one (λ (m : Placed Fields). group_with m.at m.value) (placed at inner) (messages_in rest) group is in
    record {
      before = Some group;
      rest = rest;
      left = n.3;
      are = are.2;
      seen = sym a.category;
      asked =
          told ∙ ap (λ (gs : List Group). earlier now (first_failing (flat_map (group_facts beside) (with_before before gs)))) first
          ∙ sym (and_more now new (earlier new (first_failing (facts_behind beside (Some group) rest))) (group_facts beside (before, group)) (facts_behind beside (Some group) rest) a.broken refl);
      passed = λ none. pass_one beside bytes all (has_message at key inner rest) rest kept more count sum before group now new asked first
          (passed (none_before now (first_failing (group_facts beside (before, group))) (sym a.broken ∙ none))) a put none;
    }

-- the next of the groups
pub groups_ask : (beside : Beside) (bytes : List ℕ) (all : Fields) (start now new : Option FileBreak) (kept more : List GroupKept) (count sum : ℕ) (text : List ℕ) (s behind : Standing) (f : Field) (asked : GroupAsked) → s.part ≡ Pois
    → GroupsAsked beside bytes all start now kept count text s → ((fields : Fields) → left_in s ≡ Ok fields → IsNext s behind f fields)
    → ((fields : Fields) (group : Group) (prev : Option Group) → message_at GroupPart (payload_of s.window.bytes f) ≡ Ok fields → group_with f.at fields ≡ Some group → category_before prev ≡ text → IsGroupAsked beside bytes prev group now new asked)
    → IsPut asked count kept more sum → GroupsAsked beside bytes all start new more sum (slice_range bytes asked.category.from asked.category.to) behind
groups_ask beside bytes all start now new kept more count sum text s behind f asked part l next one put =
    groups_step beside bytes all start now new kept more count sum l.before l.rest s behind f asked part l.are l.asked l.passed (next l.rest l.left) (λ fields group e is. one fields group l.before e is l.seen) put

-- all were asked
pub groups_broken : (beside : Beside) (bytes : List ℕ) (all : Fields) (start now : Option FileBreak) (kept : List GroupKept) (count : ℕ) (text : List ℕ) (s : Standing) → GroupsAsked beside bytes all start now kept count text s
    → ((fields : Fields) → left_in s ≡ Ok fields → fields ≡ ends) → now ≡ earlier start (rules_break beside all)
unfolding groups_facts
groups_broken beside bytes all start now kept count text s l last =
    sym (l.asked ∙ ap (λ (r : Fields). earlier now (first_failing (facts_behind beside l.before r))) (last l.rest l.left) ∙ earlier_none now)

-- every rule holds of all, and they stand so
pub groups_kept : (beside : Beside) (w : Window) (all : Fields) (kept : PoisKept) (text : List ℕ) (s : Standing) → message_at Pois w ≡ Ok all → GroupsAsked beside w.bytes all None None kept.groups.items kept.records text s
    → ((fields : Fields) → left_in s ≡ Ok fields → fields ≡ ends) → ArePoisKept beside w kept
groups_kept beside w all kept text s read l last =
    let none : rules_break beside all ≡ None = sym (groups_broken beside w.bytes all None None kept.groups.items kept.records text s l last) in
    let p = l.passed refl in
    let are : p.groups ≡ groups_in all = sym (append-nil p.groups) ∙ ap (λ (r : Fields). p.groups ++ groups_in r) (sym (last l.rest l.left)) ∙ sym p.are_all in
    record {
      fields = all;
      read = read;
      sound = (one_first_break_law (groups_facts beside all)).none.0 none;
      groups = subst (AreGroupsKept beside w.bytes kept.groups.items) are p.stand;
      records = p.counted ∙ ap (λ (gs : List Group). length (flat_map group_records gs)) are;
    }

-- ---- the form

-- without a break of form there are fields
pub form_is : (w : Window) → None ≡ break_in (message_at Pois w) → (fields : Fields) × (message_at Pois w ≡ Ok fields)
form_is w e = one (message_at Pois w) refl e
  where
    one : (r : Result Fields FileBreak) → message_at Pois w ≡ r → None ≡ break_in r → (fields : Fields) × (message_at Pois w ≡ Ok fields)
    one (Ok fields) is e = (fields, is)
    one (Err found) is e = absurd cc

-- of good form, the first break is that of the rules
pub rules_broken : (beside : Beside) (w : Window) (fields : Fields) → message_at Pois w ≡ Ok fields → rules_break beside fields ≡ pois_break beside w
rules_broken beside w fields read = sym (ap (form_then (rules_break beside)) read)
