-- Roads and restrictions that were seen: their rules are those of the records.
use Rattle.std.proofs.Common.{◌≡◌, ℕ, Bool, List, [], ◌∷◌, length, map, Option, Some, None, refl, sym, ap, ◌∙◌}
use Rattle.std.specs.Prelude.{◌&&◌}
use Rattle.std.specs.List.{list_all}
use Rattle.std.specs.Option.{option_map}
use Rattle.live_model.specs.declared.points.Rect.{Rect}
use Rattle.coord_delta.specs.Steps.{Place, places}
use Rattle.obf_wire.specs.declared.file.FileBreak.{FileBreak}
use Rattle.file_grammar.specs.BoxRules.{Beside, follows, holds_place, is_on_grid}
use Rattle.file_grammar.specs.Facts.{Fact, earlier, failing, first_failing}
use Rattle.file_grammar.specs.RecordRules.{ordinals_rise}
use Rattle.file_grammar.specs.RoadRules.{BanFields, RoadFields, Stop, ban_boxing, ban_facts, ban_fields, road_boxing, road_facts, road_fields, stops}
use Rattle.file_grammar.specs.Sections.{Placed, Block, Entry}
use Rattle.file_grammar.proofs.Earlier.{and_last, and_one}
use Rattle.boxed_exact.specs.declared.block_texts.BlockTexts.{BlockTexts}
use Rattle.boxed_exact.specs.Records.{IsRecordChecked}
use Rattle.boxed_exact.specs.Texts.{AreTexts}
use Rattle.road_section.specs.declared.ban_rules.BanSeen.{BanSeen}
use Rattle.road_section.specs.declared.road_rules.RoadSeen.{RoadSeen}
use Rattle.road_section.specs.Held.{ban_held, road_held}
use Rattle.road_section.specs.SeenFacts.{IsBanSeen, IsRoadSeen, ban_facts_by, ban_seen_facts, key_of, may_follow, names_value, road_facts_by, road_seen_facts}
use Rattle.road_section.specs.Stops.{is_held, is_numbered, is_placed}

-- eight facts, asked one after another
pub asked_eight : (start a b c d e f g new : Option FileBreak) (one two three four five six seven eight : Fact) → a ≡ earlier start (failing one) → b ≡ earlier a (failing two) → c ≡ earlier b (failing three) → d ≡ earlier c (failing four)
    → e ≡ earlier d (failing five) → f ≡ earlier e (failing six) → g ≡ earlier f (failing seven) → new ≡ earlier g (failing eight)
    → new ≡ earlier start (first_failing (one ∷ two ∷ three ∷ four ∷ five ∷ six ∷ seven ∷ eight ∷ []))
asked_eight start a b c d e f g new one two three four five six seven eight pa pb pc pd pe pf pg ph =
    and_one start a new one (two ∷ three ∷ four ∷ five ∷ six ∷ seven ∷ eight ∷ []) pa
    (and_one a b new two (three ∷ four ∷ five ∷ six ∷ seven ∷ eight ∷ []) pb
    (and_one b c new three (four ∷ five ∷ six ∷ seven ∷ eight ∷ []) pc
    (and_one c d new four (five ∷ six ∷ seven ∷ eight ∷ []) pd
    (and_one d e new five (six ∷ seven ∷ eight ∷ []) pe
    (and_one e f new six (seven ∷ eight ∷ []) pf
    (and_one f g new seven (eight ∷ []) pg
    (and_last g new eight ph)))))))

follows_is : (prev : Option Entry) (entry : Entry) → may_follow (option_map key_of prev) (key_of entry) ≡ follows ordinals_rise (prev, entry)
follows_is None entry = refl
follows_is (Some before) entry = refl

-- ---- restrictions

ban_facts_seen : (beside : Beside) (holder : Rect) (block : Block) (texts : ℕ) (prev : Option Entry) (before : Option ℕ) (entry : Entry) (seen : BanSeen) → length block.texts ≡ texts → option_map key_of prev ≡ before → IsBanSeen holder entry seen
    → ban_seen_facts beside texts before seen ≡ ban_facts beside block (prev, entry)
ban_facts_seen beside holder block texts prev before entry seen is_texts is_before s =
    let held : BanFields = ban_held seen.fields s.numbers in
    let grid = list_all is_on_grid (places s.numbers) in
    let count = length (places s.numbers) in
    ap (λ (at : ℕ). ban_facts_by beside (may_follow before seen.ordinal) texts at seen.ordinal held seen.points.on_grid seen.points.count) s.at
    ∙ ap (λ (n : ℕ). ban_facts_by beside (may_follow before n) texts entry.at n held seen.points.on_grid seen.points.count) s.ordinal
    ∙ ap (λ (b : Option ℕ). ban_facts_by beside (may_follow b entry.ordinal) texts entry.at entry.ordinal held seen.points.on_grid seen.points.count) (sym is_before)
    ∙ ap (λ (n : ℕ). ban_facts_by beside (may_follow (option_map key_of prev) entry.ordinal) n entry.at entry.ordinal held seen.points.on_grid seen.points.count) (sym is_texts)
    ∙ ap (λ (b : Bool). ban_facts_by beside (may_follow (option_map key_of prev) entry.ordinal) (length block.texts) entry.at entry.ordinal held b seen.points.count) s.on_grid
    ∙ ap (λ (n : ℕ). ban_facts_by beside (may_follow (option_map key_of prev) entry.ordinal) (length block.texts) entry.at entry.ordinal held grid n) s.count
    ∙ ap (λ (f : BanFields). ban_facts_by beside (may_follow (option_map key_of prev) entry.ordinal) (length block.texts) entry.at entry.ordinal f (list_all is_on_grid (places f.points.value)) (length (places f.points.value))) s.fields
    ∙ ap (λ (b : Bool). ban_facts_by beside b (length block.texts) entry.at entry.ordinal (ban_fields entry.fields) (list_all is_on_grid (places (ban_fields entry.fields).points.value)) (length (places (ban_fields entry.fields).points.value)))
    (follows_is prev entry)

pub ban_checked : (beside : Beside) (holder : Rect) (block : Block) (texts : BlockTexts) (prev : Option Entry) (before : Option ℕ) (entry : Entry) (seen : BanSeen) (old new : Option FileBreak) → AreTexts texts block.texts → option_map key_of prev ≡ before
    → IsBanSeen holder entry seen → new ≡ earlier old (first_failing (ban_seen_facts beside texts.count before seen))
    → IsRecordChecked ban_boxing key_of beside holder block prev entry old new seen.ordinal seen.ordinal seen.points.in_box
ban_checked beside holder block texts prev before entry seen old new held is_before s e = record {
  asked = e ∙ ap (λ (fs : List Fact). earlier old (first_failing fs)) (ban_facts_seen beside holder block texts.count prev before entry seen held.count is_before s);
  ordinal_is = s.ordinal;
  key_is = s.ordinal;
  in_box_is = s.in_box ∙ ap (λ (f : BanFields). list_all (holds_place holder) (places f.points.value)) s.fields;
}

-- ---- roads

-- the locations of all nodes pass a test, where each node does
pub all_located : (p : Place → Bool) (ss : List Stop) → list_all (λ (s : Stop). p s.location) ss ≡ list_all p (map (λ (s : Stop). s.location) ss)
all_located p [] = refl
all_located p (s ∷ ss) = ap (λ (b : Bool). p s.location && b) (all_located p ss)

road_facts_seen : (beside : Beside) (holder : Rect) (block : Block) (prev : Option Entry) (before : Option ℕ) (entry : Entry) (seen : RoadSeen) → option_map key_of prev ≡ before → IsRoadSeen holder entry seen
    → road_seen_facts beside block.texts before seen ≡ road_facts beside block (prev, entry)
road_facts_seen beside holder block prev before entry seen is_before s =
    let held : RoadFields = road_held seen.fields s.numbers in
    let named : RoadFields → Bool = λ f. names_value beside.rules block.texts f.rule.value f.value.value in
    let ss : List Stop = stops s.numbers in
    let last : RoadFields = road_fields entry.fields in
    let follow : Bool = may_follow (option_map key_of prev) entry.ordinal in
    ap (λ (at : ℕ). road_facts_by beside (may_follow before seen.ordinal) (named held) at seen.ordinal held seen.nodes.numbered seen.nodes.on_grid seen.nodes.count) s.at
    ∙ ap (λ (n : ℕ). road_facts_by beside (may_follow before n) (named held) entry.at n held seen.nodes.numbered seen.nodes.on_grid seen.nodes.count) s.ordinal
    ∙ ap (λ (b : Option ℕ). road_facts_by beside (may_follow b entry.ordinal) (named held) entry.at entry.ordinal held seen.nodes.numbered seen.nodes.on_grid seen.nodes.count) (sym is_before)
    ∙ ap (λ (b : Bool). road_facts_by beside follow (named held) entry.at entry.ordinal held b seen.nodes.on_grid seen.nodes.count) s.nodes.numbered
    ∙ ap (λ (b : Bool). road_facts_by beside follow (named held) entry.at entry.ordinal held (list_all is_numbered ss) b seen.nodes.count) s.nodes.on_grid
    ∙ ap (λ (n : ℕ). road_facts_by beside follow (named held) entry.at entry.ordinal held (list_all is_numbered ss) (list_all is_placed ss) n) s.nodes.count
    ∙ ap (λ (f : RoadFields). road_facts_by beside follow (named f) entry.at entry.ordinal f (list_all is_numbered (stops f.triples.value)) (list_all is_placed (stops f.triples.value)) (length (stops f.triples.value))) s.fields
    ∙ ap (λ (b : Bool). road_facts_by beside b (named last) entry.at entry.ordinal last (list_all is_numbered (stops last.triples.value)) (list_all is_placed (stops last.triples.value)) (length (stops last.triples.value)))
    (follows_is prev entry)

pub road_checked : (beside : Beside) (holder : Rect) (block : Block) (texts : BlockTexts) (prev : Option Entry) (before : Option ℕ) (entry : Entry) (seen : RoadSeen) (old new : Option FileBreak) → AreTexts texts block.texts → option_map key_of prev ≡ before
    → IsRoadSeen holder entry seen → ((there : List (Placed (List ℕ))) → AreTexts texts there → new ≡ earlier old (first_failing (road_seen_facts beside there before seen)))
    → IsRecordChecked road_boxing key_of beside holder block prev entry old new seen.ordinal seen.ordinal seen.nodes.in_box
road_checked beside holder block texts prev before entry seen old new held is_before s e = record {
  asked = e block.texts held ∙ ap (λ (fs : List Fact). earlier old (first_failing fs)) (road_facts_seen beside holder block prev before entry seen is_before s);
  ordinal_is = s.ordinal;
  key_is = s.ordinal;
  in_box_is = s.nodes.in_box ∙ ap (λ (f : RoadFields). list_all (is_held holder) (stops f.triples.value)) s.fields ∙ all_located (holds_place holder) (stops (road_fields entry.fields).triples.value);
}
