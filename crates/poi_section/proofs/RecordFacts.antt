-- The rules of a point of interest, by what was seen of it.
use Rattle.std.proofs.Common.{◌≡◌, ℕ, Bool, List, [], ◌∷◌, length, Option, Some, None, refl, sym, ap, ◌∙◌}
use Rattle.std.specs.Prelude.{◌&&◌, ◌==◌, nat_le}
use Rattle.std.specs.List.{list_all}
use Rattle.std.specs.Option.{option_map}
use Rattle.live_model.specs.declared.points.Rect.{Rect}
use Rattle.obf_wire.specs.declared.file.FileBreak.{FileBreak}
use Rattle.obf_wire.specs.declared.file.FileKind.TheVariants.{BadOrder, BadId, BadRef, BadPoint, BadMark}
use Rattle.coord_delta.specs.Steps.{places}
use Rattle.file_grammar.specs.BoxRules.{Beside, follows, is_marked, is_on_grid, is_ordinal}
use Rattle.file_grammar.specs.Facts.{Fact, fact, earlier, failing, first_failing}
use Rattle.file_grammar.specs.PoiRules.{PoiFields, poi_boxing, poi_facts, poi_fields}
use Rattle.file_grammar.specs.RecordRules.{is_node_or_way, ordinals_rise}
use Rattle.file_grammar.specs.Sections.{Placed, Block, Entry}
use Rattle.file_grammar.proofs.Earlier.{and_last, and_one}
use Rattle.boxed_exact.specs.declared.block_texts.BlockTexts.{BlockTexts}
use Rattle.boxed_exact.specs.declared.fields.Number.{Number}
use Rattle.boxed_exact.specs.Records.{IsRecordChecked}
use Rattle.boxed_exact.specs.Texts.{AreTexts}
use Rattle.poi_section.specs.declared.record_rules.EntrySeen.{EntrySeen}
use Rattle.poi_section.specs.EntryFacts.{AreFieldsSeen, IsSeen, may_follow, ordinal_of, seen_facts}
use Rattle.poi_section.specs.Fields.{IsNumber}

-- five facts, asked one after another
pub asked_five : (start a b c d new : Option FileBreak) (one two three four five : Fact) → a ≡ earlier start (failing one) → b ≡ earlier a (failing two) → c ≡ earlier b (failing three) → d ≡ earlier c (failing four) → new ≡ earlier d (failing five)
    → new ≡ earlier start (first_failing (one ∷ two ∷ three ∷ four ∷ five ∷ []))
asked_five start a b c d new one two three four five pa pb pc pd pe =
    and_one start a new one (two ∷ three ∷ four ∷ five ∷ []) pa
    (and_one a b new two (three ∷ four ∷ five ∷ []) pb (and_one b c new three (four ∷ five ∷ []) pc (and_one c d new four (five ∷ []) pd (and_last d new five pe))))

-- ---- the facts of a record that was seen are its facts

placed_is : (n : Number) (p : Placed ℕ) → IsNumber n p → ◌≡◌ {A = Placed ℕ} (record { at = n.at; value = n.value }) p
placed_is n p same =
    let made : ℕ → ℕ → Placed ℕ = λ at value. record { at = at; value = value } in
    ap (λ (at : ℕ). made at n.value) same.0 ∙ ap (made p.at) same.1

follows_is : (prev : Option Entry) (entry : Entry) → may_follow (option_map ordinal_of prev) entry.ordinal ≡ follows ordinals_rise (prev, entry)
follows_is None entry = refl
follows_is (Some before) entry = refl

-- the facts by their parts
abbrev facts_by : Beside → ℕ → Option ℕ → ℕ → ℕ → Placed ℕ → Placed ℕ → ℕ → Bool → ℕ → List Fact
facts_by beside texts before at ordinal step name points_at on_grid count =
    fact at BadOrder (may_follow before ordinal)
    ∷ fact step.at BadId (is_ordinal ordinal && is_node_or_way ordinal)
    ∷ fact step.at BadMark (is_marked beside.marks ordinal)
    ∷ fact name.at BadRef (nat_le name.value texts)
    ∷ fact points_at BadPoint (on_grid && (count == 1))
    ∷ []

abbrev of_number : Number → Placed ℕ
of_number n = record { at = n.at; value = n.value }

facts_parts : (beside : Beside) (texts : ℕ) (before : Option ℕ) (at : ℕ) (seen : EntrySeen) (ordinal : ℕ) (f : PoiFields) (holder : Rect) → seen.at ≡ at → seen.ordinal ≡ ordinal → AreFieldsSeen holder f seen
    → seen_facts beside texts before seen ≡ facts_by beside texts before at ordinal f.step f.name f.points.at (list_all is_on_grid (places f.points.value)) (length (places f.points.value))
facts_parts beside texts before at seen ordinal f holder is_at is_ordinal s =
    let r = seen.fields in
    let p = seen.points in
    ap (λ (x : ℕ). facts_by beside texts before x seen.ordinal (of_number r.step) (of_number r.name) r.points.at p.on_grid p.count) is_at
    ∙ ap (λ (x : ℕ). facts_by beside texts before at x (of_number r.step) (of_number r.name) r.points.at p.on_grid p.count) is_ordinal
    ∙ ap (λ (x : Placed ℕ). facts_by beside texts before at ordinal x (of_number r.name) r.points.at p.on_grid p.count) (placed_is r.step f.step s.step)
    ∙ ap (λ (x : Placed ℕ). facts_by beside texts before at ordinal f.step x r.points.at p.on_grid p.count) (placed_is r.name f.name s.name)
    ∙ ap (λ (x : ℕ). facts_by beside texts before at ordinal f.step f.name x p.on_grid p.count) s.points_at
    ∙ ap (λ (x : Bool). facts_by beside texts before at ordinal f.step f.name f.points.at x p.count) s.on_grid
    ∙ ap (λ (x : ℕ). facts_by beside texts before at ordinal f.step f.name f.points.at (list_all is_on_grid (places f.points.value)) x) s.count

-- the facts of a record of which the first holds or not
abbrev with_order : Beside → Block → Entry → PoiFields → Bool → List Fact
with_order beside block entry f holds =
    fact entry.at BadOrder holds
    ∷ fact f.step.at BadId (is_ordinal entry.ordinal && is_node_or_way entry.ordinal)
    ∷ fact f.step.at BadMark (is_marked beside.marks entry.ordinal)
    ∷ fact f.name.at BadRef (nat_le f.name.value (length block.texts))
    ∷ fact f.points.at BadPoint (list_all is_on_grid (places f.points.value) && (length (places f.points.value) == 1))
    ∷ []

facts_seen : (beside : Beside) (block : Block) (texts : ℕ) (prev : Option Entry) (before : Option ℕ) (entry : Entry) (seen : EntrySeen) (holder : Rect)
    → length block.texts ≡ texts → option_map ordinal_of prev ≡ before → IsSeen holder entry seen → seen_facts beside texts before seen ≡ poi_facts beside block (prev, entry)
facts_seen beside block texts prev before entry seen holder is_texts is_before s =
    let f = poi_fields entry.fields in
    let on_grid = list_all is_on_grid (places f.points.value) in
    let count = length (places f.points.value) in
    facts_parts beside texts before entry.at seen entry.ordinal f holder s.at s.ordinal s.fields
    ∙ ap (λ (x : ℕ). facts_by beside x before entry.at entry.ordinal f.step f.name f.points.at on_grid count) (sym is_texts)
    ∙ ap (λ (x : Option ℕ). facts_by beside (length block.texts) x entry.at entry.ordinal f.step f.name f.points.at on_grid count) (sym is_before)
    ∙ ap (λ (holds : Bool). with_order beside block entry f holds) (follows_is prev entry)

-- ---- a record that was checked

pub record_checked : (beside : Beside) (holder : Rect) (block : Block) (texts : BlockTexts) (prev : Option Entry) (before : Option ℕ) (entry : Entry) (seen : EntrySeen) (old new : Option FileBreak) → AreTexts texts block.texts → option_map ordinal_of prev ≡ before
    → IsSeen holder entry seen → new ≡ earlier old (first_failing (seen_facts beside texts.count before seen))
    → IsRecordChecked poi_boxing ordinal_of beside holder block prev entry old new seen.ordinal seen.ordinal seen.points.in_box
record_checked beside holder block texts prev before entry seen old new held is_before s e = record {
  asked = e ∙ ap (λ (fs : List Fact). earlier old (first_failing fs)) (facts_seen beside block texts.count prev before entry seen holder held.count is_before s);
  ordinal_is = s.ordinal;
  key_is = s.ordinal;
  in_box_is = s.fields.in_box;
}
