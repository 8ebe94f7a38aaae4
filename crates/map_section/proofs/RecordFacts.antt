-- The rules of a map record, by what was seen of it.
use Rattle.std.proofs.Common.{◌≡◌, ℕ, Bool, false, List, [], ◌∷◌, length, Option, Some, None, refl, sym, ap, ◌∙◌}
use Rattle.std.specs.Prelude.{◌&&◌, nat_le, slice_get}
use Rattle.std.specs.List.{list_all}
use Rattle.std.specs.Option.{option_map, option_map_or}
use Rattle.live_model.specs.declared.points.Rect.{Rect}
use Rattle.obf_wire.specs.declared.file.FileBreak.{FileBreak}
use Rattle.obf_wire.specs.declared.file.FileKind.TheVariants.{BadOrder, BadId, BadRef, BadPoint, BadMark}
use Rattle.coord_delta.specs.Steps.{places}
use Rattle.file_grammar.specs.BoxRules.{Beside, follows, is_marked, is_on_grid, is_ordinal}
use Rattle.file_grammar.specs.Facts.{Fact, fact, earlier, failing, first_failing}
use Rattle.file_grammar.specs.MapRules.{MapFields, draws, entries_rise, is_count_for, is_drawn_of, map_boxing, map_facts, map_fields}
use Rattle.file_grammar.specs.Sections.{Placed, Block, Entry}
use Rattle.file_grammar.proofs.Earlier.{and_last, and_one}
use Rattle.boxed_exact.specs.declared.block_texts.BlockTexts.{BlockTexts}
use Rattle.boxed_exact.specs.declared.fields.Number.{Number}
use Rattle.boxed_exact.specs.Texts.{AreTexts}
use Rattle.map_section.specs.declared.record_rules.EntrySeen.{EntrySeen}
use Rattle.map_section.specs.declared.record_rules.Key.{Key}
use Rattle.map_section.specs.Blocks.{AreFieldsSeen, IsSeen, key_seen}
use Rattle.boxed_exact.specs.Records.{IsRecordChecked}
use Rattle.map_section.specs.EntryFacts.{key_of, may_follow, seen_facts}
use Rattle.map_section.specs.Fields.{IsNumber}

-- seven facts, asked one after another
pub asked_seven : (start a b c d e f new : Option FileBreak) (one two three four five six seven : Fact) → a ≡ earlier start (failing one) → b ≡ earlier a (failing two) → c ≡ earlier b (failing three) → d ≡ earlier c (failing four)
    → e ≡ earlier d (failing five) → f ≡ earlier e (failing six) → new ≡ earlier f (failing seven) → new ≡ earlier start (first_failing (one ∷ two ∷ three ∷ four ∷ five ∷ six ∷ seven ∷ []))
asked_seven start a b c d e f new one two three four five six seven pa pb pc pd pe pf pg =
    and_one start a new one (two ∷ three ∷ four ∷ five ∷ six ∷ seven ∷ []) pa
    (and_one a b new two (three ∷ four ∷ five ∷ six ∷ seven ∷ []) pb
    (and_one b c new three (four ∷ five ∷ six ∷ seven ∷ []) pc
    (and_one c d new four (five ∷ six ∷ seven ∷ []) pd
    (and_one d e new five (six ∷ seven ∷ []) pe
    (and_one e f new six (seven ∷ []) pf
    (and_last f new seven pg))))))

-- ---- the facts of a record that was seen are its facts

placed_is : (n : Number) (p : Placed ℕ) → IsNumber n p → ◌≡◌ {A = Placed ℕ} (record { at = n.at; value = n.value }) p
placed_is n p same =
    let made : ℕ → ℕ → Placed ℕ = λ at value. record { at = at; value = value } in
    ap (λ (at : ℕ). made at n.value) same.0 ∙ ap (made p.at) same.1

follows_is : (prev : Option Entry) (entry : Entry) → may_follow (option_map key_of prev) (key_of entry) ≡ follows entries_rise (prev, entry)
follows_is None entry = refl
follows_is (Some before) entry = refl

-- the facts by their parts
abbrev facts_by : Beside → ℕ → Option Key → ℕ → ℕ → Placed ℕ → Placed ℕ → Placed ℕ → Placed ℕ → ℕ → Bool → ℕ → List Fact
facts_by beside texts before at ordinal step rule shape name points_at on_grid count =
    fact at BadOrder (may_follow before (record { ordinal = ordinal; rule = rule.value }))
    ∷ fact step.at BadId (is_ordinal ordinal && is_drawn_of shape.value ordinal)
    ∷ fact step.at BadMark (is_marked beside.marks ordinal)
    ∷ fact rule.at BadRef (option_map_or (draws shape.value) (slice_get beside.rules rule.value) false)
    ∷ fact shape.at BadRef (nat_le shape.value 2)
    ∷ fact name.at BadRef (nat_le name.value texts)
    ∷ fact points_at BadPoint (on_grid && is_count_for shape.value count)
    ∷ []

abbrev of_number : Number → Placed ℕ
of_number n = record { at = n.at; value = n.value }

facts_parts : (beside : Beside) (texts : ℕ) (before : Option Key) (at : ℕ) (seen : EntrySeen) (ordinal : ℕ) (f : MapFields) (holder : Rect) → seen.at ≡ at → seen.ordinal ≡ ordinal → AreFieldsSeen holder f seen
    → seen_facts beside texts before seen ≡ facts_by beside texts before at ordinal f.step f.rule f.shape f.name f.points.at (list_all is_on_grid (places f.points.value)) (length (places f.points.value))
facts_parts beside texts before at seen ordinal f holder is_at is_ordinal s =
    let r = seen.fields in
    let p = seen.points in
    ap (λ (x : ℕ). facts_by beside texts before x seen.ordinal (of_number r.step) (of_number r.rule) (of_number r.shape) (of_number r.name) r.points.at p.on_grid p.count) is_at
    ∙ ap (λ (x : ℕ). facts_by beside texts before at x (of_number r.step) (of_number r.rule) (of_number r.shape) (of_number r.name) r.points.at p.on_grid p.count) is_ordinal
    ∙ ap (λ (x : Placed ℕ). facts_by beside texts before at ordinal x (of_number r.rule) (of_number r.shape) (of_number r.name) r.points.at p.on_grid p.count) (placed_is r.step f.step s.step)
    ∙ ap (λ (x : Placed ℕ). facts_by beside texts before at ordinal f.step x (of_number r.shape) (of_number r.name) r.points.at p.on_grid p.count) (placed_is r.rule f.rule s.rule)
    ∙ ap (λ (x : Placed ℕ). facts_by beside texts before at ordinal f.step f.rule x (of_number r.name) r.points.at p.on_grid p.count) (placed_is r.shape f.shape s.shape)
    ∙ ap (λ (x : Placed ℕ). facts_by beside texts before at ordinal f.step f.rule f.shape x r.points.at p.on_grid p.count) (placed_is r.name f.name s.name)
    ∙ ap (λ (x : ℕ). facts_by beside texts before at ordinal f.step f.rule f.shape f.name x p.on_grid p.count) s.points_at
    ∙ ap (λ (x : Bool). facts_by beside texts before at ordinal f.step f.rule f.shape f.name f.points.at x p.count) s.on_grid
    ∙ ap (λ (x : ℕ). facts_by beside texts before at ordinal f.step f.rule f.shape f.name f.points.at (list_all is_on_grid (places f.points.value)) x) s.count

-- the facts of a record of which the first holds or not
abbrev with_order : Beside → Block → Entry → MapFields → Bool → List Fact
with_order beside block entry f holds =
    fact entry.at BadOrder holds
    ∷ fact f.step.at BadId (is_ordinal entry.ordinal && is_drawn_of f.shape.value entry.ordinal)
    ∷ fact f.step.at BadMark (is_marked beside.marks entry.ordinal)
    ∷ fact f.rule.at BadRef (option_map_or (draws f.shape.value) (slice_get beside.rules f.rule.value) false)
    ∷ fact f.shape.at BadRef (nat_le f.shape.value 2)
    ∷ fact f.name.at BadRef (nat_le f.name.value (length block.texts))
    ∷ fact f.points.at BadPoint (list_all is_on_grid (places f.points.value) && is_count_for f.shape.value (length (places f.points.value)))
    ∷ []

facts_seen : (beside : Beside) (block : Block) (texts : ℕ) (prev : Option Entry) (before : Option Key) (entry : Entry) (seen : EntrySeen) (holder : Rect)
    → length block.texts ≡ texts → option_map key_of prev ≡ before → IsSeen holder entry seen → seen_facts beside texts before seen ≡ map_facts beside block (prev, entry)
facts_seen beside block texts prev before entry seen holder is_texts is_before s =
    let f = map_fields entry.fields in
    let on_grid = list_all is_on_grid (places f.points.value) in
    let count = length (places f.points.value) in
    facts_parts beside texts before entry.at seen entry.ordinal f holder s.at s.ordinal s.fields
    ∙ ap (λ (x : ℕ). facts_by beside x before entry.at entry.ordinal f.step f.rule f.shape f.name f.points.at on_grid count) (sym is_texts)
    ∙ ap (λ (x : Option Key). facts_by beside (length block.texts) x entry.at entry.ordinal f.step f.rule f.shape f.name f.points.at on_grid count) (sym is_before)
    ∙ ap (λ (holds : Bool). with_order beside block entry f holds) (follows_is prev entry)

-- ---- a record that was checked

abbrev made_key : ℕ → ℕ → Key
made_key ordinal rule = record { ordinal = ordinal; rule = rule }

pub record_checked : (beside : Beside) (holder : Rect) (block : Block) (texts : BlockTexts) (prev : Option Entry) (before : Option Key) (entry : Entry) (seen : EntrySeen) (old new : Option FileBreak) (key : Key) → AreTexts texts block.texts → option_map key_of prev ≡ before
    → IsSeen holder entry seen → new ≡ earlier old (first_failing (seen_facts beside texts.count before seen)) → key ≡ key_seen seen
    → IsRecordChecked map_boxing key_of beside holder block prev entry old new seen.ordinal key seen.points.in_box
record_checked beside holder block texts prev before entry seen old new key held is_before s e is_key = record {
  asked = e ∙ ap (λ (fs : List Fact). earlier old (first_failing fs)) (facts_seen beside block texts.count prev before entry seen holder held.count is_before s);
  ordinal_is = s.ordinal;
  key_is = is_key ∙ ap (λ (o : ℕ). made_key o seen.fields.rule.value) s.ordinal ∙ ap (made_key entry.ordinal) s.fields.rule.1;
  in_box_is = s.fields.in_box;
}
