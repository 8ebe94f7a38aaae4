-- What is gathered over images that follow one another, sorted once, answers the question.
use Rattle.std.proofs.Common.{◌≡◌, ◌+◌, ℕ, Bool, true, false, List, [], ◌∷◌, ◌++◌, length, map, Option, Some, None, refl, sym, ap, ◌∙◌, subst, inl, inr}
use Rattle.std.specs.Prelude.{◌&&◌, bytes_eq, filter, if◌then◌else◌, nat_le}
use Rattle.std.specs.List.{AllByRecursion}
use Rattle.std.specs.Option.{option_and_then}
use Rattle.std.proofs.lemmas.Bool.{and_parts, cases_Bool}
use Rattle.std.proofs.lemmas.Slice.Eq.{bytes_eq-Decides}
use Rattle.ordered_lists.proofs.PutAll.{all_append, all_filter}
use Rattle.live_model.specs.declared.queries.Query.{Query}
use Rattle.live_model.specs.declared.records.Rec.{Rec}
use Rattle.live_model.specs.declared.rows.Row.{Row}
use Rattle.live_model.specs.declared.rules.Rule.{Rule}
use Rattle.live_model.specs.Maps.{Overlay, answer, in_order, laid}
use Rattle.live_model.specs.MapLaws.{AreInOrder}
use Rattle.live_model.specs.Rules.{rule_lines, rules_text, spelled_rules}
use Rattle.file_grammar.specs.Files.{FileParts, rules_in, section_records}
use Rattle.file_order.specs.declared.kinds.NotRun.{NotRun}
use Rattle.file_order.specs.Runs.{Placed, all_asked, first_failing, not_run}
use Rattle.map_laws.specs.Laws.{gives_rows, untouched_by}
use Rattle.map_laws.proofs.InOrder.{all_ordered, filter_in_order, ordered_twice}
use Rattle.obf_reader.specs.Images.{IsImage, Seen}
use Rattle.obf_reader.specs.Overlays.{overlay_of, parts_of, records_in, records_of}
use Rattle.obf_reader.proofs.Overlays.{records_of_parts}
use Rattle.query_merge.specs.Gathering.{found_in, found_over, stored_in}
use Rattle.query_merge.specs.Laws.{HoldsHits, Layer, gathered}
use Rattle.query_merge.specs.Questions.{answer_over}
use Rattle.query_merge.proofs.Gathering.{gathered_law}

-- ---- rules

kept_rules : (keep : Bool) (rules kept : List Rule) → (if keep then Some rules else None) ≡ Some kept → (keep ≡ true) × (rules ≡ kept)
kept_rules true rules kept e = (refl, cc)
kept_rules false rules kept e = absurd cc

spelled_text : (text : List ℕ) (spelled : Option (List Rule)) (rules : List Rule)
    → option_and_then (λ rules. if nat_le (length rules) 100000 && bytes_eq text (rules_text rules) then Some rules else None) spelled ≡ Some rules → text ≡ rules_text rules
spelled_text text None rules e = absurd cc
spelled_text text (Some spelled) rules e =
    let kept = kept_rules (nat_le (length spelled) 100000 && bytes_eq text (rules_text spelled)) spelled rules e in
    (bytes_eq-Decides text (rules_text spelled)).0 (and_parts (nat_le (length spelled) 100000) (bytes_eq text (rules_text spelled)) kept.0).1 ∙ ap rules_text kept.1

-- the text of rules that were read is their canonical text
text_of : (text : List ℕ) (rules : List Rule) → rules_in text ≡ Some rules → text ≡ rules_text rules
text_of text rules e = spelled_text text (spelled_rules (rule_lines text)) rules e

-- two images with one canonical text have the same rules
same_rules : (a b : Seen) → IsImage a → IsImage b → bytes_eq (rules_text a.rules) (rules_text b.rules) ≡ true → a.rules ≡ b.rules
same_rules a b i j same =
    let s : List ℕ = i.holds.parts.rules.value in
    let t : List ℕ = j.holds.parts.rules.value in
    let texts : s ≡ t = text_of s a.rules i.holds.rules ∙ (bytes_eq-Decides (rules_text a.rules) (rules_text b.rules)).0 same ∙ sym (text_of t b.rules j.holds.rules) in
    let read : Some a.rules ≡ Some b.rules = sym i.holds.rules ∙ ap rules_in texts ∙ j.holds.rules in
    cc

-- ---- images that follow one another

abbrev pub placed_of : Seen → Placed
placed_of image = record { head = image.head; rules = image.rules }

-- the places of what are images are those of the images
pub placed_each : {X : Type 0} (of : X → Seen) (xs : List X) → map placed_of (map of xs) ≡ map (λ (x : X). record { head = (of x).head; rules = (of x).rules }) xs
placed_each of [] = refl
placed_each of (x ∷ xs) = ap (λ (ps : List Placed). placed_of (of x) ∷ ps) (placed_each of xs)

held : (b : Bool) (rest : Option NotRun) (told : NotRun) → (if b then rest else Some told) ≡ None → (b ≡ true) × (rest ≡ None)
held true rest told e = (refl, e)
held false rest told e = absurd cc

abbrev HasRules : List Rule → Seen → Type 0
HasRules rules image = image.rules ≡ rules

-- each later one has the rules of the first
later_rules : (index : ℕ) (base before : Seen) (later : List Seen) → IsImage base → AllByRecursion IsImage later
    → first_failing (all_asked index (placed_of base) (placed_of before) (map placed_of later)) ≡ None → AllByRecursion (HasRules base.rules) later
later_rules index base before [] is all none = tt
later_rules index base before (image ∷ later) is all none =
    let kinds = held _ _ _ none in
    let texts = held _ _ _ kinds.1 in
    let hours = held _ _ _ texts.1 in
    (same_rules image base all.0 is texts.0, later_rules (index + 1) base image later is all.1 hours.1)

-- ---- what is gathered

passing : {A : Type 0} (p : A → Bool) (xs : List A) → AllByRecursion (λ x. p x ≡ true) (filter p xs)
passing p [] = tt
passing p (x ∷ xs) =
    elim (cases_Bool (p x)) [
      | inl passes ↦ rw passes (passes, passing p xs)
      | inr fails ↦ rw fails (passing p xs)
    ]

stored_are : (parts : Option FileParts) → records_of parts ≡ in_order (stored_in parts)
stored_are None = refl
stored_are (Some parts) = refl

in_turn : (parts : Option FileParts) → AreInOrder (records_of parts)
in_turn None = refl
in_turn (Some parts) = ordered_twice (section_records parts)

-- the records of an image are what its sections store, in order
ordered_are : (image : Seen) → records_in image.bytes ≡ in_order (stored_in (parts_of image))
ordered_are image = records_of_parts image ∙ stored_are (parts_of image)

are_in_turn : (image : Seen) → AreInOrder (records_in image.bytes)
are_in_turn image = subst AreInOrder (sym (records_of_parts image)) (in_turn (parts_of image))

module _ (query : Query) where
  abbrev layer_of : Seen → Layer
  layer_of image = record { overlay = overlay_of image; found = found_in query image }

  overlays_are : (images : List Seen) → map (λ (l : Layer). l.overlay) (map layer_of images) ≡ map overlay_of images
  overlays_are [] = refl
  overlays_are (image ∷ images) = ap (λ (os : List Overlay). overlay_of image ∷ os) (overlays_are images)

  gathered_is : (images : List Seen) → found_over query images ≡ gathered (map layer_of images)
  gathered_is [] = refl
  gathered_is (image ∷ later) = λ i. filter (untouched_by (sym (overlays_are later) i)) (found_in query image) ++ gathered_is later i

  holds_hits : (rules : List Rule) (image : Seen) → HasRules rules image → HoldsHits rules query (layer_of image)
  holds_hits rules image same =
      let stored : List Rec = stored_in (parts_of image) in
      sym (filter_in_order (gives_rows image.rules query) stored)
      ∙ (λ i. filter (gives_rows (same i) query) (sym (ordered_are image) i))

  all_hold : (rules : List Rule) (images : List Seen) → AllByRecursion (HasRules rules) images → AllByRecursion (HoldsHits rules query) (map layer_of images)
  all_hold rules [] all = tt
  all_hold rules (image ∷ images) all = (holds_hits rules image all.0, all_hold rules images all.1)

  -- all that is gathered gives rows
  all_give : (rules : List Rule) (images : List Seen) → AllByRecursion (HasRules rules) images → AllByRecursion (λ r. gives_rows rules query r ≡ true) (found_over query images)
  all_give rules [] all = tt
  all_give rules (image ∷ later) all =
      let gives : List Rule → Rec → Type 0 = λ rs r. gives_rows rs query r ≡ true in
      let stored : List Rec = stored_in (parts_of image) in
      let own : AllByRecursion (gives rules) (found_in query image) = subst (λ (rs : List Rule). AllByRecursion (gives rs) (found_in query image)) all.0 (passing (gives_rows image.rules query) stored) in
      all_append (gives rules) (filter (untouched_by (map overlay_of later)) (found_in query image)) (found_over query later)
      (all_filter (gives rules) (untouched_by (map overlay_of later)) (found_in query image) own) (all_give rules later all.1)

  answers : (base : Seen) (later : List Seen) → AllByRecursion (HasRules base.rules) later → answer base.rules query (in_order (found_over query (base ∷ later))) ≡ answer_over query (base ∷ later)
  answers base later same =
      ap (λ (rs : List Rec). answer base.rules query (in_order rs)) (gathered_is (base ∷ later))
      ∙ gathered_law base.rules query (layer_of base) (map layer_of later) (are_in_turn base) (holds_hits base.rules base refl, all_hold base.rules later same)
      ∙ ap (λ (os : List Overlay). answer base.rules query (laid (records_in base.bytes) os)) (overlays_are later)

  -- rows of what is gathered in order are the answer
  pub asked : (images : List Seen) (found : List Rec) (rows : List Row) → AllByRecursion IsImage images → not_run (map placed_of images) ≡ None → found ≡ in_order (found_over query images)
      → ((rules : List Rule) → AllByRecursion (λ r. gives_rows rules query r ≡ true) found → rows ≡ answer rules query found) → rows ≡ answer_over query images
  asked [] found rows all none is made = absurd cc
  asked (base ∷ later) found rows all none is made =
      let first = held _ _ _ none in
      let same : AllByRecursion (HasRules base.rules) later = later_rules 1 base base later all.0 all.1 first.1 in
      let each = all_ordered (λ (r : Rec). gives_rows base.rules query r ≡ true) (found_over query (base ∷ later)) (all_give base.rules (base ∷ later) (refl, same)) in
      made base.rules (subst (λ (rs : List Rec). AllByRecursion (λ r. gives_rows base.rules query r ≡ true) rs) (sym is) each)
      ∙ ap (answer base.rules query) is ∙ answers base later same
