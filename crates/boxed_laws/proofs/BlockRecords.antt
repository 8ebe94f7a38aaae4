-- The records of a block where they stand: every rule holds of them, they are read again, and their points are in their boxes.
use Rattle.std.proofs.Common.{◌≡◌, ℕ, suc, ◌+◌, ◌-◌, ◌≤◌, true, false, List, [], ◌∷◌, length, map, Some, None, refl, ap, ◌∙◌, arith}
use Rattle.std.specs.Prelude.{flat_map}
use Rattle.std.specs.List.{AllByRecursion, list_all}
use Rattle.std.specs.Ordering.{is_gt}
use Rattle.live_model.specs.declared.points.Rect.{Rect}
use Rattle.live_model.specs.declared.rules.Rule.{Rule}
use Rattle.box_tree.specs.Trees.{Holds}
use Rattle.file_grammar.specs.Messages.{beyond}
use Rattle.file_grammar.specs.Facts.{AllHold}
use Rattle.file_grammar.specs.Sections.{Placed, Entry, Block, messages_in, entries_from}
use Rattle.file_grammar.specs.BoxRules.{with_before, holds_place}
use Rattle.boxed_write.proofs.Sorting.{AreUp}
use Rattle.boxed_laws.specs.Bare.{bytes_of, stood}
use Rattle.boxed_laws.specs.Classes.{BoxedClass, StandsIn, IsLawful, ComesBefore, bare_record, entry_of, without_marks}
use Rattle.boxed_laws.proofs.BareBlocks.{bare_records}
use Rattle.boxed_laws.proofs.BlockTexts.{all_join}
use Rattle.boxed_laws.proofs.BoxesAround.{test_join}

step_to : (sum before n : ℕ) → sum ≡ before → before ≤ n → sum + (n - before) ≡ n
step_to sum before n e le = omega arith

module _ {A : Type 0} (c : BoxedClass A) (suits : List Rule → A → Type 0) (laws : IsLawful c suits) where
  -- the offset after a record
  abbrev behind_at : List (List ℕ) → ℕ → ℕ → A → ℕ
  behind_at texts at before r = beyond at 18 (length (bytes_of (bare_record c texts before r)))

  -- the entries of records after one with this ordinal, where the ordinals so far come to a sum
  abbrev pub entries : List (List ℕ) → ℕ → ℕ → ℕ → List A → List Entry
  entries texts sum before at rs = entries_from sum (messages_in (stood at (bare_records c texts before rs)))

  after_least : (r : A) (rs : List A) → AllByRecursion (λ y. is_gt (c.packing.cmp r y) ≡ false) rs → AllByRecursion (λ y. c.packing.ordinal r ≤ c.packing.ordinal y) rs
  after_least r [] all = tt
  after_least r (x ∷ xs) all = (laws.first r x all.0, after_least r xs all.1)

  module _ (rules : List Rule) (texts : List (List ℕ)) (block : Block) where
    behind_hold : map (λ (t : Placed (List ℕ)). t.value) block.texts ≡ texts → (rs : List A) (p number from sum at : ℕ) (a : A) → number ≡ c.packing.ordinal a → sum ≡ c.packing.ordinal a → AreUp c.packing.cmp (a ∷ rs) → AllByRecursion (StandsIn c suits rules texts) rs
        → AllHold (flat_map (c.boxing.facts (without_marks rules) block) (with_before (Some (entry_of c texts p number from a)) (entries texts sum (c.packing.ordinal a) at rs)))
    behind_hold same [] p number from sum at a is e up stands = tt
    behind_hold same (r ∷ rs) p number from sum at a is e up stands =
        let own : ℕ = sum + (c.packing.ordinal r - c.packing.ordinal a) in
        let reached : own ≡ c.packing.ordinal r = step_to sum (c.packing.ordinal a) (c.packing.ordinal r) e (laws.first a r up.0.0) in
        let before : ComesBefore c texts r (entry_of c texts p number from a) = record { other = a; at = p; before = from; ordinal = number; is = refl; ordinal_is = is; up = up.0.0 } in
        all_join (λ f. f.holds ≡ true) (c.boxing.facts (without_marks rules) block (Some (entry_of c texts p number from a), entry_of c texts at own (c.packing.ordinal a) r)) _
        (laws.good rules texts block (Some (entry_of c texts p number from a)) at own (c.packing.ordinal a) r same reached stands.0 before)
        (behind_hold same rs at own (c.packing.ordinal a) own (behind_at texts at (c.packing.ordinal a) r) r reached reached up.1 stands.1)

    pub records_hold : map (λ (t : Placed (List ℕ)). t.value) block.texts ≡ texts → (rs : List A) (at : ℕ) → AreUp c.packing.cmp rs → AllByRecursion (StandsIn c suits rules texts) rs
        → AllHold (flat_map (c.boxing.facts (without_marks rules) block) (with_before None (entries texts 0 0 at rs)))
    records_hold same [] at up stands = tt
    records_hold same (r ∷ rs) at up stands =
        let own : ℕ = 0 + (c.packing.ordinal r - 0) in
        let reached : own ≡ c.packing.ordinal r = step_to 0 0 (c.packing.ordinal r) refl (omega arith) in
        all_join (λ f. f.holds ≡ true) (c.boxing.facts (without_marks rules) block (None, entry_of c texts at own 0 r)) _
        (laws.good rules texts block None at own 0 r same reached stands.0 tt)
        (behind_hold same rs at own 0 own (behind_at texts at 0 r) r reached reached up stands.1)

    pub records_again : map (λ (t : Placed (List ℕ)). t.value) block.texts ≡ texts → (rs : List A) (sum before at : ℕ) → sum ≡ before → AllByRecursion (λ r. before ≤ c.packing.ordinal r) rs → AreUp c.packing.cmp rs → AllByRecursion (StandsIn c suits rules texts) rs
        → map (c.reads block) (entries texts sum before at rs) ≡ rs
    records_again same [] sum before at e least up stands = refl
    records_again same (r ∷ rs) sum before at e least up stands =
        let own : ℕ = sum + (c.packing.ordinal r - before) in
        let reached : own ≡ c.packing.ordinal r = step_to sum before (c.packing.ordinal r) e least.0 in
        ap (λ (m : A). m ∷ map (c.reads block) (entries texts own (c.packing.ordinal r) (behind_at texts at before r) rs)) (laws.again rules texts block at own before r same reached stands.0)
        ∙ ap (λ (ms : List A). r ∷ ms) (records_again same rs own (c.packing.ordinal r) (behind_at texts at before r) reached (after_least r rs up.0) up.1 stands.1)

  -- the points of all records are in a box that contains those of each
  pub points_contained : (texts : List (List ℕ)) (box : Rect) (rs : List A) (sum before at : ℕ) → AllByRecursion (Holds box) (map c.packing.box rs) → list_all (holds_place box) (flat_map c.boxing.points (entries texts sum before at rs)) ≡ true
  points_contained texts box [] sum before at all = refl
  points_contained texts box (r ∷ rs) sum before at all =
      let own : ℕ = sum + (c.packing.ordinal r - before) in
      test_join (holds_place box) (c.boxing.points (entry_of c texts at own before r)) (flat_map c.boxing.points (entries texts own (c.packing.ordinal r) (behind_at texts at before r) rs))
      (laws.contained texts at own before r box all.0) (points_contained texts box rs own (c.packing.ordinal r) (behind_at texts at before r) all.1)

  -- how many they are
  pub entries_length : (texts : List (List ℕ)) (rs : List A) (sum before at : ℕ) → length (entries texts sum before at rs) ≡ length rs
  entries_length texts [] sum before at = refl
  entries_length texts (r ∷ rs) sum before at = ap suc (entries_length texts rs (sum + (c.packing.ordinal r - before)) (c.packing.ordinal r) (behind_at texts at before r))
