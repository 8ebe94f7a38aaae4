-- Files that were written of a history and read are its base and its overlays.
use Rattle.std.proofs.Common.{◌≡◌, ◌+◌, ◌<◌, ℕ, Bool, true, false, List, [], ◌∷◌, ◌++◌, map, not, Option, Some, None, refl, sym, ap, ap₂, subst, ◌∙◌, arith}
use Rattle.std.specs.Prelude.{if◌then◌else◌, ◌==◌}
use Rattle.std.specs.List.{AllByRecursion}
use Rattle.std.specs.Ordering.{nat_cmp}
use Rattle.std.specs.declared.cmp.Ordering.TheVariants.{Less}
use Rattle.std.proofs.lemmas.Bool.{lt-ltb}
use Rattle.std.proofs.lemmas.Slice.Eq.{bytes_eq-Decides}
use Rattle.ordered_lists.specs.Ordered.{IsRisingBy}
use Rattle.ordered_lists.proofs.PutAll.{all_map}
use Rattle.live_model.specs.declared.levels.Level.{Level}
use Rattle.live_model.specs.declared.levels.Level.TheVariants.{Base, Hour, Day, Month}
use Rattle.live_model.specs.declared.objects.Entity.{Entity}
use Rattle.live_model.specs.declared.objects.Line.{Line}
use Rattle.live_model.specs.declared.queries.Query.{Query}
use Rattle.live_model.specs.declared.rules.Rule.{Rule}
use Rattle.live_model.specs.Ids.{Id, IsId, ordinal}
use Rattle.live_model.specs.Levels.{level_number}
use Rattle.live_model.specs.Maps.{Overlay, answer, laid, overlay, published, rebuilt}
use Rattle.live_model.specs.MapLaws.{overlays}
use Rattle.live_model.specs.Objects.{IsGoodLine}
use Rattle.live_model.specs.Rules.{rules_text}
use Rattle.live_model.specs.Stores.{IsStore, apply}
use Rattle.map_laws.proofs.OverlayProof.{applied_store, overlay_law}
use Rattle.map_laws.proofs.Picks.{lower}
use Rattle.stamp_core.specs.Heads.{FitsLevel}
use Rattle.stamp_core.specs.Hours.{CivilHour, number_of}
use Rattle.file_grammar.specs.declared.parts.Version.TheVariants.{Two}
use Rattle.file_grammar.specs.Files.{HeadNumbers, file_records, head_numbers, hour_number}
use Rattle.file_grammar.specs.Sections.{object_of}
use Rattle.file_grammar.proofs.FileLaws.{one_parts_law}
use Rattle.file_order.specs.declared.kinds.NotRun.{NotRun}
use Rattle.file_order.specs.Runs.{Placed, all_asked, first_failing, is_after, not_run}
use Rattle.boxed_laws.proofs.ObjectNumbers.{object_again}
use Rattle.obf_reader.specs.Images.{Seen}
use Rattle.obf_reader.specs.Overlays.{overlay_of, records_in}
use Rattle.obf_reader.proofs.Overlays.{records_are}
use Rattle.packed_image.proofs.HeldParts.{file_there}
use Rattle.query_merge.specs.Questions.{answer_over}
use Rattle.query_merge.proofs.Gathering.{history_answer_law}
use Rattle.run_model.specs.Jobs.{Parts, base_parts, hour_parts}
use Rattle.map_history.specs.Written.{AnswersAsRebuilt, AreFilesOfChanges, AreOfHistory, Change, HoldHistory, IsFileOf, IsRead, lines_of}

-- ---- one image

-- the parts of its file
record Holds (image : Seen) (parts : Parts) : Type 0 where
  head : head_numbers image.head ≡ head_numbers parts.head
  rules : image.rules ≡ parts.rules
  marks : image.marks ≡ parts.marks
  records : records_in image.bytes ≡ parts.records

-- what was packed is read back
read_back : (image : Seen) (parts : Parts) → IsRead image → IsFileOf parts image.bytes → Holds image parts
read_back image parts read packed =
    let i = read.0 in
    let same = one_parts_law image.bytes image.version Two (head_numbers image.head) (head_numbers parts.head) image.rules parts.rules image.marks parts.marks (file_records i.holds.parts) parts.records read.1 (file_there image i read.1) packed.file in
    record { head = same.1; rules = same.2; marks = same.3; records = records_are image i ∙ same.4 }

ids_again : (ids : List Id) → AllByRecursion IsId ids → map object_of (map ordinal ids) ≡ ids
ids_again [] all = refl
ids_again (o ∷ os) all = ap₂ (λ (p : Id) (ps : List Id). p ∷ ps) (object_again o all.0) (ids_again os all.1)

-- the file of an hour holds its overlay
holds_overlay : (image : Seen) (hour : CivilHour) (rules : List Rule) (store : List Entity) (lines : List Line) → IsStore store → AllByRecursion IsGoodLine lines
    → Holds image (hour_parts hour rules store lines) → overlay_of image ≡ overlay rules store lines
holds_overlay image hour rules store lines is good h =
    let o = overlay rules store lines in
    let marks : map object_of image.marks ≡ o.marks = ap (map object_of) h.marks ∙ ids_again o.marks (overlay_law rules store lines is good).0.ids in
    let records : records_in image.bytes ≡ o.records = h.records in
    λ k. record { marks = marks k; records = records k }

-- ---- all images

published-append : (store : List Entity) (xs ys : List (List Line)) → published store (xs ++ ys) ≡ published (published store xs) ys
published-append store [] ys = refl
published-append store (x ∷ xs) ys = published-append (apply store x) xs ys

abbrev bytes_of : Seen → List ℕ
bytes_of image = image.bytes

module _ (rules : List Rule) (base : List Line) where
  abbrev store_after : List (List Line) → List Entity
  store_after earlier = published (apply [] base) earlier

  one_more : (earlier : List (List Line)) (lines : List Line) → store_after (earlier ++ lines ∷ []) ≡ apply (store_after earlier) lines
  one_more earlier lines = published-append (apply [] base) earlier (lines ∷ [])

  -- the files of changes hold the overlays of their history
  overlays_read : (earlier : List (List Line)) (changes : List Change) (images : List Seen) → AllByRecursion IsRead images → IsStore (store_after earlier) → AllByRecursion (AllByRecursion IsGoodLine) (lines_of changes)
      → AreFilesOfChanges rules base earlier changes (map bytes_of images) → map overlay_of images ≡ overlays rules (store_after earlier) (lines_of changes)
  overlays_read earlier [] [] read is good files = refl
  overlays_read earlier [] (image ∷ images) read is good files = absurd files
  overlays_read earlier (c ∷ cs) [] read is good files = absurd files
  overlays_read earlier (c ∷ cs) (image ∷ images) read is good files =
      let here = holds_overlay image c.hour rules (store_after earlier) c.lines is good.0 (read_back image (hour_parts c.hour rules (store_after earlier) c.lines) read.0 files.0) in
      let on = one_more earlier c.lines in
      let next : IsStore (store_after (earlier ++ c.lines ∷ [])) = subst IsStore (sym on) (applied_store (store_after earlier) c.lines is good.0) in
      let others = overlays_read (earlier ++ c.lines ∷ []) cs images read.1 next good.1 files.1 ∙ ap (λ (store : List Entity). overlays rules store (lines_of cs)) on in
      ap₂ (λ (o : Overlay) (os : List Overlay). o ∷ os) here others

  base_store : AllByRecursion IsGoodLine base → IsStore (apply [] base)
  base_store good = applied_store [] base (record { good = tt; rising = tt }) good

  -- the images of a history hold it
  pub held : (changes : List Change) (images : List Seen) → AllByRecursion IsRead images → AreOfHistory rules base changes images → HoldHistory rules base changes images
  held changes [] read h = h.files
  held changes (first ∷ later) read h =
      let b = read_back first (base_parts rules (apply [] base)) read.0 h.files.0 in
      (b.rules, (b.records, overlays_read [] changes later read.1 (base_store h.history.base_good) h.history.good h.files.1))

  answers_for : (changes : List Change) (images : List Seen) (query : Query) → AllByRecursion IsRead images → AreOfHistory rules base changes images
      → answer_over query images ≡ answer rules query (rebuilt rules base (lines_of changes))
  answers_for changes [] query read h = absurd h.files
  answers_for changes (first ∷ later) query read h =
      let b = held changes (first ∷ later) read h in
      (λ k. answer (b.0 k) query (laid (b.1.0 k) (b.1.1 k))) ∙ history_answer_law rules query base (lines_of changes) h.history.base_good h.history.good

-- ---- images that follow one another

abbrev placed_of : Seen → Placed
placed_of image = record { head = image.head; rules = image.rules }

-- what fits the level of a base has no last hour
no_last : (level : Level) (first last : Option CivilHour) → FitsLevel level first last → level_number level ≡ 0 → last ≡ None
no_last level None None fits e = refl
no_last level None (Some last) fits e = absurd fits
no_last level (Some first) None fits e = absurd fits
no_last Base (Some first) (Some last) fits e = absurd fits.1
no_last Hour (Some first) (Some last) fits e = absurd cc
no_last Day (Some first) (Some last) fits e = absurd cc
no_last Month (Some first) (Some last) fits e = absurd cc

after_it : (last first : Option CivilHour) (m n : ℕ) → hour_number last ≡ m → hour_number first ≡ n → m < n → is_after last first ≡ true
after_it None first m n e f less = refl
after_it (Some last) None m n e f less = refl
after_it (Some last) (Some first) m n e f less = lt-ltb (number_of last) (number_of first) (omega (arith, e, f, less))

three : (a b c : Bool) (rest : Option NotRun) (x y z : NotRun) → a ≡ true → b ≡ true → c ≡ true → rest ≡ None → (if a then if b then if c then rest else Some z else Some y else Some x) ≡ None
three true true true rest x y z ea eb ec e = e
three false b c rest x y z ea eb ec e = absurd cc
three true false c rest x y z ea eb ec e = absurd cc
three true true false rest x y z ea eb ec e = absurd cc

one : (a : Bool) (rest : Option NotRun) (x : NotRun) → a ≡ true → rest ≡ None → (if a then rest else Some x) ≡ None
one true rest x ea e = e
one false rest x ea e = absurd cc

-- the hour of each change comes after this one, if there is one
abbrev AreAfter : Option CivilHour → List Change → Type 0
AreAfter last changes = AllByRecursion (λ (c : Change). (first : Option CivilHour) → hour_number first ≡ number_of c.hour → is_after last first ≡ true) changes

module _ (rules : List Rule) (base : List Line) (first : Seen) (same : first.rules ≡ rules) where
  follows : (index : ℕ) (before : Seen) (earlier : List (List Line)) (changes : List Change) (images : List Seen) → AllByRecursion IsRead images → IsRisingBy nat_cmp (λ (c : Change). number_of c.hour) changes
      → AreAfter before.head.last changes → AreFilesOfChanges rules base earlier changes (map bytes_of images) → first_failing (all_asked index (placed_of first) (placed_of before) (map placed_of images)) ≡ None
  follows index before earlier [] [] read rise after files = refl
  follows index before earlier [] (image ∷ images) read rise after files = absurd files
  follows index before earlier (c ∷ cs) [] read rise after files = absurd files
  follows index before earlier (c ∷ cs) (image ∷ images) read rise after files =
      let h = read_back image (hour_parts c.hour rules (published (apply [] base) earlier) c.lines) read.0 files.0 in
      let level : level_number image.head.level ≡ 1 = ap (λ (n : HeadNumbers). n.level) h.head in
      let texts : rules_text image.rules ≡ rules_text first.rules = ap rules_text (h.rules ∙ sym same) in
      let begins : hour_number image.head.first ≡ number_of c.hour = ap (λ (n : HeadNumbers). n.first) h.head in
      let ends : hour_number image.head.last ≡ number_of c.hour = ap (λ (n : HeadNumbers). n.last) h.head in
      let later : AreAfter image.head.last cs =
      all_map (λ (d : Change). nat_cmp (number_of c.hour) (number_of d.hour) ≡ Less) (λ (d : Change). (first : Option CivilHour) → hour_number first ≡ number_of d.hour → is_after image.head.last first ≡ true) cs
      (λ d less first e. after_it image.head.last first (number_of c.hour) (number_of d.hour) ends e (lower (number_of c.hour) (number_of d.hour) less)) rise.0 in
      three _ _ _ _ _ _ _ (ap (λ (n : ℕ). not (n == 0)) level) ((bytes_eq-Decides (rules_text image.rules) (rules_text first.rules)).1 texts) (after.0 image.head.first begins)
      (follows (index + 1) image (earlier ++ c.lines ∷ []) cs images read.1 rise.1 later files.1)

-- nothing comes before the hours above a base
after_none : (last : Option CivilHour) (changes : List Change) → last ≡ None → AreAfter last changes
after_none last changes none = subst (λ (o : Option CivilHour). AreAfter o changes) (sym none) (all changes)
  where
    all : (changes : List Change) → AreAfter None changes
    all [] = tt
    all (c ∷ cs) = (λ first e. refl, all cs)

-- images with the files of a history follow one another
pub follow_for : (rules : List Rule) (base : List Line) (changes : List Change) (images : List Seen) → AllByRecursion IsRead images → AreOfHistory rules base changes images → not_run (map placed_of images) ≡ None
follow_for rules base changes [] read h = absurd h.files
follow_for rules base changes (first ∷ later) read h =
    let b = read_back first (base_parts rules (apply [] base)) read.0 h.files.0 in
    let level : level_number first.head.level ≡ 0 = ap (λ (n : HeadNumbers). n.level) b.head in
    let none : first.head.last ≡ None = no_last first.head.level first.head.first first.head.last read.0.0.holds.head.1 level in
    one _ _ _ (ap (λ (n : ℕ). n == 0) level) (follows rules base first b.rules 1 first [] changes later read.1 h.history.rising (after_none first.head.last changes none) h.files.1)

-- ---- and answer

pub they_answer : (images : List Seen) → AllByRecursion IsRead images → AnswersAsRebuilt images
they_answer images read = λ rules base changes query h. answers_for rules base changes images query read h
