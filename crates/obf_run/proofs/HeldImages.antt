-- Map files that were read, and what their images hold.
use Rattle.std.proofs.Common.{◌≡◌, ◌++◌, ◌∙◌, ℕ, List, [], ◌∷◌, map, Option, Some, None, IfSome, ap, arith, inl, refl, subst, sym, true, false}
use Rattle.std.specs.Prelude.{◌==◌, if◌then◌else◌, Bool, unwrap_or}
use Rattle.std.proofs.lemmas.Bool.{eqb-true}
use Rattle.live_model.specs.declared.levels.Level.{Level}
use Rattle.live_model.specs.declared.levels.Level.TheVariants.{Base, Hour, Day, Month}
use Rattle.live_model.specs.declared.rules.Rule.{Rule}
use Rattle.live_model.specs.Levels.{level_number}
use Rattle.stamp_core.specs.declared.head.Head.{Head}
use Rattle.stamp_core.specs.Hours.{CivilHour, IsCivilHour, number_of}
use Rattle.file_grammar.specs.Files.{FileParts, head_numbers, hour_number}
use Rattle.file_grammar.specs.Sections.{object_of}
use Rattle.hour_words.specs.HourWords.{hour_numbered}
use Rattle.hour_words.proofs.NamedHours.{hour_back}
use Rattle.obf_reader.specs.Images.{IsImage, Seen}
use Rattle.obf_reader.specs.Overlays.{parts_of, records_in, records_of}
use Rattle.obf_reader.proofs.Overlays.{parts_are, records_of_parts}
use Rattle.outside.specs.Files.{FilesState, OnlyReads}
use Rattle.run_model.specs.Endings.{Ending}
use Rattle.run_model.specs.Inputs.{Input, in_turn, input, map_file, map_files}
use Rattle.run_model.specs.MapFiles.{head_held, head_numbered, hour_at, level_numbered, map_file_in, marks_held, parts_in, rules_held}
use Rattle.run_model.specs.Reads.{EndsAmong, EndsAt, HasRead, ReadInOrder}
use Rattle.obf_run.specs.Images.{AreHeld, AreRead, IsHeld, ReadsImage}
use Rattle.obf_run.proofs.Changes.{ends_after, read_after}

-- What an image holds.

level_again : (level : Level) → level_numbered (level_number level) ≡ level
level_again Base = refl
level_again Hour = refl
level_again Day = refl
level_again Month = refl

-- the number of an hour of the calendar is not 0
some_number : (c : CivilHour) → IsCivilHour c → (number_of c == 0) ≡ false
some_number c civil = one (number_of c == 0) refl
  where
    one : (b : Bool) → (number_of c == 0) ≡ b → b ≡ false
    one false e = refl
    one true e = let zero_is = eqb-true (number_of c) 0 e in let month = civil.1.0 in absurd (omega (arith, zero_is, month))

hour_again : (hour : Option CivilHour) → IfSome hour IsCivilHour → hour_at (hour_number hour) ≡ hour
hour_again None civil = refl
hour_again (Some c) civil =
    ap (λ (b : Bool). if b then None else Some (hour_numbered (number_of c))) (some_number c civil) ∙ ap (λ (h : CivilHour). Some h) (hour_back c civil)

-- a head of hours of the calendar is that of its numbers
head_again : (head : Head) → IfSome head.first IsCivilHour → IfSome head.last IsCivilHour → head_numbered (head_numbers head) ≡ head
head_again head first last = λ i. record { level = level_again head.level i; first = hour_again head.first first i; last = hour_again head.last last i }

-- the parts of an image are those of its bytes
parts_same : (image : Seen) → parts_in image.bytes ≡ parts_of image
unfolding parts_in parts_of
parts_same image = refl

parts_there : (image : Seen) (i : IsImage image) → parts_in image.bytes ≡ Some i.holds.parts
parts_there image i = parts_same image ∙ parts_are image i

pub image_held : (image : Seen) → IsImage image → IfSome image.head.first IsCivilHour → IfSome image.head.last IsCivilHour → IsHeld image.bytes image
image_held image i first last =
    let there = parts_there image i in
    let marks : (map_file_in image.bytes).overlay.marks ≡ map object_of image.marks =
    ap (λ (p : Option FileParts). map object_of (marks_held p)) there ∙ ap (map object_of) (sym i.holds.marks) in
    let recs : (map_file_in image.bytes).overlay.records ≡ records_in image.bytes = ap records_of (parts_same image) ∙ sym (records_of_parts image) in
    record {
      bytes_are = refl;
      parts = parts_same image;
      head = ap head_held there ∙ ap head_numbered (sym i.holds.head.0) ∙ head_again image.head first last;
      rules = ap rules_held there ∙ ap (λ (r : Option (List Rule)). unwrap_or r []) i.holds.rules;
      overlay = λ k. record { marks = marks k; records = recs k };
    }

-- Files in turn.

-- the names of two lists in turn
both_names : (names more : List (List ℕ)) → map_files names ++ map_files more ≡ map_files (names ++ more)
both_names [] more = refl
both_names (name ∷ names) more = ap (λ (files : List Input). input name map_file ∷ files) (both_names names more)

one_more_held : (texts : List (List ℕ)) (images : List Seen) (text : List ℕ) (image : Seen) → AreHeld texts images → IsHeld text image
    → AreHeld (texts ++ text ∷ []) (images ++ image ∷ [])
one_more_held [] [] text image are is = (is, tt)
one_more_held [] (i ∷ images) text image are is = absurd are
one_more_held (t ∷ texts) [] text image are is = absurd are
one_more_held (t ∷ texts) (i ∷ images) text image are is = (are.0, one_more_held texts images text image are.1 is)

-- the image of bytes that were read, put after others
pub image_read : (before after : FilesState) (name : List ℕ) (image : Seen) (old new : List Seen) → HasRead before after (input name map_file) (λ bytes. image.bytes ≡ bytes)
    → IsHeld image.bytes image → new ≡ old ++ image ∷ [] → ReadsImage before after name old new
image_read before after name image old new has held last = record {
  text = has.text;
  read = has.read;
  image = image;
  held = subst (λ (b : List ℕ). IsHeld b image) has.holds held;
  last = last;
}

-- no file was read yet
pub none_read : (state : FilesState) → AreRead state state [] []
none_read state = record { texts = []; reads = refl; held = tt }

-- one file more
pub one_more_read : (before between after : FilesState) (names : List (List ℕ)) (name : List ℕ) (old new : List Seen) → AreRead before between names old
    → ReadsImage between after name old new → AreRead before after (names ++ name ∷ []) new
one_more_read before between after names name old new made more = record {
  texts = made.texts ++ more.text ∷ [];
  reads = subst (λ (files : List Input). ReadInOrder before after (in_turn files) (made.texts ++ more.text ∷ [])) (both_names names (name ∷ []))
      (read_after (map_files names) (input name map_file ∷ []) made.texts (more.text ∷ []) before between after made.reads (after, more.read, refl));
  held = subst (λ (images : List Seen). AreHeld (made.texts ++ more.text ∷ []) images) (sym more.last) (one_more_held made.texts old more.text more.image made.held more.held);
}

-- after some files the run ended at one
pub ends_at_file : (before between after : FilesState) (names all : List (List ℕ)) (name : List ℕ) (others : List (List ℕ)) (old : List Seen) (e : Ending)
    → AreRead before between names old → all ≡ names ++ name ∷ others → EndsAt (input name map_file) between after e → OnlyReads between after
    → EndsAmong (in_turn (map_files all)) before after e
ends_at_file before between after names all name others old e made are ends only =
    subst (λ (files : List Input). EndsAmong (in_turn files) before after e) (both_names names (name ∷ others) ∙ ap map_files (sym are))
    (ends_after (map_files names) (map_files (name ∷ others)) made.texts before between after e made.reads (inl (ends, only)))
