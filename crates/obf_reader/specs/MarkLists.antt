-- What is seen of a list of marks.
use Rattle.std.specs.Prelude.{◌≡◌, ◌==◌, ◌&&◌, ℕ, List, Bool, Some, length, true}
use Rattle.std.specs.List.{list_all}
use Rattle.file_grammar.specs.BoxRules.{with_before, follows, is_ordinal}
use Rattle.file_grammar.specs.Files.{mark_rises, rise_strictly, sums_from}
use Rattle.obf_reader.specs.declared.mark_list.MarksRead.{MarksRead}

-- these marks were read
pub record IsMarksRead (read : MarksRead) (values : List ℕ) : Type 0 where
  pub none : read.none ≡ (length values == 0)
  pub rise : read.rise ≡ rise_strictly values
  pub ordinals : read.ordinals ≡ list_all is_ordinal values
  pub marks : (rise_strictly values && list_all is_ordinal values) ≡ true → read.marks.items ≡ values

-- the numbers that differences lead to, from one on, rise behind it
abbrev pub rise_from : ℕ → List ℕ → Bool
rise_from before steps = list_all (follows mark_rises) (with_before (Some before) (sums_from before steps))
