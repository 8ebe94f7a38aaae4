-- Questions to sets.
use Rattle.std.specs.Prelude.{◌≡◌, ◌≤◌, ◌+◌, ℕ, List}
use Rattle.std.specs.List.{AllByRecursion}
use Rattle.live_model.specs.declared.objects.Line.{Line}
use Rattle.live_model.specs.declared.queries.Query.{Query}
use Rattle.obf_reader.specs.Images.{IsImage, Seen}
use Rattle.overlay_set.specs.Sets.{State, images_of}
use Rattle.overlay_set.specs.Standing.{Stands}
use Rattle.published_set.specs.Sets.{PublishedSet, images_in, rules_of}
use Rattle.query_merge.specs.Questions.{due_over}

-- the state stands over some base lines with its rules
pub record StandsOver (set : PublishedSet) : Type 0 where
  pub base : List Line
  pub stands : Stands (rules_of set) base set.state

-- the images of the files of a state, as they were read of good files
pub record AreItsImages (images : List Seen) (s : State) : Type 0 where
  pub read : AllByRecursion IsImage images
  pub stand : images_in images ≡ images_of s.files

-- a step was counted for each block of its files that is due, or fewer
pub record IsCounted (s : State) (query : Query) (before after : ℕ) : Type 0 where
  pub images : List Seen
  pub its : AreItsImages images s
  pub most : after ≤ before + due_over query images

-- for each that is due
pub record IsCountedWhole (s : State) (query : Query) (before after : ℕ) : Type 0 where
  pub images : List Seen
  pub its : AreItsImages images s
  pub each : after ≡ before + due_over query images
