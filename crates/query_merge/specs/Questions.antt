-- What a question finds in map files that lie over one another, and how many of their blocks it may read.
use Rattle.std.specs.Prelude.{ℕ, ◌+◌, List, [], ◌∷◌, bytes_eq, filter, length, map, false, sum, true, Option, Some, None}
use Rattle.name_fold.specs.Keys.{key}
use Rattle.live_model.specs.declared.queries.Query.{Query}
use Rattle.live_model.specs.declared.queries.Query.TheVariants.{View, Category, Prefix, Street, Roads}
use Rattle.live_model.specs.declared.rows.Row.{Row}
use Rattle.live_model.specs.Maps.{answer, laid}
use Rattle.file_grammar.specs.AddressRules.{addresses_of}
use Rattle.file_grammar.specs.Files.{FileParts}
use Rattle.file_grammar.specs.MapRules.{map_read}
use Rattle.file_grammar.specs.PoiRules.{groups_in}
use Rattle.file_grammar.specs.RoadRules.{ban_read, road_read, routing_in}
use Rattle.file_grammar.specs.Sections.{section_in}
use Rattle.boxed_read.specs.Meeting.{due, in_boxes}
use Rattle.poi_section.specs.PoiSections.{group_read}
use Rattle.addr_read.specs.Finding.{due_blocks}
use Rattle.addr_read.specs.Records.{address_blocks}
use Rattle.obf_reader.specs.Images.{Seen}
use Rattle.obf_reader.specs.Overlays.{overlay_of, parts_of, records_in}

-- the rows of a question over the records of the first image, with the others laid over them in order
abbrev pub answer_over : Query → List Seen → List Row
answer_over query [] = []
answer_over query (base ∷ images) = answer base.rules query (laid (records_in base.bytes) (map overlay_of images))

-- What it costs.

-- how many blocks of a file are due: those of a section whose leaf has a box that meets the rectangle, for a category those of its groups;
-- and those whose first and last key allow what is looked for
abbrev pub due_in : Query → Option FileParts → ℕ
due_in query None = 0
due_in (View rect zoom) (Some parts) = due rect (in_boxes map_read (section_in parts.map))
due_in (Category category rect) (Some parts) = sum (map (λ g. due rect (group_read g).section) (filter (λ g. bytes_eq g.category.value category) (groups_in parts.pois)))
due_in (Prefix text) (Some parts) = length (due_blocks false (key text) (address_blocks (addresses_of parts.addresses)))
due_in (Street text) (Some parts) = length (due_blocks true (key text) (address_blocks (addresses_of parts.addresses)))
due_in (Roads rect) (Some parts) = due rect (in_boxes road_read (routing_in parts.roads).roads) + due rect (in_boxes ban_read (routing_in parts.roads).bans)

-- those of all images
abbrev pub due_over : Query → List Seen → ℕ
due_over query [] = 0
due_over query (image ∷ images) = due_in query (parts_of image) + due_over query images
