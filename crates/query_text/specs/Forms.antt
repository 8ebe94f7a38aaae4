-- The forms of questions.
use Rattle.std.specs.Prelude.{ℕ, List, Option, Some, None}
use Rattle.std.specs.Option.{option_map}
use Rattle.live_model.specs.declared.queries.Query.{Query}
use Rattle.live_model.specs.declared.queries.Query.TheVariants.{Prefix as PrefixQuery, Street as StreetQuery, Roads as RoadsQuery}
use Rattle.live_model.specs.Points.{rect_from_fields}
use Rattle.live_model.specs.QueryTexts.{category_from, text_from, view_from}
use Rattle.query_text.specs.declared.queries.Form.{Form}
use Rattle.query_text.specs.declared.queries.Form.TheVariants.{View, Category, Prefix, Street, Roads}

-- what fields of a form ask for
abbrev pub query_in : Option Form → List (ℕ × List ℕ) → Option Query
query_in None fields = None
query_in (Some View) fields = view_from fields
query_in (Some Category) fields = category_from fields
query_in (Some Prefix) fields = text_from PrefixQuery fields
query_in (Some Street) fields = text_from StreetQuery fields
query_in (Some Roads) fields = option_map RoadsQuery (rect_from_fields fields)
