-- Which addresses a key finds, and the blocks that may hold them.
use Rattle.std.specs.Prelude.{◌≡◌, ℕ, ◌+◌, ◌==◌, List, [], ◌∷◌, Bool, true, false, ◌&&◌, ◌||◌, not, Option, Some, filter, bytes_eq}
use Rattle.std.specs.List.{starts_with}
use Rattle.std.specs.Ordering.{is_le, is_lt}
use Rattle.name_fold.specs.Keys.{key}
use Rattle.live_model.specs.declared.addresses.AddrKind.{AddrKind}
use Rattle.live_model.specs.declared.addresses.AddrRec.{AddrRec}
use Rattle.live_model.specs.Maps.{is_house, is_named_place}
use Rattle.text_table.specs.Tables.{text_cmp}
use Rattle.file_grammar.specs.AddressRules.{first_of, last_of}

-- What is found.

-- the text is the key of a name
abbrev pub IsKeyOf : List ℕ → List ℕ → Type 0
IsKeyOf text name = text ≡ key name

-- a place or a street whose key begins with this one
abbrev pub has_prefix : List ℕ → AddrRec → Bool
has_prefix k a = is_named_place a.kind && starts_with (λ c d. c == d) (key a.name) k

-- a house of a street with this key
abbrev pub has_street : List ℕ → AddrRec → Bool
has_street k a = is_house a.kind && bytes_eq (key a.name) k

-- a house of the street, or else a place or a street by its prefix
abbrev pub is_wanted : Bool → List ℕ → AddrRec → Bool
is_wanted true k a = has_street k a
is_wanted false k a = has_prefix k a

-- Where it can stand.

-- in the list of houses, or else in that of names
abbrev pub is_listed : Bool → AddrKind → Bool
is_listed true kind = is_house kind
is_listed false kind = is_named_place kind

-- the last key of a block is before this one
abbrev pub is_below : List ℕ → List ℕ → Bool
is_below k last = is_lt (text_cmp last k)

-- the first key of a block is at most this one; or it begins with it, where that is enough
abbrev pub is_reached : Bool → List ℕ → List ℕ → Bool
is_reached true k first = is_le (text_cmp first k)
is_reached false k first = is_le (text_cmp first k) || starts_with (λ c d. c == d) first k

-- a block with this first and last address may hold what is wanted
abbrev pub may_hold : Bool → List ℕ → Option AddrRec → Option AddrRec → Bool
may_hold houses k (Some first) (Some last) = is_listed houses first.kind && (not (is_below k (key last.name)) && is_reached houses k (key first.name))
may_hold houses k first last = false

-- the blocks that may, which are due to be read
abbrev pub due_blocks : Bool → List ℕ → List (List AddrRec) → List (List AddrRec)
due_blocks houses k blocks = filter (λ block. may_hold houses k (first_of block) (last_of block)) blocks

-- What it costs.

-- of what is found in the block that is being read and in each block to come: how many blocks are read up to the next that is found,
-- or up to the end
abbrev pub to_search : {A : Type 0} → List A → List (List A) → ℕ
to_search (x ∷ xs) blocks = 0
to_search [] [] = 0
to_search [] (block ∷ blocks) = 1 + to_search block blocks
