-- Tags that stand in one buffer.
use Rattle.std.specs.Prelude.{◌≡◌, ℕ, ◌+◌, List, [], ◌∷◌, ◌++◌, take, drop, Some, None, true, is_some, encode_utf8}
use Rattle.std.specs.Option.{option_map}
use Rattle.text_pieces.specs.Escapes.{text_of, unescaped, character_of}
use Rattle.live_model.specs.declared.objects.Tag.{Tag}
use Rattle.live_model.specs.FieldValues.{tag_of, tags_from, pairs_of}
use Rattle.live_model.specs.LineTests.{value_tests, failure_kind}
use Rattle.live_model.specs.declared.opl.Letter.TheVariants.{Tags}
use Rattle.opl_rows.specs.Fronts.{front, back}
use Rattle.opl_rows.specs.declared.held.Span.{Span}
use Rattle.opl_rows.specs.Runs.{text_front, text_back, code_of, behind_code, item_of, behind_item}

-- the tags, and the text behind them that is still open
pub record HeldTags : Type 0 where
  pub tags : List Tag
  pub last : List ℕ

-- the tag at the front of texts, by the lengths of its key and its value
abbrev pub tag_at : Span → List ℕ → Tag
tag_at s bytes = record { key = take s.key bytes; value = take s.value (drop s.key bytes) }

-- the tags that stand one after another in texts
abbrev pub tags_in : List Span → List ℕ → List Tag
tags_in [] bytes = []
tags_in (s ∷ ss) bytes = tag_at s bytes ∷ tags_in ss (drop (s.key + s.value) bytes)

-- how many bytes they have
abbrev pub total : List Span → ℕ
total [] = 0
total (s ∷ ss) = (s.key + s.value) + total ss

-- more text is open, and nothing else changed
pub record Grows (old new : HeldTags) (more : List ℕ) : Type 0 where
  pub tags : new.tags ≡ old.tags
  pub last : new.last ≡ old.last ++ more

-- an escape at the front, behind its first percent sign
pub record EscapeRead (bytes rest : List ℕ) (old new : HeldTags) : Type 0 where
  pub character : ℕ
  pub behind : behind_code bytes ≡ 37 ∷ rest
  pub code : character_of (code_of bytes) ≡ Some character
  pub grows : Grows old new (encode_utf8 character)

-- the text at the front of bytes is open too
pub record TextRead (bytes rest : List ℕ) (old new : HeldTags) : Type 0 where
  pub rest_is : rest ≡ text_back bytes
  pub text : option_map (λ t. old.last ++ t) (text_of (text_front bytes)) ≡ Some new.last
  pub tags : new.tags ≡ old.tags

-- the tag at the front of bytes is held
pub record TagRead (bytes rest : List ℕ) (old new : HeldTags) : Type 0 where
  pub tag : Tag
  pub rest_is : rest ≡ behind_item bytes
  pub first : text_back bytes ≡ 61 ∷ drop 1 (text_back bytes)
  pub item : tag_of (item_of bytes) ≡ Some tag
  pub spells : is_some (unescaped (item_of bytes)) ≡ true
  pub tags : new.tags ≡ old.tags ++ tag ∷ []
  pub last : new.last ≡ []

-- the value at the front of bytes is a good one of tags, which are held
pub record TagsRead (bytes rest : List ℕ) (new : HeldTags) : Type 0 where
  pub rest_is : rest ≡ back bytes
  pub good : failure_kind (value_tests Tags (front bytes)) ≡ None
  pub tags : option_map tags_from (pairs_of (front bytes)) ≡ Some new.tags
