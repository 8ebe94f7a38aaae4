-- Members that stand at the front of bytes.
use Rattle.std.specs.Prelude.{◌≡◌, ℕ, List, [], ◌∷◌, ◌++◌, drop, Some, None, true, is_some}
use Rattle.text_pieces.specs.Escapes.{unescaped}
use Rattle.live_model.specs.declared.ids.Kind.{Kind}
use Rattle.live_model.specs.declared.objects.Member.{Member}
use Rattle.live_model.specs.declared.opl.Letter.TheVariants.{Members}
use Rattle.live_model.specs.Ids.{Id}
use Rattle.live_model.specs.FieldValues.{kind_of, object_of, member_of, members_of}
use Rattle.live_model.specs.ObjectLines.{first_of}
use Rattle.live_model.specs.LineTests.{value_tests, failure_kind}
use Rattle.opl_rows.specs.Fronts.{front, back, id_text, behind_id}
use Rattle.opl_rows.specs.Runs.{text_front, text_back}

-- a letter and an id
abbrev pub target_text : List ℕ → List ℕ
target_text bytes = first_of bytes ∷ id_text (drop 1 bytes)

-- the bytes behind a letter and an id
abbrev pub behind_target : List ℕ → List ℕ
behind_target bytes = behind_id (drop 1 bytes)

-- the same, `@` and a role
abbrev pub member_text : List ℕ → List ℕ
member_text bytes = target_text bytes ++ 64 ∷ text_front (drop 1 (behind_target bytes))

-- the bytes behind a member
abbrev pub behind_member : List ℕ → List ℕ
behind_member bytes = text_back (drop 1 (behind_target bytes))

-- the letter and the id at the front of bytes are this object
pub record TargetRead (bytes rest : List ℕ) (object : Id) : Type 0 where
  pub rest_is : rest ≡ behind_target bytes
  pub first : bytes ≡ first_of bytes ∷ drop 1 bytes
  pub kind : kind_of (first_of bytes) ≡ Some object.kind
  pub object_is : object_of (target_text bytes) ≡ Some object

-- the member at the front of bytes is put behind those before it
pub record MemberAdded (bytes rest : List ℕ) (old new : List Member) : Type 0 where
  pub member : Member
  pub kind : Kind
  pub rest_is : rest ≡ behind_member bytes
  pub first : bytes ≡ first_of bytes ∷ drop 1 bytes
  pub letter : kind_of (first_of bytes) ≡ Some kind
  pub cut : behind_target bytes ≡ 64 ∷ drop 1 (behind_target bytes)
  pub item : member_of (member_text bytes) ≡ Some member
  pub spells : is_some (unescaped (member_text bytes)) ≡ true
  pub behind : new ≡ old ++ member ∷ []

-- the value at the front of bytes is a good one of members, which are these
pub record MembersRead (bytes rest : List ℕ) (new : List Member) : Type 0 where
  pub rest_is : rest ≡ back bytes
  pub good : failure_kind (value_tests Members (front bytes)) ≡ None
  pub members : members_of (front bytes) ≡ Some new
