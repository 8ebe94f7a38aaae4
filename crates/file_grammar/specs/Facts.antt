-- Rules of a file as facts, each told at a place and of a kind; and the first that fails.
use Rattle.std.specs.Prelude.{◌≡◌, ℕ, List, [], ◌∷◌, Bool, true, false, ◌&&◌, ◌||◌, nat_lt, nat_le, ◌==◌, Option, Some, None, if◌then◌else◌, ◌⊎◌, ◌↔◌}
use Rattle.std.specs.List.{AllByRecursion}
use Rattle.obf_wire.specs.declared.file.FileBreak.{FileBreak}
use Rattle.obf_wire.specs.declared.file.FileKind.{FileKind}
use Rattle.obf_wire.specs.Kinds.{file_number}

-- what a rule asks at a place, and whether it is so
pub record Fact : Type 0 where
  pub at : ℕ
  pub kind : FileKind
  pub holds : Bool

-- the same by its parts
abbrev pub fact : ℕ → FileKind → Bool → Fact
fact at kind holds = record { at = at; kind = kind; holds = holds }

-- how a file breaks where the fact fails
abbrev pub break_of : Fact → FileBreak
break_of f = record { at = f.at; kind = f.kind }

-- a smaller place, or the same place and no greater kind
abbrev pub comes_first : FileBreak → FileBreak → Bool
comes_first a b = nat_lt a.at b.at || ((a.at == b.at) && nat_le (file_number a.kind) (file_number b.kind))

-- the fact is one of these
abbrev pub IsAmong : Fact → List Fact → Type 0
IsAmong f [] = ⊥
IsAmong f (g ∷ gs) = (f ≡ g) ⊎ IsAmong f gs

-- each fact holds
abbrev pub AllHold : List Fact → Type 0
AllHold facts = AllByRecursion (λ f. f.holds ≡ true) facts

-- a fact fails so, and no fact fails before it
pub record IsFirstFailing (facts : List Fact) (b : FileBreak) : Type 0 where
  pub fails : IsAmong (fact b.at b.kind false) facts
  pub first : AllByRecursion (λ f. f.holds ≡ false → comes_first b (break_of f) ≡ true) facts

-- The same as a function.

-- the one that comes first
abbrev pub earlier : Option FileBreak → Option FileBreak → Option FileBreak
earlier None b = b
earlier (Some a) None = Some a
earlier (Some a) (Some b) = if comes_first a b then Some a else Some b

-- the break of a fact that fails
abbrev pub failing : Fact → Option FileBreak
failing f = if f.holds then None else Some (break_of f)

-- the first break of facts in any order; none where all hold
abbrev pub first_failing : List Fact → Option FileBreak
first_failing [] = None
first_failing (f ∷ fs) = earlier (failing f) (first_failing fs)

-- the function says what the relations say
pub record IsFirstBreakLaw (facts : List Fact) : Type 0 where
  pub none : (first_failing facts ≡ None) ↔ AllHold facts
  pub some : (b : FileBreak) → (first_failing facts ≡ Some b) ↔ IsFirstFailing facts b
