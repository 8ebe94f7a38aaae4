-- What a set makes of an operation, whatever it is.
use Rattle.std.specs.Prelude.{◌≡◌, ◌≤◌, IsTrue, ℕ, List, ◌+◌, ◌^◌, ◌-◌, length, Bool, ◌&&◌, nat_lt, if◌then◌else◌}
use Rattle.std.specs.Arc.{arc_value}
use Rattle.live_model.specs.declared.objects.Line.{Line}
use Rattle.live_model.specs.declared.rules.Rule.{Rule}
use Rattle.overlay_set.specs.Standing.{Stands}
use Rattle.overlay_set.specs.Sets.{Image, State, age, images_of}
use Rattle.overlay_set.specs.Swaps.{Swap, Add, Replace, applied, fold_image, replaced}
use Rattle.published_set.specs.declared.ops.SetOp.{SetOp}
use Rattle.published_set.specs.declared.ops.SetOp.TheVariants as op
use Rattle.published_set.specs.Images.{image_of}
use Rattle.published_set.specs.Sets.{entry_of}

-- the swap that an operation stands for
abbrev pub swap_of : SetOp → Swap
swap_of (op.Add published image) = Add (entry_of published) (image_of (arc_value image))
swap_of (op.Replace work) = Replace work (fold_image work.level (images_of work.files))

-- a file in the place of those with these numbers, where they stand one after another; it gets the number above the greatest
abbrev pub with_file : List ℕ → Image → State → State
with_file numbers image s = record { history = s.history; files = replaced numbers (record { number = age s + 1; image = image }) s.files }

-- there is room for one more publication and its file
abbrev pub has_room : State → Bool
has_room s = nat_lt (length s.history) 65536 && nat_lt (length s.files) 1024

-- there are files, and the number above the greatest of them fits into 64 bits
abbrev pub has_number_left : State → Bool
has_number_left s = nat_lt 0 (length s.files) && nat_lt (age s) (2 ^ 64 - 1)

-- the state after a swap that may come at any time: where there is no room, or no number left, it stays; and so it does where
-- the files of a plan do not stand one after another
abbrev pub absorbed : State → Swap → State
absorbed s (Add entry image) = if has_number_left s && has_room s then applied s (Add entry image) else s
absorbed s (Replace plan image) = if has_number_left s then applied s (Replace plan image) else s

-- there is room for what the swap brings; a fold takes none
abbrev pub HasRoomFor : State → Swap → Type 0
HasRoomFor s (Add entry image) = IsTrue (has_room s)
HasRoomFor s (Replace plan image) = length s.history ≤ 65536

-- in a set that stands and has room for it, what is taken in is just the swap
abbrev pub AbsorbedLaw : Type 0
AbsorbedLaw = (rules : List Rule) (base : List Line) (s : State) (swap : Swap) → Stands rules base s → HasRoomFor s swap → absorbed s swap ≡ applied s swap
