-- How the entries of a list are searched for a key.
use Rattle.std.specs.Prelude.{◌≡◌, ℕ, ◌-◌, List, [], ◌∷◌, ◌&&◌, drop, false, length, nat_le, slice_range, take, if◌then◌else◌, Bool}
use Rattle.std.specs.List.{AllByRecursion, prefix_len}
use Rattle.std.specs.Ordering.{is_gt}
use Rattle.text_table.specs.Tables.{text_cmp}
use Rattle.boxed_exact.specs.declared.fields.Payload.{Payload}
use Rattle.addr_section.specs.declared.kept.EntryKept.{EntryKept}
use Rattle.addr_read.specs.Finding.{is_below, is_reached}

-- the bytes of a payload; none where it does not lie within the bytes
abbrev pub text_in : List ℕ → Payload → List ℕ
text_in bytes span = if nat_le span.from span.to && nat_le span.to (length bytes) then slice_range bytes span.from span.to else []

-- the block of the entry ends before the key
abbrev pub ends_before : List ℕ → List ℕ → EntryKept → Bool
ends_before bytes k entry = is_below k (text_in bytes entry.last)

-- the block of the entry does not begin after what is wanted
abbrev pub begins_by : List ℕ → Bool → List ℕ → EntryKept → Bool
begins_by bytes houses k entry = is_reached houses k (text_in bytes entry.first)

-- a text is not after another one
abbrev pub IsAtMost : List ℕ → List ℕ → Type 0
IsAtMost a b = is_gt (text_cmp a b) ≡ false

-- the keys of an entry are not after those of another one
abbrev pub IsAhead : List ℕ → EntryKept → EntryKept → Type 0
IsAhead bytes e f = IsAtMost (text_in bytes e.first) (text_in bytes f.first) × IsAtMost (text_in bytes e.last) (text_in bytes f.last)

-- no entry begins after its own end, nor has keys after those of a later one
abbrev pub AreRising : List ℕ → List EntryKept → Type 0
AreRising bytes [] = Unit {0}
AreRising bytes (e ∷ es) = IsAtMost (text_in bytes e.first) (text_in bytes e.last) × AllByRecursion (IsAhead bytes e) es × AreRising bytes es

-- of the blocks beside the entries, those from the first that does not end before the key up to the first that begins after what is wanted
abbrev pub between : {A : Type 0} → List ℕ → Bool → List ℕ → List EntryKept → List A → List A
between bytes houses k entries blocks =
    let from = prefix_len (ends_before bytes k) entries in take (prefix_len (begins_by bytes houses k) entries - from) (drop from blocks)
