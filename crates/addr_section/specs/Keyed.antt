-- Addresses beside the keys of their names.
use Rattle.std.specs.Prelude.{◌≡◌, List, map}
use Rattle.std.specs.Ordering.{nat_cmp, ordering_then}
use Rattle.std.specs.declared.cmp.Ordering.{Ordering}
use Rattle.name_fold.specs.Keys.{key}
use Rattle.live_model.specs.declared.addresses.AddrRec.{AddrRec}
use Rattle.live_model.specs.declared.records.Rec.TheVariants.{Addr}
use Rattle.live_model.specs.Records.{address_rank, record_cmp}
use Rattle.text_table.specs.Tables.{text_cmp}
use Rattle.addr_section.specs.declared.order.Keyed.{Keyed}

-- the addresses
abbrev pub addresses_of : List Keyed → List AddrRec
addresses_of keyed = map (λ k. k.address.now) keyed

-- the key is that of the name
abbrev pub IsKeyed : Keyed → Type 0
IsKeyed k = k.key ≡ key k.address.now.name

-- by the key that stands there, then by kind, then in the order of records
abbrev pub beside_cmp : Keyed → Keyed → Ordering
beside_cmp a b =
    ordering_then (text_cmp a.key b.key)
    (ordering_then (nat_cmp (address_rank a.address.now.kind) (address_rank b.address.now.kind)) (record_cmp (Addr a.address.now) (Addr b.address.now)))
