mod FormRows
mod RuleRows
mod RoadRows
mod FileRows
mod PackedSectionRows
mod PackedFileRows
mod AddressRows
mod PoiRows
