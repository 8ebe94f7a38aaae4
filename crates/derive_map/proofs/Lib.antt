mod Drawn
mod Lists
mod WholeMaps
mod RecordOrder
mod FittingRecords
