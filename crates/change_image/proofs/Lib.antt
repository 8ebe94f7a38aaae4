pub mod MarkedRecords
