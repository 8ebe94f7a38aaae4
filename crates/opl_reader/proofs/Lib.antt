pub mod Cuts
pub mod ItemSteps
pub mod RefSteps
pub mod TagSteps
pub mod Texts
pub mod FieldsFound
pub mod RowReadings
pub mod TextSteps
