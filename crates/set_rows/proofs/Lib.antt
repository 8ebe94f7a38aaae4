mod PeriodRows
mod MachineRows
mod FullRows
mod LooseRows
mod FoldRows
mod TakeRows
