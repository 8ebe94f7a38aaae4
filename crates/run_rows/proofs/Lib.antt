mod RunRows
mod WrongRuns
