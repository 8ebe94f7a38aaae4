mod WorkedRows
mod RuleRows
mod RecordRows
mod LawRows
