pub mod CountedLaws
pub mod FieldLaws
pub mod Fronts
pub mod LayAnswers
pub mod LongestRecord
pub mod NextRow
pub mod RowLaws
pub mod StepLaws
