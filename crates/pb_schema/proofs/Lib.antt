pub mod Steps
pub mod VarintLaws
pub mod Places
pub mod FrameLaws
pub mod TextLaws
pub mod FormLaws
pub mod WalkSteps
pub mod FitsLaws
pub mod Runs
pub mod RecordsFound
pub mod RecordsFront
pub mod OneRecord
pub mod MergeLaws
pub mod MapLaws
pub mod FaultLaws
pub mod TreeLists
pub mod HeldLaws
pub mod PayloadLaws
pub mod MeterLaws
pub mod SoundRecords
pub mod Gathering
pub mod FittedLaws
pub mod ShapeLaws
pub mod AppendLaws
pub mod MovedLaws
pub mod PrefixLaws
pub mod TextCuts
pub mod PutText
pub mod AppendedText
pub mod TextSound
pub mod ReadBack
pub mod KindLaws
pub mod CostLaws
pub mod PutLaws
pub mod NameLaws
mod Rows
mod Examples
mod TreeExamples
mod KindExamples
mod ShapeExamples
mod CostExamples
mod PutExamples
mod MergeExamples
mod FittedExamples
mod LawfulExamples
pub mod TickText
