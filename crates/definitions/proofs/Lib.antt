-- `CheckedShells` and `RefusalTable` try the definitions on the paper's checked shells and on its table of refusals, the files named `..Cases` on cases of
-- our own.
pub mod CheckedShells
pub mod RefusalTable
pub mod MeshCases
pub mod VertexCases
pub mod LabelCases
pub mod MapCases
pub mod DirectionCases
pub mod RepairCases
pub mod PointCases
pub mod RefusalCases
pub mod OuterCases
pub mod RangeCases
pub mod TextCases
