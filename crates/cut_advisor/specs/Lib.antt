pub mod CutNames
pub mod CutNodes
pub mod CutPuts
