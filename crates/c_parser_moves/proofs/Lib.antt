pub mod Machine
pub mod MachineExpr
pub mod MachineDeclr
pub mod MachineSource
pub mod MachineSteps
