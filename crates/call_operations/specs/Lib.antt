pub mod Said
pub mod Sets
